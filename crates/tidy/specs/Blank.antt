-- Nothing in a node or below it, asked level by level: the nodes below it stand one after the other on each level.
use Rattle.std.specs.Prelude.{◌≡◌, refl, Bool, true, false, not, List, ℕ, suc, ◌+◌, ◌-◌, ◌≤◌, ◌<◌, eqb, leb}
use Rattle.std.proofs.Common.{sym, ap, ap₂, ◌∙◌, arith, leb-true, leb-false, eq-eqb, ne_eqb}
use Rattle.defs.specs.Pool.{node_count, data_of, child_of, first_child, rank, ones}
use Rattle.defs.specs.Lemmas.{both_ways, split, not_both, is_false, and_left, and_right}
use Rattle.bits.specs.WordLaws.{rank_less}
use Rattle.pool.specs.Sound.{children_before, children_mono, children_all, parent}
use Rattle.view.specs.Standing.{Sane}
use Rattle.view.specs.Spreads.{below_all, below_at}
use Rattle.view.specs.Emptiness.{empty_at, both_true, below_of, below_fails}

-- a test holds from a on and before e
abbrev pub all_from : (ℕ → Bool) → ℕ → ℕ → Bool
all_from f a e = below_all (λ j. f (a + j)) (e - a)

-- no node of a run has a value
abbrev pub blank_run : List ℕ → ℕ → ℕ → Bool
blank_run w = all_from (λ j. eqb (data_of w j) 0)

-- nothing lies in the nodes of a run or below them, so many levels deep
abbrev pub empty_run : List ℕ → ℕ → ℕ → ℕ → Bool
empty_run w levels = all_from (empty_at w levels)

-- where the children of node i start; after the last node that is the number of nodes
abbrev pub kids_from : List ℕ → ℕ → ℕ
kids_from w i = 1 + children_before w i

module _ (f : ℕ → Bool) (a e : ℕ) where
  all_at : all_from f a e ≡ true → (j : ℕ) → a ≤ j → j < e → f j ≡ true
  all_at h j l m = let s : a + (j - a) ≡ j = omega arith in ap f (sym s) ∙ below_at (λ j. f (a + j)) (e - a) h (j - a) (omega arith)

  all_of_lem : ((j : ℕ) → a ≤ j → j < e → f j ≡ true) → all_from f a e ≡ true
  all_of_lem h = below_of (λ j. f (a + j)) (e - a) (λ j l. h (a + j) (omega arith) (omega arith))

  all_not : (j : ℕ) → a ≤ j → j < e → f j ≡ false → all_from f a e ≡ false
  all_not j l m h = let s : a + (j - a) ≡ j = omega arith in below_fails (λ j. f (a + j)) (e - a) (j - a) (omega arith) (ap f s ∙ h)

-- ---- the loop over a run
module _ (w : List ℕ) (a e : ℕ) where
  pub record Blank (i : ℕ) : Type 0 where
    pub after : a ≤ i
    pub so_far : (j : ℕ) → a ≤ j → j < i → eqb (data_of w j) 0 ≡ true

  pub blank_start : Blank a
  blank_start = record { after = omega arith; so_far = λ j l m. absurd (let z : ⊥ = omega arith in z) }

  pub blank_fails : (i held : ℕ) → Blank i → i < e → held ≡ data_of w i → (held ≡ 0 → ⊥) → false ≡ blank_run w a e
  blank_fails i held b l h n = sym (all_not (λ j. eqb (data_of w j) 0) a e i b.after l (ne_eqb (data_of w i) 0 (λ z. n (h ∙ z))))

  pub blank_on : (i held : ℕ) → Blank i → held ≡ data_of w i → held ≡ 0 → Blank (i + 1)
  blank_on i held b h z =
      record {
        after = omega (arith, b.after);
        so_far = λ j l m. split (leb i j) (λ t. let s : j ≡ i = omega (arith, leb-true i j t) in eq-eqb (data_of w j) 0 (ap (data_of w) s ∙ sym h ∙ z)) (λ t. b.so_far j l (leb-false i j t));
      }

  pub blank_ends : (i : ℕ) → Blank i → e ≤ i → true ≡ blank_run w a e
  blank_ends i b l = sym (all_of_lem (λ j. eqb (data_of w j) 0) a e (λ j m n. b.so_far j m (omega arith)))

-- ---- the loop over the levels

-- a run below the node, with so many levels left, decides
pub record Sinking (w : List ℕ) (levels node from to left : ℕ) : Type 0 where
  pub ordered : from ≤ to
  pub within : to ≤ node_count w
  pub same : empty_run w left from to ≡ empty_at w levels node

module _ (w : List ℕ) (s : Sane w) where
  pub kids_last : (i : ℕ) → i ≡ node_count w → i ≡ kids_from w i
  kids_last i e = e ∙ sym (children_all s.width w s.formed) ∙ ap (kids_from w) (sym e)

  pub kids_first : (i f : ℕ) → i < node_count w → f ≡ first_child w i → f ≡ kids_from w i
  kids_first i f h e = e ∙ (s.formed.node i h).child

  kids_mono : (a b : ℕ) → a ≤ b → kids_from w a ≤ kids_from w b
  kids_mono a b l = omega (arith, children_mono s.width w s.formed a b l)

  kids_in : (e : ℕ) → e ≤ node_count w → kids_from w e ≤ node_count w
  kids_in e h = omega (arith, kids_mono e (node_count w) h, children_all s.width w s.formed)

  -- a run is empty exactly where no node of it has a value and their children are empty
  module _ (l a e : ℕ) (h : e ≤ node_count w) where
    down : empty_run w (suc l) a e ≡ true → empty_run w l (kids_from w a) (kids_from w e) ≡ true
    down t =
        all_of_lem (empty_at w l) (kids_from w a) (kids_from w e)
        (λ k lo hi.
        let p = parent s.width w s.formed k (omega arith) (omega (arith, kids_in e h)) in
        let n : p.node < node_count w = omega (arith, p.before, kids_in e h) in
        let o = (s.formed.node p.node n).child in
        let r = rank_less 32 p.place (child_of w p.node) p.inside p.held in
        let x : a ≤ p.node = split (leb a p.node) (λ t. leb-true a p.node t) (λ t. absurd (let z : ⊥ = omega (arith, kids_mono (suc p.node) a (leb-false a p.node t), p.number) in z)) in
        let y : p.node < e = split (leb e p.node) (λ t. absurd (let z : ⊥ = omega (arith, kids_mono e p.node (leb-true e p.node t), p.number) in z)) (λ t. leb-false e p.node t) in
        let q = and_right (eqb (data_of w p.node) 0) _ (all_at (empty_at w (suc l)) a e t p.node x y) in
        ap (empty_at w l) p.number ∙ below_at (λ j. empty_at w l (first_child w p.node + j)) (ones (child_of w p.node)) q (rank p.place (child_of w p.node)) r)

    back : blank_run w a e ≡ true → empty_run w l (kids_from w a) (kids_from w e) ≡ true → empty_run w (suc l) a e ≡ true
    back b t =
        all_of_lem (empty_at w (suc l)) a e
        (λ j lo hi.
        let o = (s.formed.node j (omega arith)).child in
        both_true (all_at (λ j. eqb (data_of w j) 0) a e b j lo hi)
        (below_of (λ r. empty_at w l (first_child w j + r)) (ones (child_of w j))
        (λ r m. all_at (empty_at w l) (kids_from w a) (kids_from w e) t (first_child w j + r) (omega (arith, kids_mono a j lo)) (omega (arith, kids_mono (suc j) e hi)))))

    level : blank_run w a e ≡ true → empty_run w (suc l) a e ≡ empty_run w l (kids_from w a) (kids_from w e)
    level b = both_ways _ _ down (back b)

    no_blank : blank_run w a e ≡ false → empty_run w (suc l) a e ≡ false
    no_blank b = is_false _ (λ t. not_both (all_of_lem (λ j. eqb (data_of w j) 0) a e (λ j lo hi. and_left _ _ (all_at (empty_at w (suc l)) a e t j lo hi))) b)

  module _ (levels node : ℕ) where
    pub sinking_start : node < node_count w → Sinking w levels node node (node + 1) levels
    sinking_start h =
        record {
          ordered = omega arith;
          within = omega arith;
          same = both_ways _ _ (λ t. all_at (empty_at w levels) node (node + 1) t node (omega arith) (omega arith))
              (λ t. all_of_lem (empty_at w levels) node (node + 1) (λ j lo hi. let z : j ≡ node = omega arith in ap (empty_at w levels) z ∙ t));
        }

    module _ (from to left : ℕ) (k : Sinking w levels node from to left) where
      pub sinking_out : to ≤ from → false ≡ not (empty_at w levels node)
      sinking_out l = ap not (sym (all_of_lem (empty_at w left) from to (λ j lo hi. absurd (let z : ⊥ = omega arith in z))) ∙ k.same)

      pub sinking_done : left ≡ 0 → false ≡ not (empty_at w levels node)
      sinking_done z = ap not (sym (ap (λ (m : ℕ). empty_run w m from to) z ∙ all_of_lem (empty_at w 0) from to (λ j lo hi. refl)) ∙ k.same)

      module _ (some : left ≡ 0 → ⊥) where
        one_less : left ≡ suc (left - 1)
        one_less = omega arith

        pub sinking_found : blank_run w from to ≡ false → true ≡ not (empty_at w levels node)
        sinking_found b =
            ap not (sym (ap (λ (m : ℕ). empty_run w m from to) one_less ∙ no_blank (left - 1) from to k.within b) ∙ k.same)

        pub sinking_on : blank_run w from to ≡ true → (f t : ℕ) → f ≡ kids_from w from → t ≡ kids_from w to → Sinking w levels node f t (left - 1)
        sinking_on b f t ef et =
            record {
              ordered = omega (arith, kids_mono from to k.ordered);
              within = omega (arith, kids_in to k.within);
              same = ap₂ (empty_run w (left - 1)) ef et ∙ sym (level (left - 1) from to k.within b) ∙ ap (λ (m : ℕ). empty_run w m from to) (sym one_less) ∙ k.same;
            }
