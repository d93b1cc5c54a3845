-- Going down: where a child's prefix leads the root, the view lies in that child alone.
use Rattle.std.specs.Prelude.{◌≡◌, true, false, List, [], ◌++◌, ℕ, zero, suc, ◌+◌, ◌*◌, ◌-◌, ◌/◌, ◌%◌, ◌^◌, ◌≤◌, ◌<◌, eqb, None, Some}
use Rattle.std.proofs.Math.Path.{refl}
use Rattle.std.proofs.Common.{sym, ◌∙◌, ap, append-nil, div-add-mod', mod-lt, div-one, shr-shr, eqb-true, eq-eqb, ne_eqb}
use Rattle.std.proofs.Math.Bool.{and-false}
use native.Mathlib.Omega.{arith}
use Rattle.std.proofs.lemmas.Bool.{eqb-false}
use Rattle.defs.specs.declared.Prefix.{Prefix}
use Rattle.defs.specs.Basics.{if◌then◌otherwise◌, each}
use Rattle.defs.specs.Prefix.{first, leads, deeper}
use Rattle.defs.specs.Pool.{data_of, child_of, bit, data_bit}
use Rattle.defs.specs.Entries.{Place, data_place, child_place, places_at, places}
use Rattle.defs.specs.Lemmas.{split, is_false, each_append}
use Rattle.defs.specs.PrefixLaws.{Whole}
use Rattle.defs.proofs.PrefixLaws.{leads_of, leads_len, leads_first, leads_trans, leads_same, shorter}
use Rattle.defs.proofs.DeeperLaws.{deeper_first, deeper_same, whole_deeper}
use Rattle.theory.specs.Sides.{side_held, side_entries, on_path, child_in, value_in, side_places, side_data, side_child}
use Rattle.theory.specs.Kinds.{Node}

-- the next n bits of a key, after the first d
abbrev pub next_bits : ℕ → ℕ → ℕ → ℕ
next_bits d n key = first (d + n) key % 2 ^ n

-- the next bits of what p leads give the longer prefix that leads it too
pub leads_next : (p root : Prefix) (n : ℕ) → Whole p → p.len + n ≤ 64 → p.len + n ≤ root.len → leads p root ≡ true
    → leads (deeper p n (next_bits p.len n root.key)) root ≡ true
leads_next p root n w short l h =
    let f = first (p.len + n) root.key in
    let e : 64 - p.len ≡ (64 - (p.len + n)) + n = omega arith in
    let g : f / 2 ^ n ≡ first p.len root.key = shr-shr root.key (64 - (p.len + n)) n ∙ ap (λ (k : ℕ). root.key / 2 ^ k) (sym e) in
    leads_of (deeper p n (f % 2 ^ n)) root l
    (sym (div-add-mod' f (2 ^ n)) ∙ ap (λ (k : ℕ). k * 2 ^ n + f % 2 ^ n) (g ∙ leads_first p root h) ∙ sym (deeper_first p w n short (f % 2 ^ n)))

half_of : (c k : ℕ) → c / 2 ^ suc k ≡ c / 2 ^ k / 2
half_of c k = let e : suc k ≡ k + 1 = omega arith in rw e (sym (shr-shr c k 1))

-- places that hold nothing but at one child
module _ {B : Type 0} (f : Place → List B) (data-none : (n v : ℕ) → n ≤ 4 → f (data_place n v) ≡ []) (c : ℕ) (others : (d : ℕ) → (c ≡ d → ⊥) → f (child_place d) ≡ []) where
  only_below : (k n v : ℕ) → n + k ≡ 5 → each f (places_at k n v) ≡ (if eqb (c / 2 ^ k) v then f (child_place c) otherwise [])
  only_below zero n v r =
      append-nil (f (child_place v))
      ∙ split (eqb c v) (λ e. rw (div-one c, e) (ap (λ (d : ℕ). f (child_place d)) (sym (eqb-true c v e)))) (λ e. rw (div-one c, e) (others v (eqb-false c v e)))
  only_below (suc k) n v r =
      rw (data-none n v (omega arith), each_append f (places_at k (suc n) (2 * v)) (places_at k (suc n) (2 * v + 1)), only_below k (suc n) (2 * v) (omega arith), only_below k (suc n) (2 * v + 1) (omega arith), half_of c k)
      (choose (c / 2 ^ k))
    where
      choose : (d : ℕ) → (if eqb d (2 * v) then f (child_place c) otherwise []) ++ (if eqb d (2 * v + 1) then f (child_place c) otherwise [])
          ≡ (if eqb (d / 2) v then f (child_place c) otherwise [])
      choose d =
          let s = div-add-mod' d 2 in
          let m = mod-lt d {m = 2} (omega arith) in
          split (eqb d (2 * v))
          (λ e. let q = eqb-true d (2 * v) e in rw (e, ne_eqb d (2 * v + 1) (λ r. omega arith), eq-eqb (d / 2) v (omega arith)) (append-nil (f (child_place c))))
          (λ e.
          split (eqb d (2 * v + 1)) (λ i. let q = eqb-true d (2 * v + 1) i in rw (e, i, eq-eqb (d / 2) v (omega arith)))
          (λ i. rw (e, i, ne_eqb (d / 2) v (λ r. off d (eqb-false d (2 * v) e) (eqb-false d (2 * v + 1) i) r))))
        where
          off : (d : ℕ) → (d ≡ 2 * v → ⊥) → (d ≡ 2 * v + 1 → ⊥) → d / 2 ≡ v → ⊥
          off d a b r = omega (arith, div-add-mod' d 2, mod-lt d {m = 2} (omega arith))

  pub only_child : c < 32 → each f places ≡ f (child_place c)
  unfolding places
  only_child l = only_below 5 0 0 refl ∙ rw (eq-eqb (c / 32) 0 (small c l))
    where
      small : (c : ℕ) → c < 32 → c / 32 ≡ 0
      small c l = omega arith

module _ (w : List ℕ) (root : Prefix) (levels : ℕ) (o : Node) (p : Prefix) (wp : Whole p) (e : p.len + 5 * suc levels ≡ 65) (fits : root.len ≤ 64)
    (c : ℕ) (h : leads (deeper p 5 c) root ≡ true) where
  pub short : p.len + 5 ≤ root.len
  short = leads_len (deeper p 5 c) root h

  pub no_data : (n v : ℕ) → n ≤ 4 → value_in w root o n v (deeper p n v) ≡ None
  no_data n v l = go o
    where
      longer : leads root (deeper p n v) ≡ false
      longer = is_false _ (λ i. omega (arith, leads_len root (deeper p n v) i, short))

      go : (o : Node) → value_in w root o n v (deeper p n v) ≡ None
      go None = refl
      go (Some i) = rw (longer, and-false (bit (data_bit n v) (data_of w i)))

  pub no_child : (d : ℕ) → (c ≡ d → ⊥) → side_entries w root levels (child_in w root o d (deeper p 5 d)) (deeper p 5 d) ≡ []
  no_child d n = go o
    where
      -- two children of one node that lead one another are the same
      alike : leads (deeper p 5 c) (deeper p 5 d) ≡ true → ⊥
      alike i =
          n (deeper_same p wp 5 (omega (arith, short)) c d
          (leads_same (deeper p 5 c) (deeper p 5 d) (whole_deeper p wp 5 (omega (arith, short)) c) (whole_deeper p wp 5 (omega (arith, short)) d) i refl))

      off_path : on_path root (deeper p 5 d) ≡ false
      off_path =
          split (leads root (deeper p 5 d)) (λ i. absurd (alike (leads_trans (deeper p 5 c) root (deeper p 5 d) h i)))
          (λ i. rw i (is_false _ (λ j. alike (shorter (deeper p 5 c) (deeper p 5 d) root h j (omega arith)))))

      go : (o : Node) → side_entries w root levels (child_in w root o d (deeper p 5 d)) (deeper p 5 d) ≡ []
      go None = refl
      go (Some i) = rw (off_path, and-false (bit d (child_of w i)))

  -- one level down: the view at the root in a node is the view in the child on the way to the root
  pub side_down : c < 32 → side_entries w root (suc levels) o p ≡ side_entries w root levels (child_in w root o c (deeper p 5 c)) (deeper p 5 c)
  side_down l =
      side_places w root levels o p
      ∙ only_child (side_held w root levels o p)
      (λ n v m. side_data w root levels o p n v ∙ rw (no_data n v m)) c
      (λ d n. side_child w root levels o p d (whole_deeper p wp 5 (omega (arith, short)) d) e ∙ no_child d n) l
      ∙ side_child w root levels o p c (whole_deeper p wp 5 (omega (arith, short)) c) e
