-- The nodes that are kept, one after the other: how many they are, and the words and values that are written for them.
use Rattle.std.specs.Prelude.{◌≡◌, Bool, true, false, ◌||◌, List, [], ◌∷◌, ◌++◌, eqb, ltb, take, drop, set}
use Rattle.std.proofs.Math.Path.{refl, sym, ap, ap₂}
use Rattle.std.proofs.Common.{◌∙◌, append-nil, append_assoc, arith, add-one, le_refl, length-drop, drop_of_length-le, take_at, drop_at, take_all, drop-drop, drop-cons, eqb-true}
use Prim.Native.Nat.{ℕ, zero, suc, ◌+◌, ◌-◌, ◌*◌, ◌/◌, ◌%◌, ◌^◌, ◌≤◌, ◌<◌}
use Rattle.std.proofs.Math.Decide.{le_ind}
use Rattle.std.specs.Int.Count.{ones_in}
use Rattle.std.proofs.Math.ListN.{length, length-append}
use Rattle.std.proofs.lemmas.List.{set_at}
use borrow.Rule.Slice.PartMut.{put_mid, mid_of, post_of}
use Rattle.defs.specs.Basics.{if◌then◌otherwise◌, keep, each, up_to}
use Rattle.defs.specs.Pool.{bit, rank, ones}
use Rattle.defs.specs.Lemmas.{length_keep, split, keep_append, each_append}
use Rattle.bits.specs.WordLaws.{rank_suc, rank_mono, rank_all, ones_le}
use Rattle.tidied.specs.InOrder.{copy_from}
use Rattle.tidied.specs.ListFacts.{run, length_run, run_append, length_up_to}
use Rattle.tidied.specs.Spots.{rank_run}
use Rattle.std.proofs.lemmas.Bool.{eqb-false}

-- ---- a part of a buffer is written

-- new words at the front of a buffer
abbrev pub over : List ℕ → List ℕ → List ℕ
over new old = new ++ drop (length new) old

-- more words written after those that are written
pub over_more : (a b old now part : List ℕ) (n : ℕ) → now ≡ over a old → n ≡ length a → length a + length b ≤ length old
    → part ≡ over b (mid_of n (length now - n) now) → put_mid n (length now - n) now part ≡ over (a ++ b) old
over_more a b old now part n e en h p =
    let same : length now ≡ length old = ap length e ∙ length-append a (drop (length a) old) ∙ omega (arith, length-drop (length a) old) in
    let front : take n now ≡ a = ap (take n) e ∙ take_at a (drop (length a) old) n (sym en) in
    let back : drop n now ≡ drop (length a) old = ap (drop n) e ∙ drop_at a (drop (length a) old) n (sym en) in
    let mid : mid_of n (length now - n) now ≡ drop (length a) old = take_all (length now - n) (drop n now) (rw length-drop (omega arith)) ∙ back in
    let post : post_of n (length now - n) now ≡ [] = drop_of_length-le (drop n now) {i = length now - n} (rw length-drop (omega arith)) in
    let next : drop (length b) (drop (length a) old) ≡ drop (length (a ++ b)) old = drop-drop (length b) (length a) old ∙ ap (λ (x : ℕ). drop x old) (sym (length-append a b)) in
    let words : part ≡ b ++ drop (length (a ++ b)) old = p ∙ ap (λ (l : List ℕ). b ++ drop (length b) l) mid ∙ ap (b ++◌) next in
    ap₂ (λ (x y : List ℕ). x ++ y) front (ap₂ (λ (x y : List ℕ). x ++ y) words post ∙ append-nil _)
    ∙ sym (append_assoc a b (drop (length (a ++ b)) old))

pub over_length : (a old : List ℕ) → length a ≤ length old → length (over a old) ≡ length old
over_length a old h = length-append a (drop (length a) old) ∙ omega (arith, length-drop (length a) old)

-- one word more
pub over_one : (a old now : List ℕ) (x n : ℕ) → now ≡ over a old → n ≡ length a → length a < length old → set now n x ≡ over (a ++ (x ∷ [])) old
over_one a old now x n e en h =
    let c = drop-cons old (length a) 0 h in
    let l : length (a ++ (x ∷ [])) ≡ suc (length a) = length-append a (x ∷ []) ∙ omega arith in
    ap₂ (λ (y : List ℕ) (m : ℕ). set y m x) (e ∙ ap (a ++◌) c) en ∙ set_at a _ (drop (suc (length a)) old) x (length a) refl
    ∙ sym (append_assoc a (x ∷ []) (drop (length (a ++ (x ∷ []))) old) ∙ ap (λ (m : ℕ). a ++ (x ∷ drop m old)) l)

-- four words stored one by one
pub four : (l : List ℕ) (a b c e : ℕ) → 4 ≤ length l → set (set (set (set l 0 a) 1 b) 2 c) 3 e ≡ over (a ∷ b ∷ c ∷ e ∷ []) l
four (w ∷ x ∷ y ∷ z ∷ l) a b c e h = refl
four [] a b c e h = absurd (let z : ⊥ = omega arith in z)
four (w ∷ []) a b c e h = absurd (let z : ⊥ = omega arith in z)
four (w ∷ x ∷ []) a b c e h = absurd (let z : ⊥ = omega arith in z)
four (w ∷ x ∷ y ∷ []) a b c e h = absurd (let z : ⊥ = omega arith in z)

-- ---- the values of a node

-- so many numbers from the first on
abbrev pub numbers_from : ℕ → ℕ → List ℕ
numbers_from first count = run first count

-- the loop that writes them: the first `at` of n stand at the front
pub record Numbering (first n : ℕ) (old now : List ℕ) (at : ℕ) : Type 0 where
  pub within : at ≤ n
  pub front : now ≡ over (numbers_from first at) old

module _ (first n : ℕ) (old : List ℕ) (room : n ≤ length old) where
  pub numbering_start : Numbering first n old old 0
  numbering_start = record { within = omega arith; front = refl }

  module _ (now : List ℕ) (at : ℕ) (k : Numbering first n old now at) where
    pub numbering_same : length now ≡ length old
    numbering_same = ap length k.front ∙ over_length (run first at) old (omega (arith, length_run first at, k.within))

    pub numbering_on : at < n → (x : ℕ) → x ≡ first + at → Numbering first n old (set now at x) (at + 1)
    numbering_on h x e =
        record {
          within = omega arith;
          front = over_one (run first at) old now x at k.front (sym (length_run first at)) (omega (arith, length_run first at))
              ∙ ap (λ (l : List ℕ). over l old) (ap (λ (y : ℕ). run first at ++ (y ∷ [])) e ∙ run_append first at 1);
        }

    pub numbering_end : n ≤ at → now ≡ over (numbers_from first n) old
    numbering_end h = let e : at ≡ n = omega (arith, k.within) in k.front ∙ ap (λ (m : ℕ). over (run first m) old) e

-- the value indices of the first n kept data bits, where `held` are all data bits of the node and `first` is its first value
abbrev pub values_from : ℕ → ℕ → ℕ → ℕ → List ℕ
values_from held first kept n = each (λ b. if bit b kept then (first + rank b held) ∷ [] otherwise []) (up_to n)

module _ (held first kept : ℕ) where
  value_snoc : (n : ℕ) → values_from held first kept (suc n) ≡ values_from held first kept n ++ (if bit n kept then (first + rank n held) ∷ [] otherwise [])
  value_snoc n =
      each_append (λ b. if bit b kept then (first + rank b held) ∷ [] otherwise []) (up_to n) (n ∷ [])
      ∙ ap (values_from held first kept n ++◌) (append-nil _)

  one_bit : (n : ℕ) → length (if bit n kept then (first + rank n held) ∷ [] otherwise []) ≡ kept / 2 ^ n % 2
  one_bit n = split (bit n kept) (λ e. rw e (sym (eqb-true _ 1 e))) (λ e. rw e (small (kept / 2 ^ n) (eqb-false _ 1 e)))
    where
      small : (y : ℕ) → (y % 2 ≡ 1 → ⊥) → 0 ≡ y % 2
      small y h = omega arith

  pub values_length : (n : ℕ) → length (values_from held first kept n) ≡ rank n kept
  unfolding ones_in
  values_length zero = refl
  values_length (suc n) =
      ap length (value_snoc n) ∙ length-append (values_from held first kept n) _ ∙ ap₂ ◌+◌ (values_length n) (one_bit n) ∙ sym (rank_suc n kept)

-- where all of a node's data bits are kept, its values are one after the other
pub values_all : (held first kept count : ℕ) → held < 2 ^ 31 → kept ≡ held → count ≡ ones held → numbers_from first count ≡ values_from held first kept 31
values_all held first kept count h e ec =
    ap (run first) (ec ∙ sym (rank_all 31 32 held h (omega arith)) ∙ rank_all 31 31 held h (omega arith)) ∙ sym (rank_run first held 31)
    ∙ ap (λ (x : ℕ). values_from held first x 31) (sym e)

-- the loop: the values of the first b bits stand at the front
pub record Listing (held first kept : ℕ) (old now : List ℕ) (at b : ℕ) : Type 0 where
  pub within : b ≤ 31
  pub place : at ≡ rank b kept
  pub front : now ≡ over (values_from held first kept b) old

module _ (held first kept : ℕ) (old : List ℕ) where
  pub listing_start : Listing held first kept old old 0 0
  unfolding ones_in
  listing_start = record { within = omega arith; place = refl; front = refl }

  module _ (room : ones kept ≤ length old) (now : List ℕ) (at b : ℕ) (h : b < 31) (l : Listing held first kept old now at b) where
    pub listing_room : bit b kept ≡ true → at < length now
    listing_room e =
        let s = rank_suc b kept in
        let m = rank_mono (suc b) 32 kept (omega arith) in
        let o = eqb-true (kept / 2 ^ b % 2) 1 e in
        let n : length now ≡ length old = ap length l.front ∙ over_length (values_from held first kept b) old (omega (arith, values_length held first kept b)) in
        omega (arith, l.place)

    pub listing_on : bit b kept ≡ true → (x : ℕ) → x ≡ first + rank b held → Listing held first kept old (set now at x) (at + 1) (b + 1)
    listing_on e x ex =
        let s = rank_suc b kept in
        let m = rank_mono (suc b) 32 kept (omega arith) in
        let o = eqb-true (kept / 2 ^ b % 2) 1 e in
        let n : length now ≡ length old = ap length l.front ∙ over_length (values_from held first kept b) old (omega (arith, values_length held first kept b)) in
        record {
          within = omega arith;
          place = omega (arith, l.place, ap (λ (y : ℕ). rank y kept) (add-one b));
          front = over_one (values_from held first kept b) old now x at l.front (l.place ∙ sym (values_length held first kept b)) (omega (arith, values_length held first kept b))
              ∙ ap (λ (y : List ℕ). over y old) (ap (λ (y : ℕ). values_from held first kept b ++ (y ∷ [])) ex ∙ sym (value_snoc held first kept b ∙ rw e refl) ∙ ap (values_from held first kept) (sym (add-one b)));
        }

    pub listing_off : bit b kept ≡ false → Listing held first kept old now at (b + 1)
    listing_off e =
        let s = rank_suc b kept in
        let o = eqb-false (kept / 2 ^ b % 2) 1 e in
        record {
          within = omega arith;
          place = l.place ∙ zero_bit (kept / 2 ^ b) o s ∙ ap (λ (y : ℕ). rank y kept) (sym (add-one b));
          front = l.front ∙ ap (λ (y : List ℕ). over y old) (sym none ∙ ap (values_from held first kept) (sym (add-one b)));
        }
      where
        none : values_from held first kept (suc b) ≡ values_from held first kept b
        none = value_snoc held first kept b ∙ rw e (append-nil _)

        zero_bit : (y : ℕ) → (y % 2 ≡ 1 → ⊥) → rank (suc b) kept ≡ rank b kept + y % 2 → rank b kept ≡ rank (suc b) kept
        zero_bit y n e = let z : y % 2 ≡ 0 = omega arith in omega arith

  pub listing_same : ones kept ≤ length old → (now : List ℕ) (at b : ℕ) → Listing held first kept old now at b → length now ≡ length old
  listing_same room now at b l =
      let m = rank_mono b 32 kept (omega (arith, l.within)) in
      ap length l.front ∙ over_length (values_from held first kept b) old (omega (arith, values_length held first kept b))

  pub listing_end : (now : List ℕ) (at b : ℕ) → 31 ≤ b → Listing held first kept old now at b → now ≡ over (values_from held first kept 31) old
  listing_end now at b h l = let e : b ≡ 31 = omega (arith, l.within) in l.front ∙ ap (λ (y : ℕ). over (values_from held first kept y) old) e

-- ---- the nodes that are kept
module _ (d k : ℕ → ℕ) where
  -- the root, and every node with a word that is not 0
  abbrev pub is_kept : ℕ → Bool
  is_kept i = eqb i 0 || (ltb 0 (d i) || ltb 0 (k i))

  -- those of the first i nodes
  abbrev pub chosen : ℕ → List ℕ
  chosen i = keep is_kept (up_to i)

-- the ones of the words of nodes
abbrev pub ones_of : (ℕ → ℕ) → List ℕ → ℕ
ones_of f [] = 0
ones_of f (i ∷ is) = ones (f i) + ones_of f is

pub ones_snoc : (f : ℕ → ℕ) (a : List ℕ) (i : ℕ) → ones_of f (a ++ (i ∷ [])) ≡ ones_of f a + ones (f i)
ones_snoc f [] i = omega arith
ones_snoc f (x ∷ a) i = omega (arith, ones_snoc f a i)

pub ones_few : (f : ℕ → ℕ) (a : List ℕ) → ones_of f a ≤ 32 * length a
ones_few f [] = omega arith
ones_few f (x ∷ a) = omega (arith, ones_few f a, ones_le (f x))

-- the words of a node, after so many children and values
abbrev pub node_words : ℕ → ℕ → ℕ → ℕ → List ℕ
node_words data-word child-word children values = data-word ∷ child-word ∷ (1 + children) ∷ values ∷ []

module _ (d k : ℕ → ℕ) where
  chosen_suc : (i : ℕ) → chosen d k (suc i) ≡ chosen d k i ++ (if is_kept d k i then i ∷ [] otherwise [])
  chosen_suc i = keep_append (is_kept d k) (up_to i) (i ∷ [])

  pub chosen_on : (i : ℕ) → is_kept d k i ≡ true → chosen d k (i + 1) ≡ chosen d k i ++ (i ∷ [])
  chosen_on i e = ap (chosen d k) (add-one i) ∙ chosen_suc i ∙ rw e refl

  pub chosen_off : (i : ℕ) → is_kept d k i ≡ false → chosen d k (i + 1) ≡ chosen d k i
  chosen_off i e = ap (chosen d k) (add-one i) ∙ chosen_suc i ∙ rw e (append-nil _)

  pub chosen_few : (i : ℕ) → length (chosen d k i) ≤ i
  chosen_few i = omega (arith, length_keep (is_kept d k) (up_to i), length_up_to i)

  chosen_grows : (i : ℕ) → (length (chosen d k i) ≤ length (chosen d k (suc i))) × (ones_of d (chosen d k i) ≤ ones_of d (chosen d k (suc i)))
  chosen_grows i =
      split (is_kept d k i)
      (λ e.
      let f : chosen d k (suc i) ≡ chosen d k i ++ (i ∷ []) = chosen_suc i ∙ rw e refl in
      let a : length (chosen d k (suc i)) ≡ length (chosen d k i) + 1 = ap length f ∙ length-append (chosen d k i) (i ∷ []) in
      let b : ones_of d (chosen d k (suc i)) ≡ ones_of d (chosen d k i) + ones (d i) = ap (ones_of d) f ∙ ones_snoc d (chosen d k i) i in
      (omega arith, omega arith))
      (λ e.
      let f : chosen d k (suc i) ≡ chosen d k i = chosen_suc i ∙ rw e (append-nil _) in
      (omega (arith, ap length f), omega (arith, ap (ones_of d) f)))

  pub chosen_mono : (i n : ℕ) → i ≤ n → (length (chosen d k i) ≤ length (chosen d k n)) × (ones_of d (chosen d k i) ≤ ones_of d (chosen d k n))
  chosen_mono i n h =
      le_ind (λ (m : ℕ). (length (chosen d k i) ≤ length (chosen d k m)) × (ones_of d (chosen d k i) ≤ ones_of d (chosen d k m))) (le_refl _, le_refl _)
      (λ m l e. let g = chosen_grows m in (omega (arith, e.0, g.0), omega (arith, e.1, g.1))) n h

  pub copy_length : (is : List ℕ) (c v : ℕ) → length (copy_from d k is c v) ≡ 4 * length is
  copy_length [] c v = refl
  copy_length (i ∷ is) c v = omega (arith, copy_length is (c + ones (k i)) (v + ones (d i)))

  copy_snoc : (is : List ℕ) (i c v : ℕ) → copy_from d k (is ++ (i ∷ [])) c v ≡ copy_from d k is c v ++ node_words (d i) (k i) (c + ones_of k is) (v + ones_of d is)
  copy_snoc [] i c v = let e : c ≡ c + 0 = omega arith in let f : v ≡ v + 0 = omega arith in ap₂ (node_words (d i) (k i)) e f
  copy_snoc (j ∷ is) i c v =
      let e : c + ones (k j) + ones_of k is ≡ c + (ones (k j) + ones_of k is) = omega arith in
      let f : v + ones (d j) + ones_of d is ≡ v + (ones (d j) + ones_of d is) = omega arith in
      ap (λ (l : List ℕ). d j ∷ k j ∷ (1 + c) ∷ v ∷ l)
      (copy_snoc is i (c + ones (k j)) (v + ones (d j)) ∙ ap₂ (λ (x y : ℕ). copy_from d k is (c + ones (k j)) (v + ones (d j)) ++ node_words (d i) (k i) x y) e f)

  -- ---- counting

  -- the loop over the first i of n nodes
  pub record Counting (n nodes entries i : ℕ) : Type 0 where
    pub within : i ≤ n
    pub nodes_are : nodes ≡ length (chosen d k i)
    pub entries_are : entries ≡ ones_of d (chosen d k i)

  pub counting_start : (n : ℕ) → Counting n 0 0 0
  counting_start n = record { within = omega arith; nodes_are = refl; entries_are = refl }

  pub counting_small : (n nodes entries i : ℕ) → Counting n nodes entries i → (nodes ≤ i) × (entries ≤ 32 * i)
  counting_small n nodes entries i c =
      let f = chosen_few i in (omega (arith, c.nodes_are), omega (arith, c.entries_are, ones_few d (chosen d k i)))

  module _ (n nodes entries i : ℕ) (h : i < n) (c : Counting n nodes entries i) where
    pub counting_on : is_kept d k i ≡ true → (o : ℕ) → o ≡ ones (d i) → Counting n (nodes + 1) (entries + o) (i + 1)
    counting_on e o eo =
        let f = chosen_on i e in
        record {
          within = omega arith;
          nodes_are = omega (arith, c.nodes_are, ap length f, length-append (chosen d k i) (i ∷ []));
          entries_are = omega (arith, c.entries_are, ap (ones_of d) f, ones_snoc d (chosen d k i) i);
        }

    pub counting_off : is_kept d k i ≡ false → Counting n nodes entries (i + 1)
    counting_off e =
        let f = chosen_off i e in
        record { within = omega arith; nodes_are = c.nodes_are ∙ ap length (sym f); entries_are = c.entries_are ∙ ap (ones_of d) (sym f) }

  pub counting_end : (n nodes entries i : ℕ) → n ≤ i → Counting n nodes entries i → (nodes ≡ length (chosen d k n)) × (entries ≡ ones_of d (chosen d k n))
  counting_end n nodes entries i h c =
      let e : i ≡ n = omega (arith, c.within) in
      (c.nodes_are ∙ ap (λ (m : ℕ). length (chosen d k m)) e, c.entries_are ∙ ap (λ (m : ℕ). ones_of d (chosen d k m)) e)

  -- ---- writing
  module _ (vs : ℕ → List ℕ) where
    -- the loop over the first i of n nodes: their words and values stand at the front of the two buffers
    pub record Writing (n : ℕ) (out₀ values₀ out values : List ℕ) (at children count i : ℕ) : Type 0 where
      pub within : i ≤ n
      pub place : at ≡ 4 * length (chosen d k i)
      pub kids : children ≡ ones_of k (chosen d k i)
      pub entries : count ≡ ones_of d (chosen d k i)
      pub words : out ≡ over (copy_from d k (chosen d k i) 0 0) out₀
      pub listed : values ≡ over (each vs (chosen d k i)) values₀

    pub writing_start : (n : ℕ) (out values : List ℕ) → Writing n out values out values 0 0 0 0
    writing_start n out values = record { within = omega arith; place = refl; kids = refl; entries = refl; words = refl; listed = refl }

    pub writing_small : (n : ℕ) (out₀ values₀ out values : List ℕ) (at children count i : ℕ) → Writing n out₀ values₀ out values at children count i
        → (at ≤ 4 * i) × (children ≤ 32 * i) × (count ≤ 32 * i)
    writing_small n out₀ values₀ out values at children count i w =
        let f = chosen_few i in
        (omega (arith, w.place), omega (arith, w.kids, ones_few k (chosen d k i)), omega (arith, w.entries, ones_few d (chosen d k i)))

    module _ (n : ℕ) (sizes : (i : ℕ) → i < n → length (vs i) ≡ ones (d i)) where
      each_length : (i : ℕ) → i ≤ n → length (each vs (chosen d k i)) ≡ ones_of d (chosen d k i)
      each_length zero h = refl
      each_length (suc i) h =
          let r = each_length i (omega arith) in
          split (is_kept d k i)
          (λ e.
          let f : chosen d k (suc i) ≡ chosen d k i ++ (i ∷ []) = chosen_suc i ∙ rw e refl in
          let a = ap (λ (l : List ℕ). length (each vs l)) f ∙ ap length (each_append vs (chosen d k i) (i ∷ [])) ∙ length-append (each vs (chosen d k i)) (each vs (i ∷ [])) in
          let b = ap length (append-nil (vs i)) in
          omega (arith, ap (ones_of d) f, ones_snoc d (chosen d k i) i, sizes i h))
          (λ e.
          let f : chosen d k (suc i) ≡ chosen d k i = chosen_suc i ∙ rw e (append-nil _) in
          ap (λ (l : List ℕ). length (each vs l)) f ∙ r ∙ ap (ones_of d) (sym f))

      module _ (out₀ values₀ : List ℕ) (room : 4 * length (chosen d k n) ≤ length out₀) (space : ones_of d (chosen d k n) ≤ length values₀) where
        pub writing_same : (out values : List ℕ) (at children count i : ℕ) → Writing n out₀ values₀ out values at children count i
            → (length out ≡ length out₀) × (length values ≡ length values₀)
        writing_same out values at children count i w =
            let m = chosen_mono i n w.within in (
              ap length w.words ∙ over_length (copy_from d k (chosen d k i) 0 0) out₀ (omega (arith, copy_length (chosen d k i) 0 0, m.0)),
              ap length w.listed ∙ over_length (each vs (chosen d k i)) values₀ (omega (arith, each_length i w.within, m.1)),
            )

        module _ (out values : List ℕ) (at children count i : ℕ) (h : i < n) (w : Writing n out₀ values₀ out values at children count i) where
          module _ (e : is_kept d k i ≡ true) where
            grown : (4 * length (chosen d k i) + 4 ≤ length out₀) × (ones_of d (chosen d k i) + ones (d i) ≤ length values₀)
            grown =
                let m = chosen_mono (i + 1) n (omega arith) in
                let f = chosen_on i e in
                (omega (arith, m.0, ap length f, length-append (chosen d k i) (i ∷ [])), omega (arith, m.1, ap (ones_of d) f, ones_snoc d (chosen d k i) i))

            pub writing_room : (at + 4 ≤ length out) × (count + ones (d i) ≤ length values)
            writing_room =
                let s = writing_same out values at children count i w in
                let g = grown in (omega (arith, w.place, s.0, g.0), omega (arith, w.entries, s.1, g.1))

            pub writing_on : (part vpart : List ℕ) → part ≡ over (node_words (d i) (k i) children count) (mid_of at (length out - at) out)
                → vpart ≡ over (vs i) (mid_of count (length values - count) values) → (o p : ℕ) → o ≡ ones (k i) → p ≡ ones (d i)
                → Writing n out₀ values₀ (put_mid at (length out - at) out part) (put_mid count (length values - count) values vpart) (at + 4) (children + o) (count + p) (i + 1)
            writing_on part vpart ep ev o p eo ed =
                let f = chosen_on i e in
                let g = grown in
                let l = copy_length (chosen d k i) 0 0 in
                let v = each_length i w.within in
                record {
                  within = omega arith;
                  place = omega (arith, w.place, ap length f, length-append (chosen d k i) (i ∷ []));
                  kids = omega (arith, w.kids, ap (ones_of k) f, ones_snoc k (chosen d k i) i);
                  entries = omega (arith, w.entries, ap (ones_of d) f, ones_snoc d (chosen d k i) i);
                  words =
                      over_more (copy_from d k (chosen d k i) 0 0) (node_words (d i) (k i) children count) out₀ out part at w.words (w.place ∙ sym l) (omega (arith, g.0)) ep
                      ∙ ap (λ (x : List ℕ). over x out₀)
                      (ap₂ (λ (x y : ℕ). copy_from d k (chosen d k i) 0 0 ++ node_words (d i) (k i) x y) (w.kids ∙ plain (ones_of k (chosen d k i))) (w.entries ∙ plain (ones_of d (chosen d k i)))
                      ∙ sym (copy_snoc (chosen d k i) i 0 0) ∙ ap (λ (x : List ℕ). copy_from d k x 0 0) (sym f));
                  listed =
                      over_more (each vs (chosen d k i)) (vs i) values₀ values vpart count w.listed (w.entries ∙ sym v) (omega (arith, g.1, sizes i h)) ev
                      ∙ ap (λ (x : List ℕ). over x values₀)
                      (ap (each vs (chosen d k i) ++◌) (sym (append-nil (vs i))) ∙ sym (each_append vs (chosen d k i) (i ∷ [])) ∙ ap (each vs) (sym f));
                }
              where
                plain : (x : ℕ) → x ≡ 0 + x
                plain x = omega arith

          pub writing_off : is_kept d k i ≡ false → Writing n out₀ values₀ out values at children count (i + 1)
          writing_off e =
              let f = sym (chosen_off i e) in
              record {
                within = omega arith;
                place = w.place ∙ ap (λ (x : List ℕ). 4 * length x) f;
                kids = w.kids ∙ ap (ones_of k) f;
                entries = w.entries ∙ ap (ones_of d) f;
                words = w.words ∙ ap (λ (x : List ℕ). over (copy_from d k x 0 0) out₀) f;
                listed = w.listed ∙ ap (λ (x : List ℕ). over (each vs x) values₀) f;
              }

        pub writing_end : (out values : List ℕ) (at children count i : ℕ) → n ≤ i → Writing n out₀ values₀ out values at children count i
            → (out ≡ over (copy_from d k (chosen d k n) 0 0) out₀) × (values ≡ over (each vs (chosen d k n)) values₀)
        writing_end out values at children count i h w =
            let e : i ≡ n = omega (arith, w.within) in
            (w.words ∙ ap (λ (m : ℕ). over (copy_from d k (chosen d k m) 0 0) out₀) e, w.listed ∙ ap (λ (m : ℕ). over (each vs (chosen d k m)) values₀) e)
