-- The tidy pool of a sorted list of entries holds exactly these entries, its list giving each its value.
use Rattle.std.specs.Prelude.{◌≡◌, Bool, true, false, length, take, drop}
use Rattle.std.proofs.Math.Path.{refl, sym, ap, subst}
use Rattle.std.proofs.Common.{ap₂, ◌∙◌, arith, zero-add, lit<, get_or-append-add}
use mathlib.Core.List.{List, [], ◌∷◌, ◌++◌, map, append_assoc, append-nil}
use Prim.Native.Nat.{ℕ, zero, suc, ◌+◌, ◌*◌, ◌^◌, ◌≤◌, ◌<◌}
use Rattle.std.proofs.Math.Nat.{pow-succ'}
use Rattle.std.proofs.Math.ListN.{get_or, get_or-map}
use Rattle.std.proofs.Math.Seq.{get_or-append_seam}
use Rattle.defs.specs.declared.Prefix.{Prefix}
use Rattle.defs.specs.Basics.{if◌then◌otherwise◌, keep, each}
use Rattle.defs.specs.Prefix.{leads, before, same, deeper, top}
use Rattle.defs.specs.Pool.{data_of, child_of, first_child, first_value, bit, rank, data_bit}
use Rattle.defs.specs.Entries.{Entry, Place, data_place, child_place, places_at, places, held_at, entries_at, all_entries, under, view, prefixes}
use Rattle.defs.specs.Tidy.{data_prefixes, child_prefixes, is_under, entries_in, children_of, nodes_of, tidy_pool, tidy_values}
use Rattle.defs.specs.Lemmas.{split, not_both, all_imp, all_unmap, keep_false, map_append}
use Rattle.defs.specs.PrefixLaws.{Whole, whole_top, same_says}
use Rattle.defs.proofs.PrefixLaws.{before_irrefl}
use Rattle.defs.specs.OrderLaws.{Ascends, end, then_after}
use Rattle.defs.specs.NodeLaws.{Fits}
use Rattle.defs.proofs.NodeLaws.{deeper_low, deeper_high, deeper_none, by_levels, tree_step, tree_last}
use Rattle.defs.specs.EntryLaws.{Sound}
use Rattle.defs.proofs.EntryLaws.{sound, sound_all, sound_under, held_fits}
use Rattle.tidied.specs.ListFacts.{full, any_full, each_at, keep_rank}
use Rattle.tidied.specs.Words.{word_bit, word_rank}
use Rattle.tidied.specs.Halving.{onto, under_top, under_halves, under_last, under_none}
use Rattle.tidied.specs.Layout.{data_bit_lem, child_bit, is_here, NodeWords, words_at, child_index, root_node}

-- an entry of prefix q stands alone
pub data Alone (q : Prefix) : List Entry → Type 0 where
  nothing : Alone q []
  only : (v : ℕ) → Alone q (record { at = q; value = v } ∷ [])

-- what comes after q is not q
after_not : (q y : Prefix) → before q y ≡ true → same q y ≡ false
after_not q y b = split (same q y) (λ e. not_both b (ap (before q) (sym (same_says q y e)) ∙ before_irrefl q)) (λ e. e)

pub alone : (q : Prefix) (es : List Entry) → Ascends (prefixes es) → Alone q (onto es q)
alone q [] end = nothing
alone q (x ∷ es) (then_after h k) =
    split (same q x.at)
    (λ e.
    let f = same_says q x.at e in
    let n : onto es q ≡ [] =
    keep_false (λ y. same q y.at)
    (all_imp (λ (y : Entry) b. after_not q y.at (ap (λ (z : Prefix). before z y.at) f ∙ b)) (all_unmap (λ (y : Entry). y.at) es h)) in
    let y : Entry = record { at = q; value = x.value } in
    let g : y ≡ x = λ i. record { at = f i; value = x.value } in
    rw (e, keep) (rw n (subst (λ (z : Entry). Alone q (z ∷ [])) g (only x.value))))
    (λ e. rw (e, keep) (alone q es k))

-- as many entries as prefixes that have one
pub count_onto : (es : List Entry) → Ascends (prefixes es) → (qs : List Prefix) → length (each (onto es) qs) ≡ length (keep (is_here es) qs)
count_onto es a [] = refl
count_onto es a (q ∷ qs) =
    go (onto es q) (alone q es a) (count_onto es a qs) ∙ ap (λ (b : Bool). length (if b then q ∷ keep (is_here es) qs otherwise keep (is_here es) qs)) (sym (any_full (λ e. same q e.at) es))
  where
    go : (l : List Entry) → Alone q l → length (each (onto es) qs) ≡ length (keep (is_here es) qs)
        → length (l ++ each (onto es) qs) ≡ length (if full l then q ∷ keep (is_here es) qs otherwise keep (is_here es) qs)
    go _ nothing r = r
    go _ (only v) r = ap suc r

-- an entry with its value taken through a list
abbrev pub through : List ℕ → Entry → Entry
through vs e = record { at = e.at; value = get_or vs e.value 0 }

module _ (es : List Entry) (s : Sound top es) where
  abbrev N : List Prefix
  N = nodes_of es

  abbrev kids : Prefix → List Prefix
  kids = children_of es

  abbrev pool : List ℕ
  pool = tidy_pool es

  abbrev fixed : Entry → Entry
  fixed = through (tidy_values es)

  -- the value of the entry at data bit b of node j stands where the node's words say
  value_at : (j : ℕ) (d : Prefix) → j < length N → (b : ℕ) → b < length (data_prefixes (get_or N j d)) → (v : ℕ)
      → onto es (get_or (data_prefixes (get_or N j d)) b d) ≡ record { at = get_or (data_prefixes (get_or N j d)) b d; value = v } ∷ []
      → get_or (tidy_values es) (length (each (entries_in es) (take j N)) + length (keep (is_here es) (take b (data_prefixes (get_or N j d))))) 0 ≡ v
  value_at j d h b l v e =
      let p = get_or N j d in
      let D = data_prefixes p in
      let q = get_or D b d in
      let y : Entry = record { at = q; value = v } in
      let z : Entry = record { at = q; value = 0 } in
      let earlier = each (entries_in es) (take j N) in
      let after = each (entries_in es) (drop (suc j) N) in
      let X = each (onto es) (take b D) in
      let rest = each (onto es) (drop (suc b) D) in
      let k = length (keep (is_here es) (take b D)) in
      let inside : entries_in es p ≡ X ++ (y ∷ rest) = each_at (onto es) D b d l ∙ ap (λ (m : List Entry). X ++ (m ++ rest)) e in
      let whole : entries_in es p ++ after ≡ X ++ (y ∷ (rest ++ after)) = ap (◌++ after) inside ∙ append_assoc X (y ∷ rest) after in
      get_or-map (λ (e : Entry). e.value) (each (entries_in es) N) (length earlier + k) z
      ∙ ap (λ (m : List Entry). (get_or m (length earlier + k) z).value) (each_at (entries_in es) N j d h)
      ∙ ap (λ (m : Entry). m.value)
      (get_or-append-add earlier (entries_in es p ++ after) k z
      ∙ ap₂ (λ (m : List Entry) (i : ℕ). get_or m i z) whole (sym (count_onto es s.ascend (take b D)))
      ∙ get_or-append_seam X y (rest ++ after) z)

  -- the data place of n bits of value v
  data_held : (below : ℕ → Prefix → List Entry) (j : ℕ) (d : Prefix) → j < length N → (n v : ℕ) → n < 5 → v < 2 ^ n
      → map fixed (held_at pool below j (get_or N j d) (data_place n v)) ≡ onto es (deeper (get_or N j d) n v)
  data_held below j d h n v nl vl =
      ap (λ (b : Bool). map fixed (if b then here ∷ [] otherwise [])) bit_set
      ∙ go (onto es q) (alone q es s.ascend) refl
    where
      p : Prefix
      p = get_or N j d

      q : Prefix
      q = deeper p n v

      D : List Prefix
      D = data_prefixes p

      b : ℕ
      b = data_bit n v

      w : NodeWords es pool j p (0 + length (each kids (take j N))) (0 + length (each (entries_in es) (take j N)))
      w = words_at es N 0 0 j d h

      bq : (b < length D) × (get_or D b d ≡ q)
      bq = data_bit_lem p n v d nl vl

      here : Entry
      here = record { at = q; value = first_value pool j + rank b (data_of pool j) }

      bit_set : bit b (data_of pool j) ≡ full (onto es q)
      bit_set = ap (bit b) w.datas ∙ word_bit (is_here es) D b d bq.0 ∙ ap (is_here es) bq.1 ∙ any_full (λ e. same q e.at) es

      index : first_value pool j + rank b (data_of pool j) ≡ length (each (entries_in es) (take j N)) + length (keep (is_here es) (take b D))
      index = ap₂ ◌+◌ (w.first_v ∙ zero-add _) (ap (rank b) w.datas ∙ word_rank (is_here es) D b)

      go : (l : List Entry) → Alone q l → l ≡ onto es q → map fixed (if full l then here ∷ [] otherwise []) ≡ l
      go _ nothing e = refl
      go _ (only v) e =
          let f = value_at j d h b bq.0 v (subst (λ (x : Prefix). onto es x ≡ record { at = x; value = v } ∷ []) (sym bq.1) (sym e)) in
          ap (λ (x : ℕ). record { at = q; value = x } ∷ []) (ap (λ (i : ℕ). get_or (tidy_values es) i 0) index ∙ f)

  -- node i, whose prefix is q, holds the entries that q leads
  abbrev pub HoldsAt : ℕ → Type 0
  HoldsAt levels = (i : ℕ) (q : Prefix) → i < length N → get_or N i top ≡ q → Whole q → q.len + 5 * levels ≡ 65
      → map fixed (entries_at pool levels i q) ≡ under q es

  -- where the child bit c of node j is set, its child's number and prefix
  pub kid_at_lem : (j : ℕ) → j < length N → (c : ℕ) → c < 32
      → let i = first_child pool j + rank c (child_of pool j) in let q = deeper (get_or N j top) 5 c in
      (bit c (child_of pool j) ≡ is_under es q) × (is_under es q ≡ true → (i < length N) × (get_or N i top ≡ q))
  kid_at_lem j h c l = (bit_set, found)
    where
      p : Prefix
      p = get_or N j top

      q : Prefix
      q = deeper p 5 c

      K : List Prefix
      K = child_prefixes p

      r : ℕ
      r = length (keep (is_under es) (take c K))

      w : NodeWords es pool j p (0 + length (each kids (take j N))) (0 + length (each (entries_in es) (take j N)))
      w = words_at es N 0 0 j top h

      cq : (c < length K) × (get_or K c top ≡ q)
      cq = child_bit p c top l

      bit_set : bit c (child_of pool j) ≡ is_under es q
      bit_set = ap (bit c) w.childs ∙ word_bit (is_under es) K c top cq.0 ∙ ap (is_under es) cq.1

      index : first_child pool j + rank c (child_of pool j) ≡ 1 + (length (each kids (take j N)) + r)
      index = omega (arith, w.first_c, ap (rank c) w.childs ∙ word_rank (is_under es) K c)

      found : is_under es q ≡ true → (first_child pool j + rank c (child_of pool j) < length N) × (get_or N (first_child pool j + rank c (child_of pool j)) top ≡ q)
      found t =
          let k = keep_rank (is_under es) K c top cq.0 (ap (is_under es) cq.1 ∙ t) in
          let i = child_index es s j top h r k.0 in
          (omega (arith, i.0, index), ap (λ (x : ℕ). get_or N x top) index ∙ i.1 ∙ k.1 ∙ cq.1)

  module _ (levels : ℕ) (ih : HoldsAt levels) (j : ℕ) (h : j < length N) (wp : Whole (get_or N j top)) (e : (get_or N j top).len + 5 * suc levels ≡ 65) where
    abbrev p : Prefix
    p = get_or N j top

    abbrev held : Place → List Entry
    held = held_at pool (entries_at pool levels) j p

    fit : Fits p held
    fit = held_fits pool levels (sound pool levels) j p e

    -- the child place of 5 bits of value c
    child_held : (c : ℕ) → c < 32 → Whole (deeper p 5 c) → map fixed (held (child_place c)) ≡ under (deeper p 5 c) es
    child_held c l u =
        let k = kid_at_lem j h c l in
        ap (λ (b : Bool). map fixed (if b then below_it otherwise [])) (k.0 ∙ any_full (λ e. leads q e.at) es) ∙ go (under q es) refl (λ t. k.1 (any_full (λ e. leads q e.at) es ∙ t))
      where
        q : Prefix
        q = deeper p 5 c

        i : ℕ
        i = first_child pool j + rank c (child_of pool j)

        below_it : List Entry
        below_it = entries_at pool levels i q

        go : (m : List Entry) → m ≡ under q es → (full m ≡ true → (i < length N) × (get_or N i top ≡ q)) → map fixed (if full m then below_it otherwise []) ≡ m
        go [] f g = refl
        go (x ∷ xs) f g = let k = g refl in ih i q k.0 k.1 u (omega arith) ∙ sym f

    abbrev At : ℕ → ℕ → ℕ → Type 0
    At k n v = v < 2 ^ n → map fixed (each held (places_at k n v)) ≡ under (deeper p n v) es

    tree_holds : (k n v : ℕ) → n + k ≡ 5 → Whole (deeper p n v) → p.len + n ≤ 64 → At k n v
    tree_holds =
        by_levels p (omega arith) At
        (λ l v u b. ap (map fixed) (append-nil (held (child_place v))) ∙ child_held v b u)
        (λ k n v m u room lo hi b.
        let two = pow-succ' 2 n in
        let A = each held (places_at k (suc n) (2 * v)) in
        let B = each held (places_at k (suc n) (2 * v + 1)) in
        ap (map fixed) (tree_step p (omega arith) held fit k n v)
        ∙ map_append fixed (held (data_place n v)) (A ++ B)
        ∙ ap₂ ◌++◌ (data_held (entries_at pool levels) j top h n v (omega arith) b)
        (map_append fixed A B ∙ ap₂ ◌++◌ (lo (omega arith) ∙ ap (λ (q : Prefix). under q es) (sym (deeper_low p n v room))) (hi (omega arith) ∙ ap (λ (q : Prefix). under q es) (sym (deeper_high p n v room))))
        ∙ sym (under_halves es s (deeper p n v) u room))
        (λ l v u b.
        ap (map fixed) (tree_last p (omega arith) held fit l v)
        ∙ data_held (entries_at pool levels) j top h 4 v (omega arith) b
        ∙ sym (under_last es s (deeper p 4 v) u (omega arith)))

  pub holds : (levels : ℕ) → HoldsAt levels
  unfolding places
  holds zero i q h n u e = sym (under_none es s q (omega arith))
  holds (suc levels) i q h n u e =
      let p = get_or N i top in
      let wp : Whole p = subst Whole (sym n) u in
      let ep : p.len + 5 * suc levels ≡ 65 = subst (λ (x : Prefix). x.len + 5 * suc levels ≡ 65) (sym n) e in
      subst (λ (x : Prefix). map fixed (entries_at pool (suc levels) i x) ≡ under x es) n
      (tree_holds levels (λ i q h n u e. holds levels i q h n u e) i h wp ep 5 0 0 refl (subst Whole (sym (deeper_none p)) wp) (omega arith) (lit< tt)
      ∙ ap (λ (q : Prefix). under q es) (deeper_none p))

  -- the tidy pool holds exactly the entries that it was made of
  pub holds_all : map fixed (all_entries pool) ≡ es
  holds_all = holds 13 0 top (root_node es top).0 (root_node es top).1 whole_top refl ∙ under_top es s

-- a view's entries are sorted, and are as entries are
pub view_sound : (w : List ℕ) (root : Prefix) → Sound top (view w root)
view_sound w root = sound_under root top (all_entries w) (sound_all w)
