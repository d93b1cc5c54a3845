-- What stands in the tidy pool for a node of the source: its two words and its values, from the source's words.
use Rattle.std.specs.Prelude.{◌≡◌, refl, Bool, true, false, ◌&&◌, ◌||◌, ℕ, suc, ◌+◌, ◌*◌, ◌^◌, ◌<◌, ltb, length, get_or}
use Rattle.std.proofs.Math.Path.{sym, ap}
use Rattle.std.proofs.Common.{ap₂, ◌∙◌, ⊎_elim, arith, ltb-true, ltb-false, lt-ltb, le-ltb, length-append}
use mathlib.Core.List.{List, [], ◌∷◌, ◌++◌, map}
use Rattle.defs.specs.declared.Prefix.{Prefix}
use Rattle.defs.specs.Basics.{if◌then◌otherwise◌, any, each, up_to}
use Rattle.defs.specs.Prefix.{leads, same, deeper, top}
use Rattle.defs.specs.Pool.{data_of, child_of, first_child, first_value, bit, rank, ones, data_bit}
use Rattle.defs.specs.Entries.{Entry, entries_at, all_entries, under, view}
use Rattle.defs.specs.Tidy.{data_prefixes, child_prefixes, is_under, entries_in, children_of, word_of, pool_from}
use Rattle.defs.specs.Lemmas.{split, not_both, is_false, all_imp, all_unmap, keep_true, keep_false, map_on, map_map}
use Rattle.defs.specs.PrefixLaws.{same_says}
use Rattle.defs.proofs.PrefixLaws.{comparable, leads_trans}
use Rattle.defs.specs.EntryLaws.{Sound}
use Rattle.defs.proofs.EntryLaws.{view_led}
use Rattle.defs.proofs.DeeperLaws.{leads_deeper}
use Rattle.tidied.specs.ListFacts.{full, any_full, keep_swap, keep_within, run, each_join, map_each, map_rows, all_up_to}
use Rattle.tidied.specs.Words.{word_map, ones_word}
use Rattle.tidied.specs.Halving.{onto}
use Rattle.tidied.specs.Layout.{is_here, data_bit_lem, data_count, child_count}
use Rattle.tidied.specs.Holds.{count_onto}
use Rattle.tidied.specs.Count.{Deep, under_count}
use Rattle.tidied.specs.Find.{Seen, seen_data, seen_child}
use Rattle.tidied.specs.Spots.{under_view}
use Rattle.tidied.specs.Reading.{data_word_lem, in_values}

-- ---- tests and words

full_length : {A B : Type 0} (a : List A) (b : List B) → length a ≡ length b → full a ≡ full b
full_length [] [] e = refl
full_length [] (y ∷ b) e = absurd (let z : ⊥ = omega arith in z)
full_length (x ∷ a) [] e = absurd (let z : ⊥ = omega arith in z)
full_length (x ∷ a) (y ∷ b) e = refl

full_append : {A : Type 0} (a b : List A) → full (a ++ b) ≡ (full a || full b)
full_append [] b = refl
full_append (x ∷ a) b = refl

full_each : {A B : Type 0} (f : A → List B) (xs : List A) → full (each f xs) ≡ any (λ x. full (f x)) xs
full_each f [] = refl
full_each f (x ∷ xs) = full_append (f x) (each f xs) ∙ ap (full (f x) ||◌) (full_each f xs)

any_ext : {A : Type 0} (f g : A → Bool) → ((x : A) → f x ≡ g x) → (a : List A) → any f a ≡ any g a
any_ext f g h [] = refl
any_ext f g h (x ∷ a) = ap₂ ◌||◌ (h x) (any_ext f g h a)

-- some of a list passes exactly where its word is not 0
any_word : {A : Type 0} (t : A → Bool) (xs : List A) → any t xs ≡ ltb 0 (word_of t xs)
any_word t [] = refl
any_word t (x ∷ xs) = go (t x) (any_word t xs)
  where
    go : (b : Bool) → any t xs ≡ ltb 0 (word_of t xs) → (b || any t xs) ≡ ltb 0 ((if b then 1 otherwise 0) + 2 * word_of t xs)
    go true r = sym (lt-ltb 0 (1 + 2 * word_of t xs) (omega arith))
    go false r =
        r ∙ split (ltb 0 (word_of t xs))
        (λ e. e ∙ sym (lt-ltb 0 (0 + 2 * word_of t xs) (omega (arith, ltb-true 0 (word_of t xs) e))))
        (λ e. e ∙ sym (le-ltb 0 (0 + 2 * word_of t xs) (omega (arith, ltb-false 0 (word_of t xs) e))))

-- the data word of a node of the tidy pool
abbrev pub data_word : List Entry → Prefix → ℕ
data_word es p = word_of (is_here es) (data_prefixes p)

-- its child word
abbrev pub child_word : List Entry → Prefix → ℕ
child_word es p = word_of (is_under es) (child_prefixes p)

module _ (es : List Entry) (s : Sound top es) where
  -- a node counts as many children and values as its words have ones
  pub pool_step : (p : Prefix) (ps : List Prefix) (c v : ℕ)
      → pool_from es (p ∷ ps) c v ≡ data_word es p ∷ child_word es p ∷ (1 + c) ∷ v ∷ pool_from es ps (c + ones (child_word es p)) (v + ones (data_word es p))
  pool_step p ps c v =
      let a : length (children_of es p) ≡ ones (child_word es p) = sym (ones_word (is_under es) (child_prefixes p) (omega (arith, child_count p))) in
      let b : length (entries_in es p) ≡ ones (data_word es p) = count_onto es s.ascend (data_prefixes p) ∙ sym (ones_word (is_here es) (data_prefixes p) (omega (arith, data_count p))) in
      ap₂ (λ (x y : ℕ). data_word es p ∷ child_word es p ∷ (1 + c) ∷ v ∷ pool_from es ps (c + x) (v + y)) a b

  -- an entry lies in a node or below it exactly where one of its two words is not 0
  pub used_words : (k : ℕ) (p : Prefix) → Deep (suc k) p → is_under es p ≡ (ltb 0 (data_word es p) || ltb 0 (child_word es p))
  used_words k p d =
      any_full (λ e. leads p e.at) es
      ∙ full_length (under p es) (entries_in es p ++ each (λ q. under q es) (child_prefixes p))
      (under_count es s p d.0 (omega (arith, d.1)) ∙ sym (length-append (entries_in es p) (each (λ q. under q es) (child_prefixes p))))
      ∙ full_append (entries_in es p) (each (λ q. under q es) (child_prefixes p))
      ∙ ap₂ ◌||◌
      (full_each (onto es) (data_prefixes p) ∙ any_ext (λ q. full (onto es q)) (is_here es) (λ q. sym (any_full (λ e. same q e.at) es)) (data_prefixes p) ∙ any_word (is_here es) (data_prefixes p))
      (full_each (λ q. under q es) (child_prefixes p) ∙ any_ext (λ q. full (under q es)) (is_under es) (λ q. sym (any_full (λ e. leads q e.at) es)) (child_prefixes p) ∙ any_word (is_under es) (child_prefixes p))

-- ---- a prefix and the root
module _ (w : List ℕ) (root q : Prefix) where
  -- inside the view everything is kept
  pub under_inside : leads root q ≡ true → under q (view w root) ≡ under q (all_entries w)
  under_inside h = keep_within (λ e. leads q e.at) (λ e. leads root e.at) (all_entries w) (λ (e : Entry) t. leads_trans root q e.at h t)

  -- on the way to the root lies the whole view
  pub under_path : leads q root ≡ true → under q (view w root) ≡ view w root
  under_path h =
      keep_true (λ e. leads q e.at) (all_imp (λ (e : Entry) t. leads_trans q root e.at h t) (all_unmap (λ (e : Entry). e.at) (view w root) (view_led w root)))

  -- elsewhere nothing
  pub under_outside : leads root q ≡ false → leads q root ≡ false → under q (view w root) ≡ []
  under_outside a b =
      keep_false (λ e. leads q e.at)
      (all_imp (λ (e : Entry) t. is_false _ (λ h. ⊎_elim (λ c. not_both c a) (λ c. not_both c b) (comparable root q e.at t h))) (all_unmap (λ (e : Entry). e.at) (view w root) (view_led w root)))

-- ---- a node

-- data bit b of node i, of prefix p, is set, and the root leads its prefix
abbrev pub taken : List ℕ → Prefix → ℕ → Prefix → ℕ → Bool
taken w root i p b = bit b (data_of w i) && leads root (get_or (data_prefixes p) b top)

-- child bit c is set, and the child has an entry of the view in it or below it, so many levels deep
abbrev pub kept : List ℕ → Prefix → ℕ → ℕ → Prefix → ℕ → Bool
kept w root levels i p c = bit c (child_of w i) && full (under root (entries_at w levels (first_child w i + rank c (child_of w i)) (deeper p 5 c)))

module _ (w : List ℕ) (root : Prefix) (levels i : ℕ) (p : Prefix) (s : Seen w (suc levels) i p) where
  abbrev es : List Entry
  es = view w root

  abbrev x : ℕ
  x = data_of w i

  view_data : (n v : ℕ) → n < 5 → v < 2 ^ n
      → onto es (deeper p n v) ≡ (if taken w root i p (data_bit n v) then record { at = deeper p n v; value = first_value w i + rank (data_bit n v) x } ∷ [] otherwise [])
  view_data n v h l =
      keep_swap (λ e. same (deeper p n v) e.at) (λ e. leads root e.at) (all_entries w)
      ∙ ap (under root) (seen_data w levels i p s n v h l)
      ∙ split (bit (data_bit n v) x)
      (λ b. split (leads root (deeper p n v)) (λ t. rw (b, (data_bit_lem p n v top h l).1, t)) (λ t. rw (b, (data_bit_lem p n v top h l).1, t))) (λ b. rw b)

  -- the data word
  pub view_word : data_word es p ≡ word_of (taken w root i p) (up_to 31)
  unfolding data_prefixes
  view_word =
      word_map (is_here es) (data_prefixes p)
      ∙ ap (word_of (λ b. b))
      (map_rows (is_here es) (deeper p) (taken w root i p) data_bit 5
      (λ n v h l. any_full (λ e. same (deeper p n v) e.at) es ∙ ap full (view_data n v h l) ∙ split (taken w root i p (data_bit n v)) (λ b. rw b) (λ b. rw b)))
      ∙ sym (word_map (taken w root i p) (up_to 31))

  -- the values, in the order of the data bits
  pub view_values : map (λ e. e.value) (entries_in es p) ≡ each (λ b. if taken w root i p b then (first_value w i + rank b x) ∷ [] otherwise []) (up_to 31)
  unfolding data_prefixes
  view_values =
      map_each (λ (e : Entry). e.value) (onto es) (data_prefixes p)
      ∙ each_join (λ q. map (λ (e : Entry). e.value) (onto es q)) (data_prefixes p)
      ∙ ap (each (λ l. l))
      (map_rows (λ q. map (λ (e : Entry). e.value) (onto es q)) (deeper p) (λ b. if taken w root i p b then (first_value w i + rank b x) ∷ [] otherwise []) data_bit 5
      (λ n v h l. ap (map (λ (e : Entry). e.value)) (view_data n v h l) ∙ split (taken w root i p (data_bit n v)) (λ b. rw b) (λ b. rw b)))
      ∙ sym (each_join (λ b. if taken w root i p b then (first_value w i + rank b x) ∷ [] otherwise []) (up_to 31))

  -- the child word
  pub view_kids : child_word es p ≡ word_of (kept w root levels i p) (up_to 32)
  unfolding child_prefixes
  view_kids =
      word_map (is_under es) (child_prefixes p)
      ∙ ap (word_of (λ b. b)) (map_map (is_under es) (deeper p 5) (up_to 32) ∙ map_on (λ c. is_under es (deeper p 5 c)) (kept w root levels i p) one (all_up_to 32))
      ∙ sym (word_map (kept w root levels i p) (up_to 32))
    where
      one : (c : ℕ) → c < 32 → is_under es (deeper p 5 c) ≡ kept w root levels i p c
      one c l =
          any_full (λ e. leads (deeper p 5 c) e.at) es
          ∙ ap full (under_view w root (deeper p 5 c) ∙ ap (under root) (seen_child w levels i p s c l))
          ∙ split (bit c (child_of w i)) (λ b. rw b) (λ b. rw b)

  -- the entries of the view in the node and below it
  pub view_held : under p es ≡ under root (entries_at w (suc levels) i p)
  view_held = under_view w root p ∙ ap (under root) s.held

  -- ---- a node inside the view
  module _ (inside : leads root p ≡ true) where
    inside_onto : (n v : ℕ) → n < 5 → v < 2 ^ n → onto es (deeper p n v) ≡ onto (all_entries w) (deeper p n v)
    inside_onto n v h l =
        let q = deeper p n v in
        keep_within (λ e. same q e.at) (λ e. leads root e.at) (all_entries w)
        (λ (e : Entry) t. ap (leads root) (sym (same_says q e.at t)) ∙ leads_trans root p q inside (leads_deeper p s.deep.0 n (omega (arith, s.deep.1)) v l))

    -- it keeps its entries
    pub inside_entries : entries_in es p ≡ entries_in (all_entries w) p
    unfolding data_prefixes
    inside_entries =
        each_join (onto es) (data_prefixes p)
        ∙ ap (each (λ l. l)) (map_rows (onto es) (deeper p) (onto (all_entries w)) (deeper p) 5 inside_onto)
        ∙ sym (each_join (onto (all_entries w)) (data_prefixes p))

    -- its data word
    pub inside_word : x < 2 ^ 31 → data_word es p ≡ x
    unfolding data_prefixes
    inside_word small =
        word_map (is_here es) (data_prefixes p)
        ∙ ap (word_of (λ b. b))
        (map_rows (is_here es) (deeper p) (is_here (all_entries w)) (deeper p) 5
        (λ n v a b. any_full (λ e. same (deeper p n v) e.at) es ∙ ap full (inside_onto n v a b) ∙ sym (any_full (λ e. same (deeper p n v) e.at) (all_entries w))))
        ∙ sym (word_map (is_here (all_entries w)) (data_prefixes p))
        ∙ sym (data_word_lem w levels i p s small)

    -- and its values
    pub inside_values : x < 2 ^ 31 → map (λ e. e.value) (entries_in es p) ≡ run (first_value w i) (ones x)
    inside_values small = ap (map (λ (e : Entry). e.value)) inside_entries ∙ in_values w levels i p s small

    -- what lies in it and below it
    pub inside_held : under p es ≡ entries_at w (suc levels) i p
    inside_held = under_inside w root p inside ∙ s.held
