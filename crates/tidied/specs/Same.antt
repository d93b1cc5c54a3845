-- The tidy pool looks at prefixes alone: two views have one tidy pool exactly where they have the same prefixes.
use Rattle.std.specs.Prelude.{◌≡◌, refl, Bool, true, ◌||◌, List, [], ◌∷◌, ◌++◌, map, ℕ, zero, suc, ◌+◌, length}
use Rattle.std.proofs.Common.{sym, ap, ◌∙◌}
use Rattle.std.proofs.Math.Bool.{or-true}
use Rattle.std.proofs.lemmas.List.{length-map}
use Rattle.defs.specs.declared.Prefix.{Prefix}
use Rattle.defs.specs.Basics.{keep, any, every, each}
use Rattle.defs.specs.Prefix.{leads, same, top}
use Rattle.defs.specs.Entries.{Entry, all_entries, view, prefixes}
use Rattle.defs.specs.Lists.{is_in, same_keys}
use Rattle.defs.specs.Tidy.{data_prefixes, child_prefixes, is_under, entries_in, children_of, nodes_from, nodes_of, word_of, pool_from, tidy_pool, tidy_values}
use Rattle.defs.specs.Lemmas.{both_ways, All, nil, more, split, not_both, and_left, and_right, all_imp, keep_map, map_map}
use Rattle.defs.specs.PrefixLaws.{same_self, same_says}
use Rattle.defs.specs.OrderLaws.{Ascends}
use Rattle.defs.proofs.OrderLaws.{ascends_unique}
use Rattle.defs.specs.EntryLaws.{Sound}
use Rattle.defs.proofs.EntryLaws.{sound_all}
use Rattle.tidied.specs.ListFacts.{any_map, map_each, each_ext, keep_ext}
use Rattle.tidied.specs.Words.{word_ext}
use Rattle.tidied.specs.Halving.{onto, under_top}
use Rattle.tidied.specs.Holds.{through, holds_all}

module _ (es fs : List Entry) (h : prefixes es ≡ prefixes fs) where
  pub here_same : (q : Prefix) → is_in q es ≡ is_in q fs
  here_same q = sym (any_map (same q) (λ (e : Entry). e.at) es) ∙ ap (any (same q)) h ∙ any_map (same q) (λ (e : Entry). e.at) fs

  pub under_same : (q : Prefix) → is_under es q ≡ is_under fs q
  under_same q = sym (any_map (leads q) (λ (e : Entry). e.at) es) ∙ ap (any (leads q)) h ∙ any_map (leads q) (λ (e : Entry). e.at) fs

  kids_same : (p : Prefix) → children_of es p ≡ children_of fs p
  kids_same p = keep_ext (is_under es) (is_under fs) under_same (child_prefixes p)

  onto_same : (q : Prefix) → prefixes (onto es q) ≡ prefixes (onto fs q)
  onto_same q = sym (keep_map (same q) (λ (e : Entry). e.at) es) ∙ ap (keep (same q)) h ∙ keep_map (same q) (λ (e : Entry). e.at) fs

  -- the entries in a node have the same prefixes
  pub in_same : (p : Prefix) → prefixes (entries_in es p) ≡ prefixes (entries_in fs p)
  in_same p =
      map_each (λ (e : Entry). e.at) (onto es) (data_prefixes p)
      ∙ each_ext (λ q. prefixes (onto es q)) (λ q. prefixes (onto fs q)) onto_same (data_prefixes p)
      ∙ sym (map_each (λ (e : Entry). e.at) (onto fs) (data_prefixes p))

  in_count : (p : Prefix) → length (entries_in es p) ≡ length (entries_in fs p)
  in_count p = sym (length-map (entries_in es p) (λ e. e.at)) ∙ ap length (in_same p) ∙ length-map (entries_in fs p) (λ e. e.at)

  levels_same : (k : ℕ) (ps : List Prefix) → nodes_from es k ps ≡ nodes_from fs k ps
  levels_same zero ps = refl
  levels_same (suc k) ps =
      ap (ps ++◌) (levels_same k (each (children_of es) ps)
      ∙ ap (nodes_from fs k) (each_ext (children_of es) (children_of fs) kids_same ps))

  pub nodes_same : nodes_of es ≡ nodes_of fs
  unfolding nodes_of
  nodes_same = levels_same 13 (top ∷ [])

  words_same : (ps : List Prefix) (c v : ℕ) → pool_from es ps c v ≡ pool_from fs ps c v
  words_same [] c v = refl
  words_same (p ∷ ps) c v =
      rw (word_ext (λ q. is_in q es) (λ q. is_in q fs) here_same (data_prefixes p), word_ext (is_under es) (is_under fs) under_same (child_prefixes p), kids_same p, in_count p)
      (ap (λ (l : List ℕ). word_of (λ q. is_in q fs) (data_prefixes p) ∷ word_of (is_under fs) (child_prefixes p) ∷ (1 + c) ∷ v ∷ l)
      (words_same ps (c + length (children_of fs p)) (v + length (entries_in fs p))))

  -- the tidy pool is fixed by the prefixes
  pub tidy_same : tidy_pool es ≡ tidy_pool fs
  tidy_same = words_same (nodes_of es) 0 0 ∙ ap (λ (ps : List Prefix). pool_from fs ps 0 0) nodes_same

-- the prefixes of entries stay, whatever list their values are taken through
pub through_prefixes : (vs : List ℕ) (es : List Entry) → prefixes (map (through vs) es) ≡ prefixes es
through_prefixes vs es = map_map (λ (e : Entry). e.at) (through vs) es

-- the prefixes of the tidy pool's entries are those that it was made of
pub tidy_keeps : (es : List Entry) (vs : List ℕ) → map (through vs) (all_entries (tidy_pool es)) ≡ es → prefixes (all_entries (tidy_pool es)) ≡ prefixes es
tidy_keeps es vs h = sym (through_prefixes vs (all_entries (tidy_pool es))) ∙ ap prefixes h

-- ---- the same keys

in_own : (a : List Entry) → All (λ e. is_in e.at a ≡ true) a
in_own [] = nil
in_own (x ∷ a) = more (ap (◌|| is_in x.at a) (same_self x.at)) (all_imp (λ (e : Entry) h. rw h (or-true (same e.at x.at))) (in_own a))

every_of : {A : Type 0} (f : A → Bool) {a : List A} → All (λ x. f x ≡ true) a → every f a ≡ true
every_of f nil = refl
every_of f (more h hs) = rw (h, every_of f hs)

-- what is in L is in R, if each of L is
found : (L R : List Entry) → every (λ e. is_in e.at R) L ≡ true → (x : Prefix) → is_in x L ≡ true → is_in x R ≡ true
found [] R h x i = not_both i refl
found (e ∷ L) R h x i =
    split (same x e.at) (λ t. ap (λ (q : Prefix). is_in q R) (same_says x e.at t) ∙ and_left (is_in e.at R) _ h)
    (λ t. found L R (and_right (is_in e.at R) _ h) x (rw t at i))

-- the same keys: the same prefixes
pub keys_prefixes : (L R : List Entry) → Ascends (prefixes L) → Ascends (prefixes R) → same_keys L R ≡ true → prefixes L ≡ prefixes R
keys_prefixes L R a b h =
    ascends_unique (prefixes L) (prefixes R) a b
    (λ x.
    any_map (same x) (λ (e : Entry). e.at) L
    ∙ both_ways (is_in x L) (is_in x R) (found L R (and_left (every (λ e. is_in e.at R) L) _ h) x) (found R L (and_right (every (λ e. is_in e.at R) L) _ h) x)
    ∙ sym (any_map (same x) (λ (e : Entry). e.at) R))

pub prefixes_keys : (L R : List Entry) → prefixes L ≡ prefixes R → same_keys L R ≡ true
prefixes_keys L R h =
    rw (every_of (λ e. is_in e.at R) (all_imp (λ (e : Entry) i. sym (here_same L R h e.at) ∙ i) (in_own L)))
    (every_of (λ e. is_in e.at L) (all_imp (λ (e : Entry) i. here_same L R h e.at ∙ i) (in_own R)))

module _ (es : List Entry) (s : Sound top es) where
  pub tidy_prefixes : prefixes (all_entries (tidy_pool es)) ≡ prefixes es
  tidy_prefixes = tidy_keeps es (tidy_values es) (holds_all es s)

  -- tidied again, it is the same
  pub pool_again : tidy_pool (view (tidy_pool es) top) ≡ tidy_pool es
  pool_again = ap tidy_pool (under_top (all_entries (tidy_pool es)) (sound_all (tidy_pool es))) ∙ tidy_same (all_entries (tidy_pool es)) es tidy_prefixes

-- equal tidy pools: the same keys
pub pools_keys : (L R : List Entry) → Sound top L → Sound top R → tidy_pool L ≡ tidy_pool R → same_keys L R ≡ true
pools_keys L R s t h = prefixes_keys L R (sym (tidy_prefixes L s) ∙ ap (λ (w : List ℕ). prefixes (all_entries w)) h ∙ tidy_prefixes R t)
