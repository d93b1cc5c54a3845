-- The words of a tidy pool fit 32 bits, and each of its nodes but the root has an entry in it or below it.
use Rattle.std.specs.Prelude.{◌≡◌, refl, true, List, [], ◌∷◌, map, ℕ, suc, ◌+◌, ◌^◌, ◌≤◌, ◌<◌, length}
use Rattle.std.proofs.Common.{sym, ap, ◌∙◌, subst, arith, lt_of_lt_of_le, pow_mono, length-append}
use Rattle.defs.specs.declared.Prefix.{Prefix}
use Rattle.defs.specs.Basics.{each}
use Rattle.defs.specs.Prefix.{leads, top}
use Rattle.defs.specs.Pool.{node_count}
use Rattle.defs.specs.Check.{pool_limit}
use Rattle.defs.specs.Entries.{Entry, entries_at, all_entries}
use Rattle.defs.specs.Tidy.{data_prefixes, child_prefixes, is_under, entries_in, children_of, nodes_of, word_of, pool_from, tidy_pool}
use Rattle.defs.specs.Lemmas.{All, nil, more, not_both, all_imp, all_both, all_map}
use Rattle.defs.proofs.EntryLaws.{sound_all}
use Rattle.pool.specs.Sound.{Formed, depth}
use Rattle.tidied.specs.ListFacts.{full, any_full, run, run_member, all_tail}
use Rattle.tidied.specs.Words.{word_lt}
use Rattle.tidied.specs.Halving.{under_top}
use Rattle.tidied.specs.Layout.{is_here, data_count, child_count}
use Rattle.tidied.specs.Spots.{Spot, ids, inner_spots, used, formed_laid, SeenSome, spots_run, spots_count, spots_placed, spots_seen}
use Rattle.tidied.specs.Unique.{alike}

-- ---- words
module _ (es : List Entry) where
  data_lt : (p : Prefix) → word_of (is_here es) (data_prefixes p) < 2 ^ 32
  data_lt p =
      let h = subst (λ (x : ℕ). word_of (is_here es) (data_prefixes p) < 2 ^ x) (data_count p) (word_lt (is_here es) (data_prefixes p)) in
      lt_of_lt_of_le h (pow_mono {i = 31} {j = 32} (omega arith))

  child_lt : (p : Prefix) → word_of (is_under es) (child_prefixes p) < 2 ^ 32
  child_lt p = subst (λ (x : ℕ). word_of (is_under es) (child_prefixes p) < 2 ^ x) (child_count p) (word_lt (is_under es) (child_prefixes p))

  -- where the counts of all nodes fit, so do the words
  words_lt : (ps : List Prefix) (c v : ℕ) → 1 + (c + length (each (children_of es) ps)) < 2 ^ 32 → v + length (each (entries_in es) ps) < 2 ^ 32
      → All (λ x. x < 2 ^ 32) (pool_from es ps c v)
  words_lt [] c v h k = nil
  words_lt (p ∷ ps) c v h k =
      let a = length-append (children_of es p) (each (children_of es) ps) in
      let b = length-append (entries_in es p) (each (entries_in es) ps) in
      let f : 1 + c < 2 ^ 32 = omega arith in
      let g : v < 2 ^ 32 = omega arith in
      more (data_lt p) (more (child_lt p) (more f (more g (words_lt ps (c + length (children_of es p)) (v + length (entries_in es p)) (omega arith) (omega arith)))))

  pub tidy_words_lt : length (each (children_of es) (nodes_of es)) < pool_limit → length (each (entries_in es) (nodes_of es)) < 2 ^ 32 → All (λ x. x < 2 ^ 32) (tidy_pool es)
  tidy_words_lt h k = words_lt (nodes_of es) 0 0 (omega arith) (omega arith)

-- ---- used nodes
-- where all spots but the root are used, each node but the root has an entry in it or below it
module _ (width : ℕ) (w : List ℕ) (most : width ≤ 64) (ok : Formed width w) (all-used : All (λ s. used w top s ≡ true) (inner_spots w)) where
  abbrev Filled : ℕ → Type 0
  Filled i = entries_at w 13 i top ≡ [] → ⊥

  spot_filled : (s : Spot) → SeenSome w s → (s.node < node_count w) × (depth w s.node ≡ s.at.len) → used w top s ≡ true → Filled s.node
  spot_filled s k p u z =
      let l = entries_at w (suc k.0) s.node s.at in
      let e : map (λ (e : Entry). e.value) l ≡ [] =
      alike width w most ok (suc k.0) 13 s.node s.at top p.0 (omega (arith, p.1, k.1.deep.1)) (omega arith) ∙ ap (map (λ (e : Entry). e.value)) z in
      let f : full l ≡ true =
      sym (ap (λ (l : List Entry). is_under l s.at) (under_top (all_entries w) (sound_all w)) ∙ any_full (λ e. leads s.at e.at) (all_entries w) ∙ ap full k.1.held) ∙ u in
      none l e f
    where
      none : (l : List Entry) → map (λ (e : Entry). e.value) l ≡ [] → full l ≡ true → ⊥
      none [] e f = not_both f refl
      none (x ∷ l) e f = omega (arith, ap length e)

  pub nodes_filled : (i : ℕ) → 0 < i → i < node_count w → entries_at w 13 i top ≡ [] → ⊥
  nodes_filled i s h =
      let e : ids (inner_spots w) ≡ run 1 (length (inner_spots w)) = cc (spots_run w (formed_laid width w ok)) in
      let c = spots_count width w ok most in
      let a = all_both (all_both (all_tail (spots_seen w)) (all_tail (spots_placed width w ok most))) all-used in
      run_member 1 (length (inner_spots w))
      (subst (All Filled) e (all_map {P = Filled} (λ (s : Spot). s.node) (all_imp (λ (s : Spot) k. spot_filled s k.0.0 k.0.1 k.1) a))) i s (omega arith)
