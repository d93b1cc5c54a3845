-- Demand 3: what tidying promises, D7, and how key equality, D6, goes with it (document 01, "Views and the seven answers").
use Rattle.std.specs.Prelude.{Bool, ◌≡◌, true, List, [], ◌∷◌, ◌++◌, map, ◌↔◌, ℕ, ◌*◌, ◌/◌, ◌≤◌, ◌<◌, length, get_or, drop}
use Rattle.std.proofs.Common.{sym, ◌∙◌, ap, arith}
use Rattle.defs.specs.declared.Prefix.{Prefix}
use Rattle.defs.specs.declared.Answer.{Answer}
use Rattle.defs.specs.Basics.{if◌then◌otherwise◌, up_to}
use Rattle.defs.specs.Prefix.{top}
use Rattle.defs.specs.Pool.{node_count}
use Rattle.defs.specs.Entries.{Entry, all_entries, view, prefixes}
use Rattle.defs.specs.Lists.{same_keys}
use Rattle.defs.specs.Tidy.{is_under, nodes_of, tidy_pool, tidy_values}
use Rattle.defs.specs.Outcome.{Side, answer, entries_of, equal_outcome, tidy_outcome}
use Rattle.defs.proofs.EntryLaws.{view_ascends}
use Rattle.tidied.specs.Demand3 as tidied
use Rattle.claims.specs.Terms.{GoodWidth, WellFormed, HasEntry, tidy_nodes, tidy_entries}
use Rattle.claims.specs.Demand1.{equal_0, tidy_0, tidy_done, tidy_done_values}
use Rattle.claims.specs.Equal.{keys_say, keys_of, answers_yes, answers_no, empty_pool, empty_values}

-- ---- The tidy pool of a view
module _ (w : List ℕ) (root : Prefix) where
  -- The tidy pool of a view holds exactly the view's entries, each value being taken through the value list.
  pub tidy_holds : let es = view w root in map (λ e. record { at = e.at; value = get_or (tidy_values es) e.value 0 }) (all_entries (tidy_pool es)) ≡ es
  tidy_holds = tidied.tidy_holds w root

  -- So it holds exactly the view's prefixes.
  pub tidy_prefixes : prefixes (all_entries (tidy_pool (view w root))) ≡ prefixes (view w root)
  tidy_prefixes = tidied.tidy_prefixes w root

  -- Its value list has one index for each entry of the view.
  pub tidy_value_count : length (tidy_values (view w root)) ≡ length (view w root)
  tidy_value_count = tidied.tidy_entries_lem w root

  -- No other value list of that length gives the view's entries.
  pub tidy_values_unique : (vs : List ℕ) → let es = view w root in length vs ≡ length es
      → map (λ e. record { at = e.at; value = get_or vs e.value 0 }) (all_entries (tidy_pool es)) ≡ es → vs ≡ tidy_values es
  tidy_values_unique vs l h = tidied.tidy_values_unique w root vs l h

  -- It has four words for each node.
  pub tidy_words : length (tidy_pool (view w root)) ≡ 4 * length (nodes_of (view w root))
  tidy_words = tidied.tidy_words (view w root)

  -- Every node of it but the root has an entry in it or below it.
  pub tidy_used : (i : ℕ) → 0 < i → i < node_count (tidy_pool (view w root)) → is_under (view w root) (get_or (nodes_of (view w root)) i top) ≡ true
  tidy_used = tidied.tidy_used (view w root)

  -- Tidied again at 0/0 it is itself.
  pub tidy_again : tidy_pool (view (tidy_pool (view w root)) top) ≡ tidy_pool (view w root)
  tidy_again = tidied.tidy_again w root

  -- And its value list is then 0, 1, 2, .. .
  pub tidy_again_values : tidy_values (view (tidy_pool (view w root)) top) ≡ up_to (length (view w root))
  tidy_again_values = tidied.tidy_again_values w root

-- ---- The same for a well-formed pool
module _ (width : ℕ) (w : List ℕ) (root : Prefix) (well : WellFormed width w) where
  -- Its nodes never outnumber the source pool's.
  pub tidy_size : length (nodes_of (view w root)) ≤ node_count w
  tidy_size = tidied.tidy_size width w root well

  -- It is well-formed.
  pub tidy_well_formed : WellFormed width (tidy_pool (view w root))
  tidy_well_formed = tidied.tidy_no_fault width w root well

  -- It is D7 in its own words: a well-formed pool of u32 words, of exactly the view's prefixes, in which every node but the root has an entry in it or below it.
  pub tidy_is : width ≤ 64 → tidied.IsTidy width (prefixes (view w root)) (tidy_pool (view w root))
  tidy_is most = tidied.tidy_is width w root most well

-- And it is the only one: a pool that is D7 in its own words is, word for word, the tidy pool of any entries with these prefixes.
pub tidy_unique : (width : ℕ) (es : List Entry) (w : List ℕ) → width ≤ 64 → tidied.IsTidy width (prefixes es) w → w ≡ tidy_pool es
tidy_unique = tidied.tidy_unique

-- ---- Key equality
module _ (l r : Side) where
  -- D6: key equality says yes exactly when the two views have the same prefixes; values play no part.
  pub same_keys_members : (same_keys (entries_of l) (entries_of r) ≡ true) ↔ ((p : Prefix) → HasEntry p (entries_of l) ↔ HasEntry p (entries_of r))
  same_keys_members = (
    keys_say (entries_of l) (entries_of r) (view_ascends l.pool l.root) (view_ascends r.pool r.root),
    keys_of (entries_of l) (entries_of r) (view_ascends l.pool l.root) (view_ascends r.pool r.root),
  )

  -- Two views have the same prefixes exactly when their tidy pools are the same, word for word.
  pub same_keys_tidy : (same_keys (entries_of l) (entries_of r) ≡ true) ↔ (tidy_pool (entries_of l) ≡ tidy_pool (entries_of r))
  same_keys_tidy = (tidied.same_tidy l.pool r.pool l.root r.root, tidied.tidy_same_keys l.pool r.pool l.root r.root)

  -- Two empty views, at whatever roots, have the same keys and one tidy pool.
  pub empty_views : entries_of l ≡ [] → entries_of r ≡ [] → (same_keys (entries_of l) (entries_of r) ≡ true) × (tidy_pool (entries_of l) ≡ tidy_pool (entries_of r))
  empty_views e f = (rw (e, f), ap tidy_pool (e ∙ sym f))

-- That of an empty view is the root alone, (0, 0, 1, 0), and its value list is empty.
pub empty_view : (s : Side) → entries_of s ≡ [] → (tidy_pool (entries_of s) ≡ 0 ∷ 0 ∷ 1 ∷ 0 ∷ []) × (tidy_values (entries_of s) ≡ [])
empty_view s e = (ap tidy_pool e ∙ empty_pool, ap tidy_values e ∙ empty_values)

-- ---- The calls
module _ (width : ℕ) (l r : Side) (good : GoodWidth width) (well-l : WellFormed width l.pool) (well-r : WellFormed width r.pool)
    (root-l : l.root.len ≤ width) (root-r : r.root.len ≤ width) where
  -- Then the answer is yes or no.
  done : equal_outcome width l r ≡ answer 0 (if same_keys (entries_of l) (entries_of r) then 1 otherwise 0) 0
  done = (equal_0 width l r).whenever (good, (well-l, (well-r, (root-l, root-r))))

  -- Where no refusal is given, key equality answers 1 exactly when the two tidy pools are the same, word for word.
  pub equal_yes : (equal_outcome width l r ≡ answer 0 1 0) ↔ (tidy_pool (entries_of l) ≡ tidy_pool (entries_of r))
  equal_yes = answers_yes (equal_outcome width l r) (same_keys (entries_of l) (entries_of r)) done (tidy_pool (entries_of l) ≡ tidy_pool (entries_of r)) (same_keys_tidy l r)

  -- And it answers 0 exactly when they are not.
  pub equal_no : (equal_outcome width l r ≡ answer 0 0 0) ↔ (tidy_pool (entries_of l) ≡ tidy_pool (entries_of r) → ⊥)
  equal_no = answers_no (equal_outcome width l r) (same_keys (entries_of l) (entries_of r)) done (tidy_pool (entries_of l) ≡ tidy_pool (entries_of r)) (same_keys_tidy l r)

  -- Two empty views, at whatever roots, are answered with 1.
  pub equal_empty : entries_of l ≡ [] → entries_of r ≡ [] → equal_outcome width l r ≡ answer 0 1 0
  equal_empty e f = done ∙ ap (λ (b : Bool). answer 0 (if b then 1 otherwise 0) 0) (empty_views l r e f).0

module _ (width : ℕ) (s : Side) (out values : List ℕ) (good : GoodWidth width) (well : WellFormed width s.pool) (root : s.root.len ≤ width) where
  -- Where there is room, tidying answers the number of nodes, and leaves the tidy pool and the value list at the front of its buffers.
  pub tidy_outcome_lem : tidy_nodes s ≤ length out / 4 → tidy_entries s ≤ length values
      → tidy_outcome width s out values
      ≡ record {
        answer = answer 0 (tidy_nodes s) 0;
        output = tidy_pool (entries_of s) ++ drop (4 * tidy_nodes s) out;
        values = tidy_values (entries_of s) ++ drop (tidy_entries s) values;
      }
  tidy_outcome_lem n e =
      let a : (tidy_outcome width s out values).answer ≡ answer 0 (tidy_nodes s) 0 = (tidy_0 width s out values).whenever (good, (well, (root, (n, e)))) in
      let z : (tidy_outcome width s out values).answer.number ≡ 0 = ap (λ (x : Answer). x.number) a in
      λ i. record { answer = a i; output = tidy_done width s out values z i; values = tidy_done_values width s out values z i }

  -- An output of as many words as the source pool has is never too small.
  pub tidy_fits : length s.pool ≤ length out → tidy_nodes s ≤ length out / 4
  tidy_fits h = omega (arith, tidied.tidy_size width s.pool s.root well)
