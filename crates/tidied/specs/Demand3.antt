-- Demand 3: what tidying promises (document 01, D7). Each theorem stands under its meaning in plain words.
use Rattle.std.specs.Prelude.{◌≡◌, true, List, [], map, ℕ, ◌+◌, ◌-◌, ◌*◌, ◌^◌, ◌≤◌, ◌<◌, length, get_or}
use Rattle.std.proofs.Common.{sym, ap, ◌∙◌, subst, arith, le_trans, length-drop, get_or-drop}
use Rattle.std.proofs.Math.Seq.{take-length}
use Rattle.defs.specs.declared.Prefix.{Prefix}
use Rattle.defs.specs.Basics.{each, up_to}
use Rattle.defs.specs.Prefix.{top}
use Rattle.defs.specs.Pool.{node_count}
use Rattle.defs.specs.Entries.{Entry, entries_at, all_entries, view, prefixes}
use Rattle.defs.specs.Check.{pool_limit, fault_of}
use Rattle.defs.specs.Lists.{same_keys}
use Rattle.defs.specs.Tidy.{is_under, entries_in, nodes_of, tidy_pool, tidy_values}
use Rattle.defs.specs.Lemmas.{All}
use Rattle.defs.specs.EntryLaws.{Sound}
use Rattle.defs.proofs.EntryLaws.{view_ascends}
use Rattle.pool.specs.Sound.{Formed, formed, values_before, values_small}
use Rattle.tidied.specs.ListFacts.{all_at}
use Rattle.tidied.specs.Layout.{pool_length, nodes_fix, all_used}
use Rattle.tidied.specs.Holds.{holds_all, view_sound}
use Rattle.tidied.specs.Same.{tidy_same, keys_prefixes, pools_keys, pool_again, tidy_prefixes as same-prefixes}
use Rattle.tidied.specs.Count.{values_count}
use Rattle.tidied.specs.NoFault.{no_fault}
use Rattle.tidied.specs.Fit.{view_short}
use Rattle.tidied.specs.Spots.{nodes_fit, formed_laid}
use Rattle.tidied.specs.Again.{pool_nodes, pool_used, values_before_lem, values_again, values_fixed}
use Rattle.tidied.specs.Unique.{own_tidy}
use Rattle.tidied.specs.Small.{tidy_words_lt, nodes_filled}

-- The tidy pool of a view holds exactly the view's entries, if each value is taken through the value list. The words may be any.
pub tidy_holds : (w : List ℕ) (root : Prefix) → let es = view w root in
    map (λ e. record { at = e.at; value = get_or (tidy_values es) e.value 0 }) (all_entries (tidy_pool es)) ≡ es
tidy_holds w root = holds_all (view w root) (view_sound w root)

-- No other value list of this length gives the view's entries.
pub tidy_values_unique : (w : List ℕ) (root : Prefix) (vs : List ℕ) → let es = view w root in
    length vs ≡ length es → map (λ e. record { at = e.at; value = get_or vs e.value 0 }) (all_entries (tidy_pool es)) ≡ es → vs ≡ tidy_values es
tidy_values_unique w root vs l h = values_fixed (view w root) (view_sound w root) vs l h

-- So its entries have exactly the view's prefixes.
pub tidy_prefixes : (w : List ℕ) (root : Prefix) → prefixes (all_entries (tidy_pool (view w root))) ≡ prefixes (view w root)
tidy_prefixes w root = same-prefixes (view w root) (view_sound w root)

-- It has four words for each node.
pub tidy_words : (es : List Entry) → length (tidy_pool es) ≡ 4 * length (nodes_of es)
tidy_words es = pool_length es (nodes_of es) 0 0

-- Its value list has one index for each entry of the view.
pub tidy_entries_lem : (w : List ℕ) (root : Prefix) → length (tidy_values (view w root)) ≡ length (view w root)
tidy_entries_lem w root = values_count (view w root) (view_sound w root)

-- Its nodes never outnumber those of the source pool.
pub tidy_size : (width : ℕ) (w : List ℕ) (root : Prefix) → (fault_of width w).number ≡ 0 → length (nodes_of (view w root)) ≤ node_count w
tidy_size width w root h = nodes_fit w root (formed_laid width w (formed width w h))

-- It is well-formed where the source pool is.
pub tidy_no_fault : (width : ℕ) (w : List ℕ) (root : Prefix) → (fault_of width w).number ≡ 0 → (fault_of width (tidy_pool (view w root))).number ≡ 0
tidy_no_fault width w root h =
    no_fault (view w root) (view_sound w root) width (view_short width w root h) (le_trans (tidy_size width w root h) (formed width w h).most)

-- Every node but the root, node 0, has an entry in it or below it.
pub tidy_used : (es : List Entry) (i : ℕ) → 0 < i → i < node_count (tidy_pool es) → is_under es (get_or (nodes_of es) i top) ≡ true
tidy_used es i s h =
    let e : 1 + (i - 1) ≡ i = omega arith in
    subst (λ (x : ℕ). is_under es (get_or (nodes_of es) x top) ≡ true) e
    (ap (is_under es) (sym (get_or-drop 1 (nodes_of es) (i - 1) top)) ∙ all_at (all_used es) (i - 1) top (omega (arith, length-drop 1 (nodes_of es), tidy_words es)))

-- Two views with the same prefixes have one tidy pool.
pub same_tidy : (w w' : List ℕ) (root root' : Prefix) → same_keys (view w root) (view w' root') ≡ true → tidy_pool (view w root) ≡ tidy_pool (view w' root')
same_tidy w w' root root' h =
    tidy_same (view w root) (view w' root') (keys_prefixes (view w root) (view w' root') (view_ascends w root) (view_ascends w' root') h)

-- And two views with one tidy pool have the same prefixes.
pub tidy_same_keys : (w w' : List ℕ) (root root' : Prefix) → tidy_pool (view w root) ≡ tidy_pool (view w' root') → same_keys (view w root) (view w' root') ≡ true
tidy_same_keys w w' root root' h = pools_keys (view w root) (view w' root') (view_sound w root) (view_sound w' root') h

-- A tidy pool tidied at 0/0 is itself.
pub tidy_again : (w : List ℕ) (root : Prefix) → let es = view w root in tidy_pool (view (tidy_pool es) top) ≡ tidy_pool es
tidy_again w root = pool_again (view w root) (view_sound w root)

-- And its value list is then 0, 1, 2, .. .
pub tidy_again_values : (w : List ℕ) (root : Prefix) → let es = view w root in tidy_values (view (tidy_pool es) top) ≡ up_to (length es)
tidy_again_values w root = values_again (view w root) (view_sound w root)

-- D7 in its own words: a well-formed pool of u32 words, of exactly these prefixes, in which every node but the root has an entry in it
-- or below it. Thirteen levels reach below every node, and whether there is an entry does not hang on the prefix given.
pub record IsTidy (width : ℕ) (ps : List Prefix) (w : List ℕ) : Type 0 where
  pub fits : All (λ x. x < 2 ^ 32) w
  pub faultless : (fault_of width w).number ≡ 0
  pub holds : prefixes (all_entries w) ≡ ps
  pub used : (i : ℕ) → 0 < i → i < node_count w → entries_at w 13 i top ≡ [] → ⊥

-- The tidy pool of a view of a well-formed pool is such a pool.
pub tidy_is : (width : ℕ) (w : List ℕ) (root : Prefix) → width ≤ 64 → (fault_of width w).number ≡ 0 → IsTidy width (prefixes (view w root)) (tidy_pool (view w root))
tidy_is width w root most h =
    record {
      fits = tidy_words_lt es (omega (arith, ap length (nodes_fix es s), few)) (omega (arith, values, values_small width pool ok (node_count pool) (omega arith), pool_nodes es s, few));
      faultless = tidy_no_fault width w root h;
      holds = tidy_prefixes w root;
      used = nodes_filled width pool most ok (pool_used es s);
    }
  where
    es : List Entry
    es = view w root

    s : Sound top es
    s = view_sound w root

    pool : List ℕ
    pool = tidy_pool es

    ok : Formed width pool
    ok = formed width pool (tidy_no_fault width w root h)

    few : length (nodes_of es) ≤ pool_limit
    few = le_trans (tidy_size width w root h) (formed width w h).most

    values : values_before pool (node_count pool) ≡ length (each (entries_in es) (nodes_of es))
    values =
        ap (values_before pool) (pool_nodes es s) ∙ values_before_lem es s (length (nodes_of es)) (omega arith)
        ∙ ap (λ (l : List Prefix). length (each (entries_in es) l)) (take-length (nodes_of es))

-- And there is no other: such a pool is, word for word, the tidy pool of any entries with these prefixes.
pub tidy_unique : (width : ℕ) (es : List Entry) (w : List ℕ) → width ≤ 64 → IsTidy width (prefixes es) w → w ≡ tidy_pool es
tidy_unique width es w most t = own_tidy width w most (formed width w t.faultless) t.fits t.used ∙ tidy_same (all_entries w) es t.holds
