-- The tidy pool written from the source's nodes in order: its nodes level by level as ranges of node numbers, its words and its values.
use Rattle.std.specs.Prelude.{◌≡◌, refl, Bool, List, [], ◌∷◌, map, ℕ, ◌+◌, ◌-◌, ◌≤◌, length}
use Rattle.std.proofs.Common.{sym, ap₂, ◌∙◌, arith}
use Rattle.std.proofs.Math.Path.{ap}
use Rattle.std.proofs.lemmas.List.{length-map}
use Rattle.defs.specs.declared.Prefix.{Prefix}
use Rattle.defs.specs.Basics.{keep, each}
use Rattle.defs.specs.Pool.{node_count, ones}
use Rattle.defs.specs.Entries.{Entry, view}
use Rattle.defs.specs.Tidy.{is_under, entries_in, children_of, pool_from, tidy_pool, tidy_values}
use Rattle.defs.specs.Lemmas.{All, nil, more, all_imp, all_map, keep_map, map_map, map_on}
use Rattle.pool.specs.Sound.{Formed, children_before}
use Rattle.tidied.specs.ListFacts.{run, run_below, length_run, all_at, all_each, each_map, map_each}
use Rattle.tidied.specs.Holds.{view_sound}
use Rattle.tidied.specs.Spots.{Spot, root_spot, ids, spots_under, used, formed_laid, spots_count, spots_seen, below_run_lem, level_used}
use Rattle.tidied.specs.Source.{prefix_at, spot_at, id_at, Own, kids_own, nodes_in_order}
use Rattle.tidied.specs.Copying.{data_word, child_word, pool_step}

-- ---- words from node numbers

-- the words of nodes with these data and child words, after nodes with so many children and values
abbrev pub copy_from : (ℕ → ℕ) → (ℕ → ℕ) → List ℕ → ℕ → ℕ → List ℕ
copy_from datas kids [] children values = []
copy_from datas kids (i ∷ is) children values =
    datas i ∷ kids i ∷ (1 + children) ∷ values ∷ copy_from datas kids is (children + ones (kids i)) (values + ones (datas i))

-- node i has an entry of the view in it or below it
abbrev pub used_at : List ℕ → Prefix → ℕ → Bool
used_at w root i = is_under (view w root) (prefix_at w i)

-- the numbers of the source's nodes that the tidy pool has
abbrev pub tidy_nodes : List ℕ → Prefix → List ℕ
tidy_nodes w root = 0 ∷ keep (used_at w root) (run 1 (node_count w - 1))

module _ (width : ℕ) (w : List ℕ) (most : width ≤ 64) (ok : Formed width w) where
  abbrev at : ℕ → Spot
  at = spot_at w

  -- a list of spots by their numbers
  own_list : {ss : List Spot} → All (Own w) ss → ss ≡ map at (ids ss)
  own_list nil = refl
  own_list (more h hs) = ap₂ ◌∷◌ (sym h) (own_list hs)

  -- the children of a range of nodes are a range
  kids_range : (a m : ℕ) → a + m ≤ node_count w
      → each (spots_under w) (map at (run a m)) ≡ map at (run (1 + children_before w a) (children_before w (a + m) - children_before w a))
  kids_range a m h =
      let c = spots_count width w ok most in
      let ss = map at (run a m) in
      let l : length ss ≡ m = length-map (run a m) at ∙ length_run a m in
      let e : ids ss ≡ run a (length ss) =
      map_map (λ (s : Spot). s.node) at (run a m) ∙ map_on (λ i. (at i).node) (λ i. i) (λ i k. id_at width w most ok i k) (run_below a m (node_count w) h) ∙ map_same (run a m) ∙ ap (run a) (sym l) in
      let b = below_run_lem w (formed_laid width w ok) ss a e (omega arith) in
      let n : length (each (spots_under w) ss) ≡ children_before w (a + m) - children_before w a = omega (arith, b.count, ap (λ (x : ℕ). children_before w (a + x)) l) in
      own_list (all_each (spots_under w) (λ s k. k) (all_map at (all_imp (λ i k. all_at (kids_own width w most ok) i root_spot (omega arith)) (run_below a m (node_count w) h))))
      ∙ ap (map at) (b.numbers ∙ ap (run (1 + children_before w a)) n)
    where
      map_same : (l : List ℕ) → map (λ i. i) l ≡ l
      map_same [] = refl
      map_same (x ∷ l) = ap (x ∷◌) (map_same l)

  module _ (root : Prefix) where
    used_numbers : (l : List ℕ) → map (λ (s : Spot). s.at) (keep (used w root) (map at l)) ≡ map (prefix_at w) (keep (used_at w root) l)
    unfolding prefix_at
    used_numbers l = ap (map (λ (s : Spot). s.at)) (keep_map (used w root) at l) ∙ map_map (λ (s : Spot). s.at) at (keep (λ i. used w root (at i)) l)

    -- one level down: the tidy nodes among the nodes a, .., a + m - 1 have as children the tidy nodes among those nodes' children
    pub next_range : (a m : ℕ) → a + m ≤ node_count w
        → each (children_of (view w root)) (map (prefix_at w) (keep (used_at w root) (run a m)))
        ≡ map (prefix_at w) (keep (used_at w root) (run (1 + children_before w a) (children_before w (a + m) - children_before w a)))
    next_range a m h =
        let c = spots_count width w ok most in
        ap (each (children_of (view w root))) (sym (used_numbers (run a m)))
        ∙ level_used w root (all_map at (all_imp (λ i k. all_at (spots_seen w) i root_spot (omega arith)) (run_below a m (node_count w) h)))
        ∙ ap (λ (ss : List Spot). map (λ (s : Spot). s.at) (keep (used w root) ss)) (kids_range a m h)
        ∙ used_numbers (run (1 + children_before w a) (children_before w (a + m) - children_before w a))

    copied : (is : List ℕ) (c v : ℕ)
        → pool_from (view w root) (map (prefix_at w) is) c v
        ≡ copy_from (λ i. data_word (view w root) (prefix_at w i)) (λ i. child_word (view w root) (prefix_at w i)) is c v
    copied [] c v = refl
    copied (i ∷ is) c v =
        let es = view w root in
        let p = prefix_at w i in
        let s = view_sound w root in
        pool_step es s p (map (prefix_at w) is) c v
        ∙ ap (λ (l : List ℕ). data_word es p ∷ child_word es p ∷ (1 + c) ∷ v ∷ l) (copied is (c + ones (child_word es p)) (v + ones (data_word es p)))

    -- the tidy pool, node by node in the source's order
    pub tidy_copies : tidy_pool (view w root)
        ≡ copy_from (λ i. data_word (view w root) (prefix_at w i)) (λ i. child_word (view w root) (prefix_at w i)) (tidy_nodes w root) 0 0
    tidy_copies = ap (λ (ps : List Prefix). pool_from (view w root) ps 0 0) (nodes_in_order width w most ok root) ∙ copied (tidy_nodes w root) 0 0

    -- and its values
    pub values_copied : tidy_values (view w root) ≡ each (λ i. map (λ e. e.value) (entries_in (view w root) (prefix_at w i))) (tidy_nodes w root)
    values_copied =
        ap (λ (ps : List Prefix). map (λ (e : Entry). e.value) (each (entries_in (view w root)) ps)) (nodes_in_order width w most ok root)
        ∙ ap (map (λ (e : Entry). e.value)) (each_map (entries_in (view w root)) (prefix_at w) (tidy_nodes w root))
        ∙ map_each (λ (e : Entry). e.value) (λ i. entries_in (view w root) (prefix_at w i)) (tidy_nodes w root)
