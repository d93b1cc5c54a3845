-- The tidy pool's words are laid out as its bits say, and all its nodes are used: tidied again, its values are 0, 1, 2, ..
use Rattle.std.specs.Prelude.{◌≡◌, refl, true, ℕ, zero, suc, ◌+◌, ◌^◌, ◌≤◌, ◌<◌, length, get_or, take}
use Rattle.std.proofs.Math.Path.{sym, ap}
use Rattle.std.proofs.Common.{◌∙◌, subst, arith, length-append, take-suc, ext_get_or}
use mathlib.Core.List.{List, [], ◌∷◌, ◌++◌, map, append-nil}
use Rattle.std.proofs.lemmas.List.{length-map}
use Rattle.std.proofs.Math.Seq.{take-length}
use Rattle.defs.specs.declared.Prefix.{Prefix}
use Rattle.defs.specs.Basics.{each, up_to}
use Rattle.defs.specs.Prefix.{same, deeper, top}
use Rattle.defs.specs.Pool.{node_count, data_of, child_of, bit, ones}
use Rattle.defs.specs.Entries.{Entry, all_entries, view}
use Rattle.defs.specs.Tidy.{data_prefixes, child_prefixes, is_under, entries_in, children_of, nodes_of, word_of, tidy_pool, tidy_values}
use Rattle.defs.specs.Lemmas.{All, nil, more, split, all_imp, all_append, all_map, all_keep, each_append}
use Rattle.defs.specs.EntryLaws.{Sound}
use Rattle.defs.proofs.EntryLaws.{sound_all}
use Rattle.pool.specs.Sound.{children_before, values_before}
use Rattle.tidied.specs.ListFacts.{up_to_member, all_each, each_all, all_up_to}
use Rattle.tidied.specs.Words.{ones_word, word_lt}
use Rattle.tidied.specs.Halving.{onto, under_top}
use Rattle.tidied.specs.Layout.{data_count, child_count, is_here, NodeWords, words_at, pool_length, root_node, nodes_fix}
use Rattle.tidied.specs.Holds.{count_onto, kid_at_lem, through, holds_all}
use Rattle.tidied.specs.Same.{under_same, tidy_prefixes}
use Rattle.tidied.specs.Count.{values_count}
use Rattle.tidied.specs.Spots.{Spot, root_spot, kid_at, kids_at, spots_under, spots_from, inner_spots, used, Laid}
use Rattle.tidied.specs.Reading.{whole_view, values_same}

module _ (es : List Entry) (s : Sound top es) where
  abbrev N : List Prefix
  N = nodes_of es

  abbrev pool : List ℕ
  pool = tidy_pool es

  abbrev kids : Prefix → List Prefix
  kids = children_of es

  abbrev ins : Prefix → List Entry
  ins = entries_in es

  pub pool_nodes : node_count pool ≡ length N
  pool_nodes = omega (arith, pool_length es N 0 0)

  words : (j : ℕ) → j < length N → NodeWords es pool j (get_or N j top) (0 + length (each kids (take j N))) (0 + length (each ins (take j N)))
  words j h = words_at es N 0 0 j top h

  pub child_ones : (j : ℕ) → j < length N → ones (child_of pool j) ≡ length (kids (get_or N j top))
  child_ones j h = ap ones (words j h).childs ∙ ones_word (is_under es) (child_prefixes (get_or N j top)) (omega (arith, child_count (get_or N j top)))

  pub data_ones : (j : ℕ) → j < length N → ones (data_of pool j) ≡ length (ins (get_or N j top))
  data_ones j h =
      ap ones (words j h).datas
      ∙ ones_word (is_here es) (data_prefixes (get_or N j top)) (omega (arith, data_count (get_or N j top)))
      ∙ sym (count_onto es s.ascend (data_prefixes (get_or N j top)))

  one_more : {B : Type 0} (f : Prefix → List B) (j : ℕ) → j < length N → length (each f (take (suc j) N)) ≡ length (each f (take j N)) + length (f (get_or N j top))
  one_more f j h =
      let p = get_or N j top in
      ap (λ (l : List Prefix). length (each f l)) (take-suc N j top h)
      ∙ omega (arith, ap length (each_append f (take j N) (p ∷ [])), length-append (each f (take j N)) (f p ++ []), ap length (append-nil (f p)))

  children_before_lem : (j : ℕ) → j ≤ length N → children_before pool j ≡ length (each kids (take j N))
  children_before_lem zero h = refl
  children_before_lem (suc j) h = omega (arith, children_before_lem j (omega arith), child_ones j h, one_more kids j h)

  pub values_before_lem : (j : ℕ) → j ≤ length N → values_before pool j ≡ length (each ins (take j N))
  values_before_lem zero h = refl
  values_before_lem (suc j) h = omega (arith, values_before_lem j (omega arith), data_ones j h, one_more ins j h)

  pub pool_laid : Laid pool
  pool_laid =
      record {
        some = omega (arith, (root_node es top).0, pool_nodes);
        child = λ i h. (let l : i < length N = omega (arith, pool_nodes) in omega (arith, (words i l).first_c, children_before_lem i (omega arith)));
        value = λ i h. (let l : i < length N = omega (arith, pool_nodes) in omega (arith, (words i l).first_v, values_before_lem i (omega arith)));
        short = λ i h.
            let l : i < length N = omega (arith, pool_nodes) in
            let p = get_or N i top in
            subst (◌< 2 ^ 31) (sym (words i l).datas) (subst (λ (x : ℕ). word_of (is_here es) (data_prefixes p) < 2 ^ x) (data_count p) (word_lt (is_here es) (data_prefixes p)));
        room = room;
      }
    where
      room : 1 + children_before pool (node_count pool) ≤ node_count pool
      room =
          let a : children_before pool (node_count pool) ≡ length (each kids N) =
          ap (children_before pool) pool_nodes ∙ children_before_lem (length N) (omega arith) ∙ ap (λ (l : List Prefix). length (each kids l)) (take-length N) in
          omega (arith, pool_nodes, ap length (nodes_fix es s))

  -- the prefix of a node is that of the list of nodes
  abbrev Placed : Spot → Type 0
  Placed t = (t.node < length N) × (get_or N t.node top ≡ t.at)

  placed_under : (t : Spot) → Placed t → All (λ u. Placed u × (is_under es u.at ≡ true)) (spots_under pool t)
  unfolding spots_under
  placed_under t p = all_each (kids_at pool t) one (all_up_to 32)
    where
      one : (c : ℕ) → c < 32 → All (λ u. Placed u × (is_under es u.at ≡ true)) (kids_at pool t c)
      one c l =
          let k = kid_at_lem es s t.node p.0 c l in
          let q : deeper (get_or N t.node top) 5 c ≡ deeper t.at 5 c = ap (λ (x : Prefix). deeper x 5 c) p.1 in
          split (bit c (child_of pool t.node))
          (λ b.
          let u = sym k.0 ∙ b in
          let m = k.1 u in
          let z : Placed (kid_at pool t c) × (is_under es (deeper t.at 5 c) ≡ true) = ((m.0, m.1 ∙ q), ap (is_under es) (sym q) ∙ u) in
          rw b (more z nil))
          (λ b. rw b nil)

  used_levels : (k : ℕ) {ss : List Spot} → All (λ u. Placed u × (is_under es u.at ≡ true)) ss → All (λ u. is_under es u.at ≡ true) (spots_from pool k ss)
  used_levels zero h = nil
  used_levels (suc k) h = all_append (all_imp (λ u p. p.1) h) (used_levels k (all_each (spots_under pool) (λ u p. placed_under u p.0) h))

  -- every node of the tidy pool but the root is used
  pub pool_used : All (λ t. used pool top t ≡ true) (inner_spots pool)
  unfolding inner_spots
  pool_used = all_imp one (used_levels 12 (placed_under root_spot (root_node es top)))
    where
      one : (t : Spot) → is_under es t.at ≡ true → used pool top t ≡ true
      one t h =
          ap (λ (l : List Entry). is_under l t.at) (under_top (all_entries pool) (sound_all pool)) ∙ under_same (all_entries pool) es (tidy_prefixes es s) t.at ∙ h

  pub values_again : tidy_values (view pool top) ≡ up_to (length es)
  values_again =
      ap tidy_values (whole_view pool pool_laid pool_used)
      ∙ values_same pool pool_laid pool_used
      ∙ ap up_to (sym (length-map (all_entries pool) (λ e. e.at)) ∙ ap length (tidy_prefixes es s) ∙ length-map es (λ e. e.at))

map_alike : {A B : Type 0} (f g : A → B) (l : List A) → map f l ≡ map g l → All (λ x. f x ≡ g x) l
map_alike f g [] e = nil
map_alike f g (x ∷ l) e = let h : f x ≡ g x = cc e in more h (map_alike f g l (cc e))

-- a value list is fixed by what it gives each entry of the tidy pool
module _ (es : List Entry) (s : Sound top es) (vs : List ℕ) (long : length vs ≡ length es) (h : map (through vs) (all_entries (tidy_pool es)) ≡ es) where
  abbrev tvs : List ℕ
  tvs = tidy_values es

  abbrev E : List Entry
  E = all_entries (tidy_pool es)

  agree : All (λ e. get_or vs e.value 0 ≡ get_or tvs e.value 0) E
  agree = all_imp (λ (e : Entry) k. ap (λ (x : Entry). x.value) k) (map_alike (through vs) (through tvs) E (h ∙ sym (holds_all es s)))

  agree_all : All (λ i. get_or vs i 0 ≡ get_or tvs i 0) (up_to (length es))
  agree_all =
      subst (All (λ i. get_or vs i 0 ≡ get_or tvs i 0)) (ap tidy_values (sym (under_top E (sound_all (tidy_pool es)))) ∙ values_again es s)
      (all_map (λ (e : Entry). e.value)
      (each_all (entries_in E) (λ p. each_all (onto E) (λ q. all_keep (λ e. same q e.at) agree) (data_prefixes p)) (nodes_of E)))

  pub values_fixed : vs ≡ tidy_values es
  values_fixed =
      ext_get_or 0 vs tvs (long ∙ sym (values_count es s))
      (λ i k. up_to_member (length es) agree_all i (omega arith))
