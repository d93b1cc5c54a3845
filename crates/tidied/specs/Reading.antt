-- What the words of a node say of a pool's entries: its data word, and the values of its entries.
use Rattle.std.specs.Prelude.{◌≡◌, refl, true, length}
use Rattle.std.proofs.Math.Path.{sym, ap}
use Rattle.std.proofs.Common.{ap₂, ◌∙◌, arith, length-append}
use mathlib.Core.List.{List, [], ◌∷◌, ◌++◌, map}
use Prim.Native.Nat.{ℕ, suc, ◌+◌, ◌^◌, ◌≤◌, ◌<◌}
use Rattle.std.proofs.lemmas.List.{length-map}
use Rattle.defs.specs.declared.Prefix.{Prefix}
use Rattle.defs.specs.Basics.{if◌then◌otherwise◌, each, up_to}
use Rattle.defs.specs.Prefix.{same, deeper, top}
use Rattle.defs.specs.Pool.{node_count, data_of, first_value, bit, rank, ones, data_bit}
use Rattle.defs.specs.Entries.{Entry, all_entries, view}
use Rattle.defs.specs.Tidy.{data_prefixes, entries_in, nodes_of, word_of, tidy_values}
use Rattle.defs.specs.Lemmas.{All, more, split, keep_true}
use Rattle.defs.proofs.EntryLaws.{sound_all}
use Rattle.bits.specs.WordLaws.{rank_all}
use Rattle.pool.specs.Sound.{values_before}
use Rattle.tidied.specs.ListFacts.{full, any_full, run, length_run, run_append, up_to_run, map_each, each_map, each_join, map_rows}
use Rattle.tidied.specs.Words.{word_map, word_bits}
use Rattle.tidied.specs.Halving.{onto, under_top}
use Rattle.tidied.specs.Layout.{is_here}
use Rattle.tidied.specs.Count.{values_count}
use Rattle.tidied.specs.Find.{Seen, seen_data}
use Rattle.tidied.specs.Spots.{Spot, ids, spots, inner_spots, used, nodes_spots, rank_run, Laid, SeenSome, spots_run, spots_fit, spots_seen}

module _ (w : List ℕ) (levels i : ℕ) (p : Prefix) (s : Seen w (suc levels) i p) (small : data_of w i < 2 ^ 31) where
  abbrev E : List Entry
  E = all_entries w

  abbrev x : ℕ
  x = data_of w i

  -- a prefix has an entry exactly where its data bit is set
  here_bit : (n v : ℕ) → n < 5 → v < 2 ^ n → is_here E (deeper p n v) ≡ bit (data_bit n v) x
  here_bit n v h l =
      any_full (λ e. same (deeper p n v) e.at) E ∙ ap full (seen_data w levels i p s n v h l) ∙ split (bit (data_bit n v) x) (λ b. rw b) (λ b. rw b)

  -- the data word is that of the tidy pool
  pub data_word_lem : x ≡ word_of (is_here E) (data_prefixes p)
  unfolding data_prefixes
  data_word_lem =
      word_bits 31 x small
      ∙ ap (word_of (λ b. b)) (map_rows (λ b. bit b x) data_bit (is_here E) (deeper p) 5 (λ n v h l. sym (here_bit n v h l)))
      ∙ sym (word_map (is_here E) (data_prefixes p))

  -- the values of its entries, in the order of the data bits, count up from its first value
  pub in_values : map (λ e. e.value) (entries_in E p) ≡ run (first_value w i) (ones x)
  unfolding data_prefixes
  in_values =
      map_each (λ (e : Entry). e.value) (onto E) (data_prefixes p)
      ∙ each_join (λ q. map (λ (e : Entry). e.value) (onto E q)) (data_prefixes p)
      ∙ ap (each (λ l. l))
      (map_rows (λ q. map (λ (e : Entry). e.value) (onto E q)) (deeper p) g data_bit 5
      (λ n v h l. ap (map (λ (e : Entry). e.value)) (seen_data w levels i p s n v h l) ∙ split (bit (data_bit n v) x) (λ b. rw b) (λ b. rw b)))
      ∙ sym (each_join g (up_to 31))
      ∙ rank_run (first_value w i) x 31
      ∙ ap (run (first_value w i)) (sym (rank_all 31 31 x small (omega arith)) ∙ rank_all 31 32 x small (omega arith))
    where
      g : ℕ → List ℕ
      g b = if bit b x then (first_value w i + rank b x) ∷ [] otherwise []

  pub in_count : length (entries_in E p) ≡ ones x
  in_count = sym (length-map (entries_in E p) (λ e. e.value)) ∙ ap length in_values ∙ length_run (first_value w i) (ones x)

-- a pool whose nodes are laid out as its bits say, and all used but the root
module _ (w : List ℕ) (ok : Laid w) (all-used : All (λ s. used w top s ≡ true) (inner_spots w)) where
  -- the entries are those of the view at 0/0
  pub whole_view : view w top ≡ all_entries w
  whole_view = under_top (all_entries w) (sound_all w)

  -- its nodes are those of its tidy pool
  pub nodes_all : nodes_of (all_entries w) ≡ map (λ s. s.at) (spots w)
  nodes_all =
      ap nodes_of (sym whole_view) ∙ nodes_spots w top ∙ ap (λ (ss : List Spot). top ∷ map (λ (s : Spot). s.at) ss) (keep_true (used w top) all-used)

  abbrev values_in : Spot → List ℕ
  values_in s = map (λ e. e.value) (entries_in (all_entries w) s.at)

  values_run : (ss : List Spot) (a : ℕ) → ids ss ≡ run a (length ss) → a + length ss ≤ node_count w → All (SeenSome w) ss
      → each values_in ss ≡ run (values_before w a) (length (each values_in ss))
  values_run [] a e h k = refl
  values_run (s ∷ ss) a e h (more k ks) =
      let at_a : s.node ≡ a = cc e in
      let small : data_of w s.node < 2 ^ 31 = ok.short s.node (omega arith) in
      let here : values_in s ≡ run (values_before w a) (ones (data_of w a)) =
      in_values w k.0 s.node s.at k.1 small ∙ ap₂ run (ap (first_value w) at_a ∙ ok.value a (omega arith)) (ap (λ (j : ℕ). ones (data_of w j)) at_a) in
      joined (values_before w a) (ones (data_of w a)) (values_in s) (each values_in ss) here (values_run ss (suc a) (cc e) (omega arith) ks)
    where
      joined : (f m : ℕ) (a b : List ℕ) → a ≡ run f m → b ≡ run (f + m) (length b) → a ++ b ≡ run f (length (a ++ b))
      joined f m a b e h =
          let l : length a ≡ m = ap length e ∙ length_run f m in
          let n : m + length b ≡ length (a ++ b) = omega (arith, length-append a b) in
          ap₂ ◌++◌ e h ∙ run_append f m (length b) ∙ ap (run f) n

  -- tidied again, its values are 0, 1, 2, ..
  pub values_same : tidy_values (all_entries w) ≡ up_to (length (all_entries w))
  values_same =
      let r = values_run (spots w) 0 (spots_run w ok) (omega (arith, spots_fit w ok)) (spots_seen w) in
      let t : tidy_values (all_entries w) ≡ each values_in (spots w) =
      ap (λ (ps : List Prefix). map (λ (e : Entry). e.value) (each (entries_in (all_entries w)) ps)) nodes_all
      ∙ ap (map (λ (e : Entry). e.value)) (each_map (entries_in (all_entries w)) (λ (s : Spot). s.at) (spots w))
      ∙ map_each (λ (e : Entry). e.value) (λ (s : Spot). entries_in (all_entries w) s.at) (spots w) in
      t ∙ r ∙ ap (run 0) (sym (ap length t) ∙ values_count (all_entries w) (sound_all w)) ∙ sym (up_to_run (length (all_entries w)))
