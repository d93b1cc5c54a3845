-- A call from its tests to its buffers: the refusal table, and what the loops over the nodes come to.
use Rattle.std.specs.Prelude.{◌≡◌, refl, Bool, true, false, ◌||◌, ℕ, zero, suc, ◌+◌, ◌-◌, ◌*◌, ◌/◌, ◌^◌, ◌≤◌, ◌<◌, eqb, ltb, length, get_or, Ok, Err}
use Rattle.std.proofs.Math.Path.{sym, ap, subst}
use Rattle.std.proofs.Common.{ltb-false, ap₂, ◌∙◌, arith, length-append, eqb-true, ne_eqb, lt-ltb, le-ltb}
use mathlib.Core.List.{List, [], ◌∷◌, map}
use Rattle.std.proofs.lemmas.List.{length-map}
use Rattle.std.proofs.lemmas.Bool.{eqb-false}
use Rattle.defs.specs.declared.Prefix.{Prefix}
use Rattle.defs.specs.declared.Answer.{Answer}
use Rattle.defs.specs.Basics.{if◌then◌otherwise◌, keep, each, up_to}
use Rattle.defs.specs.Pool.{node_count, data_of, first_value, bit, rank, ones}
use Rattle.defs.specs.Entries.{Entry, view}
use Rattle.defs.specs.Check.{fault_of}
use Rattle.defs.specs.Tidy.{data_prefixes, entries_in, nodes_of, tidy_pool, tidy_values}
use Rattle.defs.specs.Lemmas.{All, nil, more, split, all_both, all_keep, keep_on, each_on}
use Rattle.defs.specs.Outcome.{Row, answer, first_of, Side, entries_of, width_row, fault_row, root_row, room_row, tidy_rows, Tidied, tidy_outcome, check_outcome}
use Rattle.defs.specs.declared.refusals.PoolError.{PoolError}
use Rattle.defs.specs.declared.refusals.PoolError.TheVariants as NoPool
use Rattle.defs.specs.Refusals.{answer_for, checked, on_left}
use Rattle.defs.specs.OutcomeLaws.{first_stays, first_passes, refused_keeps}
use Rattle.bits.specs.WordLaws.{rank_all}
use Rattle.pool.specs.Sound.{formed, data_small, values_small}
use Rattle.pool.specs.Answers.{zero_says, one_says, one_of, two_says, two_else}
use Rattle.tidied.specs.ListFacts.{run, up_to_run, at_run, run_from, run_below, all_up_to, length_up_to}
use Rattle.tidied.specs.Words.{word_bit, word_lt}
use Rattle.tidied.specs.Layout.{is_here, data_count}
use Rattle.tidied.specs.Holds.{view_sound}
use Rattle.tidied.specs.Source.{prefix_at, prefix_seen, nodes_in_order}
use Rattle.tidied.specs.Copying.{data_word, taken, view_word, view_values, used_words}
use Rattle.tidied.specs.InOrder.{copy_from, used_at, tidy_nodes, tidy_copies, values_copied}
use Rattle.tidied.specs.Demand3.{tidy_entries_lem}
use borrow.Rule.Slice.PartMut.{put_mid, mid_of}
use Rattle.view.specs.declared.Bitmaps.{Bitmaps}
use Rattle.view.specs.Standing.{Sane, nodes_few}
use Rattle.view.specs.declared.side.Side as code
use Rattle.view.specs.Seen.{seen}
use Rattle.tidy.specs.Kept.{data_on, kids_on, node_on}
use Rattle.tidy.specs.Chosen.{over, values_from, values_length, node_words, is_kept, chosen, ones_of, Counting, counting_end, Writing, writing_same, writing_room, writing_on, writing_off, writing_end}

-- ---- what the loops come to

-- the old value indices of node i's entries in the view
unfoldable pub values_on : List ℕ → Prefix → ℕ → List ℕ
values_on w root i = map (λ e. e.value) (entries_in (view w root) (prefix_at w i))

-- the loop that writes
abbrev pub Copying : List ℕ → Prefix → ℕ → List ℕ → List ℕ → List ℕ → List ℕ → ℕ → ℕ → ℕ → ℕ → Type 0
Copying w root = Writing (data_on w root) (kids_on w root) (values_on w root)

up_at : (n b : ℕ) → b < n → get_or (up_to n) b 0 ≡ b
up_at n b h = ap (λ (l : List ℕ). get_or l b 0) (up_to_run n) ∙ at_run 0 n b 0 h ∙ omega arith

module _ (w : List ℕ) (root : Prefix) (s : Sane w) where
  abbrev n : ℕ
  n = node_count w

  abbrev d : ℕ → ℕ
  d = data_on w root

  abbrev k : ℕ → ℕ
  k = kids_on w root

  -- a node after the root is kept exactly where it is used
  kept_used : (i : ℕ) → (1 ≤ i) × (i < n) → is_kept d k i ≡ used_at w root i
  unfolding data_on kids_on
  kept_used i h =
      let r = prefix_seen s.width w s.most s.formed i h.1 in
      rw (ne_eqb i 0 (λ e. omega (arith, h.0))) (sym (used_words (view w root) (view_sound w root) r.0 (prefix_at w i) r.1.deep))

  pub chosen_tidy : chosen d k n ≡ tidy_nodes w root
  chosen_tidy =
      let m = n - 1 in
      let e : n ≡ suc m = (let o = s.formed.some in omega arith) in
      ap (keep (is_kept d k)) (up_to_run n ∙ ap (run 0) e)
      ∙ ap (0 ∷◌) (keep_on (is_kept d k) (used_at w root) kept_used (all_both (run_from 1 m) (run_below 1 m n (omega arith))))

  pub chosen_nodes : length (chosen d k n) ≡ length (nodes_of (view w root))
  chosen_nodes =
      ap length chosen_tidy ∙ sym (ap length (nodes_in_order s.width w s.most s.formed root) ∙ length-map (tidy_nodes w root) (prefix_at w))

  pub chosen_pool : copy_from d k (chosen d k n) 0 0 ≡ tidy_pool (view w root)
  unfolding data_on kids_on
  chosen_pool = ap (λ (l : List ℕ). copy_from d k l 0 0) chosen_tidy ∙ sym (tidy_copies s.width w s.most s.formed root)

  pub chosen_values : each (values_on w root) (chosen d k n) ≡ tidy_values (view w root)
  unfolding values_on
  chosen_values = ap (each (values_on w root)) chosen_tidy ∙ sym (values_copied s.width w s.most s.formed root)

  pub data_short : (i : ℕ) → d i < 2 ^ 31
  unfolding data_on
  data_short i = subst (λ (m : ℕ). data_word (view w root) (prefix_at w i) < 2 ^ m) (data_count (prefix_at w i)) (word_lt (is_here (view w root)) (data_prefixes (prefix_at w i)))

  -- a node's values, as the code lists them
  pub values_are : (i : ℕ) → i < n → values_on w root i ≡ values_from (data_of w i) (first_value w i) (d i) 31
  unfolding values_on data_on
  values_are i h =
      let r = prefix_seen s.width w s.most s.formed i h in
      let p = prefix_at w i in
      let t = taken w root i p in
      let word = view_word w root r.0 i p r.1 in
      view_values w root r.0 i p r.1
      ∙ each_on (λ b. if t b then (first_value w i + rank b (data_of w i)) ∷ [] otherwise []) (λ b. if bit b (data_word (view w root) p) then (first_value w i + rank b (data_of w i)) ∷ [] otherwise [])
      (λ b l.
      ap (λ (y : Bool). if y then (first_value w i + rank b (data_of w i)) ∷ [] otherwise [])
      (sym (ap (bit b) word ∙ word_bit t (up_to 31) b 0 (omega (arith, length_up_to 31)) ∙ ap t (up_at 31 b l))))
      (all_up_to 31)

  pub values_sizes : (i : ℕ) → i < n → length (values_on w root i) ≡ ones (d i)
  values_sizes i h =
      ap length (values_are i h) ∙ values_length (data_of w i) (first_value w i) (d i) 31
      ∙ sym (rank_all 31 31 (d i) (data_short i) (omega arith)) ∙ rank_all 31 32 (d i) (data_short i) (omega arith)

  each_ones : (is : List ℕ) → All (λ i. i < n) is → length (each (values_on w root) is) ≡ ones_of d is
  each_ones [] nil = refl
  each_ones (i ∷ is) (more h hs) = length-append (values_on w root i) (each (values_on w root) is) ∙ ap₂ ◌+◌ (values_sizes i h) (each_ones is hs)

  pub chosen_entries : ones_of d (chosen d k n) ≡ length (view w root)
  chosen_entries =
      sym (each_ones (chosen d k n) (all_keep (is_kept d k) (all_up_to n))) ∙ ap length chosen_values ∙ tidy_entries_lem w root

  pub value_fits : (i : ℕ) → i < n → first_value w i + 32 < 2 ^ 32
  value_fits i h =
      omega (arith, (s.formed.node i h).value, values_small s.width w s.formed i (omega arith), nodes_few w s)

  pub held_small : (i : ℕ) → i < n → (held : ℕ) → held ≡ data_of w i → held < 2 ^ 31
  held_small i h held e = rw e (data_small s.width w s.formed i h)

  -- what the code's test of a node's bitmaps says
  pub kept_says : (i : ℕ) (b : Bitmaps) → b ≡ node_on w root i → (r : Bool) → r ≡ (eqb i 0 || (ltb 0 b.data || ltb 0 b.child)) → is_kept d k i ≡ r
  kept_says i b e r er = sym (er ∙ ap (λ (x : Bitmaps). eqb i 0 || (ltb 0 x.data || ltb 0 x.child)) e)

  pub measured : (nodes entries i : ℕ) → n ≤ i → Counting d k n nodes entries i → (nodes ≡ length (nodes_of (view w root))) × (entries ≡ length (view w root))
  measured nodes entries i h c = let e = counting_end d k n nodes entries i h c in (e.0 ∙ chosen_nodes, e.1 ∙ chosen_entries)

  -- ---- writing, as the code has it
  module _ (out₀ values₀ : List ℕ) (room : (4 * length (nodes_of (view w root)) ≤ length out₀) × (length (view w root) ≤ length values₀)) where
    fits : 4 * length (chosen d k n) ≤ length out₀
    fits = omega (arith, room.0, chosen_nodes)

    space : ones_of d (chosen d k n) ≤ length values₀
    space = omega (arith, room.1, chosen_entries)

    pub copy_same : (out values : List ℕ) (at children count i : ℕ) → Copying w root n out₀ values₀ out values at children count i
        → (length out ≡ length out₀) × (length values ≡ length values₀)
    copy_same = writing_same d k (values_on w root) n values_sizes out₀ values₀ fits space

    pub copy_room : (out values : List ℕ) (at children count i : ℕ) → i < n → Copying w root n out₀ values₀ out values at children count i → is_kept d k i ≡ true
        → (at + 4 ≤ length out) × (count + ones (d i) ≤ length values)
    copy_room = writing_room d k (values_on w root) n values_sizes out₀ values₀ fits space

    pub copy_on : (out values : List ℕ) (at children count i : ℕ) → i < n → Copying w root n out₀ values₀ out values at children count i → is_kept d k i ≡ true
        → (b : Bitmaps) → b ≡ node_on w root i → (held first : ℕ) → held ≡ data_of w i → first ≡ first_value w i → (part vpart : List ℕ)
        → part ≡ over (node_words b.data b.child children count) (mid_of at (length out - at) out)
        → vpart ≡ over (values_from held first b.data 31) (mid_of count (length values - count) values) → (o p : ℕ) → o ≡ ones b.child → p ≡ ones b.data
        → Copying w root n out₀ values₀ (put_mid at (length out - at) out part) (put_mid count (length values - count) values vpart) (at + 4) (children + o) (count + p) (i + 1)
    copy_on out values at children count i h c e b eb held first eh ef part vpart ep ev o p eo ed =
        writing_on d k (values_on w root) n values_sizes out₀ values₀ fits space out values at children count i h c e part vpart
        (ep ∙ ap (λ (x : Bitmaps). over (node_words x.data x.child children count) (mid_of at (length out - at) out)) eb)
        (ev ∙ ap (λ (x : List ℕ). over x (mid_of count (length values - count) values))
        (ap (λ (x : Bitmaps). values_from held first x.data 31) eb ∙ ap₂ (λ (x y : ℕ). values_from x y (d i) 31) eh ef ∙ sym (values_are i h)))
        o p (eo ∙ ap (λ (x : Bitmaps). ones x.child) eb) (ed ∙ ap (λ (x : Bitmaps). ones x.data) eb)

    pub copy_off : (out values : List ℕ) (at children count i : ℕ) → i < n → Copying w root n out₀ values₀ out values at children count i → is_kept d k i ≡ false
        → Copying w root n out₀ values₀ out values at children count (i + 1)
    copy_off = writing_off d k (values_on w root) n values_sizes out₀ values₀ fits space

    pub copy_end : (out values : List ℕ) (at children count i : ℕ) → n ≤ i → Copying w root n out₀ values₀ out values at children count i
        → (out ≡ over (tidy_pool (view w root)) out₀) × (values ≡ over (tidy_values (view w root)) values₀)
    copy_end out values at children count i h c =
        let e = writing_end d k (values_on w root) n values_sizes out₀ values₀ fits space out values at children count i h c in
        (e.0 ∙ ap (λ (x : List ℕ). over x out₀) chosen_pool, e.1 ∙ ap (λ (x : List ℕ). over x values₀) chosen_values)

-- ---- the rows of the table

-- the call's pool and root
abbrev pub side_of : List ℕ → Prefix → Side
side_of w root = record { pool = w; root = root }

-- the rows that look at neither buffer
abbrev pub pool_rows : ℕ → Side → List Row
pool_rows width s = width_row width ∷ fault_row 2 width s ∷ root_row 4 width s ∷ []

-- the rows of the two buffers
abbrev room_rows : ℕ → ℕ → List ℕ → List ℕ → List Row
room_rows nodes entries out values = room_row 6 nodes (length out / 4) ∷ room_row 7 entries (length values) ∷ []

module _ (width : ℕ) (s : Side) where
  -- what the tests of pool and root come to
  pub record Passed : Type 0 where
    pub known : (eqb width 32 || eqb width 64) ≡ true
    pub faultless : (fault_of width s.pool).number ≡ 0
    pub short : s.root.len ≤ width

  passed_rows : Passed → All (λ x. x.holds ≡ false) (pool_rows width s)
  passed_rows p =
      more {x = width_row width} (rw p.known) (more {x = fault_row 2 width s} (rw p.faultless) (more (le-ltb width s.root.len p.short) nil))

  -- an answer of 0 says that all of them passed
  pub zero_passed : (first_of (pool_rows width s) 0).number ≡ 0 → Passed
  zero_passed z =
      split (eqb width 32 || eqb width 64)
      (λ a.
      split (ltb 0 (fault_of width s.pool).number) (λ b. none 1 (rw (a, b) at z))
      (λ b.
      split (ltb width s.root.len) (λ c. none 3 (rw (a, b, c) at z))
      (λ c. let f = ltb-false 0 (fault_of width s.pool).number b in record { known = a; faultless = omega arith; short = ltb-false _ _ c })))
      (λ a. none 0 (rw a at z))
    where
      none : (m : ℕ) → suc m ≡ 0 → Passed
      none m e = absurd (omega arith)

  -- the same of an answer as it is given
  pub code_passed : (a : Answer) → a ≡ first_of (pool_rows width s) 0 → a.number ≡ 0 → Passed
  code_passed a e z = zero_passed (sym (ap (λ (x : Answer). x.number) e) ∙ z)

  pub passed_width : Passed → width ≤ 64
  passed_width p = split (eqb width 32) (λ a. let e = eqb-true width 32 a in omega arith) (λ a. let e = eqb-true width 64 (rw a at p.known) in omega arith)

  pub passed_long : Passed → s.root.len ≤ 64
  passed_long p = omega (arith, passed_width p, p.short)

  pub passed_sane : Passed → Sane s.pool
  passed_sane p = record { width = width; most = passed_width p; formed = formed width s.pool p.faultless }

  -- the refusals, from the check's answer
  module _ (a : Answer) (ea : a ≡ check_outcome width s.pool) where
    number_is : a.number ≡ (check_outcome width s.pool).number
    number_is = ap (λ (x : Answer). x.number) ea

    -- the width is not known
    pub code_1 : a.number ≡ 1 → answer 1 0 0 ≡ first_of (pool_rows width s) 0
    code_1 h = rw (one_says width s.pool (sym number_is ∙ h))

    -- the pool has a fault, whose node stands beside the answer
    pub code_2 : a.number ≡ 2 → answer 2 a.beside 0 ≡ first_of (pool_rows width s) 0
    code_2 h =
        let f = two_says width s.pool (sym number_is ∙ h) in
        ap (λ (m : ℕ). answer 2 m 0) (ap (λ (x : Answer). x.beside) ea ∙ f.node) ∙ rw (f.width_known, lt-ltb 0 (fault_of width s.pool).number f.some)

    module _ (n1 : a.number ≡ 1 → ⊥) (n2 : a.number ≡ 2 → ⊥) where
      none_else : (check_outcome width s.pool).number ≡ 0
      none_else =
          split (eqb (check_outcome width s.pool).number 0) (λ e. eqb-true _ _ e)
          (λ e.
          split (eqb width 32 || eqb width 64) (λ t. absurd (n2 (number_is ∙ two_else width s.pool t (eqb-false _ _ e))))
          (λ t. absurd (n1 (number_is ∙ ap (λ (x : Answer). x.number) (one_of width s.pool t)))))

      -- the root is longer than the width
      pub code_4 : width < s.root.len → answer 4 0 0 ≡ first_of (pool_rows width s) 0
      code_4 h = let z = zero_says width s.pool none_else in rw (z.0, z.1, lt-ltb width s.root.len h)

      -- nothing is refused
      pub code_0 : s.root.len ≤ width → answer 0 0 0 ≡ first_of (pool_rows width s) 0
      code_0 h = let z = zero_says width s.pool none_else in rw (z.0, z.1, le-ltb width s.root.len h)

  -- the same, from what the check says
  pub pool_refused : (e : PoolError) → checked (Err e) ≡ check_outcome width s.pool → answer_for (on_left e) ≡ first_of (pool_rows width s) 0
  pool_refused NoPool.Width h = rw (one_says width s.pool (sym (ap (λ (x : Answer). x.number) h)))
  pool_refused (NoPool.Fault fault node) h =
      let f = two_says width s.pool (sym (ap (λ (x : Answer). x.number) h)) in
      ap (λ (m : ℕ). answer 2 m 0) (ap (λ (x : Answer). x.beside) h ∙ f.node) ∙ rw (f.width_known, lt-ltb 0 (fault_of width s.pool).number f.some)

  module _ (m : ℕ) (k : checked (Ok m) ≡ check_outcome width s.pool) where
    good : (check_outcome width s.pool).number ≡ 0
    good = sym (ap (λ (x : Answer). x.number) k)

    pub root_long : width < s.root.len → answer 4 0 0 ≡ first_of (pool_rows width s) 0
    root_long h = let z = zero_says width s.pool good in rw (z.0, z.1, lt-ltb width s.root.len h)

    pub root_passed : s.root.len ≤ width → answer 0 0 0 ≡ first_of (pool_rows width s) 0
    root_passed h = let z = zero_says width s.pool good in rw (z.0, z.1, le-ltb width s.root.len h)

    pub all_passed : s.root.len ≤ width → Passed
    all_passed h = let z = zero_says width s.pool good in record { known = z.0; faultless = z.1; short = h }

-- the side that was opened is that of the call, and its tests passed
pub record Opened (width : ℕ) (s : Side) (o : code.Side) : Type 0 where
  pub side_is : seen o ≡ s
  pub passed : Passed width (seen o)
  pub none : first_of (pool_rows width s) 0 ≡ answer 0 0 0

-- ---- the whole call
module _ (width : ℕ) (s : Side) (out values : List ℕ) where
  abbrev es : List Entry
  es = entries_of s

  abbrev nodes : ℕ
  nodes = length (nodes_of es)

  -- what a call leaves
  abbrev pub leaves : Answer → List ℕ → List ℕ → Tidied
  leaves a o v = record { answer = a; output = o; values = v }

  -- the call's own answer
  abbrev given : Answer
  given = first_of (tidy_rows width s nodes (length es) out values) nodes

  refused : (a : Answer) → a ≡ given → 0 < a.number → leaves a out values ≡ tidy_outcome width s out values
  refused a e h =
      rw (← e)
      (ap₂ (leaves a) (sym (refused_keeps a (tidy_pool es) out h)) (sym (refused_keeps a (tidy_values es) values h)))

  pub tidy_refused : (a : Answer) → a ≡ first_of (pool_rows width s) 0 → (a.number ≡ 0 → ⊥) → leaves a out values ≡ tidy_outcome width s out values
  tidy_refused a e h =
      refused a (e ∙ sym (first_stays (pool_rows width s) (room_rows nodes (length es) out values) nodes (λ z. h (ap (λ (x : Answer). x.number) e ∙ z)))) (pos a.number h)
    where
      pos : (m : ℕ) → (m ≡ 0 → ⊥) → 0 < m
      pos zero t = absurd (t refl)
      pos (suc m) t = omega arith

  module _ (p : Passed width s) (m : ℕ) (em : m ≡ nodes) where
    decided : given ≡ first_of (room_rows nodes (length es) out values) nodes
    decided = first_passes (pool_rows width s) (room_rows nodes (length es) out values) nodes (passed_rows width s p)

    -- too little room for the nodes
    pub tidy_no_room : length out / 4 < m → leaves (answer 6 m 0) out values ≡ tidy_outcome width s out values
    tidy_no_room h =
        refused (answer 6 m 0) (ap (λ (x : ℕ). answer 6 x 0) em ∙ sym (decided ∙ rw (lt-ltb (length out / 4) nodes (rw em at h)))) (omega arith)

    module _ (room : m ≤ length out / 4) (entries : ℕ) (ee : entries ≡ length es) where
      -- too little room for the value list
      pub tidy_no_space : length values < entries → leaves (answer 7 entries 0) out values ≡ tidy_outcome width s out values
      tidy_no_space h =
          refused (answer 7 entries 0)
          (ap (λ (x : ℕ). answer 7 x 0) ee ∙ sym (decided ∙ rw (le-ltb (length out / 4) nodes (rw em at room), lt-ltb (length values) (length es) (rw ee at h)))) (omega arith)

      -- room enough
      tidy_done : entries ≤ length values → leaves (answer 0 m 0) (over (tidy_pool es) out) (over (tidy_values es) values) ≡ tidy_outcome width s out values
      tidy_done h =
          let e : answer 0 m 0 ≡ given =
          ap (λ (x : ℕ). answer 0 x 0) em ∙ sym (decided ∙ rw (le-ltb (length out / 4) nodes (rw em at room), le-ltb (length values) (length es) (rw ee at h))) in
          rw (← e)

      pub tidy_wrote : entries ≤ length values → (a : Answer) (o v : List ℕ) → a ≡ answer 0 m 0 → o ≡ over (tidy_pool es) out → v ≡ over (tidy_values es) values
          → leaves a o v ≡ tidy_outcome width s out values
      tidy_wrote h a o v ea eo ev = ap (λ (x : Answer). leaves x o v) ea ∙ ap₂ (leaves (answer 0 m 0)) eo ev ∙ tidy_done h

    pub tidy_fits : m ≤ length out / 4 → 4 * nodes ≤ length out
    tidy_fits h = fits (length out) m em h
      where
        fits : (l m : ℕ) → m ≡ nodes → m ≤ l / 4 → 4 * nodes ≤ l
        fits l m e h = omega arith
