-- A list call from its tests to its records: the refusal table, and where the walk starts.
use Rattle.std.specs.Prelude.{◌≡◌, refl, true, false, ◌||◌, List, [], ◌∷◌, ◌++◌, ℕ, zero, suc, ◌+◌, ◌*◌, ◌-◌, ◌/◌, ◌^◌, ◌≤◌, ◌<◌, eqb, ltb, length, drop, Ok, Err}
use Rattle.std.proofs.Common.{ltb-false, sym, ◌∙◌, ap₂, subst, append-nil, arith, eqb-true, lt-ltb, le-ltb}
use Rattle.std.proofs.Math.Path.{ap}
use Rattle.std.proofs.Math.Nat.{mul-div_right}
use Rattle.std.proofs.lemmas.Bool.{eqb-false, false≢true}
use Rattle.defs.specs.declared.Prefix.{Prefix}
use Rattle.defs.specs.declared.Answer.{Answer}
use Rattle.defs.specs.declared.Operation.{Operation}
use Rattle.defs.specs.declared.Operation.TheVariants.{Union, Intersection, Difference, CoveringDifference, CoveringUnion}
use Rattle.defs.specs.Basics.{if◌then◌otherwise◌}
use Rattle.defs.specs.Pool.{node_count, data_of, first_value, ones}
use Rattle.defs.specs.Check.{pool_limit, fault_of}
use Rattle.defs.specs.Lists.{Record, record_words, records_of}
use Rattle.defs.specs.Lemmas.{All, nil, more, split}
use Rattle.defs.specs.Outcome
use Rattle.defs.specs.Outcome.{Row, answer, first_of, Side, entries_of, side_rows, list_rows, room_row, written, Listed, list_outcome, check_outcome}
use Rattle.defs.specs.declared.refusals.PoolError.{PoolError}
use Rattle.defs.specs.declared.refusals.PoolError.TheVariants as NoPool
use Rattle.defs.specs.declared.refusals.Refusal.{Refusal}
use Rattle.defs.specs.declared.refusals.Refusal.TheVariants.{Width, LeftPool, RightPool, LeftRoot, RightRoot, Room, ValueRoom, Line}
use Rattle.defs.specs.Refusals.{answer_for, checked, on_left, on_right}
use Rattle.defs.specs.OutcomeLaws.{first_stays, first_passes, refused_keeps}
use Rattle.defs.specs.PrefixLaws.{cut}
use Rattle.bits.specs.Words.{common_len}
use Rattle.bits.specs.CommonLaws.{common_le, common_says}
use Rattle.pool.specs.Sound.{formed, values_before}
use Rattle.pool.specs.Answers.{zero_says, one_says, one_of, two_says, two_else}
use Rattle.theory.specs.declared.Level.{Level}
use Rattle.theory.specs.Sides.{side_entries}
use Rattle.theory.specs.declared.Covers.{Covers}
use Rattle.theory.specs.Steps.{Job, carried, enter, no_covers, level_rest}
use Rattle.theory.specs.Start.{start_ok, start_list}
use Rattle.theory.specs.Loop.{records_words, words_length}
use Rattle.view.specs.Standing.{Sane}
use Rattle.view.specs.Seen.{seen}
use Rattle.sets.specs.declared.sides.Sides.{Sides}
use Rattle.view.specs.Descent.{cut_to, node_down, whole_cut, view_down, node_down_in}
use Rattle.walk.specs.Ready.{Entering, Ready}
use Rattle.sets.specs.Aligned.{depth_at}
use Rattle.sets.specs.Bound.{most_from, values_of, list_most, values_fit}
use Rattle.walk.specs.Loops.{written_over}
use Rattle.theory.specs.Kinds.{Node}

-- a side of a call
abbrev pub side_of : List ℕ → Prefix → Side
side_of w root = record { pool = w; root = root }

-- ---- the rows of the table

module _ (width : ℕ) (l r : Side) where
  -- what the tests of a call with two sides come to
  pub record Passed : Type 0 where
    pub known : (eqb width 32 || eqb width 64) ≡ true
    pub left_pool : (fault_of width l.pool).number ≡ 0
    pub right_pool : (fault_of width r.pool).number ≡ 0
    pub left_root : l.root.len ≤ width
    pub right_root : r.root.len ≤ width

  pub passed_rows : Passed → All (λ x. x.holds ≡ false) (side_rows width l r)
  passed_rows p =
      more {x = Outcome.width_row width} (rw p.known)
      (more {x = Outcome.fault_row 2 width l} (rw p.left_pool) (more {x = Outcome.fault_row 3 width r} (rw p.right_pool) (more (le-ltb width l.root.len p.left_root) (more (le-ltb width r.root.len p.right_root) nil))))

  pub passed_answer : Passed → answer 0 0 0 ≡ first_of (side_rows width l r) 0
  passed_answer p = sym (ap (λ (x : List Row). first_of x 0) (sym (append-nil (side_rows width l r))) ∙ first_passes (side_rows width l r) [] 0 (passed_rows p))

  -- an answer of the check that is neither 1 nor 2 is 0
  pub left_good : ((check_outcome width l.pool).number ≡ 1 → ⊥) → ((check_outcome width l.pool).number ≡ 2 → ⊥) → (check_outcome width l.pool).number ≡ 0
  left_good a b =
      split (eqb (check_outcome width l.pool).number 0) (λ e. eqb-true _ _ e)
      (λ e.
      split (eqb width 32 || eqb width 64) (λ k. absurd (b (two_else width l.pool k (eqb-false _ _ e))))
      (λ k. absurd (a (ap (λ (x : Answer). x.number) (one_of width l.pool k)))))

  -- refusal 1
  pub refused_1 : (check_outcome width l.pool).number ≡ 1 → answer 1 0 0 ≡ first_of (side_rows width l r) 0
  refused_1 e = rw (one_says width l.pool e)

  -- refusal 2
  pub refused_2 : (check_outcome width l.pool).number ≡ 2 → answer 2 (check_outcome width l.pool).beside 0 ≡ first_of (side_rows width l r) 0
  refused_2 e =
      let f = two_says width l.pool e in
      ap (λ (n : ℕ). answer 2 n 0) f.node ∙ rw (f.width_known, lt-ltb 0 (fault_of width l.pool).number f.some)

  -- refusal 3
  pub refused_3 : (check_outcome width l.pool).number ≡ 0 → ((check_outcome width r.pool).number ≡ 0 → ⊥) → answer 3 (check_outcome width r.pool).beside 0 ≡ first_of (side_rows width l r) 0
  refused_3 e n =
      let k = zero_says width l.pool e in
      let f = two_says width r.pool (two_else width r.pool k.0 n) in
      ap (λ (m : ℕ). answer 3 m 0) f.node ∙ rw (k.0, k.1, lt-ltb 0 (fault_of width r.pool).number f.some)

  module _ (e : (check_outcome width l.pool).number ≡ 0) (g : (check_outcome width r.pool).number ≡ 0) where
    pub refused_4 : width < l.root.len → answer 4 0 0 ≡ first_of (side_rows width l r) 0
    refused_4 h =
        let k = zero_says width l.pool e in
        let m = zero_says width r.pool g in
        rw (k.0, k.1, m.1, lt-ltb width l.root.len h)

    pub refused_5 : l.root.len ≤ width → width < r.root.len → answer 5 0 0 ≡ first_of (side_rows width l r) 0
    refused_5 h i =
        let k = zero_says width l.pool e in
        let m = zero_says width r.pool g in
        rw (k.0, k.1, m.1, le-ltb width l.root.len h, lt-ltb width r.root.len i)

    pub all_passed : l.root.len ≤ width → r.root.len ≤ width → Passed
    all_passed h i =
        let k = zero_says width l.pool e in
        let m = zero_says width r.pool g in
        record { known = k.0; left_pool = k.1; right_pool = m.1; left_root = h; right_root = i }

  -- an answer of 0 says that all tests passed
  pub zero_passed : (first_of (side_rows width l r) 0).number ≡ 0 → Passed
  zero_passed z =
      split (eqb width 32 || eqb width 64)
      (λ k.
      split (ltb 0 (fault_of width l.pool).number) (λ a. no 1 (rw (k, a) at z))
      (λ a.
      split (ltb 0 (fault_of width r.pool).number) (λ b. no 2 (rw (k, a, b) at z))
      (λ b.
      split (ltb width l.root.len) (λ c. no 3 (rw (k, a, b, c) at z))
      (λ c.
      split (ltb width r.root.len) (λ d. no 4 (rw (k, a, b, c, d) at z))
      (λ d.
      let p = ltb-false 0 (fault_of width l.pool).number a in
      let q = ltb-false 0 (fault_of width r.pool).number b in
      record { known = k; left_pool = omega arith; right_pool = omega arith; left_root = ltb-false _ _ c; right_root = ltb-false _ _ d })))))
      (λ k. no 0 (rw k at z))
    where
      no : (n : ℕ) → suc n ≡ 0 → Passed
      no n e = absurd (omega arith)

  pub passed_width : Passed → width ≤ 64
  passed_width p = split (eqb width 32) (λ a. let e = eqb-true width 32 a in omega arith) (λ a. let e = eqb-true width 64 (rw a at p.known) in omega arith)

  pub passed_left : Passed → Sane l.pool
  passed_left p = record { width = width; most = passed_width p; formed = formed width l.pool p.left_pool }

  pub passed_right : Passed → Sane r.pool
  passed_right p = record { width = width; most = passed_width p; formed = formed width r.pool p.right_pool }

-- what a list call leaves
abbrev pub leaves : Answer → List ℕ → Listed
leaves a o = record { answer = a; output = o }

-- what is left of a call whose other tests passed, by the records and the room for them
abbrev pub room_outcome : List Record → List ℕ → Listed
room_outcome rs out = if ltb (length out / record_words) (length rs) then leaves (answer 6 (length rs) 0) out otherwise leaves (answer 0 (length rs) 0) (written_over rs out)

-- the values of a pool, read off its last node
pub last_values : (w : List ℕ) → Sane w → (a : ℕ) → a ≡ first_value w (length w / 4 - 1) → (b : ℕ) → b ≡ ones (data_of w (length w / 4 - 1)) → a + b ≡ values_of w
last_values w s a ea b eb =
    let i = length w / 4 - 1 in
    let n : suc i ≡ node_count w = (let h = s.formed.some in omega arith) in
    ap₂ ◌+◌ (ea ∙ (s.formed.node i (omega arith)).value) eb ∙ ap (values_before w) n

pub sane_values : (w : List ℕ) → Sane w → values_of w ≤ 31 * pool_limit
sane_values w s = values_fit s.width w s.formed

-- a level's records do not outnumber the values of the pools
abbrev pub Few : Job → Level → Type 0
Few j f = length (level_rest j f) ≤ most_from j.op (values_of j.left.pool) (values_of j.right.pool)

-- so a count of them fits
pub few_fits : (j : Job) (f : Level) → Ready j f → Few j f → length (level_rest j f) < 2 ^ 64
few_fits j f r h =
    omega (arith, mostly j.op (values_of j.left.pool) (values_of j.right.pool), sane_values j.left.pool r.at.sane_left, sane_values j.right.pool r.at.sane_right)
  where
    mostly : (op : Operation) (x y : ℕ) → most_from op x y ≤ x + y
    mostly Union x y = omega arith
    mostly Intersection x y = omega arith
    mostly Difference x y = omega arith
    mostly CoveringDifference x y = omega arith
    mostly CoveringUnion x y = omega arith

-- the output is as it was when the records are counted, and has room for `room` of them
module _ (rs : List Record) (out now : List ℕ) (same : now ≡ out) (room : ℕ) (er : room ≡ length now / record_words) where
  pub room_none : (n : ℕ) → n ≡ length rs → (a : Answer) → a ≡ answer 6 n 0 → room < n → leaves a now ≡ room_outcome rs out
  room_none n e a ea h =
      ap₂ leaves ea same ∙ rw (lt-ltb (length out / record_words) (length rs) (rw (e, er, same) at h)) (ap (λ (m : ℕ). leaves (answer 6 m 0) out) e)

  -- n or more records have room
  pub room_enough : (n : ℕ) → length rs ≤ n → n ≤ room → record_words * length rs ≤ length now
  room_enough n e h = enough (length now) (rw er at h)
    where
      enough : (m : ℕ) → n ≤ m / 6 → 6 * length rs ≤ m
      enough m h = omega arith

pub room_done : (rs : List Record) (out : List ℕ) → record_words * length rs ≤ length out → (n : ℕ) → n ≡ length rs → (a : Answer) → a ≡ answer 0 n 0
    → (o : List ℕ) → o ≡ written_over rs out → leaves a o ≡ room_outcome rs out
room_done rs out h n e a ea o eo =
    ap₂ leaves ea eo ∙ rw (le-ltb (length out / record_words) (length rs) (fits (length out) h)) (ap (λ (m : ℕ). leaves (answer 0 m 0) (written_over rs out)) e)
  where
    fits : (m : ℕ) → 6 * length rs ≤ m → length rs ≤ m / 6
    fits m h = omega arith

-- ---- the whole call
module _ (op : Operation) (width : ℕ) (l r : Side) (out : List ℕ) where
  abbrev records : List Record
  records = records_of op (entries_of l) (entries_of r)

  pub list_refused : (a : Answer) → a ≡ first_of (side_rows width l r) 0 → (a.number ≡ 0 → ⊥) → leaves a out ≡ list_outcome op width l r out
  list_refused a e n =
      let k : a ≡ first_of (list_rows width l r (length records) out) (length records) =
      e ∙ sym (first_stays (side_rows width l r) (room_row 6 (length records) (length out / record_words) ∷ []) (length records) (λ z. n (ap (λ (x : Answer). x.number) e ∙ z))) in
      rw (← k) (ap (leaves a) (sym (refused_keeps a (records_words records) out (pos a.number n))))
    where
      pos : (m : ℕ) → (m ≡ 0 → ⊥) → 0 < m
      pos zero h = absurd (h refl)
      pos (suc m) h = omega arith

  -- where the other tests passed, the room decides
  pub list_passed : Passed width l r → room_outcome records out ≡ list_outcome op width l r out
  list_passed p =
      let n = length records in
      let d = first_passes (side_rows width l r) (room_row 6 n (length out / record_words) ∷ []) n (passed_rows width l r p) in
      split (ltb (length out / record_words) n)
      (λ t.
      let a : room_outcome records out ≡ leaves (answer 6 n 0) out = rw t in
      let f : answer 6 n 0 ≡ first_of (list_rows width l r n out) n = sym (d ∙ rw t) in
      a ∙ decided (answer 6 n 0) f)
      (λ t.
      let a : room_outcome records out ≡ leaves (answer 0 n 0) (written_over records out) = rw t in
      let f : answer 0 n 0 ≡ first_of (list_rows width l r n out) n = sym (d ∙ rw t) in
      a ∙ ap (λ (m : ℕ). leaves (answer 0 n 0) (records_words records ++ drop m out)) (sym (words_length records)) ∙ decided (answer 0 n 0) f)
    where
      decided : (a : Answer) → a ≡ first_of (list_rows width l r (length records) out) (length records) → leaves a (written a (records_words records) out) ≡ list_outcome op width l r out
      decided a e = ap (λ (x : Answer). leaves x (written x (records_words records) out)) e

-- ---- where the walk starts
module _ (op : Operation) (L R : Side) (fl : L.root.key < 2 ^ 64) (fr : R.root.key < 2 ^ 64)
    (ll : L.root.len ≤ 64) (lr : R.root.len ≤ 64) (sl : Sane L.pool) (sr : Sane R.pool) where
  abbrev j : Job
  j = record { op = op; left = L; right = R }

  -- the levels above the start: those of the common length
  abbrev K : ℕ
  K = common_len L.root R.root / 5

  small : K ≤ 12
  small = let c = common_le L.root R.root in omega arith

  left_deep : 5 * K ≤ L.root.len
  left_deep = let c = common_le L.root R.root in omega arith

  right_deep : 5 * K ≤ R.root.len
  right_deep = let c = common_le L.root R.root in omega arith

  abbrev p : Prefix
  p = cut_to L.root (5 * K)

  -- both roots have the same first bits there
  same_cut : cut_to R.root (5 * K) ≡ p
  unfolding cut
  same_cut =
      let e = common_says L.root R.root fl fr (5 * K) (omega arith) in
      ap (λ (n : ℕ). record { key = n * 2 ^ (64 - 5 * K); len = 5 * K }) (sym e)

  levels : suc ((60 - 5 * K) / 5) + K ≡ 13
  levels = let s = small in let e : 60 - 5 * K ≡ 5 * (12 - K) = omega arith in rw (e, mul-div_right (12 - K) {m = 5} (omega arith)) (omega arith)

  pub entering : Entering j p (node_down L.pool L.root K) (node_down R.pool R.root K)
  entering =
      record {
        sane_left = sl;
        sane_right = sr;
        in_left = node_down_in L.pool L.root sl K;
        in_right = node_down_in R.pool R.root sr K;
        whole = whole_cut L.root (5 * K);
        short = let s = small in omega arith;
        fives = omega arith;
      }

  pub first_ready : Ready j (enter j p (node_down L.pool L.root K) (node_down R.pool R.root K) no_covers)
  first_ready = record { at = entering; ok = start_ok j p (whole_cut L.root (5 * K)) (depth_at K small) (node_down L.pool L.root K) (node_down R.pool R.root K) }

  -- both views lie in the two nodes
  left_view : entries_of L ≡ side_entries L.pool L.root (suc ((60 - 5 * K) / 5)) (node_down L.pool L.root K) p
  left_view = view_down L.pool L.root fl ll K (suc ((60 - 5 * K) / 5)) levels left_deep

  right_view : entries_of R ≡ side_entries R.pool R.root (suc ((60 - 5 * K) / 5)) (node_down R.pool R.root K) p
  right_view =
      view_down R.pool R.root fr lr K (suc ((60 - 5 * K) / 5)) levels right_deep ∙ ap (side_entries R.pool R.root (suc ((60 - 5 * K) / 5)) (node_down R.pool R.root K)) same_cut

  pub first_list : records_of op (entries_of L) (entries_of R) ≡ level_rest j (enter j p (node_down L.pool L.root K) (node_down R.pool R.root K) no_covers)
  first_list =
      start_list j p (whole_cut L.root (5 * K)) (depth_at K small) (node_down L.pool L.root K) (node_down R.pool R.root K) left_view right_view

  -- the same as code works it out, from the common length m
  module _ (m : ℕ) (em : m ≡ common_len L.root R.root) where
    depth_is : m / 5 * 5 ≡ 5 * K
    depth_is = let e = ap (λ (n : ℕ). n / 5) em in omega arith

    down_is : m / 5 * 5 / 5 ≡ K
    down_is = let e = depth_is in omega arith

    pub depth_short : m / 5 * 5 ≤ 60
    depth_short = let s = small in let e = depth_is in omega arith

    module _ (a b : Node) (ea : a ≡ node_down L.pool L.root (m / 5 * 5 / 5)) (eb : b ≡ node_down R.pool R.root (m / 5 * 5 / 5)) (q : Prefix) (eq : q ≡ cut_to L.root (m / 5 * 5)) where
      prefix_is : q ≡ p
      prefix_is = eq ∙ ap (cut_to L.root) depth_is

      left_is : a ≡ node_down L.pool L.root K
      left_is = ea ∙ ap (node_down L.pool L.root) down_is

      right_is : b ≡ node_down R.pool R.root K
      right_is = eb ∙ ap (node_down R.pool R.root) down_is

      pub common_entering : Entering j q a b
      common_entering =
          subst (λ (x : Prefix). Entering j x a b) (sym prefix_is)
          (subst (λ (x : Node). Entering j p x b) (sym left_is) (subst (Entering j p (node_down L.pool L.root K)) (sym right_is) entering))

      levels_are : suc ((60 - 5 * K) / 5) ≡ suc (12 - m / 5 * 5 / 5)
      levels_are = let s = small in let n = levels in let e = down_is in omega arith

      -- both views lie in the two nodes, so many levels deep
      pub common_left : entries_of L ≡ side_entries L.pool L.root (suc (12 - m / 5 * 5 / 5)) a q
      common_left =
          left_view ∙ ap₂ (λ (n : ℕ) (x : Prefix). side_entries L.pool L.root n (node_down L.pool L.root K) x) levels_are (sym prefix_is)
          ∙ ap (λ (x : Node). side_entries L.pool L.root (suc (12 - m / 5 * 5 / 5)) x q) (sym left_is)

      pub common_right : entries_of R ≡ side_entries R.pool R.root (suc (12 - m / 5 * 5 / 5)) b q
      common_right =
          right_view ∙ ap₂ (λ (n : ℕ) (x : Prefix). side_entries R.pool R.root n (node_down R.pool R.root K) x) levels_are (sym prefix_is)
          ∙ ap (λ (x : Node). side_entries R.pool R.root (suc (12 - m / 5 * 5 / 5)) x q) (sym right_is)

      module _ (c : Covers) (ec : c ≡ no_covers) (f : Level) (ef : f ≡ enter j q a b c) where
        first_is : f ≡ enter j p (node_down L.pool L.root K) (node_down R.pool R.root K) no_covers
        first_is =
            ef ∙ ap (λ (x : Prefix). enter j x a b c) prefix_is ∙ ap (λ (x : Node). enter j p x b c) left_is ∙ ap (λ (x : Node). enter j p (node_down L.pool L.root K) x c) right_is
            ∙ ap (enter j p (node_down L.pool L.root K) (node_down R.pool R.root K)) ec

        pub common_ready : Ready j f
        common_ready = subst (Ready j) (sym first_is) first_ready

        pub common_list : records_of op (entries_of L) (entries_of R) ≡ level_rest j f
        common_list = first_list ∙ ap (level_rest j) (sym first_is)

-- no covers are carried on as none
pub carries_none : (op : Operation) (c : Covers) → c ≡ no_covers → carried op c ≡ c
carries_none op c e = rw e (go op)
  where
    go : (op : Operation) → carried op no_covers ≡ no_covers
    go Union = refl
    go Intersection = refl
    go Difference = refl
    go CoveringDifference = refl
    go CoveringUnion = refl

-- ---- the refusals, as code tests them

-- ---- the refusals, from the checks' answers
module _ (width : ℕ) (l r : Side) (a : Answer) (ea : a ≡ check_outcome width l.pool) where
  -- the width is not known
  pub code_1 : a.number ≡ 1 → answer 1 0 0 ≡ first_of (side_rows width l r) 0
  code_1 h = refused_1 width l r (sym (ap (λ (x : Answer). x.number) ea) ∙ h)

  -- the left pool has a fault, whose node stands beside the answer
  pub code_2 : a.number ≡ 2 → answer 2 a.beside 0 ≡ first_of (side_rows width l r) 0
  code_2 h = ap (λ (x : Answer). answer 2 x.beside 0) ea ∙ refused_2 width l r (sym (ap (λ (x : Answer). x.number) ea) ∙ h)

  module _ (n1 : a.number ≡ 1 → ⊥) (n2 : a.number ≡ 2 → ⊥) (b : Answer) (eb : b ≡ check_outcome width r.pool) where
    left_none : (check_outcome width l.pool).number ≡ 0
    left_none = left_good width l r (λ h. n1 (ap (λ (x : Answer). x.number) ea ∙ h)) (λ h. n2 (ap (λ (x : Answer). x.number) ea ∙ h))

    -- the right pool has a fault
    pub code_3 : (b.number ≡ 0 → ⊥) → answer 3 b.beside 0 ≡ first_of (side_rows width l r) 0
    code_3 h = ap (λ (x : Answer). answer 3 x.beside 0) eb ∙ refused_3 width l r left_none (λ k. h (ap (λ (x : Answer). x.number) eb ∙ k))

    module _ (h : b.number ≡ 0) where
      right_none : (check_outcome width r.pool).number ≡ 0
      right_none = sym (ap (λ (x : Answer). x.number) eb) ∙ h

      -- the left root is longer than the width
      pub code_4 : width < l.root.len → answer 4 0 0 ≡ first_of (side_rows width l r) 0
      code_4 = refused_4 width l r left_none right_none

      -- the right root is, and the left one is not
      pub code_5 : l.root.len ≤ width → width < r.root.len → answer 5 0 0 ≡ first_of (side_rows width l r) 0
      code_5 = refused_5 width l r left_none right_none

      -- nothing is refused
      pub code_0 : l.root.len ≤ width → r.root.len ≤ width → answer 0 0 0 ≡ first_of (side_rows width l r) 0
      code_0 i k = passed_answer width l r (all_passed width l r left_none right_none i k)

-- the sides that were opened are those of the call, and its tests passed
pub record Opened (width : ℕ) (l r : Side) (s : Sides) : Type 0 where
  pub left_is : seen s.left ≡ l
  pub right_is : seen s.right ≡ r
  pub passed : Passed width (seen s.left) (seen s.right)

-- a refusal is never answered by 0
pub refusal_some : (e : Refusal) → (answer_for e).number ≡ 0 → ⊥
refusal_some Width h = omega arith
refusal_some (LeftPool n) h = omega arith
refusal_some (RightPool n) h = omega arith
refusal_some LeftRoot h = omega arith
refusal_some RightRoot h = omega arith
refusal_some (Room n) h = omega arith
refusal_some (ValueRoom n) h = omega arith
refusal_some (Line n) h = omega arith

module _ (width : ℕ) (l r : Side) where
  pub left_refused : (e : PoolError) → checked (Err e) ≡ check_outcome width l.pool → answer_for (on_left e) ≡ first_of (side_rows width l r) 0
  left_refused NoPool.Width h = refused_1 width l r (sym (ap (λ (x : Answer). x.number) h))
  left_refused (NoPool.Fault f n) h = ap (λ (x : Answer). answer 2 x.beside 0) h ∙ refused_2 width l r (sym (ap (λ (x : Answer). x.number) h))

  module _ (m : ℕ) (k : checked (Ok m) ≡ check_outcome width l.pool) where
    left_zero : (check_outcome width l.pool).number ≡ 0
    left_zero = sym (ap (λ (x : Answer). x.number) k)

    pub right_refused : (e : PoolError) → checked (Err e) ≡ check_outcome width r.pool → answer_for (on_right e) ≡ first_of (side_rows width l r) 0
    right_refused NoPool.Width h =
        let known = (zero_says width l.pool left_zero).0 in
        let unknown = one_says width r.pool (sym (ap (λ (x : Answer). x.number) h)) in
        absurd (false≢true (sym unknown ∙ known))
    right_refused (NoPool.Fault f n) h =
        ap (λ (x : Answer). answer 3 x.beside 0) h ∙ refused_3 width l r left_zero (λ z. let two = ap (λ (x : Answer). x.number) h in omega arith)

    module _ (n : ℕ) (i : checked (Ok n) ≡ check_outcome width r.pool) where
      right_zero : (check_outcome width r.pool).number ≡ 0
      right_zero = sym (ap (λ (x : Answer). x.number) i)

      pub left_long : width < l.root.len → answer 4 0 0 ≡ first_of (side_rows width l r) 0
      left_long = refused_4 width l r left_zero right_zero

      pub right_long : l.root.len ≤ width → width < r.root.len → answer 5 0 0 ≡ first_of (side_rows width l r) 0
      right_long = refused_5 width l r left_zero right_zero

      pub both_passed : l.root.len ≤ width → r.root.len ≤ width → Passed width l r
      both_passed = all_passed width l r left_zero right_zero

-- a table that answers 0 says that all tests passed
module _ (op : Operation) (width : ℕ) (l r : Side) (a : Answer) (ea : a ≡ first_of (side_rows width l r) 0) (z : a.number ≡ 0) where
  pub call_passed : Passed width l r
  call_passed = zero_passed width l r (sym (ap (λ (x : Answer). x.number) ea) ∙ z)

-- ---- a list call, as code makes it
module _ (op : Operation) (width : ℕ) (l r : Side) (p : Passed width l r) where
  pub left_short : l.root.len ≤ 64
  left_short = let w = passed_width width l r p in let k = p.left_root in omega arith

  pub right_short : r.root.len ≤ 64
  right_short = let w = passed_width width l r p in let k = p.right_root in omega arith

  pub list_few : (f : Level) → let j : Job = record { op = op; left = l; right = r } in records_of op (entries_of l) (entries_of r) ≡ level_rest j f → Few j f
  list_few f e =
      subst (λ (rs : List Record). length rs ≤ most_from op (values_of l.pool) (values_of r.pool)) e
      (list_most op width l r (formed width l.pool p.left_pool) (formed width r.pool p.right_pool))
