-- Refusal tables whose rows are said in plain terms, and what their answers then say.
use Rattle.std.specs.Prelude.{◌≡◌, refl, Bool, true, false, not, ◌&&◌, ◌||◌, List, [], ◌∷◌, ◌++◌, map, ℕ, ◌/◌, ◌≤◌, ◌<◌, ltb, eqb, length}
use Rattle.std.proofs.Common.{sym, ◌∙◌, ap, inl, inr, arith, ltb-true, ltb-false, lt-ltb, le-ltb, eqb-true, eq-eqb, ne_eqb}
use Rattle.std.proofs.lemmas.Bool.{false≢true, eqb-false, not-true}
use Rattle.defs.specs.declared.Answer.{Answer}
use Rattle.defs.specs.Basics.{if◌then◌otherwise◌, any, every}
use Rattle.defs.specs.Check.{fault_of}
use Rattle.defs.specs.Lists.{record_words}
use Rattle.defs.specs.Outcome.{Row, Side, answer, row, first_of, width_row}
use Rattle.defs.specs.Lemmas.{split, and_left, and_right}
use Rattle.defs.specs.OutcomeLaws.{number_of, given_by, distinct, given_exactly}
use Rattle.claims.specs.Terms.{GoodWidth, BadWidth, Faulty, WellFormed, Exactly}

-- a row, and what it says where it holds and where it does not
pub record Meant : Type 1 where
  pub test : Row
  pub yes : Type 0
  pub no : Type 0
  pub yes_says : test.holds ≡ true → yes
  pub no_says : test.holds ≡ false → no
  pub yes_of : yes → test.holds ≡ true
  pub no_of : no → test.holds ≡ false

-- the rows of a table
abbrev pub rows_of : List Meant → List Row
rows_of = map (λ m. m.test)

-- the first of two types where the test passes, else the second
abbrev choose : Bool → Type 0 → Type 0 → Type 0
choose true A B = A
choose false A B = B

-- the row of number n holds, and no row before it does
abbrev pub Given : List Meant → ℕ → Type 0
Given [] n = ⊥
Given (m ∷ ms) n = choose (eqb (number_of m.test) n) m.yes (m.no × Given ms n)

-- no row of a table with a first row holds
abbrev pub NoneFrom : Meant → List Meant → Type 0
NoneFrom m [] = m.no
NoneFrom m (m' ∷ ms) = m.no × NoneFrom m' ms

-- no row of a table holds
abbrev pub NoneOf : List Meant → Type 0
NoneOf [] = Unit {0}
NoneOf (m ∷ ms) = NoneFrom m ms

-- the answer of the row of number n
abbrev pub refusal_of : List Meant → ℕ → Answer
refusal_of [] n = answer 0 0 0
refusal_of (m ∷ ms) n = if eqb (number_of m.test) n then m.test.refusal otherwise refusal_of ms n

says_row : (m : Meant) (b rest : Bool) (R : Type 0) → (rest ≡ true → R) → (if b then m.test.holds otherwise not m.test.holds && rest) ≡ true
    → choose b m.yes (m.no × R)
says_row m true rest R f h = m.yes_says h
says_row m false rest R f h = (m.no_says (not-true _ (and_left (not m.test.holds) rest h)), f (and_right (not m.test.holds) rest h))

given_says : (ms : List Meant) (n : ℕ) → given_by (rows_of ms) n ≡ true → Given ms n
given_says [] n h = absurd (false≢true h)
given_says (m ∷ ms) n h = says_row m (eqb (number_of m.test) n) (given_by (rows_of ms) n) (Given ms n) (given_says ms n) h

of_row : (m : Meant) (b : Bool) (R : Type 0) (a c : Answer) → (R → a ≡ c) → choose b m.yes (m.no × R)
    → (if m.test.holds then m.test.refusal otherwise a) ≡ (if b then m.test.refusal otherwise c)
of_row m true R a c f h = rw (m.yes_of h)
of_row m false R a c f h = rw (m.no_of h.0) (f h.1)

given_of : (ms : List Meant) (n done : ℕ) → Given ms n → first_of (rows_of ms) done ≡ refusal_of ms n
given_of [] n done h = absurd h
given_of (m ∷ ms) n done h = of_row m (eqb (number_of m.test) n) (Given ms n) (first_of (rows_of ms) done) (refusal_of ms n) (given_of ms n done) h

-- a refusal number of a table is given exactly when its row holds and no earlier one does
pub exactly : (ms : List Meant) (n done : ℕ) → 0 < n → distinct (map number_of (rows_of ms)) ≡ true → (refusal_of ms n).number ≡ n
    → Exactly (first_of (rows_of ms) done) (refusal_of ms n) (Given ms n)
exactly ms n done p d e = record {
  only_when = λ h. given_says ms n (sym (given_exactly done n p (rows_of ms) d) ∙ eq-eqb _ n (h ∙ e));
  whenever = given_of ms n done;
}

-- no row of a table has number 0
abbrev pub positive : List Row → Bool
positive = every (λ r. ltb 0 (number_of r))

first_no : (m : Meant) (rest : Answer) → ltb 0 (number_of m.test) ≡ true → (if m.test.holds then m.test.refusal otherwise rest).number ≡ 0
    → m.no × (rest.number ≡ 0)
first_no m rest p h =
    split m.test.holds
    (λ t.
    let e : number_of m.test ≡ 0 = rw t at h in
    let l : 0 < number_of m.test = ltb-true 0 _ p in
    absurd (let z : ⊥ = omega arith in z))
    (λ t. (m.no_says t, rw t at h))

none_says : (m : Meant) (ms : List Meant) (done : ℕ) → positive (rows_of (m ∷ ms)) ≡ true → (first_of (rows_of (m ∷ ms)) done).number ≡ 0 → NoneFrom m ms
none_says m [] done p h = (first_no m (answer 0 done 0) (and_left (ltb 0 (number_of m.test)) true p) h).0
none_says m (m' ∷ ms) done p h =
    let f = first_no m (first_of (rows_of (m' ∷ ms)) done) (and_left (ltb 0 (number_of m.test)) (positive (rows_of (m' ∷ ms))) p) h in
    (f.0, none_says m' ms done (and_right (ltb 0 (number_of m.test)) (positive (rows_of (m' ∷ ms))) p) f.1)

none_of : (m : Meant) (ms : List Meant) (done : ℕ) → NoneFrom m ms → first_of (rows_of (m ∷ ms)) done ≡ answer 0 done 0
none_of m [] done h = rw (m.no_of h)
none_of m (m' ∷ ms) done h = rw (m.no_of h.0) (none_of m' ms done h.1)

-- number 0 is given exactly when no row holds
pub exactly_done : (ms : List Meant) (done : ℕ) → positive (rows_of ms) ≡ true → Exactly (first_of (rows_of ms) done) (answer 0 done 0) (NoneOf ms)
exactly_done [] done p = record { only_when = λ h. tt; whenever = λ h. refl }
exactly_done (m ∷ ms) done p = record { only_when = none_says m ms done p; whenever = none_of m ms done }

or_middle : (a b c : Bool) → (a || c) ≡ true → (a || (b || c)) ≡ true
or_middle true b c h = refl
or_middle false true c h = refl
or_middle false false c h = h

or_second : (a b c : Bool) → b ≡ true → (a || (b || c)) ≡ true
or_second true b c h = refl
or_second false b c h = rw h

-- the number given is 0 or one of the table's
pub only_these : (rs : List Row) (done : ℕ) → any (eqb (first_of rs done).number) (0 ∷ map number_of rs) ≡ true
only_these [] done = refl
only_these (r ∷ rs) done =
    split r.holds
    (λ t.
    given r.refusal (rw t)
    (or_second (eqb (number_of r) 0) (eqb (number_of r) (number_of r)) (any (eqb (number_of r)) (map number_of rs)) (eq-eqb (number_of r) (number_of r) refl)))
    (λ t.
    let n = (first_of rs done).number in
    given (first_of rs done) (rw t) (or_middle (eqb n 0) (eqb n (number_of r)) (any (eqb n) (map number_of rs)) (only_these rs done)))
  where
    given : (a : Answer) → first_of (r ∷ rs) done ≡ a → any (eqb a.number) (0 ∷ map number_of (r ∷ rs)) ≡ true
        → any (eqb (first_of (r ∷ rs) done).number) (0 ∷ map number_of (r ∷ rs)) ≡ true
    given a e h = ap (λ (b : Answer). any (eqb b.number) (0 ∷ map number_of (r ∷ rs))) e ∙ h

-- ---- the rows
module _ (width : ℕ) where
  pub good_of : (a b : Bool) → eqb width 32 ≡ a → eqb width 64 ≡ b → not (a || b) ≡ false → GoodWidth width
  good_of true b e f h = inl (eqb-true width 32 e)
  good_of false true e f h = inr (eqb-true width 64 f)
  good_of false false e f h = absurd (false≢true (sym h))

  pub bad_of : (a b : Bool) → eqb width 32 ≡ a → eqb width 64 ≡ b → not (a || b) ≡ true → BadWidth width
  bad_of true b e f h = absurd (false≢true h)
  bad_of false true e f h = absurd (false≢true h)
  bad_of false false e f h = (eqb-false width 32 e, eqb-false width 64 f)

  pub good_says : GoodWidth width → not (eqb width 32 || eqb width 64) ≡ false
  good_says (inl e) = rw (eq-eqb width 32 e)
  good_says (inr e) = split (eqb width 32) (λ t. rw t) (λ t. rw (t, eq-eqb width 64 e))

  abbrev pub width_meant : Meant
  width_meant = record {
    test = width_row width;
    yes = BadWidth width;
    no = GoodWidth width;
    yes_says = bad_of (eqb width 32) (eqb width 64) refl refl;
    no_says = good_of (eqb width 32) (eqb width 64) refl refl;
    yes_of = λ h. rw (ne_eqb width 32 h.0, ne_eqb width 64 h.1);
    no_of = good_says;
  }

  -- a pool has a fault: `refusal` is answered
  abbrev pub fault_meant : List ℕ → Answer → Meant
  fault_meant w refusal = record {
    test = row (ltb 0 (fault_of width w).number) refusal;
    yes = Faulty width w;
    no = WellFormed width w;
    yes_says = ltb-true 0 _;
    no_says = λ h. omega (arith, ltb-false 0 (fault_of width w).number h);
    yes_of = lt-ltb 0 _;
    no_of = λ h. le-ltb 0 (fault_of width w).number (omega arith);
  }

-- `big` is greater than `small`: `refusal` is answered
abbrev pub more_meant : ℕ → ℕ → Answer → Meant
more_meant small big refusal = record {
  test = row (ltb small big) refusal;
  yes = small < big;
  no = big ≤ small;
  yes_says = ltb-true small big;
  no_says = ltb-false small big;
  yes_of = lt-ltb small big;
  no_of = le-ltb small big;
}

-- ---- the tables
abbrev pub side_table : ℕ → Side → Side → List Meant
side_table width l r =
    width_meant width ∷ fault_meant width l.pool (answer 2 (fault_of width l.pool).node 0)
    ∷ fault_meant width r.pool (answer 3 (fault_of width r.pool).node 0) ∷ more_meant width l.root.len (answer 4 0 0)
    ∷ more_meant width r.root.len (answer 5 0 0) ∷ []

abbrev pub list_table : ℕ → Side → Side → ℕ → List ℕ → List Meant
list_table width l r needed out = side_table width l r ++ (more_meant (length out / record_words) needed (answer 6 needed 0) ∷ [])

abbrev pub tidy_table : ℕ → Side → ℕ → ℕ → List ℕ → List ℕ → List Meant
tidy_table width s nodes entries out values =
    width_meant width ∷ fault_meant width s.pool (answer 2 (fault_of width s.pool).node 0) ∷ more_meant width s.root.len (answer 4 0 0)
    ∷ more_meant (length out / 4) nodes (answer 6 nodes 0) ∷ more_meant (length values) entries (answer 7 entries 0) ∷ []

abbrev pub check_table : ℕ → List ℕ → List Meant
check_table width w = width_meant width ∷ fault_meant width w (answer 2 (fault_of width w).node (fault_of width w).number) ∷ []
