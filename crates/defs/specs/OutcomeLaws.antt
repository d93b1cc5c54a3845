-- Demand 1 on the definitions: each number is given exactly when its row holds and no earlier row does, and a refused call leaves every
-- buffer as it was.
use Rattle.std.specs.Prelude.{◌≡◌, refl, Bool, true, false, not, ◌&&◌, List, [], ◌∷◌, ◌++◌, map, ℕ, ◌<◌, eqb, length}
use Rattle.std.proofs.Common.{sym, arith, eqb-true, ne_eqb}
use Rattle.std.proofs.lemmas.Bool.{eqb-false}
use Rattle.defs.specs.declared.Answer.{Answer}
use Rattle.defs.specs.declared.Operation.{Operation}
use Rattle.defs.specs.Basics.{if◌then◌otherwise◌, any}
use Rattle.defs.specs.Lists.{records_of}
use Rattle.defs.specs.Tidy.{nodes_of}
use Rattle.defs.specs.Outcome.{Row, Side, first_of, written, entries_of, side_rows, list_rows, list_outcome, equal_outcome, tidy_rows, tidy_outcome, check_rows, check_outcome}
use Rattle.defs.specs.Lemmas.{All, nil, more, split, not_both}

-- the number of a row
abbrev pub number_of : Row → ℕ
number_of r = r.refusal.number

-- row r holds, and no row before it does
pub data FirstHolds (r : Row) : List Row → Type 0 where
  at_once : {rs : List Row} → r.holds ≡ true → FirstHolds r (r ∷ rs)
  after : {s : Row} {rs : List Row} → s.holds ≡ false → FirstHolds r rs → FirstHolds r (s ∷ rs)

-- then the answer is that row's, whatever would have been done
pub first_answer : {r : Row} {rs : List Row} (done : ℕ) → FirstHolds r rs → first_of rs done ≡ r.refusal
first_answer done (at_once h) = rw h
first_answer done (after h k) = rw h (first_answer done k)

-- where a row holds, more rows behind change nothing
pub first_stays : (rs ts : List Row) (d : ℕ) → ((first_of rs 0).number ≡ 0 → ⊥) → first_of (rs ++ ts) d ≡ first_of rs 0
first_stays [] ts d h = absurd (h refl)
first_stays (r ∷ rs) ts d h = split r.holds (λ e. rw e) (λ e. rw e (first_stays rs ts d (rw e at h)))

-- where none holds, the rows behind decide
pub first_passes : (rs ts : List Row) (d : ℕ) → All (λ r. r.holds ≡ false) rs → first_of (rs ++ ts) d ≡ first_of ts d
first_passes [] ts d nil = refl
first_passes (r ∷ rs) ts d (more h hs) = rw h (first_passes rs ts d hs)

-- the row of number n holds, and no row before it does, as a test
abbrev pub given_by : List Row → ℕ → Bool
given_by [] n = false
given_by (r ∷ rs) n = if eqb (number_of r) n then r.holds otherwise not r.holds && given_by rs n

-- no number stands twice
abbrev pub distinct : List ℕ → Bool
distinct [] = true
distinct (n ∷ ns) = not (any (eqb n) ns) && distinct ns

module _ (done : ℕ) (n : ℕ) (refusal : 0 < n) where
  elsewhere : (rs : List Row) → any (eqb n) (map number_of rs) ≡ false → eqb (first_of rs done).number n ≡ false
  elsewhere [] h = ne_eqb 0 n (λ e. omega arith)
  elsewhere (r ∷ rs) h =
      split (eqb n (number_of r)) (λ e. not_both (rw e) h)
      (λ e. split r.holds (λ i. rw i (ne_eqb (number_of r) n (λ q. eqb-false n (number_of r) e (sym q)))) (λ i. rw i (elsewhere rs (rw e at h))))

  -- in a table in which no number stands twice, a number is given exactly when its row holds and no earlier one does
  pub given_exactly : (rs : List Row) → distinct (map number_of rs) ≡ true → eqb (first_of rs done).number n ≡ given_by rs n
  given_exactly [] h = ne_eqb 0 n (λ e. omega arith)
  given_exactly (r ∷ rs) h =
      split (any (eqb (number_of r)) (map number_of rs)) (λ e. not_both (rw e at h) refl)
      (λ e.
      split (eqb (number_of r) n)
      (λ q.
      let same : number_of r ≡ n = eqb-true _ _ q in
      split r.holds (λ i. rw (i, q)) (λ i. rw (i, q) (elsewhere rs (rw same at e))))
      (λ q. split r.holds (λ i. rw (i, q)) (λ i. rw (i, q) (given_exactly rs (rw e at h)))))

-- the numbers of each call, in the order in which they are tested
pub list_order : (width : ℕ) (l r : Side) (needed : ℕ) (out : List ℕ) → map number_of (list_rows width l r needed out) ≡ 1 ∷ 2 ∷ 3 ∷ 4 ∷ 5 ∷ 6 ∷ []
list_order width l r needed out = refl

pub equal_order : (width : ℕ) (l r : Side) → map number_of (side_rows width l r) ≡ 1 ∷ 2 ∷ 3 ∷ 4 ∷ 5 ∷ []
equal_order width l r = refl

pub tidy_order : (width : ℕ) (s : Side) (nodes entries : ℕ) (out values : List ℕ) → map number_of (tidy_rows width s nodes entries out values) ≡ 1 ∷ 2 ∷ 4 ∷ 6 ∷ 7 ∷ []
tidy_order width s nodes entries out values = refl

pub check_order : (width : ℕ) (w : List ℕ) → map number_of (check_rows width w) ≡ 1 ∷ 2 ∷ []
check_order width w = refl

-- each number of each call, given exactly when its row holds and no earlier one does
module _ (n : ℕ) (refusal : 0 < n) where
  pub list_given : (op : Operation) (width : ℕ) (l r : Side) (out : List ℕ)
      → eqb (list_outcome op width l r out).answer.number n ≡ given_by (list_rows width l r (length (records_of op (entries_of l) (entries_of r))) out) n
  list_given op width l r out = given_exactly _ n refusal (list_rows width l r (length (records_of op (entries_of l) (entries_of r))) out) refl

  pub equal_given : (width : ℕ) (l r : Side) → eqb (equal_outcome width l r).number n ≡ given_by (side_rows width l r) n
  equal_given width l r = given_exactly _ n refusal (side_rows width l r) refl

  pub tidy_given : (width : ℕ) (s : Side) (out values : List ℕ)
      → eqb (tidy_outcome width s out values).answer.number n ≡ given_by (tidy_rows width s (length (nodes_of (entries_of s))) (length (entries_of s)) out values) n
  tidy_given width s out values = given_exactly _ n refusal (tidy_rows width s (length (nodes_of (entries_of s))) (length (entries_of s)) out values) refl

  pub check_given : (width : ℕ) (w : List ℕ) → eqb (check_outcome width w).number n ≡ given_by (check_rows width w) n
  check_given width w = given_exactly _ n refusal (check_rows width w) refl

-- a refused call leaves its buffer as it was
pub refused_keeps : (a : Answer) (new old : List ℕ) → 0 < a.number → written a new old ≡ old
refused_keeps a new old h = rw (ne_eqb a.number 0 (λ e. omega arith))

-- a list call, and each of tidying's two buffers
pub list_refused : (op : Operation) (width : ℕ) (l r : Side) (out : List ℕ) → 0 < (list_outcome op width l r out).answer.number
    → (list_outcome op width l r out).output ≡ out
list_refused op width l r out h = rw (ne_eqb (list_outcome op width l r out).answer.number 0 (λ e. omega arith))

pub tidy_refused : (width : ℕ) (s : Side) (out values : List ℕ) → 0 < (tidy_outcome width s out values).answer.number
    → ((tidy_outcome width s out values).output ≡ out) × ((tidy_outcome width s out values).values ≡ values)
tidy_refused width s out values h =
    let n = ne_eqb (tidy_outcome width s out values).answer.number 0 (λ e. omega arith) in (rw n, rw n)
