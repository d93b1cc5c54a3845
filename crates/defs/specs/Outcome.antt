-- What each call answers, and what its lent buffers hold afterwards, for all inputs: document 01, "Refusal numbers".
use Rattle.std.specs.Prelude.{Bool, not, ◌||◌, List, [], ◌∷◌, ◌++◌, ℕ, ◌/◌, ltb, eqb, length, drop}
use Rattle.defs.specs.declared.Prefix.{Prefix}
use Rattle.defs.specs.declared.Answer.{Answer}
use Rattle.defs.specs.declared.Operation.{Operation}
use Rattle.defs.specs.Basics.{if◌then◌otherwise◌, each}
use Rattle.defs.specs.Pool.{node_count}
use Rattle.defs.specs.Entries.{Entry, view}
use Rattle.defs.specs.Check.{fault_of}
use Rattle.defs.specs.Lists.{record_words, words_of, records_of, same_keys}
use Rattle.defs.specs.Tidy.{nodes_of, tidy_pool, tidy_values}

-- an answer: the refusal number or 0, the number beside it, and a second number
abbrev pub answer : ℕ → ℕ → ℕ → Answer
answer n beside second = record { number = n; beside = beside; second = second }

-- a row of the refusal table: when it holds, and what is answered
pub record Row : Type 0 where
  pub holds : Bool
  pub refusal : Answer

-- a row
abbrev pub row : Bool → Answer → Row
row holds refusal = record { holds = holds; refusal = refusal }

-- the answer of the first row that holds, or else 0 with the number of what was done
abbrev pub first_of : List Row → ℕ → Answer
first_of [] done = answer 0 done 0
first_of (r ∷ rs) done = if r.holds then r.refusal otherwise first_of rs done

-- a side of a call: pool words and root
pub record Side : Type 0 where
  pub pool : List ℕ
  pub root : Prefix

-- the entries of a side's view
abbrev pub entries_of : Side → List Entry
entries_of s = view s.pool s.root

-- refusal 1: the width is not 32 or 64
abbrev pub width_row : ℕ → Row
width_row width = row (not (eqb width 32 || eqb width 64)) (answer 1 0 0)

-- refusal n: a side's pool has a fault
abbrev pub fault_row : ℕ → ℕ → Side → Row
fault_row n width s = let f = fault_of width s.pool in row (ltb 0 f.number) (answer n f.node 0)

-- refusal n: a side's root is longer than the width
abbrev pub root_row : ℕ → ℕ → Side → Row
root_row n width s = row (ltb width s.root.len) (answer n 0 0)

-- refusal n: more is needed than there is room for
abbrev pub room_row : ℕ → ℕ → ℕ → Row
room_row n needed room = row (ltb room needed) (answer n needed 0)

-- the rows of a call with two sides, in the order in which they are tested
abbrev pub side_rows : ℕ → Side → Side → List Row
side_rows width l r =
    width_row width ∷ fault_row 2 width l ∷ fault_row 3 width r ∷ root_row 4 width l ∷ root_row 5 width r ∷ []

-- a buffer after a call: the new words at its front where the call is done, and otherwise as it was
abbrev pub written : Answer → List ℕ → List ℕ → List ℕ
written a new old = if eqb a.number 0 then new ++ drop (length new) old otherwise old

-- what a list call leaves: its answer and its output
pub record Listed : Type 0 where
  pub answer : Answer
  pub output : List ℕ

-- the rows of a list call that needs so many records
abbrev pub list_rows : ℕ → Side → Side → ℕ → List ℕ → List Row
list_rows width l r needed out = side_rows width l r ++ (room_row 6 needed (length out / record_words) ∷ [])

-- a list call
abbrev pub list_outcome : Operation → ℕ → Side → Side → List ℕ → Listed
list_outcome op width l r out =
    let records = records_of op (entries_of l) (entries_of r) in
    let a = first_of (list_rows width l r (length records) out) (length records) in
    record { answer = a; output = written a (each words_of records) out }

-- key equality: 1 for yes, 0 for no
abbrev pub equal_outcome : ℕ → Side → Side → Answer
equal_outcome width l r = first_of (side_rows width l r) (if same_keys (entries_of l) (entries_of r) then 1 otherwise 0)

-- what tidying leaves: its answer, its output and its value list
pub record Tidied : Type 0 where
  pub answer : Answer
  pub output : List ℕ
  pub values : List ℕ

-- the rows of tidying, where so many nodes and entries are needed
abbrev pub tidy_rows : ℕ → Side → ℕ → ℕ → List ℕ → List ℕ → List Row
tidy_rows width s nodes entries out values =
    width_row width ∷ fault_row 2 width s ∷ root_row 4 width s ∷ room_row 6 nodes (length out / 4) ∷ room_row 7 entries (length values) ∷ []

-- tidying
abbrev pub tidy_outcome : ℕ → Side → List ℕ → List ℕ → Tidied
tidy_outcome width s out values =
    let es = entries_of s in
    let nodes = length (nodes_of es) in
    let a = first_of (tidy_rows width s nodes (length es) out values) nodes in
    record { answer = a; output = written a (tidy_pool es) out; values = written a (tidy_values es) values }

-- the rows of the check alone; the second number is the fault's
abbrev pub check_rows : ℕ → List ℕ → List Row
check_rows width w = let f = fault_of width w in width_row width ∷ row (ltb 0 f.number) (answer 2 f.node f.number) ∷ []

-- the check alone
abbrev pub check_outcome : ℕ → List ℕ → Answer
check_outcome width w = first_of (check_rows width w) (node_count w)
