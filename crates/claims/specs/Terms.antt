-- The words that the claims use, beside the definitions.
use Rattle.std.specs.Prelude.{◌≡◌, Bool, true, false, ◌⊎◌, ℕ, ◌<◌, eqb, length}
use mathlib.Core.List.{List, Memᴰ}
use Rattle.std.proofs.Math.Option.{Option, none, some}
use Rattle.defs.specs.declared.Prefix.{Prefix}
use Rattle.defs.specs.declared.Answer.{Answer}
use Rattle.defs.specs.declared.Operation.{Operation}
use Rattle.defs.specs.declared.Operation.TheVariants.{Union, Intersection, Difference, CoveringDifference, CoveringUnion}
use Rattle.defs.specs.Basics.{if◌then◌otherwise◌}
use Rattle.defs.specs.Prefix.{leads}
use Rattle.defs.specs.Entries.{Entry}
use Rattle.defs.specs.Check.{fault_of}
use Rattle.defs.specs.Lists.{Record, missing, no_cover, record_of, plain, covered, find, longest, records_of}
use Rattle.defs.specs.Tidy.{nodes_of}
use Rattle.defs.specs.Outcome.{Side, entries_of}
use Rattle.defs.specs.ListLaws.{prefix_of, IsLongest}

-- the width is 32 or 64
abbrev pub GoodWidth : ℕ → Type 0
GoodWidth width = (width ≡ 32) ⊎ (width ≡ 64)

-- the width is neither 32 nor 64
abbrev pub BadWidth : ℕ → Type 0
BadWidth width = (width ≡ 32 → ⊥) × (width ≡ 64 → ⊥)

-- a pool has a fault
abbrev pub Faulty : ℕ → List ℕ → Type 0
Faulty width w = 0 < (fault_of width w).number

-- a pool has no fault
abbrev pub WellFormed : ℕ → List ℕ → Type 0
WellFormed width w = (fault_of width w).number ≡ 0

-- an answer has the number of `wanted` only when C holds, and is `wanted`, in all its numbers, whenever C holds
pub record Exactly (is wanted : Answer) (C : Type 0) : Type 0 where
  pub only_when : is.number ≡ wanted.number → C
  pub whenever : C → is ≡ wanted

-- the number of records of a list
abbrev pub record_count : Operation → Side → Side → ℕ
record_count op l r = length (records_of op (entries_of l) (entries_of r))

-- the number of nodes of the tidy pool of a view
abbrev pub tidy_nodes : Side → ℕ
tidy_nodes s = length (nodes_of (entries_of s))

-- the number of entries of a view
abbrev pub tidy_entries : Side → ℕ
tidy_entries s = length (entries_of s)

-- a record of prefix p stands in a list
abbrev pub HasRecord : Prefix → List Record → Type 0
HasRecord p rs = (r : Record) × Memᴰ r rs × (prefix_of r ≡ p)

-- an entry of prefix p stands among entries
abbrev pub HasEntry : Prefix → List Entry → Type 0
HasEntry p es = (e : Entry) × Memᴰ e es × (e.at ≡ p)

-- an entry stands among entries that leads p: its prefix is p, or shorter and p starts with it
abbrev pub HasLeading : Prefix → List Entry → Type 0
HasLeading p es = (e : Entry) × Memᴰ e es × (leads e.at p ≡ true)

-- the tag of a prefix that is or is not in L and in R: 3 for both, 1 for L alone, 2 for R alone
abbrev pub tag_of : Bool → Bool → ℕ
tag_of true true = 3
tag_of true false = 1
tag_of false b = 2

-- the record that a list has for prefix p, from the entries L and R of the two views
abbrev pub says : Operation → List Entry → List Entry → Prefix → Record
says Union L R p = plain p (find p L) (find p R)
says Intersection L R p = plain p (find p L) (find p R)
says Difference L R p = plain p (find p L) (find p R)
says CoveringDifference L R p = plain p (find p L) (find p R)
says CoveringUnion L R p = covered p (find p L) (find p R) (longest none L p) (longest none R p)

-- what a record of the covering union says, from the entries L and R of the two views
pub data CoveringUnionSays (L R : List Entry) (p : Prefix) : Record → Type 0 where
  -- p is in both: tag 3, both values, no cover
  both : {x y : Entry} → find p L ≡ some x → find p R ≡ some y → CoveringUnionSays L R p (record_of p 3 (some x) (some y) none)
  -- p is in L alone: tag 1, its value, and as cover the longest entry of R that leads p, with its value in the right value word
  left : {x : Entry} {c : Option Entry} → find p L ≡ some x → find p R ≡ none → IsLongest p R c → CoveringUnionSays L R p (record_of p 1 (some x) c c)
  -- p is in R alone: tag 2, its value, and as cover the longest entry of L that leads p, with its value in the left value word
  right : {y : Entry} {c : Option Entry} → find p L ≡ none → find p R ≡ some y → IsLongest p L c → CoveringUnionSays L R p (record_of p 2 c (some y) c)

-- a record without its cover: in a record of one side, the other side's value word is the mark again
abbrev pub without_cover : Record → Record
without_cover x = record {
  key = x.key;
  len = x.len;
  tag = x.tag;
  left = if eqb x.tag 2 then missing otherwise x.left;
  right = if eqb x.tag 1 then missing otherwise x.right;
  cover = no_cover;
}
