-- Document 01's worked cases on the lists A and B: the 13 marked P as one table, under one claim.
use Rattle.std.specs.Prelude.{Bool, true, false, ◌&&◌, List, [], ◌∷◌, ◌++◌, ℕ, ◌+◌, ◌-◌, ◌*◌, ◌/◌, ◌^◌, T, eqb, length, replicate}
use Rattle.std.specs.Int.Count.{ones_in}
use Rattle.defs.specs.declared.Prefix.{Prefix}
use Rattle.defs.specs.declared.Answer.{Answer}
use Rattle.defs.specs.declared.Operation.{Operation}
use Rattle.defs.specs.declared.Operation.TheVariants.{Union, Intersection, Difference, CoveringDifference}
use Rattle.defs.specs.Basics.{each, every}
use Rattle.defs.specs.Prefix.{leads, before, same, top}
use Rattle.defs.specs.Entries.{places}
use Rattle.defs.specs.Tidy.{data_prefixes, child_prefixes, nodes_of}
use Rattle.defs.specs.Outcome.{Side, list_outcome, equal_outcome, tidy_outcome}

-- the IPv4 prefix a.b.0.0/n
abbrev pub ip : ℕ → ℕ → ℕ → Prefix
ip a b n = record { key = (a * 256 + b) * 2 ^ 48; len = n }

-- list A: 0/0, 10/8, 10.128/9
abbrev pub A : List ℕ
A = 1 ∷ 2 ∷ 1 ∷ 0 ∷ 0x100200 ∷ 0 ∷ 2 ∷ 1 ∷ []

-- list B: 128/1, 10.0/9, 10.128/9
abbrev pub B : List ℕ
B = 4 ∷ 2 ∷ 1 ∷ 0 ∷ 0x180000 ∷ 0 ∷ 2 ∷ 1 ∷ []

-- a well-formed pool that is not tidy: node 1 is empty
abbrev pub C : List ℕ
C = 1 ∷ 2 ∷ 1 ∷ 0 ∷ 0 ∷ 0 ∷ 2 ∷ 1 ∷ []

infix 20 ◌at◌
-- a pool at a root
abbrev pub ◌at◌ : List ℕ → Prefix → Side
w at p = record { pool = w; root = p }

-- a whole pool
abbrev pub whole : List ℕ → Side
whole w = w at top

-- the mark of a missing value
abbrev pub gone : ℕ
gone = 0xffffffff

-- the six words of a record without a cover: prefix, tag, left and right value
abbrev pub line : Prefix → ℕ → ℕ → ℕ → List ℕ
line p tag l r = p.key ∷ p.len ∷ tag ∷ l ∷ r ∷ 255 ∷ []

-- a call at width 32, and what it is to give: records; yes (1) or no (0); a tidy pool and its value list
pub data Case : Type 0 where
  list : Operation → Side → Side → List (List ℕ) → Case
  equal : Side → Side → ℕ → Case
  tidy : Side → List ℕ → List ℕ → Case

-- the 13 cases
abbrev pub cases : List Case
cases =
    list Union (whole A) (whole B)
    (line (ip 0 0 0) 1 0 gone ∷ line (ip 10 0 8) 1 1 gone ∷ line (ip 10 0 9) 2 gone 1 ∷ line (ip 10 128 9) 3 2 2 ∷ line (ip 128 0 1) 2 gone 0 ∷ [])
    ∷ list Intersection (whole A) (whole B) (line (ip 10 128 9) 3 2 2 ∷ [])
    ∷ list Difference (whole A) (whole B) (line (ip 0 0 0) 1 0 gone ∷ line (ip 10 0 8) 1 1 gone ∷ [])
    ∷ list Difference (whole B) (whole A) (line (ip 10 0 9) 1 1 gone ∷ line (ip 128 0 1) 1 0 gone ∷ [])
    ∷ list CoveringDifference (whole A) (whole B) (line (ip 0 0 0) 1 0 gone ∷ line (ip 10 0 8) 1 1 gone ∷ [])
    ∷ list CoveringDifference (whole B) (whole A) []
    ∷ list CoveringDifference (whole B) (A at ip 10 0 8) (line (ip 128 0 1) 1 0 gone ∷ [])
    ∷ list CoveringDifference (B at ip 10 0 9) (A at ip 10 0 8) []
    ∷ equal (A at ip 10 128 9) (B at ip 10 128 9) 1
    ∷ equal (A at ip 192 0 2) (B at ip 64 0 2) 1
    ∷ tidy (whole C) (1 ∷ 0 ∷ 1 ∷ 0 ∷ []) (0 ∷ [])
    ∷ tidy (A at ip 10 128 9) (0 ∷ 2 ∷ 1 ∷ 0 ∷ 0x100000 ∷ 0 ∷ 2 ∷ 0 ∷ []) (2 ∷ [])
    ∷ tidy (A at ip 192 0 2) (0 ∷ 0 ∷ 1 ∷ 0 ∷ []) []
    ∷ []

-- two lists of numbers are the same
abbrev pub same_words : List ℕ → List ℕ → Bool
same_words [] [] = true
same_words [] (y ∷ ys) = false
same_words (x ∷ xs) [] = false
same_words (x ∷ xs) (y ∷ ys) = eqb x y && same_words xs ys

-- the three numbers of an answer
abbrev pub numbers : Answer → List ℕ
numbers a = a.number ∷ a.beside ∷ a.second ∷ []

-- a call is done, with this number beside it
abbrev pub done : Answer → ℕ → Bool
done a n = same_words (numbers a) (0 ∷ n ∷ 0 ∷ [])

-- a buffer of 32 words, each 7
abbrev pub blank : List ℕ
blank = replicate 32 7

-- that buffer with these words at its front, and otherwise as it was
abbrev pub holds : List ℕ → List ℕ → Bool
holds out new = same_words out (new ++ replicate (32 - length new) 7)

-- a case gives what it is to give, in the answer and in every word of its buffers
abbrev pub passes : Case → Bool
passes (list op l r records) =
    let out = list_outcome op 32 l r blank in
    done out.answer (length records) && holds out.output (each (λ r. r) records)
passes (equal l r yes-no) = done (equal_outcome 32 l r) yes-no
passes (tidy s pool values) =
    let out = tidy_outcome 32 s blank blank in
    done out.answer (length pool / 4) && holds out.output pool && holds out.values values

-- all 13 cases pass
pub worked_cases : T (every passes cases)
unfolding ones_in leads before same places data_prefixes child_prefixes nodes_of
worked_cases = tt
