-- The borders of the definitions, computed: each fault one step to either side of its limit, the order of the refusals, the marks.
use Rattle.std.specs.Prelude.{◌≡◌, List, [], ◌∷◌, ◌++◌, ℕ, zero, suc, ◌-◌, ◌/◌, ◌^◌, ◌%◌, ◌<◌, ◌≤◌, T, length, replicate, drop}
use Rattle.std.proofs.Common.{arith, ne_eqb, eq-eqb, lt-ltb, le-ltb}
use Rattle.std.specs.Int.Count.{ones_in}
use Rattle.defs.specs.declared.Prefix.{Prefix}
use Rattle.defs.specs.declared.Operation.{Operation}
use Rattle.defs.specs.declared.Operation.TheVariants.{Union, CoveringDifference, CoveringUnion}
use Rattle.defs.specs.Basics.{every}
use Rattle.defs.specs.Prefix.{leads, before, same}
use Rattle.defs.specs.Pool.{node_count}
use Rattle.defs.specs.Entries.{places}
use Rattle.defs.specs.Check.{fault_from, fault_of}
use Rattle.defs.specs.Tidy.{data_prefixes, child_prefixes, nodes_of}
use Rattle.defs.specs.Outcome.{Side, list_outcome, equal_outcome, tidy_outcome, check_outcome}
use Rattle.defs.specs.Cases.{A, B, ip, whole, ◌at◌, gone, same_words, numbers}

-- what is to be compared: what a call gives, and what it is to give
pub record Pair : Type 0 where
  pub is : List ℕ
  pub should : List ℕ

infix 5 ◌gives◌
abbrev pub ◌gives◌ : List ℕ → List ℕ → Pair
a gives b = record { is = a; should = b }

-- a chain of nodes i to i + k, each child 0 of the one before, with this data in the last
abbrev pub chain : ℕ → ℕ → ℕ → List ℕ
chain zero i last = last ∷ 0 ∷ suc i ∷ 0 ∷ []
chain (suc k) i last = 0 ∷ 1 ∷ suc i ∷ 0 ∷ chain k (suc i) last

-- the check's three numbers
abbrev pub check : ℕ → List ℕ → List ℕ
check width w = numbers (check_outcome width w)

-- each fault at its limit
abbrev pub faults : List Pair
faults =
    (check 33 [] gives 1 ∷ 0 ∷ 0 ∷ [])
    ∷ (check 32 [] gives 2 ∷ 0 ∷ 1 ∷ [])
    ∷ (check 32 (0 ∷ 0 ∷ 1 ∷ []) gives 2 ∷ 0 ∷ 1 ∷ [])
    ∷ (check 32 (0 ∷ 0 ∷ 1 ∷ 0 ∷ 0 ∷ []) gives 2 ∷ 0 ∷ 1 ∷ [])
    ∷ (check 32 (0 ∷ 0 ∷ 1 ∷ 0 ∷ []) gives 0 ∷ 1 ∷ 0 ∷ [])
    ∷ (check 32 (0 ∷ 0 ∷ 1 ∷ 0 ∷ 0 ∷ 0 ∷ 1 ∷ 0 ∷ []) gives 2 ∷ 1 ∷ 3 ∷ [])
    ∷ (check 32 (0x7fffffff ∷ 0 ∷ 1 ∷ 0 ∷ []) gives 0 ∷ 1 ∷ 0 ∷ [])
    ∷ (check 32 (0x80000000 ∷ 0 ∷ 1 ∷ 0 ∷ []) gives 2 ∷ 0 ∷ 4 ∷ [])
    ∷ (check 32 (chain 6 0 0x7f) gives 0 ∷ 7 ∷ 0 ∷ [])
    ∷ (check 32 (chain 6 0 0x40) gives 0 ∷ 7 ∷ 0 ∷ [])
    ∷ (check 32 (chain 6 0 0x80) gives 2 ∷ 6 ∷ 4 ∷ [])
    ∷ (check 64 (chain 6 0 0x80) gives 0 ∷ 7 ∷ 0 ∷ [])
    ∷ (check 64 (chain 12 0 0x7fffffff) gives 0 ∷ 13 ∷ 0 ∷ [])
    ∷ (check 64 (chain 12 0 0x80000000) gives 2 ∷ 12 ∷ 4 ∷ [])
    ∷ (check 32 (chain 7 0 0) gives 2 ∷ 6 ∷ 5 ∷ [])
    ∷ (check 64 (chain 13 0 0) gives 2 ∷ 12 ∷ 5 ∷ [])
    ∷ (check 32 (0 ∷ 1 ∷ 2 ∷ 0 ∷ []) gives 2 ∷ 0 ∷ 6 ∷ [])
    ∷ (check 32 (0 ∷ 0 ∷ 0 ∷ 0 ∷ []) gives 2 ∷ 0 ∷ 6 ∷ [])
    ∷ (check 32 (0 ∷ 0 ∷ 0xffffffff ∷ 0 ∷ []) gives 2 ∷ 0 ∷ 6 ∷ [])
    ∷ (check 32 (0 ∷ 1 ∷ 1 ∷ 0 ∷ []) gives 2 ∷ 0 ∷ 7 ∷ [])
    ∷ (check 32 (0 ∷ 3 ∷ 1 ∷ 0 ∷ 0 ∷ 0 ∷ 3 ∷ 0 ∷ []) gives 2 ∷ 0 ∷ 7 ∷ [])
    ∷ (check 32 (0 ∷ 0 ∷ 1 ∷ 1 ∷ []) gives 2 ∷ 0 ∷ 8 ∷ [])
    ∷ (check 32 (3 ∷ 1 ∷ 1 ∷ 0 ∷ 1 ∷ 0 ∷ 2 ∷ 1 ∷ []) gives 2 ∷ 1 ∷ 8 ∷ [])
    ∷ (check 32 (3 ∷ 1 ∷ 1 ∷ 0 ∷ 1 ∷ 0 ∷ 2 ∷ 2 ∷ []) gives 0 ∷ 2 ∷ 0 ∷ [])
    ∷ []

-- a list call's answer and its output of so many words, each 7
abbrev pub run : Operation → ℕ → Side → Side → ℕ → List ℕ
run op width l r room = let out = list_outcome op width l r (replicate room 7) in numbers out.answer ++ out.output

-- {128/1} and {10/8}: the longer prefix comes first, since its key is smaller
abbrev pub one : List ℕ
one = 4 ∷ 0 ∷ 1 ∷ 0 ∷ []

abbrev pub ten : List ℕ
ten = 0 ∷ 2 ∷ 1 ∷ 0 ∷ 0x200 ∷ 0 ∷ 2 ∷ 0 ∷ []

-- a root of this length at both widths, stray bits in its key
abbrev pub long : ℕ → Prefix
long n = record { key = 2 ^ 64 - 1; len = n }

-- lists: order, marks, room, roots
abbrev pub lists : List Pair
lists =
    (run Union 32 (whole one) (whole ten) 12 gives 0 ∷ 2 ∷ 0 ∷ (ip 10 0 8).key ∷ 8 ∷ 2 ∷ gone ∷ 0 ∷ 255 ∷ 2 ^ 63 ∷ 1 ∷ 1 ∷ 0 ∷ gone ∷ 255 ∷ [])
    ∷ (run CoveringUnion 32 (whole A) (whole B) 30
    gives 0 ∷ 5 ∷ 0 ∷ 0 ∷ 0 ∷ 1 ∷ 0 ∷ gone ∷ 255 ∷ (ip 10 0 8).key ∷ 8 ∷ 1 ∷ 1 ∷ gone ∷ 255 ∷ (ip 10 0 9).key ∷ 9 ∷ 2 ∷ 1 ∷ 1 ∷ 8
    ∷ (ip 10 128 9).key ∷ 9 ∷ 3 ∷ 2 ∷ 2 ∷ 255 ∷ (ip 128 0 1).key ∷ 1 ∷ 2 ∷ 0 ∷ 0 ∷ 0 ∷ [])
    ∷ (run Union 32 (whole A) (whole B) 29 gives 6 ∷ 5 ∷ 0 ∷ replicate 29 7)
    ∷ (drop 33 (run Union 32 (whole A) (whole B) 35) gives replicate 5 7)
    ∷ (run CoveringDifference 32 (whole B) (whole A) 0 gives 0 ∷ 0 ∷ 0 ∷ [])
    ∷ (run CoveringDifference 32 (B at ip 10 0 9) (A at ip 10 0 10) 6 gives 0 ∷ 1 ∷ 0 ∷ (ip 10 0 9).key ∷ 9 ∷ 1 ∷ 1 ∷ gone ∷ 255 ∷ [])
    ∷ (run Union 32 (A at long 32) (B at long 32) 0 gives 0 ∷ 0 ∷ 0 ∷ [])
    ∷ (run Union 64 (A at long 64) (B at long 64) 0 gives 0 ∷ 0 ∷ 0 ∷ [])
    ∷ (run Union 32 (A at long 33) (B at long 32) 0 gives 4 ∷ 0 ∷ 0 ∷ [])
    ∷ (run Union 32 (A at long 32) (B at long 33) 0 gives 5 ∷ 0 ∷ 0 ∷ [])
    ∷ (run Union 64 (A at long 65) (B at long 65) 0 gives 4 ∷ 0 ∷ 0 ∷ [])
    ∷ (run Union 31 (whole []) (whole []) 0 gives 1 ∷ 0 ∷ 0 ∷ [])
    ∷ (run Union 32 (A at long 33) (whole []) 0 gives 3 ∷ 0 ∷ 0 ∷ [])
    ∷ (run Union 32 (whole (0 ∷ 0 ∷ 1 ∷ 0 ∷ 0 ∷ 0 ∷ 1 ∷ 0 ∷ [])) (whole []) 0 gives 2 ∷ 1 ∷ 0 ∷ [])
    ∷ []

-- tidying A with so many words for the pool and for the list
abbrev pub tidy_a : ℕ → ℕ → List ℕ
tidy_a out values = let t = tidy_outcome 32 (whole A) (replicate out 7) (replicate values 7) in numbers t.answer ++ (t.output ++ t.values)

-- equality and tidying: no, room one short, exact, with a tail
abbrev pub others : List Pair
others =
    (numbers (equal_outcome 32 (whole A) (whole B)) gives 0 ∷ 0 ∷ 0 ∷ [])
    ∷ (numbers (equal_outcome 32 (whole A) (whole A)) gives 0 ∷ 1 ∷ 0 ∷ [])
    ∷ (numbers (equal_outcome 32 (whole A) (A at ip 10 0 8)) gives 0 ∷ 0 ∷ 0 ∷ [])
    ∷ (tidy_a 7 2 gives 6 ∷ 2 ∷ 0 ∷ replicate 9 7)
    ∷ (tidy_a 8 2 gives 7 ∷ 3 ∷ 0 ∷ replicate 10 7)
    ∷ (tidy_a 8 3 gives 0 ∷ 2 ∷ 0 ∷ (A ++ 0 ∷ 1 ∷ 2 ∷ []))
    ∷ (tidy_a 9 4 gives 0 ∷ 2 ∷ 0 ∷ (A ++ 7 ∷ 0 ∷ 1 ∷ 2 ∷ 7 ∷ []))
    ∷ []

-- all of them hold
pub borders : T (every (λ p. same_words p.is p.should) (faults ++ (lists ++ others)))
unfolding ones_in leads before same places data_prefixes child_prefixes nodes_of
borders = tt

-- fault 2 is given above 65,536 nodes, and up to there the nodes are looked at
pub too_many : (width : ℕ) (w : List ℕ) → length w % 4 ≡ 0 → 65536 < node_count w → fault_of width w ≡ record { number = 2; node = 0 }
too_many width w m h = rw (ne_eqb (length w) 0 (λ e. not_zero (length w) e h), eq-eqb (length w % 4) 0 m, lt-ltb 65536 (node_count w) h)
  where
    not_zero : (n : ℕ) → n ≡ 0 → 65536 < n / 4 → ⊥
    not_zero n e l = omega arith

pub not_too_many : (width : ℕ) (w : List ℕ) → 0 < length w → length w % 4 ≡ 0 → node_count w ≤ 65536
    → fault_of width w ≡ fault_from width w (node_count w) 0 (0 ∷ []) 0 0
not_too_many width w l m h = rw (ne_eqb (length w) 0 (λ e. omega arith), eq-eqb (length w % 4) 0 m, le-ltb 65536 (node_count w) h)
