-- Worked examples, computed: one input read and its output written, and bad inputs with their lines.
use Rattle.std.specs.Prelude.{◌≡◌, refl, Bool, List, [], ◌∷◌, ◌++◌, ℕ, ◌<◌, ◌≤◌, T, eqb, length, replicate, Result, Ok, Err}
use Rattle.std.specs.Int.Count.{ones_in}
use Rattle.std.proofs.Common.{lt-ltb, le-ltb}
use Rattle.defs.specs.Basics.{every}
use Rattle.defs.specs.Prefix.{top}
use Rattle.defs.specs.Cases.{A, B, ip, gone}
use Rattle.defs.specs.Outcome.{answer}
use Rattle.defs.specs.declared.Operation.TheVariants.{CoveringUnion}
use Rattle.text.specs.declared.Call.TheVariants.{Listing, Equality}
use Rattle.text.specs.declared.Said.{Said}
use Rattle.text.specs.declared.BadInput.{BadInput}
use Rattle.text.specs.declared.BadInput.TheVariants.{TooLong, Line}
use Rattle.text.specs.Bytes.{bytes, skip}
use Rattle.text.specs.Numbers.{places_of, hex_text}
use Rattle.text.specs.Input.{line_number, top_of, after_head, room_of, read_outcome}
use Rattle.text.specs.Output.{output_of}

-- the top of an input: width 32, covering-union, both roots 0/0
abbrev pub head : List ℕ
head = bytes "W\t32\nO\tcovering-union\nL\t0000000000000000\t0\nR\t0000000000000000\t0\n"

-- the node lines of the lists A and B
abbrev pub nodes : List ℕ
nodes = bytes "l\t00000001\t00000002\nl\t00100200\t00000000\nr\t00000004\t00000002\nr\t00180000\t00000000\n"

-- the example is read: the words of A and B stand at the front of the buffers, and the rest is as it was
pub example_read :
    read_outcome (head ++ nodes) (replicate 10 7) (replicate 9 7)
    ≡ record {
      request = Ok (record { head = record { width = 32; call = Listing CoveringUnion; left = top; right = top }; left = 8; right = 8 });
      left = A ++ 7 ∷ 7 ∷ [];
      right = B ++ 7 ∷ [];
    }
unfolding ones_in
example_read = refl

-- its records
abbrev pub records : List ℕ
records =
    0 ∷ 0 ∷ 1 ∷ 0 ∷ gone ∷ 255 ∷ (ip 10 0 8).key ∷ 8 ∷ 1 ∷ 1 ∷ gone ∷ 255 ∷ (ip 10 0 9).key ∷ 9 ∷ 2 ∷ 1 ∷ 1 ∷ 8 ∷ (ip 10 128 9).key ∷ 9 ∷ 3 ∷ 2 ∷ 2 ∷ 255
    ∷ (ip 128 0 1).key ∷ 1 ∷ 2 ∷ 0 ∷ 0 ∷ 0 ∷ []

-- the example is written; words after the records are not shown
pub example_written :
    output_of (Listing CoveringUnion) (answer 0 5 0) (records ++ 7 ∷ 7 ∷ 7 ∷ 7 ∷ 7 ∷ 7 ∷ 7 ∷ [])
    ≡ bytes "L\t0000000000000000\t0\t0\t-\t-\nL\t0a00000000000000\t8\t1\t-\t-\nR\t0a00000000000000\t9\t1\t1\t8\nB\t0a80000000000000\t9\t2\t2\t-\nR\t8000000000000000\t1\t0\t0\t0\nE\t0\t5\n"
unfolding places_of hex_text
example_written = refl

-- equality and refusals write only the E line
pub equality_written : output_of Equality (answer 0 1 0) records ≡ bytes "E\t0\t1\n"
unfolding places_of hex_text
equality_written = refl

pub refusal_written : output_of (Listing CoveringUnion) (answer 6 513 0) records ≡ bytes "E\t6\t513\n"
unfolding places_of hex_text
refusal_written = refl

pub largest_written : output_of Equality (answer 9 18446744073709551615 0) [] ≡ bytes "E\t9\t18446744073709551615\n"
unfolding places_of hex_text
largest_written = refl

-- an input, and its first bad line
pub record Faulty : Type 0 where
  pub input : List ℕ
  pub line : ℕ

infix 5 ◌is_bad_at◌
abbrev pub ◌is_bad_at◌ : List ℕ → ℕ → Faulty
s is_bad_at n = record { input = s; line = n }

-- the request is this bad line
abbrev pub bad : Result Said BadInput → ℕ → Bool
bad (Ok s) n = eqb 0 1
bad (Err e) n = eqb (line_number e) n

-- bad inputs, each for one rule
abbrev pub faulty : List Faulty
faulty =
    ([] is_bad_at 1)
    ∷ (bytes "\n" is_bad_at 1)
    ∷ (bytes "W\t32" is_bad_at 1)
    ∷ (bytes "W\t32\n" is_bad_at 2)
    ∷ (bytes "w\t32\n" is_bad_at 1)
    ∷ (bytes "W 32\n" is_bad_at 1)
    ∷ (bytes "W\t32\r\n" is_bad_at 1)
    ∷ (bytes "W\t32\t\n" is_bad_at 1)
    ∷ (bytes "W\t\n" is_bad_at 1)
    ∷ (bytes "W\t256\nO\tunion\n" is_bad_at 1)
    ∷ (bytes "W\t255\nO\tunion\n" is_bad_at 3)
    ∷ (bytes "W\t032\nO\tunion\n" is_bad_at 1)
    ∷ (bytes "W\t00\nO\tunion\n" is_bad_at 1)
    ∷ (bytes "W\t0\nO\tunion\n" is_bad_at 3)
    ∷ (bytes "W\t+8\nO\tunion\n" is_bad_at 1)
    ∷ (bytes "W\t99999999999999999999999999999\n" is_bad_at 1)
    ∷ (bytes "W\t32\nO\tUnion\n" is_bad_at 2)
    ∷ (bytes "W\t32\nO\tunion\tplain\n" is_bad_at 2)
    ∷ (bytes "W\t32\nO\tequality\nL\t0A00000000000000\t0\n" is_bad_at 3)
    ∷ (bytes "W\t32\nO\tequality\nL\t0a0000000000000\t0\n" is_bad_at 3)
    ∷ (bytes "W\t32\nO\tequality\nR\t0a00000000000000\t0\n" is_bad_at 3)
    ∷ (bytes "W\t32\nO\tequality\nL\t0a00000000000000\t8\n" is_bad_at 4)
    ∷ (bytes "W\t32\nO\tequality\nL\t0a00000000000000\t8\nR\t0000000000000000\t0" is_bad_at 4)
    ∷ (bytes "W\t33\nO\tunion\nL\t0a00000000000000\t8\nR\t0000000000000000\t0\nl\t00000001\t00000000\nr\t00000001\t00000000\nbad\n" is_bad_at 7)
    ∷ (head ++ (nodes ++ bytes "\n") is_bad_at 9)
    ∷ (head ++ (nodes ++ bytes "x") is_bad_at 9)
    ∷ (head ++ (nodes ++ bytes "r\t00000001\t00000000") is_bad_at 9)
    ∷ (head ++ (nodes ++ bytes "l\t00000001\t00000000\n") is_bad_at 9)
    ∷ (head ++ bytes "l\t0010020\t00000000\n" is_bad_at 5)
    ∷ (head ++ bytes "l\t001002000\t0000000\n" is_bad_at 5)
    ∷ (head ++ bytes "l\t0010020A\t00000000\n" is_bad_at 5)
    ∷ (head ++ bytes "l\t00100200\n" is_bad_at 5)
    ∷ []

pub faulty_lines : T (every (λ f. bad (read_outcome f.input (replicate 16 7) (replicate 16 7)).request f.line) faulty)
unfolding ones_in
faulty_lines = tt

-- a further node line is bad at its own number, here with room for one node a side; the buffers hold what was good
pub too_many_nodes :
    read_outcome (head ++ nodes) (replicate 4 7) (replicate 4 7) ≡ record { request = Err (Line 6); left = 1 ∷ 2 ∷ 1 ∷ 0 ∷ []; right = replicate 4 7 }
unfolding ones_in
too_many_nodes = refl

-- a buffer of 4,096 words, and a larger one, has room for 1,024 nodes
pub most_nodes : (room_of (replicate 4095 7) ≡ 1023) × (room_of (replicate 4096 7) ≡ 1024) × (room_of (replicate 4100 7) ≡ 1024)
most_nodes = (refl, refl, refl)

-- 65,537 bytes and more are line 0, whatever they are; up to 65,536 bytes the lines are looked at
pub too_long : (s l r : List ℕ) → 65536 < length s → read_outcome s l r ≡ record { request = Err TooLong; left = l; right = r }
too_long s l r h = rw (lt-ltb 65536 (length s) h)

pub not_too_long : (s l r : List ℕ) → length s ≤ 65536 → read_outcome s l r ≡ after_head (top_of s) (skip 4 s) l r
not_too_long s l r h = rw (le-ltb 65536 (length s) h)
