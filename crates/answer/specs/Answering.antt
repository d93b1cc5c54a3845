-- The text that answers an input.
use Rattle.std.specs.Prelude.{List, [], ℕ, take, replicate, Result, Ok, Err}
use Rattle.defs.specs.declared.Answer.{Answer}
use Rattle.defs.specs.declared.Prefix.{Prefix}
use Rattle.defs.specs.Outcome.{Side, Listed, answer, list_outcome, equal_outcome}
use Rattle.text.specs.declared.Call.{Call}
use Rattle.text.specs.declared.Call.TheVariants.{Listing, Equality}
use Rattle.text.specs.declared.Said.{Said}
use Rattle.text.specs.declared.BadInput.{BadInput}
use Rattle.text.specs.Input as input
use Rattle.text.specs.Output.{output_of}

-- a side of a call
abbrev pub side : List ℕ → Prefix → Side
side w root = record { pool = w; root = root }

-- what a call leaves: its answer and its output
abbrev pub leaves : Answer → List ℕ → Listed
leaves a out = record { answer = a; output = out }

-- what a call leaves on two sides; key equality writes no records
abbrev pub called : Call → ℕ → Side → Side → List ℕ → Listed
called (Listing op) width l r out = list_outcome op width l r out
called Equality width l r out = record { answer = equal_outcome width l r; output = out }

-- what a good input asks for, its pools being the first words of two buffers
abbrev pub said_by : Said → List ℕ → List ℕ → List ℕ → Listed
said_by s left right out = called s.head.call s.head.width (side (take s.left left) s.head.left) (side (take s.right right) s.head.right) out

-- the lines of what a call left
abbrev pub lines_of : Call → Listed → List ℕ
lines_of call o = output_of call o.answer o.output

-- the lines that answer a request, with room for 512 records; a bad line is refusal 9
abbrev pub reply_to : Result Said BadInput → List ℕ → List ℕ → List ℕ
reply_to (Ok s) left right = lines_of s.head.call (said_by s left right (replicate 3072 0))
reply_to (Err e) left right = output_of Equality (answer 9 (input.line_number e) 0) []

-- the text that answers an input, with room for 1,024 nodes a side
abbrev pub text_of : List ℕ → List ℕ
text_of s = let o = input.read_outcome s (replicate 4096 0) (replicate 4096 0) in reply_to o.request o.left o.right
