-- The lines that are written.
use Rattle.std.specs.Prelude.{List, [], ◌∷◌, ◌++◌, ◌≡◌, ℕ, zero, suc, ◌/◌, min, eqb, length, get_or, take, drop}
use Prim.Native.Char.{code}
use Rattle.defs.specs.Basics.{if◌then◌otherwise◌}
use Rattle.defs.specs.Lists.{missing, no_cover, record_words}
use Rattle.defs.specs.declared.Answer.{Answer}
use Rattle.text.specs.declared.Call.{Call}
use Rattle.text.specs.declared.Call.TheVariants.{Listing, Equality}
use Rattle.text.specs.Bytes.{tab, feed}
use Rattle.text.specs.Numbers.{decimal_text, hex_text}

-- the letter of a tag: L for 1, R for 2, and B for 3 and any other
abbrev pub letter_of : ℕ → ℕ
letter_of tag = if eqb tag 1 then code "L" otherwise if eqb tag 2 then code "R" otherwise code "B"

-- a tab and a number
abbrev pub number_field : ℕ → List ℕ
number_field n = tab ∷ decimal_text n

-- a tab and a number, or - where it is the mark of a missing one
abbrev pub mark_field : ℕ → ℕ → List ℕ
mark_field mark n = if eqb n mark then tab ∷ code "-" ∷ [] otherwise number_field n

-- tag, key and length of a record
abbrev pub prefix_text : ℕ → ℕ → ℕ → List ℕ
prefix_text key len tag = (letter_of tag ∷ tab ∷ hex_text key) ++ number_field len

-- left value, right value and cover length of a record, and the end of its line
abbrev pub values_text : ℕ → ℕ → ℕ → List ℕ
values_text left right cover = ((mark_field missing left ++ mark_field missing right) ++ mark_field no_cover cover) ++ (feed ∷ [])

-- the line of the record in the first six words
abbrev pub record_line : List ℕ → List ℕ
record_line w = prefix_text (get_or w 0 0) (get_or w 1 0) (get_or w 2 0) ++ values_text (get_or w 3 0) (get_or w 4 0) (get_or w 5 0)

-- the lines of the first k records
abbrev pub record_lines : ℕ → List ℕ → List ℕ
record_lines zero w = []
record_lines (suc k) w = record_line w ++ record_lines k (drop record_words w)

-- the E line: the refusal number and the number beside it
abbrev pub end_line : ℕ → ℕ → List ℕ
end_line number beside = ((code "E" ∷ number_field number) ++ number_field beside) ++ (feed ∷ [])

-- how many of the records in the words are shown: those of a list that is done; equality and refusals show none
abbrev pub shown_of : Call → Answer → List ℕ → ℕ
shown_of (Listing op) a w = if eqb a.number 0 then min a.beside (length w / record_words) otherwise 0
shown_of Equality a w = 0

-- the whole output
abbrev pub output_of : Call → Answer → List ℕ → List ℕ
output_of call a w = record_lines (shown_of call a w) w ++ end_line a.number a.beside

-- a text at the front of a lent buffer, cut where the buffer ends
abbrev pub cut : List ℕ → List ℕ → List ℕ
cut text old = take (length old) text ++ drop (length text) old

-- what writing a text leaves: the number of bytes written, and the buffer
pub record Wrote (text old : List ℕ) (count : ℕ) (new : List ℕ) : Type 0 where
  pub counted : count ≡ min (length text) (length old)
  pub holds : new ≡ cut text old
