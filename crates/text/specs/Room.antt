-- How long an output can be: 512 records and the E line fit 65,536 bytes, whatever the words are.
use Rattle.std.specs.Prelude.{◌≡◌, refl, List, [], ◌∷◌, ◌++◌, ℕ, zero, suc, ◌*◌, ◌/◌, ◌%◌, ◌≤◌, ltb, eqb, length, get_or, drop}
use Rattle.std.proofs.Common.{◌∙◌, ap, arith, length-append, take_all}
use Rattle.defs.specs.Lists.{missing, no_cover, record_words}
use Rattle.defs.specs.Lemmas.{split}
use Rattle.defs.specs.declared.Answer.{Answer}
use Rattle.text.specs.declared.Call.{Call}
use Rattle.text.specs.declared.Call.TheVariants.{Listing, Equality}
use Rattle.text.specs.Numbers.{glyph_of, digits, places_in, places_of, hex_text}
use Rattle.text.specs.Output.{letter_of, number_field, mark_field, prefix_text, values_text, record_lines, end_line, shown_of, output_of, Wrote}

digits_long : (base k n : ℕ) → length (digits base k n) ≡ k
digits_long base zero n = refl
digits_long base (suc k) n = length-append (digits base k (n / base)) (glyph_of (n % base) ∷ []) ∙ omega (arith, digits_long base k (n / base))

places_few : (k n : ℕ) → places_in k n ≤ suc k
places_few zero n = omega arith
places_few (suc k) n = split (ltb n 10) (λ b. rw b (omega arith)) (λ b. rw b (omega (arith, places_few k (n / 10))))

number_short : (n : ℕ) → length (number_field n) ≤ 21
unfolding places_of
number_short n = omega (arith, digits_long 10 (places_of n) n, places_few 19 n)

mark_short : (mark n : ℕ) → length (mark_field mark n) ≤ 21
mark_short mark n = split (eqb n mark) (λ b. rw b (omega arith)) (λ b. rw b (number_short n))

prefix_short : (key len tag : ℕ) → length (prefix_text key len tag) ≤ 39
unfolding hex_text
prefix_short key len tag = omega (arith, length-append (letter_of tag ∷ 9 ∷ hex_text key) (number_field len), digits_long 16 16 key, number_short len)

values_short : (l r c : ℕ) → length (values_text l r c) ≤ 64
values_short l r c =
    let a = mark_field missing l in
    let b = mark_field missing r in
    let d = mark_field no_cover c in
    omega (
      arith,
      length-append ((a ++ b) ++ d) (10 ∷ []),
      length-append (a ++ b) d,
      length-append a b,
      mark_short missing l,
      mark_short missing r,
      mark_short no_cover c,
    )

together : (a b c : List ℕ) (k : ℕ) → length a ≤ 39 → length b ≤ 64 → length c ≤ 103 * k → length ((a ++ b) ++ c) ≤ 103 * suc k
together a b c k h i j = omega (arith, length-append (a ++ b) c, length-append a b)

records_short : (k : ℕ) (w : List ℕ) → length (record_lines k w) ≤ 103 * k
records_short zero w = omega arith
records_short (suc k) w =
    together (prefix_text (get_or w 0 0) (get_or w 1 0) (get_or w 2 0)) (values_text (get_or w 3 0) (get_or w 4 0) (get_or w 5 0)) (record_lines k (drop record_words w)) k
    (prefix_short (get_or w 0 0) (get_or w 1 0) (get_or w 2 0)) (values_short (get_or w 3 0) (get_or w 4 0) (get_or w 5 0)) (records_short k (drop record_words w))

end_short : (number beside : ℕ) → length (end_line number beside) ≤ 44
end_short number beside =
    omega (
      arith,
      length-append ((69 ∷ number_field number) ++ number_field beside) (10 ∷ []),
      length-append (69 ∷ number_field number) (number_field beside),
      number_short number,
      number_short beside,
    )

-- no more is shown than there is
pub shown_few : (call : Call) (a : Answer) (w : List ℕ) → shown_of call a w ≤ length w / record_words
shown_few (Listing op) a w = split (eqb a.number 0) (λ b. rw b (omega arith)) (λ b. rw b (omega arith))
shown_few Equality a w = omega arith

both : (a b : List ℕ) (k : ℕ) → length a ≤ 103 * k → length b ≤ 44 → k ≤ 512 → length (a ++ b) ≤ 52780
both a b k h i j = omega (arith, length-append a b)

-- the output of 512 records, or fewer, has at most 52,780 bytes
pub output_short : (call : Call) (a : Answer) (w : List ℕ) → length w ≤ 3072 → length (output_of call a w) ≤ 52780
output_short call a w h =
    both (record_lines (shown_of call a w) w) (end_line a.number a.beside) (shown_of call a w) (records_short (shown_of call a w) w) (end_short a.number a.beside)
    (omega (arith, shown_few call a w))

-- so it is written whole into a buffer of 65,536 bytes
pub written_whole : (call : Call) (a : Answer) (w old new : List ℕ) (count : ℕ) → length w ≤ 3072 → length old ≡ 65536 → Wrote (output_of call a w) old count new
    → (count ≡ length (output_of call a w)) × (new ≡ output_of call a w ++ drop (length (output_of call a w)) old)
written_whole call a w old new count h e r = whole (output_of call a w) (output_short call a w h) r
  where
    whole : (text : List ℕ) → length text ≤ 52780 → Wrote text old count new → (count ≡ length text) × (new ≡ text ++ drop (length text) old)
    whole text l r = (omega (arith, r.counted), r.holds ∙ ap (λ (t : List ℕ). t ++ drop (length text) old) (take_all (length old) text (omega arith)))
