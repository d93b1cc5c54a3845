-- Numbers as digits: how they are read and how they are written.
use Rattle.std.specs.Prelude.{Bool, ◌&&◌, ◌||◌, List, [], ◌∷◌, ◌++◌, ℕ, zero, suc, ◌+◌, ◌-◌, ◌*◌, ◌/◌, ◌%◌, ltb, leb, eqb, length, Option, Some, None}
use Prim.Native.Char.{code}
use Rattle.defs.specs.Basics.{if◌then◌otherwise◌}
use Rattle.text.specs.Bytes.{is_at}

-- the value of the digits 0 to 9 and a to f
abbrev pub digit_of : ℕ → Option ℕ
digit_of c = if leb (code "0") c && leb c (code "9") then Some (c - code "0") otherwise if leb (code "a") c && leb c (code "f") then Some (c - code "a" + 10) otherwise None

-- the number n with a digit behind it, where the digit is one of the base
abbrev pub behind : ℕ → ℕ → Option ℕ → Option ℕ
behind base n (Some d) = if ltb d base then Some (n * base + d) otherwise None
behind base n None = None

-- a number, and what f gives for it
abbrev pub and_then : Option ℕ → (ℕ → Option ℕ) → Option ℕ
and_then (Some n) f = f n
and_then None f = None

-- the number n with these digits behind it
abbrev pub numeral_of : ℕ → ℕ → List ℕ → Option ℕ
numeral_of base n [] = Some n
numeral_of base n (c ∷ cs) = and_then (behind base n (digit_of c)) (λ m. numeral_of base m cs)

-- a number that is no larger than most
abbrev pub at_most : ℕ → Option ℕ → Option ℕ
at_most most (Some n) = if leb n most then Some n otherwise None
at_most most None = None

-- a digit stands behind a first 0
abbrev pub leading_zero : List ℕ → Bool
leading_zero s = is_at 0 (code "0") s && ltb 1 (length s)

-- a decimal number without leading zeros, at most 255
abbrev pub decimal_of : List ℕ → Option ℕ
decimal_of s = if eqb (length s) 0 || leading_zero s then None otherwise at_most 255 (numeral_of 10 0 s)

-- so many lowercase hex digits
abbrev pub hex_of : ℕ → List ℕ → Option ℕ
hex_of count s = if eqb (length s) count then numeral_of 16 0 s otherwise None

-- a digit below 16 as a byte
abbrev pub glyph_of : ℕ → ℕ
glyph_of d = if ltb d 10 then code "0" + d otherwise code "a" + (d - 10)

-- the last k digits of n, the highest first
abbrev pub digits : ℕ → ℕ → ℕ → List ℕ
digits base zero n = []
digits base (suc k) n = digits base k (n / base) ++ (glyph_of (n % base) ∷ [])

-- how many decimal digits n has, looking at no more than k + 1
abbrev pub places_in : ℕ → ℕ → ℕ
places_in zero n = 1
places_in (suc k) n = if ltb n 10 then 1 otherwise suc (places_in k (n / 10))

-- how many decimal digits a number of 64 bits has
unfoldable pub places_of : ℕ → ℕ
places_of n = places_in 19 n

-- a number of 64 bits in decimal
abbrev pub decimal_text : ℕ → List ℕ
decimal_text n = digits 10 (places_of n) n

-- a number of 64 bits as 16 hex digits
unfoldable pub hex_text : ℕ → List ℕ
hex_text n = digits 16 16 n
