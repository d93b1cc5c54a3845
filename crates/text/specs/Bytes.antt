-- Bytes, text and lines.
use Rattle.std.specs.Prelude.{Bool, ◌&&◌, List, [], ◌∷◌, ℕ, zero, suc, ltb, eqb, length, get_or, take, drop}
use Prim.Native.Char.{code}
use Prim.Native.String.{String}
use Prim.Native.String.{[] as nothing, ◌∷◌ as ◌then◌}
use Rattle.defs.specs.Basics.{if◌then◌otherwise◌}

-- the bytes of an ASCII text
abbrev pub bytes : String → List ℕ
bytes nothing = []
bytes (c then s) = code c ∷ bytes s

-- the byte that parts fields
abbrev pub tab : ℕ
tab = code "\t"

-- the byte that closes a line
abbrev pub feed : ℕ
feed = code "\n"

-- byte b stands at place i
abbrev pub is_at : ℕ → ℕ → List ℕ → Bool
is_at i b s = ltb i (length s) && eqb (get_or s i 0) b

-- the place of the first line feed, or the length where there is none
abbrev pub line_end : List ℕ → ℕ
line_end [] = 0
line_end (c ∷ s) = if eqb c feed then 0 otherwise suc (line_end s)

-- the first line; a missing one, and one that no line feed closes, is read as an empty line, which is bad in every place
abbrev pub line : List ℕ → List ℕ
line s = if ltb (line_end s) (length s) then take (line_end s) s otherwise []

-- what stands after the first line
abbrev pub rest : List ℕ → List ℕ
rest s = drop (suc (line_end s)) s

-- what stands after the first k lines
abbrev pub skip : ℕ → List ℕ → List ℕ
skip zero s = s
skip (suc k) s = rest (skip k s)

-- line k, from 0
abbrev pub line_at : ℕ → List ℕ → List ℕ
line_at k s = line (skip k s)
