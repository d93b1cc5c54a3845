-- Prefixes: document 01, "Prefixes and pools". A Prefix is a key and a length, as src/lib.rt declares it.
use Rattle.std.specs.Prelude.{Bool, ◌&&◌, ◌||◌, ℕ, ◌+◌, ◌-◌, ◌*◌, ◌/◌, ◌^◌, leb, ltb, eqb}
use Rattle.defs.specs.declared.Prefix.{Prefix}

-- the first n of a key's 64 bits, as a number
abbrev pub first : ℕ → ℕ → ℕ
first n key = key / 2 ^ (64 - n)

-- p leads q: p is no longer than q, and q starts with p's bits
unfoldable pub leads : Prefix → Prefix → Bool
leads p q = leb p.len q.len && eqb (first p.len q.key) (first p.len p.key)

-- p comes before q: its key is smaller, or the keys are equal and p is shorter
unfoldable pub before : Prefix → Prefix → Bool
before p q = ltb p.key q.key || (eqb p.key q.key && ltb p.len q.len)

-- p and q are the same prefix
unfoldable pub same : Prefix → Prefix → Bool
same p q = eqb p.key q.key && eqb p.len q.len

-- p with n more bits, of value v
abbrev pub deeper : Prefix → ℕ → ℕ → Prefix
deeper p n v = record { key = p.key + v * 2 ^ (64 - (p.len + n)); len = p.len + n }

-- 0/0, which leads every prefix
abbrev pub top : Prefix
top = record { key = 0; len = 0 }
