-- Words of 64 bits, first bit highest.
use Rattle.std.specs.Prelude.{ℕ, zero, suc, ◌-◌, ◌^◌, min, ◌==◌}
use Rattle.defs.specs.declared.Prefix.{Prefix}
use Rattle.defs.specs.Basics.{if◌then◌otherwise◌}
use Rattle.defs.specs.Prefix.{first}

-- the word whose first n bits are 1
unfoldable pub mask_of : ℕ → ℕ
mask_of n = 2 ^ 64 - 2 ^ (64 - n)

-- the greatest length up to n at which two keys have the same first bits
abbrev pub agreeing : ℕ → ℕ → ℕ → ℕ
agreeing zero a b = 0
agreeing (suc n) a b = if first (suc n) a == first (suc n) b then suc n otherwise agreeing n a b

-- the number of first bits that two prefixes share
unfoldable pub common_len : Prefix → Prefix → ℕ
common_len p q = agreeing (min 64 (min p.len q.len)) p.key q.key
