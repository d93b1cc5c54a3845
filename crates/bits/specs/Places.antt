-- The 63 places of a node, numbered as in a heap: h = 2 ^ n + v is the place of the n bits of value v; its halves are 2 * h and 2 * h + 1.
-- Data bit h - 1 stands at place h below 32, child h - 32 at the others.
use Rattle.std.specs.Prelude.{ℕ, ◌+◌, ◌-◌, ◌*◌, ◌%◌, ◌^◌, ◌&&◌, nat_le, nat_lt}
use Rattle.std.specs.Int.Count.{count_leading_zeros}
use Rattle.defs.specs.declared.Prefix.{Prefix}
use Rattle.defs.specs.Basics.{if◌then◌otherwise◌}

-- the number of bits of place h
unfoldable pub place_len : ℕ → ℕ
place_len h = 31 - count_leading_zeros 32 h

-- the value of the bits of place h
unfoldable pub place_value : ℕ → ℕ
place_value h = h - 2 ^ place_len h

-- the number of the place of the n bits of value v; 0 where a node has none
unfoldable pub place_number : ℕ → ℕ → ℕ
place_number n v = if nat_lt n 6 && nat_lt v (2 ^ n) then 2 ^ n + v otherwise 0

-- the prefix of place h of a node at p; p itself where that is longer than 64
unfoldable pub place_prefix : Prefix → ℕ → Prefix
place_prefix p h =
    let len = p.len + place_len h in
    if nat_le len 64 then record { key = (p.key + place_value h * 2 ^ (64 - len)) % 2 ^ 64; len = len } otherwise p
