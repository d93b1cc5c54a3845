-- A turn over the set bits of a word, lowest first.
use Rattle.std.specs.Prelude.{◌≡◌, ℕ, ◌-◌, ◌/◌, ◌%◌, ◌^◌, ◌<◌, ◌≤◌, Option, MatchOption, leb, ltb}
use Rattle.std.proofs.Common.{arith, leb-true, leb-false, ltb-true, ltb-false, pow_mono}
use Rattle.std.proofs.Math.Nat.{div-eq_of_lt}
use Rattle.std.proofs.lemmas.Nat.Bits.{bit_at-trailing_zeros}
use Rattle.std.specs.Int.{w64}
use Rattle.std.specs.Int.Count.{count_trailing_zeros}
use Rattle.defs.specs.Lemmas.{split}

-- z is the number of the lowest set bit of t, and rest is t without it
abbrev pub Taken : ℕ → ℕ → ℕ → Type 0
Taken t z rest = (0 < t) × (z ≡ count_trailing_zeros 64 t) × (rest ≡ t - 2 ^ z)

-- the lowest set bit is taken, by its number; at the end none is left
abbrev pub next_bit : ℕ → Option ℕ → ℕ → Type 0
next_bit t out rest = MatchOption out ((t ≡ 0) × (rest ≡ 0)) (λ z. Taken t z rest)

module _ (t z rest : ℕ) (fits : t < 2 ^ 64) (n : Taken t z rest) where
  -- FOR CALLERS: the lowest set bit is a part of the word
  pub lowest_there : 2 ^ z ≤ t
  lowest_there =
      let one : t / 2 ^ z % 2 ≡ 1 = rw n.1 ((bit_at-trailing_zeros w64 t n.0 fits).1) in
      split (leb (2 ^ z) t) (λ e. leb-true (2 ^ z) t e)
      (λ e. let none : t / 2 ^ z ≡ 0 = div-eq_of_lt (leb-false (2 ^ z) t e) in absurd (let y : ⊥ = omega arith in y))

  -- FOR CALLERS: a word of k bits has it below bit k
  pub lowest_inside : (k : ℕ) → t < 2 ^ k → z < k
  lowest_inside k h =
      split (ltb z k) (λ e. ltb-true z k e)
      (λ e. let m = pow_mono (ltb-false z k e) in let l = lowest_there in absurd (let y : ⊥ = omega arith in y))
