-- The bits of words that are combined bit by bit.
use Rattle.std.specs.Prelude.{◌≡◌, refl, not, ◌&&◌, ◌||◌, ℕ, zero, suc, ◌/◌, ◌%◌, ◌^◌, ◌<◌, eqb}
use Rattle.std.proofs.Common.{◌∙◌, ap, arith, mod-lt}
use Rattle.std.specs.Int.Bits.{bit_and, bit_or, bit_xor}
use Rattle.std.proofs.lemmas.Nat.{and_shr, or_shr, xor_shr, and_mod, or_mod, xor_mod}
use Rattle.defs.specs.Pool.{bit}

-- what holds of 0 and 1 holds of a rest by 2
by_two : (P : ℕ → Type 0) → P 0 → P 1 → (n : ℕ) → n < 2 → P n
by_two P a b zero h = a
by_two P a b (suc zero) h = b
by_two P a b (suc (suc n)) h = absurd (omega arith)

module _ (x y b : ℕ) where
  abbrev u : ℕ
  u = x / 2 ^ b

  abbrev v : ℕ
  v = y / 2 ^ b

  pub bit_and_lem : bit b (bit_and x y) ≡ (bit b x && bit b y)
  bit_and_lem =
      ap (λ (n : ℕ). eqb n 1) (ap (◌% 2) (and_shr x y b) ∙ and_mod u v 1)
      ∙ by_two (λ m. (n : ℕ) → n < 2 → eqb (bit_and m n) 1 ≡ (eqb m 1 && eqb n 1))
      (by_two (λ n. eqb (bit_and 0 n) 1 ≡ (eqb 0 1 && eqb n 1)) refl refl) (by_two (λ n. eqb (bit_and 1 n) 1 ≡ (eqb 1 1 && eqb n 1)) refl refl)
      (u % 2) (mod-lt u (omega arith)) (v % 2) (mod-lt v (omega arith))

  pub bit_or_lem : bit b (bit_or x y) ≡ (bit b x || bit b y)
  bit_or_lem =
      ap (λ (n : ℕ). eqb n 1) (ap (◌% 2) (or_shr x y b) ∙ or_mod u v 1)
      ∙ by_two (λ m. (n : ℕ) → n < 2 → eqb (bit_or m n) 1 ≡ (eqb m 1 || eqb n 1))
      (by_two (λ n. eqb (bit_or 0 n) 1 ≡ (eqb 0 1 || eqb n 1)) refl refl) (by_two (λ n. eqb (bit_or 1 n) 1 ≡ (eqb 1 1 || eqb n 1)) refl refl)
      (u % 2) (mod-lt u (omega arith)) (v % 2) (mod-lt v (omega arith))

  -- the bits of x that are not y's
  pub bit_less : bit b (bit_xor x (bit_and x y)) ≡ (bit b x && not (bit b y))
  bit_less =
      ap (λ (n : ℕ). eqb n 1) (ap (◌% 2) (xor_shr x (bit_and x y) b ∙ ap (bit_xor u) (and_shr x y b)) ∙ xor_mod u (bit_and u v) 1 ∙ ap (bit_xor (u % 2)) (and_mod u v 1))
      ∙ by_two (λ m. (n : ℕ) → n < 2 → eqb (bit_xor m (bit_and m n)) 1 ≡ (eqb m 1 && not (eqb n 1)))
      (by_two (λ n. eqb (bit_xor 0 (bit_and 0 n)) 1 ≡ (eqb 0 1 && not (eqb n 1))) refl refl) (by_two (λ n. eqb (bit_xor 1 (bit_and 1 n)) 1 ≡ (eqb 1 1 && not (eqb n 1))) refl refl)
      (u % 2) (mod-lt u (omega arith)) (v % 2) (mod-lt v (omega arith))
