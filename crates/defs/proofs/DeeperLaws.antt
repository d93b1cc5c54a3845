-- A prefix with n more bits of value v.
use Rattle.std.specs.Prelude.{◌≡◌, true, ℕ, ◌+◌, ◌-◌, ◌*◌, ◌/◌, ◌^◌, ◌≤◌, ◌<◌}
use Rattle.std.proofs.Math.Path.{sym, ap}
use Rattle.std.proofs.Common.{◌∙◌, mul_assoc, add-mul, pow_pos, pow-add, shr-shr}
use native.Mathlib.Omega.{arith}
use Rattle.std.proofs.Math.Pow.{high as pow-high}
use Rattle.defs.specs.declared.Prefix.{Prefix}
use Rattle.defs.specs.Prefix.{first, leads, deeper}
use Rattle.defs.specs.PrefixLaws.{Whole, cut, cut_at}
use Rattle.defs.proofs.PrefixLaws.{leads_of, leads_first}

module _ (p : Prefix) (w : Whole p) (n : ℕ) (short : p.len + n ≤ 64) where
  -- the key by its first bits
  shape : p.key ≡ first p.len p.key * 2 ^ n * 2 ^ (64 - (p.len + n))
  unfolding cut
  shape =
      let e : 64 - p.len ≡ n + (64 - (p.len + n)) = omega arith in
      sym w ∙ ap (λ (k : ℕ). first p.len p.key * 2 ^ k) e ∙ ap (first p.len p.key *◌) (pow-add 2 n _) ∙ sym (mul_assoc (first p.len p.key) (2 ^ n) _)

  shape_deeper : (v : ℕ) → (deeper p n v).key ≡ (first p.len p.key * 2 ^ n + v) * 2 ^ (64 - (p.len + n)) + 0
  shape_deeper v = omega (arith, shape, add-mul (first p.len p.key * 2 ^ n) v (2 ^ (64 - (p.len + n))))

  -- it has no bits past its length
  pub whole_deeper : (v : ℕ) → Whole (deeper p n v)
  whole_deeper v =
      ap (cut (p.len + n)) (shape_deeper v) ∙ cut_at (p.len + n) _ 0 (pow_pos (64 - (p.len + n))) ∙ omega (arith, shape_deeper v)

  -- its first bits
  pub deeper_first : (v : ℕ) → first (p.len + n) (deeper p n v).key ≡ first p.len p.key * 2 ^ n + v
  deeper_first v = ap (◌/ 2 ^ (64 - (p.len + n))) (shape_deeper v) ∙ pow-high _ (64 - (p.len + n)) (pow_pos (64 - (p.len + n)))

  first_less : (k : ℕ) → first (p.len + n) k / 2 ^ n ≡ first p.len k
  first_less k =
      let e : (64 - (p.len + n)) + n ≡ 64 - p.len = omega arith in
      shr-shr k (64 - (p.len + n)) n ∙ ap (λ (m : ℕ). k / 2 ^ m) e

  -- p leads it
  pub leads_deeper : (v : ℕ) → v < 2 ^ n → leads p (deeper p n v) ≡ true
  leads_deeper v l =
      leads_of p (deeper p n v) (omega arith)
      (sym (first_less (deeper p n v).key) ∙ ap (◌/ 2 ^ n) (deeper_first v) ∙ pow-high (first p.len p.key) n l)

  -- two that lead a third are one
  pub deeper_apart : (u v : ℕ) (x : Prefix) → leads (deeper p n u) x ≡ true → leads (deeper p n v) x ≡ true → u ≡ v
  deeper_apart u v x h k = omega (arith, leads_first (deeper p n u) x h, leads_first (deeper p n v) x k, deeper_first u, deeper_first v)

  -- the bits are fixed by the prefix
  pub deeper_same : (u v : ℕ) → deeper p n u ≡ deeper p n v → u ≡ v
  deeper_same u v e = omega (arith, deeper_first u, deeper_first v, ap (λ (q : Prefix). first (p.len + n) q.key) e)
