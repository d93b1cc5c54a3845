-- The common length of two prefixes: up to both lengths and 64, exactly the lengths up to it have the same first bits.
use Rattle.std.specs.Prelude.{◌≡◌, ℕ, zero, suc, ◌-◌, ◌*◌, ◌/◌, ◌^◌, ◌<◌, ◌≤◌, min, ◌==◌, bit_xor}
use Rattle.std.proofs.Common.{sym, ap, ◌∙◌, ⊎_elim, eq-or-lt_of_le, lt_of_lt_of_le, lt_of_not-le, pow_pos, pow_mono, eqb-true, eq-eqb}
use native.Mathlib.Omega.{arith}
use Rattle.std.proofs.Math.Nat.{div-eq_of_lt, lt-div-mul-add, pow-succ'}
use Rattle.std.proofs.lemmas.Nat.{xor_shr, xor_lt, and_le_l, and_le_r, leading_length, leading_le}
use Rattle.std.specs.Int.Bits.{xor_self, xor_add_and}
use Rattle.std.specs.Int.Count.{count_leading_zeros}
use Rattle.defs.specs.declared.Prefix.{Prefix}
use Rattle.defs.specs.Prefix.{first}
use Rattle.defs.specs.PrefixLaws.{first_agree}
use Rattle.defs.specs.Lemmas.{split, not_both}
use Rattle.bits.specs.Words.{agreeing, common_len}

agreeing_le : (n a b : ℕ) → agreeing n a b ≤ n
agreeing_le zero a b = omega arith
agreeing_le (suc n) a b =
    split (first (suc n) a == first (suc n) b) (λ e. rw e (omega arith)) (λ e. rw e (omega (arith, agreeing_le n a b)))

agreeing_of : (n m a b : ℕ) → m ≤ n → first m a ≡ first m b → m ≤ agreeing n a b
agreeing_of zero m a b h e = h
agreeing_of (suc n) m a b h e =
    split (first (suc n) a == first (suc n) b) (λ t. rw t h)
    (λ t.
    rw t
    (⊎_elim (λ s. not_both (eq-eqb _ _ e) (rw s t)) (λ l. agreeing_of n m a b (omega arith) e) (eq-or-lt_of_le h)))

agreeing_says : (n a b : ℕ) → a < 2 ^ 64 → b < 2 ^ 64 → first (agreeing n a b) a ≡ first (agreeing n a b) b
agreeing_says zero a b ha hb = div-eq_of_lt ha ∙ sym (div-eq_of_lt hb)
agreeing_says (suc n) a b ha hb =
    split (first (suc n) a == first (suc n) b) (λ e. rw e (eqb-true _ _ e)) (λ e. rw e (agreeing_says n a b ha hb))

module _ (p q : Prefix) where
  pub common_le : (common_len p q ≤ 64) × (common_len p q ≤ p.len) × (common_len p q ≤ q.len)
  unfolding common_len
  common_le = let h = agreeing_le (min 64 (min p.len q.len)) p.key q.key in (omega arith, omega arith, omega arith)

  -- where first bits agree, the common length is no less
  pub common_of : (n : ℕ) → n ≤ 64 → n ≤ p.len → n ≤ q.len → first n p.key ≡ first n q.key → n ≤ common_len p q
  unfolding common_len
  common_of n h hp hq e = agreeing_of (min 64 (min p.len q.len)) n p.key q.key (omega arith) e

  -- up to the common length first bits agree
  pub common_says : p.key < 2 ^ 64 → q.key < 2 ^ 64 → (n : ℕ) → n ≤ common_len p q → first n p.key ≡ first n q.key
  unfolding common_len
  common_says hp hq n h =
      first_agree n (agreeing (min 64 (min p.len q.len)) p.key q.key) p.key q.key h
      (agreeing_says (min 64 (min p.len q.len)) p.key q.key hp hq)

-- ---- the leading zeros of where two keys differ

-- only equal numbers differ nowhere
xor_none : (a b : ℕ) → bit_xor a b ≡ 0 → a ≡ b
xor_none a b e = omega (arith, xor_add_and a b, and_le_l a b, and_le_r a b)

-- the leading zeros of x are at least n where x is below 2 ^ (64 - n), and only there
module _ (x : ℕ) (h : x < 2 ^ 64) (n : ℕ) (l : n ≤ 64) where
  zeros_of : x < 2 ^ (64 - n) → n ≤ count_leading_zeros 64 x
  zeros_of s =
      let t = leading_length 64 x h in
      let m : t.0 ≤ 64 - n = (let k : t.0 < suc (64 - n) = lt_of_not-le (λ g. let y = pow_mono g in let d = pow-succ' 2 (64 - n) in let w = t.3 in let z : ⊥ = omega arith in z) in omega arith) in
      omega (arith, t.1)

  zeros_says : n ≤ count_leading_zeros 64 x → x < 2 ^ (64 - n)
  zeros_says g = let t = leading_length 64 x h in lt_of_lt_of_le t.2 (pow_mono (omega (arith, t.1)))

module _ (a b : ℕ) (ha : a < 2 ^ 64) (hb : b < 2 ^ 64) where
  differing_of : (n : ℕ) → n ≤ 64 → first n a ≡ first n b → n ≤ count_leading_zeros 64 (bit_xor a b)
  differing_of n l e =
      let z : bit_xor a b / 2 ^ (64 - n) ≡ 0 = xor_shr a b (64 - n) ∙ ap (λ (y : ℕ). bit_xor y (first n b)) e ∙ xor_self (first n b) in
      zeros_of (bit_xor a b) (xor_lt 64 a b ha hb) n l (below (bit_xor a b) (64 - n) z)
    where
      below : (x k : ℕ) → x / 2 ^ k ≡ 0 → x < 2 ^ k
      below x k z = omega (arith, lt-div-mul-add {a = x} (pow_pos k), ap (◌* 2 ^ k) z)

  differing_says : (n : ℕ) → n ≤ 64 → n ≤ count_leading_zeros 64 (bit_xor a b) → first n a ≡ first n b
  differing_says n l g =
      xor_none (first n a) (first n b) (sym (xor_shr a b (64 - n)) ∙ div-eq_of_lt (zeros_says (bit_xor a b) (xor_lt 64 a b ha hb) n l g))

-- the common length, as it is worked out
pub common_is : (p q : Prefix) → p.key < 2 ^ 64 → q.key < 2 ^ 64
    → min (count_leading_zeros 64 (bit_xor p.key q.key)) (min p.len q.len) ≡ common_len p q
common_is p q hp hq =
    let z = count_leading_zeros 64 (bit_xor p.key q.key) in
    let r = min z (min p.len q.len) in
    let m = leading_le 64 (bit_xor p.key q.key) in
    let c = common_le p q in
    let up : common_len p q ≤ z = differing_of p.key q.key hp hq (common_len p q) c.0 (common_says p q hp hq (common_len p q) (omega arith)) in
    let down : r ≤ common_len p q = common_of p q r (omega arith) (omega arith) (omega arith) (differing_says p.key q.key hp hq r (omega arith) (omega arith)) in
    omega arith
