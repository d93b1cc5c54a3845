-- Places: number, bits and value go both ways, and a place's prefix is its node's, gone deeper.
use Rattle.std.specs.Prelude.{◌≡◌, ℕ, suc, ◌+◌, ◌-◌, ◌*◌, ◌^◌, ◌<◌, ◌≤◌, refl, Option, None, Some, IfNone, IfSome, unwrap_or}
use Rattle.std.proofs.Common.{sym, ap, ◌∙◌, subst, mod-eq_of_lt, mul-le-mul_right, suc-mul, lt_of_not-le, pow_pos, pow_mono, pow-add, shl_lt, shr_lt, le-leb, lt-ltb}
use native.Mathlib.Omega.{arith}
use Rattle.std.proofs.Math.Nat.{pow-succ'}
use Rattle.std.specs.Int.Count.{count_leading_zeros, leading_unique, leading_top, leading_of_zero}
use Rattle.defs.specs.declared.Prefix.{Prefix}
use Rattle.defs.specs.Prefix.{first, deeper}
use Rattle.defs.specs.Pool.{data_bit}
use Rattle.defs.specs.PrefixLaws.{cut, Whole, prefix_eq}
use Rattle.bits.specs.Places.{place_len, place_value, place_number, place_prefix}

-- ---- from bits and value to the number and back

module _ (n v : ℕ) (hn : n < 32) (hv : v < 2 ^ n) where
  pub place_len_lem : place_len (2 ^ n + v) ≡ n
  unfolding place_len
  place_len_lem =
      let d = pow-succ' 2 n in
      let z : 31 - n ≡ count_leading_zeros 32 (2 ^ n + v) = leading_unique 32 (2 ^ n + v) (31 - n) (suc n) (omega arith) (omega arith) (omega arith) in
      omega arith

  pub place_value_lem : place_value (2 ^ n + v) ≡ v
  unfolding place_value
  place_value_lem = rw place_len_lem (omega arith)

pub place_number_lem : (n v : ℕ) → n < 6 → v < 2 ^ n → place_number n v ≡ 2 ^ n + v
unfolding place_number
place_number_lem n v hn hv = rw (lt-ltb n 6 hn, lt-ltb v (2 ^ n) hv)

-- what a place's number is made of
pub record Made (h : ℕ) : Type 0 where
  pub short : place_len h < 32
  pub value : place_value h < 2 ^ place_len h
  pub number : h ≡ 2 ^ place_len h + place_value h
  pub zeros : place_len h + count_leading_zeros 32 h ≡ 31

module _ (h : ℕ) (some : 0 < h) (word : h < 2 ^ 32) where
  pub made : Made h
  unfolding place_len place_value
  made =
      let t = leading_top 32 h some word in
      let e : 31 - count_leading_zeros 32 h ≡ t.0 = omega (arith, t.1) in
      let lo : 2 ^ (31 - count_leading_zeros 32 h) ≤ h = rw e t.2 in
      let d = pow-succ' 2 (31 - count_leading_zeros 32 h) in
      let hi : h < 2 ^ suc (31 - count_leading_zeros 32 h) = rw e t.3 in
      record { short = omega arith; value = omega arith; number = omega arith; zeros = omega (arith, t.1) }

  -- a number below 2 ^ k has fewer than k bits below its highest one
  pub place_len_below : (k : ℕ) → h < 2 ^ k → place_len h < k
  place_len_below k l = lt_of_not-le (λ g. let y = pow_mono g in let m = made in let z : ⊥ = omega arith in z)

pub place_len_none : place_len 0 ≡ 0
unfolding place_len
place_len_none = rw (leading_of_zero 32)

-- the greatest power of two up to h, where there is one
pub log_is : (h : ℕ) (r : Option ℕ) → IfNone r (h ≡ 0) → IfSome r (λ k. 2 ^ k ≤ h) → IfSome r (λ k. h < 2 * 2 ^ k) → IfSome r (λ k. k < 32) → unwrap_or r 0 ≡ place_len h
log_is h None none lo hi short = sym (ap place_len none ∙ place_len_none)
log_is h (Some k) none lo hi short =
    let e : h ≡ 2 ^ k + (h - 2 ^ k) = omega arith in
    sym (ap place_len e ∙ place_len_lem k (h - 2 ^ k) short (omega arith))

pub place_len_short : (h : ℕ) → place_len h < 32
unfolding place_len
place_len_short h = omega arith

pub place_value_none : place_value 0 ≡ 0
unfolding place_value
place_value_none = omega (arith, pow_pos (place_len 0))

-- the 63 places of a node: bits and value give the number back
pub place_back : (h : ℕ) → 0 < h → h < 64 → place_number (place_len h) (place_value h) ≡ h
place_back h some l =
    let m = made h some (omega arith) in
    place_number_lem (place_len h) (place_value h) (place_len_below h some (omega arith) 6 l) m.value ∙ sym m.number

-- places 1 to 31 are data bits 0 to 30
pub data_place_lem : (h : ℕ) → 0 < h → h < 32 → data_bit (place_len h) (place_value h) ≡ h - 1
data_place_lem h some l = let m = made h some (omega arith) in omega (arith, m.number, pow_pos (place_len h))

-- places 32 to 63 are children 0 to 31
pub child_place_lem : (h : ℕ) → 32 ≤ h → h < 64 → (place_len h ≡ 5) × (place_value h ≡ h - 32)
child_place_lem h lo hi =
    let e : h ≡ 2 ^ 5 + (h - 32) = omega arith in
    (ap place_len e ∙ place_len_lem 5 (h - 32) (omega arith) (omega arith), ap place_value e ∙ place_value_lem 5 (h - 32) (omega arith) (omega arith))

-- the halves of a place: one bit more, 0 and 1
module _ (h : ℕ) (some : 0 < h) (word : h < 2 ^ 31) (b : ℕ) (hb : b < 2) where
  half_is : 2 * h + b ≡ 2 ^ suc (place_len h) + (2 * place_value h + b)
  half_is = let m = made h some (omega arith) in let d = pow-succ' 2 (place_len h) in omega arith

  half_bits : (suc (place_len h) < 32) × (2 * place_value h + b < 2 ^ suc (place_len h))
  half_bits =
      let m = made h some (omega arith) in
      let d = pow-succ' 2 (place_len h) in
      let l = place_len_below h some (omega arith) 31 word in
      (omega arith, omega arith)

  pub half_len : place_len (2 * h + b) ≡ suc (place_len h)
  half_len = rw half_is (place_len_lem (suc (place_len h)) (2 * place_value h + b) half_bits.0 half_bits.1)

  pub half_value : place_value (2 * h + b) ≡ 2 * place_value h + b
  half_value = ap place_value half_is ∙ place_value_lem (suc (place_len h)) (2 * place_value h + b) half_bits.0 half_bits.1

-- ---- the prefix of a place

-- n more bits of a whole prefix stay within 64
pub deeper_fits : (p : Prefix) (n v : ℕ) → Whole p → p.key < 2 ^ 64 → p.len + n ≤ 64 → v < 2 ^ n → (deeper p n v).key < 2 ^ 64
unfolding cut
deeper_fits p n v w k l hv =
    let s = 64 - p.len in
    let e : p.len + s ≡ 64 = omega arith in
    let f : first p.len p.key < 2 ^ p.len = shr_lt p.len s (subst (λ (x : ℕ). p.key < 2 ^ x) (sym e) k) in
    let g = mul-le-mul_right (2 ^ s) f in
    let a = suc-mul (first p.len p.key) (2 ^ s) in
    let b : 2 ^ p.len * 2 ^ s ≡ 2 ^ 64 = sym (pow-add 2 p.len s) ∙ ap (2 ^◌) e in
    let j : n + (64 - (p.len + n)) ≡ s = omega arith in
    let c : v * 2 ^ (64 - (p.len + n)) < 2 ^ s = subst (λ (x : ℕ). v * 2 ^ (64 - (p.len + n)) < 2 ^ x) j (shl_lt n (64 - (p.len + n)) hv) in
    omega (arith, w)

-- the prefix of a place is its node's prefix, gone deeper
pub place_prefix_lem : (p : Prefix) (h : ℕ) → 0 < h → h < 2 ^ 32 → Whole p → p.key < 2 ^ 64 → p.len + place_len h ≤ 64
    → place_prefix p h ≡ deeper p (place_len h) (place_value h)
unfolding place_prefix
place_prefix_lem p h some word w k l =
    rw (le-leb (p.len + place_len h) 64 l)
    (prefix_eq _ _ (mod-eq_of_lt (deeper_fits p (place_len h) (place_value h) w k l (made h some word).value)) refl)
