-- Bits and ranks of words.
use Rattle.std.specs.Prelude.{◌≡◌, ℕ, zero, suc, ◌+◌, ◌/◌, ◌%◌, ◌^◌, ◌<◌, ◌≤◌, true, false, ◌==◌, nat_eq, nat_lt, refl}
use Rattle.std.proofs.Common.{sym, ap, ap₂, ◌∙◌, arith, mod-lt, mod-eq_of_lt, div-one, zero-lt-suc, not-suc-le-zero, le_of_suc-le-suc, lt_of_lt_of_le, lt_of_not-le, add-one, pow_pos, pow_mono, shr-shr, ltb-true, ltb-false, eqb-true, eq-eqb}
use Rattle.std.proofs.Math.Nat.{div-eq_of_lt, pow-succ'}
use Rattle.std.proofs.Math.Arith.{lt-one}
use Rattle.std.proofs.Math.Pow.{field, mod-mod-pow}
use Rattle.std.specs.Int.Count.{ones_in, ones_step, ones as allOnes}
use Rattle.defs.specs.Lemmas.{split}
use Rattle.defs.specs.Pool.{bit, rank, ones}

-- ---- bits

pub bit_zero : (x : ℕ) → bit 0 x ≡ (x % 2 == 1)
bit_zero x = ap (λ (y : ℕ). nat_eq (y % 2) 1) (div-one x)

pub bit_suc : (b x : ℕ) → bit (suc b) x ≡ bit b (x / 2)
bit_suc b x =
    let e : 1 + b ≡ suc b = omega arith in
    ap (λ (y : ℕ). nat_eq (y % 2) 1) (ap (λ (y : ℕ). x / 2 ^ y) (sym e) ∙ sym (shr-shr x 1 b))

-- no bit is set from 2 ^ m on
pub bit_low : (m b x : ℕ) → x < 2 ^ m → bit b x ≡ true → b < m
bit_low m b x h e =
    lt_of_not-le
    (λ l.
    let z : x / 2 ^ b ≡ 0 = div-eq_of_lt (lt_of_lt_of_le h (pow_mono l)) in
    let o = eqb-true (x / 2 ^ b % 2) 1 e in
    let q : x / 2 ^ b % 2 ≡ 0 % 2 = ap (◌% 2) z in
    let n : ⊥ = omega arith in n)

pub bit_none : (m b x : ℕ) → x < 2 ^ m → m ≤ b → bit b x ≡ false
bit_none m b x h l =
    let z : x / 2 ^ b ≡ 0 = div-eq_of_lt (lt_of_lt_of_le h (pow_mono l)) in
    ap (λ (y : ℕ). nat_eq (y % 2) 1) z

-- ---- ranks

-- the ones below a bit are those of the remainder
pub rank_low : (b x : ℕ) → allOnes (x % 2 ^ b) ≡ rank b x
unfolding ones_in allOnes
rank_low zero x = ap allOnes (lt-one (mod-lt x (pow_pos 0)))
rank_low (suc b) x =
    ones_step (x % 2 ^ suc b)
    ∙ ap₂ (λ (u v : ℕ). u + allOnes v)
    (ap (λ (n : ℕ). x % 2 ^ n % 2) (sym (add-one b)) ∙ mod-mod-pow x b 1)
    (ap (λ (n : ℕ). x % 2 ^ n / 2) (sym (add-one b)) ∙ field x b 1)
    ∙ ap (x % 2 +◌) (rank_low b (x / 2))

-- from a word's length on, all ones are counted
pub rank_all : (m b x : ℕ) → x < 2 ^ m → m ≤ b → allOnes x ≡ rank b x
rank_all m b x h l = ap allOnes (sym (mod-eq_of_lt (lt_of_lt_of_le h (pow_mono l)))) ∙ rank_low b x

pub rank_le : (b x : ℕ) → rank b x ≤ b
unfolding ones_in
rank_le zero x = omega arith
rank_le (suc b) x = omega (arith, rank_le b (x / 2), mod-lt x (zero-lt-suc 1))

pub rank_zero : (b : ℕ) → rank b 0 ≡ 0
unfolding ones_in
rank_zero zero = refl
rank_zero (suc b) = ap (0 +◌) (rank_zero b)

-- a word below 2 ^ k has at most k ones
pub rank_small : (k b x : ℕ) → x < 2 ^ k → rank b x ≤ k
unfolding ones_in
rank_small k zero x h = omega arith
rank_small zero (suc b) x h = let z : x ≡ 0 = lt-one h in rw z (omega (arith, rank_zero b))
rank_small (suc k) (suc b) x h = omega (arith, rank_small k b (x / 2) (omega (arith, pow-succ' 2 k)), mod-lt x (zero-lt-suc 1))

pub rank_mono : (m n x : ℕ) → m ≤ n → rank m x ≤ rank n x
unfolding ones_in
rank_mono zero n x h = omega arith
rank_mono (suc m) zero x h = absurd (not-suc-le-zero h)
rank_mono (suc m) (suc n) x h = omega (arith, rank_mono m n (x / 2) (le_of_suc-le-suc h))

-- a set bit is counted by every rank above it
pub rank_less : (m c x : ℕ) → c < m → bit c x ≡ true → rank c x < rank m x
unfolding ones_in
rank_less zero c x h e = absurd (not-suc-le-zero h)
rank_less (suc m) zero x h e = let o = eqb-true (x % 2) 1 (sym (bit_zero x) ∙ e) in omega arith
rank_less (suc m) (suc c) x h e = let r = rank_less m c (x / 2) (le_of_suc-le-suc h) (sym (bit_suc c x) ∙ e) in omega arith

-- one bit more
pub rank_suc : (b x : ℕ) → rank (suc b) x ≡ rank b x + x / 2 ^ b % 2
unfolding ones_in
rank_suc zero x = let e = div-one x in omega (arith, ap (◌% 2) e)
rank_suc (suc b) x =
    let e : x / 2 / 2 ^ b ≡ x / 2 ^ suc b = shr-shr x 1 b ∙ ap (λ (y : ℕ). x / 2 ^ y) (omega arith) in
    omega (arith, rank_suc b (x / 2), ap (◌% 2) e)

-- each rank that is counted is that of a set bit
pub select : (m x r : ℕ) → r < rank m x → (c : ℕ) × (c < m) × (bit c x ≡ true) × (rank c x ≡ r)
unfolding ones_in
select zero x r h = absurd (not-suc-le-zero h)
select (suc m) x r h =
    split (nat_lt r (rank m x)) (λ t. let s = select m x r (ltb-true r (rank m x) t) in (s.0, omega (arith, s.1), s.2, s.3))
    (λ t.
    let l = ltb-false r (rank m x) t in
    let o = rank_suc m x in
    let b = mod-lt (x / 2 ^ m) (zero-lt-suc 1) in
    (m, omega arith, eq-eqb (x / 2 ^ m % 2) 1 (omega arith), omega arith))

-- a word has at most 32 ones
pub ones_le : (x : ℕ) → ones x ≤ 32
ones_le x = rank_le 32 x

pub ones_zero : ones 0 ≡ 0
ones_zero = rank_zero 32
