-- Laws of prefixes: their bits past a length, and when two are the same. Those of `leads`, `before` and the halves are in proofs/PrefixLaws.antt.
use Rattle.std.specs.Prelude.{◌≡◌, refl, true, ◌⊎◌, ℕ, suc, ◌+◌, ◌*◌, ◌-◌, ◌^◌, ◌/◌, ◌≤◌, ◌<◌, eqb}
use Rattle.std.proofs.Math.Path.{sym, ap}
use Rattle.std.proofs.Common.{◌∙◌, arith, div-mul-le_self, div-one, pow_pos, shr-shr}
use Rattle.std.proofs.Math.Nat.{lt-div-mul-add}
use Rattle.std.proofs.Math.Pow.{shl-shr, high as pow-high}
use borrow.Author.Tests.{eqb-true, eq-eqb}
use Rattle.defs.specs.declared.Prefix.{Prefix}
use Rattle.defs.specs.Prefix.{first, same, top}
use Rattle.defs.specs.Lemmas.{and_left, and_right, is_false, not_both, split}

-- a key with the bits past its first n cleared
unfoldable pub cut : ℕ → ℕ → ℕ
cut n k = first n k * 2 ^ (64 - n)

-- the bits of a prefix past its length are 0
abbrev pub Whole : Prefix → Type 0
Whole q = cut q.len q.key ≡ q.key

pub prefix_eq : (a b : Prefix) → a.key ≡ b.key → a.len ≡ b.len → a ≡ b
prefix_eq a b e f = λ i. record { key = e i; len = f i }

-- the first bits of a key fix those before them
pub first_agree : (m n a b : ℕ) → m ≤ n → first n a ≡ first n b → first m a ≡ first m b
first_agree m n a b h e =
    let s : 64 - m ≡ (64 - n) + ((64 - m) - (64 - n)) = omega arith in
    rw s (sym (shr-shr a (64 - n) _) ∙ ap (◌/ 2 ^ ((64 - m) - (64 - n))) e ∙ shr-shr b (64 - n) _)

first_cut : (n k : ℕ) → first n (cut n k) ≡ first n k
unfolding cut
first_cut n k = shl-shr (first n k) (64 - n)

pub cut_whole : (n k : ℕ) → cut n (cut n k) ≡ cut n k
unfolding cut
cut_whole n k = ap (◌* 2 ^ (64 - n)) (first_cut n k)

pub cut_cut : (m n k : ℕ) → m ≤ n → cut m (cut n k) ≡ cut m k
unfolding cut
cut_cut m n k h = ap (◌* 2 ^ (64 - m)) (first_agree m n (cut n k) k h (first_cut n k))

pub cut_le : (n k : ℕ) → cut n k ≤ k
unfolding cut
cut_le n k = div-mul-le_self k (2 ^ (64 - n))

pub lt_cut : (n k : ℕ) → k < cut n k + 2 ^ (64 - n)
unfolding cut
lt_cut n k = lt-div-mul-add (pow_pos (64 - n))

pub cut_at : (n m r : ℕ) → r < 2 ^ (64 - n) → cut n (m * 2 ^ (64 - n) + r) ≡ m * 2 ^ (64 - n)
unfolding cut
cut_at n m r h = ap (◌* 2 ^ (64 - n)) (pow-high m (64 - n) h)

-- what `before` says
abbrev pub Before : Prefix → Prefix → Type 0
Before p q = (p.key < q.key) ⊎ ((p.key ≡ q.key) × (p.len < q.len))

pub same_self : (p : Prefix) → same p p ≡ true
unfolding same
same_self p = rw (eq-eqb p.key p.key refl, eq-eqb p.len p.len refl)

pub same_says : (p q : Prefix) → same p q ≡ true → p ≡ q
unfolding same
same_says p q h = prefix_eq p q (eqb-true _ _ (and_left _ _ h)) (eqb-true _ _ (and_right (eqb p.key q.key) _ h))

-- two tests of sameness, turned round
pub same_sym : (p q : Prefix) → same p q ≡ same q p
same_sym p q =
    split (same p q) (λ e. rw (same_says p q e)) (λ e. e ∙ sym (is_false (same q p) (λ f. not_both (rw (same_says q p f) (same_self p)) e)))

pub whole_top : Whole top
unfolding cut
whole_top = refl

pub whole_long : (q : Prefix) → 64 ≤ q.len → Whole q
unfolding cut
whole_long q l = let e : 64 - q.len ≡ 0 = omega arith in rw e (omega (arith, div-one q.key))

-- the lower half of a prefix: one more bit, 0
abbrev pub low : Prefix → Prefix
low q = record { key = q.key; len = suc q.len }

-- the upper half of a prefix: one more bit, 1
abbrev pub high : Prefix → Prefix
high q = record { key = q.key + 2 ^ (64 - suc q.len); len = suc q.len }
