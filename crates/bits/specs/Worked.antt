-- How the leaves work their definitions out: what their proofs cite, and callers need not.
use Rattle.std.specs.Prelude.{◌≡◌, ℕ, ◌+◌, ◌-◌, ◌*◌, ◌/◌, ◌%◌, ◌^◌, ◌<◌, ◌≤◌, Bool, true, false, ◌||◌, ◌==◌, ◌≢◌, bit_and, nat_le, nat_lt}
use Rattle.std.specs.Prelude.{Some}
use Rattle.std.specs.Ordering.{is_some_and, is_lt, partial_ordering_then, nat_cmp}
use Rattle.std.proofs.Math.Path.{refl, sym, ap}
use Rattle.std.proofs.Common.{◌∙◌, subst, one-mul, lit<, pow_pos, shl_exact}
use native.Mathlib.Omega.{arith}
use Rattle.std.proofs.Math.Nat.{mod-eq_of_lt, lt_of_not-le}
use Rattle.std.proofs.lemmas.Nat.{shl-shr}
use Rattle.std.proofs.Math.Pow.{shr_mod, ones_split, high as pow-high}
use Rattle.std.proofs.lemmas.Nat.Bits.{and_high}
use borrow.Author.Tests.{ltb-true, ltb-false, eqb-true, eqb-false, eq-eqb, ne_eqb, le-leb, lt-leb, le-ltb}
use Rattle.defs.specs.declared.Prefix.{Prefix}
use Rattle.defs.specs.Prefix.{first, leads, before}
use Rattle.defs.specs.PrefixLaws.{cut, prefix_eq}
use Rattle.defs.specs.Lemmas.{split}
use Rattle.bits.specs.Words.{mask_of}
use Rattle.bits.specs.Places.{place_len, place_value, place_number, place_prefix}
use Rattle.bits.specs.PlaceLaws.{made, place_len_none, place_len_short}

-- 1 << z
pub one_shl : (w z : ℕ) → z < w → 1 * 2 ^ z % 2 ^ w ≡ 2 ^ z
one_shl w z h = shl_exact 1 z w (lit< tt) (omega arith) ∙ one-mul (2 ^ z)

-- a mask, as it is worked out
pub mask_is : (n : ℕ) → n < 64 → (2 ^ 64 - 1) - (2 ^ 64 - 1) / 2 ^ n ≡ mask_of n
unfolding mask_of
mask_is n h =
    let e : 2 ^ 64 - 1 ≡ (2 ^ (64 - n) - 1) * 2 ^ n + (2 ^ n - 1) =
    (let s : 64 ≡ (64 - n) + n = omega arith in ap (λ (x : ℕ). 2 ^ x - 1) s ∙ ones_split (64 - n) n) in
    let d : (2 ^ 64 - 1) / 2 ^ n ≡ 2 ^ (64 - n) - 1 =
    ap (◌/ 2 ^ n) e ∙ pow-high (2 ^ (64 - n) - 1) n (omega (arith, pow_pos n)) in
    omega (arith, d, pow_pos (64 - n))

pub mask_long : (n : ℕ) → 64 ≤ n → mask_of n ≡ 2 ^ 64 - 1
unfolding mask_of
mask_long n h = let e : 64 - n ≡ 0 = omega arith in rw e

-- what a mask leaves of a key
pub mask_cut : (n k : ℕ) → k < 2 ^ 64 → bit_and k (mask_of n) ≡ cut n k
unfolding mask_of cut
mask_cut n k h =
    let e : (64 - (64 - n)) + (64 - n) ≡ 64 = omega arith in
    ap (λ (x : ℕ). bit_and k (2 ^ x - 2 ^ (64 - n))) (sym e)
    ∙ and_high k (64 - (64 - n)) (64 - n)
    ∙ ap (◌* 2 ^ (64 - n)) (shr_mod (64 - (64 - n)) (64 - n) (subst (λ (x : ℕ). k < 2 ^ x) (sym e) h))

-- ---- tests of prefixes

-- a power of two on both sides plays no part
scaled : (a b k : ℕ) → (a * 2 ^ k == b * 2 ^ k) ≡ (a == b)
scaled a b k =
    split (a == b) (λ e. eq-eqb _ _ (ap (◌* 2 ^ k) (eqb-true a b e)) ∙ sym e)
    (λ e. ne_eqb _ _ (λ f. eqb-false a b e (sym (shl-shr a k) ∙ ap (◌/ 2 ^ k) f ∙ shl-shr b k)) ∙ sym e)

module _ (p q : Prefix) where
  pub leads_is : p.len ≤ q.len → (cut p.len q.key == cut p.len p.key) ≡ leads p q
  unfolding leads cut
  leads_is h = rw (le-leb p.len q.len h) (scaled (first p.len q.key) (first p.len p.key) (64 - p.len))

  pub leads_longer : q.len < p.len → false ≡ leads p q
  unfolding leads
  leads_longer h = rw (lt-leb p.len q.len h)

  -- of two prefixes with one key, the shorter comes first
  pub before_same : p.key ≡ q.key → nat_lt p.len q.len ≡ before p q
  unfolding before
  before_same e = rw (le-ltb p.key q.key (omega arith), eq-eqb p.key q.key e)

  -- of two with different keys, the one with the smaller key
  pub before_other : (p.key ≢ q.key) → nat_lt p.key q.key ≡ before p q
  unfolding before
  before_other n = rw (ne_eqb p.key q.key n) (sym (or_none (nat_lt p.key q.key)))
    where
      or_none : (b : Bool) → (b || false) ≡ b
      or_none true = refl
      or_none false = refl

  -- the order of the fields: the keys decide, and the lengths where the keys are equal
  pub before_is : is_some_and is_lt (partial_ordering_then (Some (nat_cmp p.key q.key)) (Some (nat_cmp p.len q.len))) ≡ before p q
  unfolding before
  before_is =
      split (nat_lt p.key q.key) (λ e. rw e)
      (λ e.
      split (p.key == q.key) (λ f. rw (e, f) (split (nat_lt p.len q.len) (λ g. rw g) (λ g. split (p.len == q.len) (λ h. rw (g, h)) (λ h. rw (g, h)))))
      (λ f. rw (e, f)))

-- ---- places

-- the highest one of a number is not above it
pub value_under : (h n : ℕ) → 0 < h → h < 2 ^ 32 → n ≡ place_len h → 1 * 2 ^ n % 2 ^ 32 ≤ h
value_under h n some word e =
    let m = made h some word in
    let s : 1 * 2 ^ n % 2 ^ 32 ≡ 2 ^ place_len h = rw e (one_shl 32 (place_len h) m.short) in
    omega arith

-- the highest one of a number, taken off
pub value_left : (h n : ℕ) → n ≡ place_len h → h - 1 * 2 ^ n % 2 ^ 32 ≡ place_value h
unfolding place_value
value_left h n e = rw e (ap (h -◌) (one_shl 32 (place_len h) (place_len_short h)))

-- it is there to be taken off
pub value_is : (h n : ℕ) → 0 < h → h < 2 ^ 32 → n ≡ place_len h → (1 * 2 ^ n % 2 ^ 32 ≤ h) × (h - 1 * 2 ^ n % 2 ^ 32 ≡ place_value h)
value_is h n some word e =
    let m = made h some word in
    let s : 1 * 2 ^ n % 2 ^ 32 ≡ 2 ^ place_len h = rw e (one_shl 32 (place_len h) m.short) in
    (omega arith, value_left h n e)

module _ (n v : ℕ) where
  pub number_wide : 6 ≤ n → 0 ≡ place_number n v
  unfolding place_number
  number_wide h = rw (le-ltb n 6 h)

  pub number_high : 2 ^ n ≤ v → 0 ≡ place_number n v
  unfolding place_number
  number_high h = split (nat_lt n 6) (λ e. rw (e, le-ltb v (2 ^ n) h)) (λ e. rw e)

module _ (p : Prefix) (h : ℕ) (word : h < 2 ^ 32) where
  -- a place of no bits adds nothing
  no_value : place_len h ≡ 0 → place_value h ≡ 0
  unfolding place_value
  no_value e =
      split (nat_lt 0 h) (λ t. let m = made h (ltb-true 0 h t) word in omega (arith, ap (2 ^◌) e, m.value))
      (λ t. omega (arith, ltb-false 0 h t))

  pub prefix_none : p.key < 2 ^ 64 → place_len h ≡ 0 → p ≡ place_prefix p h
  unfolding place_prefix
  prefix_none k e =
      let l : p.len + place_len h ≡ p.len = omega arith in
      let z : p.key + 0 * 2 ^ (64 - (p.len + place_len h)) ≡ p.key = omega arith in
      let f : p.key ≡ (p.key + place_value h * 2 ^ (64 - (p.len + place_len h))) % 2 ^ 64 =
      sym (ap (λ (x : ℕ). (p.key + x * 2 ^ (64 - (p.len + place_len h))) % 2 ^ 64) (no_value e) ∙ ap (◌% 2 ^ 64) z ∙ mod-eq_of_lt k) in
      split (nat_le (p.len + place_len h) 64) (λ t. rw t (prefix_eq p _ f (sym l))) (λ t. rw t)

  pub prefix_long : 64 < p.len + place_len h → p ≡ place_prefix p h
  unfolding place_prefix
  prefix_long l = rw (lt-leb (p.len + place_len h) 64 l)

  pub prefix_is : (n v k : ℕ) → n ≡ place_len h → v ≡ place_value h → 0 < n → p.len + n ≤ 64
      → k ≡ (p.key + v * 2 ^ (64 - (p.len + n)) % 2 ^ 64) % 2 ^ 64 → record { key = k; len = p.len + n } ≡ place_prefix p h
  unfolding place_prefix
  prefix_is n v k en ev pos l e =
      let some : 0 < h = lt_of_not-le (λ g. let z : h ≡ 0 = omega arith in let y = ap place_len z in let w = place_len_none in let x : ⊥ = omega arith in x) in
      let m = made h some word in
      let low : v < 2 ^ n = rw (en, ev) m.value in
      rw (← en, ← ev, le-leb (p.len + n) 64 l)
      (prefix_eq _ _ (e ∙ ap (λ (x : ℕ). (p.key + x) % 2 ^ 64) (shl_exact n (64 - (p.len + n)) 64 low (omega arith))) refl)
