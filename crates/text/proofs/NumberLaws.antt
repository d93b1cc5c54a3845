-- What reading a number comes to, step by step.
use mathlib.Core.Path.{◌≡◌, refl, sym, ◌∙◌, ap, subst}
use mathlib.Core.List.{List, [], ◌∷◌}
use Prim.Native.Nat.{ℕ, suc, ◌+◌, ◌-◌, ◌*◌, ◌^◌, ◌<◌, ◌≤◌}
use native.Mathlib.Nat.{mul-le-mul_right, mul-le-mul_left, mul-one, mul_assoc, add-mul, one-mul, pow-succ', pow-zero, pow-le-pow_right}
use native.Mathlib.Omega.{arith}
use lib.Dec.{ltb, leb, eqb}
use lib.ListN.{length, get_or, drop}
use lib.Seq.{drop-cons}
use borrow.Author.Tests.{le-leb, lt-leb, eq-eqb, ltb-true, leb-false, eqb-true}
use Rattle.defs.specs.Lemmas.{split}
use Rattle.std.specs.Prelude.{Option, Some, None}
use Rattle.text.specs.Numbers.{digit_of, behind, and_then, numeral_of, at_most, hex_of}

absurd_number : {C : Type 0} {n : ℕ} → Some n ≡ None → C
absurd_number e = cc

-- a number above the limit stays there
above : (base most : ℕ) → 0 < base → (n : ℕ) (cs : List ℕ) → most < n → None ≡ at_most most (numeral_of base n cs)
above base most pos n [] h = rw (lt-leb n most h)
above base most pos n (c ∷ cs) h = go (λ d. above base most pos (n * base + d) cs (let l : n * 1 ≤ n * base = mul-le-mul_left n pos in omega (arith, mul-one n))) (digit_of c)
  where
    go : ((d : ℕ) → None ≡ at_most most (numeral_of base (n * base + d) cs)) → (x : Option ℕ) → None ≡ at_most most (and_then (behind base n x) (λ m. numeral_of base m cs))
    go next None = refl
    go next (Some d) = split (ltb d base) (λ b. rw b (next d)) (λ b. rw b)

-- one digit more, and there is no number or it is above the limit
no_more : (base most n c : ℕ) (cs : List ℕ) → 0 < base → None ≡ at_most most (behind base n (digit_of c)) → None ≡ at_most most (numeral_of base n (c ∷ cs))
no_more base most n c cs pos e = go (behind base n (digit_of c)) e
  where
    go : (x : Option ℕ) → None ≡ at_most most x → None ≡ at_most most (and_then x (λ m. numeral_of base m cs))
    go None e = refl
    go (Some k) e = split (leb k most) (λ b. absurd_number (sym (rw b at e))) (λ b. above base most pos k cs (leb-false k most b))

-- a number of so many digits is below the power of the base
below_power : (base n : ℕ) (cs : List ℕ) (v : ℕ) → Some v ≡ numeral_of base n cs → v < (n + 1) * base ^ length cs
below_power base n [] v e = let q : v ≡ n = cc in omega (arith, pow-zero base, mul-one (n + 1), ap (λ (p : ℕ). (n + 1) * p) (pow-zero base))
below_power base n (c ∷ cs) v e = go (λ d. below_power base (n * base + d) cs v) (digit_of c) e
  where
    next : (d : ℕ) → d < base → v < (n * base + d + 1) * base ^ length cs → v < (n + 1) * base ^ suc (length cs)
    next d l i =
        let j : (n * base + d + 1) * base ^ length cs ≤ (n + 1) * base * base ^ length cs = mul-le-mul_right (base ^ length cs) (omega (arith, add-mul n 1 base, one-mul base)) in
        let p : (n + 1) * base ^ suc (length cs) ≡ (n + 1) * base * base ^ length cs =
        ap (λ (q : ℕ). (n + 1) * q) (pow-succ' base (length cs)) ∙ sym (mul_assoc (n + 1) base (base ^ length cs)) in
        omega arith

    go : ((d : ℕ) → Some v ≡ numeral_of base (n * base + d) cs → v < (n * base + d + 1) * base ^ length cs)
        → (x : Option ℕ) → Some v ≡ and_then (behind base n x) (λ m. numeral_of base m cs) → v < (n + 1) * base ^ suc (length cs)
    go ih None e = absurd_number e
    go ih (Some d) e = split (ltb d base) (λ b. next d (ltb-true d base b) (ih d (rw b at e))) (λ b. absurd_number (rw b at e))

-- a number below the limit passes it
passes : (most : ℕ) (x : Option ℕ) → ((v : ℕ) → Some v ≡ x → v ≤ most) → at_most most x ≡ x
passes most None h = refl
passes most (Some v) h = rw (le-leb v most (h v refl))

-- up to 16 hex digits fit 64 bits
pub hex_fits : (count : ℕ) (s : List ℕ) → count ≤ 16 → length s ≡ count → at_most (2 ^ 64 - 1) (numeral_of 16 0 s) ≡ hex_of count s
hex_fits count s l e =
    rw (eq-eqb (length s) count e)
    (passes (2 ^ 64 - 1) (numeral_of 16 0 s) (λ v q.
    let p : 16 ^ length s ≤ 16 ^ 16 = pow-le-pow_right (let z : 0 < 16 = omega arith in z) {i = length s} {j = 16} (omega arith) in
    omega (arith, below_power 16 0 s v q, one-mul (16 ^ length s))))

-- the number of so many hex digits is below 16 to that power
pub hex_below : (count : ℕ) (s : List ℕ) (v : ℕ) → Some v ≡ hex_of count s → v < 16 ^ count
hex_below count s v e =
    split (eqb (length s) count)
    (λ b. let q : length s ≡ count = eqb-true (length s) count b in
    let l : v < (0 + 1) * 16 ^ length s = below_power 16 0 s v (rw b at e) in
    subst (λ (k : ℕ). v < 16 ^ k) q (omega (arith, one-mul (16 ^ length s))))
    (λ b. absurd_number (rw b at e))

-- the loop over the digits: n has been read, and what is left is still to be put behind it
pub record Reading (s : List ℕ) (base most n i : ℕ) : Type 0 where
  pub within : i ≤ length s
  pub small : n ≤ most
  pub so_far : at_most most (numeral_of base n (drop i s)) ≡ at_most most (numeral_of base 0 s)

module _ (s : List ℕ) (base most n i : ℕ) (r : Reading s base most n i) where
  pub read_bad : 0 < base → i < length s → None ≡ at_most most (behind base n (digit_of (get_or s i 0))) → None ≡ at_most most (numeral_of base 0 s)
  read_bad pos l e =
      no_more base most n (get_or s i 0) (drop (suc i) s) pos e ∙ ap (λ (t : List ℕ). at_most most (numeral_of base n t)) (sym (drop-cons s i 0 l)) ∙ r.so_far
