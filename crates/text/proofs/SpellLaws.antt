-- How a number is spelled, digit by digit from the last.
use mathlib.Core.Path.{◌≡◌, sym, ◌∙◌, ap, subst}
use mathlib.Core.List.{List, [], ◌∷◌, ◌++◌, append_assoc}
use Prim.Native.Nat.{ℕ, zero, suc, ◌+◌, ◌-◌, ◌*◌, ◌/◌, ◌%◌, ◌^◌, ◌<◌, ◌≤◌}
use native.Mathlib.Nat.{pow-suc, pow-zero, one-le-pow}
use native.Mathlib.Omega.{arith}
use lib.ListN.{length, take, drop, set, length-take, length-set}
use lib.Seq.{length-take-le, take-set-lt, set_split, drop_at}
use borrow.Author.Tests.{lt-ltb, le-ltb}
use Rattle.text.specs.Numbers.{glyph_of, digits, places_in, places_of}

-- the digits before place i are still to come
pub record Spelling (n base k : ℕ) (old out : List ℕ) (i left : ℕ) : Type 0 where
  pub within : i ≤ k
  pub long : k ≤ length out
  pub kept : length out ≡ length old
  pub so_far : digits base i left ++ drop i (take k out) ≡ digits base k n

-- the digit at place j goes in front of those that stand after it
placed : (k : ℕ) (out : List ℕ) (j g : ℕ) → j < k → k ≤ length out → drop j (take k (set out j g)) ≡ g ∷ drop (suc j) (take k out)
placed k out j g l h =
    let m : j < length (take k out) = omega (arith, length-take k out) in
    ap (drop j) (take-set-lt k out j g l ∙ set_split (take k out) j g m)
    ∙ drop_at (take j (take k out)) (g ∷ drop (suc j) (take k out)) j (length-take-le j (take k out) (omega arith))

pub spell_on : (n base k : ℕ) (old out : List ℕ) (i left g : ℕ) → Spelling n base k old out i left → 0 < i → g ≡ glyph_of (left % base)
    → Spelling n base k old (set out (i - 1) g) (i - 1) (left / base)
spell_on n base k old out i left g r p e =
    let more : i ≡ suc (i - 1) = omega arith in
    let before : digits base (suc (i - 1)) left ++ drop (suc (i - 1)) (take k out) ≡ digits base k n =
    subst (λ (j : ℕ). digits base j left ++ drop j (take k out) ≡ digits base k n) more r.so_far in
    record {
      within = omega (arith, r.within);
      long = rw length-set r.long;
      kept = length-set out (i - 1) g ∙ r.kept;
      so_far =
          ap (λ (t : List ℕ). digits base (i - 1) (left / base) ++ t)
          (placed k out (i - 1) g (omega (arith, r.within)) r.long ∙ ap (λ (x : ℕ). x ∷ drop (suc (i - 1)) (take k out)) e)
          ∙ sym (append_assoc (digits base (i - 1) (left / base)) (glyph_of (left % base) ∷ []) (drop (suc (i - 1)) (take k out))) ∙ before;
    }

-- a number from 10 ^ k on, below ten times that, has k + 1 places
places_in_power : (fuel k n : ℕ) → k ≤ fuel → 10 ^ k ≤ n → n < 10 * 10 ^ k → places_in fuel n ≡ k + 1
places_in_power zero k n f l h = omega arith
places_in_power (suc fuel) zero n f l h = rw (lt-ltb n 10 (omega (arith, pow-zero 10, h)))
places_in_power (suc fuel) (suc k) n f l h =
    let more : 10 ^ suc k ≡ 10 ^ k * 10 = pow-suc 10 k in
    let one : 1 ≤ 10 ^ k = one-le-pow k 10 (omega arith) in
    rw (le-ltb n 10 (omega arith))
    (let e : places_in fuel (n / 10) ≡ k + 1 = places_in_power fuel k (n / 10) (omega arith) (omega arith) (omega arith) in omega arith)

pub places_power : (k n : ℕ) → k < 20 → 10 ^ k ≤ n → n < 10 * 10 ^ k → k + 1 ≡ places_of n
unfolding places_of
places_power k n f l h = sym (places_in_power 19 k n (omega arith) l h)

pub places_zero : (n : ℕ) → n ≡ 0 → 1 ≡ places_of n
unfolding places_of
places_zero n e = rw e
