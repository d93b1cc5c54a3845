-- A word made of tests: its bits, and the ones below a bit.
use Rattle.std.specs.Prelude.{◌≡◌, Bool, eqb, get_or, take}
use Rattle.std.proofs.Math.Path.{refl, ap, ap₂}
use Rattle.std.proofs.Common.{sym, ◌∙◌, subst, ⊎_elim, not-suc-le-zero, le_of_suc-le-suc, eq-or-lt_of_le, take_all, eqb-true}
use Rattle.std.proofs.Math.Bool.{true, false}
use mathlib.Core.List.{List, [], ◌∷◌, ◌++◌, map}
use Prim.Native.Nat.{ℕ, zero, suc, ◌+◌, ◌*◌, ◌/◌, ◌%◌, ◌^◌, ◌≤◌, ◌<◌}
use native.Mathlib.Omega.{arith}
use Rattle.std.proofs.Math.Nat.{pow-succ'}
use Rattle.std.specs.Int.Count.{ones_in}
use Rattle.std.proofs.Math.ListN.{length}
use Rattle.std.proofs.lemmas.List.{length-map}
use Rattle.std.proofs.lemmas.Bool.{eqb-false}
use Rattle.defs.specs.Basics.{if◌then◌otherwise◌, keep, up_to}
use Rattle.defs.specs.Pool.{bit, rank, ones}
use Rattle.defs.specs.Tidy.{word_of}
use Rattle.defs.specs.Lemmas.{All, nil, more, all_map, all_true}
use Rattle.bits.specs.WordLaws.{bit_zero, bit_suc, rank_zero}
use Rattle.tidied.specs.ListFacts.{rows, rows_suc, length_up_to, at_up_to}

module _ {A : Type 0} (t : A → Bool) where
  word_half : (x : A) (xs : List A) → word_of t (x ∷ xs) / 2 ≡ word_of t xs
  word_half x xs = go (t x)
    where
      go : (b : Bool) → ((if b then 1 otherwise 0) + 2 * word_of t xs) / 2 ≡ word_of t xs
      go true = omega arith
      go false = omega arith

  word_low : (x : A) (xs : List A) → word_of t (x ∷ xs) % 2 ≡ (if t x then 1 otherwise 0)
  word_low x xs = go (t x)
    where
      go : (b : Bool) → ((if b then 1 otherwise 0) + 2 * word_of t xs) % 2 ≡ (if b then 1 otherwise 0)
      go true = omega arith
      go false = omega arith

  -- bit b is the test at the b-th
  pub word_bit : (xs : List A) (b : ℕ) (d : A) → b < length xs → bit b (word_of t xs) ≡ t (get_or xs b d)
  word_bit [] b d h = absurd (not-suc-le-zero h)
  word_bit (x ∷ xs) zero d h = bit_zero (word_of t (x ∷ xs)) ∙ ap (λ (y : ℕ). eqb y 1) (word_low x xs) ∙ go (t x)
    where
      go : (b : Bool) → eqb (if b then 1 otherwise 0) 1 ≡ b
      go true = refl
      go false = refl
  word_bit (x ∷ xs) (suc b) d h = bit_suc b _ ∙ ap (bit b) (word_half x xs) ∙ word_bit xs b d (le_of_suc-le-suc h)

  -- the ones below bit b are the passes before the b-th
  pub word_rank : (xs : List A) (b : ℕ) → rank b (word_of t xs) ≡ length (keep t (take b xs))
  unfolding ones_in
  word_rank xs zero = refl
  word_rank [] (suc b) = ap (0 +◌) (rank_zero b)
  word_rank (x ∷ xs) (suc b) = ap₂ ◌+◌ (word_low x xs) (ap (ones_in b) (word_half x xs) ∙ word_rank xs b) ∙ go (t x)
    where
      go : (c : Bool) → (if c then 1 otherwise 0) + length (keep t (take b xs)) ≡ length (if c then x ∷ keep t (take b xs) otherwise keep t (take b xs))
      go true = omega arith
      go false = omega arith

  pub ones_word : (xs : List A) → length xs ≤ 32 → ones (word_of t xs) ≡ length (keep t xs)
  ones_word xs h = word_rank xs 32 ∙ ap (λ (l : List A). length (keep t l)) (take_all 32 xs h)

  pub word_lt : (xs : List A) → word_of t xs < 2 ^ length xs
  word_lt [] = omega arith
  word_lt (x ∷ xs) = go (t x) (word_lt xs)
    where
      go : (b : Bool) → word_of t xs < 2 ^ length xs → (if b then 1 otherwise 0) + 2 * word_of t xs < 2 ^ suc (length xs)
      go true h = omega (arith, pow-succ' 2 (length xs))
      go false h = omega (arith, pow-succ' 2 (length xs))

  -- where nothing passes the word is 0, and what does not pass at the end does not count
  pub word_zero : {ys : List A} → All (λ y. t y ≡ false) ys → word_of t ys ≡ 0
  word_zero nil = refl
  word_zero (more h hs) = rw (h, word_zero hs)

  word_front : (xs : List A) {ys : List A} → All (λ y. t y ≡ false) ys → word_of t (xs ++ ys) ≡ word_of t xs
  word_front [] h = word_zero h
  word_front (x ∷ xs) h = ap (λ (n : ℕ). (if t x then 1 otherwise 0) + 2 * n) (word_front xs h)

  -- a word of rows of which those from the m-th on have no pass
  pub word_rows : (f : ℕ → ℕ → A) (m k : ℕ) → m ≤ k → ((n v : ℕ) → m ≤ n → n < k → t (f n v) ≡ false) → word_of t (rows f k) < 2 ^ length (rows f m)
  word_rows f m zero h g = let e : m ≡ 0 = omega arith in subst (λ (x : ℕ). word_of t (rows f 0) < 2 ^ length (rows f x)) (sym e) (word_lt (rows f 0))
  word_rows f m (suc k) h g =
      ⊎_elim
      (λ e. subst (λ (x : ℕ). word_of t (rows f (suc k)) < 2 ^ length (rows f x)) (sym e) (word_lt (rows f (suc k))))
      (λ l.
      subst (◌< 2 ^ length (rows f m))
      (sym (ap (word_of t) (rows_suc f k) ∙ word_front (rows f k) (all_map (f k) (all_true (λ v. g k v (omega arith) (omega arith)) (up_to (2 ^ k))))))
      (word_rows f m k (le_of_suc-le-suc l) (λ n v a b. g n v a (omega arith))))
      (eq-or-lt_of_le h)

pub word_ext : {A : Type 0} (s t : A → Bool) → ((x : A) → s x ≡ t x) → (xs : List A) → word_of s xs ≡ word_of t xs
word_ext s t h [] = refl
word_ext s t h (x ∷ xs) = rw (h x, word_ext s t h xs)

-- a word of m bits is made of its bits
pub word_is : {A : Type 0} (t : A → Bool) (xs : List A) (d : A) (y : ℕ) → y < 2 ^ length xs
    → ((b : ℕ) → b < length xs → bit b y ≡ t (get_or xs b d)) → y ≡ word_of t xs
word_is t [] d y h g = omega arith
word_is t (x ∷ xs) d y h g =
    let r : y / 2 ≡ word_of t xs = word_is t xs d (y / 2) (let l : y < 2 ^ suc (length xs) = h in omega (arith, pow-succ' 2 (length xs))) (λ b l. sym (bit_suc b y) ∙ g (suc b) (omega arith)) in
    go (t x) (sym (bit_zero y) ∙ g 0 (omega arith)) r
  where
    go : (b : Bool) → eqb (y % 2) 1 ≡ b → y / 2 ≡ word_of t xs → y ≡ (if b then 1 otherwise 0) + 2 * word_of t xs
    go true e r = omega (arith, eqb-true (y % 2) 1 e)
    go false e r = let n = eqb-false (y % 2) 1 e in ⊎_elim (λ z. absurd (n z)) (λ z. omega arith) (eq-or-lt_of_le (let l : y % 2 ≤ 1 = omega arith in l))

pub word_map : {A : Type 0} (t : A → Bool) (xs : List A) → word_of t xs ≡ word_of (λ b. b) (map t xs)
word_map t [] = refl
word_map t (x ∷ xs) = ap (λ (n : ℕ). (if t x then 1 otherwise 0) + 2 * n) (word_map t xs)

-- a word of m bits, by its bits
pub word_bits : (m y : ℕ) → y < 2 ^ m → y ≡ word_of (λ b. b) (map (λ b. bit b y) (up_to m))
word_bits m y h =
    let l : length (map (λ b. bit b y) (up_to m)) ≡ m = length-map (up_to m) (λ b. bit b y) ∙ length_up_to m in
    word_is (λ b. b) (map (λ b. bit b y) (up_to m)) false y (rw l h) (λ b i. sym (at_up_to (λ b. bit b y) m b false (omega (arith, l))))
