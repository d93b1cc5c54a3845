-- One word for a node's two bitmaps, one bit a place in prefix order: taken apart bit by bit.
use Rattle.std.specs.Prelude.{◌≡◌, refl, Bool, true, ◌&&◌, List, [], ◌∷◌, ℕ, zero, suc, ◌+◌, ◌-◌, ◌*◌, ◌/◌, ◌%◌, ◌^◌, ◌≤◌, ◌<◌, eqb, ltb, get_or}
use Rattle.std.proofs.Common.{sym, ap, ◌∙◌, subst, ⊎_elim, arith, not-suc-le-zero, le_of_suc-le-suc, eq-or-lt_of_le, mod-lt, div-add-mod', pow_pos, pow_mono, shr-shr, ltb-true, eqb-true, eq-eqb, ne_eqb}
use Rattle.std.specs.Int.Count.{count_trailing_zeros}
use Rattle.std.proofs.Math.Pow.{field, mod-mod-pow, low, high}
use Rattle.std.proofs.lemmas.Bool.{eqb-false}
use Rattle.defs.specs.Basics.{if◌then◌otherwise◌}
use Rattle.defs.specs.Pool.{bit, data_bit}
use Rattle.defs.specs.Entries.{Place, data_place, child_place, places}
use Rattle.defs.specs.Tidy.{word_of}
use Rattle.defs.specs.Lemmas.{All, nil, more, split, and_left, and_right}
use Rattle.bits.specs.WordLaws.{bit_zero, bit_suc}
use Rattle.bits.specs.Worked.{one_shl}
use Rattle.bits.specs.SetBits.{Taken, lowest_there, lowest_inside}
use Rattle.theory.specs.Steps.{place_bit}
use Rattle.theory.specs.Todo.{word_lt}
use Rattle.theory.specs.Unwanted.{InNode, places_in_node}
use Rattle.theory.specs.Walk.{places_length}
use Rattle.theory.specs.Todo.{zeros_odd, zeros_even}

-- a node's bit of a place, its 31 data bits first
abbrev pub code_of : Place → ℕ
code_of (data_place n v) = data_bit n v
code_of (child_place c) = 31 + c

-- a node's bits: 31 data bits, then 32 child bits
abbrev pub both_of : ℕ → ℕ → ℕ
both_of d c = c * 2 ^ 31 + d % 2 ^ 31

-- the word of a node's bits in prefix order
abbrev pub spread_of : ℕ → ℕ
spread_of t = word_of (λ x. bit (code_of x) t) places

-- the word of the place of bit z alone
abbrev pub alone_of : ℕ → ℕ
alone_of z = word_of (λ x. eqb (code_of x) z) places

-- a test as a number
abbrev pub one : Bool → ℕ
one b = if b then 1 otherwise 0

-- ---- words of tests

module _ {A : Type 0} where
  pub word_on : {P : A → Type 0} (f g : A → Bool) → ((x : A) → P x → f x ≡ g x) → {l : List A} → All P l → word_of f l ≡ word_of g l
  word_on f g e nil = refl
  word_on f g e (more {x = x} h hs) = rw (e x h, word_on f g e hs)

  word_sum : (f g k : A → Bool) → ((x : A) → one (f x) ≡ one (g x) + one (k x)) → (l : List A) → word_of f l ≡ word_of g l + word_of k l
  word_sum f g k e [] = refl
  word_sum f g k e (x ∷ l) = omega (arith, e x, word_sum f g k e l)

-- ---- the lowest bit

half : (m b : ℕ) → b < 2 → (m * 2 + b) / 2 ≡ m
half m b h = omega arith

pub bit_first : (m b : ℕ) → b < 2 → bit 0 (m * 2 + b) ≡ eqb b 1
bit_first m b h = let e : (m * 2 + b) % 2 ≡ b = omega arith in bit_zero (m * 2 + b) ∙ ap (λ (y : ℕ). eqb y 1) e

pub bit_later : (m b c : ℕ) → b < 2 → bit (suc c) (m * 2 + b) ≡ bit c m
bit_later m b c h = bit_suc c (m * 2 + b) ∙ ap (bit c) (half m b h)

pub eqb_suc : (a b : ℕ) → eqb (suc a) (suc b) ≡ eqb a b
eqb_suc a b =
    split (eqb a b) (λ e. eq-eqb (suc a) (suc b) (ap suc (eqb-true a b e)) ∙ sym e)
    (λ e. ne_eqb (suc a) (suc b) (λ i. eqb-false a b e (omega arith)) ∙ sym e)

-- every bit but the lowest is still there without the lowest
abbrev pub Low : ℕ → ℕ → ℕ → Type 0
Low z t c = one (bit c t) ≡ one (eqb c z) + one (bit c (t - 2 ^ z))

low_odd : (m c : ℕ) → Low 0 (m * 2 + 1) c
low_odd m zero =
    let e : m * 2 + 1 - 2 ^ 0 ≡ m * 2 + 0 = omega arith in
    rw (e, bit_first m 1 (omega arith), bit_first m 0 (omega arith))
low_odd m (suc c) =
    let e : m * 2 + 1 - 2 ^ 0 ≡ m * 2 + 0 = omega arith in
    rw (e, bit_later m 1 c (omega arith), bit_later m 0 c (omega arith), ne_eqb (suc c) 0 (λ i. omega arith)) (omega arith)

low_even : (z m c : ℕ) → 2 ^ z ≤ m → ((c : ℕ) → Low z m c) → Low (suc z) (m * 2 + 0) c
low_even z m zero b h =
    let e : m * 2 + 0 - 2 ^ suc z ≡ (m - 2 ^ z) * 2 + 0 = omega arith in
    rw (e, bit_first m 0 (omega arith), bit_first (m - 2 ^ z) 0 (omega arith), ne_eqb 0 (suc z) (λ i. omega arith))
low_even z m (suc c) b h =
    let e : m * 2 + 0 - 2 ^ suc z ≡ (m - 2 ^ z) * 2 + 0 = omega arith in
    rw (e, bit_later m 0 c (omega arith), bit_later (m - 2 ^ z) 0 c (omega arith), eqb_suc c z) (h c)

-- the lowest one of a number below 2 ^ k
pub record Lowly (k t : ℕ) : Type 0 where
  pub inside : count_trailing_zeros k t < k
  pub part : 2 ^ count_trailing_zeros k t ≤ t
  pub apart : (c : ℕ) → Low (count_trailing_zeros k t) t c

pub lowly : (k t : ℕ) → 0 < t → t < 2 ^ k → Lowly k t
lowly zero t h b = absurd (omega arith)
lowly (suc k) t h b =
    let s : t / 2 * 2 + t % 2 ≡ t = div-add-mod' t 2 in
    split (eqb (t % 2) 1)
    (λ o. let e : t ≡ t / 2 * 2 + 1 = omega (arith, eqb-true (t % 2) 1 o) in rw e (odd k (t / 2)))
    (λ o.
    let n : t % 2 ≡ 1 → ⊥ = eqb-false (t % 2) 1 o in
    let e : t ≡ t / 2 * 2 + 0 = omega (arith, mod-lt t {m = 2} (omega arith)) in
    rw e (even k (t / 2) (lowly k (t / 2) (omega arith) (omega arith))))
  where
    odd : (k m : ℕ) → Lowly (suc k) (m * 2 + 1)
    odd k m = record { inside = rw (zeros_odd k m) (omega arith); part = rw (zeros_odd k m) (omega arith); apart = λ c. rw (zeros_odd k m) (low_odd m c) }

    even : (k m : ℕ) → Lowly k m → Lowly (suc k) (m * 2 + 0)
    even k m r =
        record {
          inside = let p = r.inside in rw (zeros_even k m) (omega arith);
          part = let p = r.part in rw (zeros_even k m) (omega arith);
          apart = λ c. rw (zeros_even k m) (low_even (count_trailing_zeros k m) m c r.part r.apart);
        }

module _ (t z rest : ℕ) (fits : t < 2 ^ 64) (n : Taken t z rest) where
  -- FOR THE LOOPS OVER SET BITS: every bit but the one that is taken is still there
  pub apart : (c : ℕ) → one (bit c t) ≡ one (eqb c z) + one (bit c rest)
  apart c = rw (n.2, n.1) ((lowly 64 t n.0 fits).apart c)

  -- the place of the bit that is taken alone, and the word of the others
  parted : spread_of t ≡ alone_of z + spread_of rest
  parted = word_sum (λ x. bit (code_of x) t) (λ x. eqb (code_of x) z) (λ x. bit (code_of x) rest) (λ x. apart (code_of x)) places

-- the lowest bit's place alone, and the word of the others
pub record Lowest-place (t : ℕ) : Type 0 where
  pub inside : count_trailing_zeros 64 t < 63
  pub there : 2 ^ count_trailing_zeros 64 t ≤ t
  pub parts : spread_of t ≡ alone_of (count_trailing_zeros 64 t) + spread_of (t - 2 ^ count_trailing_zeros 64 t)

pub lowest_place : (t : ℕ) → 0 < t → t < 2 ^ 63 → Lowest-place t
lowest_place t h b =
    let fits : t < 2 ^ 64 = omega arith in
    let n : Taken t (count_trailing_zeros 64 t) (t - 2 ^ count_trailing_zeros 64 t) = (h, refl, refl) in
    record {
      inside = lowest_inside t (count_trailing_zeros 64 t) (t - 2 ^ count_trailing_zeros 64 t) fits n 63 b;
      there = lowest_there t (count_trailing_zeros 64 t) (t - 2 ^ count_trailing_zeros 64 t) fits n;
      parts = parted t (count_trailing_zeros 64 t) (t - 2 ^ count_trailing_zeros 64 t) fits n;
    }

pub spread_small : (t : ℕ) → spread_of t < 2 ^ 63
spread_small t = subst (λ (n : ℕ). spread_of t < 2 ^ n) places_length (word_lt (λ x. bit (code_of x) t) places)

pub spread_none : spread_of 0 ≡ 0
unfolding places
spread_none = refl

-- ---- both bitmaps as one

bit_under : (hi k lo c : ℕ) → lo < 2 ^ k → c < k → bit c (hi * 2 ^ k + lo) ≡ bit c lo
bit_under hi k lo c h q =
    let e : (k - (1 + c)) + (1 + c) ≡ k = omega arith in
    let m : (x : ℕ) → x % 2 ^ k % 2 ^ (1 + c) ≡ x % 2 ^ (1 + c) = λ x. subst (λ (j : ℕ). x % 2 ^ j % 2 ^ (1 + c) ≡ x % 2 ^ (1 + c)) e (mod-mod-pow x (k - (1 + c)) (1 + c)) in
    ap (λ (y : ℕ). eqb y 1)
    (sym (field (hi * 2 ^ k + lo) 1 c)
    ∙ ap (λ (x : ℕ). x / 2 ^ c) (sym (m (hi * 2 ^ k + lo)) ∙ ap (λ (x : ℕ). x % 2 ^ (1 + c)) (low hi k h))
    ∙ field lo 1 c)

bit_over : (hi k lo m : ℕ) → lo < 2 ^ k → bit (k + m) (hi * 2 ^ k + lo) ≡ bit m hi
bit_over hi k lo m h = ap (λ (x : ℕ). eqb (x % 2) 1) (sym (shr-shr (hi * 2 ^ k + lo) k m) ∙ ap (λ (x : ℕ). x / 2 ^ m) (high hi k h))

both_bit : (d c : ℕ) (x : Place) → InNode x → place_bit d c x ≡ bit (code_of x) (both_of d c)
both_bit d c (data_place n v) i =
    let b : data_bit n v < 31 = omega (arith, i.1, pow_mono i.0) in
    let m = mod-lt d (pow_pos 31) in
    ap (bit (data_bit n v)) (sym (div-add-mod' d (2 ^ 31))) ∙ bit_under (d / 2 ^ 31) 31 (d % 2 ^ 31) (data_bit n v) m b ∙ sym (bit_under c 31 (d % 2 ^ 31) (data_bit n v) m b)
both_bit d c (child_place k) i = sym (bit_over c 31 (d % 2 ^ 31) k (mod-lt d (pow_pos 31)))

pub spread_both : (d c : ℕ) → spread_of (both_of d c) ≡ word_of (place_bit d c) places
spread_both d c = sym (word_on (place_bit d c) (λ x. bit (code_of x) (both_of d c)) (both_bit d c) places_in_node)

-- ---- where each bit's place stands

-- a test passes at every number below n
abbrev pub below_all : (ℕ → Bool) → ℕ → Bool
below_all f zero = true
below_all f (suc n) = f n && below_all f n

pub below_at : (f : ℕ → Bool) (n : ℕ) → below_all f n ≡ true → (z : ℕ) → z < n → f z ≡ true
below_at f zero e z h = absurd (not-suc-le-zero h)
below_at f (suc n) e z h =
    ⊎_elim (λ i. rw i (and_left (f n) (below_all f n) e)) (λ l. below_at f n (and_right (f n) (below_all f n) e) z l) (eq-or-lt_of_le (le_of_suc-le-suc h))

-- row z of a table is where the place of bit z stands
unfoldable pub stands_right : List ℕ → ℕ → Bool
stands_right t z = ltb (get_or t z 0) 63 && eqb (2 ^ get_or t z 0) (alone_of z)

pub position_right : (t : List ℕ) → below_all (stands_right t) 63 ≡ true → (z : ℕ) → z < 63 → (r : ℕ) → r ≡ get_or t z 0 → (r < 63) × (2 ^ r ≡ alone_of z)
unfolding stands_right
position_right t right z h r e =
    let b = below_at (stands_right t) 63 right z h in
    rw e (ltb-true _ _ (and_left _ _ b), eqb-true _ _ (and_right (ltb (get_or t z 0) 63) _ b))

-- ---- the loop: what is written and what is left make up the whole

pub record Spreading (whole left word : ℕ) : Type 0 where
  pub small : left < 2 ^ 63
  pub parts : word + spread_of left ≡ spread_of whole

module _ (whole left word z rest : ℕ) (k : Spreading whole left word) (n : Taken left z rest) where
  fits : left < 2 ^ 64
  fits = omega (arith, k.small)

  pub record Turn (r : ℕ) : Type 0 where
    pub shift_word : 1 * 2 ^ r % 2 ^ 64 ≡ 2 ^ r
    pub room : word + 2 ^ r < 2 ^ 63
    pub again : Spreading whole rest (word + 2 ^ r)

  pub bit_inside : z < 63
  bit_inside = lowest_inside left z rest fits n 63 k.small

  pub turn : (r : ℕ) → r < 63 → 2 ^ r ≡ alone_of z → Turn r
  turn r h e =
      let s = spread_small whole in
      let p = parted left z rest fits n in
      record {
        shift_word = one_shl 64 r (omega arith);
        room = omega (arith, k.parts);
        again = record { small = omega (arith, k.small, n.2); parts = omega (arith, k.parts) };
      }

-- at first nothing is written, and all is left
pub spread_start : (whole : ℕ) → whole < 2 ^ 63 → Spreading whole whole 0
spread_start whole h = record { small = h; parts = omega arith }

pub spread_end : (whole left word d c : ℕ) → Spreading whole left word → left ≡ 0 → whole ≡ both_of d c → word ≡ word_of (place_bit d c) places
spread_end whole left word d c k z e =
    let f : word ≡ spread_of whole = omega (arith, k.parts, ap spread_of z, spread_none) in
    f ∙ ap spread_of e ∙ spread_both d c
