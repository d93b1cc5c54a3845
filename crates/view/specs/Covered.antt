-- Coverage: the places of a node at or below its entries.
use Rattle.std.specs.Prelude.{◌≡◌, refl, Bool, true, false, ◌&&◌, ◌||◌, List, [], ◌∷◌, ℕ, zero, suc, ◌+◌, ◌*◌, ◌/◌, ◌%◌, ◌^◌, ◌≤◌, ◌<◌, max, eqb, length, get_or}
use Rattle.std.proofs.Common.{sym, ap, ap₂, ◌∙◌, ⊎_elim, arith, not-suc-le-zero, le_of_suc-le-suc, eq-or-lt_of_le, length-append, pow_pos, pow_mono, eqb-true, ne_eqb}
use Rattle.std.specs.Int.Bits.{bit_or, or_step}
use Rattle.std.specs.Int.Count.{count_trailing_zeros}
use Rattle.std.proofs.Math.ListN.{get_or-append}
use Rattle.std.proofs.lemmas.List.{get_or_at}
use Rattle.defs.specs.Basics.{up_to}
use Rattle.defs.specs.Pool.{bit, data_bit}
use Rattle.defs.specs.Entries.{Place, data_place, child_place}
use Rattle.defs.specs.Tidy.{word_of}
use Rattle.defs.specs.Lemmas.{All, nil, more, all_imp, all_append, and_left, and_right}
use Rattle.bits.specs.Places.{place_len, place_value}
use Rattle.bits.specs.PlaceLaws.{place_len_lem, place_value_lem, place_len_below, made}
use Rattle.bits.specs.WordLaws.{bit_none}
use Rattle.bits.specs.Worked.{one_shl}
use Rattle.bits.specs.SetBits.{Taken, lowest_inside}
use Rattle.theory.specs.Steps.{place_bit}
use Rattle.theory.specs.Unwanted.{InNode}
use Rattle.view.specs.declared.Coverage.{Coverage}
use Rattle.view.specs.Spreads.{below_all, below_at, bit_first, bit_later, eqb_suc, lowly, apart, one, word_on}

-- some entry of a data bitmap stands above the n bits of value v
abbrev pub covered_bits : ℕ → ℕ → ℕ → Bool
covered_bits k zero v = false
covered_bits k (suc n) v = bit (data_bit n (v / 2)) k || covered_bits k n (v / 2)

-- an entry of a data bitmap covers a place: it stands there or above it
abbrev pub covered_by : ℕ → Place → Bool
covered_by k (data_place n v) = bit (data_bit n v) k || covered_bits k n v
covered_by k (child_place c) = covered_bits k 5 c

-- the data place of bit b
abbrev pub data_place_at : ℕ → Place
data_place_at b = data_place (place_len (b + 1)) (place_value (b + 1))

-- the two words of the places that pass a test
unfoldable pub words_of : (Place → Bool) → Coverage
words_of f = record { «data» = word_of (λ b. f (data_place_at b)) (up_to 31); child = word_of (λ c. f (child_place c)) (up_to 32) }

-- what the entries of a data bitmap cover
abbrev pub coverage_of : ℕ → Coverage
coverage_of k = words_of (covered_by k)

-- what one or the other covers
abbrev pub join_of : Coverage → Coverage → Coverage
join_of a b = record { «data» = bit_or a.data b.data; child = bit_or a.child b.child }

-- ---- words of tests

pub length_up : (n : ℕ) → length (up_to n) ≡ n
length_up zero = refl
length_up (suc n) = let l = length-append (up_to n) (n ∷ []) in omega (arith, length_up n)

pub up_below : (n : ℕ) → All (λ b. b < n) (up_to n)
up_below zero = nil
up_below (suc n) = all_append (all_imp (λ b h. omega arith) (up_below n)) (more (omega arith) nil)

up_at : (n b : ℕ) → b < n → get_or (up_to n) b 0 ≡ b
up_at zero b h = absurd (not-suc-le-zero h)
up_at (suc n) b h =
    let l = length_up n in
    ⊎_elim (λ e. get_or_at (up_to n) n [] 0 b (omega arith) ∙ sym e) (λ k. get_or-append (up_to n) (n ∷ []) 0 b (omega arith) ∙ up_at n b k)
    (eq-or-lt_of_le (le_of_suc-le-suc h))

one_small : (b : Bool) → one b < 2
one_small true = omega arith
one_small false = omega arith

one_test : (b : Bool) → eqb (one b) 1 ≡ b
one_test true = refl
one_test false = refl

one_or : (a b c : Bool) → one a ≡ one b + one c → a ≡ (b || c)
one_or true true c e = refl
one_or true false true e = refl
one_or true false false e = absurd (let z : ⊥ = omega arith in z)
one_or false true c e = absurd (let z : ⊥ = omega arith in z)
one_or false false true e = absurd (let z : ⊥ = omega arith in z)
one_or false false false e = refl

one_max : (a b : Bool) → max (one a) (one b) ≡ one (a || b)
one_max true true = refl
one_max true false = refl
one_max false true = refl
one_max false false = refl

module _ {A : Type 0} where
  turned : (f : A → Bool) (x : A) (l : List A) → word_of f (x ∷ l) ≡ word_of f l * 2 + one (f x)
  turned f x l = omega arith

  word_bit : (f : A → Bool) (l : List A) (d : A) (b : ℕ) → b < length l → bit b (word_of f l) ≡ f (get_or l b d)
  word_bit f [] d b h = absurd (not-suc-le-zero h)
  word_bit f (x ∷ l) d zero h = ap (bit 0) (turned f x l) ∙ bit_first (word_of f l) (one (f x)) (one_small (f x)) ∙ one_test (f x)
  word_bit f (x ∷ l) d (suc b) h =
      ap (bit (suc b)) (turned f x l) ∙ bit_later (word_of f l) (one (f x)) b (one_small (f x)) ∙ word_bit f l d b (le_of_suc-le-suc h)

  word_or : (f g : A → Bool) (l : List A) → bit_or (word_of f l) (word_of g l) ≡ word_of (λ x. f x || g x) l
  word_or f g [] = refl
  word_or f g (x ∷ l) =
      let a = one_small (f x) in
      let b = one_small (g x) in
      let m = one_max (f x) (g x) in
      let ih = word_or f g l in
      ap₂ bit_or (turned f x l) (turned g x l)
      ∙ or_step (word_of f l * 2 + one (f x)) (word_of g l * 2 + one (g x))
      ∙ ap₂ (λ (u v : ℕ). u * 2 + v) (ap₂ bit_or (halved (word_of f l) (one (f x)) a) (halved (word_of g l) (one (g x)) b) ∙ ih)
      (ap₂ max (odd_part (word_of f l) (one (f x)) a) (odd_part (word_of g l) (one (g x)) b) ∙ m)
      ∙ sym (turned (λ y. f y || g y) x l)
    where
      halved : (m b : ℕ) → b < 2 → (m * 2 + b) / 2 ≡ m
      halved m b h = omega arith

      odd_part : (m b : ℕ) → b < 2 → (m * 2 + b) % 2 ≡ b
      odd_part m b h = omega arith

-- the bit of number b of the first n
number_bit : (f : ℕ → Bool) (n b : ℕ) → b < n → bit b (word_of f (up_to n)) ≡ f b
number_bit f n b h = word_bit f (up_to n) 0 b (rw (length_up n) h) ∙ ap f (up_at n b h)

pub words_or : (f g : Place → Bool) → join_of (words_of f) (words_of g) ≡ words_of (λ x. f x || g x)
unfolding words_of
words_or f g =
    let d = word_or (λ b. f (data_place_at b)) (λ b. g (data_place_at b)) (up_to 31) in
    let c = word_or (λ k. f (child_place k)) (λ k. g (child_place k)) (up_to 32) in
    λ i. record { «data» = d i; child = c i }

-- FOR CALLERS: the bit of a place says whether it passes the test
pub words_bit : (f : Place → Bool) (x : Place) → InNode x → place_bit (words_of f).data (words_of f).child x ≡ f x
unfolding words_of
words_bit f (data_place n v) h =
    let b : data_bit n v < 31 = omega (arith, h.1, pow_mono h.0) in
    let e : data_bit n v + 1 ≡ 2 ^ n + v = omega (arith, pow_pos n) in
    number_bit (λ b. f (data_place_at b)) 31 (data_bit n v) b
    ∙ ap f
    (ap (λ (k : ℕ). data_place (place_len k) (place_value k)) e
    ∙ ap₂ data_place (place_len_lem n v (omega (arith, h.0)) h.1) (place_value_lem n v (omega (arith, h.0)) h.1))
words_bit f (child_place c) h = number_bit (λ k. f (child_place k)) 32 c h

-- a word is 0 where no data place passes the test
pub words_zero : (f : Place → Bool) → ((n v : ℕ) → n ≤ 4 → v < 2 ^ n → f (data_place n v) ≡ false) → (words_of f).data ≡ 0
unfolding words_of
words_zero f h = word_on (λ b. f (data_place_at b)) (λ b. false) none (up_below 31)
  where
    none : (b : ℕ) → b < 31 → f (data_place_at b) ≡ false
    none b l =
        let m = made (b + 1) (omega arith) (omega arith) in
        let k = place_len_below (b + 1) (omega arith) (omega arith) 5 (omega arith) in
        h (place_len (b + 1)) (place_value (b + 1)) (omega arith) m.value

-- FOR CALLERS: the coverage of a data bitmap says which places its entries cover
pub coverage_bit : (k : ℕ) (x : Place) → InNode x → place_bit (coverage_of k).data (coverage_of k).child x ≡ covered_by k x
coverage_bit k = words_bit (covered_by k)

-- ---- the constants

pub nothing_is : record { «data» = 0; child = 0 } ≡ words_of (λ _. false)
unfolding words_of
nothing_is = refl

pub all_is : record { «data» = 2147483647; child = 4294967295 } ≡ words_of (λ _. true)
unfolding words_of
all_is = refl

-- ---- entry by entry

or_swap : (a b c d : Bool) → ((a || b) || (c || d)) ≡ ((a || c) || (b || d))
or_swap true b c d = refl
or_swap false true true d = refl
or_swap false true false d = refl
or_swap false false c d = refl

or_join : (a b c : Bool) → (a || (b || c)) ≡ ((a || b) || c)
or_join true b c = refl
or_join false b c = refl

or_none : (a : Bool) → (a || false) ≡ a
or_none true = refl
or_none false = refl

-- two bitmaps that make up a third cover what it covers
module _ (t s u : ℕ) (h : (b : ℕ) → bit b t ≡ (bit b s || bit b u)) where
  bits_split : (n v : ℕ) → covered_bits t n v ≡ (covered_bits s n v || covered_bits u n v)
  bits_split zero v = refl
  bits_split (suc n) v =
      rw (h (data_bit n (v / 2)), bits_split n (v / 2))
      (or_swap (bit (data_bit n (v / 2)) s) (bit (data_bit n (v / 2)) u) (covered_bits s n (v / 2)) (covered_bits u n (v / 2)))

  by_split : (x : Place) → covered_by t x ≡ (covered_by s x || covered_by u x)
  by_split (data_place n v) =
      rw (h (data_bit n v), bits_split n v) (or_swap (bit (data_bit n v) s) (bit (data_bit n v) u) (covered_bits s n v) (covered_bits u n v))
  by_split (child_place c) = bits_split 5 c

bit_power : (c z : ℕ) → bit c (2 ^ z) ≡ eqb c z
bit_power zero zero = refl
bit_power zero (suc z) = let e : 2 ^ suc z ≡ 2 ^ z * 2 + 0 = omega arith in ap (bit 0) e ∙ bit_first (2 ^ z) 0 (omega arith) ∙ sym (ne_eqb 0 (suc z) (λ i. omega arith))
bit_power (suc c) zero = bit_later 0 1 c (omega arith) ∙ bit_none 0 c 0 (omega arith) (omega arith) ∙ sym (ne_eqb (suc c) 0 (λ i. omega arith))
bit_power (suc c) (suc z) =
    let e : 2 ^ suc z ≡ 2 ^ z * 2 + 0 = omega arith in ap (bit (suc c)) e ∙ bit_later (2 ^ z) 0 c (omega arith) ∙ bit_power c z ∙ sym (eqb_suc c z)

bits_none : (n v : ℕ) → covered_bits 0 n v ≡ false
bits_none zero v = refl
bits_none (suc n) v = rw (bit_none 0 (data_bit n (v / 2)) 0 (omega arith) (omega arith)) (bits_none n (v / 2))

by_none : (x : Place) → covered_by 0 x ≡ false
by_none (data_place n v) = rw (bit_none 0 (data_bit n v) 0 (omega arith) (omega arith)) (bits_none n v)
by_none (child_place c) = bits_none 5 c

-- the loop: what is covered so far, and what the entries left cover, make up the whole
pub record Covering (whole left : ℕ) (r : Coverage) : Type 0 where
  pub small : left < 2 ^ 32
  pub done : Place → Bool
  pub so_far : r ≡ words_of done
  pub parts : (x : Place) → covered_by whole x ≡ (done x || covered_by left x)

pub covering_start : (whole : ℕ) → whole < 2 ^ 32 → Covering whole whole (record { «data» = 0; child = 0 })
covering_start whole h = record { small = h; done = λ _. false; so_far = nothing_is; parts = λ x. refl }

module _ (whole left : ℕ) (r : Coverage) (k : Covering whole left r) (some : 0 < left) where
  -- the lowest bit that is left is a part of what is left
  pub covering_there : 2 ^ count_trailing_zeros 32 left ≤ left
  covering_there = (lowly 32 left some k.small).part

  -- 1 shifted by its number is its power of two
  pub covering_shift : 1 * 2 ^ count_trailing_zeros 32 left % 2 ^ 32 ≡ 2 ^ count_trailing_zeros 32 left
  covering_shift = one_shl 32 (count_trailing_zeros 32 left) (lowly 32 left some k.small).inside

module _ (whole left z rest : ℕ) (r : Coverage) (k : Covering whole left r) (n : Taken left z rest) where
  fits : left < 2 ^ 64
  fits = omega (arith, k.small)

  pub covering_bit : z < 32
  covering_bit = lowest_inside left z rest fits n 32 k.small

  pub covering_on : (b s : Coverage) → b ≡ coverage_of (2 ^ z) → s ≡ join_of r b → Covering whole rest s
  covering_on b s eb es =
      let a = apart left z rest fits n in
      let h : (c : ℕ) → bit c left ≡ (bit c (2 ^ z) || bit c rest) =
      λ c. one_or (bit c left) (eqb c z) (bit c rest) (a c) ∙ ap (◌|| bit c rest) (sym (bit_power c z)) in
      record {
        small = omega (arith, k.small, n.2);
        done = λ x. k.done x || covered_by (2 ^ z) x;
        so_far = es ∙ ap₂ join_of k.so_far eb ∙ words_or k.done (covered_by (2 ^ z));
        parts = λ x. k.parts x ∙ ap (k.done x ||◌) (by_split left (2 ^ z) rest h x) ∙ or_join (k.done x) (covered_by (2 ^ z) x) (covered_by rest x);
      }

pub covering_end : (whole left : ℕ) (r : Coverage) → Covering whole left r → left ≡ 0 → r ≡ coverage_of whole
covering_end whole left r k z =
    let e : (x : Place) → k.done x ≡ covered_by whole x =
    λ x. sym (k.parts x ∙ ap (λ (n : ℕ). k.done x || covered_by n x) z ∙ ap (k.done x ||◌) (by_none x) ∙ or_none (k.done x)) in
    let f : ◌≡◌ {A = Place → Bool} k.done (covered_by whole) = λ i. λ x. e x i in
    k.so_far ∙ ap words_of f

-- ---- what each entry covers, as a table

-- row z of a table is what the entry of data bit z covers
unfoldable pub covers_right : List Coverage → ℕ → Bool
covers_right t z =
    let r = get_or t z (record { «data» = 0; child = 0 }) in
    eqb r.data (coverage_of (2 ^ z)).data && eqb r.child (coverage_of (2 ^ z)).child

pub bit_covers : (t : List Coverage) → below_all (covers_right t) 32 ≡ true → (z : ℕ) → z < 32 → get_or t z (record { «data» = 0; child = 0 }) ≡ coverage_of (2 ^ z)
unfolding covers_right
bit_covers t right z h =
    let e = below_at (covers_right t) 32 right z h in
    let r = get_or t z (record { «data» = 0; child = 0 }) in
    let a = eqb-true r.data (coverage_of (2 ^ z)).data (and_left _ _ e) in
    let b = eqb-true r.child (coverage_of (2 ^ z)).child (and_right (eqb r.data (coverage_of (2 ^ z)).data) _ e) in
    λ i. record { «data» = a i; child = b i }
