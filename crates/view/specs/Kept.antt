-- A node's data bitmap as far as a root leads, and that what it covers is what the walk's covers say.
use Rattle.std.specs.Prelude.{◌≡◌, refl, Bool, true, false, ◌&&◌, ◌||◌, List, [], ◌∷◌, ◌++◌, ℕ, zero, suc, ◌+◌, ◌-◌, ◌*◌, ◌/◌, ◌%◌, ◌^◌, ◌≤◌, ◌<◌, eqb, length, None, Some}
use Rattle.std.proofs.Math.Path.{sym, ap}
use Rattle.std.proofs.Common.{ap₂, ◌∙◌, subst, arith, mod-lt, mod-eq_of_lt, add-one, pow_mono, shr-shr}
use Rattle.std.proofs.lemmas.Nat.{mod-pow-add}
use Rattle.std.proofs.Math.Pow.{high as pow-high}
use Rattle.defs.specs.declared.Prefix.{Prefix}
use Rattle.defs.specs.Basics.{if◌then◌otherwise◌, up_to}
use Rattle.defs.specs.Prefix.{first, leads, deeper}
use Rattle.defs.specs.Pool.{node_count, data_of, bit, data_bit}
use Rattle.defs.specs.PrefixLaws.{Whole}
use Rattle.defs.proofs.PrefixLaws.{leads_of, leads_trans}
use Rattle.defs.specs.Entries.{Place, data_place, child_place}
use Rattle.defs.specs.Tidy.{word_of}
use Rattle.defs.specs.Outcome.{Side}
use Rattle.defs.proofs.DeeperLaws.{deeper_first}
use Rattle.bits.specs.Places.{place_len, place_value, place_prefix}
use Rattle.bits.specs.PlaceLaws.{made, data_place_lem, place_len_below, place_prefix_lem}
use Rattle.bits.specs.Worked.{one_shl}
use Rattle.pool.specs.Sound.{data_small}
use Rattle.theory.specs.Sides.{value_in}
use Rattle.theory.specs.Steps.{place_bit, nearer, cover_bits, cover_on, is_cover}
use Rattle.theory.specs.Todo.{word_lt}
use Rattle.theory.specs.Unwanted.{InNode}
use Rattle.view.specs.Standing.{Sane}
use Rattle.view.specs.Spreads.{one, word_on}
use Rattle.view.specs.Covered.{covered_bits, covered_by, data_place_at, words_of, coverage_of, words_bit, coverage_bit, length_up, up_below}
use Rattle.theory.specs.Kinds.{Cover, Node, Value}

abbrev pub is_value : Value → Bool
is_value None = false
is_value (Some v) = true

-- a side's node of prefix p has a value of the view at a data place
abbrev pub held_by : List ℕ → Prefix → Node → Prefix → Place → Bool
held_by w root o p (data_place n v) = is_value (value_in w root o n v (deeper p n v))
held_by w root o p (child_place c) = false

-- the data bitmap of a side's node of prefix p, as far as the root leads
abbrev pub kept_of : List ℕ → Prefix → Node → Prefix → ℕ
kept_of w root o p = (words_of (held_by w root o p)).data

-- data bit b of a node of prefix p is set, and the root leads its place
abbrev pub kept_bit : ℕ → Prefix → Prefix → ℕ → Bool
kept_bit held root p b = bit b held && leads root (deeper p (place_len (b + 1)) (place_value (b + 1)))

-- FOR CALLERS: a bit of it is set exactly where the side has a value
pub kept_bit_lem : (w : List ℕ) (root : Prefix) (o : Node) (p : Prefix) (n v : ℕ) → n ≤ 4 → v < 2 ^ n
    → bit (data_bit n v) (kept_of w root o p) ≡ is_value (value_in w root o n v (deeper p n v))
kept_bit_lem w root o p n v h l = words_bit (held_by w root o p) (data_place n v) (h, l)

-- ---- what it covers

near : (x : Value) (n : ℕ) (c : Cover) → is_cover (nearer x n c) ≡ (is_value x || is_cover c)
near None n c = refl
near (Some v) n c = refl

module _ (s : Side) (o : Node) (p : Prefix) where
  abbrev kept : ℕ
  kept = kept_of s.pool s.root o p

  cover_bits_lem : (n v : ℕ) → n ≤ 5 → v < 2 ^ n → is_cover (cover_bits s o p None n v) ≡ covered_bits kept n v
  cover_bits_lem zero v h l = refl
  cover_bits_lem (suc n) v h l =
      let m : v / 2 < 2 ^ n = omega arith in
      near (value_in s.pool s.root o n (v / 2) (deeper p n (v / 2))) (p.len + n) (cover_bits s o p None n (v / 2))
      ∙ ap₂ ◌||◌ (sym (kept_bit_lem s.pool s.root o p n (v / 2) (omega arith) m)) (cover_bits_lem n (v / 2) (omega arith) m)

  -- FOR CALLERS: what the kept entries cover is what has a cover in the walk
  pub kept_covers : (x : Place) → InNode x → is_cover (cover_on s o p None x) ≡ covered_by kept x
  kept_covers (data_place n v) h =
      near (value_in s.pool s.root o n v (deeper p n v)) (p.len + n) (cover_bits s o p None n v)
      ∙ ap₂ ◌||◌ (sym (kept_bit_lem s.pool s.root o p n v h.0 h.1)) (cover_bits_lem n v (omega (arith, h.0)) h.1)
  kept_covers (child_place c) h = cover_bits_lem 5 c (omega arith) h

  -- FOR CALLERS: the same of the coverage, bit by bit
  pub coverage_covers : (x : Place) → InNode x → place_bit (coverage_of kept).data (coverage_of kept).child x ≡ is_cover (cover_on s o p None x)
  coverage_covers x h = coverage_bit kept x h ∙ sym (kept_covers x h)

-- ---- how it is worked out

word_snoc : (f : ℕ → Bool) (a : List ℕ) (x : ℕ) → word_of f (a ++ (x ∷ [])) ≡ word_of f a + one (f x) * 2 ^ length a
word_snoc f [] x = omega arith
word_snoc f (y ∷ a) x =
    let e : 2 ^ suc (length a) ≡ 2 * 2 ^ length a = omega arith in
    go (f x) (word_of f (a ++ (x ∷ []))) (word_snoc f a x)
  where
    go : (b : Bool) (t : ℕ) → t ≡ word_of f a + one b * 2 ^ length a → one (f y) + 2 * t ≡ one (f y) + 2 * word_of f a + one b * 2 ^ suc (length a)
    go true t e = omega arith
    go false t e = omega arith

-- one number more
pub word_more : (f : ℕ → Bool) (n : ℕ) → word_of f (up_to (suc n)) ≡ word_of f (up_to n) + one (f n) * 2 ^ n
word_more f n = word_snoc f (up_to n) n ∙ ap (λ (k : ℕ). word_of f (up_to n) + one (f n) * 2 ^ k) (length_up n)

pub word_below : (f : ℕ → Bool) (n : ℕ) → word_of f (up_to n) < 2 ^ n
word_below f n = subst (λ (k : ℕ). word_of f (up_to n) < 2 ^ k) (length_up n) (word_lt f (up_to n))

one_bit : (r : ℕ) → r < 2 → one (eqb r 1) ≡ r
one_bit zero h = refl
one_bit (suc zero) h = refl
one_bit (suc (suc r)) h = absurd (omega arith)

-- the word of a number's own bits
pub bits_back : (t n : ℕ) → word_of (λ b. bit b t) (up_to n) ≡ t % 2 ^ n
bits_back t zero = let e : t % 1 ≡ 0 = omega arith in sym e
bits_back t (suc n) =
    let e : 1 + n ≡ suc n = omega arith in
    word_more (λ b. bit b t) n
    ∙ ap₂ (λ (a b : ℕ). a + b * 2 ^ n) (bits_back t n) (one_bit (t / 2 ^ n % 2) (mod-lt (t / 2 ^ n) (omega arith)))
    ∙ omega (arith, mod-pow-add t 1 n, ap (λ (k : ℕ). t % 2 ^ k) e)

module _ (p : Prefix) (whole : Whole p) (short : p.len ≤ 60) (b : ℕ) (h : b < 31) where
  bit_len : place_len (b + 1) < 5
  bit_len = place_len_below (b + 1) (omega arith) (omega arith) 5 (omega arith)

  pub bit_prefix : p.key < 2 ^ 64 → place_prefix p (b + 1) ≡ deeper p (place_len (b + 1)) (place_value (b + 1))
  bit_prefix k = place_prefix_lem p (b + 1) (omega arith) (omega arith) whole k (omega (arith, bit_len))

  led_here : leads p (deeper p (place_len (b + 1)) (place_value (b + 1))) ≡ true
  led_here =
      let n = place_len (b + 1) in
      let v = place_value (b + 1) in
      let q = deeper p n v in
      let e : 64 - p.len ≡ (64 - (p.len + n)) + n = omega (arith, bit_len) in
      leads_of p q (omega arith)
      (ap (λ (k : ℕ). q.key / 2 ^ k) e ∙ sym (shr-shr q.key (64 - (p.len + n)) n) ∙ ap (◌/ 2 ^ n) (deeper_first p whole n (omega (arith, bit_len)) v)
      ∙ pow-high (first p.len p.key) n (made (b + 1) (omega arith) (omega arith)).value)

  -- where the root leads the node, every set bit is kept
  inside : (held : ℕ) (root : Prefix) → leads root p ≡ true → kept_bit held root p b ≡ bit b held
  inside held root l = rw (leads_trans root p (deeper p (place_len (b + 1)) (place_value (b + 1))) l led_here) (and_yes (bit b held))
    where
      and_yes : (a : Bool) → (a && true) ≡ a
      and_yes true = refl
      and_yes false = refl

test_value : (a : Bool) (v : ℕ) → is_value (if a then Some v otherwise None) ≡ a
test_value true v = refl
test_value false v = refl

held_bit : (w : List ℕ) (root : Prefix) (i : ℕ) (p : Prefix) (b : ℕ) → b < 31 → held_by w root (Some i) p (data_place_at b) ≡ kept_bit (data_of w i) root p b
held_bit w root i p b h =
    let e : data_bit (place_len (b + 1)) (place_value (b + 1)) ≡ b = data_place_lem (b + 1) (omega arith) (omega arith) ∙ omega arith in
    test_value _ _ ∙ ap (λ (x : ℕ). bit x (data_of w i) && leads root (deeper p (place_len (b + 1)) (place_value (b + 1)))) e

module _ (w : List ℕ) (root : Prefix) (p : Prefix) (i held : ℕ) (e : held ≡ data_of w i) where
  -- place by place
  pub kept_by_places : word_of (kept_bit held root p) (up_to 31) ≡ kept_of w root (Some i) p
  unfolding words_of
  kept_by_places =
      ap (λ (x : ℕ). word_of (kept_bit x root p) (up_to 31)) e
      ∙ sym (word_on (λ b. held_by w root (Some i) p (data_place_at b)) (kept_bit (data_of w i) root p) (λ b h. held_bit w root i p b h) (up_below 31))

  -- the whole bitmap
  pub kept_whole : Sane w → i < node_count w → Whole p → p.len ≤ 60 → leads root p ≡ true → held ≡ kept_of w root (Some i) p
  kept_whole s h whole short l =
      let small : held < 2 ^ 31 = rw e (data_small s.width w s.formed i h) in
      sym (mod-eq_of_lt small) ∙ sym (bits_back held 31)
      ∙ word_on (λ b. bit b held) (kept_bit held root p) (λ b k. sym (inside p whole short b k held root l)) (up_below 31)
      ∙ kept_by_places

pub kept_none : (w : List ℕ) (root p : Prefix) → 0 ≡ kept_of w root None p
unfolding words_of
kept_none w root p = refl

module _ (held : ℕ) (root p : Prefix) where
  pub keep_unset : (b : ℕ) → bit b held ≡ false → false ≡ kept_bit held root p b
  keep_unset b t = rw t

  pub keep_test : (b : ℕ) → b < 31 → Whole p → p.len ≤ 60 → p.key < 2 ^ 64 → bit b held ≡ true → (q : Prefix) → q ≡ place_prefix p (b + 1)
      → leads root q ≡ kept_bit held root p b
  keep_test b h whole short k t q e = rw t (ap (leads root) (e ∙ bit_prefix p whole short b h k))

  -- the loop: one bit more
  pub keeping_on : (kept b : ℕ) → kept ≡ word_of (kept_bit held root p) (up_to b) → (t : Bool) → t ≡ kept_bit held root p b → (r : ℕ) → r ≡ kept + one t * 2 ^ b
      → r ≡ word_of (kept_bit held root p) (up_to (b + 1))
  keeping_on kept b k t et r er =
      er ∙ ap₂ (λ (x : ℕ) (y : Bool). x + one y * 2 ^ b) k et ∙ sym (word_more (kept_bit held root p) b) ∙ ap (λ (x : ℕ). word_of (kept_bit held root p) (up_to x)) (sym (add-one b))

-- a bit more on top of a word
module _ (word b : ℕ) (h : b < 32) (small : word < 2 ^ b) where
  pub top_shift : 1 * 2 ^ b % 2 ^ 32 ≡ 2 ^ b
  top_shift = one_shl 32 b h

  pub top_fits : word + 2 ^ b < 2 ^ 32
  top_fits = let m = pow_mono {i = suc b} {j = 32} h in let d : 2 ^ suc b ≡ 2 * 2 ^ b = omega arith in omega arith

pub on_bit : (word b : ℕ) (on : Bool) → on ≡ true → word + 2 ^ b ≡ word + one on * 2 ^ b
on_bit word b on e = rw e (omega arith)

pub off_bit : (word b : ℕ) (on : Bool) → on ≡ false → word ≡ word + one on * 2 ^ b
off_bit word b on e = rw e (omega arith)
