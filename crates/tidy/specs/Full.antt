-- The children of a node that hold something: the loop over the child bits that are set, lowest first.
use Rattle.std.specs.Prelude.{◌≡◌, Bool, true, false, not, ◌&&◌, List, ℕ, zero, suc, ◌+◌, ◌*◌, ◌/◌, ◌%◌, ◌^◌, ◌≤◌, ◌<◌, eqb, leb}
use Rattle.std.proofs.Math.Path.{refl, sym, ap}
use Rattle.std.proofs.Common.{ap₂, ◌∙◌, subst, lt_of_lt_of_le, mod-lt, pow_mono, leb-true, leb-false, eqb-true, eq-eqb, ne_eqb}
use native.Mathlib.Omega.{arith}
use Rattle.std.proofs.Math.Decide.{le_ind}
use Rattle.std.specs.Int.Count.{ones_in, count_trailing_zeros}
use Rattle.std.proofs.lemmas.Bool.{eqb-false}
use Rattle.defs.specs.Basics.{up_to}
use Rattle.defs.specs.Pool.{node_count, child_of, first_child, bit, rank}
use Rattle.defs.specs.Tidy.{word_of}
use Rattle.defs.specs.Lemmas.{split, not_both}
use Rattle.bits.specs.WordLaws.{bit_zero, bit_suc, bit_none, rank_suc}
use Rattle.bits.specs.Worked.{one_shl}
use Rattle.bits.specs.SetBits.{Taken, lowest_inside}
use Rattle.view.specs.Standing.{Sane, nodes_few, child_inside}
use Rattle.view.specs.Spreads.{one, lowly, apart}
use Rattle.view.specs.Kept.{word_more, word_below}
use Rattle.view.specs.Emptiness.{empty_at}

-- child c of node i is there and not empty, so many levels deep
abbrev pub full_kid : List ℕ → ℕ → ℕ → ℕ → Bool
full_kid w levels i c = bit c (child_of w i) && not (empty_at w levels (first_child w i + rank c (child_of w i)))

-- the word of those children
unfoldable pub full_kids : List ℕ → ℕ → ℕ → ℕ
full_kids w levels i = word_of (full_kid w levels i) (up_to 32)

-- bits below the lowest one are not set
zeros_below : (k t c : ℕ) → c < count_trailing_zeros k t → bit c t ≡ false
unfolding count_trailing_zeros
zeros_below zero t c h = absurd (omega arith)
zeros_below (suc k) t c h =
    split (eqb (t % 2) 1)
    (λ o. let e = eqb-true (t % 2) 1 o in absurd (let h' : c < 0 = rw e at h in let z : ⊥ = omega arith in z))
    (λ o. let e : t % 2 ≡ 0 = (let n = eqb-false (t % 2) 1 o in let m = mod-lt t {m = 2} (omega arith) in omega arith) in go c o (rw e at h) (λ b l. zeros_below k (t / 2) b l))
  where
    go : (c : ℕ) → eqb (t % 2) 1 ≡ false → c < suc (count_trailing_zeros k (t / 2)) → ((b : ℕ) → b < count_trailing_zeros k (t / 2) → bit b (t / 2) ≡ false) → bit c t ≡ false
    go zero o l r = bit_zero t ∙ o
    go (suc c) o l r = bit_suc c t ∙ r c (omega arith)

-- places that have no bit add nothing
module _ (x : ℕ) (t : ℕ → Bool) (off : (c : ℕ) → bit c x ≡ false → t c ≡ false) where
  record Skipped (a b : ℕ) : Type 0 where
    ranks : rank b x ≡ rank a x
    words : word_of t (up_to b) ≡ word_of t (up_to a)

  skip : (a b : ℕ) → a ≤ b → ((c : ℕ) → a ≤ c → c < b → bit c x ≡ false) → Skipped a b
  skip a b h n =
      le_ind (λ (m : ℕ). ((c : ℕ) → a ≤ c → c < m → bit c x ≡ false) → Skipped a m) (λ z. record { ranks = refl; words = refl })
      (λ m l r z.
      let o : bit m x ≡ false = z m l (omega arith) in
      let p = r (λ c f g. z c f (omega arith)) in
      let y = eqb-false (x / 2 ^ m % 2) 1 o in
      record {
        ranks = rank_suc m x ∙ even (x / 2 ^ m) (rank m x) y ∙ p.ranks;
        words = word_more t m ∙ ap (λ (b : Bool). word_of t (up_to m) + one b * 2 ^ m) (off m o) ∙ omega (arith, p.words);
      }) b h n
    where
      even : (y r : ℕ) → (y % 2 ≡ 1 → ⊥) → r + y % 2 ≡ r
      even y r h = let z : y % 2 ≡ 0 = omega arith in omega arith

-- the loop: the children at the first `gone` places are asked, the bits from there on are left
pub record Asking (w : List ℕ) (levels i left node word : ℕ) : Type 0 where
  pub gone : ℕ
  pub within : gone ≤ 32
  pub small : left < 2 ^ 32
  pub below : (c : ℕ) → c < gone → bit c left ≡ false
  pub same : (c : ℕ) → gone ≤ c → bit c left ≡ bit c (child_of w i)
  pub number : node ≡ first_child w i + rank gone (child_of w i)
  pub so_far : word ≡ word_of (full_kid w levels i) (up_to gone)

module _ (w : List ℕ) (s : Sane w) (levels i : ℕ) (h : i < node_count w) where
  abbrev x : ℕ
  x = child_of w i

  abbrev t : ℕ → Bool
  t = full_kid w levels i

  unset : (c : ℕ) → bit c x ≡ false → t c ≡ false
  unset c e = rw e

  pub asking_start : (left node : ℕ) → left < 2 ^ 32 → left ≡ x → node ≡ first_child w i → Asking w levels i left node 0
  unfolding ones_in
  asking_start left node f e n =
      record { gone = 0; within = omega arith; small = f; below = λ c l. absurd (let z : ⊥ = omega arith in z); same = λ c l. ap (bit c) e; number = omega arith; so_far = refl }

  module _ (left node word : ℕ) (some : 0 < left) (k : Asking w levels i left node word) where
    -- the lowest bit that is left is a part of what is left
    pub asking_there : 2 ^ count_trailing_zeros 32 left ≤ left
    asking_there = (lowly 32 left some k.small).part

    -- 1 shifted by its number is its power of two
    pub asking_shift : 1 * 2 ^ count_trailing_zeros 32 left % 2 ^ 32 ≡ 2 ^ count_trailing_zeros 32 left
    asking_shift = one_shl 32 (count_trailing_zeros 32 left) (lowly 32 left some k.small).inside

  module _ (left node word z rest : ℕ) (k : Asking w levels i left node word) (n : Taken left z rest) where
    fits : left < 2 ^ 64
    fits = omega (arith, k.small)

    pub asking_bit : z < 32
    asking_bit = lowest_inside left z rest fits n 32 k.small

    none_below : (c : ℕ) → c < z → bit c left ≡ false
    none_below c l = zeros_below 64 left c (rw n.1 at l)

    lowest : (bit z left ≡ true) × (bit z rest ≡ false)
    lowest = go (bit z left) (bit z rest) (rw (eq-eqb z z refl) at (apart left z rest fits n z))
      where
        go : (a b : Bool) → one a ≡ 1 + one b → (a ≡ true) × (b ≡ false)
        go true false e = (refl, refl)
        go true true e = absurd (let y : ⊥ = omega arith in y)
        go false b e = absurd (let y : ⊥ = omega arith in y)

    other : (c : ℕ) → (c ≡ z → ⊥) → bit c left ≡ bit c rest
    other c m = go (bit c left) (bit c rest) (rw (ne_eqb c z m) at (apart left z rest fits n c))
      where
        go : (a b : Bool) → one a ≡ 0 + one b → a ≡ b
        go true true e = refl
        go false false e = refl
        go true false e = absurd (let y : ⊥ = omega arith in y)
        go false true e = absurd (let y : ⊥ = omega arith in y)

    ahead : k.gone ≤ z
    ahead = split (leb k.gone z) (λ e. leb-true k.gone z e) (λ e. not_both lowest.0 (k.below z (leb-false k.gone z e)))

    set : bit z x ≡ true
    set = sym (k.same z ahead) ∙ lowest.0

    skipped : Skipped x t unset k.gone z
    skipped = skip x t unset k.gone z ahead (λ c a l. sym (k.same c a) ∙ none_below c l)

    number_is : node ≡ first_child w i + rank z x
    number_is = k.number ∙ ap (first_child w i +◌) (sym skipped.ranks)

    pub asking_inside : node < node_count w
    asking_inside = subst (λ (m : ℕ). m < node_count w) (sym number_is) (child_inside w s i z h asking_bit set)

    pub asking_next : node + 1 < 2 ^ 32
    asking_next = omega (arith, asking_inside, nodes_few w s)

    pub asking_word : word < 2 ^ z
    asking_word = rw k.so_far (lt_of_lt_of_le (word_below t k.gone) (pow_mono ahead))

    pub asking_on : (b : Bool) → b ≡ not (empty_at w levels node) → (r : ℕ) → r ≡ word + one b * 2 ^ z → Asking w levels i rest (node + 1) r
    asking_on b eb r er =
        let here : t z ≡ b = rw set (ap (λ (m : ℕ). not (empty_at w levels m)) (sym number_is) ∙ sym eb) in
        let odd = eqb-true (x / 2 ^ z % 2) 1 set in
        record {
          gone = suc z;
          within = omega (arith, asking_bit);
          small = omega (arith, k.small, n.2);
          below = λ c l. split (eqb c z) (λ e. ap (λ (m : ℕ). bit m rest) (eqb-true c z e) ∙ lowest.1)
              (λ e. let d = eqb-false c z e in sym (other c d) ∙ none_below c (omega arith));
          same = λ c l. sym (other c (λ e. omega arith)) ∙ k.same c (let a = ahead in omega arith);
          number = omega (arith, number_is, rank_suc z x);
          so_far = er ∙ ap₂ (λ (m : ℕ) (y : Bool). m + one y * 2 ^ z) (k.so_far ∙ sym skipped.words) (sym here) ∙ sym (word_more t z);
        }

  pub asking_end : (left node word : ℕ) → left ≡ 0 → Asking w levels i left node word → word ≡ full_kids w levels i
  unfolding full_kids
  asking_end left node word z k =
      k.so_far ∙ sym (skip x t unset k.gone 32 k.within (λ c a b. sym (k.same c a) ∙ ap (bit c) z ∙ bit_none 0 c 0 (omega arith) (omega arith))).words
