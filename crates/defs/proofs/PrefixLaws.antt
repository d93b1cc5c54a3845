-- Laws of prefixes: `leads` is an order, `before` a strict total one, and the halves of a prefix.
use Rattle.std.specs.Prelude.{◌≡◌, refl, Bool, true, false, ◌&&◌, ◌||◌, ◌⊎◌, ℕ, suc, ◌+◌, ◌*◌, ◌-◌, ◌^◌, ◌/◌, ◌≤◌, ◌<◌, leb, ltb, eqb}
use Rattle.std.proofs.Math.Path.{sym, ap}
use Rattle.std.proofs.Common.{◌∙◌, inl, inr, ⊎_elim, arith, eq-or-lt_of_le, pow_pos}
use Rattle.std.proofs.lemmas.Bool.{false≢true}
use Rattle.std.proofs.Math.Pow.{shl-shr, high as pow-high}
use borrow.Author.Tests.{ltb-true, leb-true, leb-false, eqb-true, lt-ltb, le-ltb, le-leb, eq-eqb, ne_eqb}
use Rattle.defs.specs.declared.Prefix.{Prefix}
use Rattle.defs.specs.Prefix.{first, leads, before, top}
use Rattle.defs.specs.Lemmas.{and_left, and_right, is_false, split}
use Rattle.defs.specs.PrefixLaws.{cut, Whole, prefix_eq, first_agree, cut_le, lt_cut, cut_at, Before, low, high}

module _ (p q : Prefix) where
  pub leads_len : leads p q ≡ true → p.len ≤ q.len
  unfolding leads
  leads_len h = leb-true _ _ (and_left _ _ h)

  pub leads_first : leads p q ≡ true → first p.len q.key ≡ first p.len p.key
  unfolding leads
  leads_first h = eqb-true _ _ (and_right (leb p.len q.len) _ h)

  pub leads_of : p.len ≤ q.len → first p.len q.key ≡ first p.len p.key → leads p q ≡ true
  unfolding leads
  leads_of l e = rw (le-leb p.len q.len l, eq-eqb _ _ e)

  before_key : p.key < q.key → before p q ≡ true
  unfolding before
  before_key l = rw (lt-ltb p.key q.key l)

  before_len : p.key ≡ q.key → p.len < q.len → before p q ≡ true
  unfolding before
  before_len e l = rw (le-ltb p.key q.key (omega arith), eq-eqb p.key q.key e, lt-ltb p.len q.len l)

  not_before : (q.key < p.key) ⊎ ((q.key ≡ p.key) × (q.len ≤ p.len)) → before p q ≡ false
  unfolding before
  not_before (inl l) = rw (le-ltb p.key q.key (omega arith), ne_eqb p.key q.key (λ e. omega arith))
  not_before (inr h) = rw (le-ltb p.key q.key (omega arith), eq-eqb p.key q.key (sym h.0), le-ltb p.len q.len h.1)

pub before_says : (p q : Prefix) → before p q ≡ true → Before p q
unfolding before
before_says p q = go (ltb p.key q.key) refl
  where
    go : (b : Bool) → ltb p.key q.key ≡ b → (b || (eqb p.key q.key && ltb p.len q.len)) ≡ true → Before p q
    go true e h = inl (ltb-true _ _ e)
    go false e h = inr (eqb-true _ _ (and_left _ _ h), ltb-true _ _ (and_right (eqb p.key q.key) _ h))

pub before_of : (p q : Prefix) → Before p q → before p q ≡ true
before_of p q (inl l) = before_key p q l
before_of p q (inr h) = before_len p q h.0 h.1

pub before_trans : (a b c : Prefix) → before a b ≡ true → before b c ≡ true → before a c ≡ true
before_trans a b c h k = before_of a c (go (before_says a b h) (before_says b c k))
  where
    go : Before a b → Before b c → Before a c
    go (inl l) (inl m) = inl (omega arith)
    go (inl l) (inr m) = inl (omega arith)
    go (inr l) (inl m) = inl (omega arith)
    go (inr l) (inr m) = inr (omega arith)

pub before_asym : (a b : Prefix) → before a b ≡ true → before b a ≡ false
before_asym a b h = not_before b a (go (before_says a b h))
  where
    go : Before a b → (a.key < b.key) ⊎ ((a.key ≡ b.key) × (a.len ≤ b.len))
    go (inl l) = inl l
    go (inr l) = inr (omega arith)

pub before_irrefl : (a : Prefix) → before a a ≡ false
before_irrefl a = not_before a a (inr (refl, omega arith))

not_before_key : (p q : Prefix) → before p q ≡ false → q.key ≤ p.key
not_before_key p q h = let n : (p.key < q.key) → ⊥ = λ l. false≢true (sym h ∙ before_key p q l) in omega arith

not_before_len : (p q : Prefix) → before p q ≡ false → p.key ≡ q.key → q.len ≤ p.len
not_before_len p q h e = let n : (p.len < q.len) → ⊥ = λ l. false≢true (sym h ∙ before_len p q e l) in omega arith

pub before_total : (a b : Prefix) → before a b ≡ false → before b a ≡ false → a ≡ b
before_total a b h k =
    let e : a.key ≡ b.key = omega (arith, not_before_key a b h, not_before_key b a k) in
    prefix_eq a b e (omega (arith, not_before_len a b h e, not_before_len b a k (sym e)))

pub leads_trans : (a b c : Prefix) → leads a b ≡ true → leads b c ≡ true → leads a c ≡ true
leads_trans a b c h k =
    leads_of a c (omega (arith, leads_len a b h, leads_len b c k))
    (first_agree a.len b.len c.key b.key (leads_len a b h) (leads_first b c k) ∙ leads_first a b h)

pub leads_top : (q : Prefix) → q.key < 2 ^ 64 → leads top q ≡ true
leads_top q h = leads_of top q (omega arith) (div_small q.key h)
  where
    div_small : (k : ℕ) → k < 2 ^ 64 → k / 2 ^ 64 ≡ 0 / 2 ^ 64
    div_small k h = let e : k ≡ 0 * 2 ^ 64 + k = omega arith in ap (◌/ 2 ^ 64) e ∙ pow-high 0 64 h ∙ sym (pow-high 0 64 (pow_pos 64))

-- two that lead a third: the shorter leads the longer
pub shorter : (a b c : Prefix) → leads a c ≡ true → leads b c ≡ true → a.len ≤ b.len → leads a b ≡ true
shorter a b c h k l =
    leads_of a b l (sym (first_agree a.len b.len c.key b.key l (leads_first b c k)) ∙ leads_first a c h)

pub comparable : (a b c : Prefix) → leads a c ≡ true → leads b c ≡ true → (leads a b ≡ true) ⊎ (leads b a ≡ true)
comparable a b c h k =
    split (leb a.len b.len) (λ e. inl (shorter a b c h k (leb-true _ _ e)))
    (λ e. let l : b.len < a.len = leb-false _ _ e in inr (shorter b a c k h (omega arith)))

pub leads_cut : (a b : Prefix) → Whole a → leads a b ≡ true → cut a.len b.key ≡ a.key
unfolding cut
leads_cut a b w h = ap (◌* 2 ^ (64 - a.len)) (leads_first a b h) ∙ w

pub leads_self : (q : Prefix) → leads q q ≡ true
leads_self q = leads_of q q (omega arith) refl

pub key_le : (a b : Prefix) → Whole a → leads a b ≡ true → a.key ≤ b.key
key_le a b w h = omega (arith, leads_cut a b w h, cut_le a.len b.key)

pub leads_order : (a b : Prefix) → Whole a → leads a b ≡ true → before b a ≡ false
leads_order a b w h =
    not_before b a (⊎_elim (λ e. inr (e, leads_len a b h)) (λ l. inl l) (eq-or-lt_of_le (key_le a b w h)))

pub leads_chain : (a b c : Prefix) → Whole b → leads a c ≡ true → leads b c ≡ true → before b a ≡ false → leads a b ≡ true
leads_chain a b c w h k n = go (leb a.len b.len) refl
  where
    go : (t : Bool) → leb a.len b.len ≡ t → leads a b ≡ true
    go true e = shorter a b c h k (leb-true _ _ e)
    go false e =
        let l : b.len < a.len = leb-false _ _ e in
        let ba : leads b a ≡ true = shorter b a c k h (omega arith) in
        absurd (omega (arith, not_before_len b a n (omega (arith, key_le b a w ba, not_before_key b a n))))

pub leads_same : (x p : Prefix) → Whole x → Whole p → leads x p ≡ true → x.len ≡ p.len → x ≡ p
leads_same x p u w h l = prefix_eq x p (sym (leads_cut x p u h) ∙ ap (λ (n : ℕ). cut n p.key) l ∙ w) l

-- what q leads and is not q comes after q
pub before_below : (q x y : Prefix) → Whole q → q.len < x.len → leads q x ≡ true → leads x y ≡ true → before q y ≡ true
before_below q x y w l h k =
    ⊎_elim (λ e. before_len q y e (omega (arith, leads_len x y k))) (before_key q y) (eq-or-lt_of_le (key_le q y w (leads_trans q x y h k)))

module _ (q : Prefix) (w : Whole q) (room : q.len < 64) where
  double : 2 ^ (64 - q.len) ≡ 2 * 2 ^ (64 - suc q.len)
  double = let e : 64 - q.len ≡ suc (64 - suc q.len) = omega arith in rw e (omega arith)

  shape : q.key ≡ q.key / 2 ^ (64 - q.len) * 2 ^ (64 - q.len)
  unfolding cut
  shape = sym w

  shape_low : q.key ≡ (q.key / 2 ^ (64 - q.len) * 2) * 2 ^ (64 - suc q.len) + 0
  shape_low = omega (arith, shape, ap (q.key / 2 ^ (64 - q.len) *◌) double)

  shape_high : (high q).key ≡ (q.key / 2 ^ (64 - q.len) * 2 + 1) * 2 ^ (64 - suc q.len) + 0
  shape_high = omega (arith, shape, ap (q.key / 2 ^ (64 - q.len) *◌) double)

  pub leads_low : leads q (low q) ≡ true
  leads_low = leads_of q (low q) (omega arith) refl

  high_cut : cut q.len (high q).key ≡ q.key
  high_cut =
      ap (λ (k : ℕ). cut q.len (k + 2 ^ (64 - suc q.len))) shape
      ∙ cut_at q.len _ _ (omega (arith, double, pow_pos (64 - suc q.len))) ∙ sym shape

  pub leads_high : leads q (high q) ≡ true
  unfolding cut
  leads_high =
      leads_of q (high q) (omega arith)
      (sym (shl-shr (first q.len (high q).key) (64 - q.len)) ∙ ap (◌/ 2 ^ (64 - q.len)) (high_cut ∙ sym w) ∙ shl-shr (first q.len q.key) (64 - q.len))

  pub whole_low : Whole (low q)
  whole_low = ap (cut (suc q.len)) shape_low ∙ cut_at (suc q.len) _ 0 (pow_pos (64 - suc q.len)) ∙ omega (arith, shape_low)

  pub whole_high : Whole (high q)
  whole_high = ap (cut (suc q.len)) shape_high ∙ cut_at (suc q.len) _ 0 (pow_pos (64 - suc q.len)) ∙ omega (arith, shape_high)

  pub low_high : (x y : Prefix) → leads (low q) x ≡ true → leads (high q) y ≡ true → before x y ≡ true
  low_high x y h k =
      before_key x y (omega (arith, leads_cut (low q) x whole_low h, lt_cut (suc q.len) x.key, key_le (high q) y whole_high k))

  pub low_not_high : (x : Prefix) → leads (low q) x ≡ true → leads x (high q) ≡ false
  low_not_high x h =
      is_false _ (λ e. omega (arith, leads_cut (low q) (high q) whole_low (leads_trans (low q) x (high q) h e), whole_high, pow_pos (64 - suc q.len)))
