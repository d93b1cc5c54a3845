-- A map of one bit for each of a list, lowest bit first: what it picks, and what it picks first.
use Rattle.std.specs.Prelude.{◌≡◌, refl, Bool, true, false, List, [], ◌∷◌, ◌++◌, ℕ, zero, suc, ◌+◌, ◌*◌, ◌-◌, ◌/◌, ◌%◌, ◌^◌, ◌≤◌, ◌<◌, eqb, length, get_or}
use Rattle.std.proofs.Common.{◌∙◌, ap, arith, mod-lt, div-add-mod', eqb-true}
use Rattle.std.proofs.Math.Nat.{mul-add-mod_self_right, mul-add-div_right}
use Rattle.std.specs.Int.Count.{count_trailing_zeros}
use Rattle.std.proofs.lemmas.Bool.{eqb-false}
use Rattle.defs.specs.Basics.{if◌then◌otherwise◌, keep, each}
use Rattle.defs.specs.Tidy.{word_of}
use Rattle.defs.specs.Lemmas.{All, nil, more, split}

-- those of a list whose bit is set
abbrev pub picked : {A : Type 0} → ℕ → List A → List A
picked t [] = []
picked t (x ∷ xs) = if eqb (t % 2) 1 then x ∷ picked (t / 2) xs otherwise picked (t / 2) xs

pub zeros_odd : (k m : ℕ) → count_trailing_zeros (suc k) (m * 2 + 1) ≡ 0
unfolding count_trailing_zeros
zeros_odd k m = rw (mul-add-mod_self_right m 2 1, count_trailing_zeros)

pub zeros_even : (k m : ℕ) → count_trailing_zeros (suc k) (m * 2 + 0) ≡ suc (count_trailing_zeros k m)
unfolding count_trailing_zeros
zeros_even k m =
    let v : (m * 2 + 0) / 2 ≡ m = mul-add-div_right {m = 2} (omega arith) m 0 ∙ omega arith in
    rw (mul-add-mod_self_right m 2 0, count_trailing_zeros, v)

module _ {A : Type 0} where
  pub picked_none : (l : List A) → picked 0 l ≡ []
  picked_none [] = refl
  picked_none (x ∷ l) = picked_none l

  picked_odd : (m : ℕ) (x : A) (l : List A) → picked (m * 2 + 1) (x ∷ l) ≡ x ∷ picked m l
  picked_odd m x l = rw (mul-add-mod_self_right m 2 1, picked) (ap (λ (n : ℕ). x ∷ picked n l) (mul-add-div_right {m = 2} (omega arith) m 1 ∙ omega arith))

  picked_even : (m : ℕ) (x : A) (l : List A) → picked (m * 2 + 0) (x ∷ l) ≡ picked m l
  picked_even m x l = rw (mul-add-mod_self_right m 2 0, picked) (ap (λ (n : ℕ). picked n l) (mul-add-div_right {m = 2} (omega arith) m 0 ∙ omega arith))

  -- the map of those that pass a test picks those
  pub picked_word : (g : A → Bool) (l : List A) → picked (word_of g l) l ≡ keep g l
  picked_word g [] = refl
  picked_word g (x ∷ l) =
      split (g x)
      (λ e. let s : 1 + 2 * word_of g l ≡ word_of g l * 2 + 1 = omega arith in rw (e, keep, s) (picked_odd (word_of g l) x l ∙ ap (x ∷◌) (picked_word g l)))
      (λ e. let s : 0 + 2 * word_of g l ≡ word_of g l * 2 + 0 = omega arith in rw (e, keep, s) (picked_even (word_of g l) x l ∙ picked_word g l))

  pub word_lt : (g : A → Bool) (l : List A) → word_of g l < 2 ^ length l
  word_lt g [] = omega arith
  word_lt g (x ∷ l) = go (g x) (word_lt g l)
    where
      go : (b : Bool) → word_of g l < 2 ^ length l → (if b then 1 otherwise 0) + 2 * word_of g l < 2 ^ suc (length l)
      go true h = omega arith
      go false h = omega arith

  -- the first that is picked is that of the lowest bit, and the others are what is left without it
  abbrev First : ℕ → ℕ → List A → A → Type 0
  First k t l d = picked t l ≡ get_or l (count_trailing_zeros k t) d ∷ picked (t - 2 ^ count_trailing_zeros k t) l

  first_odd : (k m : ℕ) (x : A) (l : List A) (d : A) → First (suc k) (m * 2 + 1) (x ∷ l) d
  first_odd k m x l d =
      let e : m * 2 + 1 - 2 ^ 0 ≡ m * 2 + 0 = omega arith in
      rw (zeros_odd k m, picked_odd m x l, e, picked_even m x l)

  first_even : (k m : ℕ) (x : A) (l : List A) (d : A) → 2 ^ count_trailing_zeros k m ≤ m → First k m l d → First (suc k) (m * 2 + 0) (x ∷ l) d
  first_even k m x l d b h =
      let e : m * 2 + 0 - 2 ^ suc (count_trailing_zeros k m) ≡ (m - 2 ^ count_trailing_zeros k m) * 2 + 0 = omega arith in
      rw (zeros_even k m, e, picked_even m x l, picked_even (m - 2 ^ count_trailing_zeros k m) x l) h

  -- what is known of the lowest bit
  pub record Lowest (k t : ℕ) (l : List A) (d : A) : Type 0 where
    pub inside : count_trailing_zeros k t < length l
    pub there : 2 ^ count_trailing_zeros k t ≤ t
    pub picks_first : First k t l d

  low_odd : (k m : ℕ) (x : A) (l : List A) (d : A) → Lowest (suc k) (m * 2 + 1) (x ∷ l) d
  low_odd k m x l d = record { inside = rw (zeros_odd k m) (omega arith); there = rw (zeros_odd k m) (omega arith); picks_first = first_odd k m x l d }

  low_even : (k m : ℕ) (x : A) (l : List A) (d : A) → Lowest k m l d → Lowest (suc k) (m * 2 + 0) (x ∷ l) d
  low_even k m x l d h =
      record {
        inside = let i = h.inside in rw (zeros_even k m) (omega arith);
        there = let i = h.there in rw (zeros_even k m) (omega arith);
        picks_first = first_even k m x l d h.there h.picks_first;
      }

  pub lowest : (k t : ℕ) (l : List A) (d : A) → 0 < t → t < 2 ^ length l → length l ≤ k → Lowest k t l d
  lowest k t [] d h b c = absurd (omega arith)
  lowest zero t (x ∷ l) d h b c = absurd (omega arith)
  lowest (suc k) t (x ∷ l) d h b c =
      let s : t / 2 * 2 + t % 2 ≡ t = div-add-mod' t 2 in
      let b' : t < 2 ^ suc (length l) = b in
      split (eqb (t % 2) 1)
      (λ o. let e : t ≡ t / 2 * 2 + 1 = omega (arith, eqb-true (t % 2) 1 o) in rw e (low_odd k (t / 2) x l d))
      (λ o.
      let n : t % 2 ≡ 1 → ⊥ = eqb-false (t % 2) 1 o in
      let e : t ≡ t / 2 * 2 + 0 = omega (arith, mod-lt t {m = 2} (omega arith)) in
      rw e (low_even k (t / 2) x l d (lowest k (t / 2) l d (omega arith) (omega arith) (omega arith))))

-- those that give nothing may be left out
pub each_keep : {A B : Type 0} {P : A → Type 0} (f : A → List B) (g : A → Bool) → ((x : A) → P x → g x ≡ false → f x ≡ []) → {l : List A} → All P l
    → each f (keep g l) ≡ each f l
each_keep f g h nil = refl
each_keep f g h (more {x = x} k ks) = split (g x) (λ e. rw (e, keep) (ap (f x ++◌) (each_keep f g h ks))) (λ e. rw (e, keep, h x k e) (each_keep f g h ks))
