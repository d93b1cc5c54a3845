-- What the check's answer says, for callers that have the answer only.
use Rattle.std.specs.Prelude.{◌≡◌, refl, Bool, true, false, ◌||◌, List, ℕ, ◌<◌, ltb, eqb}
use Rattle.std.proofs.Common.{ap, arith, ltb-true, ltb-false, lt-ltb}
use Rattle.defs.specs.declared.Answer.{Answer}
use Rattle.defs.specs.Pool.{node_count}
use Rattle.defs.specs.Check.{fault_of}
use Rattle.defs.specs.Outcome.{answer, check_outcome}
use Rattle.defs.specs.Lemmas.{split, not_both}
use Rattle.pool.specs.Sound.{Formed, formed}

module _ (width : ℕ) (w : List ℕ) where
  -- the width is 32 or 64
  abbrev pub known : Bool
  known = eqb width 32 || eqb width 64

  -- the three answers, and when each is given
  pub data Checked : Answer → Type 0 where
    done : known ≡ true → (fault_of width w).number ≡ 0 → Checked (answer 0 (node_count w) 0)
    unknown : known ≡ false → Checked (answer 1 0 0)
    faulty : known ≡ true → 0 < (fault_of width w).number → Checked (answer 2 (fault_of width w).node (fault_of width w).number)

  pub checked : Checked (check_outcome width w)
  checked =
      split known
      (λ k.
      rw k
      (split (ltb 0 (fault_of width w).number) (λ t. rw t (faulty k (ltb-true _ _ t)))
      (λ t. rw t (done k (let z = ltb-false 0 (fault_of width w).number t in omega arith)))))
      (λ k. rw k (unknown k))

  -- answer 0: the width is known, and the pool has no fault
  pub zero_says : (check_outcome width w).number ≡ 0 → (known ≡ true) × ((fault_of width w).number ≡ 0)
  zero_says = go checked
    where
      go : {a : Answer} → Checked a → a.number ≡ 0 → (known ≡ true) × ((fault_of width w).number ≡ 0)
      go (done k f) e = (k, f)
      go (unknown k) e = absurd (let z : ⊥ = omega arith in z)
      go (faulty k f) e = absurd (let z : ⊥ = omega arith in z)

  pub zero_formed : (check_outcome width w).number ≡ 0 → Formed width w
  zero_formed e = formed width w (zero_says e).1

  pub zero_beside : (check_outcome width w).number ≡ 0 → check_outcome width w ≡ answer 0 (node_count w) 0
  zero_beside = go checked
    where
      go : {a : Answer} → Checked a → a.number ≡ 0 → a ≡ answer 0 (node_count w) 0
      go (done k f) e = refl
      go (unknown k) e = absurd (let z : ⊥ = omega arith in z)
      go (faulty k f) e = absurd (let z : ⊥ = omega arith in z)

  pub zero_of : known ≡ true → (fault_of width w).number ≡ 0 → (check_outcome width w).number ≡ 0
  zero_of k f = rw (k, f)

  -- answer 1: the width is not 32 or 64
  pub one_says : (check_outcome width w).number ≡ 1 → known ≡ false
  one_says = go checked
    where
      go : {a : Answer} → Checked a → a.number ≡ 1 → known ≡ false
      go (done k f) e = absurd (let z : ⊥ = omega arith in z)
      go (unknown k) e = k
      go (faulty k f) e = absurd (let z : ⊥ = omega arith in z)

  pub one_of : known ≡ false → check_outcome width w ≡ answer 1 0 0
  one_of k = rw k

  -- answer 2: the width is known and the pool has a fault, whose node and number stand beside it
  pub record Faulty : Type 0 where
    pub width_known : known ≡ true
    pub some : 0 < (fault_of width w).number
    pub node : (check_outcome width w).beside ≡ (fault_of width w).node
    pub number : (check_outcome width w).second ≡ (fault_of width w).number

  pub two_says : (check_outcome width w).number ≡ 2 → Faulty
  two_says e = go (check_outcome width w) refl checked e
    where
      go : (a : Answer) → check_outcome width w ≡ a → Checked a → a.number ≡ 2 → Faulty
      go a s (done k f) e = absurd (let z : ⊥ = omega arith in z)
      go a s (unknown k) e = absurd (let z : ⊥ = omega arith in z)
      go a s (faulty k f) e = record {
        width_known = k;
        some = f;
        node = ap (λ (x : Answer). x.beside) s;
        number = ap (λ (x : Answer). x.second) s;
      }

  pub two_of : known ≡ true → 0 < (fault_of width w).number → (check_outcome width w).number ≡ 2
  two_of k f = rw (k, lt-ltb 0 (fault_of width w).number f)

  -- with a width that is known, any answer but 0 is answer 2
  pub two_else : known ≡ true → ((check_outcome width w).number ≡ 0 → ⊥) → (check_outcome width w).number ≡ 2
  two_else k n = go checked n
    where
      go : {a : Answer} → Checked a → (a.number ≡ 0 → ⊥) → a.number ≡ 2
      go (done k f) n = absurd (n refl)
      go (unknown u) n = not_both k u
      go (faulty k f) n = refl
