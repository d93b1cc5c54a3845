-- The numbers and nodes that a fault can have.
use Rattle.std.specs.Prelude.{◌≡◌, refl, Bool, true, false, not, ◌&&◌, ◌||◌, List, [], ◌∷◌, ◌⊎◌, ℕ, zero, suc, ◌+◌, ◌^◌, ◌%◌, ◌≤◌, ◌<◌, leb, ltb, eqb, length}
use Rattle.std.proofs.Common.{inl, inr, arith, lit≤, ltb-true}
use Rattle.defs.specs.Basics.{if◌then◌otherwise◌}
use Rattle.defs.specs.Pool.{node_count, data_of, child_of, first_child, first_value, ones}
use Rattle.defs.specs.Check.{Fault, pool_limit, usable, fault_at, fault_from, fault_of}
use Rattle.defs.specs.Lemmas.{split}

-- no fault, or one of 4 to 8
abbrev AtNode : ℕ → Type 0
AtNode n = (n ≡ 0) ⊎ ((4 ≤ n) × (n ≤ 8))

choice : (b : Bool) (n rest : ℕ) → 4 ≤ n → n ≤ 8 → AtNode rest → AtNode (if b then n otherwise rest)
choice true n rest l h k = inr (l, h)
choice false n rest l h k = k

-- no fault, or one of 3 to 8 at one of `left` nodes from node i on
abbrev From : ℕ → ℕ → Fault → Type 0
From left i f = (f.number ≡ 0) ⊎ ((3 ≤ f.number) × (f.number ≤ 8) × (i ≤ f.node) × (f.node < i + left))

module _ (width : ℕ) (w : List ℕ) where
  at_node : (i depth children values : ℕ) → AtNode (fault_at width w i depth children values)
  at_node i depth children values =
      choice (leb (2 ^ usable width depth) (data_of w i)) 4 _ (lit≤ tt) (lit≤ tt)
      (choice (leb width (depth + 4) && ltb 0 (child_of w i)) 5 _ (lit≤ tt) (lit≤ tt)
      (choice (not (eqb (first_child w i) (1 + children))) 6 _ (lit≤ tt) (lit≤ tt)
      (choice (ltb (node_count w) (first_child w i + ones (child_of w i))) 7 _ (lit≤ tt) (lit≤ tt)
      (choice (not (eqb (first_value w i) values)) 8 0 (lit≤ tt) (lit≤ tt) (inl refl)))))

  here : (left i fault : ℕ) → 0 < fault → AtNode fault → From (suc left) i (record { number = fault; node = i })
  here left i fault h (inl e) = absurd (let z : ⊥ = omega arith in z)
  here left i fault h (inr k) = inr (omega arith, k.1, omega arith, omega arith)

  later : (left i : ℕ) (f : Fault) → From left (suc i) f → From (suc left) i f
  later left i f (inl e) = inl e
  later left i f (inr k) = inr (k.0, k.1, omega arith, omega arith)

  from : (left i : ℕ) (depths : List ℕ) (children values : ℕ) → From left i (fault_from width w left i depths children values)
  from zero i depths children values = inl refl
  from (suc left) i [] children values = inr (lit≤ tt, lit≤ tt, omega arith, omega arith)
  from (suc left) i (depth ∷ depths) children values =
      split (ltb 0 (fault_at width w i depth children values))
      (λ t. rw t (here left i _ (ltb-true 0 _ t) (at_node i depth children values)))
      (λ t. rw t (later left i _ (from left (suc i) _ _ _)))

  -- a fault is 1 or 2, with node 0, or 3 to 8, at one of the pool's nodes
  abbrev pub Known : Fault → Type 0
  Known f = ((f.number ≤ 2) × (f.node ≡ 0)) ⊎ ((3 ≤ f.number) × (f.number ≤ 8) × (f.node < node_count w))

  inside : (f : Fault) → From (node_count w) 0 f → 0 < f.number → Known f
  inside f (inl e) h = absurd (let z : ⊥ = omega arith in z)
  inside f (inr k) h = inr (k.0, k.1, omega arith)

  first_two : (a b : Bool) (f : Fault) → (0 < f.number → Known f)
      → 0 < (if a then record { number = 1; node = 0 } otherwise if b then record { number = 2; node = 0 } otherwise f).number
      → Known (if a then record { number = 1; node = 0 } otherwise if b then record { number = 2; node = 0 } otherwise f)
  first_two true b f k h = inl (lit≤ tt, refl)
  first_two false true f k h = inl (lit≤ tt, refl)
  first_two false false f k h = k h

  pub fault_known : 0 < (fault_of width w).number → Known (fault_of width w)
  fault_known =
      first_two (eqb (length w) 0 || not (eqb (length w % 4) 0)) (ltb pool_limit (node_count w)) (fault_from width w (node_count w) 0 (0 ∷ []) 0 0)
      (inside _ (from (node_count w) 0 (0 ∷ []) 0 0))
