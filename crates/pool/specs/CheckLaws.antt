-- The check by counts finds what the definition's check by a queue of depths finds.
use Rattle.std.specs.Prelude.{◌≡◌, Bool, true, false, not, ◌&&◌, ◌||◌, ◌⊎◌, Result, Ok, Err, MatchResult, IsErrAnd, leb, ltb, eqb, length, replicate}
use Rattle.std.proofs.Math.Path.{refl, subst}
use Rattle.std.proofs.Common.{sym, ap, ◌∙◌, inl, inr, arith, add-one, pow_pos, pow_mono}
use mathlib.Core.List.{List, [], ◌∷◌, ◌++◌, append_assoc, append-nil}
use Prim.Native.Nat.{ℕ, zero, suc, ◌+◌, ◌-◌, ◌*◌, ◌%◌, ◌^◌, ◌≤◌, ◌<◌}
use Rattle.std.proofs.Math.Dec.{eqb-suc-zero}
use Rattle.std.proofs.lemmas.List.{replicate-append-replicate}
use Rattle.std.proofs.lemmas.Result.{err_from_is_err_and}
use borrow.Author.Tests.{not-true, not-false, ltb-true, ltb-false, eqb-true, le-leb, lt-leb, lt-ltb, le-ltb, eq-eqb, ne_eqb}
use Rattle.defs.specs.Basics.{if◌then◌otherwise◌}
use Rattle.defs.specs.Lemmas.{split}
use Rattle.defs.specs.Pool.{node_count, data_of, child_of, first_child, first_value, ones, data_bit}
use Rattle.defs.specs.Check.{Fault, pool_limit, usable, fault_at, fault_from, fault_of}
use Rattle.defs.specs.Outcome.{answer, check_outcome}
use Rattle.defs.specs.declared.refusals.Fault.{Fault as FaultKind}
use Rattle.defs.specs.declared.refusals.Fault.TheVariants.{NoWholeNodes, TooManyNodes, NoParent, DataBits, ChildBits, FirstChild, ChildrenPastEnd, FirstValue}
use Rattle.defs.specs.declared.refusals.PoolError.{PoolError}
use Rattle.defs.specs.declared.refusals.PoolError.TheVariants as NoPool
use Rattle.defs.specs.Refusals.{fault_number, checked}
use Rattle.bits.specs.WordLaws.{ones_le}
use Rattle.bits.specs.Worked.{one_shl}
use Rattle.pool.specs.declared.Count.{Count}
use Rattle.pool.specs.Counting.{Bounded, queue, level_of, after_of, number_found, found_at, fault_answer}

-- 2 ^ (2 ^ n - 1), as it is worked out
pub record Limit (n : ℕ) : Type 0 where
  pub some : 1 ≤ 1 * 2 ^ n % 2 ^ 32
  pub small : 1 * 2 ^ n % 2 ^ 32 - 1 < 32
  pub is : 1 * 2 ^ (1 * 2 ^ n % 2 ^ 32 - 1) % 2 ^ 32 ≡ 2 ^ data_bit n 0

pub limit : (n : ℕ) → n ≤ 5 → Limit n
limit n h =
    let e : 1 * 2 ^ n % 2 ^ 32 ≡ 2 ^ n = one_shl 32 n (omega arith) in
    let p = pow_pos n in
    let m : 2 ^ n ≤ 2 ^ 5 = pow_mono h in
    let f : 1 * 2 ^ n % 2 ^ 32 - 1 ≡ data_bit n 0 = omega arith in
    record { some = omega arith; small = omega arith; is = rw f (one_shl 32 (data_bit n 0) (omega arith)) }

-- the test for fault 5
module _ (width depth child : ℕ) where
  -- a depth at which no child may lie: the child bitmap alone decides
  pub deep_is : width ≤ depth + 4 → ltb 0 child ≡ (leb width (depth + 4) && ltb 0 child)
  deep_is h = rw (le-leb width (depth + 4) h)

  -- a depth at which children may lie: there is no such fault
  pub deep_not : depth + 4 < width → false ≡ (leb width (depth + 4) && ltb 0 child)
  deep_not h = rw (lt-leb width (depth + 4) h)

-- ---- the faults 4 to 8, in their order, from what was read of a node

module _ (width : ℕ) (w : List ℕ) (i depth children values : ℕ) where
  -- the number of the first of these faults that the node has, or 0
  pub in_order : (limit data-bits child first kids value : ℕ) (deep : Bool)
      → limit ≡ 2 ^ usable width depth → data-bits ≡ data_of w i → child ≡ child_of w i → first ≡ first_child w i → kids ≡ ones child → value ≡ first_value w i
      → deep ≡ (leb width (depth + 4) && ltb 0 child)
      → (from-8 from-7 from-6 from-5 from-4 : ℕ)
      → from-8 ≡ (if not (eqb value values) then 8 otherwise 0)
      → from-7 ≡ (if ltb (node_count w) (first + kids) then 7 otherwise from-8)
      → from-6 ≡ (if not (eqb first (1 + children)) then 6 otherwise from-7)
      → from-5 ≡ (if deep then 5 otherwise from-6)
      → from-4 ≡ (if leb limit data-bits then 4 otherwise from-5)
      → from-4 ≡ fault_at width w i depth children values
  in_order limit data-bits child first kids value deep el ed ec ef ek ev et f8 f7 f6 f5 f4 g8 g7 g6 g5 g4 =
      rw (g4, g5, g6, g7, g8, et, ek, el, ed, ec, ef, ev)

-- ---- one node

-- the counts after a node, from the numbers of its children and values
pub after_is : (w : List ℕ) (i : ℕ) (c : Count) (k v : ℕ) → k ≡ ones (child_of w i) → v ≡ ones (data_of w i)
    → record { depth = c.depth; here = c.here - 1; next = c.next + k; children = c.children + k; values = c.values + v } ≡ after_of w i c
after_is w i c k v e f = rw (e, f)

-- a level of which nodes are due stays
pub level_stays : (c : Count) → 0 < c.here → c ≡ level_of c
level_stays c h = rw (lt-ltb 0 c.here h)

-- a level of which none is due gives way to the next
pub level_next : (c : Count) → c.here ≤ 0 → record { depth = c.depth + 5; here = c.next; next = 0; children = c.children; values = c.values } ≡ level_of c
level_next c h = rw (le-ltb 0 c.here h)

-- the counts at the level of a node keep their bounds, the depth with one level more
pub level_bounded : (i : ℕ) (c m : Count) → m ≡ level_of c → Bounded i i c → Bounded (suc i) i m
level_bounded i c m e b =
    rw e
    (split (ltb 0 c.here) (λ t. rw t (record { deep = omega (arith, b.deep); due = b.due; kids = b.kids; held = b.held }))
    (λ t. rw t (record { deep = omega (arith, b.deep); due = omega (arith, b.due); kids = b.kids; held = b.held })))

-- each fault has a number above 0
pub fault_some : (fault : FaultKind) → 0 < fault_number fault
fault_some NoWholeNodes = omega arith
fault_some TooManyNodes = omega arith
fault_some NoParent = omega arith
fault_some DataBits = omega arith
fault_some ChildBits = omega arith
fault_some FirstChild = omega arith
fault_some ChildrenPastEnd = omega arith
fault_some FirstValue = omega arith

module _ (width : ℕ) (w : List ℕ) where
  -- what the number found at node i, from the counts c at its level, says of the first fault from node i on, where `left` nodes follow
  pub data Told (left i : ℕ) (c : Count) (fault : Fault) (n : ℕ) : Type 0 where
    bad : 0 < n → fault ≡ record { number = n; node = i } → Told left i c fault n
    good : n ≤ 0 → (let d = after_of w i c in fault ≡ fault_from width w left (suc i) (queue d) d.children d.values) → Bounded (suc i) (suc i) (after_of w i c) → Told left i c fault n

  -- the queue after a node of this level: one depth less, and one deeper one for each child
  queue_after : (a n k d : ℕ) → (replicate a d ++ replicate n (d + 5)) ++ replicate k (d + 5) ≡ replicate a d ++ replicate (n + k) (d + 5)
  queue_after a n k d =
      append_assoc (replicate a d) (replicate n (d + 5)) (replicate k (d + 5)) ∙ ap (replicate a d ++◌) (replicate-append-replicate n k (d + 5))

  bounded_after : (i : ℕ) (c : Count) → Bounded (suc i) i c → 0 < c.here → Bounded (suc i) (suc i) (after_of w i c)
  bounded_after i c b h =
      let k = ones_le (child_of w i) in
      let v = ones_le (data_of w i) in
      let x = b.due in let y = b.kids in let z = b.held in
      record { deep = b.deep; due = omega arith; kids = omega arith; held = omega arith }

  -- at a node's own level
  told_at : (left i d a n ch va : ℕ)
      → let c : Count = record { depth = d; here = suc a; next = n; children = ch; values = va } in Bounded (suc i) i c
      → Told left i c (fault_from width w (suc left) i (queue c) ch va) (found_at width w i c)
  told_at left i d a n ch va b =
      let k = ones (child_of w i) in
      let m : a ≡ suc a - 1 = omega arith in
      rw (eqb-suc-zero a)
      (split (ltb 0 (fault_at width w i d ch va)) (λ e. rw e (bad (ltb-true _ _ e) refl))
      (λ e. rw e (good (ltb-false _ _ e) (ap (λ (q : List ℕ). fault_from width w left (suc i) q (ch + k) (va + ones (data_of w i))) (queue_after a n k d ∙ ap (λ (x : ℕ). replicate x d ++ replicate (n + k) (d + 5)) m)) (bounded_after i _ b (omega arith)))))

  -- a node of this level, the first of the next, or one for which no depth is due
  told_by : (left i d h n ch va : ℕ)
      → let c : Count = record { depth = d; here = h; next = n; children = ch; values = va } in Bounded i i c
      → Told left i (level_of c) (fault_from width w (suc left) i (queue c) ch va) (found_at width w i (level_of c))
  told_by left i d (suc a) n ch va b =
      rw (lt-ltb 0 (suc a) (omega arith))
      (told_at left i d a n ch va (record { deep = omega (arith, b.deep); due = b.due; kids = b.kids; held = b.held }))
  told_by left i d zero zero ch va b = bad (omega arith) refl
  told_by left i d zero (suc n) ch va b =
      let c : Count = record { depth = d + 5; here = suc n; next = 0; children = ch; values = va } in
      subst (λ (q : List ℕ). Told left i c (fault_from width w (suc left) i q ch va) (found_at width w i c))
      (append-nil (replicate (suc n) (d + 5)))
      (told_at left i (d + 5) n 0 ch va (record { deep = omega (arith, b.deep); due = omega (arith, b.due); kids = b.kids; held = b.held }))

  pub told : (left i : ℕ) (c : Count) → Bounded i i c → Told left i (level_of c) (fault_from width w (suc left) i (queue c) c.children c.values) (found_at width w i (level_of c))
  told left i c b = told_by left i c.depth c.here c.next c.children c.values b

  -- before node i: what is still to be found is the whole pool's first fault
  pub record Kept (i : ℕ) (c : Count) : Type 0 where
    pub within : i ≤ node_count w
    pub fault : fault_from width w (node_count w) 0 (0 ∷ []) 0 0 ≡ fault_from width w (node_count w - i) i (queue c) c.children c.values
    pub bounded : Bounded i i c

  -- before the first node, one depth of 0 is due
  pub kept_start : Kept 0 (record { depth = 0; here = 1; next = 0; children = 0; values = 0 })
  kept_start =
      let e : node_count w ≡ node_count w - 0 = omega arith in
      record {
        within = omega arith;
        fault = ap (λ (n : ℕ). fault_from width w n 0 (0 ∷ []) 0 0) e;
        bounded = record { deep = omega arith; due = omega arith; kids = omega arith; held = omega arith };
      }

  module _ (i : ℕ) (c : Count) (more : i < node_count w) (k : Kept i c) where
    one_left : node_count w - i ≡ suc (node_count w - suc i)
    one_left = omega arith

    here_told : Told (node_count w - suc i) i (level_of c) (fault_from width w (node_count w) 0 (0 ∷ []) 0 0) (found_at width w i (level_of c))
    here_told =
        subst (λ (f : Fault). Told (node_count w - suc i) i (level_of c) f (found_at width w i (level_of c)))
        (sym (k.fault ∙ ap (λ (n : ℕ). fault_from width w n i (queue c) c.children c.values) one_left))
        (told (node_count w - suc i) i c k.bounded)

    -- a fault at node i is the answer
    pub kept_bad : (n : ℕ) → 0 < n → n ≡ found_at width w i (level_of c) → answer 2 i n ≡ fault_answer (node_count w) (fault_from width w (node_count w) 0 (0 ∷ []) 0 0)
    kept_bad n some e = go (subst (Told (node_count w - suc i) i (level_of c) (fault_from width w (node_count w) 0 (0 ∷ []) 0 0)) (sym e) here_told)
      where
        go : {f : Fault} → Told (node_count w - suc i) i (level_of c) f n → answer 2 i n ≡ fault_answer (node_count w) f
        go (bad p e) = rw (e, lt-ltb 0 n p)
        go (good z f b) = absurd (omega arith)

    pub kept_on : (d : Count) → d ≡ level_of c → 0 ≡ found_at width w i d → Kept (i + 1) (after_of w i d)
    kept_on d l e = rw l (go (subst (Told (node_count w - suc i) i (level_of c) (fault_from width w (node_count w) 0 (0 ∷ []) 0 0)) (sym (rw l at e)) here_told))
      where
        go : Told (node_count w - suc i) i (level_of c) (fault_from width w (node_count w) 0 (0 ∷ []) 0 0) 0 → Kept (i + 1) (after_of w i (level_of c))
        go (bad p e) = absurd (omega arith)
        go (good z f b) = rw (add-one i) (record { within = more; fault = f; bounded = b })

    -- what is found at node i, with the node beside a fault
    pub kept_step : (d : Count) (r : Result Unit FaultKind) (m : Result Unit PoolError) (Q : FaultKind → PoolError → Type 0)
        → d ≡ level_of c → number_found r ≡ found_at width w i d → MatchResult r (λ x. m ≡ Ok x) (λ f. IsErrAnd m (Q f)) → ((f : FaultKind) (e : PoolError) → Q f e → e ≡ NoPool.Fault f i)
        → MatchResult m (λ x. Kept (i + 1) (after_of w i d)) (λ e. checked (Err e) ≡ fault_answer (node_count w) (fault_from width w (node_count w) 0 (0 ∷ []) 0 0))
    kept_step d (Ok x) m Q l s t q = rw t (kept_on d l s)
    kept_step d (Err f) m Q l s t q = let p = err_from_is_err_and m t in rw (p.1, q f p.0 p.2) (kept_bad (fault_number f) (fault_some f) (rw l at s))

  -- behind the last node there is no fault, and the answer is the number of nodes
  pub kept_end : (i : ℕ) (c : Count) → node_count w ≤ i → Kept i c → answer 0 (node_count w) 0 ≡ fault_answer (node_count w) (fault_from width w (node_count w) 0 (0 ∷ []) 0 0)
  kept_end i c h k = let e : node_count w - i ≡ 0 = omega arith in let f = k.fault in rw (f, e)

  -- ---- the whole pool

  -- no word, or no whole number of nodes, is fault 1 at node 0
  pub fault_1 : (length w ≡ 0) ⊎ (length w % 4 ≡ 0 → ⊥) → fault_of width w ≡ record { number = 1; node = 0 }
  fault_1 (inl e) = rw (eq-eqb (length w) 0 e)
  fault_1 (inr n) = split (eqb (length w) 0) (λ t. rw t) (λ t. rw (t, ne_eqb (length w % 4) 0 n))

  module _ (some : length w ≡ 0 → ⊥) (whole : length w % 4 ≡ 0) where
    -- more nodes than a pool may have are fault 2 at node 0
    pub fault_2 : pool_limit < node_count w → fault_of width w ≡ record { number = 2; node = 0 }
    fault_2 h = rw (ne_eqb (length w) 0 some, eq-eqb (length w % 4) 0 whole, lt-ltb pool_limit (node_count w) h)

    -- else the first fault is that of the nodes from the root on
    pub fault_nodes : node_count w ≤ pool_limit → fault_of width w ≡ fault_from width w (node_count w) 0 (0 ∷ []) 0 0
    fault_nodes h = rw (ne_eqb (length w) 0 some, eq-eqb (length w % 4) 0 whole, le-ltb pool_limit (node_count w) h)

  -- with a width that is not known, the answer is 1
  pub unknown_width : (t : Bool) → t ≡ (eqb width 32 || eqb width 64) → not t ≡ true → answer 1 0 0 ≡ check_outcome width w
  unknown_width t e h = let f : (eqb width 32 || eqb width 64) ≡ false = sym e ∙ not-true t h in rw f

  -- with a width that is known, the first fault decides
  pub known_width : (t : Bool) → t ≡ (eqb width 32 || eqb width 64) → not t ≡ false → (f : Fault) → fault_of width w ≡ f → fault_answer (node_count w) f ≡ check_outcome width w
  known_width t e h f g = let k : (eqb width 32 || eqb width 64) ≡ true = sym e ∙ not-false t h in rw (k, g)

-- a width that is known is 64 at most
pub width_small : (width : ℕ) → (eqb width 32 || eqb width 64) ≡ true → width ≤ 64
width_small width = go (eqb width 32) refl
  where
    go : (b : Bool) → eqb width 32 ≡ b → (b || eqb width 64) ≡ true → width ≤ 64
    go true e h = omega (arith, eqb-true width 32 e)
    go false e h = omega (arith, eqb-true width 64 h)
