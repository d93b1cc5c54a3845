-- One node: what its places hold ascends strictly, and is led by the places' prefixes.
use Rattle.std.specs.Prelude.{◌≡◌, true, List, ◌++◌, ℕ, zero, suc, ◌+◌, ◌*◌, ◌-◌, ◌^◌, ◌<◌, ◌≤◌, ltb}
use Rattle.std.proofs.Common.{sym, ap, subst, append-nil, arith, ltb-true, ltb-false}
use Rattle.defs.specs.declared.Prefix.{Prefix}
use Rattle.defs.specs.Basics.{each}
use Rattle.defs.specs.Prefix.{leads, deeper}
use Rattle.defs.specs.Entries.{Entry, Place, data_place, child_place, places_at, prefixes}
use Rattle.defs.specs.Lemmas.{All, split, all_imp, all_append, map_append, each_append}
use Rattle.defs.specs.PrefixLaws.{Whole, prefix_eq, low, high}
use Rattle.defs.proofs.PrefixLaws.{leads_self, leads_trans, leads_low, leads_high, whole_low, whole_high, low_high, before_below}
use Rattle.defs.specs.OrderLaws.{Ascends}
use Rattle.defs.proofs.OrderLaws.{ascends_append}
use Rattle.defs.specs.NodeLaws.{Led, Real, Below, Fits}

module _ (q : Prefix) (w : Whole q) (r : q.len < 64) where
  below_low : (y : Prefix) → leads (low q) y ≡ true → Below q y
  below_low y h = (leads_trans q (low q) y (leads_low q w r) h, before_below q (low q) y w (omega arith) (leads_low q w r) h)

  below_high : (y : Prefix) → leads (high q) y ≡ true → Below q y
  below_high y h = (leads_trans q (high q) y (leads_high q w r) h, before_below q (high q) y w (omega arith) (leads_high q w r) h)

  pub below_halves : (a b : List Entry) → Led (low q) a → Led (high q) b → All (Below q) (prefixes (a ++ b))
  below_halves a b h k = rw (map_append (λ (e : Entry). e.at) a b) (all_append (all_imp below_low h) (all_imp below_high k))

-- the halves of a place's prefix are the prefixes of its two longer places
module _ (p : Prefix) where
  half_step : (n : ℕ) → p.len + n < 64 → 2 ^ (64 - (p.len + n)) ≡ 2 * 2 ^ (64 - (p.len + suc n))
  half_step n l = let e : 64 - (p.len + n) ≡ suc (64 - (p.len + suc n)) = omega arith in rw e (omega arith)

  pub deeper_low : (n v : ℕ) → p.len + n < 64 → low (deeper p n v) ≡ deeper p (suc n) (2 * v)
  deeper_low n v l = prefix_eq _ _ (rw (half_step n l) (mid p.key v _)) (omega arith)
    where
      mid : (k m u : ℕ) → k + m * (2 * u) ≡ k + 2 * m * u
      mid k m u = omega arith

  pub deeper_high : (n v : ℕ) → p.len + n < 64 → high (deeper p n v) ≡ deeper p (suc n) (2 * v + 1)
  deeper_high n v l =
      let f : suc (p.len + n) ≡ p.len + suc n = omega arith in
      prefix_eq _ _ (rw (f, half_step n l) (mid p.key v _)) (omega arith)
    where
      mid : (k m u : ℕ) → k + m * (2 * u) + u ≡ k + (2 * m + 1) * u
      mid k m u = omega arith

  pub whole_deeper_low : (n v : ℕ) → Whole (deeper p n v) → p.len + n < 64 → Whole (deeper p (suc n) (2 * v))
  whole_deeper_low n v w l = subst Whole (deeper_low n v l) (whole_low (deeper p n v) w l)

  pub whole_deeper_high : (n v : ℕ) → Whole (deeper p n v) → p.len + n < 64 → Whole (deeper p (suc n) (2 * v + 1))
  whole_deeper_high n v w l = subst Whole (deeper_high n v l) (whole_high (deeper p n v) w l)

  pub deeper_none : deeper p 0 0 ≡ p
  deeper_none = prefix_eq _ _ (omega arith) (omega arith)

module _ (p : Prefix) (small : p.len ≤ 60) where
  -- A property of the places of n bits of value v and below, from that of the two longer ones. At depth 60 the children would have
  -- 65 bits: there the last data places stand apart.
  pub by_levels : (P : ℕ → ℕ → ℕ → Type 0)
      → (p.len < 60 → (v : ℕ) → Whole (deeper p 5 v) → P 0 5 v)
      → ((k n v : ℕ) → n + suc k ≡ 5 → Whole (deeper p n v) → p.len + n < 64 → P k (suc n) (2 * v) → P k (suc n) (2 * v + 1) → P (suc k) n v)
      → (60 ≤ p.len → (v : ℕ) → Whole (deeper p 4 v) → P 1 4 v)
      → (k n v : ℕ) → n + k ≡ 5 → Whole (deeper p n v) → p.len + n ≤ 64 → P k n v
  by_levels P z s e zero n v r w l = let f : n ≡ 5 = omega arith in rw f (z (omega arith) v (subst (λ (m : ℕ). Whole (deeper p m v)) f w))
  by_levels P z s e (suc k) n v r w l =
      split (ltb (p.len + n) 64)
      (λ t.
      let room : p.len + n < 64 = ltb-true _ _ t in
      s k n v r w room
      (by_levels P z s e k (suc n) (2 * v) (omega arith) (whole_deeper_low p n v w room) (omega arith))
      (by_levels P z s e k (suc n) (2 * v + 1) (omega arith) (whole_deeper_high p n v w room) (omega arith)))
      (λ t.
      let full : 64 ≤ p.len + n = ltb-false _ _ t in
      let last : k ≡ 0 = omega arith in
      let four : n ≡ 4 = omega arith in
      rw (last, four) (e (omega arith) v (subst (λ (m : ℕ). Whole (deeper p m v)) four w)))

  module _ (held : Place → List Entry) (f : Fits p held) where
    -- what the places of n bits of value v and below hold
    abbrev pub tree : ℕ → ℕ → ℕ → List Entry
    tree k n v = each held (places_at k n v)

    -- the same of the two longer places
    abbrev pub halves : ℕ → ℕ → ℕ → List Entry
    halves k n v = tree k (suc n) (2 * v) ++ tree k (suc n) (2 * v + 1)

    pub tree_step : (k n v : ℕ) → tree (suc k) n v ≡ held (data_place n v) ++ halves k n v
    tree_step k n v = ap (held (data_place n v) ++◌) (each_append held (places_at k (suc n) (2 * v)) (places_at k (suc n) (2 * v + 1)))

    pub tree_last : 60 ≤ p.len → (v : ℕ) → tree 1 4 v ≡ held (data_place 4 v)
    tree_last l v = rw (f.child_none l (2 * v), f.child_none l (2 * v + 1)) (append-nil (held (data_place 4 v)))

    data_led : (n v : ℕ) → Led (deeper p n v) (held (data_place n v))
    data_led n v = all_imp (λ x e. rw e (leads_self (deeper p n v))) (f.data_at n v)

    -- the same by the halves of the place's prefix
    pub led_low : (k n v : ℕ) → p.len + n < 64 → Led (deeper p (suc n) (2 * v)) (tree k (suc n) (2 * v)) → Led (low (deeper p n v)) (tree k (suc n) (2 * v))
    led_low k n v room a = subst (λ (q : Prefix). Led q (tree k (suc n) (2 * v))) (sym (deeper_low p n v room)) a

    pub led_high : (k n v : ℕ) → p.len + n < 64 → Led (deeper p (suc n) (2 * v + 1)) (tree k (suc n) (2 * v + 1)) → Led (high (deeper p n v)) (tree k (suc n) (2 * v + 1))
    led_high k n v room a = subst (λ (q : Prefix). Led q (tree k (suc n) (2 * v + 1))) (sym (deeper_high p n v room)) a

    pub led_halves : (k n v : ℕ) → Whole (deeper p n v) → p.len + n < 64
        → Led (deeper p (suc n) (2 * v)) (tree k (suc n) (2 * v)) → Led (deeper p (suc n) (2 * v + 1)) (tree k (suc n) (2 * v + 1))
        → All (Below (deeper p n v)) (prefixes (halves k n v))
    led_halves k n v w room a b =
        below_halves (deeper p n v) w room (tree k (suc n) (2 * v)) (tree k (suc n) (2 * v + 1))
        (led_low k n v room a) (led_high k n v room b)

    -- they are led by the place's prefix
    pub led : (k n v : ℕ) → n + k ≡ 5 → Whole (deeper p n v) → p.len + n ≤ 64 → Led (deeper p n v) (tree k n v)
    led =
        by_levels (λ k n v. Led (deeper p n v) (tree k n v))
        (λ l v w. rw (append-nil (held (child_place v))) (f.child_led v w))
        (λ k n v m w room a b.
        rw (tree_step k n v, map_append (λ (e : Entry). e.at) (held (data_place n v)) (halves k n v))
        (all_append (data_led n v) (all_imp (λ x u. u.0) (led_halves k n v w room a b))))
        (λ l v w. rw (tree_last l v) (data_led 4 v))

    -- they ascend strictly
    pub ascends : (k n v : ℕ) → n + k ≡ 5 → Whole (deeper p n v) → p.len + n ≤ 64 → Ascends (prefixes (tree k n v))
    ascends =
        by_levels (λ k n v. Ascends (prefixes (tree k n v)))
        (λ l v w. rw (append-nil (held (child_place v))) (f.child_asc v w))
        (λ k n v m w room a b.
        let lo = led k (suc n) (2 * v) (omega arith) (whole_deeper_low p n v w room) (omega arith) in
        let hi = led k (suc n) (2 * v + 1) (omega arith) (whole_deeper_high p n v w room) (omega arith) in
        rw (tree_step k n v, map_append (λ (e : Entry). e.at) (held (data_place n v)) (halves k n v))
        (ascends_append (λ x y e u. rw e u.1) (f.data_at n v) (led_halves k n v w room lo hi) (f.data_asc n v)
        (rw (map_append (λ (e : Entry). e.at) (tree k (suc n) (2 * v)) (tree k (suc n) (2 * v + 1)))
        (ascends_append (low_high (deeper p n v) w room) (led_low k n v room lo) (led_high k n v room hi) a b))))
        (λ l v w. rw (tree_last l v) (f.data_asc 4 v))

    -- they are prefixes as entries have them
    pub real : (k n v : ℕ) → n + k ≡ 5 → Whole (deeper p n v) → p.len + n ≤ 64 → All Real (prefixes (tree k n v))
    real =
        by_levels (λ k n v. All Real (prefixes (tree k n v)))
        (λ l v w. rw (append-nil (held (child_place v))) (f.child_real v w))
        (λ k n v m w room a b.
        rw (tree_step k n v, map_append (λ (e : Entry). e.at) (held (data_place n v)) (halves k n v), map_append (λ (e : Entry). e.at) (tree k (suc n) (2 * v)) (tree k (suc n) (2 * v + 1)))
        (all_append (all_imp (λ x e. rw e (w, omega arith)) (f.data_at n v)) (all_append a b)))
        (λ l v w. rw (tree_last l v) (all_imp (λ x e. rw e (w, omega arith)) (f.data_at 4 v)))
