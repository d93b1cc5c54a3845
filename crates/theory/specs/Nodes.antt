-- Two nodes of one prefix: their covering union is, place by place, that of what the places hold, under the longest entries above each place.
use Rattle.std.specs.Prelude.{◌≡◌, true, List, ◌++◌, ℕ, zero, suc, ◌+◌, ◌*◌, ◌/◌, ◌<◌, ◌≤◌}
use Rattle.std.proofs.Math.Path.{refl}
use Rattle.std.proofs.Common.{sym, ◌∙◌, subst, append-nil, arith}
use Rattle.std.proofs.Math.Option.{Option}
use Rattle.std.proofs.Math.Nat.{mul-div_right, mul-add-div}
use Rattle.defs.specs.declared.Prefix.{Prefix}
use Rattle.defs.specs.Basics.{each}
use Rattle.defs.specs.Prefix.{leads, deeper}
use Rattle.defs.specs.Entries.{Entry, Place, data_place, child_place, places_at, places, prefixes}
use Rattle.defs.specs.Lists.{Record, longest}
use Rattle.defs.specs.Lemmas.{All, all_imp, all_both, all_append, map_append, each_append}
use Rattle.defs.specs.PrefixLaws.{Whole, low, high}
use Rattle.defs.proofs.PrefixLaws.{leads_self, before_irrefl, before_asym, whole_high, low_high, low_not_high}
use Rattle.defs.specs.NodeLaws.{Led, Real, Below, Fits}
use Rattle.defs.proofs.NodeLaws.{whole_deeper_low, whole_deeper_high, deeper_none, by_levels, tree, halves, tree_step, led, real, led_low, led_high, led_halves}
use Rattle.theory.specs.Covering.{covering, longest_none, seam}

-- the longest of a node's own entries above the n bits of value v, or else c
abbrev pub above_bits : Prefix → (Place → List Entry) → Option Entry → ℕ → ℕ → Option Entry
above_bits p held c zero v = c
above_bits p held c (suc n) v = longest (above_bits p held c n (v / 2)) (held (data_place n (v / 2))) (deeper p n (v / 2))

-- the same of a place
abbrev pub above_place : Prefix → (Place → List Entry) → Option Entry → Place → Option Entry
above_place p held c (data_place n v) = above_bits p held c n v
above_place p held c (child_place v) = above_bits p held c 5 v

-- the covering union at a place
abbrev pub place_records : Prefix → (Place → List Entry) → (Place → List Entry) → Option Entry → Option Entry → Place → List Record
place_records p s t cl cr x = covering (above_place p s cl x) (above_place p t cr x) (s x) (t x)

half_low : (v : ℕ) → 2 * v / 2 ≡ v
half_low v = mul-div_right v {m = 2} (omega arith)

half_high : (v : ℕ) → (2 * v + 1) / 2 ≡ v
half_high v = mul-add-div {m = 2} (omega arith) v 1 ∙ omega arith

-- below q, with bits past its length 0
abbrev Beneath : Prefix → Prefix → Type 0
Beneath q y = Below q y × Real y

module _ (q : Prefix) (w : Whole q) where
  seam_own : (cl cr : Option Entry) (l l' r r' : List Entry)
      → All (λ x. x ≡ q) (prefixes l) → All (Beneath q) (prefixes l') → All (λ x. x ≡ q) (prefixes r) → All (Beneath q) (prefixes r')
      → covering cl cr (l ++ l') (r ++ r') ≡ covering cl cr l r ++ covering (longest cl l q) (longest cr r q) l' r'
  seam_own =
      seam {P = λ x. x ≡ q} {Q = Beneath q} (λ x y e b. rw e b.0.1) (λ y b. b.1.0) q w (λ y b. b.0.0) (λ x e. rw e (before_irrefl q))

  module _ (room : q.len < 64) where
    seam_halves : (cl cr : Option Entry) (l l' r r' : List Entry)
        → Led (low q) l → All (λ x. (leads (high q) x ≡ true) × Real x) (prefixes l')
        → Led (low q) r → All (λ x. (leads (high q) x ≡ true) × Real x) (prefixes r')
        → covering cl cr (l ++ l') (r ++ r') ≡ covering cl cr l r ++ covering cl cr l' r'
    seam_halves cl cr l l' r r' hl hl' hr hr' =
        seam {P = λ x. leads (low q) x ≡ true} {Q = λ x. (leads (high q) x ≡ true) × Real x} (λ x y h k. low_high q w room x y h k.0) (λ y k. k.1.0)
        (high q) (whole_high q w room) (λ y k. k.0)
        (λ x k. before_asym x (high q) (low_high q w room x (high q) k (leads_self (high q)))) cl cr l l' r r' hl hl' hr hr'
        ∙ rw (longest_none cl l (high q) (all_imp (low_not_high q w room) hl), longest_none cr r (high q) (all_imp (low_not_high q w room) hr))

module _ (p : Prefix) (small : p.len ≤ 60) where
  -- what is known of the two longer places of one side
  record Halves (held : Place → List Entry) (f : Fits p held) (k n v : ℕ) : Type 0 where
    lower : Led (low (deeper p n v)) (tree p small held f k (suc n) (2 * v))
    upper : All (λ x. (leads (high (deeper p n v)) x ≡ true) × Real x) (prefixes (tree p small held f k (suc n) (2 * v + 1)))
    beneath : All (Beneath (deeper p n v)) (prefixes (halves p small held f k n v))

  halves_of : (held : Place → List Entry) (f : Fits p held) (k n v : ℕ) → n + suc k ≡ 5 → Whole (deeper p n v) → p.len + n < 64 → Halves held f k n v
  halves_of held f k n v e w room =
      let wl = whole_deeper_low p n v w room in
      let wh = whole_deeper_high p n v w room in
      let lo = led p small held f k (suc n) (2 * v) (omega arith) wl (omega arith) in
      let hi = led p small held f k (suc n) (2 * v + 1) (omega arith) wh (omega arith) in
      let rl = real p small held f k (suc n) (2 * v) (omega arith) wl (omega arith) in
      let rh = real p small held f k (suc n) (2 * v + 1) (omega arith) wh (omega arith) in
      record {
        lower = led_low p small held f k n v room lo;
        upper = all_both (led_high p small held f k n v room hi) rh;
        beneath = all_both (led_halves p small held f k n v w room lo hi) (rw (map_append (λ (e : Entry). e.at) (tree p small held f k (suc n) (2 * v)) (tree p small held f k (suc n) (2 * v + 1))) (all_append rl rh));
      }

  module _ (s t : Place → List Entry) (f : Fits p s) (g : Fits p t) (cl cr : Option Entry) where
    abbrev at : ℕ → ℕ → ℕ → Type 0
    at k n v =
        covering (above_bits p s cl n v) (above_bits p t cr n v) (tree p small s f k n v) (tree p small t g k n v) ≡ each (place_records p s t cl cr) (places_at k n v)

    one_step : (k n v : ℕ) → n + suc k ≡ 5 → Whole (deeper p n v) → p.len + n < 64 → at k (suc n) (2 * v) → at k (suc n) (2 * v + 1) → at (suc k) n v
    one_step k n v e w room lo hi =
        let a = halves_of s f k n v e w room in
        let b = halves_of t g k n v e w room in
        let cl' = longest (above_bits p s cl n v) (s (data_place n v)) (deeper p n v) in
        let cr' = longest (above_bits p t cr n v) (t (data_place n v)) (deeper p n v) in
        cc (
          tree_step p small s f k n v,
          tree_step p small t g k n v,
          seam_own (deeper p n v) w (above_bits p s cl n v) (above_bits p t cr n v) (s (data_place n v)) (halves p small s f k n v) (t (data_place n v)) (halves p small t g k n v)
              (f.data_at n v) a.beneath (g.data_at n v) b.beneath,
          seam_halves (deeper p n v) w room cl' cr' (tree p small s f k (suc n) (2 * v)) (tree p small s f k (suc n) (2 * v + 1)) (tree p small t g k (suc n) (2 * v)) (tree p small t g k (suc n) (2 * v + 1))
              a.lower a.upper b.lower b.upper,
          each_append (place_records p s t cl cr) (places_at k (suc n) (2 * v)) (places_at k (suc n) (2 * v + 1)),
          lo,
          hi,
          half_low v,
          half_high v,
        )

    pub by_places : (k n v : ℕ) → n + k ≡ 5 → Whole (deeper p n v) → p.len + n ≤ 64 → at k n v
    by_places =
        by_levels p small at
        (λ l v w. rw (append-nil (s (child_place v)), append-nil (t (child_place v))) (sym (append-nil _)))
        (λ k n v e w room lo hi. one_step k n v e w room lo hi)
        (λ l v w. simp (f.child_none l, g.child_none l, append-nil))

  -- a node pair's covering union, place by place
  pub node_places : (s t : Place → List Entry) → Fits p s → Fits p t → Whole p → (cl cr : Option Entry)
      → covering cl cr (each s places) (each t places) ≡ each (place_records p s t cl cr) places
  unfolding places
  node_places s t f g w cl cr = by_places s t f g cl cr 5 0 0 refl (subst Whole (sym (deeper_none p)) w) (omega arith)
