-- The nearest entry above a place: place h / 2 stands above place h.
use Rattle.std.specs.Prelude.{◌≡◌, refl, false, List, ℕ, zero, suc, ◌+◌, ◌-◌, ◌*◌, ◌/◌, ◌%◌, ◌^◌, ◌≤◌, ◌<◌, None, Some}
use Rattle.std.proofs.Common.{sym, ap, ◌∙◌, arith}
use Rattle.defs.specs.declared.Prefix.{Prefix}
use Rattle.defs.specs.Prefix.{deeper}
use Rattle.defs.specs.Pool.{data_of, bit}
use Rattle.defs.specs.PrefixLaws.{Whole}
use Rattle.defs.specs.Outcome.{Side}
use Rattle.bits.specs.Places.{place_len, place_value, place_prefix}
use Rattle.bits.specs.PlaceLaws.{place_len_lem, place_len_below, place_prefix_lem, half_len, half_value}
use Rattle.theory.specs.Sides.{value_in}
use Rattle.theory.specs.Steps.{nearer, cover_bits}
use Rattle.view.specs.Standing.{value_on, value_unset, value_of_lem}
use Rattle.theory.specs.Kinds.{a_cover, Cover, Node, Value}

module _ (s : Side) (o : Node) (p : Prefix) (above : Cover) where
  -- the nearest entry above place h
  abbrev pub cover_of : ℕ → Cover
  cover_of h = cover_bits s o p above (place_len h) (place_value h)

  -- the value at place h
  abbrev value_for : ℕ → Value
  value_for h = value_in s.pool s.root o (place_len h) (place_value h) (deeper p (place_len h) (place_value h))

  cover_up : (u b : ℕ) → 0 < u → u < 32 → b < 2 → cover_of (2 * u + b) ≡ nearer (value_for u) (p.len + place_len u) (cover_of u)
  cover_up u b some l hb =
      let e : (2 * place_value u + b) / 2 ≡ place_value u = omega arith in
      rw (half_len u some (omega arith) b hb, half_value u some (omega arith) b hb, cover_bits, e)

  -- the loop: at place `up`, nothing between it and h has a value
  pub record Climbing (h up : ℕ) : Type 0 where
    pub some : 0 < up
    pub below : up ≤ h
    pub same : cover_of h ≡ cover_of up

  module _ (h up : ℕ) (top : h < 64) (k : Climbing h up) (l : 1 < up) where
    pub half_some : (0 < up / 2) × (up / 2 < 32)
    half_some = (omega arith, omega (arith, k.below))

    split_up : up ≡ 2 * (up / 2) + up % 2
    split_up = omega arith

    one_up : cover_of h ≡ nearer (value_for (up / 2)) (p.len + place_len (up / 2)) (cover_of (up / 2))
    one_up = k.same ∙ ap cover_of split_up ∙ cover_up (up / 2) (up % 2) half_some.0 half_some.1 (omega arith)

    half_len_small : place_len (up / 2) < 5
    half_len_small = place_len_below (up / 2) half_some.0 (omega (arith, half_some.1)) 5 half_some.1

    pub climb_room : p.len ≤ 60 → (n : ℕ) → n ≡ place_len (up / 2) → p.len + n < 2 ^ 32
    climb_room short n e = omega (arith, half_len_small)

    module _ (whole : Whole p) (fits : p.key < 2 ^ 64) (short : p.len ≤ 60) (q : Prefix) (eq : q ≡ place_prefix p (up / 2)) (r : Value)
        (er : r ≡ value_in s.pool s.root o (place_len (up / 2)) (place_value (up / 2)) q) where
      is_value_lem : r ≡ value_for (up / 2)
      is_value_lem =
          er
          ∙ ap (value_in s.pool s.root o (place_len (up / 2)) (place_value (up / 2)))
          (eq ∙ place_prefix_lem p (up / 2) half_some.0 (omega (arith, half_some.1)) whole fits (omega (arith, half_len_small)))

      pub climb_on : r ≡ None → Climbing h (up / 2)
      climb_on e =
          record {
            some = half_some.0;
            below = omega (arith, k.below);
            same = one_up ∙ ap (λ (x : Value). nearer x (p.len + place_len (up / 2)) (cover_of (up / 2))) (sym is_value_lem ∙ e);
          }

      pub climb_stop : (v n : ℕ) → r ≡ Some v → n ≡ place_len (up / 2) → a_cover (p.len + n) v ≡ cover_of h
      climb_stop v n e en =
          sym (one_up ∙ ap (λ (x : Value). nearer x (p.len + place_len (up / 2)) (cover_of (up / 2))) (sym is_value_lem ∙ e) ∙ ap (λ (x : ℕ). a_cover (p.len + x) v) (sym en))

  pub climb_start : (h : ℕ) → 0 < h → Climbing h h
  climb_start h l = record { some = l; below = omega arith; same = refl }

  pub climb_end : (h up : ℕ) → Climbing h up → up ≤ 1 → above ≡ cover_of h
  climb_end h up k l =
      let e : up ≡ 2 ^ 0 + 0 = omega (arith, k.some) in
      let z : place_len up ≡ 0 = ap place_len e ∙ place_len_lem 0 0 (omega arith) (omega arith) in
      sym (k.same ∙ ap (λ (n : ℕ). cover_bits s o p above n (place_value up)) z)

-- ---- in a node that is there, only set bits are looked at
module _ (w : List ℕ) (root : Prefix) (i : ℕ) (p : Prefix) (above : Cover) where
  abbrev side : Side
  side = record { pool = w; root = root }

  module _ (h up : ℕ) (top : h < 64) (k : Climbing side (Some i) p above h up) (l : 1 < up) (whole : Whole p) (fits : p.key < 2 ^ 64) (short : p.len ≤ 60) where
    abbrev halved : (0 < up / 2) × (up / 2 < 32)
    halved = half_some side (Some i) p above h up top k l

    pub climb_unset : (held : ℕ) → held ≡ data_of w i → bit (up / 2 - 1) held ≡ false → Climbing side (Some i) p above h (up / 2)
    climb_unset held e t =
        climb_on side (Some i) p above h up top k l whole fits short (place_prefix p (up / 2)) refl None
        (value_unset w root i (up / 2 - 1) (place_prefix p (up / 2)) held e t ∙ value_of_lem w root (Some i) i (up / 2) (place_prefix p (up / 2)) refl halved.0 halved.1) refl

    module _ (q : Prefix) (eq : q ≡ place_prefix p (up / 2)) (r : Value) (er : r ≡ value_on w root i (up / 2 - 1) q) where
      found : r ≡ value_in w root (Some i) (place_len (up / 2)) (place_value (up / 2)) q
      found = er ∙ value_of_lem w root (Some i) i (up / 2) q refl halved.0 halved.1

      pub climb_outside : r ≡ None → Climbing side (Some i) p above h (up / 2)
      climb_outside e = climb_on side (Some i) p above h up top k l whole fits short q eq r found e

      pub climb_found : (v n : ℕ) → r ≡ Some v → n ≡ place_len (up / 2) → a_cover (p.len + n) v ≡ cover_of side (Some i) p above h
      climb_found v n e en = climb_stop side (Some i) p above h up top k l whole fits short q eq r found v n e en

-- where there is no node, what stands above it is the nearest
pub no_node : (s : Side) (p : Prefix) (above : Cover) (n v : ℕ) → above ≡ cover_bits s None p above n v
no_node s p above zero v = refl
no_node s p above (suc n) v = no_node s p above n (v / 2)
