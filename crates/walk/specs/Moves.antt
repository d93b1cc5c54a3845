-- What the walk's functions work out is what the walk's definition says, one function after the other.
use Rattle.std.specs.Prelude.{◌≡◌, refl, ℕ, ◌*◌, ◌-◌, ◌%◌, ◌^◌, ◌≤◌, ◌<◌, None, Some}
use Rattle.std.proofs.Common.{sym, ◌∙◌, ap, ap₂, subst, arith, eq-eqb, ne_eqb, le-leb}
use Rattle.std.specs.Int.Count.{count_trailing_zeros}
use Rattle.std.proofs.lemmas.Bool.{lt-leb}
use Rattle.defs.specs.declared.Prefix.{Prefix}
use Rattle.defs.specs.declared.Operation.{Operation}
use Rattle.defs.specs.declared.Operation.TheVariants.{Union, Intersection, Difference, CoveringDifference, CoveringUnion}
use Rattle.defs.specs.Prefix.{deeper}
use Rattle.defs.specs.Entries.{data_place, child_place, places}
use Rattle.defs.specs.PrefixLaws.{Whole}
use Rattle.defs.proofs.DeeperLaws.{whole_deeper}
use Rattle.bits.specs.Places.{place_len, place_value, place_prefix}
use Rattle.bits.specs.Worked.{one_shl}
use Rattle.bits.specs.PlaceLaws.{place_prefix_lem, place_len_below, child_place_lem}
use Rattle.theory.specs.declared.Covers.{Covers}
use Rattle.theory.specs.declared.Item.{Item}
use Rattle.theory.specs.declared.Level.{Level}
use Rattle.theory.specs.declared.Step.{Step}
use Rattle.theory.specs.declared.Step.TheVariants as step
use Rattle.theory.specs.Sides.{value_in, child_in}
use Rattle.theory.specs.Steps.{Job, carried, no_covers, covers_at, emit_of, given, down_to, step_at, step_of, without, enter}
use Rattle.theory.specs.Todo.{Lowest, lowest}
use Rattle.theory.specs.Walk.{places_length}
use Rattle.view.specs.Standing.{child_in_lem}
use Rattle.view.specs.Numbers.{number_of, place_at, Numbered, place_numbered}
use Rattle.walk.specs.Ready.{Entering, Passing, Ready}
use Rattle.theory.specs.Kinds.{Emit, Node, Value}

-- down to two children
pub down_neither : (j : Job) (f : Level) (q : Prefix) (l r : Node) (above : Covers) → l ≡ None → r ≡ None → step.Skip f ≡ down_to j f q l r above
down_neither j f q l r above a b = rw (a, b)

pub down_right : (j : Job) (f : Level) (q : Prefix) (l r : Node) (above : Covers) (g : Level) (i : ℕ) → l ≡ None → r ≡ Some i → g ≡ enter j q l r above
    → step.Down f g ≡ down_to j f q l r above
down_right j f q l r above g i a b h = ap (step.Down f) h ∙ rw (a, b)

pub down_left : (j : Job) (f : Level) (q : Prefix) (l r : Node) (above : Covers) (g : Level) (i : ℕ) → l ≡ Some i → g ≡ enter j q l r above
    → step.Down f g ≡ down_to j f q l r above
down_left j f q l r above g i a h = ap (step.Down f) h ∙ rw a

-- the covers that an item may show: of the side that has no value there, in a covering union
abbrev pub shown_to : Value → Value → Covers → Covers
shown_to None None c = no_covers
shown_to (Some a) None c = record { left = None; right = c.right }
shown_to None (Some b) c = record { left = c.left; right = None }
shown_to (Some a) (Some b) c = no_covers

abbrev pub needed : Operation → Value → Value → Covers → Covers
needed Union a b c = no_covers
needed Intersection a b c = no_covers
needed Difference a b c = no_covers
needed CoveringDifference a b c = no_covers
needed CoveringUnion a b c = shown_to a b c

-- the others play no part in the item
emit_needed : (op : Operation) (q : Prefix) (a b : Value) (c : Covers) → emit_of op q a b (needed op a b c).left (needed op a b c).right ≡ emit_of op q a b c.left c.right
emit_needed Union q a b c = refl
emit_needed Intersection q a b c = refl
emit_needed Difference q a b c = refl
emit_needed CoveringDifference q a b c = refl
emit_needed CoveringUnion q None None c = refl
emit_needed CoveringUnion q None (Some b) c = refl
emit_needed CoveringUnion q (Some a) None c = refl
emit_needed CoveringUnion q (Some a) (Some b) c = refl

carried_again : (op : Operation) (c : Covers) → carried op (carried op c) ≡ carried op c
carried_again Union c = refl
carried_again Intersection c = refl
carried_again Difference c = refl
carried_again CoveringDifference c = refl
carried_again CoveringUnion c = refl

module _ {j : Job} {f : Level} (pass : Passing j f) (fits : f.prefix.key < 2 ^ 64) {h : ℕ} where
  -- a data place
  module _ (some : 0 < h) (low : h < 32) {q : Prefix} (eq : q ≡ place_prefix f.prefix h) where
    data_prefix : q ≡ deeper f.prefix (place_len h) (place_value h)
    data_prefix =
        eq ∙ place_prefix_lem f.prefix h some (omega arith) pass.at.whole fits (let k = place_len_below h some (omega arith) 5 low in let s = pass.at.short in omega arith)

    -- the values there, the covers that an item may show, and the item
    module _ {a b : Value} (ea : a ≡ value_in j.left.pool j.left.root f.left (place_len h) (place_value h) q)
        (eb : b ≡ value_in j.right.pool j.right.root f.right (place_len h) (place_value h) q)
        {c : Covers} (ec : c ≡ needed j.op a b (covers_at j f (place_len h) (place_value h))) {e : Emit} (ee : e ≡ emit_of j.op q a b c.left c.right) where
      pub data_step : given e f ≡ step_at j f (data_place (place_len h) (place_value h))
      data_step =
          let n = place_len h in
          let v = place_value h in
          let d = deeper f.prefix n v in
          let s = covers_at j f n v in
          let k : e ≡ emit_of j.op d (value_in j.left.pool j.left.root f.left n v d) (value_in j.right.pool j.right.root f.right n v d) s.left s.right =
          ee ∙ rw (ec, emit_needed j.op q a b s, ea, eb, data_prefix) in
          ap (λ (x : Emit). given x f) k

      pub data_none : e ≡ None → step.Skip f ≡ step_at j f (data_place (place_len h) (place_value h))
      data_none n = ap (λ (x : Emit). given x f) (sym n) ∙ data_step

      pub data_one : {i : Item} → e ≡ Some i → step.Record i f ≡ step_at j f (data_place (place_len h) (place_value h))
      data_one n = ap (λ (x : Emit). given x f) (sym n) ∙ data_step

  -- a child place
  module _ (from : 32 ≤ h) (below : h < 64) where
    -- at the last depth there is no child
    pub child_last : 60 ≤ f.prefix.len → step.Skip f ≡ step_at j f (child_place (h - 32))
    child_last l = rw (le-leb 60 f.prefix.len l)

    module _ (deep : f.prefix.len < 60) {q : Prefix} (eq : q ≡ place_prefix f.prefix h) where
      child_prefix : q ≡ deeper f.prefix 5 (h - 32)
      child_prefix =
          let c = child_place_lem h from below in
          eq ∙ place_prefix_lem f.prefix h (omega arith) (omega arith) pass.at.whole fits (let e = c.0 in omega arith) ∙ ap₂ (deeper f.prefix) c.0 c.1

      module _ {l r : Node} (el : l ≡ child_in j.left.pool j.left.root f.left (h - 32) q) (er : r ≡ child_in j.right.pool j.right.root f.right (h - 32) q)
          {above : Covers} (ea : above ≡ carried j.op (covers_at j f (place_len h) (place_value h))) where
        pub child_entering : Entering j q l r
        child_entering =
            record {
              sane_left = pass.at.sane_left;
              sane_right = pass.at.sane_right;
              in_left = rw el (child_in_lem j.left.pool pass.at.sane_left j.left.root f.left (h - 32) q (omega arith) pass.at.in_left);
              in_right = rw er (child_in_lem j.right.pool pass.at.sane_right j.right.root f.right (h - 32) q (omega arith) pass.at.in_right);
              whole = subst Whole (sym child_prefix) (whole_deeper f.prefix pass.at.whole 5 (omega arith) (h - 32));
              short = let e = ap (λ (x : Prefix). x.len) child_prefix in let m = pass.at.fives in omega arith;
              fives = let e = ap (λ (x : Prefix). x.len) child_prefix in let m = pass.at.fives in omega arith;
            }

        -- what is carried to a child is carried on as it is
        pub child_carries : carried j.op above ≡ above
        child_carries = rw ea (carried_again j.op (covers_at j f (place_len h) (place_value h)))

        pub child_step : {s : Step} → s ≡ down_to j f q l r above → s ≡ step_at j f (child_place (h - 32))
        child_step e =
            let c = child_place_lem h from below in
            e ∙ rw (lt-leb 60 f.prefix.len deep, el, er, ea, c.0, c.1, child_prefix)

-- a level without its lowest place
module _ {j : Job} {f : Level} (ready : Ready j f) where
  abbrev z : ℕ
  z = count_trailing_zeros 64 f.todo

  -- where no place is left, the step is up
  pub step_up : f.todo ≡ 0 → step.Up ≡ step_of j f
  step_up e = rw (eq-eqb f.todo 0 e)

  module _ (left : f.todo ≡ 0 → ⊥) where
    some : 0 < f.todo
    some = omega arith

    low : Lowest 64 f.todo places (child_place 0)
    low = lowest 64 f.todo places (child_place 0) some (rw places_length ready.ok.small) (rw places_length (omega arith))

    pub place_below : z < 63
    place_below = let i = low.inside in omega (arith, places_length)

    -- the place's bit, as it is worked out
    bit_is : 1 * 2 ^ z % 2 ^ 64 ≡ 2 ^ z
    bit_is = one_shl 64 z (let k = place_below in omega arith)

    pub bit_there : 1 * 2 ^ z % 2 ^ 64 ≤ f.todo
    bit_there = rw bit_is low.there

    pub passing : (t : ℕ) → Passing j (record { prefix = f.prefix; left = f.left; right = f.right; above = f.above; todo = t })
    passing t = record { at = ready.at; carries = ready.ok.carries }

    numbered : Numbered (place_at z) (number_of (place_at z))
    numbered = place_numbered z place_below

    -- a place's number is above 0
    pub number_some : (h : ℕ) → h ≡ number_of (place_at z) → 0 < h
    number_some h e = let n = numbered.some in omega arith

    pub number_below : {h : ℕ} → h ≡ number_of (place_at z) → h < 64
    number_below e = let n = numbered.below in omega arith

    pub step_data : {h : ℕ} → h ≡ number_of (place_at z) → h < 32 → {s : Step} → s ≡ step_at j (without f (1 * 2 ^ z % 2 ^ 64)) (data_place (place_len h) (place_value h)) → s ≡ step_of j f
    step_data {h} e l k =
        k ∙ ap (λ (n : ℕ). step_at j (without f n) (data_place (place_len h) (place_value h))) bit_is ∙ ap (λ (n : ℕ). step_at j (without f (2 ^ z)) (data_place (place_len n) (place_value n))) e ∙ ap (step_at j (without f (2 ^ z))) (sym (numbered.is_data (let m = l in omega arith)))
        ∙ rw (ne_eqb f.todo 0 left)

    pub step_child : {h : ℕ} → h ≡ number_of (place_at z) → 32 ≤ h → {s : Step} → s ≡ step_at j (without f (1 * 2 ^ z % 2 ^ 64)) (child_place (h - 32)) → s ≡ step_of j f
    step_child {h} e l k =
        k ∙ ap (λ (n : ℕ). step_at j (without f n) (child_place (h - 32))) bit_is ∙ ap (λ (n : ℕ). step_at j (without f (2 ^ z)) (child_place (n - 32))) e ∙ ap (step_at j (without f (2 ^ z))) (sym (numbered.is_child (let m = l in omega arith)))
        ∙ rw (ne_eqb f.todo 0 left)
