-- One side of a walk at a node: a pool without a fault, and a node in it or none.
use Rattle.std.specs.Prelude.{◌≡◌, refl, true, false, ◌&&◌, List, ℕ, ◌+◌, ◌-◌, ◌^◌, ◌≤◌, ◌<◌, min, None, Some}
use Rattle.std.proofs.Common.{lt_of_lt_of_le, pow_mono, sym, ap, ap₂, ◌∙◌, subst, arith}
use Rattle.std.proofs.Math.Bool.{and-false}
use Rattle.defs.specs.declared.Prefix.{Prefix}
use Rattle.defs.specs.Basics.{if◌then◌otherwise◌}
use Rattle.defs.specs.Prefix.{leads}
use Rattle.defs.specs.Pool.{node_count, data_of, child_of, first_child, first_value, bit, rank, data_bit}
use Rattle.defs.specs.Check.{usable}
use Rattle.defs.specs.Entries.{Place, data_place, child_place}
use Rattle.defs.specs.Lemmas.{split, and_left}
use Rattle.bits.specs.WordLaws.{bit_none}
use Rattle.bits.specs.Places.{place_len, place_value}
use Rattle.bits.specs.PlaceLaws.{data_place_lem}
use Rattle.pool.specs.Sound.{Formed, depth, child_node, value_node, values_small}
use Rattle.theory.specs.Sides.{on_path, child_in, value_in}
use Rattle.theory.specs.Steps.{place_bit, marked}
use Rattle.view.specs.declared.Bitmaps.{Bitmaps}
use Rattle.theory.specs.Kinds.{Node, Value}

-- a pool that has no fault at some width
pub record Sane (w : List ℕ) : Type 0 where
  pub width : ℕ
  pub most : width ≤ 64
  pub formed : Formed width w

-- a side's node, where there is one, is a node of the pool
abbrev pub NodeIn : List ℕ → Node → Type 0
NodeIn w None = Unit {0}
NodeIn w (Some i) = i < node_count w

-- the two bitmaps of a side's node
abbrev pub bitmaps_of : List ℕ → Node → Bitmaps
bitmaps_of w None = record { «data» = 0; child = 0 }
bitmaps_of w (Some i) = record { «data» = data_of w i; child = child_of w i }

-- the value of data bit b of node i, where it is set and the root leads the place's prefix q
abbrev pub value_on : List ℕ → Prefix → ℕ → ℕ → Prefix → Value
value_on w root i b q = if bit b (data_of w i) && leads root q then Some (first_value w i + rank b (data_of w i)) otherwise None

-- FOR CALLERS: the bitmaps say which places of the node are marked
pub bitmaps_marked : (w : List ℕ) (o : Node) (x : Place) → place_bit (bitmaps_of w o).data (bitmaps_of w o).child x ≡ marked w o x
bitmaps_marked w None (data_place n v) = bit_none 0 (data_bit n v) 0 (omega arith) (omega arith)
bitmaps_marked w None (child_place c) = bit_none 0 c 0 (omega arith) (omega arith)
bitmaps_marked w (Some i) x = refl

-- a node that there is, is a node of the pool
pub in_at : (w : List ℕ) (o : Node) (i : ℕ) → o ≡ Some i → NodeIn w o → i < node_count w
in_at w o i e h = subst (NodeIn w) e h

-- ---- values and children

-- how the code finds them, from the bitmap that it read
module _ (w : List ℕ) (root : Prefix) (i b : ℕ) (q : Prefix) (held : ℕ) where
  pub value_unset : held ≡ data_of w i → bit b held ≡ false → None ≡ value_on w root i b q
  value_unset e t = let u : bit b (data_of w i) ≡ false = ap (bit b) (sym e) ∙ t in rw u

  pub value_outside : leads root q ≡ false → None ≡ value_on w root i b q
  value_outside l = rw (l, and-false (bit b (data_of w i)))

  pub value_held : held ≡ data_of w i → bit b held ≡ true → leads root q ≡ true → (f r : ℕ) → f ≡ first_value w i → r ≡ rank b held
      → Some (f + r) ≡ value_on w root i b q
  value_held e t l f r ef er =
      let u : bit b (data_of w i) ≡ true = ap (bit b) (sym e) ∙ t in
      rw (u, l) (ap Some (ap₂ ◌+◌ ef (er ∙ ap (rank b) e)))

  pub child_unset : held ≡ child_of w i → bit b held ≡ false → None ≡ child_in w root (Some i) b q
  child_unset e t = let u : bit b (child_of w i) ≡ false = ap (bit b) (sym e) ∙ t in rw u

  pub child_outside : on_path root q ≡ false → None ≡ child_in w root (Some i) b q
  child_outside l = rw (l, and-false (bit b (child_of w i)))

  pub child_held : held ≡ child_of w i → bit b held ≡ true → on_path root q ≡ true → (f r : ℕ) → f ≡ first_child w i → r ≡ rank b held
      → Some (f + r) ≡ child_in w root (Some i) b q
  child_held e t l f r ef er =
      let u : bit b (child_of w i) ≡ true = ap (bit b) (sym e) ∙ t in
      rw (u, l) (ap Some (ap₂ ◌+◌ ef (er ∙ ap (rank b) e)))

pub on_path_first : (root q : Prefix) → leads root q ≡ true → true ≡ on_path root q
on_path_first root q e = rw e

pub on_path_second : (root q : Prefix) → leads root q ≡ false → leads q root ≡ on_path root q
on_path_second root q e = rw e

module _ (w : List ℕ) (s : Sane w) where
  pub nodes_few : node_count w ≤ 65536
  nodes_few = s.formed.most

  pub value_room : (i b : ℕ) → i < node_count w → b < 31 → (held f r : ℕ) → held ≡ data_of w i → bit b held ≡ true → f ≡ first_value w i → r ≡ rank b held → f + r < 2 ^ 32
  value_room i b h l held f r e t ef er =
      let n = value_node s.width w s.formed i b h (omega arith) (ap (bit b) (sym e) ∙ t) in
      omega (arith, n, ap (rank b) e, values_small s.width w s.formed (node_count w) (omega arith), nodes_few)

  pub child_inside : (i c : ℕ) → i < node_count w → c < 32 → bit c (child_of w i) ≡ true → first_child w i + rank c (child_of w i) < node_count w
  child_inside i c h l e = (child_node s.width w s.formed i c h l e).0

  pub child_room : (i c : ℕ) → i < node_count w → c < 32 → (held f r : ℕ) → held ≡ child_of w i → bit c held ≡ true → f ≡ first_child w i → r ≡ rank c held → f + r < 2 ^ 32
  child_room i c h l held f r e t ef er = omega (arith, child_inside i c h l (ap (bit c) (sym e) ∙ t), ap (rank c) e, nodes_few)

  -- FOR CALLERS: a child of a side's node is a node of the pool
  pub child_in_lem : (root : Prefix) (o : Node) (c : ℕ) (q : Prefix) → c < 32 → NodeIn w o → NodeIn w (child_in w root o c q)
  child_in_lem root None c q l h = tt
  child_in_lem root (Some i) c q l h =
      split (bit c (child_of w i) && on_path root q)
      (λ e. rw e (child_inside i c h l (and_left _ _ e)))
      (λ e. rw e tt)

-- the value at place h is that of data bit h - 1
pub value_of_lem : (w : List ℕ) (root : Prefix) (o : Node) (i h : ℕ) (q : Prefix) → o ≡ Some i → 0 < h → h < 32
    → value_on w root i (h - 1) q ≡ value_in w root o (place_len h) (place_value h) q
value_of_lem w root o i h q e some l =
    ap (λ (b : ℕ). value_on w root i b q) (sym (data_place_lem h some l)) ∙ ap (λ (x : Node). value_in w root x (place_len h) (place_value h) q) (sym e)

-- ---- a pool that is a side's

usable_wider : (v width depth : ℕ) → v ≤ width → usable v depth ≤ usable width depth
usable_wider v width depth l = let m = pow_mono {i = min 5 (v + 1 - depth)} {j = min 5 (width + 1 - depth)} (omega arith) in omega arith

-- what has no fault at a width has none at a larger one
pub formed_wider : (v width : ℕ) (w : List ℕ) → v ≤ width → Formed v w → Formed width w
formed_wider v width w l f = record {
  some = f.some;
  whole = f.whole;
  most = f.most;
  root = f.root;
  node = λ i h. let n = f.node i h in record {
    within = omega (arith, n.within);
    fives = n.fives;
    fits = lt_of_lt_of_le n.fits (pow_mono (usable_wider v width (depth w i) l));
    last = λ e. n.last (omega (arith, n.within));
    child = n.child;
    value = n.value;
    later = n.later;
    room = n.room;
    deeper = n.deeper;
  };
}

-- FOR CALLERS: a pool without a fault at width 64 is one at some width, and the other way round
pub sane_formed : (w : List ℕ) → Formed 64 w → Sane w
sane_formed w f = record { width = 64; most = omega arith; formed = f }

pub formed_sane : (w : List ℕ) → Sane w → Formed 64 w
formed_sane w s = formed_wider s.width 64 w s.most s.formed
