-- `tidy::put_some` meets its contract. The values of the first b data bits stand at the front; the measure is the bits left.
use Rattle.tidy.specs.Chosen as chosen
use Rattle.bits.specs.WordLaws.{rank_le}
use mathlib.Core.Path.{sym, ap, ◌∙◌}
use Prim.Native.Nat.{◌+◌}
use native.Mathlib.Omega.{arith}
use Rattle.tidy.proofs.put_some.Goals as goal
use Rattle.tidy.proofs.put_some.Goals.{then-bit, else-bit}

pub loop-b-init : goal.loop-b-init
loop-b-init c = chosen.listing_start c.args.held c.args.first c.args.kept c.args.values.now

pub bit-requires : goal.bit-requires
bit-requires c = tt

pub rank-requires : goal.rank-requires
rank-requires c = tt

pub overflow_add-values : goal.overflow_add-values
overflow_add-values c = omega (arith, c.rank.ensures, rank_le c.loop-b.b c.args.held, c.loop-b-test.true, c.requires.1)

pub offset_bounds-values-at : goal.offset_bounds-values-at
offset_bounds-values-at c = omega (arith, c.loop-b.invariant.place, rank_le c.loop-b.b c.args.kept, c.loop-b-test.true)

pub bounds-values-at : goal.bounds-values-at
bounds-values-at c = chosen.listing_room c.args.held c.args.first c.args.kept c.args.values.now c.requires.0 _ _ _ c.loop-b-test.true c.loop-b.invariant (sym c.bit.ensures ∙ c.if-bit.true)

pub overflow_add-at : goal.overflow_add-at
overflow_add-at c = omega (arith, c.loop-b.invariant.place, rank_le c.loop-b.b c.args.kept, c.loop-b-test.true)

pub returns : goal.returns
returns c = chosen.listing_end c.args.held c.args.first c.args.kept c.args.values.now _ _ _ (omega (arith, c.loop-b-test.false)) c.loop-b.invariant

pub loop-b-preserved : goal.loop-b-preserved
loop-b-preserved c =
    elim c.if-bit.branch [
      | then-bit w ↦ rw (w.values-is, w.at-is) (chosen.listing_on c.args.held c.args.first c.args.kept c.args.values.now c.requires.0 _ _ _ c.loop-b-test.true c.loop-b.invariant (sym c.bit.ensures ∙ w.if-bit.true) _ (ap (c.args.first +◌) w.rank.ensures))
      | else-bit w ↦ rw (w.values-is, w.at-is) (chosen.listing_off c.args.held c.args.first c.args.kept c.args.values.now c.requires.0 _ _ _ c.loop-b-test.true c.loop-b.invariant (sym c.bit.ensures ∙ w.if-bit.false))
    ]
