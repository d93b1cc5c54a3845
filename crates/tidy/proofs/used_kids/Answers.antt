-- `tidy::used_kids` meets its contract. The word of the first c children; the measure is the children left.
use Rattle.tidy.specs.Kept as kept
use native.Mathlib.Omega.{arith}
use Rattle.tidy.proofs.used_kids.Goals as goal

pub loop-c-init : goal.loop-c-init
loop-c-init c = kept.gathering_start c.args.side.words.now c.args.side.root c.args.i c.args.p c.requires

pub kid_is_used-requires : goal.kid_is_used-requires
kid_is_used-requires c = (c.requires, c.loop-c-test.true)

pub with_bit-word-requires : goal.with_bit-word-requires
with_bit-word-requires c = (c.loop-c-test.true, kept.gathering_small c.args.side.words.now c.args.side.root c.args.i c.args.p c.requires _ _ c.loop-c.invariant)

pub loop-c-preserved : goal.loop-c-preserved
loop-c-preserved c = kept.gathering_on c.args.side.words.now c.args.side.root c.args.i c.args.p c.requires _ _ c.loop-c-test.true c.loop-c.invariant _ c.kid_is_used.ensures _ c.with_bit-word.ensures

pub returns : goal.returns
returns c = kept.gathering_end c.args.side.words.now c.args.side.root c.args.i c.args.p c.requires _ _ (omega (arith, c.loop-c-test.false)) c.loop-c.invariant
