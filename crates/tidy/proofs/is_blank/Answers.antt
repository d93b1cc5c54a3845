-- `tidy::is_blank` meets its contract. No node before i has a value; the measure is the nodes left.
use Rattle.tidy.specs.Blank as blank
use native.Mathlib.Omega.{arith}
use Rattle.tidy.proofs.is_blank.Goals as goal

pub loop-i-init : goal.loop-i-init
loop-i-init c = blank.blank_start c.args.words.now c.args.from c.args.to

pub data_bits-requires : goal.data_bits-requires
data_bits-requires c = omega (arith, c.requires)

pub returns-then-data_bits-ne0 : goal.returns-then-data_bits-ne0
returns-then-data_bits-ne0 c = blank.blank_fails c.args.words.now c.args.from c.args.to _ _ c.loop-i.invariant c.loop-i-test.true c.data_bits.ensures c.if-data_bits-ne0.true

pub loop-i-preserved : goal.loop-i-preserved
loop-i-preserved c = blank.blank_on c.args.words.now c.args.from c.args.to _ _ c.loop-i.invariant c.data_bits.ensures c.if-data_bits-ne0.false

pub returns : goal.returns
returns c = blank.blank_ends c.args.words.now c.args.from c.args.to _ c.loop-i.invariant c.loop-i-test.false
