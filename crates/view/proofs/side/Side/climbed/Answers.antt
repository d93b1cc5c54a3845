-- `view::climbed` meets its contract. At each turn nothing between the place and `up` has a value; the measure is `up`.
use mathlib.Core.Path.{sym, ◌∙◌}
use native.Mathlib.Omega.{arith}
use Rattle.view.specs.Climb.{climb_start, climb_unset, climb_outside, climb_found, climb_end, climb_room, half_some}
use Rattle.view.proofs.side.Side.climbed.Goals as goal
use Rattle.std.specs.Prelude.{Some}

pub data_bits-held-requires : goal.data_bits-held-requires
data_bits-held-requires c = c.requires.0

pub loop-up-init : goal.loop-up-init
loop-up-init c = climb_start (record { pool = c.args.self.words.now; root = c.args.self.root }) (Some c.args.i) c.args.p c.args.above _ c.requires.1

pub overflow_sub-up : goal.overflow_sub-up
overflow_sub-up c = (half_some (record { pool = c.args.self.words.now; root = c.args.self.root }) (Some c.args.i) c.args.p c.args.above _ _ c.requires.2 c.loop-up.invariant c.loop-up-test.true).0

pub bit-requires : goal.bit-requires
bit-requires c = tt

pub place_prefix-q-requires : goal.place_prefix-q-requires
place_prefix-q-requires c = tt

pub overflow_sub-up-then-bit : goal.overflow_sub-up-then-bit
overflow_sub-up-then-bit c = (half_some (record { pool = c.args.self.words.now; root = c.args.self.root }) (Some c.args.i) c.args.p c.args.above _ _ c.requires.2 c.loop-up.invariant c.loop-up-test.true).0

pub held_value-requires : goal.held_value-requires
held_value-requires c = let g = half_some (record { pool = c.args.self.words.now; root = c.args.self.root }) (Some c.args.i) c.args.p c.args.above _ _ c.requires.2 c.loop-up.invariant c.loop-up-test.true in (c.requires.0, omega arith)

pub loop-up-smaller-in_default : goal.loop-up-smaller-in_default
loop-up-smaller-in_default c = omega arith

pub loop-up-preserved-in_default : goal.loop-up-preserved-in_default
loop-up-preserved-in_default c = climb_outside c.args.self.words.now c.args.self.root c.args.i c.args.p c.args.above _ _ c.requires.2 c.loop-up.invariant c.loop-up-test.true c.requires.3 (omega arith) c.requires.4 _ c.place_prefix-q.ensures _ c.held_value.ensures c.in_default.is

pub place_len-requires : goal.place_len-requires
place_len-requires c = tt

pub overflow_add-result : goal.overflow_add-result
overflow_add-result c = record { fits = climb_room (record { pool = c.args.self.words.now; root = c.args.self.root }) (Some c.args.i) c.args.p c.args.above _ _ c.requires.2 c.loop-up.invariant c.loop-up-test.true c.requires.4 _ c.place_len.ensures }

pub returns-in-Some : goal.returns-in-Some
returns-in-Some c = climb_found c.args.self.words.now c.args.self.root c.args.i c.args.p c.args.above _ _ c.requires.2 c.loop-up.invariant c.loop-up-test.true c.requires.3 (omega arith) c.requires.4 _ c.place_prefix-q.ensures _ c.held_value.ensures _ _ c.in-Some.is c.place_len.ensures

pub loop-up-smaller : goal.loop-up-smaller
loop-up-smaller c = omega arith

pub loop-up-preserved : goal.loop-up-preserved
loop-up-preserved c = climb_unset c.args.self.words.now c.args.self.root c.args.i c.args.p c.args.above _ _ c.requires.2 c.loop-up.invariant c.loop-up-test.true c.requires.3 (omega arith) c.requires.4 _ c.data_bits-held.ensures (sym c.bit.ensures ∙ c.if-bit.false)

pub returns : goal.returns
returns c = climb_end (record { pool = c.args.self.words.now; root = c.args.self.root }) (Some c.args.i) c.args.p c.args.above _ _ c.loop-up.invariant c.loop-up-test.false
