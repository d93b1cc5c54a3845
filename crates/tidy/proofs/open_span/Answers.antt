-- `tidy::open_span` meets its contract. The places are a block that the next 5 bits of the root lie in.
use Rattle.tidy.specs.Runs as runs
use native.Mathlib.Omega.{arith}
use lib.Pow.{pow_pos}
use Prim.Native.Nat.{◌+◌, ◌-◌}
use native.Mathlib.Nat.{mod-le}
use Rattle.tidy.proofs.open_span.Goals as goal

pub returns-then-depth-gt59 : goal.returns-then-depth-gt59
returns-then-depth-gt59 c = runs.ahead_none c.args.root c.args.depth c.requires.1 c.if-depth-gt59.true

pub nonzero_rem-low : goal.nonzero_rem-low
nonzero_rem-low c = omega (arith, c.open_places-size.ensures, pow_pos (c.args.depth + 5 - c.args.root.len))

pub overflow_sub-low : goal.overflow_sub-low
overflow_sub-low c = mod-le _ _

pub overflow_add-result : goal.overflow_add-result
overflow_add-result c = omega (arith, (runs.ahead_of c.args.root c.requires.1 c.args.depth c.requires.0 (omega arith) _ _ c.open_places-size.ensures c.next_five-next.ensures (omega arith)).inside)

pub returns : goal.returns
returns c = runs.ahead_of c.args.root c.requires.1 c.args.depth c.requires.0 (omega arith) _ _ c.open_places-size.ensures c.next_five-next.ensures (omega arith)
