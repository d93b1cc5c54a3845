use native.Mathlib.Omega.{arith}
use mathlib.Core.Path.{ap, ◌∙◌}
use Prim.Native.Nat.{◌^◌}
use Rattle.pool.specs.CheckLaws.{limit}
use Rattle.defs.specs.Pool.{data_bit}
use Rattle.pool.proofs.data_limit.Goals as goal

pub overflow_shl-result : goal.overflow_shl-result
overflow_shl-result c = (limit c.lengths.result (omega (arith, c.lengths.ensures))).small

pub returns : goal.returns
returns c = (limit c.lengths.result (omega (arith, c.lengths.ensures))).is ∙ ap (λ n. 2 ^ data_bit n 0) c.lengths.ensures
