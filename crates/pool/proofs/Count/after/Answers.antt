use native.Mathlib.Omega.{arith}
use Rattle.bits.specs.WordLaws.{ones_le}
use Rattle.pool.proofs.Count.after.Goals as goal

pub overflow_add-result : goal.overflow_add-result
overflow_add-result c = omega (arith, c.ones-kids.ensures, ones_le c.child_bits.result)

pub overflow_add-result-2 : goal.overflow_add-result-2
overflow_add-result-2 c = omega (arith, c.ones-kids.ensures, ones_le c.child_bits.result)

pub overflow_add-result-3 : goal.overflow_add-result-3
overflow_add-result-3 c = omega (arith, c.ones.ensures, ones_le c.data_bits.result)
