-- `sets::call::most_records` meets its contract. The values of two pools fit a word.
use native.Mathlib.Omega.{arith}
use Rattle.sets.proofs.call.most_records.Goals as goal

pub overflow_add-result : goal.overflow_add-result
overflow_add-result c = record { fits = omega (arith, c.values_in-a.ensures.few, c.values_in.ensures.few) }
