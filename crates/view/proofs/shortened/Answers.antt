-- `view::shortened` meets its contract. From what the first bits are.
use mathlib.Core.Path.{refl}
use Rattle.defs.specs.PrefixLaws.{prefix_eq}
use Rattle.view.proofs.shortened.Goals as goal

pub returns : goal.returns
returns c = prefix_eq _ _ c.first_bits.ensures refl
