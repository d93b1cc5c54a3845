-- `tidy::put_values` meets its contract. Values that are all kept are one after the other.
use Rattle.tidy.specs.Chosen as chosen
use native.Mathlib.Omega.{arith}
use Rattle.bits.specs.WordLaws.{ones_le}
use mathlib.Core.Path.{◌∙◌, ap}
use mathlib.Core.List.{List}
use Prim.Native.Nat.{ℕ}
use Rattle.defs.specs.Pool.{ones}
use Rattle.tidy.proofs.put_values.Goals as goal

pub put_all-requires : goal.put_all-requires
put_all-requires c = (omega (arith, c.ones.ensures, ap ones c.if-kept-held.true), omega (arith, c.ones.ensures, ones_le c.args.held))

pub put_some-requires : goal.put_some-requires
put_some-requires c = (c.requires.1, c.requires.2)

pub returns-then-kept-held : goal.returns-then-kept-held
returns-then-kept-held c = c.put_all.ensures ∙ ap (λ (l : List ℕ). chosen.over l c.args.values.now) (chosen.values_all _ _ _ _ c.requires.0 c.if-kept-held.true c.ones.ensures)

pub returns-else-kept-held : goal.returns-else-kept-held
returns-else-kept-held c = c.put_some.ensures
