-- `view::keeps` meets its contract. By the test of the bit.
use mathlib.Core.Path.{sym, ◌∙◌}
use native.Mathlib.Omega.{arith}
use Rattle.view.specs.Kept.{keep_test}
use Rattle.view.proofs.keeps.Goals as goal

pub returns-then-bit : goal.returns-then-bit
returns-then-bit c =
    c.leads.ensures ∙ keep_test c.args.held c.args.root c.args.p c.args.b c.requires.0 c.requires.1 c.requires.2 (omega arith) (sym c.bit.ensures ∙ c.if-bit.true) _ c.place_prefix.ensures
