use Rattle.std.proofs.Common.{sym, ◌∙◌}
use Rattle.text.proofs.NumberLaws.{read_bad}
use Rattle.text.proofs.digits.numeral.Goals as goal

pub returns-in_err-n : goal.returns-in_err-n
returns-in_err-n c = c.from_residual.ensures ∙ read_bad _ _ _ _ _ c.loop-c.invariant c.requires c.loop-c-test.true (sym c.in_err-n.was ∙ c.more.ensures)
