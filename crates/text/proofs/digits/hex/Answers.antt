use Rattle.std.proofs.Common.{◌∙◌}
use Rattle.text.proofs.NumberLaws.{hex_fits}
use Rattle.text.proofs.digits.hex.Goals as goal

pub returns-then-s-count : goal.returns-then-s-count
returns-then-s-count c = c.numeral.ensures ∙ hex_fits _ c.args.s.now c.requires c.if-s-count.true
