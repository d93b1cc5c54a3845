use Rattle.std.proofs.Common.{sym, ◌∙◌, arith}
use Rattle.text.proofs.NumberLaws.{hex_below}
use Rattle.text.proofs.digits.bitmap.Goals as goal

pub overflow_cast-result : goal.overflow_cast-result
overflow_cast-result c = omega (arith, hex_below 8 c.args.s.now c.in_ok-hex.field-0 (sym c.in_ok-hex.was ∙ c.hex.ensures))
