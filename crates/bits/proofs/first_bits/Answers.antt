use Rattle.std.proofs.Common.{ap, ◌∙◌, arith}
use lib.Bits.{bit_and}
use Rattle.bits.specs.Worked.{mask_cut}
use Rattle.bits.proofs.first_bits.Goals as goal

pub returns : goal.returns
returns c = ap (bit_and c.args.key) c.mask.ensures ∙ mask_cut c.args.len c.args.key (omega arith)
