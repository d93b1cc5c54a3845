use Rattle.std.proofs.Common.{sym, arith}
use Rattle.bits.specs.Worked.{mask_is, mask_long}
use Rattle.bits.proofs.mask.Goals as goal

pub returns-then-len-lt64 : goal.returns-then-len-lt64
returns-then-len-lt64 c = mask_is c.args.len (omega arith)

pub returns-else-len-lt64 : goal.returns-else-len-lt64
returns-else-len-lt64 c = sym (mask_long c.args.len (omega arith))
