use Rattle.std.proofs.Common.{arith}
use Rattle.bits.specs.CommonLaws.{common_is}
use Rattle.bits.proofs.common_len.Goals as goal

pub returns : goal.returns
returns c = omega (arith, c.min.ensures, c.min-2.ensures, common_is c.args.p c.args.q (omega arith) (omega arith))
