use Rattle.std.proofs.Common.{arith}
use Rattle.bits.specs.WordLaws.{rank_all}
use Rattle.bits.proofs.ones.Goals as goal

pub returns : goal.returns
returns c = rank_all 32 32 c.args.word (omega arith) (omega arith)
