use Rattle.std.proofs.Common.{◌%◌, ap, ◌∙◌, arith}
use lib.Count.{ones}
use Rattle.bits.specs.Worked.{one_shl}
use Rattle.bits.specs.WordLaws.{rank_low, rank_all}
use Rattle.bits.proofs.rank.Goals as goal

pub returns-then-b-lt32 : goal.returns-then-b-lt32
returns-then-b-lt32 c = ap (λ n. ones (c.args.word % n)) (one_shl 32 c.args.b (omega arith)) ∙ rank_low c.args.b c.args.word

pub returns-else-b-lt32 : goal.returns-else-b-lt32
returns-else-b-lt32 c = rank_all 32 c.args.b c.args.word (omega arith) (omega arith)
