use Rattle.std.proofs.Common.{sym, ◌∙◌, arith}
use borrow.Author.Tests.{le-ltb}
use Rattle.bits.specs.WordLaws.{bit_none}
use Rattle.bits.proofs.bit.Goals as goal

pub returns-else-b-lt32 : goal.returns-else-b-lt32
returns-else-b-lt32 c = le-ltb c.args.b 32 (omega arith) ∙ sym (bit_none 32 c.args.b c.args.word (omega arith) (omega arith))
