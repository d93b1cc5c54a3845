use Rattle.std.proofs.Common.{rules}
use Rattle.bits.specs.Worked.{before_is}
use Rattle.bits.proofs.before.Goals as goal

pub returns : goal.returns
returns c = search (rules, before_is)
