use Rattle.std.proofs.Common.{rules}
use Rattle.text.proofs.LineLaws.{call_none}
use Rattle.text.proofs.lines.call.Goals as goal

pub returns-else-eq-6 : goal.returns-else-eq-6
returns-else-eq-6 c = search (rules, call_none)
