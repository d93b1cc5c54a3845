use Rattle.std.proofs.Common.{eqb, ◌∙◌, ap₂, arith}
use borrow.Author.Tests.{lt-leb}
use Rattle.bits.specs.Worked.{leads_is, leads_longer}
use Rattle.bits.proofs.leads.Goals as goal

pub returns-then-p-q : goal.returns-then-p-q
returns-then-p-q c = ap₂ eqb c.first_bits.ensures c.first_bits-then-p-q.ensures ∙ leads_is _ _ (omega arith)

pub returns-else-p-q : goal.returns-else-p-q
returns-else-p-q c = lt-leb c.args.p.len c.args.q.len (omega arith) ∙ leads_longer _ _ (omega arith)
