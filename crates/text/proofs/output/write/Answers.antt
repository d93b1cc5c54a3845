use mathlib.Core.Path.{ap}
use Rattle.text.specs.Output.{record_lines}
use Rattle.text.proofs.BufferLaws.{wrote_next, wrote_is}
use Rattle.text.proofs.output.write.Goals as goal

pub returns : goal.returns
returns c = wrote_next _ _ _ _ (wrote_is c.put_records-at.ensures (ap (λ k. record_lines k c.args.words.now) c.shown.ensures)) _ _ _ c.put_end.ensures
