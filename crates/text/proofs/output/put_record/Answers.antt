use Rattle.text.proofs.BufferLaws.{wrote_next}
use Rattle.text.proofs.output.put_record.Goals as goal

pub returns : goal.returns
returns c = wrote_next _ _ _ _ c.put_prefix-a.ensures _ _ _ c.put_values.ensures
