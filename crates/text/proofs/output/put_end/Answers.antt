use Rattle.text.proofs.BufferLaws.{wrote_next}
use Rattle.text.proofs.output.put_end.Goals as goal

pub returns : goal.returns
returns c = wrote_next _ _ _ _ (wrote_next _ _ _ _ (wrote_next _ _ _ _ c.put_byte-a.ensures _ _ _ c.put_number.ensures) _ _ _ c.put_number-2.ensures) _ _ _ c.put_byte.ensures
