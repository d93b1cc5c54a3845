use Rattle.text.proofs.OutputLaws.{marked}
use Rattle.text.proofs.BufferLaws.{wrote_next}
use Rattle.text.proofs.output.put_values.Goals as goal

pub returns : goal.returns
returns c = let a = c.args in wrote_next _ _ _ _ (wrote_next _ _ _ _ (wrote_next _ _ _ _ (marked _ _ a.left c.missing_value-no_value.ensures c.put_mark-a.ensures) _ _ _ (marked _ _ a.right c.missing_value-no_value.ensures c.put_mark.ensures)) _ _ _ (marked _ _ a.cover c.missing_cover-no_cover.ensures c.put_mark-2.ensures)) _ _ _ c.put_byte.ensures
