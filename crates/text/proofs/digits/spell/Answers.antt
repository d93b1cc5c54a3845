use Rattle.text.proofs.SpellLaws.{spell_on}
use Rattle.text.proofs.digits.spell.Goals as goal

pub loop-i-preserved : goal.loop-i-preserved
loop-i-preserved c = spell_on _ _ _ _ _ _ _ _ c.loop-i.invariant c.loop-i-test.true c.glyph.ensures
