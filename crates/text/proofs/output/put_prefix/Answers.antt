use mathlib.Core.Path.{ap}
use mathlib.Core.List.{◌∷◌, ◌++◌}
use Rattle.text.specs.Numbers.{hex_text}
use Rattle.text.specs.Output.{number_field}
use Rattle.text.proofs.BufferLaws.{wrote_next, wrote_is}
use Rattle.text.proofs.output.put_prefix.Goals as goal

pub returns : goal.returns
returns c = let a = c.args in wrote_is (wrote_next _ _ _ _ (wrote_next _ _ _ _ c.put_byte-a.ensures _ _ _ c.put_key.ensures) _ _ _ c.put_number.ensures) (ap (λ l. (l ∷ 9 ∷ hex_text a.key) ++ number_field a.len) c.letter.ensures)
