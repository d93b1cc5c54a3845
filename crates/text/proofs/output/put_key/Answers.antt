use Rattle.text.specs.Numbers.{hex_text}
use Rattle.text.proofs.output.put_key.Goals as goal

pub returns : goal.returns
unfolding hex_text
returns c = c.put_digits.ensures
