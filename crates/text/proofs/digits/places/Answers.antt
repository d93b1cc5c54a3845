use Rattle.std.proofs.Common.{arith}
use Rattle.text.proofs.SpellLaws.{places_power, places_zero}
use Rattle.text.proofs.digits.places.Goals as goal

pub returns-in-Some : goal.returns-in-Some
returns-in-Some c = (places_power _ _ c.in-Some.ensures.bound c.in-Some.ensures.power_le c.in-Some.ensures.next_power_gt, omega (arith, c.in-Some.ensures.bound))

pub returns-in-None : goal.returns-in-None
returns-in-None c = (places_zero _ c.in-None.ensures.none, omega arith)
