use Rattle.std.proofs.Common.{◌∙◌}
use Rattle.bits.specs.PlaceLaws.{log_is}
use Rattle.bits.proofs.place_len.Goals as goal

pub returns : goal.returns
returns c = let e = c.checked_ilog2.ensures in c.unwrap_or.ensures ∙ log_is c.args.h _ e.none e.power_le e.next_power_gt e.bound
