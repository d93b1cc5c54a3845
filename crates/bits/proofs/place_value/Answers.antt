use Rattle.std.proofs.Common.{◌∙◌, arith}
use Rattle.bits.specs.Worked.{value_left}
use Rattle.bits.specs.PlaceLaws.{place_len_short}
use Rattle.bits.proofs.place_value.Goals as goal

pub overflow_shl-place_len : goal.overflow_shl-place_len
overflow_shl-place_len c = omega (arith, c.place_len.ensures, place_len_short c.args.h)

pub returns : goal.returns
returns c = c.saturating_sub.ensures ∙ value_left c.args.h _ c.place_len.ensures
