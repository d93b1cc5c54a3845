-- `view::Coverage::of_bit` meets its contract. One computed test over the table gives its rule at each row.
use Rattle.std.proofs.Common.{refl}
use Rattle.std.specs.Int.Count.{count_leading_zeros}
use Rattle.bits.specs.Places.{place_len, place_value}
use Rattle.view.specs.declared.TheConstants.{COVERED}
use Rattle.view.specs.Covered.{covers_right, words_of, bit_covers}
use Rattle.view.proofs.Coverage.of_bit.Goals as goal

pub returns : goal.returns
unfolding covers_right words_of place_len place_value count_leading_zeros
returns c = bit_covers COVERED refl c.args.z c.requires
