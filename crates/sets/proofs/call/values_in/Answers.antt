-- `sets::call::values_in` meets its contract. A pool without a fault has few values.
use native.Mathlib.Omega.{arith}
use Rattle.std.proofs.Common.{ap, ◌∙◌}
use Rattle.defs.specs.Pool.{ones}
use Rattle.view.specs.Standing.{sane_formed}
use Rattle.sets.specs.Listing.{last_values, sane_values}
use Rattle.sets.proofs.call.values_in.Goals as goal

pub returns-clause-few : goal.returns-clause-few
returns-clause-few c =
    let sane = sane_formed _ c.args.side.formed in
    omega (arith, last_values c.args.side.words.now sane _ c.first_value.ensures _ (c.ones-held.ensures ∙ ap ones c.data_bits.ensures), sane_values c.args.side.words.now sane)
