-- The word of the first b data bits.
use Rattle.std.proofs.Common.{◌≡◌}
use Rattle.defs.specs.Basics.{up_to}
use Rattle.defs.specs.Tidy.{word_of}
use Rattle.view.specs.Kept.{kept_bit}
use Rattle.view.proofs.kept_places.Given as goal

abbrev pub invariant-loop-b : goal.invariant-loop-b
invariant-loop-b l = l.kept ≡ word_of (kept_bit l.held l.root l.p) (up_to l.b)
