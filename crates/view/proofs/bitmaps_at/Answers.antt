-- `view::bitmaps_at` meets its contract. By the cases of the node.
use mathlib.Core.Path.{sym, ap}
use Rattle.view.specs.Standing.{in_at, bitmaps_of}
use Rattle.view.proofs.bitmaps_at.Goals as goal

pub data_bits-requires : goal.data_bits-requires
data_bits-requires c = in_at _ _ _ c.in-Some.is c.requires

pub child_bits-requires : goal.child_bits-requires
child_bits-requires c = in_at _ _ _ c.in-Some.is c.requires

pub returns-in-None : goal.returns-in-None
returns-in-None c = sym (ap (bitmaps_of c.args.words.now) c.in-None.is)

pub returns-in-Some : goal.returns-in-Some
returns-in-Some c = rw (c.data_bits.ensures, c.child_bits.ensures) (sym (ap (bitmaps_of c.args.words.now) c.in-Some.is))
