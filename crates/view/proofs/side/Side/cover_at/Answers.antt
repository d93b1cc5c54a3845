use Rattle.bits.specs.Places.{place_len, place_value}
use Rattle.view.specs.Climb.{no_node}
use Rattle.view.specs.Standing.{in_at}
use Rattle.view.proofs.side.Side.cover_at.Goals as goal

pub climbed-requires : goal.climbed-requires
climbed-requires c = let e = c.in-Some.is in (in_at _ _ _ e c.requires.0, c.requires.1, c.requires.2, c.requires.3, c.requires.4)

pub returns-in-None : goal.returns-in-None
returns-in-None c = rw c.in-None.is (no_node (record { pool = c.args.self.words.now; root = c.args.self.root }) c.args.p c.args.above (place_len c.args.h) (place_value c.args.h))

pub returns-in-Some : goal.returns-in-Some
returns-in-Some c = rw c.in-Some.is c.climbed.ensures
