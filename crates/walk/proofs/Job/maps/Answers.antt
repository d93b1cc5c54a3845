-- `walk::Job::maps` meets its contract. A covering difference asks what the right side covers.
use Rattle.walk.proofs.Job.maps.Goals as goal

pub returns-in-CoveringDifference : goal.returns-in-CoveringDifference
returns-in-CoveringDifference c = rw (c.in-CoveringDifference.is, ← c.bitmaps_at-a.ensures, ← c.kept_data-kept.ensures, ← c.from_data.ensures) c.wanted-in-CoveringDifference.ensures
