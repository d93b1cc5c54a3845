-- `sets::call::counted` meets its contract. A count of no more records than the pools have values fits.
use Rattle.walk.specs.Ready.{job_of}
use Rattle.sets.specs.Listing.{few_fits}
use Rattle.sets.proofs.call.counted.Goals as goal

pub run-needed-requires-clause-count_fits : goal.run-needed-requires-clause-count_fits
run-needed-requires-clause-count_fits c = few_fits (job_of c.args.job) c.args.start c.requires.0 c.requires.1
