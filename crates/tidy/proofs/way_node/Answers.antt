-- `tidy::way_node` meets its contract. Both words are those of the tidy pool.
use Rattle.tidy.specs.Kept as kept
use Rattle.tidy.proofs.way_node.Goals as goal

pub kept_data-kept-requires : goal.kept_data-kept-requires
kept_data-kept-requires c = (c.requires.inside, kept.here_whole c.args.side.words.now c.args.side.root c.args.i c.args.p c.requires, kept.here_short c.args.side.words.now c.args.side.root c.args.i c.args.p c.requires)

pub returns : goal.returns
returns c = kept.kept_node c.args.side.words.now c.args.side.root c.args.i c.args.p c.requires _ _ c.kept_data-kept.ensures c.used_kids-kids.ensures
