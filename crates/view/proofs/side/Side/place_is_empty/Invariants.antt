-- The first c children hold nothing.
use Rattle.std.proofs.Common.{◌≡◌, true}
use Rattle.view.specs.Spreads.{below_all}
use Rattle.view.specs.EmptyViews.{asked}
use Rattle.view.proofs.side.Side.place_is_empty.Given as goal

abbrev pub invariant-loop-c : goal.invariant-loop-c
invariant-loop-c l = below_all (asked l.self.words.now l.self.root l.levels l.node l.p) l.c ≡ true
