-- `view::Side::place_is_empty` meets its contract. No value is kept, and no child holds anything.
use Rattle.std.proofs.Common.{◌≡◌, ap, sym, ◌∙◌, arith}
use Rattle.view.specs.Spreads.{below_all}
use Rattle.view.specs.Emptiness.{below_next}
use Rattle.view.specs.EmptyViews.{asked, under_kept, searching_fails, searching_ends}
use Rattle.view.proofs.side.Side.place_is_empty.Goals as goal

pub kept_data-requires : goal.kept_data-requires
kept_data-requires c = (c.requires.0, c.requires.1.whole, omega (arith, c.requires.1.depth))

pub returns-then-kept_data-ne0 : goal.returns-then-kept_data-ne0
returns-then-kept_data-ne0 c = under_kept c.args.self.words.now c.args.self.root c.args.levels c.args.node c.args.p _ c.kept_data.ensures c.if-kept_data-ne0.true

pub returns-then-not-kid_is_empty : goal.returns-then-not-kid_is_empty
returns-then-not-kid_is_empty c =
    searching_fails c.args.self.words.now c.args.self.root c.args.levels c.args.node c.args.p _ c.kept_data.ensures c.if-kept_data-ne0.false _ (omega arith) (sym c.kid_is_empty.ensures ∙ c.if-not-kid_is_empty.true)

pub loop-c-preserved : goal.loop-c-preserved
loop-c-preserved c = below_next (asked c.args.self.words.now c.args.self.root c.args.levels c.args.node c.args.p) _ c.loop-c.invariant (sym c.kid_is_empty.ensures ∙ c.if-not-kid_is_empty.false)

pub returns : goal.returns
returns c =
    let e : c.loop-c.c ≡ 32 = omega arith in
    searching_ends c.args.self.words.now c.args.self.root c.args.levels c.args.node c.args.p _ c.kept_data.ensures c.if-kept_data-ne0.false
    (ap (below_all (asked c.args.self.words.now c.args.self.root c.args.levels c.args.node c.args.p)) (sym e) ∙ c.loop-c.invariant)
