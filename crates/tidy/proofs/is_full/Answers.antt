-- `tidy::is_full` meets its contract. The run of a level decides, all levels above it being blank.
use Rattle.std.proofs.Common.{◌≡◌, ◌+◌, ◌-◌, ℕ, sym, subst, ◌∙◌, arith}
use Rattle.view.specs.Standing.{sane_formed, nodes_few}
use Rattle.tidy.specs.Blank as blank
use Rattle.tidy.proofs.is_full.Goals as goal

pub overflow_add-to : goal.overflow_add-to
overflow_add-to c = omega (arith, c.requires, nodes_few c.args.side.words.now (sane_formed _ c.args.side.formed))

pub loop-level-init : goal.loop-level-init
loop-level-init c =
    let e : c.args.levels ≡ c.args.levels - 0 = omega arith in
    subst (λ (n : ℕ). blank.Sinking c.args.side.words.now c.args.levels c.args.node c.args.node (c.args.node + 1) n) e
    (blank.sinking_start c.args.side.words.now (sane_formed _ c.args.side.formed) c.args.levels c.args.node c.requires)

pub returns-then-from-to : goal.returns-then-from-to
returns-then-from-to c =
    blank.sinking_out c.args.side.words.now (sane_formed _ c.args.side.formed) c.args.levels c.args.node _ _ _ c.loop-level.invariant (omega arith)

pub is_blank-requires : goal.is_blank-requires
is_blank-requires c = c.loop-level.invariant.within

pub returns-then-not-is_blank : goal.returns-then-not-is_blank
returns-then-not-is_blank c =
    blank.sinking_found c.args.side.words.now (sane_formed _ c.args.side.formed) c.args.levels c.args.node _ _ _ c.loop-level.invariant (λ z. omega arith) (sym c.is_blank.ensures ∙ c.if-not-is_blank.true)

pub kids_from-from-requires : goal.kids_from-from-requires
kids_from-from-requires c = omega (arith, c.loop-level.invariant.ordered, c.loop-level.invariant.within)

pub kids_from-to-requires : goal.kids_from-to-requires
kids_from-to-requires c = c.loop-level.invariant.within

pub loop-level-preserved : goal.loop-level-preserved
loop-level-preserved c =
    let e : c.args.levels - c.loop-level.level - 1 ≡ c.args.levels - (c.loop-level.level + 1) = omega arith in
    subst (λ (n : ℕ). blank.Sinking c.args.side.words.now c.args.levels c.args.node c.kids_from-from.result c.kids_from-to.result n) e
    (blank.sinking_on c.args.side.words.now (sane_formed _ c.args.side.formed) c.args.levels c.args.node _ _ _ c.loop-level.invariant (λ z. omega arith) (sym c.is_blank.ensures ∙ c.if-not-is_blank.false) _ _ c.kids_from-from.ensures c.kids_from-to.ensures)

pub returns : goal.returns
returns c = blank.sinking_done c.args.side.words.now (sane_formed _ c.args.side.formed) c.args.levels c.args.node _ _ _ c.loop-level.invariant (omega arith)
