-- `tidy::full_kids` meets its contract. The word of the children asked so far.
use Rattle.std.proofs.Common.{◌≡◌, ap, ◌∙◌, arith}
use Rattle.bits.specs.declared.SetBits.{SetBits}
use Rattle.view.specs.Standing.{sane_formed}
use Rattle.tidy.specs.Full as full
use Rattle.tidy.proofs.full_kids.Goals as goal

pub loop-c-init : goal.loop-c-init
loop-c-init c =
    let e : c.into_iter-c-iterator.result.left ≡ c.child_bits-held.result = ap (λ (x : SetBits). x.left) c.into_iter-c-iterator.ensures.into_iter_gives ∙ c.set_bits-c-items.ensures ∙ c.from.ensures in
    rw e (full.asking_start c.args.side.words.now (sane_formed _ c.args.side.formed) c.args.levels c.args.i c.requires _ _ (omega arith) c.child_bits-held.ensures c.first_child-node.ensures)

pub is_full-requires : goal.is_full-requires
is_full-requires c = full.asking_inside c.args.side.words.now (sane_formed _ c.args.side.formed) c.args.levels c.args.i c.requires _ _ _ _ _ c.loop-c.invariant c.in-Some.ensures.steps

pub with_bit-word-requires : goal.with_bit-word-requires
with_bit-word-requires c = (full.asking_bit c.args.side.words.now (sane_formed _ c.args.side.formed) c.args.levels c.args.i c.requires _ _ _ _ _ c.loop-c.invariant c.in-Some.ensures.steps, full.asking_word c.args.side.words.now (sane_formed _ c.args.side.formed) c.args.levels c.args.i c.requires _ _ _ _ _ c.loop-c.invariant c.in-Some.ensures.steps)

pub overflow_add-node : goal.overflow_add-node
overflow_add-node c = omega (arith, full.asking_next c.args.side.words.now (sane_formed _ c.args.side.formed) c.args.levels c.args.i c.requires _ _ _ _ _ c.loop-c.invariant c.in-Some.ensures.steps)

pub loop-c-preserved : goal.loop-c-preserved
loop-c-preserved c = full.asking_on c.args.side.words.now (sane_formed _ c.args.side.formed) c.args.levels c.args.i c.requires _ _ _ _ _ c.loop-c.invariant c.in-Some.ensures.steps _ c.is_full.ensures _ c.with_bit-word.ensures

pub returns : goal.returns
returns c = full.asking_end c.args.side.words.now (sane_formed _ c.args.side.formed) c.args.levels c.args.i c.requires _ _ _ c.in-None.ensures.steps.0 c.loop-c.invariant
