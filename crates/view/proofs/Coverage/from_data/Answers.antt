-- `view::Coverage::from_data` meets its contract. What is covered so far and what the entries left cover make up the whole.
use Rattle.std.proofs.Common.{◌≡◌, ap, ◌∙◌, arith}
use Rattle.bits.specs.declared.SetBits.{SetBits}
use Rattle.view.specs.Covered.{covering_start, covering_bit, covering_on, covering_end}
use Rattle.view.proofs.Coverage.from_data.Goals as goal

pub loop-z-init : goal.loop-z-init
loop-z-init c =
    let e : c.into_iter-z-iterator.result.left ≡ c.args.entries = ap (λ (x : SetBits). x.left) c.into_iter-z-iterator.ensures.into_iter_gives ∙ c.set_bits-z-items.ensures ∙ c.from.ensures in
    rw e (covering_start _ (omega arith))

pub of_bit-requires : goal.of_bit-requires
of_bit-requires c = covering_bit _ _ _ _ _ c.loop-z.invariant c.in-Some.ensures.steps

pub loop-z-preserved : goal.loop-z-preserved
loop-z-preserved c = covering_on _ _ _ _ _ c.loop-z.invariant c.in-Some.ensures.steps _ _ c.of_bit.ensures c.with-covered.ensures

pub returns : goal.returns
returns c = covering_end _ _ _ c.loop-z.invariant c.in-None.ensures.steps.0
