-- `view::kept_places` meets its contract. A word of b bits has room for the next one.
use Rattle.std.proofs.Common.{◌≡◌, ℕ, ap, ◌∙◌, arith}
use Rattle.defs.specs.Basics.{up_to}
use Rattle.defs.specs.Tidy.{word_of}
use Rattle.view.specs.Kept.{kept_bit, word_below, keeping_on}
use Rattle.view.proofs.kept_places.Goals as goal

pub with_bit-kept-requires : goal.with_bit-kept-requires
with_bit-kept-requires c = (omega arith, rw c.loop-b.invariant (word_below (kept_bit c.args.held c.args.root c.args.p) _))

pub returns : goal.returns
returns c = let e : c.loop-b.b ≡ 31 = omega arith in c.loop-b.invariant ∙ ap (λ (x : ℕ). word_of (kept_bit c.args.held c.args.root c.args.p) (up_to x)) e

pub loop-b-preserved : goal.loop-b-preserved
loop-b-preserved c = keeping_on c.args.held c.args.root c.args.p _ _ c.loop-b.invariant _ c.keeps.ensures _ c.with_bit-kept.ensures
