use Rattle.std.proofs.Common.{sym, refl, ◌∙◌, arith}
use Rattle.bits.specs.Worked.{prefix_none, prefix_long, prefix_is}
use Rattle.bits.proofs.place_prefix.Goals.{then-n-eq0-via-then-n-eq0, then-n-eq0-via-else-n-eq0+then-p-gt64, then-n-eq0-via-else-n-eq0+else-p-gt64+then-p-n}
use Rattle.bits.proofs.place_prefix.Goals as goal

pub returns-then-n-eq0 : goal.returns-then-n-eq0
returns-then-n-eq0 c =
    elim c.then-n-eq0.branch [
      | then-n-eq0-via-then-n-eq0 w ↦ prefix_none c.args.p c.args.h (omega arith) (omega arith) (sym c.place_len-n.ensures ∙ w.if-n-eq0.true)
      | then-n-eq0-via-else-n-eq0+then-p-gt64 w ↦ prefix_long c.args.p c.args.h (omega arith) (omega arith)
      | then-n-eq0-via-else-n-eq0+else-p-gt64+then-p-n w ↦ prefix_long c.args.p c.args.h (omega arith) (omega (arith, c.place_len-n.ensures))
    ]

pub returns : goal.returns
returns c = prefix_is _ _ (omega arith) _ _ _ c.place_len-n.ensures (c.from.ensures ∙ c.place_value.ensures) (omega arith) (omega arith) refl
