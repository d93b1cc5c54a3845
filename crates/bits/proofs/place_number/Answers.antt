use Rattle.std.proofs.Common.{sym, arith}
use Rattle.bits.specs.Worked.{one_shl, number_wide, number_high}
use Rattle.bits.specs.PlaceLaws.{place_number_lem}
use Rattle.bits.proofs.place_number.Goals.{else-n-lt6-via-then-n-lt6+else-v-n, else-n-lt6-via-else-n-lt6}
use Rattle.bits.proofs.place_number.Goals as goal

pub returns-then-v-n : goal.returns-then-v-n
returns-then-v-n c = rw (one_shl 32 c.args.n (omega arith)) (sym (place_number_lem c.args.n c.args.v (omega arith) (omega (arith, one_shl 32 c.args.n (omega arith)))))

pub returns-else-n-lt6 : goal.returns-else-n-lt6
returns-else-n-lt6 c =
    elim c.else-n-lt6.branch [
      | else-n-lt6-via-then-n-lt6+else-v-n w ↦ number_high c.args.n c.args.v (omega (arith, one_shl 32 c.args.n (omega arith)))
      | else-n-lt6-via-else-n-lt6 w ↦ number_wide c.args.n c.args.v (omega arith)
    ]
