-- `bits::SetBitsIterator::next` meets its contract. The lowest set bit is a part of the word.
use Rattle.std.proofs.Common.{refl, ◌<◌, ◌^◌, arith}
use Rattle.bits.specs.Worked.{one_shl}
use Rattle.bits.specs.SetBits.{Taken, lowest_there, lowest_inside}
use Rattle.bits.proofs.SetBitsIterator.next.Goals as goal

pub overflow_sub-self : goal.overflow_sub-self
overflow_sub-self c =
    let t = c.args.self.now.left in
    let fits : t < 2 ^ 64 = omega arith in
    let n : Taken t _ _ = (omega (arith, c.if-self-eq0.false), refl, refl) in
    omega (arith, lowest_there t _ _ fits n, one_shl 64 _ (lowest_inside t _ _ fits n 64 fits))
