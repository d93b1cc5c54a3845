use Rattle.std.proofs.Common.{refl, ◌∙◌, ap, replicate}
use Rattle.defs.specs.Outcome.{answer}
use Rattle.answer.specs.Replies.{pools_inside, good_wrote, bad_wrote}
use Rattle.answer.proofs.answer.Goals as goal

pub said-a-requires : goal.said-a-requires
said-a-requires c = pools_inside c.args.input.now _ _ _ _ _ c.read.ensures _ c.in-Ok.is

pub returns-in-Ok : goal.returns-in-Ok
returns-in-Ok c = good_wrote c.args.input.now _ _ _ _ _ c.read.ensures refl refl _ c.in-Ok.is refl c.said-a.ensures c.write.ensures

pub returns-in-Err : goal.returns-in-Err
returns-in-Err c = bad_wrote c.args.input.now _ _ _ _ _ c.read.ensures refl refl _ c.in-Err.is (c.from-refused.ensures ∙ ap (λ n. answer 9 n 0) c.line_number.ensures) (replicate 3072 0) c.write-in-Err.ensures
