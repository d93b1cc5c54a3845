use Rattle.std.proofs.Common.{sym, ◌∙◌, rules, tests}
use Rattle.std.proofs.lemmas.Iterator.{YieldsList-from_slice}
use Rattle.std.proofs.lemmas.Iterator.Search.{position_from_yields_List}
use Rattle.text.proofs.LineLaws.{split_at, split_none}
use Rattle.text.proofs.lines.split_line.Goals as goal

pub returns-in-Some : goal.returns-in-Some
returns-in-Some c =
    let p = split_at c.args.input.now c.in-Some.end (sym c.in-Some.is ∙ position_from_yields_List _ _ _ c.position.result c.position.ensures.ran (YieldsList-from_slice c.args.input.now c.iter.ensures.rest) (λ x b q k. search (rules, tests))) in
    record { first = search rules; others = search rules }

pub returns-in-None : goal.returns-in-None
returns-in-None c =
    let p = split_none c.args.input.now (sym c.in-None.is ∙ position_from_yields_List _ _ _ c.position.result c.position.ensures.ran (YieldsList-from_slice c.args.input.now c.iter.ensures.rest) (λ x b q k. search (rules, tests))) in
    record { first = search rules; others = search rules }
