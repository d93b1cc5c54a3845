-- `view::Side::kept_data` meets its contract. By the cases of the node; where the root leads the node's prefix, every set bit is kept.
use mathlib.Core.Path.{sym, ap, ◌∙◌}
use Rattle.view.specs.Standing.{sane_formed, in_at}
use Rattle.view.specs.Kept.{kept_of, kept_whole, kept_by_places, kept_none}
use Rattle.view.proofs.side.Side.kept_data.Goals as goal

pub data_bits-held-requires : goal.data_bits-held-requires
data_bits-held-requires c = in_at _ _ _ c.in-Some.is c.requires.0

pub returns-then-leads : goal.returns-then-leads
returns-then-leads c = kept_whole c.args.self.words.now c.args.self.root c.args.p _ _ c.data_bits-held.ensures (sane_formed _ c.args.self.formed) (in_at _ _ _ c.in-Some.is c.requires.0) c.requires.1 c.requires.2 (sym c.leads.ensures ∙ c.if-leads.true) ∙ ap (λ o. kept_of c.args.self.words.now c.args.self.root o c.args.p) (sym c.in-Some.is)

pub returns-in_default : goal.returns-in_default
returns-in_default c = kept_none c.args.self.words.now c.args.self.root c.args.p ∙ ap (λ o. kept_of c.args.self.words.now c.args.self.root o c.args.p) (sym c.in_default.is)

pub returns : goal.returns
returns c = c.kept_places.ensures ∙ kept_by_places c.args.self.words.now c.args.self.root c.args.p _ _ c.data_bits-held.ensures ∙ ap (λ o. kept_of c.args.self.words.now c.args.self.root o c.args.p) (sym c.in-Some.is)
