-- `sets::covering_difference::down` meets its contract. By whether anything covers the path.
use mathlib.Core.Path.{ap, sym, ◌∙◌, subst}
use native.Mathlib.Omega.{arith}
use Rattle.defs.specs.declared.Prefix.{Prefix}
use Rattle.defs.specs.PrefixLaws.{Whole}
use Rattle.view.specs.Seen.{seen}
use Rattle.view.specs.Descent.{whole_cut}
use Rattle.sets.specs.Aligned as al
use Rattle.sets.proofs.covering_difference.down.Goals as goal

pub cover_at-requires : goal.cover_at-requires
cover_at-requires c = (
  c.requires.0,
  omega arith,
  omega (arith, c.next_five-c.ensures),
  subst Whole (sym c.shortened.ensures) (whole_cut c.args.path c.args.d),
  omega (arith, ap (λ (p : Prefix). p.len) c.shortened.ensures, c.requires.1),
)

pub returns-then-is_some : goal.returns-then-is_some
returns-then-is_some c =
    al.down_covered (seen c.args.right) c.args.path c.args.node c.args.d _ c.next_five-c.ensures (omega (arith, c.next_five-c.ensures)) _ c.shortened.ensures _ c.cover_at.ensures (sym c.is_some.ensures ∙ c.if-is_some.true)

pub returns : goal.returns
returns c =
    al.down_child (seen c.args.right) c.args.path c.args.node c.args.d _ c.next_five-c.ensures (omega (arith, c.next_five-c.ensures)) _ c.shortened.ensures _ c.cover_at.ensures (sym c.is_some.ensures ∙ c.if-is_some.false)
    _ _ c.shortened-2.ensures c.child_at.ensures
