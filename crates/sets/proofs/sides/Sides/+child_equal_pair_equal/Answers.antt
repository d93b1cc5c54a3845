-- `sets::Sides::child_equal` and `pair_equal` meet their contracts. A pair asks its children with its own levels, and a child asks its pair with one level less.
use Rattle.std.proofs.Common.{◌≡◌, ap, ◌+◌, ◌*◌, ◌-◌, ◌<◌, ◌≤◌, ℕ, sym, ◌∙◌, subst, arith}
use Rattle.bits.specs.declared.SetBits.{SetBits}
use Rattle.view.specs.Seen.{seen}
use Rattle.sets.specs.Equality.{child_last, child_paired, child_pair, comparing_start, comparing_on, next_inside, pair_differs, comparing_fails, comparing_ends}
use Rattle.sets.proofs.sides.Sides.+child_equal_pair_equal.Goals as goal

at_least : {n : ℕ} → (n ≡ 0 → ⊥) → 1 ≤ n
at_least h = omega arith

one_less : {n : ℕ} → (n ≡ 0 → ⊥) → 2 * (n - 1) + 1 < 2 * n
one_less h = omega arith

pub child_equal-returns-then-levels-eq0 : goal.child_equal-returns-then-levels-eq0
child_equal-returns-then-levels-eq0 t c = child_last (seen c.args.self.now.left) (seen c.args.self.now.right) c.args.p c.args.left c.args.right c.args.levels c.requires.0 (omega (arith, c.well_formed.1.1.1.0)) c.args.c c.requires.1 c.if-levels-eq0.true

pub child_equal-overflow_sub-levels : goal.child_equal-overflow_sub-levels
child_equal-overflow_sub-levels t c = at_least c.if-levels-eq0.false

pub child_equal-pair_equal-requires : goal.child_equal-pair_equal-requires
child_equal-pair_equal-requires t c = (subst (λ (x : ℕ). 2 * (c.args.levels - 1) + 1 < x) c.decreases (one_less c.if-levels-eq0.false), child_paired (seen c.args.self.now.left) (seen c.args.self.now.right) c.args.p c.args.left c.args.right c.args.levels c.requires.0 (omega (arith, c.well_formed.1.1.1.0)) c.args.c c.requires.1 c.if-levels-eq0.false _ c.place_prefix-q.ensures _ _ c.child_at-a.ensures c.child_at-b.ensures)

pub child_equal-returns : goal.child_equal-returns
child_equal-returns t c = child_pair (seen c.args.self.now.left) (seen c.args.self.now.right) c.args.p c.args.left c.args.right c.args.levels c.requires.0 (omega (arith, c.well_formed.1.1.1.0)) c.args.c c.requires.1 c.if-levels-eq0.false _ c.place_prefix-q.ensures _ _ c.child_at-a.ensures c.child_at-b.ensures _ c.pair_equal.ensures

pub pair_equal-returns-then-a-b : goal.pair_equal-returns-then-a-b
pair_equal-returns-then-a-b t c = pair_differs (seen c.args.self.now.left) (seen c.args.self.now.right) c.args.p c.args.left c.args.right c.args.levels _ _ c.kept_data-a.ensures c.kept_data-b.ensures c.if-a-b.true

pub pair_equal-child_equal-requires : goal.pair_equal-child_equal-requires
pair_equal-child_equal-requires t c = (subst (λ (x : ℕ). 2 * c.args.levels < x) c.decreases (omega arith), (c.requires, next_inside (seen c.args.self.now.left) (seen c.args.self.now.right) c.args.p c.args.left c.args.right c.args.levels _ _ _ c.loop-c.invariant c.in-Some.ensures.steps))

pub pair_equal-returns-then-not-child_equal : goal.pair_equal-returns-then-not-child_equal
pair_equal-returns-then-not-child_equal t c = comparing_fails (seen c.args.self.now.left) (seen c.args.self.now.right) c.args.p c.args.left c.args.right c.args.levels _ _ c.kept_data-a.ensures c.kept_data-b.ensures c.if-a-b.false _ (next_inside (seen c.args.self.now.left) (seen c.args.self.now.right) c.args.p c.args.left c.args.right c.args.levels _ _ _ c.loop-c.invariant c.in-Some.ensures.steps) (sym c.child_equal.ensures ∙ c.if-not-child_equal.true)

pub pair_equal-returns : goal.pair_equal-returns
pair_equal-returns t c = comparing_ends (seen c.args.self.now.left) (seen c.args.self.now.right) c.args.p c.args.left c.args.right c.args.levels _ _ c.kept_data-a.ensures c.kept_data-b.ensures c.if-a-b.false _ c.in-None.ensures.steps.0 c.loop-c.invariant

pub pair_equal-loop-c-init : goal.pair_equal-loop-c-init
pair_equal-loop-c-init t c =
    let e : c.into_iter-c-iterator.result.left ≡ c.wanted-places.result.child = ap (λ (x : SetBits). x.left) c.into_iter-c-iterator.ensures.into_iter_gives ∙ c.set_bits-c-items.ensures ∙ c.from.ensures in
    rw e (comparing_start (seen c.args.self.now.left) (seen c.args.self.now.right) c.args.p c.args.left c.args.right c.args.levels _ _ _ c.bitmaps_at-l.ensures c.bitmaps_at-r.ensures c.wanted-places.ensures (omega arith))

pub pair_equal-loop-c-preserved : goal.pair_equal-loop-c-preserved
pair_equal-loop-c-preserved t c = comparing_on (seen c.args.self.now.left) (seen c.args.self.now.right) c.args.p c.args.left c.args.right c.args.levels _ _ _ c.loop-c.invariant c.in-Some.ensures.steps (sym c.child_equal.ensures ∙ c.if-not-child_equal.false)
