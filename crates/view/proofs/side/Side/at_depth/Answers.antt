-- `view::Side::at_depth` meets its contract. One level down at each turn.
use Rattle.std.proofs.Common.{◌*◌, ◌/◌, ◌≡◌, sym, ap, ◌∙◌, subst, arith, add-one}
use Rattle.view.specs.Standing.{NodeIn, sane_formed}
use Rattle.view.specs.Descent.{down_of, node_down, node_down_in}
use Rattle.view.proofs.side.Side.at_depth.Goals as goal

pub next_down-node-requires : goal.next_down-node-requires
next_down-node-requires c = (subst (NodeIn c.args.self.words.now) (sym c.loop-k.invariant) (node_down_in c.args.self.words.now c.args.self.root (sane_formed _ c.args.self.formed) c.loop-k.k), omega (arith, c.requires))

pub loop-k-preserved : goal.loop-k-preserved
loop-k-preserved c =
    c.next_down-node.ensures ∙ ap (λ o. down_of c.args.self.words.now c.args.self.root o (5 * c.loop-k.k)) c.loop-k.invariant ∙ ap (node_down c.args.self.words.now c.args.self.root) (sym (add-one c.loop-k.k))

pub returns : goal.returns
returns c = let e : c.loop-k.k ≡ c.args.depth / 5 = omega arith in c.loop-k.invariant ∙ ap (node_down c.args.self.words.now c.args.self.root) e
