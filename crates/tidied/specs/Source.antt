-- A pool without a fault, node by node in order: the prefix of each node, and which of them the tidy pool of a view has.
use Rattle.std.specs.Prelude.{◌≡◌, true, ℕ, suc, ◌+◌, ◌-◌, ◌≤◌, ◌<◌, length, get_or}
use Rattle.std.proofs.Math.Path.{refl, ap, subst}
use Rattle.std.proofs.Common.{sym, ◌∙◌, arith, zero-add}
use mathlib.Core.List.{List, ◌∷◌, map}
use Rattle.std.proofs.Math.ListN.{get_or-map}
use Rattle.defs.specs.declared.Prefix.{Prefix}
use Rattle.defs.specs.Basics.{keep, up_to}
use Rattle.defs.specs.Prefix.{deeper, top}
use Rattle.defs.specs.Pool.{node_count, child_of, first_child, bit, rank}
use Rattle.defs.specs.Entries.{view}
use Rattle.defs.specs.Tidy.{is_under, nodes_of}
use Rattle.defs.specs.Lemmas.{All, keep_map, map_map}
use Rattle.pool.specs.Sound.{Formed, depth}
use Rattle.tidied.specs.ListFacts.{run, all_tail, all_head, up_to_member, at_run, all_at, all_by, all_uneach, drop_run}
use Rattle.tidied.specs.Find.{Seen}
use Rattle.tidied.specs.Spots.{Spot, root_spot, kid_at, kids_at, spots_under, spots, used, nodes_spots, formed_laid, spots_run, spots_count, spots_placed, spots_fix, spots_seen}

-- node i with its prefix
abbrev pub spot_at : List ℕ → ℕ → Spot
spot_at w i = get_or (spots w) i root_spot

-- the prefix of node i
unfoldable pub prefix_at : List ℕ → ℕ → Prefix
prefix_at w i = (spot_at w i).at

-- a spot stands where its number says
abbrev pub Own : List ℕ → Spot → Type 0
Own w s = spot_at w s.node ≡ s

module _ (width : ℕ) (w : List ℕ) (most : width ≤ 64) (ok : Formed width w) where
  -- node i stands at index i
  pub id_at : (i : ℕ) → i < node_count w → (spot_at w i).node ≡ i
  id_at i h =
      let c = spots_count width w ok most in
      sym (get_or-map (λ (s : Spot). s.node) (spots w) i root_spot)
      ∙ ap (λ (l : List ℕ). get_or l i 0) (spots_run w (formed_laid width w ok))
      ∙ at_run 0 (length (spots w)) i 0 (omega arith)
      ∙ zero-add i

  -- the root's prefix is 0/0
  pub prefix_root : prefix_at w 0 ≡ top
  unfolding prefix_at
  prefix_root = refl

  -- node i, with its prefix, holds what is below its prefix: so many levels from its own on, for some number
  pub prefix_seen : (i : ℕ) → i < node_count w → (k : ℕ) × Seen w (suc k) i (prefix_at w i)
  unfolding prefix_at
  prefix_seen i h =
      let c = spots_count width w ok most in
      let r = all_at (spots_seen w) i root_spot (omega arith) in
      (r.0, subst (λ (j : ℕ). Seen w (suc r.0) j (spot_at w i).at) (id_at i h) r.1)

  -- its length is the node's depth
  pub prefix_depth : (i : ℕ) → i < node_count w → depth w i ≡ (prefix_at w i).len
  unfolding prefix_at
  prefix_depth i h =
      let c = spots_count width w ok most in
      ap (depth w) (sym (id_at i h)) ∙ (all_at (spots_placed width w ok most) i root_spot (omega arith)).1

  own : All (Own w) (spots w)
  own = all_by (spots w) root_spot (λ i h. ap (spot_at w) (id_at i (let c = spots_count width w ok most in omega arith)))

  pub kids_own : All (λ s. All (Own w) (spots_under w s)) (spots w)
  kids_own = all_uneach (spots_under w) (spots w) (subst (All (Own w)) (spots_fix width w ok most) (all_tail own))

  kid_own : (s : Spot) → All (Own w) (spots_under w s) → (c : ℕ) → c < 32 → bit c (child_of w s.node) ≡ true → Own w (kid_at w s c)
  unfolding spots_under
  kid_own s a c l b = let k : All (Own w) (kids_at w s c) = up_to_member 32 (all_uneach (kids_at w s) (up_to 32) a) c l in all_head (rw b at k)

  -- the child in place c has five bits more, of value c
  pub prefix_child : (i c : ℕ) → i < node_count w → c < 32 → bit c (child_of w i) ≡ true → prefix_at w (first_child w i + rank c (child_of w i)) ≡ deeper (prefix_at w i) 5 c
  unfolding prefix_at
  prefix_child i c h l b =
      let n = spots_count width w ok most in
      let e = id_at i h in
      let o = kid_own (spot_at w i) (all_at kids_own i root_spot (omega arith)) c l (ap (λ (j : ℕ). bit c (child_of w j)) e ∙ b) in
      ap (λ (j : ℕ). (spot_at w (first_child w j + rank c (child_of w j))).at) (sym e) ∙ ap (λ (s : Spot). s.at) o

  -- the nodes of the tidy pool of a view, in order: the root, and the source's other nodes that have an entry of the view in them or below them
  pub nodes_in_order : (root : Prefix) → nodes_of (view w root) ≡ map (prefix_at w) (0 ∷ keep (λ i. is_under (view w root) (prefix_at w i)) (run 1 (node_count w - 1)))
  unfolding prefix_at
  nodes_in_order root =
      let c = spots_count width w ok most in
      nodes_spots w root
      ∙ ap (λ (ss : List Spot). top ∷ map (λ (s : Spot). s.at) (keep (used w root) ss)) (drop_run (spots w) root_spot 1 (node_count w - 1) (let s = ok.some in omega arith))
      ∙ ap (λ (ss : List Spot). top ∷ map (λ (s : Spot). s.at) ss) (keep_map (used w root) (spot_at w) (run 1 (node_count w - 1)))
      ∙ ap (top ∷◌) (map_map (λ (s : Spot). s.at) (spot_at w) (keep (λ i. used w root (spot_at w i)) (run 1 (node_count w - 1))))
