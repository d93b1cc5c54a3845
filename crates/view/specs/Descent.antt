-- The way down to a root: one level at a time, by the root's next 5 bits. The view at the root lies in the node that is reached.
use Rattle.std.specs.Prelude.{◌≡◌, true, ◌&&◌, List, [], ◌∷◌, ℕ, zero, suc, ◌+◌, ◌-◌, ◌*◌, ◌/◌, ◌%◌, ◌^◌, ◌≤◌, ◌<◌, leb, eqb, Option, None, Some}
use Rattle.std.proofs.Math.Path.{refl, sym, ap, ap₂}
use Rattle.std.proofs.Common.{◌∙◌, subst, div-add-mod', mul_assoc, add-mul, mod-lt, pow_pos, pow-add}
use native.Mathlib.Omega.{arith}
use Rattle.std.proofs.Math.Nat.{div-eq_of_lt}
use Rattle.std.proofs.lemmas.Nat.{shl-shr}
use Rattle.std.proofs.Math.Pow.{shr-shr}
use Rattle.defs.specs.declared.Prefix.{Prefix}
use Rattle.defs.specs.Prefix.{first, leads, deeper, top}
use Rattle.defs.specs.Entries.{Entry, entries_at, under, view}
use Rattle.defs.specs.PrefixLaws.{cut, cut_whole, Whole, prefix_eq}
use Rattle.defs.proofs.PrefixLaws.{leads_of}
use Rattle.theory.specs.Sides.{side_entries, child_in}
use Rattle.theory.specs.Down.{next_bits, side_down}
use Rattle.view.specs.declared.RootPlace.{RootPlace}
use Rattle.view.specs.Standing.{Sane, NodeIn, child_in_lem}
use Rattle.theory.specs.Kinds.{Node}

-- the first d bits of a prefix
abbrev pub cut_to : Prefix → ℕ → Prefix
cut_to p d = record { key = cut d p.key; len = d }

-- the child on the way to the root, from its node at depth d
abbrev pub down_of : List ℕ → Prefix → Node → ℕ → Node
down_of w root o d = child_in w root o (next_bits d 5 root.key) (cut_to root (d + 5))

-- the node on the way to the root, k levels down, or none
abbrev pub node_down : List ℕ → Prefix → ℕ → Node
node_down w root zero = Some 0
node_down w root (suc k) = down_of w root (node_down w root k) (5 * k)

-- the place of a root, or none
abbrev pub Found : Type 0
Found = Option RootPlace

-- the place of a root, where its node is known
abbrev pub found_at : Prefix → Node → Found
found_at root None = None
found_at root (Some i) = Some (record { node = i; prefix = cut_to root (root.len / 5 * 5); root = cut_to root root.len })

-- the place of a root
abbrev pub found_of : List ℕ → Prefix → Found
found_of w root = found_at root (node_down w root (root.len / 5))

-- what lies under a place
abbrev pub found_entries : List ℕ → Found → List Entry
found_entries w None = []
found_entries w (Some f) = under f.root (entries_at w (13 - f.prefix.len / 5) f.node f.prefix)

-- ---- first bits

module _ (root : Prefix) (d : ℕ) where
  pub cut_leads : d ≤ root.len → leads (cut_to root d) root ≡ true
  unfolding cut
  cut_leads l = leads_of (cut_to root d) root l (sym (shl-shr (first d root.key) (64 - d)))

  pub whole_cut : Whole (cut_to root d)
  whole_cut = cut_whole d root.key

  -- the root's next bits lead on to its longer prefix
  pub next_cut : (n : ℕ) → d + n ≤ 64 → deeper (cut_to root d) n (next_bits d n root.key) ≡ cut_to root (d + n)
  unfolding cut
  next_cut n l =
      let f = first (d + n) root.key in
      let u = 2 ^ (64 - (d + n)) in
      let e : 64 - d ≡ (64 - (d + n)) + n = omega arith in
      let e' : 64 - d ≡ n + (64 - (d + n)) = omega arith in
      let g : f / 2 ^ n ≡ first d root.key = shr-shr root.key (64 - (d + n)) n ∙ ap (λ (k : ℕ). root.key / 2 ^ k) (sym e) in
      let a : first d root.key * 2 ^ (64 - d) ≡ f / 2 ^ n * 2 ^ n * u =
      ap₂ (λ (x k : ℕ). x * 2 ^ k) (sym g) e' ∙ ap (f / 2 ^ n *◌) (pow-add 2 n (64 - (d + n))) ∙ sym (mul_assoc (f / 2 ^ n) (2 ^ n) u) in
      prefix_eq _ _ (ap (◌+ f % 2 ^ n * u) a ∙ sym (add-mul (f / 2 ^ n * 2 ^ n) (f % 2 ^ n) u) ∙ ap (◌* u) (div-add-mod' f (2 ^ n))) refl

pub cut_top : (root : Prefix) → root.key < 2 ^ 64 → cut_to root 0 ≡ top
unfolding cut
cut_top root h = let z : root.key / 2 ^ 64 ≡ 0 = div-eq_of_lt h in prefix_eq _ _ (ap (◌* 2 ^ 64) z) refl

-- ---- the way down

module _ (w : List ℕ) (root : Prefix) where
  -- FOR CALLERS: the view lies in the node k levels down, `levels` of 13 below
  pub view_down : root.key < 2 ^ 64 → root.len ≤ 64 → (k levels : ℕ) → levels + k ≡ 13 → 5 * k ≤ root.len
      → view w root ≡ side_entries w root levels (node_down w root k) (cut_to root (5 * k))
  view_down fits long zero levels e l =
      let z : levels ≡ 13 = omega arith in
      rw (cut_top root fits, z)
  view_down fits long (suc k) levels e l =
      let n = next_cut root (5 * k) 5 (omega arith) in
      let q = cut_to root (5 * k + 5) in
      let d : 5 * k + 5 ≡ 5 * suc k = omega arith in
      let c = next_bits (5 * k) 5 root.key in
      view_down fits long k (suc levels) (omega arith) (omega arith)
      ∙ side_down w root levels (node_down w root k) (cut_to root (5 * k)) (whole_cut root (5 * k)) (omega arith) long c
      (subst (λ (x : Prefix). leads x root ≡ true) (sym n) (cut_leads root (5 * k + 5) (omega arith))) (mod-lt (first (5 * k + 5) root.key) (pow_pos 5))
      ∙ ap (λ (x : Prefix). side_entries w root levels (child_in w root (node_down w root k) c x) x) n
      ∙ ap (λ (x : ℕ). side_entries w root levels (node_down w root (suc k)) (cut_to root x)) d

  -- FOR CALLERS: the same by the depth, as `at_depth` has it
  pub view_depth : root.key < 2 ^ 64 → root.len ≤ 64 → (depth levels : ℕ) → depth + 5 * levels ≡ 65 → depth ≤ root.len
      → view w root ≡ side_entries w root levels (node_down w root (depth / 5)) (cut_to root depth)
  view_depth fits long depth levels e l =
      let f : 5 * (depth / 5) ≡ depth = omega arith in
      view_down fits long (depth / 5) levels (omega arith) (omega arith)
      ∙ ap (λ (x : ℕ). side_entries w root levels (node_down w root (depth / 5)) (cut_to root x)) f

  pub down_in : Sane w → (o : Node) (d : ℕ) → NodeIn w o → NodeIn w (down_of w root o d)
  down_in s o d h = child_in_lem w s root o (next_bits d 5 root.key) (cut_to root (d + 5)) (mod-lt (first (d + 5) root.key) (pow_pos 5)) h

  -- FOR CALLERS: the node on the way is a node of the pool
  pub node_down_in : Sane w → (k : ℕ) → NodeIn w (node_down w root k)
  node_down_in s zero = s.formed.some
  node_down_in s (suc k) = down_in s (node_down w root k) (5 * k) (node_down_in s k)

-- a root's next 5 bits, as they are worked out
pub next_bits_lem : (key d : ℕ) → d ≤ 59 → key / 2 ^ (59 - d) % 32 ≡ next_bits d 5 key
next_bits_lem key d l = let e : 59 - d ≡ 64 - (d + 5) = omega arith in ap (λ (x : ℕ). key / 2 ^ x % 32) e

-- the node of a root's place, as the code finds it
pub found_node : (w : List ℕ) (root : Prefix) (r : Node) → r ≡ node_down w root (root.len / 5 * 5 / 5) → r ≡ node_down w root (root.len / 5)
found_node w root r e = let k : root.len / 5 * 5 / 5 ≡ root.len / 5 = omega arith in e ∙ ap (node_down w root) k

-- ---- what a root's place says

-- a root leads what it leads without its stray bits
pub leads_clean : (root q : Prefix) → leads (cut_to root root.len) q ≡ leads root q
unfolding leads cut
leads_clean root q =
    ap (λ (x : ℕ). leb root.len q.len && eqb (first root.len q.key) x) (shl-shr (first root.len root.key) (64 - root.len))

under_clean : (root : Prefix) (a : List Entry) → under (cut_to root root.len) a ≡ under root a
under_clean root [] = refl
under_clean root (e ∷ a) = rw (leads_clean root e.at, under_clean root a)

-- FOR CALLERS: the view at a root is what lies under its place
pub view_found : (w : List ℕ) (root : Prefix) → root.key < 2 ^ 64 → root.len ≤ 64 → view w root ≡ found_entries w (found_of w root)
view_found w root fits long =
    view_down w root fits long (root.len / 5) (13 - root.len / 5) (omega arith) (omega arith)
    ∙ go (node_down w root (root.len / 5)) (omega arith)
  where
    go : (o : Node) → 5 * (root.len / 5) ≡ root.len / 5 * 5
        → side_entries w root (13 - root.len / 5) o (cut_to root (5 * (root.len / 5))) ≡ found_entries w (found_at root o)
    go None e = refl
    go (Some i) e =
        let f : root.len / 5 * 5 / 5 ≡ root.len / 5 = omega arith in
        rw (e, f) (sym (under_clean root (entries_at w (13 - root.len / 5) i (cut_to root (root.len / 5 * 5)))))
