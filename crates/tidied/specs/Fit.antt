-- In a pool without a fault no entry is longer than the width.
use Rattle.std.specs.Prelude.{◌≡◌, List}
use Rattle.std.proofs.Math.Path.{refl, ap}
use Rattle.std.proofs.Common.{◌∙◌, subst, arith, lit<}
use Prim.Native.Nat.{ℕ, zero, suc, ◌+◌, ◌*◌, ◌^◌, ◌≤◌, ◌<◌}
use Rattle.std.proofs.Math.Nat.{pow-succ'}
use Rattle.defs.specs.declared.Prefix.{Prefix}
use Rattle.defs.specs.Basics.{each}
use Rattle.defs.specs.Prefix.{leads, deeper, top}
use Rattle.defs.specs.Pool.{node_count, data_of, child_of, bit, data_bit}
use Rattle.defs.specs.Entries.{Entry, Place, data_place, child_place, places_at, places, held_at, entries_at, view}
use Rattle.defs.specs.Check.{fault_of}
use Rattle.defs.specs.Lemmas.{All, nil, more, split, all_append, all_keep, each_append}
use Rattle.pool.specs.Sound.{Formed, formed, depth, child_node, data_length}

module _ (width : ℕ) (w : List ℕ) (ok : Formed width w) where
  abbrev Short : Entry → Type 0
  Short e = e.at.len ≤ width

  module _ (below : ℕ → Prefix → List Entry) (i : ℕ) (p : Prefix) (h : i < node_count w) (d : depth w i ≡ p.len)
      (child : (c : ℕ) → c < 32 → All Short (held_at w below i p (child_place c))) where
    abbrev held : Place → List Entry
    held = held_at w below i p

    fit_data : (n v : ℕ) → n < 5 → All Short (held (data_place n v))
    fit_data n v l = split (bit (data_bit n v) (data_of w i)) (λ b. let t : p.len + n ≤ width = omega (arith, data_length width w ok i n v h l b) in rw b (more t nil)) (λ b. rw b nil)

    fit_places : (k n v : ℕ) → n + k ≡ 5 → v < 2 ^ n → All Short (each held (places_at k n v))
    fit_places zero n v e l = let f : n ≡ 5 = omega arith in all_append (child v (subst (λ (x : ℕ). v < 2 ^ x) f l)) nil
    fit_places (suc k) n v e l =
        let two = pow-succ' 2 n in
        all_append (fit_data n v (omega arith))
        (rw (each_append held (places_at k (suc n) (2 * v)) (places_at k (suc n) (2 * v + 1)))
        (all_append (fit_places k (suc n) (2 * v) (omega arith) (omega arith)) (fit_places k (suc n) (2 * v + 1) (omega arith) (omega arith))))

  fit_entries : (levels i : ℕ) (p : Prefix) → i < node_count w → depth w i ≡ p.len → All Short (entries_at w levels i p)
  unfolding places
  fit_entries zero i p h d = nil
  fit_entries (suc levels) i p h d =
      fit_places (entries_at w levels) i p h d
      (λ c l.
      split (bit c (child_of w i))
      (λ b. let n = child_node width w ok i c h l b in rw b (fit_entries levels _ (deeper p 5 c) n.0 (n.2 ∙ ap (◌+ 5) d))) (λ b. rw b nil))
      5 0 0 refl (lit< tt)

-- no entry of a view is longer than the width
pub view_short : (width : ℕ) (w : List ℕ) (root : Prefix) → (fault_of width w).number ≡ 0 → All (λ e. e.at.len ≤ width) (view w root)
view_short width w root h =
    let f = formed width w h in
    all_keep (λ e. leads root e.at) (fit_entries width w f 13 0 top f.some f.root)
