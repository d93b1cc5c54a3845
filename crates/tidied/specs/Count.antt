-- The nodes of the tidy pool hold each entry once: its value list is as long as the list of entries.
use Rattle.std.specs.Prelude.{◌≡◌, Bool, List, [], ◌∷◌, ◌++◌, map, ltb}
use Rattle.std.proofs.Math.Path.{refl, ap, ap₂}
use Rattle.std.proofs.Common.{sym, ◌∙◌, subst, append-nil, arith, ltb-true, ltb-false, length-append}
use Prim.Native.Nat.{ℕ, zero, suc, ◌+◌, ◌*◌, ◌^◌, ◌≤◌}
use Rattle.std.proofs.Math.ListN.{length, length-map}
use Rattle.defs.specs.declared.Prefix.{Prefix}
use Rattle.defs.specs.Basics.{if◌then◌otherwise◌, keep, each, up_to}
use Rattle.defs.specs.Prefix.{leads, deeper, top}
use Rattle.defs.specs.Entries.{Entry, Place, data_place, child_place, places_at, places, under}
use Rattle.defs.specs.Tidy.{data_prefixes, child_prefixes, is_under, entries_in, children_of, nodes_from, nodes_of, tidy_values}
use Rattle.defs.specs.Lemmas.{All, nil, more, split, all_map, all_true, all_keep, each_append}
use Rattle.defs.specs.PrefixLaws.{Whole, whole_top, whole_long}
use Rattle.defs.proofs.NodeLaws.{by_levels, deeper_low, deeper_high, deeper_none}
use Rattle.defs.specs.EntryLaws.{Sound}
use Rattle.defs.proofs.DeeperLaws.{whole_deeper}
use Rattle.tidied.specs.ListFacts.{full, any_full, each_none, all_each}
use Rattle.tidied.specs.Halving.{onto, under_top, under_halves, under_last, under_none}

module _ {A : Type 0} where
  -- the sum of a number for each of a list
  abbrev total : (A → ℕ) → List A → ℕ
  total f [] = 0
  total f (x ∷ xs) = f x + total f xs

  total_each : {B : Type 0} (f : A → List B) (xs : List A) → length (each f xs) ≡ total (λ x. length (f x)) xs
  total_each f [] = refl
  total_each f (x ∷ xs) = length-append (f x) (each f xs) ∙ ap (length (f x) +◌) (total_each f xs)

-- the data places of a node in the order of their bits, and its child places
data_places : List Place
data_places = each (λ n. map (data_place n) (up_to (2 ^ n))) (up_to 5)

child_places : List Place
child_places = map child_place (up_to 32)

-- the places in prefix order are these, each once
total_places : (f : Place → ℕ) → total f places ≡ total f data_places + total f child_places
unfolding places data_places child_places
total_places f = omega arith

-- a prefix at which so many levels of nodes are left
abbrev pub Deep : ℕ → Prefix → Type 0
Deep levels p = Whole p × (p.len + 5 * levels ≡ 65)

pub deep_child : (k : ℕ) (p : Prefix) → Deep (suc k) p → (c : ℕ) → Deep k (deeper p 5 c)
deep_child k p d c =
    (split (ltb 64 (p.len + 5)) (λ t. whole_long (deeper p 5 c) (omega (arith, ltb-true 64 (p.len + 5) t))) (λ t. whole_deeper p d.0 5 (ltb-false 64 (p.len + 5) t) c), omega (arith, d.1))

pub deep_children : (k : ℕ) (p : Prefix) → Deep (suc k) p → All (Deep k) (child_prefixes p)
unfolding child_prefixes
deep_children k p d = all_map (deeper p 5) (all_true (deep_child k p d) (up_to 32))

module _ (es : List Entry) (s : Sound top es) where
  -- the entries of a node of prefix p, place by place
  abbrev shown : Prefix → Place → List Entry
  shown p (data_place n v) = onto es (deeper p n v)
  shown p (child_place c) = under (deeper p 5 c) es

  under_tree : (p : Prefix) → p.len ≤ 60 → (k n v : ℕ) → n + k ≡ 5 → Whole (deeper p n v) → p.len + n ≤ 64
      → under (deeper p n v) es ≡ each (shown p) (places_at k n v)
  under_tree p small =
      by_levels p small (λ k n v. under (deeper p n v) es ≡ each (shown p) (places_at k n v))
      (λ l v u. sym (append-nil (under (deeper p 5 v) es)))
      (λ k n v m u room lo hi.
      under_halves es s (deeper p n v) u room
      ∙ ap (onto es (deeper p n v) ++◌)
      (ap₂ ◌++◌ (ap (λ (q : Prefix). under q es) (deeper_low p n v room) ∙ lo) (ap (λ (q : Prefix). under q es) (deeper_high p n v room) ∙ hi)
      ∙ sym (each_append (shown p) (places_at k (suc n) (2 * v)) (places_at k (suc n) (2 * v + 1)))))
      (λ l v u.
      under_last es s (deeper p 4 v) u (omega arith)
      ∙ sym (append-nil (onto es (deeper p 4 v)))
      ∙ ap₂ (λ (x y : List Entry). onto es (deeper p 4 v) ++ (x ++ (y ++ [])))
      (sym (under_none es s (deeper p 5 (2 * v)) (omega arith))) (sym (under_none es s (deeper p 5 (2 * v + 1)) (omega arith))))

  -- what is below a node: its own entries, and what is below its children
  pub under_count : (p : Prefix) → Whole p → p.len ≤ 60
      → length (under p es) ≡ length (entries_in es p) + length (each (λ q. under q es) (child_prefixes p))
  unfolding places data_places child_places data_prefixes child_prefixes
  under_count p u small =
      ap length (ap (λ (q : Prefix). under q es) (sym (deeper_none p)) ∙ under_tree p small 5 0 0 refl (subst Whole (sym (deeper_none p)) u) (omega arith))
      ∙ total_each (shown p) places
      ∙ total_places (λ x. length (shown p x))
      ∙ ap₂ ◌+◌ (sym (total_each (onto es) (data_prefixes p))) (sym (total_each (λ q. under q es) (child_prefixes p)))

  -- a child without entries adds nothing
  each_used : (qs : List Prefix) → each (λ q. under q es) (keep (is_under es) qs) ≡ each (λ q. under q es) qs
  each_used [] = refl
  each_used (q ∷ qs) =
      ap (λ (b : Bool). each (λ q. under q es) (if b then q ∷ keep (is_under es) qs otherwise keep (is_under es) qs)) (any_full (λ e. leads q e.at) es) ∙ go (under q es) refl (each_used qs)
    where
      go : (l : List Entry) → l ≡ under q es → each (λ q. under q es) (keep (is_under es) qs) ≡ each (λ q. under q es) qs
          → each (λ q. under q es) (if full l then q ∷ keep (is_under es) qs otherwise keep (is_under es) qs) ≡ under q es ++ each (λ q. under q es) qs
      go [] e r = r ∙ ap (◌++ each (λ q. under q es) qs) e
      go (x ∷ l) e r = ap (under q es ++◌) r

  level_count : (k : ℕ) {ps : List Prefix} → All (Deep (suc k)) ps
      → length (each (λ q. under q es) ps) ≡ length (each (entries_in es) ps) + length (each (λ q. under q es) (each (children_of es) ps))
  level_count k nil = refl
  level_count k (more {x = p} {xs = ps} d h) =
      let n = under_count p d.0 (omega (arith, d.1)) in
      let m = ap length (each_used (child_prefixes p)) in
      omega (
        arith,
        level_count k h,
        length-append (under p es) (each (λ q. under q es) ps),
        length-append (entries_in es p) (each (entries_in es) ps),
        ap length (each_append (λ q. under q es) (children_of es p) (each (children_of es) ps)),
        length-append (each (λ q. under q es) (children_of es p)) (each (λ q. under q es) (each (children_of es) ps)),
      )

  nodes_count : (k : ℕ) {ps : List Prefix} → All (Deep k) ps → length (each (entries_in es) (nodes_from es k ps)) ≡ length (each (λ q. under q es) ps)
  nodes_count zero h = sym (ap length (each_none (λ q. under q es) (λ q d. under_none es s q (omega (arith, d.1))) h))
  nodes_count (suc k) {ps} h =
      let r = nodes_count k (all_each (children_of es) (λ p d. all_keep (is_under es) (deep_children k p d)) h) in
      omega (
        arith,
        level_count k h,
        ap length (each_append (entries_in es) ps (nodes_from es k (each (children_of es) ps))),
        length-append (each (entries_in es) ps) (each (entries_in es) (nodes_from es k (each (children_of es) ps))),
      )

  -- as many values as entries
  pub values_count : length (tidy_values es) ≡ length es
  unfolding nodes_of
  values_count =
      length-map (each (entries_in es) (nodes_of es)) (λ e. e.value)
      ∙ nodes_count 13 (more (whole_top, refl) nil)
      ∙ ap length (append-nil (under top es) ∙ under_top es s)
