-- What the lists come to: their records ascend strictly, and the cover taken is the longest.
use Rattle.std.specs.Prelude.{◌≡◌, refl, Bool, true, false, not, ◌≤◌}
use mathlib.Core.List.{List, [], ◌∷◌, map, Memᴰ}
use Rattle.std.proofs.Math.Option.{Option, none, some}
use Rattle.std.proofs.Common.{arith}
use Rattle.defs.specs.declared.Prefix.{Prefix}
use Rattle.defs.specs.declared.Operation.{Operation}
use Rattle.defs.specs.declared.Operation.TheVariants.{Union, Intersection, Difference, CoveringDifference, CoveringUnion}
use Rattle.defs.specs.Basics.{keep}
use Rattle.defs.specs.Prefix.{leads}
use Rattle.defs.specs.Entries.{Entry, prefixes}
use Rattle.defs.specs.Lists.{Record, plain, covered, left_only, find, is_in, is_led, longest, all_of, records_of}
use Rattle.defs.specs.Lemmas.{All, nil, more, split, not_both, map_map, map_ext, keep_map}
use Rattle.defs.specs.PrefixLaws.{Whole}
use Rattle.defs.proofs.PrefixLaws.{before_asym, leads_chain, leads_len}
use Rattle.defs.specs.OrderLaws.{Ascends, then_after}
use Rattle.defs.proofs.OrderLaws.{merge_ascends, ascends_keep}
use Rattle.defs.specs.ListLaws.{prefix_of, prefix_plain, prefix_covered, IsLongest, no_longest, cover}

map_same : (f : Prefix → Prefix) → ((p : Prefix) → f p ≡ p) → (ps : List Prefix) → map f ps ≡ ps
map_same f h [] = refl
map_same f h (p ∷ ps) = rw (h p, map_same f h ps)

-- records made of the entries that pass a test on their prefixes
ascend_left : (f : Prefix → Bool) (g : Entry → Record) → ((e : Entry) → prefix_of (g e) ≡ e.at) → (L : List Entry) → Ascends (prefixes L)
    → Ascends (map prefix_of (map g (keep (λ e. f e.at) L)))
ascend_left f g h L a =
    rw (map_map prefix_of g (keep (λ e. f e.at) L), map_ext (λ e. prefix_of (g e)) (λ e. e.at) h (keep (λ e. f e.at) L), ← keep_map f (λ (e : Entry). e.at) L)
    (ascends_keep f a)

-- the records of a list ascend strictly, whatever the list, where L and R do
pub records_ascend : (op : Operation) (L R : List Entry) → Ascends (prefixes L) → Ascends (prefixes R) → Ascends (map prefix_of (records_of op L R))
records_ascend Union L R a b =
    rw (map_map prefix_of (λ p. plain p (find p L) (find p R)) (all_of L R), map_same _ (λ p. prefix_plain p (find p L) (find p R)) (all_of L R)) (merge_ascends (prefixes L) b)
records_ascend Intersection L R a b =
    ascend_left (λ p. is_in p R) (λ e. plain e.at (some e) (find e.at R)) (λ e. prefix_plain e.at (some e) (find e.at R)) L a
records_ascend Difference L R a b = ascend_left (λ p. not (is_in p R)) left_only (λ e. refl) L a
records_ascend CoveringDifference L R a b = ascend_left (λ p. not (is_led p R)) left_only (λ e. refl) L a
records_ascend CoveringUnion L R a b =
    rw (
      map_map prefix_of (λ p. covered p (find p L) (find p R) (longest none L p) (longest none R p)) (all_of L R),
      map_same _ (λ p. prefix_covered p (find p L) (find p R) (longest none L p) (longest none R p)) (all_of L R),
    ) (merge_ascends (prefixes L) b)

module _ (p : Prefix) where
  -- one more entry in front, no longer than the cover found
  longer : (c e : Entry) (es : List Entry) (o : Option Entry) → c.at.len ≤ e.at.len → leads e.at p ≡ true → IsLongest p (e ∷ es) o → IsLongest p (c ∷ e ∷ es) o
  longer c e es none l h (no_longest (more k ks)) = not_both h k
  longer c e es (some x) l h (cover m i (more k ks)) = cover (Memᴰ.tail m) i (more {x = c} (λ u. omega (arith, k h)) (more k ks))

  -- one more entry behind the first, which does not lead p
  beside : (c e : Entry) (es : List Entry) (o : Option Entry) → leads e.at p ≡ false → IsLongest p (c ∷ es) o → IsLongest p (c ∷ e ∷ es) o
  beside c e es none h (no_longest (more k ks)) = no_longest (more k (more h ks))
  beside c e es (some x) h (cover m i (more k ks)) = cover (put_in m) i (more k (more (λ u. not_both u h) ks))
    where
      put_in : Memᴰ x (c ∷ es) → Memᴰ x (c ∷ e ∷ es)
      put_in (Memᴰ.head q) = Memᴰ.head q
      put_in (Memᴰ.tail q) = Memᴰ.tail (Memᴰ.tail q)

  from_cover : (c : Entry) (es : List Entry) → leads c.at p ≡ true → Ascends (prefixes (c ∷ es)) → All Whole (prefixes es)
      → IsLongest p (c ∷ es) (longest (some c) es p)
  from_cover c [] h a w = cover (Memᴰ.head refl) h (more {x = c} (λ u. omega arith) nil)
  from_cover c (e ∷ es) h (then_after (more b bs) (then_after d ds)) (more v vs) =
      split (leads e.at p)
      (λ i. rw i (longer c e es _ (leads_len c.at e.at (leads_chain c.at e.at p v h i (before_asym c.at e.at b))) i (from_cover e es i (then_after d ds) vs)))
      (λ i. rw i (beside c e es _ i (from_cover c es h (then_after bs ds) vs)))

  skipped : (e : Entry) (es : List Entry) (o : Option Entry) → leads e.at p ≡ false → IsLongest p es o → IsLongest p (e ∷ es) o
  skipped e es none h (no_longest k) = no_longest (more h k)
  skipped e es (some x) h (cover m i k) = cover (Memᴰ.tail m) i (more (λ u. not_both u h) k)

  -- the cover taken is the longest entry that leads p, where the entries ascend
  pub cover_is_longest : (es : List Entry) → Ascends (prefixes es) → All Whole (prefixes es) → IsLongest p es (longest none es p)
  cover_is_longest [] a w = no_longest nil
  cover_is_longest (e ∷ es) (then_after b bs) (more v vs) =
      split (leads e.at p) (λ i. rw i (from_cover e es i (then_after b bs) vs)) (λ i. rw i (skipped e es _ i (cover_is_longest es bs vs)))
