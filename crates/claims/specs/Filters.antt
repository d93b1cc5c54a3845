-- D1 to D4 as maps and filters of D5's records.
use Rattle.std.specs.Prelude.{◌≡◌, refl, Bool, true, false, not, ◌&&◌, ◌||◌, List, ◌∷◌, map, ◌↔◌, ℕ, eqb}
use Rattle.std.proofs.Common.{sym, ◌∙◌, ap}
use Rattle.std.proofs.Math.Bool.{and-true}
use Rattle.std.proofs.Math.Option.{Option, none, some}
use Rattle.std.proofs.lemmas.Bool.{not-true}
use Rattle.defs.specs.declared.Prefix.{Prefix}
use Rattle.defs.specs.declared.Operation.{Operation}
use Rattle.defs.specs.declared.Operation.TheVariants.{Union, Intersection, Difference, CoveringDifference, CoveringUnion}
use Rattle.defs.specs.Basics.{keep}
use Rattle.defs.specs.Entries.{Entry, prefixes}
use Rattle.defs.specs.Lists.{Record, no_cover, plain, covered, find, is_in, is_led, longest, all_of, records_of}
use Rattle.defs.specs.Lemmas.{All, nil, more, split, not_both, is_false, and_left, and_right, all_imp, map_map, map_ext, map_on, keep_map}
use Rattle.defs.specs.OrderLaws.{Ascends, among, among_keep}
use Rattle.defs.proofs.OrderLaws.{merge_ascends, ascends_keep, ascends_unique}
use Rattle.defs.specs.ListLaws.{prefix_of}
use Rattle.defs.proofs.ListLaws.{records_ascend}
use Rattle.claims.specs.Terms.{HasRecord, says, tag_of, without_cover}
use Rattle.claims.specs.Members.{record_says, record_of_lem, map_id, list_prefixes, list_prefixes_lem, belongs, members}
use Rattle.claims.specs.Says.{has, has_find, has_none, find_none, led_in, own, says_tag, records_say}
use Rattle.claims.specs.Marks.{LowLength, Holds, has_cover, cover_mark, longest_holds}

plain_covered : (p : Prefix) (l r c d : Option Entry) → without_cover (covered p l r c d) ≡ plain p l r
plain_covered p none r c d = refl
plain_covered p (some l) none c d = refl
plain_covered p (some l) (some r) c d = refl

-- a record of both has no cover
both_covered : (p : Prefix) (l r c d : Option Entry) → (has l && has r) ≡ true → plain p l r ≡ covered p l r c d
both_covered p none r c d h = not_both h refl
both_covered p (some l) none c d h = not_both h refl
both_covered p (some l) (some r) c d h = refl

-- nor has a record of the left side where nothing of the right leads it
left_covered : (p : Prefix) (l c : Option Entry) → has l ≡ true → plain p l none ≡ covered p l none c none
left_covered p none c h = not_both h refl
left_covered p (some l) c h = refl

-- records that are each what s says of their prefix
as_map : (s : Prefix → Record) {rs : List Record} → All (λ r. r ≡ s (prefix_of r)) rs → rs ≡ map s (map prefix_of rs)
as_map s nil = refl
as_map s (more {x = r} {xs = rs} h k) = ap (◌∷ rs) h ∙ ap (s (prefix_of r) ∷◌) (as_map s k)

-- ascending records with the prefixes of others, each what s says of its prefix, are those others
pub only_records : (s : Prefix → Record) (xs ys : List Record) → All (λ x. x ≡ s (prefix_of x)) xs → All (λ y. y ≡ s (prefix_of y)) ys
    → Ascends (map prefix_of xs) → Ascends (map prefix_of ys) → ((p : Prefix) → HasRecord p xs ↔ HasRecord p ys) → xs ≡ ys
only_records s xs ys h k a b m =
    as_map s h ∙ ap (map s) (ascends_unique (map prefix_of xs) (map prefix_of ys) a b alike) ∙ sym (as_map s k)
  where
    alike : (p : Prefix) → among p (map prefix_of xs) ≡ among p (map prefix_of ys)
    alike p =
        split (among p (map prefix_of xs)) (λ t. t ∙ sym (record_of_lem p ys ((m p).0 (record_says p xs t))))
        (λ t. t ∙ sym (is_false _ (λ f. not_both (record_of_lem p xs ((m p).1 (record_says p ys f))) t)))

-- D1 is D5 with the covers taken off
pub union_of : (L R : List Entry) → records_of Union L R ≡ map without_cover (records_of CoveringUnion L R)
union_of L R =
    sym (map_map without_cover (says CoveringUnion L R) (all_of L R)
    ∙ map_ext (λ p. without_cover (says CoveringUnion L R p)) (says Union L R) (λ p. plain_covered p (find p L) (find p R) (longest none L p) (longest none R p)) (all_of L R))

module _ (L R : List Entry) (a : Ascends (prefixes L)) (b : Ascends (prefixes R)) where
  -- each list's records, from its prefixes
  records_as : (op : Operation) → records_of op L R ≡ map (says op L R) (list_prefixes op L R)
  records_as op = as_map (says op L R) (records_say L R a op) ∙ ap (map (says op L R)) (list_prefixes_lem op L R)

  -- the prefixes of those of D5's records that pass a test
  kept_prefixes : (op : Operation) (t : Record → Bool) → ((p : Prefix) → (t (says CoveringUnion L R p) && (is_in p L || is_in p R)) ≡ belongs op L R p)
      → keep (λ p. t (says CoveringUnion L R p)) (all_of L R) ≡ list_prefixes op L R
  kept_prefixes op t h =
      ascends_unique (keep f (all_of L R)) (list_prefixes op L R) (ascends_keep f (merge_ascends (prefixes L) b))
      (rw (list_prefixes_lem op L R) at (records_ascend op L R a b))
      (λ p. among_keep f p (all_of L R) ∙ ap (f p &&◌) (members CoveringUnion L R p) ∙ h p ∙ sym (members op L R p))
    where
      f : Prefix → Bool
      f p = t (says CoveringUnion L R p)

  -- a list whose prefixes are those of D5's records that pass a test, and whose records are what g makes of them
  filtered : (op : Operation) (t : Record → Bool) (g : Record → Record)
      → ((p : Prefix) → (t (says CoveringUnion L R p) && (is_in p L || is_in p R)) ≡ belongs op L R p)
      → ((p : Prefix) → belongs op L R p ≡ true → says op L R p ≡ g (says CoveringUnion L R p))
      → records_of op L R ≡ map g (keep t (records_of CoveringUnion L R))
  filtered op t g h k =
      records_as op
      ∙ map_on (says op L R) (λ p. g (says CoveringUnion L R p)) k (all_imp (λ p i. sym (members op L R p) ∙ i) (own (list_prefixes op L R)))
      ∙ sym (map_map g (says CoveringUnion L R) (list_prefixes op L R))
      ∙ ap (λ (ps : List Prefix). map g (map (says CoveringUnion L R) ps)) (sym (kept_prefixes op t h))
      ∙ ap (map g) (sym (keep_map t (says CoveringUnion L R) (all_of L R)))

  tag_test : (n : ℕ) (p : Prefix) → eqb (says CoveringUnion L R p).tag n ≡ eqb (tag_of (is_in p L) (is_in p R)) n
  tag_test n p = ap (λ (k : ℕ). eqb k n) (says_tag L R CoveringUnion p)

  -- D2: those of tag 3
  pub intersection_of : records_of Intersection L R ≡ keep (λ x. eqb x.tag 3) (records_of CoveringUnion L R)
  intersection_of = filtered Intersection (λ x. eqb x.tag 3) (λ x. x) test same ∙ map_id _
    where
      tags : (i j : Bool) → (eqb (tag_of i j) 3 && (i || j)) ≡ (i && j)
      tags true true = refl
      tags true false = refl
      tags false true = refl
      tags false false = refl

      test : (p : Prefix) → (eqb (says CoveringUnion L R p).tag 3 && (is_in p L || is_in p R)) ≡ (is_in p L && is_in p R)
      test p = ap (◌&& (is_in p L || is_in p R)) (tag_test 3 p) ∙ tags (is_in p L) (is_in p R)

      same : (p : Prefix) → (is_in p L && is_in p R) ≡ true → says Intersection L R p ≡ says CoveringUnion L R p
      same p h = both_covered p (find p L) (find p R) (longest none L p) (longest none R p) (rw (has_find p L, has_find p R) h)

  left_tags : (i j : Bool) → (eqb (tag_of i j) 1 && (i || j)) ≡ (i && not j)
  left_tags true true = refl
  left_tags true false = refl
  left_tags false true = refl
  left_tags false false = refl

  -- D3: those of tag 1, with the covers taken off
  pub difference_of : records_of Difference L R ≡ map without_cover (keep (λ x. eqb x.tag 1) (records_of CoveringUnion L R))
  difference_of =
      filtered Difference (λ x. eqb x.tag 1) without_cover (λ p. ap (◌&& (is_in p L || is_in p R)) (tag_test 1 p) ∙ left_tags (is_in p L) (is_in p R))
      (λ p h. sym (plain_covered p (find p L) (find p R) (longest none L p) (longest none R p)))

  -- D4: those of tag 1 without a cover
  pub covering_difference_of : All LowLength R → records_of CoveringDifference L R ≡ keep (λ x. eqb x.tag 1 && eqb x.cover no_cover) (records_of CoveringUnion L R)
  covering_difference_of k = filtered CoveringDifference (λ x. eqb x.tag 1 && eqb x.cover no_cover) (λ x. x) test same ∙ map_id _
    where
      words : (p : Prefix) (l r c d : Option Entry) → Holds LowLength d → (has r ≡ true → has d ≡ true)
          → ((eqb (covered p l r c d).tag 1 && eqb (covered p l r c d).cover no_cover) && (has l || has r)) ≡ (has l && not (has d))
      words p none none c d h f = refl
      words p none (some r) c d h f = refl
      words p (some l) none c d h f = ap (◌&& true) (cover_mark d h) ∙ and-true (not (has d))
      words p (some l) (some r) c d h f = rw (f refl)

      test : (p : Prefix)
          → ((eqb (says CoveringUnion L R p).tag 1 && eqb (says CoveringUnion L R p).cover no_cover) && (is_in p L || is_in p R)) ≡ (is_in p L && not (is_led p R))
      test p =
          rw (← has_find p L, ← has_find p R, ← has_cover R p)
          (words p (find p L) (find p R) (longest none L p) (longest none R p) (longest_holds p k)
          (λ h. has_cover R p ∙ split (is_led p R) (λ t. t) (λ t. not_both (sym (has_find p R) ∙ h) (led_in p R t))))

      same : (p : Prefix) → (is_in p L && not (is_led p R)) ≡ true → says CoveringDifference L R p ≡ says CoveringUnion L R p
      same p h =
          let n = not-true (is_led p R) (and_right (is_in p L) (not (is_led p R)) h) in
          rw (find_none p R (led_in p R n), has_none (longest none R p) (has_cover R p ∙ n))
          (left_covered p (find p L) (longest none L p) (has_find p L ∙ and_left (is_in p L) (not (is_led p R)) h))
