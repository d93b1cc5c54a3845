-- Demand 2: the records of each list, D1 to D5 (document 01, "Views and the seven answers"). L and R are the entries of two views.
use Rattle.std.specs.Prelude.{◌≡◌, refl, true, not, ◌&&◌, ◌||◌, ◌↔◌, ◌⊎◌, ℕ, ◌*◌, ◌≤◌, ◌<◌, eqb}
use Rattle.std.proofs.Common.{◌∙◌, ap}
use mathlib.Core.List.{List, map, Memᴰ}
use Rattle.std.proofs.Math.Option.{none, some}
use Rattle.std.proofs.lemmas.Bool.{not-true}
use Rattle.defs.specs.declared.Prefix.{Prefix}
use Rattle.defs.specs.declared.Operation.{Operation}
use Rattle.defs.specs.declared.Operation.TheVariants.{Union, Intersection, Difference, CoveringDifference, CoveringUnion}
use Rattle.defs.specs.Basics.{keep}
use Rattle.defs.specs.Prefix.{first, leads}
use Rattle.defs.specs.Entries.{Entry, all_entries, view}
use Rattle.defs.specs.Lists.{Record, value_of, no_cover, find, is_in, is_led, records_of}
use Rattle.defs.specs.Outcome.{Side, entries_of}
use Rattle.defs.specs.Lemmas.{All}
use Rattle.defs.specs.OrderLaws.{Ascends, among}
use Rattle.defs.proofs.EntryLaws.{view_ascends}
use Rattle.defs.specs.ListLaws.{prefix_of}
use Rattle.defs.proofs.ListLaws.{records_ascend}
use Rattle.tidied.specs.ListFacts.{keep_ext}
use Rattle.claims.specs.Terms.{WellFormed, HasRecord, HasEntry, HasLeading, says, tag_of, without_cover, CoveringUnionSays}
use Rattle.claims.specs.Members.{kept_members, leads_alike, list_prefixes_lem, members, all_member, in_either, in_left, entry_says, entry_of, entry_not, not_entry, led_not, not_led}
use Rattle.claims.specs.Says.{find_self, find_none, records_say, tags, values, tags_both, tags_left, union_records, view_whole}
use Rattle.claims.specs.Filters.{only_records, union_of, intersection_of, difference_of, covering_difference_of}
use Rattle.claims.specs.Marks.{low_view, lengths_low, plain_marks, union_marks, union_covers}

-- ---- Views
-- A view holds exactly the entries of its pool that its root leads.
pub view_members : (s : Side) (e : Entry) → Memᴰ e (entries_of s) ↔ (Memᴰ e (all_entries s.pool) × (leads s.root e.at ≡ true))
view_members s e = kept_members (λ x. leads s.root x.at) e (all_entries s.pool)

-- Bits of a root past its length are ignored.
pub root_bits : (w : List ℕ) (root root' : Prefix) → root.len ≡ root'.len → first root.len root.key ≡ first root.len root'.key
    → view w root ≡ view w root'
root_bits w root root' n k = keep_ext (λ e. leads root e.at) (λ e. leads root' e.at) (λ e. leads_alike root root' e.at n k) (all_entries w)

-- ---- Order
-- The records of every list ascend strictly, whatever the words and roots are.
pub list_ascends : (op : Operation) (l r : Side) → Ascends (map prefix_of (records_of op (entries_of l) (entries_of r)))
list_ascends op l r = records_ascend op (entries_of l) (entries_of r) (view_ascends l.pool l.root) (view_ascends r.pool r.root)

-- ---- Members, for any entries L and R
module _ (L R : List Entry) (p : Prefix) where
  -- D1: a record of prefix p stands in the union exactly when p is in L or in R.
  pub union_members : HasRecord p (records_of Union L R) ↔ (HasEntry p L ⊎ HasEntry p R)
  union_members = in_either L R p Union refl

  -- D2: a record of prefix p stands in the intersection exactly when p is in L and in R.
  pub intersection_members : HasRecord p (records_of Intersection L R) ↔ (HasEntry p L × HasEntry p R)
  intersection_members = in_left L R p Intersection (is_in p R) (HasEntry p R) refl (entry_says p R) (entry_of p R)

  -- D3: a record of prefix p stands in the difference exactly when p is in L and not in R.
  pub difference_members : HasRecord p (records_of Difference L R) ↔ (HasEntry p L × (HasEntry p R → ⊥))
  difference_members = in_left L R p Difference (not (is_in p R)) (HasEntry p R → ⊥) refl (λ h. not_entry p R (not-true _ h)) (λ h. ap not (entry_not p R h))

  -- D4: a record of prefix p stands in the covering difference exactly when p is in L and no entry of R leads p.
  pub covering_difference_members : HasRecord p (records_of CoveringDifference L R) ↔ (HasEntry p L × (HasLeading p R → ⊥))
  covering_difference_members = in_left L R p CoveringDifference (not (is_led p R)) (HasLeading p R → ⊥) refl (λ h. not_led p R (not-true _ h)) (λ h. ap not (led_not p R h))

  -- D5: a record of prefix p stands in the covering union exactly when p is in L or in R.
  pub covering_union_members : HasRecord p (records_of CoveringUnion L R) ↔ (HasEntry p L ⊎ HasEntry p R)
  covering_union_members = in_either L R p CoveringUnion refl

  -- ---- The same as tests that can be computed.
  -- D1: the test for p in the union is that for L or that for R.
  pub union_test : among p (map prefix_of (records_of Union L R)) ≡ (is_in p L || is_in p R)
  union_test = ap (among p) (list_prefixes_lem Union L R) ∙ members Union L R p

  -- D2: the test for p in the intersection is that for L and that for R.
  pub intersection_test : among p (map prefix_of (records_of Intersection L R)) ≡ (is_in p L && is_in p R)
  intersection_test = ap (among p) (list_prefixes_lem Intersection L R) ∙ members Intersection L R p

  -- D3: the test for p in the difference is that for L and not that for R.
  pub difference_test : among p (map prefix_of (records_of Difference L R)) ≡ (is_in p L && not (is_in p R))
  difference_test = ap (among p) (list_prefixes_lem Difference L R) ∙ members Difference L R p

  -- D4: the test for p in the covering difference is that for L and not that for an entry of R that leads p.
  pub covering_difference_test : among p (map prefix_of (records_of CoveringDifference L R)) ≡ (is_in p L && not (is_led p R))
  covering_difference_test = ap (among p) (list_prefixes_lem CoveringDifference L R) ∙ members CoveringDifference L R p

  -- D5: the test for p in the covering union is that for L or that for R.
  pub covering_union_test : among p (map prefix_of (records_of CoveringUnion L R)) ≡ (is_in p L || is_in p R)
  covering_union_test = ap (among p) (list_prefixes_lem CoveringUnion L R) ∙ members CoveringUnion L R p

-- ---- What the entry of a prefix is
-- Each entry of a view is the one entry of its prefix: it is what `find` gives.
pub find_entry : (s : Side) (e : Entry) → Memᴰ e (entries_of s) → find e.at (entries_of s) ≡ some e
find_entry s e m = all_member (find_self (entries_of s) (view_ascends s.pool s.root)) m

-- Where no entry has prefix p, `find` gives none.
pub find_nothing : (s : Side) (p : Prefix) → (HasEntry p (entries_of s) → ⊥) → find p (entries_of s) ≡ none
find_nothing s p h = find_none p (entries_of s) (entry_not p (entries_of s) h)

-- ---- What each record says
module _ (l r : Side) where
  -- Each record is the one that its list has for its prefix.
  pub list_records : (op : Operation) → let L = entries_of l in let R = entries_of r in All (λ x. x ≡ says op L R (prefix_of x)) (records_of op L R)
  list_records op = records_say (entries_of l) (entries_of r) (view_ascends l.pool l.root) op

  -- No other strictly ascending list of such records has the same prefixes.
  pub list_unique : (op : Operation) (xs : List Record) → let L = entries_of l in let R = entries_of r in Ascends (map prefix_of xs)
      → All (λ x. x ≡ says op L R (prefix_of x)) xs → ((p : Prefix) → HasRecord p xs ↔ HasRecord p (records_of op L R)) → xs ≡ records_of op L R
  list_unique op xs a h m = only_records (says op (entries_of l) (entries_of r)) xs (records_of op (entries_of l) (entries_of r)) h (list_records op) a (list_ascends op l r) m

  -- The tag of a record is 3 where its prefix is in L and in R, 1 where it is in L alone, and 2 where it is in R alone.
  pub list_tags : (op : Operation) → let L = entries_of l in let R = entries_of r in
      All (λ x. x.tag ≡ tag_of (is_in (prefix_of x) L) (is_in (prefix_of x) R)) (records_of op L R)
  list_tags op = tags (entries_of l) (entries_of r) (view_ascends l.pool l.root) op

  -- D1 to D4: a record's value words are those of its prefix's own entries, or the mark where a side has none, and it has no cover.
  pub list_values : (op : Operation) → (op ≡ CoveringUnion → ⊥) → let L = entries_of l in let R = entries_of r in
      All (λ x. (x.left ≡ value_of (find (prefix_of x) L)) × (x.right ≡ value_of (find (prefix_of x) R)) × (x.cover ≡ no_cover)) (records_of op L R)
  list_values op n = values (entries_of l) (entries_of r) (view_ascends l.pool l.root) op n

  -- D2: each record has tag 3.
  pub intersection_tags : All (λ x. x.tag ≡ 3) (records_of Intersection (entries_of l) (entries_of r))
  intersection_tags = tags_both (entries_of l) (entries_of r) (view_ascends l.pool l.root)

  -- D3: each record has tag 1.
  pub difference_tags : All (λ x. x.tag ≡ 1) (records_of Difference (entries_of l) (entries_of r))
  difference_tags = tags_left (keep (λ e. not (is_in e.at (entries_of r))) (entries_of l))

  -- D4: each record has tag 1.
  pub covering_difference_tags : All (λ x. x.tag ≡ 1) (records_of CoveringDifference (entries_of l) (entries_of r))
  covering_difference_tags = tags_left (keep (λ e. not (is_led e.at (entries_of r))) (entries_of l))

  -- D5: a record of both has both values and no cover; a record of one side has as cover the longest entry of the other side that leads it, or none.
  pub covering_union_records : All (λ x. CoveringUnionSays (entries_of l) (entries_of r) (prefix_of x) x) (records_of CoveringUnion (entries_of l) (entries_of r))
  covering_union_records =
      union_records (entries_of l) (entries_of r) (view_ascends l.pool l.root) (view_whole l.pool l.root) (view_ascends r.pool r.root) (view_whole r.pool r.root)

-- ---- The marks are never mistaken
-- In a well-formed pool every value of a view is below 31 * 65,536, so none is the mark 4294967295.
pub values_below_mark : (width : ℕ) (s : Side) → WellFormed width s.pool → All (λ e. e.value < 31 * 65536) (entries_of s)
values_below_mark width s h = low_view width s.pool s.root h

-- In any pool no entry of a view is longer than 64, so no length is the mark 255.
pub lengths_below_mark : (s : Side) → All (λ e. e.at.len ≤ 64) (entries_of s)
lengths_below_mark s = lengths_low s.pool s.root

module _ (width : ℕ) (l r : Side) (well-l : WellFormed width l.pool) (well-r : WellFormed width r.pool) where
  -- D1 to D4: a value word is the mark exactly when that side has no entry of the record's prefix.
  pub list_marks : (op : Operation) → (op ≡ CoveringUnion → ⊥) → let L = entries_of l in let R = entries_of r in
      All (λ x. ((x.left ≡ 4294967295) ↔ (HasEntry (prefix_of x) L → ⊥)) × ((x.right ≡ 4294967295) ↔ (HasEntry (prefix_of x) R → ⊥))) (records_of op L R)
  list_marks op n = plain_marks (entries_of l) (entries_of r) (view_ascends l.pool l.root) (values_below_mark width l well-l) (values_below_mark width r well-r) op n

  -- D5: a value word is the mark exactly when no entry of that side leads the record's prefix, itself included.
  pub covering_union_marks : let L = entries_of l in let R = entries_of r in
      All (λ x. ((x.left ≡ 4294967295) ↔ (HasLeading (prefix_of x) L → ⊥)) × ((x.right ≡ 4294967295) ↔ (HasLeading (prefix_of x) R → ⊥))) (records_of CoveringUnion L R)
  covering_union_marks = union_marks (entries_of l) (entries_of r) (view_ascends l.pool l.root) (values_below_mark width l well-l) (values_below_mark width r well-r)

-- D5, for any words: the cover word of a record of both is 255; that of a record of one side is 255 exactly when no entry of the other side leads it.
pub covering_union_cover_marks : (l r : Side) → let L = entries_of l in let R = entries_of r in
    All (λ x. (x.tag ≡ 3 → x.cover ≡ 255)
    × (x.tag ≡ 1 → (x.cover ≡ 255) ↔ (HasLeading (prefix_of x) R → ⊥))
    × (x.tag ≡ 2 → (x.cover ≡ 255) ↔ (HasLeading (prefix_of x) L → ⊥))) (records_of CoveringUnion L R)
covering_union_cover_marks l r = union_covers (entries_of l) (entries_of r) (view_ascends l.pool l.root) (lengths_low l.pool l.root) (lengths_low r.pool r.root)

-- ---- D1 to D4 are maps and filters of D5's records
module _ (l r : Side) where
  -- D1 is D5 with the covers taken off.
  pub union_from : records_of Union (entries_of l) (entries_of r) ≡ map without_cover (records_of CoveringUnion (entries_of l) (entries_of r))
  union_from = union_of (entries_of l) (entries_of r)

  -- D2 is D5's records of tag 3.
  pub intersection_from : records_of Intersection (entries_of l) (entries_of r) ≡ keep (λ x. eqb x.tag 3) (records_of CoveringUnion (entries_of l) (entries_of r))
  intersection_from = intersection_of (entries_of l) (entries_of r) (view_ascends l.pool l.root) (view_ascends r.pool r.root)

  -- D3 is D5's records of tag 1, with the covers taken off.
  pub difference_from : records_of Difference (entries_of l) (entries_of r) ≡ map without_cover (keep (λ x. eqb x.tag 1) (records_of CoveringUnion (entries_of l) (entries_of r)))
  difference_from = difference_of (entries_of l) (entries_of r) (view_ascends l.pool l.root) (view_ascends r.pool r.root)

  -- D4 is D5's records of tag 1 that have no cover.
  pub covering_difference_from : records_of CoveringDifference (entries_of l) (entries_of r)
      ≡ keep (λ x. eqb x.tag 1 && eqb x.cover 255) (records_of CoveringUnion (entries_of l) (entries_of r))
  covering_difference_from =
      covering_difference_of (entries_of l) (entries_of r) (view_ascends l.pool l.root) (view_ascends r.pool r.root) (lengths_low r.pool r.root)
