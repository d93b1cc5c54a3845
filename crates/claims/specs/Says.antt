-- What the records of each list say: found from the entries of their own prefix.
use Rattle.std.specs.Prelude.{◌≡◌, refl, Bool, true, false, not, ◌||◌, List, [], ◌∷◌, map, ℕ}
use Rattle.std.proofs.Common.{sym, ◌∙◌, ap, subst}
use Rattle.std.proofs.Math.Option.{Option, none, some}
use Rattle.std.proofs.lemmas.Bool.{not-true}
use Rattle.defs.specs.declared.Prefix.{Prefix}
use Rattle.defs.specs.declared.Operation.{Operation}
use Rattle.defs.specs.declared.Operation.TheVariants.{Union, Intersection, Difference, CoveringDifference, CoveringUnion}
use Rattle.defs.specs.Basics.{keep}
use Rattle.defs.specs.Prefix.{leads, same}
use Rattle.defs.specs.Entries.{Entry, prefixes, view}
use Rattle.defs.specs.Lists.{Record, value_of, no_cover, plain, covered, left_only, find, is_in, is_led, longest, all_of, records_of}
use Rattle.defs.specs.Lemmas.{All, nil, more, split, not_both, is_false, and_left, and_right, all_imp, all_both, all_true, all_map, all_unmap, all_keep, all_kept}
use Rattle.defs.specs.PrefixLaws.{Whole, same_self, same_says}
use Rattle.defs.proofs.PrefixLaws.{before_irrefl, leads_self}
use Rattle.defs.specs.OrderLaws.{Ascends, then_after, among}
use Rattle.defs.proofs.EntryLaws.{view_real}
use Rattle.defs.specs.ListLaws.{prefix_of, IsLongest, prefix_plain, prefix_covered}
use Rattle.defs.proofs.ListLaws.{cover_is_longest}
use Rattle.claims.specs.Terms.{says, tag_of, CoveringUnionSays, both, left, right}
use Rattle.claims.specs.Members.{list_prefixes, list_prefixes_lem, belongs, members}

-- there is one
abbrev pub has : Option Entry → Bool
has none = false
has (some e) = true

pub has_find : (p : Prefix) (es : List Entry) → has (find p es) ≡ is_in p es
has_find p [] = refl
has_find p (e ∷ es) = split (same p e.at) (λ t. rw t) (λ t. rw t (has_find p es))

pub has_none : (o : Option Entry) → has o ≡ false → o ≡ none
has_none none h = refl
has_none (some e) h = not_both refl h

pub find_none : (p : Prefix) (es : List Entry) → is_in p es ≡ false → find p es ≡ none
find_none p es h = has_none (find p es) (has_find p es ∙ h)

-- each of ascending entries is the one found at its prefix
pub find_self : (es : List Entry) → Ascends (prefixes es) → All (λ e. find e.at es ≡ some e) es
find_self [] a = nil
find_self (x ∷ es) (then_after b a) =
    more {x = x} (rw (same_self x.at))
    (all_imp
    (λ e h. rw (is_false (same e.at x.at) (λ t. not_both h.0 (rw (same_says e.at x.at t) (before_irrefl x.at)))) h.1)
    (all_both (all_unmap (λ (e : Entry). e.at) es b) (find_self es a)))

-- where no entry leads p, none is p
pub led_in : (p : Prefix) (es : List Entry) → is_led p es ≡ false → is_in p es ≡ false
led_in p [] h = refl
led_in p (e ∷ es) h =
    split (leads e.at p) (λ t. not_both (rw t) h)
    (λ t. rw (is_false (same p e.at) (λ q. not_both (rw (same_says p e.at q) (leads_self e.at)) t)) (led_in p es (rw t at h)))

of_prefix : (f : Prefix → Record) → ((p : Prefix) → prefix_of (f p) ≡ p) → (ps : List Prefix) → All (λ r. r ≡ f (prefix_of r)) (map f ps)
of_prefix f h ps = all_map f (all_true (λ p. sym (ap f (h p))) ps)

of_entry : (s : Prefix → Record) (f : Entry → Record) → ((e : Entry) → prefix_of (f e) ≡ e.at) → {es : List Entry} → All (λ e. f e ≡ s e.at) es
    → All (λ r. r ≡ s (prefix_of r)) (map f es)
of_entry s f h a = all_map f (all_imp (λ e k. k ∙ sym (ap s (h e))) a)

module _ (L R : List Entry) (asc : Ascends (prefixes L)) where
  -- those of L that pass a test, each found at its prefix
  kept : (t : Entry → Bool) → All (λ e. (find e.at L ≡ some e) × (t e ≡ true)) (keep t L)
  kept t = all_both (all_keep t (find_self L asc)) (all_kept t L)

  -- each record is what its list says of its prefix
  pub records_say : (op : Operation) → All (λ r. r ≡ says op L R (prefix_of r)) (records_of op L R)
  records_say Union = of_prefix (says Union L R) (λ p. prefix_plain p (find p L) (find p R)) (all_of L R)
  records_say Intersection =
      of_entry (says Intersection L R) (λ e. plain e.at (some e) (find e.at R)) (λ e. prefix_plain e.at (some e) (find e.at R))
      (all_imp (λ e h. rw h.0) (kept (λ e. is_in e.at R)))
  records_say Difference =
      of_entry (says Difference L R) left_only (λ e. refl)
      (all_imp (λ e h. rw (h.0, find_none e.at R (not-true _ h.1))) (kept (λ e. not (is_in e.at R))))
  records_say CoveringDifference =
      of_entry (says CoveringDifference L R) left_only (λ e. refl)
      (all_imp (λ e h. rw (h.0, find_none e.at R (led_in e.at R (not-true _ h.1)))) (kept (λ e. not (is_led e.at R))))
  records_say CoveringUnion =
      of_prefix (says CoveringUnion L R) (λ p. prefix_covered p (find p L) (find p R) (longest none L p) (longest none R p)) (all_of L R)

-- ---- tags
tag_plain : (p : Prefix) (l r : Option Entry) → (plain p l r).tag ≡ tag_of (has l) (has r)
tag_plain p none r = refl
tag_plain p (some l) none = refl
tag_plain p (some l) (some r) = refl

tag_covered : (p : Prefix) (l r c d : Option Entry) → (covered p l r c d).tag ≡ tag_of (has l) (has r)
tag_covered p none r c d = refl
tag_covered p (some l) none c d = refl
tag_covered p (some l) (some r) c d = refl

tag_found : (L R : List Entry) (p : Prefix) → tag_of (has (find p L)) (has (find p R)) ≡ tag_of (is_in p L) (is_in p R)
tag_found L R p = rw (has_find p L, has_find p R)

pub says_tag : (L R : List Entry) (op : Operation) (p : Prefix) → (says op L R p).tag ≡ tag_of (is_in p L) (is_in p R)
says_tag L R Union p = tag_plain p (find p L) (find p R) ∙ tag_found L R p
says_tag L R Intersection p = tag_plain p (find p L) (find p R) ∙ tag_found L R p
says_tag L R Difference p = tag_plain p (find p L) (find p R) ∙ tag_found L R p
says_tag L R CoveringDifference p = tag_plain p (find p L) (find p R) ∙ tag_found L R p
says_tag L R CoveringUnion p = tag_covered p (find p L) (find p R) (longest none L p) (longest none R p) ∙ tag_found L R p

-- ---- values, where there is no cover
-- a record without a cover has these two in its value words
abbrev pub Values : Option Entry → Option Entry → Record → Type 0
Values l r x = (x.left ≡ value_of l) × (x.right ≡ value_of r) × (x.cover ≡ no_cover)

values_plain : (p : Prefix) (l r : Option Entry) → Values l r (plain p l r)
values_plain p none r = (refl, refl, refl)
values_plain p (some l) none = (refl, refl, refl)
values_plain p (some l) (some r) = (refl, refl, refl)

pub says_values : (L R : List Entry) (op : Operation) → (op ≡ CoveringUnion → ⊥) → (p : Prefix) → Values (find p L) (find p R) (says op L R p)
says_values L R Union n p = values_plain p (find p L) (find p R)
says_values L R Intersection n p = values_plain p (find p L) (find p R)
says_values L R Difference n p = values_plain p (find p L) (find p R)
says_values L R CoveringDifference n p = values_plain p (find p L) (find p R)
says_values L R CoveringUnion n p = absurd (n refl)

-- ---- the covering union
-- each of a list is one of it
pub own : (ps : List Prefix) → All (λ p. among p ps ≡ true) ps
own [] = nil
own (p ∷ ps) = more {x = p} (rw (same_self p)) (all_imp (λ q h. split (same q p) (λ t. rw t) (λ t. rw t h)) (own ps))

-- each record's prefix belongs to its list
pub records_belong : (L R : List Entry) (op : Operation) → All (λ r. belongs op L R (prefix_of r) ≡ true) (records_of op L R)
records_belong L R op =
    all_unmap {P = λ p. belongs op L R p ≡ true} prefix_of (records_of op L R)
    (rw (list_prefixes_lem op L R) (all_imp (λ p h. sym (members op L R p) ∙ h) (own (list_prefixes op L R))))

module _ (L R : List Entry) (p : Prefix) where
  covered_says : (l r c d : Option Entry) → find p L ≡ l → find p R ≡ r → (has l || has r) ≡ true → IsLongest p L c → IsLongest p R d
      → CoveringUnionSays L R p (covered p l r c d)
  covered_says none none c d e f h u v = not_both h refl
  covered_says none (some y) c d e f h u v = right e f u
  covered_says (some x) none c d e f h u v = left e f v
  covered_says (some x) (some y) c d e f h u v = both e f

  pub union_says : Ascends (prefixes L) → All Whole (prefixes L) → Ascends (prefixes R) → All Whole (prefixes R) → (is_in p L || is_in p R) ≡ true
      → CoveringUnionSays L R p (says CoveringUnion L R p)
  union_says a v b w h =
      covered_says (find p L) (find p R) (longest none L p) (longest none R p) refl refl (rw (has_find p L, has_find p R) h)
      (cover_is_longest p L a v) (cover_is_longest p R b w)

-- ---- all records of a list
module _ (L R : List Entry) (a : Ascends (prefixes L)) where
  pub tags : (op : Operation) → All (λ x. x.tag ≡ tag_of (is_in (prefix_of x) L) (is_in (prefix_of x) R)) (records_of op L R)
  tags op = all_imp (λ x h. ap (λ (y : Record). y.tag) h ∙ says_tag L R op (prefix_of x)) (records_say L R a op)

  pub values : (op : Operation) → (op ≡ CoveringUnion → ⊥) → All (λ x. Values (find (prefix_of x) L) (find (prefix_of x) R) x) (records_of op L R)
  values op n =
      all_imp
      (λ x h.
      let v = says_values L R op n (prefix_of x) in
      (ap (λ (y : Record). y.left) h ∙ v.0, ap (λ (y : Record). y.right) h ∙ v.1, ap (λ (y : Record). y.cover) h ∙ v.2))
      (records_say L R a op)

  pub tags_both : All (λ x. x.tag ≡ 3) (records_of Intersection L R)
  tags_both =
      all_imp
      (λ x h.
      let i = and_left (is_in (prefix_of x) L) (is_in (prefix_of x) R) h.1 in
      let j = and_right (is_in (prefix_of x) L) (is_in (prefix_of x) R) h.1 in
      h.0 ∙ rw (i, j))
      (all_both (tags Intersection) (records_belong L R Intersection))

  pub union_records : All Whole (prefixes L) → Ascends (prefixes R) → All Whole (prefixes R) → All (λ x. CoveringUnionSays L R (prefix_of x) x) (records_of CoveringUnion L R)
  union_records v b w =
      all_imp (λ x h. subst (CoveringUnionSays L R (prefix_of x)) (sym h.0) (union_says L R (prefix_of x) a v b w h.1))
      (all_both (records_say L R a CoveringUnion) (records_belong L R CoveringUnion))

pub tags_left : (es : List Entry) → All (λ x. x.tag ≡ 1) (map left_only es)
tags_left es = all_map left_only (all_true (λ e. refl) es)

-- the prefixes of a view have no bits past their lengths
pub view_whole : (w : List ℕ) (root : Prefix) → All Whole (prefixes (view w root))
view_whole w root = all_imp (λ p h. h.0) (view_real w root)
