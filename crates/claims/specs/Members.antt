-- The prefixes of each list's records, and which they are.
use Rattle.std.specs.Prelude.{◌≡◌, refl, Bool, true, false, not, ◌&&◌, ◌||◌, ◌↔◌, ◌⊎◌}
use Rattle.std.proofs.Common.{sym, ◌∙◌, ap, subst, inl, inr, ⊎_elim}
use Rattle.std.proofs.Math.Bool.{and_comm}
use mathlib.Core.List.Memᴰ
use mathlib.Core.List.{List, [], ◌∷◌, map, Memᴰ}
use Rattle.std.proofs.Math.Option.{none, some}
use Rattle.defs.specs.declared.Prefix.{Prefix}
use Rattle.defs.specs.declared.Operation.{Operation}
use Rattle.defs.specs.declared.Operation.TheVariants.{Union, Intersection, Difference, CoveringDifference, CoveringUnion}
use Rattle.defs.specs.Basics.{keep, any}
use Rattle.defs.specs.Prefix.{first, leads, same}
use Rattle.defs.specs.Entries.{Entry, prefixes}
use Rattle.defs.specs.Lists.{Record, plain, covered, left_only, find, is_in, is_led, longest, all_of, records_of}
use Rattle.defs.specs.Lemmas.{All, nil, more, split, not_both, is_false, and_left, and_right, all_kept, map_map, map_ext, keep_map}
use Rattle.defs.specs.PrefixLaws.{same_self, same_says}
use Rattle.defs.specs.OrderLaws.{among, among_keep}
use Rattle.defs.proofs.OrderLaws.{among_merge}
use Rattle.defs.specs.ListLaws.{prefix_of, prefix_plain, prefix_covered}
use Rattle.tidied.specs.ListFacts.{any_map}
use Rattle.claims.specs.Terms.{HasRecord, HasEntry, HasLeading}

-- the prefixes of the records of a list, in order
abbrev pub list_prefixes : Operation → List Entry → List Entry → List Prefix
list_prefixes Union L R = all_of L R
list_prefixes Intersection L R = keep (λ p. is_in p R) (prefixes L)
list_prefixes Difference L R = keep (λ p. not (is_in p R)) (prefixes L)
list_prefixes CoveringDifference L R = keep (λ p. not (is_led p R)) (prefixes L)
list_prefixes CoveringUnion L R = all_of L R

pub map_id : {A : Type 0} (xs : List A) → map (λ (x : A). x) xs ≡ xs
map_id [] = refl
map_id (x ∷ xs) = ap (x ∷◌) (map_id xs)

-- records made one for each prefix of a list
of_prefixes : (f : Prefix → Record) → ((p : Prefix) → prefix_of (f p) ≡ p) → (ps : List Prefix) → map prefix_of (map f ps) ≡ ps
of_prefixes f h ps = map_map prefix_of f ps ∙ map_ext (λ p. prefix_of (f p)) (λ p. p) h ps ∙ map_id ps

-- records made one for each entry whose prefix passes a test
of_entries : (t : Prefix → Bool) (f : Entry → Record) → ((e : Entry) → prefix_of (f e) ≡ e.at) → (L : List Entry)
    → map prefix_of (map f (keep (λ e. t e.at) L)) ≡ keep t (prefixes L)
of_entries t f h L =
    map_map prefix_of f (keep (λ e. t e.at) L) ∙ map_ext (λ e. prefix_of (f e)) (λ e. e.at) h (keep (λ e. t e.at) L)
    ∙ sym (keep_map t (λ (e : Entry). e.at) L)

pub list_prefixes_lem : (op : Operation) (L R : List Entry) → map prefix_of (records_of op L R) ≡ list_prefixes op L R
list_prefixes_lem Union L R = of_prefixes (λ p. plain p (find p L) (find p R)) (λ p. prefix_plain p (find p L) (find p R)) (all_of L R)
list_prefixes_lem Intersection L R =
    of_entries (λ p. is_in p R) (λ e. plain e.at (some e) (find e.at R)) (λ e. prefix_plain e.at (some e) (find e.at R)) L
list_prefixes_lem Difference L R = of_entries (λ p. not (is_in p R)) left_only (λ e. refl) L
list_prefixes_lem CoveringDifference L R = of_entries (λ p. not (is_led p R)) left_only (λ e. refl) L
list_prefixes_lem CoveringUnion L R =
    of_prefixes (λ p. covered p (find p L) (find p R) (longest none L p) (longest none R p))
    (λ p. prefix_covered p (find p L) (find p R) (longest none L p) (longest none R p)) (all_of L R)

pub among_prefixes : (p : Prefix) (es : List Entry) → among p (prefixes es) ≡ is_in p es
among_prefixes p es = any_map (same p) (λ (e : Entry). e.at) es

-- p is in the merge of two lists where it is in either
among_all : (p : Prefix) (L R : List Entry) → among p (all_of L R) ≡ (is_in p L || is_in p R)
among_all p L R = among_merge p (prefixes L) (prefixes R) ∙ rw (among_prefixes p L, among_prefixes p R)

-- p is among those of a list that pass a test where it is in the list and passes it
among_kept : (t : Prefix → Bool) (p : Prefix) (L : List Entry) → among p (keep t (prefixes L)) ≡ (is_in p L && t p)
among_kept t p L = among_keep t p (prefixes L) ∙ rw (among_prefixes p L) (and_comm (t p) (is_in p L))

-- the test that a prefix passes to be in a list
abbrev pub belongs : Operation → List Entry → List Entry → Prefix → Bool
belongs Union L R p = is_in p L || is_in p R
belongs Intersection L R p = is_in p L && is_in p R
belongs Difference L R p = is_in p L && not (is_in p R)
belongs CoveringDifference L R p = is_in p L && not (is_led p R)
belongs CoveringUnion L R p = is_in p L || is_in p R

pub members : (op : Operation) (L R : List Entry) (p : Prefix) → among p (list_prefixes op L R) ≡ belongs op L R p
members Union L R p = among_all p L R
members Intersection L R p = among_kept (λ q. is_in q R) p L
members Difference L R p = among_kept (λ q. not (is_in q R)) p L
members CoveringDifference L R p = among_kept (λ q. not (is_led q R)) p L
members CoveringUnion L R p = among_all p L R

module _ {A : Type 0} where
  -- what holds of each of a list holds of its members
  pub all_member : {P : A → Type 0} {x : A} {xs : List A} → All P xs → Memᴰ x xs → P x
  all_member nil m = elim m [ ]
  all_member {P} (more h k) (Memᴰ.head e) = subst P (sym e) h
  all_member (more h k) (Memᴰ.tail m) = all_member k m

  -- some of a list passes a test exactly when one of its members does
  abbrev Passing : (A → Bool) → List A → Type 0
  Passing f xs = (x : A) × Memᴰ x xs × (f x ≡ true)

  further : (f : A → Bool) (x : A) (xs : List A) → Passing f xs → Passing f (x ∷ xs)
  further f x xs h = (h.0, Memᴰ.tail h.1, h.2)

  pub passing : (f : A → Bool) (xs : List A) → any f xs ≡ true → Passing f xs
  passing f [] h = not_both h refl
  passing f (x ∷ xs) h = split (f x) (λ t. (x, Memᴰ.head refl, t)) (λ t. further f x xs (passing f xs (rw t at h)))

  pub any_of : (f : A → Bool) {x : A} {xs : List A} → Memᴰ x xs → f x ≡ true → any f xs ≡ true
  any_of f (Memᴰ.head e) h = rw (ap f (sym e) ∙ h)
  any_of f (Memᴰ.tail {x = y} m) h = split (f y) (λ t. rw t) (λ t. rw t (any_of f m h))

  kept_inside : (f : A → Bool) (x : A) (xs : List A) → Memᴰ x (keep f xs) → Memᴰ x xs
  kept_inside f x [] m = m
  kept_inside f x (y ∷ xs) m =
      split (f y)
      (λ t. ⊎_elim (λ e. Memᴰ.head e) (λ k. Memᴰ.tail (kept_inside f x xs k)) (Memᴰ.cases_cons (rw t at m)))
      (λ t. Memᴰ.tail (kept_inside f x xs (rw t at m)))

  kept_of_lem : (f : A → Bool) {x : A} {xs : List A} → Memᴰ x xs → f x ≡ true → Memᴰ x (keep f xs)
  kept_of_lem f (Memᴰ.head e) h = rw (ap f (sym e) ∙ h, keep) (Memᴰ.head e)
  kept_of_lem f (Memᴰ.tail {x = y} m) h = split (f y) (λ t. rw (t, keep) (Memᴰ.tail (kept_of_lem f m h))) (λ t. rw (t, keep) (kept_of_lem f m h))

  -- those kept are the members that pass the test
  pub kept_members : (f : A → Bool) (x : A) (xs : List A) → Memᴰ x (keep f xs) ↔ (Memᴰ x xs × (f x ≡ true))
  kept_members f x xs = (λ m. (kept_inside f x xs m, all_member (all_kept f xs) m), λ h. kept_of_lem f h.0 h.1)

-- two roots that agree in their lengths and first bits lead the same
pub leads_alike : (a b p : Prefix) → a.len ≡ b.len → first a.len a.key ≡ first a.len b.key → leads a p ≡ leads b p
unfolding leads
leads_alike a b p n k = rw (k, n)

-- the tests of the definitions, said of members
module _ (p : Prefix) where
  pub record_says : (rs : List Record) → among p (map prefix_of rs) ≡ true → HasRecord p rs
  record_says rs h = let m = passing (λ r. same p (prefix_of r)) rs (sym (any_map (same p) prefix_of rs) ∙ h) in (m.0, m.1, sym (same_says p (prefix_of m.0) m.2))

  pub record_of_lem : (rs : List Record) → HasRecord p rs → among p (map prefix_of rs) ≡ true
  record_of_lem rs m = any_map (same p) prefix_of rs ∙ any_of (λ r. same p (prefix_of r)) m.1 (rw m.2 (same_self p))

  pub entry_says : (es : List Entry) → is_in p es ≡ true → HasEntry p es
  entry_says es h = let m = passing (λ e. same p e.at) es h in (m.0, m.1, sym (same_says p m.0.at m.2))

  pub entry_of : (es : List Entry) → HasEntry p es → is_in p es ≡ true
  entry_of es m = any_of (λ e. same p e.at) m.1 (rw m.2 (same_self p))

  pub led_says : (es : List Entry) → is_led p es ≡ true → HasLeading p es
  led_says es h = passing (λ e. leads e.at p) es h

  pub led_of : (es : List Entry) → HasLeading p es → is_led p es ≡ true
  led_of es m = any_of (λ e. leads e.at p) m.1 m.2

  pub entry_not : (es : List Entry) → (HasEntry p es → ⊥) → is_in p es ≡ false
  entry_not es h = is_false (is_in p es) (λ t. h (entry_says es t))

  pub led_not : (es : List Entry) → (HasLeading p es → ⊥) → is_led p es ≡ false
  led_not es h = is_false (is_led p es) (λ t. h (led_says es t))

  pub not_entry : (es : List Entry) → is_in p es ≡ false → HasEntry p es → ⊥
  not_entry es h m = not_both (entry_of es m) h

  pub not_led : (es : List Entry) → is_led p es ≡ false → HasLeading p es → ⊥
  not_led es h m = not_both (led_of es m) h

or_says : {A B : Type 0} (a b : Bool) → (a ≡ true → A) → (b ≡ true → B) → (a || b) ≡ true → A ⊎ B
or_says true b f g h = inl (f refl)
or_says false b f g h = inr (g h)

module _ (L R : List Entry) (p : Prefix) where
  listed : (op : Operation) → among p (map prefix_of (records_of op L R)) ≡ belongs op L R p
  listed op = ap (among p) (list_prefixes_lem op L R) ∙ members op L R p

  -- a list with the members of both sides
  pub in_either : (op : Operation) → belongs op L R p ≡ (is_in p L || is_in p R) → HasRecord p (records_of op L R) ↔ (HasEntry p L ⊎ HasEntry p R)
  in_either op e = (
    λ h. or_says (is_in p L) (is_in p R) (entry_says p L) (entry_says p R) (sym (listed op ∙ e) ∙ record_of_lem p (records_of op L R) h),
    λ h. record_says p (records_of op L R) (listed op ∙ e ∙ back h),
  )
    where
      back : HasEntry p L ⊎ HasEntry p R → (is_in p L || is_in p R) ≡ true
      back (inl h) = rw (entry_of p L h)
      back (inr h) = split (is_in p L) (λ t. rw t) (λ t. rw t (entry_of p R h))

  -- a list with the members of L that pass a test, for which `yes` stands
  pub in_left : (op : Operation) (t : Bool) (C : Type 0) → belongs op L R p ≡ (is_in p L && t) → (t ≡ true → C) → (C → t ≡ true)
      → HasRecord p (records_of op L R) ↔ (HasEntry p L × C)
  in_left op t C e f g = (
    λ h. (let k = sym (listed op ∙ e) ∙ record_of_lem p (records_of op L R) h in (entry_says p L (and_left (is_in p L) t k), f (and_right (is_in p L) t k))),
    λ h. record_says p (records_of op L R) (listed op ∙ e ∙ rw (entry_of p L h.0) (g h.1)),
  )
