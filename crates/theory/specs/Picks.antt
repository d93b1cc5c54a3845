-- Each list is what it picks of the covering union's records. So one walk serves all five.
use Rattle.std.specs.Prelude.{◌≡◌, refl, Bool, true, false, ◌&&◌, ◌||◌, not, List, [], ◌∷◌, map, ℕ, ◌%◌, ◌/◌, ◌≤◌, eqb}
use Rattle.std.proofs.Common.{sym, ◌∙◌, ap, arith, eq-eqb, ne_eqb, eqb-true}
use Rattle.std.proofs.Math.Bool.{or-true}
use Rattle.std.proofs.Math.Option.{Option, none, some}
use Rattle.std.proofs.lemmas.Bool.{not-true}
use Rattle.defs.specs.declared.Prefix.{Prefix}
use Rattle.defs.specs.declared.Operation.{Operation}
use Rattle.defs.specs.declared.Operation.TheVariants.{Union, Intersection, Difference, CoveringDifference, CoveringUnion}
use Rattle.defs.specs.Basics.{if◌then◌otherwise◌, keep, each}
use Rattle.defs.specs.Prefix.{leads, before, same}
use Rattle.defs.specs.Entries.{Entry, prefixes, view}
use Rattle.defs.specs.Lists.{Record, missing, no_cover, cover_of, all_of, find, is_in, is_led, longest, plain, covered, records_of}
use Rattle.defs.specs.Lemmas.{All, nil, more, split, not_both, all_imp, all_both, all_keep, all_kept, all_unmap, map_map, map_on, keep_map, keep_on, keep_true, all_true}
use Rattle.defs.specs.PrefixLaws.{Whole, same_self, same_says}
use Rattle.defs.proofs.PrefixLaws.{leads_self, leads_same, leads_order, before_irrefl}
use Rattle.defs.specs.OrderLaws.{Ascends, then_after, among, among_keep}
use Rattle.defs.proofs.OrderLaws.{all_merge, merge_ascends, among_merge, ascends_keep, ascends_unique}
use Rattle.defs.specs.NodeLaws.{Real}
use Rattle.defs.proofs.EntryLaws.{view_ascends, view_real}
use Rattle.theory.specs.Covering.{own, tag_of, cover_at, record_at, covering, longest_none}

-- a covering-union record without its cover
abbrev pub bare : Record → Record
bare r =
    record {
      key = r.key;
      len = r.len;
      tag = r.tag;
      left = if eqb (r.tag % 2) 1 then r.left otherwise missing;
      right = if eqb (r.tag / 2) 1 then r.right otherwise missing;
      cover = no_cover;
    }

-- which of the covering union's records a list takes
abbrev pub takes : Operation → Record → Bool
takes Union r = true
takes Intersection r = eqb r.tag 3
takes Difference r = eqb r.tag 1
takes CoveringDifference r = eqb r.tag 1 && eqb r.cover no_cover
takes CoveringUnion r = true

-- what a list makes of a record that it takes
abbrev pub made : Operation → Record → Record
made Union r = bare r
made Intersection r = bare r
made Difference r = bare r
made CoveringDifference r = bare r
made CoveringUnion r = r

-- what a list has of one of the covering union's records: none or one
abbrev pub pick : Operation → Record → List Record
pick op r = if takes op r then made op r ∷ [] otherwise []

-- what a list has of the covering union's records, in order
abbrev pub picks : Operation → List Record → List Record
picks op = each (pick op)

-- a side: its prefixes ascend strictly, and are as entries are
pub record Good (a : List Entry) : Type 0 where
  pub asc : Ascends (prefixes a)
  pub real : All Real (prefixes a)

pub view_good : (w : List ℕ) (root : Prefix) → Good (view w root)
view_good w root = record { asc = view_ascends w root; real = view_real w root }

abbrev pub has : Option Entry → Bool
has none = false
has (some e) = true

-- the longest entry where it is p's own, and otherwise none
abbrev mine : Prefix → Option Entry → Option Entry
mine p o = if own p o then o otherwise none

find_longest : (c : Option Entry) (a : List Entry) (p : Prefix) → Whole p → All Real (prefixes a) → Ascends (prefixes a) → own p c ≡ false
    → mine p (longest c a p) ≡ find p a
find_longest c [] p w ws h o = rw (o, mine)
find_longest c (e ∷ a) p w (more u us) (then_after h hs) o =
    split (same p e.at)
    (λ q.
    let s : p ≡ e.at = same_says p e.at q in
    let n : All (λ x. leads x p ≡ false) (prefixes a) = all_imp (λ x k. later x k.1.0 (rw (← s) at k.0)) (all_both h us) in
    let l : leads e.at p ≡ true = rw (← s) (leads_self p) in
    let i : own p (some e) ≡ true = rw (← s) (eq-eqb p.len p.len refl) in
    let m : longest c (e ∷ a) p ≡ some e = rw l (longest_none (some e) a p n) in
    ap (mine p) m ∙ rw (i, mine, q, find))
    (λ q.
    rw (q, find)
    (split (leads e.at p) (λ l. rw l (find_longest (some e) a p w us hs (other q l))) (λ l. rw l (find_longest c a p w us hs o))))
  where
    later : (x : Prefix) → Whole x → before p x ≡ true → leads x p ≡ false
    later x v k = split (leads x p) (λ l. not_both k (leads_order x p v l)) (λ l. l)

    other : same p e.at ≡ false → leads e.at p ≡ true → own p (some e) ≡ false
    other q l = split (own p (some e)) (λ i. not_both {b = same p e.at} (rw (leads_same e.at p u.0 w l (eqb-true _ _ i)) (same_self p)) q) (λ i. i)

-- the record of a prefix that is one side's own, without and with its cover
bare_record : (p : Prefix) (l r : Option Entry) → (own p l || own p r) ≡ true → bare (record_at p l r) ≡ plain p (mine p l) (mine p r)
bare_record p none none h = not_both h refl
bare_record p none (some f) h = split (own p (some f)) (λ e. rw (e, mine)) (λ e. not_both h e)
bare_record p (some e) none h = split (own p (some e)) (λ i. rw (i, mine)) (λ i. not_both h (rw i))
bare_record p (some e) (some f) h =
    split (own p (some e)) (λ i. split (own p (some f)) (λ j. rw (i, j, mine)) (λ j. rw (i, j, mine)))
    (λ i. split (own p (some f)) (λ j. rw (i, j, mine)) (λ j. not_both h (rw (i, j))))

whole_record : (p : Prefix) (l r : Option Entry) → (own p l || own p r) ≡ true → covered p (mine p l) (mine p r) l r ≡ record_at p l r
whole_record p none none h = not_both h refl
whole_record p none (some f) h = split (own p (some f)) (λ e. rw (e, mine)) (λ e. not_both h e)
whole_record p (some e) none h = split (own p (some e)) (λ i. rw (i, mine)) (λ i. not_both h (rw i))
whole_record p (some e) (some f) h =
    split (own p (some e)) (λ i. split (own p (some f)) (λ j. rw (i, j, mine)) (λ j. rw (i, j, mine)))
    (λ i. split (own p (some f)) (λ j. rw (i, j, mine)) (λ j. not_both h (rw (i, j))))

has_mine : (p : Prefix) (o : Option Entry) → has (mine p o) ≡ own p o
has_mine p none = refl
has_mine p (some e) = split (own p (some e)) (λ i. rw (i, mine)) (λ i. rw (i, mine))

has_find : (p : Prefix) (a : List Entry) → has (find p a) ≡ is_in p a
has_find p [] = refl
has_find p (e ∷ a) = split (same p e.at) (λ q. rw (q, find)) (λ q. rw (q, find) (has_find p a))

pub is_among : (p : Prefix) (a : List Entry) → among p (prefixes a) ≡ is_in p a
is_among p [] = refl
is_among p (e ∷ a) = ap (same p e.at ||◌) (is_among p a)

pub has_longest : (c : Option Entry) (a : List Entry) (p : Prefix) → has (longest c a p) ≡ (has c || is_led p a)
has_longest none [] p = refl
has_longest (some e) [] p = refl
has_longest none (e ∷ a) p = split (leads e.at p) (λ l. rw l (has_longest (some e) a p)) (λ l. rw l (has_longest none a p))
has_longest (some c) (e ∷ a) p = split (leads e.at p) (λ l. rw l (has_longest (some e) a p)) (λ l. rw l (has_longest (some c) a p))

find_self : (a : List Entry) → Ascends (prefixes a) → All (λ e. find e.at a ≡ some e) a
find_self [] h = nil
find_self (e ∷ a) (then_after h hs) =
    more {x = e} (rw (same_self e.at, find))
    (all_imp
    (λ x k. split (same x.at e.at) (λ q. not_both (rw (same_says x.at e.at q) at k.0) (before_irrefl e.at)) (λ q. rw (q, find) k.1))
    (all_both (all_unmap (λ (x : Entry). x.at) a h) (find_self a hs)))

-- a cover is no longer than 64, so the mark of a missing one is never a cover
pub longest_short : (c : Option Entry) (a : List Entry) (p : Prefix) → (has c ≡ true → cover_of c ≤ 64) → All Real (prefixes a) → has (longest c a p) ≡ true → cover_of (longest c a p) ≤ 64
longest_short c [] p h k = h
longest_short c (e ∷ a) p h (more u us) =
    split (leads e.at p) (λ l. rw l (longest_short (some e) a p (λ i. u.1) us)) (λ l. rw l (longest_short c a p h us))

pub whole_of : {a : List Entry} → Good a → All Whole (prefixes a)
whole_of g = all_imp (λ p k. k.0) g.real

pub in_own : (a : List Entry) → All (λ p. is_in p a ≡ true) (prefixes a)
in_own [] = nil
in_own (e ∷ a) = more {x = e.at} (rw (same_self e.at)) (all_imp (λ p h. rw h (or-true (same p e.at))) (in_own a))

-- an entry leads its own prefix
pub led_in : (a : List Entry) (p : Prefix) → is_in p a ≡ true → is_led p a ≡ true
led_in [] p h = h
led_in (e ∷ a) p h =
    split (same p e.at) (λ q. rw (same_says p e.at q) (rw (leads_self e.at))) (λ q. rw (led_in a p (rw q at h)) (or-true (leads e.at p)))

pub in_led : (a : List Entry) (p : Prefix) → is_led p a ≡ false → is_in p a ≡ false
in_led a p h = split (is_in p a) (λ i. not_both (led_in a p i) h) (λ i. i)

-- the longest entry that leads one of a list's own prefixes is its own
pub own_in : (c : Option Entry) (a : List Entry) (p : Prefix) → Good a → Whole p → own p c ≡ false → own p (longest c a p) ≡ is_in p a
own_in c a p g w o = sym (has_mine p (longest c a p)) ∙ ap has (find_longest c a p w g.real g.asc o) ∙ has_find p a

keep_picks : (op : Operation) (rs : List Record) → picks op rs ≡ map (made op) (keep (takes op) rs)
keep_picks op [] = refl
keep_picks op (r ∷ rs) = split (takes op r) (λ e. rw (e, keep) (ap (made op r ∷◌) (keep_picks op rs))) (λ e. rw (e, keep) (keep_picks op rs))

module _ (l r : List Entry) (gl : Good l) (gr : Good r) where
  -- the covering union's record of a prefix
  abbrev F : Prefix → Record
  F p = record_at p (longest none l p) (longest none r p)

  mine_left : (p : Prefix) → Whole p → mine p (longest none l p) ≡ find p l
  mine_left p w = find_longest none l p w gl.real gl.asc refl

  mine_right : (p : Prefix) → Whole p → mine p (longest none r p) ≡ find p r
  mine_right p w = find_longest none r p w gr.real gr.asc refl

  own_left : (p : Prefix) → Whole p → own p (longest none l p) ≡ is_in p l
  own_left p w = own_in none l p gl w refl

  own_right : (p : Prefix) → Whole p → own p (longest none r p) ≡ is_in p r
  own_right p w = own_in none r p gr w refl

  -- a prefix of either side
  abbrev Listed : Prefix → Type 0
  Listed p = Whole p × ((is_in p l || is_in p r) ≡ true)

  own_either : (p : Prefix) → Listed p → (own p (longest none l p) || own p (longest none r p)) ≡ true
  own_either p h = rw (own_left p h.0, own_right p h.0) h.1

  bare-F : (p : Prefix) → Listed p → bare (F p) ≡ plain p (find p l) (find p r)
  bare-F p h = bare_record p (longest none l p) (longest none r p) (own_either p h) ∙ rw (mine_left p h.0, mine_right p h.0)

  covered-F : (p : Prefix) → Listed p → covered p (find p l) (find p r) (longest none l p) (longest none r p) ≡ F p
  covered-F p h = rw (← mine_left p h.0, ← mine_right p h.0) (whole_record p (longest none l p) (longest none r p) (own_either p h))

  all_listed : All Listed (all_of l r)
  all_listed =
      all_both (all_merge (whole_of gl) (whole_of gr))
      (all_merge {P = λ p. (is_in p l || is_in p r) ≡ true} (all_imp (λ p h. rw h) (in_own l)) (all_imp (λ p h. rw h (or-true (is_in p l))) (in_own r)))

  -- the prefixes of the left side for which a test passes, out of all
  chosen : (U : Prefix → Bool) → keep (λ p. is_in p l && U p) (all_of l r) ≡ keep U (prefixes l)
  chosen U =
      ascends_unique _ _ (ascends_keep (λ p. is_in p l && U p) (merge_ascends (prefixes l) gr.asc)) (ascends_keep U gl.asc)
      (λ x. among_keep (λ p. is_in p l && U p) x (all_of l r) ∙ rw (among_merge x (prefixes l) (prefixes r), among_keep U x (prefixes l), is_among x l) (law (is_in x l) (U x) (among x (prefixes r))))
    where
      law : (a u b : Bool) → ((a && u) && (a || b)) ≡ (u && a)
      law true true b = refl
      law true false b = refl
      law false true b = refl
      law false false b = refl

  -- what a list picks, if it takes prefixes of the left side alone, those for which U passes, and makes them bare
  picked_left : (T : Record → Bool) (U : Prefix → Bool) → ((p : Prefix) → Listed p → T (F p) ≡ (is_in p l && U p))
      → map bare (keep T (covering none none l r)) ≡ map (λ e. plain e.at (some e) (find e.at r)) (keep (λ e. U e.at) l)
  picked_left T U t =
      let kept = keep (λ (e : Entry). U e.at) l in
      rw (keep_map T F (all_of l r), keep_on (λ p. T (F p)) (λ p. is_in p l && U p) t all_listed, chosen U, keep_map U (λ (e : Entry). e.at) l)
      (ap (map bare) (map_map F (λ (e : Entry). e.at) kept) ∙ map_map bare (λ (e : Entry). F e.at) kept
      ∙ map_on (λ e. bare (F e.at)) (λ e. plain e.at (some e) (find e.at r)) (λ e k. bare-F e.at (k.0.0, rw k.0.1) ∙ rw k.1)
      (all_keep (λ e. U e.at)
      (all_both (all_both (all_unmap (λ (e : Entry). e.at) l (whole_of gl)) (all_unmap (λ (e : Entry). e.at) l (in_own l))) (find_self l gl.asc))))

  tags : (a b : Bool) → (a || b) ≡ true → (eqb (tag_of a b) 3 ≡ (a && b)) × (eqb (tag_of a b) 1 ≡ (a && not b))
  tags true true h = (refl, refl)
  tags true false h = (refl, refl)
  tags false true h = (refl, refl)
  tags false false h = not_both h refl

  absent : (p : Prefix) → not (is_in p r) ≡ true → none ≡ find p r
  absent p k = go (find p r) (has_find p r)
    where
      go : (o : Option Entry) → has o ≡ is_in p r → none ≡ o
      go none e = refl
      go (some x) e = not_both k (rw (← e))

  covers : (a : Bool) (p : Prefix) (m o : Option Entry) → (own p o ≡ true → has o ≡ true) → (has o ≡ true → cover_of o ≤ 64)
      → (eqb (tag_of a (own p o)) 1 && eqb (cover_at a (own p o) m o) no_cover) ≡ (a && not (has o))
  covers true p m none h k = refl
  covers false p m o h k = refl
  covers true p m (some e) h k = split (own p (some e)) (λ i. rw i) (λ i. rw (i, ne_eqb e.at.len no_cover (λ q. omega (arith, k refl))))

  -- each list is what it picks of the covering union's records
  pub list_picks : (op : Operation) → records_of op l r ≡ picks op (covering none none l r)
  list_picks CoveringUnion =
      map_on _ _ covered-F all_listed ∙ sym (keep_picks CoveringUnion (covering none none l r) ∙ same_all (covering none none l r))
    where
      same_all : (rs : List Record) → map (made CoveringUnion) (keep (takes CoveringUnion) rs) ≡ rs
      same_all [] = refl
      same_all (x ∷ rs) = ap (x ∷◌) (same_all rs)
  list_picks Union =
      sym (keep_picks Union (covering none none l r) ∙ ap (map bare) (keep_true (takes Union) (all_true (λ x. refl) (covering none none l r))) ∙ map_map bare F (all_of l r) ∙ map_on _ _ bare-F all_listed)
  list_picks Intersection =
      sym
      (keep_picks Intersection (covering none none l r)
      ∙ picked_left (takes Intersection) (λ p. is_in p r) (λ p h. rw (own_left p h.0, own_right p h.0) (tags (is_in p l) (is_in p r) h.1).0))
  list_picks Difference =
      map_on _ _ (λ e k. ap (plain e.at (some e)) (absent e.at k)) (all_kept (λ e. not (is_in e.at r)) l)
      ∙ sym
      (keep_picks Difference (covering none none l r)
      ∙ picked_left (takes Difference) (λ p. not (is_in p r)) (λ p h. rw (own_left p h.0, own_right p h.0) (tags (is_in p l) (is_in p r) h.1).1))
  list_picks CoveringDifference =
      map_on _ _ (λ e k. ap (plain e.at (some e)) (absent e.at (rw (in_led r e.at (not-true _ k))))) (all_kept (λ e. not (is_led e.at r)) l)
      ∙ sym
      (keep_picks CoveringDifference (covering none none l r)
      ∙ picked_left (takes CoveringDifference) (λ p. not (is_led p r))
      (λ p h.
      rw (own_left p h.0)
      (covers (is_in p l) p (longest none l p) (longest none r p) (own_has p (longest none r p)) (longest_short none r p (λ i. not_both i refl) gr.real)
      ∙ rw (has_longest none r p))))
    where
      own_has : (p : Prefix) (o : Option Entry) → own p o ≡ true → has o ≡ true
      own_has p none h = h
      own_has p (some e) h = refl
