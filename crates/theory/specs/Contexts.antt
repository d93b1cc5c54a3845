-- Entries above a node: only their length and value matter, and to the lists without covers not even these.
use Rattle.std.specs.Prelude.{◌≡◌, refl, true, false, List, [], ◌∷◌, ◌++◌, map, ℕ, ◌≤◌, ◌<◌, None, Some}
use Rattle.std.proofs.Common.{sym, ◌∙◌, ap, arith, ne_eqb}
use Rattle.std.proofs.Math.Option.{Option, none, some}
use Rattle.defs.specs.declared.Prefix.{Prefix}
use Rattle.defs.specs.declared.Operation.{Operation}
use Rattle.defs.specs.declared.Operation.TheVariants.{Union, Intersection, Difference, CoveringDifference, CoveringUnion}
use Rattle.defs.specs.Basics.{each}
use Rattle.defs.specs.Prefix.{leads}
use Rattle.defs.specs.Entries.{Entry, prefixes}
use Rattle.defs.specs.Lists.{Record, all_of, is_in, is_led, longest}
use Rattle.defs.specs.Lemmas.{All, split, not_both, all_imp, all_both, each_on}
use Rattle.defs.specs.PrefixLaws.{Whole}
use Rattle.defs.proofs.OrderLaws.{all_merge}
use Rattle.theory.specs.Covering.{own, record_at, covering}
use Rattle.theory.specs.Picks.{Good, pick, picks, own_in, in_own, led_in, whole_of}
use Rattle.theory.specs.Kinds.{a_cover, Cover}

-- an entry above as far as it matters
abbrev pub cover_for : Option Entry → Cover
cover_for none = None
cover_for (some e) = a_cover e.at.len e.value

-- an entry with a cover's length and value
abbrev pub entry_for : Cover → Option Entry
entry_for None = none
entry_for (Some a) = some (record { at = record { key = 0; len = a.len }; value = a.value })

pub cover_entry : (c : Cover) → cover_for (entry_for c) ≡ c
cover_entry None = refl
cover_entry (Some a) = refl

-- an entry above is shorter than n
abbrev pub Shorter : Option Entry → ℕ → Type 0
Shorter none n = Unit {0}
Shorter (some e) n = e.at.len < n

pub not_own : (c : Option Entry) (n : ℕ) (p : Prefix) → Shorter c n → n ≤ p.len → own p c ≡ false
not_own none n p h l = refl
not_own (some e) n p h l = ne_eqb e.at.len p.len (λ q. omega arith)

-- the longest entry hangs on the one above only where no entry leads p
pub longest_led : (c d : Option Entry) (a : List Entry) (p : Prefix) → is_led p a ≡ true → longest c a p ≡ longest d a p
longest_led c d [] p h = not_both h refl
longest_led c d (e ∷ a) p h = split (leads e.at p) (λ l. rw l) (λ l. rw l (longest_led c d a p (rw l at h)))

pub longest_free : (c : Option Entry) (a : List Entry) (p : Prefix) → is_led p a ≡ false → longest c a p ≡ c
longest_free c [] p h = refl
longest_free c (e ∷ a) p h = split (leads e.at p) (λ l. not_both (rw l) h) (λ l. rw l (longest_free c a p (rw l at h)))

-- an entry above on the left may stand for another: with covers where length and value are the same, else where there is none
abbrev pub StandsLeft : Operation → Option Entry → Option Entry → Type 0
StandsLeft CoveringUnion c d = cover_for c ≡ cover_for d
StandsLeft Union c d = d ≡ none
StandsLeft Intersection c d = d ≡ none
StandsLeft Difference c d = d ≡ none
StandsLeft CoveringDifference c d = d ≡ none

-- the same on the right, where an entry above decides a covering difference
abbrev pub StandsRight : Operation → Option Entry → Option Entry → Type 0
StandsRight CoveringUnion c d = cover_for c ≡ cover_for d
StandsRight Union c d = d ≡ none
StandsRight Intersection c d = d ≡ none
StandsRight Difference c d = d ≡ none
StandsRight CoveringDifference c d = c ≡ d

-- the length and the value in a cover
abbrev len_in : Cover → ℕ
len_in None = 0
len_in (Some a) = a.len

abbrev value_in : Cover → ℕ
value_in None = 0
value_in (Some a) = a.value

-- a record hangs on the length and value of an entry above alone
same_left : (p : Prefix) (c d u : Option Entry) → cover_for c ≡ cover_for d → own p c ≡ false → own p d ≡ false → record_at p c u ≡ record_at p d u
same_left p none none u e i j = refl
same_left p none (some d) u e i j = let z : ◌≡◌ {A = ℕ} 0 1 = cc in absurd (omega arith)
same_left p (some c) none u e i j = let z : ◌≡◌ {A = ℕ} 0 1 = cc in absurd (omega arith)
same_left p (some c) (some d) u e i j =
    let l : c.at.len ≡ d.at.len = ap len_in e in
    let v : c.value ≡ d.value = ap value_in e in
    rw (i, j, l, v)

same_right : (p : Prefix) (o c d : Option Entry) → cover_for c ≡ cover_for d → own p c ≡ false → own p d ≡ false → record_at p o c ≡ record_at p o d
same_right p o none none e i j = refl
same_right p o none (some d) e i j = let z : ◌≡◌ {A = ℕ} 0 1 = cc in absurd (omega arith)
same_right p o (some c) none e i j = let z : ◌≡◌ {A = ℕ} 0 1 = cc in absurd (omega arith)
same_right p o (some c) (some d) e i j =
    let l : c.at.len ≡ d.at.len = ap len_in e in
    let v : c.value ≡ d.value = ap value_in e in
    split (own p o) (λ k. rw (i, j, k, l, v)) (λ k. rw (i, j, k, v))

-- of a record that is the other side's own, a list takes the same whatever stands above
stands_left : (op : Operation) (p : Prefix) (c d u : Option Entry) → StandsLeft op c d → own p c ≡ false → own p d ≡ false → own p u ≡ true
    → pick op (record_at p c u) ≡ pick op (record_at p d u)
stands_left CoveringUnion p c d u s i j k = ap (λ (r : Record). r ∷ []) (same_left p c d u s i j)
stands_left Union p c d u s i j k = rw (i, j)
stands_left Intersection p c d u s i j k = rw (i, j)
stands_left Difference p c d u s i j k = rw (i, j)
stands_left CoveringDifference p c d u s i j k = rw (i, j)

stands_right : (op : Operation) (p : Prefix) (o c d : Option Entry) → StandsRight op c d → own p c ≡ false → own p d ≡ false → own p o ≡ true
    → pick op (record_at p o c) ≡ pick op (record_at p o d)
stands_right CoveringUnion p o c d s i j k = ap (λ (r : Record). r ∷ []) (same_right p o c d s i j)
stands_right Union p o c d s i j k = rw (i, j, k)
stands_right Intersection p o c d s i j k = rw (i, j, k)
stands_right Difference p o c d s i j k = rw (i, j, k)
stands_right CoveringDifference p o c d s i j k = rw s

each_map : {A B C : Type 0} (f : B → List C) (g : A → B) (a : List A) → each f (map g a) ≡ each (λ x. f (g x)) a
each_map f g [] = refl
each_map f g (x ∷ a) = ap (f (g x) ++◌) (each_map f g a)

module _ (op : Operation) (l r : List Entry) (gl : Good l) (gr : Good r) (n : ℕ) (cl cr dl dr : Option Entry)
    (sl : Shorter cl n) (sr : Shorter cr n) (tl : Shorter dl n) (tr : Shorter dr n) (left : StandsLeft op cl dl) (right : StandsRight op cr dr) where
  abbrev with_c : Prefix → Record
  with_c p = record_at p (longest cl l p) (longest cr r p)

  abbrev with_d : Prefix → Record
  with_d p = record_at p (longest dl l p) (longest dr r p)

  of_left : (p : Prefix) → Whole p → n ≤ p.len → is_in p l ≡ true → pick op (with_c p) ≡ pick op (with_d p)
  of_left p w h i =
      let o : own p (longest dl l p) ≡ true = own_in dl l p gl w (not_own dl n p tl h) ∙ i in
      rw (longest_led cl dl l p (led_in l p i))
      (split (is_led p r) (λ k. rw (longest_led cr dr r p k))
      (λ k. rw (longest_free cr r p k, longest_free dr r p k) (stands_right op p (longest dl l p) cr dr right (not_own cr n p sr h) (not_own dr n p tr h) o)))

  of_right : (p : Prefix) → Whole p → n ≤ p.len → is_in p r ≡ true → pick op (with_c p) ≡ pick op (with_d p)
  of_right p w h i =
      let o : own p (longest dr r p) ≡ true = own_in dr r p gr w (not_own dr n p tr h) ∙ i in
      rw (longest_led cr dr r p (led_in r p i))
      (split (is_led p l) (λ k. rw (longest_led cl dl l p k))
      (λ k. rw (longest_free cl l p k, longest_free dl l p k) (stands_left op p cl dl (longest dr r p) left (not_own cl n p sl h) (not_own dl n p tl h) o)))

  -- what a list picks hangs on the entries above only so far
  pub context : All (λ p. n ≤ p.len) (prefixes l) → All (λ p. n ≤ p.len) (prefixes r) → picks op (covering cl cr l r) ≡ picks op (covering dl dr l r)
  context hl hr =
      each_map (pick op) with_c (all_of l r)
      ∙ each_on (λ p. pick op (with_c p)) (λ p. pick op (with_d p)) (λ p k. k)
      (all_merge (all_imp (λ p k. of_left p k.0.0 k.0.1 k.1) (all_both (all_both (whole_of gl) hl) (in_own l)))
      (all_imp (λ p k. of_right p k.0.0 k.0.1 k.1) (all_both (all_both (whole_of gr) hr) (in_own r))))
      ∙ sym (each_map (pick op) with_d (all_of l r))
