-- The covering union under entries from above, and its law at a seam: it is the one law from which every list is walked place by place.
use Rattle.std.specs.Prelude.{◌≡◌, refl, Bool, true, false, List, [], ◌∷◌, ◌++◌, map, ℕ, eqb}
use Rattle.std.proofs.Common.{sym, ◌∙◌, ap}
use Rattle.std.proofs.Math.Option.{Option, none, some}
use Rattle.defs.specs.declared.Prefix.{Prefix}
use Rattle.defs.specs.Prefix.{leads, before}
use Rattle.defs.specs.Basics.{if◌then◌otherwise◌}
use Rattle.defs.specs.Entries.{Entry, prefixes}
use Rattle.defs.specs.Lists.{Record, value_of, cover_of, no_cover, put, merge, longest}
use Rattle.defs.specs.Lemmas.{All, nil, more, split, not_both, all_imp, map_append, map_on}
use Rattle.defs.specs.PrefixLaws.{Whole}
use Rattle.defs.proofs.PrefixLaws.{before_asym, leads_trans, leads_order, leads_chain}
use Rattle.defs.proofs.OrderLaws.{all_merge}

-- the longest entry that leads p is p's own
abbrev pub own : Prefix → Option Entry → Bool
own p none = false
own p (some e) = eqb e.at.len p.len

abbrev pub tag_of : Bool → Bool → ℕ
tag_of true true = 3
tag_of true false = 1
tag_of false r = 2

abbrev pub cover_at : Bool → Bool → Option Entry → Option Entry → ℕ
cover_at true true l r = no_cover
cover_at true false l r = cover_of r
cover_at false b l r = cover_of l

-- the covering-union record of p, from the longest entry of each side that leads it
abbrev pub record_at : Prefix → Option Entry → Option Entry → Record
record_at p l r =
    record {
      key = p.key;
      len = p.len;
      tag = tag_of (own p l) (own p r);
      left = value_of l;
      right = value_of r;
      cover = cover_at (own p l) (own p r) l r;
    }

-- the covering-union records of l and r; cl and cr: the entry of each side above all of them, or none
abbrev pub covering : Option Entry → Option Entry → List Entry → List Entry → List Record
covering cl cr l r = map (λ p. record_at p (longest cl l p) (longest cr r p)) (merge (prefixes l) (prefixes r))

-- records of prefixes for which the longest entries are the same
records_on : {P : Prefix → Type 0} (f f' g g' : Prefix → Option Entry) → ((x : Prefix) → P x → f x ≡ f' x) → ((x : Prefix) → P x → g x ≡ g' x)
    → {a : List Prefix} → All P a → map (λ p. record_at p (f p) (g p)) a ≡ map (λ p. record_at p (f' p) (g' p)) a
records_on f f' g g' e e' h = map_on (λ p. record_at p (f p) (g p)) (λ p. record_at p (f' p) (g' p)) (λ x w. rw (e x w, e' x w)) h

-- put and merge over a seam
put_left : (p : Prefix) (a : List Prefix) {b : List Prefix} → All (λ q. before p q ≡ true) b → put p (a ++ b) ≡ put p a ++ b
put_left p [] nil = refl
put_left p [] (more h k) = rw (h, put)
put_left p (x ∷ a) h =
    split (before p x) (λ e. rw (e, put))
    (λ e. split (before x p) (λ f. rw (e, f, put) (ap (x ∷◌) (put_left p a h))) (λ f. rw (e, f, put)))

put_right : (p : Prefix) {a : List Prefix} (b : List Prefix) → All (λ q. before q p ≡ true) a → put p (a ++ b) ≡ a ++ put p b
put_right p b nil = refl
put_right p b (more {x = x} h k) = rw (before_asym x p h, h, put) (ap (x ∷◌) (put_right p b k))

module _ {P Q : Prefix → Type 0} (sep : (x y : Prefix) → P x → Q y → before x y ≡ true) where
  merge_right : {a b : List Prefix} (b' : List Prefix) → All Q a → All P b → merge a (b ++ b') ≡ b ++ merge a b'
  merge_right b' nil k = refl
  merge_right b' (more {x = x} {xs = xs} h l) k = rw (merge_right b' l k) (put_right x (merge xs b') (all_imp (λ y w. sep y x w h) k))

  pub merge_append : {a a' b b' : List Prefix} → All P a → All Q a' → All P b → All Q b' → merge (a ++ a') (b ++ b') ≡ merge a b ++ merge a' b'
  merge_append {b' = b'} nil h' k k' = merge_right b' h' k
  merge_append {b = b} (more {x = x} {xs = xs} h l) h' k k' =
      rw (merge_append l h' k k') (put_left x (merge xs b) (all_imp (λ y w. sep x y h w) (all_merge h' k')))

-- the longest entry over a seam
pub longest_append : (c : Option Entry) (a b : List Entry) (p : Prefix) → longest c (a ++ b) p ≡ longest (longest c a p) b p
longest_append c [] b p = refl
longest_append c (e ∷ a) b p = longest_append (if leads e.at p then some e otherwise c) a b p

pub longest_none : (c : Option Entry) (a : List Entry) (p : Prefix) → All (λ x. leads x p ≡ false) (prefixes a) → longest c a p ≡ c
longest_none c [] p h = refl
longest_none c (e ∷ a) p (more h hs) = rw h (longest_none c a p hs)

pub longest_agree : (c : Option Entry) (a : List Entry) (p q : Prefix) → All (λ x. leads x p ≡ leads x q) (prefixes a) → longest c a p ≡ longest c a q
longest_agree c [] p q h = refl
longest_agree c (e ∷ a) p q (more h hs) = rw h (longest_agree (if leads e.at q then some e otherwise c) a p q hs)

-- The seam: what stands before it is of kind P, what stands after it of kind Q; q leads all of kind Q and comes before none of kind P.
module _ {P Q : Prefix → Type 0} (sep : (x y : Prefix) → P x → Q y → before x y ≡ true) (whole : (y : Prefix) → Q y → Whole y)
    (q : Prefix) (wq : Whole q) (lead : (y : Prefix) → Q y → leads q y ≡ true) (first : (x : Prefix) → P x → before q x ≡ false) where
  back : (x y : Prefix) → P x → Q y → leads y x ≡ false
  back x y h k = split (leads y x) (λ e. not_both (sep x y h k) (leads_order y x (whole y k) e)) (λ e. e)

  through : (x y : Prefix) → P x → Q y → leads x y ≡ leads x q
  through x y h k =
      split (leads x q) (λ e. leads_trans x q y e (lead y k) ∙ sym e)
      (λ e. split (leads x y) (λ f. not_both (leads_chain x q y wq f (lead y k) (first x h)) e) (λ f. f ∙ sym e))

  module _ (c : Option Entry) (a b : List Entry) (ha : All P (prefixes a)) (hb : All Q (prefixes b)) where
    longest_before : (x : Prefix) → P x → longest c (a ++ b) x ≡ longest c a x
    longest_before x h = longest_append c a b x ∙ longest_none _ b x (all_imp (λ y k. back x y h k) hb)

    longest_after : (y : Prefix) → Q y → longest c (a ++ b) y ≡ longest (longest c a q) b y
    longest_after y k = longest_append c a b y ∙ ap (λ d. longest d b y) (longest_agree c a y q (all_imp (λ x h. through x y h k) ha))

  pub seam : (cl cr : Option Entry) (l l' r r' : List Entry)
      → All P (prefixes l) → All Q (prefixes l') → All P (prefixes r) → All Q (prefixes r')
      → covering cl cr (l ++ l') (r ++ r') ≡ covering cl cr l r ++ covering (longest cl l q) (longest cr r q) l' r'
  seam cl cr l l' r r' hl hl' hr hr' =
      rw (map_append (λ (e : Entry). e.at) l l', map_append (λ (e : Entry). e.at) r r', merge_append sep hl hl' hr hr')
      (map_append _ (merge (prefixes l) (prefixes r)) _
      ∙ rw (
        records_on _ _ _ _ (longest_before cl l l' hl hl') (longest_before cr r r' hr hr') (all_merge hl hr),
        records_on _ _ _ _ (longest_after cl l l' hl hl') (longest_after cr r r' hr hr') (all_merge hl' hr'),
      ))
