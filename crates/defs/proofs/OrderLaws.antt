-- Strictly ascending lists of prefixes: a merge is one, with the members of both; and such a list is fixed by its members.
use Rattle.std.specs.Prelude.{◌≡◌, refl, Bool, true, false, ◌||◌, List, [], ◌∷◌, ◌++◌}
use Rattle.std.proofs.Common.{sym, ◌∙◌}
use Rattle.std.proofs.Math.Bool.{or_assoc}
use Rattle.defs.specs.declared.Prefix.{Prefix}
use Rattle.defs.specs.Basics.{keep}
use Rattle.defs.specs.Prefix.{before, same}
use Rattle.defs.specs.Lists.{put, merge}
use Rattle.defs.specs.Lemmas.{All, nil, more, split, not_both, all_imp, all_append, all_keep}
use Rattle.defs.specs.PrefixLaws.{same_self, same_says}
use Rattle.defs.proofs.PrefixLaws.{before_trans, before_irrefl, before_total}
use Rattle.defs.specs.OrderLaws.{Ascends, end, then_after, among}

pub all_put : {P : Prefix → Type 0} (p : Prefix) {a : List Prefix} → P p → All P a → All P (put p a)
all_put p h nil = more h nil
all_put p h (more {x = x} k l) =
    split (before p x) (λ e. rw (e, put) (more h (more k l)))
    (λ e. split (before x p) (λ f. rw (e, f, put) (more k (all_put p h l))) (λ f. rw (e, f, put) (more k l)))

pub all_merge : {P : Prefix → Type 0} {a b : List Prefix} → All P a → All P b → All P (merge a b)
all_merge nil k = k
all_merge (more h l) k = all_put _ h (all_merge l k)

ascends_put : (p : Prefix) {a : List Prefix} → Ascends a → Ascends (put p a)
ascends_put p end = then_after nil end
ascends_put p (then_after {p = x} h k) =
    split (before p x) (λ e. rw (e, put) (then_after (more e (all_imp (λ y l. before_trans p x y e l) h)) (then_after h k)))
    (λ e. split (before x p) (λ f. rw (e, f, put) (then_after (all_put p f h) (ascends_put p k))) (λ f. rw (e, f, put) (then_after h k)))

-- a merge ascends strictly
pub merge_ascends : (a : List Prefix) {b : List Prefix} → Ascends b → Ascends (merge a b)
merge_ascends [] h = h
merge_ascends (x ∷ a) h = ascends_put x (merge_ascends a h)

among_put : (x p : Prefix) (a : List Prefix) → among x (put p a) ≡ (same x p || among x a)
among_put x p [] = refl
among_put x p (y ∷ a) =
    split (before p y) (λ e. rw (e, put))
    (λ e.
    split (before y p) (λ f. rw (e, f, put, among_put x p a) (swap (same x y) (same x p) (among x a)))
    (λ f. rw (e, f, put) (rw (before_total p y e f) (twice (same x y) (among x a)))))
  where
    swap : (a b c : Bool) → (a || (b || c)) ≡ (b || (a || c))
    swap true true c = refl
    swap true false c = refl
    swap false b c = refl

    twice : (a b : Bool) → (a || b) ≡ (a || (a || b))
    twice true b = refl
    twice false b = refl

-- a merge has the members of either list, and no others
pub among_merge : (x : Prefix) (a b : List Prefix) → among x (merge a b) ≡ (among x a || among x b)
among_merge x [] b = refl
among_merge x (y ∷ a) b = among_put x y (merge a b) ∙ rw (among_merge x a b) (sym (or_assoc (same x y) (among x a) (among x b)))

pub ascends_keep : (f : Prefix → Bool) {a : List Prefix} → Ascends a → Ascends (keep f a)
ascends_keep f end = end
ascends_keep f (then_after {p = x} h k) =
    split (f x) (λ e. rw (e, keep) (then_after (all_keep f h) (ascends_keep f k))) (λ e. rw (e, keep) (ascends_keep f k))

-- what comes before a whole list is not one of it
pub not_among : (x : Prefix) {a : List Prefix} → All (λ q. before x q ≡ true) a → among x a ≡ false
not_among x nil = refl
not_among x (more {x = y} h k) =
    split (same x y) (λ q. not_both h (rw (same_says x y q) (before_irrefl y))) (λ q. rw q (not_among x k))

among_head : (x : Prefix) (a : List Prefix) → among x (x ∷ a) ≡ true
among_head x a = rw (same_self x)

-- the head of one of two lists with the same members does not come before the other's
head_not_before : (x y : Prefix) (a b : List Prefix) → Ascends (y ∷ b) → ((z : Prefix) → among z (x ∷ a) ≡ among z (y ∷ b)) → before x y ≡ false
head_not_before x y a b (then_after h k) m =
    split (before x y)
    (λ e. not_both (sym (m x) ∙ among_head x a) (not_among x (more e (all_imp (λ z l. before_trans x y z e l) h))))
    (λ e. e)

-- two strictly ascending lists with the same members are one
pub ascends_unique : (a b : List Prefix) → Ascends a → Ascends b → ((x : Prefix) → among x a ≡ among x b) → a ≡ b
ascends_unique [] [] h k m = refl
ascends_unique [] (y ∷ b) h k m = not_both (among_head y b) (sym (m y))
ascends_unique (x ∷ a) [] h k m = not_both (among_head x a) (m x)
ascends_unique (x ∷ a) (y ∷ b) (then_after h hs) (then_after k ks) m = rw (heads, ascends_unique a b hs ks tails)
  where
    heads : x ≡ y
    heads = before_total x y (head_not_before x y a b (then_after k ks) m) (head_not_before y x b a (then_after h hs) (λ z. sym (m z)))

    tails : (z : Prefix) → among z a ≡ among z b
    tails z =
        split (same z y)
        (λ q. rw (same_says z y q) ((rw (← heads) (not_among x h)) ∙ sym (not_among y k)))
        (λ q. rw q at (rw heads at (m z)))

-- two lists joined, all of the first before all of the second
pub ascends_append : {P Q : Prefix → Type 0} → ((x y : Prefix) → P x → Q y → before x y ≡ true)
    → {a b : List Prefix} → All P a → All Q b → Ascends a → Ascends b → Ascends (a ++ b)
ascends_append sep nil hb end k = k
ascends_append sep (more {x = x} h hs) hb (then_after l ls) k =
    then_after (all_append l (all_imp (λ y w. sep x y h w) hb)) (ascends_append sep hs hb ls k)
