-- Facts on tests and lists that every law uses. Nothing here is about prefixes.
use Rattle.std.specs.Prelude.{◌≡◌, refl, Bool, true, false, ◌&&◌, ◌||◌, List, [], ◌∷◌, ◌++◌, map, ◌≤◌, length}
use Rattle.std.proofs.Common.{sym, ◌∙◌, ap, true≢false, append_assoc, arith}
use Rattle.std.proofs.lemmas.Bool.{false≢true}
use Rattle.defs.specs.Basics.{keep, any, each}

-- a test passes or fails
pub split : {C : Type 0} (b : Bool) → (b ≡ true → C) → (b ≡ false → C) → C
split true f g = f refl
split false f g = g refl

pub not_both : {C : Type 0} {b : Bool} → b ≡ true → b ≡ false → C
not_both e f = absurd (true≢false (sym e ∙ f))

pub is_false : (b : Bool) → (b ≡ true → ⊥) → b ≡ false
is_false true h = absurd (h refl)
is_false false h = refl

pub and_left : (a b : Bool) → (a && b) ≡ true → a ≡ true
and_left true b h = refl
and_left false b h = h

pub and_right : (a b : Bool) → (a && b) ≡ true → b ≡ true
and_right true b h = h
and_right false b h = absurd (false≢true h)

-- P holds of each of a list
pub data All {A : Type 0} (P : A → Type 0) : List A → Type 0 where
  nil : All P []
  more : {x : A} {xs : List A} → P x → All P xs → All P (x ∷ xs)

module _ {A : Type 0} where
  pub all_imp : {P Q : A → Type 0} {a : List A} → ((x : A) → P x → Q x) → All P a → All Q a
  all_imp f nil = nil
  all_imp f (more h k) = more (f _ h) (all_imp f k)

  pub all_append : {P : A → Type 0} {a b : List A} → All P a → All P b → All P (a ++ b)
  all_append nil k = k
  all_append (more h hs) k = more h (all_append hs k)

  pub all_both : {P Q : A → Type 0} {a : List A} → All P a → All Q a → All (λ x. P x × Q x) a
  all_both nil nil = nil
  all_both (more h hs) (more k ks) = more (h, k) (all_both hs ks)

  pub all_true : {P : A → Type 0} → ((x : A) → P x) → (a : List A) → All P a
  all_true f [] = nil
  all_true f (x ∷ a) = more (f x) (all_true f a)

  pub all_keep : {P : A → Type 0} (f : A → Bool) {a : List A} → All P a → All P (keep f a)
  all_keep f nil = nil
  all_keep f (more {x = x} h hs) = split (f x) (λ e. rw (e, keep) (more h (all_keep f hs))) (λ e. rw (e, keep) (all_keep f hs))

  pub all_kept : (f : A → Bool) (a : List A) → All (λ x. f x ≡ true) (keep f a)
  all_kept f [] = nil
  all_kept f (x ∷ a) = split (f x) (λ e. rw (e, keep) (more e (all_kept f a))) (λ e. rw (e, keep) (all_kept f a))

  pub keep_append : (f : A → Bool) (a b : List A) → keep f (a ++ b) ≡ keep f a ++ keep f b
  keep_append f [] b = refl
  keep_append f (x ∷ a) b = split (f x) (λ e. rw (e, keep) (ap (x ∷◌) (keep_append f a b))) (λ e. rw (e, keep) (keep_append f a b))

  pub keep_true : (f : A → Bool) {a : List A} → All (λ x. f x ≡ true) a → keep f a ≡ a
  keep_true f nil = refl
  keep_true f (more {x = x} h hs) = rw (h, keep) (ap (x ∷◌) (keep_true f hs))

  pub keep_false : (f : A → Bool) {a : List A} → All (λ x. f x ≡ false) a → keep f a ≡ []
  keep_false f nil = refl
  keep_false f (more h hs) = rw (h, keep) (keep_false f hs)

  pub keep_on : {P : A → Type 0} (f g : A → Bool) → ((x : A) → P x → f x ≡ g x) → {a : List A} → All P a → keep f a ≡ keep g a
  keep_on f g e nil = refl
  keep_on f g e (more {x = x} h hs) =
      split (f x) (λ i. rw (i, sym (e x h) ∙ i, keep) (ap (x ∷◌) (keep_on f g e hs))) (λ i. rw (i, sym (e x h) ∙ i, keep) (keep_on f g e hs))

  pub any_append : (f : A → Bool) (a b : List A) → any f (a ++ b) ≡ (any f a || any f b)
  any_append f [] b = refl
  any_append f (x ∷ a) b = split (f x) (λ e. rw e) (λ e. rw e (any_append f a b))

  pub any_false : (f : A → Bool) {a : List A} → All (λ x. f x ≡ false) a → any f a ≡ false
  any_false f nil = refl
  any_false f (more h hs) = rw h (any_false f hs)

  pub any_false_all : (f : A → Bool) (a : List A) → any f a ≡ false → All (λ x. f x ≡ false) a
  any_false_all f [] h = nil
  any_false_all f (x ∷ a) h = split (f x) (λ e. not_both (rw e) h) (λ e. more e (any_false_all f a (rw e at h)))

module _ {A B : Type 0} where
  pub map_append : (f : A → B) (a b : List A) → map f (a ++ b) ≡ map f a ++ map f b
  map_append f [] b = refl
  map_append f (x ∷ a) b = ap (f x ∷◌) (map_append f a b)

  pub map_ext : (f g : A → B) → ((x : A) → f x ≡ g x) → (a : List A) → map f a ≡ map g a
  map_ext f g h [] = refl
  map_ext f g h (x ∷ a) = rw (h x, map_ext f g h a)

  pub map_on : {P : A → Type 0} (f g : A → B) → ((x : A) → P x → f x ≡ g x) → {a : List A} → All P a → map f a ≡ map g a
  map_on f g e nil = refl
  map_on f g e (more {x = x} h hs) = rw (e x h, map_on f g e hs)

  pub keep_map : (f : B → Bool) (g : A → B) (a : List A) → keep f (map g a) ≡ map g (keep (λ x. f (g x)) a)
  keep_map f g [] = refl
  keep_map f g (x ∷ a) = split (f (g x)) (λ e. rw (e, keep) (ap (g x ∷◌) (keep_map f g a))) (λ e. rw (e, keep) (keep_map f g a))

  pub all_map : {P : B → Type 0} (g : A → B) {a : List A} → All (λ x. P (g x)) a → All P (map g a)
  all_map g nil = nil
  all_map g (more h hs) = more h (all_map g hs)

  pub all_unmap : {P : B → Type 0} (g : A → B) (a : List A) → All P (map g a) → All (λ x. P (g x)) a
  all_unmap g [] nil = nil
  all_unmap g (x ∷ a) (more h hs) = more h (all_unmap g a hs)

  pub each_append : (f : A → List B) (a b : List A) → each f (a ++ b) ≡ each f a ++ each f b
  each_append f [] b = refl
  each_append f (x ∷ a) b = rw (each_append f a b) (sym (append_assoc (f x) (each f a) (each f b)))

  pub each_on : {P : A → Type 0} (f g : A → List B) → ((x : A) → P x → f x ≡ g x) → {a : List A} → All P a → each f a ≡ each g a
  each_on f g e nil = refl
  each_on f g e (more {x = x} h hs) = rw (e x h, each_on f g e hs)

pub map_map : {A B C : Type 0} (f : B → C) (g : A → B) (a : List A) → map f (map g a) ≡ map (λ x. f (g x)) a
map_map f g [] = refl
map_map f g (x ∷ a) = ap (f (g x) ∷◌) (map_map f g a)

-- two tests that pass together are equal
pub both_ways : (a b : Bool) → (a ≡ true → b ≡ true) → (b ≡ true → a ≡ true) → a ≡ b
both_ways true b f g = sym (f refl)
both_ways false true f g = g refl
both_ways false false f g = refl

-- what is kept of a list is no longer than the list
pub length_keep : {A : Type 0} (f : A → Bool) (a : List A) → length (keep f a) ≤ length a
length_keep f [] = omega arith
length_keep f (x ∷ a) = split (f x) (λ e. rw (e, keep) (omega (arith, length_keep f a))) (λ e. rw (e, keep) (omega (arith, length_keep f a)))
