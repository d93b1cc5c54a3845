-- Facts on lists: what stands where, rows, and what is kept. Nothing here is about prefixes.
use Rattle.std.specs.Prelude.{◌≡◌, refl, Bool, true, false, ◌||◌, List, [], ◌∷◌, ◌++◌, map, ℕ, zero, suc, ◌+◌, ◌^◌, ◌≤◌, ◌<◌, length, get_or, take, drop}
use Rattle.std.proofs.Common.{sym, ap, ap₂, ◌∙◌, subst, ⊎_elim, append-nil, arith, not-suc-le-zero, le_of_suc-le-suc, eq-or-lt_of_le, add-zero, le_refl, pow_mono, length-append, drop_of_length-le, get_or-append-add, drop-cons}
use Rattle.std.proofs.Math.Bool.{or-true}
use Rattle.std.proofs.Math.Nat.{pow-succ'}
use Rattle.std.proofs.Math.ListN.{get_or-append}
use Rattle.std.proofs.lemmas.List.{length-map, get_or_at}
use Rattle.std.proofs.Math.Seq.{split_at}
use Rattle.defs.specs.Basics.{if◌then◌otherwise◌, keep, any, each, up_to}
use Rattle.defs.specs.Pool.{data_bit}
use Rattle.defs.specs.Lemmas.{All, nil, more, split, all_append, all_imp, map_append, map_map, map_on, each_append, each_on}

module _ {A B : Type 0} where
  -- what f gives at the j-th stands after what it gives before
  pub each_at : (f : A → List B) (xs : List A) (j : ℕ) (d : A) → j < length xs
      → each f xs ≡ each f (take j xs) ++ (f (get_or xs j d) ++ each f (drop (suc j) xs))
  each_at f xs j d h = ap (each f) (split_at xs j d h) ∙ each_append f (take j xs) (get_or xs j d ∷ drop (suc j) xs)

  pub all_each : {P : A → Type 0} {Q : B → Type 0} (f : A → List B) → ((x : A) → P x → All Q (f x)) → {xs : List A} → All P xs → All Q (each f xs)
  all_each f g nil = nil
  all_each f g (more h hs) = all_append (g _ h) (all_each f g hs)

  pub each_all : {Q : B → Type 0} (f : A → List B) → ((x : A) → All Q (f x)) → (xs : List A) → All Q (each f xs)
  each_all f g [] = nil
  each_all f g (x ∷ xs) = all_append (g x) (each_all f g xs)

  pub each_none : {P : A → Type 0} (f : A → List B) → ((x : A) → P x → f x ≡ []) → {xs : List A} → All P xs → each f xs ≡ []
  each_none f g nil = refl
  each_none f g (more {x = x} h hs) = rw (g x h) (each_none f g hs)

  pub each_ext : (f g : A → List B) → ((x : A) → f x ≡ g x) → (a : List A) → each f a ≡ each g a
  each_ext f g h [] = refl
  each_ext f g h (x ∷ a) = rw (h x, each_ext f g h a)

  pub any_map : (f : B → Bool) (g : A → B) (a : List A) → any f (map g a) ≡ any (λ x. f (g x)) a
  any_map f g [] = refl
  any_map f g (x ∷ a) = ap (f (g x) ||◌) (any_map f g a)

  pub map_each : {C : Type 0} (f : B → C) (g : A → List B) (a : List A) → map f (each g a) ≡ each (λ x. map f (g x)) a
  map_each f g [] = refl
  map_each f g (x ∷ a) = map_append f (g x) (each g a) ∙ ap (map f (g x) ++◌) (map_each f g a)

  pub each_map : {C : Type 0} (f : B → List C) (g : A → B) (a : List A) → each f (map g a) ≡ each (λ x. f (g x)) a
  each_map f g [] = refl
  each_map f g (x ∷ a) = ap (f (g x) ++◌) (each_map f g a)

pub all_up_to : (n : ℕ) → All (λ c. c < n) (up_to n)
all_up_to zero = nil
all_up_to (suc n) = all_append (all_imp (λ c h. omega arith) (all_up_to n)) (more (omega arith) nil)

pub length_up_to : (n : ℕ) → length (up_to n) ≡ n
length_up_to zero = refl
length_up_to (suc n) = omega (arith, length-append (up_to n) (n ∷ []), length_up_to n)

-- a, a + 1, .. : m numbers
abbrev pub run : ℕ → ℕ → List ℕ
run a zero = []
run a (suc m) = a ∷ run (suc a) m

pub length_run : (a m : ℕ) → length (run a m) ≡ m
length_run a zero = refl
length_run a (suc m) = ap suc (length_run (suc a) m)

pub run_append : (a m n : ℕ) → run a m ++ run (a + m) n ≡ run a (m + n)
run_append a zero n = ap₂ run (add-zero a) (let e : n ≡ 0 + n = omega arith in e)
run_append a (suc m) n =
    let e : a + suc m ≡ suc a + m = omega arith in
    let f : suc (m + n) ≡ suc m + n = omega arith in
    ap (λ (x : ℕ). a ∷ (run (suc a) m ++ run x n)) e ∙ ap (a ∷◌) (run_append (suc a) m n) ∙ ap (run a) f

pub at_run : (a m i d : ℕ) → i < m → get_or (run a m) i d ≡ a + i
at_run a zero i d h = absurd (not-suc-le-zero h)
at_run a (suc m) zero d h = sym (add-zero a)
at_run a (suc m) (suc i) d h = at_run (suc a) m i d (le_of_suc-le-suc h) ∙ omega arith

-- each of a run is at least the first, and below what it ends at
pub run_from : (a m : ℕ) → All (λ x. a ≤ x) (run a m)
run_from a zero = nil
run_from a (suc m) = more (le_refl a) (all_imp (λ x h. omega arith) (run_from (suc a) m))

pub run_below : (a m n : ℕ) → a + m ≤ n → All (λ i. i < n) (run a m)
run_below a zero n h = nil
run_below a (suc m) n h = let l : a < n = omega arith in more l (run_below (suc a) m n (omega arith))

-- what holds of a run holds of each number in it
pub run_member : {P : ℕ → Type 0} (a m : ℕ) → All P (run a m) → (i : ℕ) → a ≤ i → i < a + m → P i
run_member a zero h i l k = absurd (let z : ⊥ = omega arith in z)
run_member {P} a (suc m) (more h hs) i l k =
    ⊎_elim (λ e. subst P e h) (λ g. run_member (suc a) m hs i g (omega arith)) (eq-or-lt_of_le l)

pub up_to_run : (n : ℕ) → up_to n ≡ run 0 n
up_to_run zero = refl
up_to_run (suc n) =
    let e : 0 + n ≡ n = omega arith in
    let f : n + 1 ≡ suc n = omega arith in
    ap₂ (λ (l : List ℕ) (x : ℕ). l ++ (x ∷ [])) (up_to_run n) (sym e) ∙ run_append 0 n 1 ∙ ap (run 0) f

pub up_to_member : {P : ℕ → Type 0} (n : ℕ) → All P (up_to n) → (i : ℕ) → i < n → P i
up_to_member {P} n h i l = run_member 0 n (subst (All P) (up_to_run n) h) i (omega arith) (omega arith)

module _ {A : Type 0} where
  -- the i-th of f 0, f 1, ..
  pub at_up_to : (f : ℕ → A) (n i : ℕ) (d : A) → i < n → get_or (map f (up_to n)) i d ≡ f i
  at_up_to f zero i d h = absurd (not-suc-le-zero h)
  at_up_to f (suc n) i d h =
      ap (λ (l : List A). get_or l i d) (map_append f (up_to n) (n ∷ []))
      ∙ ⊎_elim
      (λ e. get_or_at (map f (up_to n)) (f n) [] d i (length-map (up_to n) f ∙ length_up_to n ∙ sym e) ∙ ap f (sym e))
      (λ l. get_or-append (map f (up_to n)) (f n ∷ []) d i (let e = length-map (up_to n) f ∙ length_up_to n in omega arith) ∙ at_up_to f n i d l)
      (eq-or-lt_of_le (le_of_suc-le-suc h))

  -- rows of 1, 2, 4, .. : the v-th of row n stands at 2 ^ n - 1 + v
  module _ (f : ℕ → ℕ → A) where
    abbrev pub row : ℕ → List A
    row n = map (f n) (up_to (2 ^ n))

    abbrev pub rows : ℕ → List A
    rows k = each (λ n. map (f n) (up_to (2 ^ n))) (up_to k)

    pub rows_suc : (k : ℕ) → rows (suc k) ≡ rows k ++ row k
    rows_suc k = each_append row (up_to k) (k ∷ []) ∙ ap (rows k ++◌) (append-nil (row k))

    pub length_row : (k : ℕ) → length (row k) ≡ 2 ^ k
    length_row k = length-map (up_to (2 ^ k)) (f k) ∙ length_up_to (2 ^ k)

    pub length_rows : (k : ℕ) → length (rows k) + 1 ≡ 2 ^ k
    length_rows zero = refl
    length_rows (suc k) =
        let e = ap length (rows_suc k) ∙ length-append (rows k) (row k) in
        omega (arith, length_rows k, length_row k, pow-succ' 2 k)

    pub at_rows : (k n v : ℕ) (d : A) → n < k → v < 2 ^ n → get_or (rows k) (data_bit n v) d ≡ f n v
    at_rows zero n v d h l = absurd (not-suc-le-zero h)
    at_rows (suc k) n v d h l =
        ap (λ (l : List A). get_or l (data_bit n v) d) (rows_suc k)
        ∙ ⊎_elim
        (λ e.
        let i : data_bit n v ≡ length (rows k) + v = let p = length_rows k in let q = ap (2 ^◌) e in omega arith in
        ap (λ (x : ℕ). get_or (rows k ++ row k) x d) i
        ∙ get_or-append-add (rows k) (row k) v d
        ∙ at_up_to (f k) (2 ^ k) v d (subst (λ (x : ℕ). v < 2 ^ x) e l)
        ∙ ap (λ (x : ℕ). f x v) (sym e))
        (λ m.
        get_or-append (rows k) (row k) d (data_bit n v) (let p = length_rows k in let q = pow_mono m in let r = pow-succ' 2 n in omega arith)
        ∙ at_rows k n v d m l)
        (eq-or-lt_of_le (le_of_suc-le-suc h))

  -- what passes at the c-th is kept after what is kept before it
  pub keep_rank : (t : A → Bool) (xs : List A) (c : ℕ) (d : A) → c < length xs → t (get_or xs c d) ≡ true
      → (length (keep t (take c xs)) < length (keep t xs)) × (get_or (keep t xs) (length (keep t (take c xs))) d ≡ get_or xs c d)
  keep_rank t [] c d h e = absurd (not-suc-le-zero h)
  keep_rank t (x ∷ xs) zero d h e = rw e (omega arith, refl)
  keep_rank t (x ∷ xs) (suc c) d h e = go (t x) (keep_rank t xs c d (le_of_suc-le-suc h) e)
    where
      go : (b : Bool) → (length (keep t (take c xs)) < length (keep t xs)) × (get_or (keep t xs) (length (keep t (take c xs))) d ≡ get_or xs c d)
          → (length (if b then x ∷ keep t (take c xs) otherwise keep t (take c xs)) < length (if b then x ∷ keep t xs otherwise keep t xs))
          × (get_or (if b then x ∷ keep t xs otherwise keep t xs) (length (if b then x ∷ keep t (take c xs) otherwise keep t (take c xs))) d ≡ get_or xs c d)
      go true r = (omega arith, r.1)
      go false r = r

  pub keep_ext : (f g : A → Bool) → ((x : A) → f x ≡ g x) → (a : List A) → keep f a ≡ keep g a
  keep_ext f g h [] = refl
  keep_ext f g h (x ∷ a) = ap₂ (λ (b : Bool) (l : List A). if b then x ∷ l otherwise l) (h x) (keep_ext f g h a)

  pub all_at : {P : A → Type 0} {l : List A} → All P l → (i : ℕ) (d : A) → i < length l → P (get_or l i d)
  all_at nil i d h = absurd (not-suc-le-zero h)
  all_at (more p ps) zero d h = p
  all_at (more p ps) (suc i) d h = all_at ps i d (le_of_suc-le-suc h)

  -- P holds of each of a list if it does at each index
  pub all_by : {P : A → Type 0} (l : List A) (d : A) → ((i : ℕ) → i < length l → P (get_or l i d)) → All P l
  all_by [] d h = nil
  all_by (x ∷ l) d h = more (h 0 (omega arith)) (all_by l d (λ i k. h (suc i) (omega arith)))

  pub all_tail : {P : A → Type 0} {x : A} {l : List A} → All P (x ∷ l) → All P l
  all_tail (more h hs) = hs

  pub all_head : {P : A → Type 0} {x : A} {l : List A} → All P (x ∷ l) → P x
  all_head (more h hs) = h

  pub all_front : {P : A → Type 0} (a b : List A) → All P (a ++ b) → All P a × All P b
  all_front [] b h = (nil, h)
  all_front (x ∷ a) b (more h hs) = let r = all_front a b hs in (more h r.0, r.1)

  pub any_imp : (f g : A → Bool) → ((x : A) → f x ≡ true → g x ≡ true) → (a : List A) → any f a ≡ true → any g a ≡ true
  any_imp f g h [] e = e
  any_imp f g h (x ∷ a) e = split (f x) (λ i. ap (◌|| any g a) (h x i)) (λ i. ap (g x ||◌) (any_imp f g h a (rw i at e)) ∙ or-true (g x))

  pub keep_swap : (a b : A → Bool) (xs : List A) → keep a (keep b xs) ≡ keep b (keep a xs)
  keep_swap a b [] = refl
  keep_swap a b (x ∷ xs) = go (a x) (b x) refl refl (keep_swap a b xs)
    where
      go : (c d : Bool) → a x ≡ c → b x ≡ d → keep a (keep b xs) ≡ keep b (keep a xs)
          → keep a (if d then x ∷ keep b xs otherwise keep b xs) ≡ keep b (if c then x ∷ keep a xs otherwise keep a xs)
      go true true e f r = rw (e, f) (ap (x ∷◌) r)
      go true false e f r = rw f r
      go false true e f r = rw e r
      go false false e f r = r

  -- what passes a stricter test is kept out of what passes a weaker one
  pub keep_within : (a b : A → Bool) (xs : List A) → ((x : A) → a x ≡ true → b x ≡ true) → keep a (keep b xs) ≡ keep a xs
  keep_within a b [] h = refl
  keep_within a b (x ∷ xs) h =
      split (a x) (λ e. rw (e, h x e, keep) (rw (e, keep) (ap (x ∷◌) (keep_within a b xs h))))
      (λ e. split (b x) (λ f. rw (e, f, keep) (rw (e, keep) (keep_within a b xs h))) (λ f. rw (e, f, keep) (keep_within a b xs h)))

  -- a list has a member
  abbrev pub full : List A → Bool
  full [] = false
  full (x ∷ xs) = true

  -- some of a list passes exactly where something is kept
  pub any_full : (t : A → Bool) (xs : List A) → any t xs ≡ full (keep t xs)
  any_full t [] = refl
  any_full t (x ∷ xs) = split (t x) (λ e. rw (e, keep)) (λ e. rw (e, keep) (any_full t xs))

pub each_join : {A B : Type 0} (f : A → List B) (a : List A) → each f a ≡ each (λ l. l) (map f a)
each_join f [] = refl
each_join f (x ∷ a) = ap (f x ++◌) (each_join f a)

-- two tables of rows that agree
pub map_rows : {A B C : Type 0} (F : A → C) (f : ℕ → ℕ → A) (G : B → C) (g : ℕ → ℕ → B) (k : ℕ)
    → ((n v : ℕ) → n < k → v < 2 ^ n → F (f n v) ≡ G (g n v)) → map F (rows f k) ≡ map G (rows g k)
map_rows F f G g k h =
    map_each F (row f) (up_to k)
    ∙ each_on (λ n. map F (row f n)) (λ n. map G (row g n)) one (all_up_to k)
    ∙ sym (map_each G (row g) (up_to k))
  where
    one : (n : ℕ) → n < k → map F (row f n) ≡ map G (row g n)
    one n l =
        map_map F (f n) (up_to (2 ^ n))
        ∙ map_on (λ v. F (f n v)) (λ v. G (g n v)) (λ v m. h n v l m) (all_up_to (2 ^ n))
        ∙ sym (map_map G (g n) (up_to (2 ^ n)))

pub all_uneach : {A B : Type 0} {P : B → Type 0} (f : A → List B) (xs : List A) → All P (each f xs) → All (λ x. All P (f x)) xs
all_uneach f [] h = nil
all_uneach f (x ∷ xs) h = let r = all_front (f x) (each f xs) h in more r.0 (all_uneach f xs r.1)

-- the rest of a list by its indices
pub drop_run : {A : Type 0} (l : List A) (d : A) (a m : ℕ) → a + m ≡ length l → drop a l ≡ map (λ i. get_or l i d) (run a m)
drop_run l d a zero h = drop_of_length-le l (let k : length l ≤ a = omega arith in k)
drop_run l d a (suc m) h = drop-cons l a d (omega arith) ∙ ap (get_or l a d ∷◌) (drop_run l d (suc a) m (omega arith))
