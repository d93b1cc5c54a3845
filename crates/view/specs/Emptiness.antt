-- Emptiness: a node below which nothing lies, found by asking each child the same question.
use Rattle.std.specs.Prelude.{◌≡◌, refl, Bool, true, false, ◌&&◌, List, [], ◌∷◌, ◌++◌, ℕ, zero, suc, ◌+◌, ◌-◌, ◌^◌, ◌<◌, eqb, ltb, get_or}
use Rattle.std.proofs.Common.{sym, ap, ap₂, ◌∙◌, subst, arith, add-one, mod-eq_of_lt, pow_pos, eqb-true, eq-eqb, ne_eqb, ltb-true, ltb-false}
use Rattle.std.proofs.lemmas.Bool.{false≢true}
use Rattle.defs.specs.declared.Prefix.{Prefix}
use Rattle.defs.specs.Basics.{if◌then◌otherwise◌, each, every}
use Rattle.defs.specs.Prefix.{deeper}
use Rattle.defs.specs.Pool.{node_count, data_of, child_of, first_child, bit, rank, ones, data_bit}
use Rattle.defs.specs.Entries.{Entry, Place, data_place, child_place, places, held_at, entries_at}
use Rattle.defs.specs.Lemmas.{both_ways, All, nil, more, all_imp, split, not_both, and_left, and_right}
use Rattle.bits.specs.Places.{place_len, place_value}
use Rattle.bits.specs.PlaceLaws.{made, data_place_lem, place_len_below}
use Rattle.bits.specs.WordLaws.{bit_none, select, rank_less}
use Rattle.pool.specs.Sound.{data_small}
use Rattle.theory.specs.Unwanted.{InNode, places_in_node}
use Rattle.view.specs.declared.TheConstants.{POSITIONS}
use Rattle.view.specs.Standing.{Sane, nodes_few, child_inside}
use Rattle.view.specs.Numbers.{number_of, place_at, place_inside, numbered, all_at}
use Rattle.view.specs.Spreads.{code_of, stands_right, position_right, below_all, below_at, word_on}
use Rattle.view.specs.Covered.{up_below}
use Rattle.view.specs.Kept.{bits_back}
use Rattle.theory.specs.Walk.{places_length}

module _ {A : Type 0} where
  -- a list is empty
  abbrev pub is_nil : List A → Bool
  is_nil [] = true
  is_nil (x ∷ xs) = false

-- nothing lies in a node or below it, so many levels deep
abbrev pub empty_at : List ℕ → ℕ → ℕ → Bool
empty_at w zero node = true
empty_at w (suc levels) node =
    eqb (data_of w node) 0 && below_all (λ j. empty_at w levels (first_child w node + j)) (ones (child_of w node))

pub both_true : {a b : Bool} → a ≡ true → b ≡ true → (a && b) ≡ true
both_true e f = rw (e, f)

-- a loop over the first numbers, one more
pub below_next : (f : ℕ → Bool) (j : ℕ) → below_all f j ≡ true → f j ≡ true → below_all f (j + 1) ≡ true
below_next f j k e = ap (below_all f) (add-one j) ∙ both_true e k

nil_append : {B : Type 0} (a b : List B) → is_nil (a ++ b) ≡ (is_nil a && is_nil b)
nil_append [] b = refl
nil_append (x ∷ a) b = refl

module _ {A B : Type 0} where
  pub nil_each : (f : A → List B) (l : List A) → is_nil (each f l) ≡ every (λ x. is_nil (f x)) l
  nil_each f [] = refl
  nil_each f (x ∷ l) = nil_append (f x) (each f l) ∙ ap (is_nil (f x) &&◌) (nil_each f l)

module _ {A : Type 0} (g : A → Bool) where
  pub every_all : (l : List A) → every g l ≡ true → All (λ x. g x ≡ true) l
  every_all [] e = nil
  every_all (x ∷ l) e = more (and_left (g x) (every g l) e) (every_all l (and_right (g x) (every g l) e))

  pub all_every : {l : List A} → All (λ x. g x ≡ true) l → every g l ≡ true
  all_every nil = refl
  all_every (more h hs) = both_true h (all_every hs)

pub below_of : (f : ℕ → Bool) (n : ℕ) → ((j : ℕ) → j < n → f j ≡ true) → below_all f n ≡ true
below_of f zero h = refl
below_of f (suc n) h = both_true (h n (omega arith)) (below_of f n (λ j l. h j (omega arith)))

-- ---- every place of a node is among the places

code_number : (x : Place) → number_of x ≡ code_of x + 1
code_number (data_place n v) = omega (arith, pow_pos n)
code_number (child_place c) = omega arith

same_code : (x y : Place) → InNode x → InNode y → code_of x ≡ code_of y → x ≡ y
same_code x y i j e =
    let a = numbered x i in
    let b = numbered y j in
    let n : number_of x ≡ number_of y = code_number x ∙ ap (◌+ 1) e ∙ sym (code_number y) in
    split (ltb (number_of x) 32)
    (λ t.
    let l = ltb-true (number_of x) 32 t in
    a.is_data l ∙ ap (λ (h : ℕ). data_place (place_len h) (place_value h)) n ∙ sym (b.is_data (omega arith)))
    (λ t.
    let l = ltb-false (number_of x) 32 t in
    a.is_child l ∙ ap (λ (h : ℕ). child_place (h - 32)) n ∙ sym (b.is_child (omega arith)))

table_right : below_all (stands_right POSITIONS) 63 ≡ true
unfolding stands_right places
table_right = refl

coded : ℕ → Bool
coded z = eqb (code_of (place_at (get_or POSITIONS z 0))) z

codes_right : below_all coded 63 ≡ true
unfolding coded places
codes_right = refl

code_below : (x : Place) → InNode x → code_of x < 63
code_below x i = omega (arith, (numbered x i).below, code_number x)

pub place_all : {P : Place → Type 0} → All P places → (x : Place) → InNode x → P x
unfolding coded
place_all {P} a x i =
    let z = code_of x in
    let l = code_below x i in
    let s = (position_right POSITIONS table_right z l _ refl).0 in
    let e = same_code (place_at (get_or POSITIONS z 0)) x (place_inside (get_or POSITIONS z 0) s) i (eqb-true _ _ (below_at coded 63 codes_right z l)) in
    subst P e (all_at a (child_place 0) (get_or POSITIONS z 0) (omega (arith, places_length)))

-- ---- a node and its children

nil_one : (b : Bool) (e : Entry) → is_nil (if b then e ∷ [] otherwise []) ≡ true → b ≡ false
nil_one true e h = absurd (false≢true h)
nil_one false e h = refl

nil_if : (b : Bool) (l : List Entry) → is_nil (if b then l otherwise []) ≡ true → b ≡ true → is_nil l ≡ true
nil_if true l h e = h
nil_if false l h e = absurd (false≢true e)

module _ (w : List ℕ) (s : Sane w) where
  module _ (levels i : ℕ) (h : i < node_count w) (p : Prefix)
      (below : (j : ℕ) (q : Prefix) → j < node_count w → is_nil (entries_at w levels j q) ≡ empty_at w levels j) where
    abbrev held : Place → List Entry
    held = held_at w (entries_at w levels) i p

    abbrev kid : ℕ → ℕ
    kid c = first_child w i + rank c (child_of w i)

    -- places that hold nothing leave no data bit
    no_bit : All (λ x. is_nil (held x) ≡ true) places → (b : ℕ) → b < 31 → bit b (data_of w i) ≡ false
    no_bit a b l =
        let n = place_len (b + 1) in
        let v = place_value (b + 1) in
        let m = made (b + 1) (omega arith) (omega arith) in
        let k = place_len_below (b + 1) (omega arith) (omega arith) 5 (omega arith) in
        let e : data_bit n v ≡ b = data_place_lem (b + 1) (omega arith) (omega arith) ∙ omega arith in
        subst (λ (x : ℕ). bit x (data_of w i) ≡ false) e (nil_one _ _ (place_all a (data_place n v) (omega arith, m.value)))

    no_data : All (λ x. is_nil (held x) ≡ true) places → data_of w i ≡ 0
    no_data a =
        sym (mod-eq_of_lt (data_small s.width w s.formed i h)) ∙ sym (bits_back (data_of w i) 31)
        ∙ word_on (λ b. bit b (data_of w i)) (λ b. false) (no_bit a) (up_below 31)

    no_kid : All (λ x. is_nil (held x) ≡ true) places → (j : ℕ) → j < ones (child_of w i) → empty_at w levels (first_child w i + j) ≡ true
    no_kid a j l =
        let t = select 32 (child_of w i) j l in
        let c = t.0 in
        let n = child_inside w s i c h t.1 t.2 in
        let e = nil_if (bit c (child_of w i)) (entries_at w levels (kid c) (deeper p 5 c)) (place_all a (child_place c) t.1) t.2 in
        subst (λ (x : ℕ). empty_at w levels (first_child w i + x) ≡ true) t.3 (sym (below (kid c) (deeper p 5 c) n) ∙ e)

    there : empty_at w (suc levels) i ≡ true → (x : Place) → InNode x → is_nil (held x) ≡ true
    there e (data_place n v) k =
        let z = eqb-true (data_of w i) 0 (and_left _ _ e) in
        rw (z, bit_none 0 (data_bit n v) 0 (omega arith) (omega arith))
    there e (child_place c) k =
        split (bit c (child_of w i))
        (λ t.
        let f = below_at (λ j. empty_at w levels (first_child w i + j)) (ones (child_of w i)) (and_right (eqb (data_of w i) 0) _ e) (rank c (child_of w i)) (rank_less 32 c (child_of w i) k t) in
        rw t (below (kid c) (deeper p 5 c) (child_inside w s i c h k t) ∙ f))
        (λ t. rw t)

    empty_step : is_nil (entries_at w (suc levels) i p) ≡ empty_at w (suc levels) i
    empty_step =
        nil_each held places
        ∙ both_ways (every (λ x. is_nil (held x)) places) (empty_at w (suc levels) i)
        (λ e.
        let a = every_all (λ x. is_nil (held x)) places e in
        both_true (eq-eqb (data_of w i) 0 (no_data a)) (below_of (λ j. empty_at w levels (first_child w i + j)) (ones (child_of w i)) (no_kid a)))
        (λ e. all_every (λ x. is_nil (held x)) (all_imp (there e) places_in_node))

  -- FOR CALLERS: a node is empty exactly where it has no entries, whatever its prefix
  pub empty_says : (levels i : ℕ) (p : Prefix) → i < node_count w → is_nil (entries_at w levels i p) ≡ empty_at w levels i
  empty_says zero i p h = refl
  empty_says (suc levels) i p h = empty_step levels i h p (λ j q l. empty_says levels j q l)

-- ---- how the code asks

pub empty_zero : (w : List ℕ) (levels node : ℕ) → levels ≡ 0 → true ≡ empty_at w levels node
empty_zero w levels node e = ap (λ (k : ℕ). empty_at w k node) (sym e)

-- a node with levels left, and what the code read of it
pub record Reading (w : List ℕ) (levels node held first count : ℕ) : Type 0 where
  pub deep : levels ≡ 0 → ⊥
  pub held_is : held ≡ data_of w node
  pub first_is : first ≡ first_child w node
  pub count_is : count ≡ ones (child_of w node)

-- the same from the code's steps
pub read : {w : List ℕ} {levels node held first count kids : ℕ} → (levels ≡ 0 → ⊥) → held ≡ data_of w node → first ≡ first_child w node → count ≡ ones kids → kids ≡ child_of w node
    → Reading w levels node held first count
read d h f n k = record { deep = d; held_is = h; first_is = f; count_is = n ∙ ap ones k }

pub below_fails : (f : ℕ → Bool) (n j : ℕ) → j < n → f j ≡ false → below_all f n ≡ false
below_fails f n j l e = split (below_all f n) (λ t. not_both (below_at f n t j l) e) (λ t. t)

one_level : (w : List ℕ) (levels node : ℕ) → (levels ≡ 0 → ⊥)
    → empty_at w levels node ≡ (eqb (data_of w node) 0 && below_all (λ j. empty_at w (levels - 1) (first_child w node + j)) (ones (child_of w node)))
one_level w zero node n = absurd (n refl)
one_level w (suc k) node n =
    let e : suc k - 1 ≡ k = omega arith in
    ap (λ (m : ℕ). eqb (data_of w node) 0 && below_all (λ j. empty_at w m (first_child w node + j)) (ones (child_of w node))) (sym e)

pub empty_held : (w : List ℕ) (levels node held : ℕ) → (levels ≡ 0 → ⊥) → held ≡ data_of w node → (held ≡ 0 → ⊥) → false ≡ empty_at w levels node
empty_held w levels node held n e z = sym (one_level w levels node n ∙ rw (ne_eqb (data_of w node) 0 (λ i. z (e ∙ i))))

module _ (w : List ℕ) (levels node held first count : ℕ) (r : Reading w levels node held first count) where
  abbrev asks : ℕ → Bool
  asks j = empty_at w (levels - 1) (first + j)

  by_kids : held ≡ 0 → empty_at w levels node ≡ below_all asks count
  by_kids z =
      one_level w levels node r.deep
      ∙ rw (eq-eqb (data_of w node) 0 (sym r.held_is ∙ z))
      (ap₂ (λ (a n : ℕ). below_all (λ j. empty_at w (levels - 1) (a + j)) n) (sym r.first_is) (sym r.count_is))

  pub asking_fails : (j : ℕ) → held ≡ 0 → j < count → asks j ≡ false → false ≡ empty_at w levels node
  asking_fails j z l e = sym (by_kids z ∙ below_fails asks count j l e)

  pub asking_ends : held ≡ 0 → below_all asks count ≡ true → true ≡ empty_at w levels node
  asking_ends z k = sym (by_kids z ∙ k)

  pub kid_there : Sane w → node < node_count w → (j : ℕ) → j < count → (first + j < node_count w) × (first + j < 2 ^ 32)
  kid_there s h j l =
      let o = s.formed.node node h in
      let n = nodes_few w s in
      let a : first + j < node_count w = omega (arith, o.room, r.first_is, r.count_is) in
      (a, omega arith)
