-- There is only one tidy pool: a pool without a fault, with no node but the root unused, is its own tidy pool.
use Rattle.std.specs.Prelude.{◌≡◌, refl, true, List, [], ◌∷◌, map, ℕ, zero, suc, ◌+◌, ◌*◌, ◌^◌, ◌≤◌, ◌<◌, length, get_or, drop}
use Rattle.std.proofs.Math.Path.{sym, ap}
use Rattle.std.proofs.Common.{ap₂, ◌∙◌, subst, arith, lit<, ltb-true, drop_of_length-le, drop-cons}
use Rattle.defs.specs.declared.Prefix.{Prefix}
use Rattle.defs.specs.Basics.{up_to}
use Rattle.defs.specs.Prefix.{leads, deeper, top}
use Rattle.defs.specs.Pool.{node_count, data_of, child_of, bit, ones, data_bit}
use Rattle.defs.specs.Entries.{Entry, Place, data_place, child_place, places, held_at, entries_at, all_entries}
use Rattle.defs.specs.Tidy.{child_prefixes, is_under, entries_in, children_of, word_of, pool_from, tidy_pool}
use Rattle.defs.specs.Lemmas.{All, nil, more, split, all_imp, all_both, all_unmap, map_map, map_on, each_on}
use Rattle.defs.proofs.EntryLaws.{sound_all}
use Rattle.pool.specs.Sound.{Formed, children_before, values_before, depth, depth_60, child_node, data_small}
use Rattle.tidied.specs.ListFacts.{full, any_full, run, run_from, all_tail, all_up_to, map_each}
use Rattle.tidied.specs.Words.{word_map, word_bits, ones_word}
use Rattle.tidied.specs.Halving.{under_top}
use Rattle.tidied.specs.Layout.{child_count}
use Rattle.tidied.specs.Find.{is_place, are_places, Seen, seen_child}
use Rattle.tidied.specs.Spots.{Spot, ids, spots, inner_spots, used, formed_laid, SeenSome, spots_run, spots_count, spots_placed, spots_seen}
use Rattle.tidied.specs.Reading.{data_word_lem, in_count, nodes_all}

-- a list that is not empty has a member
not_none : {A : Type 0} (l : List A) → (l ≡ [] → ⊥) → full l ≡ true
not_none [] h = absurd (h refl)
not_none (x ∷ l) h = refl

map_none : {A B : Type 0} (f : A → B) (l : List A) → map f l ≡ [] → l ≡ []
map_none f [] h = refl
map_none f (x ∷ l) h = absurd (let z : ⊥ = omega (arith, ap length h) in z)

all_get_d : {A : Type 0} {P : A → Type 0} {d : A} {l : List A} → All P l → P d → (i : ℕ) → P (get_or l i d)
all_get_d nil p i = p
all_get_d (more h hs) p zero = h
all_get_d (more h hs) p (suc i) = all_get_d hs p i

four_words : (w : List ℕ) (b : ℕ) → b + 4 ≤ length w
    → drop b w ≡ get_or w b 0 ∷ get_or w (b + 1) 0 ∷ get_or w (b + 2) 0 ∷ get_or w (b + 3) 0 ∷ drop (b + 4) w
four_words w b h =
    let one : (c d : ℕ) → suc c ≡ d → c < length w → drop c w ≡ get_or w c 0 ∷ drop d w = λ c d e l. drop-cons w c 0 l ∙ ap (λ (x : ℕ). get_or w c 0 ∷ drop x w) e in
    one b (b + 1) (omega arith) (omega arith)
    ∙ ap (get_or w b 0 ∷◌)
    (one (b + 1) (b + 2) (omega arith) (omega arith)
    ∙ ap (get_or w (b + 1) 0 ∷◌)
    (one (b + 2) (b + 3) (omega arith) (omega arith) ∙ ap (get_or w (b + 2) 0 ∷◌) (one (b + 3) (b + 4) (omega arith) (omega arith))))

module _ (width : ℕ) (w : List ℕ) (most : width ≤ 64) (ok : Formed width w) where
  abbrev pub values_of : List Entry → List ℕ
  values_of = map (λ e. e.value)

  -- the values in a node and below it do not hang on its prefix, nor on the number of levels, if they are enough
  abbrev pub Alike : ℕ → ℕ → Type 0
  Alike l m = (i : ℕ) (p q : Prefix) → i < node_count w → 65 ≤ depth w i + 5 * l → 65 ≤ depth w i + 5 * m → values_of (entries_at w l i p) ≡ values_of (entries_at w m i q)

  place_alike : (l m : ℕ) → Alike l m → (i : ℕ) (p q : Prefix) → i < node_count w → 65 ≤ depth w i + 5 * suc l → 65 ≤ depth w i + 5 * suc m
      → (x : Place) → is_place x ≡ true → values_of (held_at w (entries_at w l) i p x) ≡ values_of (held_at w (entries_at w m) i q x)
  place_alike l m ih i p q h a b (data_place n v) t = split (bit (data_bit n v) (data_of w i)) (λ s. rw s) (λ s. rw s)
  place_alike l m ih i p q h a b (child_place c) t =
      split (bit c (child_of w i))
      (λ s. let k = child_node width w ok i c h (ltb-true c 32 t) s in rw s (ih _ (deeper p 5 c) (deeper q 5 c) k.0 (omega (arith, k.2)) (omega (arith, k.2))))
      (λ s. rw s)

  pub alike : (l m : ℕ) → Alike l m
  alike zero m i p q h a b = absurd (let z : ⊥ = omega (arith, depth_60 width w most ok i h) in z)
  alike (suc l) zero i p q h a b = absurd (let z : ⊥ = omega (arith, depth_60 width w most ok i h) in z)
  alike (suc l) (suc m) i p q h a b =
      map_each (λ (e : Entry). e.value) (held_at w (entries_at w l) i p) places
      ∙ each_on (λ x. values_of (held_at w (entries_at w l) i p x)) (λ x. values_of (held_at w (entries_at w m) i q x))
      (place_alike l m (λ i p q h a b. alike l m i p q h a b) i p q h a b) are_places
      ∙ sym (map_each (λ (e : Entry). e.value) (held_at w (entries_at w m) i q) places)

  module _ (small : All (λ x. x < 2 ^ 32) w) (each-used : (i : ℕ) → 0 < i → i < node_count w → entries_at w 13 i top ≡ [] → ⊥) where
    abbrev E : List Entry
    E = all_entries w

    -- a node but the root has entries, however many levels are left
    entries_full : (l i : ℕ) (p : Prefix) → 0 < i → i < node_count w → depth w i + 5 * l ≡ 65 → full (entries_at w l i p) ≡ true
    entries_full l i p s h e =
        not_none (entries_at w l i p)
        (λ z. each-used i s h (map_none (λ (e : Entry). e.value) (entries_at w 13 i top) (alike 13 l i top p h (omega arith) (omega arith) ∙ ap values_of z)))

    -- what is known of a node's spot
    abbrev Known : Spot → Type 0
    Known s = SeenSome w s × ((s.node < node_count w) × (depth w s.node ≡ s.at.len))

    spots_known : All Known (spots w)
    spots_known = all_both (spots_seen w) (spots_placed width w ok most)

    inner_later : All (λ s. 1 ≤ s.node) (inner_spots w)
    inner_later =
        let e : ids (inner_spots w) ≡ run 1 (length (inner_spots w)) = cc (spots_run w (formed_laid width w ok)) in
        all_unmap (λ (s : Spot). s.node) (inner_spots w) (subst (All (λ x. 1 ≤ x)) (sym e) (run_from 1 (length (inner_spots w))))

    all_used : All (λ s. used w top s ≡ true) (inner_spots w)
    all_used =
        all_imp
        (λ (s : Spot) k.
        ap (λ (l : List Entry). is_under l s.at) (under_top E (sound_all w))
        ∙ any_full (λ e. leads s.at e.at) E
        ∙ ap full k.0.0.1.held
        ∙ entries_full (suc k.0.0.0) s.node s.at k.1 k.0.1.0 (omega (arith, k.0.1.1, k.0.0.1.deep.1)))
        (all_both (all_tail spots_known) inner_later)

    module _ (levels i : ℕ) (p : Prefix) (s : Seen w (suc levels) i p) (h : i < node_count w) (d : depth w i ≡ p.len) where
      child_here : (c : ℕ) → c < 32 → bit c (child_of w i) ≡ is_under E (deeper p 5 c)
      child_here c l =
          sym
          (any_full (λ e. leads (deeper p 5 c) e.at) E
          ∙ ap full (seen_child w levels i p s c l)
          ∙ split (bit c (child_of w i))
          (λ b. let k = child_node width w ok i c h l b in rw b (entries_full levels _ (deeper p 5 c) (omega (arith, k.1)) k.0 (omega (arith, k.2, s.deep.1)))) (λ b. rw b))

      -- the child word is that of the tidy pool
      child_word_lem : child_of w i ≡ word_of (is_under E) (child_prefixes p)
      unfolding child_prefixes
      child_word_lem =
          word_bits 32 (child_of w i) (all_get_d small (lit< tt) (4 * i + 1))
          ∙ ap (word_of (λ b. b))
          (map_on (λ c. bit c (child_of w i)) (λ c. is_under E (deeper p 5 c)) child_here (all_up_to 32) ∙ sym (map_map (is_under E) (deeper p 5) (up_to 32)))
          ∙ sym (word_map (is_under E) (child_prefixes p))

      child_ones : ones (child_of w i) ≡ length (children_of E p)
      child_ones = ap ones child_word_lem ∙ ones_word (is_under E) (child_prefixes p) (omega (arith, child_count p))

    one_node : (a : ℕ) (s : Spot) (ss : List Spot) → s.node ≡ a → Known s
        → drop (4 * suc a) w ≡ pool_from E (map (λ t. t.at) ss) (children_before w (suc a)) (values_before w (suc a))
        → drop (4 * a) w ≡ pool_from E (map (λ t. t.at) (s ∷ ss)) (children_before w a) (values_before w a)
    one_node a s ss at_a k r =
        let p = s.at in
        let h : a < node_count w = omega (arith, k.1.0) in
        let seen : Seen w (suc k.0.0) a p = subst (λ (i : ℕ). Seen w (suc k.0.0) i p) at_a k.0.1 in
        let d : depth w a ≡ p.len = ap (depth w) (sym at_a) ∙ k.1.1 in
        let ds = data_small width w ok a h in
        let e : 4 * a + 4 ≡ 4 * suc a = omega arith in
        let c : children_before w (suc a) ≡ children_before w a + length (children_of E p) = ap (children_before w a +◌) (child_ones k.0.0 a p seen h d) in
        let v : values_before w (suc a) ≡ values_before w a + length (entries_in E p) = ap (values_before w a +◌) (sym (in_count w k.0.0 a p seen ds)) in
        let rest : drop (4 * a + 4) w ≡ pool_from E (map (λ (t : Spot). t.at) ss) (children_before w a + length (children_of E p)) (values_before w a + length (entries_in E p)) =
        ap (λ (x : ℕ). drop x w) e ∙ r ∙ ap₂ (pool_from E (map (λ (t : Spot). t.at) ss)) c v in
        four_words w (4 * a) (omega (arith, ok.whole))
        ∙ put (data_word_lem w k.0.0 a p seen ds) (child_word_lem k.0.0 a p seen h d) (ok.node a h).child (ok.node a h).value rest
      where
        put : {a a' b b' c c' d d' : ℕ} {l l' : List ℕ} → a ≡ a' → b ≡ b' → c ≡ c' → d ≡ d' → l ≡ l' → a ∷ b ∷ c ∷ d ∷ l ≡ a' ∷ b' ∷ c' ∷ d' ∷ l'
        put p q r s t = λ x. p x ∷ q x ∷ r x ∷ s x ∷ t x

    all_nodes : (ss : List Spot) (a : ℕ) → ids ss ≡ run a (length ss) → a + length ss ≡ node_count w → All Known ss
        → drop (4 * a) w ≡ pool_from E (map (λ t. t.at) ss) (children_before w a) (values_before w a)
    all_nodes [] a e h k = let l : length w ≤ 4 * a = omega (arith, ok.whole) in drop_of_length-le w l
    all_nodes (s ∷ ss) a e h (more k ks) = one_node a s ss (cc e) k (all_nodes ss (suc a) (cc e) (omega arith) ks)

    -- it is its own tidy pool, word for word
    pub own_tidy : w ≡ tidy_pool (all_entries w)
    own_tidy =
        all_nodes (spots w) 0 (spots_run w (formed_laid width w ok)) (let c = spots_count width w ok most in omega arith) spots_known
        ∙ ap (λ (ps : List Prefix). pool_from E ps 0 0) (sym (nodes_all w (formed_laid width w ok) all_used))
