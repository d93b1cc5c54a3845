-- What the tidy pool keeps of a node: its two bitmaps, as the code works them out from the node's prefix.
use Rattle.std.specs.Prelude.{◌≡◌, Bool, true, not, ◌&&◌, ◌||◌, List, [], ◌∷◌, map, get_or, Some}
use Rattle.std.proofs.Math.Path.{refl, sym, ap, ap₂}
use Rattle.std.proofs.Common.{◌∙◌, subst, arith, add-one, lt-ltb}
use Rattle.std.proofs.Math.Bool.{false}
use Prim.Native.Nat.{ℕ, zero, suc, ◌+◌, ◌-◌, ◌*◌, ◌/◌, ◌^◌, ◌≤◌, ◌<◌}
use Rattle.std.proofs.Math.Dec.{ltb}
use Rattle.defs.specs.declared.Prefix.{Prefix}
use Rattle.defs.specs.Basics.{if◌then◌otherwise◌, up_to}
use Rattle.defs.specs.Prefix.{leads, deeper, top}
use Rattle.defs.specs.Pool.{node_count, data_of, child_of, first_child, bit, rank, data_bit}
use Rattle.defs.specs.Entries.{entries_at, all_entries, under, view}
use Rattle.defs.specs.Tidy.{data_prefixes, child_prefixes, is_under, word_of}
use Rattle.defs.specs.Lemmas.{split, not_both}
use Rattle.defs.specs.PrefixLaws.{Whole}
use Rattle.defs.proofs.PrefixLaws.{leads_trans}
use Rattle.defs.proofs.DeeperLaws.{leads_deeper}
use Rattle.bits.specs.Places.{place_len, place_value, place_prefix}
use Rattle.bits.specs.PlaceLaws.{made, data_place_lem, child_place_lem, place_len_below, place_prefix_lem}
use Rattle.pool.specs.Sound.{depth_60, child_node}
use Rattle.tidied.specs.ListFacts.{full, any_full}
use Rattle.tidied.specs.Layout.{data_bit_lem}
use Rattle.tidied.specs.Find.{Seen, seen_child}
use Rattle.tidied.specs.Holds.{view_sound}
use Rattle.tidied.specs.Spots.{under_view}
use Rattle.tidied.specs.Source.{prefix_at, prefix_seen, prefix_depth}
use Rattle.tidied.specs.Copying.{data_word, child_word, taken, view_word, used_words, under_inside, under_path, under_outside}
use Rattle.view.specs.declared.Bitmaps.{Bitmaps}
use Rattle.view.specs.Standing.{Sane, nodes_few, child_inside}
use Rattle.view.specs.Spreads.{one, word_on}
use Rattle.view.specs.Covered.{up_below}
use Rattle.view.specs.Kept.{kept_bit, kept_of, kept_by_places, kept_whole, word_more, word_below}
use Rattle.view.specs.Emptiness.{is_nil, empty_at, empty_says}
use Rattle.tidy.specs.Full.{full_kid, full_kids}

module _ (w : List ℕ) (s : Sane w) where
  -- a child's prefix, as the code makes it
  pub child_short : (i c : ℕ) → i < node_count w → c < 32 → bit c (child_of w i) ≡ true → (prefix_at w i).len + 5 ≤ 60
  child_short i c h l b =
      let n = child_node s.width w s.formed i c h l b in
      omega (arith, n.2, depth_60 s.width w s.most s.formed (first_child w i + rank c (child_of w i)) n.0, prefix_depth s.width w s.most s.formed i h)

  pub child_prefix : (i c : ℕ) → i < node_count w → c < 32 → bit c (child_of w i) ≡ true → (p : Prefix) → p ≡ prefix_at w i → p.key < 2 ^ 64
      → place_prefix p (32 + c) ≡ deeper p 5 c
  child_prefix i c h l b p e f =
      let t = child_place_lem (32 + c) (omega arith) (omega arith) in
      let v : 32 + c - 32 ≡ c = omega arith in
      let d = (prefix_seen s.width w s.most s.formed i h).1.deep.0 in
      place_prefix_lem p (32 + c) (omega arith) (omega arith) (rw e d) f (omega (arith, t.0, child_short i c h l b, ap (λ (y : Prefix). y.len) e))
      ∙ ap₂ (deeper p) t.0 (t.1 ∙ v)

-- node i of a pool without a fault, its prefix, and a root
pub record Here (w : List ℕ) (root : Prefix) (i : ℕ) (p : Prefix) : Type 0 where
  pub sane : Sane w
  pub long : root.len ≤ 64
  pub inside : i < node_count w
  pub prefix : p ≡ prefix_at w i

-- the data bitmap of node i in the tidy pool of the view
unfoldable pub data_on : List ℕ → Prefix → ℕ → ℕ
data_on w root i = data_word (view w root) (prefix_at w i)

-- its child bitmap
unfoldable pub kids_on : List ℕ → Prefix → ℕ → ℕ
kids_on w root i = child_word (view w root) (prefix_at w i)

-- both
abbrev pub node_on : List ℕ → Prefix → ℕ → Bitmaps
node_on w root i = record { «data» = data_on w root i; child = kids_on w root i }

full_nil : {A : Type 0} (l : List A) → full l ≡ not (is_nil l)
full_nil [] = refl
full_nil (x ∷ l) = refl

map_word : (t : Prefix → Bool) (f : ℕ → Prefix) (l : List ℕ) → word_of t (map f l) ≡ word_of (λ c. t (f c)) l
map_word t f [] = refl
map_word t f (x ∷ l) = ap (λ (n : ℕ). (if t (f x) then 1 otherwise 0) + 2 * n) (map_word t f l)

-- the loop over a node's children: the word of the first c of them
pub record Gathering (w : List ℕ) (root p : Prefix) (word c : ℕ) : Type 0 where
  pub within : c ≤ 32
  pub so_far : word ≡ word_of (λ c. is_under (view w root) (deeper p 5 c)) (up_to c)

module _ (w : List ℕ) (root : Prefix) (i : ℕ) (p : Prefix) (h : Here w root i p) where
  abbrev s : Sane w
  s = h.sane

  abbrev levels : ℕ
  levels = 12 - p.len / 5

  -- the node holds what is below its prefix
  seen : Seen w (suc levels) i p
  seen =
      let r = prefix_seen s.width w s.most s.formed i h.inside in
      let q : Seen w (suc r.0) i p = subst (λ (y : Prefix). Seen w (suc r.0) i y) (sym h.prefix) r.1 in
      let e : r.0 ≡ levels = (let d = q.deep.1 in omega arith) in
      subst (λ (n : ℕ). Seen w (suc n) i p) e q

  pub here_whole : Whole p
  here_whole = seen.deep.0

  pub here_short : p.len ≤ 60
  here_short = omega (arith, seen.deep.1)

  pub here_levels : p.len / 5 ≤ 12
  here_levels = omega (arith, seen.deep.1)

  -- ---- a child
  module _ (c : ℕ) (l : c < 32) (child : ℕ) (ec : child ≡ child_of w i) where
    abbrev q : Prefix
    q = deeper p 5 c

    under_kid : is_under (view w root) q ≡ full (under q (view w root))
    under_kid = any_full (λ e. leads q e.at) (view w root)

    pub kid_unset : bit c child ≡ false → false ≡ is_under (view w root) q
    kid_unset b =
        let b' : bit c (child_of w i) ≡ false = ap (bit c) (sym ec) ∙ b in
        let none : under q (all_entries w) ≡ [] = seen_child w levels i p seen c l ∙ rw b' refl in
        sym (under_kid ∙ ap full (under_view w root q ∙ ap (under root) none))

    module _ (b : bit c child ≡ true) where
      set : bit c (child_of w i) ≡ true
      set = ap (bit c) (sym ec) ∙ b

      pub kid_number : (f r : ℕ) → f ≡ first_child w i → r ≡ rank c child → f + r ≡ first_child w i + rank c (child_of w i)
      kid_number f r ef er = ap₂ ◌+◌ ef (er ∙ ap (rank c) ec)

      pub kid_in : (f r : ℕ) → f ≡ first_child w i → r ≡ rank c child → (f + r < node_count w) × (f + r < 2 ^ 32)
      kid_in f r ef er = let n = child_inside w s i c h.inside l set in let m = nodes_few w s in let e = kid_number f r ef er in (omega arith, omega arith)

      pub kid_prefix : p.key < 2 ^ 64 → (y : Prefix) → y ≡ place_prefix p (32 + c) → y ≡ q
      kid_prefix fits y e = e ∙ child_prefix w s i c h.inside l set p h.prefix fits

      held : under q (all_entries w) ≡ entries_at w levels (first_child w i + rank c (child_of w i)) q
      held = seen_child w levels i p seen c l ∙ rw set refl

      -- inside the view the child decides
      pub kid_inside : (y : Prefix) → y ≡ q → leads root y ≡ true → (f r : ℕ) → f ≡ first_child w i → r ≡ rank c child → (b : Bool) → b ≡ empty_at w levels (f + r) → not b ≡ is_under (view w root) q
      kid_inside y ey t f r ef er b eb =
          ap not (eb ∙ ap (empty_at w levels) (kid_number f r ef er) ∙ sym (empty_says w s levels (first_child w i + rank c (child_of w i)) q (child_inside w s i c h.inside l set)))
          ∙ sym
          (under_kid ∙ ap full (under_inside w root q (ap (leads root) (sym ey) ∙ t) ∙ held)
          ∙ full_nil (entries_at w levels (first_child w i + rank c (child_of w i)) q))

      -- on the way to the root the whole view does
      pub kid_above : (y : Prefix) → y ≡ q → leads y root ≡ true → (b : Bool) → b ≡ is_nil (view w root) → not b ≡ is_under (view w root) q
      kid_above y ey t b eb =
          ap not eb ∙ sym (under_kid ∙ ap full (under_path w root q (ap (λ (x : Prefix). leads x root) (sym ey) ∙ t)) ∙ full_nil (view w root))

      pub kid_outside : (y : Prefix) → y ≡ q → leads root y ≡ false → leads y root ≡ false → false ≡ is_under (view w root) q
      kid_outside y ey t u = sym (under_kid ∙ ap full (under_outside w root q (ap (leads root) (sym ey) ∙ t) (ap (λ (x : Prefix). leads x root) (sym ey) ∙ u)))

  -- ---- the child bitmap

  pub gathering_start : Gathering w root p 0 0
  gathering_start = record { within = omega arith; so_far = refl }

  pub gathering_small : (word c : ℕ) → Gathering w root p word c → word < 2 ^ c
  gathering_small word c g = rw g.so_far (word_below (λ c. is_under (view w root) (deeper p 5 c)) c)

  pub gathering_on : (word c : ℕ) → c < 32 → Gathering w root p word c → (t : Bool) → t ≡ is_under (view w root) (deeper p 5 c) → (r : ℕ) → r ≡ word + one t * 2 ^ c → Gathering w root p r (c + 1)
  gathering_on word c l g t et r er =
      record {
        within = omega arith;
        so_far = er ∙ ap₂ (λ (x : ℕ) (y : Bool). x + one y * 2 ^ c) g.so_far et ∙ sym (word_more (λ c. is_under (view w root) (deeper p 5 c)) c)
            ∙ ap (λ (x : ℕ). word_of (λ c. is_under (view w root) (deeper p 5 c)) (up_to x)) (sym (add-one c));
      }

  pub gathering_end : (word c : ℕ) → 32 ≤ c → Gathering w root p word c → word ≡ kids_on w root i
  unfolding kids_on child_prefixes
  gathering_end word c l g =
      let e : c ≡ 32 = omega (arith, g.within) in
      g.so_far ∙ ap (λ (x : ℕ). word_of (λ c. is_under (view w root) (deeper p 5 c)) (up_to x)) e
      ∙ sym (map_word (is_under (view w root)) (deeper p 5) (up_to 32))
      ∙ ap (child_word (view w root)) h.prefix

  -- ---- the data bitmap
  bit_place : (b : ℕ) → b < 31 → get_or (data_prefixes p) b top ≡ deeper p (place_len (b + 1)) (place_value (b + 1))
  bit_place b l =
      let n = place_len (b + 1) in
      let v = place_value (b + 1) in
      let e : data_bit n v ≡ b = data_place_lem (b + 1) (omega arith) (omega arith) ∙ omega arith in
      ap (λ (x : ℕ). get_or (data_prefixes p) x top) (sym e)
      ∙ (data_bit_lem p n v top (place_len_below (b + 1) (omega arith) (omega arith) 5 (omega arith)) (made (b + 1) (omega arith) (omega arith)).value).1

  pub kept_data : kept_of w root (Some i) p ≡ data_on w root i
  unfolding data_on
  kept_data =
      sym (kept_by_places w root p i (data_of w i) refl)
      ∙ word_on (kept_bit (data_of w i) root p) (taken w root i p) (λ b l. ap (λ (y : Prefix). bit b (data_of w i) && leads root y) (sym (bit_place b l))) (up_below 31)
      ∙ sym (view_word w root levels i p seen)
      ∙ ap (data_word (view w root)) h.prefix

  pub kept_node : (d k : ℕ) → d ≡ kept_of w root (Some i) p → k ≡ kids_on w root i → ◌≡◌ {A = Bitmaps} (record { «data» = d; child = k }) (node_on w root i)
  kept_node d k ed ek = ap₂ (λ (x y : ℕ). record { «data» = x; child = y }) (ed ∙ kept_data) ek

  -- ---- a node under the root, and one on no path with it

  pub node_off : leads root p ≡ false → leads p root ≡ false → ◌≡◌ {A = Bitmaps} (record { «data» = 0; child = 0 }) (node_on w root i)
  unfolding data_on kids_on
  node_off a b =
      let es = view w root in
      let u : (ltb 0 (data_word es p) || ltb 0 (child_word es p)) ≡ false =
      sym (used_words es (view_sound w root) levels p seen.deep) ∙ any_full (λ e. leads p e.at) es ∙ ap full (under_outside w root p a b) in
      let z = none (data_word es p) (child_word es p) u in
      ap₂ (λ (x y : ℕ). record { «data» = x; child = y }) (z.0 ∙ ap (data_word es) h.prefix) (z.1 ∙ ap (child_word es) h.prefix)
    where
      none : (x y : ℕ) → (ltb 0 x || ltb 0 y) ≡ false → (0 ≡ x) × (0 ≡ y)
      none zero zero e = (refl, refl)
      none zero (suc y) e = not_both (lt-ltb 0 (suc y) (omega arith)) e
      none (suc x) y e = not_both {b = true} refl (rw (lt-ltb 0 (suc x) (omega arith)) at e)

  module _ (inside : leads root p ≡ true) where
    full_kid_lem : (c : ℕ) → c < 32 → full_kid w levels i c ≡ is_under (view w root) (deeper p 5 c)
    full_kid_lem c l =
        split (bit c (child_of w i))
        (λ b.
        let t : leads root (deeper p 5 c) ≡ true = leads_trans root p (deeper p 5 c) inside (leads_deeper p here_whole 5 (omega (arith, ap (λ (y : Prefix). y.len) h.prefix, child_short w s i c h.inside l b)) c l) in
        rw b (kid_inside c l (child_of w i) refl b (deeper p 5 c) refl t (first_child w i) (rank c (child_of w i)) refl refl _ refl))
        (λ b. rw b (kid_unset c l (child_of w i) refl b))

    pub node_under : (d k n : ℕ) → d ≡ data_of w i → n ≡ levels → k ≡ full_kids w n i → ◌≡◌ {A = Bitmaps} (record { «data» = d; child = k }) (node_on w root i)
    unfolding full_kids
    node_under d k n ed en ek =
        kept_node d k (kept_whole w root p i d ed s h.inside here_whole here_short inside)
        (ek ∙ ap (λ (m : ℕ). full_kids w m i) en ∙ word_on (full_kid w levels i) (λ c. is_under (view w root) (deeper p 5 c)) full_kid_lem (up_below 32)
        ∙ gathering_end (word_of (λ c. is_under (view w root) (deeper p 5 c)) (up_to 32)) 32 (omega arith) (record { within = omega arith; so_far = refl }))
