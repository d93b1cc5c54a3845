-- The walk: each step keeps what is still to be given, a level entered gives what lies below its place, and the whole list is what is
-- left at the start.
use Rattle.std.specs.Prelude.{◌≡◌, refl, Bool, true, false, List, [], ◌∷◌, ◌++◌, ℕ, zero, suc, ◌+◌, ◌*◌, ◌-◌, ◌/◌, ◌%◌, ◌^◌, ◌≤◌, ◌<◌, eqb, leb, length, None, Some}
use Rattle.std.proofs.Common.{sym, ◌∙◌, ap, subst, arith, mul-le-mul_right, suc-mul, eqb-true, leb-true, leb-false}
use Rattle.std.proofs.Math.Option.{Option, none, some}
use Rattle.std.proofs.Math.Nat.{mul-div_right}
use Rattle.std.specs.Int.Count.{count_trailing_zeros}
use Rattle.std.proofs.lemmas.Bool.{eqb-false}
use Rattle.defs.specs.declared.Prefix.{Prefix}
use Rattle.defs.specs.declared.Operation.{Operation}
use Rattle.defs.specs.declared.Operation.TheVariants.{Union, Intersection, Difference, CoveringDifference, CoveringUnion}
use Rattle.defs.specs.Basics.{if◌then◌otherwise◌, each}
use Rattle.defs.specs.Prefix.{deeper}
use Rattle.defs.specs.Entries.{Entry, Place, data_place, child_place, places, entries_at}
use Rattle.defs.specs.Lists.{Record}
use Rattle.defs.specs.Tidy.{word_of}
use Rattle.defs.specs.Lemmas.{All, nil, more, split, not_both, all_imp, all_kept, each_append}
use Rattle.defs.specs.Outcome.{Side}
use Rattle.defs.specs.PrefixLaws.{Whole}
use Rattle.defs.proofs.PrefixLaws.{leads_len}
use Rattle.defs.specs.OrderLaws.{end}
use Rattle.defs.specs.EntryLaws.{Sound}
use Rattle.defs.proofs.EntryLaws.{sound, sound_under}
use Rattle.defs.proofs.DeeperLaws.{whole_deeper}
use Rattle.theory.specs.declared.Covers.{Covers}
use Rattle.theory.specs.declared.Level.{Level}
use Rattle.theory.specs.declared.Step.{Step}
use Rattle.theory.specs.declared.Step.TheVariants as step
use Rattle.theory.specs.Covering.{covering}
use Rattle.theory.specs.Picks.{Good, picks, pick}
use Rattle.theory.specs.Nodes.{above_bits, place_records, node_places}
use Rattle.theory.specs.Sides.{side_held, side_entries, child_in, value_in, side_places, side_fits, side_data, side_child}
use Rattle.theory.specs.Contexts.{cover_for, entry_for, cover_entry, Shorter, not_own, StandsLeft, StandsRight, context}
use Rattle.theory.specs.Todo.{picked, picked_none, picked_word, word_lt, Lowest, lowest, each_keep}
use Rattle.theory.specs.Steps
use Rattle.theory.specs.StepLaws.{ShortCover, shorter_of, short_bits, cover_above, shorter_above, emitted, Free, free_of, emits}
use Rattle.theory.specs.Unwanted.{places_in_node, unwanted}
use Rattle.theory.specs.Kinds.{Cover, Emit, Node}

-- what holds of a level of a walk
pub record LevelOk (j : Steps.Job) (f : Level) : Type 0 where
  pub whole : Whole f.prefix
  pub depth : f.prefix.len + 5 * suc (Steps.below f) ≡ 65
  pub short_left : ShortCover f.above.left f.prefix.len
  pub short_right : ShortCover f.above.right f.prefix.len
  pub carries : Steps.carried j.op f.above ≡ f.above
  pub small : f.todo < 2 ^ 63
  pub wants_all : All (λ x. Steps.wanted j f.prefix f.left f.right f.above x ≡ true) (picked f.todo places)

pub places_length : length places ≡ 63
unfolding places
places_length = refl

picks_each : (op : Operation) (f : Place → List Record) (xs : List Place) → picks op (each f xs) ≡ each (λ x. picks op (f x)) xs
picks_each op f [] = refl
picks_each op f (x ∷ xs) = each_append (pick op) (f x) (each f xs) ∙ ap (picks op (f x) ++◌) (picks_each op f xs)

-- a side's entries in a node and below it
side_sound : (s : Side) (lv : ℕ) (o : Node) (p : Prefix) → Whole p → p.len + 5 * lv ≡ 65 → Sound p (side_entries s.pool s.root lv o p)
side_sound s lv None p w e = record { led_by = nil; ascend = end; all_real = nil }
side_sound s lv (Some i) p w e = sound_under s.root p (entries_at s.pool lv i p) (sound s.pool lv i p w e)

sound_good : {q : Prefix} {a : List Entry} → Sound q a → Good a
sound_good s = record { asc = s.ascend; real = s.all_real }

-- the list of two nodes of prefix p, place by place
pub by_places : (op : Operation) (l r : Side) (lv : ℕ) (a b : Node) (p : Prefix) → Whole p → p.len + 5 * suc lv ≡ 65 → (cl cr : Option Entry)
    → picks op (covering cl cr (side_entries l.pool l.root (suc lv) a p) (side_entries r.pool r.root (suc lv) b p))
    ≡ each (λ x. picks op (place_records p (side_held l.pool l.root lv a p) (side_held r.pool r.root lv b p) cl cr x)) places
by_places op l r lv a b p w e cl cr =
    rw (side_places l.pool l.root lv a p, side_places r.pool r.root lv b p)
    (ap (picks op) (node_places p (omega arith) (side_held l.pool l.root lv a p) (side_held r.pool r.root lv b p) (side_fits l.pool l.root lv a p e) (side_fits r.pool r.root lv b p e) w cl cr)
    ∙ picks_each op (place_records p (side_held l.pool l.root lv a p) (side_held r.pool r.root lv b p) cl cr) places)

-- levels left, from the prefix's length
below_is : (len lv : ℕ) → len + 5 * suc lv ≡ 65 → (60 - len) / 5 ≡ lv
below_is len lv e = let d : 60 - len ≡ 5 * lv = omega arith in rw d (mul-div_right lv {m = 5} (omega arith))

-- what a level entered has to give is what its places give
pub enter_rest : (j : Steps.Job) (p : Prefix) (l r : Node) (above : Covers) → Whole p → p.len + 5 * suc ((60 - p.len) / 5) ≡ 65
    → ShortCover above.left p.len → ShortCover above.right p.len
    → Steps.level_rest j (Steps.enter j p l r above) ≡ each (Steps.place_list j (Steps.enter j p l r above)) places
enter_rest j p l r above w e sl sr =
    rw (picked_word (Steps.wanted j p l r above) places)
    (each_keep (Steps.place_list j (Steps.enter j p l r above)) (Steps.wanted j p l r above) (unwanted j ((60 - p.len) / 5) p w e l r above sl sr) places_in_node)

carried_twice : (op : Operation) (c : Covers) → Steps.carried op (Steps.carried op c) ≡ Steps.carried op c
carried_twice Union c = refl
carried_twice Intersection c = refl
carried_twice Difference c = refl
carried_twice CoveringDifference c = refl
carried_twice CoveringUnion c = refl

-- a level entered is as a level should be
pub enter_ok : (j : Steps.Job) (p : Prefix) (l r : Node) (above : Covers) → Whole p → p.len + 5 * suc ((60 - p.len) / 5) ≡ 65
    → ShortCover above.left p.len → ShortCover above.right p.len → Steps.carried j.op above ≡ above
    → LevelOk j (Steps.enter j p l r above)
enter_ok j p l r above w e sl sr c =
    record {
      whole = w;
      depth = e;
      short_left = sl;
      short_right = sr;
      carries = c;
      small = subst (λ (n : ℕ). word_of (Steps.wanted j p l r above) places < 2 ^ n) places_length (word_lt (Steps.wanted j p l r above) places);
      wants_all = rw (picked_word (Steps.wanted j p l r above) places) (all_kept (Steps.wanted j p l r above) places);
    }

-- ---- one place of a level
module _ (j : Steps.Job) (f : Level) (ok : LevelOk j f) where
  abbrev p : Prefix
  p = f.prefix

  abbrev lv : ℕ
  lv = Steps.below f

  abbrev L : Place → List Entry
  L = side_held j.left.pool j.left.root lv f.left p

  abbrev R : Place → List Entry
  R = side_held j.right.pool j.right.root lv f.right p

  abbrev above_l : ℕ → ℕ → Option Entry
  above_l n v = above_bits p L (entry_for f.above.left) n v

  abbrev above_r : ℕ → ℕ → Option Entry
  above_r n v = above_bits p R (entry_for f.above.right) n v

  free : (x : Place) → Steps.wanted j p f.left f.right f.above x ≡ true → Free j.op (Steps.is_cover (Steps.cover_on j.right f.right p f.above.right x))
  free x h = free_of j.op _ _ _ h

  -- a data place
  pub data_place_lem : (n v : ℕ) → Steps.wanted j p f.left f.right f.above (data_place n v) ≡ true
      → Steps.place_list j f (data_place n v)
      ≡ emitted (Steps.emit_of j.op (deeper p n v) (value_in j.left.pool j.left.root f.left n v (deeper p n v)) (value_in j.right.pool j.right.root f.right n v (deeper p n v))
      (Steps.cover_bits j.left f.left p f.above.left n v) (Steps.cover_bits j.right f.right p f.above.right n v))
  data_place_lem n v h =
      let cl = cover_above j.left lv f.left p f.above.left n v in
      let cr = cover_above j.right lv f.right p f.above.right n v in
      let q = deeper p n v in
      let y = value_in j.right.pool j.right.root f.right n v q in
      rw (side_data j.left.pool j.left.root lv f.left p n v, side_data j.right.pool j.right.root lv f.right p n v, ← cl, ← cr)
      (emits q (above_l n v) (above_r n v)
      (not_own (above_l n v) (p.len + n) q (shorter_above j.left lv f.left p f.above.left ok.short_left n v) (omega arith))
      (not_own (above_r n v) (p.len + n) q (shorter_above j.right lv f.right p f.above.right ok.short_right n v) (omega arith))
      j.op (value_in j.left.pool j.left.root f.left n v q) y
      (subst (λ (c : Cover). Free j.op (Steps.is_cover (Steps.nearer y (p.len + n) c))) (sym cr) (free (data_place n v) h)))

  -- a child place: the level below it
  module _ (c : ℕ) (deep : p.len < 60) (fr : Free j.op (Steps.is_cover (Steps.cover_bits j.right f.right p f.above.right 5 c))) where
    abbrev q : Prefix
    q = deeper p 5 c

    abbrev l' : Node
    l' = child_in j.left.pool j.left.root f.left c q

    abbrev r' : Node
    r' = child_in j.right.pool j.right.root f.right c q

    abbrev covers' : Covers
    covers' = Steps.carried j.op (Steps.covers_at j f 5 c)

    abbrev g : Level
    g = Steps.enter j q l' r' covers'

    whole' : Whole q
    whole' = whole_deeper p ok.whole 5 (omega arith) c

    lv_suc : lv ≡ suc ((60 - q.len) / 5)
    lv_suc = let d = ok.depth in omega (arith, below_is q.len (lv - 1) (omega arith))

    depth' : q.len + 5 * suc ((60 - q.len) / 5) ≡ 65
    depth' = let d = ok.depth in omega (arith, lv_suc)

    short_carried : (op : Operation) → (ShortCover (Steps.carried op (Steps.covers_at j f 5 c)).left q.len) × (ShortCover (Steps.carried op (Steps.covers_at j f 5 c)).right q.len)
    short_carried CoveringUnion = (short_bits j.left lv f.left p f.above.left ok.short_left 5 c, short_bits j.right lv f.right p f.above.right ok.short_right 5 c)
    short_carried Union = (tt, tt)
    short_carried Intersection = (tt, tt)
    short_carried Difference = (tt, tt)
    short_carried CoveringDifference = (tt, tt)

    pub child_ok : LevelOk j g
    child_ok = enter_ok j q l' r' covers' whole' depth' (short_carried j.op).0 (short_carried j.op).1 (carried_twice j.op (Steps.covers_at j f 5 c))

    stands_left : (op : Operation) → StandsLeft op (above_l 5 c) (entry_for (Steps.carried op (Steps.covers_at j f 5 c)).left)
    stands_left CoveringUnion = cover_above j.left lv f.left p f.above.left 5 c ∙ sym (cover_entry (Steps.cover_bits j.left f.left p f.above.left 5 c))
    stands_left Union = refl
    stands_left Intersection = refl
    stands_left Difference = refl
    stands_left CoveringDifference = refl

    stands_right : (op : Operation) → Free op (Steps.is_cover (Steps.cover_bits j.right f.right p f.above.right 5 c))
        → StandsRight op (above_r 5 c) (entry_for (Steps.carried op (Steps.covers_at j f 5 c)).right)
    stands_right CoveringUnion k = cover_above j.right lv f.right p f.above.right 5 c ∙ sym (cover_entry (Steps.cover_bits j.right f.right p f.above.right 5 c))
    stands_right Union k = refl
    stands_right Intersection k = refl
    stands_right Difference k = refl
    stands_right CoveringDifference k = none_of (above_r 5 c) (ap Steps.is_cover (cover_above j.right lv f.right p f.above.right 5 c) ∙ k)
      where
        none_of : (o : Option Entry) → Steps.is_cover (cover_for o) ≡ false → o ≡ none
        none_of none e = refl
        none_of (some x) e = not_both refl e

    shorter_entry : (x : Cover) (n : ℕ) → ShortCover x n → Shorter (entry_for x) n
    shorter_entry x n k = shorter_of (entry_for x) n (rw (cover_entry x) k)

    -- the two sides below the place
    sound_l : Sound q (side_entries j.left.pool j.left.root lv l' q)
    sound_l = side_sound j.left lv l' q whole' (let d = ok.depth in omega arith)

    sound_r : Sound q (side_entries j.right.pool j.right.root lv r' q)
    sound_r = side_sound j.right lv r' q whole' (let d = ok.depth in omega arith)

    -- what lies below the place, under the covers that the level below is given
    below_place : Steps.place_list j f (child_place c)
        ≡ picks j.op (covering (entry_for covers'.left) (entry_for covers'.right) (side_entries j.left.pool j.left.root lv l' q) (side_entries j.right.pool j.right.root lv r' q))
    below_place =
        rw (side_child j.left.pool j.left.root lv f.left p c whole' ok.depth, side_child j.right.pool j.right.root lv f.right p c whole' ok.depth)
        (context j.op (side_entries j.left.pool j.left.root lv l' q) (side_entries j.right.pool j.right.root lv r' q) (sound_good sound_l) (sound_good sound_r) q.len
        (above_l 5 c) (above_r 5 c) (entry_for covers'.left) (entry_for covers'.right)
        (shorter_above j.left lv f.left p f.above.left ok.short_left 5 c) (shorter_above j.right lv f.right p f.above.right ok.short_right 5 c)
        (shorter_entry covers'.left q.len (short_carried j.op).0) (shorter_entry covers'.right q.len (short_carried j.op).1)
        (stands_left j.op) (stands_right j.op fr)
        (all_imp (λ y k. leads_len q y k) sound_l.led_by) (all_imp (λ y k. leads_len q y k) sound_r.led_by))

    pub child_rest : Steps.place_list j f (child_place c) ≡ Steps.level_rest j g
    child_rest =
        below_place
        ∙ ap (λ (n : ℕ). picks j.op (covering (entry_for covers'.left) (entry_for covers'.right) (side_entries j.left.pool j.left.root n l' q) (side_entries j.right.pool j.right.root n r' q))) lv_suc
        ∙ by_places j.op j.left j.right ((60 - q.len) / 5) l' r' q whole' depth' (entry_for covers'.left) (entry_for covers'.right)
        ∙ sym (enter_rest j q l' r' covers' whole' depth' (short_carried j.op).0 (short_carried j.op).1)

    pub child_none : l' ≡ None → r' ≡ None → Steps.place_list j f (child_place c) ≡ []
    child_none a b =
        below_place
        ∙ ap (λ (n : Node). picks j.op (covering (entry_for covers'.left) (entry_for covers'.right) (side_entries j.left.pool j.left.root lv n q) (side_entries j.right.pool j.right.root lv r' q))) a
        ∙ ap (λ (n : Node). picks j.op (covering (entry_for covers'.left) (entry_for covers'.right) [] (side_entries j.right.pool j.right.root lv n q))) b

-- ---- a step

-- what holds of the levels that a step leaves
abbrev pub StepOk : Steps.Job → Level → Step → Type 0
StepOk j f step.Up = Unit {0}
StepOk j f (step.Skip g) = LevelOk j g × (g.prefix ≡ f.prefix)
StepOk j f (step.Record i g) = LevelOk j g × (g.prefix ≡ f.prefix)
StepOk j f (step.Down g h) = LevelOk j g × (g.prefix ≡ f.prefix) × LevelOk j h × (h.prefix.len ≡ f.prefix.len + 5)

-- a level with so many levels below it takes at most so many steps
abbrev pub most_steps : ℕ → ℕ
most_steps zero = 0
most_steps (suc n) = 1 + 63 * (1 + most_steps n)

-- the steps that a level may still take
abbrev pub level_cost : Level → ℕ
level_cost f = 1 + length (picked f.todo places) * (1 + most_steps (Steps.below f))

-- the steps that may follow a step
abbrev pub step_cost : Step → ℕ
step_cost step.Up = 0
step_cost (step.Skip f) = level_cost f
step_cost (step.Record i f) = level_cost f
step_cost (step.Down f g) = level_cost g + level_cost f

given_rest : (j : Steps.Job) (e : Emit) (f : Level) → Steps.step_rest j (Steps.given e f) ≡ emitted e ++ Steps.level_rest j f
given_rest j None f = refl
given_rest j (Some i) f = refl

given_ok : (j : Steps.Job) (e : Emit) (f : Level) → LevelOk j f → StepOk j f (Steps.given e f)
given_ok j None f k = (k, refl)
given_ok j (Some i) f k = (k, refl)

given_cost : (e : Emit) (f : Level) → step_cost (Steps.given e f) ≡ level_cost f
given_cost None f = refl
given_cost (Some i) f = refl

picked_most : {A : Type 0} (t : ℕ) (l : List A) → length (picked t l) ≤ length l
picked_most t [] = omega arith
picked_most t (x ∷ l) = go (eqb (t % 2) 1) (picked_most (t / 2) l)
  where
    go : (b : Bool) → length (picked (t / 2) l) ≤ length l → length (if b then x ∷ picked (t / 2) l otherwise picked (t / 2) l) ≤ suc (length l)
    go true h = omega arith
    go false h = omega arith

-- a place of a level f that has it no more
module _ (j : Steps.Job) (f : Level) (ok : LevelOk j f) where
  -- what a step at a place keeps
  record Keeps (x : Place) (s : Step) : Type 0 where
    gives : Steps.step_rest j s ≡ Steps.place_list j f x ++ Steps.level_rest j f
    stays : StepOk j f s
    falls : step_cost s < 1 + most_steps (Steps.below f) + level_cost f

  at_data : (n v : ℕ) → Steps.wanted j f.prefix f.left f.right f.above (data_place n v) ≡ true → Keeps (data_place n v) (Steps.step_at j f (data_place n v))
  at_data n v h =
      let q = deeper f.prefix n v in
      let e = Steps.emit_of j.op q (value_in j.left.pool j.left.root f.left n v q) (value_in j.right.pool j.right.root f.right n v q)
      (Steps.cover_bits j.left f.left f.prefix f.above.left n v) (Steps.cover_bits j.right f.right f.prefix f.above.right n v) in
      record {
        gives = given_rest j e f ∙ ap (◌++ Steps.level_rest j f) (sym (data_place_lem j f ok n v h));
        stays = given_ok j e f ok;
        falls = rw (given_cost e f) (omega arith);
      }

  last_child : (c : ℕ) → 60 ≤ f.prefix.len → Steps.place_list j f (child_place c) ≡ []
  last_child c l =
      rw ((side_fits j.left.pool j.left.root (Steps.below f) f.left f.prefix ok.depth).child_none l c, (side_fits j.right.pool j.right.root (Steps.below f) f.right f.prefix ok.depth).child_none l c)

  skip : (c : ℕ) → Steps.place_list j f (child_place c) ≡ [] → Keeps (child_place c) (step.Skip f)
  skip c e = record { gives = ap (◌++ Steps.level_rest j f) (sym e); stays = (ok, refl); falls = omega arith }

  down : (c : ℕ) (deep : f.prefix.len < 60) (h : Free j.op (Steps.is_cover (Steps.cover_bits j.right f.right f.prefix f.above.right 5 c)))
      → Keeps (child_place c) (step.Down f (g j f ok c deep h))
  down c deep h =
      record {
        gives = ap (◌++ Steps.level_rest j f) (sym (child_rest j f ok c deep h));
        stays = (ok, refl, child_ok j f ok c deep h, refl);
        falls = cost (Steps.below f) ((60 - (deeper f.prefix 5 c).len) / 5) (length (picked (g j f ok c deep h).todo places)) (lv_suc j f ok c deep h) (picked_most (g j f ok c deep h).todo places);
      }
    where
      cost : (lv m n : ℕ) → lv ≡ suc m → n ≤ length places → 1 + n * (1 + most_steps m) + level_cost f < 1 + most_steps lv + level_cost f
      cost lv m n e l =
          let k : n ≤ 63 = omega (arith, places_length) in
          let t : n * (1 + most_steps m) ≤ 63 * (1 + most_steps m) = mul-le-mul_right (1 + most_steps m) k in
          rw e (omega arith)

  at_child : (c : ℕ) → Steps.wanted j f.prefix f.left f.right f.above (child_place c) ≡ true → Keeps (child_place c) (Steps.step_at j f (child_place c))
  at_child c h =
      split (leb 60 f.prefix.len) (λ t. rw t (skip c (last_child c (leb-true _ _ t))))
      (λ t. rw t (choose _ _ refl refl (leb-false _ _ t)))
    where
      choose : (l r : Node) → child_in j.left.pool j.left.root f.left c (deeper f.prefix 5 c) ≡ l
          → child_in j.right.pool j.right.root f.right c (deeper f.prefix 5 c) ≡ r → f.prefix.len < 60
          → Keeps (child_place c) (Steps.down_to j f (deeper f.prefix 5 c) l r (Steps.carried j.op (Steps.covers_at j f 5 c)))
      choose None None a b d = skip c (child_none j f ok c d (free j f ok (child_place c) h) a b)
      choose None (Some m) a b d = rw (← a, ← b) (down c d (free j f ok (child_place c) h))
      choose (Some k) r a b d = rw (← a, ← b) (down c d (free j f ok (child_place c) h))

-- what a step keeps: what there is to give, levels as they should be, and fewer steps to come
pub record StepKeeps (j : Steps.Job) (f : Level) (s : Step) : Type 0 where
  pub rest : Steps.level_rest j f ≡ Steps.step_rest j s
  pub stays_ok : StepOk j f s
  pub fewer : step_cost s < level_cost f

module _ (j : Steps.Job) (f : Level) (ok : LevelOk j f) where
  abbrev z : ℕ
  z = count_trailing_zeros 64 f.todo

  abbrev without : Level
  without = Steps.without f (2 ^ z)

  next_place : 0 < f.todo → Lowest 64 f.todo places (child_place 0)
  next_place h = lowest 64 f.todo places (child_place 0) h (rw places_length ok.small) (rw places_length (omega arith))

  -- the place is wanted, and the others are those that were
  head_tail : {x : Place} {xs : List Place} → picked f.todo places ≡ x ∷ xs → All (λ y. Steps.wanted j f.prefix f.left f.right f.above y ≡ true) (x ∷ xs)
  head_tail e = subst (All (λ y. Steps.wanted j f.prefix f.left f.right f.above y ≡ true)) e ok.wants_all

  without_ok : (h : 0 < f.todo) → LevelOk j without
  without_ok h =
      record {
        whole = ok.whole;
        depth = ok.depth;
        short_left = ok.short_left;
        short_right = ok.short_right;
        carries = ok.carries;
        small = let k = ok.small in omega arith;
        wants_all = tail_of (head_tail (next_place h).picks_first);
      }
    where
      tail_of : {x : Place} {xs : List Place} → All (λ y. Steps.wanted j f.prefix f.left f.right f.above y ≡ true) (x ∷ xs) → All (λ y. Steps.wanted j f.prefix f.left f.right f.above y ≡ true) xs
      tail_of (more a b) = b

  head_of_lem : {x : Place} {xs : List Place} → All (λ y. Steps.wanted j f.prefix f.left f.right f.above y ≡ true) (x ∷ xs) → Steps.wanted j f.prefix f.left f.right f.above x ≡ true
  head_of_lem (more a b) = a

  at_place : (h : 0 < f.todo) (x : Place) → Steps.wanted j f.prefix f.left f.right f.above x ≡ true → Keeps j without (without_ok h) x (Steps.step_at j without x)
  at_place h (data_place n v) k = at_data j without (without_ok h) n v k
  at_place h (child_place c) k = at_child j without (without_ok h) c k

  same_prefix : (g : Level) (s : Step) → g.prefix ≡ f.prefix → StepOk j g s → StepOk j f s
  same_prefix g step.Up e k = k
  same_prefix g (step.Skip x) e k = (k.0, k.1 ∙ e)
  same_prefix g (step.Record i x) e k = (k.0, k.1 ∙ e)
  same_prefix g (step.Down x y) e k = (k.0, k.1 ∙ e, k.2, k.3 ∙ ap (λ (p : Prefix). p.len + 5) e)

  -- a step keeps what it should
  pub step_keeps : StepKeeps j f (Steps.step_of j f)
  step_keeps =
      split (eqb f.todo 0)
      (λ t.
      let e : f.todo ≡ 0 = eqb-true _ _ t in
      rw t (record { rest = ap (λ (n : ℕ). each (Steps.place_list j f) (picked n places)) e ∙ ap (each (Steps.place_list j f)) (picked_none places); stays_ok = tt; fewer = omega arith }))
      (λ t.
      let n : f.todo ≡ 0 → ⊥ = eqb-false f.todo 0 t in
      let h : 0 < f.todo = omega arith in
      let x = Steps.place_of f.todo in
      let first = (next_place h).picks_first in
      let k = at_place h x (head_of_lem (head_tail first)) in
      rw t
      (record {
        rest = ap (each (Steps.place_list j f)) first ∙ sym k.gives;
        stays_ok = same_prefix without (Steps.step_at j without x) refl k.stays;
        fewer = fall (Steps.step_at j without x) (ap length first) k.falls;
      }))
    where
      fall : (s : Step) → length (picked f.todo places) ≡ suc (length (picked (f.todo - 2 ^ z) places)) → step_cost s < 1 + most_steps (Steps.below f) + level_cost without → step_cost s < level_cost f
      fall s e l =
          let m = most_steps (Steps.below f) in
          omega (arith, ap (◌* (1 + m)) e, suc-mul (length (picked (f.todo - 2 ^ z) places)) (1 + m))
