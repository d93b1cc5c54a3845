-- The loop that counts and writes: its invariant, and what a turn does to it.
use Rattle.std.specs.Prelude.{◌≡◌, refl, Bool, true, false, List, [], ◌∷◌, ◌++◌, ℕ, ◌+◌, ◌*◌, ◌-◌, ◌^◌, ◌≤◌, ◌<◌, eqb, leb, length, reverse, take, drop, get_or, set, None, Some}
use Rattle.std.proofs.Common.{sym, ◌∙◌, ap, subst, arith, length-append, leb-false}
use Rattle.std.specs.Int.Count.{count_trailing_zeros}
use Rattle.std.proofs.lemmas.Bool.{eqb-false}
use Rattle.std.proofs.lemmas.List.{reverse-append, length-reverse, length-take-le, take_more, take_more_set, length-set}
use Rattle.std.proofs.lemmas.Grind.{take-set_at}
use borrow.Rule.Slice.PartMut.{put_mid, mid_of, put_same}
use Rattle.defs.specs.declared.Prefix.{Prefix}
use Rattle.defs.specs.Prefix.{deeper}
use Rattle.defs.specs.Entries.{Place, data_place, child_place, places}
use Rattle.defs.specs.Lists.{Record, record_words}
use Rattle.defs.specs.Lemmas.{split}
use Rattle.defs.proofs.DeeperLaws.{whole_deeper}
use Rattle.theory.specs.declared.Covers.{Covers}
use Rattle.theory.specs.declared.Item.{Item}
use Rattle.theory.specs.declared.Level.{Level}
use Rattle.theory.specs.declared.Step.{Step}
use Rattle.theory.specs.declared.Step.TheVariants as step
use Rattle.theory.specs.Sides.{child_in}
use Rattle.theory.specs.Steps.{Job, item_record, carried, covers_at, emit_at, given, down_to, step_at, step_of, place_of, without, level_rest}
use Rattle.theory.specs.Todo.{lowest}
use Rattle.theory.specs.Unwanted.{InNode}
use Rattle.theory.specs.Walk.{LevelOk, places_length}
use Rattle.theory.specs.Stack.{given_after, stack_after, Leaves, stack_cost}
use Rattle.theory.specs.Loop.{records_words, Walking, roomy, begin, turn, fewer, within, finished, Written, nothing_written, written_more}
use Rattle.rules.specs.Records.{moved, front_of}
use Rattle.view.specs.Standing.{child_in_lem}
use Rattle.view.specs.Numbers.{place_inside}
use Rattle.walk.specs.Ready.{Entering, Ready}
use Rattle.theory.specs.Kinds.{Emit, Node}

-- a buffer with the words of records at its front, and otherwise as it was
abbrev pub written_over : List Record → List ℕ → List ℕ
written_over rs old = records_words rs ++ drop (record_words * length rs) old

-- what code needs of a level
abbrev pub Safe : Job → Level → Type 0
Safe j f = Entering j f.prefix f.left f.right

-- ---- each step keeps it
module _ (j : Job) (f : Level) (ok : LevelOk j f) (safe : Safe j f) where
  leaves_given : (e : Emit) (t : ℕ) → Leaves (Safe j) (given e (without f t))
  leaves_given None t = safe
  leaves_given (Some i) t = safe

  module _ (c : ℕ) (small : c < 32) (deep : f.prefix.len < 60) where
    abbrev q : Prefix
    q = deeper f.prefix 5 c

    child_safe : Entering j q (child_in j.left.pool j.left.root f.left c q) (child_in j.right.pool j.right.root f.right c q)
    child_safe =
        record {
          sane_left = safe.sane_left;
          sane_right = safe.sane_right;
          in_left = child_in_lem j.left.pool safe.sane_left j.left.root f.left c q small safe.in_left;
          in_right = child_in_lem j.right.pool safe.sane_right j.right.root f.right c q small safe.in_right;
          whole = whole_deeper f.prefix safe.whole 5 (omega arith) c;
          short = let m = safe.fives in omega arith;
          fives = let m = safe.fives in omega arith;
        }

    leaves_down : (t : ℕ) (l r : Node) (above : Covers) → Entering j q l r → Leaves (Safe j) (down_to j (without f t) q l r above)
    leaves_down t None None above h = safe
    leaves_down t None (Some b) above h = (safe, h)
    leaves_down t (Some a) r above h = (safe, h)

  leaves_at : (t : ℕ) (x : Place) → InNode x → Leaves (Safe j) (step_at j (without f t) x)
  leaves_at t (data_place n v) i = leaves_given (emit_at j (without f t) n v) t
  leaves_at t (child_place c) i =
      split (leb 60 f.prefix.len) (λ b. rw b safe)
      (λ b. rw b (leaves_down c i (leb-false _ _ b) t _ _ (carried j.op (covers_at j (without f t) 5 c)) (child_safe c i (leb-false _ _ b))))

  pub safe_leaves : Leaves (Safe j) (step_of j f)
  safe_leaves =
      split (eqb f.todo 0) (λ b. rw b tt)
      (λ b.
      let n : f.todo ≡ 0 → ⊥ = eqb-false f.todo 0 b in
      let low = lowest 64 f.todo places (child_place 0) (omega arith) (rw places_length ok.small) (rw places_length (omega arith)) in
      let z : count_trailing_zeros 64 f.todo < 63 = (let i = low.inside in omega (arith, places_length)) in
      rw b (leaves_at (2 ^ count_trailing_zeros 64 f.todo) (place_of f.todo) (place_inside (count_trailing_zeros 64 f.todo) z)))

-- ---- what the loop keeps beside the stack: how many records are given, and those that are written stand in the output

-- the records that stand in the output: all that are given, or none
abbrev pub shown : Bool → List Record → List Record
shown true done = done
shown false done = []

-- there is room for what is written
abbrev pub Room : Bool → List Record → List ℕ → Type 0
Room writes rs out = record_words * length (shown writes rs) ≤ length out

-- a buffer with the records in it, where they are written
abbrev pub kept_or_written : Bool → List Record → List ℕ → List ℕ
kept_or_written writes rs old = written_over (shown writes rs) old

-- `count` records are given, and `at` is where the next one goes
pub record Placed (writes : Bool) (old out : List ℕ) (at count : ℕ) (done : List Record) : Type 0 where
  pub counted : count ≡ length done
  pub written : Written old out (shown writes done)
  pub next : at ≡ record_words * length (shown writes done)

pub placed_none : (writes : Bool) (old : List ℕ) → Placed writes old old 0 0 []
placed_none true old = record { counted = refl; written = nothing_written old; next = refl }
placed_none false old = record { counted = refl; written = nothing_written old; next = refl }

-- where all are given, their number and the buffer are those of the whole list
pub placed_all : (writes : Bool) (old out : List ℕ) (at count : ℕ) (whole : List Record) → Placed writes old out at count whole
    → (count ≡ length whole) × (out ≡ kept_or_written writes whole old)
placed_all writes old out at count whole p = (p.counted, p.written.front)

-- where the next record goes there is room for what is written of it
pub placed_room : (writes : Bool) (old out : List ℕ) (at count : ℕ) (done whole : List Record) → Placed writes old out at count done → length done + 1 ≤ length whole
    → Room writes whole old → at + moved writes ≤ length out
placed_room true old out at count done whole p h l = let a = p.next in let b = p.written.same in omega arith
placed_room false old out at count done whole p h l = let a = p.next in omega arith

-- one more record is given, and goes in where it is written
pub placed_more : (writes : Bool) (old out : List ℕ) (at count : ℕ) (done whole : List Record) (r : Record) (part : List ℕ) (step : ℕ)
    → Placed writes old out at count done → length done + 1 ≤ length whole → Room writes whole old
    → part ≡ front_of writes r (mid_of at (length out - at) out) → step ≡ moved writes
    → Placed writes old (put_mid at (length out - at) out part) (at + step) (count + 1) (done ++ (r ∷ []))
placed_more true old out at count done whole r part step p h l e s =
    record {
      counted = let a = p.counted in omega (arith, length-append done (r ∷ []));
      written = written_more old out done r at part p.written p.next (omega arith) e;
      next = let a = p.next in omega (arith, length-append done (r ∷ []));
    }
placed_more false old out at count done whole r part step p h l e s =
    record {
      counted = let a = p.counted in omega (arith, length-append done (r ∷ []));
      written = subst (λ (x : List ℕ). Written old x []) (sym (ap (put_mid at (length out - at) out) e ∙ put_same at (length out - at) out)) p.written;
      next = let a = p.next in omega arith;
    }

-- ---- the loop's state
abbrev pub Walks : Job → List Level → List Record → List Record → Type 0
Walks j = Walking j (Safe j) (safe_leaves j)

-- xs: the levels on the stack, the highest last
pub record Running (j : Job) (start : Level) (writes : Bool) (old : List ℕ) (xs : List Level) (out : List ℕ) (at count : ℕ) : Type 0 where
  pub done : List Record
  pub walks : Walks j (reverse xs) done (level_rest j start)
  pub placed : Placed writes old out at count done

-- the steps that may still follow
abbrev pub steps_left : List Level → ℕ
steps_left xs = stack_cost (reverse xs)

pub run_start : {j : Job} {start : Level} → Ready j start → (writes : Bool) (old : List ℕ) → Running j start writes old (start ∷ []) old 0 0
run_start {j} {start} r writes old = record { done = []; walks = begin j (Safe j) (safe_leaves j) start r.ok r.at; placed = placed_none writes old }

-- what is pushed last comes first, seen from above
pushed : (xs ys : List Level) (f : Level) → xs ≡ ys ++ f ∷ [] → reverse xs ≡ f ∷ reverse ys
pushed xs ys f e = ap reverse e ∙ reverse-append ys (f ∷ [])

-- a turn: the level f is popped, and those in ys stay
module _ {j : Job} {start : Level} {writes : Bool} {old : List ℕ} {xs : List Level} {out : List ℕ} {at count : ℕ} (ys : List Level) (f : Level)
    (r : Running j start writes old xs out at count) (top : xs ≡ ys ++ f ∷ []) where
  walks_top : Walks j (f ∷ reverse ys) r.done (level_rest j start)
  walks_top = subst (λ (ls : List Level). Walks j ls r.done (level_rest j start)) (pushed xs ys f top) r.walks

  module _ (s : Step) (is : s ≡ step_of j f) (zs : List Level) (after : reverse zs ≡ stack_after s (reverse ys)) where
    turned : Walks j (reverse zs) (given_after s r.done) (level_rest j start)
    turned = rw after (turn j (Safe j) (safe_leaves j) f (reverse ys) r.done (level_rest j start) walks_top s is)

    less : steps_left zs < steps_left xs
    less = rw (after, pushed xs ys f top) (fewer j (Safe j) (safe_leaves j) f (reverse ys) r.done (level_rest j start) walks_top s is)

  module _ {s : Step} (is : s ≡ step_of j f) where
    pub run_up : s ≡ step.Up → Running j start writes old ys out at count
    run_up e = record { done = r.done; walks = turned step.Up (sym e ∙ is) ys refl; placed = r.placed }

    module _ {g : Level} (e : s ≡ step.Skip g) {zs : List Level} (z : zs ≡ ys ++ g ∷ []) where
      pub run_skip : Running j start writes old zs out at count
      run_skip = record { done = r.done; walks = turned (step.Skip g) (sym e ∙ is) zs (pushed zs ys g z); placed = r.placed }

      pub fewer_skip : steps_left zs < steps_left xs
      fewer_skip = less (step.Skip g) (sym e ∙ is) zs (pushed zs ys g z)

    module _ {i : Item} {g : Level} (e : s ≡ step.Record i g) {zs : List Level} (z : zs ≡ ys ++ g ∷ []) where
      walks_more : Walks j (reverse zs) (r.done ++ (item_record i ∷ [])) (level_rest j start)
      walks_more = turned (step.Record i g) (sym e ∙ is) zs (pushed zs ys g z)

      -- there is a record to come
      pub run_more : length r.done + 1 ≤ length (level_rest j start)
      run_more = omega (arith, within j (Safe j) (safe_leaves j) (reverse zs) (r.done ++ (item_record i ∷ [])) (level_rest j start) walks_more, length-append r.done (item_record i ∷ []))

      -- and room for it
      pub run_space : Room writes (level_rest j start) old → at + moved writes ≤ length out
      run_space h = placed_room writes old out at count r.done (level_rest j start) r.placed run_more h

      pub run_record : Room writes (level_rest j start) old → {part : List ℕ} {n : ℕ} → part ≡ front_of writes (item_record i) (mid_of at (length out - at) out) → n ≡ moved writes
          → Running j start writes old zs (put_mid at (length out - at) out part) (at + n) (count + 1)
      run_record h {part} {n} p m =
          record {
            done = r.done ++ (item_record i ∷ []);
            walks = walks_more;
            placed = placed_more writes old out at count r.done (level_rest j start) (item_record i) part n r.placed run_more h p m;
          }

      pub fewer_record : steps_left zs < steps_left xs
      fewer_record = less (step.Record i g) (sym e ∙ is) zs (pushed zs ys g z)

    module _ {g h : Level} (e : s ≡ step.Down g h) {zs : List Level} (z : zs ≡ ys ++ g ∷ []) where
      -- the stack has room for the level below
      pub room_below : length zs < 13
      room_below =
          let w = turn j (Safe j) (safe_leaves j) f (reverse ys) r.done (level_rest j start) walks_top (step.Down g h) (sym e ∙ is) in
          omega (arith, roomy j (Safe j) (safe_leaves j) h (g ∷ reverse ys) r.done (level_rest j start) w, ap length (pushed zs ys g z), length-reverse zs)

      module _ {vs : List Level} (v : vs ≡ zs ++ h ∷ []) where
        two : reverse vs ≡ h ∷ g ∷ reverse ys
        two = pushed vs zs h v ∙ ap (h ∷◌) (pushed zs ys g z)

        pub run_down : Running j start writes old vs out at count
        run_down = record { done = r.done; walks = turned (step.Down g h) (sym e ∙ is) vs two; placed = r.placed }

        pub fewer_down : steps_left vs < steps_left xs
        fewer_down = less (step.Down g h) (sym e ∙ is) vs two

-- ---- the stack as an array: of its 13 levels the first `height` are on the stack, the highest last
pub record Stacked (j : Job) (start : Level) (writes : Bool) (old : List ℕ) (stack : List Level) (height : ℕ) (out : List ℕ) (at count : ℕ) : Type 0 where
  pub size : length stack ≡ 13
  pub low : height ≤ 13
  pub runs : Running j start writes old (take height stack) out at count

-- with no level left, all is given
pub ended : {j : Job} {start : Level} {writes : Bool} {old : List ℕ} {stack : List Level} {height : ℕ} {out : List ℕ} {at count : ℕ}
    → Stacked j start writes old stack height out at count → height ≡ 0
    → (count ≡ length (level_rest j start)) × (out ≡ kept_or_written writes (level_rest j start) old)
ended {j} {start} {writes} {old} {stack} r e =
    let w = subst (λ (n : ℕ). Walks j (reverse (take n stack)) r.runs.done (level_rest j start)) e r.runs.walks in
    let d = finished j (Safe j) (safe_leaves j) r.runs.done (level_rest j start) w in
    (r.runs.placed.counted ∙ ap length d, r.runs.placed.written.front ∙ ap (λ (rs : List Record). kept_or_written writes rs old) d)

-- a turn: the level at `height - 1` is the highest
module _ {j : Job} {start : Level} {writes : Bool} {old : List ℕ} {stack : List Level} {height : ℕ} {out : List ℕ} {at count : ℕ}
    (r : Stacked j start writes old stack height out at count) (some : 0 < height) (d : Level) where
  abbrev highest : Level
  highest = get_or stack (height - 1) d

  abbrev others : List Level
  others = take (height - 1) stack

  inside : height - 1 < length stack
  inside = omega (arith, r.low, r.size)

  on_others : take height stack ≡ others ++ highest ∷ []
  on_others =
      let e : height - 1 + 1 ≡ height = omega arith in
      subst (λ (n : ℕ). take n stack ≡ others ++ highest ∷ []) e (take_more stack (height - 1) d inside)

  -- another level in its place
  replaced : (g : Level) → take height (set stack (height - 1) g) ≡ others ++ g ∷ []
  replaced g = take-set_at stack (height - 1) height g (omega arith) inside

  same_size : (g : Level) → length (set stack (height - 1) g) ≡ 13
  same_size g = length-set stack (height - 1) g ∙ r.size

  pub highest_ready : Ready j highest
  highest_ready = let w = walks_top others highest r.runs on_others in record { at = w.levels.0.safe; ok = w.levels.0.ok }

  module _ {s : Step} (is : s ≡ step_of j highest) where
    module _ (e : s ≡ step.Up) where
      pub up_stays : Stacked j start writes old stack (height - 1) out at count
      up_stays = record { size = r.size; low = omega (arith, r.low); runs = run_up others highest r.runs on_others is e }

      pub up_fewer : steps_left others < steps_left (take height stack)
      up_fewer = less others highest r.runs on_others step.Up (sym e ∙ is) others refl

    module _ {g : Level} (e : s ≡ step.Skip g) where
      pub skip_stays : Stacked j start writes old (set stack (height - 1) g) height out at count
      skip_stays = record { size = same_size g; low = r.low; runs = run_skip others highest r.runs on_others is e (replaced g) }

      pub skip_fewer : steps_left (take height (set stack (height - 1) g)) < steps_left (take height stack)
      skip_fewer = fewer_skip others highest r.runs on_others is e (replaced g)

    module _ {i : Item} {g : Level} (e : s ≡ step.Record i g) where
      pub record_more : length r.runs.done + 1 ≤ length (level_rest j start)
      record_more = run_more others highest r.runs on_others is e (replaced g)

      pub record_space : Room writes (level_rest j start) old → at + moved writes ≤ length out
      record_space = run_space others highest r.runs on_others is e (replaced g)

      pub record_stays : Room writes (level_rest j start) old → {part : List ℕ} {n : ℕ} → part ≡ front_of writes (item_record i) (mid_of at (length out - at) out) → n ≡ moved writes
          → Stacked j start writes old (set stack (height - 1) g) height (put_mid at (length out - at) out part) (at + n) (count + 1)
      record_stays h p m = record { size = same_size g; low = r.low; runs = run_record others highest r.runs on_others is e (replaced g) h p m }

      pub record_fewer : steps_left (take height (set stack (height - 1) g)) < steps_left (take height stack)
      record_fewer = fewer_record others highest r.runs on_others is e (replaced g)

    module _ {g b : Level} (e : s ≡ step.Down g b) where
      -- the array has room for the level below
      pub down_room : height < 13
      down_room =
          let a = room_below others highest r.runs on_others is e (replaced g) in
          let b = length-take-le height (set stack (height - 1) g) (omega (arith, same_size g, r.low)) in
          omega (arith, a, b)

      two_levels : take (height + 1) (set (set stack (height - 1) g) height b) ≡ take height (set stack (height - 1) g) ++ b ∷ []
      two_levels = take_more_set (set stack (height - 1) g) height b (omega (arith, down_room, same_size g))

      pub down_stays : Stacked j start writes old (set (set stack (height - 1) g) height b) (height + 1) out at count
      down_stays =
          record {
            size = length-set (set stack (height - 1) g) height b ∙ same_size g;
            low = omega (arith, down_room);
            runs = run_down others highest r.runs on_others is e (replaced g) two_levels;
          }

      pub down_fewer : steps_left (take (height + 1) (set (set stack (height - 1) g) height b)) < steps_left (take height stack)
      down_fewer = fewer_down others highest r.runs on_others is e (replaced g) two_levels
