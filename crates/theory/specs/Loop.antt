-- The loops over the walk's stack: one invariant and one turn for counting and for writing.
use Rattle.std.specs.Prelude.{◌≡◌, refl, List, [], ◌∷◌, ◌++◌, ℕ, ◌+◌, ◌*◌, ◌-◌, ◌≤◌, ◌<◌, length, take, drop}
use Rattle.std.proofs.Common.{sym, ◌∙◌, ap, ap₂, subst, append_assoc, append-nil, arith, length-append, length-drop, drop_of_length-le, take_at, drop_at, take_all, drop-drop}
use borrow.Rule.Slice.PartMut.{put_mid, mid_of, post_of}
use Rattle.defs.specs.Basics.{each}
use Rattle.defs.specs.Lists.{Record, words_of, record_words}
use Rattle.defs.specs.Lemmas.{each_append}
use Rattle.theory.specs.declared.Level.{Level}
use Rattle.theory.specs.declared.Step.{Step}
use Rattle.theory.specs.declared.Step.TheVariants as step
use Rattle.theory.specs.Steps
use Rattle.theory.specs.Walk.{LevelOk, StepOk, StepKeeps, step_keeps}
use Rattle.theory.specs.Stack.{given_after, stack_after, Leaves, stack_rest, stack_cost, after_rest, after_cost}

-- Safe: what code needs of a level; each step keeps it.
module _ (j : Steps.Job) (Safe : Level → Type 0) (safe-step : (f : Level) → LevelOk j f → Safe f → Leaves Safe (Steps.step_of j f)) where
  -- what holds of a level that stands on i others
  pub record Standing (i : ℕ) (f : Level) : Type 0 where
    pub ok : LevelOk j f
    pub safe : Safe f
    pub low : 5 * i ≤ f.prefix.len

  -- it holds of each level of a stack
  abbrev pub Stands : List Level → Type 0
  Stands [] = Unit {0}
  Stands (f ∷ ls) = Standing (length ls) f × Stands ls

  leave : (f : Level) (ls : List Level) → Standing (length ls) f → Stands ls → (s : Step) → StepOk j f s → Leaves Safe s → Stands (stack_after s ls)
  leave f ls h below step.Up o l = below
  leave f ls h below (step.Skip g) o l = (record { ok = o.0; safe = l; low = rw o.1 h.low }, below)
  leave f ls h below (step.Record i g) o l = (record { ok = o.0; safe = l; low = rw o.1 h.low }, below)
  leave f ls h below (step.Down g e) o l = (
    record { ok = o.2; safe = l.1; low = let b = h.low in let c = o.3 in omega arith },
    (record { ok = o.0; safe = l.0; low = rw o.1 h.low }, below),
  )

  -- `done` of the whole list is given, and the stack has the rest
  pub record Walking (ls : List Level) (done whole : List Record) : Type 0 where
    pub levels : Stands ls
    pub all : done ++ stack_rest j ls ≡ whole

  pub begin : (f : Level) → LevelOk j f → Safe f → Walking (f ∷ []) [] (Steps.level_rest j f)
  begin f o s = record { levels = (record { ok = o; safe = s; low = omega arith }, tt); all = append-nil (Steps.level_rest j f) }

  -- 13 levels are enough
  pub roomy : (f : Level) (ls : List Level) (done whole : List Record) → Walking (f ∷ ls) done whole → length ls < 13
  roomy f ls done whole w = let b = w.levels.0.low in let d = w.levels.0.ok.depth in omega arith

  -- a turn: the step at the highest level
  module _ (f : Level) (ls : List Level) (done whole : List Record) (w : Walking (f ∷ ls) done whole) (s : Step) (is : s ≡ Steps.step_of j f) where
    keeps : StepKeeps j f s
    keeps = subst (StepKeeps j f) (sym is) (step_keeps j f w.levels.0.ok)

    pub turn : Walking (stack_after s ls) (given_after s done) whole
    turn =
        record {
          levels = leave f ls w.levels.0 w.levels.1 s keeps.stays_ok (subst (Leaves Safe) (sym is) (safe-step f w.levels.0.ok w.levels.0.safe));
          all = after_rest j f ls done s keeps.rest ∙ w.all;
        }

    pub fewer : stack_cost (stack_after s ls) < stack_cost (f ∷ ls)
    fewer = after_cost f ls s keeps.fewer

  -- what is given does not outgrow the whole
  pub within : (ls : List Level) (done whole : List Record) → Walking ls done whole → length done ≤ length whole
  within ls done whole w = omega (arith, length-append done (stack_rest j ls), ap length w.all)

  pub finished : (done whole : List Record) → Walking [] done whole → done ≡ whole
  finished done whole w = sym (append-nil done) ∙ w.all

-- ---- records as words

abbrev pub records_words : List Record → List ℕ
records_words = each words_of

pub words_length : (rs : List Record) → length (records_words rs) ≡ record_words * length rs
words_length [] = refl
words_length (r ∷ rs) = let h = words_length rs in omega arith

-- the words of `done` are at the front of the buffer, and the rest is as it was
pub record Written (old now : List ℕ) (done : List Record) : Type 0 where
  pub front : now ≡ records_words done ++ drop (record_words * length done) old
  pub same : length now ≡ length old

pub nothing_written : (old : List ℕ) → Written old old []
nothing_written old = record { front = refl; same = refl }

-- one more record goes in after those that are written; n is where it goes
pub written_more : (old now : List ℕ) (done : List Record) (r : Record) (n : ℕ) (part : List ℕ) → Written old now done → n ≡ record_words * length done
    → record_words * (length done + 1) ≤ length old → part ≡ words_of r ++ drop record_words (mid_of n (length now - n) now)
    → Written old (put_mid n (length now - n) now part) (done ++ (r ∷ []))
written_more old now done r n part w e h p =
    let same = w.same in
    let c = words_length done in
    let front : take n now ≡ records_words done = ap (take n) w.front ∙ take_at (records_words done) _ n (omega arith) in
    let back : drop n now ≡ drop n old = ap (drop n) w.front ∙ drop_at (records_words done) _ n (omega arith) ∙ ap (λ (m : ℕ). drop m old) (sym e) in
    let mid : mid_of n (length now - n) now ≡ drop n old = take_all (length now - n) (drop n now) (rw length-drop (omega arith)) ∙ back in
    let post : post_of n (length now - n) now ≡ [] = drop_of_length-le (drop n now) {i = length now - n} (rw length-drop (omega arith)) in
    let more : length (done ++ (r ∷ [])) ≡ length done + 1 = length-append done (r ∷ []) in
    let m : n + 6 ≡ record_words * length (done ++ (r ∷ [])) = omega arith in
    let next : drop 6 (drop n old) ≡ drop (record_words * length (done ++ (r ∷ []))) old = drop-drop 6 n old ∙ ap (λ (x : ℕ). drop x old) m in
    let words : part ≡ words_of r ++ drop (record_words * length (done ++ (r ∷ []))) old = p ∙ ap (λ (l : List ℕ). words_of r ++ drop 6 l) mid ∙ ap (words_of r ++◌) next in
    let all : records_words (done ++ (r ∷ [])) ≡ records_words done ++ words_of r = each_append words_of done (r ∷ []) ∙ ap (records_words done ++◌) (append-nil (words_of r)) in
    let joined : put_mid n (length now - n) now part ≡ records_words (done ++ (r ∷ [])) ++ drop (record_words * length (done ++ (r ∷ []))) old =
    ap₂ (λ (a b : List ℕ). a ++ b) front (ap₂ (λ (a b : List ℕ). a ++ b) words post ∙ append-nil _) ∙ sym (append_assoc (records_words done) (words_of r) _) ∙ ap (◌++ drop (record_words * length (done ++ (r ∷ []))) old) (sym all) in
    record { front = joined; same = ap length joined ∙ length-append (records_words (done ++ (r ∷ []))) _ ∙ (let q = words_length (done ++ (r ∷ [])) in omega (arith, length-drop (record_words * length (done ++ (r ∷ []))) old)) }
