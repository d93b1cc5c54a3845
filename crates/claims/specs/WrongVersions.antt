-- Whole wrong versions of the calls meet no contract: each differs from the outcome defined at a small input. Inputs are those that fit the code's types.
use Rattle.std.specs.Prelude.{◌≡◌, List, ◌++◌, ℕ, ◌/◌, ◌<◌, length, get_or, take, drop}
use Rattle.std.proofs.Common.{sym, ◌∙◌, ap, arith}
use Rattle.defs.specs.declared.Answer.{Answer}
use Rattle.defs.specs.declared.Operation.{Operation}
use Rattle.defs.specs.Outcome.{Listed, Tidied, answer, list_outcome}
use Rattle.claims.specs.Inputs.{ListInput, EqualInput, TidyInput, CheckInput, list_at, equal_at, tidy_at, check_at}
use Rattle.claims.specs.Shown.{empty, room, shown, shown_length, one_record, gives_one, no_record, gives_none, all_differ, which, tells_list, straight, teller, tells_sides}
use Rattle.claims.specs.Shown.{alike, unlike, other_words, gives_yes, gives_no, gives_yes_still, good_pool, no_words, gives_good, gives_fault}
use Rattle.claims.specs.Shown.{tidy_one, tidy_loose, tidy_two, tidy_upper, gives_itself, gives_less, gives_two, gives_upper}

-- ---- The five lists: `call` is any version of list `op` that meets its contract.
module _ (op : Operation) (call : ListInput → Listed) (meets : (i : ListInput) → call i ≡ list_at op i) where
  -- what it gives at the input with one record
  at_one : call (one_record op) ≡ record { answer = answer 0 1 0; output = shown op }
  at_one = meets (one_record op) ∙ gives_one op

  -- what it gives at the input without records
  at_none : call no_record ≡ record { answer = answer 0 0 0; output = room }
  at_none = meets no_record ∙ gives_none op

  -- It does not always refuse.
  pub list_not_always_refused : ((i : ListInput) → 0 < (call i).answer.number) → ⊥
  list_not_always_refused h = omega (arith, h (one_record op), ap (λ (o : Listed). o.answer.number) at_one)

  -- It does not always answer the empty list.
  pub list_not_always_empty : ((i : ListInput) → (call i).answer.number ≡ 0 → (call i).answer.beside ≡ 0) → ⊥
  list_not_always_empty h =
      omega (arith, h (one_record op) (ap (λ (o : Listed). o.answer.number) at_one), ap (λ (o : Listed). o.answer.beside) at_one)

  -- It does not always leave its output as it was.
  pub list_not_always_silent : ((i : ListInput) → (call i).output ≡ i.out) → ⊥
  list_not_always_silent h =
      let e : shown op ≡ room = sym (ap (λ (o : Listed). o.output) at_one) ∙ h (one_record op) in
      omega (arith, shown_length op, ap (λ (x : List ℕ). get_or x 1 0) e)

  -- It does not answer a count that is always the same.
  pub list_count_not_fixed : (n : ℕ) → ((i : ListInput) → (call i).answer.number ≡ 0 → (call i).answer.beside ≡ n) → ⊥
  list_count_not_fixed n h =
      omega (
        arith,
        h (one_record op) (ap (λ (o : Listed). o.answer.number) at_one),
        ap (λ (o : Listed). o.answer.beside) at_one,
        h no_record (ap (λ (o : Listed). o.answer.number) at_none),
        ap (λ (o : Listed). o.answer.beside) at_none,
      )

  -- It does not answer the number of records that there is room for.
  pub list_count_not_room : ((i : ListInput) → (call i).answer.number ≡ 0 → (call i).answer.beside ≡ length i.out / 6) → ⊥
  list_count_not_room h =
      omega (arith, h no_record (ap (λ (o : Listed). o.answer.number) at_none), ap (λ (o : Listed). o.answer.beside) at_none)

  -- It does not take its left side for its right.
  pub list_not_swapped : ((i : ListInput) → call i ≡ list_outcome op i.width i.right i.left i.out) → ⊥
  list_not_swapped h = (tells_sides op).1 (ap (teller op) (sym (h straight) ∙ meets straight) ∙ (tells_sides op).0)

  -- It is no version of another list.
  pub list_no_other : (other : Operation) → ((i : ListInput) → call i ≡ list_at other i) → other ≡ op
  list_no_other other h = sym (tells_list other) ∙ ap which (sym (h all_differ) ∙ meets all_differ) ∙ tells_list op

-- ---- Key equality: `call` is any version that meets its contract.
module _ (call : EqualInput → Answer) (meets : (i : EqualInput) → call i ≡ equal_at i) where
  -- It does not always refuse.
  pub equal_not_always_refused : ((i : EqualInput) → 0 < (call i).number) → ⊥
  equal_not_always_refused h = omega (arith, h alike, ap (λ (a : Answer). a.number) (meets alike ∙ gives_yes))

  -- It does not always say yes.
  pub equal_not_always_yes : ((i : EqualInput) → (call i).number ≡ 0 → (call i).beside ≡ 1) → ⊥
  equal_not_always_yes h =
      let e = meets unlike ∙ gives_no in
      omega (arith, h unlike (ap (λ (a : Answer). a.number) e), ap (λ (a : Answer). a.beside) e)

  -- It does not always say no.
  pub equal_not_always_no : ((i : EqualInput) → (call i).number ≡ 0 → (call i).beside ≡ 0) → ⊥
  equal_not_always_no h =
      let e = meets alike ∙ gives_yes in
      omega (arith, h alike (ap (λ (a : Answer). a.number) e), ap (λ (a : Answer). a.beside) e)

  -- It does not say yes only where the pools' words are the same: one may have an empty node that the other lacks.
  pub equal_not_by_words : ((i : EqualInput) → (call i).beside ≡ 1 → i.left.pool ≡ i.right.pool) → ⊥
  equal_not_by_words h =
      omega (arith, ap (λ (w : List ℕ). get_or w 1 0) (h other_words (ap (λ (a : Answer). a.beside) (meets other_words ∙ gives_yes_still))))

-- ---- Tidying: `call` is any version that meets its contract.
module _ (call : TidyInput → Tidied) (meets : (i : TidyInput) → call i ≡ tidy_at i) where
  -- It does not always refuse.
  pub tidy_not_always_refused : ((i : TidyInput) → 0 < (call i).answer.number) → ⊥
  tidy_not_always_refused h = omega (arith, h tidy_one, ap (λ (o : Tidied). o.answer.number) (meets tidy_one ∙ gives_itself))

  -- It does not always write the empty pool.
  pub tidy_not_always_empty : ((i : TidyInput) → (call i).answer.number ≡ 0 → take 4 (call i).output ≡ empty) → ⊥
  tidy_not_always_empty h =
      let e = meets tidy_one ∙ gives_itself in
      let f = ap (λ (o : Tidied). take 4 o.output) (sym e) ∙ h tidy_one (ap (λ (o : Tidied). o.answer.number) e) in
      omega (arith, ap (λ (w : List ℕ). get_or w 0 0) f)

  -- It does not copy its input.
  pub tidy_not_copied : ((i : TidyInput) → (call i).answer.number ≡ 0 → (call i).output ≡ i.side.pool ++ drop (length i.side.pool) i.out) → ⊥
  tidy_not_copied h =
      let e = meets tidy_loose ∙ gives_less in
      let f = ap (λ (o : Tidied). o.output) (sym e) ∙ h tidy_loose (ap (λ (o : Tidied). o.answer.number) e) in
      omega (arith, ap (λ (w : List ℕ). get_or w 1 0) f)

  -- It does not always leave its output as it was.
  pub tidy_not_always_silent : ((i : TidyInput) → (call i).output ≡ i.out) → ⊥
  tidy_not_always_silent h =
      let f = ap (λ (o : Tidied). o.output) (sym (meets tidy_one ∙ gives_itself)) ∙ h tidy_one in
      omega (arith, ap (λ (w : List ℕ). get_or w 0 0) f)

  -- It does not answer a count that is always the same.
  pub tidy_count_not_fixed : (n : ℕ) → ((i : TidyInput) → (call i).answer.number ≡ 0 → (call i).answer.beside ≡ n) → ⊥
  tidy_count_not_fixed n h =
      let e = meets tidy_one ∙ gives_itself in
      let f = meets tidy_two ∙ gives_two in
      omega (
        arith,
        h tidy_one (ap (λ (o : Tidied). o.answer.number) e),
        ap (λ (o : Tidied). o.answer.beside) e,
        h tidy_two (ap (λ (o : Tidied). o.answer.number) f),
        ap (λ (o : Tidied). o.answer.beside) f,
      )

  -- Its value list does not always start with 0, as a list of new numbers would.
  pub tidy_values_not_new : ((i : TidyInput) → (call i).answer.number ≡ 0 → get_or (call i).values 0 0 ≡ 0) → ⊥
  tidy_values_not_new h =
      let e = meets tidy_upper ∙ gives_upper in
      omega (arith, h tidy_upper (ap (λ (o : Tidied). o.answer.number) e), ap (λ (o : Tidied). get_or o.values 0 0) e)

-- ---- The check: `call` is any version that meets its contract.
module _ (call : CheckInput → Answer) (meets : (i : CheckInput) → call i ≡ check_at i) where
  -- It does not always say 0.
  pub check_not_always_good : ((i : CheckInput) → (call i).number ≡ 0) → ⊥
  check_not_always_good h = omega (arith, h no_words, ap (λ (a : Answer). a.number) (meets no_words ∙ gives_fault))

  -- It does not always refuse.
  pub check_not_always_refused : ((i : CheckInput) → 0 < (call i).number) → ⊥
  check_not_always_refused h = omega (arith, h good_pool, ap (λ (a : Answer). a.number) (meets good_pool ∙ gives_good))
