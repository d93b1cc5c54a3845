-- Demand 1: which number each call gives, what stands beside it, and which words it leaves as they were (document 01, "Refusal numbers").
use Rattle.std.specs.Prelude.{◌≡◌, refl, true, List, [], ◌∷◌, ◌++◌, ◌⊎◌, ℕ, ◌*◌, ◌/◌, ◌≤◌, ◌<◌, eqb, length, get_or, drop}
use Rattle.std.proofs.Common.{sym, ◌∙◌, ap, arith, lit<}
use Rattle.defs.specs.declared.Answer.{Answer}
use Rattle.defs.specs.declared.Operation.{Operation}
use Rattle.defs.specs.Basics.{if◌then◌otherwise◌, any, each}
use Rattle.defs.specs.Pool.{node_count}
use Rattle.defs.specs.Check.{fault_of}
use Rattle.defs.specs.Lists.{records_of, words_of, same_keys}
use Rattle.defs.specs.Tidy.{tidy_pool, tidy_values}
use Rattle.defs.specs.Outcome.{Side, Listed, Tidied, answer, entries_of, side_rows, list_rows, list_outcome, equal_outcome, tidy_rows, tidy_outcome, check_rows, check_outcome}
use Rattle.pool.specs.Sound.{Formed, formed}
use Rattle.tidied.specs.Demand3.{tidy_words, tidy_entries_lem}
use Rattle.claims.specs.Terms.{GoodWidth, BadWidth, Faulty, WellFormed, Exactly, record_count, tidy_nodes, tidy_entries}
use Rattle.claims.specs.Tables.{exactly, exactly_done, only_these, side_table, list_table, tidy_table, check_table}
use Rattle.claims.specs.Faults.{fault_known}
use Rattle.claims.specs.Buffers.{words_length, kept, written_done, written_after, written_length}

-- ---- The five lists. `op` says which of them it is, `out` is the buffer lent for the records.
module _ (op : Operation) (width : ℕ) (l r : Side) (out : List ℕ) where
  -- Number 1, with 0 beside it, is given exactly when the width is neither 32 nor 64.
  pub list_1 : Exactly (list_outcome op width l r out).answer (answer 1 0 0) (BadWidth width)
  list_1 = exactly (list_table width l r (record_count op l r) out) 1 _ (lit< tt) refl refl

  -- Number 2, with the fault's node beside it, is given exactly when the width is good and the left pool has a fault.
  pub list_2 : Exactly (list_outcome op width l r out).answer (answer 2 (fault_of width l.pool).node 0) (GoodWidth width × Faulty width l.pool)
  list_2 = exactly (list_table width l r (record_count op l r) out) 2 _ (lit< tt) refl refl

  -- Number 3, with the fault's node beside it, is given exactly when 1 and 2 are not and the right pool has a fault.
  pub list_3 : Exactly (list_outcome op width l r out).answer (answer 3 (fault_of width r.pool).node 0)
      (GoodWidth width × (WellFormed width l.pool × Faulty width r.pool))
  list_3 = exactly (list_table width l r (record_count op l r) out) 3 _ (lit< tt) refl refl

  -- Number 4, with 0 beside it, is given exactly when 1 to 3 are not and the left root is longer than the width.
  pub list_4 : Exactly (list_outcome op width l r out).answer (answer 4 0 0)
      (GoodWidth width × (WellFormed width l.pool × (WellFormed width r.pool × (width < l.root.len))))
  list_4 = exactly (list_table width l r (record_count op l r) out) 4 _ (lit< tt) refl refl

  -- Number 5, with 0 beside it, is given exactly when 1 to 4 are not and the right root is longer than the width.
  pub list_5 : Exactly (list_outcome op width l r out).answer (answer 5 0 0)
      (GoodWidth width × (WellFormed width l.pool × (WellFormed width r.pool × ((l.root.len ≤ width) × (width < r.root.len)))))
  list_5 = exactly (list_table width l r (record_count op l r) out) 5 _ (lit< tt) refl refl

  -- Number 6, with the number of records beside it, is given exactly when 1 to 5 are not and the records exceed a sixth of the output's words.
  pub list_6 : Exactly (list_outcome op width l r out).answer (answer 6 (record_count op l r) 0)
      (GoodWidth width × (WellFormed width l.pool × (WellFormed width r.pool × ((l.root.len ≤ width) × ((r.root.len ≤ width)
      × (length out / 6 < record_count op l r))))))
  list_6 = exactly (list_table width l r (record_count op l r) out) 6 _ (lit< tt) refl refl

  -- Number 0, with the number of records beside it, is given exactly when no refusal is.
  pub list_0 : Exactly (list_outcome op width l r out).answer (answer 0 (record_count op l r) 0)
      (GoodWidth width × (WellFormed width l.pool × (WellFormed width r.pool × ((l.root.len ≤ width) × ((r.root.len ≤ width)
      × (record_count op l r ≤ length out / 6))))))
  list_0 = exactly_done (list_table width l r (record_count op l r) out) (record_count op l r) refl

  -- No other number is given.
  pub list_numbers : any (eqb (list_outcome op width l r out).answer.number) (0 ∷ 1 ∷ 2 ∷ 3 ∷ 4 ∷ 5 ∷ 6 ∷ []) ≡ true
  list_numbers = only_these (list_rows width l r (record_count op l r) out) (record_count op l r)

  -- A number other than 0 leaves every word of the output as it was.
  pub list_refused : ((list_outcome op width l r out).answer.number ≡ 0 → ⊥) → (list_outcome op width l r out).output ≡ out
  list_refused h = kept (list_outcome op width l r out).answer (each words_of (records_of op (entries_of l) (entries_of r))) out h

  -- Number 0 puts the words of the records at the front of the output, and behind them stands what stood there.
  pub list_done : (list_outcome op width l r out).answer.number ≡ 0
      → (list_outcome op width l r out).output ≡ each words_of (records_of op (entries_of l) (entries_of r)) ++ drop (6 * record_count op l r) out
  list_done h =
      written_done (list_outcome op width l r out).answer (each words_of (records_of op (entries_of l) (entries_of r))) out
      (6 * record_count op l r) (words_length (records_of op (entries_of l) (entries_of r))) h

  -- So no word after the last record is changed, whatever the number is.
  pub list_after : (i d : ℕ) → 6 * record_count op l r ≤ i → get_or (list_outcome op width l r out).output i d ≡ get_or out i d
  list_after i d h =
      written_after (list_outcome op width l r out).answer (each words_of (records_of op (entries_of l) (entries_of r))) out
      (6 * record_count op l r) (words_length (records_of op (entries_of l) (entries_of r))) i d h

  -- The output has as many words as before.
  pub list_length : length (list_outcome op width l r out).output ≡ length out
  list_length =
      written_length (list_outcome op width l r out).answer (each words_of (records_of op (entries_of l) (entries_of r))) out
      (6 * record_count op l r) (words_length (records_of op (entries_of l) (entries_of r))) (λ h. omega (arith, (list_0.only_when h).1.1.1.1.1))

  -- From the contract alone there is one outcome: answer and output are determined.
  pub list_one_outcome : (a b : Answer) (x y : List ℕ) → let made : Answer → List ℕ → Listed = λ a x. record { answer = a; output = x } in
      made a x ≡ list_outcome op width l r out → made b y ≡ list_outcome op width l r out → (a ≡ b) × (x ≡ y)
  list_one_outcome a b x y h k = (ap (λ (o : Listed). o.answer) (h ∙ sym k), ap (λ (o : Listed). o.output) (h ∙ sym k))

-- ---- Key equality. It is lent no words to write.
module _ (width : ℕ) (l r : Side) where
  -- Number 1, with 0 beside it, is given exactly when the width is neither 32 nor 64.
  pub equal_1 : Exactly (equal_outcome width l r) (answer 1 0 0) (BadWidth width)
  equal_1 = exactly (side_table width l r) 1 _ (lit< tt) refl refl

  -- Number 2, with the fault's node beside it, is given exactly when the width is good and the left pool has a fault.
  pub equal_2 : Exactly (equal_outcome width l r) (answer 2 (fault_of width l.pool).node 0) (GoodWidth width × Faulty width l.pool)
  equal_2 = exactly (side_table width l r) 2 _ (lit< tt) refl refl

  -- Number 3, with the fault's node beside it, is given exactly when 1 and 2 are not and the right pool has a fault.
  pub equal_3 : Exactly (equal_outcome width l r) (answer 3 (fault_of width r.pool).node 0)
      (GoodWidth width × (WellFormed width l.pool × Faulty width r.pool))
  equal_3 = exactly (side_table width l r) 3 _ (lit< tt) refl refl

  -- Number 4, with 0 beside it, is given exactly when 1 to 3 are not and the left root is longer than the width.
  pub equal_4 : Exactly (equal_outcome width l r) (answer 4 0 0)
      (GoodWidth width × (WellFormed width l.pool × (WellFormed width r.pool × (width < l.root.len))))
  equal_4 = exactly (side_table width l r) 4 _ (lit< tt) refl refl

  -- Number 5, with 0 beside it, is given exactly when 1 to 4 are not and the right root is longer than the width.
  pub equal_5 : Exactly (equal_outcome width l r) (answer 5 0 0)
      (GoodWidth width × (WellFormed width l.pool × (WellFormed width r.pool × ((l.root.len ≤ width) × (width < r.root.len)))))
  equal_5 = exactly (side_table width l r) 5 _ (lit< tt) refl refl

  -- Number 0, with 1 for yes or 0 for no beside it, is given exactly when no refusal is.
  pub equal_0 : Exactly (equal_outcome width l r) (answer 0 (if same_keys (entries_of l) (entries_of r) then 1 otherwise 0) 0)
      (GoodWidth width × (WellFormed width l.pool × (WellFormed width r.pool × ((l.root.len ≤ width) × (r.root.len ≤ width)))))
  equal_0 = exactly_done (side_table width l r) _ refl

  -- No other number is given.
  pub equal_numbers : any (eqb (equal_outcome width l r).number) (0 ∷ 1 ∷ 2 ∷ 3 ∷ 4 ∷ 5 ∷ []) ≡ true
  equal_numbers = only_these (side_rows width l r) _

  -- From the contract alone there is one answer.
  pub equal_one_outcome : (a b : Answer) → a ≡ equal_outcome width l r → b ≡ equal_outcome width l r → a ≡ b
  equal_one_outcome a b h k = h ∙ sym k

-- ---- Tidying. `out` is the buffer lent for the pool, `values` the one for its value list.
module _ (width : ℕ) (s : Side) (out values : List ℕ) where
  -- Number 1, with 0 beside it, is given exactly when the width is neither 32 nor 64.
  pub tidy_1 : Exactly (tidy_outcome width s out values).answer (answer 1 0 0) (BadWidth width)
  tidy_1 = exactly (tidy_table width s (tidy_nodes s) (tidy_entries s) out values) 1 _ (lit< tt) refl refl

  -- Number 2, with the fault's node beside it, is given exactly when the width is good and the pool has a fault.
  pub tidy_2 : Exactly (tidy_outcome width s out values).answer (answer 2 (fault_of width s.pool).node 0) (GoodWidth width × Faulty width s.pool)
  tidy_2 = exactly (tidy_table width s (tidy_nodes s) (tidy_entries s) out values) 2 _ (lit< tt) refl refl

  -- Number 4, with 0 beside it, is given exactly when 1 and 2 are not and the root is longer than the width.
  pub tidy_4 : Exactly (tidy_outcome width s out values).answer (answer 4 0 0) (GoodWidth width × (WellFormed width s.pool × (width < s.root.len)))
  tidy_4 = exactly (tidy_table width s (tidy_nodes s) (tidy_entries s) out values) 4 _ (lit< tt) refl refl

  -- Number 6, with the number of tidy nodes beside it, is given exactly when 1, 2 and 4 are not and those nodes exceed a fourth of the output's words.
  pub tidy_6 : Exactly (tidy_outcome width s out values).answer (answer 6 (tidy_nodes s) 0)
      (GoodWidth width × (WellFormed width s.pool × ((s.root.len ≤ width) × (length out / 4 < tidy_nodes s))))
  tidy_6 = exactly (tidy_table width s (tidy_nodes s) (tidy_entries s) out values) 6 _ (lit< tt) refl refl

  -- Number 7, with the number of entries beside it, is given exactly when 1, 2, 4 and 6 are not and those entries exceed the value list's words.
  pub tidy_7 : Exactly (tidy_outcome width s out values).answer (answer 7 (tidy_entries s) 0)
      (GoodWidth width × (WellFormed width s.pool × ((s.root.len ≤ width) × ((tidy_nodes s ≤ length out / 4) × (length values < tidy_entries s)))))
  tidy_7 = exactly (tidy_table width s (tidy_nodes s) (tidy_entries s) out values) 7 _ (lit< tt) refl refl

  -- Number 0, with the number of tidy nodes beside it, is given exactly when no refusal is.
  pub tidy_0 : Exactly (tidy_outcome width s out values).answer (answer 0 (tidy_nodes s) 0)
      (GoodWidth width × (WellFormed width s.pool × ((s.root.len ≤ width) × ((tidy_nodes s ≤ length out / 4) × (tidy_entries s ≤ length values)))))
  tidy_0 = exactly_done (tidy_table width s (tidy_nodes s) (tidy_entries s) out values) (tidy_nodes s) refl

  -- No other number is given.
  pub tidy_numbers : any (eqb (tidy_outcome width s out values).answer.number) (0 ∷ 1 ∷ 2 ∷ 4 ∷ 6 ∷ 7 ∷ []) ≡ true
  tidy_numbers = only_these (tidy_rows width s (tidy_nodes s) (tidy_entries s) out values) (tidy_nodes s)

  -- A number other than 0 leaves every word of both buffers as it was.
  pub tidy_refused : ((tidy_outcome width s out values).answer.number ≡ 0 → ⊥)
      → ((tidy_outcome width s out values).output ≡ out) × ((tidy_outcome width s out values).values ≡ values)
  tidy_refused h =
      (kept (tidy_outcome width s out values).answer (tidy_pool (entries_of s)) out h, kept (tidy_outcome width s out values).answer (tidy_values (entries_of s)) values h)

  -- Number 0 puts the tidy pool at the front of the output, and behind it stands what stood there.
  pub tidy_done : (tidy_outcome width s out values).answer.number ≡ 0
      → (tidy_outcome width s out values).output ≡ tidy_pool (entries_of s) ++ drop (4 * tidy_nodes s) out
  tidy_done h = written_done (tidy_outcome width s out values).answer (tidy_pool (entries_of s)) out (4 * tidy_nodes s) (tidy_words (entries_of s)) h

  -- And it puts the value list at the front of the other buffer, and behind it stands what stood there.
  pub tidy_done_values : (tidy_outcome width s out values).answer.number ≡ 0
      → (tidy_outcome width s out values).values ≡ tidy_values (entries_of s) ++ drop (tidy_entries s) values
  tidy_done_values h =
      written_done (tidy_outcome width s out values).answer (tidy_values (entries_of s)) values (tidy_entries s) (tidy_entries_lem s.pool s.root) h

  -- So no word after the last node is changed, whatever the number is.
  pub tidy_after : (i d : ℕ) → 4 * tidy_nodes s ≤ i → get_or (tidy_outcome width s out values).output i d ≡ get_or out i d
  tidy_after i d h = written_after (tidy_outcome width s out values).answer (tidy_pool (entries_of s)) out (4 * tidy_nodes s) (tidy_words (entries_of s)) i d h

  -- Nor is any word after the last entry of the value list.
  pub tidy_after_values : (i d : ℕ) → tidy_entries s ≤ i → get_or (tidy_outcome width s out values).values i d ≡ get_or values i d
  tidy_after_values i d h =
      written_after (tidy_outcome width s out values).answer (tidy_values (entries_of s)) values (tidy_entries s) (tidy_entries_lem s.pool s.root) i d h

  -- Both buffers have as many words as before.
  pub tidy_length : (length (tidy_outcome width s out values).output ≡ length out) × (length (tidy_outcome width s out values).values ≡ length values)
  tidy_length = (
    written_length (tidy_outcome width s out values).answer (tidy_pool (entries_of s)) out (4 * tidy_nodes s) (tidy_words (entries_of s))
        (λ h. omega (arith, (tidy_0.only_when h).1.1.1.0)),
    written_length (tidy_outcome width s out values).answer (tidy_values (entries_of s)) values (tidy_entries s) (tidy_entries_lem s.pool s.root)
        (λ h. (tidy_0.only_when h).1.1.1.1),
  )

  -- From the contract alone there is one outcome: answer, output and value list are determined.
  pub tidy_one_outcome : (a b : Answer) (x y u v : List ℕ) → let made : Answer → List ℕ → List ℕ → Tidied = λ a x u. record { answer = a; output = x; values = u } in
      made a x u ≡ tidy_outcome width s out values → made b y v ≡ tidy_outcome width s out values → (a ≡ b) × (x ≡ y) × (u ≡ v)
  tidy_one_outcome a b x y u v h k =
      (ap (λ (o : Tidied). o.answer) (h ∙ sym k), ap (λ (o : Tidied). o.output) (h ∙ sym k), ap (λ (o : Tidied). o.values) (h ∙ sym k))

-- ---- The check alone. It is lent no words to write.
module _ (width : ℕ) (w : List ℕ) where
  -- Number 1, with 0 beside it, is given exactly when the width is neither 32 nor 64.
  pub check_1 : Exactly (check_outcome width w) (answer 1 0 0) (BadWidth width)
  check_1 = exactly (check_table width w) 1 _ (lit< tt) refl refl

  -- Number 2, with the fault's node beside it and the fault's number as second number, is given exactly when the width is good and the pool has a fault.
  pub check_2 : Exactly (check_outcome width w) (answer 2 (fault_of width w).node (fault_of width w).number) (GoodWidth width × Faulty width w)
  check_2 = exactly (check_table width w) 2 _ (lit< tt) refl refl

  -- Number 0, with the number of nodes beside it and fault number 0, is given exactly when the width is good and the pool has no fault.
  pub check_0 : Exactly (check_outcome width w) (answer 0 (node_count w) 0) (GoodWidth width × WellFormed width w)
  check_0 = exactly_done (check_table width w) (node_count w) refl

  -- A fault is 1 or 2, with node 0, or one of 3 to 8, at one of the pool's nodes.
  pub check_faults : Faulty width w → let f = fault_of width w in ((f.number ≤ 2) × (f.node ≡ 0)) ⊎ ((3 ≤ f.number) × (f.number ≤ 8) × (f.node < node_count w))
  check_faults h = fault_known width w h

  -- A pool without a fault is as it should be: every node has a depth, words that fit it, and children and values counted from those of all earlier nodes.
  pub well_formed_is : WellFormed width w → Formed width w
  well_formed_is h = formed width w h

  -- No other number is given.
  pub check_numbers : any (eqb (check_outcome width w).number) (0 ∷ 1 ∷ 2 ∷ []) ≡ true
  check_numbers = only_these (check_rows width w) (node_count w)

  -- From the contract alone there is one answer.
  pub check_one_outcome : (a b : Answer) → a ≡ check_outcome width w → b ≡ check_outcome width w → a ≡ b
  check_one_outcome a b h k = h ∙ sym k
