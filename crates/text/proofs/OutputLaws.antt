-- Marks, and the loop over records.
use mathlib.Core.Path.{◌≡◌, refl, sym, ◌∙◌, ap, ap₂}
use mathlib.Core.List.{List, [], ◌∷◌, ◌++◌, append_assoc, append-nil}
use Prim.Native.Nat.{ℕ, suc, ◌+◌, ◌-◌, ◌*◌, ◌/◌, ◌<◌, ◌≤◌}
use native.Mathlib.Omega.{arith}
use lib.ListN.{length, take, drop, length-append}
use lib.Seq.{take-nil}
use lib.Dec.{ltb}
use borrow.Author.Tests.{ltb-true, ltb-false}
use Rattle.defs.specs.Lemmas.{split}
use borrow.Rule.Slice.PartMut.{put_mid}
use Rattle.defs.specs.Lists.{record_words}
use Rattle.text.specs.Output.{mark_field, record_line, record_lines, Wrote}
use Rattle.text.proofs.BufferLaws.{wrote_next, wrote_is}

-- a mark by another name
pub marked : (m mark n : ℕ) {old new : List ℕ} {count : ℕ} → m ≡ mark → Wrote (mark_field m n) old count new → Wrote (mark_field mark n) old count new
marked m mark n e w = wrote_is w (ap (λ (k : ℕ). mark_field k n) e)

-- a record's words in front of others: its line reads no further, and the others follow it
one_record : (r rest : List ℕ) → length r ≡ record_words → (record_line (r ++ rest) ≡ record_line r) × (drop record_words (r ++ rest) ≡ rest)
one_record (a ∷ b ∷ c ∷ d ∷ e ∷ f ∷ []) rest h = (refl, refl)
one_record [] rest h = absurd (omega arith)
one_record (_ ∷ []) rest h = absurd (omega arith)
one_record (_ ∷ _ ∷ []) rest h = absurd (omega arith)
one_record (_ ∷ _ ∷ _ ∷ []) rest h = absurd (omega arith)
one_record (_ ∷ _ ∷ _ ∷ _ ∷ []) rest h = absurd (omega arith)
one_record (_ ∷ _ ∷ _ ∷ _ ∷ _ ∷ []) rest h = absurd (omega arith)
one_record (_ ∷ _ ∷ _ ∷ _ ∷ _ ∷ _ ∷ _ ∷ _) rest h = absurd (omega arith)

-- the lines written so far, and those of the records that are left at the front of the other words
pub record Showing (w : List ℕ) (k : ℕ) (old new : List ℕ) (at size : ℕ) (rest : List ℕ) (left : ℕ) : Type 0 where
  pub sized : size ≡ record_words
  pub enough : record_words * left ≤ length rest
  pub text : List ℕ
  pub wrote : Wrote text old at new
  pub so_far : text ++ record_lines left rest ≡ record_lines k w

pub show_start : (w : List ℕ) (k : ℕ) (old : List ℕ) (size : ℕ) (rest : List ℕ) (left : ℕ) → size ≡ record_words → rest ≡ w → left ≡ k → k ≤ length w / record_words
    → Showing w k old old 0 size rest left
show_start w k old size rest left s e f h =
    rw (e, f)
    record {
      sized = s;
      enough = omega arith;
      text = [];
      wrote = record { counted = omega arith; holds = ap (λ (t : List ℕ). t ++ old) (sym (take-nil (length old))) };
      so_far = refl;
    }

module _ (w : List ℕ) (k : ℕ) (old new : List ℕ) (at size : ℕ) (rest : List ℕ) (left : ℕ) (r : Showing w k old new at size rest left) where
  show_over : left ≡ 0 → Wrote (record_lines k w) old at new
  show_over z = wrote_is r.wrote (sym (append-nil r.text) ∙ ap (λ (j : ℕ). r.text ++ record_lines j rest) (sym z) ∙ r.so_far)

  -- the next record is asked for in vain only where none is left
  pub show_end : (0 < left → length rest < size) → Wrote (record_lines k w) old at new
  show_end h = show_over (split (ltb 0 left) (λ b. let l : length rest < size = h (ltb-true 0 left b) in omega (arith, ltb-true 0 left b, r.enough, r.sized)) (λ b. omega (arith, ltb-false 0 left b)))

  module _ (words others : List ℕ) (less size' : ℕ) (m : less + 1 ≡ left) (e : rest ≡ words ++ others) (l : length words ≡ size) (s : size' ≡ size) (count : ℕ) (z : List ℕ)
      (wb : Wrote (record_line words) (take (length new - at) (drop at new)) count z) where
    one : (record_line (words ++ others) ≡ record_line words) × (drop record_words (words ++ others) ≡ others)
    one = one_record words others (l ∙ r.sized)

    pub show_on : Showing w k old (put_mid at (length new - at) new z) (at + count) size' others less
    show_on =
        record {
          sized = s ∙ r.sized;
          enough = omega (arith, r.enough, ap length e, length-append words others, l, r.sized);
          text = r.text ++ record_line words;
          wrote = wrote_next r.text old new at r.wrote (record_line words) z count wb;
          so_far =
              append_assoc r.text (record_line words) (record_lines less others)
              ∙ ap (λ (t : List ℕ). r.text ++ t) (ap₂ (λ (a b : List ℕ). a ++ record_lines less b) (sym one.0) (sym one.1) ∙ ap (record_lines (suc less)) (sym e))
              ∙ ap (λ (j : ℕ). r.text ++ record_lines j rest) (let n : suc less ≡ left = omega arith in n) ∙ r.so_far;
        }
