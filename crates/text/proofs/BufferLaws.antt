-- Parts of a lent buffer, and texts written one after the other.
use mathlib.Core.Path.{◌≡◌, sym, ◌∙◌, ap, ap₂, subst}
use mathlib.Core.List.{List, [], ◌++◌, append_assoc, append-nil}
use Prim.Native.Nat.{ℕ, ◌+◌, ◌-◌, ◌<◌, ◌≤◌}
use native.Mathlib.Omega.{arith}
use lib.ListN.{length, take, drop, length-append, length-take, length-drop, drop_of_length-le}
use lib.Seq.{drop-drop, drop-nil, take_all, take_at, drop_at, take-append-le, take-append-add}
use lib.Dec.{leb}
use borrow.Author.Tests.{leb-true, leb-false}
use borrow.Rule.Slice.PartMut.{put_mid}
use Rattle.defs.specs.Lemmas.{split}
use Rattle.text.specs.Output.{cut, Wrote}

-- the part of a buffer that is lent from a place on has its new words when it is back
module _ (l : List ℕ) (at : ℕ) (within : at ≤ length l) where
  pub back : (new : List ℕ) → put_mid at (length l - at) l new ≡ take at l ++ new
  back new =
      ap (λ (t : List ℕ). take at l ++ (new ++ t)) (drop_of_length-le (drop at l) (let e : length (drop at l) ≤ length l - at = omega (arith, length-drop at l) in e))
      ∙ ap (λ (t : List ℕ). take at l ++ t) (append-nil new)

  pub lent : take (length l - at) (drop at l) ≡ drop at l
  lent = take_all (length l - at) (drop at l) (omega (arith, length-drop at l))

-- what is written is as long as the buffer was, and the count lies in it
module _ (text old new : List ℕ) (count : ℕ) (w : Wrote text old count new) where
  pub wrote_length : length new ≡ length old
  wrote_length =
      ap length w.holds ∙ length-append (take (length old) text) (drop (length text) old)
      ∙ omega (arith, length-take (length old) text, length-drop (length text) old)

  pub wrote_within : count ≤ length new
  wrote_within = omega (arith, w.counted, wrote_length)

-- a text after another, where there is room for the first, and where there is none
module _ (a b x y z : List ℕ) (r s : ℕ) (wa : Wrote a x r y) (wb : Wrote b (drop r y) s z) where
  roomy : length a ≤ length x → take r y ++ z ≡ cut (a ++ b) x
  roomy l = ap₂ ◌++◌ front (wb.holds ∙ ap (cut b) behind) ∙ sym (append_assoc a (take left b) (drop (length b) (drop (length a) x))) ∙ ap₂ ◌++◌ (sym first) (sym second)
    where
      left : ℕ
      left = length (drop (length a) x)

      filled : y ≡ a ++ drop (length a) x
      filled = wa.holds ∙ ap (λ (t : List ℕ). t ++ drop (length a) x) (take_all (length x) a l)

      count : length a ≡ r
      count = omega (arith, wa.counted)

      front : take r y ≡ a
      front = ap (take r) filled ∙ take_at a (drop (length a) x) r count

      behind : drop r y ≡ drop (length a) x
      behind = ap (drop r) filled ∙ drop_at a (drop (length a) x) r count

      first : take (length x) (a ++ b) ≡ a ++ take left b
      first =
          ap (λ (n : ℕ). take n (a ++ b)) (let e : length x ≡ length a + left = omega (arith, length-drop (length a) x) in e) ∙ take-append-add a b left

      second : drop (length (a ++ b)) x ≡ drop (length b) (drop (length a) x)
      second = ap (λ (n : ℕ). drop n x) (length-append a b) ∙ sym (drop-drop (length b) (length a) x)

  full : length x < length a → take r y ++ z ≡ cut (a ++ b) x
  full l = ap₂ ◌++◌ (take_all r y (omega (arith, wrote_length a x y r wa)) ∙ wa.holds) nothing ∙ append-nil (cut a x) ∙ ap₂ ◌++◌ (sym first) second
    where
      count : r ≡ length x
      count = omega (arith, wa.counted)

      behind : drop r y ≡ []
      behind = drop_of_length-le y (let e : length y ≤ r = omega (arith, wrote_length a x y r wa) in e)

      nothing : z ≡ []
      nothing = wb.holds ∙ ap (cut b) behind ∙ drop-nil (length b)

      first : take (length x) (a ++ b) ≡ take (length x) a
      first = take-append-le (length x) a b (omega arith)

      second : drop (length a) x ≡ drop (length (a ++ b)) x
      second =
          drop_of_length-le x (let e : length x ≤ length a = omega arith in e)
          ∙ sym (drop_of_length-le x (let e : length x ≤ length (a ++ b) = omega (arith, length-append a b) in e))

  either : (n m : ℕ) → (n ≤ m → take r y ++ z ≡ cut (a ++ b) x) → (m < n → take r y ++ z ≡ cut (a ++ b) x) → take r y ++ z ≡ cut (a ++ b) x
  either n m f g = split (leb n m) (λ e. f (leb-true n m e)) (λ e. g (leb-false n m e))

  joined : Wrote (a ++ b) x (r + s) (take r y ++ z)
  joined =
      record {
        counted = omega (arith, wa.counted, wb.counted, length-append a b, length-drop r y, wrote_length a x y r wa);
        holds = either (length a) (length x) roomy full;
      }

-- the same where the second text goes to the lent rest of the buffer
module _ (a x y : List ℕ) (r : ℕ) (wa : Wrote a x r y) (b z : List ℕ) (s : ℕ) (wb : Wrote b (take (length y - r) (drop r y)) s z) where
  lent_rest : Wrote b (drop r y) s z
  lent_rest = rw (lent y r (wrote_within a x y r wa)) at wb

  pub wrote_next : Wrote (a ++ b) x (r + s) (put_mid r (length y - r) y z)
  wrote_next = rw (back y r (wrote_within a x y r wa) z) (joined a b x y z r s wa lent_rest)

-- an equal text
pub wrote_is : {text text' old new : List ℕ} {count : ℕ} → Wrote text old count new → text ≡ text' → Wrote text' old count new
wrote_is {old = old} {new = new} {count = count} w e = subst (λ (t : List ℕ). Wrote t old count new) e w
