-- Where the first line ends, and what names ask for.
use Rattle.std.proofs.Common.{◌≡◌, refl, sym, ◌∙◌, ap, false, ◌&&◌, List, [], ◌∷◌, ℕ, suc, ◌+◌, ◌-◌, ◌≤◌, length, take, drop, eqb, ltb, Some, None, arith}
use Rattle.std.specs.Prelude.{position}
use Rattle.std.specs.List.{position_or_len}
use Rattle.std.specs.Cmp.Lexicographic.{pointwise}
use Rattle.std.proofs.lemmas.List.Recursion.{is_position_or_len}
use lib.ListN.{length-drop, drop_of_length-le}
use lib.Seq.{take_all}
use borrow.Author.Tests.{ltb-false}
use Rattle.defs.specs.Lemmas.{split}
use Rattle.defs.specs.Cases.{same_words}
use Rattle.text.specs.Bytes.{bytes, feed, line_end, line, rest}
use Rattle.text.specs.Input.{call_of}

-- the end of the first line is the place of the first line feed
end_is : (s : List ℕ) → line_end s ≡ position_or_len (λ c. eqb c feed) s
end_is s = is_position_or_len line_end (λ c. eqb c feed) refl (λ c s. split (eqb c feed) (λ e. rw e) (λ e. rw e (omega arith))) s

module _ (s : List ℕ) where
  pub split_at : (k : ℕ) → Some k ≡ position (λ c. eqb c feed) s → (take k s ≡ line s) × (take (length s - (k + 1)) (drop (k + 1) s) ≡ rest s)
  split_at k e =
      split (ltb (line_end s) (length s))
      (λ b. let q : Some k ≡ Some (line_end s) = rw (sym (end_is s), b) at e in
      let n : k ≡ line_end s = cc in
      (rw (n, b), take_all (length s - (k + 1)) (drop (k + 1) s) (omega (arith, length-drop (k + 1) s)) ∙ ap (λ (j : ℕ). drop j s) (let m : k + 1 ≡ suc (line_end s) = omega arith in m)))
      (λ b. let q : Some k ≡ None = rw (sym (end_is s), b) at e in cc)

  pub split_none : None ≡ position (λ c. eqb c feed) s → ([] ≡ line s) × ([] ≡ rest s)
  split_none e =
      split (ltb (line_end s) (length s))
      (λ b. let q : None ≡ Some (line_end s) = rw (sym (end_is s), b) at e in cc)
      (λ b. (rw b, sym (drop_of_length-le s {i = suc (line_end s)} (let l : length s ≤ line_end s = ltb-false (line_end s) (length s) b in omega arith))))

-- equal slices, by the other name
same_is : (a b : List ℕ) → pointwise eqb a b ≡ same_words a b
same_is [] [] = refl
same_is [] (y ∷ b) = refl
same_is (x ∷ a) [] = refl
same_is (x ∷ a) (y ∷ b) = ap (λ t. eqb x y && t) (same_is a b)

-- a name that is none of the six asks for nothing
pub call_none : (n : List ℕ)
    → pointwise eqb n (bytes "union") ≡ false → pointwise eqb n (bytes "intersection") ≡ false → pointwise eqb n (bytes "difference") ≡ false
    → pointwise eqb n (bytes "covering-difference") ≡ false → pointwise eqb n (bytes "covering-union") ≡ false → pointwise eqb n (bytes "equality") ≡ false
    → None ≡ call_of n
call_none n a b c d e f = rw (sym (same_is n _) ∙ a, sym (same_is n _) ∙ b, sym (same_is n _) ∙ c, sym (same_is n _) ∙ d, sym (same_is n _) ∙ e, sym (same_is n _) ∙ f)
