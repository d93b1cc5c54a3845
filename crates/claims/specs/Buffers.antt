-- A buffer after a call: its length, its new words, and those after them.
use Rattle.std.specs.Prelude.{◌≡◌, refl, List, [], ◌∷◌, ◌++◌, ℕ, ◌+◌, ◌-◌, ◌*◌, ◌≤◌, eqb, length, get_or, drop}
use Rattle.std.proofs.Common.{sym, ◌∙◌, ap, arith, length-append, length-drop, get_or-append-add, get_or-drop, eqb-true, eq-eqb, ne_eqb}
use Rattle.defs.specs.declared.Answer.{Answer}
use Rattle.defs.specs.Basics.{each}
use Rattle.defs.specs.Lists.{Record, record_words, words_of}
use Rattle.defs.specs.Outcome.{written}
use Rattle.defs.specs.Lemmas.{split}

-- the words of records: six for each
pub words_length : (rs : List Record) → length (each words_of rs) ≡ record_words * length rs
words_length [] = refl
words_length (r ∷ rs) = omega (arith, words_length rs)

module _ (a : Answer) (new old : List ℕ) where
  -- a refused call writes nothing
  pub kept : (a.number ≡ 0 → ⊥) → written a new old ≡ old
  kept h = rw (ne_eqb a.number 0 h)

  module _ (n : ℕ) (e : length new ≡ n) where
    -- a call that is done writes the new words at the front, and no others
    pub written_done : a.number ≡ 0 → written a new old ≡ new ++ drop n old
    written_done h = rw (eq-eqb a.number 0 h, e)

    -- no word after the new ones is changed, whether the call is done or not
    pub written_after : (i d : ℕ) → n ≤ i → get_or (written a new old) i d ≡ get_or old i d
    written_after i d l =
        split (eqb a.number 0)
        (λ t.
        let s : i ≡ length new + (i - length new) = omega arith in
        rw t
        (ap (λ (j : ℕ). get_or (new ++ drop (length new) old) j d) s ∙ get_or-append-add new (drop (length new) old) (i - length new) d
        ∙ get_or-drop (length new) old (i - length new) d ∙ ap (λ (j : ℕ). get_or old j d) (sym s)))
        (λ t. rw t)

    -- a buffer keeps its length
    pub written_length : (a.number ≡ 0 → n ≤ length old) → length (written a new old) ≡ length old
    written_length h =
        split (eqb a.number 0)
        (λ t. rw t (omega (arith, length-append new (drop (length new) old), length-drop (length new) old, h (eqb-true a.number 0 t))))
        (λ t. rw t)
