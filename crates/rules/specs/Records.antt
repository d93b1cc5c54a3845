-- A record in the output: its words at the front of the part that is left, where it is written at all.
use Rattle.std.specs.Prelude.{◌≡◌, Bool, true, false, List, [], ◌∷◌, ◌++◌, ℕ, ◌≤◌, length, set, drop}
use Rattle.std.proofs.Common.{◌∙◌}
use Rattle.std.proofs.lemmas.List.Edits.{sets-eq}
use Rattle.defs.specs.Basics.{if◌then◌otherwise◌}
use Rattle.defs.specs.Lists.{Record, record_words, words_of}

-- how far the output moves on with a record, and what its part is then
abbrev pub moved : Bool → ℕ
moved writes = if writes then record_words otherwise 0

abbrev pub front_of : Bool → Record → List ℕ → List ℕ
front_of writes r part = if writes then words_of r ++ drop record_words part otherwise part

-- what is not written leaves its part as it was
pub not_moved : (writes : Bool) (r : Record) (part : List ℕ) → writes ≡ false → (0 ≡ moved writes) × (part ≡ front_of writes r part)
not_moved writes r part e = (rw e, rw e)

-- what is written moves on by its words
pub moved_on : (writes : Bool) (r : Record) (part : List ℕ) (n : ℕ) (after : List ℕ) → writes ≡ true → n ≡ record_words → after ≡ words_of r ++ drop record_words part
    → (n ≡ moved writes) × (after ≡ front_of writes r part)
moved_on writes r part n after e h k = (h ∙ rw e, k ∙ rw e)

-- six stores at the front of a buffer
pub six : (a b c d e f : ℕ) (l : List ℕ) → record_words ≤ length l → set (set (set (set (set (set l 0 a) 1 b) 2 c) 3 d) 4 e) 5 f ≡ a ∷ b ∷ c ∷ d ∷ e ∷ f ∷ drop record_words l
six a b c d e f l h = sets-eq (a ∷ b ∷ c ∷ d ∷ e ∷ f ∷ []) l 0 h
