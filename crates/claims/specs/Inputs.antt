-- Inputs that fit the types of the code: widths and lengths of 32 bits, pool words of 32, keys and output words of 64, in buffers of less than 2^32 words.
use Rattle.std.specs.Prelude.{◌≡◌, Bool, true, ◌&&◌, List, ℕ, ◌^◌, ltb, length}
use Rattle.defs.specs.declared.Answer.{Answer}
use Rattle.defs.specs.declared.Operation.{Operation}
use Rattle.defs.specs.Basics.{every}
use Rattle.defs.specs.Outcome.{Side, Listed, Tidied, list_outcome, equal_outcome, tidy_outcome, check_outcome}

-- words of so many bits
abbrev pub fit_words : ℕ → List ℕ → Bool
fit_words bits ws = every (λ x. ltb x (2 ^ bits)) ws && ltb (length ws) (2 ^ 32)

-- a side
abbrev pub fit_side : Side → Bool
fit_side s = fit_words 32 s.pool && (ltb s.root.key (2 ^ 64) && ltb s.root.len (2 ^ 32))

-- what a list call is given
pub record ListInput : Type 0 where
  pub width : ℕ
  pub left : Side
  pub right : Side
  pub out : List ℕ
  pub fits : (ltb width (2 ^ 32) && (fit_side left && (fit_side right && fit_words 64 out))) ≡ true

-- what a list call is to leave there
abbrev pub list_at : Operation → ListInput → Listed
list_at op i = list_outcome op i.width i.left i.right i.out

-- what key equality is given
pub record EqualInput : Type 0 where
  pub width : ℕ
  pub left : Side
  pub right : Side
  pub fits : (ltb width (2 ^ 32) && (fit_side left && fit_side right)) ≡ true

-- what key equality is to answer there
abbrev pub equal_at : EqualInput → Answer
equal_at i = equal_outcome i.width i.left i.right

-- what tidying is given
pub record TidyInput : Type 0 where
  pub width : ℕ
  pub side : Side
  pub out : List ℕ
  pub values : List ℕ
  pub fits : (ltb width (2 ^ 32) && (fit_side side && (fit_words 32 out && fit_words 32 values))) ≡ true

-- what tidying is to leave there
abbrev pub tidy_at : TidyInput → Tidied
tidy_at i = tidy_outcome i.width i.side i.out i.values

-- what the check is given
pub record CheckInput : Type 0 where
  pub width : ℕ
  pub words : List ℕ
  pub fits : (ltb width (2 ^ 32) && fit_words 32 words) ≡ true

-- what the check is to answer there
abbrev pub check_at : CheckInput → Answer
check_at i = check_outcome i.width i.words
