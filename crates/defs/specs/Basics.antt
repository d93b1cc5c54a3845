-- Choices and lists. Nothing here is about prefixes.
use Rattle.std.specs.Prelude.{Bool, true, false, ◌&&◌, ◌||◌, List, [], ◌∷◌, ◌++◌, ℕ, zero, suc}

module _ {A : Type 0} where
  infixr 10 if◌then◌otherwise◌
  -- the first of two where the test passes, else the second
  abbrev pub if◌then◌otherwise◌ : Bool → A → A → A
  if true then a otherwise b = a
  if false then a otherwise b = b

module _ {A : Type 0} where
  -- those of a list that pass the test, in order
  abbrev pub keep : (A → Bool) → List A → List A
  keep f [] = []
  keep f (x ∷ xs) = if f x then x ∷ keep f xs otherwise keep f xs

  -- some of a list passes the test
  abbrev pub any : (A → Bool) → List A → Bool
  any f [] = false
  any f (x ∷ xs) = f x || any f xs

  -- all of a list pass the test
  abbrev pub every : (A → Bool) → List A → Bool
  every f [] = true
  every f (x ∷ xs) = f x && every f xs

module _ {A B : Type 0} where
  -- what f gives at each of a list, joined
  abbrev pub each : (A → List B) → List A → List B
  each f [] = []
  each f (x ∷ xs) = f x ++ each f xs

-- 0 to n - 1
abbrev pub up_to : ℕ → List ℕ
up_to zero = []
up_to (suc n) = up_to n ++ (n ∷ [])
