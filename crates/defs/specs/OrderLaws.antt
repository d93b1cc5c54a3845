-- Strictly ascending lists of prefixes. Their laws are in proofs/OrderLaws.antt.
use Rattle.std.specs.Prelude.{◌≡◌, Bool, true, ◌&&◌, List, [], ◌∷◌}
use Rattle.std.proofs.Common.{sym, ◌∙◌, ap}
use Rattle.std.proofs.Math.Bool.{and-false}
use Rattle.defs.specs.declared.Prefix.{Prefix}
use Rattle.defs.specs.Basics.{keep, any}
use Rattle.defs.specs.Prefix.{before, same}
use Rattle.defs.specs.Lemmas.{All, split}
use Rattle.defs.specs.PrefixLaws.{same_says}

-- each of a list comes before all that follow it
pub data Ascends : List Prefix → Type 0 where
  end : Ascends []
  then_after : {p : Prefix} {ps : List Prefix} → All (λ q. before p q ≡ true) ps → Ascends ps → Ascends (p ∷ ps)

-- p is one of a list of prefixes
abbrev pub among : Prefix → List Prefix → Bool
among p = any (same p)

pub among_keep : (f : Prefix → Bool) (x : Prefix) (a : List Prefix) → among x (keep f a) ≡ (f x && among x a)
among_keep f x [] = sym (and-false (f x))
among_keep f x (y ∷ a) =
    split (f y) (λ e. rw (e, keep) (split (same x y) (λ q. rw (q, ap f (same_says x y q) ∙ e)) (λ q. rw q (among_keep f x a))))
    (λ e. rw (e, keep) (among_keep f x a ∙ split (same x y) (λ q. rw (q, ap f (same_says x y q) ∙ e)) (λ q. rw q)))
