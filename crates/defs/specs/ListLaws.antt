-- The prefix of a record, and what a longest cover is. The lists' laws are in proofs/ListLaws.antt.
use Rattle.std.specs.Prelude.{◌≡◌, refl, true, false, ◌≤◌}
use mathlib.Core.List.{List, Memᴰ}
use Rattle.std.proofs.Math.Option.{Option, none, some}
use Rattle.defs.specs.declared.Prefix.{Prefix}
use Rattle.defs.specs.Prefix.{leads}
use Rattle.defs.specs.Entries.{Entry}
use Rattle.defs.specs.Lists.{Record, plain, covered}
use Rattle.defs.specs.Lemmas.{All}

-- the prefix of a record
abbrev pub prefix_of : Record → Prefix
prefix_of r = record { key = r.key; len = r.len }

-- a record has the prefix that it is made for
pub prefix_plain : (p : Prefix) (l r : Option Entry) → prefix_of (plain p l r) ≡ p
prefix_plain p none r = refl
prefix_plain p (some l) none = refl
prefix_plain p (some l) (some r) = refl

pub prefix_covered : (p : Prefix) (l r c d : Option Entry) → prefix_of (covered p l r c d) ≡ p
prefix_covered p none r c d = refl
prefix_covered p (some l) none c d = refl
prefix_covered p (some l) (some r) c d = refl

-- o is the longest of es that leads p: one of them that leads p, none of those that lead p being longer; or none leads p
pub data IsLongest (p : Prefix) (es : List Entry) : Option Entry → Type 0 where
  no_longest : All (λ e. leads e.at p ≡ false) es → IsLongest p es none
  cover : {e : Entry} → Memᴰ e es → leads e.at p ≡ true → All (λ x. leads x.at p ≡ true → x.at.len ≤ e.at.len) es
      → IsLongest p es (some e)
