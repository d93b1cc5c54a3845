-- What a side has at a place, or nothing, and what a place gives, or nothing: the types that the walk's code names.
use Rattle.std.specs.Prelude.{ℕ, Option, Some}
use Rattle.theory.specs.declared.Above.{Above}
use Rattle.theory.specs.declared.Item.{Item}

-- a node of a side, by its number in the pool, or none
abbrev pub Node : Type 0
Node = Option ℕ

-- a value index of a side, or none
abbrev pub Value : Type 0
Value = Option ℕ

-- the entry above a place, or none
abbrev pub Cover : Type 0
Cover = Option Above

-- the entry of length n with value v as a cover
abbrev pub a_cover : ℕ → ℕ → Cover
a_cover n v = Some (record { len = n; value = v })

-- what a data place gives to a list: an item, or none
abbrev pub Emit : Type 0
Emit = Option Item
