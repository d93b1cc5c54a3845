-- Where value order and prefix order differ: the value list of a tidy pool stands in value order.
use Rattle.std.specs.Prelude.{◌≡◌, refl, List, [], ◌∷◌, map, ℕ}
use Rattle.std.specs.Int.Count.{ones_in}
use Rattle.defs.specs.Prefix.{leads, before, same, top}
use Rattle.defs.specs.Entries.{places, view}
use Rattle.defs.specs.Tidy.{data_prefixes, child_prefixes, nodes_of, tidy_values}

-- 0.0.0.0/0 and 128.0.0.0/1 in the root, with values 0 and 1, and 0.0.0.0/5 in its first child, with value 2
abbrev pub sample : List ℕ
sample = 5 ∷ 1 ∷ 1 ∷ 0 ∷ 1 ∷ 0 ∷ 2 ∷ 2 ∷ []

-- its values in prefix order
pub by_prefix : map (λ e. e.value) (view sample top) ≡ 0 ∷ 2 ∷ 1 ∷ []
unfolding ones_in leads places
by_prefix = refl

-- its value list
pub by_value : tidy_values (view sample top) ≡ 0 ∷ 1 ∷ 2 ∷ []
unfolding ones_in leads before same places data_prefixes child_prefixes nodes_of
by_value = refl
