-- The entries of a pool and of a view: document 01, "Prefixes and pools" and "Views and the seven answers".
use Rattle.std.specs.Prelude.{List, [], ◌∷◌, ◌++◌, map, ℕ, zero, suc, ◌+◌, ◌*◌}
use Rattle.defs.specs.declared.Prefix.{Prefix}
use Rattle.defs.specs.Basics.{if◌then◌otherwise◌, keep, each}
use Rattle.defs.specs.Prefix.{leads, deeper, top}
use Rattle.defs.specs.Pool.{data_of, child_of, first_child, first_value, bit, rank, data_bit}

-- an entry: a prefix and its value index
pub record Entry : Type 0 where
  pub at : Prefix
  pub value : ℕ

-- a place in a node: that of the next n bits of value v (n from 0 to 4), or that of the child of the next 5 bits of value c
pub data Place : Type 0 where
  data_place : ℕ → ℕ → Place
  child_place : ℕ → Place

-- the places of the n bits of value v and of all longer ones, in prefix order, k levels above the children
abbrev pub places_at : ℕ → ℕ → ℕ → List Place
places_at zero n v = child_place v ∷ []
places_at (suc k) n v = data_place n v ∷ (places_at k (suc n) (2 * v) ++ places_at k (suc n) (2 * v + 1))

-- the 63 places of a node, in prefix order
unfoldable pub places : List Place
places = places_at 5 0 0

-- what a place of a node of prefix p holds: nothing where its bit is 0; else one entry, or what the child holds
abbrev pub held_at : List ℕ → (ℕ → Prefix → List Entry) → ℕ → Prefix → Place → List Entry
held_at w below node p (data_place n v) =
    if bit (data_bit n v) (data_of w node)
    then record { at = deeper p n v; value = first_value w node + rank (data_bit n v) (data_of w node) } ∷ []
    otherwise []
held_at w below node p (child_place c) =
    if bit c (child_of w node) then below (first_child w node + rank c (child_of w node)) (deeper p 5 c) otherwise []

-- the entries in a node of prefix p and below it, `levels` nodes deep
abbrev pub entries_at : List ℕ → ℕ → ℕ → Prefix → List Entry
entries_at w zero node p = []
entries_at w (suc levels) node p = each (held_at w (entries_at w levels) node p) places

-- all entries of a pool; 13 levels of 5 bits hold 64 bits
abbrev pub all_entries : List ℕ → List Entry
all_entries w = entries_at w 13 0 top

-- the entries of a list that a root leads
abbrev pub under : Prefix → List Entry → List Entry
under root = keep (λ e. leads root e.at)

-- the view of a pool at a root: exactly the entries that the root leads
abbrev pub view : List ℕ → Prefix → List Entry
view w root = under root (all_entries w)

-- the prefixes of entries
abbrev pub prefixes : List Entry → List Prefix
prefixes = map (λ e. e.at)
