-- D7, the tidy pool of a list of entries, and the old value index of each new one: document 01, "Views and the seven answers".
use Rattle.std.specs.Prelude.{Bool, List, [], ◌∷◌, ◌++◌, map, ℕ, zero, suc, ◌+◌, ◌*◌, ◌^◌, length}
use Rattle.defs.specs.declared.Prefix.{Prefix}
use Rattle.defs.specs.Basics.{if◌then◌otherwise◌, keep, any, each, up_to}
use Rattle.defs.specs.Prefix.{leads, same, deeper, top}
use Rattle.defs.specs.Entries.{Entry}
use Rattle.defs.specs.Lists.{is_in}

-- the prefixes of data bits 0 to 30 of a node of prefix p
unfoldable pub data_prefixes : Prefix → List Prefix
data_prefixes p = each (λ n. map (deeper p n) (up_to (2 ^ n))) (up_to 5)

-- the prefixes of children 0 to 31 of a node of prefix p
unfoldable pub child_prefixes : Prefix → List Prefix
child_prefixes p = map (deeper p 5) (up_to 32)

-- an entry lies at q or below it
abbrev pub is_under : List Entry → Prefix → Bool
is_under es q = any (λ e. leads q e.at) es

-- the entries in a node, in the order of their data bits
abbrev pub entries_in : List Entry → Prefix → List Entry
entries_in es p = each (λ q. keep (λ e. same q e.at) es) (data_prefixes p)

-- the children of a node: those that have an entry in them or below them
abbrev pub children_of : List Entry → Prefix → List Prefix
children_of es p = keep (is_under es) (child_prefixes p)

-- the nodes from one level on, level by level
abbrev pub nodes_from : List Entry → ℕ → List Prefix → List Prefix
nodes_from es zero ps = []
nodes_from es (suc levels) ps = ps ++ nodes_from es levels (each (children_of es) ps)

-- all nodes: the root, and every node that has an entry in it or below it
unfoldable pub nodes_of : List Entry → List Prefix
nodes_of es = nodes_from es 13 (top ∷ [])

module _ {A : Type 0} where
  -- the word whose bit b is 1 where the b-th of a list passes the test
  abbrev pub word_of : (A → Bool) → List A → ℕ
  word_of f [] = 0
  word_of f (x ∷ xs) = (if f x then 1 otherwise 0) + 2 * word_of f xs

-- the words of nodes, after nodes with so many children and values
abbrev pub pool_from : List Entry → List Prefix → ℕ → ℕ → List ℕ
pool_from es [] children values = []
pool_from es (p ∷ ps) children values =
    word_of (λ q. is_in q es) (data_prefixes p) ∷ word_of (is_under es) (child_prefixes p) ∷ (1 + children) ∷ values
    ∷ pool_from es ps (children + length (children_of es p)) (values + length (entries_in es p))

-- the tidy pool
abbrev pub tidy_pool : List Entry → List ℕ
tidy_pool es = pool_from es (nodes_of es) 0 0

-- the old value index of each new one
abbrev pub tidy_values : List Entry → List ℕ
tidy_values es = map (λ e. e.value) (each (entries_in es) (nodes_of es))
