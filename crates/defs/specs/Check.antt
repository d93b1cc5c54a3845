-- The pool check: document 01, the faults under "Prefixes and pools".
use Rattle.std.specs.Prelude.{not, ◌&&◌, ◌||◌, List, [], ◌∷◌, ◌++◌, ℕ, zero, suc, ◌+◌, ◌-◌, ◌^◌, ◌%◌, min, leb, ltb, eqb, length, replicate}
use Rattle.defs.specs.Basics.{if◌then◌otherwise◌}
use Rattle.defs.specs.Pool.{node_count, data_of, child_of, first_child, first_value, ones, data_bit}

-- the largest number of nodes in a pool
abbrev pub pool_limit : ℕ
pool_limit = 65536

-- a fault's number and its node; number 0 where there is none
pub record Fault : Type 0 where
  pub number : ℕ
  pub node : ℕ

-- the number of data bits that a node at a depth may use: those of at most 4 bits more, and of lengths up to the width
abbrev pub usable : ℕ → ℕ → ℕ
usable width depth = data_bit (min 5 (width + 1 - depth)) 0

-- the first of the faults 4 to 8 at node i, or 0; given are its depth and the child and data bits of all earlier nodes
abbrev pub fault_at : ℕ → List ℕ → ℕ → ℕ → ℕ → ℕ → ℕ
fault_at width w i depth children values =
    if leb (2 ^ usable width depth) (data_of w i) then 4
    otherwise if leb width (depth + 4) && ltb 0 (child_of w i) then 5
    otherwise if not (eqb (first_child w i) (1 + children)) then 6
    otherwise if ltb (node_count w) (first_child w i + ones (child_of w i)) then 7
    otherwise if not (eqb (first_value w i) values) then 8
    otherwise 0

-- the first fault of `left` nodes from node i on; `depths`: those of the children of earlier nodes, from node i on
abbrev pub fault_from : ℕ → List ℕ → ℕ → ℕ → List ℕ → ℕ → ℕ → Fault
fault_from width w zero i depths children values = record { number = 0; node = 0 }
fault_from width w (suc left) i [] children values = record { number = 3; node = i }
fault_from width w (suc left) i (depth ∷ depths) children values =
    let fault = fault_at width w i depth children values in
    if ltb 0 fault then record { number = fault; node = i }
    otherwise fault_from width w left (suc i) (depths ++ replicate (ones (child_of w i)) (depth + 5))
    (children + ones (child_of w i)) (values + ones (data_of w i))

-- the first fault of a pool, and its node; the root is the one node that is no child
abbrev pub fault_of : ℕ → List ℕ → Fault
fault_of width w =
    if eqb (length w) 0 || not (eqb (length w % 4) 0) then record { number = 1; node = 0 }
    otherwise if ltb pool_limit (node_count w) then record { number = 2; node = 0 }
    otherwise fault_from width w (node_count w) 0 (0 ∷ []) 0 0
