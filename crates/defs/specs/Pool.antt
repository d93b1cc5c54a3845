-- The words of a pool: document 01, "Prefixes and pools". Node i has the four words from 4 * i on.
use Rattle.std.specs.Prelude.{Bool, List, ℕ, ◌+◌, ◌-◌, ◌*◌, ◌/◌, ◌%◌, ◌^◌, eqb, get_or, length}
use Rattle.std.specs.Int.Count.{ones_in}

-- the number of nodes
abbrev pub node_count : List ℕ → ℕ
node_count w = length w / 4

-- the data bitmap of node i
abbrev pub data_of : List ℕ → ℕ → ℕ
data_of w i = get_or w (4 * i) 0

-- the child bitmap of node i
abbrev pub child_of : List ℕ → ℕ → ℕ
child_of w i = get_or w (4 * i + 1) 0

-- the number of the first child of node i
abbrev pub first_child : List ℕ → ℕ → ℕ
first_child w i = get_or w (4 * i + 2) 0

-- the index of the first value of node i
abbrev pub first_value : List ℕ → ℕ → ℕ
first_value w i = get_or w (4 * i + 3) 0

-- bit b of a word is set
abbrev pub bit : ℕ → ℕ → Bool
bit b x = eqb (x / 2 ^ b % 2) 1

-- the count of ones below bit b of a word
abbrev pub rank : ℕ → ℕ → ℕ
rank b x = ones_in b x

-- the count of ones of a word
abbrev pub ones : ℕ → ℕ
ones x = rank 32 x

-- the data bit of the n bits of value v
abbrev pub data_bit : ℕ → ℕ → ℕ
data_bit n v = 2 ^ n - 1 + v
