-- What an input says, or its first bad line.
use Rattle.std.specs.Prelude.{Bool, ◌&&◌, List, [], ◌∷◌, ◌++◌, ℕ, zero, suc, ◌+◌, ◌/◌, min, ltb, eqb, length, take, drop, Option, Some, None, Result, Ok, Err}
use Prim.Native.Char.{code}
use Rattle.defs.specs.Basics.{if◌then◌otherwise◌}
use Rattle.defs.specs.declared.Prefix.{Prefix}
use Rattle.defs.specs.Pool.{ones, node_count}
use Rattle.defs.specs.Cases.{same_words}
use Rattle.defs.specs.declared.Operation.TheVariants.{Union, Intersection, Difference, CoveringDifference, CoveringUnion}
use Rattle.text.specs.declared.Call.{Call}
use Rattle.text.specs.declared.Call.TheVariants.{Listing, Equality}
use Rattle.text.specs.declared.Said.{Said}
use Rattle.text.specs.declared.BadInput.{BadInput}
use Rattle.text.specs.declared.BadInput.TheVariants.{TooLong, Line}
use Rattle.text.specs.declared.Node.{Node}
use Rattle.text.specs.declared.Head.{Head}
use Rattle.text.specs.Bytes.{bytes, tab, is_at, line, rest, skip, line_at}
use Rattle.text.specs.Numbers.{decimal_of, hex_of}

-- the number that the E line shows of a refused input: 0 where it is too long, else the line's
abbrev pub line_number : BadInput → ℕ
line_number TooLong = 0
line_number (Line k) = k

-- a line starts with this letter and a tab
abbrev pub starts : ℕ → List ℕ → Bool
starts letter s = is_at 0 letter s && is_at 1 tab s

-- line W: the width
abbrev pub width_line : List ℕ → Option ℕ
width_line s = if starts (code "W") s then decimal_of (drop 2 s) otherwise None

-- the operations by name
abbrev pub call_of : List ℕ → Option Call
call_of s =
    if same_words s (bytes "union") then Some (Listing Union)
    otherwise if same_words s (bytes "intersection") then Some (Listing Intersection)
    otherwise if same_words s (bytes "difference") then Some (Listing Difference)
    otherwise if same_words s (bytes "covering-difference") then Some (Listing CoveringDifference)
    otherwise if same_words s (bytes "covering-union") then Some (Listing CoveringUnion)
    otherwise if same_words s (bytes "equality") then Some Equality
    otherwise None

-- line O: the operation
abbrev pub call_line : List ℕ → Option Call
call_line s = if starts (code "O") s then call_of (drop 2 s) otherwise None

-- a root from its key and length
abbrev pub root_of : Option ℕ → Option ℕ → Option Prefix
root_of (Some key) (Some len) = Some (record { key = key; len = len })
root_of (Some key) None = None
root_of None len = None

-- line L or R: a key of 16 digits, a tab, a length
abbrev pub root_line : ℕ → List ℕ → Option Prefix
root_line letter s = if starts letter s && is_at 18 tab s then root_of (hex_of 16 (take 16 (drop 2 s))) (decimal_of (drop 19 s)) otherwise None

-- a node from its two bitmaps
abbrev pub node_of : Option ℕ → Option ℕ → Option Node
node_of (Some d) (Some c) = Some (record { data_bits = d; child_bits = c })
node_of (Some d) None = None
node_of None c = None

-- line l or r: a bitmap of 8 digits, a tab, a bitmap of 8 digits
abbrev pub node_line : ℕ → List ℕ → Option Node
node_line letter s = if starts letter s && is_at 10 tab s then node_of (hex_of 8 (take 8 (drop 2 s))) (hex_of 8 (drop 11 s)) otherwise None

-- the four lines at the top, or the first bad one
abbrev pub head_of : Option ℕ → Option Call → Option Prefix → Option Prefix → Result Head BadInput
head_of None c l r = Err (Line 1)
head_of (Some w) None l r = Err (Line 2)
head_of (Some w) (Some c) None r = Err (Line 3)
head_of (Some w) (Some c) (Some l) None = Err (Line 4)
head_of (Some w) (Some c) (Some l) (Some r) = Ok (record { width = w; call = c; left = l; right = r })

-- the lines W, O, L and R, with which an input starts
abbrev pub top_of : List ℕ → Result Head BadInput
top_of s = head_of (width_line (line_at 0 s)) (call_line (line_at 1 s)) (root_line (code "L") (line_at 2 s)) (root_line (code "R") (line_at 3 s))

-- the node lines of one side: the words of its pool, and what follows the lines
pub record Side : Type 0 where
  pub words : List ℕ
  pub left_over : List ℕ

-- a side with words in front
abbrev pub behind_words : List ℕ → Side → Side
behind_words w s = record { words = w ++ s.words; left_over = s.left_over }

-- what f gives for a node, or else the other side
abbrev pub for_node : Option Node → Side → (ℕ → ℕ → Side) → Side
for_node (Some node) other f = f node.data_bits node.child_bits
for_node None other f = other

-- the node lines that the input goes on with, at most so many; first child and first value are counted from line to line
abbrev pub side_of : ℕ → ℕ → ℕ → ℕ → List ℕ → Side
side_of letter zero child value s = record { words = []; left_over = s }
side_of letter (suc room) child value s =
    for_node (node_line letter (line s)) (record { words = []; left_over = s })
    (λ d c. behind_words (d ∷ c ∷ child ∷ value ∷ []) (side_of letter room (child + ones c) (value + ones d) (rest s)))

-- the nodes that a side may have: 1,024, and no more than the lent buffer holds
abbrev pub room_of : List ℕ → ℕ
room_of buffer = min 1024 (length buffer / 4)

-- a buffer with new words at its front
abbrev pub over : List ℕ → List ℕ → List ℕ
over new old = new ++ drop (length new) old

-- what reading leaves: its answer and the two lent buffers
pub record Outcome : Type 0 where
  pub request : Result Said BadInput
  pub left : List ℕ
  pub right : List ℕ

-- the input is good where nothing follows the node lines; otherwise the next line is bad
abbrev pub request_of : Head → Side → Side → Result Said BadInput
request_of h l r =
    if eqb (length r.left_over) 0 then Ok (record { head = h; left = length l.words; right = length r.words })
    otherwise Err (Line (5 + node_count l.words + node_count r.words))

-- the words of the good node lines stand in the buffers, also where a later line is bad
abbrev pub nodes_read : Head → Side → Side → List ℕ → List ℕ → Outcome
nodes_read h l r left right = record { request = request_of h l r; left = over l.words left; right = over r.words right }

-- with a good top the node lines are read; a bad top leaves the buffers as they were
abbrev pub after_head : Result Head BadInput → List ℕ → List ℕ → List ℕ → Outcome
after_head (Err e) s left right = record { request = Err e; left = left; right = right }
after_head (Ok h) s left right =
    let l = side_of (code "l") (room_of left) 1 0 s in
    let r = side_of (code "r") (room_of right) 1 0 l.left_over in
    nodes_read h l r left right

-- reading an input into two lent buffers; an input longer than 65,536 bytes is line 0
abbrev pub read_outcome : List ℕ → List ℕ → List ℕ → Outcome
read_outcome s left right =
    if ltb 65536 (length s) then record { request = Err TooLong; left = left; right = right }
    otherwise after_head (top_of s) (skip 4 s) left right
