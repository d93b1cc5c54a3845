-- The walk, one step at a time: what each step does, as code does it, and what a level still has to give.
use Rattle.std.specs.Prelude.{Bool, true, false, not, ◌&&◌, ◌||◌, List, [], ◌∷◌, ◌++◌, ℕ, zero, suc, ◌+◌, ◌-◌, ◌/◌, ◌^◌, eqb, leb, get_or, None, Some}
use Rattle.std.specs.Int.Count.{count_trailing_zeros}
use Rattle.defs.specs.declared.Prefix.{Prefix}
use Rattle.defs.specs.declared.Operation.{Operation}
use Rattle.defs.specs.declared.Operation.TheVariants.{Union, Intersection, Difference, CoveringDifference, CoveringUnion}
use Rattle.defs.specs.Basics.{if◌then◌otherwise◌, each}
use Rattle.defs.specs.Prefix.{deeper}
use Rattle.defs.specs.Pool.{data_of, child_of, bit, data_bit}
use Rattle.defs.specs.Entries.{Place, data_place, child_place, places}
use Rattle.defs.specs.Lists.{Record, missing, no_cover}
use Rattle.defs.specs.Tidy.{word_of}
use Rattle.defs.specs.Outcome.{Side}
use Rattle.theory.specs.declared.Covers.{Covers}
use Rattle.theory.specs.declared.Item.{Item}
use Rattle.theory.specs.declared.Item.TheVariants.{Left, Right, Both}
use Rattle.theory.specs.declared.Level.{Level}
use Rattle.theory.specs.declared.Step.{Step}
use Rattle.theory.specs.declared.Step.TheVariants as step
use Rattle.theory.specs.Sides.{side_held, child_in, value_in}
use Rattle.theory.specs.Nodes.{place_records}
use Rattle.theory.specs.Picks.{picks}
use Rattle.theory.specs.Contexts.{entry_for}
use Rattle.theory.specs.Todo.{picked}
use Rattle.theory.specs.Kinds.{a_cover, Cover, Emit, Node, Value}

-- what a walk is given: the list, and two sides
pub record Job : Type 0 where
  pub op : Operation
  pub left : Side
  pub right : Side

-- the value word and the cover word of a cover
abbrev pub value_for : Cover → ℕ
value_for None = missing
value_for (Some a) = a.value

abbrev pub len_for : Cover → ℕ
len_for None = no_cover
len_for (Some a) = a.len

-- the record of an item
abbrev pub item_record : Item → Record
item_record (Left p v c) = record { key = p.key; len = p.len; tag = 1; left = v; right = value_for c; cover = len_for c }
item_record (Right p v c) = record { key = p.key; len = p.len; tag = 2; left = value_for c; right = v; cover = len_for c }
item_record (Both p v u) = record { key = p.key; len = p.len; tag = 3; left = v; right = u; cover = no_cover }

-- the bit of a place in a node's two bitmaps
abbrev pub place_bit : ℕ → ℕ → Place → Bool
place_bit d c (data_place n v) = bit (data_bit n v) d
place_bit d c (child_place k) = bit k c

-- a side's node has the place's bit set
abbrev pub marked : List ℕ → Node → Place → Bool
marked w None x = false
marked w (Some i) x = place_bit (data_of w i) (child_of w i) x

-- a value at a place of so many bits is a nearer cover
abbrev pub nearer : Value → ℕ → Cover → Cover
nearer None n c = c
nearer (Some v) n c = a_cover n v

-- the nearest entry of a side above the n bits of value v in its node of prefix p, or else c
abbrev pub cover_bits : Side → Node → Prefix → Cover → ℕ → ℕ → Cover
cover_bits s o p c zero v = c
cover_bits s o p c (suc n) v = nearer (value_in s.pool s.root o n (v / 2) (deeper p n (v / 2))) (p.len + n) (cover_bits s o p c n (v / 2))

-- the same at a place or above it
abbrev pub cover_on : Side → Node → Prefix → Cover → Place → Cover
cover_on s o p c (data_place n v) = nearer (value_in s.pool s.root o n v (deeper p n v)) (p.len + n) (cover_bits s o p c n v)
cover_on s o p c (child_place v) = cover_bits s o p c 5 v

abbrev pub is_cover : Cover → Bool
is_cover None = false
is_cover (Some a) = true

-- whether a list wants a place, by the two sides' bits there and whether the right side covers it
abbrev pub wants : Operation → Bool → Bool → Bool → Bool
wants Union l r c = l || r
wants Intersection l r c = l && r
wants Difference l r c = l
wants CoveringDifference l r c = l && not c
wants CoveringUnion l r c = l || r

abbrev pub wanted : Job → Prefix → Node → Node → Covers → Place → Bool
wanted j p l r above x =
    wants j.op (marked j.left.pool l x) (marked j.right.pool r x) (is_cover (cover_on j.right r p above.right x))

-- the level of two nodes of prefix p, every wanted place still to visit
abbrev pub enter : Job → Prefix → Node → Node → Covers → Level
enter j p l r above = record { prefix = p; left = l; right = r; above = above; todo = word_of (wanted j p l r above) places }

abbrev pub no_covers : Covers
no_covers = record { left = None; right = None }

-- covers travel with the covering union alone
abbrev pub carried : Operation → Covers → Covers
carried CoveringUnion c = c
carried Union c = no_covers
carried Intersection c = no_covers
carried Difference c = no_covers
carried CoveringDifference c = no_covers

-- what a wanted data place of prefix q gives, by the values there and the covers above it
abbrev pub emit_union : Prefix → Value → Value → Cover → Cover → Emit
emit_union q None None cl cr = None
emit_union q (Some a) None cl cr = Some (Left q a cr)
emit_union q None (Some b) cl cr = Some (Right q b cl)
emit_union q (Some a) (Some b) cl cr = Some (Both q a b)

abbrev pub emit_both : Prefix → Value → Value → Emit
emit_both q (Some a) (Some b) = Some (Both q a b)
emit_both q (Some a) None = None
emit_both q None b = None

abbrev pub emit_left : Prefix → Value → Value → Emit
emit_left q (Some a) None = Some (Left q a None)
emit_left q (Some a) (Some b) = None
emit_left q None b = None

abbrev pub emit_of : Operation → Prefix → Value → Value → Cover → Cover → Emit
emit_of Union q a b cl cr = emit_union q a b None None
emit_of Intersection q a b cl cr = emit_both q a b
emit_of Difference q a b cl cr = emit_left q a b
emit_of CoveringDifference q a b cl cr = emit_left q a b
emit_of CoveringUnion q a b cl cr = emit_union q a b cl cr

-- a level without the place of one bit
abbrev pub without : Level → ℕ → Level
without f b = record { prefix = f.prefix; left = f.left; right = f.right; above = f.above; todo = f.todo - b }

-- the covers at a place of a level
abbrev pub covers_at : Job → Level → ℕ → ℕ → Covers
covers_at j f n v =
    record {
      left = cover_bits j.left f.left f.prefix f.above.left n v;
      right = cover_bits j.right f.right f.prefix f.above.right n v;
    }

abbrev pub given : Emit → Level → Step
given None f = step.Skip f
given (Some i) f = step.Record i f

-- down to two children of prefix q, unless there is none
abbrev pub down_to : Job → Level → Prefix → Node → Node → Covers → Step
down_to j f q None None above = step.Skip f
down_to j f q None (Some b) above = step.Down f (enter j q None (Some b) above)
down_to j f q (Some a) r above = step.Down f (enter j q (Some a) r above)

-- what the data place of n bits of value v of a level gives
abbrev pub emit_at : Job → Level → ℕ → ℕ → Emit
emit_at j f n v =
    let q = deeper f.prefix n v in
    let c = covers_at j f n v in
    emit_of j.op q (value_in j.left.pool j.left.root f.left n v q) (value_in j.right.pool j.right.root f.right n v q) c.left c.right

-- what a place comes to; f is the level without it
abbrev pub step_at : Job → Level → Place → Step
step_at j f (data_place n v) = given (emit_at j f n v) f
step_at j f (child_place k) =
    let q = deeper f.prefix 5 k in
    if leb 60 f.prefix.len then step.Skip f
    otherwise down_to j f q (child_in j.left.pool j.left.root f.left k q) (child_in j.right.pool j.right.root f.right k q)
    (carried j.op (covers_at j f 5 k))

-- the place of a level's lowest bit
abbrev pub place_of : ℕ → Place
place_of todo = get_or places (count_trailing_zeros 64 todo) (child_place 0)

-- the next step at a level
abbrev pub step_of : Job → Level → Step
step_of j f =
    if eqb f.todo 0 then step.Up otherwise step_at j (without f (2 ^ count_trailing_zeros 64 f.todo)) (place_of f.todo)

-- the levels of nodes below a level
abbrev pub below : Level → ℕ
below f = (60 - f.prefix.len) / 5

-- what a place of a level gives to the list, all that lies below it included
abbrev pub place_list : Job → Level → Place → List Record
place_list j f x =
    picks j.op
    (place_records f.prefix (side_held j.left.pool j.left.root (below f) f.left f.prefix) (side_held j.right.pool j.right.root (below f) f.right f.prefix)
    (entry_for f.above.left) (entry_for f.above.right) x)

-- what a level still has to give
abbrev pub level_rest : Job → Level → List Record
level_rest j f = each (place_list j f) (picked f.todo places)

-- what is still to be given after a step
abbrev pub step_rest : Job → Step → List Record
step_rest j step.Up = []
step_rest j (step.Skip f) = level_rest j f
step_rest j (step.Record i f) = item_record i ∷ level_rest j f
step_rest j (step.Down f g) = level_rest j g ++ level_rest j f
