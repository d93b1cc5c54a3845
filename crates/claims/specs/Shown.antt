-- A small input for each call, and what the call is to give there, computed.
use Rattle.std.specs.Prelude.{◌≡◌, refl, true, ◌&&◌, List, [], ◌∷◌, ◌++◌, ℕ, ◌^◌, eqb, get_or, replicate}
use Rattle.std.proofs.Common.{arith}
use Rattle.std.specs.Int.Count.{ones_in}
use Rattle.defs.specs.declared.Operation.{Operation}
use Rattle.defs.specs.declared.Operation.TheVariants.{Union, Intersection, Difference, CoveringDifference, CoveringUnion}
use Rattle.defs.specs.Basics.{if◌then◌otherwise◌}
use Rattle.defs.specs.Prefix.{leads, before, same}
use Rattle.defs.specs.Entries.{places}
use Rattle.defs.specs.Tidy.{data_prefixes, child_prefixes, nodes_of}
use Rattle.defs.specs.Outcome.{Listed, answer}
use Rattle.defs.specs.Cases.{C, ip, ◌at◌, whole, gone}
use Rattle.defs.specs.Borders.{one}
use Rattle.claims.specs.Inputs.{ListInput, EqualInput, TidyInput, CheckInput, fit_side, list_at, equal_at, tidy_at, check_at}

-- ---- pools of one node, beside `one`, {128/1}, and C, {0/0} with an empty node
-- no entries
abbrev pub empty : List ℕ
empty = 0 ∷ 0 ∷ 1 ∷ 0 ∷ []

-- {0/0}
abbrev pub all : List ℕ
all = 1 ∷ 0 ∷ 1 ∷ 0 ∷ []

-- {0/1, 128/1}
abbrev pub halves : List ℕ
halves = 6 ∷ 0 ∷ 1 ∷ 0 ∷ []

-- {0/0, 128/1}
abbrev pub all_and_half : List ℕ
all_and_half = 5 ∷ 0 ∷ 1 ∷ 0 ∷ []

-- room for one record
abbrev pub room : List ℕ
room = 7 ∷ 7 ∷ 7 ∷ 7 ∷ 7 ∷ 7 ∷ []

-- ---- lists
-- a right side with which the list of {128/1} has a record: {128/1} itself, or nothing
abbrev pub beside : Operation → List ℕ
beside Union = one
beside Intersection = one
beside Difference = empty
beside CoveringDifference = empty
beside CoveringUnion = one

-- that record
abbrev pub shown : Operation → List ℕ
shown Union = 2 ^ 63 ∷ 1 ∷ 3 ∷ 0 ∷ 0 ∷ 255 ∷ []
shown Intersection = 2 ^ 63 ∷ 1 ∷ 3 ∷ 0 ∷ 0 ∷ 255 ∷ []
shown Difference = 2 ^ 63 ∷ 1 ∷ 1 ∷ 0 ∷ gone ∷ 255 ∷ []
shown CoveringDifference = 2 ^ 63 ∷ 1 ∷ 1 ∷ 0 ∷ gone ∷ 255 ∷ []
shown CoveringUnion = 2 ^ 63 ∷ 1 ∷ 3 ∷ 0 ∷ 0 ∷ 255 ∷ []

-- its second word is its length, 1
pub shown_length : (op : Operation) → get_or (shown op) 1 0 ≡ 1
shown_length Union = refl
shown_length Intersection = refl
shown_length Difference = refl
shown_length CoveringDifference = refl
shown_length CoveringUnion = refl

pub beside_fits : (op : Operation) → (fit_side (whole (beside op)) && true) ≡ true
beside_fits Union = refl
beside_fits Intersection = refl
beside_fits Difference = refl
beside_fits CoveringDifference = refl
beside_fits CoveringUnion = refl

-- the input with that one record
abbrev pub one_record : Operation → ListInput
one_record op = record { width = 32; left = whole one; right = whole (beside op); out = room; fits = beside_fits op }

pub gives_one : (op : Operation) → list_at op (one_record op) ≡ record { answer = answer 0 1 0; output = shown op }
unfolding ones_in leads before same places
gives_one Union = refl
gives_one Intersection = refl
gives_one Difference = refl
gives_one CoveringDifference = refl
gives_one CoveringUnion = refl

-- an input without records
abbrev pub no_record : ListInput
no_record = record { width = 32; left = whole empty; right = whole empty; out = room; fits = refl }

pub gives_none : (op : Operation) → list_at op no_record ≡ record { answer = answer 0 0 0; output = room }
unfolding ones_in leads before same places
gives_none Union = refl
gives_none Intersection = refl
gives_none Difference = refl
gives_none CoveringDifference = refl
gives_none CoveringUnion = refl

-- an input at which no two lists are the same
abbrev pub all_differ : ListInput
all_differ = record { width = 32; left = whole halves; right = whole all_and_half; out = replicate 18 7; fits = refl }

-- which list it was: by the count, and where that is the same by the tag or by the right value word of the second record
abbrev pub which : Listed → Operation
which o =
    if eqb o.answer.beside 0 then CoveringDifference
    otherwise if eqb o.answer.beside 3 then (if eqb (get_or o.output 10 0) gone then Union otherwise CoveringUnion)
    otherwise (if eqb (get_or o.output 2 0) 3 then Intersection otherwise Difference)

pub tells_list : (op : Operation) → which (list_at op all_differ) ≡ op
unfolding ones_in leads before same places
tells_list Union = refl
tells_list Intersection = refl
tells_list Difference = refl
tells_list CoveringDifference = refl
tells_list CoveringUnion = refl

-- an input at which each list changes when the sides are swapped, and that input swapped
abbrev pub straight : ListInput
straight = record { width = 32; left = whole halves; right = whole one; out = replicate 12 7; fits = refl }

abbrev pub swapped : ListInput
swapped = record { width = 32; left = whole one; right = whole halves; out = replicate 12 7; fits = refl }

-- a word that tells them apart: the first tag, the first left value or the count
abbrev pub teller : Operation → Listed → ℕ
teller Union o = get_or o.output 2 0
teller Intersection o = get_or o.output 3 0
teller Difference o = o.answer.beside
teller CoveringDifference o = o.answer.beside
teller CoveringUnion o = get_or o.output 2 0

pub tells_sides : (op : Operation) → (teller op (list_at op straight) ≡ 1) × (teller op (list_at op swapped) ≡ 1 → ⊥)
unfolding ones_in leads before same places
tells_sides Union = (refl, λ e. omega arith)
tells_sides Intersection = (refl, λ e. omega arith)
tells_sides Difference = (refl, λ e. omega arith)
tells_sides CoveringDifference = (refl, λ e. omega arith)
tells_sides CoveringUnion = (refl, λ e. omega arith)

-- ---- key equality
-- two pools that hold the same, two that do not, and two that hold the same in different words
abbrev pub alike : EqualInput
alike = record { width = 32; left = whole one; right = whole one; fits = refl }

abbrev pub unlike : EqualInput
unlike = record { width = 32; left = whole one; right = whole empty; fits = refl }

abbrev pub other_words : EqualInput
other_words = record { width = 32; left = whole C; right = whole all; fits = refl }

pub gives_yes : equal_at alike ≡ answer 0 1 0
unfolding ones_in leads before same places
gives_yes = refl

pub gives_no : equal_at unlike ≡ answer 0 0 0
unfolding ones_in leads before same places
gives_no = refl

pub gives_yes_still : equal_at other_words ≡ answer 0 1 0
unfolding ones_in leads before same places
gives_yes_still = refl

-- ---- tidying
-- a side, with room for two nodes and one value
abbrev pub eight : List ℕ
eight = 7 ∷ 7 ∷ 7 ∷ 7 ∷ 7 ∷ 7 ∷ 7 ∷ 7 ∷ []

abbrev pub slot : List ℕ
slot = 7 ∷ []

-- {128/1}, which is tidy
abbrev pub tidy_one : TidyInput
tidy_one = record { width = 32; side = whole one; out = eight; values = slot; fits = refl }

pub gives_itself : tidy_at tidy_one ≡ record { answer = answer 0 1 0; output = one ++ (7 ∷ 7 ∷ 7 ∷ 7 ∷ []); values = 0 ∷ [] }
unfolding ones_in leads before same places data_prefixes child_prefixes nodes_of
gives_itself = refl

-- {0/0} with an empty node, which is not
abbrev pub tidy_loose : TidyInput
tidy_loose = record { width = 32; side = whole C; out = eight; values = slot; fits = refl }

pub gives_less : tidy_at tidy_loose ≡ record { answer = answer 0 1 0; output = all ++ (7 ∷ 7 ∷ 7 ∷ 7 ∷ []); values = 0 ∷ [] }
unfolding ones_in leads before same places data_prefixes child_prefixes nodes_of
gives_less = refl

-- {0/5}, in two nodes
abbrev pub two : List ℕ
two = 0 ∷ 1 ∷ 1 ∷ 0 ∷ 1 ∷ 0 ∷ 2 ∷ 0 ∷ []

abbrev pub tidy_two : TidyInput
tidy_two = record { width = 32; side = whole two; out = eight; values = slot; fits = refl }

pub gives_two : tidy_at tidy_two ≡ record { answer = answer 0 2 0; output = two; values = 0 ∷ [] }
unfolding ones_in leads before same places data_prefixes child_prefixes nodes_of
gives_two = refl

-- {0/0, 128/1} at 128/1, whose one value is the old one of index 1
abbrev pub tidy_upper : TidyInput
tidy_upper = record { width = 32; side = all_and_half at ip 128 0 1; out = eight; values = slot; fits = refl }

pub gives_upper : tidy_at tidy_upper ≡ record { answer = answer 0 1 0; output = one ++ (7 ∷ 7 ∷ 7 ∷ 7 ∷ []); values = 1 ∷ [] }
unfolding ones_in leads before same places data_prefixes child_prefixes nodes_of
gives_upper = refl

-- ---- the check
-- a good pool, and one of no words
abbrev pub good_pool : CheckInput
good_pool = record { width = 32; words = one; fits = refl }

abbrev pub no_words : CheckInput
no_words = record { width = 32; words = []; fits = refl }

pub gives_good : check_at good_pool ≡ answer 0 1 0
unfolding ones_in
gives_good = refl

pub gives_fault : check_at no_words ≡ answer 2 0 1
gives_fault = refl
