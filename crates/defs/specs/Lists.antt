-- The answers D1 to D6, from the entries L and R of two views: document 01, "Views and the seven answers".
use Rattle.std.specs.Prelude.{Bool, not, ◌&&◌, List, [], ◌∷◌, map, ℕ}
use Rattle.std.proofs.Math.Option.{Option, none, some}
use Rattle.defs.specs.declared.Prefix.{Prefix}
use Rattle.defs.specs.declared.Operation.{Operation}
use Rattle.defs.specs.declared.Operation.TheVariants.{Union, Intersection, Difference, CoveringDifference, CoveringUnion}
use Rattle.defs.specs.Basics.{if◌then◌otherwise◌, keep, any, every}
use Rattle.defs.specs.Prefix.{leads, before, same}
use Rattle.defs.specs.Entries.{Entry, prefixes}

-- the mark of a missing value
abbrev pub missing : ℕ
missing = 4294967295

-- the mark of a missing cover length
abbrev pub no_cover : ℕ
no_cover = 255

-- the value of an entry, or the mark
abbrev pub value_of : Option Entry → ℕ
value_of none = missing
value_of (some e) = e.value

-- the length of an entry as a cover, or the mark
abbrev pub cover_of : Option Entry → ℕ
cover_of none = no_cover
cover_of (some e) = e.at.len

-- a record; tag is 1 for left, 2 for right, 3 for both
pub record Record : Type 0 where
  pub key : ℕ
  pub len : ℕ
  pub tag : ℕ
  pub left : ℕ
  pub right : ℕ
  pub cover : ℕ

-- the number of words of a record
abbrev pub record_words : ℕ
record_words = 6

-- the words of a record
abbrev pub words_of : Record → List ℕ
words_of r = r.key ∷ r.len ∷ r.tag ∷ r.left ∷ r.right ∷ r.cover ∷ []

-- the record of prefix p, with a tag, what stands in its two value words, and its cover
abbrev pub record_of : Prefix → ℕ → Option Entry → Option Entry → Option Entry → Record
record_of p tag l r cover =
    record { key = p.key; len = p.len; tag = tag; left = value_of l; right = value_of r; cover = cover_of cover }

-- an ascending list of prefixes with p put in, once
abbrev pub put : Prefix → List Prefix → List Prefix
put p [] = p ∷ []
put p (q ∷ qs) = if before p q then p ∷ q ∷ qs otherwise if before q p then q ∷ put p qs otherwise q ∷ qs

-- the prefixes of either list, in order
abbrev pub merge : List Prefix → List Prefix → List Prefix
merge [] qs = qs
merge (p ∷ ps) qs = put p (merge ps qs)

-- the prefixes of L and R, in order
abbrev pub all_of : List Entry → List Entry → List Prefix
all_of L R = merge (prefixes L) (prefixes R)

-- the entry of prefix p, or none
abbrev pub find : Prefix → List Entry → Option Entry
find p [] = none
find p (e ∷ es) = if same p e.at then some e otherwise find p es

-- p is the prefix of an entry
abbrev pub is_in : Prefix → List Entry → Bool
is_in p = any (λ e. same p e.at)

-- an entry leads p
abbrev pub is_led : Prefix → List Entry → Bool
is_led p = any (λ e. leads e.at p)

-- the last entry that leads p, which is the longest where they ascend; or else c
abbrev pub longest : Option Entry → List Entry → Prefix → Option Entry
longest c [] p = c
longest c (e ∷ es) p = longest (if leads e.at p then some e otherwise c) es p

-- the record of prefix p, from its entries on the two sides
abbrev pub plain : Prefix → Option Entry → Option Entry → Record
plain p (some l) (some r) = record_of p 3 (some l) (some r) none
plain p (some l) none = record_of p 1 (some l) none none
plain p none r = record_of p 2 none r none

-- the same with the cover of a one-sided record, from the longest entry of each side that leads p
abbrev pub covered : Prefix → Option Entry → Option Entry → Option Entry → Option Entry → Record
covered p (some l) (some r) above-l above-r = record_of p 3 (some l) (some r) none
covered p (some l) none above-l above-r = record_of p 1 (some l) above-r above-r
covered p none r above-l above-r = record_of p 2 above-l r above-l

-- the record of an entry of the left side alone
abbrev pub left_only : Entry → Record
left_only e = plain e.at (some e) none

-- D1 to D5
abbrev pub records_of : Operation → List Entry → List Entry → List Record
records_of Union L R = map (λ p. plain p (find p L) (find p R)) (all_of L R)
records_of Intersection L R = map (λ e. plain e.at (some e) (find e.at R)) (keep (λ e. is_in e.at R) L)
records_of Difference L R = map left_only (keep (λ e. not (is_in e.at R)) L)
records_of CoveringDifference L R = map left_only (keep (λ e. not (is_led e.at R)) L)
records_of CoveringUnion L R = map (λ p. covered p (find p L) (find p R) (longest none L p) (longest none R p)) (all_of L R)

-- D6: each prefix of L is one of R, and each of R one of L
abbrev pub same_keys : List Entry → List Entry → Bool
same_keys L R = every (λ e. is_in e.at R) L && every (λ e. is_in e.at L) R
