-- The places that each list wants, as bitmaps: they pick, place by place, what the walk's definition wants.
use Rattle.std.specs.Prelude.{◌≡◌, refl, Bool, not, ◌&&◌, ◌||◌, List}
use Rattle.std.specs.Int.Bits.{bit_and, bit_or, bit_xor}
use Rattle.defs.specs.Pool.{data_bit}
use Rattle.defs.specs.Entries.{Place, data_place, child_place}
use Rattle.defs.specs.Tidy.{word_of}
use Rattle.defs.specs.Lemmas.{All, nil, more}
use Rattle.theory.specs.Steps.{place_bit}
use Rattle.view.specs.declared.Bitmaps.{Bitmaps}
use Rattle.view.specs.declared.Coverage.{Coverage}
use Rattle.rules.specs.BitLaws.{bit_and_lem, bit_or_lem, bit_less}

-- bits of either
abbrev pub either_of : Bitmaps → Bitmaps → Bitmaps
either_of l r = record { «data» = bit_or l.data r.data; child = bit_or l.child r.child }

-- bits of both
abbrev pub both_of : Bitmaps → Bitmaps → Bitmaps
both_of l r = record { «data» = bit_and l.data r.data; child = bit_and l.child r.child }

-- bits that are not covered
abbrev pub less_of : Bitmaps → Coverage → Bitmaps
less_of l r = record { «data» = bit_xor l.data (bit_and l.data r.data); child = bit_xor l.child (bit_and l.child r.child) }

-- a bitmap's bit of a place
abbrev pub place_in : Bitmaps → Place → Bool
place_in b x = place_bit b.data b.child x

pub either_bit : (l r : Bitmaps) (x : Place) → place_in (either_of l r) x ≡ (place_in l x || place_in r x)
either_bit l r (data_place n v) = bit_or_lem l.data r.data (data_bit n v)
either_bit l r (child_place c) = bit_or_lem l.child r.child c

pub both_bit : (l r : Bitmaps) (x : Place) → place_in (both_of l r) x ≡ (place_in l x && place_in r x)
both_bit l r (data_place n v) = bit_and_lem l.data r.data (data_bit n v)
both_bit l r (child_place c) = bit_and_lem l.child r.child c

pub less_bit : (l : Bitmaps) (r : Coverage) (x : Place) → place_in (less_of l r) x ≡ (place_in l x && not (place_bit r.data r.child x))
less_bit l r (data_place n v) = bit_less l.data r.data (data_bit n v)
less_bit l r (child_place c) = bit_less l.child r.child c

-- the map of a list hangs on the tests at its members alone
pub word_on : {A : Type 0} {P : A → Type 0} (f g : A → Bool) → ((x : A) → P x → f x ≡ g x) → {l : List A} → All P l → word_of f l ≡ word_of g l
word_on f g e nil = refl
word_on f g e (more {x = x} h hs) = rw (e x h, word_on f g e hs)
