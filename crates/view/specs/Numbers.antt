-- The places of a node by their numbers: 2 ^ n + v for the n bits of value v, 32 + c for child c.
use Rattle.std.specs.Prelude.{◌≡◌, refl, List, [], ◌∷◌, map, ℕ, zero, suc, ◌+◌, ◌-◌, ◌^◌, ◌≤◌, ◌<◌, length, get_or}
use Rattle.std.proofs.Common.{sym, ap, ap₂, arith, not-suc-le-zero, le_of_suc-le-suc, pow_pos, pow_mono}
use Rattle.defs.specs.Entries.{Place, data_place, child_place, places}
use Rattle.defs.specs.Lemmas.{All, nil, more}
use Rattle.bits.specs.Places.{place_len, place_value}
use Rattle.bits.specs.PlaceLaws.{place_len_lem, place_value_lem}
use Rattle.theory.specs.Unwanted.{InNode, places_in_node}
use Rattle.theory.specs.Walk.{places_length}

-- the number of a place, as in a heap
abbrev pub number_of : Place → ℕ
number_of (data_place n v) = 2 ^ n + v
number_of (child_place c) = 32 + c

-- what a place's number h says of it
pub record Numbered (x : Place) (h : ℕ) : Type 0 where
  pub some : 0 < h
  pub below : h < 64
  pub is_data : h < 32 → x ≡ data_place (place_len h) (place_value h)
  pub is_child : 32 ≤ h → x ≡ child_place (h - 32)

pub numbered : (x : Place) → InNode x → Numbered x (number_of x)
numbered (data_place n v) i =
    let m = pow_mono i.0 in
    record {
      some = omega (arith, pow_pos n);
      below = omega (arith, i.1);
      is_data = λ l. sym (ap₂ data_place (place_len_lem n v (omega (arith, i.0)) i.1) (place_value_lem n v (omega (arith, i.0)) i.1));
      is_child = λ l. absurd (omega (arith, i.1));
    }
numbered (child_place c) i =
    record { some = omega arith; below = omega arith; is_data = λ l. absurd (omega arith); is_child = λ l. ap child_place (omega arith) }

pub all_at : {A : Type 0} {P : A → Type 0} {l : List A} → All P l → (d : A) (z : ℕ) → z < length l → P (get_or l z d)
all_at nil d z h = absurd (not-suc-le-zero h)
all_at (more k ks) d zero h = k
all_at (more k ks) d (suc z) h = all_at ks d z (le_of_suc-le-suc h)

map_at : {A : Type 0} (f : A → ℕ) (l : List A) (d : A) (z : ℕ) → z < length l → get_or (map f l) z 0 ≡ f (get_or l z d)
map_at f [] d z h = absurd (not-suc-le-zero h)
map_at f (x ∷ l) d zero h = refl
map_at f (x ∷ l) d (suc z) h = map_at f l d z (le_of_suc-le-suc h)

-- the z-th place in prefix order
abbrev pub place_at : ℕ → Place
place_at z = get_or places z (child_place 0)

module _ (z : ℕ) (h : z < 63) where
  inside : z < length places
  inside = omega (arith, places_length)

  pub place_inside : InNode (place_at z)
  place_inside = all_at places_in_node (child_place 0) z inside

  -- FOR CALLERS: a place in prefix order by its number
  pub place_numbered : Numbered (place_at z) (number_of (place_at z))
  place_numbered = numbered (place_at z) place_inside

  -- the numbers in prefix order are a table
  pub number_at : get_or (map number_of places) z 0 ≡ number_of (place_at z)
  number_at = map_at number_of places (child_place 0) z inside
