-- The entries of any words: they ascend strictly and are led by their node's prefix. So do those of a view, which its root leads.
use Rattle.std.specs.Prelude.{◌≡◌, List, []}
use Rattle.std.proofs.Math.Path.{refl, subst}
use Rattle.std.proofs.Common.{sym, arith}
use Prim.Native.Nat.{ℕ, zero, suc, ◌+◌, ◌*◌}
use Rattle.defs.specs.declared.Prefix.{Prefix}
use Rattle.defs.specs.Basics.{keep}
use Rattle.defs.specs.Prefix.{leads, deeper, top}
use Rattle.defs.specs.Pool.{data_of, child_of, bit, data_bit}
use Rattle.defs.specs.Entries.{Entry, child_place, places, held_at, entries_at, all_entries, under, view, prefixes}
use Rattle.defs.specs.Lemmas.{All, nil, more, split, all_keep, all_kept, keep_map}
use Rattle.defs.specs.PrefixLaws.{Whole, whole_top}
use Rattle.defs.specs.OrderLaws.{Ascends, end, then_after}
use Rattle.defs.proofs.OrderLaws.{ascends_keep}
use Rattle.defs.specs.NodeLaws.{Led, Real, Fits}
use Rattle.defs.proofs.NodeLaws.{deeper_none, led, ascends, real}
use Rattle.defs.specs.EntryLaws.{Sound}

-- no entries
sound_none : (q : Prefix) → Sound q []
sound_none q = record { led_by = nil; ascend = end; all_real = nil }

module _ (w : List ℕ) where
  abbrev pub SoundBelow : ℕ → Type 0
  SoundBelow levels = (node : ℕ) (p : Prefix) → Whole p → p.len + 5 * levels ≡ 65 → Sound p (entries_at w levels node p)

  held_child : (levels : ℕ) → SoundBelow levels → (node : ℕ) (p : Prefix) → p.len + 5 * suc levels ≡ 65 → (c : ℕ) → Whole (deeper p 5 c)
      → Sound (deeper p 5 c) (held_at w (entries_at w levels) node p (child_place c))
  held_child levels ih node p e c u =
      split (bit c (child_of w node)) (λ b. rw b (ih _ (deeper p 5 c) u (omega arith))) (λ b. rw b (sound_none (deeper p 5 c)))

  -- what the places of a node hold fits them
  pub held_fits : (levels : ℕ) → SoundBelow levels → (node : ℕ) (p : Prefix) → p.len + 5 * suc levels ≡ 65 → Fits p (held_at w (entries_at w levels) node p)
  held_fits levels ih node p e =
      record {
        data_at = λ n v. split (bit (data_bit n v) (data_of w node)) (λ b. rw b (more refl nil)) (λ b. rw b nil);
        data_asc = λ n v. split (bit (data_bit n v) (data_of w node)) (λ b. rw b (then_after nil end)) (λ b. rw b end);
        child_led = λ c u. (held_child levels ih node p e c u).led_by;
        child_asc = λ c u. (held_child levels ih node p e c u).ascend;
        child_real = λ c u. (held_child levels ih node p e c u).all_real;
        child_none = λ l c.
            let z : levels ≡ 0 = omega arith in
            subst (λ (n : ℕ). held_at w (entries_at w n) node p (child_place c) ≡ []) (sym z) (split (bit c (child_of w node)) (λ b. rw b) (λ b. rw b));
      }

  -- the entries in a node and below it, whatever the words are
  pub sound : (levels : ℕ) → SoundBelow levels
  unfolding places
  sound zero node p u e = sound_none p
  sound (suc levels) node p u e =
      let f : Fits p (held_at w (entries_at w levels) node p) = held_fits levels (sound levels) node p e in
      let v : Whole (deeper p 0 0) = subst Whole (sym (deeper_none p)) u in
      let l = led p (omega arith) (held_at w (entries_at w levels) node p) f 5 0 0 refl v (omega arith) in
      record {
        led_by = subst (λ (q : Prefix). Led q (entries_at w (suc levels) node p)) (deeper_none p) l;
        ascend = ascends p (omega arith) (held_at w (entries_at w levels) node p) f 5 0 0 refl v (omega arith);
        all_real = real p (omega arith) (held_at w (entries_at w levels) node p) f 5 0 0 refl v (omega arith);
      }

pub prefixes_under : (root : Prefix) (a : List Entry) → prefixes (under root a) ≡ keep (leads root) (prefixes a)
prefixes_under root a = sym (keep_map (leads root) (λ (e : Entry). e.at) a)

-- what a root leaves of sound entries is sound
pub sound_under : (root q : Prefix) (a : List Entry) → Sound q a → Sound q (under root a)
sound_under root q a s =
    record {
      led_by = rw (prefixes_under root a) (all_keep (leads root) s.led_by);
      ascend = rw (prefixes_under root a) (ascends_keep (leads root) s.ascend);
      all_real = rw (prefixes_under root a) (all_keep (leads root) s.all_real);
    }

-- all entries of a pool
pub sound_all : (w : List ℕ) → Sound top (all_entries w)
sound_all w = sound w 13 0 top whole_top refl

-- the entries of a view ascend strictly
pub view_ascends : (w : List ℕ) (root : Prefix) → Ascends (prefixes (view w root))
view_ascends w root = (sound_under root top (all_entries w) (sound_all w)).ascend

-- each of them is as an entry is: bits past its length are 0, and there are at most 64
pub view_real : (w : List ℕ) (root : Prefix) → All Real (prefixes (view w root))
view_real w root = (sound_under root top (all_entries w) (sound_all w)).all_real

-- the root leads each of them
pub view_led : (w : List ℕ) (root : Prefix) → Led root (view w root)
view_led w root = rw (prefixes_under root (all_entries w)) (all_kept (leads root) (prefixes (all_entries w)))
