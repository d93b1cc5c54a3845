-- A node above the root's: its data is not of the view, and the view lies in one of its children.
use Rattle.std.specs.Prelude.{◌≡◌, Bool, true, false, ◌&&◌, ℕ, ◌+◌, ◌^◌, ◌≤◌, ◌<◌}
use Rattle.std.proofs.Math.Path.{refl, sym, ap}
use Rattle.std.proofs.Common.{◌∙◌}
use Rattle.std.proofs.Math.Bool.{and-true, and-false}
use mathlib.Core.List.{List, [], ◌∷◌, map}
use native.Mathlib.Omega.{arith}
use Rattle.std.proofs.Math.Dec.{eqb}
use borrow.Author.Tests.{eqb-true, eqb-false}
use Rattle.std.proofs.Math.ListN.{length}
use Rattle.defs.specs.declared.Prefix.{Prefix}
use Rattle.defs.specs.Basics.{if◌then◌otherwise◌, keep, up_to}
use Rattle.defs.specs.Prefix.{leads, same, deeper}
use Rattle.defs.specs.Entries.{Entry, under, view}
use Rattle.defs.specs.Tidy.{data_prefixes, child_prefixes, is_under, entries_in, children_of, word_of}
use Rattle.defs.specs.Lemmas.{All, nil, more, split, is_false, all_imp, all_unmap, all_kept, keep_false, keep_map, all_map, all_true, any_false, map_ext, map_map}
use Rattle.defs.specs.PrefixLaws.{Whole, same_says}
use Rattle.defs.proofs.PrefixLaws.{leads_len, leads_self, leads_trans}
use Rattle.defs.proofs.EntryLaws.{view_led}
use Rattle.defs.proofs.DeeperLaws.{deeper_apart}
use Rattle.tidied.specs.ListFacts.{full, keep_ext, any_full, all_up_to, all_each, each_none}
use Rattle.tidied.specs.Words.{word_ext, word_map, word_zero}
use Rattle.tidied.specs.Halving.{onto}
use Rattle.tidied.specs.Layout.{is_here}
use Rattle.tidied.specs.Find.{every_up_to}
use Rattle.tidied.specs.Copying.{data_word, child_word, under_path, under_outside}

data_lens : (p : Prefix) → All (λ q. q.len < p.len + 5) (data_prefixes p)
unfolding data_prefixes
data_lens p = all_each (λ n. map (deeper p n) (up_to (2 ^ n))) (λ n h. all_map (deeper p n) (all_true (λ v. (let z : p.len + n < p.len + 5 = omega arith in z)) (up_to (2 ^ n)))) (all_up_to 5)

module _ (w : List ℕ) (root p : Prefix) (above : p.len + 5 ≤ root.len) where
  abbrev es : List Entry
  es = view w root

  above_onto : (q : Prefix) → q.len < p.len + 5 → All (λ e. same q e.at ≡ false) es
  above_onto q h =
      all_imp (λ (e : Entry) t. is_false _ (λ k. omega (arith, leads_len root e.at t, ap (λ (y : Prefix). y.len) (same_says q e.at k))))
      (all_unmap (λ (e : Entry). e.at) es (view_led w root))

  pub above_entries : entries_in es p ≡ []
  above_entries = each_none (onto es) (λ q h. keep_false (λ e. same q e.at) (above_onto q h)) (data_lens p)

  pub above_word : data_word es p ≡ 0
  above_word = word_zero (is_here es) (all_imp (λ q h. any_false (λ e. same q e.at) (above_onto q h)) (data_lens p))

  module _ (whole : Whole p) (short : p.len + 5 ≤ 64) (c : ℕ) (on-path : leads (deeper p 5 c) root ≡ true) where
    -- only the child on the way to the root has entries of the view
    above_under : (d : ℕ) → is_under es (deeper p 5 d) ≡ (eqb c d && full es)
    above_under d = any_full (λ e. leads q e.at) es ∙ split (eqb c d) here other
      where
        q : Prefix
        q = deeper p 5 d

        here : eqb c d ≡ true → full (under q es) ≡ (eqb c d && full es)
        here t = rw t (ap full (under_path w root q (ap (λ (y : ℕ). leads (deeper p 5 y) root) (sym (eqb-true c d t)) ∙ on-path)))

        other : eqb c d ≡ false → full (under q es) ≡ (eqb c d && full es)
        other t =
            rw t
            (ap full
            (under_outside w root q
            (is_false _ (λ h. eqb-false c d t (deeper_apart p whole 5 short c d q (leads_trans (deeper p 5 c) root q on-path h) (leads_self q))))
            (is_false _ (λ h. eqb-false c d t (deeper_apart p whole 5 short c d root on-path h)))))

    -- so its child word has that one bit, or none where the view is empty
    pub above_kids : c < 32 → child_word es p ≡ (if full es then 2 ^ c otherwise 0)
    unfolding child_prefixes
    above_kids l =
        word_map (is_under es) (child_prefixes p)
        ∙ ap (word_of (λ b. b)) (map_map (is_under es) (deeper p 5) (up_to 32) ∙ map_ext (λ d. is_under es (deeper p 5 d)) (λ d. eqb c d && full es) above_under (up_to 32))
        ∙ sym (word_map (λ d. eqb c d && full es) (up_to 32))
        ∙ go (full es)
      where
        one_bit : word_of (eqb c) (up_to 32) ≡ 2 ^ c
        one_bit = eqb-true (word_of (eqb c) (up_to 32)) (2 ^ c) (every_up_to (λ c. eqb (word_of (eqb c) (up_to 32)) (2 ^ c)) 32 c refl l)

        go : (b : Bool) → word_of (λ d. eqb c d && b) (up_to 32) ≡ (if b then 2 ^ c otherwise 0)
        go true = word_ext (λ d. eqb c d && true) (eqb c) (λ d. and-true (eqb c d)) (up_to 32) ∙ one_bit
        go false = word_zero (λ d. eqb c d && false) (all_true (λ d. and-false (eqb c d)) (up_to 32))

    -- and it has that one child, or none
    pub above_children : c < 32 → children_of es p ≡ (if full es then deeper p 5 c ∷ [] otherwise [])
    unfolding child_prefixes
    above_children l =
        keep_map (is_under es) (deeper p 5) (up_to 32)
        ∙ ap (map (deeper p 5)) (keep_ext (λ d. is_under es (deeper p 5 d)) (λ d. eqb c d && full es) above_under (up_to 32))
        ∙ go (full es)
      where
        only : (a : List ℕ) → All (λ d. d ≡ c) a → length a ≡ 1 → a ≡ c ∷ []
        only [] h e = absurd (let z : ⊥ = omega arith in z)
        only (d ∷ []) (more h nil) e = ap (◌∷ []) h
        only (d ∷ d' ∷ a) h e = absurd (let z : ⊥ = omega arith in z)

        one_place : keep (eqb c) (up_to 32) ≡ c ∷ []
        one_place =
            only (keep (eqb c) (up_to 32)) (all_imp (λ d h. sym (eqb-true c d h)) (all_kept (eqb c) (up_to 32)))
            (eqb-true (length (keep (eqb c) (up_to 32))) 1 (every_up_to (λ c. eqb (length (keep (eqb c) (up_to 32))) 1) 32 c refl l))

        go : (b : Bool) → map (deeper p 5) (keep (λ d. eqb c d && b) (up_to 32)) ≡ (if b then deeper p 5 c ∷ [] otherwise [])
        go true = ap (map (deeper p 5)) (keep_ext (λ d. eqb c d && true) (eqb c) (λ d. and-true (eqb c d)) (up_to 32) ∙ one_place)
        go false = ap (map (deeper p 5)) (keep_false (λ d. eqb c d && false) (all_true (λ d. and-false (eqb c d)) (up_to 32)))
