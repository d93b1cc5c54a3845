-- A sorted list's entries below a prefix: the prefix itself, then those below its two halves.
use Rattle.std.specs.Prelude.{◌≡◌, refl, Bool, true, ◌||◌, List, [], ◌∷◌, ◌++◌, ℕ, suc, ◌+◌, ◌-◌, ◌*◌, ◌/◌, ◌%◌, ◌^◌, ◌≤◌, ◌<◌}
use Rattle.std.proofs.Common.{sym, ap, ap₂, ◌∙◌, ⊎_elim, arith, eq-or-lt_of_le, eq-zero-or-pos, shr-shr}
use Rattle.std.proofs.Math.Bool.{or-true}
use Rattle.defs.specs.declared.Prefix.{Prefix}
use Rattle.defs.specs.Basics.{keep}
use Rattle.defs.specs.Prefix.{first, leads, before, same, deeper, top}
use Rattle.defs.specs.Entries.{Entry, under, prefixes}
use Rattle.defs.specs.Lemmas.{both_ways, All, split, not_both, is_false, all_imp, all_unmap, keep_on, keep_true, keep_false}
use Rattle.defs.specs.PrefixLaws.{Whole, low, high, same_self, same_says}
use Rattle.defs.proofs.PrefixLaws.{leads_of, leads_len, leads_first, leads_self, leads_trans, leads_same, leads_low, leads_high, low_high, before_below, before_irrefl, before_asym}
use Rattle.defs.specs.OrderLaws.{Ascends, then_after}
use Rattle.defs.specs.NodeLaws.{Real}
use Rattle.defs.specs.EntryLaws.{Sound}
use Rattle.defs.proofs.DeeperLaws.{deeper_first}

-- ---- the halves of a prefix
module _ (q : Prefix) (w : Whole q) (room : q.len < 64) where
  -- q, or what a half of q leads
  abbrev at_halves : Prefix → Bool
  at_halves x = same q x || (leads (low q) x || leads (high q) x)

  high_first : first (suc q.len) (high q).key ≡ 2 * first q.len q.key + 1
  high_first = go (omega arith)
    where
      go : q.len + 1 ≡ suc q.len → first (suc q.len) (high q).key ≡ 2 * first q.len q.key + 1
      go e =
          let d : (deeper q 1 1).key ≡ (high q).key = rw e (omega arith) in
          ap₂ first (sym e) (sym d) ∙ deeper_first q w 1 (omega arith) 1 ∙ omega arith

  low_first : first (suc q.len) q.key ≡ 2 * first q.len q.key
  low_first = go (omega arith)
    where
      go : q.len + 1 ≡ suc q.len → first (suc q.len) q.key ≡ 2 * first q.len q.key
      go e =
          let d : (deeper q 1 0).key ≡ q.key = omega arith in
          ap₂ first (sym e) (sym d) ∙ deeper_first q w 1 (omega arith) 0 ∙ omega arith

  half_first : (k : ℕ) → first (suc q.len) k / 2 ≡ first q.len k
  half_first k =
      let e : (64 - suc q.len) + 1 ≡ 64 - q.len = omega arith in
      shr-shr k (64 - suc q.len) 1 ∙ ap (λ (m : ℕ). k / 2 ^ m) e

  in_half : (x : Prefix) → suc q.len ≤ x.len → leads q x ≡ true → (leads (low q) x || leads (high q) x) ≡ true
  in_half x l h =
      let f = first (suc q.len) x.key in
      let g : f / 2 ≡ first q.len q.key = half_first x.key ∙ leads_first q x h in
      ⊎_elim (λ z. rw (leads_of (low q) x l (omega (arith, low_first))))
      (λ z. rw (leads_of (high q) x l (omega (arith, high_first))) (or-true (leads (low q) x))) (eq-zero-or-pos (f % 2))

  led_forth : (x : Prefix) → Whole x → leads q x ≡ true → at_halves x ≡ true
  led_forth x u h =
      ⊎_elim (λ e. rw (ap (same q) (sym (leads_same q x w u h e)) ∙ same_self q))
      (λ l. rw (in_half x l h) (or-true (same q x))) (eq-or-lt_of_le (leads_len q x h))

  led_back : (x : Prefix) → at_halves x ≡ true → leads q x ≡ true
  led_back x h =
      split (same q x) (λ e. rw (← same_says q x e) (leads_self q))
      (λ e.
      split (leads (low q) x) (λ f. leads_trans q (low q) x (leads_low q w room) f)
      (λ f. leads_trans q (high q) x (leads_high q w room) (rw (e, f) at h)))

-- ---- sorted lists

-- where what passes f comes before what passes g, both are kept one after the other
pub parted : (f g : Prefix → Bool) → ((x y : Prefix) → f x ≡ true → g y ≡ true → before x y ≡ true)
    → (es : List Entry) → Ascends (prefixes es)
    → keep (λ e. f e.at || g e.at) es ≡ keep (λ e. f e.at) es ++ keep (λ e. g e.at) es
parted f g sep [] a = refl
parted f g sep (e ∷ es) (then_after h k) =
    split (f e.at)
    (λ i.
    split (g e.at) (λ j. not_both (sep e.at e.at i j) (before_irrefl e.at))
    (λ j. rw (i, j, keep) (ap (e ∷◌) (parted f g sep es k))))
    (λ i.
    split (g e.at)
    (λ j.
    let n : keep (λ x. f x.at) es ≡ [] =
    keep_false (λ x. f x.at) (all_imp (λ x b. is_false (f x.at) (λ t. not_both b (before_asym x.at e.at (sep x.at e.at t j)))) (all_unmap (λ (x : Entry). x.at) es h)) in
    rw (i, j, keep) (rw (parted f g sep es k, n)))
    (λ j. rw (i, j, keep) (parted f g sep es k)))

-- the entries of prefix q
abbrev pub onto : List Entry → Prefix → List Entry
onto es q = keep (λ e. same q e.at) es

module _ (es : List Entry) (s : Sound top es) where
  real_of : All (λ e. Real e.at) es
  real_of = all_unmap (λ (x : Entry). x.at) es s.all_real

  -- all of them are below 0/0
  pub under_top : under top es ≡ es
  under_top = keep_true (λ e. leads top e.at) (all_unmap (λ (x : Entry). x.at) es s.led_by)

  -- what is below q: q itself, then what is below its halves
  pub under_halves : (q : Prefix) → Whole q → q.len < 64 → under q es ≡ onto es q ++ (under (low q) es ++ under (high q) es)
  under_halves q w room =
      keep_on (λ e. leads q e.at) (λ e. same q e.at || (leads (low q) e.at || leads (high q) e.at))
      (λ e r. both_ways _ _ (led_forth q w room e.at r.0) (led_back q w room e.at)) real_of
      ∙ parted (same q) (λ x. leads (low q) x || leads (high q) x) after es s.ascend
      ∙ ap (onto es q ++◌) (parted (leads (low q)) (leads (high q)) (low_high q w room) es s.ascend)
    where
      after : (x y : Prefix) → same q x ≡ true → (leads (low q) y || leads (high q) y) ≡ true → before x y ≡ true
      after x y e h =
          rw (← same_says q x e)
          (split (leads (low q) y) (λ f. before_below q (low q) y w (omega arith) (leads_low q w room) f)
          (λ f. before_below q (high q) y w (omega arith) (leads_high q w room) (rw f at h)))

  -- what a prefix of 64 bits leads is itself
  pub under_last : (q : Prefix) → Whole q → q.len ≡ 64 → under q es ≡ onto es q
  under_last q w l =
      keep_on (λ e. leads q e.at) (λ e. same q e.at)
      (λ (e : Entry) r. both_ways _ _ (λ h. (ap (same q) (sym (leads_same q e.at w r.0 h (omega (arith, leads_len q e.at h, r.1)))) ∙ same_self q))
      (λ h. rw (← same_says q e.at h) (leads_self q))) real_of

  -- no entry is longer than 64 bits
  pub under_none : (q : Prefix) → 64 < q.len → under q es ≡ []
  under_none q l = keep_false (λ e. leads q e.at) (all_imp (λ e r. is_false _ (λ h. omega (arith, leads_len q e.at h, r.1))) real_of)
