-- Key equality: the same prefixes, and so the same tidy pool.
use Rattle.std.specs.Prelude.{◌≡◌, refl, Bool, true, List, [], ◌∷◌, ◌↔◌, ℕ}
use Rattle.std.proofs.Common.{sym, ◌∙◌, ap, arith}
use Rattle.defs.specs.declared.Prefix.{Prefix}
use Rattle.defs.specs.declared.Answer.{Answer}
use Rattle.defs.specs.Basics.{if◌then◌otherwise◌}
use Rattle.defs.specs.Entries.{Entry, prefixes}
use Rattle.defs.specs.Lists.{is_in, same_keys}
use Rattle.defs.specs.Tidy.{data_prefixes, child_prefixes, nodes_of, tidy_pool, tidy_values}
use Rattle.defs.specs.Outcome.{answer}
use Rattle.defs.specs.Lemmas.{split, not_both, is_false}
use Rattle.defs.specs.OrderLaws.{Ascends}
use Rattle.defs.proofs.OrderLaws.{ascends_unique}
use Rattle.tidied.specs.Same.{here_same, keys_prefixes, prefixes_keys}
use Rattle.claims.specs.Terms.{HasEntry}
use Rattle.claims.specs.Members.{among_prefixes, entry_says, entry_of}

module _ (L R : List Entry) (a : Ascends (prefixes L)) (b : Ascends (prefixes R)) where
  pub keys_say : same_keys L R ≡ true → (p : Prefix) → HasEntry p L ↔ HasEntry p R
  keys_say h p =
      let e = here_same L R (keys_prefixes L R a b h) p in
      (λ m. entry_says p R (sym e ∙ entry_of p L m), λ m. entry_says p L (e ∙ entry_of p R m))

  pub keys_of : ((p : Prefix) → HasEntry p L ↔ HasEntry p R) → same_keys L R ≡ true
  keys_of h =
      prefixes_keys L R (ascends_unique (prefixes L) (prefixes R) a b (λ p. among_prefixes p L ∙ alike p ∙ sym (among_prefixes p R)))
    where
      alike : (p : Prefix) → is_in p L ≡ is_in p R
      alike p =
          split (is_in p L) (λ t. t ∙ sym (entry_of p R ((h p).0 (entry_says p L t))))
          (λ t. t ∙ sym (is_false (is_in p R) (λ f. not_both (entry_of p L ((h p).1 (entry_says p R f))) t)))

-- an answer of yes or no, where yes means C
module _ (a : Answer) (b : Bool) (done : a ≡ answer 0 (if b then 1 otherwise 0) 0) (C : Type 0) (means : (b ≡ true) ↔ C) where
  says : (n : ℕ) → a ≡ answer 0 n 0 → (if b then 1 otherwise 0) ≡ n
  says n h = ap (λ (x : Answer). x.beside) (sym done ∙ h)

  pub answers_yes : (a ≡ answer 0 1 0) ↔ C
  answers_yes =
      (λ h. split b means.0 (λ t. absurd (omega (arith, rw t at (says 1 h)))), λ c. done ∙ rw (means.1 c))

  pub answers_no : (a ≡ answer 0 0 0) ↔ (C → ⊥)
  answers_no =
      (λ h c. omega (arith, rw (means.1 c) at (says 0 h)), λ n. done ∙ rw (is_false b (λ t. n (means.0 t))))

-- the tidy pool of nothing
pub empty_pool : tidy_pool [] ≡ 0 ∷ 0 ∷ 1 ∷ 0 ∷ []
unfolding data_prefixes child_prefixes nodes_of
empty_pool = refl

pub empty_values : tidy_values [] ≡ []
unfolding data_prefixes child_prefixes nodes_of
empty_values = refl
