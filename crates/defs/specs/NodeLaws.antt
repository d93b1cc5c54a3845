-- What is said of one node and the prefixes below it. The laws are in proofs/NodeLaws.antt.
use Rattle.std.specs.Prelude.{◌≡◌, true, List, [], ℕ, ◌≤◌}
use Rattle.defs.specs.declared.Prefix.{Prefix}
use Rattle.defs.specs.Prefix.{leads, before, deeper}
use Rattle.defs.specs.Entries.{Entry, Place, data_place, child_place, prefixes}
use Rattle.defs.specs.Lemmas.{All}
use Rattle.defs.specs.PrefixLaws.{Whole}
use Rattle.defs.specs.OrderLaws.{Ascends}

-- everything in a list of entries is led by q
abbrev pub Led : Prefix → List Entry → Type 0
Led q a = All (λ x. leads q x ≡ true) (prefixes a)

-- a prefix as an entry has it: bits past its length are 0, and there are at most 64
abbrev pub Real : Prefix → Type 0
Real p = Whole p × (p.len ≤ 64)

-- what lies below the prefix q, and is not q
abbrev pub Below : Prefix → Prefix → Type 0
Below q y = (leads q y ≡ true) × (before q y ≡ true)

-- What the places of a node of prefix p hold, as far as order is concerned.
pub record Fits (p : Prefix) (held : Place → List Entry) : Type 0 where
  pub data_at : (n v : ℕ) → All (λ x. x ≡ deeper p n v) (prefixes (held (data_place n v)))
  pub data_asc : (n v : ℕ) → Ascends (prefixes (held (data_place n v)))
  pub child_led : (c : ℕ) → Whole (deeper p 5 c) → Led (deeper p 5 c) (held (child_place c))
  pub child_asc : (c : ℕ) → Whole (deeper p 5 c) → Ascends (prefixes (held (child_place c)))
  pub child_real : (c : ℕ) → Whole (deeper p 5 c) → All Real (prefixes (held (child_place c)))
  pub child_none : 60 ≤ p.len → (c : ℕ) → held (child_place c) ≡ []
