-- What is said of a list of entries. The laws are in proofs/EntryLaws.antt.
use Rattle.std.specs.Prelude.{List}
use Rattle.defs.specs.declared.Prefix.{Prefix}
use Rattle.defs.specs.Entries.{Entry, prefixes}
use Rattle.defs.specs.Lemmas.{All}
use Rattle.defs.specs.OrderLaws.{Ascends}
use Rattle.defs.specs.NodeLaws.{Led, Real}

-- entries that are led by q, ascend strictly, and are as entries are
pub record Sound (q : Prefix) (a : List Entry) : Type 0 where
  pub led_by : Led q a
  pub ascend : Ascends (prefixes a)
  pub all_real : All Real (prefixes a)
