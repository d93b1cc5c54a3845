-- Laws that rest on definitions which a must-fail edit changes.
pub mod PrefixLaws
pub mod DeeperLaws
pub mod OrderLaws
pub mod NodeLaws
pub mod EntryLaws
pub mod ListLaws
