-- What is to be believed, from top to bottom.
pub mod Basics
pub mod Prefix
pub mod Pool
pub mod Entries
pub mod Check
pub mod Lists
pub mod Tidy
pub mod Outcome
pub mod Refusals
-- The worked cases, computed.
pub mod Cases
pub mod Borders
-- What the definitions come to: laws.
pub mod Lemmas
pub mod PrefixLaws
pub mod OrderLaws
pub mod NodeLaws
pub mod EntryLaws
pub mod ListLaws
pub mod OutcomeLaws
