-- Lists and words.
pub mod ListFacts
pub mod Words
-- What a sorted list of entries has below a prefix.
pub mod Halving
-- The tidy pool, word by word, and what it holds.
pub mod Layout
pub mod Holds
-- It looks at prefixes alone.
pub mod Same
pub mod Count
-- It has no fault.
pub mod NoFault
pub mod Fit
-- Where an entry stands in any pool, and its nodes level by level.
pub mod Find
pub mod Spots
pub mod Reading
pub mod Again
pub mod Unique
pub mod Small
-- What a tidier can rest on: the source pool, node by node.
pub mod Source
pub mod Copying
pub mod Above
pub mod InOrder
-- What tidying promises.
pub mod Demand3
