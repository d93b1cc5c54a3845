-- Whether anything lies in a node or below it, level by level.
pub mod Blank
-- The children of a node that hold something.
pub mod Full
-- What the tidy pool keeps of a node, by its prefix.
pub mod Kept
-- The nodes of each depth that lie on one path with the root.
pub mod Runs
-- The nodes that are kept, one after the other.
pub mod Chosen
-- A call as a whole.
pub mod Call
-- An example.
pub mod Worked
