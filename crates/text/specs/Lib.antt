-- What is to be believed, from top to bottom.
pub mod Bytes
pub mod Numbers
pub mod Input
pub mod Output
-- What parts of the reader promise each other.
pub mod Parts
-- Worked examples, computed.
pub mod Examples
-- How long an output can be.
pub mod Room
