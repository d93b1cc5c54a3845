-- The words that the claims use.
pub mod Terms
pub mod Inputs
-- The claims, to be read after the definitions of `defs`.
pub mod Demand1
pub mod Demand2
pub mod Demand3
pub mod WrongVersions
-- What their proofs rest on.
pub mod Tables
pub mod Buffers
pub mod Faults
pub mod Members
pub mod Says
pub mod Shown
pub mod Equal
pub mod Marks
pub mod Filters
