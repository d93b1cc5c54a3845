-- What the walk's functions ask for.
pub mod Ready
-- Which places a list visits.
pub mod Maps
-- What the walk's functions work out.
pub mod Moves
pub mod Loops
