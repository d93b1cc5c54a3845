-- Which places a list visits.
pub mod BitLaws
pub mod Wanted
-- A record in the output.
pub mod Records
