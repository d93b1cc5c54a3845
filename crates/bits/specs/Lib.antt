-- What the leaves compute.
pub mod Words
pub mod Places
pub mod SetBits
-- What their callers use: laws.
pub mod WordLaws
pub mod CommonLaws
pub mod PlaceLaws
-- How they are worked out: what their proofs cite.
pub mod Worked
