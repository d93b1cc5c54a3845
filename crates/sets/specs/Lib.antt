-- How the right view of a covering difference is aligned.
pub mod Aligned
-- A count of records fits.
pub mod Bound
-- A list call as a whole.
pub mod Listing
pub mod Beginning
-- Key equality.
pub mod SameKeys
pub mod Equality
