-- Where one side of a walk stands, and what may be asked of it.
pub mod Standing
pub mod Seen
-- The numbers of a node's places, and one word for all of them.
pub mod Numbers
pub mod Spreads
-- The nearest entry above a place.
pub mod Climb
-- The way down to a root.
pub mod Descent
-- What entries cover.
pub mod Covered
pub mod Kept
-- What is empty.
pub mod Emptiness
pub mod EmptyViews
