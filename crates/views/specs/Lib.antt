-- The definitions of this crate, and what they are good for.
pub mod Views
pub mod OpenedLaws
