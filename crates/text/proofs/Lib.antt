-- Facts that belong to no one function.
pub mod NumberLaws
pub mod LineLaws
pub mod SpellLaws
pub mod BufferLaws
pub mod InputLaws
pub mod OutputLaws
