-- What the text program answers.
pub mod Answering
-- How its parts come together.
pub mod Replies
