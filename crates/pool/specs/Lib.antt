-- What the check keeps count of.
pub mod Counting
-- Why its counts serve for the queue of depths: laws.
pub mod CheckLaws
-- What a pool without a fault is: the one lemma that later code rests on.
pub mod Sound
pub mod Answers
