pub mod Votes
pub mod VoteLaws
pub mod LeastLaws
