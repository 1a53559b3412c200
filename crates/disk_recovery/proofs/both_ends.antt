-- Both ends go on: `ends_go_on`.
pub mod Unfaulted
pub mod WorkedLemmas
pub mod GivenLemmas
pub mod FloorLemmas
pub mod Beginnings
pub mod GivesTogether
pub mod TakesTogether
pub mod BesideTogether
pub mod EndLemmas
