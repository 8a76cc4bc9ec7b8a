-- What an access, a step and a run of steps do to cells, words, pending values and the point reached.
pub mod Access
pub mod Step
pub mod Carrying
