-- What holds of the readers' answers, one after another, and of what stands at a place of a line.
pub mod Laws
pub mod KindNumbers
pub mod Signs
pub mod Names
pub mod Leaves
pub mod Spans
