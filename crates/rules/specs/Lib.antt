-- What a loop run is. To be believed, in this order:
pub mod Operation
pub mod Loop
pub mod Blocks
pub mod Log
pub mod Steps
pub mod Marks
pub mod Serial
pub mod Obstacles
pub mod Record
pub mod Merge
pub mod Answer
pub mod Proper
-- what they are written with
pub mod Choose
pub mod Cells
pub mod Owner
-- devices: laws that the decisions need, decisions, whose types say what they decide, and the numbers of classes and groups
pub mod ChooseLaws
pub mod LogLaws
pub mod Decide
pub mod Numbers
