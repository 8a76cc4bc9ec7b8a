-- Classes off the table of names, and that an accepted text meets what a run asks.
pub mod ClassLaws
pub mod Setting
