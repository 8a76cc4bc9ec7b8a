-- What is printed, and that it is never cut.
mod Answering
mod Refusals
