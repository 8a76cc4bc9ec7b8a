-- What each service answers and leaves, and the serial run's answer in numbers.
pub mod Answers
pub mod Numbers
