-- What the serial run of a text answers and leaves.
pub mod Serial
