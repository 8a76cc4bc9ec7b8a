-- What the 32-bit cell arithmetic is. `Integers` is to be believed; `SignWord` is a step of the code of rdiv.
pub mod Integers
pub mod SignWord
