-- A grid's cells rearranged.
pub mod Arrange
