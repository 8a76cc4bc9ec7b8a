-- What the readers of an update read, the parts of it that the code finds, and its three forms.
pub mod Readings
pub mod Together
pub mod Parts
pub mod Resting
pub mod Sums
pub mod Products
pub mod Maxima
