pub mod Crossing
pub mod Appending
pub mod Numbers
pub mod Fitting
pub mod Replacing
pub mod Allowing
