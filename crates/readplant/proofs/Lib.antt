pub mod WholeInputs
pub mod Appending
