-- Laws of the definitions, and what the proofs of the functions cite
pub mod Joining
pub mod Splitting
pub mod RegisterParts
pub mod StoredRegisters
