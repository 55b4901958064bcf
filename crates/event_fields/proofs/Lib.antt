-- The claims
pub mod PositionsBelowTop
pub mod AnyPresence
-- What the proofs of the functions cite
pub mod SetPositions
