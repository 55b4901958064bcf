-- The claim
pub mod PartOrFallback
pub mod TextVectors
-- Laws of the definitions
pub mod TextPart
