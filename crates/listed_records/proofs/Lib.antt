-- The claims
pub mod Headers
pub mod PastTheEnd
pub mod Tiling
pub mod RecordOrder
pub mod OneRecord
pub mod RawValues
pub mod ListingVectors
-- Laws of the walk over the models of a map, and that a listing shows all records
pub mod AllRecords
pub mod ModelRecords
pub mod WalkedModels
pub mod RecordSources
pub mod RecordsTiling
-- For proofs by computation
pub mod Computing
