-- The claims
pub mod Insertion
pub mod InsertionCalls
pub mod Removal
pub mod RemovalCalls
pub mod RefusalsAfterRemoval
pub mod RemovalById
pub mod InsertionExample
pub mod RemovalExample
-- Lemmas on models inserted into a map
pub mod RaisedWalks
pub mod WalkMoved
pub mod RecordPlaces
pub mod WholeMaps
pub mod AnswerMoved
pub mod ListingMoved
pub mod ResultsMoved
-- Lemmas on definitions removed from a catalog
pub mod ReadingAfterRemoval
pub mod KnownRecords
pub mod WalkAfterRemoval
pub mod MapWalkAfterRemoval
