-- The claims
pub mod EnoughInput
pub mod TruncatedInput
pub mod ReportVectors
-- Laws of the definitions, cited by the proofs of the functions
pub mod NumberTexts
pub mod RecordTexts
pub mod ReportCases
pub mod InputCases
