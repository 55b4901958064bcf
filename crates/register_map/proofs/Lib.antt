-- The claims
pub mod ScanBack
pub mod MadeOfModels
pub mod PastTheMarker
pub mod Lengthened
pub mod BodyReplaced
pub mod Before
-- Laws of the definitions
pub mod HeaderLaws
pub mod HeaderCases
pub mod ScanSteps
pub mod PlacedModels
