pub mod Listing
pub mod Finding
pub mod CodeTypes
pub mod Calls
pub mod InternalAccepted
pub mod InternalCodeTypes
pub mod InternalContracts
pub mod InternalModels
