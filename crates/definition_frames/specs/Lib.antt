pub mod CodeTypes
