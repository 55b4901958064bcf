pub mod Tiling
pub mod RecordOrder
