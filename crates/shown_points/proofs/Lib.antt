pub mod PointClasses
mod PointStatus
