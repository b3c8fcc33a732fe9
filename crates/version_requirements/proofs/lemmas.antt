pub mod Empty
pub mod Fronts
pub mod Members
pub mod Newest
pub mod RangeRef
