pub mod Field
pub mod Numbers
pub mod Section
pub mod VersioningRef
