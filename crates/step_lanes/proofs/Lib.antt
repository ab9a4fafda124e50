pub mod MaskedLanes
pub mod GoingOn
pub mod PathLanes
pub mod Apart
pub mod Copied
pub mod Packed
