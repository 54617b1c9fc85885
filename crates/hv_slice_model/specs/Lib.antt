pub mod Slices
pub mod BlankUnits
pub mod SliceLaws
pub mod PlannedUnits
