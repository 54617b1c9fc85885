pub mod UnitBins
pub mod Binarization
pub mod ScanOrder
pub mod ResidualContexts
pub mod ResidualSyntax
pub mod ResidualBins
pub mod ResidualLaws
