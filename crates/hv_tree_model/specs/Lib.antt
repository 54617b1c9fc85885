pub mod Trees
pub mod Sites
pub mod EarlierUnits
pub mod Plans
pub mod MostProbableModes
pub mod Validity
