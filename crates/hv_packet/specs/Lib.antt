pub mod BlankBins
pub mod BlockPlans
