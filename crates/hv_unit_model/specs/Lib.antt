pub mod BlockSyntax
pub mod Bins
pub mod UnitLaws
pub mod PlanLaws
