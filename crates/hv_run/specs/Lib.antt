pub mod Input
pub mod KnownEnds
pub mod Report
pub mod Statuses
