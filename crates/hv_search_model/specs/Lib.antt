pub mod MotionSearch
pub mod MotionLaws
