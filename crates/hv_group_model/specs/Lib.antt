pub mod Lives
pub mod Structure
