pub mod FilteredPicture
pub mod JoinedPicture
