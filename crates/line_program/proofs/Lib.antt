pub mod Answers
pub mod Ends
pub mod GoingOn
pub mod HandsOver
