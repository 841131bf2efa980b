pub mod Folder
pub mod Refusals
pub mod Program
pub mod InnerSteps
pub mod Accept
pub mod InnerPlaces
pub mod InnerAnswers
pub mod InnerRefusals
