pub mod Links
pub mod Names
pub mod Outside
pub mod Stream
