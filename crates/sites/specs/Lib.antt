pub mod Opened
pub mod Replies
pub mod States
pub mod Tests
pub mod Written
