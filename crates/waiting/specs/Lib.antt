pub mod Queues
pub mod Needs
