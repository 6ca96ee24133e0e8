pub mod Placing
pub mod Making
pub mod ListedLaws
pub mod RingLaws
