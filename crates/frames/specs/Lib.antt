pub mod FrameKinds
pub mod Layouts
pub mod Messages
pub mod Reading
pub mod Writing
pub mod Worked
