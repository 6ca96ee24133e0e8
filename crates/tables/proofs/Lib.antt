pub mod Everys
