pub mod BitLaws
pub mod SpliceLaws
pub mod ByteLaws
pub mod Masks
pub mod Numbers
pub mod Turns
pub mod RowLaws
pub mod Inverses
