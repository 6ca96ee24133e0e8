pub mod SiteLaws
pub mod CountLaws
pub mod RowLaws
pub mod MatrixLaws
