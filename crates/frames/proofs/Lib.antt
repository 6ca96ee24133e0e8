pub mod PartLaws
pub mod LayoutLaws
pub mod RoundTrips
