pub mod PutLaws
pub mod LineLaws
pub mod HopTextLaws
pub mod ShortLaws
pub mod RouteBytesLaws
pub mod AddedLaws
pub mod DecimalLaws
pub mod Example
