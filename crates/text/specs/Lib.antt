pub mod Line
pub mod Put
pub mod Chart
pub mod HopText
