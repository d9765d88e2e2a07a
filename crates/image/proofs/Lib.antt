pub mod Checks
pub mod Tables
pub mod Sections
pub mod Accepted
pub mod Deals
