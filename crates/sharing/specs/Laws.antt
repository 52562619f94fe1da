pub mod ShareLaws
pub mod Shareable
