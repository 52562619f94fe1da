pub mod CountingLaws
pub mod Gap
pub mod GapLaws
pub mod Kinds
