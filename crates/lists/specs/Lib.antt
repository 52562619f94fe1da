pub mod Tables
pub mod Sums
pub mod Tests
pub mod Pairs
pub mod Refusals
pub mod Laws
