pub mod Demand3Proof
pub mod BenchCases
