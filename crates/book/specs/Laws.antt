pub mod HoursCases
pub mod BenchCases
