pub mod PrintedCases
