pub mod DaysScanned
pub mod DaysCompared
