pub mod TableCases
pub mod TableLaws
pub mod ReaderParts
pub mod TableScanning
pub mod ReaderLoops
pub mod ReaderMeets
pub mod TableAccepting
pub mod ReadMeetsLaws
