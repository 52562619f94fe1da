pub mod SettlementLent
pub mod SettledTo
pub mod Settles
pub mod SettledLaws
