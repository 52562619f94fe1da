pub mod Members
pub mod OrderLaws
pub mod SettleLaws
