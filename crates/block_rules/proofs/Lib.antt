pub mod DeliveryLaws
pub mod SettlementLaws
pub mod BlockClasses
pub mod BlockLaws
pub mod BlockRoom
pub mod BlockBeyond
pub mod BlockAccepted
pub mod BlockSettleable
