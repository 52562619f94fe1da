pub mod Block
pub mod Delivery
pub mod Settlement
pub mod Laws
