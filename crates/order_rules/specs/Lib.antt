pub mod Order
pub mod Settle
pub mod Laws
