pub mod CheckMeter
pub mod Laws
