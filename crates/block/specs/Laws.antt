pub mod BlockReady
pub mod Published
pub mod BlockPublishes
