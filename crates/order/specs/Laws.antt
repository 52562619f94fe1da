pub mod OrderKeys
pub mod KeptOrder
pub mod KeptStock
