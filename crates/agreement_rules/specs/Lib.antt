pub mod Opening
pub mod Schedule
pub mod OpenedOn
pub mod Laws
