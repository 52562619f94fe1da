pub mod Deliverable
pub mod DeliveredIn
pub mod Settleable
pub mod OutputPlaces
pub mod BlockRefusals
pub mod Enterable
