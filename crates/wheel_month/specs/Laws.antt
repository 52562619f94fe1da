pub mod Carried
pub mod CarriedLaws
pub mod Entering
