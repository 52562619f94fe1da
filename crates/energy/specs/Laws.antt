pub mod EnergyLaws
pub mod Portionable
