pub mod BookCalls
pub mod AgreementA
pub mod Trace
pub mod Demand3
pub mod Laws
