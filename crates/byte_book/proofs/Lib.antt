pub mod ByteDemand3Proof
