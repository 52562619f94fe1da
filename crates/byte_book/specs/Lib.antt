pub mod ByteTrace
pub mod ByteDemand3
