pub mod RecordSize
pub mod Laws
