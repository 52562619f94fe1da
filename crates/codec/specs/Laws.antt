pub mod BytesLaws
pub mod BytesPut
