pub mod BytesRead
pub mod BytesReadLaws
pub mod WheelingLaws
