pub mod Orderable
pub mod PlanLaws
pub mod SoundLaws
pub mod StoredLaws
pub mod CalledLaws
pub mod RecordWordsLaws
pub mod Shape
