pub mod CheckMeterLaws
pub mod ComparedLaws
