pub mod AccountLaws
pub mod ReportLaws
