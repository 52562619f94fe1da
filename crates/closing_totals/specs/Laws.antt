pub mod ClosingTotals
pub mod ClosingTotalsLaws
pub mod ClassesCleared
pub mod ClosingAfterLaws
