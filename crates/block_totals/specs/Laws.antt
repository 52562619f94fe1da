pub mod BlockTotals
pub mod BlockTotalsLaws
pub mod BlockAfterLaws
pub mod BlockAdded
