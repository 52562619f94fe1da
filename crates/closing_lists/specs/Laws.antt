pub mod Drawable
pub mod DrawingSteps
pub mod ClosingWritten
pub mod ClosingMonth
pub mod ClosingAccepted
pub mod ClosingReading
