pub mod ClosingReady
