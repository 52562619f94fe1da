pub mod Drawing
pub mod Closing
pub mod FormerClosing
