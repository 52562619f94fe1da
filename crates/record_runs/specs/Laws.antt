pub mod Raise
pub mod RaiseLaws
