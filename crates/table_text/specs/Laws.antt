pub mod TableTextLaws
