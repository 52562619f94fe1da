pub mod OpenedOnLaws
