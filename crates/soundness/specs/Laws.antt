pub mod PairHeld
pub mod PlacesHeldLaws
pub mod ClassesHeld
pub mod ClassesHeldLaws
