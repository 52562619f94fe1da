pub mod OpeningAsked
