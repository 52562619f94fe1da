pub mod OpeningLaws
pub mod ScheduleLaws
pub mod AgreedReading
pub mod AgreedReadingLaws
pub mod AgreedRefusals
pub mod AgreedRefusalsLaws
pub mod AgreedParts
pub mod AgreedPartsLaws
