pub mod DayOnBytesLaws
