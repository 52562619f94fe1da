pub mod ScheduleAccepted
pub mod ScheduleEntered
