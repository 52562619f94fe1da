pub mod ClassesRead
pub mod ByGenerator
pub mod HoursDrawing
pub mod HoursMade
