pub mod BlockAnswer
pub mod Laws
