pub mod MonthProof
