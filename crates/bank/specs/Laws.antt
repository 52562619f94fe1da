pub mod CreditLaws
pub mod BankSteps
pub mod BankLaws
