pub mod DeliveryLent
pub mod DeliveryLentLaws
pub mod DeliveryRows
pub mod DeliveryRowLaws
pub mod DeliveryLists
