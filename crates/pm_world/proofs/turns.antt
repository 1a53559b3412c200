-- The host by its turns: fields `host`, `delivers`, `apart`, `isolates`, `tickets`, `truth`.
pub mod HostFold
pub mod Delivery
pub mod Isolation
pub mod Tickets
pub mod TrueAnswers
