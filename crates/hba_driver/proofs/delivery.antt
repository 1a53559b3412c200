-- Delivery: `turns_deliver`, `writes_are_held`.
pub mod HeldLemmas
pub mod InsideLemmas
pub mod DeliveredLemmas
