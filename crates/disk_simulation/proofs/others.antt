-- Other devices: `others_leave_a_device`.
pub mod ElsewhereLemmas
pub mod CalmLemmas
