-- From where both began anew: `begins_to_serve`, `calm_turns_serve_on`, `resets_begin_free`, `pushes_serve_on`,
-- `takes_serve_on`.
pub mod TogetherBegins
pub mod TogetherTurns
pub mod TogetherParts
pub mod ResetLemmas
pub mod SentLemmas
pub mod TogetherOrders
pub mod TogetherPushes
pub mod TogetherTakes
