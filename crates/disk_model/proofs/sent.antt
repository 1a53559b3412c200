-- What a disk sends: `setups_name_what_moves`, `answers_commands_in_order`, `errors_are_of_their_command`,
-- `is_silent_where_nothing_is_owed`.
pub mod MovesLemmas
pub mod TurnCases
pub mod AnswerLaws
pub mod ErrorLaws
pub mod SilenceLaws
