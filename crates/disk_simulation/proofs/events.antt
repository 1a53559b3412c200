-- Single events: `issues_and_commands_keep_the_same`, `setups_keep_the_same`, `data_fills_what_moves`,
-- `data_keeps_the_same`, `answers_keep_the_same`, `names_are_of_what_ended`.
pub mod SameLemmas
pub mod MoveLemmas
pub mod AnswerLemmas
pub mod DataLemmas
