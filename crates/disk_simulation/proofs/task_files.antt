-- Task file and outcomes: `task_files_stay_fine`, `each_fis_has_its_outcome`.
pub mod FileLemmas
pub mod FileLaws
pub mod FilesLeft
pub mod OutcomeLemmas
