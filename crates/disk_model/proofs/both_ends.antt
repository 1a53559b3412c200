-- Both ends of the link, and a beginning anew: `ends_tell_the_same`, `ends_tell_the_same_anew`, `disks_begin_anew`,
-- `disks_in_reset_take_no_command`, `later_connections_tell_of_all`.
pub mod CrossLemmas
pub mod EntersLemmas
pub mod EndsLemmas
pub mod AnewLemmas
pub mod InResetLemmas
pub mod WrittenLemmas
pub mod LaterLemmas
