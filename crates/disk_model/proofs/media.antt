-- What is on the medium: `data_lies_where_it_is_put`, `reads_have_the_first_writes`, `media_show_the_last_write`,
-- `loaded_disks_show_their_sectors`.
pub mod PutLemmas
pub mod FrontLemmas
pub mod LastLemmas
pub mod LoadLemmas
