mod RowLemmas
pub mod Door
