pub mod CountLemmas
pub mod DeedLemmas
pub mod PullLemmas
pub mod ToldLemmas
