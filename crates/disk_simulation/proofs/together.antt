-- Both views: `both_views_go_on_together`.
pub mod TalkLemmas
pub mod TogetherLemmas
