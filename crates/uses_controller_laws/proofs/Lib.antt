pub mod CallLemmas
pub mod OpensLemmas
