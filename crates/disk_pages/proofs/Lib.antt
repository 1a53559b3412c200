pub mod TextLemmas
pub mod ByteLemmas
pub mod ClaimLemmas
pub mod ReadingLemmas
pub mod DecodedLemmas
