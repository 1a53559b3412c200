mod FanLemmas
mod OrderLemmas
mod ResetLemmas
mod RenewLemmas
mod SavedLemmas
