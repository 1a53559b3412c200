-- Beginning anew; from the opening, which is its case with nothing before: `hosts_begin_anew`,
-- `reports_are_honest_anew`, `reports_are_honest_later`, `hosts_are_careful`, `reports_are_honest`.
pub mod AnewHonest
pub mod SignsLemmas
pub mod AnewJoins
pub mod HostedLemmas
pub mod LaterJoins
