-- The lemmas of this crate that proofs of other crates use. What else stands under proofs/ may change at any time, and is
-- not seen from outside.
pub use Rattle.multiplier.proofs.ArbiterLemmas.{served_below}
pub use Rattle.multiplier.proofs.Ports.{each_port, has_down, has_up, kept_part, other_port, this_port}
pub use Rattle.multiplier.proofs.Gone.{left_is, never_up_to, not_up_to, still_up_to, up_to, up_to_is}
pub use Rattle.multiplier.proofs.Sound.{opens_sound}
pub use Rattle.multiplier.proofs.GiveLemmas.{gives}
pub use Rattle.multiplier.proofs.PutBack.{gives_held}
pub use Rattle.multiplier.proofs.PassingLemmas.{last_gone}
pub use Rattle.multiplier.proofs.Removals.{apart, one_step, pass_in_order, step_gone}
pub use Rattle.multiplier.proofs.StampLemmas.{begins_stamped, goes_up_stamped}
pub use Rattle.multiplier.proofs.SavedLemmas.{all_in, each_in, one_fails}
