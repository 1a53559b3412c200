use Rattle.std.proofs.Common.{ℕ, ap, sym, ◌∙◌}
use Rattle.slots.specs.{Slots.mask_below, Commands.next_slot}
use Rattle.hba_fbs.specs.{Sending.{is_ready, next_to_send}, Views.state_at}
use Rattle.hba_fbs.proofs.ChooseLemmas.{none_next}
use Rattle.hba_fbs.proofs.port.PortCore.next_to_send.Goals as goal

pub returns-then-unsent-eq0-clause-value : goal.returns-then-unsent-eq0-clause-value
unfolding next_to_send
returns-then-unsent-eq0-clause-value c = rw (← c.self.view_is) (sym (none_next _ _ c.self.inside.slots (sym c.unsent.ensures ∙ c.if-unsent-eq0.true)))

pub returns-clause-value : goal.returns-clause-value
unfolding next_to_send
returns-clause-value c =
    rw (← c.self.view_is)
    (c.next_command.ensures.value
    ∙ ap (λ (r : ℕ). next_slot r c.faulty_devices-faulty.result c.self.inside.slots) c.ready_devices-ready.ensures
    ∙ ap (λ (f : ℕ). next_slot (mask_below (λ k. is_ready (state_at c.self.inside.states k)) 16) f c.self.inside.slots) c.faulty_devices-faulty.ensures)
