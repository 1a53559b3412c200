-- For `resets_begin_free`. A calm turn in which the software reset of a device is issued, of which nothing was issued
-- before.
use Rattle.std.proofs.Common.{◌≡◌, ℕ, ◌<◌, List, refl, sym, ◌∙◌, ap, inl, inr, arith, Some, None}
use Rattle.std.specs.Option.{option_map}
use Rattle.slots.specs.Slots.{issue_at, own_issue}
use Rattle.hba_fbs.specs.Views.{view_of}
use Rattle.disk_model.specs.Histories.{Happening}
use Rattle.hba_laws.specs.{Agreement.{IsHistoryOf, work_of_transfer}, Client.{Touches, own}, History.{Transfer, issued}}
use Rattle.hba_laws.proofs.Door.{own_in}
use Rattle.disk_simulation.proofs.Door.{no_context, there_by}
use Rattle.disk_simulation.specs.{Same.SlotCommand, Between.IsThere}
use Rattle.hba_driver.specs.{declared.{path.Recovery.TheVariants.Reset, plan.Device.TheVariants.Ready}, Drivers.device_at, Events.shared_by}
use Rattle.hba_driver.specs.{HostTurns.{Host, HostTurn, Ticked}, Tended.{IsResetTurn, TendsOn}, Between.From}
use Rattle.hba_driver.proofs.Door.{issued_live, recovering_ready, slot_over}
use Rattle.disk_recovery.specs.Together.{CalmTurnsGoOn, IsFreeAt, IsServedOn}
use Rattle.disk_recovery.proofs.together.{TogetherBegins.no_context_at, TogetherTurns.{calm_tends, calm_turn}}
use Rattle.disk_recovery.proofs.honest.TurnLemmas.{no_issue, no_transfer}

module _ (n : ℕ) (base : List Happening) (old : Host) (given : List Happening) (commands : ℕ → SlotCommand) (touches : Touches) (below : n < 15) (h : IsServedOn n base old given commands touches)
    (unready : device_at old.driver.plan n ≡ Ready → ⊥) where
  told : IsHistoryOf n (shared_by old) (own n touches)
  told = h.served.told n (omega (arith, below))

  -- what slot 30 holds is over
  not_stepped : (turn : HostTurn) → IsResetTurn n old turn → (s : ℕ) (t : Transfer) → issued s (own n touches) ≡ Some t → From old.driver n s t → ⊥
  not_stepped (Ticked a) resets s t here (inl r) = unready (h.tended.requests.ready s r.entry (record { stands = r.stands; of_dev = r.of_dev; lives = issued_live r.entry r.goes }))
  not_stepped (Ticked a) resets s t here (inr (inl i)) =
      let at : IsThere (view_of n old.port).slots s t =
      there_by (view_of n old.port).slots s t (own_issue (view_of n old.port).slots s) refl (sym (ap (option_map work_of_transfer) here) ∙ told.issued s) in
      let there : issue_at old.port.slots s ≡ Some at.issue = (own_in n s old.port.slots at.issue at.there).1 in
      let over : issue_at old.port.slots 30 ≡ None = slot_over n old i.path h.sound resets i.goes i.asked in
      let bad : None ≡ Some at.issue = sym (ap (issue_at old.port.slots) i.slot ∙ over) ∙ there in cc bad
  not_stepped (Ticked a) resets s t here (inr (inr o)) = omega (arith, below, o.of_dev)
  not_stepped other resets s t here from = resets

  reset_free : (turn : HostTurn) → IsResetTurn n old turn → IsFreeAt n old touches
  reset_free turn resets =
      let none : (s : ℕ) → issued s (own n touches) ≡ None = λ s. no_transfer (issued s (own n touches)) (λ t here. not_stepped turn resets s t here (h.served.issues n s t here).from) in
      let slots : (s : ℕ) → own_issue (view_of n old.port).slots s ≡ None =
      λ s. no_issue (own_issue (view_of n old.port).slots s) (sym (ap (option_map work_of_transfer) (none s)) ∙ told.issued s) in
      record {
        told = none;
        slots = slots;
        context = no_context_at (view_of n old.port).slots.context (no_context n (shared_by old) (own n touches) told slots);
      }

pub calm_turns_go_on : CalmTurnsGoOn
calm_turns_go_on n base old turn new run given commands touches below calm h =
    let tends : TendsOn n old turn new = calm_tends n base old turn new run given commands touches below calm h in
    elim tends.next [
      | inl on ↦ inl (calm_turn n base old turn new run given commands touches below calm tends on h)
      | inr resets ↦ inr (record {
        issues = resets.0;
        reset = resets.1;
        free = reset_free n base old given commands touches below h (λ r. recovering_ready Reset (sym resets.1.device ∙ tends.ready r)) turn resets.0;
      })
    ]
