-- For `rested_drivers_watch`. In a world at rest slot 31 waits for a notification alone: an order that is issued goes out, and the
-- signature comes.
use Rattle.std.proofs.Common.{◌≡◌, ℕ, ◌<◌, true, false, [], length, refl, sym, ap, subst, ◌∙◌, inl, inr, Option, Some, None, arith}
use Rattle.std.proofs.lemmas.{Bool.{and_parts, cases_Bool, false≢true, true≢false}, Option.same_Some}
use Rattle.std.specs.Prelude.{is_some, not}
use Rattle.fis_view.specs.declared.build.H2dFields.{H2dFields}
use Rattle.hba_commands.specs.Requests.{request_of, work_of}
use Rattle.slots.specs.{Commands.has_outstanding, Setup.is_outstanding, Slots.{Issue, holds, is_control, is_waiting, issue_at, lowest, new_issue}}
use Rattle.slots.specs.{Slots.{own_issue, slots_of, waiting}, Work.is_queued}
use Rattle.slots.proofs.Door.{lowest_is}
use Rattle.hba_fbs.specs.{Status.{is_busy, wants_data}, Views.{state_at, view_of}}
use Rattle.hba_laws.proofs.Door.{own_here, own_in}
use Rattle.hba_driver.specs.{declared.order.Order.TheVariants.ResetOff, Drivers.IsPath, Events.shared_by, HostTurns.{Host, sight_in}}
use Rattle.hba_driver.specs.{Orders.order_fields, Seeing.Sight, Served.{IsBounded, IsIssueOf}, Sights.sight_of, Slot31.{IsIn, IsUnsent, Resets}}
use Rattle.hba_driver.specs.{Slot31.{Signs, Stage31, control_of, is_resetting}, declared.mode.Mode.TheVariants.Switching}
use Rattle.hba_driver.proofs.Door.{sight_is, told_of}
use Rattle.world_rests.specs.{Sent.{HasOther, HasQueued, Holds, InReset, IsBusy, PortWaits, WantsData}, Waits.{DriverWaits, ForAnswer, ForNotice}}
use Rattle.world_rests.specs.{Waits.{ForSignature, Waits31}, Watches.WaitsForNotice}
use Rattle.world_rests.proofs.{ControlFile.IsCalm, Ready.{not_dma, own_dev as owned_dev, stands_at}, Signed.{IsSigned, none_awaited}, Slot31.IsAsking}
use Rattle.world_rests.proofs.{Slot31.IsOut, Ways.{IsGood, Line}}

-- the second FIS of a software reset is a Control
off_control : (f : H2dFields) → order_fields ResetOff ≡ Some f → is_control (work_of (request_of f)).kind ≡ true
unfolding order_fields work_of
off_control f is = ap (λ (x : H2dFields). is_control (work_of (request_of x)).kind) (sym (same_Some _ f is))

reset_seen : (h : Host) → (sight_of Switching h.port h.memory).resetting ≡ (view_of 15 h.port).state.resetting
unfolding sight_of
reset_seen h = refl

module _ (l : Line) (g : IsGood l) (c : IsCalm l) (signed : IsSigned l) (waits : PortWaits l.host.port) (driver : DriverWaits (sight_in l.host) l.host.driver) (down : l.down ≡ []) (quiet : l.pm.answer ≡ None) (up : l.up ≡ [])
    (none : IsAsking (view_of 15 l.host.port) → ⊥) where
  abbrev h : Host
  h = l.host

  long : length h.port.slots.issues ≡ 32
  long = g.going.way.sound.ruled.table.slots

  -- what is issued in a slot is a request for a fan-out port, a step for one, or an order in slot 31
  order_at : (s : ℕ) (i : Issue) → issue_at h.port.slots s ≡ Some i → i.dev ≡ 15 → s ≡ 31
  order_at s i there own =
      let told = told_of (shared_by h) g.going.way.past g.going.way.sound.ruled.table g.going.way.served.told s i there in
      let of : IsIssueOf h.driver i.dev s told.0 = g.going.way.served.issues i.dev s told.0 told.1 in
      elim of.from [
        | inl r ↦
            let bounded : IsBounded r.entry = g.going.way.served.bounded.entries s r.entry r.stands in
            let low : r.entry.head.dev < 15 = bounded.dev in
            let its : r.entry.head.dev ≡ i.dev = r.of_dev in
            absurd (omega (arith, low, its, own))
        | inr (inl step) ↦
            let low : step.path.dev < 15 = subst IsPath step.goes g.going.way.served.bounded.path in
            let its : step.path.dev ≡ i.dev = step.of_dev in
            absurd (omega (arith, low, its, own))
        | inr (inr order) ↦ order.slot
      ]

  owner : (i : Issue) → issue_at h.port.slots 31 ≡ Some i → i.dev ≡ 15
  owner i there =
      let told = told_of (shared_by h) g.going.way.past g.going.way.sound.ruled.table g.going.way.served.told 31 i there in
      let of : IsIssueOf h.driver i.dev 31 told.0 = g.going.way.served.issues i.dev 31 told.0 told.1 in
      elim of.from [
        | inl r ↦ let low : 31 < 30 = r.slot in absurd (omega (arith, low))
        | inr (inl step) ↦ let at : 31 ≡ 30 = step.slot in absurd (omega (arith, at))
        | inr (inr order) ↦ order.of_dev
      ]

  module _ (i : Issue) (there : issue_at h.port.slots 31 ≡ Some i) (asked : h.driver.plan.asked ≡ true) where
    own : i.dev ≡ 15
    own = owner i there

    here : own_issue (view_of 15 h.port).slots 31 ≡ Some i
    here = subst (λ (d : ℕ). own_issue (view_of d h.port).slots 31 ≡ Some i) own (own_here 31 h.port.slots i (omega (arith, long)) there)

    unsent : i.sent ≡ true → ⊥
    unsent sent = none (record { issue = i; there = here; sent = sent; well = waits.faultless 15 })

    -- in another slot there is no command of the control port
    same_issue : (s : ℕ) (j : Issue) → own_issue (slots_of 15 h.port.slots) s ≡ Some j → i ≡ j
    same_issue s j at =
        let in_slot = own_in 15 s h.port.slots j at in
        let dev : j.dev ≡ 15 = own_dev s j at in
        let is : s ≡ 31 = order_at s j in_slot.1 dev in
        same_Some i j (sym there ∙ ap (issue_at h.port.slots) (sym is) ∙ in_slot.1)
      where
        own_dev : (s : ℕ) (j : Issue) → own_issue (slots_of 15 h.port.slots) s ≡ Some j → j.dev ≡ 15
        own_dev s j at = owned_dev 15 s h.port.slots j at (own_in 15 s h.port.slots j at).0

    no_reset : is_control i.work.kind ≡ false → (view_of 15 h.port).state.resetting ≡ true → ⊥
    no_reset plain on = by_stage g.stage refl (sym g.at.resetting ∙ on)
      where
        never : own_issue (view_of 15 h.port).slots 31 ≡ None → ⊥
        never free = let wrong : None ≡ Some i = sym free ∙ here in cc

        controls : h.driver.plan.order ≡ ResetOff → IsUnsent h.driver.plan.order (control_of h) → ⊥
        controls order u =
            let same : i ≡ new_issue 15 (work_of (request_of u.fields)) = same_Some i _ (sym here ∙ u.issued) in
            true≢false (sym (off_control u.fields (ap order_fields (sym order) ∙ u.are)) ∙ ap (λ (x : Issue). is_control x.work.kind) (sym same) ∙ plain)

        resets : IsIn Resets h.driver.plan.order h.driver.plan.asked (control_of h) → ⊥
        resets (inl at) = never at.2
        resets (inr (off, inl not_asked)) = true≢false (sym asked ∙ not_asked)
        resets (inr (off, inr at)) = controls off at.1

        by_stage : (s : Stage31) → g.stage ≡ s → is_resetting s ≡ true → ⊥
        by_stage Resets e now = resets (subst (λ (x : Stage31). IsIn x h.driver.plan.order h.driver.plan.asked (control_of h)) e g.at.is)
        by_stage Signs e now = let at : IsIn Signs h.driver.plan.order h.driver.plan.asked (control_of h) = subst (λ (x : Stage31). IsIn x h.driver.plan.order h.driver.plan.asked (control_of h)) e g.at.is in never at.0
        by_stage other e now = false≢true now

    not_held : is_control i.work.kind ≡ false → Holds h.port i → ⊥
    not_held plain (InReset resets) = no_reset plain (subst (λ (d : ℕ). (state_at h.port.states d).resetting ≡ true) own resets)
    not_held plain (IsBusy busy) = elim (cases_Bool (view_of 15 h.port).state.resetting) [
      | inl on ↦ no_reset plain on
      | inr off ↦
          let out : IsOut (view_of 15 h.port).slots = c.shows.busy (subst (λ (d : ℕ). is_busy (state_at h.port.states d).status ≡ true) own busy) (waits.faultless 15) off in
          unsent (ap (λ (x : Issue). x.sent) (same_issue 31 out.issue out.there) ∙ out.sent)
    ]
    not_held plain (WantsData wants) = true≢false (sym (subst (λ (d : ℕ). wants_data (state_at h.port.states d).status ≡ true) own wants) ∙ c.shows.drq)
    not_held plain (HasOther s is) =
        let found = lowest_is (λ k. holds is_waiting (own_issue (slots_of 15 h.port.slots) k)) 32 s (subst (λ (d : ℕ). waiting (slots_of d h.port.slots) ≡ Some s) own is) in
        by_issue (own_issue (slots_of 15 h.port.slots) s) refl found.passes
      where
        by_issue : (o : Option Issue) → own_issue (slots_of 15 h.port.slots) s ≡ o → holds is_waiting o ≡ true → ⊥
        by_issue None e on = false≢true on
        by_issue (Some j) e on = unsent (ap (λ (x : Issue). x.sent) (same_issue s j e) ∙ (and_parts j.sent (not j.answered) on).0)
    not_held plain (HasQueued dma outstanding) =
        by_lowest (lowest (λ k. holds is_outstanding (own_issue (slots_of 15 h.port.slots) k))) refl (subst (λ (d : ℕ). has_outstanding (slots_of d h.port.slots) ≡ true) own outstanding)
      where
        by_issue : (s : ℕ) (o : Option Issue) → own_issue (slots_of 15 h.port.slots) s ≡ o → holds is_outstanding o ≡ true → ⊥
        by_issue s None e on = false≢true on
        by_issue s (Some j) e on = not_dma i.work.kind (ap (λ (x : Issue). is_queued x.work.kind) (same_issue s j e) ∙ (and_parts (is_queued j.work.kind) j.answered on).0) dma

        by_lowest : (o : Option ℕ) → lowest (λ k. holds is_outstanding (own_issue (slots_of 15 h.port.slots) k)) ≡ o → is_some o ≡ true → ⊥
        by_lowest None e on = false≢true on
        by_lowest (Some s) e on = by_issue s (own_issue (slots_of 15 h.port.slots) s) refl (lowest_is (λ k. holds is_outstanding (own_issue (slots_of 15 h.port.slots) k)) 32 s e).passes

    none_issued : ⊥
    none_issued = elim (waits.sent 31 i (omega arith) there) [
      | inl sent ↦ unsent sent
      | inr back ↦ not_held back.command back.holds
    ]

  pub waits_for_notice : WaitsForNotice (sight_in h) h.driver.plan
  waits_for_notice = by_way driver.slot31
    where
      by_way : Waits31 (sight_in h) h.driver.plan → WaitsForNotice (sight_in h) h.driver.plan
      by_way (ForAnswer asked out) = let at = stands_at h 31 g.going.way.sound (omega arith) g.going.way.unarmed out in absurd (none_issued at.0 at.1 asked)
      by_way (ForSignature asked order on) =
          absurd (none_awaited l g signed down quiet up order (sym (ap (λ (v : Sight). v.resetting) (sight_is h g.going.way.sound) ∙ reset_seen h) ∙ on))
      by_way (ForNotice asked order none) = record { unasked = asked; watches = order; unnotified = none }
