-- For `rested_disks_are_left`. Where nothing is on its way between a disk and its host, and the disk owes nothing, no command is with
-- the disk.
use Rattle.std.proofs.Common.{◌≡◌, ℕ, ◌<◌, Bool, true, false, List, [], ◌∷◌, ◌++◌, refl, sym, ap, subst, ◌∙◌, inl, inr, Option, Some, None, arith}
use Rattle.std.proofs.lemmas.Bool.{false≢true, true≢false}
use Rattle.std.specs.{Prelude.is_some, Option.option_map}
use Rattle.port_errors.specs.Errors.{cause_of}
use Rattle.slots.specs.{Data.payload, Slots.{Issue, context_of, is_control, issue_at, own_issue}, Table.IsIssue, Work.is_queued}
use Rattle.slots.specs.declared.work.{Kind.TheVariants.Control, Work.Work}
use Rattle.hba_commands.specs.{Requests.{request_of, work_of}, declared.command.Command.Command}
use Rattle.hba_fbs.specs.Views.{last_command, view_of}
use Rattle.disk_model.specs.{declared.plan.DiskPlan.DiskPlan, Histories.Happening, Laws.OwesNothing, Ledger.ledger}
use Rattle.hba_laws.specs.{Agreement.{IssueAgrees, work_of_issue}, Client.{Touches, own}, History.issued}
use Rattle.hba_laws.proofs.Door.{is_own}
use Rattle.hba_driver.specs.declared.path.{Path.Path, Stage.{Stage, TheVariants.{AssertReset, AwaitReset, Identify, ReadLog, ReleaseReset}}}
use Rattle.hba_driver.specs.{Drivers.Entry, Events.shared_by, HostTurns.Host, Orders.{control, identify_fields, log_fields, request_fields}}
use Rattle.hba_driver.specs.{Orders.work_fields, Paths.stage_fields, Served.{IsFisOf, IsIssueOf, IsRequest, IsStep}, Slot30.{Asks, Clears, Faulty}}
use Rattle.hba_driver.specs.{Slot30.{IsSlot30, LogSent, Sets, Stage30, is_faulty}, Tended.{Awaits, Fine, Identifies, IsTendedBy, Logs, Releases}}
use Rattle.hba_driver.specs.Tended.{Spoilt}
use Rattle.hba_driver.specs.declared.request.Work as driver_work
use Rattle.hba_driver.specs.declared.request.Work.TheVariants as work
use Rattle.hba_driver.specs.Orders as order
use Rattle.hba_driver.proofs.Door.{is_alone}
use Rattle.disk_simulation.specs.{Anew.IsKeptOn, Line.{Asked, Line, OnLine}}
use Rattle.disk_recovery.specs.{Ends.{Apart, AreEnds, IsRunning, IsSetAside, IsTogether, Together}, Stages.Fits}
use Rattle.disk_recovery.proofs.Door.{request_kind}
use Rattle.world_rests.specs.{Left.NoneIsOut, Out.NothingIsOut}
use Rattle.world_rests.proofs.{Answered.{kept_at, linked_at, none_is_out, not_sent, own_at, same_told}, Due.{AreOwed, IsPlain, WaitsIn, owes_none}}
use Rattle.world_rests.proofs.{Due.waits_if, Dues.hosted_is_owed, Frames.{AllFull, given_full}, Open.{WasIssued, was_issued}}

-- ---- what the driver issues that is not queued

flush_plain : (slot : ℕ) (w : driver_work.Work) (dev lba sectors : ℕ) → order.is_queued w ≡ false → IsPlain (work_of (request_of (work_fields slot w dev lba sectors)))
unfolding work_of
flush_plain slot work.Flush dev lba sectors plain = inl refl
flush_plain slot other dev lba sectors plain = absurd (true≢false plain)

request_plain : (slot : ℕ) (e : Entry) → order.is_queued e.head.work ≡ false → IsPlain (work_of (request_of (request_fields slot e.head)))
unfolding request_fields
request_plain slot e plain = flush_plain slot e.head.work e.head.dev e.head.lba e.head.sectors plain

identify_plain : (dev : ℕ) → IsPlain (work_of (request_of (identify_fields dev)))
unfolding work_of
identify_plain dev = inr (refl, refl)

log_plain : (dev : ℕ) → IsPlain (work_of (request_of (log_fields dev)))
unfolding work_of
log_plain dev = inr (refl, refl)

pub control_kind : (dev n : ℕ) → (work_of (request_of (control dev n))).kind ≡ Control
unfolding work_of
control_kind dev n = refl

-- ---- at either stage

module _ (n : ℕ) (below : n < 15) (plan : DiskPlan) (sectors : ℕ) (h : Host) (disk : List Happening) (floors : ℕ → ℕ) (touches : Touches)
    (running : IsRunning plan sectors disk touches h) (owes : OwesNothing (ledger disk)) (fed : payload (context_of h.port.slots n) ≡ None)
    (faultless : cause_of h.port.errors n ≡ None) where
  at_own : (slot : ℕ) (issue : Issue) → slot < 32 → issue_at h.port.slots slot ≡ Some issue → issue.dev ≡ n → own_issue (view_of n h.port).slots slot ≡ Some issue
  at_own = own_at n below plan sectors h disk floors touches running owes fed faultless

  sound_issue : (slot : ℕ) (issue : Issue) → own_issue (view_of n h.port).slots slot ≡ Some issue → IsIssue issue
  sound_issue slot issue here = (is_own n h.port.slots running.on.sound.ruled.table).issues slot issue here

  -- a command that went out and is not queued
  module _ (t : IsTogether n h disk [] [] floors touches) (slot : ℕ) (issue : Issue) (low : slot < 32) (there : issue_at h.port.slots slot ≡ Some issue) (its : issue.dev ≡ n)
      (unqueued : is_queued issue.work.kind ≡ false) (sent : issue.sent ≡ true) where
    here : own_issue (view_of n h.port).slots slot ≡ Some issue
    here = at_own slot issue low there its

    w : WasIssued slot issue (own n touches)
    w =
        was_issued slot issue (own n touches) (issued slot (own n touches)) refl
        ((running.on.served.told n (omega (arith, below))).issued slot ∙ ap (option_map work_of_issue) here)

    fis_of : (command : Command) → last_command h.port.commands slot ≡ Some command → IsFisOf h.driver n slot w.transfer command
    fis_of command last = running.on.served.fises n slot w.transfer command w.there last

    has_command : (command : Command) × (last_command h.port.commands slot ≡ Some command)
    has_command = by_command (last_command h.port.commands slot) refl
      where
        by_command : (o : Option Command) → last_command h.port.commands slot ≡ o → (command : Command) × (o ≡ Some command)
        by_command None none =
            let free : issue_at h.port.slots slot ≡ None = running.on.sound.ruled.rules.commands slot none in
            let wrong : Some issue ≡ None = sym there ∙ free in
            absurd (cc wrong)
        by_command (Some command) last = (command, refl)

    of_request : IsRequest h.driver n slot w.transfer → IsPlain w.transfer.work
    of_request r =
        let fis = fis_of has_command.0 has_command.1 in
        let built = fis.of_request r.entry r.slot r.stands in
        let kind : order.is_queued r.entry.head.work ≡ false =
        sym (ap (λ (x : Work). is_queued x.kind) built.work ∙ request_kind slot r.entry) ∙ ap (λ (x : Work). is_queued x.kind) w.work ∙ unqueued in
        subst IsPlain (sym built.work) (request_plain slot r.entry kind)

    no_control : (x : Work) → w.transfer.work ≡ x → x.kind ≡ Control → IsPlain w.transfer.work
    no_control x is kind =
        let none : is_control issue.work.kind ≡ false = (sound_issue slot issue here).controls sent in
        absurd (true≢false (sym (ap is_control kind) ∙ ap (λ (y : Work). is_control y.kind) (sym is ∙ w.work) ∙ none))

    of_stage : (p : Path) (stage : Stage) → slot ≡ 30 → h.driver.plan.path ≡ Some p → p.asked ≡ true → p.stage ≡ stage → (stage ≡ AwaitReset → ⊥) → IsPlain w.transfer.work
    unfolding stage_fields
    of_stage p Identify at goes asked is waits =
        let built = (fis_of has_command.0 has_command.1).of_step p (identify_fields p.dev) at goes asked (ap (stage_fields p.dev) is) in
        subst IsPlain (sym built.work) (identify_plain p.dev)
    of_stage p (ReadLog file) at goes asked is waits =
        let built = (fis_of has_command.0 has_command.1).of_step p (log_fields p.dev) at goes asked (ap (stage_fields p.dev) is) in
        subst IsPlain (sym built.work) (log_plain p.dev)
    of_stage p AssertReset at goes asked is waits =
        let built = (fis_of has_command.0 has_command.1).of_step p (control p.dev 4) at goes asked (ap (stage_fields p.dev) is) in
        no_control _ built.work (control_kind p.dev 4)
    of_stage p ReleaseReset at goes asked is waits =
        let built = (fis_of has_command.0 has_command.1).of_step p (control p.dev 0) at goes asked (ap (stage_fields p.dev) is) in
        no_control _ built.work (control_kind p.dev 0)
    of_stage p AwaitReset at goes asked is waits = absurd (waits refl)

    -- a path whose command was issued does not await the end of a reset
    not_await : (p : Path) → h.driver.plan.path ≡ Some p → p.dev ≡ n → p.asked ≡ true → p.stage ≡ AwaitReset → ⊥
    not_await p goes dev asked awaits = by_way t.served.tended.plan.way
      where
        other : (q : Path) → h.driver.plan.path ≡ Some q → (q.stage ≡ AwaitReset) × (q.asked ≡ true)
        other q is =
            let both : Some p ≡ Some q = sym goes ∙ is in
            let one : p ≡ q = cc both in
            (subst (λ (x : Path). x.stage ≡ AwaitReset) one awaits, subst (λ (x : Path). x.asked ≡ true) one asked)

        by_way : IsTendedBy n h.driver.plan → ⊥
        by_way (Fine fine works) = let wrong : Identify ≡ AwaitReset = sym (works p goes dev).0 ∙ awaits in absurd (cc wrong)
        by_way (Releases device works) = let wrong : ReleaseReset ≡ AwaitReset = (other _ works).0 in absurd (cc wrong)
        by_way (Awaits device works) = let wrong : false ≡ true = (other _ works).1 in false≢true wrong
        by_way (Identifies device works) = let wrong : Identify ≡ AwaitReset = (other _ works).0 in absurd (cc wrong)
        by_way (Logs before file device works) = let wrong : ReadLog file ≡ AwaitReset = (other _ works).0 in absurd (cc wrong)
        by_way (Spoilt device away) = away p goes dev

    of_step : IsStep h.driver n slot w.transfer → IsPlain w.transfer.work
    of_step step = of_stage step.path step.path.stage step.slot step.goes step.asked refl (not_await step.path step.goes step.of_dev step.asked)

    plain : IsPlain w.transfer.work
    plain = by_from (running.on.served.issues n slot w.transfer w.there)
      where
        by_from : IsIssueOf h.driver n slot w.transfer → IsPlain w.transfer.work
        by_from is = elim is.from [
          | inl r ↦ of_request r
          | inr (inl step) ↦ of_step step
          | inr (inr ordered) ↦ let same : n ≡ 15 = ordered.of_dev in absurd (omega (arith, below, same))
        ]

    never_out : ⊥
    never_out =
        let linked = linked_at n below plan sectors h disk floors touches running t in
        let kept : IsKeptOn n t.base (shared_by h) t.given t.commands (own n touches) = kept_at n below plan sectors h disk floors touches running t in
        let same : ledger t.given ≡ ledger disk = same_told n below plan sectors h disk floors touches running t in
        let none : OwesNothing (ledger t.given) = subst OwesNothing (sym same) owes in
        let full : AllFull t.given = given_full plan sectors t.base disk t.given [] [] [] running.size running.run linked in
        let owed : AreOwed (view_of n h.port).state.block (own n touches) (ledger t.given) =
        hosted_is_owed n t.base below t.owes (shared_by h) t.given t.commands (own n touches) full t.served.hosted in
        let agrees : IssueAgrees slot issue (view_of n h.port).slots.context (own n touches) = kept.joined.history.agrees.issues_agree slot issue here in
        let waits : WaitsIn slot w.transfer (own n touches) = record {
          here = w.there;
          plain = plain;
          waits = agrees.waits_is ∙ waits_if issue (sound_issue slot issue here) unqueued sent;
        } in
        owes_none (view_of n h.port).state.block (ledger t.given) (owed slot w.transfer waits) none.awaited none.pages

  together_none : NoneIsOut n h.port → IsTogether n h disk [] [] floors touches → NothingIsOut n h.port
  together_none none t slot issue low there its = not_sent issue.sent (λ sent. by_kind (is_queued issue.work.kind) refl sent)
    where
      by_kind : (queued : Bool) → is_queued issue.work.kind ≡ queued → issue.sent ≡ true → ⊥
      by_kind true queued sent = true≢false (sym sent ∙ none slot issue low there its queued)
      by_kind false queued sent = never_out t slot issue low there its queued sent

  -- ---- apart

  no_end : {X : Type 0} (xs : List (List ℕ)) (x : List ℕ) → [] ≡ xs ++ x ∷ [] → X
  no_end [] x is = cc is
  no_end (y ∷ xs) x is = cc is

  -- READ LOG EXT went out, and has not come down
  log_down : (line : Line) → Fits line LogSent → OnLine line (ledger disk) [] [] → ⊥
  log_down Asked fits on = no_end on.ahead on.log on.is
  log_down other fits on = fits

  apart_none : IsSetAside n h disk [] [] → NothingIsOut n h.port
  apart_none a slot issue low there its =
      let unfaulted : is_faulty a.stage ≡ false = sym a.at.fault ∙ ap is_some faultless in
      let own_it : own_issue (view_of n h.port).slots slot ≡ Some issue = at_own slot issue low there its in
      let at : slot ≡ 30 = (is_alone n).issues touches h a.stage below running.on.served a.at unfaulted slot issue own_it in
      by_stage a.stage unfaulted a.fits (a.at.apart unfaulted).slot (subst (λ (s : ℕ). own_issue (view_of n h.port).slots s ≡ Some issue) at own_it)
    where
      none_there : own_issue (view_of n h.port).slots 30 ≡ None → own_issue (view_of n h.port).slots 30 ≡ Some issue → issue.sent ≡ false
      none_there free own_it = let wrong : None ≡ Some issue = sym free ∙ own_it in cc wrong

      unsent : (i : Issue) → i.sent ≡ false → own_issue (view_of n h.port).slots 30 ≡ Some i → own_issue (view_of n h.port).slots 30 ≡ Some issue → issue.sent ≡ false
      unsent i is there own_it =
          let both : Some i ≡ Some issue = sym there ∙ own_it in
          let one : i ≡ issue = cc both in
          subst (λ (x : Issue). x.sent ≡ false) one is

      by_stage : (stage : Stage30) → is_faulty stage ≡ false → Fits a.line stage → IsSlot30 n stage h.port → own_issue (view_of n h.port).slots 30 ≡ Some issue → issue.sent ≡ false
      by_stage Faulty well fits slot own_it = absurd (true≢false well)
      by_stage Asks well fits slot own_it = unsent _ refl slot.issued own_it
      by_stage LogSent well fits slot own_it = absurd (log_down a.line fits a.on)
      by_stage Sets well fits slot own_it = unsent _ refl slot.issued own_it
      by_stage Clears well fits slot own_it = unsent _ refl slot.issued own_it
      by_stage other well fits slot own_it = none_there slot own_it

  pub nothing_is_out : AreEnds n h disk [] [] floors touches → NothingIsOut n h.port
  nothing_is_out (Together t) =
      together_none (none_is_out n below plan sectors h disk floors touches running owes fed faultless (Together t)) t
  nothing_is_out (Apart a are) = apart_none a
