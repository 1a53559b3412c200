-- For `disks_are_honest`. Honest disks on each connection, over whole runs of a world.
use Rattle.std.proofs.Common.{◌≡◌, ◌==◌, ℕ, ◌<◌, Bool, true, false, List, [], ◌∷◌, ◌++◌, append_assoc, length, refl, sym, ap, subst, ◌∙◌, inl, inr}
use Rattle.std.proofs.{Common.{Option, Some, None, Ok, arith}, lemmas.{Bool.{eq-eqb, eqb-true, or_parts}, List.Folds.list_any-append}}
use Rattle.std.proofs.lemmas.{List.append-nil, Option.slice_get_within}
use Rattle.std.specs.{Prelude.{if◌then◌else◌, slice_get, IsSomeAnd}, List.list_any}
use Rattle.fis_view.specs.Frames.{marked}
use Rattle.host_memory.specs.Memory.{is_memory_size}
use Rattle.hba_fbs.specs.{declared.report.TakeReport.TakeReport, Taking.port_of}
use Rattle.disk_model.specs.{declared.{plan.DiskPlan.DiskPlan, unit.Unit.TheVariants.Disk}, Histories.{DiskOf, Happening, Plugged}, Runs.IsDiskRun}
use Rattle.disk_model.specs.{Fronts.IsFront, Ledger.ledger}
use Rattle.hba_driver.specs.{declared.mode.Mode.TheVariants.Switching, HostTurns.HostTurn, Drivers.{Entry, entry_at, rephased}, Orders.is_queued}
use Rattle.hba_driver.specs.{Submits.new_entry, declared.{slot.Phase.TheVariants.Waits, request.{Request.Request, Ticket.Ticket}}}
use Rattle.disk_simulation.proofs.Door.{run_to}
use Rattle.multiplier.specs.State.{port_at}
use Rattle.pm_registers.specs.RegisterMap.{forwards}
use Rattle.pm_world.specs.{Attached.{Attached, Modelled, StandsFor, plan_of}, Disks.{Before, DiskRun, EndedSince, FlushedSince, HasDisk, HonestDisks}}
use Rattle.pm_world.specs.{Disks.{Since, WasSubmitted, disk_history, host_turns}, Places.{Place, Places, is_config, new_world}, Rules.{Rule, Run}}
use Rattle.pm_world.specs.{Runs.{IsStepOf, over}, HostTouches.AreTouched, Turns.turn_of, Units.{LivesOn, happens}, Ends.{EndsMeet, HaveMet}}
use Rattle.pm_world.specs.{Ends.IsDiskWith, PathEnds.{IsThere, injects}, declared.step.{Answer.Answer, Config.Config, Step.Step}, ReadBack.IsPart}
use Rattle.pm_world.specs.declared.step.Answer.TheVariants as answer
use Rattle.pm_world.specs.declared.step.Step.TheVariants as step
use Rattle.pm_world.proofs.{honest.AnewLemmas.{OrderedNow, now_at, order_run, ordered_after, ordered_on}, turns.Delivery.sized}
use Rattle.pm_world.proofs.honest.DisksLemmas.{ends_honestly, ends_later, flush_of_device, flush_taken, lived_run, of_device, part_front}
use Rattle.pm_world.proofs.honest.{EarlyLemmas.{ComesShut, comes_shut}, EndsRuns.its_port, EndsSteps.running, StageRuns.{Hears, Stage, Waiting}}
use Rattle.pm_world.proofs.{honest.{StageRuns.{hears, serves_open, stage_rises, stage_run}, TakenLemmas.took_since}, ports.FirmLemmas.firm_at}
use Rattle.pm_world.proofs.{honest.FineLemmas.further, upward.Law.run_append, paths.RunLemmas.if_some, units.Units.units_lived_on}
use Rattle.pm_world.proofs.{honest.WaitingLemmas.{IsWaiting, came_waiting}, reported.ReportedLemmas.{StoodIn, SubmittedIn, later_of, renamed}}
use Rattle.pm_world.proofs.{reported.ReportedLemmas.{step_stood, submitted_over}, control_port.LineLemmas.IsNow}
use Rattle.slots.specs.Slots.{has_bit}
use Rattle.hba_laws.specs.{Client.own, History.filled}
use Rattle.disk_recovery.specs.{Ends.{AreEnds, IsRunning}, Flushes.{AreFloorsOf, Floor, IsFloor, bare_floor, bare_floors, floor_for, floor_of}}
use Rattle.disk_recovery.specs.Flushes.{flushes_taken, write_floors}
use Rattle.disk_recovery.proofs.Door.{floor_stays}
use Rattle.hba_driver.proofs.Door as accept

-- ## The law

module _ (config : Config) (units : List Attached) (n sectors : ℕ) (plan : DiskPlan) (past : List Happening) (fits : is_config config (length units) ≡ true)
    (below : n < 15) (disk : HasDisk units n plan sectors past) (now : Places) (d : DiskRun config units n now) where
  -- ## What is told of the two parts of the run

  abbrev first_history : List Happening
  first_history = over (happens n) (new_world config units) d.first d.told d.out d.made

  abbrev before : List Happening
  before = past ++ first_history

  abbrev since : List Happening
  since = over (happens n) d.out (step.Came n ∷ d.steps) (answer.Came n d.conn ∷ d.answers) now d.run

  abbrev came : List Happening
  came = happens n d.out (step.Came n) (answer.Came n d.conn) d.run.0

  abbrev first_turns : List HostTurn
  first_turns = over turn_of (new_world config units) d.first d.told d.out d.made

  abbrev came_turns : List HostTurn
  came_turns = turn_of d.out (step.Came n) (answer.Came n d.conn) d.run.0

  right : is_memory_size config.memory ≡ true
  right = sized config (length units) fits

  -- ## The disk's run

  of_plan : plan_of (Modelled (Disk disk.disk)) ≡ DiskOf plan sectors
  of_plan = ap (λ (p : DiskPlan). DiskOf p disk.disk.sectors) disk.plan_is ∙ ap (DiskOf plan) disk.sectors_are

  whole_run : IsDiskRun plan sectors (before ++ since)
  whole_run =
      subst (IsDiskRun plan sectors) (sym (append_assoc past first_history since))
      (lived_run plan sectors (Modelled (Disk disk.disk)) past (first_history ++ since) (slice_get now.devices n) disk.stands of_plan
      (units_lived_on d.out (step.Came n ∷ d.steps) (answer.Came n d.conn ∷ d.answers) now d.run Switching config units fits d.first d.told d.made n (Modelled (Disk disk.disk))
      disk.there))

  abbrev all_steps : List Step
  all_steps = d.first ++ step.Came n ∷ d.steps

  abbrev all_answers : List Answer
  all_answers = d.told ++ answer.Came n d.conn ∷ d.answers

  all_run : Run (new_world config units) all_steps all_answers now
  all_run = run_append (new_world config units) d.out now d.first d.told (step.Came n ∷ d.steps) (answer.Came n d.conn ∷ d.answers) d.made d.run

  -- ## From the plugging on

  came_told : happens n d.out (step.Came n) (answer.Came n d.conn) d.run.0 ≡ Plugged ∷ []
  came_told = if_some (n == n) (Plugged ∷ []) (eq-eqb n n refl)

  comes : ComesShut n d.conn d.run.0
  comes = comes_shut n d.conn below config units fits d.first d.told d.out d.made d.run.0 d.run.1

  abbrev turns : List HostTurn
  turns = (first_turns ++ came_turns) ++ over turn_of d.run.0 d.steps d.answers now d.run.2

  turns_are : turns ≡ host_turns config units n now d
  turns_are = append_assoc first_turns came_turns (over turn_of d.run.0 d.steps d.answers now d.run.2)

  -- the run of the disk up to its plugging
  first_run : IsDiskRun plan sectors (before ++ Plugged ∷ [])
  first_run =
      run_to plan sectors (before ++ since) (before ++ Plugged ∷ []) (over (happens n) d.run.0 d.steps d.answers now d.run.2)
      (ap (λ (xs : List Happening). before ++ (xs ++ over (happens n) d.run.0 d.steps d.answers now d.run.2)) came_told
      ∙ sym (append_assoc before (Plugged ∷ []) (over (happens n) d.run.0 d.steps d.answers now d.run.2))) whole_run

  within : n < length units
  within = slice_get_within units n (Modelled (Disk disk.disk)) disk.there

  -- the world after the plugging
  orders : OrderedNow config units fits n below plan sectors disk.size before first_run (first_turns ++ came_turns) d.run.0
  orders =
      ordered_on config units fits n below plan sectors disk.size before first_run d.first d.told d.out d.made first_turns
      (ordered_after config units fits n below plan sectors disk.size before first_run d.first d.told d.out d.made) (step.Came n) (answer.Came n d.conn)
      d.run.0 d.run.1

  made_came : Run (new_world config units) (d.first ++ step.Came n ∷ []) (d.told ++ answer.Came n d.conn ∷ []) d.run.0
  made_came = further config units fits n below d.first d.told d.out d.made (step.Came n) (answer.Came n d.conn) d.run.0 d.run.1

  waiting : IsWaiting n d.conn d.run.0 came
  waiting = subst (IsWaiting n d.conn d.run.0) (sym came_told) (came_waiting n d.conn d.run.0 comes.off)

  abbrev At : (floors : ℕ → Floor) → Places → List Happening → List HostTurn → Type 0
  At floors w happened ts = Stage config units fits n below plan sectors disk.size before first_run within right d.conn floors w happened ts

  -- from the plugging on, over some of its steps
  opens_over : (floors : ℕ → Floor) (steps : List Step) (answers : List Answer) (new : Places) (run : Run d.run.0 steps answers new)
      → list_any (injects n) steps ≡ false
      → IsDiskRun plan sectors (before ++ (came ++ over (happens n) d.run.0 steps answers new run)) → AreFloorsOf floors (before ++ came)
      → At floors new (came ++ over (happens n) d.run.0 steps answers new run)
      ((first_turns ++ came_turns) ++ over turn_of d.run.0 steps answers new run)
  opens_over floors steps answers new run clean whole are =
      stage_run config units fits n below plan sectors disk.size before first_run within right d.conn floors (d.first ++ step.Came n ∷ []) (d.told ++ answer.Came n d.conn ∷ []) d.run.0 made_came came (first_turns ++ came_turns) orders
      (Waiting are waiting comes.waits) steps answers new run clean whole

  -- ## Where a request was submitted

  -- it was submitted, after this history, with floors at which the disk and the host go on
  record HasSubmit (slot : ℕ) (e : Entry) : Type 0 where
    submit_before : List Happening
    submitted : WasSubmitted config units n now d past e submit_before
    part : IsPart submit_before (before ++ since)
    stage : At (floor_for slot (floor_of submit_before)) now since turns

  part_floor : (slot : ℕ) (part whole : List Happening) → IsPart part whole → AreFloorsOf (floor_for slot (floor_of part)) whole
  part_floor slot part whole p s = by_slot (slot == s)
    where
      by_slot : (b : Bool) → IsFloor (if b then floor_of part else bare_floor) whole
      by_slot true = subst (IsFloor (floor_of part)) (sym p.is) (floor_stays (floor_of part) part p.later (record { ended = omega arith; taken = omega arith }))
      by_slot false = record { ended = omega arith; taken = omega arith }

  none_floor : (happened : List Happening) → AreFloorsOf bare_floors happened
  none_floor happened s = record { ended = omega arith; taken = omega arith }

  module _ (slot : ℕ) (low : slot < 30) (e : Entry) (dev_is : e.head.dev ≡ n) (stands : entry_at now.host.driver.entries slot ≡ Some e) where
    its_dev : (dev : ℕ) (request : Request) (ticket : Ticket) (x : Entry) → x.head.dev ≡ n → new_entry ticket.0 dev request ≡ rephased Waits x → dev ≡ n
    its_dev dev request ticket x at is = ap (λ (y : Entry). y.head.dev) is ∙ at

    -- before the disk was plugged in
    by_first : StoodIn d.run.0.host slot e → HasSubmit slot e
    by_first stood = elim (step_stood d.out (step.Came n) (answer.Came n d.conn) d.run.0 d.run.1 slot stood.entry stood.here) [
      | inl earlier ↦ elim (submitted_over (new_world config units) d.first d.told d.out d.made slot earlier.entry earlier.here) [
        | inl none ↦ absurd (accept.none_here slot none.entry none.here)
        | inr i ↦ of_first i (i.is ∙ earlier.same ∙ stood.same)
      ]
      | inr fresh ↦ absurd fresh
    ]
      where
        of_first : {x : Entry} (i : SubmittedIn (new_world config units) d.out d.first d.told d.made slot x)
            → new_entry i.ticket.0 i.dev i.request ≡ rephased Waits e → HasSubmit slot e
        of_first i is =
            let dev : i.dev ≡ n = its_dev i.dev i.request i.ticket e dev_is is in
            let its : IsStepOf (step.Submit n i.request) (answer.Submitted i.ticket) (new_world config units) d.out d.first d.told d.made =
            renamed (step.Submit i.dev i.request) (step.Submit n i.request) (answer.Submitted i.ticket) (answer.Submitted i.ticket) (new_world config units)
            d.out d.first d.told d.made (ap (λ (m : ℕ). step.Submit m i.request) dev) refl i.its in
            let its_part : List Happening = over (happens n) (new_world config units) i.its.before i.its.told i.its.at i.its.came in
            let done : List Happening = past ++ over (happens n) (new_world config units) i.its.before i.its.told i.its.at i.its.came in
            let more : List Happening = happens n i.its.at (step.Submit i.dev i.request) (answer.Submitted i.ticket) i.its.next
            ++ over (happens n) i.its.next i.its.after i.its.later d.out i.its.went in
            let parts : before ≡ done ++ more = ap (λ (xs : List Happening). past ++ xs) (i.happened n) ∙ sym (append_assoc past its_part more) in
            let part_of : (back : List Happening) → IsPart done (before ++ back) = λ back. record {
              later = more ++ back;
              is = ap (λ (xs : List Happening). xs ++ back) parts ∙ append_assoc done more back;
            } in
            record {
              submit_before = done;
              submitted = Before i.ticket i.request its (subst (λ (m : ℕ). new_entry i.ticket.0 m i.request ≡ rephased Waits e) dev is);
              part = part_of since;
              stage =
                  opens_over (floor_for slot (floor_of done)) d.steps d.answers now d.run.2 d.clean whole_run
                  (part_floor slot done (before ++ came) (part_of came));
            }

    -- or since
    by_later : SubmittedIn d.run.0 now d.steps d.answers d.run.2 slot (rephased Waits e) → HasSubmit slot e
    by_later i = record {
      submit_before = done;
      submitted = Since i.ticket i.request its (subst (λ (m : ℕ). new_entry i.ticket.0 m i.request ≡ rephased Waits e) dev i.is);
      part = whole_part;
      stage =
          subst (λ (ts : List HostTurn). At floors now since ts) turns_is
          (subst (λ (xs : List Happening). At floors now xs (at_turns ++ more_turns)) since_is (goes_on first_stage));
    }
      where
        dev : i.dev ≡ n
        dev = its_dev i.dev i.request i.ticket e dev_is i.is

        in_run : IsStepOf (step.Submit n i.request) (answer.Submitted i.ticket) d.run.0 now d.steps d.answers d.run.2
        in_run =
            renamed (step.Submit i.dev i.request) (step.Submit n i.request) (answer.Submitted i.ticket) (answer.Submitted i.ticket) d.run.0 now d.steps
            d.answers d.run.2 (ap (λ (m : ℕ). step.Submit m i.request) dev) refl i.its

        its : IsStepOf (step.Submit n i.request) (answer.Submitted i.ticket) d.out now (step.Came n ∷ d.steps) (answer.Came n d.conn ∷ d.answers) d.run
        its =
            later_of (step.Submit n i.request) (answer.Submitted i.ticket) (step.Came n) (answer.Came n d.conn) d.steps d.answers d.out now d.run
            (renamed (step.Submit i.dev i.request) (step.Submit n i.request) (answer.Submitted i.ticket) (answer.Submitted i.ticket) d.run.0 now d.steps
            d.answers d.run.2 (ap (λ (m : ℕ). step.Submit m i.request) dev) refl i.its)

        so_far : List Happening
        so_far = over (happens n) d.run.0 i.its.before i.its.told i.its.at i.its.came

        more : List Happening
        more = happens n i.its.at (step.Submit i.dev i.request) (answer.Submitted i.ticket) i.its.next
            ++ over (happens n) i.its.next i.its.after i.its.later now i.its.went

        at_turns : List HostTurn
        at_turns = (first_turns ++ came_turns) ++ over turn_of d.run.0 i.its.before i.its.told i.its.at i.its.came

        more_turns : List HostTurn
        more_turns = turn_of i.its.at (step.Submit i.dev i.request) (answer.Submitted i.ticket) i.its.next
            ++ over turn_of i.its.next i.its.after i.its.later now i.its.went

        done : List Happening
        done = before ++ (came ++ so_far)

        floors : ℕ → Floor
        floors = floor_for slot (floor_of done)

        since_is : (came ++ so_far) ++ more ≡ since
        since_is = append_assoc came so_far more ∙ ap (λ (xs : List Happening). came ++ xs) (sym (i.happened n))

        turns_is : at_turns ++ more_turns ≡ turns
        turns_is =
            append_assoc (first_turns ++ came_turns) (over turn_of d.run.0 i.its.before i.its.told i.its.at i.its.came) more_turns
            ∙ ap (λ (ts : List HostTurn). (first_turns ++ came_turns) ++ ts) (sym i.turns)

        whole_part : IsPart done (before ++ since)
        whole_part = record {
          later = more;
          is = ap (λ (xs : List Happening). before ++ xs) (sym since_is) ∙ sym (append_assoc before (came ++ so_far) more);
        }

        alone : (list_any (injects n) i.its.before ≡ false) × (list_any (injects n) (step.Submit i.dev i.request ∷ i.its.after) ≡ false)
        alone =
            or_parts (list_any (injects n) i.its.before) (list_any (injects n) (step.Submit i.dev i.request ∷ i.its.after))
            (sym (list_any-append (injects n) i.its.before (step.Submit i.dev i.request ∷ i.its.after)) ∙ ap (list_any (injects n)) (sym i.its.steps_are)
            ∙ d.clean)

        rest_run : IsDiskRun plan sectors (before ++ ((came ++ so_far) ++ more))
        rest_run = subst (λ (xs : List Happening). IsDiskRun plan sectors (before ++ xs)) (sym since_is) whole_run

        first_stage : At bare_floors i.its.at (came ++ so_far) at_turns
        first_stage =
            opens_over bare_floors i.its.before i.its.told i.its.at i.its.came alone.0
            (run_to plan sectors (before ++ since) (before ++ (came ++ so_far)) more whole_part.is whole_run) (none_floor (before ++ came))

        made : Run (new_world config units) ((d.first ++ step.Came n ∷ []) ++ i.its.before) ((d.told ++ answer.Came n d.conn ∷ []) ++ i.its.told) i.its.at
        made = run_append (new_world config units) d.run.0 i.its.at (d.first ++ step.Came n ∷ []) (d.told ++ answer.Came n d.conn ∷ []) i.its.before i.its.told
            made_came i.its.came

        own_floor : AreFloorsOf floors (before ++ (came ++ so_far))
        own_floor = part_floor slot done done (record { later = []; is = sym (append-nil done) })

        goes_on : At bare_floors i.its.at (came ++ so_far) at_turns → At floors now ((came ++ so_far) ++ more) (at_turns ++ more_turns)
        goes_on st =
            stage_run config units fits n below plan sectors disk.size before first_run within right d.conn floors ((d.first ++ step.Came n ∷ []) ++ i.its.before) ((d.told ++ answer.Came n d.conn ∷ []) ++ i.its.told) i.its.at made
            (came ++ so_far) at_turns
            (order_run config units fits n below plan sectors disk.size before first_run (d.first ++ step.Came n ∷ []) (d.told ++ answer.Came n d.conn ∷ [])
            d.run.0 made_came (first_turns ++ came_turns) orders i.its.before i.its.told i.its.at i.its.came)
            (stage_rises config units fits n below plan sectors disk.size before first_run within right d.conn bare_floors floors ((d.first ++ step.Came n ∷ []) ++ i.its.before) ((d.told ++ answer.Came n d.conn ∷ []) ++ i.its.told) i.its.at made
            (came ++ so_far) at_turns (run_to plan sectors (before ++ since) done more whole_part.is whole_run) slot low i.free
            (λ m other. ap (λ (b : Bool). if b then floor_of done else bare_floor) other) own_floor st)
            (step.Submit i.dev i.request ∷ i.its.after) (answer.Submitted i.ticket ∷ i.its.later) now (i.its.next, i.its.rule, i.its.went) alone.1 rest_run

    has_submit : HasSubmit slot e
    has_submit = elim (submitted_over d.run.0 d.steps d.answers now d.run.2 slot e stands) [ inl stood ↦ by_first stood | inr i ↦ by_later i ]

  plain_stage : At bare_floors now since turns
  plain_stage = opens_over bare_floors d.steps d.answers now d.run.2 d.clean whole_run (none_floor (before ++ came))

  history_is : before ++ since ≡ disk_history config units n now d past
  history_is = refl

  its_disk : (o : Option Place) → IsSomeAnd o (λ place. LivesOn (Modelled (Disk disk.disk)) (first_history ++ since) place.unit)
      → IsSomeAnd o (λ place. IsDiskWith plan sectors (disk_history config units n now d past) place.unit)
  its_disk None lives = lives
  its_disk (Some place) lives = record {
    stands = subst (StandsFor place.unit) (sym (append_assoc past first_history since)) (lives.stands_for past disk.stands);
    is = lives.plan ∙ of_plan;
  }

  -- host and disk are ends while the port is open to the disk
  have_met : IsThere n d.conn now → (port_at now.multiplier n).present ≡ Some d.conn → forwards now.multiplier.registers n ≡ true
      → HaveMet config units n sectors now d plan past
  have_met there present opens =
      let s = serves_open config units fits n below plan sectors disk.size before first_run within right d.conn bare_floors now since turns
      (firm_at config units fits n below all_steps all_answers now all_run) there present opens plain_stage in
      let h = s.ends in
      record {
        disk = its_disk (slice_get now.devices n)
            (units_lived_on d.out (step.Came n ∷ d.steps) (answer.Came n d.conn ∷ d.answers) now d.run Switching config units fits d.first d.told d.made n
            (Modelled (Disk disk.disk)) disk.there);
        touches = h.both.touches;
        touched = subst (λ (ts : List HostTurn). AreTouched config.memory ts now.host h.both.touches) turns_are h.both.touched;
        down = h.down;
        up = h.up;
        path = h.exact.path;
        exact = h.exact.exact;
        floors = write_floors bare_floors;
        running =
            subst (λ (xs : List Happening). IsRunning plan sectors xs h.both.touches now.host) history_is
            (running config.memory right plan sectors disk.size (before ++ since) whole_run turns now
            (now_at config units fits all_steps all_answers now all_run) h.both.touches h.both.touched);
        ends =
            subst (λ (xs : List Happening). AreEnds n now.host xs h.down h.up (write_floors bare_floors) h.both.touches) history_is h.both.ends.ends;
      }

  module _ (s : Step) (port conn number : ℕ) (bytes : List ℕ) (report : TakeReport) (new : Places)
      (rule : Rule now s (Ok (answer.Took port conn number bytes report)) new) (here : (port == n) ≡ true) (same : conn ≡ d.conn) where
    abbrev IsHeard : (ℕ → Floor) → Type 0
    IsHeard floors = Hears config units fits n below plan sectors disk.size before first_run within right d.conn floors now since turns bytes

    heard : (floors : ℕ → Floor) → At floors now since turns → IsHeard floors
    heard floors st =
        hears config units fits n below plan sectors disk.size before first_run within right d.conn floors all_steps all_answers now all_run since turns
        whole_run s port conn number bytes report new rule here same st

    is_now : IsNow now
    is_now = now_at config units fits all_steps all_answers now all_run

    module _ (floors : ℕ → Floor) (h : IsHeard floors) where
      its : Rule now s (Ok (answer.Took n conn number (marked h.plain n) report)) new
      its =
          subst (λ (m : ℕ). Rule now s (Ok (answer.Took m conn number (marked h.plain n) report)) new) (eqb-true port n here)
          (subst (λ (b : List ℕ). Rule now s (Ok (answer.Took port conn number b report)) new) h.marks rule)

      at_port : port_of (marked h.plain n) ≡ n
      at_port =
          (its_port config units fits n below plan sectors disk.size before first_run within right d.conn all_steps all_answers now all_run s
          (answer.Took n conn number (marked h.plain n) report) new its).0

    -- the request's device is that of the FIS
    dev_of : (slot : ℕ) (e : Entry) → slot < 30 → entry_at now.host.driver.entries slot ≡ Some e → is_queued e.head.work ≡ true
        → has_bit report.done slot ≡ true → e.head.dev ≡ n
    dev_of slot e low is queued done =
        let h : IsHeard bare_floors = heard bare_floors plain_stage in
        of_device n config.memory below right plan sectors disk.size turns now is_now h.gone h.run h.down h.later h.plain bare_floors h.ends s conn number
        report new (its bare_floors h) (at_port bare_floors h) slot e low is queued done

    flush_dev_of : (slot : ℕ) (e : Entry) → slot < 30 → entry_at now.host.driver.entries slot ≡ Some e → is_queued e.head.work ≡ false
        → has_bit report.done slot ≡ true → e.head.dev ≡ n
    flush_dev_of slot e low is calm done =
        let h : IsHeard bare_floors = heard bare_floors plain_stage in
        flush_of_device n config.memory below right plan sectors disk.size turns now is_now h.gone h.run h.down h.later h.plain bare_floors h.ends s conn number
        report new (its bare_floors h) (at_port bare_floors h) slot e low is calm done

    -- a FLUSH that is done was taken since it was submitted
    flushed : (slot : ℕ) (e : Entry) → slot < 30 → entry_at now.host.driver.entries slot ≡ Some e → is_queued e.head.work ≡ false
        → has_bit report.done slot ≡ true → FlushedSince config units n now d past e
    flushed slot e low is calm done =
        let submit : HasSubmit slot e = has_submit slot low e (flush_dev_of slot e low is calm done) is in
        let h : IsHeard (floor_for slot (floor_of submit.submit_before)) = heard (floor_for slot (floor_of submit.submit_before)) submit.stage in
        let own_floor : (floor_for slot (floor_of submit.submit_before) slot).flushes ≡ flushes_taken submit.submit_before =
        ap (λ (b : Bool). (if b then floor_of submit.submit_before else bare_floor).flushes) (eq-eqb slot slot refl) in
        let more : (floor_for slot (floor_of submit.submit_before) slot).flushes < flushes_taken h.gone =
        flush_taken n config.memory below right plan sectors disk.size turns now is_now h.gone h.run h.down h.later h.plain
        (floor_for slot (floor_of submit.submit_before)) h.ends s conn number report new (its (floor_for slot (floor_of submit.submit_before)) h)
        (at_port (floor_for slot (floor_of submit.submit_before)) h) slot e low is calm done in
        record {
          before = submit.submit_before;
          submitted = submit.submitted;
          later = submit.part.later;
          is = submit.part.is;
          taken = took_since submit.submit_before submit.part.later (before ++ since) submit.part.is
              (subst (λ (m : ℕ). m < flushes_taken (before ++ since)) own_floor
              (subst (λ (k : ℕ). (floor_for slot (floor_of submit.submit_before) slot).flushes < k) (sym h.flushes) more));
        }

    ended : (slot : ℕ) (e : Entry) → slot < 30 → entry_at now.host.driver.entries slot ≡ Some e → is_queued e.head.work ≡ true
        → has_bit report.done slot ≡ true → EndedSince config units n now d past sectors slot e new.host.memory
    ended slot e low is queued done =
        let submit : HasSubmit slot e = has_submit slot low e (dev_of slot e low is queued done) is in
        let h : IsHeard (floor_for slot (floor_of submit.submit_before)) = heard (floor_for slot (floor_of submit.submit_before)) submit.stage in
        let own_floor : (floor_for slot (floor_of submit.submit_before) slot).writes ≡ length (ledger submit.submit_before).writes =
        ap (λ (b : Bool). (if b then floor_of submit.submit_before else bare_floor).writes) (eq-eqb slot slot refl) in
        let front : IsFront (ledger submit.submit_before).writes (ledger h.gone).writes =
        subst (IsFront (ledger submit.submit_before).writes) h.writes (part_front submit.submit_before (before ++ since) submit.part) in
        record {
          before = submit.submit_before;
          submitted = submit.submitted;
          touches = h.ends.touches;
          touched = subst (λ (ts : List HostTurn). AreTouched config.memory ts now.host h.ends.touches) turns_are h.ends.touched;
          ends =
              ends_later sectors slot e submit.submit_before h.gone (before ++ since) (filled slot (own n h.ends.touches)) new.host.memory h.writes h.reads
              (ends_honestly n config.memory below right plan sectors disk.size turns now is_now h.gone h.run h.down h.later h.plain
              (floor_for slot (floor_of submit.submit_before)) h.ends s conn number report new (its (floor_for slot (floor_of submit.submit_before)) h)
              (at_port (floor_for slot (floor_of submit.submit_before)) h) slot e low is queued done submit.submit_before front own_floor);
        }

pub disks_are_honest : HonestDisks
disks_are_honest config units n sectors plan past fits below disk now d s port conn number bytes report new rule here same =
    record {
      done = ended config units n sectors plan past fits below disk now d s port conn number bytes report new rule here same;
      flushed = flushed config units n sectors plan past fits below disk now d s port conn number bytes report new rule here same;
    }

-- the history of such a disk is a run of it
pub disk_runs : (config : Config) (units : List Attached) (n sectors : ℕ) (plan : DiskPlan) (past : List Happening) → is_config config (length units) ≡ true → n < 15
    → HasDisk units n plan sectors past → (now : Places) (d : DiskRun config units n now)
    → IsDiskRun plan sectors (disk_history config units n now d past)
disk_runs config units n sectors plan past fits below disk now d = whole_run config units n sectors plan past fits below disk now d

pub ends_meet : EndsMeet
ends_meet config units n sectors plan past fits below disk now d there present opens = have_met config units n sectors plan past fits below disk now d there present opens
