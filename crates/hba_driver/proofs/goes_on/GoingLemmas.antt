-- For `port_goes_on`. A host port goes on over every list of turns from its opening.
use Rattle.std.proofs.Common.{◌≡◌, ℕ, ◌^◌, max, min, Bool, true, false, ◌&&◌, bit_or, bit_and, List, [], ◌∷◌, refl, sym, ◌∙◌, ap, subst, inl, inr}
use Rattle.std.proofs.{Common.{arith, Option, Some, None}, lemmas.{Bool.{cases_Bool, true≢false}, Nat.Bits.{bit_at_and, bit_at_or}}}
use Rattle.std.specs.{Prelude.{◌==◌, not, is_some, slice_set}, Int.bit_at, Option.option_map_or}
use Rattle.fis_view.specs.{Frames.Stamped, Seen.seen as seen_in, declared.view.Fis.Fis}
use Rattle.fis_view.specs.declared.view.Fis.TheVariants as view
use Rattle.host_memory.specs.Memory.{IsHostMemory, Memory}
use Rattle.port_errors.specs.{Errors.{Errors, after_clear, cleared_device, without as without_device}, declared.cause.DeviceCause.DeviceCause}
use Rattle.port_errors.specs.Interrupts.{device_interrupts}
use Rattle.port_errors.specs.declared.cause.DeviceCause.TheVariants as cause
use Rattle.slots.specs.Slots.{has_bit, match_some}
use Rattle.hba_fbs.specs.declared.error.WriteError.TheVariants as refusal
use Rattle.hba_fbs.specs.declared.{hearing.{Fault.Fault, Heard.Heard}, register.Register.{Register, TheVariants.{Is, Cmd, Fbs}}}
use Rattle.hba_fbs.specs.{declared.{registers.Registers.Registers, report.TakeReport.TakeReport}, Bits.{bit, dec, ufs}, Offsets.register_at}
use Rattle.hba_fbs.specs.{Posting.posted, Reading.value_of, Registers.{falls, written}, Sending.{Gives, Nothing, Outgoing, Unreadable, outgoing}}
use Rattle.hba_fbs.specs.{Taking.{admitted, fault_interrupts, heard_now, ignores, port_cause, port_of, posted_of, settled, stops_with}, Views.Port}
use Rattle.hba_fbs.specs.{Views.view_of, Writing.{errors_after, refusal_of}}
use Rattle.hba_fbs.specs.declared.hearing.Fault.TheVariants as fault
use Rattle.hba_laws.specs.{Delivering.touches_after, Isolation.fails_by_bus}
use Rattle.hba_laws.proofs.Door.{spared_tables_read}
use Rattle.hba_driver.specs.{declared.{effect.Effect.Effect, mode.Mode.TheVariants.Switching, path.TaskFile.TaskFile, turn.Act.Act}, Seeing.Sight}
use Rattle.hba_driver.specs.{Drivers.Driver, Effects.{Acts, ActsAll, Tries}, Events.{IsSoundHost, events_over, opening_host, shared_by}}
use Rattle.hba_driver.specs.{HostTurns.{Does, DoesAll, Host, HostTurn, Took, Pushed, Ticked, Submitted, Polled, sight_in}, Served.RunServes}
use Rattle.hba_driver.specs.{Sights.{file_shown, shown, sight_of}, Submits.{after_poll, lowest_ended}, Ticks.{acted, after_tick, due, effects}}
use Rattle.hba_driver.specs.{Ticks.{plan_after, seen}, Going.{AreOfControl, GoesOn, IsOfControl, NothingStops, PortsGoOn, leaves_port}, Between.Due}
use Rattle.hba_driver.specs.Between.{IsCalm, IsGoing, IsOfControlIn, IsOnWay, NoFatal}
use Rattle.hba_driver.specs.declared.effect.Effect.TheVariants as effect
use Rattle.hba_driver.specs.declared.turn.Act.TheVariants as act
use Rattle.hba_driver.proofs.{accepted.AcceptLemmas.{way_opens, way_turn}, events.DrivenLemmas.{restarted_cleared, restarted_ordered, tried_at}}
use Rattle.hba_driver.proofs.{ticks.{DueLemmas.goes_turn, LifeLemmas.due_seen}, goes_on.{PageLemmas.page_turn, ReadLemmas.can_read}}
use Rattle.hba_driver.proofs.{modes.RowMode.{faultless_as, spares_as, started_mode}, issued.ServedLemmas.turns_serve, goes_on.StopLemmas.either}
use Rattle.hba_driver.proofs.{goes_on.StopLemmas.nothing_stops, modes.SwitchLemmas.sight_is}

-- ---- bit HBFS, 29, of PxIS

or_none : (a b : ℕ) → NoFatal a → NoFatal b → NoFatal (bit_or a b)
or_none a b h k = let both : bit_at (bit_or a b) 29 ≡ max (bit_at a 29) (bit_at b 29) = bit_at_or a b 29 in omega (arith, both, h, k)

and_none : (a b : ℕ) → NoFatal a → NoFatal (bit_and a b)
and_none a b h = let both : bit_at (bit_and a b) 29 ≡ min (bit_at a 29) (bit_at b 29) = bit_at_and a b 29 in omega (arith, both, h)

calm_as : (old new : Port) → new.errors.port ≡ old.errors.port → new.registers.interrupts ≡ old.registers.interrupts → IsCalm old → IsCalm new
calm_as old new errors interrupts is = record { faultless = errors ∙ is.faultless; quiet = ap (λ (n : ℕ). bit_at n 29) interrupts ∙ is.quiet }

calm_same : (old new : Port) → new ≡ old → IsCalm old → IsCalm new
calm_same old new same is = subst IsCalm (sym same) is

-- ---- a FIS is taken

cause_none : (c : DeviceCause) → NoFatal (device_interrupts c)
cause_none cause.TaskFile = refl
cause_none c = refl

fault_none : (f : Option Fault) → is_some (port_cause f) ≡ false → NoFatal (fault_interrupts f)
fault_none None spares = refl
fault_none (Some (fault.Device c)) spares = cause_none c
fault_none (Some (fault.Port c)) spares = absurd (true≢false spares)

bit_low : (k : ℕ) (b : Bool) → NoFatal (2 ^ k) → NoFatal (bit k b)
bit_low k true h = h
bit_low k false h = refl

posted_none : (r : Registers) (dev : ℕ) (b : Bool) (o : Option Fis) → NoFatal r.interrupts → NoFatal (posted_of r dev b o).interrupts
unfolding posted
posted_none r dev b (Some (view.RegD2H f)) h = or_none _ _ h (bit_low 0 _ refl)
posted_none r dev b (Some (view.SetBits f)) h = or_none _ _ h (bit_low 3 _ refl)
posted_none r dev b (Some (view.DmaSetup f)) h = or_none _ _ h (bit_low 2 _ refl)
posted_none r dev b other h = h

settled_none : (r : Registers) (h : Heard) → is_some (port_cause h.fault) ≡ false → NoFatal r.interrupts → NoFatal (settled r h).interrupts
unfolding settled
settled_none r h spares is = or_none _ _ (or_none _ _ is (bit_low 1 h.pss refl)) (fault_none h.fault spares)

heard_spares : (ignored spares : Bool) → (not ignored && spares) ≡ false → ignored ≡ false → spares ≡ false
heard_spares false spares h is = h
heard_spares true spares h is = absurd (true≢false is)

took_calm : (old new : Host) (frame : List ℕ) (report : TakeReport) → Does old (Took frame report) new → NothingStops (shared_by old) → IsOfControl frame → IsCalm old.port → IsCalm new.port
took_calm old new frame report h stops of is = elim (cases_Bool (ignores (port_of frame) old.port frame)) [
  | inl skip ↦ calm_same old.port new.port (h.ignored skip).port is
  | inr heard ↦
      let dev : ℕ = port_of frame in
      let fis : Option Fis = admitted dev (seen_in frame) in
      let now : Heard = heard_now old.port old.memory dev fis in
      let on : Bool = old.port.registers.switching in
      let runs : stops_with on now.fault ≡ false = heard_spares (ignores dev old.port frame) (stops_with on now.fault) (stops.takes frame of) heard in
      let spares : is_some (port_cause now.fault) ≡ false = spares_as on now.fault runs in
      record {
        faultless = ap (λ (e : Errors). e.port) (h.heard heard).errors ∙ faultless_as on old.port.errors dev now.fault runs is.faultless;
        quiet = ap (λ (r : Registers). bit_at r.interrupts 29) (h.heard heard).registers
            ∙ settled_none (posted_of old.port.registers dev (view_of dev old.port).state.resetting fis) now spares (posted_none old.port.registers dev _ fis is.quiet);
      }
]

-- ---- a FIS goes out

gave_calm : (o : Outgoing) (old : Port) (memory : Memory) (frame : Option Stamped) (new : Port) → Gives o old memory frame new → fails_by_bus o ≡ false → IsCalm old → IsCalm new
gave_calm Nothing old memory frame new gives none is = calm_same old new gives.1 is
gave_calm (Unreadable dev) old memory frame new gives none is = absurd (true≢false none)
gave_calm other old memory None new gives none is = absurd gives
gave_calm rest old memory (Some f) new gives none is = calm_as old new (ap (λ (e : Errors). e.port) gives.errors) (ap (λ (r : Registers). r.interrupts) gives.registers) is

-- ---- the effects of a tick

written_none : (register : Register) (r : Registers) (value : ℕ) → NoFatal r.interrupts → NoFatal (written register r value).interrupts
unfolding written
written_none Is r value h = and_none _ _ h
written_none register r value h = h

cleared_port : (errors : Errors) → (after_clear errors).port ≡ errors.port
cleared_port errors = by_device (cleared_device errors)
  where
    by_device : (o : Option ℕ) → (option_map_or (without_device errors) o errors).port ≡ errors.port
    by_device None = refl
    by_device (Some dev) = refl

after_none : (register : Register) (old : Port) (value : ℕ) → old.errors.port ≡ None → (errors_after register old value).port ≡ None
unfolding errors_after
after_none Cmd old value h = either (λ (e : Errors). e.port ≡ None) (falls old.registers value) _ old.errors refl h
after_none Fbs old value h = either (λ (e : Errors). e.port ≡ None) (has_bit value dec) (after_clear old.errors) old.errors (cleared_port old.errors ∙ h) h
after_none register old value h = h

tried_calm : (o : Option Register) (offset value : ℕ) (old : Port) (memory : Memory) (new : Port) → register_at offset ≡ o → Tries old memory offset value new → IsCalm old → IsCalm new
tried_calm None offset value old memory new at tries is =
    calm_same old new (tries.refused refusal.NoRegister (ap (λ (o : Option Register). match_some o (Some refusal.NoRegister) (λ (r : Register). refusal_of r old memory value)) at)) is
tried_calm (Some register) offset value old memory new at tries is = elim (tried_at register offset value old memory new at tries) [
  | inl taken ↦ record {
    faultless = ap (λ (e : Errors). e.port) taken.accepts.errors ∙ after_none register old value is.faultless;
    quiet = ap (λ (r : Registers). bit_at r.interrupts 29) taken.accepts.registers ∙ written_none register old.registers value is.quiet;
  }
  | inr refused ↦ calm_same old new refused.stays is
]

pub act_calm : (e : Effect) (old new : Port) (before after : Memory) → Acts e old before new after → IsCalm old → IsCalm new
act_calm (effect.Writes offset value) old new before after h is = tried_calm (register_at offset) offset value old before new refl h.0 is
act_calm (effect.Flushes dev) old new before after h is = calm_as old new (ap (λ (e : Errors). e.port) h.0.errors) (ap (λ (r : Registers). r.interrupts) h.0.registers) is
act_calm other old new before after h is = calm_same old new h.0 is

acts_calm : (es : List Effect) (old new : Port) (before after : Memory) → ActsAll es old before new after → IsCalm old → IsCalm new
unfolding ActsAll
acts_calm [] old new before after h is = calm_same old new h.0 is
acts_calm (e ∷ es) old new before after h is = acts_calm es h.0 new h.1 after h.4 (act_calm e old h.0 before h.1 h.2 is)

-- ---- what is due

quiet_bit : (n : ℕ) → NoFatal n → has_bit n 29 ≡ false
quiet_bit n h = ap (λ (k : ℕ). k == 1) h

never_stopped : (port : Port) (memory : Memory) → IsCalm port → (sight_of Switching port memory).stopped ≡ false
unfolding sight_of shown value_of register_at
never_stopped port memory is =
    ap (λ (b : Bool). b && not (has_bit (shown port 0x40) 2)) (quiet_bit (bit_or port.registers.interrupts (bit ufs port.registers.unknown)) (or_none _ _ is.quiet (bit_low 4 port.registers.unknown refl)))

pub never_stops : (h : Host) → IsSoundHost h → IsCalm h.port → (sight_in h).stopped ≡ false
never_stops h s is = ap (λ (v : Sight). v.stopped) (sight_is h s) ∙ never_stopped h.port h.memory is

-- an act that leaves the port does not have to start it again
acted_restarted : (a : Option Act) (file : TaskFile) (d : Driver) → ((b : Act) → a ≡ Some b → leaves_port b) → (acted a file d).plan.restarted ≡ d.plan.restarted
unfolding plan_after
acted_restarted (Some act.Stops) file d leaves = absurd (leaves act.Stops refl)
acted_restarted (Some (act.Restarts k)) file d leaves = absurd (leaves (act.Restarts k) refl)
acted_restarted (Some (act.Clears dev)) file d leaves = restarted_cleared dev file d.plan
acted_restarted (Some (act.Orders order)) file d leaves = restarted_ordered order file d.plan
acted_restarted other file d leaves = refl

module _ (h : Host) (s : IsSoundHost h) (calm : IsCalm h.port) (up : h.driver.plan.restarted ≡ 2) where
  seen_up : (seen (sight_in h) h.driver).plan.restarted ≡ 2
  seen_up = (goes_turn (sight_in h) h.driver.plan _).restarted ∙ up

  leaves_due : (a : Option Act) → Due (sight_in h) (seen (sight_in h) h.driver).plan (seen (sight_in h) h.driver).entries a → (b : Act) → a ≡ Some b → leaves_port b
  leaves_due (Some act.Stops) known act.Stops is = absurd (true≢false (sym known ∙ never_stops h s calm))
  leaves_due (Some (act.Restarts k)) known (act.Restarts n) is = absurd (omega (arith, known.1, seen_up))
  leaves_due None known act.Stops is = cc
  leaves_due None known (act.Restarts n) is = cc
  leaves_due (Some a) known act.Stops is = cc
  leaves_due (Some a) known (act.Restarts n) is = cc
  leaves_due a known other is = tt

  pub leaves : (b : Act) → due (sight_in h) h.driver ≡ Some b → leaves_port b
  leaves b is = leaves_due (due (sight_in h) h.driver) (due_seen (sight_in h) h.driver) b is

-- ---- a host that goes on

pub stops_none : (h : Host) → IsGoing h → NothingStops (shared_by h)
stops_none h g =
    nothing_stops (shared_by h) (record { port = g.way.sound.ruled.rules; slots = g.way.sound.ruled.table; errors = g.way.sound.ruled.faults; memory = g.way.sound.memory })
    (started_mode h.driver.plan.opened h.driver.plan.restarted h.port.registers g.way.sound.registers) (can_read h g.way g.tables g.page)

calm_turn : (old : Host) (t : HostTurn) (new : Host) → Does old t new → IsGoing old → IsOfControlIn t → IsCalm new.port
calm_turn old (Took frame report) new h g of = took_calm old new frame report h (stops_none old g) of g.calm
calm_turn old (Pushed frame) new h g of = gave_calm (outgoing old.port old.memory) old.port old.memory frame new.port h.gives (stops_none old g).gives g.calm
calm_turn old (Ticked a) new h g of = acts_calm (effects (sight_in old) old.driver) old.port new.port old.memory new.memory h.does g.calm
calm_turn old other new h g of = calm_same old.port new.port h.port g.calm

poll_up : (d : Driver) → (after_poll d).plan.restarted ≡ d.plan.restarted
unfolding after_poll
poll_up d = by_slot (lowest_ended d.entries)
  where
    by_slot : (o : Option ℕ) → (match_some o d (λ slot. record d { entries = slice_set d.entries slot None })).plan.restarted ≡ d.plan.restarted
    by_slot None = refl
    by_slot (Some slot) = refl

up_turn : (old : Host) (t : HostTurn) (new : Host) → Does old t new → IsGoing old → new.driver.plan.restarted ≡ 2
unfolding after_tick
up_turn old (Ticked a) new h g =
    ap (λ (d : Driver). d.plan.restarted) h.driver
    ∙ acted_restarted (due (sight_in old) old.driver) (file_shown new.port) (seen (sight_in old) old.driver) (leaves old g.way.sound g.calm g.up)
    ∙ seen_up old g.way.sound g.calm g.up
up_turn old (Submitted dev request ticket) new h g = ap (λ (d : Driver). d.plan.restarted) h.taken.driver ∙ g.up
up_turn old (Polled c) new h g = ap (λ (d : Driver). d.plan.restarted) h.driver ∙ poll_up old.driver ∙ g.up
up_turn old other new h g = ap (λ (d : Driver). d.plan.restarted) h.driver ∙ g.up

pub going_turn : (old : Host) (t : HostTurn) (new : Host) → Does old t new → IsGoing old → IsOfControlIn t → IsGoing new
going_turn old t new h g of =
    let one : DoesAll old (t ∷ []) new = (new, h, refl) in
    let next : IsOnWay new = way_turn old t new h g.way in
    let r : RunServes old new (t ∷ []) one g.way.past = turns_serve.runs old new (t ∷ []) one g.way.sound g.way.past g.way.served in
    let read = spared_tables_read (shared_by old) (shared_by new) (events_over old new (t ∷ []) one) r.runs r.sound g.way.past g.way.served.told g.tables r.spared in
    record {
      way = record {
        sound = next.sound;
        past = touches_after g.way.past (shared_by old) (shared_by new) (events_over old new (t ∷ []) one) r.runs;
        served = r.last;
        unarmed = next.unarmed;
        fit = next.fit;
      };
      tables = read.1;
      page = page_turn old t new h g.way.sound next.sound g.page;
      calm = calm_turn old t new h g of;
      up = up_turn old t new h g;
    }

pub going_opens : (given : ℕ) (start : Memory) → IsHostMemory start → IsGoing (opening_host given start)
going_opens given start right =
    let first : IsOnWay (opening_host given start) = way_opens given start right in
    record {
      way = record { sound = first.sound; past = []; served = turns_serve.opens Switching given start right; unarmed = first.unarmed; fit = first.fit };
      tables = λ n below s t command is last. absurd (cc);
      page = λ path here out reads. absurd (cc);
      calm = record { faultless = refl; quiet = refl };
      up = refl;
    }

heads : (t : HostTurn) (turns : List HostTurn) → AreOfControl (t ∷ turns) → IsOfControlIn t × AreOfControl turns
heads (Took frame report) turns of = of
heads other turns of = (tt, of)

pub going_over : (turns : List HostTurn) (old new : Host) → DoesAll old turns new → IsGoing old → AreOfControl turns → IsGoing new
going_over [] old new run g of = subst IsGoing (sym run) g
going_over (t ∷ turns) old new run g of =
    let parts = heads t turns of in
    going_over turns run.0 new run.2 (going_turn old t run.0 run.1 g parts.0) parts.1

pub goes_on : (h : Host) → IsGoing h → GoesOn h
goes_on h g = record { faultless = g.calm.faultless; next = stops_none h g; ticks = leaves h g.way.sound g.calm g.up }

pub ports_go_on : PortsGoOn
ports_go_on given start right turns h run of = goes_on h (going_over turns (opening_host given start) h run (going_opens given start right) of)
