-- What each call does to the core.
use Rattle.std.proofs.Common.{◌≡◌, ℕ, ◌<◌, ◌^◌, ◌&&◌, Bool, true, false, not, List, [], ◌∷◌, length, refl, sym, ap, subst, ◌∙◌, Option, Some, None}
use Rattle.std.proofs.{Common.{get_or-set_same}, lemmas.Bool.{and_parts, ltb-true}}
use Rattle.std.specs.{Prelude.{MatchOption, if◌then◌else◌, nat_lt}, Option.option_map}
use Rattle.fis_view.specs.Frames.{IsFrame}
use Rattle.slots.specs.Slots.{Issue, issue_at, match_some}
use Rattle.guest_fetch.specs.{Commands.Fetched, declared.{fetch.Supplied.Supplied, moves.Move.Move}}
use Rattle.guest_fetch.specs.declared.fetch.Supplied.TheVariants as supplied
use Rattle.hba_commands.specs.declared.command.Command.{Command}
use Rattle.hba_fbs.specs.{Choosing.{Chooses, MayChoose, may_feed}, Placing.issue_error, Taking.port_of, Turning.orders, Views.{Port, last_command}}
use Rattle.hba_fbs.specs.declared.{error.IssueError.IssueError, report.TakeReport.TakeReport, turn.Turn.{Turn, TheVariants.{Feeds, Orders, Rests}}}
use Rattle.hba_fbs.specs.{Registers.own_refusal_by, Stopping.SetsCmd}
use Rattle.hba_laws.specs.Cores as core
use Rattle.hba_laws.specs.Cores.{CoreEvent, HasBytes, IsCore}
use Rattle.ahci_controller.specs.{Feeding.{GathersIf, Loses, LosesIf, MissesIf as MissesDataIf, SendsIf, without_feeding}, Fetching.GoesOn}
use Rattle.ahci_controller.specs.{Fetching.{MissesIf, SuppliesIf, answered, fits, is_asked, next_number, without_fetch}, Access.fits as fits_width}
use Rattle.ahci_controller.specs.{Issuing.{PlacesSlot, RefusesSlot, device_of, not_issued, not_taken as not_taken_as, offered_command}, Next.FeedsTo}
use Rattle.ahci_controller.specs.Next.{Frames, FramesFor, GoesIf, OrdersSlot, Reads, RestsNow, StartsUp, TurnsIf, count_next, counted_slot, feed_next}
use Rattle.ahci_controller.specs.Next.{is_fed, is_halted, next_device, next_read, next_slot, next_write, order_next, rest, run_of, step_of, step_with}
use Rattle.ahci_controller.specs.{Next.{turn_to, written}, Moving.count_of, Offers.offer_in, States.{ControllerState, kept}, Taking.CoreHearsIf}
use Rattle.ahci_controller.specs.{Taking.{is_any, room_for}, declared.{feeding.Fed.Fed, issuing.{NotTaken.NotTaken, Supply.Supply}, next.Next.Next}}
use Rattle.ahci_controller.specs.{declared.{wants.Carried.Carried, taking.Took.Took}, Own.engine_of, Reading.is_idle}
use Rattle.ahci_controller.specs.declared.feeding.Fed.TheVariants as fed_answer
use Rattle.ahci_controller.specs.declared.issuing.NotTaken.TheVariants as not_taken
use Rattle.ahci_controller.specs.declared.issuing.Supply.TheVariants as supply_answer
use Rattle.ahci_controller.specs.declared.next.Next.TheVariants as next_step
use Rattle.ahci_controller.specs.declared.taking.Hindrance.TheVariants as why
use Rattle.hba_fbs.specs.declared.greeting.Listens.TheVariants as listens
use Rattle.controller_laws.specs.CoreEvents.{AreCoreEvents, no_tables, of_all, of_event, commanded_with, of_fed, of_frame, of_next, of_supply}
use Rattle.controller_laws.specs.{CoreEvents.of_turn, Events.{Does, Event, IsController, IsWhole, Runs, Takes}}
use Rattle.controller_laws.specs.Events as event
use Rattle.controller_laws.proofs.{ListLemmas.{as_list, core_kept, no_core_event, one_core_event, then_core_events}, RegisterLemmas.started_as}
use Rattle.controller_laws.proofs.RegisterLemmas.{wide_are, write_are}
use Rattle.hba_fbs.specs.declared.register.Register.TheVariants as on_port

-- ---- supplies

-- an answer that issues nothing
no_issue : (slot : ℕ) (old new : ControllerState) (supply other : Supply) → IsCore old.core → new.core ≡ old.core → supply ≡ other → of_supply other slot new ≡ [] → AreCoreEvents old.core (of_supply supply slot new) new.core
no_issue slot old new supply other ok same is none =
    as_list [] (of_supply supply slot new) old.core new.core (ap (λ (s : Supply). of_supply s slot new) is ∙ none) (no_core_event old.core new.core ok same)

not_refused : (o : Option IssueError) → option_map not_taken.Issue o ≡ None → o ≡ None
not_refused None h = refl
not_refused (Some e) h = cc

placed_as : (works : Bool) (o : Option NotTaken) (bytes : NotTaken) → (if works then o else Some bytes) ≡ None → o ≡ None
placed_as true o bytes h = h
placed_as false o bytes h = cc

issues : (slot : ℕ) (command : Fetched) (base old new : ControllerState) (supply : Supply) (o : Option NotTaken) → not_issued base.core slot command ≡ o → base.core ≡ old.core → slot < length base.commands → IsCore old.core → IsCore new.core
    → MatchOption o (PlacesSlot base slot command supply new) (λ reason. RefusesSlot base slot reason supply new) → AreCoreEvents old.core (of_supply supply slot new) new.core
issues slot command base old new supply None is same below ok ok_new h =
    let here : kept new slot ≡ Some command =
    ap (λ (c : ControllerState). kept c slot) h.rest ∙ get_or-set_same base.commands slot (Some command) None below in
    let es : List CoreEvent = core.Placed (device_of command) (2 ^ slot) (offer_in (offered_command command)) no_tables ∷ [] in
    let spelled : of_supply supply slot new ≡ es =
    ap (λ (s : Supply). of_supply s slot new) h.told ∙ ap (λ (k : Option Fetched). match_some k [] (λ c. core.Placed (device_of c) (2 ^ slot) (offer_in (offered_command c)) no_tables ∷ [])) here in
    let free : issue_error base.core (offer_in (offered_command command)) (2 ^ slot) ≡ None = not_refused (issue_error base.core (offer_in (offered_command command)) (2 ^ slot)) (placed_as _ _ _ is) in
    as_list es (of_supply supply slot new) old.core new.core spelled
    (one_core_event (core.Placed (device_of command) (2 ^ slot) (offer_in (offered_command command)) no_tables) old.core new.core ok ok_new tt
    (subst (λ (p : Port). core.DoesBy p (core.Placed (device_of command) (2 ^ slot) (offer_in (offered_command command)) no_tables) new.core) same (h.dev, free, h.core)))
issues slot command base old new supply (Some reason) is same below ok ok_new h =
    no_issue slot old new supply (not_taken_as reason _) ok (ap (λ (c : ControllerState). c.core) h.rest ∙ same) h.told refl

goes_on : (slot : ℕ) (came : Supplied) (base old new : ControllerState) (supply : Supply) → base.core ≡ old.core → slot < length base.commands → IsCore old.core → IsCore new.core → GoesOn base slot came supply new
    → AreCoreEvents old.core (of_supply supply slot new) new.core
goes_on slot (supplied.More f) base old new supply same below ok ok_new h =
    no_issue slot old new supply supply_answer.More ok (ap (λ (c : ControllerState). c.core) h.0 ∙ same) h.1 refl
goes_on slot (supplied.OutOfMemory f) base old new supply same below ok ok_new h =
    no_issue slot old new supply supply_answer.OutOfMemory ok (ap (λ (c : ControllerState). c.core) h.0 ∙ same) h.1 refl
goes_on slot (supplied.Refused r) base old new supply same below ok ok_new h =
    no_issue slot old new supply (not_taken_as _ _) ok (ap (λ (c : ControllerState). c.core) h.rest ∙ same) h.told refl
goes_on slot (supplied.Whole command) base old new supply same below ok ok_new h =
    issues slot command base old new supply (not_issued base.core slot command) refl same below ok ok_new h

asked_below : (slot : ℕ) (out same : Bool) → (nat_lt slot 32 && out && same) ≡ true → slot < 32
asked_below slot out same h = ltb-true slot 32 (and_parts (nat_lt slot 32) out (and_parts (nat_lt slot 32 && out) same h).0).0

supplies : (fit : Bool) (slot number : ℕ) (bytes : List ℕ) (old new : ControllerState) (supply : Supply) → fits old slot number bytes ≡ fit → length old.commands ≡ 32 → IsCore old.core → IsCore new.core → SuppliesIf fit old slot bytes supply new
    → AreCoreEvents old.core (of_supply supply slot new) new.core
supplies false slot number bytes old new supply is long ok ok_new h =
    no_issue slot old new supply supply_answer.Stale ok (ap (λ (c : ControllerState). c.core) h.0) h.1 refl
supplies true slot number bytes old new supply is long ok ok_new h =
    let below : slot < 32 = asked_below slot _ _ (and_parts (is_asked old.wants slot number) _ is).0 in
    goes_on slot h.came (without_fetch (answered old slot) slot) old new supply refl (rw long below) ok ok_new h.goes

misses : (out : Bool) (slot : ℕ) (old new : ControllerState) (supply : Supply) → IsCore old.core → MissesIf out old slot supply new → new.core ≡ old.core
misses false slot old new supply ok h = ap (λ (c : ControllerState). c.core) h.0
misses true slot old new supply ok h = ap (λ (c : ControllerState). c.core) h.rest

-- ---- frames

still_receives : (up failed receives any : Bool) → (if not up then Some why.LinkDown else if failed then Some why.Failed else if not receives then Some why.NotReceiving else if any then Some why.Writing else None) ≡ None → receives ≡ true
still_receives true true receives any h = cc
still_receives true false true any h = refl
still_receives true false false any h = cc
still_receives false failed receives any h = cc

-- the FIS is greeted
greets : (started receives : Bool) → started ≡ false → receives ≡ true → (if started then listens.Takes else if receives then listens.Greets else listens.Waits) ≡ listens.Greets
greets started receives stopped here = rw (stopped, here) refl

frame_are : (started : Bool) (frame : List ℕ) (report : TakeReport) (old new : ControllerState) → old.core.registers.started ≡ started → old.core.registers.receives ≡ true → IsFrame frame → IsCore old.core → IsCore new.core
    → CoreHearsIf started old frame report new.core → AreCoreEvents old.core (of_frame started old frame report ∷ []) new.core
frame_are true frame report old new is receives framed ok ok_new h =
    one_core_event (core.Took frame (room_for old (port_of frame)) report) old.core new.core ok ok_new framed (record { ignored = h.ignored; heard = h.heard })
frame_are false frame report old new is receives framed ok ok_new h =
    one_core_event (core.Greeted frame report) old.core new.core ok ok_new framed (greets old.core.registers.started old.core.registers.receives is receives, h)

takes : (frame : List ℕ) (took : Took) (old new : ControllerState) → IsCore old.core → IsCore new.core → Takes old frame took new → AreCoreEvents old.core (of_frame old.core.registers.started old frame took.report ∷ []) new.core
takes frame took old new ok ok_new h =
    let both : (old.own.receives && old.core.registers.receives) ≡ true = still_receives _ _ (old.own.receives && old.core.registers.receives) (is_any old.writes) h.free in
    frame_are old.core.registers.started frame took.report old new refl (and_parts old.own.receives old.core.registers.receives both).1 h.framed ok ok_new h.hears.core

-- ---- what is next

as_next : (old new : ControllerState) (next other : Next) (es : List CoreEvent) → next ≡ other → of_next other old ≡ es → AreCoreEvents old.core es new.core → AreCoreEvents old.core (of_next next old) new.core
as_next old new next other es is spelled are = as_list es (of_next next old) old.core new.core (ap (λ (n : Next). of_next n old) is ∙ spelled) are

no_next : (old new : ControllerState) (next other : Next) → IsCore old.core → new.core ≡ old.core → next ≡ other → of_next other old ≡ [] → AreCoreEvents old.core (of_next next old) new.core
no_next old new next other ok same is none = as_next old new next other [] is none (no_core_event old.core new.core ok same)

-- a write to the guest
counted_next : (old : ControllerState) (o : Option Fetched) (write : Next) → option_map (λ command. next_step.Counted (count_of command)) o ≡ Some write → of_next write old ≡ []
counted_next old (Some command) write h = ap (λ (o : Option Next). match_some o [] (λ n. of_next n old)) (sym h)
counted_next old None write h = cc

rest_calm : (old : ControllerState) (posted : Option Move) (counted : Option ℕ) (write : Next) → match_some posted (match_some counted None (count_next old)) (λ m. Some (next_step.Posted m)) ≡ Some write → of_next write old ≡ []
rest_calm old (Some m) counted write h = ap (λ (o : Option Next). match_some o [] (λ n. of_next n old)) (sym h)
rest_calm old None (Some slot) write h = counted_next old (kept old slot) write h
rest_calm old None None write h = cc

run_calm : (old : ControllerState) (w : Carried) (run : Option Move) (write : Next) → match_some (option_map (step_with w) run) (rest old) (λ s. Some (next_step.Payload s.write)) ≡ Some write → of_next write old ≡ []
run_calm old w None write h = rest_calm old old.writes.posted (counted_slot old.writes) write h
run_calm old w (Some m) write h = ap (λ (o : Option Next). match_some o [] (λ n. of_next n old)) (sym h)

write_calm : (old : ControllerState) (p : Option Carried) (write : Next) → match_some (match_some p None (step_of old)) (rest old) (λ s. Some (next_step.Payload s.write)) ≡ Some write → of_next write old ≡ []
write_calm old None write h = rest_calm old old.writes.posted (counted_slot old.writes) write h
write_calm old (Some w) write h = run_calm old w (run_of old w) write h

-- what goes is the command of the slot
fed_next : (old : ControllerState) (dev number : ℕ) (turn : Turn) → of_next (feed_next dev number turn) old ≡ []
fed_next old dev number Rests = refl
fed_next old dev number other = refl

no_feeds : (slot dev s offset len : ℕ) (o : Option Issue) (q : Option Command) → match_some o Rests (λ issue. match_some q Rests (Orders issue.dev slot)) ≡ Feeds dev s offset len → ⊥
no_feeds slot dev s offset len None q h = cc
no_feeds slot dev s offset len (Some issue) None h = cc
no_feeds slot dev s offset len (Some issue) (Some command) h = cc

ordered : (slot : ℕ) (turn : Turn) (base old new : ControllerState) (next : Next) → base.core ≡ old.core → orders base.core slot ≡ turn → IsCore old.core → IsCore new.core → MayChoose base.core turn → Chooses turn base.core new.core → next ≡ order_next slot turn
    → AreCoreEvents old.core (of_next next old) new.core
ordered slot Rests base old new next same is ok ok_new may h told = no_next old new next next_step.Nothing ok (h ∙ same) told refl
ordered slot (Feeds dev s offset len) base old new next same is ok ok_new may h told =
    absurd (no_feeds slot dev s offset len (issue_at base.core.slots slot) (last_command base.core.commands slot) is)
ordered slot (Orders dev s command) base old new next same is ok ok_new may h told =
    let here : orders old.core slot ≡ Orders dev s command = ap (λ (p : Port). orders p slot) (sym same) ∙ is in
    as_next old new next (next_step.Order dev slot command.cfis) (core.Chose (Orders dev s command) command.cfis ∷ []) told (ap (λ (t : Turn). core.Chose t command.cfis ∷ []) here)
    (one_core_event (core.Chose (Orders dev s command) command.cfis) old.core new.core ok ok_new tt
    (subst (λ (p : Port). core.DoesBy p (core.Chose (Orders dev s command) command.cfis) new.core) same (may, h, tt)))

orders_are : (slot : ℕ) (base old new : ControllerState) (next : Next) → base.core ≡ old.core → IsCore old.core → IsCore new.core → OrdersSlot base slot next new → AreCoreEvents old.core (of_next next old) new.core
orders_are slot base old new next same ok ok_new h = ordered slot (orders base.core slot) base old new next same refl ok ok_new h.may h.core h.is

feeds_are : (dev : ℕ) (base old new : ControllerState) (next : Next) → base.core ≡ old.core → IsCore old.core → FeedsTo base dev next new → AreCoreEvents old.core (of_next next old) new.core
feeds_are dev base old new next same ok h =
    no_next old new next (feed_next dev (next_number base.wants) (turn_to base dev)) ok (ap (λ (c : ControllerState). c.core) h.rest ∙ same) h.is (fed_next old dev (next_number base.wants) (turn_to base dev))

frames_are : (dev slot : Option ℕ) (fed : Bool) (base old new : ControllerState) (next : Next) → base.core ≡ old.core → IsCore old.core → IsCore new.core → FramesFor dev slot fed base next new → AreCoreEvents old.core (of_next next old) new.core
frames_are None None fed base old new next same ok ok_new h = no_next old new next next_step.Nothing ok (ap (λ (c : ControllerState). c.core) h.0 ∙ same) h.1 refl
frames_are None (Some slot) fed base old new next same ok ok_new h = orders_are slot base old new next same ok ok_new h
frames_are (Some dev) None fed base old new next same ok ok_new h = feeds_are dev base old new next same ok h
frames_are (Some dev) (Some slot) false base old new next same ok ok_new h = feeds_are dev base old new next same ok h
frames_are (Some dev) (Some slot) true base old new next same ok ok_new h = orders_are slot base old new next same ok ok_new h

reads_are : (read : Option ℕ) (base old new : ControllerState) (next : Next) → base.core ≡ old.core → IsCore old.core → IsCore new.core → MatchOption read (Frames base next new) (λ slot. Reads base slot next new) → AreCoreEvents old.core (of_next next old) new.core
reads_are None base old new next same ok ok_new h = frames_are (next_device base) (next_slot base) base.circle.fed base old new next same ok ok_new h
reads_are (Some slot) base old new next same ok ok_new h = no_next old new next (next_step.Read _) ok (ap (λ (c : ControllerState). c.core) h.1 ∙ same) h.0 refl

-- the port starts
rests_core : (o : Option ℕ) (base new : ControllerState) (next : Next) → MatchOption o (RestsNow base next new) (λ slot. Reads base slot next new) → new.core ≡ base.core
rests_core None base new next h = ap (λ (c : ControllerState). c.core) h.0
rests_core (Some slot) base new next h = ap (λ (c : ControllerState). c.core) h.1

starts_are : (old new : ControllerState) (next : Next) → IsCore old.core → IsCore new.core → StartsUp (written old) next new → AreCoreEvents old.core (commanded_with old.core.registers (engine_of old.own (is_idle (written old)) old.core.registers)) new.core
starts_are old new next ok ok_new h =
    let value : ℕ = engine_of old.own (is_idle (written old)) old.core.registers in
    let same : new.core ≡ h.middle.core = rests_core (next_read h.middle) h.middle new next h.reads in
    started_as (own_refusal_by on_port.Cmd old.core.registers value) value old.core new.core refl ok ok_new
    (subst (λ (p : Port). MatchOption (own_refusal_by on_port.Cmd old.core.registers value) (SetsCmd old.core value p) (λ e. p ≡ old.core)) (sym same) h.starts.core)

turns_if : (halted started : Bool) (old new : ControllerState) (next : Next) → (written old).core.registers.started ≡ started → IsCore old.core → IsCore new.core → TurnsIf halted (written old) next new → AreCoreEvents old.core (of_turn halted started next old) new.core
turns_if true started old new next is ok ok_new h = no_next old new next next_step.Nothing ok (ap (λ (c : ControllerState). c.core) h.0) h.1 refl
turns_if false true old new next is ok ok_new h =
    reads_are (next_read (written old)) (written old) old new next refl ok ok_new (subst (λ (b : Bool). GoesIf b (written old) next new) is h)
turns_if false false old new next is ok ok_new h = starts_are old new next ok ok_new (subst (λ (b : Bool). GoesIf b (written old) next new) is h)

turns_by : (write : Option Next) (old new : ControllerState) (next : Next) → next_write old ≡ write → IsCore old.core → IsCore new.core → MatchOption write (TurnsIf (is_halted (written old)) (written old) next new) (λ w. (next ≡ w) × (new ≡ written old))
    → AreCoreEvents old.core (match_some write (of_turn (is_halted (written old)) old.core.registers.started next old) (λ w. of_next next old)) new.core
turns_by None old new next is ok ok_new h = turns_if (is_halted (written old)) old.core.registers.started old new next refl ok ok_new h
turns_by (Some w) old new next is ok ok_new h =
    no_next old new next w ok (ap (λ (c : ControllerState). c.core) h.1) h.0 (write_calm old old.writes.payload w is)

-- ---- Data to devices

as_fed : (dev : ℕ) (frame : List ℕ) (old new : ControllerState) (fed other : Fed) → IsCore old.core → new.core ≡ old.core → fed ≡ other → of_fed other old dev frame ≡ [] → AreCoreEvents old.core (of_fed fed old dev frame) new.core
as_fed dev frame old new fed other ok same is none =
    as_list [] (of_fed fed old dev frame) old.core new.core (ap (λ (f : Fed). of_fed f old dev frame) is ∙ none) (no_core_event old.core new.core ok same)

sends_if : (due : Bool) (dev : ℕ) (frame : List ℕ) (old new : ControllerState) (fed : Fed) → IsCore old.core → IsCore new.core → IsWhole old dev frame fed → SendsIf due (without_feeding old dev) dev fed new
    → AreCoreEvents old.core (of_fed fed old dev frame) new.core
sends_if false dev frame old new fed ok ok_new whole h = as_fed dev frame old new fed fed_answer.Ended ok (ap (λ (c : ControllerState). c.core) h.0) h.1 refl
sends_if true dev frame old new fed ok ok_new whole h =
    let bytes : HasBytes (turn_to old dev) frame = subst (λ (f : Fed). IsWhole old dev frame f) h.goes whole in
    as_list (core.Chose (turn_to old dev) frame ∷ []) (of_fed fed old dev frame) old.core new.core (ap (λ (f : Fed). of_fed f old dev frame) h.goes)
    (one_core_event (core.Chose (turn_to old dev) frame) old.core new.core ok ok_new tt (h.may, h.core, bytes))

gathers_if : (out : Bool) (dev : ℕ) (frame : List ℕ) (old new : ControllerState) (fed : Fed) → IsCore old.core → IsCore new.core → IsWhole old dev frame fed → GathersIf out old dev fed new
    → AreCoreEvents old.core (of_fed fed old dev frame) new.core
gathers_if false dev frame old new fed ok ok_new whole h = as_fed dev frame old new fed fed_answer.Stale ok (ap (λ (c : ControllerState). c.core) h.0) h.1 refl
gathers_if true dev frame old new fed ok ok_new whole h = sends_if (may_feed old.core dev) dev frame old new fed ok ok_new whole h

loses : (turn : Turn) (old new : ControllerState) (fed : Fed) → Loses turn old fed new → new.core ≡ old.core
loses (Feeds dev slot offset len) old new fed h = ap (λ (c : ControllerState). c.core) h.rest
loses other old new fed h = ap (λ (c : ControllerState). c.core) h.0

loses_if : (due : Bool) (dev : ℕ) (old new : ControllerState) (fed : Fed) → LosesIf due old dev fed new → new.core ≡ old.core
loses_if false dev old new fed h = ap (λ (c : ControllerState). c.core) h.0
loses_if true dev old new fed h = loses (turn_to old dev) old new fed h

misses_data : (out : Bool) (dev : ℕ) (old new : ControllerState) (fed : Fed) → MissesDataIf out old dev fed new → new.core ≡ old.core
misses_data false dev old new fed h = ap (λ (c : ControllerState). c.core) h.0
misses_data true dev old new fed h = loses_if (may_feed old.core dev) dev (without_feeding old dev) new fed h

-- ---- all of them

event_are : (e : Event) (old new : ControllerState) → IsController old → IsController new → (does : Does old e new) → AreCoreEvents old.core (of_event old e new does) new.core
event_are (event.Wrote offset value written) old new k k_new does = write_are offset value old new written (core_kept old k) (core_kept new k_new) does
event_are (event.WroteWide offset width value written) old new k k_new does = wide_are (fits_width width offset) offset width value old new written (core_kept old k) (core_kept new k_new) does
event_are (event.Supplied slot number bytes supply) old new k k_new does =
    supplies (fits old slot number bytes) slot number bytes old new supply refl k.rules.long (core_kept old k) (core_kept new k_new) does
event_are (event.Missed slot number supply) old new k k_new does =
    no_core_event old.core new.core (core_kept old k) (misses (is_asked old.wants slot number) slot old new supply (core_kept old k) does)
event_are (event.Took frame took) old new k k_new does = takes frame took old new (core_kept old k) (core_kept new k_new) does
event_are (event.Turned next) old new k k_new does = turns_by (next_write old) old new next refl (core_kept old k) (core_kept new k_new) does
event_are (event.Gathered dev number frame fed) old new k k_new does =
    gathers_if (is_fed old.wants dev number) dev frame old new fed (core_kept old k) (core_kept new k_new) does.0 does.1
event_are (event.NotThere dev number fed) old new k k_new does =
    no_core_event old.core new.core (core_kept old k) (misses_data (is_fed old.wants dev number) dev old new fed does)
event_are other old new k k_new does = no_core_event old.core new.core (core_kept old k) (ap (λ (c : ControllerState). c.core) does.1)

pub first_kept : (events : List Event) (old new : ControllerState) → Runs old events new → IsController old
first_kept [] old new run = run.0
first_kept (e ∷ events) old new run = run.0

pub all_are : (events : List Event) (old new : ControllerState) (run : Runs old events new) → AreCoreEvents old.core (of_all old events new run) new.core
all_are [] old new run = no_core_event old.core new.core (core_kept old run.0) (ap (λ (c : ControllerState). c.core) run.1)
all_are (e ∷ events) old new run =
    let next : ControllerState = run.1.0 in
    then_core_events (of_event old e next run.1.1) (of_all next events new run.1.2) old.core next.core new.core
    (event_are e old next run.0 (first_kept events next new run.1.2) run.1.1) (all_are events next new run.1.2)
