-- While the port is stopped nothing is issued in a slot; so while a command stands there the port runs.
use Rattle.std.proofs.Common.{◌≡◌, ℕ, ◌<◌, ◌^◌, ◌&&◌, ◌||◌, Bool, true, false, not, List, [], ◌∷◌, refl, sym, ap, subst, ◌∙◌, arith, Option, Some}
use Rattle.std.proofs.{Common.None, lemmas.{Bool.{false≢true, true≢false}, List.{get_or-replicate}}}
use Rattle.std.specs.Prelude.{MatchOption, if◌then◌else◌}
use Rattle.fis_view.specs.{Seen.seen, declared.view.Fis.Fis}
use Rattle.fis_view.specs.declared.view.Fis.TheVariants as view
use Rattle.guest_fetch.specs.Commands.{Fetched}
use Rattle.slots.specs.{Slots.{Issue, has_bit, issue_at, match_some, no_own_slots, own_issue}, Table.{IsIssue, IsTable}}
use Rattle.hba_fbs.specs.{Choosing.Chooses, Greeting.{Greets, is_first}, Offering.Offer, Placing.{Places, issue_error}, Registers.{falls, written}}
use Rattle.hba_fbs.specs.{Bits.st, Posting.posted, Taking.{admitted, ignores, port_of, posted_of, settled}, Stopping.{SetsCmd, fallen_view}}
use Rattle.hba_fbs.specs.{Views.{DeviceView, Port, view_of}, declared.{error.IssueError.IssueError, hearing.Heard.Heard}}
use Rattle.hba_fbs.specs.declared.{registers.Registers.Registers, report.TakeReport.TakeReport, room.Room.Room, turn.Turn.{Turn, TheVariants.Feeds}}
use Rattle.hba_fbs.specs.declared.turn.Turn.TheVariants.{Orders, Rests}
use Rattle.hba_fbs.specs.declared.error.IssueError.TheVariants as refusal
use Rattle.hba_fbs.specs.declared.register.Register.TheVariants as on_port
use Rattle.hba_laws.specs.Cores as core
use Rattle.hba_laws.specs.Cores.{AreCores, CoreEvent, DoesBy, IsCore, RunsBy}
use Rattle.hba_laws.proofs.Door.{own_here}
use Rattle.ahci_controller.specs.{Issuing.{device_of, offered_command}, Offers.offer_in, States.{ControllerState, kept}}
use Rattle.ahci_controller.specs.declared.issuing.Supply.{Supply}
use Rattle.ahci_controller.specs.declared.issuing.Supply.TheVariants as supply_answer
use Rattle.controller_laws.specs.{CoreEvents.{AreCoreEvents, no_tables, of_event, of_supply}, Events.{Does, Event}}
use Rattle.controller_laws.specs.Events as call
use Rattle.machine_theorem.specs.Commands.{issues_in}
use Rattle.machine_theorem.proofs.{CoreStems.{IsWritten, PlaceNone, PlacesNone, call_none, event_stems}, SetupCores.first_core, Stems.Stems}

abbrev pub IsIdle : ℕ → Port → Type 0
IsIdle s port = port.registers.started ≡ false → issue_at port.slots s ≡ None

-- ---- ST by the events of a core

abbrev SameStart : Port → Port → Type 0
SameStart old new = new.registers.started ≡ old.registers.started

posted_start : (r : Registers) (dev : ℕ) (resetting : Bool) (fis : Fis) → (posted r dev resetting fis).started ≡ r.started
unfolding posted
posted_start r dev resetting (view.RegD2H f) = refl
posted_start r dev resetting (view.SetBits f) = refl
posted_start r dev resetting (view.DmaSetup f) = refl
posted_start r dev resetting (view.Unknown f) = refl
posted_start r dev resetting other = refl

posted_of_start : (r : Registers) (dev : ℕ) (resetting : Bool) (o : Option Fis) → (posted_of r dev resetting o).started ≡ r.started
posted_of_start r dev resetting None = refl
posted_of_start r dev resetting (Some fis) = posted_start r dev resetting fis

settled_start : (r : Registers) (h : Heard) → (settled r h).started ≡ r.started
unfolding settled
settled_start r h = refl

took_start : (old new : Port) (frame : List ℕ) (room : Room) (report : TakeReport) (b : Bool) → ignores (port_of frame) old frame ≡ b
    → core.Hearkens old frame room report new → SameStart old new
took_start old new frame room report true e h = ap (λ (p : Port). p.registers.started) (h.ignored e).port
took_start old new frame room report false e h =
    ap (λ (r : Registers). r.started) (h.heard e).registers
    ∙ settled_start (posted_of old.registers (port_of frame) (view_of (port_of frame) old).state.resetting (admitted (port_of frame) (seen frame))) _
    ∙ posted_of_start old.registers (port_of frame) (view_of (port_of frame) old).state.resetting (admitted (port_of frame) (seen frame))

chose_start : (turn : Turn) (old new : Port) → Chooses turn old new → SameStart old new
chose_start Rests old new h = ap (λ (p : Port). p.registers.started) h
chose_start (Feeds dev slot offset len) old new h = ap (λ (r : Registers). r.started) h.registers
chose_start (Orders dev slot command) old new h = ap (λ (r : Registers). r.started) h.registers

greeted_start : (dev : ℕ) (old new : Port) (o : Option (List ℕ)) (report : TakeReport) → Greets old dev o report new → SameStart old new
greeted_start dev old new None report h = ap (λ (p : Port). p.registers.started) h.port
greeted_start dev old new (Some f) report h =
    ap (λ (r : Registers). r.started) h.registers ∙ posted_start old.registers dev (is_first old.registers || (view_of dev old).state.resetting) (view.RegD2H f)

pub written_start : (r : _) (old new : Registers) (value : ℕ) → IsWritten r → new ≡ written r old value → new.started ≡ old.started
unfolding written
written_start on_port.Is old new value is e = ap (λ (r : Registers). r.started) e
written_start on_port.Serr old new value is e = ap (λ (r : Registers). r.started) e
written_start on_port.Sact old new value is e = ap (λ (r : Registers). r.started) e
written_start on_port.Sntf old new value is e = ap (λ (r : Registers). r.started) e
written_start on_port.Fbs old new value is e = ap (λ (r : Registers). r.started) e
written_start other old new value is e = absurd is

commanded_start : (old new : Registers) (value : ℕ) → new ≡ written on_port.Cmd old value → new.started ≡ has_bit value st
unfolding written
commanded_start old new value e = ap (λ (r : Registers). r.started) e

-- ---- what is issued

-- no event that leaves ST issues where nothing was
still : (s : ℕ) (old new : Port) → SameStart old new → Stems (issue_at old.slots s) (issue_at new.slots s) → IsIdle s old → IsIdle s new
still s old new same stems idle stopped = by (issue_at new.slots s) refl
  where
    by : (o : Option Issue) → issue_at new.slots s ≡ o → o ≡ None
    by None e = refl
    by (Some i) e = absurd (let both = sym (stems i e).was ∙ idle (sym same ∙ stopped) in cc)

none_there : (s : ℕ) (old new : Port) → issue_at new.slots s ≡ None → IsIdle s new
none_there s old new none stopped = none

fine_started : (b : Bool) (rest : Option IssueError) → (if not b then Some refusal.Stopped else rest) ≡ None → b ≡ true
fine_started true rest e = refl
fine_started false rest e = absurd (cc)

placed_idle : (s dev slots : ℕ) (offer : Offer) (old new : Port) → issue_error old offer slots ≡ None → Places old offer dev slots new → IsIdle s new
placed_idle s dev slots offer old new fine h stopped =
    absurd (true≢false (sym (ap (λ (r : Registers). r.started) h.registers ∙ fine_started old.registers.started _ fine) ∙ stopped))

abbrev no_issue : Option Issue
no_issue = None

own_none : (s : ℕ) → s < 32 → (i : Issue) → own_issue no_own_slots s ≡ Some i → ⊥
own_none s below i e = let none = get_or-replicate 32 s no_issue None below in (let both = sym e ∙ none in cc)

-- as ST falls nothing is left
fallen_none : (s value : ℕ) (old new : Port) → s < 32 → IsTable new.slots → SetsCmd old value new → falls old.registers value ≡ true
    → issue_at new.slots s ≡ None
fallen_none s value old new below ok h fell = by (issue_at new.slots s) refl
  where
    by : (o : Option Issue) → issue_at new.slots s ≡ o → o ≡ None
    by None e = refl
    by (Some i) e =
        let issue : IsIssue i = subst (λ (o : Option Issue). MatchOption o (Unit {0}) IsIssue) e (ok.issues s) in
        let mine : own_issue (view_of i.dev new).slots s ≡ Some i = own_here s new.slots i (let n = ok.slots in omega (arith, n, below)) e in
        let view : view_of i.dev new ≡ fallen_view (view_of i.dev old) =
        h.views i.dev issue.dev_below ∙ ap (λ (b : Bool). if b then fallen_view (view_of i.dev old) else view_of i.dev old) fell in
        absurd (own_none s below i (ap (λ (v : DeviceView). own_issue v.slots s) (sym view) ∙ mine))

commanded_idle : (s value : ℕ) (old new : Port) → s < 32 → IsTable new.slots → SetsCmd old value new → Stems (issue_at old.slots s) (issue_at new.slots s)
    → IsIdle s old → IsIdle s new
commanded_idle s value old new below ok h stems idle stopped = by old.registers.started refl
  where
    off : has_bit value st ≡ false
    off = sym (commanded_start old.registers new.registers value h.registers) ∙ stopped

    by : (b : Bool) → old.registers.started ≡ b → issue_at new.slots s ≡ None
    by true e = fallen_none s value old new below ok h (ap (λ (b : Bool). b && not (has_bit value st)) e ∙ ap not off)
    by false e = still s old new (stopped ∙ sym e) stems idle stopped

event_idle : (e : CoreEvent) (s : ℕ) (old new : Port) → s < 32 → IsTable new.slots → DoesBy old e new → PlacesNone s e → IsIdle s old → IsIdle s new
event_idle (core.Took frame room report) s old new below ok h none idle =
    still s old new (took_start old new frame room report (ignores (port_of frame) old frame) refl h)
    (event_stems (core.Took frame room report) s old new below ok h none) idle
event_idle (core.Wrote register value offer tables) s old new below ok h none idle =
    still s old new (written_start register old.registers new.registers value none h.1.registers)
    (event_stems (core.Wrote register value offer tables) s old new below ok h none) idle
event_idle (core.Flushed dev) s old new below ok h none idle = absurd none
event_idle (core.Gave bytes) s old new below ok h none idle = absurd none
event_idle core.Failed s old new below ok h none idle = absurd none
event_idle (core.Placed dev slots offer tables) s old new below ok h none idle = placed_idle s dev slots offer old new h.1 h.2
event_idle (core.Chose turn bytes) s old new below ok h none idle =
    still s old new (chose_start turn old new h.1) (event_stems (core.Chose turn bytes) s old new below ok h none) idle
event_idle (core.Greeted frame report) s old new below ok h none idle =
    still s old new (greeted_start (port_of frame) old new _ report h.1) (event_stems (core.Greeted frame report) s old new below ok h none) idle
event_idle (core.Commanded value) s old new below ok h none idle =
    commanded_idle s value old new below ok h.1 (event_stems (core.Commanded value) s old new below ok h none) idle
event_idle (core.Overrode dev) s old new below ok h none idle =
    still s old new (ap (λ (r : Registers). r.started) h.registers) (event_stems (core.Overrode dev) s old new below ok h none) idle
event_idle (core.Hung dev line) s old new below ok h none idle =
    still s old new (ap (λ (r : Registers). r.started) h.registers) (event_stems (core.Hung dev line) s old new below ok h none) idle
event_idle core.Relinked s old new below ok h none idle =
    none_there s old new (ap (λ (p : Port). issue_at p.slots s) h ∙ get_or-replicate 32 s no_issue None below)
event_idle core.Restarted s old new below ok h none idle =
    none_there s old new (ap (λ (p : Port). issue_at p.slots s) h ∙ get_or-replicate 32 s no_issue None below)

run_idle : (events : List CoreEvent) (s : ℕ) (old new : Port) (run : RunsBy old events new) → s < 32 → AreCores old new events run → PlaceNone s events
    → IsIdle s old → IsIdle s new
run_idle [] s old new run below are none idle = subst (IsIdle s) (sym run) idle
run_idle (e ∷ events) s old new run below are none idle =
    run_idle events s run.0 new run.2 below are.1 none.1
    (event_idle e s old run.0 below (first_core events run.0 new run.2 are.1).slots run.1 none.0 idle)

-- ---- the calls of a controller

placed_by : (s slot : ℕ) (o : Option Fetched) (old new : Port)
    → RunsBy old (match_some o [] (λ command. core.Placed (device_of command) (2 ^ slot) (offer_in (offered_command command)) no_tables ∷ [])) new
    → IsIdle s old → IsIdle s new
placed_by s slot None old new run idle = subst (IsIdle s) (sym run) idle
placed_by s slot (Some command) old new run idle =
    subst (IsIdle s) (sym run.2) (placed_idle s (device_of command) (2 ^ slot) (offer_in (offered_command command)) old run.0 run.1.1 run.1.2)

supplied_by : (s slot : ℕ) (supply : Supply) (old new : Port) (c : ControllerState) → RunsBy old (of_supply supply slot c) new → IsIdle s old → IsIdle s new
supplied_by s slot (supply_answer.Issued dev) old new c run idle = placed_by s slot (kept c slot) old new run idle
supplied_by s slot supply_answer.More old new c run idle = subst (IsIdle s) (sym run) idle
supplied_by s slot (supply_answer.NotTaken reason message line) old new c run idle = subst (IsIdle s) (sym run) idle
supplied_by s slot supply_answer.OutOfMemory old new c run idle = subst (IsIdle s) (sym run) idle
supplied_by s slot supply_answer.Stale old new c run idle = subst (IsIdle s) (sym run) idle

by_call : (e : Event) (s : ℕ) (old new : ControllerState) (does : Does old e new) → s < 32 → AreCoreEvents old.core (of_event old e new does) new.core
    → (b : Bool) → issues_in s e ≡ b → IsIdle s old.core → IsIdle s new.core
by_call (call.Supplied slot number bytes supply) s old new does below are b is idle = supplied_by s slot supply old.core new.core new are.run idle
by_call (call.Missed slot number supply) s old new does below are b is idle = subst (IsIdle s) (sym are.run) idle
by_call e s old new does below are false is idle =
    run_idle (of_event old e new does) s old.core new.core are.run below are.sound.cores (call_none e s old new does is) idle
by_call e s old new does below are true is idle = absurd (false≢true is)

pub call_idle : (e : Event) (s : ℕ) (old new : ControllerState) (does : Does old e new) → s < 32 → AreCoreEvents old.core (of_event old e new does) new.core
    → IsIdle s old.core → IsIdle s new.core
call_idle e s old new does below are idle = by_call e s old new does below are (issues_in s e) refl idle
