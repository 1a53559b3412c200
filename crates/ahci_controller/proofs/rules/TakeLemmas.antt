-- The rules of a controller stay true as a frame is taken.
use Rattle.std.proofs.Common.{◌≡◌, ℕ, ◌<◌, ◌^◌, ◌||◌, Bool, true, false, List, get_or, set, length, refl, sym, ap, subst, ◌∙◌, inl, inr, Option, Some}
use Rattle.std.proofs.{Common.{None, get_or-set_same}, lemmas.Bool.{cases_Bool, false≢true, lt-ltb, true≢false}}
use Rattle.std.specs.Prelude.{IfSome, MatchOption, is_some, nat_lt, ◌==◌, if◌then◌else◌}
use Rattle.fis_view.specs.{Seen.seen, declared.view.Fis.Fis}
use Rattle.fis_view.specs.declared.view.Fis.TheVariants as view
use Rattle.slots.specs.{Data.receiving_slot, Slots.{Issue, KeepsFree, context_of, has_bit, issue_at, match_some}, declared.table.Context.Context}
use Rattle.slots.specs.Table.{IsTable}
use Rattle.guest_fetch.specs.{Places.room_at, Commands.Fetched}
use Rattle.hba_commands.specs.declared.command.Command.{Command}
use Rattle.hba_fbs.specs.{Bits.without, Deciding.{Decides, Passes, decided}, Greeting.{Greets, greeted_in, is_first}, Posting.posted, Taking.admitted}
use Rattle.hba_fbs.specs.{Taking.{ignores, port_of, posted_of}, Views.{HaveCommands, IsCorePort, Port, last_command, view_of}}
use Rattle.hba_fbs.specs.declared.{hearing.Heard.Heard, registers.Registers.Registers, report.{TakeReport.TakeReport, Wrote.Wrote}}
use Rattle.hba_fbs.specs.Taking as core_taking
use Rattle.ahci_controller.specs.{Rules.{AreParts, IsCarried, IsOffered, IsRuled}, States.{ControllerState, cursor, kept}, Moving.commands_after}
use Rattle.ahci_controller.specs.{Moving.moved_on, Taking.{CoreHearsIf, Hears, brought, carried, carried_by, is_overflow, part_in, part_of}}
use Rattle.ahci_controller.specs.{Taking.{payload_of, room_for}, declared.{taking.Took.Took, wants.{Carried.Carried, Wants.Wants}}}
use Rattle.ahci_controller.proofs.rules.BitLemmas as bits
use Rattle.ahci_controller.proofs.rules.{FreeLemmas.{same_free, slots_free}, TurnLemmas.offers_on, Words.IsOfIssue, WroteLemmas.decided_wrote}
use Rattle.ahci_controller.proofs.rules.WroteLemmas.{greeted_wrote, of_issue, passed_wrote}
use Rattle.ahci_controller.proofs.rules.PartLemmas as parts

-- ---- the core

-- what a frame leaves of it
record HearsAs (old new : Port) (report : TakeReport) : Type 0 where
  pub commands : new.commands ≡ old.commands
  pub frees : KeepsFree old.slots new.slots
  pub started : new.registers.started ≡ old.registers.started
  pub wrote : IfSome report.wrote (IsOfIssue old)

posted_started : (r : Registers) (dev : ℕ) (resetting : Bool) (fis : Option Fis) → (posted_of r dev resetting fis).started ≡ r.started
unfolding posted
posted_started r dev resetting None = refl
posted_started r dev resetting (Some (view.RegD2H f)) = refl
posted_started r dev resetting (Some (view.SetBits f)) = refl
posted_started r dev resetting (Some (view.DmaSetup f)) = refl
posted_started r dev resetting (Some (view.Unknown f)) = refl
posted_started r dev resetting (Some other) = refl

settled_started : (r : Registers) (h : Heard) → (core_taking.settled r h).started ≡ r.started
unfolding core_taking.settled
settled_started r h = refl

no_wrote : (port : Port) (o : Option Wrote) → o ≡ None → IfSome o (IsOfIssue port)
no_wrote port o none = subst (λ (w : Option Wrote). IfSome w (IsOfIssue port)) (sym none) tt

decides_as : (old new : Port) (dev : ℕ) (h : Heard) (fis : Option Fis) (report : TakeReport) → IsTable old.slots
    → new.registers ≡ core_taking.settled (posted_of old.registers dev (view_of dev old).state.resetting fis) h → new.registers.started ≡ old.registers.started
decides_as old new dev h fis report ok is =
    ap (λ (r : Registers). r.started) is ∙ settled_started (posted_of old.registers dev (view_of dev old).state.resetting fis) h ∙ posted_started old.registers dev (view_of dev old).state.resetting fis

greets_as : (old new : Port) (dev : ℕ) (o : Option (List ℕ)) (report : TakeReport) → Greets old dev o report new → HearsAs old new report
greets_as old new dev None report h = record {
  commands = ap (λ (p : Port). p.commands) h.port;
  frees = same_free old new h.port;
  started = ap (λ (p : Port). p.registers.started) h.port;
  wrote = no_wrote old report.wrote (greeted_wrote old new dev None report h);
}
greets_as old new dev (Some f) report h = record {
  commands = h.commands;
  frees = slots_free old new h.slots;
  started = ap (λ (r : Registers). r.started) h.registers ∙ posted_started old.registers dev (is_first old.registers || (view_of dev old).state.resetting) (Some (view.RegD2H f));
  wrote = no_wrote old report.wrote (greeted_wrote old new dev (Some f) report h);
}

hears_as : (started : Bool) (old : ControllerState) (new : Port) (frame : List ℕ) (report : TakeReport) → IsTable old.core.slots → CoreHearsIf started old frame report new → HearsAs old.core new report
hears_as false old new frame report ok h = greets_as old.core new (port_of frame) (greeted_in (view_of (port_of frame) old.core).state (seen frame)) report h
hears_as true old new frame report ok h = elim (cases_Bool (ignores (port_of frame) old.core frame)) [
  | inl ignored ↦
      let passes : Passes (port_of frame) old.core report new = h.ignored ignored in
      record {
        commands = ap (λ (p : Port). p.commands) passes.port;
        frees = same_free old.core new passes.port;
        started = ap (λ (p : Port). p.registers.started) passes.port;
        wrote = no_wrote old.core report.wrote (passed_wrote old.core new (port_of frame) report passes);
      }
  | inr heard ↦
      let fis : Option Fis = admitted (port_of frame) (seen frame) in
      let decides : Decides old.core (port_of frame) (room_for old (port_of frame)) fis report new = h.heard heard in
      record {
        commands = decides.commands;
        frees = decides.frees;
        started = decides_as old.core new (port_of frame) (decided (port_of frame) (view_of (port_of frame) old.core) (room_for old (port_of frame)) fis) fis report ok decides.registers;
        wrote = decided_wrote old.core new (port_of frame) (room_for old (port_of frame)) fis report ok decides;
      }
]

-- ---- the command that is kept

-- what is issued has its command here, too
record HasKept (c : ControllerState) (slot : ℕ) : Type 0 where
  command : Fetched
  here : kept c slot ≡ Some command

has_kept_of : (k : Option Command) (o : Option Fetched) → IsOffered k o → (k ≡ None → ⊥) → is_some o ≡ true
has_kept_of None o offered some = absurd (some refl)
has_kept_of (Some command) None offered some = absurd offered
has_kept_of (Some command) (Some f) offered some = refl

the_command : (o : Option Fetched) → is_some o ≡ true → (f : Fetched) × (o ≡ Some f)
the_command None h = absurd (false≢true h)
the_command (Some f) h = (f, refl)

has_kept : (c : ControllerState) (slot : ℕ) → IsRuled c → HaveCommands c.core.slots c.core.commands → is_some (issue_at c.core.slots slot) ≡ true → HasKept c slot
has_kept c slot was have busy =
    let some : is_some (kept c slot) ≡ true = has_kept_of (last_command c.core.commands slot) (kept c slot) (was.kept slot) (λ none. false≢true (sym (ap is_some (have slot none)) ∙ busy)) in
    let f = the_command (kept c slot) some in
    record { command = f.0; here = f.1 }

-- ---- the controller

busy_out : (c : ControllerState) (slot : ℕ) → slot < 32 → IsRuled c → is_some (issue_at c.core.slots slot) ≡ true → has_bit c.wants.out slot ≡ false
busy_out c slot below was busy = elim (cases_Bool (has_bit c.wants.pending slot)) [
  | inl pending ↦ absurd (false≢true (sym (ap is_some (was.free slot below pending)) ∙ busy))
  | inr none ↦ (was.unread slot below none).out
]

heard_ruled : (dev : ℕ) (old : ControllerState) (new : Port) (o : Option Wrote) → IsCorePort old.core → IsRuled old → new.commands ≡ old.core.commands → KeepsFree old.core.slots new.slots → new.registers.started ≡ old.core.registers.started
    → IfSome o (IsOfIssue old.core) → AreParts new (record old.wants { feeding = without old.wants.feeding (2 ^ dev) }) old.fetches (commands_after (record old { core = new }) o) (carried_by o) old.own.starts
heard_ruled dev old new None rules was commands frees started wrote =
    let fed : IsRuled (record old { wants = record old.wants { feeding = without old.wants.feeding (2 ^ dev) } }) = parts.feeding_is old.core old.wants old.fetches old.commands old.writes.payload old.own.starts was (without old.wants.feeding (2 ^ dev)) in
    let moved : AreParts new (record old.wants { feeding = without old.wants.feeding (2 ^ dev) }) old.fetches old.commands old.writes.payload old.own.starts =
    parts.core_moves old.core _ old.fetches old.commands old.writes.payload old.own.starts fed new commands frees (λ e. was.stopped (sym started ∙ e)) in
    parts.payload_is new _ old.fetches old.commands old.writes.payload old.own.starts moved None tt
heard_ruled dev old new (Some w) rules was commands frees started wrote =
    let wants : Wants = record old.wants { feeding = without old.wants.feeding (2 ^ dev) } in
    let fed : IsRuled (record old { wants = wants }) = parts.feeding_is old.core old.wants old.fetches old.commands old.writes.payload old.own.starts was (without old.wants.feeding (2 ^ dev)) in
    let moved : AreParts new wants old.fetches old.commands old.writes.payload old.own.starts =
    parts.core_moves old.core wants old.fetches old.commands old.writes.payload old.own.starts fed new commands frees (λ e. was.stopped (sym started ∙ e)) in
    let k : HasKept old w.slot = has_kept old w.slot was rules.commands wrote.busy in
    let f : Fetched = moved_on w k.command in
    let now : List (Option Fetched) = set old.commands w.slot (Some f) in
    let is : commands_after (record old { core = new }) (Some w) ≡ now =
    ap (λ (b : Bool). match_some (if b then kept old w.slot else None) old.commands (λ command. set old.commands w.slot (Some (moved_on w command)))) (lt-ltb w.slot 32 wrote.below)
    ∙ ap (λ (o : Option Fetched). match_some o old.commands (λ command. set old.commands w.slot (Some (moved_on w command)))) k.here in
    let brought : IsCarried wants now (carried w) = record {
      slot = wrote.below;
      kept = ap is_some (get_or-set_same old.commands w.slot (Some f) None (rw was.long wrote.below));
      out = busy_out old w.slot wrote.below was wrote.busy;
    } in
    subst (λ (l : List (Option Fetched)). AreParts new wants old.fetches l (carried_by (Some w)) old.own.starts) (sym is)
    (parts.counts new wants old.fetches old.commands old.writes.payload old.own.starts moved w.slot f (Some (carried w)) wrote.below
    (λ command h. offers_on w k.command command (subst (λ (o : Option Fetched). IsOffered command o) k.here h)) brought)

-- ---- Data that go past their table

-- what a device's last setup is for, is issued
setup_issue : (port : Port) (dev : ℕ) (o : Option Context) (slot : ℕ) (w : Wrote) → IsTable port.slots → context_of port.slots dev ≡ o → receiving_slot o ≡ Some slot → w.slot ≡ slot → IsOfIssue port w
setup_issue port dev None slot w ok now h same = cc
setup_issue port dev (Some c) slot w ok now h same = of_issue port dev w ok (record { context = c; now = now; slot = same ∙ by c.to_host h })
  where
    by : (b : Bool) → (if b then Some c.slot else None) ≡ Some slot → slot ≡ c.slot
    by true e = cc
    by false e = cc

part_is : (f : Fetched) (slot offset len : ℕ) (b : Bool) (port : Port) → ((w : Wrote) → w.slot ≡ slot → IsOfIssue port w) → IfSome (if b then None else Some (record { slot = slot; offset = offset; len = room_at f.table offset len })) (IsOfIssue port)
part_is f slot offset len true port own = tt
part_is f slot offset len false port own = own (record { slot = slot; offset = offset; len = room_at f.table offset len }) refl

part_issue : (c : ControllerState) (dev len : ℕ) → IsTable c.core.slots → IfSome (part_of c dev len) (IsOfIssue c.core)
part_issue c dev len ok = by (receiving_slot (context_of c.core.slots dev)) refl
  where
    of_command : (slot : ℕ) (o : Option Fetched) → receiving_slot (context_of c.core.slots dev) ≡ Some slot → IfSome (match_some o None (λ command. part_in command slot (cursor c dev) len)) (IsOfIssue c.core)
    of_command slot None is = tt
    of_command slot (Some f) is = part_is f slot (cursor c dev) len (room_at f.table (cursor c dev) len == 0 || room_at f.table (cursor c dev) len == len) c.core (λ w same. setup_issue c.core dev (context_of c.core.slots dev) slot w ok refl is same)

    by : (o : Option ℕ) → receiving_slot (context_of c.core.slots dev) ≡ o → IfSome (match_some o None (λ slot. match_some (kept c slot) None (λ command. part_in command slot (cursor c dev) len))) (IsOfIssue c.core)
    by None is = tt
    by (Some slot) is = of_command slot (kept c slot) is

brought_issue : (over : Bool) (c : ControllerState) (dev len : ℕ) (wrote : Option Wrote) → IsTable c.core.slots → IfSome wrote (IsOfIssue c.core) → IfSome (if over then part_of c dev len else wrote) (IsOfIssue c.core)
brought_issue true c dev len wrote ok h = part_issue c dev len ok
brought_issue false c dev len wrote ok h = h

pub take_rules : (frame : List ℕ) (old new : ControllerState) (took : Took) → IsCorePort old.core → IsTable old.core.slots → IsRuled old → Hears old frame took new → IsRuled new
take_rules frame old new took rules ok was h =
    let heard : HearsAs old.core new.core took.report = hears_as old.core.registers.started old new.core frame took.report ok h.core in
    subst IsRuled (sym h.rest)
    (heard_ruled (port_of frame) old new.core (brought old frame took.report) rules was heard.commands heard.frees heard.started
    (brought_issue (is_overflow took.report.fault) old (port_of frame) (payload_of (seen frame)) took.report.wrote ok heard.wrote))
