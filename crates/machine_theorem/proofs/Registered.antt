-- A FIS that goes from a slot is a Register FIS: no other is taken for the FIS of a command.
use Rattle.std.proofs.Common.{◌≡◌, ℕ, Bool, true, false, List, [], ◌∷◌, get_or, set, length, Option, Some, None, Result, Ok, refl, sym, ap, ◌∙◌}
use Rattle.std.proofs.{Common.subst, lemmas.Bool.{and_parts, false≢true}}
use Rattle.std.specs.Prelude.{◌==◌, MatchOption, if◌then◌else◌, nat_le, nat_lt, not, replicate, slice_index}
use Rattle.fis_view.specs.{Seen.seen, declared.view.{Fis.Fis, FisFault.FisFault}}
use Rattle.fis_view.specs.declared.view.Fis.TheVariants as view
use Rattle.slots.specs.Slots.{match_some}
use Rattle.guest_fetch.specs.{Commands.Fetched, Entries.{entries_at, first_fault}, Fetch.Fetching, Fetching.{Supplies, SuppliesAt, asked, framed}}
use Rattle.guest_fetch.specs.{Fetching.{going, headed, no_entries, supplied_at, tabled, wants_more}, Headers.{header_in, header_place}}
use Rattle.guest_fetch.specs.{Headers.header_refusal, Heads.{cfis_of, fields_in, fis_refusal, head_of, is_command, is_command_view}, Places.Places}
use Rattle.guest_fetch.specs.{Spans.{left_of, with_entries}, declared.{entry.FaultyEntry.FaultyEntry, fetch.Step.{Step, TheVariants.AtEntries}}}
use Rattle.guest_fetch.specs.declared.{fetch.{Step.TheVariants.{AtFis, AtHeader}, Supplied.Supplied}, head.Head.Head, header.Header.Header}
use Rattle.guest_fetch.specs.declared.refusal.Refusal.{Refusal}
use Rattle.guest_fetch.specs.declared.fetch.Supplied.TheVariants as came
use Rattle.guest_fetch.specs.declared.refusal.Refusal.TheVariants as refusal
use Rattle.block_disk.proofs.Door.{each_is}
use Rattle.hba_commands.specs.declared.command.Command as core_command
use Rattle.hba_fbs.specs.{Choosing.may_feed, declared.{report.Wrote.Wrote, turn.Turn.{Turn, TheVariants.Feeds}}}
use Rattle.ahci_controller.specs.{Access.fits as fits_width, Feeding.{GathersIf, Loses, LosesIf, MissesIf as MissesDataIf, SendsIf, sent_to}}
use Rattle.ahci_controller.specs.{Feeding.without_feeding, Fetching.{GoesOn, MissesIf, SuppliesIf, answered, fetch_of, fits, is_asked, without_fetch}}
use Rattle.ahci_controller.specs.{Issuing.{PlacesSlot, RefusesSlot, not_issued}, Moving.{commands_after, moved_on}, Next.{is_fed, turn_to}}
use Rattle.ahci_controller.specs.{Opening.IsOpening, Own.list_of, Rules.IsOffered, States.{ControllerState, fetch_at, kept}, Taking.brought}
use Rattle.ahci_controller.specs.{Wide.WritesFitting, declared.{access.Width.Width, feeding.Fed.Fed, issuing.{NotTaken.NotTaken, Supply.Supply}}}
use Rattle.ahci_controller.specs.declared.wide.WideWritten.{WideWritten}
use Rattle.controller_laws.specs.Events as event
use Rattle.controller_laws.specs.Events.{Does, Event, Runs}
use Rattle.controller_laws.proofs.TouchLemmas.{IsCalm, Touches, no_fetch, part_touches, turn_calm, write_touches, Touches.{Drops, Keeps}}
use Rattle.machine_laws.specs.Feeding.{IsOrderOf}
use Rattle.machine_theorem.specs.Commands.{IsSentFrom}
use Rattle.machine_theorem.proofs.{Came.set_each, FromHost.no_data, Ordered.last_kept}

-- ---- what is read of the guest

abbrev IsRegisterFis : List ℕ → Type 0
IsRegisterFis fis = is_command_view (seen fis) ≡ true

-- of a command whose entries are read the FIS has come
abbrev OfStep : Step → Type 0
OfStep (AtEntries head table) = IsRegisterFis head.cfis
OfStep other = Unit {0}

abbrev OfFetch : Option Fetching → Type 0
OfFetch None = Unit {0}
OfFetch (Some f) = OfStep f.step

abbrev OfCommand : Option Fetched → Type 0
OfCommand None = Unit {0}
OfCommand (Some f) = IsRegisterFis f.head.cfis

abbrev OfCame : Supplied → Type 0
OfCame (came.More f) = OfStep f.step
OfCame (came.Whole command) = IsRegisterFis command.head.cfis
OfCame other = Unit {0}

command_by : (is_one : Bool) (header : Header) (raw : List ℕ) (rest : Option Refusal) → (if not is_one then Some (refusal.NoCommand (slice_index raw 0) header.dwords) else rest) ≡ None
    → is_one ≡ true
command_by true header raw rest h = refl
command_by false header raw rest h = absurd (cc)

-- what is not refused is one
taken_is : (header : Header) (raw : List ℕ) → fis_refusal header raw ≡ None → IsRegisterFis (cfis_of raw)
taken_is header raw h =
    (and_parts (nat_le 20 (length raw)) (is_command_view (seen (cfis_of raw)))
    (command_by (is_command raw) header raw
    (if not ((fields_in (cfis_of raw)).pm_port == header.pm_port) then Some (refusal.PmPort (fields_in (cfis_of raw)).pm_port header.pm_port) else None) h)).1

going_on : (at : ℕ) (head : Head) (table : Places) → IsRegisterFis head.cfis → OfCame (going at head table)
going_on at head table is = by (wants_more head table)
  where
    by : (b : Bool) → OfCame (if b then came.More (record { at = at; step = AtEntries head table }) else came.Whole (record { at = at; head = head; table = table; moved = 0 }))
    by true = is
    by false = is

header_came : (at : ℕ) (header : Header) (r : Option Refusal) → OfCame (headed at header r)
header_came at header None = tt
header_came at header (Some r) = tt

fis_came : (at : ℕ) (head : Head) (r : Option Refusal) → (r ≡ None → IsRegisterFis head.cfis) → OfCame (framed at head r)
fis_came at head None is = going_on at head (no_entries head.work.len) (is refl)
fis_came at head (Some r) is = tt

entries_came : (at : ℕ) (head : Head) (table : Places) (r : Option FaultyEntry) → IsRegisterFis head.cfis → OfCame (tabled at head table r)
entries_came at head table None is = going_on at head table is
entries_came at head table (Some r) is = tt

comes : (at : ℕ) (step : Step) (raw : List ℕ) → OfStep step → OfCame (supplied_at at step raw)
comes at AtHeader raw is = header_came at (header_in raw) (header_refusal (header_in raw))
comes at (AtFis header) raw is = fis_came at (head_of header raw) (fis_refusal header raw) (taken_is header raw)
comes at (AtEntries head table) raw is =
    entries_came at head (with_entries table (entries_at raw 0 (asked head table))) (first_fault (length table.entries) (left_of table) (entries_at raw 0 (asked head table))) is

supplies : (at : ℕ) (step : Step) (raw : List ℕ) (c : Supplied) → OfStep step → SuppliesAt at step raw c → OfCame c
supplies at step raw (came.Refused r) is h = tt
supplies at step raw (came.OutOfMemory f) is h = tt
supplies at step raw other is h = subst OfCame h (comes at step raw is)

-- ---- of all slots

record AreRegisters (c : ControllerState) : Type 0 where
  fetches : (s : ℕ) → OfFetch (get_or c.fetches s None)
  commands : (s : ℕ) → OfCommand (get_or c.commands s None)

none_fetched : (s : ℕ) → OfFetch (get_or (replicate 32 no_fetch) s None)
none_fetched s = subst OfFetch (sym (each_is (Option Fetching) 32 s None)) tt

none_kept : (s : ℕ) → OfCommand (get_or (replicate 32 None) s None)
none_kept s = subst OfCommand (sym (each_is (Option Fetched) 32 s None)) tt

with_lists : (old new : ControllerState) (fetches : List (Option Fetching)) (commands : List (Option Fetched)) → new.fetches ≡ fetches → new.commands ≡ commands
    → ((s : ℕ) → OfFetch (get_or fetches s None)) → ((s : ℕ) → OfCommand (get_or commands s None)) → AreRegisters new
with_lists old new fetches commands same kept_same f c = record {
  fetches = λ s. subst (λ (l : List (Option Fetching)). OfFetch (get_or l s None)) (sym same) (f s);
  commands = λ s. subst (λ (l : List (Option Fetched)). OfCommand (get_or l s None)) (sym kept_same) (c s);
}

same_lists : (old new : ControllerState) → new.fetches ≡ old.fetches → new.commands ≡ old.commands → AreRegisters old → AreRegisters new
same_lists old new fetches commands was = with_lists old new old.fetches old.commands fetches commands was.fetches was.commands

same_all : (old new : ControllerState) → new ≡ old → AreRegisters old → AreRegisters new
same_all old new is was = subst AreRegisters (sym is) was

touched : (old new : ControllerState) → Touches old new → AreRegisters old → AreRegisters new
touched old new (Keeps k) was = same_lists old new k.fetches k.commands was
touched old new (Drops d) was = with_lists old new (replicate 32 no_fetch) old.commands d.fetches d.commands none_fetched was.commands

-- ---- a part of a command

fetched_step : (c : ControllerState) (slot : ℕ) (o : Option Fetching) → OfFetch o → OfStep (match_some o (record { at = header_place (list_of c.own) slot; step = AtHeader }) (λ f. f)).step
fetched_step c slot None is = tt
fetched_step c slot (Some f) is = is

module _ (slot : ℕ) (old : ControllerState) (was : AreRegisters old) where
  abbrev base : ControllerState
  base = without_fetch (answered old slot) slot

  base_fetches : (s : ℕ) → OfFetch (get_or base.fetches s None)
  base_fetches = set_each OfFetch old.fetches slot None tt was.fetches

  with_one : (f : Fetching) (new : ControllerState) → new ≡ record base { fetches = set base.fetches slot (Some f) } → OfStep f.step → AreRegisters new
  with_one f new is of =
      with_lists old new (set base.fetches slot (Some f)) old.commands (ap (λ (c : ControllerState). c.fetches) is) (ap (λ (c : ControllerState). c.commands) is)
      (set_each OfFetch base.fetches slot (Some f) of base_fetches) was.commands

  refused : (reason : NotTaken) (supply : Supply) (new : ControllerState) → RefusesSlot base slot reason supply new → AreRegisters new
  refused reason supply new h =
      with_lists old new base.fetches old.commands (ap (λ (c : ControllerState). c.fetches) h.rest) (ap (λ (c : ControllerState). c.commands) h.rest) base_fetches was.commands

  issued : (command : Fetched) (supply : Supply) (new : ControllerState) (o : Option NotTaken) → IsRegisterFis command.head.cfis
      → MatchOption o (PlacesSlot base slot command supply new) (λ reason. RefusesSlot base slot reason supply new) → AreRegisters new
  issued command supply new None is h =
      with_lists old new base.fetches (set old.commands slot (Some command)) (ap (λ (c : ControllerState). c.fetches) h.rest) (ap (λ (c : ControllerState). c.commands) h.rest)
      base_fetches (set_each OfCommand old.commands slot (Some command) is was.commands)
  issued command supply new (Some reason) is h = refused reason supply new h

  goes_on : (bytes : List ℕ) (c : Supplied) (supply : Supply) (new : ControllerState) → Supplies (fetch_of old slot) bytes c → OfCame c → GoesOn base slot c supply new → AreRegisters new
  goes_on bytes (came.More f) supply new so is h = with_one f new h.0 is
  goes_on bytes (came.OutOfMemory f) supply new so is h =
      with_one f new h.0 (subst (λ (g : Fetching). OfStep g.step) (sym so.0) (fetched_step old slot (fetch_at old slot) (was.fetches slot)))
  goes_on bytes (came.Refused r) supply new so is h = refused _ supply new h
  goes_on bytes (came.Whole command) supply new so is h = issued command supply new (not_issued base.core slot command) is h

  supplied : (fit : Bool) (bytes : List ℕ) (supply : Supply) (new : ControllerState) → SuppliesIf fit old slot bytes supply new → AreRegisters new
  supplied false bytes supply new h = same_all old new h.0 was
  supplied true bytes supply new h =
      goes_on bytes h.came supply new h.supplies
      (supplies (fetch_of old slot).at (fetch_of old slot).step bytes h.came (fetched_step old slot (fetch_at old slot) (was.fetches slot)) h.supplies) h.goes

  missed : (out : Bool) (supply : Supply) (new : ControllerState) → MissesIf out old slot supply new → AreRegisters new
  missed false supply new h = same_all old new h.0 was
  missed true supply new h = refused _ supply new h

-- ---- bytes that moved

counted : (c : ControllerState) (w : Wrote) (o : Option Fetched) (low : Bool) → OfCommand o → ((s : ℕ) → OfCommand (get_or c.commands s None))
    → (s : ℕ) → OfCommand (get_or (match_some (if low then o else None) c.commands (λ command. set c.commands w.slot (Some (moved_on w command)))) s None)
counted c w None true is each = each
counted c w None false is each = each
counted c w (Some f) false is each = each
counted c w (Some f) true is each = set_each OfCommand c.commands w.slot (Some (moved_on w f)) is each

moved_each : (c : ControllerState) (wrote : Option Wrote) → ((s : ℕ) → OfCommand (get_or c.commands s None)) → (s : ℕ) → OfCommand (get_or (commands_after c wrote) s None)
moved_each c None each = each
moved_each c (Some w) each = counted c w (kept c w.slot) (nat_lt w.slot 32) (each w.slot) each

moved : (old new base : ControllerState) (wrote : Option Wrote) → base.commands ≡ old.commands → new.fetches ≡ old.fetches → new.commands ≡ commands_after base wrote → AreRegisters old
    → AreRegisters new
moved old new base wrote same fetches commands was =
    with_lists old new old.fetches (commands_after base wrote) fetches commands was.fetches
    (moved_each base wrote (λ s. subst (λ (l : List (Option Fetched)). OfCommand (get_or l s None)) (sym same) (was.commands s)))

sends : (due : Bool) (dev : ℕ) (old new : ControllerState) (result : Fed) → SendsIf due (without_feeding old dev) dev result new → AreRegisters old → AreRegisters new
sends false dev old new result h was = same_lists old new (ap (λ (c : ControllerState). c.fetches) h.0) (ap (λ (c : ControllerState). c.commands) h.0) was
sends true dev old new result h was =
    moved old new (without_feeding old dev) (sent_to (without_feeding old dev) dev) refl (ap (λ (c : ControllerState). c.fetches) h.rest) (ap (λ (c : ControllerState). c.commands) h.rest) was

gathers : (out : Bool) (dev : ℕ) (old new : ControllerState) (result : Fed) → GathersIf out old dev result new → AreRegisters old → AreRegisters new
gathers false dev old new result h was = same_all old new h.0 was
gathers true dev old new result h was = sends (may_feed old.core dev) dev old new result h was

loses : (turn : Turn) (old fed new : ControllerState) (result : Fed) → fed.fetches ≡ old.fetches → fed.commands ≡ old.commands → Loses turn fed result new → AreRegisters old → AreRegisters new
loses (Feeds dev slot offset len) old fed new result fetches commands h was =
    same_lists old new (ap (λ (c : ControllerState). c.fetches) h.rest ∙ fetches) (ap (λ (c : ControllerState). c.commands) h.rest ∙ commands) was
loses other old fed new result fetches commands h was =
    same_lists old new (ap (λ (c : ControllerState). c.fetches) h.0 ∙ fetches) (ap (λ (c : ControllerState). c.commands) h.0 ∙ commands) was

loses_if : (due : Bool) (dev : ℕ) (old new : ControllerState) (result : Fed) → LosesIf due (without_feeding old dev) dev result new → AreRegisters old → AreRegisters new
loses_if false dev old new result h was = same_lists old new (ap (λ (c : ControllerState). c.fetches) h.0) (ap (λ (c : ControllerState). c.commands) h.0) was
loses_if true dev old new result h was = loses (turn_to (without_feeding old dev) dev) old (without_feeding old dev) new result refl refl h was

misses_data : (out : Bool) (dev : ℕ) (old new : ControllerState) (result : Fed) → MissesDataIf out old dev result new → AreRegisters old → AreRegisters new
misses_data false dev old new result h was = same_all old new h.0 was
misses_data true dev old new result h was = loses_if (may_feed old.core dev) dev old new result h was

-- ---- all calls

wide : (does_fit : Bool) (offset : ℕ) (width : Width) (value : ℕ) (old new : ControllerState) (result : WideWritten) → WritesFitting does_fit old offset width value result new → AreRegisters old
    → AreRegisters new
wide false offset width value old new result h was = same_all old new h.0.0 was
wide true offset width value old new result h was =
    touched h.middle new (part_touches _ _ _ _ h.middle new result.high h.high) (touched old h.middle (part_touches _ _ _ _ old h.middle result.low h.low) was)

call_keeps : (old new : ControllerState) (e : Event) → Does old e new → AreRegisters old → AreRegisters new
call_keeps old new (event.Wrote offset value written) does was = touched old new (write_touches offset value old new written does) was
call_keeps old new (event.WroteWide offset width value written) does was = wide (fits_width width offset) offset width value old new written does was
call_keeps old new (event.Supplied slot number bytes supply) does was = supplied slot old was (fits old slot number bytes) bytes supply new does
call_keeps old new (event.Missed slot number supply) does was = missed slot old was (is_asked old.wants slot number) supply new does
call_keeps old new (event.Took frame took) does was =
    moved old new (record old { core = new.core }) (brought old frame took.report) refl (ap (λ (c : ControllerState). c.fetches) does.hears.rest)
    (ap (λ (c : ControllerState). c.commands) does.hears.rest) was
call_keeps old new (event.Left frame why) does was = same_all old new does.1 was
call_keeps old new (event.Turned next) does was =
    let calm : IsCalm old new = turn_calm old new next does in
    same_lists old new calm.fetches calm.commands was
call_keeps old new (event.Said write) does was = same_lists old new (ap (λ (c : ControllerState). c.fetches) does.1) (ap (λ (c : ControllerState). c.commands) does.1) was
call_keeps old new (event.Gathered dev number frame fed) does was = gathers (is_fed old.wants dev number) dev old new fed does.1 was
call_keeps old new (event.NotThere dev number fed) does was = misses_data (is_fed old.wants dev number) dev old new fed does was

calls_keep : (events : List Event) (old new : ControllerState) → Runs old events new → AreRegisters old → AreRegisters new
calls_keep [] old new run was = same_all old new run.1 was
calls_keep (e ∷ events) old new run was = calls_keep events run.1.0 new run.1.2 (call_keeps old run.1.0 e run.1.1 was)

opens : (c : ControllerState) → IsOpening c → AreRegisters c
opens c h = with_lists c c (replicate 32 None) (replicate 32 None) h.fetches h.commands none_fetched none_kept

-- ---- what is sent from a slot

offered_is : (command : core_command.Command) (f : Option Fetched) → IsOffered (Some command) f → OfCommand f → IsRegisterFis command.cfis
offered_is command None offered is = absurd offered
offered_is command (Some f) offered is = subst IsRegisterFis (sym (ap (λ (x : core_command.Command). x.cfis) offered)) is

not_data : (fis : List ℕ) (r : Result Fis FisFault) → seen fis ≡ r → is_command_view r ≡ true → slice_index fis 0 ≡ 0x46 → ⊥
not_data fis (Ok (view.RegH2D g)) is h type = no_data fis g is type
not_data fis other is h type = absurd (false≢true h)

pub order_is_no_data : (old : ControllerState) → IsOpening old → (calls : List Event) (dev slot : ℕ) (fis : List ℕ) → IsSentFrom old calls dev slot fis → slice_index fis 0 ≡ 0x46 → ⊥
order_is_no_data old opening calls dev slot fis sent type =
    let at : ControllerState = sent.at in
    let order : IsOrderOf at dev slot fis = sent.ordered.issued in
    let are : AreRegisters at = calls_keep sent.before old at sent.first (opens old opening) in
    let offered : IsOffered (Some order.command) (kept at slot) =
    subst (λ (o : Option core_command.Command). IsOffered o (kept at slot)) order.is ((last_kept sent.before old at sent.first).rules.kept slot) in
    let is : IsRegisterFis order.command.cfis = offered_is order.command (kept at slot) offered (are.commands slot) in
    not_data fis (seen fis) refl (subst IsRegisterFis (sym order.bytes) is) type
