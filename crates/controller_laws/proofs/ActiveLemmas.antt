-- What takes a bit out of PxSACT.
use Rattle.std.proofs.Common.{◌≡◌, ◌≢◌, ℕ, zero, suc, ◌+◌, ◌-◌, ◌<◌, ◌^◌, ◌%◌, ◌&&◌, ◌||◌, min, Bool, true, false, not, List, [], ◌∷◌, ◌++◌, length}
use Rattle.std.proofs.{Common.{refl, sym, ap, subst, ◌∙◌, inl, inr, arith, w32, Option, Some, None, bit_or}, lemmas.Bool.{and_parts, cases_Bool}}
use Rattle.std.proofs.lemmas.{Bool.{eqb-true, false≢true, ltb-true, true≢false}, List.{append-nil}, Nat.Bits.{bit_at-lt, bit_at-pow_other}}
use Rattle.std.proofs.lemmas.Nat.Bits.{bit_at_and, bit_at_not}
use Rattle.std.specs.{Prelude.{◌==◌, ◌⊎◌, MatchOption, IfSome, nat_lt, if◌then◌else◌}, Option.option_map, Int.bit_at}
use Rattle.fis_view.specs.declared.view.Fis.{Fis}
use Rattle.fis_view.specs.declared.view.Fis.TheVariants as view
use Rattle.guest_fetch.specs.{Commands.Fetched, declared.fetch.Supplied.Supplied}
use Rattle.hba_commands.specs.declared.command.Command.{Command}
use Rattle.slots.specs.{Commands.slots_where, Slots.{Issue, has_bit, holds, is_queued_issue, issue_at, match_some, own_issue, slots_of}}
use Rattle.slots.specs.{Table.IsIssue, Work.is_queued, declared.work.Work.Work}
use Rattle.slots.proofs.Door.{has_bit_mask, mask_fits}
use Rattle.ahci_registers.specs.Bits as line_bits
use Rattle.ahci_registers.specs.{Offsets.register_at, declared.{link.Effect.Effect, register.Register.{Register, TheVariants.PxSact}}}
use Rattle.ahci_registers.specs.declared.link.Effect.TheVariants as effect
use Rattle.ahci_registers.specs.declared.register.Register.TheVariants as ahci
use Rattle.hba_fbs.specs.{Bits.{st, without}, Choosing.{Chooses, may_feed}, Deciding.{Decides, decided}, Greeting.Greets, Offering.AcceptsBy}
use Rattle.hba_fbs.specs.{Offering.asked_by, Placing.Places, Posting.posted, Reading.value_of, Registers.{falls, own_refusal_by}}
use Rattle.hba_fbs.specs.{Registers.written as written_register, Stopping.SetsCmd, Taking.{ignores, port_of, posted_of, settled}, Views.Port}
use Rattle.hba_fbs.specs.{Views.view_of, declared.{error.WriteError.WriteError, hearing.Heard.Heard, registers.Registers.Registers}}
use Rattle.hba_fbs.specs.declared.{report.TakeReport.TakeReport, room.Room.Room, turn.Turn.{Turn, TheVariants.{Feeds, Rests}}}
use Rattle.hba_fbs.specs.declared.register.Register as port_register
use Rattle.hba_fbs.specs.declared.register.Register.TheVariants as on_port
use Rattle.hba_laws.specs.{Agreement.{IsTold, work_of_issue, work_of_transfer}, Alike.told_issued, CoreHistories.{CoreViewsAreTold, event_by, frees}}
use Rattle.hba_laws.specs.{CoreHistories.{history_through, is_freed_in, turned_for}, Cores.{CoreEvent, RunsBy}, History.{History, Transfer, issued}}
use Rattle.hba_laws.specs.Cores as core
use Rattle.hba_laws.specs.History as history
use Rattle.hba_laws.proofs.Door.{held, own_here, own_in}
use Rattle.ahci_controller.specs.{Access.{fits as fits_width, high_of, low_of, merged, ones_of, spread_of}, Feeding.{GathersIf, Loses, LosesIf}}
use Rattle.ahci_controller.specs.{Feeding.{MissesIf as MissesDataIf, SendsIf, without_feeding}, Fetching.{GoesOn, MissesIf, SuppliesIf, answered}}
use Rattle.ahci_controller.specs.{Fetching.{fits, is_asked, want_at, without_fetch}, Issuing.{PlacesSlot, RefusesSlot, device_of, not_issued}}
use Rattle.ahci_controller.specs.{Issuing.offered_command, Next.{Frames, FramesFor, GoesIf, Reads, RestsNow, TurnsIf, is_fed, is_halted, next_device}}
use Rattle.ahci_controller.specs.{Next.{next_read, next_slot, next_write, turn_to, written}, Offers.{offer_in, offers_nothing}, Own.engine_of}
use Rattle.ahci_controller.specs.{Reading.{is_idle, shown}, States.{ControllerState, kept}, Taking.{CoreHearsIf, room_for}, Wide.WritesAt}
use Rattle.ahci_controller.specs.{Wide.{WritesFitting, WritesIf, block_of}, Writing.{ClearsIf, Commands, Leaves, ResetsBy, WritesGlobal}}
use Rattle.ahci_controller.specs.{Writing.{WritesRegister, link_effect, link_moved, plain, told_refusal}, declared.access.Width.Width}
use Rattle.ahci_controller.specs.declared.{feeding.Fed.Fed, issuing.{NotTaken.NotTaken, Supply.Supply}, next.Next.Next, wide.WideWritten.WideWritten}
use Rattle.ahci_controller.specs.declared.writing.Written.{Written}
use Rattle.ahci_controller.specs.declared.feeding.Fed.TheVariants as fed_answer
use Rattle.ahci_controller.specs.declared.issuing.Supply.TheVariants as supply_answer
use Rattle.ahci_controller.specs.declared.next.Next.TheVariants as next_step
use Rattle.ahci_controller.proofs.Door.{or_left, or_none, or_right}
use Rattle.guest_fetch.specs.declared.fetch.Supplied.TheVariants as came_as
use Rattle.controller_laws.specs.{Active.{ActiveBitsFall, ActiveFalls, IsNamed}, CoreEvents.{AreCoreEvents, commanded_by, commanded_with, no_tables}}
use Rattle.controller_laws.specs.CoreEvents.{of_event, of_fed, of_frame, of_next, of_part, of_register, of_supply, of_turn, of_turned, of_wide}
use Rattle.controller_laws.specs.{CoreEvents.{of_write, overridden_by, relinked_by, reset_by, told}, Ends.{AreTold, IsFreed, StopsWide}, Events.Does}
use Rattle.controller_laws.specs.Events.{Event, IsController}
use Rattle.controller_laws.specs.Events as event
use Rattle.controller_laws.proofs.PlainLemmas.{ArePlain, IsOfFis, IsPlain, Names, NotIssue, NoIssue, frame_event, frees_named, issues_keep}
use Rattle.controller_laws.proofs.PlainLemmas.{issues_plain, kept_issued, no_issue_both, plain_through, through_after, turn_keeps, turned_plain}

-- ---- what PxSACT shows

sact_is : (c : ControllerState) → shown PxSact c ≡ bit_or c.core.registers.armed (slots_where is_queued_issue c.core.slots)
unfolding shown value_of
sact_is c = refl

record IsHidden (p : Port) (s : ℕ) : Type 0 where
  armed : has_bit p.registers.armed s ≡ false
  queued : holds is_queued_issue (issue_at p.slots s) ≡ false

not_shown : (a b s : ℕ) → has_bit (bit_or a b) s ≡ false → (has_bit a s ≡ false) × (has_bit b s ≡ false)
not_shown a b s gone = (part (has_bit a s) refl, other (has_bit b s) refl)
  where
    part : (h : Bool) → has_bit a s ≡ h → has_bit a s ≡ false
    part false e = e
    part true e = absurd (false≢true (sym gone ∙ or_left a b s e))

    other : (h : Bool) → has_bit b s ≡ h → has_bit b s ≡ false
    other false e = e
    other true e = absurd (false≢true (sym gone ∙ or_right a b s e))

queued_bit : (p : Port) (s : ℕ) → s < 32 → has_bit (slots_where is_queued_issue p.slots) s ≡ holds is_queued_issue (issue_at p.slots s)
queued_bit p s below = has_bit_mask (λ slot. holds is_queued_issue (issue_at p.slots slot)) s below

is_hidden : (c : ControllerState) (s : ℕ) → s < 32 → has_bit (shown PxSact c) s ≡ false → IsHidden c.core s
is_hidden c s below gone =
    let parts = not_shown c.core.registers.armed (slots_where is_queued_issue c.core.slots) s (sym (ap (λ (m : ℕ). has_bit m s) (sact_is c)) ∙ gone) in
    record { armed = parts.0; queued = sym (queued_bit c.core s below) ∙ parts.1 }

is_there : (c : ControllerState) (s : ℕ) → s < 32 → has_bit (shown PxSact c) s ≡ true → (has_bit c.core.registers.armed s ≡ true) ⊎ (holds is_queued_issue (issue_at c.core.slots s) ≡ true)
is_there c s below here = by (has_bit c.core.registers.armed s) (holds is_queued_issue (issue_at c.core.slots s)) refl refl
  where
    by : (a q : Bool) → has_bit c.core.registers.armed s ≡ a → holds is_queued_issue (issue_at c.core.slots s) ≡ q → (has_bit c.core.registers.armed s ≡ true) ⊎ (holds is_queued_issue (issue_at c.core.slots s) ≡ true)
    by true q ea eq = inl ea
    by false true ea eq = inr eq
    by false false ea eq =
        absurd (false≢true (sym (ap (λ (m : ℕ). has_bit m s) (sact_is c) ∙ or_none c.core.registers.armed (slots_where is_queued_issue c.core.slots) s ea (queued_bit c.core s below ∙ eq)) ∙ here))

-- ---- a bit that was written

-- it is there still, or shows the queued command of its slot
data Stays (s : ℕ) (p : Port) : Type 0 where
  Still : has_bit p.registers.armed s ≡ true → Stays s p
  Queued : holds is_queued_issue (issue_at p.slots s) ≡ true → Stays s p

-- behind a write it is there still, or the port is stopped
data Goes (s : ℕ) (p : Port) : Type 0 where
  On : has_bit p.registers.armed s ≡ true → Goes s p
  Stopped : p.registers.started ≡ false → Goes s p

not_gone : (p : Port) (s : ℕ) → IsHidden p s → Stays s p → ⊥
not_gone p s h (Still here) = false≢true (sym h.armed ∙ here)
not_gone p s h (Queued here) = false≢true (sym h.queued ∙ here)

same_armed : (s : ℕ) (old new : Port) → new.registers ≡ old.registers → has_bit old.registers.armed s ≡ true → Stays s new
same_armed s old new same here = Still (ap (λ (r : Registers). has_bit r.armed s) same ∙ here)

same_core : (s : ℕ) (old new : Port) → new ≡ old → has_bit old.registers.armed s ≡ true → Stays s new
same_core s old new same here = Still (ap (λ (p : Port). has_bit p.registers.armed s) same ∙ here)

on_core : (s : ℕ) (old new : Port) → new ≡ old → has_bit old.registers.armed s ≡ true → has_bit new.registers.armed s ≡ true
on_core s old new same here = ap (λ (p : Port). has_bit p.registers.armed s) same ∙ here

-- frames
posted_armed : (r : Registers) (dev : ℕ) (resetting : Bool) (fis : Fis) → (posted r dev resetting fis).armed ≡ r.armed
unfolding posted
posted_armed r dev resetting (view.RegH2D f) = refl
posted_armed r dev resetting other = refl

posted_if : (r : Registers) (dev : ℕ) (resetting : Bool) (o : Option Fis) → (posted_of r dev resetting o).armed ≡ r.armed
posted_if r dev resetting None = refl
posted_if r dev resetting (Some fis) = posted_armed r dev resetting fis

settled_armed : (r : Registers) (h : Heard) → (settled r h).armed ≡ r.armed
unfolding settled
settled_armed r h = refl

decides_armed : (s dev : ℕ) (old new : Port) (room : Room) (fis : Option Fis) (report : TakeReport) → Decides old dev room fis report new → has_bit old.registers.armed s ≡ true → Stays s new
decides_armed s dev old new room fis report h here =
    let r : Registers = posted_of old.registers dev (view_of dev old).state.resetting fis in
    Still (ap (λ (m : ℕ). has_bit m s) (ap (λ (x : Registers). x.armed) h.registers ∙ settled_armed r (decided dev (view_of dev old) room fis) ∙ posted_if old.registers dev (view_of dev old).state.resetting fis) ∙ here)

greets_armed : (s dev : ℕ) (old new : Port) (o : Option (List ℕ)) (report : TakeReport) → Greets old dev o report new → has_bit old.registers.armed s ≡ true → Stays s new
greets_armed s dev old new None report h here = same_core s old new h.port here
greets_armed s dev old new (Some f) report h here = Still (ap (λ (m : ℕ). has_bit m s) (ap (λ (x : Registers). x.armed) h.registers ∙ posted_armed old.registers dev _ (view.RegD2H f)) ∙ here)

hears_armed : (started ignored : Bool) (s : ℕ) (old : ControllerState) (frame : List ℕ) (report : TakeReport) (new : Port) → ignores (port_of frame) old.core frame ≡ ignored → CoreHearsIf started old frame report new → has_bit old.core.registers.armed s ≡ true → Stays s new
hears_armed true true s old frame report new is h here = same_core s old.core new (h.ignored is).port here
hears_armed true false s old frame report new is h here = decides_armed s (port_of frame) old.core new _ _ report (h.heard is) here
hears_armed false ignored s old frame report new is h here = greets_armed s (port_of frame) old.core new _ report h here

-- what goes to devices
chooses_armed : (s : ℕ) (turn : Turn) (old new : Port) → Chooses turn old new → has_bit old.registers.armed s ≡ true → Stays s new
chooses_armed s Rests old new h here = same_core s old new h here
chooses_armed s other old new h here = same_armed s old new h.registers here

-- commands that are issued
bit_left : (x y k : ℕ) → y < 2 ^ 32 → k < 32 → has_bit y k ≡ false → has_bit x k ≡ true → has_bit (without x y) k ≡ true
bit_left x y k fits below none h =
    let one : bit_at x k ≡ 1 = eqb-true (bit_at x k) 1 h in
    let two : bit_at y k ≡ 0 = zero_bit (bit_at y k) (bit_at-lt y k) none in
    let both : bit_at (without x y) k ≡ min (bit_at x k) (1 - bit_at y k) = bit_at_and x (4294967295 - y) k ∙ ap (λ (n : ℕ). min (bit_at x k) n) (bit_at_not w32 y k fits below) in
    let is : bit_at (without x y) k ≡ 1 = omega (arith, one, two, both) in
    ap (λ (n : ℕ). n == 1) is
  where
    zero_bit : (n : ℕ) → n < 2 → (n == 1) ≡ false → n ≡ 0
    zero_bit zero lt ne = refl
    zero_bit (suc zero) lt ne = absurd (true≢false ne)
    zero_bit (suc (suc n)) lt ne = omega (arith, lt)

places_armed : (s dev slots : ℕ) (old new : Port) (offer : _) → s < 32 → Places old offer dev slots new → has_bit old.registers.armed s ≡ true → Stays s new
places_armed s dev slots old new offer below h here = elim (cases_Bool (has_bit (slots_where is_queued_issue new.slots) s)) [
  | inl queued ↦ Queued (sym (queued_bit new s below) ∙ queued)
  | inr free ↦ Still (ap (λ (r : Registers). has_bit r.armed s) h.registers ∙ bit_left old.registers.armed (slots_where is_queued_issue new.slots) s (mask_fits (λ slot. holds is_queued_issue (issue_at new.slots slot)) 32) below free here)
]

-- writes
is_armed : (value : ℕ) (r : Registers) → (written_register on_port.Is r value).armed ≡ r.armed
unfolding written_register
is_armed value r = refl

serr_armed : (value : ℕ) (r : Registers) → (written_register on_port.Serr r value).armed ≡ r.armed
unfolding written_register
serr_armed value r = refl

sntf_armed : (value : ℕ) (r : Registers) → (written_register on_port.Sntf r value).armed ≡ r.armed
unfolding written_register
sntf_armed value r = refl

fbs_armed : (value : ℕ) (r : Registers) → (written_register on_port.Fbs r value).armed ≡ r.armed
unfolding written_register
fbs_armed value r = refl

sact_armed : (value : ℕ) (r : Registers) → (written_register on_port.Sact r value).armed ≡ bit_or r.armed value
unfolding written_register
sact_armed value r = refl

cmd_armed : (value : ℕ) (r : Registers) → (written_register on_port.Cmd r value).armed ≡ (if falls r value then 0 else r.armed)
unfolding written_register
cmd_armed value r = refl

cmd_started : (value : ℕ) (r : Registers) → (written_register on_port.Cmd r value).started ≡ has_bit value st
unfolding written_register
cmd_started value r = refl

told_armed : (o : Option WriteError) (register : port_register.Register) (value s : ℕ) (old new : Port) → (has_bit old.registers.armed s ≡ true → has_bit (written_register register old.registers value).armed s ≡ true)
    → MatchOption o (AcceptsBy old (offer_in offers_nothing) register value new) (λ e. new ≡ old) → has_bit old.registers.armed s ≡ true → has_bit new.registers.armed s ≡ true
told_armed None register value s old new keeps h here = (ap (λ (r : Registers). has_bit r.armed s) h.registers ∙ keeps here)
told_armed (Some e) register value s old new keeps h here = on_core s old new h here

keeps_same : (s a b : ℕ) → a ≡ b → has_bit b s ≡ true → has_bit a s ≡ true
keeps_same s a b same here = ap (λ (m : ℕ). has_bit m s) same ∙ here

cleared_armed : (clears : Bool) (old new : Port) → ClearsIf clears old new → new.registers ≡ old.registers
cleared_armed true old new h = h.registers
cleared_armed false old new h = ap (λ (p : Port). p.registers) h

fall_is : (was up : Bool) → (was && not up) ≡ true → up ≡ false
fall_is true false h = refl
fall_is true true h = absurd (false≢true h)
fall_is false up h = absurd (false≢true h)

sets_armed : (fall : Bool) (value s : ℕ) (old new : Port) → falls old.registers value ≡ fall → SetsCmd old value new → has_bit old.registers.armed s ≡ true → Goes s new
sets_armed true value s old new is h here = Stopped (ap (λ (r : Registers). r.started) h.registers ∙ cmd_started value old.registers ∙ fall_is old.registers.started (has_bit value st) is)
sets_armed false value s old new is h here = On (ap (λ (r : Registers). has_bit r.armed s) h.registers ∙ keeps_same s (written_register on_port.Cmd old.registers value).armed old.registers.armed (cmd_armed value old.registers ∙ ap (λ (b : Bool). if b then 0 else old.registers.armed) is) here)

set_armed : (o : Option WriteError) (value s : ℕ) (old new : Port) → MatchOption o (SetsCmd old value new) (λ e. new ≡ old) → has_bit old.registers.armed s ≡ true → Goes s new
set_armed None value s old new h here = sets_armed (falls old.registers value) value s old new refl h here
set_armed (Some e) value s old new h here = On (on_core s old new h here)

commands_armed : (value s : ℕ) (old new : ControllerState) (ignored : Option WriteError) → Commands old value ignored new → has_bit old.core.registers.armed s ≡ true → Goes s new.core
commands_armed value s old new ignored h here =
    set_armed _ _ s h.middle.core new.core h.starts.core (ap (λ (r : Registers). has_bit r.armed s) (cleared_armed _ old.core h.middle.core h.clears.core) ∙ here)

global_armed : (resets : Bool) (value s : ℕ) (old new : ControllerState) → WritesGlobal resets old value new → has_bit old.core.registers.armed s ≡ true → Goes s new.core
global_armed true value s old new h here = Stopped (ap (λ (r : Registers). r.started) h.core.registers)
global_armed false value s old new h here = On (on_core s old.core new.core (ap (λ (c : ControllerState). c.core) h) here)

linked_armed : (e : Effect) (s : ℕ) (old new : ControllerState) → ResetsBy e old new → has_bit old.core.registers.armed s ≡ true → Goes s new.core
linked_armed effect.LinkReset s old new h here = Stopped (ap (λ (r : Registers). r.started) h.core.registers)
linked_armed other s old new h here = On (on_core s old.core new.core (ap (λ (c : ControllerState). c.core) h) here)

asked_core : (running : Bool) (c d : ControllerState) → d.core ≡ c.core → (if running then d else c).core ≡ c.core
asked_core true c d same = same
asked_core false c d same = refl

unmoved : (s : ℕ) (old new : ControllerState) → new.core ≡ old.core → has_bit old.core.registers.armed s ≡ true → Goes s new.core
unmoved s old new same here = On (on_core s old.core new.core same here)

register_armed : (r : Register) (value s : ℕ) (old new : ControllerState) (result : Written) → Leaves r old value result new → has_bit old.core.registers.armed s ≡ true → Goes s new.core
register_armed ahci.Ghc value s old new result h here = global_armed (line_bits.has_bit value 0) value s old new h.0 here
register_armed ahci.PxIs value s old new result h here = On (told_armed (told_refusal old on_port.Is value) on_port.Is value s old.core new.core (keeps_same s _ _ (is_armed value old.core.registers)) h.0.core here)
register_armed ahci.PxCmd value s old new result h here = commands_armed value s old new result.ignored h.0 here
register_armed ahci.PxSctl value s old new result h here = linked_armed (link_effect old value) s (link_moved old value) new h.0 here
register_armed ahci.PxSerr value s old new result h here = On (told_armed (told_refusal old on_port.Serr value) on_port.Serr value s old.core new.core (keeps_same s _ _ (serr_armed value old.core.registers)) h.0.core here)
register_armed ahci.PxSact value s old new result h here = On (told_armed (told_refusal old on_port.Sact _) on_port.Sact _ s old.core new.core (λ was. keeps_same s _ _ (sact_armed _ old.core.registers) (or_left old.core.registers.armed _ s was)) h.0.core here)
register_armed ahci.PxCi value s old new result h here = unmoved s old new (ap (λ (c : ControllerState). c.core) h.0 ∙ asked_core old.own.starts old _ refl) here
register_armed ahci.PxSntf value s old new result h here = On (told_armed (told_refusal old on_port.Sntf value) on_port.Sntf value s old.core new.core (keeps_same s _ _ (sntf_armed value old.core.registers)) h.0.core here)
register_armed ahci.PxFbs value s old new result h here = On (told_armed (told_refusal (record old { wants = record old.wants { feeding = 0 } }) on_port.Fbs _) on_port.Fbs _ s old.core new.core (keeps_same s _ _ (fbs_armed _ old.core.registers)) h.0.core here)
register_armed other value s old new result h here = unmoved s old new (ap (λ (c : ControllerState). c.core) h.0) here

at_armed : (o : Option Register) (value : Register → ℕ) (s : ℕ) (old new : ControllerState) (result : Written) (nothing : Type 0) → (nothing → new ≡ old) → MatchOption o nothing (λ r. WritesRegister r old (value r) result new) → has_bit old.core.registers.armed s ≡ true → Goes s new.core
at_armed None value s old new result nothing same h here = unmoved s old new (ap (λ (c : ControllerState). c.core) (same h)) here
at_armed (Some r) value s old new result nothing same h here = register_armed r (value r) s old new (plain result) h.leaves here

part_armed : (empty : Bool) (offset value mask s : ℕ) (old new : ControllerState) (result : Written) → WritesIf empty old offset value mask result new → has_bit old.core.registers.armed s ≡ true → Goes s new.core
part_armed true offset value mask s old new result h here = unmoved s old new (ap (λ (c : ControllerState). c.core) h.0) here
part_armed false offset value mask s old new result h here = at_armed (register_at offset) (λ r. merged r (shown r old) value mask) s old new result _ (λ n. n.0) h here

write_armed : (offset value s : ℕ) (old new : ControllerState) (result : Written) → WritesAt old offset value result new → has_bit old.core.registers.armed s ≡ true → Goes s new.core
write_armed offset value s old new result h here = at_armed (register_at offset) (λ r. value) s old new result _ (λ n. n.0) h here

wide_armed : (does_fit : Bool) (offset : ℕ) (width : Width) (value s : ℕ) (old new : ControllerState) (result : WideWritten) → (h : WritesFitting does_fit old offset width value result new) → has_bit old.core.registers.armed s ≡ true → (has_bit new.core.registers.armed s ≡ true) ⊎ StopsWide does_fit old offset width value result new h
wide_armed false offset width value s old new result h here = inl (on_core s old.core new.core (ap (λ (c : ControllerState). c.core) h.0.0) here)
wide_armed true offset width value s old new result h here = by_low (part_armed _ _ _ _ s old h.middle result.low h.low here)
  where
    by_high : Goes s new.core → (has_bit new.core.registers.armed s ≡ true) ⊎ StopsWide true old offset width value result new h
    by_high (On now) = inl now
    by_high (Stopped now) = inr (inr now)

    by_low : Goes s h.middle.core → (has_bit new.core.registers.armed s ≡ true) ⊎ StopsWide true old offset width value result new h
    by_low (On now) = by_high (part_armed _ _ _ _ s h.middle new result.high h.high now)
    by_low (Stopped now) = inr (inl now)

-- supplies
issues_armed : (slot s : ℕ) (f : Fetched) (o : Option NotTaken) (base new : ControllerState) (supply : Supply) → s < 32 → MatchOption o (PlacesSlot base slot f supply new) (λ reason. RefusesSlot base slot reason supply new) → has_bit base.core.registers.armed s ≡ true → Stays s new.core
issues_armed slot s f None base new supply below h here = places_armed s (device_of f) (2 ^ slot) base.core new.core _ below h.core here
issues_armed slot s f (Some reason) base new supply below h here = same_core s base.core new.core (ap (λ (c : ControllerState). c.core) h.rest) here

goes_on_armed : (slot s : ℕ) (came : Supplied) (base new : ControllerState) (supply : Supply) → s < 32 → GoesOn base slot came supply new → has_bit base.core.registers.armed s ≡ true → Stays s new.core
goes_on_armed slot s (came_as.Refused r) base new supply below h here = same_core s base.core new.core (ap (λ (c : ControllerState). c.core) h.rest) here
goes_on_armed slot s (came_as.Whole f) base new supply below h here = issues_armed slot s f (not_issued base.core slot f) base new supply below h here
goes_on_armed slot s other base new supply below h here = same_core s base.core new.core (ap (λ (c : ControllerState). c.core) h.0) here

supplies_armed : (fit : Bool) (slot s : ℕ) (bytes : List ℕ) (old new : ControllerState) (supply : Supply) → s < 32 → SuppliesIf fit old slot bytes supply new → has_bit old.core.registers.armed s ≡ true → Stays s new.core
supplies_armed false slot s bytes old new supply below h here = same_core s old.core new.core (ap (λ (c : ControllerState). c.core) h.0) here
supplies_armed true slot s bytes old new supply below h here = goes_on_armed slot s h.came (without_fetch (answered old slot) slot) new supply below h.goes here

misses_core : (out : Bool) (slot : ℕ) (old new : ControllerState) (supply : Supply) → MissesIf out old slot supply new → new.core ≡ old.core
misses_core false slot old new supply h = ap (λ (c : ControllerState). c.core) h.0
misses_core true slot old new supply h = ap (λ (c : ControllerState). c.core) h.rest

-- what is next
frames_armed : (dev slot : Option ℕ) (alternates : Bool) (s : ℕ) (base new : ControllerState) (next : Next) → FramesFor dev slot alternates base next new → has_bit base.core.registers.armed s ≡ true → Stays s new.core
frames_armed None None alternates s base new next h here = same_core s base.core new.core (ap (λ (c : ControllerState). c.core) h.0) here
frames_armed None (Some slot) alternates s base new next h here = chooses_armed s _ base.core new.core h.core here
frames_armed (Some dev) None alternates s base new next h here = same_core s base.core new.core (ap (λ (c : ControllerState). c.core) h.rest) here
frames_armed (Some dev) (Some slot) false s base new next h here = same_core s base.core new.core (ap (λ (c : ControllerState). c.core) h.rest) here
frames_armed (Some dev) (Some slot) true s base new next h here = chooses_armed s _ base.core new.core h.core here

runs_armed : (o : Option ℕ) (s : ℕ) (base new : ControllerState) (next : Next) → MatchOption o (Frames base next new) (λ slot. Reads base slot next new) → has_bit base.core.registers.armed s ≡ true → Stays s new.core
runs_armed None s base new next h here = frames_armed (next_device base) (next_slot base) base.circle.fed s base new next h here
runs_armed (Some slot) s base new next h here = same_core s base.core new.core (ap (λ (c : ControllerState). c.core) h.1) here

rests_core : (o : Option ℕ) (base new : ControllerState) (next : Next) → MatchOption o (RestsNow base next new) (λ slot. Reads base slot next new) → new.core ≡ base.core
rests_core None base new next h = ap (λ (c : ControllerState). c.core) h.0
rests_core (Some slot) base new next h = ap (λ (c : ControllerState). c.core) h.1

-- a port that is stopped does not stop
no_fall : (value : ℕ) (r : Registers) → r.started ≡ false → falls r value ≡ false
no_fall value r stopped = ap (λ (b : Bool). b && not (has_bit value st)) stopped

starts_armed : (o : Option WriteError) (value s : ℕ) (old new : Port) → old.registers.started ≡ false → MatchOption o (SetsCmd old value new) (λ e. new ≡ old) → has_bit old.registers.armed s ≡ true → Stays s new
starts_armed None value s old new stopped h here =
    Still (ap (λ (r : Registers). has_bit r.armed s) h.registers ∙ keeps_same s (written_register on_port.Cmd old.registers value).armed old.registers.armed (cmd_armed value old.registers ∙ ap (λ (b : Bool). if b then 0 else old.registers.armed) (no_fall value old.registers stopped)) here)
starts_armed (Some e) value s old new stopped h here = same_core s old new h here

goes_armed : (started : Bool) (s : ℕ) (base new : ControllerState) (next : Next) → base.core.registers.started ≡ started → GoesIf started base next new → has_bit base.core.registers.armed s ≡ true → Stays s new.core
goes_armed true s base new next is h here = runs_armed (next_read base) s base new next h here
goes_armed false s base new next is h here =
    subst (Stays s) (sym (rests_core (next_read h.middle) h.middle new next h.reads)) (starts_armed _ _ s base.core h.middle.core is h.starts.core here)

turns_armed : (halted : Bool) (s : ℕ) (base new : ControllerState) (next : Next) → TurnsIf halted base next new → has_bit base.core.registers.armed s ≡ true → Stays s new.core
turns_armed true s base new next h here = same_core s base.core new.core (ap (λ (c : ControllerState). c.core) h.0) here
turns_armed false s base new next h here = goes_armed base.core.registers.started s base new next refl h here

next_armed : (o : Option Next) (s : ℕ) (old new : ControllerState) (next : Next) → MatchOption o (TurnsIf (is_halted (written old)) (written old) next new) (λ write. (next ≡ write) × (new ≡ written old)) → has_bit old.core.registers.armed s ≡ true → Stays s new.core
next_armed None s old new next h here = turns_armed (is_halted (written old)) s (written old) new next h here
next_armed (Some write) s old new next h here = same_core s old.core new.core (ap (λ (c : ControllerState). c.core) h.1) here

-- Data to devices
sends_armed : (due : Bool) (dev s : ℕ) (old new : ControllerState) (fed : Fed) → SendsIf due old dev fed new → has_bit old.core.registers.armed s ≡ true → Stays s new.core
sends_armed false dev s old new fed h here = same_core s old.core new.core (ap (λ (c : ControllerState). c.core) h.0) here
sends_armed true dev s old new fed h here = chooses_armed s _ old.core new.core h.core here

gathers_armed : (out : Bool) (dev s : ℕ) (old new : ControllerState) (fed : Fed) → GathersIf out old dev fed new → has_bit old.core.registers.armed s ≡ true → Stays s new.core
gathers_armed false dev s old new fed h here = same_core s old.core new.core (ap (λ (c : ControllerState). c.core) h.0) here
gathers_armed true dev s old new fed h here = sends_armed (may_feed old.core dev) dev s (without_feeding old dev) new fed h here

loses_core : (turn : Turn) (base new : ControllerState) (fed : Fed) → Loses turn base fed new → new.core ≡ base.core
loses_core (Feeds dev slot offset len) base new fed h = ap (λ (c : ControllerState). c.core) h.rest
loses_core other base new fed h = ap (λ (c : ControllerState). c.core) h.0

loses_if : (due : Bool) (dev : ℕ) (base new : ControllerState) (fed : Fed) → LosesIf due base dev fed new → new.core ≡ base.core
loses_if false dev base new fed h = ap (λ (c : ControllerState). c.core) h.0
loses_if true dev base new fed h = loses_core (turn_to base dev) base new fed h

misses_data : (out : Bool) (dev : ℕ) (old new : ControllerState) (fed : Fed) → MissesDataIf out old dev fed new → new.core ≡ old.core
misses_data false dev old new fed h = ap (λ (c : ControllerState). c.core) h.0
misses_data true dev old new fed h = loses_if (may_feed old.core dev) dev (without_feeding old dev) new fed h

-- ---- a queued command

transfer_of : (o : Option Transfer) (w : Work) → option_map work_of_transfer o ≡ Some w → (t : Transfer) × ((o ≡ Some t) × (t.work ≡ w))
transfer_of None w h = cc
transfer_of (Some t) w h = (t, (refl, ap (λ (x : Option Work). match_some x w (λ y. y)) h))

issue_of : (o : Option Issue) (w : Work) → Some w ≡ option_map work_of_issue o → (i : Issue) × ((o ≡ Some i) × (i.work ≡ w))
issue_of None w h = cc
issue_of (Some i) w h = (i, (refl, sym (ap (λ (x : Option Work). match_some x w (λ y. y)) h)))

module _ (agrees : CoreViewsAreTold) (s : ℕ) (past : ℕ → History) (old new : ControllerState) (e : Event) (does : Does old e new) (are : AreCoreEvents old.core (of_event old e new does) new.core) (k : IsController old) (told : AreTold old.core past) (below : s < 32)
    (hidden : IsHidden new.core s) (i : Issue) (at : issue_at old.core.slots s ≡ Some i) (queued : is_queued i.work.kind ≡ true) where
  is_issue : IsIssue i
  is_issue = subst (λ (o : Option Issue). MatchOption o (Unit {0}) IsIssue) at (k.slots.issues s)

  mine : own_issue (slots_of i.dev old.core.slots) s ≡ Some i
  mine = own_here s old.core.slots i (let n = k.slots.slots in omega (arith, n, below)) at

  abbrev events : List CoreEvent
  events = of_event old e new does

  -- what happened to its device
  abbrev h : History
  h = history_through i.dev [] old.core new.core events are.run

  the_transfer : (t : Transfer) × ((issued s (past i.dev) ≡ Some t) × (t.work ≡ i.work))
  the_transfer = transfer_of (issued s (past i.dev)) i.work ((told i.dev is_issue.dev_below).issued s ∙ ap (option_map work_of_issue) mine)

  -- it is freed, or nothing would hide it
  is_freed : NoIssue s h → is_freed_in s h (past i.dev) ≡ true
  is_freed plain = by (is_freed_in s h (past i.dev)) refl
    where
      by : (b : Bool) → is_freed_in s h (past i.dev) ≡ b → b ≡ true
      by true is = refl
      by false is =
          let t = the_transfer in
          let still : issued s (h ++ past i.dev) ≡ Some t.0 = kept_issued s h (past i.dev) t.0 plain is t.1.0 in
          let now : IsTold (view_of i.dev new.core) (h ++ past i.dev) =
          subst (λ (q : History). IsTold (view_of i.dev new.core) q) (through_after i.dev [] (past i.dev) old.core new.core events are.run)
          (agrees i.dev is_issue.dev_below old.core new.core events are.run are.sound (past i.dev) (told i.dev is_issue.dev_below)) in
          let there = issue_of (own_issue (slots_of i.dev new.core.slots) s) t.0.work (sym (ap (option_map work_of_transfer) still) ∙ now.issued s) in
          let here : issue_at new.core.slots s ≡ Some there.0 = (own_in i.dev s new.core.slots there.0 there.1.0).1 in
          absurd (false≢true (sym hidden.queued ∙ ap (holds is_queued_issue) here ∙ ap (λ (w : Work). is_queued w.kind) (there.1.1 ∙ t.1.1) ∙ queued))

  is_freed_record : NoIssue s h → IsFreed s past old.core new.core events are.run
  is_freed_record plain = record { issue = i; was = at; freed = is_freed plain }

  not_kept : NoIssue s h → is_freed_in s h (past i.dev) ≡ false → ⊥
  not_kept plain kept_is = false≢true (sym kept_is ∙ is_freed plain)

-- ---- which events a call is

told_plain : (register : port_register.Register) (c : ControllerState) (value : ℕ) → IsPlain (core.Wrote register value (offer_in offers_nothing) no_tables) → ArePlain (told register c value)
told_plain register c value plain = by (told_refusal c register value)
  where
    by : (o : Option WriteError) → ArePlain (match_some o (core.Wrote register value (offer_in offers_nothing) no_tables ∷ []) (λ e. []))
    by None = (plain, tt)
    by (Some e) = tt

commanded_plain : (r : Registers) (value : ℕ) → ArePlain (commanded_with r value)
commanded_plain r value = by (own_refusal_by on_port.Cmd r value)
  where
    by : (o : Option WriteError) → ArePlain (match_some o (core.Commanded value ∷ []) (λ e. []))
    by None = (tt, tt)
    by (Some e) = tt

plain_both : (xs ys : List CoreEvent) → ArePlain xs → ArePlain ys → ArePlain (xs ++ ys)
plain_both [] ys a b = b
plain_both (x ∷ xs) ys a b = (a.0, plain_both xs ys a.1 b)

reset_plain : (resets : Bool) → ArePlain (reset_by resets)
reset_plain true = (tt, (tt, tt))
reset_plain false = tt

relinked_plain : (e : Effect) (c : ControllerState) (value : ℕ) → ArePlain (relinked_by e c value)
relinked_plain effect.LinkReset c value = (tt, (tt, tt))
relinked_plain other c value = tt

overridden_plain : (clears : Bool) (p : Port) → ArePlain (overridden_by clears p)
overridden_plain true p = (tt, tt)
overridden_plain false p = tt

register_plain : (r : Register) (c : ControllerState) (value : ℕ) → ArePlain (of_register r c value)
register_plain ahci.Ghc c value = reset_plain (line_bits.has_bit value 0)
register_plain ahci.PxIs c value = told_plain on_port.Is c value tt
register_plain ahci.PxCmd c value = plain_both _ (commanded_by c value) (overridden_plain _ c.core) (commanded_plain c.core.registers _)
register_plain ahci.PxSctl c value = relinked_plain (link_effect c value) c value
register_plain ahci.PxSerr c value = told_plain on_port.Serr c value tt
register_plain ahci.PxSact c value = told_plain on_port.Sact c _ tt
register_plain ahci.PxSntf c value = told_plain on_port.Sntf c value tt
register_plain ahci.PxFbs c value = told_plain on_port.Fbs c _ tt
register_plain other c value = tt

at_plain : (o : Option Register) (c : ControllerState) (value : Register → ℕ) → ArePlain (match_some o [] (λ r. of_register r c (value r)))
at_plain None c value = tt
at_plain (Some r) c value = register_plain r c (value r)

write_plain : (c : ControllerState) (offset value : ℕ) → ArePlain (of_write c offset value)
write_plain c offset value = at_plain (register_at offset) c (λ r. value)

part_plain : (c : ControllerState) (offset value mask : ℕ) → ArePlain (of_part c offset value mask)
part_plain c offset value mask = by (mask == 0)
  where
    by : (b : Bool) → ArePlain (if b then [] else match_some (register_at offset) [] (λ r. of_register r c (merged r (shown r c) value mask)))
    by true = tt
    by false = at_plain (register_at offset) c (λ r. merged r (shown r c) value mask)

wide_plain : (does_fit : Bool) (old : ControllerState) (offset : ℕ) (width : Width) (value : ℕ) (result : WideWritten) (new : ControllerState) (h : WritesFitting does_fit old offset width value result new) → ArePlain (of_wide does_fit old offset width value result new h)
wide_plain true old offset width value result new h =
    let low : ℕ = low_of (spread_of (offset % 8) value) in
    let low_mask : ℕ = low_of (spread_of (offset % 8) (ones_of width)) in
    let high : ℕ = high_of (spread_of (offset % 8) value) in
    let high_mask : ℕ = high_of (spread_of (offset % 8) (ones_of width)) in
    plain_both (of_part old (block_of offset) low low_mask) (of_part h.middle (block_of offset + 4) high high_mask) (part_plain old (block_of offset) low low_mask) (part_plain h.middle (block_of offset + 4) high high_mask)
wide_plain false old offset width value result new h = tt

-- ---- calls that free no queued command

-- a turn, or a port that starts
abbrev IsCalm : Port → List CoreEvent → Type 0
IsCalm p [] = Unit {0}
IsCalm p (core.Chose turn bytes ∷ []) = Unit {0}
IsCalm p (core.Commanded value ∷ []) = p.registers.started ≡ false
IsCalm p other = ⊥

next_calm : (next : Next) (c : ControllerState) → IsCalm c.core (of_next next c)
next_calm next_step.Nothing c = tt
next_calm other c = tt

starts_calm : (o : Option WriteError) (value : ℕ) (p : Port) → p.registers.started ≡ false → IsCalm p (match_some o (core.Commanded value ∷ []) (λ e. []))
starts_calm None value p stopped = stopped
starts_calm (Some e) value p stopped = tt

turn_calm : (halted started : Bool) (next : Next) (c : ControllerState) → c.core.registers.started ≡ started → IsCalm c.core (of_turn halted started next c)
turn_calm true started next c is = next_calm next c
turn_calm false true next c is = next_calm next c
turn_calm false false next c is = starts_calm (own_refusal_by on_port.Cmd c.core.registers (engine_of c.own (is_idle (written c)) c.core.registers)) (engine_of c.own (is_idle (written c)) c.core.registers) c.core is

turned_calm : (next : Next) (c : ControllerState) → IsCalm c.core (of_turned next c)
turned_calm next c = by (next_write c)
  where
    by : (o : Option Next) → IsCalm c.core (match_some o (of_turn (is_halted (written c)) c.core.registers.started next c) (λ write. of_next next c))
    by None = turn_calm (is_halted (written c)) c.core.registers.started next c refl
    by (Some write) = next_calm next c

fed_calm : (fed : Fed) (c : ControllerState) (dev : ℕ) (frame : List ℕ) → IsCalm c.core (of_fed fed c dev frame)
fed_calm fed_answer.Stale c dev frame = tt
fed_calm other c dev frame = tt

record IsLeft (s n : ℕ) (past : History) (old new : Port) (events : List CoreEvent) (run : RunsBy old events new) : Type 0 where
  plain : NoIssue s (history_through n [] old new events run)
  freed : is_freed_in s (history_through n [] old new events run) past ≡ false

calm_left : (s n : ℕ) (past : History) (old new : Port) (events : List CoreEvent) (run : RunsBy old events new) → IsCalm old events → (t : Transfer) (i : Issue) → issue_at old.slots s ≡ Some i → is_queued i.work.kind ≡ true → issued s past ≡ Some t → is_queued t.work.kind ≡ true → IsLeft s n past old new events run
calm_left s n past old new [] run calm t i at kind is queued = record { plain = tt; freed = refl }
calm_left s n past old new (core.Chose turn bytes ∷ []) run calm t i at kind is queued = record {
  plain = no_issue_both s (turned_for n old turn bytes) [] (turned_plain s n old turn bytes) tt;
  freed = ap (λ (l : History). is_freed_in s l past) (append-nil (turned_for n old turn bytes)) ∙ turn_keeps s n old turn bytes past t i at kind is queued;
}
calm_left s n past old new (core.Commanded value ∷ []) run calm t i at kind is queued =
    let none : history_through n [] old new (core.Commanded value ∷ []) run ≡ [] = ap (λ (b : Bool). (if b then history.Emptied ∷ [] else []) ++ []) (no_fall value old.registers calm) in
    record {
      plain = subst (NoIssue s) (sym none) tt;
      freed = ap (λ (l : History). is_freed_in s l past) none;
    }
calm_left s n past old new other run calm t i at kind is queued = absurd calm

-- commands that are issued in another slot
other_slot : (s slot : ℕ) → s ≢ slot → has_bit (2 ^ slot) s ≡ false
other_slot s slot ne = ap (λ (n : ℕ). n == 1) (bit_at-pow_other slot s ne)

placed_left : (s n slot : ℕ) (past : History) (old new : Port) (o : Option Fetched) → s ≢ slot → (run : RunsBy old (match_some o [] (λ f. core.Placed (device_of f) (2 ^ slot) (offer_in (offered_command f)) no_tables ∷ [])) new)
    → IsLeft s n past old new (match_some o [] (λ f. core.Placed (device_of f) (2 ^ slot) (offer_in (offered_command f)) no_tables ∷ [])) run
placed_left s n slot past old new None ne run = record { plain = tt; freed = refl }
placed_left s n slot past old new (Some f) ne run = by (device_of f == n)
  where
    asked : ℕ → Option Command
    asked = asked_by (offer_in (offered_command f)) (2 ^ slot)

    none : asked s ≡ None
    none = ap (λ (b : Bool). if b then (offer_in (offered_command f)).commands s else None) (other_slot s slot ne)

    if_plain : (b : Bool) → NoIssue s ((if b then told_issued asked no_tables 32 else []) ++ [])
    if_plain true = no_issue_both s (told_issued asked no_tables 32) [] (issues_plain s asked no_tables 32 none) tt
    if_plain false = tt

    if_keeps : (b : Bool) → is_freed_in s ((if b then told_issued asked no_tables 32 else []) ++ []) past ≡ false
    if_keeps true = ap (λ (l : History). is_freed_in s l past) (append-nil (told_issued asked no_tables 32)) ∙ issues_keep s asked no_tables 32 past
    if_keeps false = refl

    by : (b : Bool) → IsLeft s n past old new (core.Placed (device_of f) (2 ^ slot) (offer_in (offered_command f)) no_tables ∷ []) run
    by b = record { plain = if_plain (device_of f == n); freed = if_keeps (device_of f == n) }

supply_left : (supply : Supply) (s n slot : ℕ) (past : History) (old : Port) (new : ControllerState) → ((dev : ℕ) → supply ≡ supply_answer.Issued dev → s ≢ slot) → (run : RunsBy old (of_supply supply slot new) new.core) → IsLeft s n past old new.core (of_supply supply slot new) run
supply_left (supply_answer.Issued dev) s n slot past old new other run = placed_left s n slot past old new.core (kept new slot) (other dev refl) run
supply_left rest s n slot past old new other run = record { plain = tt; freed = refl }

-- a slot that is read has nothing issued in it
read_free : (s slot number : ℕ) (fit : Bool) (bytes : List ℕ) (old new : ControllerState) (dev : ℕ) (i : Issue) → fits old slot number bytes ≡ fit → IsController old → issue_at old.core.slots s ≡ Some i → SuppliesIf fit old slot bytes (supply_answer.Issued dev) new → s ≢ slot
read_free s slot number false bytes old new dev i is k at h same = never h.1
  where
    never : supply_answer.Issued dev ≡ supply_answer.Stale → ⊥
    never e = cc
read_free s slot number true bytes old new dev i is k at h same =
    let asked = (and_parts (is_asked old.wants slot number) (length bytes == (want_at old slot).len) is).0 in
    let first = and_parts (nat_lt slot 32 && has_bit old.wants.out slot) _ asked in
    let both = and_parts (nat_lt slot 32) (has_bit old.wants.out slot) first.0 in
    there (has_bit old.wants.pending slot) refl both.1 (ltb-true slot 32 both.0)
  where
    some : None ≡ Some i → ⊥
    some e = cc

    there : (b : Bool) → has_bit old.wants.pending slot ≡ b → has_bit old.wants.out slot ≡ true → slot < 32 → ⊥
    there false none out below = false≢true (sym (k.rules.unread slot below none).out ∙ out)
    there true here out below = some (sym (k.rules.free slot below here) ∙ ap (issue_at old.core.slots) (sym same) ∙ at)

-- ---- a FIS

fis_freed : (s : ℕ) (e : history.Event) (past : History) → is_freed_in s (e ∷ []) past ≡ true → frees s e past ≡ true
fis_freed s e past h = by (frees s e past) h
  where
    by : (b : Bool) → (b || false) ≡ true → b ≡ true
    by true g = refl
    by false g = absurd (false≢true g)

named_by : (s : ℕ) (past : ℕ → History) (c : ControllerState) (frame : List ℕ) (i : Issue) (t : Transfer) (here : Bool) (o : Option history.Event) → issue_at c.core.slots s ≡ Some i → is_queued i.work.kind ≡ true → issued s (past i.dev) ≡ Some t → t.work ≡ i.work
    → (port_of frame == i.dev) ≡ here → event_by c.core (room_for c (port_of frame)) frame ≡ o → is_freed_in s ((if here then match_some o [] (λ e. e ∷ []) else []) ++ []) (past i.dev) ≡ true → IsNamed s past c frame
named_by s past c frame i t false o at kind is work own heard freed = absurd (false≢true freed)
named_by s past c frame i t true None at kind is work own heard freed = absurd (false≢true freed)
named_by s past c frame i t true (Some e) at kind is work own heard freed =
    let fis : IsOfFis e × NotIssue s e = subst (λ (x : Option history.Event). IfSome x (λ f. IsOfFis f × NotIssue s f)) heard (frame_event s c.core (room_for c (port_of frame)) frame) in
    let queued : is_queued t.work.kind ≡ true = ap (λ (w : Work). is_queued w.kind) work ∙ kind in
    let names : Names s e (past i.dev) t.work.len = frees_named s e (past i.dev) t fis.0 is queued (fis_freed s e (past i.dev) freed) in
    record {
      issue = i;
      is = at;
      queued = kind;
      own = sym (eqb-true (port_of frame) i.dev own);
      mask = names.mask;
      heard = heard ∙ ap Some names.is;
      names = names.names;
      moved = subst (λ (w : Work). history.is_all_filled (history.filled s (past i.dev)) w.len ≡ true) work names.moved;
    }

-- ---- all calls

queued_falls : CoreViewsAreTold → (s : ℕ) (past : ℕ → History) (old new : ControllerState) (e : Event) (does : Does old e new) (are : AreCoreEvents old.core (of_event old e new does) new.core) → IsController old → AreTold old.core past → s < 32 → IsHidden new.core s
    → (i : Issue) → issue_at old.core.slots s ≡ Some i → is_queued i.work.kind ≡ true → ActiveFalls s past old e new does are.run
queued_falls agrees s past old new (event.Wrote offset value written) does are k told below hidden i at queued =
    inl (is_freed_record agrees s past old new (event.Wrote offset value written) does are k told below hidden i at queued (plain_through s i.dev [] old.core new.core (of_write old offset value) are.run (write_plain old offset value) tt))
queued_falls agrees s past old new (event.WroteWide offset width value written) does are k told below hidden i at queued =
    inl (is_freed_record agrees s past old new (event.WroteWide offset width value written) does are k told below hidden i at queued
    (plain_through s i.dev [] old.core new.core (of_wide (fits_width width offset) old offset width value written new does) are.run (wide_plain (fits_width width offset) old offset width value written new does) tt))
queued_falls agrees s past old new (event.Supplied slot number bytes supply) does are k told below hidden i at queued =
    let left = supply_left supply s i.dev slot (past i.dev) old.core new (λ dev is. read_free s slot number (fits old slot number bytes) bytes old new dev i refl k at (subst (λ (x : Supply). SuppliesIf (fits old slot number bytes) old slot bytes x new) is does)) are.run in
    absurd (not_kept agrees s past old new (event.Supplied slot number bytes supply) does are k told below hidden i at queued left.plain left.freed)
queued_falls agrees s past old new (event.Missed slot number supply) does are k told below hidden i at queued =
    absurd (not_kept agrees s past old new (event.Missed slot number supply) does are k told below hidden i at queued tt refl)
queued_falls agrees s past old new (event.Took frame took) does are k told below hidden i at queued =
    took_falls old.core.registers.started refl
  where
    run_is : (started : Bool) → RunsBy old.core (of_frame started old frame took.report ∷ []) new.core → Type 0
    run_is started run = is_freed_in s (history_through i.dev [] old.core new.core (of_frame started old frame took.report ∷ []) run) (past i.dev) ≡ true

    plain_frame : (started : Bool) (run : RunsBy old.core (of_frame started old frame took.report ∷ []) new.core) → NoIssue s (history_through i.dev [] old.core new.core (of_frame started old frame took.report ∷ []) run)
    plain_frame true run = plain_through s i.dev [] old.core new.core (of_frame true old frame took.report ∷ []) run (tt, tt) tt
    plain_frame false run = plain_through s i.dev [] old.core new.core (of_frame false old frame took.report ∷ []) run (tt, tt) tt

    freed : run_is old.core.registers.started are.run
    freed = is_freed agrees s past old new (event.Took frame took) does are k told below hidden i at queued (plain_frame old.core.registers.started are.run)

    t : (x : Transfer) × ((issued s (past i.dev) ≡ Some x) × (x.work ≡ i.work))
    t = the_transfer agrees s past old new (event.Took frame took) does are k told below hidden i at queued

    by_frame : (started : Bool) (run : RunsBy old.core (of_frame started old frame took.report ∷ []) new.core) → run_is started run → IsNamed s past old frame
    by_frame true run f = named_by s past old frame i t.0 (port_of frame == i.dev) (event_by old.core (room_for old (port_of frame)) frame) at queued t.1.0 t.1.1 refl refl f
    by_frame false run f = absurd (false≢true f)

    took_falls : (started : Bool) → old.core.registers.started ≡ started → IsNamed s past old frame
    took_falls started is = by_frame old.core.registers.started are.run freed
queued_falls agrees s past old new (event.Left frame why) does are k told below hidden i at queued =
    absurd (not_kept agrees s past old new (event.Left frame why) does are k told below hidden i at queued tt refl)
queued_falls agrees s past old new (event.Turned next) does are k told below hidden i at queued =
    let t = the_transfer agrees s past old new (event.Turned next) does are k told below hidden i at queued in
    let left = calm_left s i.dev (past i.dev) old.core new.core (of_turned next old) are.run (turned_calm next old) t.0 i at queued t.1.0 (ap (λ (w : Work). is_queued w.kind) t.1.1 ∙ queued) in
    absurd (not_kept agrees s past old new (event.Turned next) does are k told below hidden i at queued left.plain left.freed)
queued_falls agrees s past old new (event.Said write) does are k told below hidden i at queued =
    absurd (not_kept agrees s past old new (event.Said write) does are k told below hidden i at queued tt refl)
queued_falls agrees s past old new (event.Gathered dev number frame fed) does are k told below hidden i at queued =
    let t = the_transfer agrees s past old new (event.Gathered dev number frame fed) does are k told below hidden i at queued in
    let left = calm_left s i.dev (past i.dev) old.core new.core (of_fed fed old dev frame) are.run (fed_calm fed old dev frame) t.0 i at queued t.1.0 (ap (λ (w : Work). is_queued w.kind) t.1.1 ∙ queued) in
    absurd (not_kept agrees s past old new (event.Gathered dev number frame fed) does are k told below hidden i at queued left.plain left.freed)
queued_falls agrees s past old new (event.NotThere dev number fed) does are k told below hidden i at queued =
    absurd (not_kept agrees s past old new (event.NotThere dev number fed) does are k told below hidden i at queued tt refl)

armed_falls : (s : ℕ) (past : ℕ → History) (old new : ControllerState) (e : Event) (does : Does old e new) (are : AreCoreEvents old.core (of_event old e new does) new.core) → s < 32 → IsHidden new.core s → has_bit old.core.registers.armed s ≡ true → ActiveFalls s past old e new does are.run
armed_falls s past old new (event.Wrote offset value written) does are below hidden here = by (write_armed offset value s old new written does here)
  where
    by : Goes s new.core → ActiveFalls s past old (event.Wrote offset value written) new does are.run
    by (On now) = absurd (false≢true (sym hidden.armed ∙ now))
    by (Stopped now) = inr now
armed_falls s past old new (event.WroteWide offset width value written) does are below hidden here = elim (wide_armed (fits_width width offset) offset width value s old new written does here) [
  | inl now ↦ absurd (false≢true (sym hidden.armed ∙ now))
  | inr stopped ↦ inr stopped
]
armed_falls s past old new (event.Supplied slot number bytes supply) does are below hidden here = absurd (not_gone new.core s hidden (supplies_armed (fits old slot number bytes) slot s bytes old new supply below does here))
armed_falls s past old new (event.Missed slot number supply) does are below hidden here = absurd (not_gone new.core s hidden (same_core s old.core new.core (misses_core (is_asked old.wants slot number) slot old new supply does) here))
armed_falls s past old new (event.Took frame took) does are below hidden here =
    absurd (not_gone new.core s hidden (hears_armed old.core.registers.started (ignores (port_of frame) old.core frame) s old frame took.report new.core refl does.hears.core here))
armed_falls s past old new (event.Turned next) does are below hidden here = absurd (not_gone new.core s hidden (next_armed (next_write old) s old new next does here))
armed_falls s past old new (event.Gathered dev number frame fed) does are below hidden here = absurd (not_gone new.core s hidden (gathers_armed (is_fed old.wants dev number) dev s old new fed does.1 here))
armed_falls s past old new (event.NotThere dev number fed) does are below hidden here = absurd (not_gone new.core s hidden (same_core s old.core new.core (misses_data (is_fed old.wants dev number) dev old new fed does) here))
armed_falls s past old new other does are below hidden here = absurd (not_gone new.core s hidden (same_core s old.core new.core (ap (λ (c : ControllerState). c.core) does.1) here))

pub active_bits_fall : CoreViewsAreTold → ActiveBitsFall
active_bits_fall agrees old new e k k_new does are past told s below shows hides = elim (is_there old s below shows) [
  | inl armed ↦ armed_falls s past old new e does are below (is_hidden new s below hides) armed
  | inr queued ↦
      let i = held is_queued_issue (issue_at old.core.slots s) queued in
      queued_falls agrees s past old new e does are k told below (is_hidden new s below hides) i.0 i.1 i.2
]
