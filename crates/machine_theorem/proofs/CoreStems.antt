-- What is issued in a slot was issued there before a call of the controller, unless the call issues it; and once its command was sent it stays so.
use Rattle.std.proofs.Common.{◌≡◌, ℕ, ◌+◌, ◌<◌, ◌^◌, ◌&&◌, Bool, true, false, List, [], ◌∷◌, ◌++◌, refl, sym, ap, subst, ◌∙◌, inl, inr, arith, Option}
use Rattle.std.proofs.{Common.{Some, None}, lemmas.{Bool.{cases_eq, eq-eqb, true≢false}, List.{get_or-replicate}, Nat.Bits.{bit_at-pow_other}}}
use Rattle.std.specs.Prelude.{◌==◌, ◌%◌, MatchOption, if◌then◌else◌}
use Rattle.guest_fetch.specs.Commands.{Fetched}
use Rattle.slots.specs.{Slots.{Issue, has_bit, issue_at, match_some, own_issue, slots_of}, Table.{IsIssue, IsTable}}
use Rattle.ahci_registers.specs.Bits as line_bits
use Rattle.ahci_registers.specs.{Offsets.register_at, declared.{link.Effect.Effect, register.Register.Register}}
use Rattle.ahci_registers.specs.declared.link.Effect.TheVariants as effect
use Rattle.ahci_registers.specs.declared.register.Register.TheVariants as ahci
use Rattle.hba_fbs.specs.{Choosing.Chooses, Deciding.decided, Greeting.Greets, Offering.{Offer, asked_by, view_by}, Registers.falls}
use Rattle.hba_fbs.specs.{Stopping.fallen_view, Taking.{admitted, ignores, port_of}, Views.{DeviceView, LeavesOtherViews, Port, stopped_view}}
use Rattle.hba_fbs.specs.{Views.view_of, Writing.{cleared_by, is_device}, declared.{error.WriteError.WriteError, report.TakeReport.TakeReport}}
use Rattle.hba_fbs.specs.declared.turn.Turn.{Turn, TheVariants.{Feeds, Orders, Rests}}
use Rattle.hba_fbs.specs.declared.register.Register as port_register
use Rattle.hba_fbs.specs.declared.register.Register.TheVariants as on_port
use Rattle.fis_view.specs.Seen.{seen}
use Rattle.hba_laws.specs.Cores as core
use Rattle.hba_laws.specs.Cores.{AreCores, CoreEvent, DoesBy, IsCore, RunsBy}
use Rattle.hba_laws.proofs.Door.{own_here, own_in}
use Rattle.ahci_controller.specs.{Access.{fits, high_of, low_of, merged, ones_of, spread_of}, Issuing.{device_of, offered_command}, Next.is_halted}
use Rattle.ahci_controller.specs.{Next.{next_write, written}, Offers.{offer_in, offers_nothing}, Reading.shown, States.{ControllerState, kept}}
use Rattle.ahci_controller.specs.{Wide.{WritesFitting, block_of}, Writing.{clears_busy, link_effect, told_refusal}, declared.access.Width.Width}
use Rattle.ahci_controller.specs.declared.{feeding.Fed.Fed, issuing.Supply.Supply, next.Next.Next, wide.WideWritten.WideWritten}
use Rattle.ahci_controller.specs.declared.feeding.Fed.TheVariants as fed_answer
use Rattle.ahci_controller.specs.declared.issuing.Supply.TheVariants as supply_answer
use Rattle.ahci_controller.specs.declared.next.Next.TheVariants as next_step
use Rattle.controller_laws.specs.CoreEvents.{AreCoreEvents, commanded_by, no_tables, of_event, of_fed, of_frame, of_next, of_part, of_register}
use Rattle.controller_laws.specs.{CoreEvents.{of_supply, of_turn, of_wide, overridden_by, relinked_by, reset_by, told}, Events.{Does, Event}}
use Rattle.controller_laws.specs.Events as call
use Rattle.machine_theorem.specs.Commands.{is_issue, issues_in}
use Rattle.machine_theorem.proofs.Stems.{Stem, Stems, fed_own, moved_own, none_own, none_stems, placed_own, same_stems, sent_own, stems_then}

-- ---- the port

abbrev SlotStems : ℕ → Port → Port → Type 0
SlotStems s old new = Stems (issue_at old.slots s) (issue_at new.slots s)

abbrev ViewStems : ℕ → DeviceView → DeviceView → Type 0
ViewStems s old new = Stems (own_issue old.slots s) (own_issue new.slots s)

by_views : (s : ℕ) (old new : Port) → s < 32 → IsTable new.slots → ((n : ℕ) → n < 16 → ViewStems s (view_of n old) (view_of n new)) → SlotStems s old new
by_views s old new below ok views j e =
    let issue : IsIssue j = subst (λ (o : Option Issue). MatchOption o (Unit {0}) IsIssue) e (ok.issues s) in
    let mine : own_issue (slots_of j.dev new.slots) s ≡ Some j = own_here s new.slots j (let n = ok.slots in omega (arith, n, below)) e in
    let stem : Stem (own_issue (view_of j.dev old).slots s) j = views j.dev issue.dev_below j mine in
    record { issue = stem.issue; was = (own_in j.dev s old.slots stem.issue stem.was).1; dev = stem.dev; work = stem.work; sent = stem.sent }

by_one : (s dev : ℕ) (old new : Port) (view : DeviceView) → s < 32 → IsTable new.slots → view_of dev new ≡ view → LeavesOtherViews dev old new
    → ViewStems s (view_of dev old) view → SlotStems s old new
by_one s dev old new view below ok own others stems = by_views s old new below ok (λ n low. elim (cases_eq n dev) [
  | inl same ↦ subst (λ (k : ℕ). ViewStems s (view_of k old) (view_of k new)) (sym same) (subst (λ (v : DeviceView). ViewStems s (view_of dev old) v) (sym own) stems)
  | inr apart ↦ subst (λ (v : DeviceView). ViewStems s (view_of n old) v) (sym (others n apart)) (same_stems (own_issue (view_of n old).slots s))
])

by_port : (s : ℕ) (old new : Port) → new ≡ old → SlotStems s old new
by_port s old new is = subst (λ (p : Port). SlotStems s old p) (sym is) (same_stems (issue_at old.slots s))

by_slots : (s : ℕ) (old new : Port) → new.slots ≡ old.slots → SlotStems s old new
by_slots s old new is j e = same_stems (issue_at old.slots s) j (ap (λ t. issue_at t s) (sym is) ∙ e)

-- ---- events of the core

-- the registers of the core that a controller writes
abbrev pub IsWritten : port_register.Register → Type 0
IsWritten on_port.Is = Unit {0}
IsWritten on_port.Serr = Unit {0}
IsWritten on_port.Sact = Unit {0}
IsWritten on_port.Sntf = Unit {0}
IsWritten on_port.Fbs = Unit {0}
IsWritten other = ⊥

-- an event of a controller's core, by which nothing is issued in the slot
abbrev pub PlacesNone : ℕ → CoreEvent → Type 0
PlacesNone s (core.Took frame room report) = Unit {0}
PlacesNone s (core.Wrote register value offer tables) = IsWritten register
PlacesNone s (core.Flushed dev) = ⊥
PlacesNone s (core.Gave bytes) = ⊥
PlacesNone s core.Failed = ⊥
PlacesNone s (core.Placed dev slots offer tables) = has_bit slots s ≡ false
PlacesNone s (core.Chose turn bytes) = Unit {0}
PlacesNone s (core.Greeted frame report) = Unit {0}
PlacesNone s (core.Commanded value) = Unit {0}
PlacesNone s (core.Overrode dev) = Unit {0}
PlacesNone s (core.Hung dev line) = Unit {0}
PlacesNone s core.Relinked = Unit {0}
PlacesNone s core.Restarted = Unit {0}

abbrev pub PlaceNone : ℕ → List CoreEvent → Type 0
PlaceNone s [] = Unit {0}
PlaceNone s (e ∷ later) = PlacesNone s e × PlaceNone s later

took : (s : ℕ) (old new : Port) (frame : List ℕ) (room : _) (report : TakeReport) (b : Bool) → s < 32 → IsTable new.slots → ignores (port_of frame) old frame ≡ b
    → core.Hearkens old frame room report new → SlotStems s old new
took s old new frame room report true below ok is h = by_port s old new (h.ignored is).port
took s old new frame room report false below ok is h =
    let dev : ℕ = port_of frame in
    let heard = h.heard is in
    by_one s dev old new _ below ok heard.own heard.others (moved_own (decided dev (view_of dev old) room (admitted dev (seen frame))).happening (view_of dev old).slots s)

is_view : (p : Port) (offer : Offer) (value n : ℕ) → view_by on_port.Is p offer value n ≡ view_of n p
unfolding view_by
is_view p offer value n = refl

serr_view : (p : Port) (offer : Offer) (value n : ℕ) → view_by on_port.Serr p offer value n ≡ view_of n p
unfolding view_by
serr_view p offer value n = refl

sact_view : (p : Port) (offer : Offer) (value n : ℕ) → view_by on_port.Sact p offer value n ≡ view_of n p
unfolding view_by
sact_view p offer value n = refl

sntf_view : (p : Port) (offer : Offer) (value n : ℕ) → view_by on_port.Sntf p offer value n ≡ view_of n p
unfolding view_by
sntf_view p offer value n = refl

if_stopped : (s : ℕ) (b : Bool) (view stopped : DeviceView) → ViewStems s view stopped → ViewStems s view (if b then stopped else view)
if_stopped s true view stopped stems = stems
if_stopped s false view stopped stems = same_stems (own_issue view.slots s)

fbs_view : (s : ℕ) (p : Port) (offer : Offer) (value n : ℕ) → ViewStems s (view_of n p) (view_by on_port.Fbs p offer value n)
unfolding view_by
fbs_view s p offer value n = if_stopped s (is_device n (cleared_by p.errors value)) (view_of n p) (stopped_view (view_of n p)) (none_own (view_of n p).slots s)

same_view : (s : ℕ) (view other : DeviceView) → other ≡ view → ViewStems s view other
same_view s view other is = subst (λ (v : DeviceView). ViewStems s view v) (sym is) (same_stems (own_issue view.slots s))

written_view : (r : port_register.Register) (s : ℕ) (p : Port) (offer : Offer) (value n : ℕ) → IsWritten r → ViewStems s (view_of n p) (view_by r p offer value n)
written_view on_port.Is s p offer value n is = same_view s (view_of n p) _ (is_view p offer value n)
written_view on_port.Serr s p offer value n is = same_view s (view_of n p) _ (serr_view p offer value n)
written_view on_port.Sact s p offer value n is = same_view s (view_of n p) _ (sact_view p offer value n)
written_view on_port.Sntf s p offer value n is = same_view s (view_of n p) _ (sntf_view p offer value n)
written_view on_port.Fbs s p offer value n is = fbs_view s p offer value n
written_view other s p offer value n is = absurd is

chose : (s : ℕ) (turn : Turn) (old new : Port) → s < 32 → IsTable new.slots → Chooses turn old new → SlotStems s old new
chose s Rests old new below ok h = by_port s old new h
chose s (Feeds dev slot offset len) old new below ok h = by_one s dev old new _ below ok h.own h.others (fed_own (view_of dev old).slots s)
chose s (Orders dev slot command) old new below ok h = by_one s dev old new _ below ok h.own h.others (sent_own (view_of dev old).slots slot s)

greeted : (s dev : ℕ) (old new : Port) (o : Option (List ℕ)) (report : TakeReport) → Greets old dev o report new → SlotStems s old new
greeted s dev old new None report h = by_port s old new h.port
greeted s dev old new (Some f) report h = by_slots s old new h.slots

empty : (s : ℕ) (old new : Port) → s < 32 → issue_at new.slots s ≡ None → SlotStems s old new
empty s old new below none = none_stems (issue_at old.slots s) (issue_at new.slots s) none

abbrev no_issue : Option Issue
no_issue = None

pub event_stems : (e : CoreEvent) (s : ℕ) (old new : Port) → s < 32 → IsTable new.slots → DoesBy old e new → PlacesNone s e → SlotStems s old new
event_stems (core.Took frame room report) s old new below ok h none = took s old new frame room report (ignores (port_of frame) old frame) below ok refl h
event_stems (core.Wrote register value offer tables) s old new below ok h none =
    by_views s old new below ok (λ n low. subst (λ (v : DeviceView). ViewStems s (view_of n old) v) (sym (h.1.views n low)) (written_view register s old offer value n none))
event_stems (core.Flushed dev) s old new below ok h none = absurd none
event_stems (core.Gave bytes) s old new below ok h none = absurd none
event_stems core.Failed s old new below ok h none = absurd none
event_stems (core.Placed dev slots offer tables) s old new below ok h none =
    by_one s dev old new _ below ok h.2.own h.2.others
    (placed_own dev (asked_by offer slots) (view_of dev old).slots s (ap (λ (b : Bool). if b then offer.commands s else None) none))
event_stems (core.Chose turn bytes) s old new below ok h none = chose s turn old new below ok h.1
event_stems (core.Greeted frame report) s old new below ok h none = greeted s (port_of frame) old new _ report h.1
event_stems (core.Commanded value) s old new below ok h none =
    by_views s old new below ok (λ n low. subst (λ (v : DeviceView). ViewStems s (view_of n old) v) (sym (h.1.views n low))
    (if_stopped s (falls old.registers value) (view_of n old) (fallen_view (view_of n old)) (none_own (view_of n old).slots s)))
event_stems (core.Overrode dev) s old new below ok h none = by_slots s old new h.slots
event_stems (core.Hung dev line) s old new below ok h none = by_one s dev old new _ below ok h.own h.others (none_own (view_of dev old).slots s)
event_stems core.Relinked s old new below ok h none = empty s old new below (ap (λ (p : Port). issue_at p.slots s) h ∙ get_or-replicate 32 s no_issue None below)
event_stems core.Restarted s old new below ok h none = empty s old new below (ap (λ (p : Port). issue_at p.slots s) h ∙ get_or-replicate 32 s no_issue None below)

first_core : (events : List CoreEvent) (old new : Port) (run : RunsBy old events new) → AreCores old new events run → IsCore old
first_core [] old new run are = are
first_core (e ∷ events) old new run are = are.0

run_stems : (events : List CoreEvent) (s : ℕ) (old new : Port) (run : RunsBy old events new) → s < 32 → AreCores old new events run → PlaceNone s events → SlotStems s old new
run_stems [] s old new run below are none = by_port s old new run
run_stems (e ∷ events) s old new run below are none =
    let next : Port = run.0 in
    stems_then (issue_at old.slots s) (issue_at next.slots s) (issue_at new.slots s)
    (event_stems e s old next below (first_core events next new run.2 are.1).slots run.1 none.0)
    (run_stems events s next new run.2 below are.1 none.1)

-- ---- calls of a controller

both_none : (s : ℕ) (xs ys : List CoreEvent) → PlaceNone s xs → PlaceNone s ys → PlaceNone s (xs ++ ys)
both_none s [] ys a b = b
both_none s (x ∷ xs) ys a b = (a.0, both_none s xs ys a.1 b)

told_none : (s : ℕ) (o : Option WriteError) (r : port_register.Register) (value : ℕ) → IsWritten r
    → PlaceNone s (match_some o (core.Wrote r value (offer_in offers_nothing) no_tables ∷ []) (λ e. []))
told_none s None r value is = (is, tt)
told_none s (Some e) r value is = tt

reset_none : (s : ℕ) (b : Bool) → PlaceNone s (reset_by b)
reset_none s true = (tt, (tt, tt))
reset_none s false = tt

relinked_none : (s : ℕ) (e : Effect) (c : ControllerState) (value : ℕ) → PlaceNone s (relinked_by e c value)
relinked_none s effect.Nothing c value = tt
relinked_none s effect.LinkReset c value = (tt, (tt, tt))
relinked_none s effect.LinkUp c value = tt

overridden_none : (s : ℕ) (b : Bool) (p : Port) → PlaceNone s (overridden_by b p)
overridden_none s true p = (tt, tt)
overridden_none s false p = tt

commanded_none : (s : ℕ) (o : Option WriteError) (value : ℕ) → PlaceNone s (match_some o (core.Commanded value ∷ []) (λ e. []))
commanded_none s None value = (tt, tt)
commanded_none s (Some e) value = tt

register_none : (s : ℕ) (r : Register) (c : ControllerState) (value : ℕ) → PlaceNone s (of_register r c value)
register_none s ahci.Ghc c value = reset_none s (line_bits.has_bit value 0)
register_none s ahci.PxIs c value = told_none s (told_refusal c on_port.Is _) on_port.Is _ tt
register_none s ahci.PxCmd c value = both_none s (overridden_by (clears_busy c value) c.core) (commanded_by c value) (overridden_none s (clears_busy c value) c.core) (commanded_none s _ _)
register_none s ahci.PxSctl c value = relinked_none s (link_effect c value) c value
register_none s ahci.PxSerr c value = told_none s (told_refusal c on_port.Serr _) on_port.Serr _ tt
register_none s ahci.PxSact c value = told_none s (told_refusal c on_port.Sact _) on_port.Sact _ tt
register_none s ahci.PxSntf c value = told_none s (told_refusal c on_port.Sntf _) on_port.Sntf _ tt
register_none s ahci.PxFbs c value = told_none s (told_refusal c on_port.Fbs _) on_port.Fbs _ tt
register_none s other c value = tt

write_none : (s : ℕ) (o : Option Register) (value : Register → ℕ) (c : ControllerState) → PlaceNone s (match_some o [] (λ r. of_register r c (value r)))
write_none s None value c = tt
write_none s (Some r) value c = register_none s r c (value r)

if_written : (s : ℕ) (b : Bool) (o : Option Register) (value : Register → ℕ) (c : ControllerState) → PlaceNone s (if b then [] else match_some o [] (λ r. of_register r c (value r)))
if_written s true o value c = tt
if_written s false o value c = write_none s o value c

part_none : (s : ℕ) (c : ControllerState) (offset value mask : ℕ) → PlaceNone s (of_part c offset value mask)
part_none s c offset value mask = if_written s (mask == 0) (register_at offset) (λ r. merged r (shown r c) value mask) c

wide_none : (s : ℕ) (b : Bool) (old : ControllerState) (offset : ℕ) (width : Width) (value : ℕ) (result : WideWritten) (new : ControllerState)
    (h : WritesFitting b old offset width value result new) → PlaceNone s (of_wide b old offset width value result new h)
wide_none s true old offset width value result new h =
    let low : ℕ = low_of (spread_of (offset % 8) value) in
    let high : ℕ = high_of (spread_of (offset % 8) value) in
    let low_mask : ℕ = low_of (spread_of (offset % 8) (ones_of width)) in
    let high_mask : ℕ = high_of (spread_of (offset % 8) (ones_of width)) in
    both_none s (of_part old (block_of offset) low low_mask) (of_part h.middle (block_of offset + 4) high high_mask) (part_none s old (block_of offset) low low_mask)
    (part_none s h.middle (block_of offset + 4) high high_mask)
wide_none s false old offset width value result new h = tt

placed_none : (s slot : ℕ) (o : Option Fetched) → (s ≡ slot → ⊥) → PlaceNone s (match_some o [] (λ command. core.Placed (device_of command) (2 ^ slot) (offer_in (offered_command command)) no_tables ∷ []))
placed_none s slot None apart = tt
placed_none s slot (Some command) apart = (ap (λ (n : ℕ). n == 1) (bit_at-pow_other slot s apart), tt)

other_slot : (s slot : ℕ) → (slot == s) ≡ false → s ≡ slot → ⊥
other_slot s slot clear same = true≢false (sym (eq-eqb slot s (sym same)) ∙ clear)

and_true : (b : Bool) → (b && true) ≡ false → b ≡ false
and_true true e = e
and_true false e = refl

pub supply_none : (s slot : ℕ) (told : Supply) (new : ControllerState) → ((slot == s) && is_issue told) ≡ false → PlaceNone s (of_supply told slot new)
supply_none s slot (supply_answer.Issued dev) new clear = placed_none s slot (kept new slot) (other_slot s slot (and_true (slot == s) clear))
supply_none s slot supply_answer.More new clear = tt
supply_none s slot (supply_answer.NotTaken reason message line) new clear = tt
supply_none s slot supply_answer.OutOfMemory new clear = tt
supply_none s slot supply_answer.Stale new clear = tt

frame_none : (s : ℕ) (b : Bool) (old : ControllerState) (frame : List ℕ) (report : TakeReport) → PlacesNone s (of_frame b old frame report)
frame_none s true old frame report = tt
frame_none s false old frame report = tt

next_none : (s : ℕ) (next : Next) (old : ControllerState) → PlaceNone s (of_next next old)
next_none s (next_step.Order dev slot fis) old = (tt, tt)
next_none s other old = tt

turn_none : (s : ℕ) (halted started : Bool) (next : Next) (old : ControllerState) → PlaceNone s (of_turn halted started next old)
turn_none s true started next old = next_none s next old
turn_none s false true next old = next_none s next old
turn_none s false false next old = commanded_none s _ _

turned_none : (s : ℕ) (o : Option Next) (next : Next) (old : ControllerState)
    → PlaceNone s (match_some o (of_turn (is_halted (written old)) old.core.registers.started next old) (λ write. of_next next old))
turned_none s None next old = turn_none s (is_halted (written old)) old.core.registers.started next old
turned_none s (Some write) next old = next_none s next old

fed_none : (s : ℕ) (fed : Fed) (old : ControllerState) (dev : ℕ) (frame : List ℕ) → PlaceNone s (of_fed fed old dev frame)
fed_none s (fed_answer.Goes message line) old dev frame = (tt, tt)
fed_none s other old dev frame = tt

pub call_none : (e : Event) (s : ℕ) (old new : ControllerState) (does : Does old e new) → issues_in s e ≡ false → PlaceNone s (of_event old e new does)
call_none (call.Wrote offset value written) s old new does clear = write_none s (register_at offset) (λ r. value) old
call_none (call.WroteWide offset width value written) s old new does clear = wide_none s (fits width offset) old offset width value written new does
call_none (call.Supplied slot number bytes told) s old new does clear = supply_none s slot told new clear
call_none (call.Missed slot number told) s old new does clear = tt
call_none (call.Took frame took) s old new does clear = (frame_none s old.core.registers.started old frame took.report, tt)
call_none (call.Left frame why) s old new does clear = tt
call_none (call.Turned next) s old new does clear = turned_none s (next_write old) next old
call_none (call.Said write) s old new does clear = tt
call_none (call.Gathered dev number frame fed) s old new does clear = fed_none s fed old dev frame
call_none (call.NotThere dev number fed) s old new does clear = tt

pub call_stems : (e : Event) (s : ℕ) (old new : ControllerState) (does : Does old e new) → s < 32 → AreCoreEvents old.core (of_event old e new does) new.core → issues_in s e ≡ false
    → Stems (issue_at old.core.slots s) (issue_at new.core.slots s)
call_stems e s old new does below are clear = run_stems (of_event old e new does) s old.core new.core are.run below are.sound.cores (call_none e s old new does clear)
