-- The rules of a controller stay true as frames are taken, and as it is asked what is next to do.
use Rattle.std.proofs.Common.{◌≡◌, ◌≢◌, ℕ, ◌+◌, ◌-◌, ◌<◌, ◌≤◌, ◌^◌, ◌%◌, ◌&&◌, min, Bool, true, false, List, get_or, set, length, refl, sym, ap}
use Rattle.std.proofs.{Common.{subst, ◌∙◌, inl, inr, Option, Some, None, arith, get_or-set_same}, lemmas.Bool.{and_parts, cases_Bool, false≢true}}
use Rattle.std.proofs.lemmas.Bool.{ltb-true, true≢false}
use Rattle.std.specs.{Prelude.{IfSome, MatchOption, is_some, nat_lt, ◌==◌, if◌then◌else◌}, Option.option_map}
use Rattle.slots.specs.{Slots.{KeepsFree, Slots, has_bit, issue_at, lowest_below, match_some}, Table.IsTable}
use Rattle.slots.proofs.Door.{lowest_is}
use Rattle.fis_view.specs.Seen.{seen}
use Rattle.guest_fetch.specs.{Commands.Fetched, declared.{moves.Move.Move, command.ByteCount.ByteCount}}
use Rattle.hba_commands.specs.declared.command.Command.{Command}
use Rattle.hba_fbs.specs.{Bits.without, Choosing.{Chooses, may_feed}, Deciding.{Decides, Passes}, Greeting.{Greets, greeted_in}, Taking.admitted}
use Rattle.hba_fbs.specs.{Taking.{ignores, port_of}, Turning.orders, Views.{HaveCommands, IsCorePort, Port, last_command, view_of}}
use Rattle.hba_fbs.specs.declared.{registers.Registers.Registers, report.{TakeReport.TakeReport, Wrote.Wrote}, turn.Turn.{Turn, TheVariants.Feeds}}
use Rattle.hba_fbs.specs.declared.turn.Turn.TheVariants.{Orders, Rests}
use Rattle.ahci_controller.specs.{Circle.{first_behind, is_behind}, Feeding.{Gathers, GathersIf, Loses, LosesIf, MissesData, MissesIf, SendsIf}}
use Rattle.ahci_controller.specs.{Feeding.{sent_to, without_feeding}, Fetching.asked as asked_of, Next.{FeedsTo, Frames, FramesFor, GoesIf}}
use Rattle.ahci_controller.specs.Next.{OrdersSlot, Reads, RestsNow, StartsUp, Turns, TurnsIf, after_count, after_rest, counted_slot, is_fed}
use Rattle.ahci_controller.specs.Next.{is_halted, left, next_device, next_read, next_slot, next_write, payload_step, rest, run_of, step_of, step_with}
use Rattle.ahci_controller.specs.{Next.{turn_to, writes_next, written}, Moving.{command_of, moved, moved_on}, Outbox.no_writes, Rules.AreParts}
use Rattle.ahci_controller.specs.{Rules.{IsCarried, IsOffered, IsRuled, IsUnread}, States.{ControllerState, kept}, declared.feeding.Fed.Fed}
use Rattle.ahci_controller.specs.{declared.{next.{Next.Next, Step.Step}, wants.{Carried.Carried, Writes.Writes}}, Own.falls, Reading.is_idle}
use Rattle.ahci_controller.specs.Wants.{dropped}
use Rattle.ahci_controller.specs.declared.next.Next.TheVariants as next_step
use Rattle.ahci_controller.proofs.rules.BitLemmas as bits
use Rattle.ahci_controller.proofs.rules.{FreeLemmas.{chosen_free, same_free, slots_free}, CallLemmas.same_ruled, WriteLemmas.restarts_ruled}
use Rattle.ahci_controller.proofs.rules.PartLemmas as parts

-- ---- what is to be written to the guest

after_empty : (w : Writes) → (after_rest w).payload ≡ None
after_empty w = by w.posted (counted_slot w)
  where
    by : (posted : Option Move) (slot : Option ℕ) → (match_some posted (match_some slot no_writes (after_count w)) (λ m. record w { payload = None; posted = None })).payload ≡ None
    by None None = refl
    by None (Some slot) = refl
    by (Some m) slot = refl

left_carried : (c : ControllerState) (w : Carried) (m : Move) → IsCarried c.wants c.commands w → IfSome (left w m) (IsCarried c.wants c.commands)
left_carried c w m is = by (min m.len w.len == w.len)
  where
    by : (done : Bool) → IfSome (if done then None else Some (record { slot = w.slot; offset = min (w.offset + min m.len w.len) 4294967295; from = min (w.from + min m.len w.len) 4294967295; len = w.len - min m.len w.len })) (IsCarried c.wants c.commands)
    by true = tt
    by false = record { slot = is.slot; kept = is.kept; out = is.out }

-- what is left of a payload, or of the rest
next_carried : (c : ControllerState) (p : Option Carried) → IfSome p (IsCarried c.wants c.commands)
    → IfSome (match_some (match_some p None (step_of c)) (after_rest c.writes) (λ s. record c.writes { payload = s.left })).payload (IsCarried c.wants c.commands)
next_carried c None is = subst (λ (o : Option Carried). IfSome o (IsCarried c.wants c.commands)) (sym (after_empty c.writes)) tt
next_carried c (Some w) is = by (run_of c w)
  where
    by : (run : Option Move) → IfSome (match_some (option_map (step_with w) run) (after_rest c.writes) (λ s. record c.writes { payload = s.left })).payload (IsCarried c.wants c.commands)
    by None = subst (λ (o : Option Carried). IfSome o (IsCarried c.wants c.commands)) (sym (after_empty c.writes)) tt
    by (Some m) = left_carried c w m is

written_ruled : (c : ControllerState) → IsRuled c → IsRuled (written c)
written_ruled c was = parts.payload_is c.core c.wants c.fetches c.commands c.writes.payload c.own.starts was (writes_next c).payload (next_carried c c.writes.payload was.carried)

pub written_rules : (old new : ControllerState) → IsRuled old → new ≡ written old → IsRuled new
written_rules old new was is = same_ruled (written old) new is (written_ruled old was)

-- nothing is left of it
written_empty : (c : ControllerState) (s : Option Step) → match_some s (rest c) (λ x. Some (next_step.Payload x.write)) ≡ None → (match_some s (after_rest c.writes) (λ x. record c.writes { payload = x.left })).payload ≡ None
written_empty c None none = after_empty c.writes
written_empty c (Some x) none = cc

-- ---- the core moves

stays_stopped : (core new : Port) → new.registers ≡ core.registers → (new.registers.started ≡ false → core.registers.started ≡ false)
stays_stopped core new same = λ e. sym (ap (λ (r : Registers). r.started) same) ∙ e

chosen_registers : (turn : Turn) (old new : Port) → Chooses turn old new → new.registers ≡ old.registers
chosen_registers Rests old new h = ap (λ (p : Port). p.registers) h
chosen_registers (Feeds dev slot offset len) old new h = h.registers
chosen_registers (Orders dev slot command) old new h = h.registers

chosen_commands : (turn : Turn) (old new : Port) → Chooses turn old new → new.commands ≡ old.commands
chosen_commands Rests old new h = ap (λ (p : Port). p.commands) h
chosen_commands (Feeds dev slot offset len) old new h = h.commands
chosen_commands (Orders dev slot command) old new h = h.commands

chosen_ruled : (turn : Turn) (c : ControllerState) (new : Port) → IsTable new.slots → Chooses turn c.core new → IsRuled c → IsRuled (record c { core = new })
chosen_ruled turn c new ok h was =
    parts.core_moves c.core c.wants c.fetches c.commands c.writes.payload c.own.starts was new (chosen_commands turn c.core new h) (chosen_free turn c.core new ok h)
    (λ e. was.stopped (stays_stopped c.core new (chosen_registers turn c.core new h) e))

-- ---- what is next

found : (mask last slot : ℕ) (o : Option ℕ) → lowest_below (λ step. has_bit mask (is_behind 32 last step)) 32 ≡ o → option_map (is_behind 32 last) o ≡ Some slot → has_bit mask slot ≡ true
found mask last slot None is h = cc
found mask last slot (Some step) is h =
    let there : is_behind 32 last step ≡ slot = ap (λ (o : Option ℕ). match_some o 0 (λ n. n)) h in
    ap (has_bit mask) (sym there) ∙ (lowest_is (λ s. has_bit mask (is_behind 32 last s)) 32 step is).passes

reads_ruled : (slot : ℕ) (c new : ControllerState) (next : Next) → c.writes.payload ≡ None → next_read c ≡ Some slot → IsRuled c → Reads c slot next new → IsRuled new
reads_ruled slot c new next empty is was h =
    let pending : has_bit c.wants.pending slot ≡ true =
    bits.left_was c.wants.pending c.wants.out slot (found (without c.wants.pending c.wants.out) c.circle.read slot (lowest_below (λ step. has_bit (without c.wants.pending c.wants.out) (is_behind 32 c.circle.read step)) 32) refl is) in
    subst IsRuled (sym h.1)
    (subst (λ (p : Option Carried). AreParts c.core (asked_of c.wants slot) c.fetches c.commands p c.own.starts) (sym empty) (parts.asks c.core c.wants c.fetches c.commands c.writes.payload c.own.starts was slot pending))

feeds_ruled : (dev : ℕ) (c new : ControllerState) (next : Next) → IsRuled c → FeedsTo c dev next new → IsRuled new
feeds_ruled dev c new next was h = subst IsRuled (sym h.rest) (parts.feeds c.core c.wants c.fetches c.commands c.writes.payload c.own.starts was dev)

orders_ruled : (slot : ℕ) (c new : ControllerState) (next : Next) → IsTable new.core.slots → IsRuled c → OrdersSlot c slot next new → IsRuled new
orders_ruled slot c new next ok was h = subst IsRuled (sym h.rest) (chosen_ruled (orders c.core slot) c new.core ok h.core was)

frames_ruled : (dev slot : Option ℕ) (fed : Bool) (c new : ControllerState) (next : Next) → IsTable new.core.slots → IsRuled c → FramesFor dev slot fed c next new → IsRuled new
frames_ruled None None fed c new next ok was h = same_ruled c new h.0 was
frames_ruled None (Some slot) fed c new next ok was h = orders_ruled slot c new next ok was h
frames_ruled (Some dev) None fed c new next ok was h = feeds_ruled dev c new next was h
frames_ruled (Some dev) (Some slot) false c new next ok was h = feeds_ruled dev c new next was h
frames_ruled (Some dev) (Some slot) true c new next ok was h = orders_ruled slot c new next ok was h

read_ruled : (o : Option ℕ) (c new : ControllerState) (next : Next) → next_read c ≡ o → c.writes.payload ≡ None → IsTable new.core.slots → IsRuled c → MatchOption o (Frames c next new) (λ slot. Reads c slot next new) → IsRuled new
read_ruled None c new next is empty ok was h = frames_ruled (next_device c) (next_slot c) c.circle.fed c new next ok was h
read_ruled (Some slot) c new next is empty ok was h = reads_ruled slot c new next empty is was h

-- the port starts
empty_still : (fall : Bool) (c : ControllerState) → c.writes.payload ≡ None → (if fall then dropped c else c).writes.payload ≡ None
empty_still true c empty = refl
empty_still false c empty = empty

rests_core : (o : Option ℕ) (c new : ControllerState) (next : Next) → MatchOption o (RestsNow c next new) (λ slot. Reads c slot next new) → new.core ≡ c.core
rests_core None c new next h = ap (λ (s : ControllerState). s.core) h.0
rests_core (Some slot) c new next h = ap (λ (s : ControllerState). s.core) h.1

rests_ruled : (o : Option ℕ) (c new : ControllerState) (next : Next) → next_read c ≡ o → c.writes.payload ≡ None → IsRuled c → MatchOption o (RestsNow c next new) (λ slot. Reads c slot next new) → IsRuled new
rests_ruled None c new next is empty was h = same_ruled c new h.0 was
rests_ruled (Some slot) c new next is empty was h = reads_ruled slot c new next empty is was h

starts_up : (c new : ControllerState) (next : Next) → c.writes.payload ≡ None → IsTable new.core.slots → IsRuled c → StartsUp c next new → IsRuled new
starts_up c new next empty ok was h =
    let ok_middle : IsTable h.middle.core.slots = subst (λ (p : Port). IsTable p.slots) (rests_core (next_read h.middle) h.middle new next h.reads) ok in
    let ruled : IsRuled h.middle = restarts_ruled (is_idle c) c.own c h.middle h.ignored ok_middle was h.starts in
    let none : h.middle.writes.payload ≡ None = ap (λ (s : ControllerState). s.writes.payload) h.starts.rest ∙ empty_still (falls c.own c.own c.core.registers h.middle.core.registers) c empty in
    rests_ruled (next_read h.middle) h.middle new next refl none ruled h.reads

goes_ruled : (started : Bool) (c new : ControllerState) (next : Next) → c.writes.payload ≡ None → IsTable new.core.slots → IsRuled c → GoesIf started c next new → IsRuled new
goes_ruled true c new next empty ok was h = read_ruled (next_read c) c new next refl empty ok was h
goes_ruled false c new next empty ok was h = starts_up c new next empty ok was h

turn_ruled : (halted : Bool) (c new : ControllerState) (next : Next) → c.writes.payload ≡ None → IsTable new.core.slots → IsRuled c → TurnsIf halted c next new → IsRuled new
turn_ruled true c new next empty ok was h = same_ruled c new h.0 was
turn_ruled false c new next empty ok was h = goes_ruled c.core.registers.started c new next empty ok was h

turns_as : (o : Option Next) (old new : ControllerState) (next : Next) → next_write old ≡ o → IsTable new.core.slots → IsRuled old → MatchOption o (TurnsIf (is_halted (written old)) (written old) next new) (λ write. (next ≡ write) × (new ≡ written old))
    → IsRuled new
turns_as None old new next is ok was h = turn_ruled (is_halted (written old)) (written old) new next (written_empty old (payload_step old) is) ok (written_ruled old was) h
turns_as (Some write) old new next is ok was h = same_ruled (written old) new h.1 (written_ruled old was)

pub next_rules : (old new : ControllerState) (next : Next) → IsTable new.core.slots → IsRuled old → Turns old next new → IsRuled new
next_rules old new next ok was h = turns_as (next_write old) old new next refl ok was h

-- ---- Data to devices

-- bytes of a command count
pub offers_on : (w : Wrote) (f : Fetched) (k : Option Command) → IsOffered k (Some f) → IsOffered k (Some (moved_on w f))
offers_on w f None h = tt
offers_on w f (Some command) h = h

is_below : (w : Wrote) (b : Bool) (o : Option Fetched) (f : Fetched) → (if b then o else None) ≡ Some f → (b ≡ true) × (o ≡ Some f)
is_below w true o f h = (refl, h)
is_below w false o f h = cc

moved_as : (c : ControllerState) (w : Wrote) (o : Option Fetched) → command_of c w ≡ o → IsRuled c → AreParts c.core c.wants c.fetches (match_some o c.commands (λ command. set c.commands w.slot (Some (moved_on w command)))) c.writes.payload c.own.starts
moved_as c w None is was = was
moved_as c w (Some f) is was =
    let parts_of = is_below w (nat_lt w.slot 32) (kept c w.slot) f is in
    let below : w.slot < 32 = ltb-true w.slot 32 parts_of.0 in
    parts.counts c.core c.wants c.fetches c.commands c.writes.payload c.own.starts was w.slot (moved_on w f) c.writes.payload below
    (λ command h. offers_on w f command (subst (λ (o : Option Fetched). IsOffered command o) parts_of.1 h))
    (parts.carried_on c.core c.wants c.fetches c.commands c.writes.payload c.own.starts was w.slot (moved_on w f) c.writes.payload below was.carried)

moved_ruled : (c : ControllerState) (o : Option Wrote) → IsRuled c → IsRuled (moved c o)
moved_ruled c None was = was
moved_ruled c (Some w) was = moved_as c w (command_of c w) refl was

unfed : (dev : ℕ) (c : ControllerState) → IsRuled c → IsRuled (without_feeding c dev)
unfed dev c was = parts.feeding_is c.core c.wants c.fetches c.commands c.writes.payload c.own.starts was (without c.wants.feeding (2 ^ dev))

sends_ruled : (due : Bool) (dev : ℕ) (c new : ControllerState) (fed : Fed) → IsTable new.core.slots → IsRuled c → SendsIf due c dev fed new → IsRuled new
sends_ruled false dev c new fed ok was h = same_ruled c new h.0 was
sends_ruled true dev c new fed ok was h = subst IsRuled (sym h.rest) (chosen_ruled (turn_to c dev) (moved c (sent_to c dev)) new.core ok h.core (moved_ruled c (sent_to c dev) was))

gathers_ruled : (out : Bool) (dev : ℕ) (old new : ControllerState) (fed : Fed) → IsTable new.core.slots → IsRuled old → GathersIf out old dev fed new → IsRuled new
gathers_ruled false dev old new fed ok was h = same_ruled old new h.0 was
gathers_ruled true dev old new fed ok was h = sends_ruled (may_feed old.core dev) dev (without_feeding old dev) new fed ok (unfed dev old was) h

pub gathered_rules : (dev number : ℕ) (old new : ControllerState) (fed : Fed) → IsTable new.core.slots → IsRuled old → Gathers old dev number fed new → IsRuled new
gathered_rules dev number old new fed ok was h = gathers_ruled (is_fed old.wants dev number) dev old new fed ok was h

loses_ruled : (turn : Turn) (c new : ControllerState) (fed : Fed) → IsRuled c → Loses turn c fed new → IsRuled new
loses_ruled Rests c new fed was h = same_ruled c new h.0 was
loses_ruled (Feeds dev slot offset len) c new fed was h = subst IsRuled (sym h.rest) was
loses_ruled (Orders dev slot command) c new fed was h = same_ruled c new h.0 was

loses_if : (due : Bool) (dev : ℕ) (c new : ControllerState) (fed : Fed) → IsRuled c → LosesIf due c dev fed new → IsRuled new
loses_if false dev c new fed was h = same_ruled c new h.0 was
loses_if true dev c new fed was h = loses_ruled (turn_to c dev) c new fed was h

misses_ruled : (out : Bool) (dev : ℕ) (old new : ControllerState) (fed : Fed) → IsRuled old → MissesIf out old dev fed new → IsRuled new
misses_ruled false dev old new fed was h = same_ruled old new h.0 was
misses_ruled true dev old new fed was h = loses_if (may_feed old.core dev) dev (without_feeding old dev) new fed (unfed dev old was) h

pub not_there_rules : (dev number : ℕ) (old new : ControllerState) (fed : Fed) → IsRuled old → MissesData old dev number fed new → IsRuled new
not_there_rules dev number old new fed was h = misses_ruled (is_fed old.wants dev number) dev old new fed was h
