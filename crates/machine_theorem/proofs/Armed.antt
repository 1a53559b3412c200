-- A bit of PxSACT that is not written is not there: while a queued command is issued in its slot, its bit of PxSACT shows nothing but that.
use Rattle.std.proofs.Common.{◌≡◌, ℕ, ◌<◌, ◌^◌, Bool, true, false, List, refl, sym, ap, subst, ◌∙◌, arith, Option, Some, None, bit_or}
use Rattle.std.proofs.lemmas.Bool.{false≢true}
use Rattle.std.specs.Prelude.{MatchOption, is_some, if◌then◌else◌}
use Rattle.fis_view.specs.declared.view.Fis.{Fis}
use Rattle.fis_view.specs.declared.view.Fis.TheVariants as view
use Rattle.guest_fetch.specs.{Commands.Fetched, declared.fetch.Supplied.Supplied}
use Rattle.guest_fetch.specs.declared.fetch.Supplied.TheVariants as came_as
use Rattle.slots.specs.{Commands.slots_where, Slots.{Issue, has_bit, holds, is_queued_issue, issue_at, mask_of, own_issue, slots_of}, Table.IsIssue}
use Rattle.slots.specs.Table.{IsTable}
use Rattle.slots.proofs.Door.{has_bit_mask}
use Rattle.ahci_registers.specs.Bits as line_bits
use Rattle.ahci_registers.specs.{Offsets.register_at, declared.{link.Effect.Effect, register.Register.Register}}
use Rattle.ahci_registers.specs.declared.link.Effect.TheVariants as effect
use Rattle.ahci_registers.specs.declared.register.Register.TheVariants as ahci
use Rattle.hba_fbs.specs.{Choosing.{Chooses, may_feed}, Deciding.{Decides, decided}, Greeting.Greets, Issuing.is_busy, Offering.{AcceptsBy, view_by}}
use Rattle.hba_fbs.specs.{Placing.Places, Posting.posted, Reading.value_of, Registers.{falls, written as written_register}, Stopping.SetsCmd}
use Rattle.hba_fbs.specs.{Taking.{ignores, port_of, posted_of, settled}, Views.{DeviceView, Port, view_of}, declared.error.WriteError.WriteError}
use Rattle.hba_fbs.specs.declared.{hearing.Heard.Heard, registers.Registers.Registers, report.TakeReport.TakeReport, room.Room.Room, turn.Turn.Turn}
use Rattle.hba_fbs.specs.declared.turn.Turn.TheVariants.{Feeds, Rests}
use Rattle.hba_fbs.specs.declared.register.Register as port_register
use Rattle.hba_fbs.specs.declared.register.Register.TheVariants as on_port
use Rattle.hba_laws.proofs.Door.{own_here, own_in}
use Rattle.ahci_controller.specs.{Access.{fits as fits_width, merged}, Feeding.{GathersIf, Loses, LosesIf, MissesIf as MissesDataIf, SendsIf}}
use Rattle.ahci_controller.specs.{Feeding.without_feeding, Fetching.{GoesOn, MissesIf, SuppliesIf, answered, fits, is_asked, without_fetch}}
use Rattle.ahci_controller.specs.{Issuing.{PlacesSlot, RefusesSlot, device_of, not_issued}, Next.{Frames, FramesFor, GoesIf, Reads, RestsNow}}
use Rattle.ahci_controller.specs.{Next.{TurnsIf, is_fed, is_halted, next_device, next_read, next_slot, next_write, turn_to, written}, Offers.offer_in}
use Rattle.ahci_controller.specs.{Offers.offers_nothing, Reading.shown, States.ControllerState, Taking.CoreHearsIf, Wide.{WritesFitting, WritesIf}}
use Rattle.ahci_controller.specs.{Wide.WritesNothing, Writing.{ClearsIf, Commands, Leaves, ResetsBy, WritesGlobal, WritesRegister, armed_by}}
use Rattle.ahci_controller.specs.{Writing.{link_effect, link_moved, plain, told_refusal}, declared.{access.Width.Width, feeding.Fed.Fed}}
use Rattle.ahci_controller.specs.declared.{issuing.{NotTaken.NotTaken, Supply.Supply}, next.Next.Next, wide.WideWritten.WideWritten}
use Rattle.ahci_controller.specs.declared.writing.Written.{Written}
use Rattle.ahci_controller.proofs.Door.{or_none}
use Rattle.controller_laws.specs.Events as call
use Rattle.controller_laws.specs.Events.{Does, Event, IsController}
use Rattle.machine_theorem.proofs.Unread.{above_serr, left_none, none_set, taken}

-- the bit is not written
abbrev pub IsBare : ℕ → Port → Type 0
IsBare s p = has_bit p.registers.armed s ≡ false

-- something is issued in the slot
abbrev pub IsTaken : ℕ → Port → Type 0
IsTaken s p = is_some (issue_at p.slots s) ≡ true

by_registers : (s : ℕ) (old new : Port) → new.registers ≡ old.registers → IsBare s old → IsBare s new
by_registers s old new is was = ap (λ (r : Registers). has_bit r.armed s) is ∙ was

by_core : (s : ℕ) (old new : Port) → new ≡ old → IsBare s old → IsBare s new
by_core s old new is was = by_registers s old new (ap (λ (p : Port). p.registers) is) was

by_armed : (s : ℕ) (old new : Port) → new.registers.armed ≡ old.registers.armed → IsBare s old → IsBare s new
by_armed s old new is was = ap (λ (m : ℕ). has_bit m s) is ∙ was

emptied : (s : ℕ) (new : Port) → new.registers.armed ≡ 0 → IsBare s new
emptied s new is = ap (λ (m : ℕ). has_bit m s) is ∙ none_set s

-- ---- frames

posted_armed : (r : Registers) (dev : ℕ) (resetting : Bool) (fis : Fis) → (posted r dev resetting fis).armed ≡ r.armed
unfolding posted
posted_armed r dev resetting (view.RegH2D f) = refl
posted_armed r dev resetting other = refl

posted_if : (r : Registers) (dev : ℕ) (resetting : Bool) (o : Option Fis) → (posted_of r dev resetting o).armed ≡ r.armed
posted_if r dev resetting None = refl
posted_if r dev resetting (Some fis) = posted_armed r dev resetting fis

settled_armed : (r : Registers) (h : Heard) → (settled r h).armed ≡ r.armed
unfolding settled
settled_armed r h = refl

decides : (s dev : ℕ) (old new : Port) (room : Room) (fis : Option Fis) (report : TakeReport) → Decides old dev room fis report new → IsBare s old → IsBare s new
decides s dev old new room fis report h was =
    let r : Registers = posted_of old.registers dev (view_of dev old).state.resetting fis in
    by_armed s old new (ap (λ (x : Registers). x.armed) h.registers ∙ settled_armed r (decided dev (view_of dev old) room fis) ∙ posted_if old.registers dev (view_of dev old).state.resetting fis) was

greets : (s dev : ℕ) (old new : Port) (o : Option (List ℕ)) (report : TakeReport) → Greets old dev o report new → IsBare s old → IsBare s new
greets s dev old new None report h was = by_core s old new h.port was
greets s dev old new (Some f) report h was = by_armed s old new (ap (λ (x : Registers). x.armed) h.registers ∙ posted_armed old.registers dev _ (view.RegD2H f)) was

hears : (started ignored : Bool) (s : ℕ) (old : ControllerState) (frame : List ℕ) (report : TakeReport) (new : Port) → ignores (port_of frame) old.core frame ≡ ignored → CoreHearsIf started old frame report new → IsBare s old.core → IsBare s new
hears true true s old frame report new is h was = by_core s old.core new (h.ignored is).port was
hears true false s old frame report new is h was = decides s (port_of frame) old.core new _ _ report (h.heard is) was
hears false ignored s old frame report new is h was = greets s (port_of frame) old.core new _ report h was

-- ---- what goes to devices

chooses : (s : ℕ) (turn : Turn) (old new : Port) → Chooses turn old new → IsBare s old → IsBare s new
chooses s Rests old new h was = by_core s old new h was
chooses s other old new h was = by_registers s old new h.registers was

-- ---- writes

told_armed : (o : Option WriteError) (register : port_register.Register) (value s : ℕ) (old new : Port) → (IsBare s old → has_bit (written_register register old.registers value).armed s ≡ false)
    → MatchOption o (AcceptsBy old (offer_in offers_nothing) register value new) (λ e. new ≡ old) → IsBare s old → IsBare s new
told_armed None register value s old new keeps h was = ap (λ (r : Registers). has_bit r.armed s) h.registers ∙ keeps was
told_armed (Some e) register value s old new keeps h was = by_core s old new h was

is_armed : (value : ℕ) (r : Registers) → (written_register on_port.Is r value).armed ≡ r.armed
unfolding written_register
is_armed value r = refl

serr_armed : (value : ℕ) (r : Registers) → (written_register on_port.Serr r value).armed ≡ r.armed
unfolding written_register
serr_armed value r = refl

sntf_armed : (value : ℕ) (r : Registers) → (written_register on_port.Sntf r value).armed ≡ r.armed
unfolding written_register
sntf_armed value r = refl

fbs_armed : (value : ℕ) (r : Registers) → (written_register on_port.Fbs r value).armed ≡ r.armed
unfolding written_register
fbs_armed value r = refl

sact_armed : (value : ℕ) (r : Registers) → (written_register on_port.Sact r value).armed ≡ bit_or r.armed value
unfolding written_register
sact_armed value r = refl

cmd_armed : (value : ℕ) (r : Registers) → (written_register on_port.Cmd r value).armed ≡ (if falls r value then 0 else r.armed)
unfolding written_register
cmd_armed value r = refl

same_bit : (s a b : ℕ) → a ≡ b → has_bit b s ≡ false → has_bit a s ≡ false
same_bit s a b is was = ap (λ (m : ℕ). has_bit m s) is ∙ was

-- a bit of a slot in which something is issued is not written
sact_bare : (value s : ℕ) (p : Port) → s < 32 → IsTaken s p → IsBare s p → has_bit (written_register on_port.Sact p.registers (armed_by p value)).armed s ≡ false
sact_bare value s p below there was =
    same_bit s (written_register on_port.Sact p.registers (armed_by p value)).armed (bit_or p.registers.armed (armed_by p value)) (sact_armed (armed_by p value) p.registers)
    (or_none p.registers.armed (armed_by p value) s was (taken value (mask_of (is_busy p.slots)) s below (has_bit_mask (is_busy p.slots) s below ∙ there)))

cleared : (clears : Bool) (old new : Port) → ClearsIf clears old new → new.registers ≡ old.registers
cleared true old new h = h.registers
cleared false old new h = ap (λ (p : Port). p.registers) h

cmd_bit : (fall : Bool) (s : ℕ) (r : Registers) → has_bit r.armed s ≡ false → has_bit (if fall then 0 else r.armed) s ≡ false
cmd_bit true s r was = none_set s
cmd_bit false s r was = was

sets : (o : Option WriteError) (value s : ℕ) (old new : Port) → MatchOption o (SetsCmd old value new) (λ e. new ≡ old) → IsBare s old → IsBare s new
sets None value s old new h was = ap (λ (r : Registers). has_bit r.armed s) h.registers ∙ same_bit s (written_register on_port.Cmd old.registers value).armed _ (cmd_armed value old.registers) (cmd_bit (falls old.registers value) s old.registers was)
sets (Some e) value s old new h was = by_core s old new h was

commands : (value s : ℕ) (old new : ControllerState) (ignored : Option WriteError) → Commands old value ignored new → IsBare s old.core → IsBare s new.core
commands value s old new ignored h was = sets _ _ s h.middle.core new.core h.starts.core (by_registers s old.core h.middle.core (cleared _ old.core h.middle.core h.clears.core) was)

global : (resets : Bool) (value s : ℕ) (old new : ControllerState) → WritesGlobal resets old value new → IsBare s old.core → IsBare s new.core
global true value s old new h was = emptied s new.core (ap (λ (r : Registers). r.armed) h.core.registers)
global false value s old new h was = by_core s old.core new.core (ap (λ (c : ControllerState). c.core) h) was

linked : (e : Effect) (s : ℕ) (old new : ControllerState) → ResetsBy e old new → IsBare s old.core → IsBare s new.core
linked effect.LinkReset s old new h was = emptied s new.core (ap (λ (r : Registers). r.armed) h.core.registers)
linked other s old new h was = by_core s old.core new.core (ap (λ (c : ControllerState). c.core) h) was

asked_core : (running : Bool) (c d : ControllerState) → d.core ≡ c.core → (if running then d else c).core ≡ c.core
asked_core true c d is = is
asked_core false c d is = refl

unmoved : (s : ℕ) (old new : ControllerState) → new.core ≡ old.core → IsBare s old.core → IsBare s new.core
unmoved s old new is was = by_core s old.core new.core is was

register : (r : Register) (value s : ℕ) (old new : ControllerState) (result : Written) → s < 32 → Leaves r old value result new → (r ≡ ahci.PxSact → IsTaken s old.core) → IsBare s old.core → IsBare s new.core
register ahci.Ghc value s old new result below h there was = global (line_bits.has_bit value 0) value s old new h.0 was
register ahci.PxIs value s old new result below h there was = told_armed (told_refusal old on_port.Is value) on_port.Is value s old.core new.core (same_bit s _ _ (is_armed value old.core.registers)) h.0.core was
register ahci.PxCmd value s old new result below h there was = commands value s old new result.ignored h.0 was
register ahci.PxSctl value s old new result below h there was = linked (link_effect old value) s (link_moved old value) new h.0 was
register ahci.PxSerr value s old new result below h there was = told_armed (told_refusal old on_port.Serr value) on_port.Serr value s old.core new.core (same_bit s _ _ (serr_armed value old.core.registers)) h.0.core was
register ahci.PxSact value s old new result below h there was = told_armed (told_refusal old on_port.Sact (armed_by old.core value)) on_port.Sact (armed_by old.core value) s old.core new.core (sact_bare value s old.core below (there refl)) h.0.core was
register ahci.PxCi value s old new result below h there was = unmoved s old new (ap (λ (c : ControllerState). c.core) h.0 ∙ asked_core old.own.starts old _ refl) was
register ahci.PxSntf value s old new result below h there was = told_armed (told_refusal old on_port.Sntf value) on_port.Sntf value s old.core new.core (same_bit s _ _ (sntf_armed value old.core.registers)) h.0.core was
register ahci.PxFbs value s old new result below h there was = told_armed (told_refusal (record old { wants = record old.wants { feeding = 0 } }) on_port.Fbs _) on_port.Fbs _ s old.core new.core (same_bit s _ _ (fbs_armed _ old.core.registers)) h.0.core was
register other value s old new result below h there was = unmoved s old new (ap (λ (c : ControllerState). c.core) h.0) was

at_register : (o : Option Register) (value : Register → ℕ) (s : ℕ) (old new : ControllerState) (result : Written) (nothing : Type 0) → s < 32 → (nothing → new ≡ old) → MatchOption o nothing (λ r. WritesRegister r old (value r) result new)
    → (o ≡ Some ahci.PxSact → IsTaken s old.core) → IsBare s old.core → IsBare s new.core
at_register None value s old new result nothing below is h there was = unmoved s old new (ap (λ (c : ControllerState). c.core) (is h)) was
at_register (Some r) value s old new result nothing below is h there was = register r (value r) s old new (plain result) below h.leaves (λ e. there (ap Some e)) was

part : (empty : Bool) (offset value mask s : ℕ) (old new : ControllerState) (result : Written) → s < 32 → WritesIf empty old offset value mask result new → (register_at offset ≡ Some ahci.PxSact → IsTaken s old.core) → IsBare s old.core → IsBare s new.core
part true offset value mask s old new result below h there was = unmoved s old new (ap (λ (c : ControllerState). c.core) h.0) was
part false offset value mask s old new result below h there was = at_register (register_at offset) (λ r. merged r (shown r old) value mask) s old new result _ below (λ n. n.0) h there was

-- PxSERR leaves what is issued
serr_view : (p : Port) (value n : ℕ) → view_by on_port.Serr p (offer_in offers_nothing) value n ≡ view_of n p
unfolding view_by
serr_view p value n = refl

owned : (s : ℕ) (old new : Port) → IsTable old.slots → ((n : ℕ) → n < 16 → view_of n new ≡ view_of n old) → s < 32 → IsTaken s old → IsTaken s new
owned s old new ok views below there = by (issue_at old.slots s) refl there
  where
    by : (o : Option Issue) → issue_at old.slots s ≡ o → is_some o ≡ true → IsTaken s new
    by None is some = absurd (false≢true some)
    by (Some i) is some =
        let issue : IsIssue i = subst (λ (o : Option Issue). MatchOption o (Unit {0}) IsIssue) is (ok.issues s) in
        let mine : own_issue (slots_of i.dev old.slots) s ≡ Some i = own_here s old.slots i (let n = ok.slots in omega (arith, n, below)) is in
        let now : own_issue (slots_of i.dev new.slots) s ≡ Some i = ap (λ (v : DeviceView). own_issue v.slots s) (views i.dev issue.dev_below) ∙ mine in
        ap is_some (own_in i.dev s new.slots i now).1

serr_keeps : (value s : ℕ) (old new : ControllerState) (result : Written) → IsTable old.core.slots → s < 32 → Leaves ahci.PxSerr old value result new → IsTaken s old.core → IsTaken s new.core
serr_keeps value s old new result ok below h there = by (told_refusal old on_port.Serr value) h.0.core
  where
    by : (o : Option WriteError) → MatchOption o (AcceptsBy old.core (offer_in offers_nothing) on_port.Serr value new.core) (λ e. new.core ≡ old.core) → IsTaken s new.core
    by None a = owned s old.core new.core ok (λ n low. a.views n low ∙ serr_view old.core value n) below there
    by (Some e) same = subst (IsTaken s) (sym same) there

part_keeps : (empty : Bool) (offset value mask s : ℕ) (old new : ControllerState) (result : Written) → IsTable old.core.slots → s < 32 → WritesIf empty old offset value mask result new → register_at offset ≡ Some ahci.PxSerr → IsTaken s old.core → IsTaken s new.core
part_keeps true offset value mask s old new result ok below h is there = subst (λ (c : ControllerState). IsTaken s c.core) (sym h.0) there
part_keeps false offset value mask s old new result ok below h is there =
    let writes : WritesRegister ahci.PxSerr old (merged ahci.PxSerr (shown ahci.PxSerr old) value mask) result new =
    subst (λ (o : Option Register). MatchOption o (WritesNothing old result new) (λ r. WritesRegister r old (merged r (shown r old) value mask) result new)) is h in
    serr_keeps _ s old new (plain result) ok below writes.leaves there

wide : (does_fit : Bool) (offset : ℕ) (width : Width) (value s : ℕ) (old new : ControllerState) (result : WideWritten) → IsTable old.core.slots → s < 32 → WritesFitting does_fit old offset width value result new → IsTaken s old.core → IsBare s old.core → IsBare s new.core
wide false offset width value s old new result ok below h there was = unmoved s old new (ap (λ (c : ControllerState). c.core) h.0.0) was
wide true offset width value s old new result ok below h there was =
    part _ _ _ _ s h.middle new result.high below h.high (λ e. part_keeps _ _ _ _ s old h.middle result.low ok below h.low (above_serr offset e) there)
    (part _ _ _ _ s old h.middle result.low below h.low (λ e. there) was)

-- ---- supplies

places : (s dev slots : ℕ) (old new : Port) (offer : _) → Places old offer dev slots new → IsBare s old → IsBare s new
places s dev slots old new offer h was =
    ap (λ (r : Registers). has_bit r.armed s) h.registers ∙ left_none old.registers.armed (slots_where is_queued_issue new.slots) s was

issues : (slot s : ℕ) (f : Fetched) (o : Option NotTaken) (base new : ControllerState) (supply : Supply) → MatchOption o (PlacesSlot base slot f supply new) (λ reason. RefusesSlot base slot reason supply new) → IsBare s base.core → IsBare s new.core
issues slot s f None base new supply h was = places s (device_of f) (2 ^ slot) base.core new.core _ h.core was
issues slot s f (Some reason) base new supply h was = unmoved s base new (ap (λ (c : ControllerState). c.core) h.rest) was

goes_on : (slot s : ℕ) (came : Supplied) (base new : ControllerState) (supply : Supply) → GoesOn base slot came supply new → IsBare s base.core → IsBare s new.core
goes_on slot s (came_as.Refused r) base new supply h was = unmoved s base new (ap (λ (c : ControllerState). c.core) h.rest) was
goes_on slot s (came_as.Whole f) base new supply h was = issues slot s f (not_issued base.core slot f) base new supply h was
goes_on slot s other base new supply h was = unmoved s base new (ap (λ (c : ControllerState). c.core) h.0) was

supplies : (fit : Bool) (slot s : ℕ) (bytes : List ℕ) (old new : ControllerState) (supply : Supply) → SuppliesIf fit old slot bytes supply new → IsBare s old.core → IsBare s new.core
supplies false slot s bytes old new supply h was = unmoved s old new (ap (λ (c : ControllerState). c.core) h.0) was
supplies true slot s bytes old new supply h was = goes_on slot s h.came (without_fetch (answered old slot) slot) new supply h.goes was

misses : (out : Bool) (slot : ℕ) (old new : ControllerState) (supply : Supply) → MissesIf out old slot supply new → new.core ≡ old.core
misses false slot old new supply h = ap (λ (c : ControllerState). c.core) h.0
misses true slot old new supply h = ap (λ (c : ControllerState). c.core) h.rest

-- ---- all others

frames : (dev slot : Option ℕ) (alternates : Bool) (s : ℕ) (base new : ControllerState) (next : Next) → FramesFor dev slot alternates base next new → IsBare s base.core → IsBare s new.core
frames None None alternates s base new next h was = unmoved s base new (ap (λ (c : ControllerState). c.core) h.0) was
frames None (Some slot) alternates s base new next h was = chooses s _ base.core new.core h.core was
frames (Some dev) None alternates s base new next h was = unmoved s base new (ap (λ (c : ControllerState). c.core) h.rest) was
frames (Some dev) (Some slot) false s base new next h was = unmoved s base new (ap (λ (c : ControllerState). c.core) h.rest) was
frames (Some dev) (Some slot) true s base new next h was = chooses s _ base.core new.core h.core was

runs : (o : Option ℕ) (s : ℕ) (base new : ControllerState) (next : Next) → MatchOption o (Frames base next new) (λ slot. Reads base slot next new) → IsBare s base.core → IsBare s new.core
runs None s base new next h was = frames (next_device base) (next_slot base) base.circle.fed s base new next h was
runs (Some slot) s base new next h was = unmoved s base new (ap (λ (c : ControllerState). c.core) h.1) was

rests : (o : Option ℕ) (base new : ControllerState) (next : Next) → MatchOption o (RestsNow base next new) (λ slot. Reads base slot next new) → new.core ≡ base.core
rests None base new next h = ap (λ (c : ControllerState). c.core) h.0
rests (Some slot) base new next h = ap (λ (c : ControllerState). c.core) h.1

goes : (started : Bool) (s : ℕ) (base new : ControllerState) (next : Next) → GoesIf started base next new → IsBare s base.core → IsBare s new.core
goes true s base new next h was = runs (next_read base) s base new next h was
goes false s base new next h was = unmoved s h.middle new (rests (next_read h.middle) h.middle new next h.reads) (sets _ _ s base.core h.middle.core h.starts.core was)

turns_if : (halted : Bool) (s : ℕ) (base new : ControllerState) (next : Next) → TurnsIf halted base next new → IsBare s base.core → IsBare s new.core
turns_if true s base new next h was = unmoved s base new (ap (λ (c : ControllerState). c.core) h.0) was
turns_if false s base new next h was = goes base.core.registers.started s base new next h was

turns : (o : Option Next) (s : ℕ) (old new : ControllerState) (next : Next) → MatchOption o (TurnsIf (is_halted (written old)) (written old) next new) (λ write. (next ≡ write) × (new ≡ written old)) → IsBare s old.core → IsBare s new.core
turns None s old new next h was = turns_if (is_halted (written old)) s (written old) new next h was
turns (Some write) s old new next h was = unmoved s old new (ap (λ (c : ControllerState). c.core) h.1) was

sends : (due : Bool) (dev s : ℕ) (old new : ControllerState) (fed : Fed) → SendsIf due old dev fed new → IsBare s old.core → IsBare s new.core
sends false dev s old new fed h was = unmoved s old new (ap (λ (c : ControllerState). c.core) h.0) was
sends true dev s old new fed h was = chooses s _ old.core new.core h.core was

gathers : (out : Bool) (dev s : ℕ) (old new : ControllerState) (fed : Fed) → GathersIf out old dev fed new → IsBare s old.core → IsBare s new.core
gathers false dev s old new fed h was = unmoved s old new (ap (λ (c : ControllerState). c.core) h.0) was
gathers true dev s old new fed h was = sends (may_feed old.core dev) dev s (without_feeding old dev) new fed h was

loses : (turn : Turn) (base new : ControllerState) (fed : Fed) → Loses turn base fed new → new.core ≡ base.core
loses (Feeds dev slot offset len) base new fed h = ap (λ (c : ControllerState). c.core) h.rest
loses other base new fed h = ap (λ (c : ControllerState). c.core) h.0

loses_if : (due : Bool) (dev : ℕ) (base new : ControllerState) (fed : Fed) → LosesIf due base dev fed new → new.core ≡ base.core
loses_if false dev base new fed h = ap (λ (c : ControllerState). c.core) h.0
loses_if true dev base new fed h = loses (turn_to base dev) base new fed h

misses_data : (out : Bool) (dev : ℕ) (old new : ControllerState) (fed : Fed) → MissesDataIf out old dev fed new → new.core ≡ old.core
misses_data false dev old new fed h = ap (λ (c : ControllerState). c.core) h.0
misses_data true dev old new fed h = loses_if (may_feed old.core dev) dev (without_feeding old dev) new fed h

-- so it is over every call
pub stays_bare : (e : Event) (s : ℕ) (old new : ControllerState) → IsTable old.core.slots → s < 32 → Does old e new → IsTaken s old.core → IsBare s old.core → IsBare s new.core
stays_bare (call.Wrote offset value written) s old new ok below h there was = at_register (register_at offset) (λ r. value) s old new written _ below (λ n. n.0) h (λ e. there) was
stays_bare (call.WroteWide offset width value written) s old new ok below h there was = wide (fits_width width offset) offset width value s old new written ok below h there was
stays_bare (call.Supplied slot number bytes supply) s old new ok below h there was = supplies (fits old slot number bytes) slot s bytes old new supply h was
stays_bare (call.Missed slot number supply) s old new ok below h there was = unmoved s old new (misses (is_asked old.wants slot number) slot old new supply h) was
stays_bare (call.Took frame took) s old new ok below h there was = hears old.core.registers.started (ignores (port_of frame) old.core frame) s old frame took.report new.core refl h.hears.core was
stays_bare (call.Turned next) s old new ok below h there was = turns (next_write old) s old new next h was
stays_bare (call.Gathered dev number frame fed) s old new ok below h there was = gathers (is_fed old.wants dev number) dev s old new fed h.1 was
stays_bare (call.NotThere dev number fed) s old new ok below h there was = unmoved s old new (misses_data (is_fed old.wants dev number) dev old new fed h) was
stays_bare other s old new ok below h there was = unmoved s old new (ap (λ (c : ControllerState). c.core) h.1) was

-- ---- a queued command that is there

pub record IsQueuedAlone (s : ℕ) (c : ControllerState) : Type 0 where
  pub queued : holds is_queued_issue (issue_at c.core.slots s) ≡ true
  pub bare : IsBare s c.core

pub sact_is : (c : ControllerState) → shown ahci.PxSact c ≡ bit_or c.core.registers.armed (slots_where is_queued_issue c.core.slots)
unfolding shown value_of
sact_is c = refl

pub queued_bit : (p : Port) (s : ℕ) → s < 32 → has_bit (slots_where is_queued_issue p.slots) s ≡ holds is_queued_issue (issue_at p.slots s)
queued_bit p s below = has_bit_mask (λ slot. holds is_queued_issue (issue_at p.slots slot)) s below

pub there_of : (o : Option Issue) → holds is_queued_issue o ≡ true → is_some o ≡ true
there_of None h = absurd (false≢true h)
there_of (Some i) h = refl

-- it is there as long as its bit is
pub stays_alone : (e : Event) (s : ℕ) (old new : ControllerState) → IsController old → s < 32 → Does old e new → has_bit (shown ahci.PxSact new) s ≡ true → IsQueuedAlone s old → IsQueuedAlone s new
stays_alone e s old new k below h here was = by (holds is_queued_issue (issue_at new.core.slots s)) refl
  where
    bare : IsBare s new.core
    bare = stays_bare e s old new k.slots below h (there_of (issue_at old.core.slots s) was.queued) was.bare

    by : (b : Bool) → holds is_queued_issue (issue_at new.core.slots s) ≡ b → IsQueuedAlone s new
    by true is = record { queued = is; bare = bare }
    by false is =
        absurd (false≢true (sym (ap (λ (m : ℕ). has_bit m s) (sact_is new) ∙ or_none new.core.registers.armed (slots_where is_queued_issue new.core.slots) s bare (queued_bit new.core s below ∙ is)) ∙ here))
