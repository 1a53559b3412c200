-- For `port_goes_on`. What a device sends stops the port only by a host bus error.
use Rattle.std.proofs.Common.{◌≡◌, ◌≢◌, ℕ, ◌-◌, ◌<◌, Bool, true, false, ◌&&◌, List, length, refl, sym, ◌∙◌, ap, inl, inr, arith, Option, Some, None}
use Rattle.std.proofs.lemmas.Bool.{cases_Bool, false≢true, ne_eqb, true≢false}
use Rattle.std.specs.Prelude.{◌==◌, ◌%◌, ◌||◌, if◌then◌else◌, not, is_some, nat_lt, slice_index, Result, Ok, Err}
use Rattle.fis_view.specs.{Seen.seen, Table.field, declared.view.Fis.Fis}
use Rattle.fis_view.specs.Table as table
use Rattle.fis_view.specs.declared.view.Fis.TheVariants as view
use Rattle.hba_commands.specs.declared.command.Command.{Command}
use Rattle.port_errors.specs.declared.cause.DeviceCause.TheVariants as cause
use Rattle.slots.specs.{Commands.answer_of, Data.{after_arrive, may_activate, payload, receiving_slot}, Setup.{out_setup, pio_fault, pio_issue}}
use Rattle.slots.specs.{Slots.{DeviceSlots, context_of, match_some, own_issue, sent_pio, slots_of}, declared.answer.Answered.Answered}
use Rattle.slots.specs.declared.{answer.SetupError.SetupError, table.Context.Context}
use Rattle.slots.specs.declared.answer.Answered.TheVariants as answer
use Rattle.hba_fbs.specs.declared.{hearing.{Fault.Fault, Happening.Happening, Heard.Heard}, report.Wrote.Wrote, state.DeviceState.DeviceState}
use Rattle.hba_fbs.specs.{declared.status.Block.Block, Hearing.{answer_fault, bad_fault, faulty, heard_activate, heard_bits, heard_bytes, heard_d2h}}
use Rattle.hba_fbs.specs.{Hearing.{heard_data_of, heard_fis, heard_out, heard_pio, heard_register, set_up}, Sending.{Nothing, Outgoing, data_due}}
use Rattle.hba_fbs.specs.{Sending.{data_with, next_receiver, next_to_send, order_due, outgoing}, Status.{is_busy, is_error, with_file}}
use Rattle.hba_fbs.specs.{Tables.{is_sound, sound_command}, Taking.{admitted, heard, heard_now, ignores, is_running, port_cause, port_of, stops_with}}
use Rattle.hba_fbs.specs.Views.{DeviceView, Port, view_of}
use Rattle.hba_fbs.specs.declared.hearing.Fault.TheVariants as fault
use Rattle.hba_laws.specs.Hosts as event
use Rattle.hba_laws.specs.{Isolation.{fails_by_bus, stops_port}, Sound.IsHost, Between.{HasContext, IsOwn}}
use Rattle.hba_laws.proofs.Door.{is_own}
use Rattle.hba_driver.specs.{Orders.control_port, Going.{CanBeRead, FaultsNeverStop, IsOfControl, IsReport, NothingStops, SparesPort}}
use Rattle.hba_driver.specs.Going.{SwitchesIfStarted}
use Rattle.hba_driver.proofs.modes.ModeLemmas.{stops_as}

-- what holds for both values holds for the choice
pub either : {A : Type 0} (P : A → Type 0) (b : Bool) (x y : A) → P x → P y → P (if b then x else y)
either P true x y h k = h
either P false x y h k = k

-- ---- a FIS that is heard

-- what is wrong, if anything, is not a fault of the port
abbrev Spares : Option Fault → Type 0
Spares f = is_some (port_cause f) ≡ false

abbrev Calm : Heard → Type 0
Calm h = Spares h.fault

answer_calm : (a : Answered) → Spares (answer_fault a)
answer_calm answer.Nobody = refl
answer_calm other = refl

d2h_calm : (own : DeviceSlots) (state : DeviceState) (status error : ℕ) → Calm (heard_d2h own state status error)
d2h_calm own state status error =
    either Calm (is_error status) _ _ refl (either Calm (is_busy status) _ _ refl (answer_calm (answer_of own)))

register_calm : (own : DeviceSlots) (state : DeviceState) (status error : ℕ) → Calm (heard_register own state status error)
register_calm own state status error = either Calm state.resetting _ _ refl (d2h_calm own state status error)

bits_calm : (own : DeviceSlots) (state : DeviceState) (status error mask : ℕ) → Calm (heard_bits own state status error mask)
bits_calm own state status error mask =
    either Calm (is_error status) _ _ refl (either Spares _ None (Some (fault.Device cause.Short)) refl refl)

set_up_calm : (o : Option SetupError) (state : DeviceState) (block : Option Block) (h : Happening) → Calm (set_up o state block h)
set_up_calm None state block h = refl
set_up_calm (Some e) state block h = refl

out_calm : (state : DeviceState) (block : Block) (o : Result Context SetupError) → Calm (heard_out state block o)
out_calm state block (Ok c) = refl
out_calm state block (Err e) = refl

pio_calm : (own : DeviceSlots) (state : DeviceState) (status error count : ℕ) (to_host : Bool) (block : Block) → Calm (heard_pio own state status error count to_host block)
pio_calm own state status error count to_host block =
    either Calm (is_error status) _ _ refl (either Calm (is_some (sent_pio own)) _ _ (set_up_calm (pio_fault (pio_issue own) count to_host) _ _ _) (out_calm (with_file state status error) block (out_setup own count to_host)))

activate_calm : (own : DeviceSlots) (state : DeviceState) → Calm (heard_activate own state)
activate_calm own state = either Calm (may_activate own.context) _ _ refl refl

bytes_calm : (own : DeviceSlots) (state : DeviceState) (wrote : Wrote) (o : Option Block) (last : Bool) → Calm (heard_bytes own state wrote o last)
bytes_calm own state wrote None last = refl
bytes_calm own state wrote (Some block) true = either Spares (is_error block.ends) (Some (fault.Device cause.TaskFile)) None refl refl
bytes_calm own state wrote (Some block) false = refl

data_calm_of : (own : DeviceSlots) (state : DeviceState) (sound to_host : Bool) (count : ℕ) (c : Context) → c.to_host ≡ to_host → (to_host ≡ true → sound ≡ true) → Calm (heard_data_of own state sound count c)
data_calm_of own state sound false count c way can = rw way refl
data_calm_of own state true true count c way can = rw way (either Calm (nat_lt c.left count) _ _ refl (bytes_calm (after_arrive own count) state (record { slot = c.slot; offset = c.next; len = count }) state.block (c.left == count)))
data_calm_of own state false true count c way can = absurd (false≢true (can refl))

data_calm : (own : DeviceSlots) (state : DeviceState) (sound : Bool) (count : ℕ) (o : Option Context) → ((c : Context) → o ≡ Some c → c.to_host ≡ true → sound ≡ true)
    → Calm (match_some o (faulty state cause.Stray) (heard_data_of own state sound count))
data_calm own state sound count None can = refl
data_calm own state sound count (Some c) can = data_calm_of own state sound c.to_host count c refl (λ way. can c refl way)

-- if Data comes by a table that can be used
fis_calm : (own : DeviceSlots) (state : DeviceState) (sound : Bool) (fis : Fis) → ((c : Context) → own.context ≡ Some c → c.to_host ≡ true → sound ≡ true) → Calm (heard_fis own state sound fis)
unfolding heard_fis
fis_calm own state sound (view.RegD2H f) can = register_calm own state (field table.D2h table.Status f) (field table.D2h table.Error f)
fis_calm own state sound (view.SetBits f) can = bits_calm own state (field table.Bits table.Status f) (field table.Bits table.Error f) (field table.Bits table.SActive f)
fis_calm own state sound (view.DmaActivate f) can = activate_calm own state
fis_calm own state sound (view.DmaSetup f) can = set_up_calm _ state None _
fis_calm own state sound (view.PioSetup f) can = pio_calm own state _ _ _ _ _
fis_calm own state sound (view.Payload f) can = data_calm own state sound (length f - 4) own.context can
fis_calm own state sound other can = refl

-- a FIS that a device may not send is a fault of the device
bad_calm : (n : ℕ) → n ≢ control_port → Spares (Some (bad_fault n))
bad_calm n other = rw (ne_eqb n 15 other) refl

heard_calm : (n : ℕ) (v : DeviceView) (sound : Bool) (o : Option Fis) → ((c : Context) → v.slots.context ≡ Some c → c.to_host ≡ true → sound ≡ true) → (o ≡ None → n ≢ control_port) → Calm (heard n v sound o)
heard_calm n v sound None can other = bad_calm n (other refl)
heard_calm n v sound (Some fis) can other = fis_calm v.slots v.state sound fis can

-- ---- what the control port sends is admitted

reported : (n : ℕ) (frame : List ℕ) → IsReport frame → admitted n (seen frame) ≡ None → n ≢ control_port
reported n frame (inl register) none same =
    let bad : Some (view.RegD2H frame) ≡ None = sym (ap (admitted n) register) ∙ none in
    cc
reported n frame (inr bits) none same =
    let bad : Some (view.SetBits frame) ≡ None = sym (ap (admitted n) bits) ∙ none in
    cc

-- while ST is 0, all is ignored
halted : (over started quiet marked resets stops : Bool) → started ≡ false → (not (over || (not (started && quiet) || marked || resets)) && stops) ≡ false
halted true started quiet marked resets stops off = refl
halted false false quiet marked resets stops off = refl
halted false true quiet marked resets stops off = absurd (true≢false off)

-- ---- a table that can be used

receiving : (c : Context) (f : ℕ → Option Command) → c.to_host ≡ true → is_some (f c.slot) ≡ true → is_some (match_some (receiving_slot (Some c)) None f) ≡ true
receiving c f way is = rw way is

module _ (host : event.Host) (is : IsHost host) (read : CanBeRead host) where
  own_is : (n : ℕ) → IsOwn n (slots_of n host.port.slots)
  own_is n = is_own n host.port.slots is.slots

  -- the slot of a context can be used
  slot_sound : (n : ℕ) (c : Context) → n < 16 → context_of host.port.slots n ≡ Some c → is_some (sound_command host.memory host.port.commands (slots_of n host.port.slots) c.slot) ≡ true
  slot_sound n c below now =
      let has : HasContext n (slots_of n host.port.slots) c = (own_is n).contexts c now in
      read n c.slot below (ap is_some has.at)

  sound : (n : ℕ) (c : Context) → n < 16 → context_of host.port.slots n ≡ Some c → c.to_host ≡ true → is_sound host.memory host.port.commands (slots_of n host.port.slots) ≡ true
  sound n c below now way =
      ap (λ (o : Option Context). is_some (match_some (receiving_slot o) None (sound_command host.memory host.port.commands (slots_of n host.port.slots)))) now
      ∙ receiving c (sound_command host.memory host.port.commands (slots_of n host.port.slots)) way (slot_sound n c below now)

  low : (k : ℕ) → k % 16 < 16
  low k = omega arith

  control_or_other : (frame : List ℕ) → IsOfControl frame → admitted (port_of frame) (seen frame) ≡ None → port_of frame ≢ control_port
  control_or_other frame of none same = reported (port_of frame) frame (of same) none same

  hears : (frame : List ℕ) → IsOfControl frame → Calm (heard_now host.port host.memory (port_of frame) (admitted (port_of frame) (seen frame)))
  hears frame of =
      let n : ℕ = port_of frame in
      heard_calm n (view_of n host.port) (is_sound host.memory host.port.commands (view_of n host.port).slots) (admitted n (seen frame))
      (λ c now way. sound n c (low (slice_index frame 1)) now way) (control_or_other frame of)

  order_spares : (slot : ℕ) → fails_by_bus (order_due host.port slot) ≡ false
  order_spares slot = by_issue (Rattle.slots.specs.Slots.issue_at host.port.slots slot)
    where
      by_command : (dev : ℕ) (o : Option Command) → fails_by_bus (match_some o Nothing (Rattle.hba_fbs.specs.Sending.Order dev slot)) ≡ false
      by_command dev None = refl
      by_command dev (Some command) = refl

      by_issue : (o : Option Rattle.slots.specs.Slots.Issue)
          → fails_by_bus (match_some o Nothing (λ issue. match_some (Rattle.hba_fbs.specs.Views.last_command host.port.commands slot) Nothing (Rattle.hba_fbs.specs.Sending.Order issue.dev slot))) ≡ false
      by_issue None = refl
      by_issue (Some issue) = by_command issue.dev (Rattle.hba_fbs.specs.Views.last_command host.port.commands slot)

  -- the data that is due belongs to a context whose table can be used
  with_spares : (dev offset len : ℕ) (o : Option Command) → is_some o ≡ true → fails_by_bus (data_with dev offset len o) ≡ false
  with_spares dev offset len None h = absurd (false≢true h)
  with_spares dev offset len (Some command) h = refl

  active : (b : Bool) (dev : ℕ) (next : ℕ × ℕ × ℕ) → is_some (sound_command host.memory host.port.commands (view_of dev host.port).slots next.0) ≡ true
      → fails_by_bus (match_some (if b then Some next else None) Nothing (λ next. data_with dev next.1 next.2 (sound_command host.memory host.port.commands (view_of dev host.port).slots next.0))) ≡ false
  active true dev next h = with_spares dev next.1 next.2 _ h
  active false dev next h = refl

  due_spares : (dev : ℕ) (o : Option Context) → dev < 16 → context_of host.port.slots dev ≡ o
      → fails_by_bus (match_some (payload o) Nothing (λ next. data_with dev next.1 next.2 (sound_command host.memory host.port.commands (view_of dev host.port).slots next.0))) ≡ false
  due_spares dev None below now = refl
  due_spares dev (Some c) below now = active c.activated dev _ (slot_sound dev c below now)

  out_spares : (b : Bool) (r s : Option ℕ) → ((dev : ℕ) → r ≡ Some dev → dev < 16)
      → fails_by_bus (if b then Nothing else match_some r (match_some s Nothing (order_due host.port)) (data_due host.port host.memory)) ≡ false
  out_spares true r s small = refl
  out_spares false None None small = refl
  out_spares false None (Some slot) small = order_spares slot
  out_spares false (Some dev) s small = due_spares dev (context_of host.port.slots dev) (small dev refl) refl

  receiver_low : (dev : ℕ) → next_receiver host.port ≡ Some dev → dev < 16
  unfolding next_receiver
  receiver_low dev h = (Rattle.slots.proofs.Door.lowest_is (Rattle.hba_fbs.specs.Sending.is_due host.port.slots host.port.errors) 16 dev h).below

  spares_port : SparesPort host
  spares_port = record { hears = hears; gives = out_spares (not (is_running host.port)) (next_receiver host.port) (next_to_send host.port) receiver_low }

-- ---- with FIS-based switching

and_false : (a b : Bool) → b ≡ false → (a && b) ≡ false
and_false true b h = h
and_false false b h = refl

never_stops : (host : event.Host) (frame : List ℕ) → SwitchesIfStarted host → Calm (heard_now host.port host.memory (port_of frame) (admitted (port_of frame) (seen frame)))
    → stops_port (port_of frame) host.port host.memory frame ≡ false
never_stops host frame switches calm =
    let n : ℕ = port_of frame in
    let f : Option Fault = (heard_now host.port host.memory n (admitted n (seen frame))).fault in
    elim (cases_Bool host.port.registers.started) [
      | inl on ↦ and_false (not (ignores n host.port frame)) (stops_with host.port.registers.switching f) (stops_as host.port.registers.switching f (switches on) ∙ calm)
      | inr off ↦ halted _ host.port.registers.started _ _ _ _ off
    ]

pub nothing_stops : (host : event.Host) → IsHost host → SwitchesIfStarted host → CanBeRead host → NothingStops host
nothing_stops host is switches read =
    let spares : SparesPort host = spares_port host is read in
    record { takes = λ frame of. never_stops host frame switches (spares.hears frame of); gives = spares.gives }

pub faults_never_stop : FaultsNeverStop
faults_never_stop host is read = (spares_port host is read, λ switches. nothing_stops host is switches read)
