-- For `pushes_serve_on`. What begins and ends a device's software reset at the port: neither what it sends nor a
-- command begins one.
use Rattle.std.proofs.Common.{◌≡◌, ℕ, ◌+◌, ◌*◌, ◌-◌, ◌<◌, Bool, true, false, ◌||◌, List, length, refl, sym, ◌∙◌, ap, arith, Option, Some, None}
use Rattle.std.proofs.lemmas.{Bool.true≢false, Nat.Bits.bit_at-lt}
use Rattle.std.specs.{Prelude.{◌==◌, ◌%◌, if◌then◌else◌, is_some, not, nat_lt, bit_or, slice_index, Result, Ok, Err}, Int.bit_at}
use Rattle.fis_view.specs.{Bits.{bit, bits}, Built.{IsBuilt, cut, h2d_given}, Seen.seen, Table.{H2d, field, places, spelled}}
use Rattle.fis_view.specs.declared.{build.H2dFields.H2dFields, view.Fis.Fis}
use Rattle.fis_view.specs.Table as table
use Rattle.fis_view.specs.declared.view.Fis.TheVariants as view
use Rattle.hba_commands.specs.declared.command.Command.{Command}
use Rattle.slots.specs.{Data.{after_arrive, may_activate}, Setup.{out_setup, pio_fault, pio_issue}, Slots.{DeviceSlots, has_bit, is_control}}
use Rattle.slots.specs.{Slots.{match_some, sent_pio}, declared.{answer.SetupError.SetupError, table.Context.Context}}
use Rattle.port_errors.specs.declared.cause.DeviceCause.TheVariants as cause
use Rattle.hba_fbs.specs.declared.{hearing.{Happening.Happening, Heard.Heard}, report.{TakeReport.TakeReport, Wrote.Wrote}}
use Rattle.hba_fbs.specs.{declared.{state.DeviceState.DeviceState, status.Block.Block}, Hearing.{bus_failed, faulty, heard_activate, heard_bits}}
use Rattle.hba_fbs.specs.Hearing.{heard_bytes, heard_d2h, heard_data_of, heard_fis, heard_out, heard_pio, heard_register, overflowed, set_up}
use Rattle.hba_fbs.specs.{Sending.{resets, state_sent}, Status.{is_busy, is_error, with_file}, Tables.is_sound, Taking.{admitted, heard, ignores}}
use Rattle.hba_fbs.specs.{Taking.port_of, Views.{DeviceView, view_of}}
use Rattle.hba_laws.specs.Hosts.{Host, TakesFrame}
use Rattle.disk_simulation.specs.{Anew.IsSignedWell, Heard.IsTakenWell}
use Rattle.disk_simulation.proofs.Door.{view_signed}
use Rattle.hba_driver.proofs.Door.{either}

-- ---- what a device sends

abbrev Off : Heard → Type 0
Off h = h.state.resetting ≡ false

module _ (own : DeviceSlots) (state : DeviceState) (off : state.resetting ≡ false) where
  d2h_off : (status error : ℕ) → Off (heard_d2h own state status error)
  d2h_off status error = either Off (is_error status) _ _ off (either Off (is_busy status) _ _ off off)

  register_off : (status error : ℕ) → Off (heard_register own state status error)
  register_off status error = either Off state.resetting _ _ refl (d2h_off status error)

  bits_off : (status error mask : ℕ) → Off (heard_bits own state status error mask)
  bits_off status error mask = either Off (is_error status) _ _ off off

  set_up_off : (o : Option SetupError) (block : Option Block) (h : Happening) → Off (set_up o state block h)
  set_up_off None block h = off
  set_up_off (Some e) block h = off

  activate_off : Off (heard_activate own state)
  activate_off = either Off (may_activate own.context) _ _ off off

  bytes_off : (part : DeviceSlots) (wrote : Wrote) (o : Option Block) (last : Bool) → Off (heard_bytes part state wrote o last)
  bytes_off part wrote None last = off
  bytes_off part wrote (Some block) true = off
  bytes_off part wrote (Some block) false = off

  data_off_of : (sound : Bool) (count : ℕ) (c : Context) → Off (heard_data_of own state sound count c)
  data_off_of sound count c =
      either Off (not c.to_host) (faulty state cause.Stray) _ off
      (either Off (not sound) (bus_failed state) _ off
      (either Off (nat_lt c.left count) (overflowed state) _ off (bytes_off (after_arrive own count) (record { slot = c.slot; offset = c.next; len = count }) state.block (c.left == count))))

  data_off : (sound : Bool) (count : ℕ) (o : Option Context) → Off (match_some o (faulty state cause.Stray) (heard_data_of own state sound count))
  data_off sound count None = off
  data_off sound count (Some c) = data_off_of sound count c

out_off : (state : DeviceState) (off : state.resetting ≡ false) (block : Block) (r : Result Context SetupError) → Off (heard_out state block r)
out_off state off block (Ok c) = off
out_off state off block (Err e) = off

pio_off : (own : DeviceSlots) (state : DeviceState) (off : state.resetting ≡ false) (status error count : ℕ) (to_host : Bool) (block : Block) → Off (heard_pio own state status error count to_host block)
pio_off own state off status error count to_host block =
    either Off (is_error status) _ _ off (either Off (is_some (sent_pio own)) _ _ (set_up_off own _ off (pio_fault (pio_issue own) count to_host) _ _) (out_off (with_file state status error) off block (out_setup own count to_host)))

fis_off : (own : DeviceSlots) (state : DeviceState) (sound : Bool) (fis : Fis) → state.resetting ≡ false → Off (heard_fis own state sound fis)
unfolding heard_fis
fis_off own state sound (view.RegD2H f) off = register_off own state off (field table.D2h table.Status f) (field table.D2h table.Error f)
fis_off own state sound (view.SetBits f) off = bits_off own state off _ _ _
fis_off own state sound (view.DmaActivate f) off = activate_off own state off
fis_off own state sound (view.DmaSetup f) off = set_up_off own state off _ _ _
fis_off own state sound (view.PioSetup f) off = pio_off own state off _ _ _ _ _
fis_off own state sound (view.Payload f) off = data_off own state off sound (length f - 4) own.context
fis_off own state sound other off = off

heard_off : (n : ℕ) (v : DeviceView) (sound : Bool) (o : Option Fis) → v.state.resetting ≡ false → Off (heard n v sound o)
heard_off n v sound None off = off
heard_off n v sound (Some fis) off = fis_off v.slots v.state sound fis off

not_ignored : (host new : Host) (frame : List ℕ) (report : TakeReport) (b : Bool) → ignores (port_of frame) host.port frame ≡ b → TakesFrame host frame report new → report.ignored ≡ false → b ≡ false
not_ignored host new frame report false is takes well = refl
not_ignored host new frame report true is takes well = absurd (true≢false (sym (ap (λ (r : TakeReport). r.ignored) (takes.ignored is).reports) ∙ well))

-- it begins no software reset
pub taken_unreset : (host new : Host) (frame : List ℕ) (report : TakeReport) → IsTakenWell host frame report new → (view_of (port_of frame) new.port).state.resetting ≡ false
taken_unreset host new frame report well =
    let takes : TakesFrame host frame report new = well.takes in
    let goes : ignores (port_of frame) host.port frame ≡ false = not_ignored host new frame report (ignores (port_of frame) host.port frame) refl takes well.heard in
    let v : DeviceView = view_of (port_of frame) host.port in
    ap (λ (w : DeviceView). w.state.resetting) (takes.heard goes).own
    ∙ heard_off (port_of frame) v (is_sound host.memory host.port.commands v.slots) (admitted (port_of frame) (seen frame)) well.steady

-- its signature ends one
pub signed_unreset : (host new : Host) (frame : List ℕ) (report : TakeReport) → IsSignedWell host frame report new → (view_of (port_of frame) new.port).state.resetting ≡ false
signed_unreset host new frame report well = ap (λ (w : DeviceView). w.state.resetting) (view_signed host new frame report well)

-- ---- what goes out

no_third : (f : List ℕ) → bits f 120 8 ≡ 0 → has_bit (slice_index f 15) 2 ≡ false
unfolding bits
no_third f is =
    let a : bit f 120 < 2 = bit_at-lt (slice_index f 15) 0 in
    let b : bit f 121 < 2 = bit_at-lt (slice_index f 15) 1 in
    let c : bit f 122 < 2 = bit_at-lt (slice_index f 15) 2 in
    let third : bit_at (slice_index f 15) 2 ≡ 0 = omega (arith, is, a, b, c) in
    ap (λ (k : ℕ). k == 1) third

-- a command sets no SRST
pub resets_none : (fields : H2dFields) (cfis : List ℕ) → fields.control ≡ 0 → IsBuilt H2d (h2d_given fields) cfis → resets cfis ≡ false
unfolding field places spelled cut
resets_none fields cfis zero_is built =
    let is : bits cfis 120 8 + 256 * 0 ≡ fields.control % 256 + 256 * 0 = built.fields table.Control in
    no_third cfis (omega (arith, is, zero_is))

or_none : (a b : Bool) → b ≡ false → (a || b) ≡ a
or_none true b h = refl
or_none false b h = h

state_by : (state : DeviceState) (command : Command) (b : Bool) → resets command.cfis ≡ false
    → (if b then record state { resetting = state.resetting || resets command.cfis } else record state { status = bit_or state.status 128 }).resetting ≡ state.resetting
state_by state command true none = or_none state.resetting (resets command.cfis) none
state_by state command false none = refl

pub sent_state : (state : DeviceState) (command : Command) → resets command.cfis ≡ false → (state_sent state command).resetting ≡ state.resetting
sent_state state command none = state_by state command (is_control command.work.kind) none
