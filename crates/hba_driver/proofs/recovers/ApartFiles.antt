-- For `devices_are_apart`. After the fault of a device was cleared, PxTFD shows that device's task file.
use Rattle.std.proofs.Common.{◌≡◌, ℕ, ◌+◌, ◌*◌, ◌<◌, min, true, bit_and, ◌∙◌, ap, arith}
use Rattle.std.specs.{Prelude.{◌==◌, ◌%◌, ◌/◌}, Int.bit_at}
use Rattle.std.proofs.lemmas.{Bool.eqb-true, Nat.Bits.{bit_at-lt, bit_at_and, bit_at_lowest}}
use Rattle.host_memory.specs.Memory.{Memory}
use Rattle.slots.specs.Slots.{has_bit}
use Rattle.hba_fbs.specs.declared.{register.Register.TheVariants.Fbs, registers.Registers.Registers, state.DeviceState.DeviceState}
use Rattle.hba_fbs.specs.{Offsets.register_at, Reading.{shown_device, value_of}, Registers.written, Views.{Port, state_at, stopped_state, view_of}}
use Rattle.hba_fbs.specs.Writing.{Accepts}
use Rattle.hba_driver.specs.{declared.mode.Mode.TheVariants.Switching, Effects.{ActsAll, clearing}, Sights.{file_shown, shown}}
use Rattle.hba_driver.proofs.{issued.EndingLemmas.{clear_taken, has_en, is_accepted}, modes.ModeLemmas.shown_chosen}

low_bit : (e s : ℕ) → (256 * e + s) % 256 % 2 ≡ s % 2
low_bit e s = omega arith

in_dev : (n : ℕ) → n < 16 → (256 * n + 3) / 256 % 16 ≡ n
in_dev n low = omega (arith, low)

-- PxTFD is that of the device then
pub clearing_shown : (n : ℕ) (old new : Port) (before after : Memory) → n < 16 → old.registers.switching ≡ true → ActsAll (clearing Switching n) old before new after → shown_device new ≡ n
unfolding ActsAll written register_at
clearing_shown n old new before after low on acts =
    let switches : acts.0.registers.switching ≡ true = ap (λ (r : Registers). r.switching) (is_accepted 0x49000000 old acts.0 before acts.1 acts.2).registers ∙ on in
    let accepts : Accepts acts.0 acts.1 Fbs (256 * n + 3) acts.4.0 = acts.4.2.0.accepted (clear_taken n acts.0 acts.1 switches) in
    let now : new.registers ≡ acts.4.0.registers = ap (λ (p : Port). p.registers) acts.4.4.0 in
    let still : new.registers.switching ≡ true = ap (λ (r : Registers). r.switching) now ∙ ap (λ (r : Registers). r.switching) accepts.registers ∙ has_en n in
    shown_chosen new still ∙ ap (λ (r : Registers). r.chosen) now ∙ ap (λ (r : Registers). r.chosen) accepts.registers ∙ in_dev n low

-- clearing the device leaves ERR
file_bit : (state old : DeviceState) → state ≡ stopped_state old → has_bit ((256 * state.error + state.status) % 256) 0 ≡ true → has_bit old.status 0 ≡ true
file_bit state old is h =
    let one : bit_at ((256 * state.error + state.status) % 256) 0 ≡ 1 = eqb-true (bit_at ((256 * state.error + state.status) % 256) 0) 1 h in
    let low : bit_at ((256 * state.error + state.status) % 256) 0 ≡ (256 * state.error + state.status) % 256 % 2 = bit_at_lowest ((256 * state.error + state.status) % 256) in
    let its : bit_at state.status 0 ≡ state.status % 2 = bit_at_lowest state.status in
    let same : (256 * state.error + state.status) % 256 % 2 ≡ state.status % 2 = low_bit state.error state.status in
    let both : bit_at (bit_and old.status 119) 0 ≡ min (bit_at old.status 0) (bit_at 119 0) = bit_at_and old.status 119 0 in
    let there : bit_at state.status 0 ≡ bit_at (bit_and old.status 119) 0 = ap (λ (s : DeviceState). bit_at s.status 0) is in
    let less : bit_at old.status 0 < 2 = bit_at-lt old.status 0 in
    let is_one : bit_at old.status 0 ≡ 1 = omega (arith, one, low, its, same, both, there, less) in
    ap (λ (k : ℕ). k == 1) is_one

pub file_error : (n : ℕ) (port : Port) (old : DeviceState) → shown_device port ≡ n → (view_of n port).state ≡ stopped_state old → has_bit (file_shown port).status 0 ≡ true → has_bit old.status 0 ≡ true
unfolding shown value_of register_at
file_error n port old shows is h = file_bit (state_at port.states (shown_device port)) old (ap (state_at port.states) shows ∙ is) h
