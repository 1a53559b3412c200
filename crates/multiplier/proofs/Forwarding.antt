-- A port that forwards has a connection.
use Rattle.std.proofs.{Common.{◌≡◌, ℕ, ◌==◌, ◌&&◌, true, sym, ◌∙◌}, lemmas.Bool.{eqb-true}}
use Rattle.std.specs.Prelude.{bit_and, is_some, nat_lt}
use Rattle.pm_registers.specs.{declared.port.PortRegisters.PortRegisters, Port.{bit_x, det, is_open, passes}}
use Rattle.pm_registers.specs.RegisterMap as map
use Rattle.multiplier.specs.State.{PmState, IsSound, port_at}
use Rattle.multiplier.proofs.UpSteps.{both_by}

pub forwards_present : (pm : PmState) (n : ℕ) → IsSound pm → map.forwards pm.registers n ≡ true → is_some (port_at pm n).present ≡ true
forwards_present pm n sound is =
    let p : PortRegisters = map.port_at pm.registers n in
    let lets : passes p ≡ true = (both_by (nat_lt n pm.registers.ports) (passes p) is).1 in
    let shows : (is_open p && det p.status == 3) ≡ true = (both_by (is_open p && det p.status == 3) (bit_and p.error bit_x == 0) lets).0 in
    let device : det p.status ≡ 3 = eqb-true (det p.status) 3 (both_by (is_open p) (det p.status == 3) shows).1 in
    let there : p.present ≡ true = (sound.registers.shown n device).1 in
    sym (sound.ports n).agrees ∙ there
