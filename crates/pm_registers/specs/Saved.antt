-- The registers of a multiplier as words.
use Rattle.std.specs.{Prelude.{◌≡◌, ℕ, ◌<◌, ◌^◌, ◌==◌, ◌&&◌, ◌||◌, not, nat_le, List, length, Bool}, List.{AllByRecursion, list_all}}
use Rattle.std.proofs.Common.{ap, sym, ◌∙◌}
use Rattle.saved_state.specs.State.{IsToldApart, put_all, put_bool, put_number, put_pair, put_three, number_apart, bool_apart, all_apart, pair_apart}
use Rattle.saved_state.specs.State.{three_apart, parts_apart}
use Rattle.pm_registers.specs.{declared.port.PortRegisters.PortRegisters, Port.{det, is_open}, RegisterMap.{IsSound, RegisterMap}}

-- ---- one port: SStatus, SError, SControl, and whether a device is present

abbrev pub PortParts : Type 0
PortParts = ℕ × ℕ × (ℕ × Bool)

abbrev pub port_parts : PortRegisters → PortParts
port_parts p = (p.status, p.error, (p.control, p.present))

abbrev pub put_port_parts : PortParts → List ℕ → List ℕ
put_port_parts = put_three put_number put_number (put_pair put_number put_bool)

abbrev pub KeepsPortParts : PortParts → Type 0
KeepsPortParts parts = (parts.0 < 2 ^ 32) × (parts.1 < 2 ^ 32) × ((parts.2.0 < 2 ^ 32) × Unit {0})

abbrev pub put_port : PortRegisters → List ℕ → List ℕ
put_port p rest = put_port_parts (port_parts p) rest

abbrev pub KeepsPort : PortRegisters → Type 0
KeepsPort p = KeepsPortParts (port_parts p)

-- whether SStatus shows that communication is established only where the port is open and a device is present
abbrev pub shows_truly : PortRegisters → Bool
shows_truly p = not (det p.status == 3) || is_open p && p.present

-- ---- all: how many ports there are, GSCR[33] and GSCR[96], the ports, and whether a notification is due

abbrev pub RegisterParts : Type 0
RegisterParts = (ℕ × ℕ × ℕ) × (List PortRegisters × Bool)

abbrev pub register_parts : RegisterMap → RegisterParts
register_parts m = ((m.ports, m.mask, m.enabled), (m.bank, m.due))

abbrev pub put_register_parts : RegisterParts → List ℕ → List ℕ
put_register_parts = put_pair (put_three put_number put_number put_number) (put_pair (put_all put_port) put_bool)

abbrev pub KeepsRegisterParts : RegisterParts → Type 0
KeepsRegisterParts parts = ((parts.0.0 < 2 ^ 8) × (parts.0.1 < 2 ^ 32) × (parts.0.2 < 2 ^ 32))
    × (((length parts.1.0 ≡ 15) × AllByRecursion KeepsPort parts.1.0) × Unit {0})

abbrev pub put_registers : RegisterMap → List ℕ → List ℕ
put_registers m rest = put_register_parts (register_parts m) rest

abbrev pub KeepsRegisters : RegisterMap → Type 0
KeepsRegisters m = KeepsRegisterParts (register_parts m) × IsSound m

-- whether there can be so many ports, and each shows its device truly
abbrev pub fits : ℕ → List PortRegisters → Bool
fits ports bank = nat_le ports 15 && list_all shows_truly bank

abbrev pub parts_fit : RegisterParts → Bool
parts_fit parts = fits parts.0.0 parts.1.0

-- ---- words are those of one value

pub port_parts_apart : IsToldApart put_port_parts KeepsPortParts
port_parts_apart = three_apart put_number (λ n. n < 2 ^ 32) (λ a b x y k l e. number_apart a b x y e)
    put_number (λ n. n < 2 ^ 32) (λ a b x y k l e. number_apart a b x y e)
    (put_pair put_number put_bool) (λ p. (p.0 < 2 ^ 32) × Unit {0})
    (pair_apart put_number (λ n. n < 2 ^ 32) (λ a b x y k l e. number_apart a b x y e)
    put_bool (λ _. Unit {0}) (λ a b x y k l e. bool_apart a b x y e))

pub port_apart : IsToldApart put_port KeepsPort
port_apart = parts_apart put_port_parts KeepsPortParts KeepsPort port_parts port_parts_apart (λ v k. k)
    (λ a b e. ap (λ p. record { status = p.0; error = p.1; control = p.2.0; present = p.2.1 }) e)

pub register_parts_apart : IsToldApart put_register_parts KeepsRegisterParts
register_parts_apart = pair_apart (put_three put_number put_number put_number) (λ t. (t.0 < 2 ^ 8) × (t.1 < 2 ^ 32) × (t.2 < 2 ^ 32))
    (three_apart put_number (λ n. n < 2 ^ 8) (λ a b x y k l e. number_apart a b x y e)
    put_number (λ n. n < 2 ^ 32) (λ a b x y k l e. number_apart a b x y e)
    put_number (λ n. n < 2 ^ 32) (λ a b x y k l e. number_apart a b x y e))
    (put_pair (put_all put_port) put_bool) (λ p. ((length p.0 ≡ 15) × AllByRecursion KeepsPort p.0) × Unit {0})
    (pair_apart (put_all put_port) (λ all. (length all ≡ 15) × AllByRecursion KeepsPort all)
    (λ a b x y k l e. all_apart put_port KeepsPort port_apart a b x y (k.0 ∙ sym l.0) k.1 l.1 e)
    put_bool (λ _. Unit {0}) (λ a b x y k l e. bool_apart a b x y e))

pub registers_apart : IsToldApart put_registers KeepsRegisters
registers_apart = parts_apart put_register_parts KeepsRegisterParts KeepsRegisters register_parts register_parts_apart (λ v k. k.0)
    (λ a b e. ap (λ p. record { ports = p.0.0; mask = p.0.1; enabled = p.0.2; bank = p.1.0; due = p.1.1 }) e)
