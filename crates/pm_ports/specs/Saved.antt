-- A port as words.
use Rattle.std.specs.Prelude.{ℕ, ◌<◌, ◌^◌, ◌==◌, ◌&&◌, nat_lt, List, Bool, Option, Some, None}
use Rattle.std.proofs.Common.{ap}
use Rattle.saved_state.specs.State.{IsToldApart, KeepsOption, put_number, put_option, put_pair, put_three, number_apart, option_apart, pair_apart, three_apart, parts_apart}
use Rattle.fis_view.specs.Frames.{Stamped}
use Rattle.fis_view.specs.Saved.{KeepsFrame, frame_apart, put_frame}
use Rattle.pm_ports.specs.Port.{IsSound, PortState}

-- the present connection, the last that came and the last that went; and what waits to go up and down
abbrev pub Parts : Type 0
Parts = (Option ℕ × ℕ × ℕ) × (Option Stamped × Option Stamped)

abbrev pub parts_of : PortState → Parts
parts_of port = ((port.present, port.last, port.gone), (port.up, port.down))

abbrev pub put_parts : Parts → List ℕ → List ℕ
put_parts = put_pair (put_three (put_option put_number) put_number put_number) (put_pair (put_option put_frame) (put_option put_frame))

abbrev pub KeepsParts : Parts → Type 0
KeepsParts parts = (KeepsOption (λ n. n < 2 ^ 32) parts.0.0 × (parts.0.1 < 2 ^ 32) × (parts.0.2 < 2 ^ 32))
    × (KeepsOption KeepsFrame parts.1.0 × KeepsOption KeepsFrame parts.1.1)

abbrev pub put_port : PortState → List ℕ → List ℕ
put_port port rest = put_parts (parts_of port) rest

abbrev pub KeepsPort : PortState → Type 0
KeepsPort port = KeepsParts (parts_of port) × IsSound port

-- whether these connections can be those of a port: the one that is present, the last that came, and the last that went
abbrev pub fits : Option ℕ → ℕ → ℕ → Bool
fits (Some conn) last gone = nat_lt 0 conn && conn == last && nat_lt gone conn
fits None last gone = gone == last

abbrev pub fit : Parts → Bool
fit parts = fits parts.0.0 parts.0.1 parts.0.2

-- ---- words are those of one value

pub parts_are_apart : IsToldApart put_parts KeepsParts
parts_are_apart = pair_apart (put_three (put_option put_number) put_number put_number)
    (λ t. KeepsOption (λ n. n < 2 ^ 32) t.0 × (t.1 < 2 ^ 32) × (t.2 < 2 ^ 32))
    (three_apart (put_option put_number) (KeepsOption (λ n. n < 2 ^ 32)) (option_apart put_number (λ n. n < 2 ^ 32) (λ a b x y k l e. number_apart a b x y e))
    put_number (λ n. n < 2 ^ 32) (λ a b x y k l e. number_apart a b x y e)
    put_number (λ n. n < 2 ^ 32) (λ a b x y k l e. number_apart a b x y e))
    (put_pair (put_option put_frame) (put_option put_frame)) (λ p. KeepsOption KeepsFrame p.0 × KeepsOption KeepsFrame p.1)
    (pair_apart (put_option put_frame) (KeepsOption KeepsFrame) (option_apart put_frame KeepsFrame frame_apart)
    (put_option put_frame) (KeepsOption KeepsFrame) (option_apart put_frame KeepsFrame frame_apart))

pub port_apart : IsToldApart put_port KeepsPort
port_apart = parts_apart put_parts KeepsParts KeepsPort parts_of parts_are_apart (λ v k. k.0)
    (λ a b e. ap (λ p. record { present = p.0.0; last = p.0.1; gone = p.0.2; up = p.1.0; down = p.1.1 }) e)
