-- A multiplier as words.
use Rattle.std.specs.Prelude.{◌≡◌, ℕ, ◌<◌, ◌^◌, ◌==◌, ◌&&◌, not, nat_le, List, ◌∷◌, length, slice_index, slice_index_or, Bool, true, false, Option}
use Rattle.std.specs.{Prelude.{Some, None, is_some, refl}, Bool.beq, List.{AllByRecursion, list_all, range_with_len}}
use Rattle.std.proofs.Common.{ap, sym, ◌∙◌}
use Rattle.saved_state.specs.State.{IsToldApart, KeepsOption, put_all, put_bool, put_number, put_option, put_pair, put_three, number_apart}
use Rattle.saved_state.specs.State.{bool_apart, all_apart, option_apart, pair_apart, three_apart, parts_apart}
use Rattle.fis_view.specs.{Frames.Stamped, Saved.{KeepsFrame, KeepsStamp, frame_apart, put_frame, put_stamp, stamp_apart}, declared.frame.Stamp.Stamp}
use Rattle.pm_registers.specs.RegisterMap as map
use Rattle.pm_registers.specs.Saved.{KeepsRegisters, put_registers, registers_apart}
use Rattle.pm_ports.specs.Port as port
use Rattle.pm_ports.specs.Saved.{KeepsPort, port_apart, put_port}
use Rattle.multiplier.specs.{Arbiter.control_port, State.{IsSound, PmState, is_answer}, declared.given.Given.{Given, TheVariants.{Up, Down}}}
use Rattle.multiplier.specs.declared.given.Source.{Source, TheVariants.{Held, Answer, Notice}}

-- ---- the frame that was given last

abbrev pub put_source : Source → List ℕ → List ℕ
put_source (Held pm_port) rest = 1 ∷ put_number pm_port rest
put_source Answer rest = 2 ∷ rest
put_source Notice rest = 3 ∷ rest

abbrev pub KeepsSource : Source → Type 0
KeepsSource (Held pm_port) = pm_port < 2 ^ 8
KeepsSource Answer = Unit {0}
KeepsSource Notice = Unit {0}

-- the place served before it, where it came from, and its stamp
abbrev pub put_up : ℕ × Source × Stamp → List ℕ → List ℕ
put_up = put_three put_number put_source put_stamp

abbrev pub KeepsUp : ℕ × Source × Stamp → Type 0
KeepsUp t = (t.0 < 2 ^ 8) × KeepsSource t.1 × KeepsStamp t.2

-- the port of its device, and its stamp
abbrev pub put_down : ℕ × Stamp → List ℕ → List ℕ
put_down = put_pair put_number put_stamp

abbrev pub KeepsDown : ℕ × Stamp → Type 0
KeepsDown p = (p.0 < 2 ^ 8) × KeepsStamp p.1

abbrev pub put_given : Given → List ℕ → List ℕ
put_given (Up before source stamp) rest = 1 ∷ put_up (before, source, stamp) rest
put_given (Down n stamp) rest = 2 ∷ put_down (n, stamp) rest

abbrev pub KeepsGiven : Given → Type 0
KeepsGiven (Up before source stamp) = KeepsUp (before, source, stamp)
KeepsGiven (Down n stamp) = KeepsDown (n, stamp)

-- ---- the whole: the registers, whether a software reset has begun, and the ports; the answer that waits, the place that was
-- served last, and the running number; how many frames were dropped, and the frame that was given last

abbrev pub Parts : Type 0
Parts = (map.RegisterMap × Bool × List port.PortState) × (Option Stamped × ℕ × ℕ) × (ℕ × Option Given)

abbrev pub parts_of : PmState → Parts
parts_of pm = ((pm.registers, pm.resetting, pm.ports), (pm.answer, pm.served, pm.number), (pm.dropped, pm.given))

abbrev pub put_parts : Parts → List ℕ → List ℕ
put_parts = put_three (put_three put_registers put_bool (put_all put_port))
    (put_three (put_option put_frame) put_number put_number) (put_pair put_number (put_option put_given))

abbrev pub KeepsParts : Parts → Type 0
KeepsParts parts = (KeepsRegisters parts.0.0 × Unit {0} × ((length parts.0.2 ≡ 15) × AllByRecursion KeepsPort parts.0.2))
    × (KeepsOption KeepsFrame parts.1.0 × (parts.1.1 < 2 ^ 8) × (parts.1.2 < 2 ^ 32))
    × ((parts.2.0 < 2 ^ 32) × KeepsOption KeepsGiven parts.2.1)

abbrev pub put_multiplier : PmState → List ℕ → List ℕ
put_multiplier pm rest = put_parts (parts_of pm) rest

abbrev pub KeepsMultiplier : PmState → Type 0
KeepsMultiplier pm = KeepsParts (parts_of pm) × IsSound pm

-- ---- what must fit together

-- a frame that waits to go up is stamped with its port, and its connection is not gone
abbrev pub up_fits : ℕ → ℕ → Option Stamped → Bool
up_fits n gone None = true
up_fits n gone (Some frame) = frame.stamp.port == n && not (port.is_up_to gone frame.stamp.conn)

-- a frame that waits to go down is for the connection that is present
abbrev pub down_fits : Option ℕ → Option Stamped → Bool
down_fits present None = true
down_fits None (Some frame) = false
down_fits (Some conn) (Some frame) = frame.stamp.conn == conn

-- a port, and whether the registers show a device at it
abbrev pub port_fits : ℕ → Bool → port.PortState → Bool
port_fits n shown p = beq shown (is_some p.present) && up_fits n p.gone p.up && down_fits p.present p.down

abbrev pub fits_at : map.RegisterMap → List port.PortState → ℕ → Bool
fits_at registers ports n = port_fits n (map.port_at registers n).present (slice_index_or ports n port.empty_port)

unfoldable pub ports_fit : map.RegisterMap → List port.PortState → Bool
ports_fit registers ports = list_all (fits_at registers ports) (range_with_len 0 15)

-- the connections whose removals a stamp shows are gone
abbrev pub removal_fits : List port.PortState → List ℕ → ℕ → Bool
removal_fits ports shown n = nat_le (slice_index shown n) (slice_index_or ports n port.empty_port).gone

unfoldable pub removals_fit : List port.PortState → List ℕ → Bool
removals_fit ports shown = list_all (removal_fits ports shown) (range_with_len 0 15)

abbrev pub answer_fits : List port.PortState → Option Stamped → Bool
answer_fits ports None = true
answer_fits ports (Some frame) = is_answer frame && removals_fit ports frame.stamp.shown

-- the place before the one that was served is a device port or the control port
abbrev pub given_fits : Option Given → Bool
given_fits None = true
given_fits (Some (Up before source stamp)) = nat_le before control_port
given_fits (Some (Down n stamp)) = true

abbrev pub fits : map.RegisterMap → List port.PortState → Option Stamped → ℕ → Option Given → Bool
fits registers ports answer served given =
    nat_le served control_port && ports_fit registers ports && answer_fits ports answer && given_fits given

abbrev pub parts_fit : Parts → Bool
parts_fit parts = fits parts.0.0 parts.0.2 parts.1.0 parts.1.1 parts.2.1

-- ---- words are those of one value

pub source_apart : IsToldApart put_source KeepsSource
source_apart (Held a) (Held b) x y k l e = let same : a ≡ b = cc in (ap Held same, cc)
source_apart Answer Answer x y k l e = (refl, cc)
source_apart Notice Notice x y k l e = (refl, cc)
source_apart (Held a) Answer x y k l e = absurd (cc)
source_apart (Held a) Notice x y k l e = absurd (cc)
source_apart Answer (Held b) x y k l e = absurd (cc)
source_apart Answer Notice x y k l e = absurd (cc)
source_apart Notice (Held b) x y k l e = absurd (cc)
source_apart Notice Answer x y k l e = absurd (cc)

pub up_apart : IsToldApart put_up KeepsUp
up_apart = three_apart put_number (λ n. n < 2 ^ 8) (λ a b x y k l e. number_apart a b x y e) put_source KeepsSource source_apart
    put_stamp KeepsStamp stamp_apart

pub down_apart : IsToldApart put_down KeepsDown
down_apart = pair_apart put_number (λ n. n < 2 ^ 8) (λ a b x y k l e. number_apart a b x y e) put_stamp KeepsStamp stamp_apart

pub given_apart : IsToldApart put_given KeepsGiven
given_apart (Up a s i) (Up b t j) x y k l e =
    let inner : put_up (a, s, i) x ≡ put_up (b, t, j) y = cc in
    let both = up_apart (a, s, i) (b, t, j) x y k l inner in (ap (λ t. Up t.0 t.1 t.2) both.0, both.1)
given_apart (Down a i) (Down b j) x y k l e =
    let inner : put_down (a, i) x ≡ put_down (b, j) y = cc in
    let both = down_apart (a, i) (b, j) x y k l inner in (ap (λ p. Down p.0 p.1) both.0, both.1)
given_apart (Up a s i) (Down b j) x y k l e = absurd (cc)
given_apart (Down a i) (Up b t j) x y k l e = absurd (cc)

pub parts_are_apart : IsToldApart put_parts KeepsParts
parts_are_apart = three_apart (put_three put_registers put_bool (put_all put_port))
    (λ t. KeepsRegisters t.0 × Unit {0} × ((length t.2 ≡ 15) × AllByRecursion KeepsPort t.2))
    (three_apart put_registers KeepsRegisters registers_apart put_bool (λ _. Unit {0}) (λ a b x y k l e. bool_apart a b x y e)
    (put_all put_port) (λ all. (length all ≡ 15) × AllByRecursion KeepsPort all)
    (λ a b x y k l e. all_apart put_port KeepsPort port_apart a b x y (k.0 ∙ sym l.0) k.1 l.1 e))
    (put_three (put_option put_frame) put_number put_number)
    (λ t. KeepsOption KeepsFrame t.0 × (t.1 < 2 ^ 8) × (t.2 < 2 ^ 32))
    (three_apart (put_option put_frame) (KeepsOption KeepsFrame) (option_apart put_frame KeepsFrame frame_apart)
    put_number (λ n. n < 2 ^ 8) (λ a b x y k l e. number_apart a b x y e)
    put_number (λ n. n < 2 ^ 32) (λ a b x y k l e. number_apart a b x y e))
    (put_pair put_number (put_option put_given)) (λ p. (p.0 < 2 ^ 32) × KeepsOption KeepsGiven p.1)
    (pair_apart put_number (λ n. n < 2 ^ 32) (λ a b x y k l e. number_apart a b x y e)
    (put_option put_given) (KeepsOption KeepsGiven) (option_apart put_given KeepsGiven given_apart))

pub multiplier_apart : IsToldApart put_multiplier KeepsMultiplier
multiplier_apart = parts_apart put_parts KeepsParts KeepsMultiplier parts_of parts_are_apart (λ v k. k.0)
    (λ a b e. ap (λ p. record {
      registers = p.0.0;
      resetting = p.0.1;
      ports = p.0.2;
      answer = p.1.0;
      served = p.1.1;
      number = p.1.2;
      dropped = p.2.0;
      given = p.2.1;
    }) e)
