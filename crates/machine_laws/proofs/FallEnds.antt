-- What is left on its way to a device that begins anew, and where the link is reset.
use Rattle.std.proofs.Common.{◌≡◌, ℕ, zero, suc, Bool, true, false, List, length, get_or, set, replicate, Option, Some, None, refl, sym, ap, ◌∙◌}
use Rattle.std.proofs.{Common.{option_to_list, not, ◌++◌, ◌==◌, append-nil}, lemmas.{Bool.{false≢true, ltb-false}, List.get_or_past}}
use Rattle.std.specs.{Prelude.{if◌then◌else◌, is_some, nat_lt}, Option.option_map}
use Rattle.fis_view.specs.Frames.{Stamped}
use Rattle.pm_ports.specs.Port as port
use Rattle.multiplier.specs.{Rules.with_device, State.{first_port, port_at}}
use Rattle.multiplier.proofs.Door.{kept_part}
use Rattle.fan_out.specs.{FanOuts.renewed_end, Fans.{FanState, all_joined, joined, opening_fan, opening_multiplier, seat_at}, Seats.empty_seat}
use Rattle.fan_out.specs.{Seats.seated, Straights.{StraightState, joined as joined_at, opening_straight, pointed}, declared.fan_out.FanOut.FanOut}
use Rattle.fan_out.specs.declared.{fan_out.FanOut.TheVariants.{Device, Multiplier}, seat.Seat.Seat}
use Rattle.ahci_machine.specs.{Bays.begun, Registers.{link_stays, powered, renewed}, States.{MachineState, bay_at, empty_bay}, declared.bay.Bay.Bay}
use Rattle.machine_laws.proofs.Cases.{this_bay}
use Rattle.machine_laws.proofs.FallFans as fans
use Rattle.machine_laws.specs.{Deeds.{Wrote, Powered}, Falling.{BegunForgets, ResetsEmptyPorts, waits_down, way_to}}

-- ---- a device begins anew

begun_down : (low : Bool) (old new : MachineState) (n : ℕ) → nat_lt n (length old.bays) ≡ low → new.bays ≡ (if low then set old.bays n (begun (bay_at old n)) else old.bays)
    → (bay_at new n).down ≡ None
begun_down true old new n is bays =
    ap (λ (l : List Bay). (get_or l n empty_bay).down) bays ∙ ap (λ (b : Bay). b.down) (this_bay old.bays n (begun (bay_at old n)) is)
begun_down false old new n is bays =
    ap (λ (l : List Bay). (get_or l n empty_bay).down) bays ∙ ap (λ (b : Bay). b.down) (get_or_past old.bays n empty_bay (ltb-false n (length old.bays) is))

pub begun_forgets : BegunForgets
begun_forgets old n new h =
    ap (λ (m : MachineState). way_to m n) h.turns
    ∙ ap (λ (o : Option Stamped). option_to_list o ++ option_to_list (waits_down h.middle.fan n))
    (begun_down (nat_lt n (length old.bays)) old h.middle n refl (ap (λ (m : MachineState). m.bays) h.does.rest))
    ∙ ap option_to_list (fans.tells old.fan (Some n) h.middle.fan h.does.tells n)

-- ---- the link is reset

abbrev down_of : FanState → ℕ → Option Stamped
down_of f n = (port_at f.multiplier n).down

joined_by : (refused : Bool) (f : FanState) (k conn n : ℕ) → down_of f n ≡ None
    → down_of (if refused then f else record { multiplier = with_device f.multiplier k conn; legacy = f.legacy; seats = set f.seats k (seated conn) }) n ≡ None
joined_by true f k conn n none = none
joined_by false f k conn n none = kept_part (λ p. p.down) f.multiplier.ports k (port.with_connection (port_at f.multiplier k) conn) refl n ∙ none

again_by : (there : Bool) (f : FanState) (k n : ℕ) → down_of f n ≡ None → down_of (if there then joined f k 1 else f) n ≡ None
again_by true f k n none = joined_by (is_some (port.came_refusal (port_at f.multiplier k) 1)) f k 1 n none
again_by false f k n none = none

all_none : (seats : List Seat) (count : ℕ) (f : FanState) (n : ℕ) → down_of f n ≡ None → down_of (all_joined seats count f) n ≡ None
all_none seats zero f n none = none
all_none seats (suc k) f n none = again_by (get_or seats k empty_seat).is_there (all_joined seats k f) k n (all_none seats k f n none)

-- a port to which nothing came
of_empty : (count n : ℕ) → get_or (replicate count port.empty_port) n port.empty_port ≡ port.empty_port
of_empty zero n = refl
of_empty (suc k) zero = refl
of_empty (suc k) (suc n) = of_empty k n

first_none : (device : Option ℕ) → (first_port device).down ≡ None
first_none None = refl
first_none (Some conn) = refl

pub opening_none : (legacy is_there : Bool) (ports n : ℕ) → (port_at (opening_multiplier ports legacy is_there) n).down ≡ None
opening_none false is_there ports n = ap (λ (p : port.PortState). p.down) (of_empty 15 n)
opening_none true is_there ports n =
    kept_part (λ p. p.down) (replicate 15 port.empty_port) 0 (first_port (if is_there then Some 1 else None))
    (first_none (if is_there then Some 1 else None) ∙ sym (ap (λ (p : port.PortState). p.down) (of_empty 15 0))) n
    ∙ ap (λ (p : port.PortState). p.down) (of_empty 15 n)

abbrev joined_straight : StraightState
joined_straight = joined_at opening_straight 1

straight_none : (there at_it : Bool) → (if at_it then option_map (pointed 0) (if there then joined_straight else opening_straight).port.down else None) ≡ None
straight_none true true = refl
straight_none false true = refl
straight_none true false = refl
straight_none false false = refl

end_none : (fan : FanOut) (n : ℕ) → waits_down (renewed_end fan) n ≡ None
end_none (Device s) n = straight_none s.seat.is_there (0 == n)
end_none (Multiplier f) n =
    all_none f.seats f.multiplier.registers.ports (opening_fan f.multiplier.registers.ports f.legacy (seat_at f 0).is_there) n
    (opening_none f.legacy (seat_at f 0).is_there f.multiplier.registers.ports n)

emptied : (m : MachineState) (n : ℕ) → way_to (renewed m) n ≡ option_to_list (bay_at m n).down
emptied m n =
    ap (λ (o : Option Stamped). option_to_list (bay_at m n).down ++ option_to_list o) (end_none m.fan n) ∙ append-nil (option_to_list (bay_at m n).down)

powered_emptied : (m : MachineState) (n : ℕ) → way_to (powered m) n ≡ option_to_list (bay_at m n).down
powered_emptied m n =
    ap (λ (o : Option Stamped). option_to_list (bay_at m n).down ++ option_to_list o) (end_none m.fan n) ∙ append-nil (option_to_list (bay_at m n).down)

wrote_by : (b : Bool) (m new : MachineState) (n : ℕ) → b ≡ false → new ≡ (if b then m else renewed m) → way_to new n ≡ option_to_list (bay_at m n).down
wrote_by true m new n off is = absurd (false≢true (sym off))
wrote_by false m new n off is = ap (λ (x : MachineState). way_to x n) is ∙ emptied m n

not_true : (b : Bool) → not b ≡ true → b ≡ false
not_true true h = sym h
not_true false h = refl

pub ports_emptied : ResetsEmptyPorts
ports_emptied old (Wrote offset width value written) new h is n = wrote_by (link_stays written) _ new n (not_true (link_stays written) is) h.rest
ports_emptied old Powered new h is n = ap (λ (m : MachineState). way_to m n) h ∙ powered_emptied old n
ports_emptied old other new h is n = absurd (false≢true is)
