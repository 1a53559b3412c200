-- What the multiplier's thread does. There is one list of calls of the multiplier. The lists of its
-- seats are projections of it, and the multiplier is its outcome.
use Rattle.std.specs.{Prelude.{◌≡◌, ℕ, zero, suc, ◌≤◌, ◌==◌, if◌then◌else◌, List, [], ◌∷◌, ◌++◌, length, map, Option, Ok}, List.flat_map}
use Rattle.std.specs.Option.{option_to_list}
use Rattle.atomic_table.specs.Seated.{TableId}
use Rattle.fis_view.specs.Frames.{Stamped}
use Rattle.ruled_links.specs.Links.{Seat}
use Rattle.link_items.specs.declared.items.Presence.{Presence}
use Rattle.link_items.specs.declared.items.Presence.TheVariants as presence
use Rattle.multiplier.specs.{Orders.InDeviceOrder, State.{PmState, opening}, Passing.{Call, FromHost, Came, Gone, DoesAll, Past, all_past, to_port}}
use Rattle.multiplier.specs.Stamping.{taken_of}

-- ---- the worker, as contracts see it

-- the seats at one device port
pub record PortSeats : Type 0 where
  -- FISes for the device
  pub commands : Seat Stamped
  -- FISes of the device
  pub frames : Seat Stamped
  -- its connections, as they come and go
  pub presence : Seat Presence

pub record PmView : Type 0 where
  pub pm : PmState
  -- the seats of port n at place n
  pub ports : List PortSeats
  -- FISes for the host
  pub host : Seat Stamped
  -- FISes of the host
  pub commands : Seat Stamped
  -- a FIS of the host that the multiplier has not taken
  pub hand : Option Stamped

-- ---- which links they are

pub record LinkEnd : Type 0 where
  pub link : TableId
  pub room : ℕ

abbrev pub end_of : {T : Type 0} → Seat T → LinkEnd
end_of s = record { link = s.link; room = s.room }

pub record PortEnds : Type 0 where
  pub commands : LinkEnd
  pub frames : LinkEnd
  pub presence : LinkEnd

abbrev pub ends_of : PortSeats → PortEnds
ends_of p =
    record { commands = end_of p.commands; frames = end_of p.frames; presence = end_of p.presence }

-- the seats are of the same links
pub record SameLinks (old new : PmView) : Type 0 where
  pub ports : map ends_of new.ports ≡ map ends_of old.ports
  pub host : end_of new.host ≡ end_of old.host
  pub commands : end_of new.commands ≡ end_of old.commands

-- nothing went over these
pub record IsUnused (p : PortSeats) : Type 0 where
  pub commands : p.commands.sent ≡ []
  pub frames : p.frames.taken ≡ []
  pub presence : p.presence.taken ≡ []

-- ---- what went over the links of port n

-- a list of the seats of port n; empty if there is no such port
abbrev pub at_port : {A : Type 0} → (PortSeats → List A) → List PortSeats → ℕ → List A
at_port part [] n = []
at_port part (p ∷ ports) zero = part p
at_port part (p ∷ ports) (suc n) = at_port part ports n

-- the FISes of its device that were taken
abbrev pub frames_at : List PortSeats → ℕ → List Stamped
frames_at ports n = at_port (λ p. p.frames.taken) ports n

-- the FISes for its device that were sent
abbrev pub commands_at : List PortSeats → ℕ → List Stamped
commands_at ports n = at_port (λ p. p.commands.sent) ports n

-- the connections that came and went
abbrev pub presence_at : List PortSeats → ℕ → List Presence
presence_at ports n = at_port (λ p. p.presence.taken) ports n

-- ---- calls

-- what a call tells port n of its connections, taken or refused
abbrev pub told_by : ℕ → Call → List Presence
told_by n (Came m conn result) = if m == n then presence.Came conn ∷ [] else []
told_by n (Gone m conn result up down) = if m == n then presence.Gone conn ∷ [] else []
told_by n _ = []

abbrev pub told_of : ℕ → List Call → List Presence
told_of n calls = flat_map (told_by n) calls

-- the FIS of the host that a call took
abbrev pub heard_by : Call → List Stamped
heard_by (FromHost frame (Ok passed) made) = frame ∷ []
heard_by _ = []

abbrev pub heard_of : List Call → List Stamped
heard_of calls = flat_map heard_by calls

-- nothing passed before
abbrev pub none_past : Past
none_past = record { up = []; down = []; made = [] }

-- ---- the run

-- There is one list of calls, from a new multiplier to this one. Port by port, in their order, the
-- calls took what was taken of the device, and were told the connections that came and went. What was
-- taken of the host is what the calls took of it, and then the FIS in the hand. What they gave and
-- did not take back is what was sent to the host, and to each device.
pub record IsRun (w : PmView) : Type 0 where
  pub calls : List Call
  pub does : DoesAll none_past (opening (length w.ports)) calls w.pm
  pub frames : (n : ℕ) → frames_at w.ports n ≡ taken_of n calls
  pub presence : (n : ℕ) → presence_at w.ports n ≡ told_of n calls
  pub commands : w.commands.taken ≡ heard_of calls ++ option_to_list w.hand
  pub up : w.host.sent ≡ (all_past none_past calls).up
  pub down : (n : ℕ) → commands_at w.ports n ≡ to_port n (all_past none_past calls).down

-- What is true of the worker at each moment: it is a run, on FISes of devices that came in order.
pub record IsSound (w : PmView) : Type 0 where
  pub some : 1 ≤ length w.ports
  pub few : length w.ports ≤ 15
  pub count : w.pm.registers.ports ≡ length w.ports
  pub order : (n : ℕ) → InDeviceOrder (frames_at w.ports n)
  pub run : IsRun w
