-- Frames pass a multiplier in order, and what it took is passed, held or dropped by a removal (Serial ATA 3.x,
-- 16.3, port multiplier: frame transmission). This holds for any sound multiplier, whatever frames passed before.
use Rattle.std.specs.Prelude.{◌≡◌, ◌≢◌, ℕ, ◌-◌, ◌<◌, ◌≤◌, ◌==◌, ◌&&◌, max, false, true, if◌then◌else◌, List, [], ◌∷◌, ◌++◌, All, length, map}
use Rattle.std.specs.{Prelude.{slice_index, take, Option, Some, None, Result, Ok}, List.{filter, flat_map, Sorted.IsNonDecreasingBy}}
use Rattle.std.specs.{Option.option_to_list, declared.alloc.AllocError.AllocError}
use Rattle.fis_view.specs.Frames.{Stamped}
use Rattle.pm_ports.specs.{declared.port.{Offered.{Offered, TheVariants.Held as Kept}, GoneError.GoneError, PortError.PortError}, Port.is_gone}
use Rattle.multiplier.specs.{State.{PmState, IsSound, counted, falling, is_answer, is_notice, port_at, ready, rising}, Rules.CameRule}
use Rattle.multiplier.specs.Rules.{CanPutBackDown, CanPutBackUp, FromDeviceRule, FromHostRule, GoneRule, NextDownRule, NextUpRule, UndoesDown}
use Rattle.multiplier.specs.{Rules.UndoesUp, declared.multiplier.{Passed.Passed, PmRefusal.PmRefusal}}
use Rattle.multiplier.specs.declared.multiplier.Passed.TheVariants as passed

-- ---- calls

-- a call, with its result
pub data Call : Type 0 where
  -- this frame of the host was taken or given back, and the answer that was made to it
  FromHost : Stamped → Result Passed (Stamped × PmRefusal) → Option Stamped → Call
  -- this frame of the device at port n was taken or given back
  FromDevice : (n : ℕ) → Stamped → Result Offered Stamped → Call
  -- a device came to port n, as this connection, or was refused
  Came : (n conn : ℕ) → Result (Unit {0}) PortError → Call
  -- the device of port n went, or its removal was refused; and the frames that were dropped on the way up and
  -- on the way down
  Gone : (n conn : ℕ) → Result (Unit {0}) GoneError → (up down : Option Stamped) → Call
  -- the next frame for the host was asked for
  NextUp : Result (Option Stamped) AllocError → Call
  -- this one was put back
  PutBackUp : Stamped → Call
  -- the next frame for the device at port n was asked for
  NextDown : (n : ℕ) → Option Stamped → Call
  -- this one was put back
  PutBackDown : (n : ℕ) → Stamped → Call

-- the answer that a frame of the host left in its place
abbrev pub made_by : Result Passed (Stamped × PmRefusal) → PmState → Option Stamped
made_by (Ok passed.Control) new = new.answer
made_by result new = None

-- the frame that was in a place and is not there any more
abbrev pub lost_from : Option Stamped → Option Stamped → Option Stamped
lost_from was None = was
lost_from was (Some frame) = None

-- what the call requires and what it leaves, as in its contract
abbrev pub Does : PmState → Call → PmState → Type 0
Does old (FromHost frame result made) new = FromHostRule old frame result new × (made ≡ made_by result new)
Does old (FromDevice n frame result) new = (n < old.registers.ports) × FromDeviceRule old n frame result new
Does old (Came n conn result) new = (n < old.registers.ports) × CameRule old n conn result new
Does old (Gone n conn result up down) new =
    (n < old.registers.ports) × GoneRule old n conn result new
    × (up ≡ lost_from (port_at old n).up (port_at new n).up)
    × (down ≡ lost_from (port_at old n).down (port_at new n).down)
Does old (NextUp result) new = NextUpRule old result new
Does old (PutBackUp frame) new = CanPutBackUp old frame × UndoesUp old frame new
Does old (NextDown n result) new = (n < old.registers.ports) × NextDownRule old n result new
Does old (PutBackDown n frame) new = CanPutBackDown old n frame × UndoesDown old n frame new

-- ---- what passed

-- the frames that were given and not put back, those for a device with its port; and the frames of the
-- control port that were made, a notification at the moment it is given; all in order
pub record Past : Type 0 where
  pub up : List Stamped
  pub down : List (ℕ × Stamped)
  pub made : List Stamped

abbrev pub but_last : {A : Type 0} → List A → List A
but_last xs = take (length xs - 1) xs

abbrev pub past_after : Past → Call → Past
past_after past (FromHost frame result made) = record past { made = past.made ++ option_to_list made }
past_after past (NextUp (Ok (Some frame))) = record past {
  up = past.up ++ frame ∷ [];
  made = (if is_notice frame then past.made ++ frame ∷ [] else past.made);
}
past_after past (PutBackUp frame) = record past {
  up = but_last past.up;
  made = (if is_notice frame then but_last past.made else past.made);
}
past_after past (NextDown n (Some frame)) = record past { down = past.down ++ (n, frame) ∷ [] }
past_after past (PutBackDown n frame) = record past { down = but_last past.down }
past_after past _ = past

abbrev pub EndsWith : {A : Type 0} → List A → A → Type 0
EndsWith {A} xs x = (front : List A) × (xs ≡ front ++ x ∷ [])

-- a frame that is put back is the one given last; a notification is also the frame made last
abbrev pub Suits : Past → Call → Type 0
Suits past (PutBackUp frame) = EndsWith past.up frame × (is_notice frame ≡ true → EndsWith past.made frame)
Suits past (PutBackDown n frame) = EndsWith past.down (n, frame)
Suits past _ = Unit {0}

-- one call after another, by a rule that says what each call does
abbrev pub Runs : (PmState → Call → PmState → Type 0) → Past → PmState → List Call → PmState → Type 0
Runs Rule past old [] new = new ≡ old
Runs Rule past old (call ∷ calls) new =
    (mid : PmState) × Suits past call × Rule old call mid × Runs Rule (past_after past call) mid calls new

abbrev pub DoesAll : Past → PmState → List Call → PmState → Type 0
DoesAll past old calls new = Runs Does past old calls new

abbrev pub all_past : Past → List Call → Past
all_past past [] = past
all_past past (call ∷ calls) = all_past (past_after past call) calls

-- ---- up

-- the frames of connection c of port n, by their stamps
abbrev pub of_conn : ℕ → ℕ → List Stamped → List Stamped
of_conn n c frames = filter (λ frame. frame.stamp.port == n && frame.stamp.conn == c) frames

-- what port n holds, as it goes up
abbrev pub held_of : ℕ → ℕ → PmState → List Stamped
held_of n c pm = of_conn n c (map (rising n) (option_to_list (port_at pm n).up))

-- what a call took from the device at port n, as it goes up
abbrev pub came_by : ℕ → ℕ → Call → List Stamped
came_by n c (FromDevice m frame (Ok Kept)) = if m == n then of_conn n c (rising n frame ∷ []) else []
came_by n c _ = []

abbrev pub came_in : ℕ → ℕ → List Call → List Stamped
came_in n c calls = flat_map (came_by n c) calls

-- what a removal dropped of the frame that port n held, as it would have gone up
abbrev pub lost_up_by : ℕ → ℕ → Call → List Stamped
lost_up_by n c (Gone m conn result up down) =
    if m == n then of_conn n c (map (rising n) (option_to_list up)) else []
lost_up_by n c _ = []

abbrev pub lost_up : ℕ → ℕ → List Call → List Stamped
lost_up n c calls = flat_map (lost_up_by n c) calls

-- the frames of port n, by their stamps
abbrev pub of_port : ℕ → List Stamped → List Stamped
of_port n frames = filter (λ frame. frame.stamp.port == n) frames

-- their connections never fall, and none is above the highest that came
pub record NeverFall (n : ℕ) (up : List Stamped) (last : ℕ) : Type 0 where
  pub rise : IsNonDecreasingBy (λ frame. frame.stamp.conn) (of_port n up)
  pub most : All (λ frame. frame.stamp.conn ≤ last) (of_port n up)

-- ---- down

abbrev pub to_port : ℕ → List (ℕ × Stamped) → List Stamped
to_port n frames = map (λ sent. sent.1) (filter (λ sent. sent.0 == n) frames)

-- what waits for the device at port n
abbrev pub falls_to : ℕ → PmState → List Stamped
falls_to n pm = option_to_list (port_at pm n).down

-- their connections never fall, and none is above the highest that came
pub record NeverFallTo (n : ℕ) (down : List (ℕ × Stamped)) (last : ℕ) : Type 0 where
  pub rise : IsNonDecreasingBy (λ frame. frame.stamp.conn) (to_port n down)
  pub most : All (λ frame. frame.stamp.conn ≤ last) (to_port n down)

-- the connection present at port n after a call, given the one present before
abbrev pub present_after : ℕ → Option ℕ → Call → Option ℕ
present_after n was (Came m conn (Ok done)) = if m == n then Some conn else was
present_after n was (Gone m conn (Ok done) up down) = if m == n then None else was
present_after n was _ = was

-- what a call passed down to port n while this connection was present: with PM Port 0 and the connection
abbrev pub falls : Option ℕ → Stamped → List Stamped
falls (Some conn) frame = falling conn frame ∷ []
falls None frame = []

abbrev pub passed_by : ℕ → Option ℕ → Call → List Stamped
passed_by n present (FromHost frame (Ok (passed.Down m)) made) = if m == n then falls present frame else []
passed_by n present _ = []

abbrev pub passed_down : ℕ → Option ℕ → List Call → List Stamped
passed_down n present [] = []
passed_down n present (call ∷ calls) =
    passed_by n present call ++ passed_down n (present_after n present call) calls

abbrev pub all_present : ℕ → Option ℕ → List Call → Option ℕ
all_present n was [] = was
all_present n was (call ∷ calls) = all_present n (present_after n was call) calls

-- the frames of connection c, where all are for one device
abbrev pub for_conn : ℕ → List Stamped → List Stamped
for_conn c frames = filter (λ frame. frame.stamp.conn == c) frames

-- what a removal dropped of the frames that waited for the device at port n
abbrev pub lost_down_by : ℕ → Call → List Stamped
lost_down_by n (Gone m conn result up down) = if m == n then option_to_list down else []
lost_down_by n _ = []

abbrev pub lost_down : ℕ → List Call → List Stamped
lost_down n calls = flat_map (lost_down_by n) calls

-- ---- removals

-- the connections of port n whose removal was recorded
abbrev pub gone_by : ℕ → Call → List ℕ
gone_by n (Gone m conn (Ok done) up down) = if m == n then conn ∷ [] else []
gone_by n _ = []

abbrev pub all_gone : ℕ → List Call → List ℕ
all_gone n calls = flat_map (gone_by n) calls

-- the highest of these connections and one more
abbrev pub highest : ℕ → List ℕ → ℕ
highest was [] = was
highest was (conn ∷ conns) = max conn (highest was conns)

-- the frame of the control port that a call makes: an answer, or a notification at the moment it is given
abbrev pub made_in : Call → Option Stamped
made_in (FromHost frame result made) = made
made_in (NextUp (Ok (Some frame))) = if is_notice frame then Some frame else None
made_in _ = None

-- ---- the control port

abbrev pub answers : List Stamped → List Stamped
answers frames = filter is_answer frames

abbrev pub answer_by : Call → List Stamped
answer_by (FromHost frame result made) = option_to_list made
answer_by _ = []

-- the answers that the calls made, in order
abbrev pub answers_made : List Call → List Stamped
answers_made calls = flat_map answer_by calls

-- these frames have consecutive running numbers, starting at one number; next is the number after them
abbrev pub AreNumbered : ℕ → List Stamped → ℕ → Type 0
AreNumbered from [] next = next ≡ from
AreNumbered from (frame ∷ frames) next = (frame.stamp.number ≡ from) × AreNumbered (counted from) frames next

-- ---- the laws

-- What holds for calls that take one multiplier to another, where these frames passed before.
pub record PassInOrder (past : Past) (old : PmState) (calls : List Call) (new : PmState) : Type 0 where
  pub sound : IsSound new
  -- For each connection: what went up, then what its port holds, then what its removal dropped, is the same
  -- list before the calls, followed by what came in. Each frame has the port as its PM Port and in its stamp.
  pub up : (n c : ℕ) → n < 15
      → of_conn n c (all_past past calls).up ++ held_of n c new ++ lost_up n c calls
      ≡ of_conn n c past.up ++ held_of n c old ++ came_in n c calls
  -- in what went up from a port, connections never fall; nor does the highest connection that came
  pub connections : (n : ℕ) → n < 15
      → NeverFall n past.up (port_at old n).last → NeverFall n (all_past past calls).up (port_at new n).last
  pub last : (n : ℕ) → (port_at old n).last ≤ (port_at new n).last
  pub present : (n : ℕ) → n < 15 → (port_at new n).present ≡ all_present n (port_at old n).present calls
  -- what went down to the device at a port, then what waits for it, is the same list before the calls,
  -- followed by what was passed down, if no removal dropped any of it
  pub down : (n : ℕ) → n < 15 → lost_down n calls ≡ []
      → to_port n (all_past past calls).down ++ falls_to n new
      ≡ to_port n past.down ++ falls_to n old ++ passed_down n (port_at old n).present calls
  -- for each connection, exactly what removals dropped is missing
  pub down_each : (n c : ℕ) → n < 15
      → for_conn c (to_port n (all_past past calls).down) ++ for_conn c (falls_to n new)
      ++ for_conn c (lost_down n calls)
      ≡ for_conn c (to_port n past.down) ++ for_conn c (falls_to n old)
      ++ for_conn c (passed_down n (port_at old n).present calls)
  -- in what went down to a port, connections never fall
  pub connections_down : (n : ℕ) → n < 15 → NeverFallTo n past.down (port_at old n).last
      → NeverFallTo n (all_past past calls).down (port_at new n).last
  -- the highest connection that is gone is the highest that went
  pub gone : (n : ℕ) → n < 15 → (port_at new n).gone ≡ highest (port_at old n).gone (all_gone n calls)
  -- nothing is dropped of a connection that is not gone
  pub kept : (n c : ℕ) → n < 15 → is_gone (port_at new n) c ≡ false
      → (lost_up n c calls ≡ []) × (for_conn c (lost_down n calls) ≡ [])
  -- nothing more passes of a connection that is gone
  pub over : (n c : ℕ) → n < 15 → is_gone (port_at old n) c ≡ true
      → (of_conn n c (all_past past calls).up ≡ of_conn n c past.up)
      × (for_conn c (to_port n (all_past past calls).down) ≡ for_conn c (to_port n past.down))
  -- the answers that went up, then the one that waits, are the same list before the calls, followed by those
  -- that were made
  pub answered : answers (all_past past calls).up ++ option_to_list new.answer
      ≡ answers past.up ++ option_to_list old.answer ++ answers_made calls
  -- the frames of the control port have consecutive running numbers, in the order in which they were made
  pub numbers : (first : ℕ)
      → AreNumbered first past.made old.number → AreNumbered first (all_past past calls).made new.number

-- After any calls, a frame that the control port makes shows for each port the highest connection that went.
abbrev pub ShowsRemovals : PmState → List Call → Call → Type 0
ShowsRemovals old calls call = (frame : Stamped) → made_in call ≡ Some frame → (n : ℕ) → n < 15
    → slice_index frame.stamp.shown n ≡ highest (port_at old n).gone (all_gone n calls)

-- The same calls, with a place that is ready each time a frame goes up, and that is not the one served.
abbrev pub PassesOver : ℕ → PmState → Call → PmState → Type 0
PassesOver place old (NextUp (Ok (Some frame))) new =
    NextUpRule old (Ok (Some frame)) new × (ready old place ≡ true) × (new.served ≢ place)
PassesOver place old call new = Does old call new
