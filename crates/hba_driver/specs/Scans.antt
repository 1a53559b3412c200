-- Scans of the ports of a multiplier. The driver reads GSCR[32], which has a bit for each port with an error,
-- and clears the errors of each port that the answer names, lowest port first (Serial ATA 3.x, 16.2 and 16.3,
-- port multiplier: GSCR[32], PSCR[1]).
use Rattle.std.specs.Prelude.{ℕ, ◌≡◌, ◌<◌, ◌==◌, ◌&&◌, ◌||◌, Bool, true, false, not, nat_lt, nat_le, if◌then◌else◌, List, [], ◌∷◌, take, drop}
use Rattle.std.specs.Prelude.{is_none, unwrap_or, Result, Ok}
use Rattle.fis_view.specs.{Seen.seen, Table.{D2h, Status, field}, declared.{view.Fis.Fis, view.FisFault.FisFault}}
use Rattle.fis_view.specs.declared.view.Fis.TheVariants as view
use Rattle.host_memory.specs.Memory.{IsHostMemory, Memory}
use Rattle.slots.specs.Slots.{has_bit, own_issue}
use Rattle.hba_fbs.specs.{declared.report.TakeReport.TakeReport, Status.is_busy, Taking.port_of}
use Rattle.hba_laws.specs.Parts.{DevicePart}
use Rattle.hba_driver.specs.{declared.{order.Order.{Order, TheVariants.{Scan, Clear, Detect}}, plan.Plan.Plan}, Events.opening_host}
use Rattle.hba_driver.specs.{HostTurns.{DoesAll, Host, HostTurn, Ticked, Took}, Orders.control_port, Sights.answer_in}
use Rattle.hba_driver.specs.Slot31.{Asks, IsAnswer31, IsFree31, MayBe31, Rests, Stage31, Turns31, control_of, orders_clear}

-- ---- which ports the scan found

-- after this order, or with it if it was not issued, the scan may come to port n
abbrev pub comes_to : Order → (asked : Bool) → ℕ → Bool
comes_to (Clear port) false n = nat_le port n
comes_to (Clear port) true n = nat_lt port n
comes_to (Detect port) asked n = nat_lt port n
comes_to order asked n = false

-- the driver has looked at the answer that named port n, and has not ordered since that the port be cleared
abbrev pub is_left : ℕ → Plan → Bool
is_left n plan = comes_to plan.order plan.asked n && has_bit plan.found n

abbrev pub is_scan : Order → Bool
is_scan Scan = true
is_scan order = false

-- the value in the last answer of the control port, whose Register FIS is at 40h of its row
abbrev pub told_in : DevicePart → ℕ
told_in part = answer_in (seen (take 20 (drop 64 (unwrap_or part.row []))))

-- it came, and names port n
abbrev pub tells : ℕ → DevicePart → Bool
tells n part = is_none (own_issue part.view.slots 31) && has_bit (told_in part) n

-- it is the answer to the read of GSCR[32], and the driver has not looked at it
abbrev pub is_named : ℕ → Host → Bool
is_named n h = (is_scan h.driver.plan.order && h.driver.plan.asked) && tells n (control_of h)

-- the last answer to a read of GSCR[32] named port n, and the scan has yet to come to the port
abbrev pub found : ℕ → Host → Bool
found n h = is_left n h.driver.plan || is_named n h

-- an order to clear a port clears a port that was found
abbrev pub IsClearOf : Order → (found : ℕ) → Type 0
IsClearOf (Clear port) found = has_bit found port ≡ true
IsClearOf order found = Unit {0}

abbrev pub IsFound : Plan → Type 0
IsFound plan = IsClearOf plan.order plan.found

-- ---- what a turn does to them

-- the frame is the answer to a read of GSCR[32], and names port n
pub record Names (n : ℕ) (stage : Stage31) (old : Host) (frame : List ℕ) : Type 0 where
  pub own : port_of frame ≡ control_port
  pub asks : stage ≡ Asks
  pub order : old.driver.plan.order ≡ Scan
  pub answer : IsAnswer31 frame
  pub bit : has_bit (answer_in (seen frame)) n ≡ true

-- the turn takes such an answer
abbrev pub Finds : ℕ → (stage : Stage31) → (old : Host) → HostTurn → Type 0
Finds n stage old (Took frame report) = Names n stage old frame
Finds n stage old turn = ⊥

-- a tick orders that a port be cleared only if the port was found, and then it is no longer found
abbrev pub Clears : ℕ → (old : Host) → HostTurn → (new : Host) → Type 0
Clears n old (Ticked acted) new =
    orders_clear n old ≡ true → (found n old ≡ true) × (found n new ≡ false)
Clears n old turn new = Unit {0}

-- Slot 31 is free after the turn, and was asked: what the answer told stays as it was, or the answer came now.
pub data Tells (stage : Stage31) (old : Host) (turn : HostTurn) (new : Host) : Type 0 where
  Keeps : IsFree31 (control_of old) → told_in (control_of new) ≡ told_in (control_of old)
      → Tells stage old turn new
  Comes : (frame : List ℕ) (report : TakeReport) → turn ≡ Took frame report
      → port_of frame ≡ control_port → stage ≡ Asks → seen frame ≡ Ok (view.RegD2H frame)
      → told_in (control_of new) ≡ answer_in (seen frame) → Tells stage old turn new

-- what a turn of a host does to port n, with slot 31 at this stage before it
pub record ScansOn (n : ℕ) (stage : Stage31) (old : Host) (turn : HostTurn) (new : Host)
    : Type 0 where
  -- a port becomes found only when an answer that names it is taken
  pub begins : found n old ≡ false → found n new ≡ true → Finds n stage old turn
  pub clears : Clears n old turn new

-- ---- the law

-- an answer of the control port: a Register FIS that is not busy
abbrev pub is_answer : Result Fis FisFault → Bool
is_answer (Ok (view.RegD2H f)) = not (is_busy (field D2h Status f))
is_answer fis = false

abbrev pub is_asking : Stage31 → Bool
is_asking Asks = true
is_asking stage = false

-- the frame is the answer to a read of GSCR[32]
abbrev pub answers_scan : (stage : Stage31) → (old : Host) → List ℕ → Bool
answers_scan stage old frame =
    (port_of frame == control_port)
    && (is_asking stage && (is_scan old.driver.plan.order && is_answer (seen frame)))

-- the last answer to a read of GSCR[32] named port n, and no order to clear the port was given since
abbrev pub named_after : ℕ → (named : Bool) → (stage : Stage31) → (old : Host) → HostTurn
    → Bool
named_after n named stage old (Took frame report) =
    if answers_scan stage old frame then has_bit (answer_in (seen frame)) n else named
named_after n named stage old (Ticked acted) = named && not (orders_clear n old)
named_after n named stage old turn = named

-- the tick orders that port n be cleared only if the port was named
abbrev pub ClearsNamed : ℕ → (named : Bool) → (old : Host) → HostTurn → Type 0
ClearsNamed n named old (Ticked acted) = orders_clear n old ≡ true → named ≡ true
ClearsNamed n named old turn = Unit {0}

-- this holds in each of these turns, as long as the control port sends what may come
abbrev pub Scans : (n : ℕ) → (named : Bool) → (stage : Stage31) → (old : Host)
    → (turns : List HostTurn) → (new : Host) → DoesAll old turns new → Type 0
Scans n named stage old [] new run = Unit {0}
Scans n named stage old (turn ∷ turns) new run =
    MayBe31 stage turn → (t : Turns31 stage old turn run.0) × ClearsNamed n named old turn
    × Scans n (named_after n named stage old turn) t.next run.0 turns new run.2

-- From the opening of the host, the driver orders that a port be cleared only if the last answer of the
-- multiplier to a read of GSCR[32] named the port, and at most once for each answer.
abbrev pub ScansClear : Type 0
ScansClear =
    (given : ℕ) (start : Memory) → IsHostMemory start → (turns : List HostTurn) (h : Host)
    (run : DoesAll (opening_host given start) turns h) (n : ℕ) → n < 15
    → Scans n false Rests (opening_host given start) turns h run
