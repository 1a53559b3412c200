-- For `ports_rest_at_a_flush`. What was touched at a host that came from its opening over turns: the host is sound and
-- serves, and what it delivers at a frame.
use Rattle.std.proofs.Common.{rules, ◌≡◌, ℕ, ◌+◌, ◌-◌, ◌<◌, ◌≤◌, List, [], ◌∷◌, ◌++◌, append_assoc, refl, sym, subst, length, arith}
use Rattle.std.proofs.lemmas.List.{append-nil, get_or-replicate, length-replicate}
use Rattle.std.specs.Prelude.{true, slice_index}
use Rattle.host_memory.specs.{Memory.{client_start, is_memory_size, zeroed, zeros}, Place.{LiesInClient, place}}
use Rattle.host_memory.proofs.Door.{place_inside}
use Rattle.slots.specs.Slots.{has_bit}
use Rattle.hba_fbs.specs.{declared.report.TakeReport.TakeReport, Taking.port_of}
use Rattle.hba_laws.specs.{Client.{AreWithin, IsKept, IsReading, Touches, own}, Delivering.{AreReadAsIssued, HaveTables, IsClient, IsDelivered}}
use Rattle.hba_laws.specs.{Delivering.{ReportsDone, touched, touches_after}, History.Transfer, Hosts.TakesFrame}
use Rattle.hba_laws.specs.Hosts as event
use Rattle.hba_laws.specs.Sound as sound
use Rattle.hba_laws.proofs.Door.{client_is_touched, data_is_within, done_is_completed, done_reads_stand, spared_tables_read}
use Rattle.hba_driver.specs.{declared.mode.Mode.TheVariants.Switching, Delivered.{IsAtItsPlace, TookDelivers}, Events.{IsSoundHost, events_over}}
use Rattle.hba_driver.specs.{Events.{opening_host, shared_by}, HostTurns.{Does, DoesAll, Host, HostTurn, Took}, Served.{IsIssueOf, IsServed}}
use Rattle.hba_driver.specs.{Served.RunServes, Submits.end_of, Between.HaveGoodPrds}
use Rattle.hba_driver.proofs.Door.{as_long, good_since, hosts_stay_sound, issue_inside, turns_serve, zeroed_right}
use Rattle.pm_world.proofs.turns.HostFold.{does-append}
use Rattle.pm_world.specs.HostTouches.{AreTouched, goes, opens}

-- ## The host

pub touched_does : (len : ℕ) (turns : List HostTurn) (h : Host) (touches : Touches) → AreTouched len turns h touches → DoesAll (opening_host 0 (zeroed len)) turns h
touched_does len turns h touches opens = refl
touched_does len turns h touches (goes before turn old new past run serves came) =
    does-append (opening_host 0 (zeroed len)) old new before (turn ∷ []) (touched_does len before old past came) run

pub touched_sound : (len : ℕ) (turns : List HostTurn) (h : Host) (touches : Touches) → is_memory_size len ≡ true → AreTouched len turns h touches
    → IsSoundHost h
touched_sound len turns h touches right opens = hosts_stay_sound.opens Switching 0 (zeroed len) (zeroed_right len right)
touched_sound len turns h touches right (goes before turn old new past run serves came) =
    hosts_stay_sound.last old (turn ∷ []) new run (touched_sound len before old past right came)

pub touched_served : (len : ℕ) (turns : List HostTurn) (h : Host) (touches : Touches) → is_memory_size len ≡ true → AreTouched len turns h touches
    → IsServed h.driver (shared_by h) touches
touched_served len turns h touches right opens = turns_serve.opens Switching 0 (zeroed len) (zeroed_right len right)
touched_served len turns h touches right (goes before turn old new past run serves came) = serves.last

-- ## What its memory has

-- a byte before anything was touched
abbrev pub zero_at : ℕ → ℕ
zero_at k = 0

pub record AreKept (h : Host) (touches : Touches) : Type 0 where
  pub tables : HaveTables (shared_by h) touches
  pub client : IsClient zero_at touches (shared_by h)
  pub within : AreWithin touches
  pub kept : IsKept touches

no_tables : (h : event.Host) → HaveTables h []
no_tables h n below s t command is last = absurd (cc)

zeros_long : (n : ℕ) → length (zeros n) ≡ n
unfolding zeros
zeros_long n = length-replicate {A = ℕ} n 0

zeros_at : (n k : ℕ) → k < n → slice_index (zeros n) k ≡ 0
unfolding zeros
zeros_at n k below = get_or-replicate n k 0 0 below

-- the client area of a memory that opens is zero
zero_client : (len : ℕ) → IsClient zero_at [] (shared_by (opening_host 0 (zeroed len)))
zero_client len k below =
    let inside : k < len - client_start = subst (λ (m : ℕ). k < m) (zeros_long (len - client_start)) below in
    zeros_at (len - client_start) k inside

pub touched_kept : (len : ℕ) (turns : List HostTurn) (h : Host) (touches : Touches) → is_memory_size len ≡ true → AreTouched len turns h touches → AreKept h touches
touched_kept len turns h touches right opens =
    record { tables = no_tables (shared_by (opening_host 0 (zeroed len))); client = zero_client len; within = tt; kept = tt }
touched_kept len turns h touches right (goes before turn old new past run serves came) =
    let k : AreKept old past = touched_kept len before old past right came in
    let served : IsServed old.driver (shared_by old) past = touched_served len before old past right came in
    let read = spared_tables_read (shared_by old) (shared_by new) (events_over old new (turn ∷ []) run) serves.runs serves.sound past served.told k.tables
    serves.spared in
    record {
      tables = read.1;
      client = client_is_touched (shared_by old) (shared_by new) (events_over old new (turn ∷ []) run) serves.runs serves.sound zero_at past served.told read.0
          k.client;
      within = data_is_within (shared_by old) (shared_by new) (events_over old new (turn ∷ []) run) serves.runs serves.sound past served.told k.within;
      kept = serves.kept k.kept;
    }

-- ## A frame is taken

within_len : (p len : ℕ) → 1048576 ≤ p → p + 1 ≤ 1048576 + len → p - 1048576 < len
within_len p len least most = omega (arith, least, most)

behind : (p : ℕ) → 1048576 ≤ p → p ≡ 1048576 + (p - 1048576)
behind p least = omega (arith, least)

module _ (len : ℕ) (turns : List HostTurn) (h : Host) (past : Touches) (right : is_memory_size len ≡ true) (came : AreTouched len turns h past)
    (frame : List ℕ) (report : TakeReport) (after : Host) (does : Does h (Took frame report) after) where
  now_sound : IsSoundHost h
  now_sound = touched_sound len turns h past right came

  served : IsServed h.driver (shared_by h) past
  served = touched_served len turns h past right came

  kept : AreKept h past
  kept = touched_kept len turns h past right came

  is_host : sound.IsHost (shared_by h)
  is_host = record { port = now_sound.ruled.rules; slots = now_sound.ruled.table; errors = now_sound.ruled.faults; memory = now_sound.memory }

  good : HaveGoodPrds (end_of h.memory) h.driver
  good = good_since turns (opening_host 0 (zeroed len)) h (touched_does len turns h past came) (hosts_stay_sound.opens Switching 0 (zeroed len) (zeroed_right len right)) refl

  one : DoesAll h (Took frame report ∷ []) after
  one = (after, does, refl)

  takes : TakesFrame (shared_by h) frame report (shared_by after)
  takes = record { ignored = does.ignored; heard = does.heard }

  next : RunServes h after (Took frame report ∷ []) one past
  next = turns_serve.runs h after (Took frame report ∷ []) one now_sound past served

  next_read : AreReadAsIssued past (shared_by h) (shared_by after) (event.Took frame report ∷ []) next.runs
      × HaveTables (shared_by after) (touches_after past (shared_by h) (shared_by after) (event.Took frame report ∷ []) next.runs)
  next_read = spared_tables_read (shared_by h) (shared_by after) (event.Took frame report ∷ []) next.runs next.sound past served.told kept.tables next.spared

  low_port : port_of frame < 16
  low_port = search rules

  reported : ReportsDone (shared_by h) frame report (own (port_of frame) past)
  reported =
      done_is_completed (shared_by h) (shared_by h) (shared_by after) [] refl (record { hosts = is_host; frames = tt }) frame report
      (own (port_of frame) past) does.framed (served.told (port_of frame) low_port) takes

  placed : (s i : ℕ) (t : Transfer) → s < 32 → has_bit report.done s ≡ true → IsReading (port_of frame) s t past → i < t.work.len
      → IsAtItsPlace (port_of frame) s i t (touched (shared_by h) (event.Took frame report) ++ past) after.memory
  placed s i t below bit reads in_it = record {
    inside = (lies.0, subst (λ (n : ℕ). place t.table i + 1 ≤ client_start + n) (sym long) lies.1);
    byte = stands.byte;
    is_filled = stands.is_filled;
    stands = stands.stands;
  }
    where
      issue : IsIssueOf h.driver (port_of frame) s t
      issue = served.issues (port_of frame) s t reads.is

      lies : LiesInClient (length h.memory.client) (place t.table i) 1
      lies =
          place_inside (length h.memory.client) t.table i (issue_inside h (port_of frame) s t now_sound good issue.from)
          (subst (λ (n : ℕ). i < n) (sym issue.total) in_it)

      long : length after.memory.client ≡ length h.memory.client
      long = as_long h (Took frame report ∷ []) after one now_sound

      room : place t.table i - client_start < length after.memory.client
      room =
          subst (λ (n : ℕ). place t.table i - client_start < n) (sym long) (within_len (place t.table i) (length h.memory.client) lies.0 lies.1)

      stands : IsDelivered (port_of frame) s i (touched (shared_by h) (event.Took frame report) ++ past) after.memory.client (place t.table i - client_start)
      stands =
          done_reads_stand (shared_by h) (shared_by after) frame report is_host does.framed takes zero_at past served.told kept.within kept.client
          next_read.0.0 (next.kept kept.kept) s i (place t.table i - client_start) t below bit reads in_it (behind (place t.table i) lies.0) room

  pub touched_delivers : TookDelivers h past frame report after
  touched_delivers = record { reported = reported; placed = placed }

-- ## Turns

-- a host that goes on over turns has touches still
pub record GoesTouched (len : ℕ) (turns : List HostTurn) (h : Host) : Type 0 where
  pub touches : Touches
  pub touched : AreTouched len turns h touches

pub touched_over : (len : ℕ) → is_memory_size len ≡ true → (turns more : List HostTurn) (old new : Host) (touches : Touches) → AreTouched len turns old touches
    → DoesAll old more new → GoesTouched len (turns ++ more) new
touched_over len right turns [] old new touches came run =
    record {
      touches = touches;
      touched = subst (λ (ts : List HostTurn). AreTouched len ts new touches) (sym (append-nil turns))
          (subst (λ (h : Host). AreTouched len turns h touches) (sym run) came);
    }
touched_over len right turns (t ∷ more) old new touches came run =
    let one : DoesAll old (t ∷ []) run.0 = (run.0, run.1, refl) in
    let serves : RunServes old run.0 (t ∷ []) one touches =
    turns_serve.runs old run.0 (t ∷ []) one (touched_sound len turns old touches right came) touches (touched_served len turns old touches right came) in
    let rest : GoesTouched len ((turns ++ t ∷ []) ++ more) new =
    touched_over len right (turns ++ t ∷ []) more run.0 new
    (touches_after touches (shared_by old) (shared_by run.0) (events_over old run.0 (t ∷ []) one) serves.runs)
    (goes turns t old run.0 touches one serves came) run.2 in
    subst (λ (ts : List HostTurn). GoesTouched len ts new) (append_assoc turns (t ∷ []) more) rest
