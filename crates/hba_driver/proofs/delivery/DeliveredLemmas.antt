-- For `turns_deliver`. A host delivers, over any turns since its opening.
use Rattle.std.proofs.Common.{rules, ◌≡◌, ℕ, ◌+◌, ◌-◌, ◌<◌, ◌≤◌, List, [], ◌∷◌, ◌++◌, refl, sym, subst, length, ap, arith}
use Rattle.std.specs.Prelude.{true, slice_index}
use Rattle.host_memory.specs.{Memory.{IsHostMemory, Memory, client_start}, Place.{LiesInClient, place}}
use Rattle.host_memory.proofs.Door.{place_inside}
use Rattle.slots.specs.Slots.{has_bit}
use Rattle.hba_fbs.specs.{declared.report.TakeReport.TakeReport, Taking.port_of}
use Rattle.hba_laws.specs.{Client.{AreWithin, IsKept, IsReading, Touches, own}, Delivering.{AreReadAsIssued, HaveTables, IsClient, IsDelivered}}
use Rattle.hba_laws.specs.{Delivering.{ReportsDone, touched, touches_after}, History.Transfer, Hosts.{HostEvent, TakesFrame}}
use Rattle.hba_laws.specs.Hosts as event
use Rattle.hba_laws.specs.Sound as sound
use Rattle.hba_laws.proofs.Door.{client_is_touched, completes_once, data_is_within, done_is_completed, done_reads_stand, histories_are_parts}
use Rattle.hba_laws.proofs.Door.{spared_tables_read}
use Rattle.hba_driver.specs.{declared.mode.Mode.Mode, Delivered.{HasCome, HostDelivers, IsAtItsPlace, IssuesAreApart, TookDelivers, TurnsDeliver}}
use Rattle.hba_driver.specs.{Delivered.{byte_at, touches_of}, Drivers.new_driver_in, Events.{IsSoundHostIn, events_over, opening_host_in, shared_by}}
use Rattle.hba_driver.specs.{HostTurns.{Does, DoesAll, Host, HostTurn, Took}, Served.{IsIssueOf, IsServed, RunServes}, Submits.end_of}
use Rattle.hba_driver.specs.Between.{HaveGoodPrds}
use Rattle.hba_driver.proofs.{issued.ApartLemmas.issues_apart, delivery.InsideLemmas.{as_long, good_since, issue_inside, one_owner}}
use Rattle.hba_driver.proofs.{issued.ServedLemmas.turns_serve, events.{SoundLemmas.hosts_stay_sound, TurnLemmas.each_run_tells}}

past_start : (k : ℕ) → client_start + k - client_start ≡ k
past_start k = omega arith

-- an address in the client area, and the number of its byte
behind : (p : ℕ) → 1048576 ≤ p → p ≡ 1048576 + (p - 1048576)
behind p least = omega (arith, least)

within_len : (p len : ℕ) → 1048576 ≤ p → p + 1 ≤ 1048576 + len → p - 1048576 < len
within_len p len least most = omega (arith, least, most)

module _ (mode : Mode) (given : ℕ) (start : Memory) (right : IsHostMemory start) (turns : List HostTurn) (h : Host) where
  abbrev pub opened : Host
  opened = opening_host_in mode given start

  sound_first : IsSoundHostIn mode opened
  sound_first = hosts_stay_sound.opens mode given start right

  served_first : IsServed (new_driver_in mode given) (shared_by opened) []
  served_first = turns_serve.opens mode given start right

  pub comes : DoesAll opened turns h → HasCome mode given start turns h
  comes does = record { does = does; serves = turns_serve.runs opened h turns does sound_first [] served_first }

  module _ (c : HasCome mode given start turns h) where
    abbrev pub events : List HostEvent
    events = events_over opened h turns c.does

    abbrev pub past : Touches
    past = touches_of mode given start turns h c

    no_tables : HaveTables (shared_by opened) []
    no_tables n below s t command is last = absurd (cc)

    read : AreReadAsIssued [] (shared_by opened) (shared_by h) events c.serves.runs × HaveTables (shared_by h) past
    read = spared_tables_read (shared_by opened) (shared_by h) events c.serves.runs c.serves.sound [] served_first.told no_tables c.serves.spared

    first : IsClient (byte_at start) [] (shared_by opened)
    first k below = ap (λ (j : ℕ). slice_index start.client j) (sym (past_start k))

    touched_bytes : IsClient (byte_at start) past (shared_by h)
    touched_bytes = client_is_touched (shared_by opened) (shared_by h) events c.serves.runs c.serves.sound (byte_at start) [] served_first.told read.0 first

    within : AreWithin past
    within = data_is_within (shared_by opened) (shared_by h) events c.serves.runs c.serves.sound [] served_first.told tt

    kept : IsKept past
    kept = c.serves.kept tt

    now_sound : IsSoundHostIn mode h
    now_sound = hosts_stay_sound.last opened turns h c.does sound_first

    is_host : sound.IsHost (shared_by h)
    is_host = record { port = now_sound.ruled.rules; slots = now_sound.ruled.table; errors = now_sound.ruled.faults; memory = now_sound.memory }

    good : HaveGoodPrds (end_of h.memory) h.driver
    good = good_since turns opened h c.does sound_first refl

    pub apart : IssuesAreApart h past
    apart = record {
      requests = now_sound.requests.apart;
      issues = c.serves.last.issues;
      owner = λ n m s t u here there.
          one_owner (shared_by h) past c.serves.last.told n m s t u (c.serves.last.issues n s t here).dev (c.serves.last.issues m s u there).dev here there;
      inside = λ n s t here. issue_inside h n s t now_sound good (c.serves.last.issues n s t here).from;
      apart = issues_apart h.driver past c.serves.last.issues c.serves.last.bounded now_sound.requests;
      kept = kept;
    }

    took : (frame : List ℕ) (report : TakeReport) (after : Host) → Does h (Took frame report) after → TookDelivers h past frame report after
    took frame report after does = record { reported = reported; placed = placed }
      where
        one : DoesAll h (Took frame report ∷ []) after
        one = (after, does, refl)

        takes : TakesFrame (shared_by h) frame report (shared_by after)
        takes = record { ignored = does.ignored; heard = does.heard }

        next : RunServes h after (Took frame report ∷ []) one past
        next = turns_serve.runs h after (Took frame report ∷ []) one now_sound past c.serves.last

        next_read : AreReadAsIssued past (shared_by h) (shared_by after) (event.Took frame report ∷ []) next.runs × HaveTables (shared_by after) (touches_after past (shared_by h) (shared_by after) (event.Took frame report ∷ []) next.runs)
        next_read = spared_tables_read (shared_by h) (shared_by after) (event.Took frame report ∷ []) next.runs next.sound past c.serves.last.told read.1 next.spared

        reported : ReportsDone (shared_by h) frame report (own (port_of frame) past)
        reported =
            subst (λ history. ReportsDone (shared_by h) frame report history)
            (sym (histories_are_parts (port_of frame) [] (shared_by opened) (shared_by h) events c.serves.runs))
            (done_is_completed (shared_by opened) (shared_by h) (shared_by after) events c.serves.runs c.serves.sound frame report []
            does.framed (served_first.told (port_of frame) (search rules)) takes)

        placed : (s i : ℕ) (t : Transfer) → s < 32 → has_bit report.done s ≡ true → IsReading (port_of frame) s t past → i < t.work.len
            → IsAtItsPlace (port_of frame) s i t (touched (shared_by h) (event.Took frame report) ++ past) after.memory
        placed s i t below bit reads in_it = record {
          inside = (lies.0, subst (λ (n : ℕ). place t.table i + 1 ≤ client_start + n) (sym long) lies.1);
          byte = stands.byte;
          is_filled = stands.is_filled;
          stands = stands.stands;
        }
          where
            issue : IsIssueOf h.driver (port_of frame) s t
            issue = c.serves.last.issues (port_of frame) s t reads.is

            lies : LiesInClient (length h.memory.client) (place t.table i) 1
            lies = place_inside (length h.memory.client) t.table i (apart.inside (port_of frame) s t reads.is) (subst (λ (n : ℕ). i < n) (sym issue.total) in_it)

            long : length after.memory.client ≡ length h.memory.client
            long = as_long h (Took frame report ∷ []) after one now_sound

            room : place t.table i - client_start < length after.memory.client
            room = subst (λ (n : ℕ). place t.table i - client_start < n) (sym long) (within_len (place t.table i) (length h.memory.client) lies.0 lies.1)

            stands : IsDelivered (port_of frame) s i (touched (shared_by h) (event.Took frame report) ++ past) after.memory.client (place t.table i - client_start)
            stands =
                done_reads_stand (shared_by h) (shared_by after) frame report is_host does.framed takes (byte_at start) past c.serves.last.told within touched_bytes
                next_read.0.0 (next.kept kept) s i (place t.table i - client_start) t below bit reads in_it (behind (place t.table i) lies.0) room

    pub delivers : HostDelivers mode given start turns h c
    delivers = record {
      took = took;
      once = λ n s later before is. completes_once s before;
      client = touched_bytes;
      tells = each_run_tells opened h turns c.does;
    }

pub turns_deliver : TurnsDeliver
turns_deliver = record { comes = comes; delivers = delivers; apart = apart }
