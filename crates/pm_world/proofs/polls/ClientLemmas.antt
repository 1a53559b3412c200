-- For `polled_is_honest`. The bytes of a request stay in client memory over a turn in which no read is issued in its
-- slot. So the bytes of a read that began, and of which nothing is issued any more, stay until it is polled.
use Rattle.std.proofs.Common.{◌≡◌, ◌&&◌, ◌||◌, nat_lt, ℕ, ◌+◌, ◌-◌, ◌<◌, ◌≤◌, Bool, true, false, List, [], ◌∷◌, ◌++◌, length, refl, sym, ap, subst}
use Rattle.std.proofs.{Common.{◌∙◌, inl, inr, arith, Option, Some, None}, lemmas.Bool.{cases_eq, cases_lt, false≢true, or_parts, true≢false}}
use Rattle.std.proofs.lemmas.Bool.Decides.{nat_tests}
use Rattle.std.specs.{Prelude.{◌⊎◌, slice_index}, List.list_any}
use Rattle.host_memory.specs.{Memory.{Memory, client_start, is_memory_size}, Place.{LiesInClient, place, total_of, written}, Reading.LieApart}
use Rattle.host_memory.specs.{Reading.share_with, declared.table.Prd.Prd}
use Rattle.host_memory.proofs.Door.{list_any-true, overwritten_beside, place_has, share_with-true, written_elsewhere}
use Rattle.hba_fbs.specs.{declared.report.TakeReport.TakeReport, Taking.port_of}
use Rattle.hba_laws.specs.{Client.{AreWithin, By, Filling, FillsWithin, IsWithin, Touches, client, filling, own}, Delivering.{by_device, event_taken}}
use Rattle.hba_laws.specs.{Delivering.touches_after, History.{Event, Transfer, issued}}
use Rattle.hba_laws.specs.History as event
use Rattle.hba_laws.proofs.Door.{filling_is, if_there}
use Rattle.slots.specs.{Slots.match_some, Work.is_read as is_reading}
use Rattle.hba_driver.specs.{Drivers.{Entry, entry_at, is_read, waits_in}, Effects.{buffer_prd, prds_with}, Events.{IsSoundHost, events_over}}
use Rattle.hba_driver.specs.{Events.shared_by, HostTurns.{Does, DoesAll, Host, HostTurn, Put, Submitted, Ticked, Took}, Laws.gives, Paths.reads_page}
use Rattle.hba_driver.specs.{Requests.{in_use, is_used_by, share_bytes}, Served.{IsIssueOf, IsOrdered, IsRequest, IsServed, IsStep, RunServes}}
use Rattle.hba_driver.proofs.Door.{as_long, begun_later, in_slots, lives_turn, none_conflict, none_gives, tick_client, turns_serve}
use Rattle.pm_world.specs.HostTouches.{AreTouched, goes}
use Rattle.pm_world.proofs.{polls.CalmLemmas.{IsFreed, turn_freed}, serving.TouchedLemmas.{AreKept, touched_kept, touched_served, touched_sound}}
use Rattle.pm_world.proofs.serving.TouchedLemmas.{zero_at}

-- ## Places of other tables

other_places : (ps qs : List Prd) (i j : ℕ) → share_with ps qs ≡ false → i < total_of ps → j < total_of qs → place ps i ≡ place qs j → ⊥
other_places ps qs i j none below below_other same =
    true≢false (sym (share_with-true ps qs (record { i = i; j = j; below = below; below_other = below_other; one_place = same })) ∙ none)

or_read : (a b : Bool) → b ≡ true → (a || b) ≡ true
or_read true b h = refl
or_read false b h = h

pub same_entry : (e f : Entry) → Some e ≡ Some f → e ≡ f
same_entry e f h = cc

beside_by : (b : Bool) (prds : List Prd) → share_with (buffer_prd ∷ []) prds ≡ false → share_with (prds_with b) prds ≡ false
beside_by true prds h = h
beside_by false prds h = refl

-- no read is issued in the slot of a device
abbrev pub IsUnread : (n s : ℕ) → Touches → Type 0
IsUnread n s touches = (t : Transfer) → issued s (own n touches) ≡ Some t → is_reading t.work.kind ≡ true → ⊥

module _ (h : Host) (touches : Touches) (sound : IsSoundHost h) (served : IsServed h.driver (shared_by h) touches) (s : ℕ) (e : Entry)
    (here : entry_at h.driver.entries s ≡ Some e) (unread : IsUnread e.head.dev s touches) (i : ℕ) (below : i < total_of e.prds) where
  -- reads that are issued lie elsewhere
  elsewhere : (n r j : ℕ) (t : Transfer) → issued r (own n touches) ≡ Some t → is_reading t.work.kind ≡ true → j < t.work.len
      → place e.prds i ≡ place t.table j → ⊥
  elsewhere n r j t is reads less same = by_from issue.from
    where
      issue : IsIssueOf h.driver n r t
      issue = served.issues n r t is

      in_table : j < total_of t.table
      in_table = omega (arith, issue.total, less)

      by_from : IsRequest h.driver n r t ⊎ (IsStep h.driver n r t ⊎ IsOrdered h.driver n r t) → ⊥
      by_from (inl q) = elim (cases_eq s r) [
        | inl one ↦
            let entry : q.entry ≡ e = same_entry q.entry e (sym q.stands ∙ ap (entry_at h.driver.entries) (sym one) ∙ here) in
            let dev : n ≡ e.head.dev = sym q.of_dev ∙ ap (λ (x : Entry). x.head.dev) entry in
            unread t (subst (λ (m : ℕ). issued s (own m touches) ≡ Some t) dev (subst (λ (k : ℕ). issued k (own n touches) ≡ Some t) (sym one) is)) reads
        | inr other ↦
            let none : share_with e.prds q.entry.prds ≡ false =
            sound.requests.apart s r e q.entry here q.stands other (or_read (is_read e.head.work) (is_read q.entry.head.work) (q.reads reads)) in
            other_places e.prds t.table i j (ap (share_with e.prds) q.table ∙ none) below in_table same
      ]
      by_from (inr (inl step)) =
          let none : share_with (prds_with (reads_page step.path.stage)) e.prds ≡ false =
          beside_by (reads_page step.path.stage) e.prds (served.bounded.entries s e here).beyond in
          other_places t.table e.prds j i (ap (λ (l : List Prd). share_with l e.prds) step.table ∙ none) in_table below (sym same)
      by_from (inr (inr order)) =
          let none : total_of t.table ≡ 0 = ap total_of order.table in
          omega (arith, none, in_table)

  -- so Data leaves the byte
  data_leaves : (m : ℕ) (bytes : List ℕ) → IsWithin (own m touches) (length bytes)
      → client zero_at (By m (event.Carried bytes) ∷ touches) (place e.prds i) ≡ client zero_at touches (place e.prds i)
  data_leaves m bytes within = by_filling (filling (own m touches)) refl
    where
      by_filling : (o : Option Filling) → filling (own m touches) ≡ o
          → match_some o (client zero_at touches (place e.prds i)) (λ f. written f.transfer.table f.from bytes (client zero_at touches) (place e.prds i))
          ≡ client zero_at touches (place e.prds i)
      by_filling None is = refl
      by_filling (Some f) is =
          let p = filling_is (own m touches) f is in
          let q = if_there (filling (own m touches)) (FillsWithin (length bytes)) f is within.fills in
          written_elsewhere f.transfer.table f.from bytes (client zero_at touches) (place e.prds i) (λ j less at.
          elsewhere m f.slot (f.from + j) f.transfer p.is_issued q.reads (omega (arith, q.fits, less)) at)

  event_leaves : (m : ℕ) (o : Option Event) → AreWithin (by_device m o ++ touches)
      → client zero_at (by_device m o ++ touches) (place e.prds i) ≡ client zero_at touches (place e.prds i)
  event_leaves m (Some (event.Carried bytes)) within = data_leaves m bytes within.0
  event_leaves m other within = refl

  -- and what is put does not touch it
  module _ (at len : ℕ) (unused : in_use h.driver at len ≡ false) where
    shared : {x y z w : ℕ} → x < y → z < w → (nat_lt x y && nat_lt z w) ≡ true
    shared {x} {y} {z} {w} p q = grind (arith, nat_tests)

    and_false : (a b : Bool) → a ≡ true → (a && b) ≡ false → b ≡ false
    and_false true b p q = q
    and_false false b p q = absurd (false≢true p)

    low : s < 30
    low = in_slots h.driver.entries s e served.bounded.slots here

    not_put : at ≤ place e.prds i → place e.prds i < at + len → ⊥
    not_put least less =
        let a = place_has e.prds i below in
        let from : at < a.prd.address + a.prd.bytes = omega (arith, least, a.has.1) in
        let to : a.prd.address < at + len = omega (arith, less, a.has.0) in
        let hit : is_used_by at len (Some e) ≡ true =
        list_any-true (λ (x : Prd). share_bytes at len x.address x.bytes) e.prds a.k a.prd a.entry (shared from to) in
        let more : 0 < len = omega (arith, least, less) in
        let some : nat_lt 0 len ≡ true = grind (arith, nat_tests, more) in
        let parts = or_parts (share_bytes at len client_start 512) (list_any (is_used_by at len) h.driver.entries)
        (and_false (nat_lt 0 len) (share_bytes at len client_start 512 || list_any (is_used_by at len) h.driver.entries) some unused) in
        let free : is_used_by at len (entry_at h.driver.entries s) ≡ false =
        none_conflict (is_used_by at len) h.driver.entries s parts.1 (omega (arith, low, served.bounded.slots)) in
        true≢false (sym hit ∙ sym (ap (is_used_by at len) here) ∙ free)

-- ## A turn

from_start : (p : ℕ) → 1048576 ≤ p → 1048576 + (p - 1048576) ≡ p
from_start p least = omega (arith, least)

in_area : (p len : ℕ) → 1048576 ≤ p → p + 1 ≤ 1048576 + len → p - 1048576 < len
in_area p len least most = omega (arith, least, most)

put_room : (at n len : ℕ) → 1048576 ≤ at → at + n ≤ 1048576 + len → at - 1048576 + n ≤ len
put_room at n len least most = omega (arith, least, most)

put_before : (p at : ℕ) → 1048576 ≤ p → p < at → p - 1048576 + 1 ≤ at - 1048576
put_before p at least less = omega (arith, least, less)

put_after : (p at n : ℕ) → 1048576 ≤ at → at + n ≤ p → at - 1048576 + n ≤ p - 1048576
put_after p at n least past = omega (arith, least, past)

module _ (len : ℕ) (right : is_memory_size len ≡ true) where
  -- byte k of client memory stays
  abbrev pub Stays : ℕ → Host → Host → Type 0
  Stays k old new = slice_index new.memory.client k ≡ slice_index old.memory.client k

  module _ (turns : List HostTurn) (old : Host) (touches : Touches) (came : AreTouched len turns old touches) where
    sound : IsSoundHost old
    sound = touched_sound len turns old touches right came

    served : IsServed old.driver (shared_by old) touches
    served = touched_served len turns old touches right came

    pub serves_next : (turn : HostTurn) (new : Host) (does : Does old turn new) → RunServes old new (turn ∷ []) (new, does, refl) touches
    serves_next turn new does =
        turns_serve.runs old new (turn ∷ []) (new, does, refl) (touched_sound len turns old touches right came) touches (touched_served len turns old touches right came)

    abbrev pub later : (turn : HostTurn) (new : Host) → Does old turn new → Touches
    later turn new does =
        touches_after touches (shared_by old) (shared_by new) (events_over old new (turn ∷ []) (new, does, refl)) (serves_next turn new does).runs

    pub came_next : (turn : HostTurn) (new : Host) (does : Does old turn new) → AreTouched len (turns ++ turn ∷ []) new (later turn new does)
    came_next turn new does = goes turns turn old new touches (new, does, refl) (serves_next turn new does) came

    module _ (s : ℕ) (e : Entry) (here : entry_at old.driver.entries s ≡ Some e) (unread : IsUnread e.head.dev s touches) (i : ℕ) (below : i < total_of e.prds) (inside : LiesInClient (length old.memory.client) (place e.prds i) 1) where
      took_stays : (frame : List ℕ) (report : TakeReport) (new : Host) → Does old (Took frame report) new → Stays (place e.prds i - client_start) old new
      took_stays frame report new does =
          kept_new.client (place e.prds i - client_start) room_new
          ∙ ap (client zero_at (by_device (port_of frame) (event_taken (shared_by old) frame) ++ touches)) at
          ∙ event_leaves old touches (touched_sound len turns old touches right came) (touched_served len turns old touches right came) s e here unread i below
          (port_of frame) (event_taken (shared_by old) frame) kept_new.within
          ∙ sym (ap (client zero_at touches) at)
          ∙ sym (kept.client (place e.prds i - client_start) room)
        where
          kept : AreKept old touches
          kept = touched_kept len turns old touches right came

          kept_new : AreKept new (by_device (port_of frame) (event_taken (shared_by old) frame) ++ touches)
          kept_new = touched_kept len (turns ++ Took frame report ∷ []) new (later (Took frame report) new does) right (came_next (Took frame report) new does)

          at : client_start + (place e.prds i - client_start) ≡ place e.prds i
          at = from_start (place e.prds i) inside.0

          room : place e.prds i - client_start < length old.memory.client
          room = in_area (place e.prds i) (length old.memory.client) inside.0 inside.1

          long : length new.memory.client ≡ length old.memory.client
          long = as_long old (Took frame report ∷ []) new (new, does, refl) (touched_sound len turns old touches right came)

          room_new : place e.prds i - client_start < length new.memory.client
          room_new = subst (λ (n : ℕ). place e.prds i - client_start < n) (sym long) room

      put_stays : (at : ℕ) (bytes : List ℕ) (new : Host) → Does old (Put at bytes) new → Stays (place e.prds i - client_start) old new
      put_stays at bytes new does =
          ap (λ (m : Memory). slice_index m.client (place e.prds i - client_start)) does.memory
          ∙ overwritten_beside old.memory.client (at - client_start) bytes (place e.prds i - client_start)
          (put_room at (length bytes) (length old.memory.client) does.inside.0 does.inside.1) apart
        where
          apart : LieApart (place e.prds i - client_start) 1 (at - client_start) (length bytes)
          apart = elim (cases_lt (place e.prds i) at) [
            | inl before ↦ inl (put_before (place e.prds i) at inside.0 before)
            | inr least ↦ elim (cases_lt (place e.prds i) (at + length bytes)) [
              | inl less ↦
                  absurd (not_put old touches (touched_sound len turns old touches right came) (touched_served len turns old touches right came) s e here unread
                  i below at (length bytes) does.unused least less)
              | inr past ↦ inr (put_after (place e.prds i) at (length bytes) does.inside.0 past)
            ]
          ]

      pub turn_stays : (turn : HostTurn) (new : Host) → Does old turn new → Stays (place e.prds i - client_start) old new
      turn_stays (Took frame report) new does = took_stays frame report new does
      turn_stays (Ticked acted) new does = ap (λ (c : List ℕ). slice_index c (place e.prds i - client_start)) (tick_client old acted new does)
      turn_stays (Submitted dev request ticket) new does = ap (λ (c : List ℕ). slice_index c (place e.prds i - client_start)) does.taken.client
      turn_stays (Put at bytes) new does = put_stays at bytes new does
      turn_stays other new does = ap (λ (m : Memory). slice_index m.client (place e.prds i - client_start)) does.memory

  -- ## Until it is polled

  pub bytes_stay : (more turns : List HostTurn) (old new : Host) (touches : Touches) → AreTouched len turns old touches → DoesAll old more new
      → (s : ℕ) (e : Entry) → entry_at old.driver.entries s ≡ Some e → is_read e.head.work ≡ true → waits_in e.head.phase ≡ false
      → IsFreed e.head.dev s touches → list_any (gives s e) more ≡ false
      → (i : ℕ) → i < total_of e.prds → LiesInClient (length old.memory.client) (place e.prds i) 1 → Stays (place e.prds i - client_start) old new
  bytes_stay [] turns old new touches came run s e here reads begun freed ungiven i below inside =
      ap (λ (h : Host). slice_index h.memory.client (place e.prds i - client_start)) run
  bytes_stay (t ∷ more) turns old new touches came run s e here reads begun freed ungiven i below inside =
      elim (lives_turn old t run.0 run.1 s e here) [
        | inr given ↦ absurd (true≢false (sym given ∙ (or_parts (gives s e t) (list_any (gives s e) more) ungiven).0))
        | inl kept ↦
            let sound_old : IsSoundHost old = touched_sound len turns old touches right came in
            let served_old : IsServed old.driver (shared_by old) touches = touched_served len turns old touches right came in
            let low : s < 30 = in_slots old.driver.entries s e served_old.bounded.slots here in
            let prds : kept.entry.prds ≡ e.prds = ap (λ (x : Entry). x.prds) kept.on.same in
            let reads_on : is_read kept.entry.head.work ≡ true = ap (λ (x : Entry). is_read x.head.work) kept.on.same ∙ reads in
            let dev : kept.entry.head.dev ≡ e.head.dev = ap (λ (x : Entry). x.head.dev) kept.on.same in
            let freed_mid : IsFreed e.head.dev s (later turns old touches came t run.0 run.1) =
            turn_freed old t run.0 run.1 touches sound_old served_old (serves_next turns old touches came t run.0 run.1) s e kept.entry low here kept.is kept.on
            begun freed in
            let long : length run.0.memory.client ≡ length old.memory.client = as_long old (t ∷ []) run.0 (run.0, run.1, refl) sound_old in
            let first : Stays (place e.prds i - client_start) old run.0 =
            turn_stays turns old touches came s e here (λ u is reading. freed u is) i below inside t run.0 run.1 in
            let rest : Stays (place kept.entry.prds i - client_start) run.0 new =
            bytes_stay more (turns ++ t ∷ []) run.0 new (later turns old touches came t run.0 run.1) (came_next turns old touches came t run.0 run.1) run.2 s
            kept.entry kept.is reads_on (begun_later e kept.entry begun kept.on)
            (subst (λ (n : ℕ). IsFreed n s (later turns old touches came t run.0 run.1)) (sym dev) freed_mid)
            (none_gives s e kept.entry kept.on more (or_parts (gives s e t) (list_any (gives s e) more) ungiven).1) i
            (subst (λ (l : List Prd). i < total_of l) (sym prds) below)
            (subst (λ (l : List Prd). LiesInClient (length run.0.memory.client) (place l i) 1) (sym prds)
            (subst (λ (n : ℕ). LiesInClient n (place e.prds i) 1) (sym long) inside)) in
            subst (λ (l : List Prd). Stays (place l i - client_start) run.0 new) prds rest ∙ first
      ]
