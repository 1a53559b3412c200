-- The first of the moves of a command's bytes, and the writes to the guest.
use Rattle.std.proofs.Common.{◌≡◌, ℕ, zero, suc, ◌+◌, ◌-◌, ◌<◌, ◌≤◌, Bool, true, false, List, [], ◌∷◌, refl, sym, ap, subst, ◌∙◌, arith, Option, Some}
use Rattle.std.proofs.{Common.None, lemmas.Bool.{ltb-false, ltb-true}}
use Rattle.std.specs.{Prelude.{MatchOption, nat_lt, slice_get, if◌then◌else◌}, Option.option_map}
use Rattle.slots.specs.Slots.{match_some}
use Rattle.guest_fetch.specs.{Commands.Fetched, Moves.{move_of, moves_at, moves_of}, Places.{place, room_at}, declared.entry.Entry.Entry}
use Rattle.guest_fetch.specs.declared.moves.Move.{Move}
use Rattle.ahci_controller.specs.Next.{Frames, FramesFor, GoesIf, Reads, RestsNow, count_next, counted_slot, TurnsIf, feed_next, first_run, is_halted}
use Rattle.ahci_controller.specs.Next.{left, next_device, next_read, next_slot, next_write, order_next, rest, run_of, step_of, step_with, turn_to}
use Rattle.ahci_controller.specs.{Next.written, Moving.count_of, States.{ControllerState, kept}, declared.{next.Next.Next, wants.Carried.Carried}}
use Rattle.ahci_controller.specs.declared.next.Next.TheVariants as next_step
use Rattle.hba_fbs.specs.{Turning.orders, declared.turn.Turn.{Turn, TheVariants.Rests}}
use Rattle.controller_laws.specs.Places.{IsPlaced, IsWritten, WritesArePlaced}

-- ---- the first move

record IsFirst (entries : List Entry) (offset left : ℕ) (m : Move) : Type 0 where
  some : 0 < m.len
  few : m.len ≤ left
  here : (i : ℕ) → i < m.len → m.at + i ≡ place entries (offset + i)

place_in : (e : Entry) (rest : List Entry) (i : ℕ) → i < e.bytes → place (e ∷ rest) i ≡ e.address + i
place_in e rest i lt = by (nat_lt i e.bytes) refl
  where
    by : (b : Bool) → nat_lt i e.bytes ≡ b → (if b then e.address + i else place rest (i - e.bytes)) ≡ e.address + i
    by true is = refl
    by false is = let ge = ltb-false i e.bytes is in omega (arith, ge, lt)

place_past : (e : Entry) (rest : List Entry) (i : ℕ) → e.bytes ≤ i → place (e ∷ rest) i ≡ place rest (i - e.bytes)
place_past e rest i le = by (nat_lt i e.bytes) refl
  where
    by : (b : Bool) → nat_lt i e.bytes ≡ b → (if b then e.address + i else place rest (i - e.bytes)) ≡ place rest (i - e.bytes)
    by false is = refl
    by true is = let lt = ltb-true i e.bytes is in omega (arith, lt, le)

first_of : (e : Entry) (rest : List Entry) (offset left : ℕ) (m : Move) → offset < e.bytes → slice_get (moves_of (e ∷ rest) offset 0 left) 0 ≡ Some m → IsFirst (e ∷ rest) offset left m
unfolding moves_of
first_of e rest offset zero m lt h = cc
first_of e rest offset (suc n) m lt h =
    let is : move_of e offset 0 (suc n) ≡ m = ap (λ (o : Option Move). match_some o m (λ x. x)) h in
    subst (IsFirst (e ∷ rest) offset (suc n)) is (record {
      some = omega (arith, lt);
      few = omega arith;
      here = λ i below.
          let inside : offset + i < e.bytes = omega (arith, below) in
          let at : e.address + offset + i ≡ e.address + (offset + i) = omega arith in
          at ∙ sym (place_in e rest (offset + i) inside);
    })

first_at : (entries : List Entry) (offset left : ℕ) (m : Move) → slice_get (moves_at entries offset left) 0 ≡ Some m → IsFirst entries offset left m
unfolding moves_at
first_at [] offset left m h = cc
first_at (e ∷ rest) offset left m h = by (nat_lt offset e.bytes) refl (first_at rest (offset - e.bytes) left m) h
  where
    by : (b : Bool) → nat_lt offset e.bytes ≡ b → (slice_get (moves_at rest (offset - e.bytes) left) 0 ≡ Some m → IsFirst rest (offset - e.bytes) left m)
        → slice_get (if b then moves_of (e ∷ rest) offset 0 left else moves_at rest (offset - e.bytes) left) 0 ≡ Some m → IsFirst (e ∷ rest) offset left m
    by true is later g = first_of e rest offset left m (ltb-true offset e.bytes is) g
    by false is later g =
        let le : e.bytes ≤ offset = ltb-false offset e.bytes is in
        let f : IsFirst rest (offset - e.bytes) left m = later g in
        record {
          some = f.some;
          few = f.few;
          here = λ i below.
              let past : e.bytes ≤ offset + i = omega (arith, le) in
              let same : offset - e.bytes + i ≡ offset + i - e.bytes = omega (arith, le) in
              f.here i below ∙ ap (place rest) same ∙ sym (place_past e rest (offset + i) past);
        }

-- ---- a payload

run_placed : (c : ControllerState) (w : Carried) (o : Option Fetched) (m : Move) → c.writes.payload ≡ Some w → kept c w.slot ≡ o → match_some o None (first_run w) ≡ Some m → IsPlaced c (record m { from = w.from })
run_placed c w None m is at h = cc
run_placed c w (Some f) m is at h =
    let first : IsFirst f.table.entries w.offset (room_at f.table w.offset w.len) m = first_at f.table.entries w.offset (room_at f.table w.offset w.len) m h in
    record { carried = w; command = f; is = is; kept_is = at; from = refl; some = first.some; inside = first.few; here = first.here }

below_run : (b : Bool) (o : Option Move) (m : Move) → (if b then o else None) ≡ Some m → o ≡ Some m
below_run true o m h = h
below_run false o m h = cc

-- ---- the call

count_written : (c : ControllerState) (slot : ℕ) (o : Option Fetched) (next : Next) → counted_slot c.writes ≡ Some slot → kept c slot ≡ o → option_map (λ command. next_step.Counted (count_of command)) o ≡ Some next → IsWritten c next
count_written c slot None next is at h = cc
count_written c slot (Some command) next is at h =
    subst (λ (o : Option Next). MatchOption o (Unit {0}) (IsWritten c)) h (record { slot = slot; command = command; is = is; kept_is = at; count_is = refl })

rest_written : (c : ControllerState) (posted : Option Move) (counted : Option ℕ) (next : Next) → c.writes.posted ≡ posted → counted_slot c.writes ≡ counted → match_some posted (match_some counted None (count_next c)) (λ m. Some (next_step.Posted m)) ≡ Some next → IsWritten c next
rest_written c (Some m) counted next p q h = subst (λ (o : Option Next). MatchOption o (Unit {0}) (IsWritten c)) h p
rest_written c None (Some slot) next p q h = count_written c slot (kept c slot) next q refl h
rest_written c None None next p q h = cc

run_is : (c : ControllerState) (w : Carried) (o : Option Move) (next : Next) → c.writes.payload ≡ Some w → run_of c w ≡ o → match_some (option_map (step_with w) o) (rest c) (λ s. Some (next_step.Payload s.write)) ≡ Some next → IsWritten c next
run_is c w None next is run h = rest_written c c.writes.posted (counted_slot c.writes) next refl refl h
run_is c w (Some m) next is run h =
    subst (λ (o : Option Next). MatchOption o (Unit {0}) (IsWritten c)) h (run_placed c w (kept c w.slot) m is refl (below_run (nat_lt w.slot 32) (match_some (kept c w.slot) None (first_run w)) m run))

write_is : (c : ControllerState) (p : Option Carried) (next : Next) → c.writes.payload ≡ p → match_some (match_some p None (step_of c)) (rest c) (λ s. Some (next_step.Payload s.write)) ≡ Some next → IsWritten c next
write_is c None next is h = rest_written c c.writes.posted (counted_slot c.writes) next refl refl h
write_is c (Some w) next is h = run_is c w (run_of c w) next is refl h

-- what is no write
order_unwritten : (c : ControllerState) (slot : ℕ) (turn : Turn) (next : Next) → next ≡ order_next slot turn → IsWritten c next
order_unwritten c slot Rests next is = subst (IsWritten c) (sym is) tt
order_unwritten c slot other next is = subst (IsWritten c) (sym is) tt

feed_unwritten : (c : ControllerState) (dev number : ℕ) (turn : Turn) (next : Next) → next ≡ feed_next dev number turn → IsWritten c next
feed_unwritten c dev number Rests next is = subst (IsWritten c) (sym is) tt
feed_unwritten c dev number other next is = subst (IsWritten c) (sym is) tt

frames_unwritten : (c : ControllerState) (dev slot : Option ℕ) (fed : Bool) (base new : ControllerState) (next : Next) → FramesFor dev slot fed base next new → IsWritten c next
frames_unwritten c None None fed base new next h = subst (IsWritten c) (sym h.1) tt
frames_unwritten c None (Some slot) fed base new next h = order_unwritten c slot (orders base.core slot) next h.is
frames_unwritten c (Some dev) None fed base new next h = feed_unwritten c dev _ (turn_to base dev) next h.is
frames_unwritten c (Some dev) (Some slot) false base new next h = feed_unwritten c dev _ (turn_to base dev) next h.is
frames_unwritten c (Some dev) (Some slot) true base new next h = order_unwritten c slot (orders base.core slot) next h.is

reads_unwritten : (c : ControllerState) (o : Option ℕ) (base new : ControllerState) (next : Next) → MatchOption o (Frames base next new) (λ slot. Reads base slot next new) → IsWritten c next
reads_unwritten c None base new next h = frames_unwritten c (next_device base) (next_slot base) base.circle.fed base new next h
reads_unwritten c (Some slot) base new next h = subst (IsWritten c) (sym h.0) tt

rests_unwritten : (c : ControllerState) (o : Option ℕ) (base new : ControllerState) (next : Next) → MatchOption o (RestsNow base next new) (λ slot. Reads base slot next new) → IsWritten c next
rests_unwritten c None base new next h = subst (IsWritten c) (sym h.1) tt
rests_unwritten c (Some slot) base new next h = subst (IsWritten c) (sym h.0) tt

goes_unwritten : (c : ControllerState) (started : Bool) (base new : ControllerState) (next : Next) → GoesIf started base next new → IsWritten c next
goes_unwritten c true base new next h = reads_unwritten c (next_read base) base new next h
goes_unwritten c false base new next h = rests_unwritten c (next_read h.middle) h.middle new next h.reads

turns_unwritten : (c : ControllerState) (halted : Bool) (base new : ControllerState) (next : Next) → TurnsIf halted base next new → IsWritten c next
turns_unwritten c true base new next h = subst (IsWritten c) (sym h.1) tt
turns_unwritten c false base new next h = goes_unwritten c base.core.registers.started base new next h

turns_placed : (o : Option Next) (old new : ControllerState) (next : Next) → next_write old ≡ o → MatchOption o (TurnsIf (is_halted (written old)) (written old) next new) (λ write. (next ≡ write) × (new ≡ written old)) → IsWritten old next
turns_placed None old new next is h = turns_unwritten old (is_halted (written old)) (written old) new next h
turns_placed (Some write) old new next is h = subst (IsWritten old) (sym h.0) (write_is old old.writes.payload write refl is)

pub writes_are_placed : WritesArePlaced
writes_are_placed old new next h = turns_placed (next_write old) old new next refl h
