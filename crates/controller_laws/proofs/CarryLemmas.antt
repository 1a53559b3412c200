-- Where the bytes of Data go, over a run.
use Rattle.std.proofs.Common.{◌≡◌, ◌≢◌, ℕ, zero, suc, ◌+◌, ◌-◌, ◌<◌, ◌≤◌, ◌&&◌, ◌||◌, min, Bool, true, false, not, List, [], ◌∷◌, ◌++◌, length, take}
use Rattle.std.proofs.Common.{drop, get_or, set, refl, sym, ap, subst, ◌∙◌, inl, inr, arith, Option, Some, None, get_or-set_same, get_or-set_other}
use Rattle.std.proofs.lemmas.{Bool.{and_parts, cases_eq, eqb-true, false≢true, lt-ltb, ltb-false, ltb-true, or_parts, true≢false}, List.{append-nil}}
use Rattle.std.proofs.lemmas.List.{append_assoc, drop-drop, length-drop, length-take}
use Rattle.std.specs.{Prelude.{◌==◌, ◌⊎◌, MatchOption, IfSome, is_some, nat_lt, slice_get, if◌then◌else◌}, Option.option_map}
use Rattle.slots.specs.Slots.{has_bit, match_some}
use Rattle.guest_fetch.specs.{Commands.Fetched, Moves.{moves_at, moves_of}, Places.{Places, Single, named, place, room_at, single, singles}}
use Rattle.guest_fetch.specs.{Places.{singles_from, total_of}, declared.{entry.Entry.Entry, fetch.Supplied.Supplied, moves.Move.Move}}
use Rattle.guest_fetch.specs.declared.fetch.Supplied.TheVariants as came_as
use Rattle.hba_fbs.specs.{Choosing.may_feed, declared.{report.Wrote.Wrote, turn.Turn.{Turn, TheVariants.Feeds}}}
use Rattle.ahci_controller.specs.{Access.fits as fits_width, Feeding.{GathersIf, Loses, LosesIf, MissesIf as MissesDataIf, SendsIf, sent_to}}
use Rattle.ahci_controller.specs.{Feeding.without_feeding, Fetching.{GoesOn, MissesIf, SuppliesIf, answered, fits, is_asked, want_at, without_fetch}}
use Rattle.ahci_controller.specs.{Issuing.{PlacesSlot, RefusesSlot, not_issued}, Moving.{commands_after, moved_on}, Next.{Turns, TurnsIf}}
use Rattle.ahci_controller.specs.Next.{after_count, after_rest, counted_slot, first_run, is_fed, is_halted, left, next_write, rest, run_of, step_of}
use Rattle.ahci_controller.specs.{Next.{step_with, turn_to, written}, Outbox.no_writes, Rules.IsCarried, States.{ControllerState, kept}}
use Rattle.ahci_controller.specs.{Taking.{brought, carried, is_any}, Wide.WritesFitting, declared.{access.Width.Width, feeding.Fed.Fed}}
use Rattle.ahci_controller.specs.declared.{issuing.{NotTaken.NotTaken, Supply.Supply}, next.Next.Next, taking.Took.Took, wants.Carried.Carried}
use Rattle.ahci_controller.specs.declared.{wants.Writes.Writes, wide.WideWritten.WideWritten}
use Rattle.ahci_controller.specs.declared.next.Next.TheVariants as next_step
use Rattle.ahci_controller.specs.declared.taking.Hindrance.TheVariants as why
use Rattle.controller_laws.specs.Carrying.{AllAreSaid, AreLeft, AreNumbered, AreSaid, BytesAreSaid, Carrying, IsLeft, IsOwnData, IsSaid, SaidOfData}
use Rattle.controller_laws.specs.Carrying.{carrying_after_call, carrying_by, carrying_of, cut_behind, cut_wide, first_of, moves_in, moves_said}
use Rattle.controller_laws.specs.{Carrying.{placed_of, said_more, said_of}, Events.{Does, Event, IsController, Runs, Takes}, Places.IsPlaced}
use Rattle.controller_laws.specs.Places.{IsWritten}
use Rattle.controller_laws.specs.Events as event
use Rattle.controller_laws.proofs.{OwnDataLemmas.{data_is_own, frame_short}, PlaceLemmas.writes_are_placed, TouchLemmas.{IsCalm, Touches}}
use Rattle.controller_laws.proofs.TouchLemmas.{part_touches, turn_calm, write_touches, written_calm, Touches.{Drops, Keeps}}

-- ---- bytes with their places

singles_both : (frame : List ℕ) (xs ys : List Move) → singles frame (xs ++ ys) ≡ singles frame xs ++ singles frame ys
singles_both frame [] ys = refl
singles_both frame (m ∷ xs) ys =
    ap (λ (l : List Single). singles_from m.at (take m.len (drop m.from frame)) ++ l) (singles_both frame xs ys) ∙ sym (append_assoc (singles_from m.at (take m.len (drop m.from frame))) (singles frame xs) (singles frame ys))

-- the first n, and k behind them
named_both : (entries : List Entry) (offset n k : ℕ) (bytes : List ℕ) → n ≤ length bytes → named entries offset (take (n + k) bytes) ≡ named entries offset (take n bytes) ++ named entries (offset + n) (take k (drop n bytes))
named_both entries offset zero k bytes le =
    let same : offset ≡ offset + 0 = omega arith in
    let all : 0 + k ≡ k = omega arith in
    ap (λ (m : ℕ). named entries offset (take m bytes)) all ∙ ap (λ (o : ℕ). named entries o (take k bytes)) same
named_both entries offset (suc n) k [] le = absurd (too_many le)
  where
    too_many : suc n ≤ 0 → ⊥
    too_many below = omega (arith, below)
named_both entries offset (suc n) k (b ∷ bytes) le =
    let more : suc n + k ≡ suc (n + k) = omega arith in
    let on : offset + 1 + n ≡ offset + suc n = omega arith in
    ap (λ (m : ℕ). named entries offset (take m (b ∷ bytes))) more
    ∙ ap (λ (l : List Single). single (place entries offset) b ∷ l) (named_both entries (offset + 1) n k bytes (omega (arith, le)) ∙ ap (λ (o : ℕ). named entries (offset + 1) (take n bytes) ++ named entries o (take k (drop n bytes))) on)

-- a run of bytes that lie one behind another
run_named : (entries : List Entry) (at offset : ℕ) (bytes : List ℕ) → ((i : ℕ) → i < length bytes → at + i ≡ place entries (offset + i)) → singles_from at bytes ≡ named entries offset bytes
run_named entries at offset [] here = refl
run_named entries at offset (b ∷ bytes) here =
    let first : at ≡ place entries offset =
    (let a : at ≡ at + 0 = omega arith in let o : offset + 0 ≡ offset = omega arith in a ∙ here 0 (omega arith) ∙ ap (place entries) o) in
    let later : singles_from (at + 1) bytes ≡ named entries (offset + 1) bytes =
    run_named entries (at + 1) (offset + 1) bytes (λ i below.
    let a : at + 1 + i ≡ at + suc i = omega arith in let o : offset + suc i ≡ offset + 1 + i = omega arith in a ∙ here (suc i) (omega (arith, below)) ∙ ap (place entries) o) in
    ap (λ (a : ℕ). single a b ∷ singles_from (at + 1) bytes) first ∙ ap (λ (l : List Single). single (place entries offset) b ∷ l) later

-- the bytes of a frame from one on, behind its header
behind : (frame : List ℕ) (n : ℕ) → drop (4 + n) frame ≡ drop n (drop 4 frame)
behind frame n = sym (drop-drop n 4 frame)

-- one more run of the frame's bytes
said_on : (d : Carrying) (count : ℕ) (m : Move) → said_of d ≡ first_of d count → m.from ≡ 4 + count → count + m.len ≤ length (drop 4 d.frame) → ((i : ℕ) → i < m.len → m.at + i ≡ place d.table.entries (d.wrote.offset + count + i))
    → singles d.frame (d.said ++ m ∷ []) ≡ first_of d (count + m.len)
said_on d count m said from fits here =
    let bytes : List ℕ = take m.len (drop count (drop 4 d.frame)) in
    let at : take m.len (drop m.from d.frame) ≡ bytes = ap (λ (n : ℕ). take m.len (drop n d.frame)) from ∙ ap (take m.len) (behind d.frame count) in
    let long : length bytes ≤ m.len = let t = length-take m.len (drop count (drop 4 d.frame)) in omega (arith, t) in
    let run : singles_from m.at bytes ≡ named d.table.entries (d.wrote.offset + count) bytes = run_named d.table.entries m.at (d.wrote.offset + count) bytes (λ i below. here i (omega (arith, below, long))) in
    singles_both d.frame d.said (m ∷ [])
    ∙ ap (λ (l : List Single). singles d.frame d.said ++ l) (append-nil (singles_from m.at (take m.len (drop m.from d.frame))) ∙ ap (singles_from m.at) at ∙ run)
    ∙ ap (λ (l : List Single). l ++ named d.table.entries (d.wrote.offset + count) bytes) said
    ∙ sym (named_both d.table.entries d.wrote.offset count m.len (drop 4 d.frame) (omega (arith, fits)))

-- ---- where there is no run, no byte has a place

is_over : (entries : List Entry) (offset left : ℕ) → slice_get (moves_at entries offset left) 0 ≡ None → (left ≡ 0) ⊎ (total_of entries ≤ offset)
unfolding moves_at moves_of
is_over [] offset left h = inr (omega arith)
is_over (e ∷ rest) offset left h = by (nat_lt offset e.bytes) refl left h (is_over rest (offset - e.bytes) left)
  where
    by : (b : Bool) → nat_lt offset e.bytes ≡ b → (n : ℕ) → slice_get (if b then moves_of (e ∷ rest) offset 0 n else moves_at rest (offset - e.bytes) n) 0 ≡ None
        → (slice_get (moves_at rest (offset - e.bytes) n) 0 ≡ None → (n ≡ 0) ⊎ (total_of rest ≤ offset - e.bytes)) → (n ≡ 0) ⊎ (e.bytes + total_of rest ≤ offset)
    by true is zero g later = inl refl
    by true is (suc n) g later = cc
    by false is n g later = elim (later g) [
      | inl none ↦ inl none
      | inr past ↦ let le : e.bytes ≤ offset = ltb-false offset e.bytes is in inr (omega (arith, le, past))
    ]

no_room : (t : Places) (offset len : ℕ) → slice_get (moves_at t.entries offset (room_at t offset len)) 0 ≡ None → room_at t offset len ≡ 0
no_room t offset len h = elim (is_over t.entries offset (room_at t offset len) h) [
  | inl none ↦ none
  | inr past ↦ omega (arith, past)
]

all_placed : (t : Places) (offset len count : ℕ) → count ≤ room_at t offset len → room_at t (offset + count) (len - count) ≡ 0 → count ≡ room_at t offset len
all_placed t offset len count few none = omega (arith, few, none)

-- ---- what is written, and what is left

after_empty : (w : Writes) → (after_rest w).payload ≡ None
after_empty w = by w.posted (counted_slot w)
  where
    by : (posted : Option Move) (slot : Option ℕ) → (match_some posted (match_some slot no_writes (after_count w)) (λ m. record w { payload = None; posted = None })).payload ≡ None
    by None None = refl
    by None (Some slot) = refl
    by (Some m) slot = refl

-- by what was to be written, and by its first run
abbrev after_payload : ControllerState → Option Carried → Option Carried
after_payload c p = (match_some (match_some p None (step_of c)) (after_rest c.writes) (λ s. record c.writes { payload = s.left })).payload

abbrev after_run : ControllerState → Carried → Option Move → Option Carried
after_run c w run = (match_some (option_map (step_with w) run) (after_rest c.writes) (λ s. record c.writes { payload = s.left })).payload

abbrev write_of : ControllerState → Option Carried → Option Next
write_of c p = match_some (match_some p None (step_of c)) (rest c) (λ s. Some (next_step.Payload s.write))

abbrev write_by : ControllerState → Carried → Option Move → Option Next
write_by c w run = match_some (option_map (step_with w) run) (rest c) (λ s. Some (next_step.Payload s.write))

no_moves : (c : ControllerState) (next : Next) → IsWritten c next → ((m : Move) → IsPlaced c m → ⊥) → moves_in next ≡ []
no_moves c (next_step.Payload m) is none = absurd (none m is)
no_moves c other is none = refl

abbrev more : Carrying → List Move → Carrying
more d moves = record { frame = d.frame; wrote = d.wrote; table = d.table; said = d.said ++ moves; cut = d.cut }

none_more : (new : ControllerState) (next : Next) (d : Carrying) (count : ℕ) → moves_in next ≡ [] → new.writes.payload ≡ None → (d.cut ≡ false → count ≡ placed_of d) → count ≤ placed_of d → said_of d ≡ first_of d count → 4 + d.wrote.len ≤ length d.frame → length d.frame ≤ 8196 → IsSaid new (more d (moves_in next))
none_more new next d count moves none all few said whole short =
    subst (λ (ms : List Move). IsSaid new (more d ms)) (sym moves) (record {
      count = count;
      few = few;
      said = ap (singles d.frame) (append-nil d.said) ∙ said;
      left = subst (λ (o : Option Carried). AreLeft o new (more d []) count) (sym none) all;
      whole = whole;
      short = short;
    })

same_carried : (a b : Carried) → Some a ≡ Some b → a ≡ b
same_carried a b h = ap (λ (o : Option Carried). match_some o a (λ x. x)) h

table_of : (a b : Option Fetched) (f : Fetched) (t : Places) → a ≡ Some f → a ≡ b → MatchOption b ⊥ (λ g. g.table ≡ t) → f.table ≡ t
table_of a b f t is same h = subst (λ (o : Option Fetched). MatchOption o ⊥ (λ g. g.table ≡ t)) (sym same ∙ is) h

module _ (old new : ControllerState) (d : Carrying) (w : Carried) (k : IsController old) (numbered : AreNumbered d) (was : IsSaid old d) (now : old.writes.payload ≡ Some w) (calm : IsCalm old new) where
  left_over : IsLeft old d was.count w
  left_over = subst (λ (o : Option Carried). AreLeft o old d was.count) now was.left

  -- no run: no byte that is left has a place
  over : (f : Fetched) → kept old w.slot ≡ Some f → slice_get (moves_at f.table.entries w.offset (room_at f.table w.offset w.len)) 0 ≡ None → (room_at f.table w.offset w.len ≡ 0) × (was.count ≡ placed_of d)
  over f at none =
      let zero_room : room_at f.table w.offset w.len ≡ 0 = no_room f.table w.offset w.len none in
      let table : f.table ≡ d.table = table_of (kept old w.slot) (kept old d.wrote.slot) f d.table at (ap (kept old) left_over.slot) left_over.command in
      let here : room_at d.table (d.wrote.offset + was.count) (d.wrote.len - was.count) ≡ 0 =
      subst (λ (t : Places). room_at t (d.wrote.offset + was.count) (d.wrote.len - was.count) ≡ 0) table (subst (λ (o : ℕ). room_at f.table o (d.wrote.len - was.count) ≡ 0) left_over.offset (subst (λ (n : ℕ). room_at f.table w.offset n ≡ 0) left_over.len zero_room)) in
      (zero_room, all_placed d.table d.wrote.offset d.wrote.len was.count was.few here)

  -- a run, and what is left behind it
  run_on : (m : Move) → IsPlaced old (record m { from = w.from }) → new.writes.payload ≡ left w m → IsSaid new (more d (record m { from = w.from } ∷ []))
  run_on m p payload =
      let is : p.carried ≡ w = same_carried p.carried w (sym p.is ∙ now) in
      let l = left_over in
      let table : p.command.table ≡ d.table = table_of (kept old p.carried.slot) (kept old d.wrote.slot) p.command d.table p.kept_is (ap (λ (x : Carried). kept old x.slot) is ∙ ap (kept old) l.slot) l.command in
      let offset : p.carried.offset ≡ d.wrote.offset + was.count = ap (λ (x : Carried). x.offset) is ∙ l.offset in
      let few : m.len ≤ room_at d.table (d.wrote.offset + was.count) (d.wrote.len - was.count) =
      subst (λ (t : Places). m.len ≤ room_at t (d.wrote.offset + was.count) (d.wrote.len - was.count)) table
      (subst (λ (o : ℕ). m.len ≤ room_at p.command.table o (d.wrote.len - was.count)) offset (subst (λ (n : ℕ). m.len ≤ room_at p.command.table p.carried.offset n) (ap (λ (x : Carried). x.len) is ∙ l.len) p.inside)) in
      let was_few = was.few in
      let whole = was.whole in
      let long : d.wrote.len ≤ length (drop 4 d.frame) = let dropped = length-drop 4 d.frame in omega (arith, dropped, whole) in
      let fits : was.count + m.len ≤ placed_of d = omega (arith, few, was_few) in
      record {
        count = was.count + m.len;
        few = fits;
        said = said_on d was.count (record m { from = w.from }) was.said l.from (omega (arith, fits, long))
            (λ i below. p.here i below ∙ ap (λ (o : ℕ). place p.command.table.entries (o + i)) offset ∙ ap (λ (t : Places). place t.entries (d.wrote.offset + was.count + i)) table);
        left = subst (λ (o : Option Carried). AreLeft o new (more d (record m { from = w.from } ∷ [])) (was.count + m.len)) (sym payload) (by (min m.len w.len == w.len) refl few fits);
        whole = whole;
        short = was.short;
      }
    where
      by : (b : Bool) → (min m.len w.len == w.len) ≡ b → m.len ≤ room_at d.table (d.wrote.offset + was.count) (d.wrote.len - was.count) → was.count + m.len ≤ placed_of d
          → AreLeft (if b then None else Some (record { slot = w.slot; offset = min (w.offset + min m.len w.len) 4294967295; from = min (w.from + min m.len w.len) 4294967295; len = w.len - min m.len w.len })) new (more d (record m { from = w.from } ∷ [])) (was.count + m.len)
      by true is few fits =
          let done : min m.len w.len ≡ w.len = eqb-true (min m.len w.len) w.len is in
          let len = left_over.len in
          λ cut. omega (arith, done, len, few, fits)
      by false is few fits =
          let l = left_over in
          let len = l.len in
          let offset = l.offset in
          let from = l.from in
          let whole = was.whole in
          let short = was.short in
          record {
            slot = l.slot;
            offset = omega (arith, len, offset, numbered, few, fits);
            from = omega (arith, len, from, few, fits, whole, short);
            len = omega (arith, len, few, fits);
            command = subst (λ (c : List (Option Fetched)). MatchOption (get_or c d.wrote.slot None) ⊥ (λ f. f.table ≡ d.table)) (sym calm.commands) l.command;
          }

  -- by whether there is a run
  goes : (next : Next) → IsWritten old next → ((write : Next) → next_write old ≡ Some write → next ≡ write) → (o : Option Move) → run_of old w ≡ o → IsSaid new (more d (moves_in next))
  goes next is h (Some m) run =
      let write : next_write old ≡ Some (next_step.Payload (record m { from = w.from })) = ap (write_of old) now ∙ ap (write_by old w) run in
      let told : next ≡ next_step.Payload (record m { from = w.from }) = h (next_step.Payload (record m { from = w.from })) write in
      let payload : new.writes.payload ≡ left w m = ap (λ (x : Writes). x.payload) calm.writes ∙ ap (after_payload old) now ∙ ap (after_run old w) run in
      subst (λ (n : Next). IsSaid new (more d (moves_in n))) (sym told) (run_on m (subst (IsWritten old) told is) payload)
  goes next is h None run =
      let payload : new.writes.payload ≡ None = ap (λ (x : Writes). x.payload) calm.writes ∙ ap (after_payload old) now ∙ ap (after_run old w) run ∙ after_empty old.writes in
      let carried : IsCarried old.wants old.commands w = subst (λ (o : Option Carried). IfSome o (IsCarried old.wants old.commands)) now k.rules.carried in
      by_command (kept old w.slot) refl carried.kept (sym (ap (λ (b : Bool). if b then match_some (kept old w.slot) None (first_run w) else None) (lt-ltb w.slot 32 carried.slot)) ∙ run) payload
    where
      by_command : (o : Option Fetched) → kept old w.slot ≡ o → is_some o ≡ true → match_some (kept old w.slot) None (first_run w) ≡ None → new.writes.payload ≡ None → IsSaid new (more d (moves_in next))
      by_command None at some none payload = absurd (false≢true some)
      by_command (Some f) at some none payload =
          let first : slice_get (moves_at f.table.entries w.offset (room_at f.table w.offset w.len)) 0 ≡ None = sym (ap (λ (o : Option Fetched). match_some o None (first_run w)) at) ∙ none in
          let o = over f at first in
          none_more new next d was.count (no_moves old next is (λ m p. not_placed f at o.0 m p)) payload (λ cut. o.1) was.few was.said was.whole was.short
        where
          not_placed : (f : Fetched) → kept old w.slot ≡ Some f → room_at f.table w.offset w.len ≡ 0 → (m : Move) → IsPlaced old m → ⊥
          not_placed f at zero_room m p =
              let same : p.carried ≡ w = same_carried p.carried w (sym p.is ∙ now) in
              let command : Some p.command ≡ Some f = sym p.kept_is ∙ ap (λ (x : Carried). kept old x.slot) same ∙ at in
              let f_is : p.command ≡ f = ap (λ (o : Option Fetched). match_some o f (λ x. x)) command in
              let none : room_at p.command.table p.carried.offset p.carried.len ≡ 0 = ap (λ (x : Carried). room_at p.command.table x.offset x.len) same ∙ ap (λ (g : Fetched). room_at g.table w.offset w.len) f_is ∙ zero_room in
              let some = p.some in
              let inside = p.inside in
              omega (arith, none, some, inside)

-- ---- what is next

turned : (old new : ControllerState) (next : Next) (d : Carrying) (p : Option Carried) → old.writes.payload ≡ p → AreNumbered d → IsController old → IsCalm old new → IsWritten old next → ((write : Next) → next_write old ≡ Some write → next ≡ write) → IsSaid old d
    → IsSaid new (more d (moves_in next))
turned old new next d (Some w) now numbered k calm is h was = goes old new d w k numbered was now calm next is h (run_of old w) refl
turned old new next d None now numbered k calm is h was =
    none_more new next d was.count (no_moves old next is (λ m p. not_there p.carried (sym now ∙ p.is))) (ap (λ (x : Writes). x.payload) calm.writes ∙ ap (after_payload old) now ∙ after_empty old.writes)
    (subst (λ (o : Option Carried). AreLeft o old d was.count) now was.left) was.few was.said was.whole was.short
  where
    not_there : (w : Carried) → None ≡ Some w → ⊥
    not_there w e = cc

-- a write that is next is what is answered
turn_written : (old new : ControllerState) (next : Next) → Turns old next new → (write : Next) → next_write old ≡ Some write → next ≡ write
turn_written old new next h write is = (subst (λ (o : Option Next). MatchOption o (TurnsIf (is_halted (written old)) (written old) next new) (λ x. (next ≡ x) × (new ≡ written old))) is h).0

calm_any : (old new : ControllerState) (next : Next) (was : Option Carrying) → IsController old → IsCalm old new → IsWritten old next → ((write : Next) → next_write old ≡ Some write → next ≡ write) → AreSaid old was → AreSaid new (said_more (moves_in next) was)
calm_any old new next (Some d) k calm is h was = λ numbered. turned old new next d old.writes.payload refl numbered k calm is h (was numbered)
calm_any old new next None k calm is h was = ap (λ (x : Writes). x.payload) calm.writes ∙ ap (after_payload old) was ∙ after_empty old.writes

turned_any : (old new : ControllerState) (next : Next) (was : Option Carrying) → IsController old → Turns old next new → AreSaid old was → AreSaid new (said_more (moves_in next) was)
turned_any old new next was k h = calm_any old new next was k (turn_calm old new next h) (writes_are_placed old new next h) (turn_written old new next h)

-- what is next to be written, and nothing else
said_any : (old new : ControllerState) (write : Option Next) (was : Option Carrying) → IsController old → write ≡ next_write old → new ≡ written old → AreSaid old was → AreSaid new (said_more (moves_said write) was)
said_any old new (Some next) was k is rest =
    turned_any old new next was k (subst (λ (o : Option Next). MatchOption o (TurnsIf (is_halted (written old)) (written old) next new) (λ x. (next ≡ x) × (new ≡ written old))) is (refl, rest))
said_any old new None was k is rest = calm_any old new next_step.Nothing was k (written_calm old new rest) tt (λ write some. absurd (none_next write (is ∙ some)))
  where
    none_next : (write : Next) → None ≡ Some write → ⊥
    none_next write e = cc

-- ---- other calls

-- the table of a command stays
abbrev HasTable : Option Fetched → Option Fetched → Type 0
HasTable None now = Unit {0}
HasTable (Some f) None = ⊥
HasTable (Some f) (Some g) = g.table ≡ f.table

has_table : (o : Option Fetched) → HasTable o o
has_table None = tt
has_table (Some f) = refl

still_table : (a b : Option Fetched) (t : Places) → HasTable a b → MatchOption a ⊥ (λ f. f.table ≡ t) → MatchOption b ⊥ (λ f. f.table ≡ t)
still_table None b t same h = absurd h
still_table (Some f) None t same h = absurd same
still_table (Some f) (Some g) t same h = same ∙ h

left_same : (p : Option Carried) (old new : ControllerState) (d : Carrying) (count : ℕ) → ((w : Carried) → p ≡ Some w → HasTable (kept old w.slot) (kept new w.slot)) → AreLeft p old d count → AreLeft p new d count
left_same None old new d count same h = h
left_same (Some w) old new d count same h = record {
  slot = h.slot;
  offset = h.offset;
  from = h.from;
  len = h.len;
  command = still_table (kept old d.wrote.slot) (kept new d.wrote.slot) d.table (subst (λ (s : ℕ). HasTable (kept old s) (kept new s)) h.slot (same w refl)) h.command;
}

still_said : (old new : ControllerState) (d : Carrying) → new.writes.payload ≡ old.writes.payload → ((w : Carried) → old.writes.payload ≡ Some w → HasTable (kept old w.slot) (kept new w.slot)) → IsSaid old d → IsSaid new d
still_said old new d payload same h = record {
  count = h.count;
  few = h.few;
  said = h.said;
  left = subst (λ (o : Option Carried). AreLeft o new d h.count) (sym payload) (left_same old.writes.payload old new d h.count same h.left);
  whole = h.whole;
  short = h.short;
}

stays : (old new : ControllerState) (was : Option Carrying) → new.writes.payload ≡ old.writes.payload → ((w : Carried) → old.writes.payload ≡ Some w → HasTable (kept old w.slot) (kept new w.slot)) → AreSaid old was → AreSaid new was
stays old new None payload same h = payload ∙ h
stays old new (Some d) payload same h = λ numbered. still_said old new d payload same (h numbered)

same_table : (old new : ControllerState) → new.commands ≡ old.commands → (w : Carried) → old.writes.payload ≡ Some w → HasTable (kept old w.slot) (kept new w.slot)
same_table old new same w now = subst (HasTable (kept old w.slot)) (sym (ap (λ (l : List (Option Fetched)). get_or l w.slot None) same)) (has_table (kept old w.slot))

stays_all : (old new : ControllerState) (was : Option Carrying) → new.writes ≡ old.writes → new.commands ≡ old.commands → AreSaid old was → AreSaid new was
stays_all old new was writes commands h = stays old new was (ap (λ (x : Writes). x.payload) writes) (same_table old new commands) h

same_said : (old new : ControllerState) (was : Option Carrying) → new ≡ old → AreSaid old was → AreSaid new was
same_said old new was same h = subst (λ (c : ControllerState). AreSaid c was) (sym same) h

-- ---- supplies

-- it is for a slot of which nothing is to be written
other_slot : (old : ControllerState) (slot number : ℕ) → IsController old → is_asked old.wants slot number ≡ true → (w : Carried) → old.writes.payload ≡ Some w → w.slot ≢ slot
other_slot old slot number k asked w now same =
    let carried : IsCarried old.wants old.commands w = subst (λ (o : Option Carried). IfSome o (IsCarried old.wants old.commands)) now k.rules.carried in
    let out : has_bit old.wants.out slot ≡ true = (and_parts (nat_lt slot 32) (has_bit old.wants.out slot) (and_parts (nat_lt slot 32 && has_bit old.wants.out slot) _ asked).0).1 in
    false≢true (sym carried.out ∙ ap (has_bit old.wants.out) same ∙ out)

kept_beside : (slot : ℕ) (f : Fetched) (old new : ControllerState) → new.commands ≡ set old.commands slot (Some f) → (w : Carried) → w.slot ≢ slot → HasTable (kept old w.slot) (kept new w.slot)
kept_beside slot f old new is w ne =
    subst (HasTable (kept old w.slot)) (sym (ap (λ (l : List (Option Fetched)). get_or l w.slot None) is ∙ get_or-set_other old.commands slot w.slot (Some f) None ne)) (has_table (kept old w.slot))

refused : (slot : ℕ) (reason : NotTaken) (old new : ControllerState) (supply : Supply) (was : Option Carrying) → RefusesSlot (without_fetch (answered old slot) slot) slot reason supply new → AreSaid old was → AreSaid new was
refused slot reason old new supply was h = stays_all old new was (ap (λ (c : ControllerState). c.writes) h.rest) (ap (λ (c : ControllerState). c.commands) h.rest)

issued : (slot : ℕ) (f : Fetched) (o : Option NotTaken) (old new : ControllerState) (supply : Supply) (was : Option Carrying) → ((w : Carried) → old.writes.payload ≡ Some w → w.slot ≢ slot)
    → MatchOption o (PlacesSlot (without_fetch (answered old slot) slot) slot f supply new) (λ reason. RefusesSlot (without_fetch (answered old slot) slot) slot reason supply new) → AreSaid old was → AreSaid new was
issued slot f None old new supply was other h =
    stays old new was (ap (λ (c : ControllerState). c.writes.payload) h.rest) (λ w now. kept_beside slot f old new (ap (λ (c : ControllerState). c.commands) h.rest) w (other w now))
issued slot f (Some reason) old new supply was other h = refused slot reason old new supply was h

goes_on : (slot : ℕ) (came : Supplied) (old new : ControllerState) (supply : Supply) (was : Option Carrying) → ((w : Carried) → old.writes.payload ≡ Some w → w.slot ≢ slot) → GoesOn (without_fetch (answered old slot) slot) slot came supply new → AreSaid old was → AreSaid new was
goes_on slot (came_as.Refused r) old new supply was other h = refused slot _ old new supply was h
goes_on slot (came_as.Whole f) old new supply was other h = issued slot f (not_issued old.core slot f) old new supply was other h
goes_on slot rest old new supply was other h = stays_all old new was (ap (λ (c : ControllerState). c.writes) h.0) (ap (λ (c : ControllerState). c.commands) h.0)

supplies : (fit : Bool) (slot number : ℕ) (bytes : List ℕ) (old new : ControllerState) (supply : Supply) (was : Option Carrying) → IsController old → fits old slot number bytes ≡ fit → SuppliesIf fit old slot bytes supply new → AreSaid old was → AreSaid new was
supplies false slot number bytes old new supply was k is h = same_said old new was h.0
supplies true slot number bytes old new supply was k is h =
    goes_on slot h.came old new supply was (other_slot old slot number k (and_parts (is_asked old.wants slot number) (length bytes == (want_at old slot).len) is).0) h.goes

misses : (out : Bool) (slot : ℕ) (old new : ControllerState) (supply : Supply) (was : Option Carrying) → MissesIf out old slot supply new → AreSaid old was → AreSaid new was
misses false slot old new supply was h = same_said old new was h.0
misses true slot old new supply was h = refused slot _ old new supply was h

-- ---- bytes that moved

-- their command keeps its table
counted_table : (c : ControllerState) (w : Wrote) (s : ℕ) (o : Option Fetched) → kept c w.slot ≡ o → (low : Bool) → nat_lt w.slot 32 ≡ low → length c.commands ≡ 32
    → HasTable (kept c s) (get_or (match_some (if low then o else None) c.commands (λ command. set c.commands w.slot (Some (moved_on w command)))) s None)
counted_table c w s None at true is long = has_table (kept c s)
counted_table c w s None at false is long = has_table (kept c s)
counted_table c w s (Some f) at false is long = has_table (kept c s)
counted_table c w s (Some f) at true is long = elim (cases_eq s w.slot) [
  | inl same ↦
      let here : get_or (set c.commands w.slot (Some (moved_on w f))) s None ≡ Some (moved_on w f) =
      ap (λ (k : ℕ). get_or (set c.commands w.slot (Some (moved_on w f))) k None) same ∙ get_or-set_same c.commands w.slot (Some (moved_on w f)) None (rw long (ltb-true w.slot 32 is)) in
      subst (HasTable (kept c s)) (sym here) (subst (λ (x : Option Fetched). HasTable x (Some (moved_on w f))) (sym (ap (kept c) same ∙ at)) (moved_table (moved_on w f) f refl))
  | inr ne ↦ subst (HasTable (kept c s)) (sym (get_or-set_other c.commands w.slot s (Some (moved_on w f)) None ne)) (has_table (kept c s))
]
  where
    moved_table : (g h : Fetched) → g.table ≡ h.table → HasTable (Some h) (Some g)
    moved_table g h same = same

after_table : (c : ControllerState) (wrote : Option Wrote) (s : ℕ) → length c.commands ≡ 32 → HasTable (kept c s) (get_or (commands_after c wrote) s None)
after_table c None s long = has_table (kept c s)
after_table c (Some w) s long = counted_table c w s (kept c w.slot) refl (nat_lt w.slot 32) refl long

moved_said : (old base new : ControllerState) (wrote : Option Wrote) (was : Option Carrying) → base.commands ≡ old.commands → new.writes.payload ≡ old.writes.payload → new.commands ≡ commands_after base wrote → length old.commands ≡ 32 → AreSaid old was → AreSaid new was
moved_said old base new wrote was same payload commands long h =
    stays old new was payload (λ w now.
    subst (λ (l : List (Option Fetched)). HasTable (kept old w.slot) (get_or l w.slot None)) (sym commands)
    (subst (λ (l : List (Option Fetched)). HasTable (get_or l w.slot None) (get_or (commands_after base wrote) w.slot None)) same (after_table base wrote w.slot (ap length same ∙ long)))) h

-- ---- Data to devices

sends : (due : Bool) (dev : ℕ) (old new : ControllerState) (result : Fed) (was : Option Carrying) → SendsIf due (without_feeding old dev) dev result new → length old.commands ≡ 32 → AreSaid old was → AreSaid new was
sends false dev old new result was h long = stays_all old new was (ap (λ (c : ControllerState). c.writes) h.0) (ap (λ (c : ControllerState). c.commands) h.0)
sends true dev old new result was h long =
    moved_said old (without_feeding old dev) new (sent_to (without_feeding old dev) dev) was refl (ap (λ (c : ControllerState). c.writes.payload) h.rest) (ap (λ (c : ControllerState). c.commands) h.rest) long

gathers : (out : Bool) (dev : ℕ) (old new : ControllerState) (result : Fed) (was : Option Carrying) → GathersIf out old dev result new → length old.commands ≡ 32 → AreSaid old was → AreSaid new was
gathers false dev old new result was h long = same_said old new was h.0
gathers true dev old new result was h long = sends (may_feed old.core dev) dev old new result was h long

loses : (turn : Turn) (base old new : ControllerState) (result : Fed) (was : Option Carrying) → base.writes ≡ old.writes → base.commands ≡ old.commands → Loses turn base result new → AreSaid old was → AreSaid new was
loses (Feeds dev slot offset len) base old new result was writes commands h = stays_all old new was (ap (λ (c : ControllerState). c.writes) h.rest ∙ writes) (ap (λ (c : ControllerState). c.commands) h.rest ∙ commands)
loses other base old new result was writes commands h = stays_all old new was (ap (λ (c : ControllerState). c.writes) h.0 ∙ writes) (ap (λ (c : ControllerState). c.commands) h.0 ∙ commands)

loses_if : (due : Bool) (dev : ℕ) (old new : ControllerState) (result : Fed) (was : Option Carrying) → LosesIf due (without_feeding old dev) dev result new → AreSaid old was → AreSaid new was
loses_if false dev old new result was h = stays_all old new was (ap (λ (c : ControllerState). c.writes) h.0) (ap (λ (c : ControllerState). c.commands) h.0)
loses_if true dev old new result was h = loses (turn_to (without_feeding old dev) dev) (without_feeding old dev) old new result was refl refl h

misses_data : (out : Bool) (dev : ℕ) (old new : ControllerState) (result : Fed) (was : Option Carrying) → MissesDataIf out old dev result new → AreSaid old was → AreSaid new was
misses_data false dev old new result was h = same_said old new was h.0
misses_data true dev old new result was h = loses_if (may_feed old.core dev) dev old new result was h

-- ---- writes of registers

cut_kept : (p : Option Carried) (c : ControllerState) (d : Carrying) (stopped : Bool) (count : ℕ) → AreLeft p c d count → AreLeft p c (record { frame = d.frame; wrote = d.wrote; table = d.table; said = d.said; cut = d.cut || stopped }) count
cut_kept None c d stopped count h = λ cut. h (or_parts d.cut stopped cut).0
cut_kept (Some w) c d stopped count h = record { slot = h.slot; offset = h.offset; from = h.from; len = h.len; command = h.command }

cut_dropped : (started : Bool) (c : ControllerState) (d : Carrying) (count : ℕ) → started ≡ false → AreLeft None c (record { frame = d.frame; wrote = d.wrote; table = d.table; said = d.said; cut = d.cut || not started }) count
cut_dropped started c d count stopped = λ cut. absurd (true≢false (ap not (sym stopped) ∙ (or_parts d.cut (not started) cut).1))

cut_said : (old new : ControllerState) (d : Carrying) → Touches old new → IsSaid old d → IsSaid new (record { frame = d.frame; wrote = d.wrote; table = d.table; said = d.said; cut = d.cut || not new.core.registers.started })
cut_said old new d touches was = record {
  count = was.count;
  few = was.few;
  said = was.said;
  left = by touches;
  whole = was.whole;
  short = was.short;
}
  where
    after : Carrying
    after = record { frame = d.frame; wrote = d.wrote; table = d.table; said = d.said; cut = d.cut || not new.core.registers.started }

    by : Touches old new → AreLeft new.writes.payload new after was.count
    by (Keeps k) =
        subst (λ (o : Option Carried). AreLeft o new after was.count) (sym (ap (λ (x : Writes). x.payload) k.writes))
        (cut_kept old.writes.payload new d (not new.core.registers.started) was.count (left_same old.writes.payload old new d was.count (same_table old new k.commands) was.left))
    by (Drops x) = subst (λ (o : Option Carried). AreLeft o new after was.count) (sym (ap (λ (x : Writes). x.payload) x.writes)) (cut_dropped new.core.registers.started new d was.count x.stopped)

write_said : (old new : ControllerState) (was : Option Carrying) → Touches old new → AreSaid old was → AreSaid new (cut_behind new was)
write_said old new (Some d) touches was = λ numbered. cut_said old new d touches (was numbered)
write_said old new None (Keeps k) was = ap (λ (x : Writes). x.payload) k.writes ∙ was
write_said old new None (Drops d) was = ap (λ (x : Writes). x.payload) d.writes

wide_said : (does_fit : Bool) (offset : ℕ) (width : Width) (value : ℕ) (old new : ControllerState) (result : WideWritten) (was : Option Carrying) → (h : WritesFitting does_fit old offset width value result new) → AreSaid old was → AreSaid new (cut_wide does_fit old offset width value result new h was)
wide_said false offset width value old new result was h said = same_said old new was h.0.0 said
wide_said true offset width value old new result was h said =
    write_said h.middle new (cut_behind h.middle was) (part_touches _ _ _ _ h.middle new result.high h.high) (write_said old h.middle was (part_touches _ _ _ _ old h.middle result.low h.low) said)

-- ---- frames

first_said : (c old : ControllerState) (frame : List ℕ) (wrote : Wrote) (f : Fetched) → IsOwnData old frame wrote → length frame ≤ 8196 → HasTable (Some f) (kept c wrote.slot) → c.writes.payload ≡ Some (record { slot = wrote.slot; offset = wrote.offset; from = 4; len = wrote.len }) → IsSaid c (carrying_of frame wrote f)
first_said c old frame wrote f own short same payload = record {
  count = 0;
  few = omega arith;
  said = refl;
  left = subst (λ (o : Option Carried). AreLeft o c (carrying_of frame wrote f) 0) (sym payload) (record {
    slot = refl;
    offset = omega arith;
    from = omega arith;
    len = omega arith;
    command = still_table (Some f) (kept c wrote.slot) f.table same refl;
  });
  whole = own.few;
  short = short;
}

taken : (o : Option Wrote) (c old : ControllerState) (frame : List ℕ) → length frame ≤ 8196 → IfSome o (IsOwnData old frame) → ((wrote : Wrote) → o ≡ Some wrote → HasTable (kept old wrote.slot) (kept c wrote.slot)) → c.writes.payload ≡ option_map carried o → AreSaid c (carrying_by old frame o)
taken None c old frame short own same payload = payload
taken (Some wrote) c old frame short own same payload = by (kept old wrote.slot) own.command (same wrote refl)
  where
    by : (f : Option Fetched) → is_some f ≡ true → HasTable f (kept c wrote.slot) → AreSaid c (match_some f None (λ command. Some (carrying_of frame wrote command)))
    by None some table = absurd (false≢true some)
    by (Some f) some table = λ numbered. first_said c old frame wrote f own short table payload

takes : (old new : ControllerState) (frame : List ℕ) (took : Took) → IsController old → Takes old frame took new → AreSaid new (carrying_by old frame took.brought)
takes old new frame took k h =
    let base : ControllerState = record old { core = new.core } in
    let is : took.brought ≡ brought old frame took.report = h.hears.brought_is in
    taken took.brought new old frame (frame_short frame h.framed) (data_is_own old new frame took k h) (λ wrote same.
    subst (λ (l : List (Option Fetched)). HasTable (kept old wrote.slot) (get_or l wrote.slot None)) (sym (ap (λ (c : ControllerState). c.commands) h.hears.rest)) (after_table base (brought old frame took.report) wrote.slot k.rules.long))
    (ap (λ (c : ControllerState). c.writes.payload) h.hears.rest ∙ ap (option_map carried) (sym is))

-- ---- all calls

call_said : (e : Event) (old new : ControllerState) (was : Option Carrying) → IsController old → (does : Does old e new) → AreSaid old was → AreSaid new (carrying_after_call old e new does was)
call_said (event.Wrote offset value written) old new was k does said = write_said old new was (write_touches offset value old new written does) said
call_said (event.WroteWide offset width value written) old new was k does said = wide_said (fits_width width offset) offset width value old new written was does said
call_said (event.Supplied slot number bytes supply) old new was k does said = supplies (fits old slot number bytes) slot number bytes old new supply was k refl does said
call_said (event.Missed slot number supply) old new was k does said = misses (is_asked old.wants slot number) slot old new supply was does said
call_said (event.Took frame took) old new was k does said = takes old new frame took k does
call_said (event.Left frame why) old new was k does said = same_said old new was does.1 said
call_said (event.Turned next) old new was k does said = turned_any old new next was k does said
call_said (event.Said write) old new was k does said = said_any old new write was k does.0 does.1 said
call_said (event.Gathered dev number frame fed) old new was k does said = gathers (is_fed old.wants dev number) dev old new fed was does.1 k.rules.long said
call_said (event.NotThere dev number fed) old new was k does said = misses_data (is_fed old.wants dev number) dev old new fed was does said

pub bytes_are_said : BytesAreSaid
bytes_are_said old new [] run was said = same_said old new was run.1 said
bytes_are_said old new (e ∷ events) run was said =
    bytes_are_said run.1.0 new events run.1.2 (carrying_after_call old e run.1.0 run.1.1 was) (call_said e old run.1.0 was run.0 run.1.1 said)

pub said_of_data : SaidOfData
said_of_data old new m (Some d) h was = refl
said_of_data old new m None h was = absurd (not_there (placed.carried) (sym was ∙ placed.is))
  where
    placed : IsPlaced old m
    placed = writes_are_placed old new (next_step.Payload m) h

    not_there : (w : Carried) → None ≡ Some w → ⊥
    not_there w e = cc

-- nothing is to be written
nothing_left : (up failed receives any : Bool) → (if not up then Some why.LinkDown else if failed then Some why.Failed else if not receives then Some why.NotReceiving else if any then Some why.Writing else None) ≡ None → any ≡ false
nothing_left true false true false h = refl
nothing_left true false true true h = cc
nothing_left true false false any h = cc
nothing_left true true receives any h = cc
nothing_left false failed receives any h = cc

left_none : (p : Option Carried) (c : ControllerState) (d : Carrying) (count : ℕ) → is_some p ≡ false → AreLeft p c d count → d.cut ≡ false → count ≡ placed_of d
left_none None c d count none h cut = h cut
left_none (Some w) c d count none h cut = absurd (true≢false none)

pub all_are_said : AllAreSaid
all_are_said c d h numbered free cut =
    let said : IsSaid c d = h numbered in
    let any : is_any c.writes ≡ false = nothing_left _ _ _ (is_any c.writes) free in
    let payload : is_some c.writes.payload ≡ false = (or_parts (is_some c.writes.payload) (is_some c.writes.posted) (or_parts (is_some c.writes.payload || is_some c.writes.posted) (not (c.writes.counted == 0)) any).0).0 in
    let count : said.count ≡ placed_of d = left_none c.writes.payload c d said.count payload said.left cut in
    said.said ∙ ap (first_of d) count
