-- Each byte that came for a queued write that the guest sees completed went of its slot, as it was supplied for it, behind the FIS of the command.
use Rattle.std.proofs.Common.{◌≡◌, ◌⊎◌, ℕ, ◌+◌, ◌-◌, ◌<◌, ◌≤◌, Bool, true, false, List, [], ◌∷◌, ◌++◌, append_assoc, drop, length, Option, Some, None}
use Rattle.std.proofs.Common.{refl, sym, ap, subst, ◌∙◌, arith, inl, inr}
use Rattle.std.specs.{Prelude.slice_get, List.flat_map}
use Rattle.fis_view.specs.Seen.{seen}
use Rattle.ahci_controller.specs.Next.{is_fed}
use Rattle.ahci_controller.specs.declared.feeding.Fed.TheVariants as fed_answer
use Rattle.ahci_controller.specs.declared.next.Next.TheVariants as next
use Rattle.controller_laws.specs.Events as call
use Rattle.controller_laws.specs.Events.{Event}
use Rattle.block_command.specs.{Laws.{Ledger, WriteIsEarned, IsEarned}, Moments.{Moment, turn_of}, declared.command.{Command.Command, Stage.Stage}}
use Rattle.block_command.specs.declared.command.Stage.TheVariants.{Ended, Fail}
use Rattle.block_disk.specs.Laws.{Page}
use Rattle.block_queue.specs.Line.{command_at, has_bit}
use Rattle.block_scheduler.specs.{Schedule.IsNextFis, Sets.{is_end, turn_at}}
use Rattle.block_scheduler.specs.declared.scheduler.NextFis.TheVariants as next_fis
use Rattle.sata_disk.specs.{Hearing.receives, Sending.IsOut, State.{DiskState, commands, new_disk}}
use Rattle.sata_disk.specs.declared.out.Out.TheVariants as out
use Rattle.sata_disk_books.specs.{Books.page_in, InTurn.AreOfQueue}
use Rattle.sata_disk_laws.specs.{Calls.{AreCalls, Call, Hears, after_call}, Laws.reached}
use Rattle.ahci_machine.specs.{Gathers.{GatheringState, host_stamp}, States.{IsOpeningMachine, MachineState, gathering_at}}
use Rattle.ahci_machine.specs.declared.act.Act.TheVariants as act
use Rattle.machine_laws.specs.{ControllerLaws.{OpensSo, RunsRuled, calls_in}, Controllers.{IsGathered, deed_calls, is_kept_for}, Deeds.{Deed, Moved}}
use Rattle.machine_laws.specs.{Falling.{AllLast, HasLink, heard_by, sent_in}, Feeding.came_in}
use Rattle.machine_laws.proofs.Due.{there_is}
use Rattle.machine_theorem.specs.{Brought.DiskStretch, Crossing.IsForPlace, Identity.{AllKeep, IsAtRest, asked_of, asks_of, calls_of, picks}}
use Rattle.machine_theorem.specs.{OwnSlots.NoneLost, OwnWrites.AreOwnData, QueuedWrites.QueuedAloneIsServed, StoredWrites.ByteIsStored}
use Rattle.machine_theorem.specs.{StoredWrites.{CompletedWritesAreStored, IsStoredWrite}, Tags.ended_with}
use Rattle.machine_theorem.proofs.AsSupplied as supplied
use Rattle.machine_theorem.proofs.{AtEnd.{LastEnd, speaks}, AtOrder.{AtOrder, LastOrder, one_asks}, CallCut.{HearsAt, hears_at}, CameParts.CameAt}
use Rattle.machine_theorem.proofs.{CameParts.{IsGoing, came_parts, is_over}, Cut.Cut, EndsFew.disk_same, Fallen.heard_is, FedFor.is_wanted_now}
use Rattle.machine_theorem.proofs.{FedFor.{opens_good, run_good}, FedSince.read_since, LastSaid.long_both, OrderCut.{OrderAt, order_at}}
use Rattle.machine_theorem.proofs.{Ordered.{fed_some, first_ruled}, Own.last_ruled, OwnData.lost_first, QueuedFed.{FedIt, Line, fed_it, stretch_of}}
use Rattle.machine_theorem.proofs.{ReadsOwn.one_page, Stretch.{Fall, HasDisk, Stretch, calls, front, has_disk, was_free, whole_run}}
use Rattle.machine_theorem.proofs.{TagCounts.{Counted, Since, all_heard, counted, ended_both, under_way_held}, TheirSlots.{at_it, ending, is_done}}
use Rattle.machine_theorem.proofs.{TheirSlots.{its_order, the_end, the_order}, Within.{fewer, within_picks}, WentBehind.{fell_in, own_parts}}
use Rattle.machine_theorem.proofs.WritesOwn.{Awaits, awaits}
use Rattle.machine_theorem.proofs.FedFor as for_slot
use Rattle.machine_theorem.proofs.QueuedFed as fed_of

pub record Laws : Type 0 where
  pub supplied : supplied.Laws
  pub fed : fed_of.Laws
  pub feeding : for_slot.Laws

-- ---- a part of a stretch

queue_first : (xs ys : List Call) (d : DiskState) → AreOfQueue d (xs ++ ys) → AreOfQueue d xs
queue_first [] ys d queue = tt
queue_first (x ∷ xs) ys d queue = (queue.0, queue_first xs ys (after_call d x) queue.1)

abbrev line_front : (s : Stretch) (l : Line s) (deed : Deed) (cut : Cut deed s.at s.deeds s.now s.run) → Line (front s deed cut)
line_front s l deed cut =
    let first : List Event = calls_in s.at cut.sooner cut.mid cut.led in
    let rest : List Event = deed_calls cut.mid deed cut.next cut.does ++ calls_in cut.next cut.later s.now cut.rest in
    record {
      c = l.c;
      dev = l.dev;
      dev_low = l.dev_low;
      begins = l.begins;
      keeps = (cut.line s.many s.n l.c l.dev l.keeps).0;
      well = (cut.taken l.dev l.well).0;
      lost = lost_first l.dev first rest (subst (NoneLost l.dev) cut.events l.lost);
      own = (own_parts s.many s.n l.dev first rest (subst (AreOwnData s.many s.n l.dev) cut.events l.own)).0;
      awaits = l.awaits;
      queue = queue_first (calls_of s.n s.at cut.sooner cut.mid cut.led) _ (reached s.p s.limit s.base) (subst (AreOfQueue (reached s.p s.limit s.base)) (cut.own s.n) l.queue);
      queued = (cut.queued l.dev l.queued).0;
    }

-- ---- the end of a command

end_going : (s : Stage) → is_end (turn_of s) ≡ true → is_over s ≡ false
end_going Fail e = absurd (cc)
end_going Ended e = absurd (cc)
end_going s e = refl

going_end : (x : Option Moment) → is_end (turn_at x) ≡ true → IsGoing x
going_end None e = absurd (cc)
going_end (Some m) e = end_going m.stage e

-- a disk says next that the command under the tag ended well
out_going : (d : DiskState) (tags tag : ℕ) → tag < 32 → has_bit tags tag ≡ true → IsOut d (Some (out.Ends tags)) → IsGoing (command_at (commands d) tag)
out_going d tags tag low bit is = by (commands d).queue.table.wire refl is.1.1
  where
    by : (wire : Option ℕ) → (commands d).queue.table.wire ≡ wire → IsNextFis (commands d) wire (Some (next_fis.Ends tags)) → IsGoing (command_at (commands d) tag)
    by None e h = going_end (command_at (commands d) tag) (sym (h.0 tag low) ∙ bit)
    by (Some holder) e h = absurd h

-- ---- lists of calls

abbrev tail_events : List Event → List Event
tail_events [] = []
tail_events (e ∷ later) = later

abbrev head_event : Event → List Event → Event
head_event e [] = e
head_event e (x ∷ later) = x

-- a call stands in the first list, or in the second
abbrev IsIn : (xs ys before later : List Event) (e : Event) → Type 0
IsIn xs ys before later e = ((more : List Event) × (xs ≡ before ++ e ∷ more)) ⊎ ((mid : List Event) × (ys ≡ mid ++ e ∷ later))

find_in : (xs ys before later : List Event) (e : Event) → xs ++ ys ≡ before ++ e ∷ later → IsIn xs ys before later e
find_in [] ys before later e is = inr (before, is)
find_in (x ∷ xs) ys [] later e is = inl (xs, ap (λ (y : Event). y ∷ xs) (ap (head_event x) is))
find_in (x ∷ xs) ys (b ∷ before) later e is = elim (find_in xs ys before later e (ap tail_events is)) [
  | inl first ↦ inl (first.0, ap (λ (y : Event). y ∷ xs) (ap (head_event x) is) ∙ ap (λ (l : List Event). b ∷ l) first.1)
  | inr second ↦ inr second
]

-- ---- the end

module _ (laws : Laws) (s : Stretch) (fall : Fall s) where
  abbrev until_end : Stretch
  until_end = ending laws.supplied s fall

  going : IsGoing (command_at (commands (reached s.p s.limit (s.base ++ calls until_end))) s.tag)
  going =
      let e : LastEnd s = the_end laws.supplied s fall in
      let h = e.last.cut.does.does.does.1 in
      let disk : HasDisk until_end = has_disk laws.supplied.end.slots until_end in
      let same : h.disk ≡ reached s.p s.limit (s.base ++ calls until_end) = disk_same h.disk (reached s.p s.limit (s.base ++ calls until_end)) (sym h.there ∙ disk.there) in
      subst (λ (d : DiskState). IsGoing (command_at (commands d) s.tag)) same (out_going h.disk e.tags s.tag s.low e.named h.next)

  abbrev page : Page
  page = (at_it laws.supplied s fall).page.page

  came_at : (k : ℕ) → k < length page.ledger.came → CameAt s.p s.limit s.base s.tag (calls until_end) page.ledger.came k
  came_at k low =
      came_parts s.p s.limit s.base s.tag laws.supplied.end.slots.tags s.low (calls until_end) (has_disk laws.supplied.end.slots until_end).are (was_free until_end) going page
      (at_it laws.supplied s fall).page.books k low

-- ---- the moment at which byte k was heard

module _ (laws : Laws) (s : Stretch) (fall : Fall s) (l : Line s) (k : ℕ)
    (b : CameAt s.p s.limit s.base s.tag (calls (ending laws.supplied s fall)) (page laws s fall).ledger.came k) where
  abbrev t : Stretch
  t = ending laws.supplied s fall

  pub heard : HearsAt s.n s.at t.deeds t.now t.run b.front b.fis b.later
  heard = hears_at s.n t.deeds s.at t.now t.run b.front b.fis b.later b.split

  abbrev pub hearing : Stretch
  hearing = front t (Moved (act.Hears s.n heard.unheard)) heard.cut

  abbrev of_hearing : Line hearing
  of_hearing =
      line_front t (line_front s l (speaks s (the_end laws.supplied s fall).tags) (the_end laws.supplied s fall).last.cut) (Moved (act.Hears s.n heard.unheard)) heard.cut

  awaits_it : receives (command_at (commands (reached s.p s.limit (s.base ++ calls hearing))) s.tag) ≡ true
  awaits_it = ap (λ (x : List Call). receives (command_at (commands (reached s.p s.limit (s.base ++ x))) s.tag)) heard.prior ∙ b.awaits

  pub fed : FedIt hearing l.dev heard.frame
  fed = fed_it laws.fed hearing of_hearing heard.frame heard.down b.frame (ap seen heard.bytes ∙ b.viewed) awaits_it

  abbrev pub offset : ℕ
  offset = fed.write.went.goes.offset

  abbrev pub supplied_bytes : List ℕ
  supplied_bytes = came_in l.dev [] s.old (s.before ++ fed.write.went.before) fed.write.went.mid fed.write.whole.all

  -- ---- its number

  number : offset ≡ length b.page.ledger.came
  number =
      let place : IsForPlace s.p s.limit (s.base ++ calls hearing) s.tag fed.write.went.goes.slot offset = fed.write.went.goes.goes fed.kind in
      let same : place.page ≡ b.page =
      one_page place.page b.page (sym place.is ∙ ap (λ (x : List Call). page_in s.p s.limit (s.base ++ x) s.tag) heard.prior ∙ b.is) in
      place.number ∙ ap (λ (g : Page). length g.ledger.came) same

  pub from : offset ≤ k
  from = let same = number in let low = b.from in omega (arith, same, low)

  pub to : k < offset + length (drop 4 heard.frame.bytes)
  to =
      let same = number in
      let high = b.to in
      let long = ap (λ (x : List ℕ). length (drop 4 x)) heard.bytes in
      omega (arith, same, high, long)

  pub byte : slice_get (page laws s fall).ledger.came k ≡ slice_get supplied_bytes (k - offset)
  byte =
      b.byte ∙ ap (λ (j : ℕ). slice_get (drop 4 b.fis) (k - j)) (sym number)
      ∙ ap (λ (x : List ℕ). slice_get (drop 4 x) (k - offset)) (sym heard.bytes)
      ∙ ap (λ (x : List ℕ). slice_get x (k - offset)) fed.payload

  -- ---- behind the FIS of the command

  abbrev went_calls : List Event
  went_calls = calls_in s.at fed.write.went.before fed.write.went.mid fed.write.went.first

  abbrev asks_in : List Event → ℕ
  asks_in events = length (asked_of s.many s.n s.tag (sent_in events))

  abbrev rest_calls : List Event
  rest_calls =
      fed.more ++ (deed_calls heard.cut.mid (Moved (act.Hears s.n heard.unheard)) heard.cut.next heard.cut.does ++ calls_in heard.cut.next heard.cut.later t.now heard.cut.rest)

  all_calls : calls_in s.at t.deeds t.now t.run ≡ went_calls ++ rest_calls
  all_calls =
      let more : List Event =
      deed_calls heard.cut.mid (Moved (act.Hears s.n heard.unheard)) heard.cut.next heard.cut.does ++ calls_in heard.cut.next heard.cut.later t.now heard.cut.rest in
      heard.cut.events ∙ ap (λ (x : List Event). x ++ more) fed.events ∙ append_assoc went_calls fed.more more

  -- all FISes that ask for the tag had gone
  asked_none : asks_in rest_calls ≡ 0
  asked_none =
      let slots = laws.supplied.end.slots in
      let hs : List (List ℕ) = flat_map heard_by (calls hearing) in
      let a : Awaits (command_at (commands (reached s.p s.limit (s.base ++ calls hearing))) s.tag) =
      awaits (command_at (commands (reached s.p s.limit (s.base ++ calls hearing))) s.tag) awaits_it in
      let q : Counted s.p s.limit s.base s.tag (calls hearing) =
      counted s.p s.limit s.base s.tag slots.tags s.low (calls hearing) (has_disk slots hearing).are (was_free hearing) in
      let since : Since s.p s.limit s.base s.tag (calls hearing) a.moment.command =
      q.since a.moment.command (under_way_held (commands (reached s.p s.limit (s.base ++ calls hearing))) s.tag a.moment a.is a.under_way) in
      let all = all_heard s.p s.limit s.base s.tag (calls hearing) a.moment.command since in
      let behind = since.behind in
      let is = heard_is s.tag (calls hearing) in
      let few : length (picks (asks_of s.tag) hs) ≤ asks_in went_calls =
      fewer (picks (asks_of s.tag) hs) (picks (asks_of s.tag) (fell_in s.many s.n went_calls)) (within_picks (asks_of s.tag) hs (fell_in s.many s.n went_calls) fed.behind) in
      let asks : asks_in (calls_in s.at t.deeds t.now t.run) ≡ ended_with s.tag (calls t) + 1 = (at_it laws.supplied s fall).asks in
      let ends : ended_with s.tag (calls t) ≡ ended_with s.tag b.front + (0 + ended_with s.tag b.later) =
      ap (ended_with s.tag) b.split ∙ ended_both s.tag b.front (Hears b.fis ∷ b.later) in
      let standing = b.standing in
      let prior : ended_with s.tag (calls hearing) ≡ ended_with s.tag b.front = ap (ended_with s.tag) heard.prior in
      let sums : asks_in (calls_in s.at t.deeds t.now t.run) ≡ asks_in went_calls + asks_in rest_calls =
      ap asks_in all_calls ∙ long_both s.many s.n s.tag went_calls rest_calls in
      omega (arith, all, behind, is, few, asks, ends, standing, prior, sums)

  abbrev o : LastOrder t
  o = the_order laws.supplied s fall

  abbrev x : Event
  x = call.Turned (next.Order o.dev s.tag o.fis)

  abbrev of : AtOrder t o
  of = its_order laws.supplied s fall

  went_first : IsIn went_calls rest_calls of.ordered.before of.ordered.later x → (more : List Event) × (went_calls ≡ of.ordered.before ++ x ∷ more)
  went_first (inl first) = first
  went_first (inr second) =
      let one : asks_in (x ∷ []) ≡ 1 = ap (λ (y : List (List ℕ)). length y) (one_asks t (record { bytes = o.fis; stamp = host_stamp o.dev }) o.own o.asks) in
      let none = asked_none in
      let both : asks_in rest_calls ≡ asks_in second.0 + asks_in (x ∷ of.ordered.later) =
      ap asks_in second.1 ∙ long_both s.many s.n s.tag second.0 (x ∷ of.ordered.later) in
      let last : asks_in (x ∷ of.ordered.later) ≡ asks_in (x ∷ []) + asks_in of.ordered.later = long_both s.many s.n s.tag (x ∷ []) of.ordered.later in
      absurd (omega (arith, one, none, both, last))

  pub behind : (more : List Event) × (went_calls ≡ of.ordered.before ++ x ∷ more)
  behind = went_first (find_in went_calls rest_calls of.ordered.before of.ordered.later x (sym all_calls ∙ of.ordered.is))

  -- ---- all of it was read behind this

  abbrev pub order_cut : OrderAt o.dev s.tag o.fis s.at fed.write.went.before fed.write.went.mid fed.write.went.first of.ordered.before
  order_cut = order_at o.dev s.tag o.fis fed.write.went.before s.at fed.write.went.mid fed.write.went.first of.ordered.before behind.0 behind.1

  opened : OpensSo s.old
  opened = laws.feeding.opens s.ports s.legacy s.old s.opening (first_ruled s.before s.old s.at s.first)

  good_then : (deeds : List Deed) (now : MachineState) → RunsRuled s.at deeds now → for_slot.Good laws.feeding now
  good_then deeds now run =
      run_good laws.feeding (s.before ++ deeds) s.old now (whole_run s.before s.old s.at s.first deeds now run).all
      (opens_good laws.feeding s.ports s.legacy s.old s.opening opened)

  read_behind : (y : List ℕ) → came_in l.dev y order_cut.cut.next order_cut.cut.later fed.write.went.mid order_cut.cut.rest
      ≡ came_in l.dev [] order_cut.cut.next order_cut.cut.later fed.write.went.mid order_cut.cut.rest
  read_behind y =
      let w = fed.write.went in
      let c = order_cut.cut in
      let h = w.does.does in
      let g : GatheringState = h.gathering in
      let gathered : IsGathered w.mid.controller w.mid.kept h.place g = there_is w.mid h.place g h.there (good_then w.before w.mid w.first).due in
      let place : h.place ≡ l.dev = sym gathered.own ∙ sym h.gathers.is in
      let slot : g.feed.slot ≡ s.tag = (fed.write.fed fed.kind).slot_is ∙ (w.goes.goes fed.kind).same in
      read_since laws.feeding l.dev s.tag l.dev_low c.mid (good_then c.sooner c.mid c.led) (last_ruled c.sooner s.at c.mid c.led) (c.queued l.dev fed.queued).1 o.dev o.fis c.next c.does
      s.low c.later w.mid c.rest g (ap (gathering_at w.mid) (sym place) ∙ h.there) (ap (is_kept_for l.dev) h.done)
      (is_wanted_now (is_fed w.mid.controller.wants l.dev g.feed.number) w.mid.controller w.does.middle.controller l.dev w.message w.line h.gathers.gathers)
      (fed_some w.mid.controller w.does.middle.controller l.dev g.feed.number (fed_answer.Goes w.message w.line) tt h.gathers.gathers) slot y []

  pub read_since_then : supplied_bytes ≡ came_in l.dev [] order_cut.cut.next order_cut.cut.later fed.write.went.mid order_cut.cut.rest
  read_since_then = fed.came [] ∙ order_cut.came l.dev _ ∙ read_behind _

-- ---- the law

earned : (c : Command) (g : Ledger) (w : Bool) → IsEarned c g w → w ≡ true → WriteIsEarned c g
earned c g true e is = e
earned c g false e is = absurd (cc)

module _ (laws : Laws) (ports : ℕ) (legacy : Bool) (d : DiskStretch) (opening : IsOpeningMachine ports legacy d.old) (below : d.n < 15) (low : d.tag < 32)
    (rest : IsAtRest d.many d.n d.tag d.old d.before d.at d.first) (linked : HasLink d.deeds) (lasts : AllLast d.n d.at d.deeds d.now d.run)
    (keeps : AllKeep d.many d.n d.tag d.at d.deeds d.now d.run) (are : AreCalls (new_disk d.p d.limit) d.base) (same : rest.disk ≡ reached d.p d.limit d.base) where
  abbrev s : Stretch
  s = stretch_of ports legacy d opening below low rest linked lasts keeps are same

  byte_stored : (fall : Fall s) (l : Line s) (k : ℕ) → k < length (page laws s fall).ledger.came
      → ByteIsStored d l.dev k fall.does.does.frame (is_done laws.supplied s fall)
  unfolding is_done
  byte_stored fall l k small =
      let b = came_at laws s fall k small in
      let h = heard laws s fall l k b in
      let f = fed laws s fall l k b in
      let o = order_cut laws s fall l k b in
      let c = o.cut in
      record {
        sooner = h.cut.sooner;
        mid = h.cut.mid;
        led = h.cut.led;
        unheard = h.unheard;
        after = h.cut.next;
        hears = h.cut.does;
        later = h.cut.later;
        is = h.cut.is;
        frame = h.frame;
        down = h.down;
        fed = record { write = f.write; kind = f.kind; place = f.write.went.goes.goes f.kind; payload = f.payload };
        from = from laws s fall l k b;
        to = to laws s fall l k b;
        upto = c.sooner;
        ordering = c.mid;
        until = c.led;
        behind = c.next;
        orders = c.does;
        reads = c.later;
        run = c.rest;
        sent = c.is;
        calls = o.prior;
        byte = byte laws s fall l k b ∙ ap (λ (x : List ℕ). slice_get x (k - offset laws s fall l k b)) (read_since_then laws s fall l k b);
      }

  stored_write : (fall : Fall s) (l : Line s) → IsStoredWrite d l.dev fall.does.does.frame
  unfolding is_done
  stored_write fall l = record {
    done = is_done laws.supplied s fall;
    stored = earned (page laws s fall).command (page laws s fall).ledger (page laws s fall).command.write (at_it laws.supplied s fall).page.earned;
    bytes = λ k small. byte_stored fall l k small;
  }

pub stored_writes : Laws → QueuedAloneIsServed → CompletedWritesAreStored
stored_writes laws law ports legacy d opening c dev below dev_low low rest begins linked lasts keeps line well lost own are same none queued all owes takes took new does rules shows hides issue is mine =
    let s : Stretch = stretch_of ports legacy d opening below low rest linked lasts keeps are same in
    let l : Line s = record {
      c = c;
      dev = dev;
      dev_low = dev_low;
      begins = begins;
      keeps = line;
      well = well;
      lost = lost;
      own = own;
      awaits = none;
      queue = law ports legacy d opening below low rest linked lasts keeps are same queued owes takes;
      queued = all;
    } in
    let fall : Fall s = record { took = took; new = new; does = does; rules = rules; shows = shows; hides = hides; issue = issue; is = is; mine = mine } in
    stored_write laws ports legacy d opening below low rest linked lasts keeps are same fall l
