-- The command that a disk has under a tag is the one that stands in the slot of this number: the FISes with the tag, and its ends, are counted on both
-- sides of the link.
use Rattle.std.proofs.Common.{◌≡◌, ℕ, ◌+◌, ◌<◌, ◌≤◌, Bool, true, false, List, [], ◌∷◌, ◌++◌, length, map, refl, sym, ap, subst, ◌∙◌, arith}
use Rattle.std.proofs.{Common.append_assoc, lemmas.{Grind.{flat_map-append}, List.{append-nil, append_cancel_left}}}
use Rattle.std.specs.{Prelude.{if◌then◌else◌}, List.flat_map}
use Rattle.fis_view.specs.Frames.{Stamped}
use Rattle.disk_pages.specs.declared.profile.Profile.{Profile}
use Rattle.sata_disk.specs.State.{DiskState, commands, is_taken, new_disk}
use Rattle.sata_disk_books.specs.Ended.{OnlyEndsEnd}
use Rattle.sata_disk_laws.specs.{Calls.{AreCalls, Call, Hears, after_calls}, Laws.reached}
use Rattle.sata_disk_laws.proofs.Door.{calls_after, calls_both}
use Rattle.multiplier.specs.Passing.{of_conn}
use Rattle.slots.specs.Slots.{holds, issue_at}
use Rattle.ahci_machine.specs.{States.{IsOpeningMachine, MachineState, bay_at}, declared.bay.Unit.{Unit as Inside, TheVariants.Disk}}
use Rattle.machine_laws.specs.{ControllerLaws.{OpensSo, RunsRuled, calls_in}, Controllers.GathersDue, Deeds.{Deed, Powered, Wrote}, Disks.DisksGoOn}
use Rattle.machine_laws.specs.{Disks.calls_at, Falling.{HasLink, heard_by, resets, sent_in}, Rising.{AreLinked, Frames, FramesAreOver, FramesRise}}
use Rattle.machine_laws.specs.Rising.{HaveRisen, RisesInOrder, came_by, frames_in, held_at as held_on, is_over, is_reset, more_frames, no_frames}
use Rattle.machine_laws.specs.Rising.{on_way, sent_by, untaken}
use Rattle.machine_theorem.specs.Identity.{AllKeep, CommandsAreTheSlots, NoneNamed, asked_of, asks_of, calls_of, heard_as, is_for, own_of, picks}
use Rattle.machine_theorem.specs.{Orders.{CommandsAreSentOnce, fallen_in, is_sent_of, ordered_in, standing_in}, Tags.{ended_with, heard_with}}
use Rattle.machine_theorem.specs.{Tags.once_if, Crossing.Within}
use Rattle.machine_theorem.proofs.Asking as asking
use Rattle.machine_theorem.proofs.{Asking.{all_none, asked_few}, EndsFew.{disk_same, sent_few, sent_of}, Fallen.{heard_is, heard_within, left_there}}
use Rattle.machine_theorem.proofs.{FallsFew.{Facts, came_of, falls_few}, Ordered.first_ruled, Risen.{Begins, came_few, names_tag}}
use Rattle.machine_theorem.proofs.{RisenTold.conn_both, TagCounts.{Counted, Since, all_heard, counted, under_way_held}, TagKept.held_at}
use Rattle.machine_theorem.proofs.Within.{all_of, fewer, picks_both, within_picks}
use Rattle.machine_theorem.proofs.Fallen as fallen
use Rattle.machine_theorem.proofs.TagCounts as counts

pub record Laws : Type 0 where
  pub tags : counts.Laws
  pub only : OnlyEndsEnd
  pub falling : fallen.Laws
  pub data_of : asking.Laws
  pub facts : Facts
  pub order : FramesRise
  pub over : FramesAreOver
  pub once : CommandsAreSentOnce

-- ---- the disk

pub record Goes (d : DiskState) (calls : List Call) (now : Inside) : Type 0 where
  pub are : AreCalls d calls
  pub is : now ≡ Disk (after_calls d calls)

no_calls : (d : DiskState) → d ≡ after_calls d []
unfolding after_calls
no_calls d = refl

pub goes_on : DisksGoOn → (many : Bool) (n tag : ℕ) (deeds : List Deed) (old now : MachineState) (run : RunsRuled old deeds now) → AllKeep many n tag old deeds now run → (d : DiskState)
    → (bay_at old n).unit ≡ Disk d → Goes d (calls_of n old deeds now run) (bay_at now n).unit
goes_on disks many n tag [] old now run keeps d unit = record {
  are = tt;
  is = ap (λ (m : MachineState). (bay_at m n).unit) run.1 ∙ unit ∙ ap Disk (no_calls d);
}
goes_on disks many n tag (deed ∷ later) old now run keeps d unit =
    let mid : MachineState = run.1.0 in
    let calls : List Call = calls_at old deed n in
    let one = disks old deed mid run.1.1 n d unit (left_there n deed keeps.0.left) in
    let rest = goes_on disks many n tag later mid now run.1.2 keeps.1 (after_calls d calls) one.is in
    record {
      are = calls_both calls (calls_of n mid later now run.1.2) d one.are rest.are;
      is = rest.is ∙ ap Disk (sym (calls_after calls (calls_of n mid later now run.1.2) d));
    }

-- ---- the frames since the link was reset

link_same : (deed : Deed) → resets deed ≡ false → is_reset deed ≡ false
link_same (Wrote offset width value written) e = e
link_same Powered e = e
link_same other e = refl

are_linked : (deeds : List Deed) → HasLink deeds → AreLinked deeds
are_linked [] linked = tt
are_linked (deed ∷ later) linked = (link_same deed linked.0, are_linked later linked.1)

pub record FramesAre (was now : Frames) (sent came : List Stamped) : Type 0 where
  pub sent_is : now.sent ≡ was.sent ++ sent
  pub came_is : now.came ≡ was.came ++ came

by_reset : (b : Bool) (was now : Frames) (s c sent came : List Stamped) → b ≡ false → FramesAre (more_frames b was s c) now sent came → FramesAre was now (s ++ sent) (c ++ came)
by_reset true was now s c sent came e h = absurd (cc)
by_reset false was now s c sent came e h = record {
  sent_is = h.sent_is ∙ append_assoc was.sent s sent;
  came_is = h.came_is ∙ append_assoc was.came c came;
}

pub frames_are : (deeds : List Deed) (old now : MachineState) (run : RunsRuled old deeds now) (was : Frames) → HasLink deeds
    → FramesAre was (frames_in was old deeds now run) (sent_of old deeds now run) (came_of old deeds now run)
frames_are [] old now run was linked = record { sent_is = sym (append-nil was.sent); came_is = sym (append-nil was.came) }
frames_are (deed ∷ later) old now run was linked =
    let mid : MachineState = run.1.0 in
    let s : List Stamped = sent_by old deed mid run.1.1 in
    let c : List Stamped = came_by old deed mid run.1.1 in
    by_reset (is_reset deed) was (frames_in was old (deed ∷ later) now run) s c (sent_of mid later now run.1.2) (came_of mid later now run.1.2) (link_same deed linked.0)
    (frames_are later mid now run.1.2 (more_frames (is_reset deed) was s c) linked.1)

-- ---- what comes in a stretch, of what is sent in it

none_names : (tag : ℕ) (frames : List Stamped) → NoneNamed tag frames → picks (names_tag tag) frames ≡ []
none_names tag [] none = refl
none_names tag (f ∷ later) none =
    ap (λ (b : Bool). if b then f ∷ picks (names_tag tag) later else picks (names_tag tag) later) none.0 ∙ none_names tag later none.1

pub none_first : (xs ys : List Stamped) → xs ++ ys ≡ [] → xs ≡ []
none_first [] ys e = refl
none_first (x ∷ xs) ys e = absurd (cc)

-- if none that waits passes a test, those that come next and pass it are a beginning of those that are sent next and pass it
cut_same : (q : Stamped → Bool) (was way sent x rest y : List Stamped) → was ++ way ≡ sent → was ++ (x ++ rest) ≡ sent ++ y → picks q way ≡ []
    → picks q x ++ picks q rest ≡ picks q y
cut_same q was way sent x rest y first last none =
    let both : x ++ rest ≡ way ++ y =
    append_cancel_left was (x ++ rest) (way ++ y) (last ∙ ap (λ (l : List Stamped). l ++ y) (sym first) ∙ append_assoc was way y) in
    sym (picks_both q x rest) ∙ ap (picks q) both ∙ picks_both q way y ∙ ap (λ (l : List Stamped). l ++ picks q y) none

-- what came first is a beginning, too
pub begins_first : (q : Stamped → Bool) (n c : ℕ) (came next sent : List Stamped) → Begins q n c (came ++ next) sent → Begins q n c came sent
begins_first q n c came next sent it =
    let both : picks q (of_conn n c came) ++ picks q (of_conn n c next) ≡ picks q (of_conn n c (came ++ next)) =
    sym (picks_both q (of_conn n c came) (of_conn n c next)) ∙ ap (picks q) (sym (conn_both n c came next)) in
    record {
      more = picks q (of_conn n c next) ++ it.more;
      is = sym (append_assoc (picks q (of_conn n c came)) (picks q (of_conn n c next)) it.more) ∙ ap (λ (l : List Stamped). l ++ it.more) both ∙ it.is;
    }

module _ (n c tag : ℕ) (at : MachineState) (was : Frames) (deeds : List Deed) (now : MachineState) (run : RunsRuled at deeds now) (linked : HasLink deeds)
    (none : NoneNamed tag (on_way n c at)) where
  abbrev frames_now : Frames
  frames_now = frames_in was at deeds now run

  abbrev came_here : List Stamped
  came_here = came_of at deeds now run

  abbrev sent_here : List Stamped
  sent_here = sent_of at deeds now run

  frames_here : FramesAre was frames_now sent_here came_here
  frames_here = frames_are deeds at now run was linked

  none_way : picks (names_tag tag) (of_conn n c (untaken at)) ++ picks (names_tag tag) (held_on n c at.fan) ≡ []
  none_way = sym (picks_both (names_tag tag) (of_conn n c (untaken at)) (held_on n c at.fan)) ∙ none_names tag (on_way n c at) none

  came_is : of_conn n c frames_now.came ≡ of_conn n c was.came ++ of_conn n c came_here
  came_is = ap (of_conn n c) frames_here.came_is ∙ conn_both n c was.came came_here

  -- of a connection that is over only what had left its port
  of_over : of_conn n c frames_now.came ++ of_conn n c (untaken now) ≡ of_conn n c was.came ++ of_conn n c (untaken at)
      → Begins (names_tag tag) n c (came_here ++ untaken now) sent_here
  of_over over =
      let same : of_conn n c came_here ++ of_conn n c (untaken now) ≡ of_conn n c (untaken at) =
      append_cancel_left (of_conn n c was.came) _ _
      (sym (append_assoc (of_conn n c was.came) (of_conn n c came_here) (of_conn n c (untaken now)))
      ∙ ap (λ (l : List Stamped). l ++ of_conn n c (untaken now)) (sym came_is) ∙ over) in
      let no : picks (names_tag tag) (of_conn n c (came_here ++ untaken now)) ≡ [] =
      ap (picks (names_tag tag)) (conn_both n c came_here (untaken now) ∙ same) ∙ none_first _ _ none_way in
      record { more = picks (names_tag tag) (of_conn n c sent_here); is = ap (λ (l : List Stamped). l ++ picks (names_tag tag) (of_conn n c sent_here)) no }

  -- of one that lasts what was sent, in order
  of_lasting : RisesInOrder at was n c → is_over at.fan n c ≡ false → RisesInOrder now frames_now n c
      → Begins (names_tag tag) n c (came_here ++ untaken now) sent_here
  of_lasting first lasts last =
      let A : List Stamped = of_conn n c was.came in
      let X : List Stamped = of_conn n c came_here in
      let U : List Stamped = of_conn n c (untaken now) in
      let D : List Stamped = held_on n c now.fan ++ last.dropped in
      let Y : List Stamped = of_conn n c sent_here in
      let whole : A ++ on_way n c at ≡ of_conn n c was.sent =
      sym (append-nil (A ++ on_way n c at)) ∙ ap (λ (l : List Stamped). (A ++ on_way n c at) ++ l) (sym (first.whole lasts)) ∙ first.order in
      let order : A ++ (of_conn n c (came_here ++ untaken now) ++ D) ≡ of_conn n c was.sent ++ Y =
      ap (λ (l : List Stamped). A ++ (l ++ D)) (conn_both n c came_here (untaken now)) ∙ ap (λ (l : List Stamped). A ++ l) (append_assoc X U D)
      ∙ sym (append_assoc A X (U ++ D)) ∙ ap (λ (l : List Stamped). l ++ (U ++ D)) (sym came_is)
      ∙ ap (λ (l : List Stamped). of_conn n c frames_now.came ++ l) (sym (append_assoc U (held_on n c now.fan) last.dropped))
      ∙ sym (append_assoc (of_conn n c frames_now.came) (on_way n c now) last.dropped) ∙ last.order
      ∙ ap (of_conn n c) frames_here.sent_is ∙ conn_both n c was.sent sent_here in
      let clear = none_names tag (on_way n c at) none in
      record {
        more = picks (names_tag tag) D;
        is = cut_same (names_tag tag) A (on_way n c at) (of_conn n c was.sent) (of_conn n c (came_here ++ untaken now)) D Y whole order clear;
      }

-- Where no FIS that names the tag is on its way, those that come from there on, and the one that the controller is to take next, are of each
-- connection a beginning of those that are sent from there on.
pub begins : FramesRise → FramesAreOver → (n c tag : ℕ) → n < 15 → (at : MachineState) (was : Frames) → HaveRisen at was → NoneNamed tag (on_way n c at)
    → (deeds : List Deed) (now : MachineState) (run : RunsRuled at deeds now) → HasLink deeds → HaveRisen now (frames_in was at deeds now run)
    → Begins (names_tag tag) n c (came_of at deeds now run ++ untaken now) (sent_of at deeds now run)
begins order over n c tag low at was risen none deeds now run linked risen_now = by (is_over at.fan n c) refl
  where
    by : (b : Bool) → is_over at.fan n c ≡ b → Begins (names_tag tag) n c (came_of at deeds now run ++ untaken now) (sent_of at deeds now run)
    by true is = of_over n c tag at was deeds now run linked none (over at deeds now run was risen (are_linked deeds linked) n c low is)
    by false is =
        of_lasting n c tag at was deeds now run linked none (order at was risen n c low) is (order now (frames_in was at deeds now run) risen_now n c low)

-- ---- as many bits fall as the disk ended commands

pub falls_ended : (laws : Laws) (ports : ℕ) (legacy : Bool) (old : MachineState) → IsOpeningMachine ports legacy old → (before : List Deed) (at : MachineState) (first : RunsRuled old before at)
    → (many : Bool) (n tag : ℕ) → n < 15 → tag < 32 → ((c : ℕ) → NoneNamed tag (on_way n c at))
    → (deeds : List Deed) (now : MachineState) (run : RunsRuled at deeds now) → HasLink deeds → AllKeep many n tag at deeds now run
    → (p : Profile) (limit : ℕ) (base : List Call) (d : DiskState) → (bay_at at n).unit ≡ Disk d → d ≡ reached p limit base
    → fallen_in (own_of many n) tag at deeds now run ≤ ended_with tag (calls_of n at deeds now run)
falls_ended laws ports legacy old opening before at first many n tag below low up deeds now run linked keeps p limit base d unit same =
    let then' : Frames = frames_in no_frames old before at first in
    let was : HaveRisen at then' = laws.facts.falls.rising old before at first no_frames (laws.facts.falls.opens_rising ports legacy old opening) in
    let is : HaveRisen now (frames_in then' at deeds now run) = laws.facts.falls.rising at deeds now run then' was in
    let came : List Stamped = came_of at deeds now run in
    let falls = falls_few laws.facts many n tag low ports legacy old opening before at first then' was deeds now run keeps in
    let sent : List Stamped = sent_of at deeds now run in
    let risen =
    came_few n tag came sent
    (λ c. begins_first (names_tag tag) n c came (untaken now) sent (begins laws.order laws.over n c tag below at then' was (up c) deeds now run linked is)) in
    let ends = sent_few laws.only many n tag low p limit laws.falling.disks deeds at now run keeps d unit base same in
    omega (arith, falls, risen, ends)

-- ---- the command

pub once_least : (b : Bool) → once_if b ≤ 1
once_least true = omega arith
once_least false = omega arith

-- what the disk heard last of some lists
last_of : (tag : ℕ) (calls front later : List Call) (bytes : List ℕ) → calls ≡ front ++ Hears bytes ∷ later → asks_of tag bytes ≡ true → heard_with tag later ≡ 0
    → picks (asks_of tag) (flat_map heard_by calls) ≡ picks (asks_of tag) (flat_map heard_by front) ++ bytes ∷ []
last_of tag calls front later bytes split asks none =
    let Q : List ℕ → Bool = asks_of tag in
    ap (λ (l : List Call). picks Q (flat_map heard_by l)) split
    ∙ ap (picks Q) (flat_map-append heard_by front (Hears bytes ∷ later))
    ∙ picks_both Q (flat_map heard_by front) (bytes ∷ flat_map heard_by later)
    ∙ ap (λ (l : List (List ℕ)). picks Q (flat_map heard_by front) ++ l) (ap (λ (b : Bool). if b then bytes ∷ picks Q (flat_map heard_by later) else picks Q (flat_map heard_by later)) asks
    ∙ ap (λ (l : List (List ℕ)). bytes ∷ l) (empty (picks Q (flat_map heard_by later)) (heard_is tag later ∙ none)))
  where
    empty : (l : List (List ℕ)) → length l ≡ 0 → l ≡ []
    empty [] e = refl
    empty (x ∷ l) e = absurd (omega (arith, e))

record Numbers (front later standing : ℕ) : Type 0 where
  none : later ≡ 0
  stands : standing ≡ 1

numbers : (heard sent ordered fallen ended front later standing at : ℕ) → heard ≡ front + (1 + later) → heard ≤ sent → sent ≤ ordered → ordered + at ≤ fallen + standing → at ≡ 0
    → fallen ≤ ended → ended ≤ front → standing ≤ 1 → Numbers front later standing
numbers heard sent ordered fallen ended front later standing at a b c d e f g h = record {
  none = omega (arith, a, b, c, d, e, f, g, h);
  stands = omega (arith, a, b, c, d, e, f, g, h);
}

most : (heard sent ordered fallen ended front later standing at : ℕ) → heard ≡ front + (1 + later) → sent ≤ ordered → ordered + at ≤ fallen + standing
    → fallen ≤ ended → ended ≤ front → standing ≤ 1 → sent ≤ heard
most heard sent ordered fallen ended front later standing at a c d f g h = omega (arith, a, c, d, f, g, h)

pub commands_are : Laws → CommandsAreTheSlots
commands_are laws ports legacy old opening before at first many n tag below low rest deeds now run linked lasts keeps p limit base are same d unit m there going =
    let own : ℕ → Bool = own_of many n in
    let calls : List Call = calls_of n at deeds now run in
    let goes = goes_on laws.falling.disks many n tag deeds at now run keeps rest.disk rest.there in
    let now_is : d ≡ reached p limit (base ++ calls) =
    disk_same d (after_calls rest.disk calls) (sym unit ∙ goes.is) ∙ ap (λ (x : DiskState). after_calls x calls) same ∙ sym (calls_after base calls (new_disk p limit)) in
    let whole : AreCalls (new_disk p limit) (base ++ calls) = calls_both base calls (new_disk p limit) are (subst (λ (x : DiskState). AreCalls x calls) same goes.are) in
    let free : is_taken (commands (reached p limit base)) tag ≡ false = ap (λ (x : DiskState). is_taken (commands x) tag) (sym same) ∙ rest.free in
    let q : Counted p limit base tag calls = counted p limit base tag laws.tags low calls whole free in
    let held = ap (λ (x : DiskState). held_at (commands x) tag) (sym now_is) ∙ under_way_held (commands d) tag m there going in
    let s : Since p limit base tag calls m.command = q.since m.command held in
    let opens : OpensSo old = laws.facts.falls.opens ports legacy old opening (first_ruled before old at first) in
    let due : GathersDue at = (laws.facts.falls.runs old before at first opens.due).due in
    let Q : List ℕ → Bool = asks_of tag in
    let heard : List (List ℕ) = picks Q (flat_map heard_by calls) in
    let sent : List (List ℕ) = asked_of many n tag (sent_in (calls_in at deeds now run)) in
    let within : Within heard sent =
    within_picks Q (flat_map heard_by calls) (map heard_as (picks (is_for many n) (sent_in (calls_in at deeds now run))))
    (heard_within laws.falling many n tag deeds at now run rest.disk rest.there keeps due linked lasts rest.leaving rest.down) in
    let one : length heard ≡ heard_with tag s.front + (1 + heard_with tag s.asked.later) = heard_is tag calls ∙ all_heard p limit base tag calls m.command s in
    let two : length heard ≤ length sent = fewer heard sent within in
    let three : length sent ≤ ordered_in own tag at deeds now run = asked_few many n tag deeds at now run keeps (all_none laws.data_of tag ports legacy old opening opens.due before at first deeds now run due) in
    let four : ordered_in own tag at deeds now run + standing_in own tag at.controller ≤ fallen_in own tag at deeds now run + standing_in own tag now.controller =
    laws.once ports legacy old opening before at first deeds now run own tag low in
    let five : fallen_in own tag at deeds now run ≤ ended_with tag calls =
    falls_ended laws ports legacy old opening before at first many n tag below low rest.up deeds now run linked keeps p limit base rest.disk rest.there same in
    let six : standing_in own tag now.controller ≤ 1 = once_least (holds (is_sent_of own) (issue_at now.controller.core.slots tag)) in
    let so = numbers (length heard) (length sent) (ordered_in own tag at deeds now run) (fallen_in own tag at deeds now run) (ended_with tag calls) (heard_with tag s.front)
    (heard_with tag s.asked.later) (standing_in own tag now.controller) (standing_in own tag at.controller) one two three four rest.slot five s.behind six in
    let full : length sent ≤ length heard = most (length heard) (length sent) (ordered_in own tag at deeds now run) (fallen_in own tag at deeds now run) (ended_with tag calls) (heard_with tag s.front)
    (heard_with tag s.asked.later) (standing_in own tag now.controller) (standing_in own tag at.controller) one three four five s.behind six in
    let all : heard ≡ sent = all_of heard sent within full in
    record {
      stands = so.stands;
      heard = all;
      asked = s.asked;
      front = picks Q (flat_map heard_by s.front);
      last = sym all ∙ last_of tag calls s.front s.asked.later s.asked.bytes s.split s.named so.none;
    }
