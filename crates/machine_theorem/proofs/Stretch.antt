-- A stretch of a run that begins at rest and in which the guest keeps to the standard: what is counted over it, and where a bit falls behind it.
use Rattle.std.proofs.Common.{◌≡◌, ℕ, ◌+◌, ◌<◌, ◌≤◌, ◌&&◌, Bool, true, false, not, List, [], ◌∷◌, ◌++◌, append_assoc, length, map, Some, refl, sym}
use Rattle.std.proofs.{Common.{ap, subst, ◌∙◌, arith}, lemmas.List.{length-append}}
use Rattle.std.specs.{Prelude.{if◌then◌else◌}, List.flat_map}
use Rattle.fis_view.specs.Frames.{Stamped}
use Rattle.fan_out.specs.declared.fan_out.FanOut.{FanOut}
use Rattle.slots.specs.Slots.{Issue, has_bit, holds, is_queued_issue, issue_at}
use Rattle.ahci_registers.specs.declared.register.Register.TheVariants.{PxSact}
use Rattle.ahci_controller.specs.{Reading.shown, declared.taking.Took.Took}
use Rattle.disk_pages.specs.declared.profile.Profile.{Profile}
use Rattle.sata_disk.specs.State.{DiskState, commands, is_taken, new_disk}
use Rattle.sata_disk_laws.specs.{Calls.{AreCalls, Call, after_calls}, Laws.reached}
use Rattle.sata_disk_laws.proofs.Door.{calls_after, calls_both}
use Rattle.controller_laws.specs.Events.{Event}
use Rattle.ahci_machine.specs.{States.{HasRules, IsOpeningMachine, MachineState, bay_at}, declared.bay.Unit.TheVariants.Disk}
use Rattle.ahci_machine.specs.declared.act.Act.TheVariants as act
use Rattle.machine_laws.specs.{ControllerLaws.{OpensSo, RunsRuled, calls_in}, Controllers.{GathersDue, deed_calls}, Deeds.{Deed, Does, Moved}}
use Rattle.machine_laws.specs.{Falling.{AllLast, HasLink, heard_by, sent_in}, Rising.{Frames, HaveRisen, frames_in, is_multiplier, no_frames}}
use Rattle.machine_laws.specs.Rising.{untaken}
use Rattle.machine_theorem.specs.{Given.IsWhole, Identity.{AllKeep, IsAtRest, IsThere, asked_of, asks_of, calls_of, heard_as, is_for, own_of, picks}}
use Rattle.machine_theorem.specs.{Orders.{fallen_in, is_fallen, is_queued_of, is_sent_of, ordered_in, standing_in}, Tags.{ended_with, heard_with}}
use Rattle.machine_theorem.specs.Crossing.{Within}
use Rattle.machine_theorem.proofs.{Asking.{AllDataAskNone, all_none, asked_few}, Cut.Cut, EndsFew.{sent_few, sent_of}, Fallen.heard_is}
use Rattle.machine_theorem.proofs.{Fallen.heard_within, Falls.{named_by, told_now}, FallsFew.{came_of, falls_few, taken_names}, Ordered.first_ruled}
use Rattle.machine_theorem.proofs.{Own.last_ruled, OwnPlace.untaken_is, Risen.{Begins, came_few, names_of, names_tag}, TagCounts.{Counted, counted}}
use Rattle.machine_theorem.proofs.{TheSlots.{Laws, begins, falls_ended, goes_on, once_least}, Within.{fewer, picks_both, within_picks}}

-- ---- what led to a stretch, and then it

record Joined (old at : MachineState) (deeds : List Deed) (now : MachineState) (run : RunsRuled at deeds now) : Type 0 where
  all : RunsRuled old deeds now
  calls : calls_in old deeds now all ≡ calls_in at deeds now run

pub whole_run : (before : List Deed) (old at : MachineState) (first : RunsRuled old before at) (deeds : List Deed) (now : MachineState) (run : RunsRuled at deeds now)
    → IsWhole old before at first deeds now run
whole_run [] old at first deeds now run =
    let it = subst (λ (m : MachineState). (r : RunsRuled m deeds now) → Joined old m deeds now r) (sym first.1) (λ r. record { all = r; calls = refl }) run in
    record { all = it.all; calls = it.calls }
whole_run (deed ∷ before) old at first deeds now run =
    let it = whole_run before first.1.0 at first.1.2 deeds now run in
    let events : List Event = deed_calls old deed first.1.0 first.1.1 in
    record {
      all = (first.0, (first.1.0, first.1.1, it.all));
      calls = ap (λ (l : List Event). events ++ l) it.calls ∙ sym (append_assoc events (calls_in first.1.0 before at first.1.2) (calls_in at deeds now run));
    }

-- ---- a stretch

pub record Stretch : Type 0 where
  pub ports : ℕ
  pub legacy : Bool
  pub old : MachineState
  pub opening : IsOpeningMachine ports legacy old
  pub before : List Deed
  pub at : MachineState
  pub first : RunsRuled old before at
  pub many : Bool
  pub n : ℕ
  pub tag : ℕ
  pub below : n < 15
  pub low : tag < 32
  pub rest : IsAtRest many n tag old before at first
  pub deeds : List Deed
  pub now : MachineState
  pub run : RunsRuled at deeds now
  pub linked : HasLink deeds
  pub lasts : AllLast n at deeds now run
  pub keeps : AllKeep many n tag at deeds now run
  pub p : Profile
  pub limit : ℕ
  pub base : List Call
  pub are : AreCalls (new_disk p limit) base
  pub same : rest.disk ≡ reached p limit base

abbrev pub calls : Stretch → List Call
calls s = calls_of s.n s.at s.deeds s.now s.run

abbrev pub asked : Stretch → List (List ℕ)
asked s = asked_of s.many s.n s.tag (sent_in (calls_in s.at s.deeds s.now s.run))

abbrev pub own : Stretch → ℕ → Bool
own s = own_of s.many s.n

abbrev pub stands : Stretch → ℕ
stands s = standing_in (own s) s.tag s.now.controller

abbrev pub orders : Stretch → ℕ
orders s = ordered_in (own s) s.tag s.at s.deeds s.now s.run

abbrev pub falls : Stretch → ℕ
falls s = fallen_in (own s) s.tag s.at s.deeds s.now s.run

-- up to a deed of it
abbrev pub front : (s : Stretch) → (deed : Deed) → Cut deed s.at s.deeds s.now s.run → Stretch
front s deed c = record {
  ports = s.ports;
  legacy = s.legacy;
  old = s.old;
  opening = s.opening;
  before = s.before;
  at = s.at;
  first = s.first;
  many = s.many;
  n = s.n;
  tag = s.tag;
  below = s.below;
  low = s.low;
  rest = s.rest;
  deeds = c.sooner;
  now = c.mid;
  run = c.led;
  linked = (c.links s.linked).0;
  lasts = (c.lasts s.n s.lasts).0;
  keeps = (c.keeps s.many s.n s.tag s.keeps).0;
  p = s.p;
  limit = s.limit;
  base = s.base;
  are = s.are;
  same = s.same;
}

-- ---- what is there

-- the disk at its end
pub record HasDisk (s : Stretch) : Type 0 where
  pub there : (bay_at s.now s.n).unit ≡ Disk (reached s.p s.limit (s.base ++ calls s))
  pub are : AreCalls (new_disk s.p s.limit) (s.base ++ calls s)

pub has_disk : Laws → (s : Stretch) → HasDisk s
has_disk laws s =
    let goes = goes_on laws.falling.disks s.many s.n s.tag s.deeds s.at s.now s.run s.keeps s.rest.disk s.rest.there in
    record {
      there = goes.is ∙ ap Disk (ap (λ (x : DiskState). after_calls x (calls s)) s.same ∙ sym (calls_after s.base (calls s) (new_disk s.p s.limit)));
      are = calls_both s.base (calls s) (new_disk s.p s.limit) s.are (subst (λ (x : DiskState). AreCalls x (calls s)) s.same goes.are);
    }

-- the tag was free as it began
pub was_free : (s : Stretch) → is_taken (commands (reached s.p s.limit s.base)) s.tag ≡ false
was_free s = ap (λ (x : DiskState). is_taken (commands x) s.tag) (sym s.same) ∙ s.rest.free

pub due_at : Laws → (s : Stretch) → GathersDue s.at
due_at laws s =
    let opens : OpensSo s.old = laws.facts.falls.opens s.ports s.legacy s.old s.opening (first_ruled s.before s.old s.at s.first) in
    (laws.facts.falls.runs s.old s.before s.at s.first opens.due).due

pub data_none : Laws → (s : Stretch) → AllDataAskNone s.tag s.at s.deeds s.now s.run
data_none laws s =
    let opens : OpensSo s.old = laws.facts.falls.opens s.ports s.legacy s.old s.opening (first_ruled s.before s.old s.at s.first) in
    all_none laws.data_of s.tag s.ports s.legacy s.old s.opening opens.due s.before s.at s.first s.deeds s.now s.run (due_at laws s)

-- ---- what is counted

pub record Counts (s : Stretch) : Type 0 where
  pub ended : ended_with s.tag (calls s) ≤ heard_with s.tag (calls s)
  pub heard : heard_with s.tag (calls s) ≤ length (asked s)
  pub asked : length (asked s) ≤ orders s
  pub ordered : orders s ≤ falls s + stands s
  pub fallen : falls s ≤ ended_with s.tag (calls s)
  pub one : stands s ≤ 1

pub counts : Laws → (s : Stretch) → Counts s
counts laws s =
    let disk = has_disk laws s in
    let q : Counted s.p s.limit s.base s.tag (calls s) = counted s.p s.limit s.base s.tag laws.tags s.low (calls s) disk.are (was_free s) in
    let sent = sent_in (calls_in s.at s.deeds s.now s.run) in
    let within : Within (picks (asks_of s.tag) (flat_map heard_by (calls s))) (asked s) =
    within_picks (asks_of s.tag) (flat_map heard_by (calls s)) (map heard_as (picks (is_for s.many s.n) sent))
    (heard_within laws.falling s.many s.n s.tag s.deeds s.at s.now s.run s.rest.disk s.rest.there s.keeps (due_at laws s) s.linked s.lasts s.rest.leaving s.rest.down) in
    let few = fewer (picks (asks_of s.tag) (flat_map heard_by (calls s))) (asked s) within in
    let is = heard_is s.tag (calls s) in
    let sums = laws.once s.ports s.legacy s.old s.opening s.before s.at s.first s.deeds s.now s.run (own s) s.tag s.low in
    let none = s.rest.slot in
    record {
      ended = q.fewer;
      heard = omega (arith, few, is);
      asked = asked_few s.many s.n s.tag s.deeds s.at s.now s.run s.keeps (data_none laws s);
      ordered = omega (arith, sums, none);
      fallen = falls_ended laws s.ports s.legacy s.old s.opening s.before s.at s.first s.many s.n s.tag s.below s.low s.rest.up s.deeds s.now s.run s.linked s.keeps s.p s.limit s.base s.rest.disk s.rest.there s.same;
      one = once_least (holds (is_sent_of (own s)) (issue_at s.now.controller.core.slots s.tag));
    }

-- ---- a bit that falls behind it

pub record Fall (s : Stretch) : Type 0 where
  pub took : Took
  pub new : MachineState
  pub does : Does s.now (Moved (act.Takes took)) new
  pub rules : HasRules new
  pub shows : has_bit (shown PxSact s.now.controller) s.tag ≡ true
  pub hides : has_bit (shown PxSact new.controller) s.tag ≡ false
  pub issue : Issue
  pub is : issue_at s.now.controller.core.slots s.tag ≡ Some issue
  pub mine : own s issue.dev ≡ true

last_there : (many : Bool) (n tag : ℕ) (deeds : List Deed) (old now : MachineState) (run : RunsRuled old deeds now) → AllKeep many n tag old deeds now run → IsThere many n now
last_there many n tag [] old now run keeps = subst (IsThere many n) (sym run.1) keeps
last_there many n tag (deed ∷ later) old now run keeps = last_there many n tag later run.1.0 now run.1.2 keeps.1

three : (a b c : Bool) → a ≡ true → b ≡ false → c ≡ true → (a && not b && c) ≡ true
three true false c e f g = g
three true true c e f g = absurd (cc)
three false b c e f g = absurd (cc)

and_both : (a b : Bool) → a ≡ true → b ≡ true → (a && b) ≡ true
and_both true b e f = f
and_both false b e f = absurd (cc)

-- the frames since the link was reset
abbrev pub was_frames : Stretch → Frames
was_frames s = frames_in no_frames s.old s.before s.at s.first

abbrev pub all_frames : Stretch → Frames
all_frames s = frames_in (was_frames s) s.at s.deeds s.now s.run

pub risen_at : Laws → (s : Stretch) → HaveRisen s.at (was_frames s)
risen_at laws s = laws.facts.falls.rising s.old s.before s.at s.first no_frames (laws.facts.falls.opens_rising s.ports s.legacy s.old s.opening)

pub risen_now : Laws → (s : Stretch) → HaveRisen s.now (all_frames s)
risen_now laws s = laws.facts.falls.rising s.at s.deeds s.now s.run (was_frames s) (risen_at laws s)

-- what was sent in it, and what came in it
abbrev pub sends : Stretch → List Stamped
sends s = sent_of s.at s.deeds s.now s.run

abbrev pub comes : Stretch → List Stamped
comes s = came_of s.at s.deeds s.now s.run

-- What came, and then what the controller is to take next, is a beginning of what was sent, as far as it names the tag.
pub came_begins : Laws → (s : Stretch) (c : ℕ) → Begins (names_tag s.tag) s.n c (comes s ++ untaken s.now) (sends s)
came_begins laws s c =
    begins laws.order laws.over s.n c s.tag s.below s.at (was_frames s) (risen_at laws s) (s.rest.up c) s.deeds s.now s.run s.linked (risen_now laws s)

abbrev pub names : Stretch → Stamped → Bool
names s = names_of s.n s.tag

-- each bit of the slot that fell in it fell by one that came
pub fell_few : Laws → (s : Stretch) → falls s ≤ length (picks (names s) (comes s))
fell_few laws s =
    falls_few laws.facts s.many s.n s.tag s.low s.ports s.legacy s.old s.opening s.before s.at s.first (was_frames s) (risen_at laws s)
    s.deeds s.now s.run s.keeps

pub record Falls (s : Stretch) (f : Fall s) : Type 0 where
  pub named : names s f.does.does.frame ≡ true
  pub few : 1 + falls s ≤ length (picks (names s) (comes s ++ f.does.does.frame ∷ []))
  pub order : (c : ℕ) → Begins (names_tag s.tag) s.n c (comes s ++ f.does.does.frame ∷ []) (sends s)

pub fall_is : (laws : Laws) (s : Stretch) (f : Fall s) → Falls s f
fall_is laws s f =
    let h = f.does.does in
    let rules : HasRules s.now = last_ruled s.deeds s.at s.now s.run in
    let there : IsThere s.many s.n s.now = last_there s.many s.n s.tag s.deeds s.at s.now s.run s.keeps in
    let fan = ap (λ (m : MachineState). m.fan) f.does.turns ∙ ap (λ (m : MachineState). m.fan) h.rest in
    let there_new : IsThere s.many s.n f.new = record { fan = ap (λ (x : FanOut). is_multiplier x) fan ∙ there.fan; one = there.one } in
    let whole = whole_run s.before s.old s.at s.first s.deeds s.now s.run in
    let past : List Deed = s.before ++ s.deeds in
    let t = told_now laws.facts.falls s.ports s.legacy s.old s.opening past s.now whole.all in
    let named = named_by laws.facts.falls s.now f.took f.new f.does rules f.rules t s.tag s.low f.shows f.hides in
    let mine : is_queued_of (own s) f.issue ≡ true =
    and_both (is_queued_issue f.issue) (own s f.issue.dev) (ap (holds is_queued_issue) (sym f.is ∙ named.is) ∙ named.queued) f.mine in
    let fallen : is_fallen (own s) s.tag s.now.controller f.new.controller ≡ true =
    three _ _ _ f.shows f.hides (ap (holds (is_queued_of (own s))) f.is ∙ mine) in
    let names_it : names s h.frame ≡ true =
    taken_names laws.facts s.many s.n s.tag s.low s.ports s.legacy s.old s.opening past s.now whole.all f.took f.new f.does rules f.rules there_new
    (all_frames s) (risen_now laws s) fallen in
    let N : Stamped → Bool = names s in
    let few = fell_few laws s in
    let more : length (picks N (comes s ++ h.frame ∷ [])) ≡ length (picks N (comes s)) + length (picks N (h.frame ∷ [])) =
    ap (λ (l : List Stamped). length l) (picks_both N (comes s) (h.frame ∷ [])) ∙ length-append (picks N (comes s)) (picks N (h.frame ∷ [])) in
    let one : length (picks N (h.frame ∷ [])) ≡ 1 = ap (λ (b : Bool). length (if b then h.frame ∷ [] else [])) names_it in
    record {
      named = names_it;
      few = omega (arith, few, more, one);
      order = λ c.
          subst (λ (l : List Stamped). Begins (names_tag s.tag) s.n c (comes s ++ l) (sends s)) (untaken_is s.now h.frame h.once h.on) (came_begins laws s c);
    }

-- as many came as the disk ended commands
pub record AllEnded (s : Stretch) (f : Fall s) : Type 0 where
  pub fallen : 1 + falls s ≤ ended_with s.tag (calls s)
  pub sent : length (picks (names s) (sends s)) ≤ ended_with s.tag (calls s)
  pub came : length (picks (names s) (comes s ++ f.does.does.frame ∷ [])) ≤ length (picks (names s) (sends s))

pub all_ended : (laws : Laws) (s : Stretch) (f : Fall s) → Falls s f → AllEnded s f
all_ended laws s f h =
    let ends = sent_few laws.only s.many s.n s.tag s.low s.p s.limit laws.falling.disks s.deeds s.at s.now s.run s.keeps s.rest.disk s.rest.there s.base s.same in
    let came = came_few s.n s.tag (comes s ++ f.does.does.frame ∷ []) (sends s) h.order in
    let few = h.few in
    record { fallen = omega (arith, ends, came, few); sent = ends; came = came }
