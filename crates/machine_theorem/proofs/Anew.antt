-- A FIS is taken behind a stretch. Behind the last deed of it by which a slot of the device left the state of waiting, the disk's host waits for nothing, and one
-- command at most went: there a stretch of the disk's calls, and one of the controller's, begin anew. Where no slot left it, both are the whole stretch.
use Rattle.std.proofs.Common.{◌≡◌, ◌⊎◌, ℕ, zero, suc, ◌+◌, ◌<◌, ◌≤◌, ◌&&◌, ◌||◌, Bool, true, false, not, List, [], ◌∷◌, ◌++◌, append_assoc, append-nil}
use Rattle.std.proofs.{Common.{length, inl, inr, refl, sym, ap, subst, ◌∙◌, arith}, lemmas.{Bool.{eq-eqb, false≢true}, List.{length-append}}}
use Rattle.std.specs.Prelude.{◌==◌, if◌then◌else◌}
use Rattle.fis_view.specs.{Frames.Stamped, Seen.seen}
use Rattle.multiplier.specs.Passing.{of_conn}
use Rattle.hba_fbs.specs.Taking.{port_of}
use Rattle.ahci_controller.specs.{States.ControllerState, declared.taking.Took.Took}
use Rattle.controller_laws.specs.Events as call
use Rattle.controller_laws.specs.Events.{Event, Runs}
use Rattle.sata_disk.specs.{State.{DiskState, new_disk}, declared.out.Out.Out}
use Rattle.sata_disk_books.specs.LastData.{sets_up_last}
use Rattle.sata_disk_laws.specs.{Calls.{AreCalls, Call, Sends, after_calls}, Laws.reached}
use Rattle.sata_disk_laws.specs.Once.{Host, host_of, new_host, out_got}
use Rattle.sata_disk_laws.proofs.Door.{calls_after, calls_both}
use Rattle.ahci_machine.specs.{States.{IsOpeningMachine, MachineState, bay_at}, declared.bay.Unit.TheVariants.Disk}
use Rattle.ahci_machine.specs.declared.act.Act.TheVariants as act
use Rattle.machine_laws.specs.{ControllerLaws.{RunsRuled, calls_in}, Controllers.{ControllerGoesOn, GathersDue, StaysDue, deed_calls}}
use Rattle.machine_laws.specs.{Deeds.{Deed, Does, Moved}, Disks.calls_at, Falling.{AllLast, HasLink}, Rising.{came_by, sent_by}}
use Rattle.machine_theorem.specs.{Brought.{AllTakenWell, DiskStretch}, Crossing.Within, Ending.{AllKeepEnding, AllUnqueued, UnqueuedCommandsWait}}
use Rattle.machine_theorem.specs.{Ending.carries, Identity.calls_of, InTurn.{AreKeptOn, IsIdle, heard_in, is_answer, is_answering}}
use Rattle.machine_theorem.specs.{OwnSlots.{AllKeepLine, KeepsLine, NoneLost, is_of}, PioIn.AllKeepUnqueued, ReadsWritten.NoneTaken}
use Rattle.machine_theorem.specs.{Settled.{AreSettled, is_data, is_settling, settled_in}, Singles.BeginsIdle, Tags.once_if, Waits.waits_in}
use Rattle.machine_theorem.proofs.{Answered.heard_both, Closing.{data_keeps, due, due_shut, taken_kinds}, Cut.{Cut, last_of, total}, EndedByData.says_data}
use Rattle.machine_theorem.proofs.{EndsFew.sent_of, Fallen.left_there, Falls.{Told, told_after, told_now}, FallsFew.came_of}
use Rattle.machine_theorem.proofs.{KindsSent.{frames_kinds, said_kinds, said_long, sent_within}, Ordered.first_ruled, Own.last_ruled}
use Rattle.machine_theorem.proofs.NotLast.{free_not_last, out_not_last}
use Rattle.machine_theorem.proofs.{OwnPlace.{Found, InOrder, cancel, find}, PioOwn.{Stretch, calls, came, commanded, events}, RegistersSent.says}
use Rattle.machine_theorem.proofs.{RisenTold.conn_both, SentFises.{GoneOn, speaks_one, spoken_in, stretch_made}, Settled.settled_both}
use Rattle.machine_theorem.proofs.{Shutting.is_shut, SinglesOwn.kept_first, TagCounts.host_then, WaitingRun.{WaitingRun, leaves, sends_to, waiting_run}}
use Rattle.machine_theorem.proofs.{WasTaken.deed_none, Within.{fewer, within_then}}
use Rattle.machine_theorem.proofs.PioOwn as own

pub record Laws : Type 0 where
  pub own : own.Laws
  pub wait : UnqueuedCommandsWait
  pub goes : ControllerGoesOn
  pub stays : StaysDue

-- ---- lists

pub kept_last : (xs ys : List Call) → AreKeptOn (xs ++ ys) → AreKeptOn ys
kept_last [] ys on = on
kept_last (x ∷ xs) ys on = kept_last xs ys on.1

none_last : (dev : ℕ) (xs ys : List Event) → NoneLost dev (xs ++ ys) → NoneLost dev ys
none_last dev [] ys none = none
none_last dev (call.Left frame why ∷ xs) ys none = none_last dev xs ys none.1
none_last dev (call.Took frame took ∷ xs) ys none = none_last dev xs ys none
none_last dev (call.Wrote offset value written ∷ xs) ys none = none_last dev xs ys none
none_last dev (call.WroteWide offset width value written ∷ xs) ys none = none_last dev xs ys none
none_last dev (call.Supplied slot number bytes supply ∷ xs) ys none = none_last dev xs ys none
none_last dev (call.Missed slot number supply ∷ xs) ys none = none_last dev xs ys none
none_last dev (call.Turned next ∷ xs) ys none = none_last dev xs ys none
none_last dev (call.Said write ∷ xs) ys none = none_last dev xs ys none
none_last dev (call.Gathered d number frame fed ∷ xs) ys none = none_last dev xs ys none
none_last dev (call.NotThere d number fed ∷ xs) ys none = none_last dev xs ys none

tail_same : (x y : Stamped) (xs ys : List Stamped) → x ∷ xs ≡ y ∷ ys → xs ≡ ys
tail_same x y xs ys e = cc

-- a call before which fewer FISes were sent than by these is one of these
sent_first : (xs rest front back : List Call) (o : Out) → xs ++ rest ≡ front ++ Sends o ∷ back → spoken_in front < spoken_in xs
    → (more : List Call) × (xs ≡ front ++ Sends o ∷ more)
sent_first [] rest front back o is less = absurd (omega (arith, less))
sent_first (x ∷ xs) rest [] back o is less = (xs, ap (λ (c : Call). c ∷ xs) (head is))
  where
    head : x ∷ (xs ++ rest) ≡ Sends o ∷ back → x ≡ Sends o
    head e = cc
sent_first (x ∷ xs) rest (y ∷ front) back o is less =
    let same : x ≡ y = head is in
    let one : speaks_one x ≡ speaks_one y = ap speaks_one same in
    let it = sent_first xs rest front back o (tail is) (omega (arith, less, one)) in
    (it.0, ap (λ (c : Call). c ∷ xs) same ∙ ap (λ (l : List Call). y ∷ l) it.1)
  where
    head : x ∷ (xs ++ rest) ≡ y ∷ (front ++ Sends o ∷ back) → x ≡ y
    head e = cc

    tail : x ∷ (xs ++ rest) ≡ y ∷ (front ++ Sends o ∷ back) → xs ++ rest ≡ front ++ Sends o ∷ back
    tail e = cc

-- ---- a deed by which a slot leaves the state of waiting

pub left_so : (a b : Bool) → 1 ≤ once_if (a && not b) → (a ≡ true) × (b ≡ false)
left_so true false some = (refl, refl)
left_so true true some = absurd (omega (arith, some))
left_so false b some = absurd (omega (arith, some))

-- it takes a FIS of the connection: a Register FIS, or Data that end the command of the slot
pub record EndsBy (n c dev : ℕ) (x : Deed) (old new : MachineState) (does : Does old x new) : Type 0 where
  pub took : Took
  pub takes : Does old (Moved (act.Takes took)) new
  pub own : is_of n c takes.does.frame ≡ true
  pub came : came_by old x new does ≡ takes.does.frame ∷ []
  pub data' : is_answering takes.does.frame.bytes ≡ false → (carries (seen takes.does.frame.bytes) ≡ true) × (is_shut dev old.controller ≡ true)
  pub unsent : sends_to dev old x new does ≡ 0

on_port : (p a d : Bool) → ((p && a) ≡ false → (p && d) ≡ false → ⊥) → (p ≡ true) × (a ≡ false → d ≡ true)
on_port true true d never = (refl, λ e. absurd (false≢true (sym e)))
on_port true false true never = (refl, λ e. refl)
on_port true false false never = absurd (never refl refl)
on_port false a d never = absurd (never refl refl)

-- by calls that take no FIS none leaves it
none_ends : (dev : ℕ) (l : List Event) (old new : ControllerState) (run : Runs old l new) → NoneTaken l → AllKeepEnding dev old l new run
    → waits_in dev old ≡ true → waits_in dev new ≡ true
none_ends dev [] old new run none keeps waits = ap (waits_in dev) run.1 ∙ waits
none_ends dev (call.Took frame took ∷ l) old new run none keeps waits = absurd none
none_ends dev (call.Left frame why ∷ l) old new run none keeps waits = none_ends dev l run.1.0 new run.1.2 none keeps.1 (keeps.0 refl refl waits)
none_ends dev (call.Wrote offset value written ∷ l) old new run none keeps waits =
    none_ends dev l run.1.0 new run.1.2 none keeps.1 (keeps.0 refl refl waits)
none_ends dev (call.WroteWide offset width value written ∷ l) old new run none keeps waits =
    none_ends dev l run.1.0 new run.1.2 none keeps.1 (keeps.0 refl refl waits)
none_ends dev (call.Supplied slot number bytes supply ∷ l) old new run none keeps waits =
    none_ends dev l run.1.0 new run.1.2 none keeps.1 (keeps.0 refl refl waits)
none_ends dev (call.Missed slot number supply ∷ l) old new run none keeps waits =
    none_ends dev l run.1.0 new run.1.2 none keeps.1 (keeps.0 refl refl waits)
none_ends dev (call.Turned next ∷ l) old new run none keeps waits = none_ends dev l run.1.0 new run.1.2 none keeps.1 (keeps.0 refl refl waits)
none_ends dev (call.Said write ∷ l) old new run none keeps waits = none_ends dev l run.1.0 new run.1.2 none keeps.1 (keeps.0 refl refl waits)
none_ends dev (call.Gathered d number frame fed ∷ l) old new run none keeps waits =
    none_ends dev l run.1.0 new run.1.2 none keeps.1 (keeps.0 refl refl waits)
none_ends dev (call.NotThere d number fed ∷ l) old new run none keeps waits =
    none_ends dev l run.1.0 new run.1.2 none keeps.1 (keeps.0 refl refl waits)

module _ (laws : Laws) (many : Bool) (n c dev : ℕ) (dev_low : dev < 16) where
  is_shut_at : (frame : List ℕ) (took : Took) (old new : ControllerState) (run : Runs old (call.Took frame took ∷ []) new) → Told old
      → carries (seen frame) ≡ true → waits_in dev old ≡ true → waits_in dev run.1.0 ≡ false → is_shut dev old ≡ true
  is_shut_at frame took old new run t data' waits free = by (is_shut dev old) refl
    where
      by : (b : Bool) → is_shut dev old ≡ b → b ≡ true
      by true shuts = refl
      by false stands =
          absurd (false≢true (sym free ∙ data_keeps (own.waiting_laws laws.own) dev dev_low frame took old run.1.0 run.0 run.1.2.0 run.1.1 (t.past dev)
          (t.told dev dev_low) data' waits stands))

  deed_ends : (x : Deed) (old new : MachineState) (does : Does old x new) (run : Runs old.controller (deed_calls old x new does) new.controller)
      → AllKeepEnding dev old.controller (deed_calls old x new does) new.controller run → Told old.controller → KeepsLine many n c dev old x new does
      → waits_in dev old.controller ≡ true → waits_in dev new.controller ≡ false → EndsBy n c dev x old new does
  deed_ends (Moved (act.Takes took)) old new does run keeps t line waits free =
      let f : List ℕ = does.does.frame.bytes in
      let free_then : waits_in dev run.1.0 ≡ false = ap (waits_in dev) (sym run.1.2.1) ∙ free in
      let on = on_port (port_of f == dev) (is_answering f) (carries (seen f)) (λ a b. false≢true (sym free_then ∙ keeps.0 a b waits)) in
      record {
        took = took;
        takes = does;
        own = sym line.came.0 ∙ on.0;
        came = refl;
        data' = λ other. (on.1 other, is_shut_at f took old.controller new.controller run t (on.1 other) waits free_then);
        unsent = refl;
      }
  deed_ends x old new does run keeps t line waits free =
      absurd (false≢true (sym free ∙ none_ends dev (deed_calls old x new does) old.controller new.controller run (deed_none old x new does tt) keeps waits))

-- ---- a stretch of a disk

-- the moment at which it begins
pub record Start : Type 0 where
  pub ports : ℕ
  pub legacy : Bool
  pub d : DiskStretch
  pub opening : IsOpeningMachine ports legacy d.old
  pub c : ℕ
  pub dev : ℕ
  pub below : d.n < 15
  pub dev_low : dev < 16
  pub low : d.tag < 32
  pub begins : BeginsIdle d.n c d.at
  pub are : AreCalls (new_disk d.p d.limit) d.base
  pub same : begins.disk ≡ reached d.p d.limit d.base
  pub idle : IsIdle (host_of new_host d.base)

-- what is kept to in it
pub record Keeps (many : Bool) (n c dev : ℕ) (at : MachineState) (deeds : List Deed) (now : MachineState) (run : RunsRuled at deeds now) : Type 0 where
  pub linked : HasLink deeds
  pub lasts : AllLast n at deeds now run
  pub line : AllKeepLine many n c dev at deeds now run
  pub on : AreKeptOn (calls_of n at deeds now run)
  pub unqueued : AllKeepUnqueued many n dev at deeds now run

pub first_keeps : (many : Bool) (n c dev : ℕ) (at : MachineState) (deeds : List Deed) (now : MachineState) (run : RunsRuled at deeds now) (x : Deed)
    (cut : Cut x at deeds now run) → Keeps many n c dev at deeds now run → Keeps many n c dev at cut.sooner cut.mid cut.led
first_keeps many n c dev at deeds now run x cut k = record {
  linked = (cut.links k.linked).0;
  lasts = (cut.lasts n k.lasts).0;
  line = (cut.line many n c dev k.line).0;
  on = kept_first (calls_of n at cut.sooner cut.mid cut.led) _ (subst AreKeptOn (cut.own n) k.on);
  unqueued = (cut.unqueued many n dev k.unqueued).0;
}

module _ (laws : Laws) (b : Start) where
  abbrev d : DiskStretch
  d = b.d

  abbrev dev : ℕ
  dev = b.dev

  pub told_first : Told d.at.controller
  told_first = told_now laws.own.falls b.ports b.legacy d.old b.opening d.before d.at d.first

  due_first : GathersDue d.at
  due_first =
      let falls = laws.own.falls in
      (falls.runs d.old d.before d.at d.first (falls.opens b.ports b.legacy d.old b.opening (first_ruled d.before d.old d.at d.first)).due).due

  abbrev pub Kept : (deeds : List Deed) → (now : MachineState) → RunsRuled d.at deeds now → Type 0
  Kept deeds now run = Keeps d.many d.n b.c dev d.at deeds now run

  pub waits_to : (deeds : List Deed) (now : MachineState) (run : RunsRuled d.at deeds now) → Kept deeds now run
      → WaitingRun d.many d.n dev d.at deeds now run
  waits_to deeds now run k = waiting_run laws.goes laws.stays d.many d.n dev deeds d.at now run due_first k.unqueued

  abbrev pub stretch : (deeds : List Deed) → (now : MachineState) → (run : RunsRuled d.at deeds now) → Kept deeds now run → Stretch
  stretch deeds now run k = record {
    ports = b.ports;
    legacy = b.legacy;
    old = d.old;
    opening = b.opening;
    before = d.before;
    at = d.at;
    first = d.first;
    many = d.many;
    n = d.n;
    c = b.c;
    dev = dev;
    slot = d.tag;
    below = b.below;
    dev_low = b.dev_low;
    low = b.low;
    begins = b.begins;
    p = d.p;
    limit = d.limit;
    base = d.base;
    are = b.are;
    same = b.same;
    idle = b.idle;
    deeds = deeds;
    now = now;
    run = run;
    has_link = k.linked;
    lasts = k.lasts;
    keeps = k.line;
    on = k.on;
    runs = (waits_to deeds now run k).runs;
    of = (waits_to deeds now run k).of;
    waiting =
        laws.wait dev b.dev_low d.at.controller now.controller (calls_in d.at deeds now run) (waits_to deeds now run k).runs.calls
        (told_first.past dev) (told_first.told dev b.dev_low) (waits_to deeds now run k).unqueued;
  }

  -- what holds at a deed of it
  record At (x : Deed) (old new : MachineState) (does : Does old x new) : Type 0 where
    run : Runs old.controller (deed_calls old x new does) new.controller
    due_now : GathersDue old
    told : Told old.controller

  at_cut : (deeds : List Deed) (now : MachineState) (run : RunsRuled d.at deeds now) → Kept deeds now run → (x : Deed) (cut : Cut x d.at deeds now run)
      → At x cut.mid cut.next cut.does
  at_cut deeds now run k x cut =
      let k0 : Kept cut.sooner cut.mid cut.led = first_keeps d.many d.n b.c dev d.at deeds now run x cut k in
      let w0 = waits_to cut.sooner cut.mid cut.led k0 in
      record {
        run =
            laws.goes cut.mid x cut.next cut.does (last_ruled cut.sooner d.at cut.mid cut.led) (first_ruled cut.later cut.next now cut.rest)
            w0.runs.due;
        due_now = w0.runs.due;
        told =
            told_after laws.own.falls (calls_in d.at cut.sooner cut.mid cut.led) d.at.controller cut.mid.controller w0.runs.calls told_first;
      }

  pub ends_at : (deeds : List Deed) (now : MachineState) (run : RunsRuled d.at deeds now) → Kept deeds now run → (x : Deed)
      (cut : Cut x d.at deeds now run) → 1 ≤ leaves dev cut.mid x cut.next cut.does → EndsBy d.n b.c dev x cut.mid cut.next cut.does
  ends_at deeds now run k x cut here =
      let a : At x cut.mid cut.next cut.does = at_cut deeds now run k x cut in
      let so = left_so (waits_in dev cut.mid.controller) (waits_in dev cut.next.controller) here in
      let kept : AllUnqueued dev cut.mid.controller (deed_calls cut.mid x cut.next cut.does) cut.next.controller a.run =
      (cut.unqueued d.many d.n dev k.unqueued).1.unqueued a.run in
      deed_ends laws d.many d.n b.c dev b.dev_low x cut.mid cut.next cut.does a.run
      (laws.wait dev b.dev_low cut.mid.controller cut.next.controller (deed_calls cut.mid x cut.next cut.does) a.run (a.told.past dev)
      (a.told.told dev b.dev_low) kept) a.told (cut.line d.many d.n b.c dev k.line).1 so.0 so.1

  -- ---- where it begins anew

  module _ (deeds : List Deed) (now : MachineState) (run : RunsRuled d.at deeds now) (k : Kept deeds now run) (f : Stamped)
      (found : Found d.many d.n b.c dev d.at deeds now run (of_conn d.n b.c (came_of d.at deeds now run)) f) where
    abbrev then' : List Call
    then' = calls_of d.n d.at found.cut.sooner found.cut.mid found.cut.led

    pub record Anew : Type 0 where
      -- the calls of the disk until it sent the FIS are these, behind which its host waits for nothing, and others
      pub front : List Call
      pub there_at : MachineState
      pub there_deeds : List Deed
      pub there_run : RunsRuled there_at there_deeds found.cut.mid
      pub split : then' ≡ front ++ calls_of d.n there_at there_deeds found.cut.mid there_run
      pub there_line : AllKeepLine d.many d.n b.c dev there_at there_deeds found.cut.mid there_run
      pub there : (bay_at there_at d.n).unit ≡ Disk (reached d.p d.limit (d.base ++ front))
      pub idle : IsIdle (host_of new_host (d.base ++ front))
      -- and by these deeds the controller took what the disk sent by the others
      pub from : MachineState
      pub later : List Deed
      pub rest : RunsRuled from later now
      pub line : AllKeepLine d.many d.n b.c dev from later now rest
      pub unqueued : AllKeepUnqueued d.many d.n dev from later now rest
      pub due_now : GathersDue from
      pub told : Told from.controller
      pub well : AllTakenWell dev d.at deeds now run → AllTakenWell dev from later now rest
      pub lost : NoneLost dev (calls_in d.at deeds now run) → NoneLost dev (calls_in from later now rest)
      pub same : of_conn d.n b.c (sent_of there_at there_deeds found.cut.mid there_run) ≡ of_conn d.n b.c (came_of from later now rest)
      -- by none of them a slot left the state of waiting; and the disk heard before all commands that went before them
      pub none : total (leaves dev) from later now rest ≡ 0
      pub counts : commanded (stretch deeds now run k) ≤ heard_in front + total (sends_to dev) from later now rest

    -- no slot left it
    whole : total (leaves dev) d.at deeds now run ≡ 0 → Anew
    whole none =
        let nil : d.base ++ [] ≡ d.base = append-nil d.base in
        let all : commanded (stretch deeds now run k) ≡ total (sends_to dev) d.at deeds now run = (waits_to deeds now run k).commanded in
        record {
          front = [];
          there_at = d.at;
          there_deeds = found.cut.sooner;
          there_run = found.cut.led;
          split = refl;
          there_line = found.keeps;
          there = b.begins.there ∙ ap Disk (b.same ∙ ap (λ (l : List Call). reached d.p d.limit l) (sym nil));
          idle = subst (λ (l : List Call). IsIdle (host_of new_host l)) (sym nil) b.idle;
          from = d.at;
          later = deeds;
          rest = run;
          line = k.line;
          unqueued = k.unqueued;
          due_now = due_first;
          told = told_first;
          well = λ taken. taken;
          lost = λ lost. lost;
          same = found.prior;
          none = none;
          counts = omega (arith, all);
        }

    -- or it is the one that left it last
    module _ (x : Deed) (cut : Cut x d.at deeds now run) (here : 1 ≤ leaves dev cut.mid x cut.next cut.does)
        (none : total (leaves dev) cut.next cut.later now cut.rest ≡ 0) where
      k0 : Kept cut.sooner cut.mid cut.led
      k0 = first_keeps d.many d.n b.c dev d.at deeds now run x cut k

      abbrev s0 : Stretch
      s0 = stretch cut.sooner cut.mid cut.led k0

      e : EndsBy d.n b.c dev x cut.mid cut.next cut.does
      e = ends_at deeds now run k x cut here

      abbrev g : Stamped
      g = e.takes.does.frame

      abbrev came_first : List Stamped
      came_first = of_conn d.n b.c (came_of d.at cut.sooner cut.mid cut.led)

      abbrev came_then : List Stamped
      came_then = of_conn d.n b.c (came_of cut.next cut.later now cut.rest)

      -- one FIS of the connection, and then others
      one_then : (l : List Stamped) → l ≡ g ∷ [] → (rest : List Stamped) → of_conn d.n b.c (l ++ rest) ≡ g ∷ of_conn d.n b.c rest
      one_then l is rest =
          ap (λ (q : List Stamped). of_conn d.n b.c (q ++ rest)) is
          ∙ ap (λ (q : Bool). if q then g ∷ of_conn d.n b.c rest else of_conn d.n b.c rest) e.own

      came_is : of_conn d.n b.c (came_of d.at deeds now run) ≡ came_first ++ g ∷ came_then
      came_is =
          let by_it : List Stamped = came_by cut.mid x cut.next cut.does in
          let then_came : List Stamped = came_of cut.next cut.later now cut.rest in
          ap (of_conn d.n b.c) cut.came ∙ conn_both d.n b.c (came_of d.at cut.sooner cut.mid cut.led) (by_it ++ then_came)
          ∙ ap (λ (l : List Stamped). came_first ++ l) (one_then by_it e.came then_came)

      -- ---- the disk as it sent this FIS

      kf : Kept found.cut.sooner found.cut.mid found.cut.led
      kf = first_keeps d.many d.n b.c dev d.at deeds now run found.deed found.cut k

      abbrev sf : Stretch
      sf = stretch found.cut.sooner found.cut.mid found.cut.led kf

      found0 : Found d.many d.n b.c dev d.at found.cut.sooner found.cut.mid found.cut.led came_first g
      found0 =
          find d.many d.n b.c dev found.cut.sooner d.at found.cut.mid found.cut.led found.keeps came_first came_then g (found.prior ∙ came_is)

      spoke : own.IsSpoken laws.own sf g e.own came_first found0 found0.deed
      spoke = own.spoken laws.own sf g e.own came_first found0 found0.deed found0.cut.does found0.line found0.sent

      abbrev then0 : List Call
      then0 = calls_of d.n d.at found0.cut.sooner found0.cut.mid found0.cut.led

      it : own.IsThen laws.own sf g e.own came_first found0 spoke.o
      it = own.is_then laws.own sf g e.own came_first found0 d.n spoke.o spoke.does spoke.sent

      gone : GoneOn d.many d.n b.c dev b.begins.disk then0 (of_conn d.n b.c (sent_of d.at found0.cut.sooner found0.cut.mid found0.cut.led))
          (bay_at found0.cut.mid d.n).unit
      gone = own.gone_on laws.own sf g e.own came_first found0

      abbrev first : List Call
      first = then0 ++ Sends spoke.o ∷ []

      abbrev more : List Call
      more = calls_of d.n found0.cut.next found0.cut.later found.cut.mid found0.cut.rest

      said_it : calls_at found0.cut.mid found0.deed d.n ≡ Sends spoke.o ∷ []
      said_it =
          ap (λ (y : Deed). calls_at found0.cut.mid y d.n) spoke.is
          ∙ ap (λ (q : Bool). if q then Sends spoke.o ∷ [] else []) (eq-eqb d.n d.n refl)

      split : then' ≡ first ++ more
      split = found0.cut.own d.n ∙ ap (λ (l : List Call). then0 ++ (l ++ more)) said_it ∙ sym (append_assoc then0 (Sends spoke.o ∷ []) more)

      are_first : AreCalls (new_disk d.p d.limit) (d.base ++ first)
      are_first =
          subst (AreCalls (new_disk d.p d.limit)) (append_assoc d.base then0 (Sends spoke.o ∷ []))
          (calls_both (d.base ++ then0) (Sends spoke.o ∷ []) (new_disk d.p d.limit) it.whole (it.says, tt))

      turn : AreSettled d.p d.limit d.base first
      turn = laws.own.turn d.p d.limit d.base first are_first b.idle (kept_first first more (subst AreKeptOn split kf.on))

      -- ---- it settled as many commands as it heard, and these are as many as went

      q0 : own.Counts s0
      q0 = own.counts laws.own s0

      abbrev kinds0 : List Bool
      kinds0 = taken_kinds dev (events s0)

      within0 : Within kinds0 (said_kinds then0)
      within0 =
          within_then kinds0 (frames_kinds came_first) (said_kinds then0) q0.taken
          (subst (λ (l : List Stamped). Within (frames_kinds l) (said_kinds then0)) found0.prior
          (sent_within d.many d.n b.c dev laws.own.disks found0.cut.sooner d.at found0.cut.mid found0.cut.led found0.keeps b.begins.disk
          b.begins.there))

      is_answer_here : is_answering g.bytes ≡ true → is_answer spoke.o ≡ true
      is_answer_here is =
          says found0.cut.mid d.n spoke.o found0.cut.next spoke.does
          (subst (λ (y : Stamped). is_answering y.bytes ≡ true)
          (sym (own.risen_is laws.own sf g e.own came_first found0 d.n spoke.o spoke.does spoke.sent)) is)

      is_data_here : is_answering g.bytes ≡ false → is_data spoke.o ≡ true
      is_data_here other =
          says_data found0.cut.mid d.n spoke.o found0.cut.next spoke.does
          (subst (λ (y : Stamped). carries (seen y.bytes) ≡ true)
          (sym (own.risen_is laws.own sf g e.own came_first found0 d.n spoke.o spoke.does spoke.sent)) (e.data' other).0)

      said_kind : (is_answer spoke.o ≡ true) ⊎ (is_data spoke.o ≡ true)
      said_kind = by (is_answering g.bytes) refl
        where
          by : (q : Bool) → is_answering g.bytes ≡ q → (is_answer spoke.o ≡ true) ⊎ (is_data spoke.o ≡ true)
          by true is = inl (is_answer_here is)
          by false other = inr (is_data_here other)

      settled_most : commanded s0 ≤ settled_in first
      settled_most =
          let sum : settled_in first ≡ settled_in then0 + (once_if (is_settling spoke.o) + 0) = settled_both then0 (Sends spoke.o ∷ []) in
          let among = fewer kinds0 (said_kinds then0) within0 in
          let long = said_long then0 in
          let ordered : commanded s0 + due dev d.at.controller ≤ length kinds0 + due dev cut.mid.controller = q0.ordered in
          by (omega (arith, sum)) (omega (arith, among, long, ordered)) (is_answering g.bytes) refl
        where
          by : settled_in first ≡ settled_in then0 + once_if (is_settling spoke.o) → commanded s0 ≤ settled_in then0 + due dev cut.mid.controller
              → (q : Bool) → is_answering g.bytes ≡ q → commanded s0 ≤ settled_in first
          by sum less true is =
              let one : once_if (is_settling spoke.o) ≡ 1 = ap (λ (q : Bool). once_if (q || sets_up_last spoke.o)) (is_answer_here is) in
              let most : due dev cut.mid.controller ≤ 1 = own.once_most (waits_in dev cut.mid.controller && not (is_shut dev cut.mid.controller)) in
              omega (arith, sum, less, one, most)
          by sum less false other =
              let free = due_shut dev cut.mid.controller (e.data' other).1 in
              omega (arith, sum, less, free)

      -- it sent the FIS before this was taken
      heard_before : heard_in then0 ≤ heard_in (calls s0)
      heard_before =
          let order : InOrder d.n b.c (came s0) (sent_of d.at cut.sooner cut.mid cut.led) g = own.order_of laws.own s0 e.took cut.next e.takes e.own in
          let all = stretch_made d.many d.n b.c dev laws.own.disks cut.sooner d.at cut.mid cut.led k0.line b.begins.disk b.begins.there in
          let long : spoken_in (calls s0) ≡ length (of_conn d.n b.c (sent_of d.at cut.sooner cut.mid cut.led)) = all.made.long in
          let sent_long = ap (λ (l : List Stamped). length l) order.is ∙ length-append came_first (g ∷ order.rest) in
          let short = gone.made.long in
          let prior = ap (λ (l : List Stamped). length l) found0.prior in
          let back : List Call = calls_at found.cut.mid found.deed d.n ++ calls_of d.n found.cut.next found.cut.later now found.cut.rest in
          let same =
          sym (cut.own d.n) ∙ found.cut.own d.n ∙ ap (λ (l : List Call). l ++ back) split ∙ append_assoc first more back
          ∙ append_assoc then0 (Sends spoke.o ∷ []) (more ++ back) in
          let has = sent_first (calls s0) (calls_at cut.mid x d.n ++ calls_of d.n cut.next cut.later now cut.rest) then0 (more ++ back) spoke.o same
          (omega (arith, long, sent_long, short, prior)) in
          let sum = ap heard_in has.1 ∙ heard_both then0 (Sends spoke.o ∷ has.0) in
          omega (arith, sum)

      idle_first : IsIdle (host_of new_host (d.base ++ first))
      idle_first =
          let sum : heard_in first ≡ heard_in then0 + (0 + 0) = heard_both then0 (Sends spoke.o ∷ []) in
          let less = heard_before in
          let heard = q0.heard in
          let asked = q0.asked in
          let most = settled_most in
          let over = turn.idle (omega (arith, sum, less, heard, asked, most)) in
          let same : host_of new_host (d.base ++ first) ≡ out_got (host_of new_host (d.base ++ then0)) spoke.o =
          ap (host_of new_host) (sym (append_assoc d.base then0 (Sends spoke.o ∷ []))) ∙ host_then (d.base ++ then0) (Sends spoke.o) new_host in
          record {
            waits = free_not_last (host_of new_host (d.base ++ first)).waits over.1
                (λ last. out_not_last (host_of new_host (d.base ++ then0)) spoke.o said_kind (sym (ap (λ (h : Host). h.waits) same) ∙ last));
            clear = over.0;
          }

      there_first : (bay_at found0.cut.next d.n).unit ≡ Disk (reached d.p d.limit (d.base ++ first))
      there_first =
          let disk : DiskState = after_calls b.begins.disk then0 in
          let on =
          laws.own.disks found0.cut.mid found0.deed found0.cut.next found0.cut.does d.n disk gone.is (left_there d.n found0.deed found0.line.left) in
          on.is
          ∙ ap Disk (ap (λ (l : List Call). after_calls disk l) said_it ∙ sym (calls_after then0 (Sends spoke.o ∷ []) b.begins.disk)
          ∙ ap (λ (y : DiskState). after_calls y first) b.same ∙ sym (calls_after d.base first (new_disk d.p d.limit)))

      same_then : of_conn d.n b.c (sent_of found0.cut.next found0.cut.later found.cut.mid found0.cut.rest) ≡ came_then
      same_then =
          let said : List Stamped = sent_by found0.cut.mid found0.deed found0.cut.next found0.cut.does in
          let sent_then : List Stamped = sent_of found0.cut.next found0.cut.later found.cut.mid found0.cut.rest in
          let sent_first_is : List Stamped = sent_of d.at found0.cut.sooner found0.cut.mid found0.cut.led in
          let all : of_conn d.n b.c (sent_of d.at found.cut.sooner found.cut.mid found.cut.led) ≡ came_first ++ g ∷ of_conn d.n b.c sent_then =
          ap (of_conn d.n b.c) found0.cut.sent ∙ conn_both d.n b.c sent_first_is (said ++ sent_then)
          ∙ ap (λ (l : List Stamped). of_conn d.n b.c sent_first_is ++ l) (one_then said found0.sent sent_then)
          ∙ ap (λ (l : List Stamped). l ++ g ∷ of_conn d.n b.c sent_then) found0.prior in
          tail_same g g (of_conn d.n b.c sent_then) came_then
          (cancel came_first (g ∷ of_conn d.n b.c sent_then) (g ∷ came_then) (sym all ∙ found.prior ∙ came_is))

      behind_it : Anew
      behind_it =
          let a : At x cut.mid cut.next cut.does = at_cut deeds now run k x cut in
          let all : commanded (stretch deeds now run k) ≡ total (sends_to dev) d.at deeds now run = (waits_to deeds now run k).commanded in
          let before : commanded s0 ≡ total (sends_to dev) d.at cut.sooner cut.mid cut.led = (waits_to cut.sooner cut.mid cut.led k0).commanded in
          let parts = cut.counted (sends_to dev) in
          let unsent = e.unsent in
          let most = settled_most in
          let fewer_settled = turn.fewer in
          record {
            front = first;
            there_at = found0.cut.next;
            there_deeds = found0.cut.later;
            there_run = found0.cut.rest;
            split = split;
            there_line = (found0.cut.line d.many d.n b.c dev found.keeps).2;
            there = there_first;
            idle = idle_first;
            from = cut.next;
            later = cut.later;
            rest = cut.rest;
            line = (cut.line d.many d.n b.c dev k.line).2;
            unqueued = (cut.unqueued d.many d.n dev k.unqueued).2;
            due_now = laws.stays cut.mid x cut.next cut.does a.due_now;
            told = told_after laws.own.falls (deed_calls cut.mid x cut.next cut.does) cut.mid.controller cut.next.controller a.run a.told;
            well = λ taken. (cut.taken dev taken).2;
            lost = λ lost.
                none_last dev (deed_calls cut.mid x cut.next cut.does) (calls_in cut.next cut.later now cut.rest)
                (none_last dev (calls_in d.at cut.sooner cut.mid cut.led) _ (subst (NoneLost dev) cut.events lost));
            same = same_then;
            none = none;
            counts = omega (arith, all, before, parts, unsent, most, fewer_settled);
          }

    pub begins_anew : Anew
    begins_anew = by (total (leaves dev) d.at deeds now run) refl
      where
        by : (t : ℕ) → total (leaves dev) d.at deeds now run ≡ t → Anew
        by zero none = whole none
        by (suc t) some =
            let h = last_of (leaves dev) deeds d.at now run (omega (arith, some)) in
            behind_it h.deed h.last.cut h.last.here h.last.none
