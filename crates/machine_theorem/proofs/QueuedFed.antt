-- What a disk takes for a queued write, of a guest that sends it queued commands alone: it went of the slot of the tag, as it was supplied for it.
use Rattle.std.proofs.Common.{◌≡◌, ℕ, ◌<◌, Bool, true, List, [], ◌++◌, sym, ap, ◌∙◌, Ok, Some, inl}
use Rattle.std.specs.{Prelude.drop, List.flat_map}
use Rattle.fis_view.specs.{Frames.Stamped, Seen.seen}
use Rattle.fis_view.specs.declared.view.Fis.TheVariants as view
use Rattle.slots.specs.declared.work.Kind.TheVariants.{QueuedWrite}
use Rattle.ahci_controller.specs.declared.feeding.Fed.TheVariants as fed_answer
use Rattle.controller_laws.specs.Events.{Event}
use Rattle.block_queue.specs.Line.{command_at}
use Rattle.sata_disk.specs.{Hearing.receives, State.{commands, new_disk}}
use Rattle.sata_disk_books.specs.InTurn.{AreOfQueue, AwaitsNone}
use Rattle.sata_disk_laws.specs.{Calls.AreCalls, Laws.reached}
use Rattle.ahci_machine.specs.States.{IsOpeningMachine, bay_at}
use Rattle.ahci_machine.specs.declared.act.Act.TheVariants as act
use Rattle.machine_laws.specs.{ControllerLaws.calls_in, Controllers.deed_calls, Deeds.{Deed, Moved}, Falling.{AllLast, HasLink, heard_by, sent_in}}
use Rattle.machine_laws.specs.Feeding.{came_in}
use Rattle.machine_theorem.specs.{Brought.{AllTakenWell, DiskStretch}, Crossing.Within, Fed.{FedDataAreOfTheirSlots, IsFedFor}}
use Rattle.machine_theorem.specs.{Given.{CommandsAreGiven, IsWhole}, Identity.{AllKeep, IsAtRest}, OwnSlots.{AllKeepLine, BeginsClear, NoneLost}}
use Rattle.machine_theorem.specs.{OwnWrites.AreOwnData, QueuedWrites.{AllQueued, HasQueued, QueuedAloneIsServed, QueuedWritesAreAsSupplied}}
use Rattle.machine_theorem.specs.TakenWrites.{IsSuppliedWrite}
use Rattle.machine_theorem.proofs.{EndsFew.disk_same, Fallen.heard_within, FedKinds.write_kind, HostShut.none_heard, OrderCut.{Joined, joined}}
use Rattle.machine_theorem.proofs.{ServesQueued.serves, Sent.marked_rest, Stretch.{HasDisk, Stretch, calls, due_at, has_disk}, WentBehind.Behind}
use Rattle.machine_theorem.proofs.{WentBehind.{fell_in, went_behind}, WritesOwn.{Awaits, awaits}}
use Rattle.machine_theorem.proofs.OwnData as data_of
use Rattle.machine_theorem.proofs.ServesQueued as serves_of
use Rattle.machine_theorem.proofs.TheSlots as slots

-- ---- what the disk serves

pub record Serving : Type 0 where
  pub slots : slots.Laws
  pub serves : serves_of.Laws

abbrev pub stretch_of : (ports : ℕ) (legacy : Bool) (d : DiskStretch) → IsOpeningMachine ports legacy d.old → d.n < 15 → d.tag < 32
    → (rest : IsAtRest d.many d.n d.tag d.old d.before d.at d.first) → HasLink d.deeds → AllLast d.n d.at d.deeds d.now d.run
    → AllKeep d.many d.n d.tag d.at d.deeds d.now d.run → AreCalls (new_disk d.p d.limit) d.base → rest.disk ≡ reached d.p d.limit d.base → Stretch
stretch_of ports legacy d opening below low rest linked lasts keeps are same = record {
  ports = ports;
  legacy = legacy;
  old = d.old;
  opening = opening;
  before = d.before;
  at = d.at;
  first = d.first;
  many = d.many;
  n = d.n;
  tag = d.tag;
  below = below;
  low = low;
  rest = rest;
  deeds = d.deeds;
  now = d.now;
  run = d.run;
  linked = linked;
  lasts = lasts;
  keeps = keeps;
  p = d.p;
  limit = d.limit;
  base = d.base;
  are = are;
  same = same;
}

pub is_served : Serving → QueuedAloneIsServed
is_served laws ports legacy d opening below low rest linked lasts keeps are same queued owes takes =
    let s : Stretch = stretch_of ports legacy d opening below low rest linked lasts keeps are same in
    let heard = heard_within laws.slots.falling d.many d.n d.tag d.deeds d.at d.now d.run rest.disk rest.there keeps (due_at laws.slots s) linked lasts rest.leaving rest.down in
    serves laws.serves d.p d.limit (calls s) d.base (has_disk laws.slots s).are (inl owes) queued.begins
    (none_heard d.many d.n (flat_map heard_by (calls s)) (sent_in (calls_in d.at d.deeds d.now d.run)) heard queued.sends) takes

-- ---- what it takes for a queued write

pub record Laws : Type 0 where
  pub slots : slots.Laws
  pub given : CommandsAreGiven
  pub own : data_of.Laws
  pub fed : FedDataAreOfTheirSlots

-- A stretch of such a guest and such a disk, in which no FIS of this is lost or at fault.
pub record Line (s : Stretch) : Type 0 where
  pub c : ℕ
  pub dev : ℕ
  pub dev_low : dev < 16
  pub begins : BeginsClear s.n c dev s.at
  pub keeps : AllKeepLine s.many s.n c dev s.at s.deeds s.now s.run
  pub well : AllTakenWell dev s.at s.deeds s.now s.run
  pub lost : NoneLost dev (calls_in s.at s.deeds s.now s.run)
  pub own : AreOwnData s.many s.n dev (calls_in s.at s.deeds s.now s.run)
  pub awaits : AwaitsNone (reached s.p s.limit s.base)
  pub queue : AreOfQueue (reached s.p s.limit s.base) (calls s)
  pub queued : AllQueued dev s.at s.deeds s.now s.run

-- The FIS went of the slot of the tag, as it was supplied for it, behind all that the disk heard.
pub record FedIt (s : Stretch) (dev : ℕ) (f : Stamped) : Type 0 where
  pub write : IsSuppliedWrite s.many s.n dev s.tag s.old s.before s.at s.first s.deeds s.now s.run s.p s.limit s.base f
  pub kind : write.went.goes.issue.work.kind ≡ QueuedWrite
  pub payload : drop 4 f.bytes ≡ came_in dev [] s.old (s.before ++ write.went.before) write.went.mid write.whole.all
  pub behind : Within (flat_map heard_by (calls s)) (fell_in s.many s.n (calls_in s.at write.went.before write.went.mid write.went.first))
  pub more : List Event
  pub events : calls_in s.at s.deeds s.now s.run ≡ calls_in s.at write.went.before write.went.mid write.went.first ++ more
  -- what was read by then is what was read as the stretch began, and goes on
  pub came : (x : List ℕ) → came_in dev x s.old (s.before ++ write.went.before) write.went.mid write.whole.all
      ≡ came_in dev (came_in dev x s.old s.before s.at s.first) s.at write.went.before write.went.mid write.went.first
  pub queued : AllQueued dev s.at write.went.before write.went.mid write.went.first

pub fed_it : Laws → (s : Stretch) (l : Line s) (f : Stamped) → (bay_at s.now s.n).down ≡ Some f → (v : List ℕ) → seen f.bytes ≡ Ok (view.Payload v)
    → receives (command_at (commands (reached s.p s.limit (s.base ++ calls s))) s.tag) ≡ true → FedIt s l.dev f
fed_it laws s l f down v payload receiving =
    let same : l.begins.disk ≡ reached s.p s.limit s.base = disk_same l.begins.disk s.rest.disk (sym l.begins.there ∙ s.rest.there) ∙ s.same in
    let disk : HasDisk s = has_disk laws.slots s in
    let a : Awaits (command_at (commands (reached s.p s.limit (s.base ++ calls s))) s.tag) =
    awaits (command_at (commands (reached s.p s.limit (s.base ++ calls s))) s.tag) receiving in
    let b : Behind s.many s.n l.dev s.at s.deeds s.now s.run s.p s.limit s.base s.tag f.bytes =
    went_behind laws.own s.ports s.legacy s.old s.opening s.before s.at s.first s.many s.n l.c l.dev s.below l.dev_low l.begins s.rest.leaving s.rest.down s.p s.limit s.base s.are same l.awaits
    s.deeds s.now s.run s.linked s.lasts l.keeps l.well l.lost l.own l.queue f down v payload s.tag s.low receiving in
    let g = b.gone in
    let cut = g.cut in
    let goes = b.goes in
    let deed : Deed = Moved (act.Gathers l.dev (fed_answer.Goes g.message g.line)) in
    let queued : HasQueued l.dev cut.mid.controller = (cut.queued l.dev l.queued).1 in
    let kind : goes.issue.work.kind ≡ QueuedWrite = write_kind goes.issue.work.kind (queued goes.slot goes.issue goes.there goes.of_dev) goes.way in
    let j : Joined s.old s.before s.at s.first cut.sooner cut.mid cut.led = joined s.before s.old s.at s.first cut.sooner cut.mid cut.led in
    let whole : IsWhole s.old s.before s.at s.first cut.sooner cut.mid cut.led = record { all = j.all; calls = j.calls } in
    let fed : IsFedFor s.old (s.before ++ cut.sooner) cut.mid whole.all l.dev g.message g.line cut.next cut.does goes.slot goes.offset goes.len =
    laws.fed s.ports s.legacy s.old s.opening (s.before ++ cut.sooner) cut.mid whole.all l.dev g.message g.line cut.next cut.does goes.slot goes.offset goes.len goes.is in
    let came : drop 4 f.bytes ≡ came_in l.dev [] s.old (s.before ++ cut.sooner) cut.mid whole.all =
    ap (drop 4) g.bytes ∙ marked_rest cut.does.does.gathering.bytes 0 ∙ ap (drop 4) fed.bytes in
    record {
      write = record {
        moment = a.moment;
        is = a.is;
        given = laws.given s.ports s.legacy s.old s.opening s.before s.at s.first s.many s.n s.tag s.below s.low s.rest s.deeds s.now s.run s.linked s.lasts s.keeps s.p s.limit s.base s.are s.same
            (reached s.p s.limit (s.base ++ calls s)) disk.there a.moment a.is a.under_way;
        went = record {
          before = cut.sooner;
          mid = cut.mid;
          first = cut.led;
          message = g.message;
          line = g.line;
          after = cut.next;
          does = cut.does;
          later = cut.later;
          is = cut.is;
          bytes = g.bytes;
          goes = goes;
        };
        whole = whole;
        fed = λ kind. fed;
        payload = λ kind. came;
      };
      kind = kind;
      payload = came;
      behind = g.prior;
      more = deed_calls cut.mid deed cut.next cut.does ++ calls_in cut.next cut.later s.now cut.rest;
      events = cut.events;
      came = λ x. j.came l.dev x;
      queued = (cut.queued l.dev l.queued).0;
    }

pub queued_writes : Laws → QueuedAloneIsServed → QueuedWritesAreAsSupplied
queued_writes laws law ports legacy d opening c dev below dev_low low rest begins linked lasts keeps line well lost own are same none queued all owes takes f down v payload receiving =
    let s : Stretch = stretch_of ports legacy d opening below low rest linked lasts keeps are same in
    let l : Line s = record {
      c = c;
      dev = dev;
      dev_low = dev_low;
      begins = begins;
      keeps = line;
      well = well;
      lost = lost;
      own = own;
      awaits = none;
      queue = law ports legacy d opening below low rest linked lasts keeps are same queued owes takes;
      queued = all;
    } in
    let it : FedIt s dev f = fed_it laws s l f down v payload receiving in
    record { write = it.write; kind = it.kind; place = it.write.went.goes.goes it.kind; payload = it.payload }
