-- Where the guest sees a queued read completed: each of its bytes, as it was sent and as it was taken.
use Rattle.std.proofs.Common.{◌≡◌, ℕ, ◌<◌, Bool, true, false, List, [], ◌∷◌, ◌++◌, append_assoc, drop, length, refl, sym, ap, subst, ◌∙◌, arith}
use Rattle.std.proofs.{Common.{Result, Ok, Err, Contains}, lemmas.{Bool.{and_parts, eq-eqb, false≢true, ltb-true}, Grind.{flat_map-append}}}
use Rattle.std.proofs.lemmas.List.Elements.{All-contains, Contains-push}
use Rattle.std.specs.{Prelude.{◌==◌, nat_lt, slice_index}, List.flat_map}
use Rattle.fis_view.specs.Frames.{Stamped}
use Rattle.slots.specs.{Slots.{Issue, holds, issue_at}, declared.work.Kind.TheVariants.QueuedRead}
use Rattle.hba_fbs.specs.{Taking.port_of, declared.report.Wrote.Wrote}
use Rattle.ahci_controller.specs.declared.next.Next.TheVariants as next
use Rattle.controller_laws.specs.Events as call
use Rattle.controller_laws.specs.Events.{Event}
use Rattle.sata_disk.specs.{State.new_disk, declared.out.Out.Out}
use Rattle.sata_disk.specs.declared.out.Out.TheVariants as out
use Rattle.sata_disk_laws.specs.{Calls.AreCalls, Laws.reached, Once.{Host, IsDataAt, IsOutDue, host_of, new_host}}
use Rattle.ahci_machine.specs.{States.{IsOpeningMachine, bay_at}, declared.act.Act.Act}
use Rattle.ahci_machine.specs.declared.act.Act.TheVariants as act
use Rattle.machine_laws.specs.{ControllerLaws.{RunsRuled, calls_in}, Controllers.deed_calls, Deeds.{Deed, Does, FrameOffered, Moved}, Falling.AllLast}
use Rattle.machine_laws.specs.{Falling.{HasLink, heard_by, sent_in}, Rising.{risen, sent_by, unless_back}}
use Rattle.machine_laws.specs.Falling as falling
use Rattle.machine_theorem.specs.Brought.{AllTakenWell, ByteIsRead, CompletedReadsAreBrought, DiskStretch, IsItsByte, IsReadDone, OfItsByte}
use Rattle.machine_theorem.specs.{Commands.AreNotIssued, Following.IsHeardWell, Given.IsWhole, Identity.{AllKeep, IsAtRest, own_of}, Orders.fallen_in}
use Rattle.machine_theorem.specs.{Orders.is_sent_of, OwnSlots.{AllKeepLine, BeginsClear, NoneLost, is_of}, QueuedOnly.{ByteIsOfDisk, NoneSingle}}
use Rattle.machine_theorem.specs.{QueuedOnly.{QueuedReadsAreBrought, SendsQueued}, Reads.IsReadOf, SingleReads.IsWrittenThen, Tags.ended_with}
use Rattle.machine_theorem.proofs.AsSupplied as supplied
use Rattle.machine_theorem.proofs.{AsSupplied.{Went, supplied_at}, AtEnd.none_behind, BroughtAt.{Brought, brought_since, byte_is}}
use Rattle.machine_theorem.proofs.{BroughtRead.{byte_of, none_first, none_later, none_of}, Cut.Cut, EndsFew.{disk_same, own_not, sender_is}}
use Rattle.machine_theorem.proofs.{Fallen.heard_within, FallsBehind.few_behind, Given.{Numbers, counted_now, out_due, queued_now}, HostShut.IsShut}
use Rattle.machine_theorem.proofs.{HostShut.{calls_shut, host_both, none_heard, single_first}, IsData.{IsDataOr, brings_data}, OwnPlace.IsFound}
use Rattle.machine_theorem.proofs.{OwnPlace.{found_at, speaker}, Own.last_ruled, ReadsOwn.read_of, Sent.{HasOrigin, origins}, StillStands.none_both}
use Rattle.machine_theorem.proofs.Stretch.{Stretch, asked, calls, counts, due_at, falls, front, has_disk, orders, stands, whole_run}
use Rattle.machine_theorem.proofs.{TakenWell.{WellRun, well_run}, WrittenBytes.{is_written, table_is, written_then}}
use Rattle.machine_theorem.proofs.BroughtAt as moments
use Rattle.machine_theorem.proofs.OwnPlace as places
use Rattle.machine_theorem.proofs.Sent as sent
use Rattle.machine_theorem.proofs.WrittenBytes as written

pub record Laws : Type 0 where
  pub moments : moments.Laws
  pub supplied : supplied.Laws
  pub places : places.Laws
  pub disks : sent.Laws
  pub written : written.Laws

abbrev first_or : Stamped → List Stamped → Stamped
first_or x [] = x
first_or x (y ∷ ys) = y

module _ (laws : Laws) (ports : ℕ) (legacy : Bool) (d : DiskStretch) (opening : IsOpeningMachine ports legacy d.old) (c dev : ℕ) (below : d.n < 15)
    (dev_low : dev < 16) (low : d.tag < 32)
    (rest : IsAtRest d.many d.n d.tag d.old d.before d.at d.first) (begins : BeginsClear d.n c dev d.at) (linked : HasLink d.deeds)
    (lasts : AllLast d.n d.at d.deeds d.now d.run)
    (keeps : AllKeep d.many d.n d.tag d.at d.deeds d.now d.run) (line : AllKeepLine d.many d.n c dev d.at d.deeds d.now d.run)
    (taken : AllTakenWell dev d.at d.deeds d.now d.run)
    (lost : NoneLost dev (calls_in d.at d.deeds d.now d.run)) (are : AreCalls (new_disk d.p d.limit) d.base) (same : rest.disk ≡ reached d.p d.limit d.base)
    (issue : Issue) (done : IsReadDone d.now d.tag issue) (k : ℕ) (b : Brought QueuedRead dev d.tag k d.at d.deeds d.now d.run) where
  abbrev s : Stretch
  s = record {
    ports = ports;
    legacy = legacy;
    old = d.old;
    opening = opening;
    before = d.before;
    at = d.at;
    first = d.first;
    many = d.many;
    n = d.n;
    tag = d.tag;
    below = below;
    low = low;
    rest = rest;
    deeds = d.deeds;
    now = d.now;
    run = d.run;
    linked = linked;
    lasts = lasts;
    keeps = keeps;
    p = d.p;
    limit = d.limit;
    base = d.base;
    are = are;
    same = same;
  }

  -- ---- the FIS is taken

  abbrev f : Stamped
  f = b.cut.does.does.frame

  abbrev wrote : Wrote
  wrote = b.brings.wrote

  abbrev taking : Stretch
  taking = front s (Moved (act.Takes b.took)) b.cut

  heard : IsHeardWell b.cut.mid.controller b.took
  heard = (b.cut.taken dev taken).1 b.brings.own

  well : WellRun dev d.at b.cut.sooner b.cut.mid b.cut.led
  well = well_run laws.moments.goes laws.moments.due dev b.cut.sooner d.at b.cut.mid b.cut.led (due_at laws.supplied.end.slots s) (b.cut.taken dev taken).0

  mine : is_of d.n c f ≡ true
  mine = sym (b.cut.line d.many d.n c dev line).1.came.0 ∙ eq-eqb (port_of f.bytes) dev b.brings.own

  lost_sooner : NoneLost dev (calls_in d.at b.cut.sooner b.cut.mid b.cut.led)
  lost_sooner =
      none_first dev (calls_in d.at b.cut.sooner b.cut.mid b.cut.led)
      (deed_calls b.cut.mid (Moved (act.Takes b.took)) b.cut.next b.cut.does ++ calls_in b.cut.next b.cut.later d.now b.cut.rest)
      (subst (λ (l : List Event). NoneLost dev l) b.cut.events lost)

  found : IsFound d.many d.n c dev d.at b.cut.sooner b.cut.mid b.cut.led f wrote
  found =
      found_at laws.places ports legacy d.old opening d.before d.at d.first d.many d.n c dev below dev_low begins b.cut.sooner b.cut.mid b.cut.led
      (b.cut.line d.many d.n c dev line).0
      well.runs well.well lost_sooner b.took b.cut.next b.cut.does mine b.brings.own b.brings.calm wrote b.brings.brought b.brings.issue
      (ap (issue_at b.cut.mid.controller.core.slots) b.brings.slot_is ∙ b.brings.is) b.brings.kind_is

  -- ---- it is sent

  abbrev cut : Cut found.found.deed d.at b.cut.sooner b.cut.mid b.cut.led
  cut = found.found.cut

  abbrev sending : Stretch
  sending = front taking found.found.deed cut

  -- from then until it is taken
  abbrev step : RunsRuled cut.mid (found.found.deed ∷ cut.later) b.cut.mid
  step = (last_ruled cut.sooner d.at cut.mid cut.led, (cut.next, cut.does, cut.rest))

  -- the controller's calls from then until it is taken, and then until the bit falls
  abbrev between : List Event
  between = calls_in cut.mid (found.found.deed ∷ cut.later) b.cut.mid step

  abbrev behind : List Event
  behind = call.Took f.bytes b.took ∷ calls_in b.cut.next b.cut.later d.now b.cut.rest

  abbrev Counted : Type 0
  Counted = Numbers (length (asked sending)) (orders sending) (falls sending) (ended_with d.tag (calls sending))

  counted_at : (len : ℕ) → Does cut.mid (Moved (act.Speaks d.n (out.Data d.tag len))) cut.next → Counted
  counted_at len does =
      let it = queued_now laws.supplied sending len cut.next does in
      let disk = has_disk laws.supplied.end.slots sending in
      counted_now laws.supplied sending (reached d.p d.limit (d.base ++ calls sending)) disk.there it.moment it.is it.going

  counted_by : (j place len : ℕ) → j ≡ d.n → place ≡ d.tag → Does cut.mid (Moved (act.Speaks j (out.Data place len))) cut.next → Counted
  counted_by j place len here tagged does =
      counted_at len (subst (λ (q : ℕ). Does cut.mid (Moved (act.Speaks d.n (out.Data q len))) cut.next) tagged
      (subst (λ (i : ℕ). Does cut.mid (Moved (act.Speaks i (out.Data place len))) cut.next) here does))

  -- No bit falls meanwhile, so nothing is issued in the slot until the bit falls.
  quiet : Counted → AreNotIssued d.tag (between ++ behind)
  quiet n =
      let slots = laws.supplied.end.slots in
      let k' = counts slots sending in
      let ordered = k'.ordered in
      let one = k'.one in
      let orders_are = n.orders in
      let few = few_behind slots taking found.found.deed cut c dev begins (b.cut.line d.many d.n c dev line).0 (found.came ∙ sym found.found.prior) in
      let fallen = cut.fallen (own_of d.many d.n) d.tag in
      let stood : stands sending ≡ 1 = omega (arith, ordered, one, orders_are, few, fallen) in
      let none : fallen_in (own_of d.many d.n) d.tag cut.mid (found.found.deed ∷ cut.later) b.cut.mid step ≡ 0 =
      omega (arith, ordered, one, orders_are, few, fallen) in
      none_both d.tag between behind (none_behind laws.supplied.end sending stood (found.found.deed ∷ cut.later) b.cut.mid step none) (refl, b.alone)

  whole : IsWhole d.old d.before d.at d.first d.deeds d.now d.run
  whole = whole_run d.before d.old d.at d.first d.deeds d.now d.run

  calls_are : calls_in d.at d.deeds d.now d.run ≡ calls_in d.at cut.sooner cut.mid cut.led ++ (between ++ behind)
  calls_are =
      b.cut.events ∙ ap (λ (l : List Event). l ++ behind) cut.events
      ∙ append_assoc (calls_in d.at cut.sooner cut.mid cut.led) between behind

  -- ---- of the disk's command

  abbrev IsRead : (j place len : ℕ) → Does cut.mid (Moved (act.Speaks j (out.Data place len))) cut.next → Type 0
  IsRead j place len does =
      IsReadOf d.many d.n d.tag d.old d.before d.at d.first cut.sooner cut.mid cut.led d.p d.limit d.base j place len cut.next does f wrote

  read_now : (j place len : ℕ) (does : Does cut.mid (Moved (act.Speaks j (out.Data place len))) cut.next)
      → sent_by cut.mid (Moved (act.Speaks j (out.Data place len))) cut.next does ≡ f ∷ [] → place < 32 → IsRead j place len does
  read_now j place len does sent small =
      read_of laws.supplied laws.places taking c dev begins.disk begins.there
      (disk_same begins.disk rest.disk (sym begins.there ∙ rest.there) ∙ same) f wrote mine b.brings.slot_is
      found.prior found.told found.found j place len does sent small

  went : (j place len : ℕ) (does : Does cut.mid (Moved (act.Speaks j (out.Data place len))) cut.next) (read : IsRead j place len does)
      → AreNotIssued d.tag (between ++ behind)
      → Went (calls_in d.at d.deeds d.now d.run) read.given.given.dev d.tag read.given.given.order
  went j place len does read alone =
      let g = read.given.given in
      let x : ℕ → Event = λ q. call.Turned (next.Order g.dev q g.order) in
      let later : List Event = g.ordered.later ++ (between ++ behind) in
      subst (λ (q : ℕ). Went (calls_in d.at d.deeds d.now d.run) g.dev q g.order) read.slot (record {
        before = g.ordered.before;
        later = later;
        is =
            calls_are ∙ ap (λ (l : List Event). l ++ (between ++ behind)) g.ordered.is
            ∙ append_assoc g.ordered.before (x place ∷ g.ordered.later) (between ++ behind);
        alone = none_both place g.ordered.later (between ++ behind) g.alone (subst (λ (q : ℕ). AreNotIssued q (between ++ behind)) (sym read.slot) alone);
      })

  abbrev since : List Event
  since = calls_in cut.next cut.later b.cut.mid cut.rest ++ behind

  its_byte : (j place len : ℕ) (does : Does cut.mid (Moved (act.Speaks j (out.Data place len))) cut.next)
      → sent_by cut.mid (Moved (act.Speaks j (out.Data place len))) cut.next does ≡ f ∷ [] → place < 32
      → IsItsByte d k cut.sooner cut.mid cut.led j place len cut.next does f wrote since
  its_byte j place len does sent small =
      let read : IsRead j place len does = read_now j place len does sent small in
      let alone : AreNotIssued d.tag (between ++ behind) = quiet (counted_by j place len read.own read.slot does) in
      let long = b.brings.whole in
      let to = b.brings.to in
      record {
        read = read;
        byte = byte_of read.given.page.ledger (drop 4 f.bytes) wrote.offset k read.next read.number b.brings.from (omega (arith, long, to));
        alone = none_later d.tag (deed_calls cut.mid found.found.deed cut.next cut.does) since (subst (λ (l : List Event). AreNotIssued d.tag l)
            (append_assoc (deed_calls cut.mid found.found.deed cut.next cut.does) (calls_in cut.next cut.later b.cut.mid cut.rest) behind) alone);
        whole = whole;
        supplied = supplied_at laws.supplied s issue done.is whole read.given.given.dev read.given.given.order (went j place len does read alone);
      }

  move_byte : (a : Act) (does : Does cut.mid (Moved a) cut.next) → sent_by cut.mid (Moved a) cut.next does ≡ f ∷ []
      → OfItsByte d k cut.sooner cut.mid cut.led (Moved a) cut.next does f wrote since
  move_byte (act.Speaks j (out.Data place len)) does sent = λ small. its_byte j place len does sent small
  move_byte (act.Speaks j o) does sent = tt
  move_byte a does sent = tt

  deed_byte : (deed : Deed) (does : Does cut.mid deed cut.next) → sent_by cut.mid deed cut.next does ≡ f ∷ []
      → OfItsByte d k cut.sooner cut.mid cut.led deed cut.next does f wrote since
  deed_byte (Moved a) does sent = move_byte a does sent
  deed_byte deed does sent = tt

  pub byte_read : ByteIsRead d dev k
  byte_read = record {
    brought = byte_is dev d.tag k d.at d.deeds d.now d.run b;
    sooner = cut.sooner;
    mid = cut.mid;
    led = cut.led;
    deed = found.found.deed;
    next = cut.next;
    does = cut.does;
    between = cut.later;
    until = cut.rest;
    is = cut.is;
    sent = found.found.sent;
    read = deed_byte found.found.deed cut.does found.found.sent;
  }

  -- ---- a guest that sends queued commands alone

  abbrev host : Host
  host = host_of new_host (d.base ++ calls sending)

  shut : SendsQueued d → IsShut host
  shut queued =
      let slots = laws.supplied.end.slots in
      let sooner : List Event = calls_in d.at cut.sooner cut.mid cut.led in
      let sent : NoneSingle d.many d.n (sent_in sooner) =
      single_first d.many d.n (sent_in sooner) (sent_in (between ++ behind))
      (subst (λ (l : List Stamped). NoneSingle d.many d.n l)
      (ap sent_in calls_are ∙ flat_map-append falling.sent_by sooner (between ++ behind)) queued.sends) in
      let within =
      heard_within slots.falling d.many d.n d.tag cut.sooner d.at cut.mid cut.led rest.disk rest.there sending.keeps
      (due_at slots s) sending.linked sending.lasts rest.leaving rest.down in
      ap (λ (h : Host). h.open_at 32) (host_both d.base (calls sending) new_host)
      ∙ calls_shut (calls sending) (host_of new_host d.base) queued.begins
      (none_heard d.many d.n (flat_map heard_by (calls sending)) (sent_in sooner) within sent)

  due_by : (j : ℕ) (o : Out) → j ≡ d.n → Does cut.mid (Moved (act.Speaks j o)) cut.next → IsOutDue host o
  due_by j o here does = out_due laws.supplied sending o cut.next (subst (λ (i : ℕ). Does cut.mid (Moved (act.Speaks i o)) cut.next) here does)

  -- so the Data that the disk sends are of a queued command
  place_low : (place : ℕ) (low_too : Bool) → nat_lt place 32 ≡ low_too → IsShut host → IsDataAt host place low_too → place < 32
  place_low place true e closed due = ltb-true place 32 e
  place_low place false e closed due = absurd (false≢true (sym closed ∙ due.1.0))

  type : slice_index f.bytes 0 ≡ 0x46
  type =
      let h = b.cut.does.does in
      subst (λ o. IsDataOr f.bytes o) b.brings.brought
      (brings_data b.cut.mid.controller b.cut.does.middle.controller f.bytes b.took (record { framed = h.framed; free = h.free; hears = h.hears }))

  origin : HasOrigin cut.mid found.found.deed f
  origin =
      All-contains (HasOrigin cut.mid found.found.deed) (sent_by cut.mid found.found.deed cut.next cut.does) f
      (origins laws.disks cut.mid found.found.deed cut.next cut.does)
      (subst (λ (l : List Stamped). Contains l f) (sym found.found.sent) (Contains-push [] f))

  spoken_by : (j : ℕ) (o : Out) (does : Does cut.mid (Moved (act.Speaks j o)) cut.next) → sent_by cut.mid (Moved (act.Speaks j o)) cut.next does ≡ f ∷ []
      → j ≡ d.n
  spoken_by j o does sent =
      let own = laws.places in
      speaker own.tell own.given own.parts own.disks d.many d.n c dev d.at begins.disk begins.there d.p d.limit d.base are
      (disk_same begins.disk rest.disk (sym begins.there ∙ rest.there) ∙ same) b.cut.sooner b.cut.mid b.cut.led f wrote mine
      found.prior found.found j o does sent

  abbrev wrote_then : IsWrittenThen d.tag k b.cut.mid f.bytes wrote b.cut.next b.cut.later
  wrote_then =
      written_then laws.written ports legacy d.old opening d.before d.at d.first d.deeds d.now d.run QueuedRead dev d.tag k low
      issue done.is done.does.does.free b

  move_of_disk : SendsQueued d → (a : Act) (does : Does cut.mid (Moved a) cut.next) → b.cut.sooner ≡ cut.sooner ++ Moved a ∷ cut.later
      → sent_by cut.mid (Moved a) cut.next does ≡ f ∷ []
      → HasOrigin cut.mid (Moved a) f → ByteIsOfDisk d dev k
  move_of_disk queued (act.Speaks j (out.Data place len)) does is sent has =
      let due : IsDataAt host place (nat_lt place 32) = due_by j (out.Data place len) (spoken_by j (out.Data place len) does sent) does in
      record {
        brought = byte_is dev d.tag k d.at d.deeds d.now d.run b;
        written =
            is_written dev d.tag k d.at d.deeds d.now d.run b wrote_then;
        sooner = cut.sooner;
        mid = cut.mid;
        led = cut.led;
        port = j;
        place = place;
        len = len;
        next = cut.next;
        does = does;
        between = cut.later;
        until = cut.rest;
        is = is;
        sent = sent;
        read = its_byte j place len does sent (place_low place (nat_lt place 32) refl (shut queued) due);
        given =
            let it = its_byte j place len does sent (place_low place (nat_lt place 32) refl (shut queued) due) in
            sym it.byte
            ∙ wrote_then.byte_is;
        table =
            let it = its_byte j place len does sent (place_low place (nat_lt place 32) refl (shut queued) due) in
            table_is laws.written ports legacy d.old opening d.before d.at d.first d.deeds d.now d.run QueuedRead dev d.tag k low
            issue done.is done.does.does.free b
            it.whole.all it.supplied.runs it.supplied.source it.supplied.is;
      }
  move_of_disk queued (act.Speaks j (out.Page page)) does is sent has =
      absurd (false≢true (sym (shut queued) ∙ (due_by j (out.Page page) (spoken_by j (out.Page page) does sent) does).0))
  move_of_disk queued (act.Speaks j o) does is sent has = absurd (has.origin type)
  move_of_disk queued a does is sent has = absurd (has.origin type)

  offered_not : (j : ℕ) (frame : Stamped) (told : Result (Unit {0}) Stamped) → Does cut.mid (FrameOffered j frame told) cut.next
      → unless_back told (risen cut.mid.fan j frame) ≡ f ∷ [] → ⊥
  offered_not j frame (Err back) does sent = cc
  offered_not j frame (Ok x) does sent =
      let is : risen cut.mid.fan j frame ≡ f = ap (λ (l : List Stamped). first_or f l) sent in
      let port : ((risen cut.mid.fan j frame).stamp.port == d.n) ≡ true =
      ap (λ (x : Stamped). x.stamp.port == d.n) is ∙ (and_parts (f.stamp.port == d.n) (f.stamp.conn == c) mine).0 in
      let here : j ≡ d.n = sender_is d.many d.n cut.mid j frame found.found.line.end does.own.1 port in
      own_not (bay_at cut.mid j).unit (reached d.p d.limit (d.base ++ calls sending))
      (ap (λ (i : ℕ). (bay_at cut.mid i).unit) here ∙ (has_disk laws.supplied.end.slots sending).there) does.own.0

  deed_of_disk : SendsQueued d → (deed : Deed) (does : Does cut.mid deed cut.next) → b.cut.sooner ≡ cut.sooner ++ deed ∷ cut.later
      → sent_by cut.mid deed cut.next does ≡ f ∷ []
      → HasOrigin cut.mid deed f → ByteIsOfDisk d dev k
  deed_of_disk queued (Moved a) does is sent has = move_of_disk queued a does is sent has
  deed_of_disk queued (FrameOffered j frame told) does is sent has = absurd (offered_not j frame told does sent)
  deed_of_disk queued deed does is sent has = absurd (has.origin type)

  pub byte_of_disk : SendsQueued d → ByteIsOfDisk d dev k
  byte_of_disk queued = deed_of_disk queued found.found.deed cut.does cut.is found.found.sent origin

-- ---- the law

-- the byte of a read that was completed
byte_at : Laws → (ports : ℕ) (legacy : Bool) (d : DiskStretch) → IsOpeningMachine ports legacy d.old → (dev : ℕ) → d.tag < 32
    → (rest : IsAtRest d.many d.n d.tag d.old d.before d.at d.first) → (issue : Issue) → IsReadDone d.now d.tag issue → issue.dev ≡ dev
    → own_of d.many d.n dev ≡ true
    → (k : ℕ) → k < issue.work.len → Brought QueuedRead dev d.tag k d.at d.deeds d.now d.run
byte_at laws ports legacy d opening dev low rest issue done is_dev mine k small =
    let none : holds (is_sent_of (λ x. x == issue.dev)) (issue_at d.at.controller.core.slots d.tag) ≡ false =
    subst (λ (x : ℕ). holds (is_sent_of (λ y. y == x)) (issue_at d.at.controller.core.slots d.tag) ≡ false) (sym is_dev)
    (none_of (own_of d.many d.n) dev (issue_at d.at.controller.core.slots d.tag) mine rest.slot) in
    subst (λ (x : ℕ). Brought QueuedRead x d.tag k d.at d.deeds d.now d.run) is_dev
    (brought_since laws.moments ports legacy d.old opening d.before d.at d.first d.deeds d.now d.run d.tag low issue done none k small)

pub completed_reads : Laws → CompletedReadsAreBrought
completed_reads laws ports legacy d opening c dev below dev_low low rest begins linked lasts keeps line taken lost are same issue done is_dev mine k small =
    byte_read laws ports legacy d opening c dev below dev_low low rest begins linked lasts keeps line taken lost are same issue done k
    (byte_at laws ports legacy d opening dev low rest issue done is_dev mine k small)

pub queued_reads : Laws → QueuedReadsAreBrought
queued_reads laws ports legacy d opening c dev below dev_low low rest begins linked lasts keeps line taken lost are same queued issue done is_dev mine k small =
    byte_of_disk laws ports legacy d opening c dev below dev_low low rest begins linked lasts keeps line taken lost are same issue done k
    (byte_at laws ports legacy d opening dev low rest issue done is_dev mine k small) queued
