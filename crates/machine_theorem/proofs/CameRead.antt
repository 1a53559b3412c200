-- A byte of a read that is not queued was brought before the bit of its slot falls: the disk sent it for the command of the slot, and it is the one
-- of its number.
use Rattle.std.proofs.Common.{◌≡◌, ℕ, ◌<◌, Bool, true, false, List, ◌∷◌, ◌++◌, append_assoc, drop, refl, sym, ap, subst, ◌∙◌, arith}
use Rattle.std.proofs.lemmas.Bool.{eq-eqb}
use Rattle.fis_view.specs.Frames.{Stamped}
use Rattle.slots.specs.{Slots.Issue, declared.work.Kind.Kind}
use Rattle.hba_fbs.specs.{Taking.port_of, declared.report.Wrote.Wrote}
use Rattle.ahci_controller.specs.declared.next.Next.TheVariants as next
use Rattle.controller_laws.specs.Events as call
use Rattle.controller_laws.specs.Events.{Event}
use Rattle.sata_disk.specs.{State.new_disk, declared.out.Out.Out}
use Rattle.sata_disk.specs.declared.out.Out.TheVariants as out
use Rattle.sata_disk_laws.specs.{Calls.{AreCalls, Call}, Laws.reached, Once.{host_of, new_host}}
use Rattle.ahci_machine.specs.States.{IsOpeningMachine, MachineState}
use Rattle.ahci_machine.specs.declared.act.Act.TheVariants as act
use Rattle.machine_laws.specs.{ControllerLaws.calls_in, Deeds.{Moved}, Falling.{AllLast, HasLink}}
use Rattle.machine_theorem.specs.{Brought.{AllTakenWell, DiskStretch}, Given.IsWhole, Identity.calls_of, InTurn.{AreKeptOn, IsIdle}}
use Rattle.machine_theorem.specs.{OwnSlots.{AllKeepLine, NoneLost, is_of}, OwnPages.{PagesGoInTurn, TransfersSendNoPage}, PioIn.AllKeepUnqueued}
use Rattle.machine_theorem.specs.{PioReads.{CameIsRead, IsItsData}, SingleBytes.{IsSentFor, OfItsSectors, SingleIsSent}, SingleNumbers.AllHearSingle}
use Rattle.machine_theorem.specs.{SingleNumbers.{IsSingleByte, OfSingleByte, SingleDataAreCounted, SingleIsRead}, SingleReads.IsSingleDone}
use Rattle.machine_theorem.specs.{SingleReads.IsWrittenThen, Singles.{BeginsIdle, IsFromSlot}}
use Rattle.machine_theorem.proofs.{Anew.{Keeps, first_keeps}, AsSupplied.supplied_in, BroughtAt.Brought, BroughtRead.byte_of, SinglesBrought.single_is}
use Rattle.machine_theorem.proofs.{StillStands.none_both, Stretch.whole_run, TakenRead.{IsNumberedHere, IsOwnHere, IsSentHere, OfHere, OfNumber}}
use Rattle.machine_theorem.proofs.{TakenRead.{OfOwn, SentThen, taken_own, taken_sent}, WrittenBytes.table_is}
use Rattle.machine_theorem.proofs.WrittenBytes.{written_then}
use Rattle.machine_theorem.proofs.SinglesBrought as brought
use Rattle.machine_theorem.proofs.TakenRead as taken

pub record Laws : Type 0 where
  pub brought : brought.Laws
  pub taken : taken.Laws

module _ (laws : Laws) (ports : ℕ) (legacy : Bool) (d : DiskStretch) (opening : IsOpeningMachine ports legacy d.old) (c dev : ℕ) (below : d.n < 15)
    (dev_low : dev < 16) (low : d.tag < 32) (begins : BeginsIdle d.n c d.at) (are : AreCalls (new_disk d.p d.limit) d.base)
    (same : begins.disk ≡ reached d.p d.limit d.base) (idle : IsIdle (host_of new_host d.base)) (linked : HasLink d.deeds)
    (lasts : AllLast d.n d.at d.deeds d.now d.run) (line : AllKeepLine d.many d.n c dev d.at d.deeds d.now d.run)
    (on : AreKeptOn (calls_of d.n d.at d.deeds d.now d.run)) (keeps : AllKeepUnqueued d.many d.n dev d.at d.deeds d.now d.run) (issue : Issue)
    (done : IsSingleDone d.now d.tag issue) (is_dev : issue.dev ≡ dev) (k : ℕ) (b : Brought issue.work.kind issue.dev d.tag k d.at d.deeds d.now d.run) where
  abbrev kind : Kind
  kind = issue.work.kind

  abbrev f : Stamped
  f = b.cut.does.does.frame

  abbrev mid : MachineState
  mid = b.cut.mid

  abbrev wrote : Wrote
  wrote = b.brings.wrote

  whole : IsWhole d.old d.before d.at d.first d.deeds d.now d.run
  whole = whole_run d.before d.old d.at d.first d.deeds d.now d.run

  kept_then : Keeps d.many d.n c dev d.at b.cut.sooner mid b.cut.led
  kept_then =
      first_keeps d.many d.n c dev d.at d.deeds d.now d.run (Moved (act.Takes b.took)) b.cut
      (record { linked = linked; lasts = lasts; line = line; on = on; unqueued = keeps })

  of_conn_is : is_of d.n c f ≡ true
  of_conn_is = sym (b.cut.line d.many d.n c dev line).1.came.0 ∙ eq-eqb (port_of f.bytes) dev (b.brings.own ∙ is_dev)

  -- what went from the slot until then, and nothing was issued there since, went so until the bit falls
  from_slot : (bytes : List ℕ) → IsFromSlot dev d.tag d.old d.before d.at d.first b.cut.sooner mid b.cut.led bytes
      → IsFromSlot issue.dev d.tag d.old d.before d.at d.first d.deeds d.now d.run bytes
  from_slot bytes it =
      let o = it.ordered in
      let x : Event = call.Turned (next.Order dev d.tag it.order) in
      let behind : List Event = call.Took f.bytes b.took ∷ calls_in b.cut.next b.cut.later d.now b.cut.rest in
      let is : calls_in d.at d.deeds d.now d.run ≡ o.before ++ x ∷ (o.later ++ behind) =
      b.cut.events ∙ ap (λ (l : List Event). l ++ behind) o.is ∙ append_assoc o.before (x ∷ o.later) behind in
      let alone = none_both d.tag o.later behind it.alone (refl, b.alone) in
      subst (λ (j : ℕ). IsFromSlot j d.tag d.old d.before d.at d.first d.deeds d.now d.run bytes) (sym is_dev) (record {
        order = it.order;
        ordered = record { before = o.before; later = o.later ++ behind; is = is; at = o.at; first = o.first; ordered = o.ordered };
        heard = it.heard;
        alone = alone;
        whole = whole;
        supplied =
            supplied_in laws.taken.anew.own.falls laws.taken.anew.own.kept ports legacy d.old opening d.before d.at d.first d.deeds d.now d.run d.tag
            low issue
            done.is whole dev it.order (record { before = o.before; later = o.later ++ behind; is = is; alone = alone });
      })

  sent_for : (calls : List Call) → IsSentHere d dev b.cut.sooner mid b.cut.led calls f → IsSentFor d issue.dev calls f
  sent_for calls h = record { page = h.page; books = h.books; next = h.next; asked = h.asked; slots = from_slot h.asked.bytes h.slots }

  of_sectors : (calls : List Call) (o : Out) → OfHere d dev b.cut.sooner mid b.cut.led f calls o → OfItsSectors d issue.dev calls o f
  of_sectors calls (out.Data place len) h = λ at. sent_for calls (h at)
  of_sectors calls o h = tt

  came_sent : SentThen d b.cut.sooner mid f (OfHere d dev b.cut.sooner mid b.cut.led f) → SingleIsSent d issue k
  came_sent s = record {
    brought = single_is kind issue.dev d.tag k d.at d.deeds d.now d.run b;
    sooner = s.before;
    mid = s.at;
    led = s.first;
    said = s.said;
    next = s.next;
    does = s.does;
    between = s.between;
    until = s.until;
    is = s.is;
    sent = s.sent;
    for = of_sectors (calls_of d.n d.at s.before s.at s.first) s.said s.for;
  }

  pub all_sent : SingleIsSent d issue k
  all_sent =
      came_sent (taken_sent laws.taken ports legacy d opening c dev below dev_low low begins are same idle b.cut.sooner mid b.cut.led kept_then
      b.took b.cut.next b.cut.does of_conn_is kind done.kind issue.dev k is_dev b.brings)

  -- ---- its number

  -- it was written
  wrote_then : IsWrittenThen d.tag k mid f.bytes wrote b.cut.next b.cut.later
  wrote_then =
      written_then laws.brought.written ports legacy d.old opening d.before d.at d.first d.deeds d.now d.run kind issue.dev d.tag k low issue done.is
      done.does.does.free b

  byte_at : (calls : List Call) → IsNumberedHere d dev b.cut.sooner mid b.cut.led calls f wrote
      → IsSingleByte d issue.dev k calls f wrote wrote_then.byte wrote_then.command
  unfolding wrote_then sent_for
  byte_at calls h =
      let for' = sent_for calls h.for in
      let long = b.brings.whole in
      let to = b.brings.to in
      let supplied = for'.slots.supplied in
      record {
        for = for';
        number = h.number;
        given =
            sym (byte_of for'.page.ledger (drop 4 f.bytes) wrote.offset k for'.next h.number b.brings.from (omega (arith, long, to)))
            ∙ wrote_then.byte_is;
        table =
            table_is laws.brought.written ports legacy d.old opening d.before d.at d.first d.deeds d.now d.run kind issue.dev d.tag k low issue
            done.is
            done.does.does.free b for'.slots.whole.all supplied.runs supplied.source supplied.is;
      }

  of_byte : (calls : List Call) (o : Out) → OfNumber d dev b.cut.sooner mid b.cut.led f wrote calls o
      → OfSingleByte d issue.dev k calls o f wrote wrote_then.byte wrote_then.command
  of_byte calls (out.Data place len) h = λ at. byte_at calls (h at)
  of_byte calls o h = tt

  own_data : (o : Out) → IsOwnHere d dev b.cut.sooner mid b.cut.led o → IsItsData d issue.dev o
  own_data (out.Data place len) h = h
  own_data (out.Page page) h = record { bytes = h.bytes; slots = from_slot h.bytes h.slots; none = h.none }
  own_data o h = absurd h

  came_read : SentThen d b.cut.sooner mid f (OfNumber d dev b.cut.sooner mid b.cut.led f wrote) → SingleIsRead d issue k
  came_read s = record {
    brought = single_is kind issue.dev d.tag k d.at d.deeds d.now d.run b;
    written = wrote_then;
    sooner = s.before;
    mid = s.at;
    led = s.first;
    said = s.said;
    next = s.next;
    does = s.does;
    between = s.between;
    until = s.until;
    is = s.is;
    sent = s.sent;
    read = of_byte (calls_of d.n d.at s.before s.at s.first) s.said s.for;
  }

  -- and what kind of Data it is

  numbered_of : SentThen d b.cut.sooner mid f (OfOwn d dev b.cut.sooner mid b.cut.led f wrote)
      → SentThen d b.cut.sooner mid f (OfNumber d dev b.cut.sooner mid b.cut.led f wrote)
  numbered_of s = record {
    before = s.before;
    at = s.at;
    first = s.first;
    said = s.said;
    next = s.next;
    does = s.does;
    between = s.between;
    until = s.until;
    is = s.is;
    sent = s.sent;
    for = s.for.0;
  }

  came_own : SentThen d b.cut.sooner mid f (OfOwn d dev b.cut.sooner mid b.cut.led f wrote) → CameIsRead d issue k
  unfolding came_read numbered_of
  came_own s = record { came = came_read (numbered_of s); data' = own_data s.said s.for.1 }

  pub all_own : PagesGoInTurn → TransfersSendNoPage → SingleDataAreCounted
      → AllTakenWell dev d.at b.cut.sooner mid b.cut.led → NoneLost dev (calls_in d.at b.cut.sooner mid b.cut.led) → ((tag : ℕ) → tag < 32 → (host_of new_host d.base).open_at tag ≡ false)
      → AllHearSingle (calls_of d.n d.at b.cut.sooner mid b.cut.led) → CameIsRead d issue k
  all_own pages none counted taken lost shut hear =
      came_own (taken_own laws.taken ports legacy d opening c dev below dev_low low begins are same idle b.cut.sooner mid b.cut.led kept_then
      b.took b.cut.next b.cut.does of_conn_is kind done.kind issue.dev k is_dev b.brings counted taken lost shut hear pages none)
