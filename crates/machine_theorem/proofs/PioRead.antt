-- Each byte of a read that is not queued, by DMA or by PIO, and that the guest sees completed, is the one of its number that the caller gave.
use Rattle.std.proofs.Common.{◌≡◌, ◌⊎◌, ℕ, ◌<◌, Bool, true, false, List, ◌++◌, drop, inl, inr, refl, sym, ap, subst, ◌∙◌}
use Rattle.std.proofs.Common.{arith, Option, Some, None}
use Rattle.std.specs.Prelude.{IfSome, is_some}
use Rattle.fis_view.specs.{Frames.Stamped, Seen.seen}
use Rattle.guest_fetch.specs.Commands.{Fetched}
use Rattle.slots.specs.{Bytes.is_over, Slots.{Issue, holds, issue_at}}
use Rattle.hba_fbs.specs.declared.report.Wrote.{Wrote}
use Rattle.ahci_controller.specs.States.{kept}
use Rattle.controller_laws.specs.{Carrying.IsOwnData, Events.{Event, Takes}, Sources.{Source, command_of, no_sources, unmoved}}
use Rattle.sata_disk.specs.{State.new_disk, declared.out.Out.Out}
use Rattle.sata_disk.specs.declared.out.Out.TheVariants as out
use Rattle.sata_disk_laws.specs.{Calls.{AreCalls, Call}, Laws.reached, Once.{host_of, new_host}}
use Rattle.ahci_machine.specs.States.{IsOpeningMachine}
use Rattle.ahci_machine.specs.declared.act.Act.TheVariants as act
use Rattle.machine_laws.specs.{ControllerLaws.{OpensSo, calls_in}, Controllers.{GathersDue, deed_calls}, Deeds.Moved, Falling.{AllLast, HasLink}}
use Rattle.machine_theorem.specs.{Brought.{AllTakenWell, DiskStretch}, Completed.IsEndedInHistory, Ending.carries, Given.IsWhole, Identity.calls_of}
use Rattle.machine_theorem.specs.{InTurn.{AreKeptOn, IsIdle, is_answering}, OwnPages.{PagesGoInTurn, TransfersSendNoPage}, OwnSlots.AllKeepLine}
use Rattle.machine_theorem.specs.{OwnSlots.{NoneLost, is_of}, PioIn.AllKeepUnqueued, PioReads.{CameIsRead, IsItsData, IsLastByte, IsOfNoSectors, LastIsRead}}
use Rattle.machine_theorem.specs.{PioReads.{OfLastByte, UnqueuedReadsAreRead}, SingleBytes.IsSentFor, SingleNumbers.{AllHearSingle, SendsSingle}}
use Rattle.machine_theorem.specs.{SingleNumbers.SingleDataAreCounted, SingleReads.{ComesLast, IsSingleDone, is_sent_read}, Singles.BeginsIdle}
use Rattle.machine_theorem.specs.{Tags.once_if, Waits.waits_in}
use Rattle.machine_theorem.proofs.{Anew.{Keeps, Start}, BeginsFree.was_free, Brought.read_from, BroughtAt.Brought, BroughtRead.byte_of, CameRead.all_own}
use Rattle.machine_theorem.proofs.{EndedByData.data_ends, Falls.kept_of, HostShut.host_both, Ordered.first_ruled, Own.last_ruled}
use Rattle.machine_theorem.proofs.{SingleNumbers.{IsShut, calls_shut}, SinglesBrought.{by_event, came as came_before, not_queued}}
use Rattle.machine_theorem.proofs.{SinglesSent.{hears_single, none_cut, none_sent}, Stretch.whole_run, TakenRead.{IsNumberedHere, IsOwnHere, OfNumber}}
use Rattle.machine_theorem.proofs.TakenRead.{OfOwn, SentThen, hear_first, taken_own}
use Rattle.machine_theorem.proofs.CameRead as came
use Rattle.machine_theorem.proofs.Falls as falls

some_is : (o : Option Fetched) → is_some o ≡ true → (f : Fetched) × (o ≡ Some f)
some_is None e = absurd (cc)
some_is (Some f) e = (f, refl)

module _ (laws : came.Laws) (pages : PagesGoInTurn) (no_page : TransfersSendNoPage) (counted : SingleDataAreCounted) (ports : ℕ) (legacy : Bool)
    (d : DiskStretch) (opening : IsOpeningMachine ports legacy d.old) (c dev : ℕ) (below : d.n < 15) (dev_low : dev < 16) (low : d.tag < 32)
    (begins : BeginsIdle d.n c d.at) (are : AreCalls (new_disk d.p d.limit) d.base) (same : begins.disk ≡ reached d.p d.limit d.base)
    (idle : IsIdle (host_of new_host d.base)) (linked : HasLink d.deeds) (lasts : AllLast d.n d.at d.deeds d.now d.run)
    (line : AllKeepLine d.many d.n c dev d.at d.deeds d.now d.run) (on : AreKeptOn (calls_of d.n d.at d.deeds d.now d.run))
    (keeps : AllKeepUnqueued d.many d.n dev d.at d.deeds d.now d.run) (taken : AllTakenWell dev d.at d.deeds d.now d.run)
    (lost : NoneLost dev (calls_in d.at d.deeds d.now d.run)) (sends : SendsSingle d) (issue : Issue) (done : IsSingleDone d.now d.tag issue)
    (of_it : is_of d.n c done.does.does.frame ≡ true) (is_dev : issue.dev ≡ dev) (k : ℕ) (small : k < issue.work.len) where
  abbrev facts : falls.Laws
  facts = laws.taken.anew.own.falls

  due : GathersDue d.at
  due = (facts.runs d.old d.before d.at d.first (facts.opens ports legacy d.old opening (first_ruled d.before d.old d.at d.first)).due).due

  hear : AllHearSingle (calls_of d.n d.at d.deeds d.now d.run)
  hear = hears_single laws.taken.anew.own.falling d c dev due begins linked lasts line sends

  abbrev kept_to : Keeps d.many d.n c dev d.at d.deeds d.now d.run
  kept_to = record { linked = linked; lasts = lasts; line = line; on = on; unqueued = keeps }

  -- no slot of the device waited as the stretch began
  abbrev start : Start
  start = record {
    ports = ports;
    legacy = legacy;
    d = d;
    opening = opening;
    c = c;
    dev = dev;
    below = below;
    dev_low = dev_low;
    low = low;
    begins = begins;
    are = are;
    same = same;
    idle = idle;
  }

  abbrev end : Stamped
  end = done.does.does.frame

  carries_end : is_answering end.bytes ≡ false → carries (seen end.bytes) ≡ true
  carries_end other =
      let whole : IsWhole d.old d.before d.at d.first d.deeds d.now d.run = whole_run d.before d.old d.at d.first d.deeds d.now d.run in
      let ended : IsEndedInHistory d.now.controller end.bytes d.tag =
      (laws.taken.anew.own.completed ports legacy d.old opening (d.before ++ d.deeds) d.now whole.all done.took done.new done.does done.rules d.tag low
      done.shows done.hides done.free).ended in
      (data_ends d.tag low d.now.controller (kept_of facts d.now (last_ruled d.deeds d.at d.now d.run)) end.bytes ended issue done.is
      (not_queued issue.work.kind done.kind) other).data'

  free : once_if (waits_in dev d.at.controller) ≡ 0
  free = by (waits_in dev d.at.controller) refl
    where
      by : (q : Bool) → waits_in dev d.at.controller ≡ q → once_if q ≡ 0
      by true waits =
          absurd (was_free laws.taken pages start sends.begins d.deeds d.now d.run kept_to hear done.took done.new done.does of_it carries_end waits)
      by false free = refl

  none : holds (is_sent_read issue.dev) (issue_at d.at.controller.core.slots d.tag) ≡ false
  none =
      none_sent d.tag low issue.dev d.at.controller (kept_of facts d.at (first_ruled d.deeds d.at d.now d.run))
      (ap (λ (j : ℕ). once_if (waits_in j d.at.controller)) is_dev ∙ free)

  -- ---- it was brought before

  before : is_over issue.over k ≡ true → CameIsRead d issue k
  before over =
      let b : Brought issue.work.kind issue.dev d.tag k d.at d.deeds d.now d.run =
      came_before laws.brought ports legacy d.old opening d.before d.at d.first d.deeds d.now d.run d.tag low issue done none k small over in
      let cut = b.cut in
      let since : List Event = deed_calls cut.mid (Moved (act.Takes b.took)) cut.next cut.does ++ calls_in cut.next cut.later d.now cut.rest in
      all_own laws ports legacy d opening c dev below dev_low low begins are same idle linked lasts line on keeps issue done is_dev k b pages
      no_page counted (cut.taken dev taken).0
      (none_cut dev (calls_in d.at d.deeds d.now d.run) (calls_in d.at cut.sooner cut.mid cut.led) since cut.events lost) sends.begins
      (hear_first _ _ (subst AllHearSingle (cut.own d.n) hear))

  -- ---- the last Data bring it

  module _ (last : ComesLast d.tag k d.now issue done) where
    abbrev f : Stamped
    f = done.does.does.frame

    abbrev wrote : Wrote
    wrote = last.brings.wrote

    -- the table by which it is taken
    record HasTable (source : Source) : Type 0 where
      command : Fetched
      has : kept d.now.controller d.tag ≡ Some command
      table : command_of source ≡ Some (unmoved command)

    has_table : (calls : List Call) (it : IsSentFor d dev calls f) → HasTable it.slots.supplied.source
    has_table calls it =
        let supplied = it.slots.supplied in
        let opens : OpensSo d.old = facts.opens ports legacy d.old opening (first_ruled d.before d.old d.at d.first) in
        let are =
        (facts.have d.old (d.before ++ d.deeds) d.now it.slots.whole.all supplied.runs).supplied d.tag low no_sources (opens.sources d.tag low) in
        let h = done.does.does in
        let takes : Takes d.now.controller f.bytes done.took done.does.middle.controller =
        record { framed = h.framed; free = h.free; hears = h.hears } in
        let own : IsOwnData d.now.controller f.bytes wrote =
        subst (λ (o : Option Wrote). IfSome o (IsOwnData d.now.controller f.bytes)) last.brings.brought
        (laws.brought.written.own d.now.controller done.does.middle.controller f.bytes done.took
        (kept_of facts d.now (last_ruled d.deeds d.at d.now d.run)) takes) in
        let g = some_is (kept d.now.controller wrote.slot) own.command in
        let has : kept d.now.controller d.tag ≡ Some g.0 = ap (kept d.now.controller) (sym last.brings.slot_is) ∙ g.1 in
        record { command = g.0; has = has; table = read_from _ (kept d.now.controller d.tag) supplied.source g.0 are.issued supplied.is has }

    last_at : (calls : List Call) → IsNumberedHere d dev d.deeds d.now d.run calls f wrote → IsLastByte d issue.dev k calls f wrote
    last_at calls h =
        let it : IsSentFor d dev calls f =
        record { page = h.for.page; books = h.for.books; next = h.for.next; asked = h.for.asked; slots = h.for.slots } in
        let t = has_table calls it in
        let long = last.brings.whole in
        let to = last.brings.to in
        subst (λ (j : ℕ). IsLastByte d j k calls f wrote) (sym is_dev) (record {
          for = it;
          number = h.number;
          given = byte_of h.for.page.ledger (drop 4 f.bytes) wrote.offset k h.for.next h.number last.brings.from (omega (arith, long, to));
          command = t.command;
          has = t.has;
          table = t.table;
        })

    of_last : (calls : List Call) (o : Out) → OfNumber d dev d.deeds d.now d.run f wrote calls o → OfLastByte d issue.dev k calls o f wrote
    of_last calls (out.Data place len) h = λ at. last_at calls (h at)
    of_last calls o h = tt

    own_data : (o : Out) → IsOwnHere d dev d.deeds d.now d.run o → IsItsData d issue.dev o
    own_data (out.Data place len) h = h
    own_data (out.Page page) h = subst (IsOfNoSectors d) (sym is_dev) (record { bytes = h.bytes; slots = h.slots; none = h.none })
    own_data o h = absurd h

    shut_now : IsShut (host_of new_host (d.base ++ calls_of d.n d.at d.deeds d.now d.run))
    shut_now =
        subst IsShut (sym (host_both d.base (calls_of d.n d.at d.deeds d.now d.run) new_host))
        (calls_shut (calls_of d.n d.at d.deeds d.now d.run) (host_of new_host d.base) hear sends.begins)

    last_read : SentThen d d.deeds d.now f (OfOwn d dev d.deeds d.now d.run f wrote) → LastIsRead d issue done k
    last_read s = record {
      comes = last;
      sooner = s.before;
      mid = s.at;
      led = s.first;
      said = s.said;
      next = s.next;
      does = s.does;
      between = s.between;
      until = s.until;
      is = s.is;
      sent = s.sent;
      read = of_last (calls_of d.n d.at s.before s.at s.first) s.said s.for.0;
      data' = own_data s.said s.for.1;
      shut = shut_now;
    }

    comes_read : LastIsRead d issue done k
    comes_read =
        last_read (taken_own laws.taken ports legacy d opening c dev below dev_low low begins are same idle d.deeds d.now d.run kept_to
        done.took done.new done.does of_it issue.work.kind done.kind issue.dev k is_dev last.brings counted taken lost sends.begins hear pages no_page)

  pub read : CameIsRead d issue k ⊎ LastIsRead d issue done k
  read = elim (by_event laws.brought ports legacy d.old opening d.before d.at d.first d.deeds d.now d.run d.tag low issue done none k small) [
    | inl last ↦ inr (comes_read last)
    | inr over ↦ inl (before over)
  ]

-- ---- the law

pub unqueued_reads_are_read : came.Laws → PagesGoInTurn → TransfersSendNoPage → SingleDataAreCounted → UnqueuedReadsAreRead
unqueued_reads_are_read laws pages no_page counted ports legacy d opening c dev below dev_low low begins are same idle linked lasts line on keeps
    taken lost sends issue done of_it is_dev k small =
    read laws pages no_page counted ports legacy d opening c dev below dev_low low begins are same idle linked lasts line on keeps taken lost sends
    issue done of_it is_dev k small
