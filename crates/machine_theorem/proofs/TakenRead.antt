-- A FIS is taken behind a stretch, and brings bytes for a slot with a read that is not queued: the disk sent it for the command of the slot, and its
-- first byte has the number of those that it had sent before.
use Rattle.std.proofs.Common.{◌≡◌, ℕ, ◌+◌, ◌<◌, ◌≤◌, Bool, true, false, List, [], ◌∷◌, ◌++◌, append_assoc, drop, length, refl, sym, ap}
use Rattle.std.proofs.{Common.{subst, ◌∙◌, arith, Option, Some}, lemmas.Bool.{false≢true}}
use Rattle.std.specs.Prelude.{IfSome}
use Rattle.fis_view.specs.{Frames.Stamped, Seen.seen}
use Rattle.multiplier.specs.Passing.{of_conn}
use Rattle.slots.specs.{Slots.{Issue, context_of, is_pio, is_queued_issue, is_waiting, issue_at, match_some, own_issue, slots_of}, Work.is_queued}
use Rattle.slots.specs.declared.work.Kind.{Kind, TheVariants.{DmaIn, PioIn}}
use Rattle.hba_fbs.specs.{Taking.port_of, Views.view_of, declared.report.Wrote.Wrote}
use Rattle.hba_laws.specs.{Agreement.IsTold, History.{Carried, Event as HistoryEvent, History}}
use Rattle.ahci_controller.specs.{States.ControllerState, Taking.{is_overflow, room_for}, declared.taking.Took.Took}
use Rattle.ahci_controller.specs.declared.next.Next.TheVariants as next_step
use Rattle.controller_laws.specs.Events as call
use Rattle.controller_laws.specs.Events.{Does as Calls, Event, IsController, Runs, Takes}
use Rattle.block_disk.specs.Laws.{Page}
use Rattle.block_queue.specs.Line.{command_at}
use Rattle.ata_front.specs.declared.task.Page as own_page
use Rattle.sata_disk.specs.{Sending.{IsOut, part_at}, State.{commands, new_disk}, declared.out.Out.Out}
use Rattle.sata_disk.specs.declared.out.Out.TheVariants as out
use Rattle.sata_disk_books.specs.{Books.{AreNext, DataAreGiven, IsAskedFor, page_in}, Counted.Counted, Fises.FisesTell}
use Rattle.sata_disk_laws.specs.{Calls.{AreCalls, Call, Hears, Sends}, Laws.reached, Once.{IsOutDue, host_of, new_host}}
use Rattle.sata_disk_laws.proofs.Door.{calls_both as more_calls}
use Rattle.ahci_machine.specs.States.{IsOpeningMachine, MachineState, bay_at}
use Rattle.ahci_machine.specs.declared.act.Act.TheVariants as act
use Rattle.machine_laws.specs.{ControllerLaws.{RunsRuled, calls_in}, Controllers.deed_calls, Deeds.{Deed, Does, Moved}}
use Rattle.machine_laws.specs.Rising.{AreLinked, DataCarryParts, Frames, bytes_of, frames_of, no_frames, risen, sent_by}
use Rattle.machine_theorem.specs.{Brought.{AllTakenWell, DiskStretch}, Ending.{AllUnqueued, HasNoQueued, carries}, Following.{AllHeardWell, told_calls}}
use Rattle.machine_theorem.specs.{Identity.{calls_of, picks}, InTurn.{AreKeptOn, CommandsGoInTurn, IsIdle, IsInTurn, IsUnanswered, answered_in}}
use Rattle.machine_theorem.specs.{InTurn.{heard_in, is_asking}, OwnPages.{PagesGoInTurn, TransfersSendNoPage}, OwnSlots.{AreOne, NoneLost, is_of}}
use Rattle.machine_theorem.specs.{Settled.is_data, SingleBytes.SingleDataGoInTurn, SingleNumbers.{AllHearSingle, SingleDataAreCounted, since_after}}
use Rattle.machine_theorem.specs.{SingleNumbers.since_calls, SingleReads.{BringsFor, is_single_read}, Singles.{BeginsIdle, IsFromSlot}, Tags.once_if}
use Rattle.machine_theorem.specs.{Transfers.is_transferring, Waits.{AllKeepWaiting, commanded_in, is_commanded, taken_in, waits_in}}
use Rattle.machine_theorem.proofs.{Anew.{Anew, Keeps, Start, begins_anew, kept_last, stretch, told_first, waits_to}, Answered.heard_both}
use Rattle.machine_theorem.proofs.{Cut.{Cut, last_of as last_deed, total}, EndedByData.says_data, EndsFew.sent_of, Falls.{Told, kept_of, told_after}}
use Rattle.machine_theorem.proofs.{FallsFew.came_of, Few.{AreFew, are_few}, FilledFrames.{brought_is, wrote_fits}, FisEvents.{IsNoData, fis_plain}}
use Rattle.machine_theorem.proofs.{Given.{HasNext, has_next}, HostShut.host_both, Ordered.first_ruled, Own.last_ruled, OwnPlace.{Found, came_one}}
use Rattle.machine_theorem.proofs.OwnPlace.{frames_are, head_or, linked as linked_by, part_of}
use Rattle.machine_theorem.proofs.PioOwn.{Counts, IsSpoken, IsThen, Stretch, all_calls, behind, came, counts, found_of, is_last, is_then, on_then}
use Rattle.machine_theorem.proofs.{PioOwn.{commanded, once_most, spoken}, PioNumbers.pio_since, RegistersSent.{answers_by, answers_few, taken_few}}
use Rattle.machine_theorem.proofs.{SentFises.{GoneOn, stretch_made}, SetupCalls.hears_event, Shutting.{told_then, waits_back}}
use Rattle.machine_theorem.proofs.{SingleFollows.follows, SingleNumbers.{IsShut, calls_shut, data_place}, SingleSince.{call_first, calls_both}}
use Rattle.machine_theorem.proofs.{SingleSince.{calls_since, own_since, since_free, since_own, since_told}, SinglesOwn.{issue_is, kept_behind, kept_first}}
use Rattle.machine_theorem.proofs.{SinglesOwn.{mine, sent_waits, set_up_sent}, TagCounts.{due_at, first_calls}, Waiting.{commanded_free, first_kept}}
use Rattle.machine_theorem.proofs.WaitingRun.{WaitingRun, sends_by, sends_to, waiting_run}
use Rattle.machine_theorem.proofs.Anew as anew
use Rattle.machine_theorem.proofs.PioOwn as own
use Rattle.machine_theorem.proofs.SetupCalls as setup
use Rattle.machine_theorem.proofs.Waiting as waiting

pub record Laws : Type 0 where
  pub anew : anew.Laws
  pub answers : CommandsGoInTurn
  pub setup : setup.Laws
  pub turn : SingleDataGoInTurn
  pub tell : FisesTell
  pub given : DataAreGiven
  pub parts : DataCarryParts

not_true : (b : Bool) → (b ≡ true → ⊥) → b ≡ false
not_true true off = absurd (off refl)
not_true false off = refl

none_if : (b : Bool) → once_if b ≡ 0 → b ≡ false
none_if true e = absurd (cc)
none_if false e = refl

none_once : (b : Bool) (m : ℕ) → once_if b + m ≡ 0 → (b ≡ false) × (m ≡ 0)
none_once true m e = absurd (omega (arith, e))
none_once false m e = (refl, omega (arith, e))

plain_of : (r : Kind) → is_single_read r ≡ true → is_queued r ≡ false
plain_of DmaIn single = refl
plain_of PioIn single = refl
plain_of other single = absurd (cc)

-- from its command on as many bytes of Data were taken as the number of the first byte says
module _ (laws : setup.Laws) (dev : ℕ) (dev_low : dev < 16) (slot : ℕ) (at : ControllerState) (to : ℕ) (fis : List ℕ) (later : List Event)
    (now after : ControllerState) (rest : Runs at (call.Turned (next_step.Order to slot fis) ∷ later) now)
    (plains : AllUnqueued dev at (call.Turned (next_step.Order to slot fis) ∷ later) now rest)
    (is : is_commanded dev at (call.Turned (next_step.Order to slot fis)) ≡ true) (free : waits_in dev at ≡ false) (past : History)
    (told : IsTold (view_of dev at.core) past) (well : AllHeardWell dev rest.1.0 later now rest.1.2)
    (none : commanded_in dev rest.1.0 later now rest.1.2 ≡ 0) (untaken : taken_in dev later ≡ 0) (frame : List ℕ) (took : Took)
    (takes : Takes now frame took after) (own : port_of frame ≡ dev) (calm : is_overflow took.report.fault ≡ false) (wrote : Wrote)
    (brought : took.brought ≡ Some wrote) (issue : Issue) (there : issue_at now.core.slots wrote.slot ≡ Some issue)
    (mine : own_issue (slots_of dev now.core.slots) wrote.slot ≡ Some issue) (waits : is_waiting issue ≡ true) where
  since_offset : (r : Kind) → is_single_read r ≡ true → issue.work.kind ≡ r → since_calls dev 0 later ≡ wrote.offset
  since_offset DmaIn single kind =
      let follow : told_calls dev (Some (record { tag = slot; count = 0 })) later ≡ Some (record { tag = wrote.slot; count = wrote.offset }) =
      follows laws dev dev_low slot at to fis later now after rest plains.0 free past told well none frame took takes own calm wrote brought issue
      there kind in
      let says : told_calls dev (Some (record { tag = slot; count = 0 })) later ≡ Some (record { tag = slot; count = since_calls dev 0 later }) =
      since_told dev slot later rest.1.0 now rest.1.2 well plains.2 untaken 0 in
      ap (λ (o : Option Counted). match_some o 0 (λ y. y.count)) (sym says ∙ follow)
  since_offset PioIn single kind =
      pio_since laws dev dev_low slot at to fis later now after rest plains is past told well none untaken frame took takes own calm wrote brought
      issue mine waits
      (ap is_pio kind)
  since_offset other single kind = absurd (cc)

-- ---- what is shown

-- The books of the disk had the command behind these calls, and the bytes are the next ones of its sectors. Its FIS went from the slot.
pub record IsSentHere (d : DiskStretch) (dev : ℕ) (sooner : List Deed) (mid : MachineState) (led : RunsRuled d.at sooner mid) (calls : List Call)
    (f : Stamped) : Type 0 where
  pub page : Page
  pub books : page_in d.p d.limit (d.base ++ calls) 32 ≡ Some page
  pub next : AreNext page.ledger (drop 4 f.bytes)
  pub asked : IsAskedFor d.p d.limit (d.base ++ calls) page.command
  pub slots : IsFromSlot dev d.tag d.old d.before d.at d.first sooner mid led asked.bytes

abbrev pub OfHere : (d : DiskStretch) → (dev : ℕ) → (sooner : List Deed) → (mid : MachineState) → RunsRuled d.at sooner mid → Stamped → List Call
    → Out → Type 0
OfHere d dev sooner mid led f calls (out.Data place len) = place ≡ 32 → IsSentHere d dev sooner mid led calls f
OfHere d dev sooner mid led f calls other = Unit {0}

-- and its first byte has the number of those that were sent before
pub record IsNumberedHere (d : DiskStretch) (dev : ℕ) (sooner : List Deed) (mid : MachineState) (led : RunsRuled d.at sooner mid) (calls : List Call)
    (f : Stamped) (wrote : Wrote) : Type 0 where
  pub for : IsSentHere d dev sooner mid led calls f
  pub number : wrote.offset ≡ length for.page.ledger.sent

abbrev pub OfNumber : (d : DiskStretch) → (dev : ℕ) → (sooner : List Deed) → (mid : MachineState) → RunsRuled d.at sooner mid → Stamped → Wrote
    → List Call → Out → Type 0
OfNumber d dev sooner mid led f wrote calls (out.Data place len) = place ≡ 32 → IsNumberedHere d dev sooner mid led calls f wrote
OfNumber d dev sooner mid led f wrote calls other = Unit {0}

-- the command of the slot moves no sectors
pub record IsPageHere (d : DiskStretch) (dev : ℕ) (sooner : List Deed) (mid : MachineState) (led : RunsRuled d.at sooner mid) : Type 0 where
  pub bytes : List ℕ
  pub slots : IsFromSlot dev d.tag d.old d.before d.at d.first sooner mid led bytes
  pub none : is_transferring bytes ≡ false

abbrev pub IsOwnHere : (d : DiskStretch) → (dev : ℕ) → (sooner : List Deed) → (mid : MachineState) → RunsRuled d.at sooner mid → Out → Type 0
IsOwnHere d dev sooner mid led (out.Data place len) = place ≡ 32
IsOwnHere d dev sooner mid led (out.Page page) = IsPageHere d dev sooner mid led
IsOwnHere d dev sooner mid led other = ⊥

abbrev pub OfOwn : (d : DiskStretch) → (dev : ℕ) → (sooner : List Deed) → (mid : MachineState) → RunsRuled d.at sooner mid → Stamped → Wrote
    → List Call → Out → Type 0
OfOwn d dev sooner mid led f wrote calls o = OfNumber d dev sooner mid led f wrote calls o × IsOwnHere d dev sooner mid led o

-- the disk at the port sent the FIS at a moment of the stretch, behind these calls
pub record SentThen (d : DiskStretch) (sooner : List Deed) (mid : MachineState) (f : Stamped) (P : List Call → Out → Type 0) : Type 0 where
  pub before : List Deed
  pub at : MachineState
  pub first : RunsRuled d.at before at
  pub said : Out
  pub next : MachineState
  pub does : Does at (Moved (act.Speaks d.n said)) next
  pub between : List Deed
  pub until : RunsRuled next between mid
  pub is : sooner ≡ before ++ Moved (act.Speaks d.n said) ∷ between
  pub sent : sent_by at (Moved (act.Speaks d.n said)) next does ≡ f ∷ []
  pub for : P (calls_of d.n d.at before at first) said

pub hear_first : (xs ys : List Call) → AllHearSingle (xs ++ ys) → AllHearSingle xs
hear_first [] ys single = tt
hear_first (x ∷ xs) ys single = (single.0, hear_first xs ys single.1)

-- ---- the deed by which a command goes

-- it is one call, by which the command goes
record IsOrder (dev : ℕ) (l : List Event) (old new : ControllerState) : Type 0 where
  to : ℕ
  slot : ℕ
  fis : List ℕ
  is : l ≡ call.Turned (next_step.Order to slot fis) ∷ []
  commanded : is_commanded dev old (call.Turned (next_step.Order to slot fis)) ≡ true
  does : Calls old (call.Turned (next_step.Order to slot fis)) new
  kept : IsController old
  plain : HasNoQueued dev old

some_true : (b : Bool) → 1 ≤ once_if b → b ≡ true
some_true true some = refl
some_true false some = absurd (omega (arith, some))

one_order : (dev : ℕ) (e : Event) (old new : ControllerState) (run : Runs old (e ∷ []) new) → AllUnqueued dev old (e ∷ []) new run → is_commanded dev old e ≡ true
    → IsOrder dev (e ∷ []) old new
one_order dev (call.Turned (next_step.Order to slot fis)) old new run plain is = record {
  to = to;
  slot = slot;
  fis = fis;
  is = refl;
  commanded = is;
  does = subst (Calls old (call.Turned (next_step.Order to slot fis))) (sym run.1.2.1) run.1.1;
  kept = run.0;
  plain = plain.0;
}
one_order dev other old new run plain is = absurd (false≢true is)

is_order : (dev : ℕ) (l : List Event) → AreFew l → (old new : ControllerState) (run : Runs old l new) → AllUnqueued dev old l new run → 1 ≤ sends_by dev old l
    → IsOrder dev l old new
is_order dev [] few old new run plain some = absurd (omega (arith, some))
is_order dev (e ∷ []) few old new run plain some = one_order dev e old new run plain (some_true (is_commanded dev old e) some)
is_order dev (e ∷ f ∷ later) few old new run plain some = absurd few

-- while no slot waits, and no command goes, none waits
idle_keeps : (laws : waiting.Laws) (n : ℕ) (below : n < 16) (events : List Event) (old now : ControllerState) (run : Runs old events now)
    → commanded_in n old events now run ≡ 0 → (past : History) → IsTold (view_of n old.core) past → waits_in n old ≡ false → AllKeepWaiting n old events now run
idle_keeps laws n below [] old now run none past told free = tt
idle_keeps laws n below (e ∷ later) old now run none past told free =
    let mid : ControllerState = run.1.0 in
    let l : IsController mid = first_kept later mid now run.1.2 in
    let both = none_once (is_commanded n old e) (commanded_in n mid later now run.1.2) none in
    let free_mid : waits_in n mid ≡ false =
    not_true (waits_in n mid) (λ waits. false≢true (sym free ∙ waits_back laws n below e old mid run.0 l run.1.1 past told both.0 waits)) in (
      λ answered waits. absurd (false≢true (sym free ∙ waits)),
      idle_keeps laws n below later mid now run.1.2 both.1 _ (told_then laws n below e old mid run.0 l run.1.1 past told) free_mid,
    )

taken_both : (dev : ℕ) (xs ys : List Event) → taken_in dev (xs ++ ys) ≡ taken_in dev xs + taken_in dev ys
taken_both dev [] ys = omega arith
taken_both dev (x ∷ xs) ys = let rest = taken_both dev xs ys in omega (arith, rest)

hear_last : (xs ys : List Call) → AllHearSingle (xs ++ ys) → AllHearSingle ys
hear_last [] ys single = single
hear_last (x ∷ xs) ys single = hear_last xs ys single.1

-- ---- the FIS

module _ (laws : Laws) (ports : ℕ) (legacy : Bool) (d : DiskStretch) (opening : IsOpeningMachine ports legacy d.old) (c dev : ℕ) (below : d.n < 15)
    (dev_low : dev < 16) (low : d.tag < 32) (begins : BeginsIdle d.n c d.at) (are : AreCalls (new_disk d.p d.limit) d.base)
    (same : begins.disk ≡ reached d.p d.limit d.base) (idle : IsIdle (host_of new_host d.base)) (sooner : List Deed) (mid : MachineState)
    (led : RunsRuled d.at sooner mid) (k : Keeps d.many d.n c dev d.at sooner mid led) (took : Took) (next : MachineState)
    (does : Does mid (Moved (act.Takes took)) next) (of_conn_is : is_of d.n c does.does.frame ≡ true) (kind : Kind) (single : is_single_read kind ≡ true)
    (owner num : ℕ) (is_dev : owner ≡ dev) (brings : BringsFor kind owner d.tag num mid.controller does.does.frame.bytes took) where
  abbrev pio : own.Laws
  pio = laws.anew.own

  abbrev b : Start
  b = record {
    ports = ports;
    legacy = legacy;
    d = d;
    opening = opening;
    c = c;
    dev = dev;
    below = below;
    dev_low = dev_low;
    low = low;
    begins = begins;
    are = are;
    same = same;
    idle = idle;
  }

  abbrev taking : Stretch
  taking = stretch laws.anew b sooner mid led k

  abbrev f : Stamped
  f = does.does.frame

  abbrev wrote : Wrote
  wrote = brings.wrote

  i_dev : brings.issue.dev ≡ dev
  i_dev = brings.dev ∙ is_dev

  own_is : port_of f.bytes ≡ dev
  own_is = brings.own ∙ is_dev

  kept_mid : IsController mid.controller
  kept_mid = kept_of pio.falls mid (last_ruled sooner d.at mid led)

  takes : Takes mid.controller f.bytes took does.middle.controller
  takes = let h = does.does in record { framed = h.framed; free = h.free; hears = h.hears }

  i_plain : is_queued_issue brings.issue ≡ false
  i_plain = ap is_queued brings.kind_is ∙ plain_of kind single

  -- the slot waits
  i_waits : is_waiting brings.issue ≡ true
  i_waits =
      let is = sym (brought_is mid.controller does.middle.controller f.bytes took takes brings.calm) ∙ brings.brought in
      let next' = (wrote_fits mid.controller does.middle.controller f.bytes took takes wrote is).fits.next in
      let set = ap (context_of mid.controller.core.slots) (brings.dev ∙ sym brings.own) ∙ next'.is in
      sent_waits brings.issue (issue_is d.tag low mid.controller kept_mid brings.issue brings.is i_plain) i_plain
      (set_up_sent d.tag low mid.controller kept_mid brings.issue brings.is i_plain next'.context set (sym next'.slot ∙ brings.slot_is))

  -- ---- it was sent

  found : Found d.many d.n c dev d.at sooner mid led (of_conn d.n c (came taking)) f
  found = found_of pio taking took next does of_conn_is

  abbrev pre : List Stamped
  pre = of_conn d.n c (came taking)

  spoke : IsSpoken pio taking f of_conn_is pre found found.deed
  spoke = spoken pio taking f of_conn_is pre found found.deed found.cut.does found.line found.sent

  abbrev then_calls : List Call
  then_calls = calls_of d.n d.at found.cut.sooner found.cut.mid found.cut.led

  abbrev IsSent : Out → Type 0
  IsSent o = (does : Does found.cut.mid (Moved (act.Speaks d.n o)) found.cut.next) → sent_by found.cut.mid (Moved (act.Speaks d.n o)) found.cut.next does ≡ f ∷ []
      → OfHere d dev sooner mid led f then_calls o

  -- the disk there
  then_at : (o : Out) (does : Does found.cut.mid (Moved (act.Speaks d.n o)) found.cut.next)
      → sent_by found.cut.mid (Moved (act.Speaks d.n o)) found.cut.next does ≡ f ∷ [] → IsThen pio taking f of_conn_is pre found o
  then_at o does sent = is_then pio taking f of_conn_is pre found d.n o does sent

  -- ---- where its calls begin anew

  an : Anew laws.anew b sooner mid led k f found
  an = begins_anew laws.anew b sooner mid led k f found

  abbrev base : List Call
  base = d.base ++ an.front

  abbrev since : List Call
  since = calls_of d.n an.there_at an.there_deeds found.cut.mid an.there_run

  all_is : base ++ since ≡ d.base ++ then_calls
  all_is = append_assoc d.base an.front since ∙ ap (λ (l : List Call). d.base ++ l) (sym an.split)

  w1 : WaitingRun d.many d.n dev an.from an.later mid an.rest
  w1 = waiting_run laws.anew.goes laws.anew.stays d.many d.n dev an.later an.from mid an.rest an.due_now an.unqueued

  -- one command at most went since
  most_one : total (sends_to dev) an.from an.later mid an.rest + once_if (waits_in dev an.from.controller) ≤ 1
  most_one =
      let few = w1.few in
      let none = an.none in
      let one = once_most (waits_in dev mid.controller) in
      omega (arith, few, none, one)

  on_since : AreKeptOn since
  on_since = kept_last an.front since (subst AreKeptOn an.split (on_then pio taking f of_conn_is pre found))

  are_since : (o : Out) → IsThen pio taking f of_conn_is pre found o → AreCalls (new_disk d.p d.limit) (base ++ since)
  are_since o it = subst (AreCalls (new_disk d.p d.limit)) (sym all_is) it.whole

  says_since : (o : Out) → IsThen pio taking f of_conn_is pre found o → IsOut (reached d.p d.limit (base ++ since)) (Some o)
  says_since o it = subst (λ (l : List Call). IsOut (reached d.p d.limit l) (Some o)) (sym all_is) it.says

  -- a command that was heard since is the last one that went before the FIS was taken
  record IsLastOf (bytes : List ℕ) (front later : List Call) : Type 0 where
    none : heard_in later ≡ 0
    first : heard_in front ≡ 0
    one : heard_in since ≡ 1
    went : 1 ≤ total (sends_to dev) an.from an.later mid an.rest
    slots : IsFromSlot dev d.tag d.old d.before d.at d.first sooner mid led bytes

  last_of : (bytes : List ℕ) (front later : List Call) → since ≡ front ++ Hears bytes ∷ later → is_asking bytes ≡ true → IsLastOf bytes front later
  last_of bytes front later split asks =
      let all : then_calls ≡ (an.front ++ front) ++ Hears bytes ∷ later =
      an.split ∙ ap (λ (l : List Call). an.front ++ l) split ∙ sym (append_assoc an.front front (Hears bytes ∷ later)) in
      let counts_it : commanded taking ≤ heard_in an.front + total (sends_to dev) an.from an.later mid an.rest = an.counts in
      let most = most_one in
      let before = heard_both an.front front in
      let it = is_last pio taking f of_conn_is pre found brings.issue brings.is i_dev i_waits refl
      (record { front = an.front ++ front; bytes = bytes; later = later; split = all; asks = asks; most = omega (arith, counts_it, most, before) }) in
      let q : Counts taking = counts pio taking in
      let heard = q.heard in
      let asked = q.asked in
      let whole = ap heard_in (all_calls pio taking f of_conn_is pre found) ∙ heard_both then_calls (behind pio taking f of_conn_is pre found) in
      let until = ap heard_in an.split ∙ heard_both an.front since in
      let sum : heard_in since ≡ heard_in front + (once_if (is_asking bytes) + heard_in later) = ap heard_in split
      ∙ heard_both front (Hears bytes ∷ later) in
      let one : once_if (is_asking bytes) ≡ 1 = ap once_if asks in
      let none = it.none in
      record {
        none = none;
        first = omega (arith, counts_it, most, heard, asked, whole, until, sum, one);
        one = omega (arith, counts_it, most, heard, asked, whole, until, sum, one);
        went = omega (arith, counts_it, heard, asked, whole, until, sum, one);
        slots = it.slots;
      }

  -- ---- Data of a command that moves sectors

  abbrev IsSaid : (len : ℕ) → Does found.cut.mid (Moved (act.Speaks d.n (out.Data 32 len))) found.cut.next → Type 0
  IsSaid len does = sent_by found.cut.mid (Moved (act.Speaks d.n (out.Data 32 len))) found.cut.next does ≡ f ∷ []

  -- what is said behind these calls
  record SentAt (calls : List Call) : Type 0 where
    page : Page
    books : page_in d.p d.limit calls 32 ≡ Some page
    part : AreNext page.ledger (drop 4 f.bytes)
    asked : IsAskedFor d.p d.limit calls page.command
    slots : IsFromSlot dev d.tag d.old d.before d.at d.first sooner mid led asked.bytes

  record NumberedAt (calls : List Call) : Type 0 where
    for : SentAt calls
    number : wrote.offset ≡ length for.page.ledger.sent

  record SentSince : Type 0 where
    for : SentAt (base ++ since)
    one : heard_in since ≡ 1
    answered : answered_in since ≡ 0
    went : 1 ≤ total (sends_to dev) an.from an.later mid an.rest

  sent_since : (len : ℕ) (does : Does found.cut.mid (Moved (act.Speaks d.n (out.Data 32 len))) found.cut.next) → IsSaid len does → SentSince
  sent_since len does sent =
      let it = then_at (out.Data 32 len) does sent in
      let are_it = are_since (out.Data 32 len) it in
      let says = says_since (out.Data 32 len) it in
      let page : HasNext (page_in d.p d.limit (base ++ since) 32) (part_at (command_at (commands (reached d.p d.limit (base ++ since))) 32)) =
      has_next (page_in d.p d.limit (base ++ since) 32) (part_at (command_at (commands (reached d.p d.limit (base ++ since))) 32))
      (laws.given d.p d.limit (base ++ since) 32 len are_it says) in
      let turn : IsInTurn d.p d.limit base since page.page.command =
      laws.turn d.p d.limit base since are_it an.idle on_since len says page.page page.is in
      let last = last_of turn.asked.bytes turn.front turn.asked.later turn.split turn.asks in
      let part : part_at (command_at (commands (reached d.p d.limit (base ++ since))) 32) ≡ drop 4 f.bytes =
      ap (λ (l : List Call). part_at (command_at (commands (reached d.p d.limit l)) 32)) all_is
      ∙ part_of laws.tell laws.given laws.parts pio.disks d.many d.n c dev d.at begins.disk begins.there d.p d.limit d.base are same sooner mid led f
      wrote of_conn_is pre found d.n 32 len does sent in
      let less = turn.behind in
      let first = last.first in
      record {
        for = record {
          page = page.page;
          books = page.is;
          part = subst (λ (x : List ℕ). AreNext page.page.ledger x) part page.next;
          asked = turn.asked;
          slots = last.slots;
        };
        one = last.one;
        answered = omega (arith, less, first);
        went = last.went;
      }

  sent_here : (len : ℕ) (does : Does found.cut.mid (Moved (act.Speaks d.n (out.Data 32 len))) found.cut.next) → IsSaid len does
      → IsSentHere d dev sooner mid led then_calls f
  sent_here len does sent =
      let s : SentAt (d.base ++ then_calls) = subst SentAt all_is (sent_since len does sent).for in
      record { page = s.page; books = s.books; next = s.part; asked = s.asked; slots = s.slots }

  of_here : (o : Out) → IsSent o
  of_here (out.Data place len) = λ does sent at.
      subst (λ (q : ℕ). (does : Does found.cut.mid (Moved (act.Speaks d.n (out.Data q len))) found.cut.next)
      → sent_by found.cut.mid (Moved (act.Speaks d.n (out.Data q len))) found.cut.next does ≡ f ∷ []
      → IsSentHere d dev sooner mid led then_calls f) (sym at)
      (λ does sent. sent_here len does sent) does sent
  of_here o = λ does sent. tt

  then_is : (P : List Call → Out → Type 0) → P then_calls spoke.o → SentThen d sooner mid f P
  then_is P for' = record {
    before = found.cut.sooner;
    at = found.cut.mid;
    first = found.cut.led;
    said = spoke.o;
    next = found.cut.next;
    does = spoke.does;
    between = found.cut.later;
    until = found.cut.rest;
    is = found.cut.is ∙ ap (λ (x : Deed). found.cut.sooner ++ x ∷ found.cut.later) spoke.is;
    sent = spoke.sent;
    for = for';
  }

  pub taken_sent : SentThen d sooner mid f (OfHere d dev sooner mid led f)
  taken_sent = then_is (OfHere d dev sooner mid led f) (of_here spoke.o spoke.does spoke.sent)

  -- ---- its number, where no FIS of the device is lost or at fault, and no queued command is open

  module _ (counted : SingleDataAreCounted) (well : AllTakenWell dev d.at sooner mid led) (lost : NoneLost dev (calls_in d.at sooner mid led))
      (shut : (tag : ℕ) → tag < 32 → (host_of new_host d.base).open_at tag ≡ false) (hear_all : AllHearSingle (calls_of d.n d.at sooner mid led)) where
    hear : AllHearSingle then_calls
    hear = hear_first then_calls _ (subst AllHearSingle (found.cut.own d.n) hear_all)

    hear_split : AllHearSingle (an.front ++ since)
    hear_split = subst AllHearSingle an.split hear

    shut_front : IsShut (host_of new_host base)
    shut_front =
        subst IsShut (sym (host_both d.base an.front new_host))
        (calls_shut an.front (host_of new_host d.base) (hear_first an.front since hear_split) shut)

    abbrev events : List Event
    events = calls_in an.from an.later mid an.rest

    abbrev came_then : List Stamped
    came_then = came_of an.from an.later mid an.rest

    gone : GoneOn d.many d.n c dev (reached d.p d.limit base) since (of_conn d.n c (sent_of an.there_at an.there_deeds found.cut.mid an.there_run))
        (bay_at found.cut.mid d.n).unit
    gone =
        stretch_made d.many d.n c dev pio.disks an.there_deeds an.there_at found.cut.mid an.there_run an.there_line (reached d.p d.limit base) an.there

    taken_is : bytes_of came_then ≡ frames_of events
    taken_is =
        let link : AreLinked an.later = linked_by d.many d.n c dev an.later an.from mid an.rest an.line in
        ap (λ (x : Frames). bytes_of x.came) (sym (frames_are an.later an.from mid an.rest no_frames link))
        ∙ pio.taken an.from an.later mid an.rest no_frames link

    one_conn : AreOne d.n c dev came_then
    one_conn = came_one d.many d.n c dev an.later an.from mid an.rest an.line

    -- what the disk sent since is what was taken since
    taken_since : since_calls dev 0 events ≡ since_after 0 gone.made.fises
    taken_since =
        calls_since dev events 0 (an.lost lost) ∙ ap (λ (l : List (List ℕ)). since_own dev 0 l) (sym taken_is) ∙ own_since d.n c dev came_then 0 one_conn
        ∙ ap (λ (l : List Stamped). since_after 0 (bytes_of l)) (sym an.same) ∙ sym (gone.made.since 0)

    -- and no Register FIS is among it, where the disk sent none
    none_taken : answered_in since ≡ 0 → taken_in dev events ≡ 0
    none_taken none =
        let few = taken_few d.n c dev events came_then taken_is one_conn in
        let sent = answers_few d.many d.n c dev pio.disks an.there_deeds an.there_at found.cut.mid an.there_run an.there_line (reached d.p d.limit base)
        an.there in
        let long = ap (λ (l : List Stamped). length (picks answers_by l)) an.same in
        omega (arith, few, sent, long, none)

    -- the command that went since, as one of the calls
    record OrderSince : Type 0 where
      before : List Event
      at : ControllerState
      to : ℕ
      slot : ℕ
      fis : List ℕ
      later : List Event
      rest : Runs at (call.Turned (next_step.Order to slot fis) ∷ later) mid.controller
      is : events ≡ before ++ call.Turned (next_step.Order to slot fis) ∷ later
      commanded : is_commanded dev at (call.Turned (next_step.Order to slot fis)) ≡ true
      free : waits_in dev at ≡ false
      told : Told at
      -- no Data of the device were taken before it since, and no command went behind it
      first : since_calls dev 0 before ≡ 0
      plains : AllUnqueued dev at (call.Turned (next_step.Order to slot fis) ∷ later) mid.controller rest
      heard : AllHeardWell dev rest.1.0 later mid.controller rest.1.2
      none : commanded_in dev rest.1.0 later mid.controller rest.1.2 ≡ 0

    -- it went by this deed, and none by the others
    module _ (x : Deed) (cut : Cut x an.from an.later mid an.rest) (here : 1 ≤ sends_to dev cut.mid x cut.next cut.does) where
      abbrev first_events : List Event
      first_events = calls_in an.from cut.sooner cut.mid cut.led

      abbrev later_events : List Event
      later_events = calls_in cut.next cut.later mid cut.rest

      wa : WaitingRun d.many d.n dev an.from cut.sooner cut.mid cut.led
      wa =
          waiting_run laws.anew.goes laws.anew.stays d.many d.n dev cut.sooner an.from cut.mid cut.led an.due_now
          (cut.unqueued d.many d.n dev an.unqueued).0

      wb : WaitingRun d.many d.n dev cut.next cut.later mid cut.rest
      wb =
          waiting_run laws.anew.goes laws.anew.stays d.many d.n dev cut.later cut.next mid cut.rest
          (laws.anew.stays cut.mid x cut.next cut.does wa.runs.due) (cut.unqueued d.many d.n dev an.unqueued).2

      run_here : Runs cut.mid.controller (deed_calls cut.mid x cut.next cut.does) cut.next.controller
      run_here =
          laws.anew.goes cut.mid x cut.next cut.does (last_ruled cut.sooner an.from cut.mid cut.led) (first_ruled cut.later cut.next mid cut.rest)
          wa.runs.due

      o : IsOrder dev (deed_calls cut.mid x cut.next cut.does) cut.mid.controller cut.next.controller
      o =
          is_order dev (deed_calls cut.mid x cut.next cut.does) (are_few x cut.mid cut.next cut.does) cut.mid.controller cut.next.controller run_here
          ((cut.unqueued d.many d.n dev an.unqueued).1.unqueued run_here) here

      free_at : waits_in dev cut.mid.controller ≡ false
      free_at =
          commanded_free dev (call.Turned (next_step.Order o.to o.slot o.fis)) cut.mid.controller cut.next.controller o.kept
          (first_kept later_events cut.next.controller mid.controller wb.runs.calls) o.does o.commanded

      none_before : since_calls dev 0 first_events ≡ 0
      none_before =
          let parts = cut.counted (sends_to dev) in
          let most = most_one in
          let sent = wa.commanded in
          let free = none_if (waits_in dev an.from.controller) (omega (arith, parts, most, here)) in
          let keeps = idle_keeps (own.waiting_laws pio) dev dev_low first_events an.from.controller cut.mid.controller wa.runs.calls
          (omega (arith, parts, most, here, sent)) (an.told.past dev) (an.told.told dev dev_low) free in
          since_free dev first_events an.from.controller cut.mid.controller wa.runs.calls (wa.well (cut.taken dev (an.well well)).0) wa.unqueued keeps 0
          (λ e. refl) free_at

      order_since : OrderSince
      order_since =
          let order : Event = call.Turned (next_step.Order o.to o.slot o.fis) in
          let parts = cut.counted (sends_to dev) in
          let most = most_one in
          let sent = wb.commanded in
          record {
            before = first_events;
            at = cut.mid.controller;
            to = o.to;
            slot = o.slot;
            fis = o.fis;
            later = later_events;
            rest = (o.kept, (cut.next.controller, o.does, wb.runs.calls));
            is = cut.events ∙ ap (λ (l : List Event). first_events ++ (l ++ later_events)) o.is;
            commanded = o.commanded;
            free = free_at;
            told = told_after pio.falls first_events an.from.controller cut.mid.controller wa.runs.calls an.told;
            first = none_before;
            plains = (o.plain, tt, wb.unqueued);
            heard = wb.well (cut.taken dev (an.well well)).2;
            none = omega (arith, parts, most, here, sent);
          }

    -- as many bytes came of the command as its next byte has for number
    command_since : answered_in since ≡ 0 → 1 ≤ total (sends_to dev) an.from an.later mid an.rest → since_calls dev 0 events ≡ wrote.offset
    command_since none went =
        let h = last_deed (sends_to dev) an.later an.from mid an.rest went in
        let s : OrderSince = order_since h.deed h.last.cut h.last.here in
        let order : Event = call.Turned (next_step.Order s.to s.slot s.fis) in
        let all = ap (taken_in dev) s.is ∙ taken_both dev s.before (order ∷ s.later) in
        let zero = none_taken none in
        let untaken : taken_in dev s.later ≡ 0 = omega (arith, all, zero) in
        let kept_at = ap (issue_at mid.controller.core.slots) brings.slot_is ∙ brings.is in
        let mine_at : own_issue (slots_of dev mid.controller.core.slots) wrote.slot ≡ Some brings.issue =
        ap (own_issue (slots_of dev mid.controller.core.slots)) brings.slot_is
        ∙ subst (λ (j : ℕ). own_issue (slots_of j mid.controller.core.slots) d.tag ≡ Some brings.issue) i_dev
        (mine d.tag low mid.controller kept_mid brings.issue brings.is i_plain) in
        ap (λ (e : List Event). since_calls dev 0 e) s.is ∙ calls_both dev s.before (order ∷ s.later) 0
        ∙ ap (λ (n : ℕ). since_calls dev n (order ∷ s.later)) s.first ∙ call_first dev order s.later 0
        ∙ since_offset laws.setup dev dev_low s.slot s.at s.to s.fis s.later mid.controller does.middle.controller s.rest s.plains s.commanded s.free
        (s.told.past dev) (s.told.told dev dev_low) s.heard s.none untaken f.bytes took takes own_is brings.calm wrote brings.brought brings.issue kept_at
        mine_at i_waits kind single brings.kind_is

    numbered_since : (len : ℕ) (does : Does found.cut.mid (Moved (act.Speaks d.n (out.Data 32 len))) found.cut.next) → IsSaid len does
        → NumberedAt (base ++ since)
    numbered_since len does sent =
        let it = then_at (out.Data 32 len) does sent in
        let s : SentSince = sent_since len does sent in
        let one = s.one in
        let all = counted d.p d.limit base since gone.made.fises (are_since (out.Data 32 len) it) (record { idle = an.idle; none = shut_front }) on_since
        (hear_last an.front since hear_split) gone.made.are (omega (arith, one)) len (says_since (out.Data 32 len) it) s.for.page s.for.books in
        record { for = s.for; number = sym (command_since s.answered s.went) ∙ taken_since ∙ sym all }

    numbered_here : (len : ℕ) (does : Does found.cut.mid (Moved (act.Speaks d.n (out.Data 32 len))) found.cut.next) → IsSaid len does
        → IsNumberedHere d dev sooner mid led then_calls f wrote
    numbered_here len does sent =
        let s : NumberedAt (d.base ++ then_calls) = subst NumberedAt all_is (numbered_since len does sent) in
        record {
          for = record { page = s.for.page; books = s.for.books; next = s.for.part; asked = s.for.asked; slots = s.for.slots };
          number = s.number;
        }

    of_number : (o : Out) (does : Does found.cut.mid (Moved (act.Speaks d.n o)) found.cut.next)
        → sent_by found.cut.mid (Moved (act.Speaks d.n o)) found.cut.next does ≡ f ∷ [] → OfNumber d dev sooner mid led f wrote then_calls o
    of_number (out.Data place len) does sent = λ at.
        subst (λ (q : ℕ). (does : Does found.cut.mid (Moved (act.Speaks d.n (out.Data q len))) found.cut.next)
        → sent_by found.cut.mid (Moved (act.Speaks d.n (out.Data q len))) found.cut.next does ≡ f ∷ []
        → IsNumberedHere d dev sooner mid led then_calls f wrote) (sym at) (λ does sent. numbered_here len does sent) does sent
    of_number o does sent = tt

    -- ---- it is Data of the command, or a page

    carries_f : carries (seen f.bytes) ≡ true
    carries_f = by (carries (seen f.bytes)) refl
      where
        there : Told mid.controller
        there = told_after pio.falls (calls_in d.at sooner mid led) d.at.controller mid.controller (waits_to laws.anew b sooner mid led k).runs.calls
            (told_first laws.anew b)

        no_carried : (e : HistoryEvent) → e ≡ Carried (drop 4 f.bytes) → IsNoData e → ⊥
        no_carried e is none = subst IsNoData is none

        by : (b : Bool) → carries (seen f.bytes) ≡ b → b ≡ true
        by true is = refl
        by false is =
            let wrote_is = sym (brought_is mid.controller does.middle.controller f.bytes took takes brings.calm) ∙ brings.brought in
            let event = hears_event laws.setup dev mid.controller f.bytes took.report does.middle.controller.core (there.past dev) wrote
            mid.controller.core.registers.started kept_mid own_is takes.hears.core (there.told dev dev_low) wrote_is in
            absurd (no_carried (Carried (drop 4 f.bytes)) refl
            (subst (λ (o : Option HistoryEvent). IfSome o IsNoData) event (fis_plain mid.controller.core (room_for mid.controller (port_of f.bytes))
            f.bytes is)))

    due_at_it : (o : Out) → IsThen pio taking f of_conn_is pre found o
        → IsOutDue (host_of new_host (d.base ++ then_calls)) o
    due_at_it o it =
        let x : Call = Sends o in
        let more : AreCalls (new_disk d.p d.limit) ((d.base ++ then_calls) ++ x ∷ []) = more_calls (d.base ++ then_calls) (x ∷ []) (new_disk d.p
        d.limit) it.whole (it.says, tt) in
        due_at (d.base ++ then_calls) x new_host (pio.single d.p d.limit ((d.base ++ then_calls) ++ x ∷ []) more)

    shut_then : IsShut (host_of new_host (d.base ++ then_calls))
    shut_then = subst IsShut (sym (host_both d.base then_calls new_host)) (calls_shut then_calls (host_of new_host d.base) hear shut)

    page_here : PagesGoInTurn → TransfersSendNoPage → (page : own_page.Page) → IsThen pio taking f of_conn_is pre found (out.Page page)
        → IsPageHere d dev sooner mid led
    page_here pages none page it =
        let are_it = are_since (out.Page page) it in
        let says = says_since (out.Page page) it in
        let u : IsUnanswered since = pages d.p d.limit base since are_it an.idle on_since page says in
        let l = last_of u.bytes u.front u.later u.split u.asks in
        let x : Call = Hears u.bytes in
        let split : base ++ since ≡ (base ++ u.front) ++ x ∷ u.later =
        ap (λ (l : List Call). base ++ l) u.split ∙ sym (append_assoc base u.front (x ∷ u.later)) in
        let whole : AreCalls (new_disk d.p d.limit) ((base ++ u.front) ++ x ∷ u.later) = subst (AreCalls (new_disk d.p d.limit)) split are_it in
        let first : AreCalls (new_disk d.p d.limit) (base ++ u.front) = first_calls (base ++ u.front) (x ∷ u.later) (new_disk d.p d.limit) whole in
        let on_u : AreKeptOn (u.front ++ x ∷ u.later) = subst AreKeptOn u.split on_since in
        let zero = l.first in
        let free : IsIdle (host_of new_host (base ++ u.front)) =
        (laws.answers d.p d.limit base u.front first an.idle (kept_first u.front (x ∷ u.later) on_u)).idle (omega (arith, zero)) in
        record {
          bytes = u.bytes;
          slots = l.slots;
          none = not_true (is_transferring u.bytes) (λ moves.
              none d.p d.limit (base ++ u.front) u.bytes u.later whole moves free (kept_behind u.front x u.later on_u) l.none u.quiet page
              (subst (λ (l : List Call). IsOut (reached d.p d.limit l) (Some (out.Page page))) split says));
        }

    own_here : PagesGoInTurn → TransfersSendNoPage → (o : Out) (does : Does found.cut.mid (Moved (act.Speaks d.n o)) found.cut.next)
        → sent_by found.cut.mid (Moved (act.Speaks d.n o)) found.cut.next does ≡ f ∷ [] → is_data o ≡ true → IsOwnHere d dev sooner mid led o
    own_here pages none (out.Data place len) does sent is =
        let it = then_at (out.Data place len) does sent in
        data_place (host_of new_host (d.base ++ then_calls)) place len shut_then (due_at_it (out.Data place len) it)
    own_here pages none (out.Page page) does sent is = page_here pages none page (then_at (out.Page page) does sent)
    own_here pages none other does sent is = absurd (cc)

    spoke_own : PagesGoInTurn → TransfersSendNoPage → IsOwnHere d dev sooner mid led spoke.o
    spoke_own pages none =
        let risen_is : risen found.cut.mid.fan d.n spoke.does.does.does.1.frame ≡ f = ap (λ (l : List Stamped). head_or f l) spoke.sent in
        own_here pages none spoke.o spoke.does spoke.sent
        (says_data found.cut.mid d.n spoke.o found.cut.next spoke.does (subst (λ (y : Stamped). carries (seen y.bytes) ≡ true) (sym risen_is)
        carries_f))

    pub taken_own : PagesGoInTurn → TransfersSendNoPage → SentThen d sooner mid f (OfOwn d dev sooner mid led f wrote)
    taken_own pages none = then_is (OfOwn d dev sooner mid led f wrote) (of_number spoke.o spoke.does spoke.sent, spoke_own pages none)
