-- Each byte of a READ DMA that the guest sees completed came by a FIS that the disk sent for the command of the slot, and it is the one of its number.
use Rattle.std.proofs.Common.{◌≡◌, ℕ, ◌<◌, Bool, true, false, List, [], ◌∷◌, ◌++◌, map, inl, inr, refl}
use Rattle.std.proofs.{Common.{sym, ap, subst, ◌∙◌, arith, Option, Some, None}, lemmas.Bool.{and_parts, eqb-true, false≢true}}
use Rattle.std.specs.{Prelude.{◌==◌, ◌&&◌, if◌then◌else◌}, List.flat_map}
use Rattle.fis_view.specs.{Frames.Stamped, Seen.seen}
use Rattle.slots.specs.{Bytes.is_over, Slots.{Issue, holds, is_pio, is_queued_issue, is_waiting, issue_at, own_issue}}
use Rattle.slots.specs.{Slots.slots_of}
use Rattle.multiplier.specs.Passing.{of_conn}
use Rattle.ahci_controller.specs.States.{ControllerState}
use Rattle.ahci_controller.specs.declared.next.Next.TheVariants as next
use Rattle.controller_laws.specs.Events.{Event, IsController}
use Rattle.sata_disk.specs.{State.{new_disk}}
use Rattle.sata_disk_laws.specs.{Calls.{Answers, AreCalls, Asks, Call, Hears, Plugs, Sends, Starts}, Laws.reached, Once.{host_of, new_host}}
use Rattle.ahci_machine.specs.States.{IsOpeningMachine, MachineState}
use Rattle.ahci_machine.specs.declared.act.Act.TheVariants as act
use Rattle.machine_laws.specs.{ControllerLaws.{OpensSo, RunsRuled}, Controllers.{GathersDue}, Deeds.{Deed, Moved}, Falling.AllLast}
use Rattle.machine_laws.specs.{Falling.{HasLink, heard_by}}
use Rattle.machine_theorem.specs.{Brought.{DiskStretch}, PioIn.AllKeepUnqueued, Completed.IsEndedInHistory, Crossing.Within}
use Rattle.machine_theorem.specs.{Given.IsWhole, Identity.{calls_of, heard_as, is_for, picks}, InTurn.{AreKeptOn, IsIdle}}
use Rattle.machine_theorem.specs.{OwnSlots.{AllKeepLine, NoneLost, is_of}}
use Rattle.machine_theorem.specs.{SingleBytes.{SingleIsSent, SinglesAreSent}, SingleNumbers.AllHearSingle}
use Rattle.machine_theorem.specs.SingleNumbers.{NoneQueued, SendsSingle}
use Rattle.machine_theorem.specs.{SingleNumbers.asks_queued, SingleReads.{IsSingleDone, is_sent_read, is_single_read}}
use Rattle.machine_theorem.specs.{Singles.{BeginsIdle, IsFromSlot}, Tags.once_if, Waits.waits_in}
use Rattle.machine_theorem.proofs.{Anew.stretch, BroughtRead.none_first, CameRead.all_sent, Fallen.{heard_among, line_stays}, Falls.kept_of}
use Rattle.machine_theorem.proofs.{OrderCut.{OrderAt, order_at}, Ordered.first_ruled, OrderedOnce.ordered_once, Own.last_ruled, PioOwn.Stretch}
use Rattle.machine_theorem.proofs.{SinglesBrought.{by_event, came as came_before, not_queued}, SinglesOwn.{completed_by, completed_waits, issue_is}}
use Rattle.machine_theorem.proofs.{SinglesOwn.{mine, no_error, sent_waits}, Stretch.whole_run, Waiting.some_waits}
use Rattle.machine_theorem.proofs.CameRead as came
use Rattle.machine_theorem.proofs.Fallen as fallen
use Rattle.machine_theorem.proofs.Falls as falls
use Rattle.machine_theorem.proofs.PioOwn as own

-- a read that is not queued, and that was sent
sent_parts : (dev : ℕ) (i : Issue) → is_sent_read dev i ≡ true → (is_single_read i.work.kind ≡ true) × (i.dev ≡ dev) × (i.sent ≡ true)
sent_parts dev i e =
    let both = and_parts (is_single_read i.work.kind && (i.dev == dev)) i.sent e in
    let first = and_parts (is_single_read i.work.kind) (i.dev == dev) both.0 in
    (first.0, eqb-true i.dev dev first.1, both.1)

-- while none of the device waits in a slot, none that was sent stands there
pub none_sent : (slot : ℕ) → slot < 32 → (dev : ℕ) (c : ControllerState) → IsController c → once_if (waits_in dev c) ≡ 0
    → holds (is_sent_read dev) (issue_at c.core.slots slot) ≡ false
none_sent slot low dev c kept none = by (issue_at c.core.slots slot) refl
  where
    stands : (i : Issue) → issue_at c.core.slots slot ≡ Some i → (b : Bool) → is_sent_read dev i ≡ b → b ≡ false
    stands i is false e = refl
    stands i is true e =
        let parts = sent_parts dev i e in
        let plain : is_queued_issue i ≡ false = not_queued i.work.kind parts.0 in
        let waits : is_waiting i ≡ true = sent_waits i (issue_is slot low c kept i is plain) plain parts.2 in
        let its : own_issue (slots_of dev c.core.slots) slot ≡ Some i =
        subst (λ (k : ℕ). own_issue (slots_of k c.core.slots) slot ≡ Some i) parts.1 (mine slot low c kept i is plain) in
        let one : once_if (waits_in dev c) ≡ 1 = ap once_if (some_waits dev slot c kept i its waits) in
        absurd (omega (arith, one, none))

    by : (o : Option Issue) → issue_at c.core.slots slot ≡ o → holds (is_sent_read dev) o ≡ false
    by None e = refl
    by (Some i) e = stands i e (is_sent_read dev i) refl

last_off : (a b : Bool) → b ≡ false → (a && b) ≡ false
last_off true b off = off
last_off false b off = refl

unsent_read : (dev : ℕ) (o : Option Issue) (i : Issue) → o ≡ Some i → i.sent ≡ false → holds (is_sent_read dev) o ≡ false
unsent_read dev o i is unsent = ap (holds (is_sent_read dev)) is ∙ last_off (is_single_read i.work.kind && (i.dev == dev)) i.sent unsent

module _ (laws : came.Laws) (ports : ℕ) (legacy : Bool) (d : DiskStretch) (opening : IsOpeningMachine ports legacy d.old) (c dev : ℕ) (below : d.n < 15)
    (dev_low : dev < 16) (low : d.tag < 32) (begins : BeginsIdle d.n c d.at) (are : AreCalls (new_disk d.p d.limit) d.base)
    (same : begins.disk ≡ reached d.p d.limit d.base) (idle : IsIdle (host_of new_host d.base)) (linked : HasLink d.deeds)
    (lasts : AllLast d.n d.at d.deeds d.now d.run) (line : AllKeepLine d.many d.n c dev d.at d.deeds d.now d.run)
    (on : AreKeptOn (calls_of d.n d.at d.deeds d.now d.run)) (keeps : AllKeepUnqueued d.many d.n dev d.at d.deeds d.now d.run) (issue : Issue)
    (done : IsSingleDone d.now d.tag issue) (of_it : is_of d.n c done.does.does.frame ≡ true) (is_dev : issue.dev ≡ dev)
    (other : is_pio issue.work.kind ≡ false) (k : ℕ) (small : k < issue.work.len) where
  abbrev facts : falls.Laws
  facts = laws.taken.anew.own.falls

  abbrev s : Stretch
  s = stretch laws.taken.anew (record {
    ports = ports;
    legacy = legacy;
    d = d;
    opening = opening;
    c = c;
    dev = dev;
    below = below;
    dev_low = dev_low;
    low = low;
    begins = begins;
    are = are;
    same = same;
    idle = idle;
  }) d.deeds d.now d.run (record { linked = linked; lasts = lasts; line = line; on = on; unqueued = keeps })

  abbrev end : Stamped
  end = done.does.does.frame

  abbrev pre : List Stamped
  pre = of_conn d.n c (own.came s)

  ended : IsEndedInHistory d.now.controller end.bytes d.tag
  ended =
      let whole : IsWhole d.old d.before d.at d.first d.deeds d.now d.run = whole_run d.before d.old d.at d.first d.deeds d.now d.run in
      (laws.taken.anew.own.completed ports legacy d.old opening (d.before ++ d.deeds) d.now whole.all done.took done.new done.does done.rules d.tag low
      done.shows done.hides done.free).ended

  record Went : Type 0 where
    bytes : List ℕ
    from : IsFromSlot dev d.tag d.old d.before d.at d.first d.deeds d.now d.run bytes

  -- the command went from the slot in the stretch
  went : Went
  went =
      let plain : is_queued_issue issue ≡ false = not_queued issue.work.kind done.kind in
      let k : IsController d.now.controller = kept_of facts d.now (last_ruled d.deeds d.at d.now d.run) in
      let waits : is_waiting issue ≡ true = completed_waits d.tag low d.now.controller k end.bytes ended issue done.is plain in
      let found = own.found_of laws.taken.anew.own s done.took done.new done.does of_it in
      let spoke = own.spoken laws.taken.anew.own s end of_it pre found found.deed found.cut.does found.line found.sent in
      let a = own.is_answers laws.taken.anew.own s end of_it pre found issue done.is is_dev waits refl (no_error d.tag d.now.controller end.bytes ended) d.n spoke.o spoke.does spoke.sent
      (completed_by d.tag d.now.controller end.bytes ended issue done.is plain other) in
      record { bytes = a.answers.command.bytes; from = a.answers.slots }

  abbrev order : List ℕ
  order = went.from.order

  at_order : OrderAt dev d.tag order d.at d.deeds d.now d.run went.from.ordered.before
  at_order = order_at dev d.tag order d.deeds d.at d.now d.run went.from.ordered.before went.from.ordered.later went.from.ordered.is

  abbrev mid : MachineState
  mid = at_order.cut.mid

  abbrev deed : Deed
  deed = Moved (act.Turns (next.Order dev d.tag order))

  led : RunsRuled d.old (d.before ++ at_order.cut.sooner) mid
  led = (whole_run d.before d.old d.at d.first at_order.cut.sooner mid at_order.cut.led).all

  abbrev rest : RunsRuled mid (deed ∷ at_order.cut.later) d.now
  rest = (at_order.rules, (at_order.cut.next, at_order.cut.does, at_order.cut.rest))

  -- it had not been sent before
  none : holds (is_sent_read issue.dev) (issue_at mid.controller.core.slots d.tag) ≡ false
  none =
      let opens : OpensSo d.old = facts.opens ports legacy d.old opening (first_ruled d.before d.old d.at d.first) in
      let due : GathersDue mid = (facts.runs d.old (d.before ++ at_order.cut.sooner) mid led opens.due).due in
      let run = laws.taken.anew.goes mid deed at_order.cut.next at_order.cut.does at_order.rules (first_ruled at_order.cut.later at_order.cut.next d.now at_order.cut.rest) due in
      let long = run.0.slots.slots in
      let h = ordered_once mid.controller run.1.0 dev d.tag order (omega (arith, long, low)) run.1.1 in
      unsent_read issue.dev (issue_at mid.controller.core.slots d.tag) h.issue h.was h.unsent

  -- so it was brought since
  over : is_over issue.over k ≡ true
  over =
      elim (by_event laws.brought ports legacy d.old opening (d.before ++ at_order.cut.sooner) mid led (deed ∷ at_order.cut.later) d.now rest d.tag low issue done none k small) [
        | inl last ↦ absurd (false≢true (sym other ∙ last.pio))
        | inr is ↦ is
      ]

  pub single_sent : SingleIsSent d issue k
  single_sent =
      all_sent laws ports legacy d opening c dev below dev_low low begins are same idle linked lasts line on keeps issue done is_dev k
      (at_order.brought issue.work.kind issue.dev d.tag k
      (came_before laws.brought ports legacy d.old opening (d.before ++ at_order.cut.sooner) mid led (deed ∷ at_order.cut.later) d.now rest d.tag low issue done none k small over))

-- ---- the law

-- no command that is queued is heard
abbrev NoneAsk : List (List ℕ) → Type 0
NoneAsk [] = Unit {0}
NoneAsk (f ∷ later) = (asks_queued (seen f) ≡ false) × NoneAsk later

none_within : (xs ys : List (List ℕ)) → Within xs ys → NoneAsk ys → NoneAsk xs
none_within [] ys w quiet = tt
none_within (x ∷ xs) [] w quiet = absurd w
none_within (x ∷ xs) (y ∷ ys) (inl h) quiet = (ap (λ f. asks_queued (seen f)) h.0 ∙ quiet.0, none_within xs ys h.1 quiet.1)
none_within (x ∷ xs) (y ∷ ys) (inr h) quiet = none_within (x ∷ xs) ys h quiet.1

if_ask : (b : Bool) (f : Stamped) (later : List Stamped) → (b ≡ true → asks_queued (seen (heard_as f)) ≡ false) → NoneAsk (map heard_as later)
    → NoneAsk (map heard_as (if b then f ∷ later else later))
if_ask true f later own quiet = (own refl, quiet)
if_ask false f later own quiet = quiet

none_sent_to : (many : Bool) (n : ℕ) (frames : List Stamped) → NoneQueued many n frames → NoneAsk (map heard_as (picks (is_for many n) frames))
none_sent_to many n [] quiet = tt
none_sent_to many n (f ∷ later) quiet = if_ask (is_for many n f) f (picks (is_for many n) later) quiet.0 (none_sent_to many n later quiet.1)

hear_single : (calls : List Call) → NoneAsk (flat_map heard_by calls) → AllHearSingle calls
hear_single [] quiet = tt
hear_single (Hears f ∷ later) quiet = (quiet.0, hear_single later quiet.1)
hear_single (Plugs ∷ later) quiet = (tt, hear_single later quiet)
hear_single (Sends o ∷ later) quiet = (tt, hear_single later quiet)
hear_single (Starts x ∷ later) quiet = (tt, hear_single later quiet)
hear_single (Asks r ∷ later) quiet = (tt, hear_single later quiet)
hear_single (Answers k a ∷ later) quiet = (tt, hear_single later quiet)

pub none_cut : (dev : ℕ) (all xs ys : List Event) → all ≡ xs ++ ys → NoneLost dev all → NoneLost dev xs
none_cut dev all xs ys is lost = none_first dev xs ys (subst (λ (l : List Event). NoneLost dev l) is lost)

pub singles_are_sent : came.Laws → SinglesAreSent
singles_are_sent laws ports legacy d opening c dev below dev_low low begins are same idle linked lasts line on keeps issue done of_it is_dev other k small =
    single_sent laws ports legacy d opening c dev below dev_low low begins are same idle linked lasts line on keeps issue done of_it is_dev other k small

-- no queued command is heard in the stretch
pub hears_single : (falling : fallen.Laws) (d : DiskStretch) (c dev : ℕ) → GathersDue d.at → (begins : BeginsIdle d.n c d.at) → HasLink d.deeds
    → AllLast d.n d.at d.deeds d.now d.run → AllKeepLine d.many d.n c dev d.at d.deeds d.now d.run → SendsSingle d
    → AllHearSingle (calls_of d.n d.at d.deeds d.now d.run)
hears_single falling d c dev made begins linked lasts line sends =
    let among = heard_among falling d.many d.n d.deeds d.at d.now d.run begins.disk begins.there
    (line_stays d.many d.n c dev d.deeds d.at d.now d.run line) made linked lasts begins.leaving begins.down in
    hear_single (calls_of d.n d.at d.deeds d.now d.run)
    (none_within (flat_map heard_by (calls_of d.n d.at d.deeds d.now d.run)) _ among (none_sent_to d.many d.n _ sends.sends))
