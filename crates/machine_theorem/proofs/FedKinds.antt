-- Where queued commands alone are issued for a device, the Data that go to it go of a slot with a queued write.
use Rattle.std.proofs.{Common.{◌≡◌, ℕ, Bool, true, false, Option, Some, None, refl, sym, ap, subst, ◌∙◌}, lemmas.Bool.{false≢true}}
use Rattle.std.specs.Prelude.{MatchOption, is_some, if◌then◌else◌}
use Rattle.slots.specs.{Data.{payload, payload_len}, Slots.{Issue, Slots, context_of, issue_at, match_some}, Table.{IsContext, IsContextOf}}
use Rattle.slots.specs.{Work.{is_queued, is_read}, declared.{table.Context.Context, work.Kind.{Kind, TheVariants.{QueuedRead, QueuedWrite}}}}
use Rattle.hba_fbs.specs.{Turning.feeds, declared.turn.Turn.TheVariants.Rests}
use Rattle.ahci_controller.specs.States.{ControllerState}
use Rattle.ahci_controller.specs.declared.feeding.Fed.TheVariants as fed_answer
use Rattle.controller_laws.specs.Events.{IsController}
use Rattle.machine_theorem.specs.QueuedWrites.{DataGoOfQueuedWrites, GoOfQueuedWrite, HasQueued}
use Rattle.machine_theorem.proofs.{Ordered.fed_some, Own.last_ruled, SentOnce.kept_of, SetupCores.match_is}

-- a command of the device is issued in a slot, and no read
record IsIssued (t : Slots) (dev slot : ℕ) : Type 0 where
  issue : Issue
  there : issue_at t slot ≡ Some issue
  of_dev : issue.dev ≡ dev
  way : is_read issue.work.kind ≡ false

issue_by : (t : Slots) (dev : ℕ) (c : Context) → IsContext dev t c → (b : Bool) → c.activated ≡ b → (x : ℕ × ℕ × ℕ)
    → (if b then Some (c.slot, c.next, payload_len c) else None) ≡ Some x → IsIssued t dev x.0
issue_by t dev c is true e x here =
    let i = match_is (IsContextOf dev c) (issue_at t c.slot) is.1 in
    let same : c.slot ≡ x.0 = ap (λ (o : Option (ℕ × ℕ × ℕ)). match_some o c.slot (λ y. y.0)) here in
    subst (λ (k : ℕ). IsIssued t dev k) same (record { issue = i.0; there = i.1.0; of_dev = i.1.1.of_dev; way = i.1.1.way ∙ (i.1.1.activates e).0 })
issue_by t dev c is false e x here = absurd (cc)

issue_of : (t : Slots) (dev : ℕ) (o : Option Context) → MatchOption o (Unit {0}) (IsContext dev t) → (x : ℕ × ℕ × ℕ) → payload o ≡ Some x → IsIssued t dev x.0
issue_of t dev None is x here = absurd (cc)
issue_of t dev (Some c) is x here = issue_by t dev c is c.activated refl x here

pub write_kind : (k : Kind) → is_queued k ≡ true → is_read k ≡ false → k ≡ QueuedWrite
write_kind QueuedWrite queued way = refl
write_kind QueuedRead queued way = absurd (false≢true (sym way))
write_kind k queued way = absurd (cc)

go_of : (c : ControllerState) (dev : ℕ) (o : Option (ℕ × ℕ × ℕ)) → IsController c → HasQueued dev c → payload (context_of c.core.slots dev) ≡ o → is_some o ≡ true
    → GoOfQueuedWrite c dev
go_of c dev None k queued e some = absurd (false≢true some)
go_of c dev (Some x) k queued e some =
    let i : IsIssued c.core.slots dev x.0 = issue_of c.core.slots dev (context_of c.core.slots dev) (k.slots.contexts dev) x e in
    record {
      slot = x.0;
      offset = x.1;
      len = x.2;
      is = ap (λ (o : Option (ℕ × ℕ × ℕ)). match_some o Rests (feeds dev)) e;
      issue = i.issue;
      there = i.there;
      of_dev = i.of_dev;
      kind = write_kind i.issue.work.kind (queued x.0 i.issue i.there i.of_dev) i.way;
    }

pub data_go : DataGoOfQueuedWrites
data_go ports legacy old opening deeds now run dev queued message line new does =
    let h = does.does in
    go_of now.controller dev (payload (context_of now.controller.core.slots dev)) (kept_of now (last_ruled deeds old now run)) queued refl
    (fed_some now.controller does.middle.controller dev h.gathering.feed.number (fed_answer.Goes message line) tt h.gathers.gathers)
