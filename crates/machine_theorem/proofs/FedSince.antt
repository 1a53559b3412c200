-- What goes to a device of the slot of a command was read behind the FIS of this command: none of it was asked for before.
use Rattle.std.proofs.Common.{◌≡◌, ◌⊎◌, ℕ, ◌<◌, Bool, true, false, List, [], ◌∷◌, Option, Some, None, refl, sym, ap, subst, ◌∙◌, arith, inl, inr}
use Rattle.std.proofs.lemmas.{Bool.{and_parts, eq-eqb, false≢true}, Option.same_Some}
use Rattle.std.specs.{Prelude.{◌||◌, MatchOption, is_some, if◌then◌else◌}, Option.option_map}
use Rattle.slots.specs.{Data.{payload, payload_len}, Setup.is_outstanding, Slots.{Issue, context_of, is_queued_issue, is_under_way, issue_at}}
use Rattle.slots.specs.{Slots.{own_issue, slots_of}, Table.{IsContext, IsContextOf, IsIssue}, Work.needs_all, declared.table.Context.Context}
use Rattle.slots.specs.declared.work.{Kind.TheVariants.QueuedWrite, Work.Work}
use Rattle.hba_fbs.specs.Views.{view_of}
use Rattle.hba_laws.specs.{Agreement.{is_for, work_of_transfer}, History.{Transfer, is_set_up}}
use Rattle.hba_laws.proofs.Door.{own_here}
use Rattle.ahci_controller.specs.{Next.is_fed, States.ControllerState, declared.next.Next.Next}
use Rattle.ahci_controller.specs.declared.next.Next.TheVariants as next
use Rattle.controller_laws.specs.Events as call
use Rattle.controller_laws.specs.Events.{Does as Calls, Event, IsController, Runs}
use Rattle.sata_disk_books.specs.Counted.{Counted}
use Rattle.ahci_machine.specs.Acts as acts
use Rattle.ahci_machine.specs.{Gathers.GatheringState, States.{HasRules, MachineState, gathering_at}, declared.gathering.Feed.Feed}
use Rattle.ahci_machine.specs.declared.act.Act.TheVariants as act
use Rattle.machine_laws.specs.{ControllerLaws.RunsRuled, Controllers.{ControllerGoesOn, GathersDue, StaysDue, deed_calls, is_feed_to, is_kept_for}}
use Rattle.machine_laws.specs.{Deeds.{Deed, Does, Moved}, Feeding.{came_by, came_in}}
use Rattle.machine_theorem.specs.{Fed.WasFed, QueuedWrites.HasQueued}
use Rattle.machine_theorem.proofs.FedFor as for_slot
use Rattle.machine_theorem.proofs.{FedFor.{IsFree, deed_are, does_same, kept_off, kept_rules, no_read}, FedKinds.write_kind}
use Rattle.machine_theorem.proofs.{FeedHolds.{AreMachineCalls, IsMachineCall, OneUp, due_case, due_to, event_keeps}, FeedStays.{FedBy, Opens, Stays}}
use Rattle.machine_theorem.proofs.{FeedStays.{Quiet, deed_quiet, does_by, rests_from, turns_from}, Ordered.first_ruled, OrderedOnce.IsOrderedOnce}
use Rattle.machine_theorem.proofs.{OrderedOnce.ordered_once, SetupCores.{match_is}}
use Rattle.machine_theorem.proofs.FeedStays as stays

pub record Laws : Type 0 where
  pub goes : ControllerGoesOn
  pub due : StaysDue

module _ (dev tag : ℕ) (low : dev < 16) where
  -- no bytes that are wanted for the device, and due, are for the slot
  abbrev pub Stale : ControllerState → Feed → Type 0
  Stale c f = is_fed c.wants dev f.number ≡ true → due_to c dev ≡ true → f.slot ≡ tag → ⊥

  event_stale : (e : Event) (old new : ControllerState) → IsMachineCall dev e → Calls old e new → (f : Feed) → Stale old f → Stale new f
  event_stale e old new is does f was fed due slot =
      let both = due_case dev f.number old new (is_fed old.wants dev f.number) (payload (context_of old.core.slots dev)) refl refl
      (λ count. event_keeps dev f.number count e old new is does) fed due in
      was both.0 both.1 slot

  calls_stale : (events : List Event) (old new : ControllerState) → AreMachineCalls dev events → Runs old events new → (f : Feed) → Stale old f → Stale new f
  calls_stale [] old new are run f was = subst (λ (c : ControllerState). Stale c f) (sym run.1) was
  calls_stale (e ∷ later) old new are run f was = calls_stale later run.1.0 new are.1 run.1.2 f (event_stale e old run.1.0 are.0 run.1.1 f was)

  -- so it is of what is read for the device
  pub record OldFeed (m : MachineState) : Type 0 where
    pub read : (g : GatheringState) → gathering_at m dev ≡ Some g → is_kept_for dev m.kept ≡ false → Stale m.controller g.feed

  from_old : (old new : MachineState) (g : GatheringState) → ((f : Feed) → Stale old.controller f → Stale new.controller f) → OldFeed old → WasFed old dev g.feed
      → is_kept_for dev old.kept ≡ false → Stale new.controller g.feed
  from_old old new g on was w off = subst (λ (f : Feed). Stale new.controller f) w.same (on w.gathering.feed (was.read w.gathering w.there off))

  -- or what was read before counts for nothing from now on
  abbrev Anew : (old : MachineState) (deed : Deed) (new : MachineState) → Does old deed new → Type 0
  Anew old deed new does = (x : List ℕ) → came_by dev old deed new does x ≡ []

  anew : (old : MachineState) (said : Next) (new : MachineState) (does : Does old (Moved (act.Does said)) new) → is_feed_to dev said ≡ true
      → Anew old (Moved (act.Does said)) new does
  anew old (next.Feed to number slot offset len) new does is = λ x. ap (λ (b : Bool). if b then [] else x) is
  anew old next.Nothing new does is = absurd (false≢true is)
  anew old (next.Order d s f) new does is = absurd (false≢true is)
  anew old (next.Payload m) new does is = absurd (false≢true is)
  anew old (next.Posted m) new does is = absurd (false≢true is)
  anew old (next.Counted c) new does is = absurd (false≢true is)
  anew old (next.Read a) new does is = absurd (false≢true is)

  still_fed : (old : MachineState) (f : Feed) (said : Next) → FedBy old dev f said → is_feed_to dev said ≡ false → WasFed old dev f
  still_fed old f said (Opens own) off = absurd (false≢true (sym off ∙ eq-eqb f.dev dev own))
  still_fed old f said (Stays _ w other) off = w

  same_stale : (old new : MachineState) → new.controller ≡ old.controller → (f : Feed) → Stale old.controller f → Stale new.controller f
  same_stale old new same f was = subst (λ (c : ControllerState). Stale c f) (sym same) was

  does_step : (old : MachineState) (said : Next) (new : MachineState) (does : Does old (Moved (act.Does said)) new) → OldFeed old → (b : Bool) → is_feed_to dev said ≡ b
      → OldFeed new ⊎ Anew old (Moved (act.Does said)) new does
  does_step old said new does was true is = inr (anew old said new does is)
  does_step old said new does was false is =
      let mid : MachineState = does.middle in
      let same = does_same said old mid does.does.does in
      let controller : new.controller ≡ old.controller = ap (λ (m : MachineState). m.controller) does.turns ∙ same.0 in
      inl (record {
        read = λ g there off.
            from_old old new g (same_stale old new controller) was
            (still_fed old g.feed said (does_by said old mid does.does.does dev g (stays.at_mid mid new does.turns dev g there)) is)
            (ap (is_kept_for dev) does.does.kept ∙ is);
      })

  module _ (laws : Laws) where
    on : (old : MachineState) (deed : Deed) (new : MachineState) (does : Does old deed new) → HasRules old → HasRules new → GathersDue old → IsFree dev deed
        → (f : Feed) → Stale old.controller f → Stale new.controller f
    on old deed new does rules rules_new due free f was =
        calls_stale (deed_calls old deed new does) old.controller new.controller (deed_are dev old deed new does free) (laws.goes old deed new does rules rules_new due) f was

    quiet_step : (old : MachineState) (deed : Deed) (new : MachineState) → Quiet old new → ((f : Feed) → Stale old.controller f → Stale new.controller f) → OldFeed old → OldFeed new
    quiet_step old deed new quiet on' was = record {
      read = λ g there off. elim quiet.kept [
        | inl same ↦ from_old old new g on' was (quiet.from dev g there) (ap (is_kept_for dev) (sym same) ∙ off)
        | inr none ↦ no_read (gathering_at new dev) g (none.none dev) there
      ];
    }

    turns_step : (old : MachineState) (said : Next) (new : MachineState) (does : Does old (Moved (act.Turns said)) new) → HasRules old → HasRules new → GathersDue old
        → OldFeed old → OldFeed new
    turns_step old said new does rules rules_new due was =
        let mid : MachineState = does.middle in
        let kept = ap (λ (m : MachineState). m.kept) does.turns ∙ ap (λ (m : MachineState). m.kept) does.does.rest in
        record {
          read = λ g there off.
              from_old old new g (on old (Moved (act.Turns said)) new does rules rules_new due (kept_off said dev (ap (is_kept_for dev) (sym kept) ∙ off))) was
              (turns_from old mid said does.does dev g (stays.at_mid mid new does.turns dev g there)) (ap (is_kept_for dev) does.does.none);
        }

    rests_kept : (old mid : MachineState) → acts.RestsNow old mid → is_kept_for dev mid.kept ≡ false → is_kept_for dev old.kept ≡ false
    rests_kept old mid (inl same) off = ap (λ (m : MachineState). is_kept_for dev m.kept) (sym same) ∙ off
    rests_kept old mid (inr turns) off = ap (is_kept_for dev) turns.none

    rests_step : (old new : MachineState) (does : Does old (Moved act.Rests) new) → HasRules old → HasRules new → GathersDue old → OldFeed old → OldFeed new
    rests_step old new does rules rules_new due was =
        let mid : MachineState = does.middle in
        let kept = ap (λ (m : MachineState). m.kept) does.turns in
        record {
          read = λ g there off.
              from_old old new g (on old (Moved act.Rests) new does rules rules_new due tt) was (rests_from old mid does.does dev g (stays.at_mid mid new does.turns dev g there))
              (rests_kept old mid does.does (ap (is_kept_for dev) (sym kept) ∙ off));
        }

    step : (old : MachineState) (deed : Deed) (new : MachineState) (does : Does old deed new) → HasRules old → HasRules new → GathersDue old → OldFeed old
        → OldFeed new ⊎ Anew old deed new does
    step old (Moved (act.Does said)) new does rules rules_new due was = does_step old said new does was (is_feed_to dev said) refl
    step old (Moved (act.Turns said)) new does rules rules_new due was = inl (turns_step old said new does rules rules_new due was)
    step old (Moved act.Rests) new does rules rules_new due was = inl (rests_step old new does rules rules_new due was)
    step old (Moved a) new does rules rules_new due was =
        inl (quiet_step old (Moved a) new (deed_quiet old (Moved a) new tt does) (on old (Moved a) new does rules rules_new due tt) was)
    step old deed new does rules rules_new due was =
        inl (quiet_step old deed new (deed_quiet old deed new tt does) (on old deed new does rules rules_new due tt) was)

    -- behind a moment at which what was read is not for the slot: it is so still, or what goes was read since then
    pub since : (deeds : List Deed) (old now : MachineState) (run : RunsRuled old deeds now) → GathersDue old → OldFeed old
        → OldFeed now ⊎ ((x y : List ℕ) → came_in dev x old deeds now run ≡ came_in dev y old deeds now run)
    since [] old now run due was = inl (subst OldFeed (sym run.1) was)
    since (deed ∷ later) old now run due was =
        let mid : MachineState = run.1.0 in
        let rules : HasRules mid = first_ruled later mid now run.1.2 in
        elim (step old deed mid run.1.1 run.0 rules due was) [
          | inl same ↦ elim (since later mid now run.1.2 (laws.due old deed mid run.1.1 due) same) [
            | inl still ↦ inl still
            | inr any ↦ inr (λ x y. any (came_by dev old deed mid run.1.1 x) (came_by dev old deed mid run.1.1 y))
          ]
          | inr anew' ↦ inr (λ x y. ap (λ (z : List ℕ). came_in dev z mid later now run.1.2) (anew' x ∙ sym (anew' y)))
        ]

-- ---- as the command goes

-- what is set up for a device, and activated
record IsSetUp (c : ControllerState) (dev : ℕ) : Type 0 where
  context : Context
  is : context_of c.core.slots dev ≡ Some context
  active : context.activated ≡ true

set_up_by : (c : ControllerState) (dev : ℕ) (x : Context) → context_of c.core.slots dev ≡ Some x → (b : Bool) → x.activated ≡ b
    → is_some {T = ℕ × ℕ × ℕ} (if b then Some (x.slot, x.next, payload_len x) else None) ≡ true → IsSetUp c dev
set_up_by c dev x is true active due = record { context = x; is = is; active = active }
set_up_by c dev x is false active due = absurd (false≢true due)

set_up : (c : ControllerState) (dev : ℕ) (o : Option Context) → context_of c.core.slots dev ≡ o → is_some (payload o) ≡ true → IsSetUp c dev
set_up c dev None is due = absurd (false≢true due)
set_up c dev (Some x) is due = set_up_by c dev x is x.activated refl due

record HasTransfer (o : Option Transfer) (work : Work) : Type 0 where
  transfer : Transfer
  is : o ≡ Some transfer
  same : transfer.work ≡ work

has_transfer : (o : Option Transfer) (work : Work) → option_map work_of_transfer o ≡ Some work → HasTransfer o work
has_transfer None work e = absurd (cc)
has_transfer (Some t) work e = record { transfer = t; is = refl; same = same_Some t.work work e }

abbrev tag_or : ℕ → Option Counted → ℕ
tag_or n None = n
tag_or n (Some c) = c.tag

or_true : (a b : Bool) → (a || b) ≡ true → (a ≡ true) ⊎ (b ≡ true)
or_true true b e = inl refl
or_true false b e = inr e

-- its command was sent
was_sent : (dev : ℕ) (x : Context) (i : Issue) → IsIssue i → IsContextOf dev x i → i.sent ≡ true
was_sent dev x i is of = elim (or_true (is_outstanding i) (is_under_way i) of.goes) [
  | inl out ↦ (is.answers (and_parts (is_queued_issue i) i.answered out).1).1
  | inr way ↦ (and_parts i.sent (needs_all i.work.kind) way).0
]

module _ (laws : for_slot.Laws) (dev tag : ℕ) (low : dev < 16) where
  -- as a command goes from the slot, what is wanted for the device is for another
  stale_at : (m : MachineState) (good : for_slot.Good laws m) (k : IsController m.controller) → HasQueued dev m.controller → (once : (c' : ControllerState) × IsOrderedOnce tag m.controller.core c'.core)
      → (g : GatheringState) → gathering_at m dev ≡ Some g → is_kept_for dev m.kept ≡ false → Stale dev tag low m.controller g.feed
  stale_at m good k queued once g there off fed due slot =
      let c : ControllerState = m.controller in
      let up : IsSetUp c dev = set_up c dev (context_of c.core.slots dev) refl due in
      let x : Context = up.context in
      let is : IsContext dev c.core.slots x = subst (λ (o : Option Context). MatchOption o (Unit {0}) (IsContext dev c.core.slots)) up.is (k.slots.contexts dev) in
      let i = match_is (IsContextOf dev x) (issue_at c.core.slots x.slot) is.1 in
      let issue : Issue = i.0 in
      let of : IsContextOf dev x issue = i.1.1 in
      let kind : issue.work.kind ≡ QueuedWrite = write_kind issue.work.kind (queued x.slot issue i.1.0 of.of_dev) (of.way ∙ (of.activates up.active).0) in
      let long = k.slots.slots in
      let below = is.0 in
      let mine : own_issue (view_of dev c.core).slots x.slot ≡ Some issue =
      subst (λ (d : ℕ). own_issue (slots_of d c.core.slots) x.slot ≡ Some issue) of.of_dev (own_here x.slot c.core.slots issue (omega (arith, long, below)) i.1.0) in
      let b : OneUp dev c.core g.feed.slot g.feed.offset = good.held.read dev g there off fed due in
      let set : is_set_up x.slot b.past ≡ true =
      (b.told.agrees.issues_agree x.slot issue mine).set_up_is ∙ ap (is_for x.slot) up.is ∙ eq-eqb x.slot x.slot refl in
      let same : x.slot ≡ tag = (b.one x.slot set).0 ∙ slot in
      let issue_is : issue ≡ once.1.issue =
      same_Some issue once.1.issue (sym i.1.0 ∙ ap (issue_at c.core.slots) same ∙ once.1.was) in
      let whole : IsIssue issue = subst (λ (o : Option Issue). MatchOption o (Unit {0}) IsIssue) i.1.0 (k.slots.issues x.slot) in
      false≢true (sym once.1.unsent ∙ ap (λ (j : Issue). j.sent) (sym issue_is) ∙ was_sent dev x issue whole of)

  -- What goes of the slot, behind a command that went from it, was read behind this.
  pub read_since : (m : MachineState) → for_slot.Good laws m → HasRules m → HasQueued dev m.controller → (d : ℕ) (fis : List ℕ) (next' : MachineState)
      → (does : Does m (Moved (act.Turns (next.Order d tag fis))) next') → tag < 32 → (later : List Deed) (now : MachineState) (run : RunsRuled next' later now)
      → (g : GatheringState) → gathering_at now dev ≡ Some g → is_kept_for dev now.kept ≡ false → is_fed now.controller.wants dev g.feed.number ≡ true
      → due_to now.controller dev ≡ true → g.feed.slot ≡ tag → (x y : List ℕ) → came_in dev x next' later now run ≡ came_in dev y next' later now run
  read_since m good rules queued d fis next' does tag_low later now run g there off fed due slot x y =
      let order : Deed = Moved (act.Turns (next.Order d tag fis)) in
      let rules_next : HasRules next' = first_ruled later next' now run in
      let goes : Runs m.controller (call.Turned (next.Order d tag fis) ∷ []) next'.controller = laws.goes m order next' does rules rules_next good.due in
      let k : IsController m.controller = kept_rules m rules in
      let long = k.slots.slots in
      let once : IsOrderedOnce tag m.controller.core goes.1.0.core = ordered_once m.controller goes.1.0 d tag fis (omega (arith, long, tag_low)) goes.1.1 in
      let was : OldFeed dev tag low m = record { read = λ g' at off'. stale_at m good k queued (goes.1.0, once) g' at off' } in
      let step : RunsRuled m (order ∷ later) now = (rules, (next', does, run)) in
      elim (since dev tag low (record { goes = laws.goes; due = laws.stays }) (order ∷ later) m now step good.due was) [
        | inl still ↦ absurd (still.read g there off fed due slot)
        | inr any ↦ any x y
      ]
