-- What ends a command, by what its device's history says.
use Rattle.std.proofs.Common.{◌≡◌, ℕ, ◌<◌, Bool, true, false, length, refl, sym, ap, subst, ◌∙◌, inl, inr, arith, Option, Some, None, bit_or}
use Rattle.std.proofs.lemmas.Bool.{cases_Bool, false≢true, true≢false}
use Rattle.std.specs.Prelude.{MatchOption, is_some, not}
use Rattle.slots.specs.{Commands.{is_unanswered, slots_where}, Slots.{Issue, has_bit, holds, is_queued_issue, issue_at, own_issue, slots_of}}
use Rattle.slots.specs.Table.{IsIssue, IsTable}
use Rattle.slots.proofs.Door.{has_bit_mask}
use Rattle.ahci_registers.specs.declared.register.Register.TheVariants.{PxCi}
use Rattle.hba_fbs.specs.{Reading.value_of, Views.Port}
use Rattle.hba_laws.specs.{CoreHistories.CoreFreedByOwn, History.History}
use Rattle.hba_laws.proofs.Door.{held, own_here, own_in}
use Rattle.ahci_controller.specs.{Access.fits as fits_width, Fetching.{fits, is_asked}, Next.{is_fed, next_write}, Reading.shown}
use Rattle.ahci_controller.specs.States.{ControllerState}
use Rattle.ahci_controller.proofs.Door.{or_left, or_none, or_right}
use Rattle.controller_laws.specs.{CoreEvents.{AreCoreEvents, of_event}, Ends.{AreTold, Falls, IssuesFall}, Events.{Does, Event, IsController}}
use Rattle.controller_laws.specs.Events as event
use Rattle.controller_laws.proofs.FallLemmas.{Goes, Keeps, Stands, gather_stands, miss_goes, not_there_stands, said_stands, supply_goes, take_stands}
use Rattle.controller_laws.proofs.FallLemmas.{turn_stands, wide_falls, write_falls, Goes.{Placed, Waits}, Keeps.{Still, Stopped}, Stands.Fails}
use Rattle.controller_laws.proofs.FallLemmas.Stands.{Reads}

-- ---- what PxCI shows

ci_is : (c : ControllerState) → shown PxCi c ≡ bit_or (bit_or (slots_where is_unanswered c.core.slots) c.wants.pending) c.own.bad
unfolding shown value_of
ci_is c = refl

record IsGone (c : ControllerState) (s : ℕ) : Type 0 where
  issued : has_bit (slots_where is_unanswered c.core.slots) s ≡ false
  pending : has_bit c.wants.pending s ≡ false
  bad : has_bit c.own.bad s ≡ false

not_shown : (a b s : ℕ) → has_bit (bit_or a b) s ≡ false → (has_bit a s ≡ false) × (has_bit b s ≡ false)
not_shown a b s gone = (part (has_bit a s) refl, other (has_bit b s) refl)
  where
    part : (h : Bool) → has_bit a s ≡ h → has_bit a s ≡ false
    part false e = e
    part true e = absurd (false≢true (sym gone ∙ or_left a b s e))

    other : (h : Bool) → has_bit b s ≡ h → has_bit b s ≡ false
    other false e = e
    other true e = absurd (false≢true (sym gone ∙ or_right a b s e))

is_gone : (c : ControllerState) (s : ℕ) → has_bit (shown PxCi c) s ≡ false → IsGone c s
is_gone c s gone =
    let issued : ℕ = slots_where is_unanswered c.core.slots in
    let outer = not_shown (bit_or issued c.wants.pending) c.own.bad s (sym (ap (λ (m : ℕ). has_bit m s) (ci_is c)) ∙ gone) in
    let inner = not_shown issued c.wants.pending s outer.0 in
    record { issued = inner.0; pending = inner.1; bad = outer.1 }

-- a slot's bit is shown for one of these reasons
data IsThere (c : ControllerState) (s : ℕ) : Type 0 where
  Issued : has_bit (slots_where is_unanswered c.core.slots) s ≡ true → IsThere c s
  Stood : Stands s c → IsThere c s

is_there : (c : ControllerState) (s : ℕ) → has_bit (shown PxCi c) s ≡ true → IsThere c s
is_there c s here = by (has_bit issued s) (has_bit c.wants.pending s) (has_bit c.own.bad s) refl refl refl
  where
    issued : ℕ
    issued = slots_where is_unanswered c.core.slots

    by : (i p b : Bool) → has_bit issued s ≡ i → has_bit c.wants.pending s ≡ p → has_bit c.own.bad s ≡ b → IsThere c s
    by true p b ei ep eb = Issued ei
    by false true b ei ep eb = Stood (Reads ep)
    by false false true ei ep eb = Stood (Fails eb)
    by false false false ei ep eb =
        absurd (false≢true (sym (ap (λ (m : ℕ). has_bit m s) (ci_is c) ∙ or_none (bit_or issued c.wants.pending) c.own.bad s (or_none issued c.wants.pending s ei ep) eb) ∙ here))

not_gone : (c : ControllerState) (s : ℕ) → IsGone c s → Stands s c → ⊥
not_gone c s gone (Reads here) = false≢true (sym gone.pending ∙ here)
not_gone c s gone (Fails here) = false≢true (sym gone.bad ∙ here)

-- ---- what is issued

answered_is : (o : Option Issue) → MatchOption o (Unit {0}) IsIssue → is_some o ≡ true → holds is_unanswered o ≡ false → holds is_queued_issue o ≡ true
answered_is None ok some gone = absurd (false≢true some)
answered_is (Some i) ok some gone = (ok.answers (answered i.answered gone)).0
  where
    answered : (b : Bool) → not b ≡ false → b ≡ true
    answered true h = refl
    answered false h = absurd (true≢false h)

-- what is issued still, and is not shown, was answered
still_queued : (port : Port) (s : ℕ) → s < 32 → IsTable port.slots → has_bit (slots_where is_unanswered port.slots) s ≡ false → is_some (issue_at port.slots s) ≡ true → holds is_queued_issue (issue_at port.slots s) ≡ true
still_queued port s below ok gone some =
    answered_is (issue_at port.slots s) (ok.issues s) some (sym (has_bit_mask (λ slot. holds is_unanswered (issue_at port.slots slot)) s below) ∙ gone)

some_of : (o : Option Issue) (i : Issue) → o ≡ Some i → is_some o ≡ true
some_of o i is = ap is_some is

owned_there : (n s : ℕ) (port : Port) (o : Option Issue) → own_issue (slots_of n port.slots) s ≡ o → is_some o ≡ true → is_some (issue_at port.slots s) ≡ true
owned_there n s port None is some = absurd (false≢true some)
owned_there n s port (Some i) is some = some_of (issue_at port.slots s) i (own_in n s port.slots i is).1

issued_falls : (freed : CoreFreedByOwn) (s : ℕ) (past : ℕ → History) (old new : ControllerState) (event : Event) (does : Does old event new) (are : AreCoreEvents old.core (of_event old event new does) new.core) → IsController old → IsController new → AreTold old.core past
    → s < 32 → IsGone new s → has_bit (slots_where is_unanswered old.core.slots) s ≡ true → Falls s past old event new does are.run
issued_falls freed s past old new event does are k k_new told below gone here =
    let h = held is_unanswered (issue_at old.core.slots s) (sym (has_bit_mask (λ slot. holds is_unanswered (issue_at old.core.slots slot)) s below) ∙ here) in
    let i : Issue = h.0 in
    let at : issue_at old.core.slots s ≡ Some i = h.1 in
    let issue : IsIssue i = subst (λ (o : Option Issue). MatchOption o (Unit {0}) IsIssue) at (k.slots.issues s) in
    let long : s < length old.core.slots.issues = let n = k.slots.slots in omega (arith, n, below) in
    let mine : own_issue (slots_of i.dev old.core.slots) s ≡ Some i = own_here s old.core.slots i long at in
    elim (cases_Bool (is_some (own_issue (slots_of i.dev new.core.slots) s))) [
      | inl some ↦ inr (inl (still_queued new.core s below k_new.slots gone.issued (owned_there i.dev s new.core (own_issue (slots_of i.dev new.core.slots) s) refl some)))
      | inr none ↦ inl (record {
        issue = i;
        was = at;
        freed = freed i.dev issue.dev_below old.core new.core (of_event old event new does) are.run are.sound (past i.dev) (told i.dev issue.dev_below) s (some_of _ i mine) none;
      })
    ]

-- ---- what was pending, or bad

placed_falls : (s : ℕ) (past : ℕ → History) (old new : ControllerState) (event : Event) (does : Does old event new) (are : AreCoreEvents old.core (of_event old event new does) new.core) → IsController new → s < 32 → IsGone new s → Goes s new
    → Falls s past old event new does are.run
placed_falls s past old new event does are k_new below gone (Waits now) = absurd (not_gone new s gone now)
placed_falls s past old new event does are k_new below gone (Placed some) = inr (inl (still_queued new.core s below k_new.slots gone.issued some))

kept_falls : (s : ℕ) (past : ℕ → History) (old new : ControllerState) (event : Event) (does : Does old event new) (are : AreCoreEvents old.core (of_event old event new does) new.core) → IsGone new s → Stands s new → Falls s past old event new does are.run
kept_falls s past old new event does are gone now = absurd (not_gone new s gone now)

stood_falls : (s : ℕ) (past : ℕ → History) (old new : ControllerState) (e : Event) (does : Does old e new) (are : AreCoreEvents old.core (of_event old e new does) new.core) → IsController old → IsController new → s < 32 → IsGone new s → Stands s old
    → Falls s past old e new does are.run
stood_falls s past old new (event.Wrote offset value written) does are k k_new below gone was = by (write_falls offset value s old new written does was)
  where
    by : Keeps s new → Falls s past old (event.Wrote offset value written) new does are.run
    by (Still now) = kept_falls s past old new (event.Wrote offset value written) does are gone now
    by (Stopped now) = inr (inr now)
stood_falls s past old new (event.WroteWide offset width value written) does are k k_new below gone was = elim (wide_falls (fits_width width offset) offset width value s old new written does was) [
  | inl now ↦ kept_falls s past old new (event.WroteWide offset width value written) does are gone now
  | inr stopped ↦ inr (inr stopped)
]
stood_falls s past old new (event.Supplied slot number bytes supply) does are k k_new below gone was =
    placed_falls s past old new (event.Supplied slot number bytes supply) does are k_new below gone (supply_goes (fits old slot number bytes) slot number s bytes old new supply refl below k.slots k_new.slots does was)
stood_falls s past old new (event.Missed slot number supply) does are k k_new below gone was =
    placed_falls s past old new (event.Missed slot number supply) does are k_new below gone (miss_goes (is_asked old.wants slot number) slot number s old new supply refl below does was)
stood_falls s past old new (event.Took frame took) does are k k_new below gone was = kept_falls s past old new (event.Took frame took) does are gone (take_stands frame s old new took does.hears was)
stood_falls s past old new (event.Left frame why) does are k k_new below gone was = kept_falls s past old new (event.Left frame why) does are gone (subst (Stands s) (sym does.1) was)
stood_falls s past old new (event.Turned next) does are k k_new below gone was = kept_falls s past old new (event.Turned next) does are gone (turn_stands (next_write old) s old new next does was)
stood_falls s past old new (event.Said write) does are k k_new below gone was = kept_falls s past old new (event.Said write) does are gone (said_stands s old new does.1 was)
stood_falls s past old new (event.Gathered dev number frame fed) does are k k_new below gone was =
    kept_falls s past old new (event.Gathered dev number frame fed) does are gone (gather_stands (is_fed old.wants dev number) dev s old new fed does.1 was)
stood_falls s past old new (event.NotThere dev number fed) does are k k_new below gone was =
    kept_falls s past old new (event.NotThere dev number fed) does are gone (not_there_stands (is_fed old.wants dev number) dev s old new fed does was)

pub issues_fall : CoreFreedByOwn → IssuesFall
issues_fall freed old new event k k_new does are past told s below shows hides = by (is_there old s shows)
  where
    gone : IsGone new s
    gone = is_gone new s hides

    by : IsThere old s → Falls s past old event new does are.run
    by (Issued here) = issued_falls freed s past old new event does are k k_new told below gone here
    by (Stood was) = stood_falls s past old new event does are k k_new below gone was
