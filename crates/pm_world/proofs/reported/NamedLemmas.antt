-- For `polled_errors_are_named`. A request that is polled as failed by its device was named by the device's error log,
-- in a tick of the run.
use Rattle.std.proofs.Common.{◌≡◌, ◌⊎◌, ℕ, true, false, List, [], ◌∷◌, drop, length, map, refl, sym, ap, subst, ◌∙◌, inl, inr, Some}
use Rattle.fis_view.specs.Frames.{Stamped}
use Rattle.hba_driver.specs.declared.{request.Outcome.{Outcome, TheVariants.DeviceError}, slot.Phase.{Phase, TheVariants.{Waits, Ended}}}
use Rattle.hba_driver.specs.{Drivers.{Driver, Entry, entry_at, has_ended_in}, HostTurns.{DoesAll, Host, HostTurn, Pushed, Submitted, Ticked, Took}}
use Rattle.hba_driver.specs.{HostTurns.sight_in, Laws.Goes, Sights.file_shown, Between.{Fresh, PollFacts, Stood, ticks}}
use Rattle.hba_driver.proofs.Door as accept
use Rattle.hba_driver.proofs.Door.{comes_from, errors_are_named, poll_facts}
use Rattle.pm_world.specs.{Named.{IsNamedIn, PolledErrorsAreNamed}, Places.{Places, new_world}, Rules.Run, Turns.turn_of, declared.step.Step.Step}
use Rattle.pm_world.specs.declared.step.Answer.{Answer}
use Rattle.pm_world.specs.declared.step.Step.TheVariants as step
use Rattle.pm_world.specs.declared.step.Answer.TheVariants as answer
use Rattle.pm_world.proofs.{turns.HostFold.rule_does, reported.ReportedLemmas.{first_of, later_of}}

-- ## Turns that are no ticks

abbrev NoTicks : List HostTurn → Type 0
NoTicks [] = Prim.Unit {0}
NoTicks (t ∷ ts) = (ticks t ≡ false) × NoTicks ts

pushed_unticked : (frames : List Stamped) → NoTicks (map (λ frame. Pushed (Some frame)) frames)
pushed_unticked [] = tt
pushed_unticked (f ∷ frames) = (refl, pushed_unticked frames)

abbrev IsUnticked : Answer → Type 0
IsUnticked answer.Ticked = ⊥
IsUnticked a = Prim.Unit {0}

unticked : (old : Places) (s : Step) (a : Answer) (new : Places) → IsUnticked a → NoTicks (turn_of old s a new)
unticked old s answer.Ticked new calm = absurd calm
unticked old s (answer.Took port conn number bytes report) new calm = (refl, tt)
unticked old step.HostPush answer.Pushed new calm = pushed_unticked (drop (length old.downward.frames) new.downward.frames)
unticked old step.HostPush answer.Idle new calm = (refl, tt)
unticked old s (answer.Polled c) new calm = (refl, tt)
unticked old (step.Put at bytes) answer.Put new calm = (refl, tt)
unticked old (step.Submit dev request) (answer.Submitted ticket) new calm = (refl, tt)
unticked old s a new calm = tt

-- a request that comes has not ended
waits_first : (old : Driver) (t : HostTurn) (slot : ℕ) (f : Entry) (outcome : Outcome) → f.head.phase ≡ Ended outcome → Fresh old t slot f → ⊥
waits_first old (Submitted dev request ticket) slot f outcome ended fresh =
    let bad : Waits ≡ Ended outcome = ap (λ (x : Entry). x.head.phase) fresh.1 ∙ ended in cc bad
waits_first old other slot f outcome ended fresh = fresh

same_over : (turns : List HostTurn) (old new : Host) → DoesAll old turns new → NoTicks turns → (slot : ℕ) (f : Entry) (outcome : Outcome)
    → f.head.phase ≡ Ended outcome → entry_at new.driver.entries slot ≡ Some f → entry_at old.driver.entries slot ≡ Some f
same_over [] old new run none slot f outcome ended here = ap (λ (h : Host). entry_at h.driver.entries slot) (sym run) ∙ here
same_over (t ∷ turns) old new run none slot f outcome ended here =
    let mid : entry_at run.0.driver.entries slot ≡ Some f = same_over turns run.0 new run.2 none.1 slot f outcome ended here in
    elim (comes_from old t run.0 run.1 slot f mid) [
      | inl stood ↦ stood.here ∙ ap Some (sym (stood.still none.0))
      | inr fresh ↦ absurd (waits_first old.driver t slot f outcome ended fresh)
    ]

-- ## A tick

-- the request stood there, and had ended in this way
record HadEnded (old : Places) (slot ticket : ℕ) (outcome : Outcome) : Type 0 where
  entry : Entry
  here : entry_at old.host.driver.entries slot ≡ Some entry
  ticket_is : entry.head.ticket ≡ ticket
  ended : entry.head.phase ≡ Ended outcome

module _ (slot status error : ℕ) where
  abbrev Named : (old new : Places) (steps : List Step) (answers : List Answer) → Run old steps answers new → ℕ → Type 0
  Named old new steps answers run ticket = IsNamedIn ticket slot status error old new steps answers run

  ticked : (s : Step) (steps : List Step) (answers : List Answer) (old new : Places) (run : Run old (s ∷ steps) (answer.Ticked ∷ answers) new) (f : Entry)
      → f.head.phase ≡ Ended (DeviceError status error) → entry_at run.0.host.driver.entries slot ≡ Some f
      → HadEnded old slot f.head.ticket (DeviceError status error) ⊎ Named old new (s ∷ steps) (answer.Ticked ∷ answers) run f.head.ticket
  ticked s steps answers old new run f ended here = by_stood (comes_from old.host (Ticked true) does.0 does.1 slot f there)
    where
      does : DoesAll old.host (Ticked true ∷ []) run.0.host
      does = rule_does old s answer.Ticked run.0 run.1

      there : entry_at does.0.driver.entries slot ≡ Some f
      there = ap (λ (h : Host). entry_at h.driver.entries slot) (sym does.2) ∙ here

      now_named : (e : Entry) → entry_at old.host.driver.entries slot ≡ Some e → f.head.ticket ≡ e.head.ticket → has_ended_in e.head.phase ≡ false
          → Named old new (s ∷ steps) (answer.Ticked ∷ answers) run f.head.ticket
      now_named e stands same unended = record {
        s = s;
        ticked = first_of s answer.Ticked steps answers old new run;
        entry = e;
        there = stands;
        ticket_is = sym same;
        unended = unended;
        named = errors_are_named (sight_in old.host) (file_shown does.0.port) old.host.driver slot e f status error stands unended
            (ap (λ (d : Driver). entry_at d.entries slot) (sym does.1.driver) ∙ there) ended;
      }

      by_phase : (e : Entry) → entry_at old.host.driver.entries slot ≡ Some e → f.head.ticket ≡ e.head.ticket → (p : Phase) → e.head.phase ≡ p → Goes p f.head.phase
          → HadEnded old slot f.head.ticket (DeviceError status error) ⊎ Named old new (s ∷ steps) (answer.Ticked ∷ answers) run f.head.ticket
      by_phase e stands same (Ended outcome) is goes = inl (record { entry = e; here = stands; ticket_is = sym same; ended = is ∙ sym goes ∙ ended })
      by_phase e stands same other is goes = inr (now_named e stands same (ap has_ended_in is))

      by_stood : Stood old.host.driver (Ticked true) slot f ⊎ Fresh old.host.driver (Ticked true) slot f
          → HadEnded old slot f.head.ticket (DeviceError status error) ⊎ Named old new (s ∷ steps) (answer.Ticked ∷ answers) run f.head.ticket
      by_stood (inl stood) = by_phase stood.entry stood.here (ap (λ (x : Entry). x.head.ticket) stood.on.same) stood.entry.head.phase refl stood.on.goes
      by_stood (inr fresh) = absurd fresh

  one : (s : Step) (a : Answer) (steps : List Step) (answers : List Answer) (old new : Places) (run : Run old (s ∷ steps) (a ∷ answers) new) (f : Entry)
      → f.head.phase ≡ Ended (DeviceError status error) → entry_at run.0.host.driver.entries slot ≡ Some f
      → HadEnded old slot f.head.ticket (DeviceError status error) ⊎ Named old new (s ∷ steps) (a ∷ answers) run f.head.ticket
  one s answer.Ticked steps answers old new run f ended here = ticked s steps answers old new run f ended here
  one s a steps answers old new run f ended here =
      inl (record {
        entry = f;
        here = same_over (turn_of old s a run.0) old.host run.0.host (rule_does old s a run.0 run.1) (unticked old s a run.0 tt) slot f (DeviceError status error) ended here;
        ticket_is = refl;
        ended = ended;
      })

  -- ## A run

  later_named : (s : Step) (a : Answer) (steps : List Step) (answers : List Answer) (old new : Places) (run : Run old (s ∷ steps) (a ∷ answers) new) (ticket : ℕ)
      → Named run.0 new steps answers run.2 ticket → Named old new (s ∷ steps) (a ∷ answers) run ticket
  later_named s a steps answers old new run ticket i = record {
    s = i.s;
    ticked = later_of i.s answer.Ticked s a steps answers old new run i.ticked;
    entry = i.entry;
    there = i.there;
    ticket_is = i.ticket_is;
    unended = i.unended;
    named = i.named;
  }

  named_over : (old : Places) (steps : List Step) (answers : List Answer) (new : Places) (run : Run old steps answers new) (f : Entry)
      → f.head.phase ≡ Ended (DeviceError status error) → entry_at new.host.driver.entries slot ≡ Some f
      → HadEnded old slot f.head.ticket (DeviceError status error) ⊎ Named old new steps answers run f.head.ticket
  named_over old [] [] new run f ended here =
      inl (record { entry = f; here = ap (λ (x : Places). entry_at x.host.driver.entries slot) (sym run) ∙ here; ticket_is = refl; ended = ended })
  named_over old [] (a ∷ answers) new run f ended here = absurd run
  named_over old (s ∷ steps) [] new run f ended here = absurd run
  named_over old (s ∷ steps) (a ∷ answers) new run f ended here = by_later (named_over run.0 steps answers new run.2 f ended here)
    where
      by_one : (g : Entry) → g.head.ticket ≡ f.head.ticket
          → HadEnded old slot g.head.ticket (DeviceError status error) ⊎ Named old new (s ∷ steps) (a ∷ answers) run g.head.ticket
          → HadEnded old slot f.head.ticket (DeviceError status error) ⊎ Named old new (s ∷ steps) (a ∷ answers) run f.head.ticket
      by_one g same it =
          subst (λ (t : ℕ). HadEnded old slot t (DeviceError status error) ⊎ Named old new (s ∷ steps) (a ∷ answers) run t) same it

      by_later : HadEnded run.0 slot f.head.ticket (DeviceError status error) ⊎ Named run.0 new steps answers run.2 f.head.ticket
          → HadEnded old slot f.head.ticket (DeviceError status error) ⊎ Named old new (s ∷ steps) (a ∷ answers) run f.head.ticket
      by_later (inr named) = inr (later_named s a steps answers old new run f.head.ticket named)
      by_later (inl had) = by_one had.entry had.ticket_is (one s a steps answers old new run had.entry had.ended had.here)

pub polled_errors_are_named : PolledErrorsAreNamed
polled_errors_are_named config units fits steps answers now run c new status error rule failed =
    by_case (named_over c.slot status error (new_world config units) steps answers now run facts.entry (facts.ended ∙ ap Ended failed)
    (subst (λ (k : ℕ). entry_at now.host.driver.entries k ≡ Some facts.entry) (sym facts.slot_is) facts.there))
  where
    facts : PollFacts now.host.driver c
    facts = poll_facts now.host.driver c rule.0.polled

    by_case : HadEnded (new_world config units) c.slot facts.entry.head.ticket (DeviceError status error)
        ⊎ IsNamedIn facts.entry.head.ticket c.slot status error (new_world config units) now steps answers run
        → IsNamedIn c.ticket.0 c.slot status error (new_world config units) now steps answers run
    by_case (inl had) = accept.none_here c.slot had.entry had.here
    by_case (inr is) = subst (λ (t : ℕ). IsNamedIn t c.slot status error (new_world config units) now steps answers run) (sym facts.ticket) is
