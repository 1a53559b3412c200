-- For `done_was_reported`. What is known of the report of a request stays known in each turn.
use Rattle.std.proofs.Common.{◌≡◌, ◌≢◌, ℕ, ◌<◌, ◌⊎◌, Bool, true, false, List, refl, sym, ◌∙◌, ap, subst, inl, inr, arith, Some, None}
use Rattle.std.proofs.lemmas.Bool.{cases_Bool, false≢true, true≢false}
use Rattle.std.specs.{Prelude.{◌==◌, ◌||◌}, List.list_any}
use Rattle.slots.specs.Slots.{issue_at}
use Rattle.hba_fbs.specs.{declared.report.TakeReport.TakeReport, Views.Port}
use Rattle.hba_laws.proofs.Door.{own_in, some_inj}
use Rattle.hba_driver.specs.{declared.{mode.Mode.Mode, request.Outcome.TheVariants.Done, slot.Phase.{Phase, TheVariants.Waits}}, Seeing.Sight}
use Rattle.hba_driver.specs.{declared.slot.Phase.TheVariants.{Issued, Aside, Ended}, Done.completes, Drivers.{AreRequests, Driver, Entry, entry_at}}
use Rattle.hba_driver.specs.{Drivers.{has_ended, has_ended_in, is_aside_in, is_issued_in, rephased, waits_in}, HostTurns.{Does, Host, HostTurn, Took}}
use Rattle.hba_driver.specs.{HostTurns.{Pushed, Ticked, Submitted, issued_in_tick, sight_in}, Laws.{Goes, GoesOn, flushes}, Sights.file_shown}
use Rattle.hba_driver.specs.{Ticks.{after_tick, due, effects}, Between.{AllStand, Fresh, HasOut, IsOnWayIn, Reports, Stands, ticks}}
use Rattle.hba_driver.specs.declared.turn.Act.TheVariants as act
use Rattle.hba_driver.proofs.{requests.{ComeLemmas.comes_from, HistoryLemmas.requests_turn}, ends.DoneLemmas.done_is_free, done.OutLemmas.out_pushed}
use Rattle.hba_driver.proofs.{done.OutLemmas.{out_same, out_took}, ticks.ServeLemmas.ticks_serve, requests.StandLemmas.in_slots}
use Rattle.hba_driver.proofs.done.TrueLemmas.{IssuesIt, WentOut, ended_same, issued_act, issued_is, none_some, out_tick, tick_issues, wider, went_out}

-- ---- a request in its slot

stands_on : (P Q : ℕ → Entry → Type 0) (old new : Port) (s : ℕ) (e : Entry) (p : Phase) → (P s e → Q s e)
    → (p ≡ Issued → HasOut old s e.head.dev → Q s e ⊎ HasOut new s e.head.dev) → Stands P old s e p → Stands Q new s e p
stands_on P Q old new s e Issued on out (inl h) = inl (on h)
stands_on P Q old new s e Issued on out (inr h) = out refl h
stands_on P Q old new s e (Ended Done) on out h = on h
stands_on P Q old new s e other on out h = tt

pub all_wider : (P Q : ℕ → Entry → Type 0) (h : Host) → ((s : ℕ) (e : Entry) → P s e → Q s e) → AllStand P h → AllStand Q h
all_wider P Q h wide all s e here = stands_on P Q h.port h.port s (rephased Waits e) e.head.phase (wide s (rephased Waits e)) (λ is out. inr out) (all s e here)

stands_fresh : (Q : ℕ → Entry → Type 0) (port : Port) (s : ℕ) (old : Driver) (t : HostTurn) (f : Entry) → Fresh old t s f → Stands Q port s (rephased Waits f) f.head.phase
stands_fresh Q port s old (Submitted dev request ticket) f is = subst (λ (x : Entry). Stands Q port s (rephased Waits x) x.head.phase) is.1 tt
stands_fresh Q port s old other f is = absurd is

-- ---- a turn

as_issued : (e : Entry) → e.head.phase ≡ Issued → e ≡ rephased Issued (rephased Waits e)
as_issued e is = ap (λ (p : Phase). rephased p e) is

-- what ended as Done was reported
stands_free : (P : ℕ → Entry → Type 0) (port : Port) (s : ℕ) (e : Entry) (p : Phase) → issue_at port.slots s ≡ None → is_issued_in p ≡ true → Stands P port s e p → P s e
stands_free P port s e Issued free is (inl h) = h
stands_free P port s e Issued free is (inr h) = none_some h.issue (sym free ∙ (own_in e.head.dev s port.slots h.issue h.is).1)
stands_free P port s e other free is h = absurd (false≢true is)

module _ {mode : Mode} (P Q : ℕ → Entry → Type 0) (old : Host) (w : IsOnWayIn mode old) (stand : AllStand P old) (on : (s : ℕ) (e : Entry) → P s e → Q s e) where
  low_slot : (s : ℕ) (e : Entry) → entry_at old.driver.entries s ≡ Some e → s < 32
  low_slot s e here = wider s 30 32 (in_slots old.driver.entries s e w.served.bounded.slots here) (omega arith)

  low_dev : (s : ℕ) (e : Entry) → entry_at old.driver.entries s ≡ Some e → e.head.dev < 16
  low_dev s e here = wider e.head.dev 15 16 (w.served.bounded.entries s e here).dev (omega arith)

  -- a turn that is no tick
  calm_stands : (t : HostTurn) (new : Host) → Does old t new → ticks t ≡ false
      → ((s : ℕ) (e : Entry) → entry_at old.driver.entries s ≡ Some e → e.head.phase ≡ Issued → HasOut old.port s e.head.dev → Q s (rephased Waits e) ⊎ HasOut new.port s e.head.dev)
      → AllStand Q new
  calm_stands t new does calm out s f here = elim (comes_from old t new does s f here) [
    | inr fresh ↦ stands_fresh Q new.port s old.driver t f fresh
    | inl stood ↦
        let was : entry_at old.driver.entries s ≡ Some f = stood.here ∙ ap Some (sym (stood.still calm)) in
        stands_on P Q old.port new.port s (rephased Waits f) f.head.phase (on s (rephased Waits f)) (λ is h. out s f was is h) (stand s f was)
  ]

  took_stands : (frame : List ℕ) (report : TakeReport) (new : Host) → Does old (Took frame report) new
      → ((s : ℕ) (e : Entry) → Reports old (Took frame report) s e → Q s e) → AllStand Q new
  took_stands frame report new does reports = calm_stands (Took frame report) new does refl by_report
    where
      by_report : (s : ℕ) (e : Entry) → entry_at old.driver.entries s ≡ Some e → e.head.phase ≡ Issued → HasOut old.port s e.head.dev
          → Q s (rephased Waits e) ⊎ HasOut new.port s e.head.dev
      by_report s e here is out = elim (cases_Bool (completes s e.head.dev (Took frame report))) [
        | inl done ↦ inl (reports s (rephased Waits e) (here ∙ ap Some (as_issued e is), done))
        | inr none ↦ inr (out_took old new frame report w.past s e.head.dev does w.sound w.served (low_slot s e here) (low_dev s e here) none out)
      ]

  -- ---- a tick

  module _ (a : Bool) (new : Host) (does : Does old (Ticked a) new) where
    abbrev v : Sight
    v = sight_in old

    here_after : (s : ℕ) (f : Entry) → entry_at new.driver.entries s ≡ Some f → entry_at (after_tick v (file_shown new.port) old.driver).entries s ≡ Some f
    here_after s f here = ap (λ (d : Driver). entry_at d.entries s) (sym does.driver) ∙ here

    module _ (s : ℕ) (f : Entry) (here : entry_at new.driver.entries s ≡ Some f) (e : Entry) (was : entry_at old.driver.entries s ≡ Some e) (goes : GoesOn e f) where
      dev_is : e.head.dev ≡ f.head.dev
      dev_is = ap (λ (x : Entry). x.head.dev) (sym goes.same)

      waited : rephased Waits e ≡ rephased Waits f
      waited = ap (rephased Waits) (sym goes.same)

      known : P s (rephased Waits e) → Q s (rephased Waits f)
      known p = subst (λ (x : Entry). Q s x) waited (on s (rephased Waits e) p)

      -- the tick issues it
      goes_out : waits_in e.head.phase ≡ true → f.head.phase ≡ Issued → HasOut new.port s f.head.dev
      goes_out waits is =
          let issued : list_any (λ y. y == e.head.ticket) (issued_in_tick v old.driver) ≡ true =
          tick_issues v (file_shown new.port) old.driver s e f was (here_after s f here) waits (issued_is f.head.phase is) in
          let i : IssuesIt v old.driver e.head.ticket = issued_act v old.driver e.head.ticket (due v old.driver) refl issued in
          let o : WentOut old new e.head.ticket = went_out old a new e.head.ticket does w i in
          let next : AreRequests new.driver.given new.driver.entries = requests_turn old (Ticked a) new does w.sound.requests in
          let ticket_is : f.head.ticket ≡ o.entry.head.ticket = ap (λ (x : Entry). x.head.ticket) goes.same ∙ sym o.of_ticket in
          let at : s ≡ o.slot = next.own s o.slot f (rephased Issued o.entry) here o.after ticket_is in
          let there : entry_at new.driver.entries s ≡ Some (rephased Issued o.entry) = subst (λ (k : ℕ). entry_at new.driver.entries k ≡ Some (rephased Issued o.entry)) (sym at) o.after in
          let same : f ≡ rephased Issued o.entry = some_inj f (rephased Issued o.entry) (sym here ∙ there) in
          let to : o.entry.head.dev ≡ f.head.dev = ap (λ (x : Entry). x.head.dev) (sym same) in
          subst (λ (n : ℕ). HasOut new.port s n) to (subst (λ (k : ℕ). HasOut new.port k o.entry.head.dev) (sym at) o.issued)

      -- it stays issued
      stays_out : f.head.phase ≡ Issued → HasOut old.port s e.head.dev → HasOut new.port s f.head.dev
      stays_out is out =
          subst (λ (n : ℕ). HasOut new.port s n) dev_is (out_tick old a new s e.head.dev does w (low_dev s e was) unflushed unstopped uncleared out)
        where
          unflushed : list_any (flushes e.head.dev) (effects v old.driver) ≡ false
          unflushed = elim (cases_Bool (list_any (flushes e.head.dev) (effects v old.driver))) [
            | inl flushed ↦ absurd (false≢true (sym (ap has_ended_in is) ∙ ticks_serve.ends v (file_shown new.port) old.driver e.head.dev s f flushed (here_after s f here) (sym dev_is)))
            | inr other ↦ other
          ]

          unstopped : due v old.driver ≡ Some act.Stops → ⊥
          unstopped stops = false≢true (sym (ap has_ended_in is) ∙ ticks_serve.stops v (file_shown new.port) old.driver s f stops (here_after s f here))

          uncleared : (k : ℕ) → due v old.driver ≡ Some (act.Clears k) → e.head.dev ≢ k
          uncleared k clears same =
              false≢true (sym (ap (λ (p : Phase). is_aside_in p || has_ended_in p) is)
              ∙ ticks_serve.withdraws v (file_shown new.port) old.driver k s f clears (here_after s f here) (sym dev_is ∙ same))

      issued_stands : f.head.phase ≡ Issued → (p : Phase) → e.head.phase ≡ p → Q s (rephased Waits f) ⊎ HasOut new.port s f.head.dev
      issued_stands is Waits before = inr (goes_out (ap waits_in before) is)
      issued_stands is Issued before = elim (subst (λ (p : Phase). Stands P old.port s (rephased Waits e) p) before (stand s e was)) [
        | inl p ↦ inl (known p)
        | inr out ↦ inr (stays_out is out)
      ]
      issued_stands is Aside before =
          let bad : Goes Aside Issued = subst (λ (p : Phase). Goes Aside p) is (subst (λ (p : Phase). Goes p f.head.phase) before goes.goes) in
          absurd (true≢false bad)
      issued_stands is (Ended o) before =
          let same : f.head.phase ≡ e.head.phase = ended_same e.head.phase f.head.phase goes.goes (ap has_ended_in before) in
          let bad : Issued ≡ Ended o = sym is ∙ same ∙ before in
          absurd (false≢true (sym (ap is_issued_in bad)))

      done_stands : f.head.phase ≡ Ended Done → Q s (rephased Waits f)
      done_stands is = elim (cases_Bool (has_ended e.head)) [
        | inl ended ↦
            let before : e.head.phase ≡ Ended Done = sym (ended_same e.head.phase f.head.phase goes.goes ended) ∙ is in
            known (subst (λ (p : Phase). Stands P old.port s (rephased Waits e) p) before (stand s e was))
        | inr going ↦
            let free = done_is_free old.driver.plan.mode old.port old.memory (file_shown new.port) old.driver s e f w.sound.ruled.table w.sound.requests was going (here_after s f here) is in
            known (stands_free P old.port s (rephased Waits e) e.head.phase free.1 free.0 (stand s e was))
      ]

      as_phase : (p : Phase) → f.head.phase ≡ p → Stands Q new.port s (rephased Waits f) p → Stands Q new.port s (rephased Waits f) f.head.phase
      as_phase p is h = subst (λ (x : Phase). Stands Q new.port s (rephased Waits f) x) (sym is) h

      by_phase : (p : Phase) → f.head.phase ≡ p → Stands Q new.port s (rephased Waits f) f.head.phase
      by_phase Issued is = as_phase Issued is (issued_stands is e.head.phase refl)
      by_phase (Ended Done) is = as_phase (Ended Done) is (done_stands is)
      by_phase other is = as_phase other is tt

    tick_stands : AllStand Q new
    tick_stands s f here = elim (comes_from old (Ticked a) new does s f here) [
      | inr fresh ↦ absurd fresh
      | inl stood ↦ by_phase s f here stood.entry stood.here stood.on f.head.phase refl
    ]

  -- ---- any turn

  pub turn_stands : (t : HostTurn) (new : Host) → Does old t new → ((s : ℕ) (e : Entry) → Reports old t s e → Q s e) → AllStand Q new
  turn_stands (Took frame report) new does reports = took_stands frame report new does reports
  turn_stands (Pushed frame) new does reports =
      calm_stands (Pushed frame) new does refl (λ s e here is out. inr (out_pushed old new frame w.past s e.head.dev does w.sound w.served (low_dev s e here) out))
  turn_stands (Ticked a) new does reports = tick_stands a new does
  turn_stands other new does reports = calm_stands other new does refl (λ s e here is out. inr (out_same old.port new.port s e.head.dev does.port out))
