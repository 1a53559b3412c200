-- For `done_is_true`. Done is true.
use Rattle.std.proofs.Common.{◌≡◌, ◌≢◌, ℕ, ◌<◌, ◌≤◌, ◌⊎◌, Bool, true, false, ◌&&◌, nat_lt, List, [], ◌∷◌, length, refl, sym, ◌∙◌, ap, subst, inl, inr, arith, Option, Some, None}
use Rattle.std.specs.{Prelude.{if◌then◌else◌, ◌==◌, ◌||◌, not}, List.list_any, Option.option_map}
use Rattle.std.proofs.lemmas.{Bool.{cases_Bool, false≢true, true≢false}, Bool.Decides.nat_tests, List.get_or-set_same}
use Rattle.host_memory.specs.Memory.{IsHostMemory, Memory}
use Rattle.hba_commands.specs.Requests.{request_of, work_of}
use Rattle.slots.specs.Slots.{has_bit, is_control, is_pio, issue_at, new_issue}
use Rattle.hba_fbs.specs.Views.{Port}
use Rattle.hba_laws.proofs.Door.{own_in, some_inj}
use Rattle.hba_driver.specs.declared.{effect.Effect.Effect, mode.Mode.Mode, order.Order.{Order, TheVariants.Clear}}
use Rattle.hba_driver.specs.declared.{path.Stage.{Stage as PathStage, TheVariants.AssertReset}, path.TaskFile.TaskFile, request.Completion.Completion}
use Rattle.hba_driver.specs.{declared.{request.Outcome.TheVariants.{Done, Aborted, Removed, PortError}, request.Work.Work}, Seeing.Sight}
use Rattle.hba_driver.specs.declared.{slot.Head.Head, slot.Phase.{Phase, TheVariants.{Waits, Issued, Aside, Ended}}, turn.Act.Act, turn.Turn.Turn}
use Rattle.hba_driver.specs.Done.{DoneIsTrue, WasCompleted, completes, is_completed, takes}
use Rattle.hba_driver.specs.Drivers.{AreRequests, Driver, Entry, entry_at, has_ended, has_ended_in, holds, is_aside_in, is_issued_in, rephase}
use Rattle.hba_driver.specs.{Drivers.{rephase_all, rephased, waits, waits_in}, Effects.{ActsAll, effects_of, issuing}, Events.opening_host_in}
use Rattle.hba_driver.specs.HostTurns.{Does, DoesAll, Host, HostTurn, Took, Pushed, Ticked, Submitted, Polled, Put, issued_by_act, issued_in_tick}
use Rattle.hba_driver.specs.{HostTurns.{sight_in, ticket_of}, Laws.{Goes, GoesOn, flushes}, Orders.{request_fields, work_fields}, Sights.file_shown}
use Rattle.hba_driver.specs.Ticks.{acted, after_tick, done_ended, due, effects, effects_due, entries_after, is_aside_of, is_done, is_open, is_open_of}
use Rattle.hba_driver.specs.{Ticks.{removed, seen, stage_ended, turn}, Between.{Due, Fresh, HasOut, IsOnWayIn, PollFacts, Runs, ticks}}
use Rattle.hba_driver.specs.declared.request.Work.TheVariants as work
use Rattle.hba_driver.specs.declared.turn.Act.TheVariants as act
use Rattle.hba_driver.proofs.{accepted.AcceptLemmas.{AloneFor, goes_on, is_up, issue_taken, way_opens, way_turn}, requests.ComeLemmas.comes_from}
use Rattle.hba_driver.proofs.{ends.DoneLemmas.done_is_free, events.DrivenLemmas.{not_below, tick_is, turn_opens}, ticks.DueLemmas.goes_turn}
use Rattle.hba_driver.proofs.{requests.HistoryLemmas.{poll_facts, requests_turn}, ticks.LifeLemmas.{entry_of_rephased, waiting_stays}}
use Rattle.hba_driver.proofs.{done.OutLemmas.{out_act, out_opening, out_pushed, out_same, out_took}, calls.RequestLemmas.set_cases}
use Rattle.hba_driver.proofs.{issued.ServedLemmas.may_end_in, ticks.ServeLemmas.ticks_serve}
use Rattle.hba_driver.proofs.{done.StageLemmas.{Stage, Idle, Out, Whole, stage_after, stage_by, stage_over, tells}, requests.StandLemmas.in_slots}
use Rattle.hba_driver.proofs.accepted.AcceptLemmas as accept

-- ---- phases

pub none_some : {A : Type 0} (a : A) {P : Type 0} → None ≡ Some a → P
none_some a h = cc

waits_not : (p : Phase) → waits_in p ≡ true → is_issued_in p ≡ true → ⊥
waits_not Issued h k = false≢true h
waits_not Aside h k = false≢true h
waits_not other h k = false≢true k

pub issued_is : (p : Phase) → p ≡ Issued → is_issued_in p ≡ true
issued_is p h = ap is_issued_in h

equal_is : (x y : ℕ) → x ≡ y → (x == y) ≡ true
equal_is x y h = grind (arith, nat_tests)

equal_of : (x y : ℕ) → (x == y) ≡ true → x ≡ y
equal_of x y h = grind (arith, nat_tests)

pub wider : (n m k : ℕ) → n < m → m ≤ k → n < k
wider n m k h l = omega (arith, h, l)

or_left : (a b : Bool) → a ≡ true → (a || b) ≡ true
or_left true b h = refl
or_left false b h = absurd (false≢true h)

or_right : (a b : Bool) → b ≡ true → (a || b) ≡ true
or_right true b h = refl
or_right false b h = h

or_false : (a : Bool) → (a || false) ≡ true → a ≡ true
or_false true h = refl
or_false false h = h

-- ---- what a tick issues

-- a tick that issues a ticket issues the request that waits under it, in one slot
pub record IssuesIt (v : Sight) (d : Driver) (ticket : ℕ) : Type 0 where
  pub slot : ℕ
  pub dev : ℕ
  pub queued : Bool
  pub is : due v d ≡ Some (act.Issues slot dev queued)
  pub entry : Entry
  pub there : entry_at (seen v d).entries slot ≡ Some entry
  pub of_ticket : entry.head.ticket ≡ ticket

issued_entry : (v : Sight) (d : Driver) (ticket slot dev : ℕ) (queued : Bool) → due v d ≡ Some (act.Issues slot dev queued) → (o : Option Entry) → entry_at (seen v d).entries slot ≡ o
    → list_any (λ y. y == ticket) (ticket_of o) ≡ true → IssuesIt v d ticket
issued_entry v d ticket slot dev queued is None there h = absurd (false≢true h)
issued_entry v d ticket slot dev queued is (Some e) there h =
    record { slot = slot; dev = dev; queued = queued; is = is; entry = e; there = there; of_ticket = equal_of e.head.ticket ticket (or_false (e.head.ticket == ticket) h) }

pub issued_act : (v : Sight) (d : Driver) (ticket : ℕ) (a : Option Act) → due v d ≡ a → list_any (λ y. y == ticket) (issued_by_act a (seen v d).entries) ≡ true → IssuesIt v d ticket
issued_act v d ticket (Some (act.Issues slot dev queued)) is h = issued_entry v d ticket slot dev queued is (entry_at (seen v d).entries slot) refl h
issued_act v d ticket other is h = absurd (false≢true h)

-- only an act that issues its ticket issues a request that waits
issued_as : (e f : Entry) → Some e ≡ Some f → waits_in e.head.phase ≡ true → is_issued_in f.head.phase ≡ true → ⊥
issued_as e f is wait h = waits_not f.head.phase (subst (λ (x : Entry). waits_in x.head.phase ≡ true) (some_inj e f is) wait) h

issued_by_test : (b : Bool) (p : Phase) (e f : Entry) → is_issued_in p ≡ false → (if b then Some (rephased p e) else Some e) ≡ Some f → waits_in e.head.phase ≡ true → is_issued_in f.head.phase ≡ true → ⊥
issued_by_test true p e f never is wait h = true≢false (sym (subst (λ (x : Entry). is_issued_in x.head.phase ≡ true) (sym (some_inj (rephased p e) f is)) h) ∙ never)
issued_by_test false p e f never is wait h = issued_as e f is wait h

-- a group of requests comes to a phase that is not issued
issued_group : (test : ℕ → Head → Bool) (p : Phase) (entries : List (Option Entry)) (s : ℕ) (e f : Entry) → is_issued_in p ≡ false → entry_at entries s ≡ Some e → entry_at (rephase_all test p entries) s ≡ Some f
    → waits_in e.head.phase ≡ true → is_issued_in f.head.phase ≡ true → ⊥
issued_group test p entries s e f never here there wait h =
    let is : rephase (test s) p (Some e) ≡ Some f = ap (rephase (test s) p) (sym here) ∙ sym (entry_of_rephased test p entries s) ∙ there in
    issued_by_test (test s e.head) p e f never is wait h

issued_order : (order : Order) (entries : List (Option Entry)) (s : ℕ) (e f : Entry) → entry_at entries s ≡ Some e → entry_at (removed order entries) s ≡ Some f → waits_in e.head.phase ≡ true → is_issued_in f.head.phase ≡ true → ⊥
issued_order (Clear port) entries s e f here there wait h = issued_group (is_open_of port) (Ended Removed) entries s e f refl here there wait h
issued_order order entries s e f here there wait h = issued_as e f (sym here ∙ there) wait h

issued_stage : (dev : ℕ) (stage : PathStage) (entries : List (Option Entry)) (s : ℕ) (e f : Entry) → entry_at entries s ≡ Some e → entry_at (stage_ended dev stage entries) s ≡ Some f → waits_in e.head.phase ≡ true
    → is_issued_in f.head.phase ≡ true → ⊥
issued_stage dev AssertReset entries s e f here there wait h = issued_group (is_aside_of dev) (Ended Aborted) entries s e f refl here there wait h
issued_stage dev stage entries s e f here there wait h = issued_as e f (sym here ∙ there) wait h

acted_issues : (a : Option Act) (file : TaskFile) (d : Driver) (s : ℕ) (e f : Entry) → entry_at d.entries s ≡ Some e → entry_at (acted a file d).entries s ≡ Some f → waits_in e.head.phase ≡ true → is_issued_in f.head.phase ≡ true
    → list_any (λ y. y == e.head.ticket) (issued_by_act a d.entries) ≡ true
unfolding entries_after
acted_issues (Some act.Stops) file d s e f here there wait h = absurd (issued_group is_open (Ended PortError) d.entries s e f refl here there wait h)
acted_issues (Some (act.Clears dev)) file d s e f here there wait h = absurd (issued_group (is_open_of dev) Aside d.entries s e f refl here there wait h)
acted_issues (Some (act.Orders order)) file d s e f here there wait h = absurd (issued_order order d.entries s e f here there wait h)
acted_issues (Some (act.Steps dev stage)) file d s e f here there wait h = absurd (issued_stage dev stage d.entries s e f here there wait h)
acted_issues (Some (act.Issues slot dev queued)) file d s e f here there wait h = elim (set_cases d.entries slot (option_map (rephased Issued) (entry_at d.entries slot)) s f there) [
  | inl at ↦
      let same : entry_at d.entries slot ≡ Some e = subst (λ (k : ℕ). entry_at d.entries k ≡ Some e) at.0 here in
      ap (λ (o : Option Entry). list_any (λ y. y == e.head.ticket) (ticket_of o)) same ∙ or_left (e.head.ticket == e.head.ticket) false (equal_is e.head.ticket e.head.ticket refl)
  | inr beside ↦ absurd (issued_as e f (sym here ∙ beside.1) wait h)
]
acted_issues other file d s e f here there wait h = absurd (issued_as e f (sym here ∙ there) wait h)

else_entry : (b : Bool) (x y : Option Entry) → b ≡ false → (if b then x else y) ≡ y
else_entry true x y h = absurd (true≢false h)
else_entry false x y h = refl

not_done : (p : Phase) (b : Bool) → waits_in p ≡ true → (is_issued_in p && b) ≡ false
not_done Issued b h = absurd (false≢true h)
not_done other b h = refl

seen_waits : (v : Sight) (d : Driver) (s : ℕ) (e : Entry) → entry_at d.entries s ≡ Some e → waits_in e.head.phase ≡ true → entry_at (seen v d).entries s ≡ Some e
seen_waits v d s e here wait =
    let still : entry_at (done_ended v.issued d.entries) s ≡ Some e =
    entry_of_rephased (is_done v.issued) (Ended Done) d.entries s ∙ ap (rephase (is_done v.issued s) (Ended Done)) here
    ∙ else_entry (is_done v.issued s e.head) (Some (rephased (Ended Done) e)) (Some e) (not_done e.head.phase (not (has_bit v.issued s)) wait) in
    waiting_stays v.log (turn v d).logged (done_ended v.issued d.entries) s (ap (holds waits) still ∙ wait) ∙ still

pub tick_issues : (v : Sight) (file : TaskFile) (d : Driver) (s : ℕ) (e f : Entry) → entry_at d.entries s ≡ Some e → entry_at (after_tick v file d).entries s ≡ Some f → waits_in e.head.phase ≡ true → is_issued_in f.head.phase ≡ true
    → list_any (λ y. y == e.head.ticket) (issued_in_tick v d) ≡ true
unfolding after_tick
tick_issues v file d s e f here there wait h = acted_issues (turn v d).act file (seen v d) s e f (seen_waits v d s e here wait) there wait h

-- ---- a request that is issued

calm_work : (slot : ℕ) (w : Work) (dev lba sectors : ℕ) → (is_pio (work_of (request_of (work_fields slot w dev lba sectors))).kind ≡ false) × (is_control (work_of (request_of (work_fields slot w dev lba sectors))).kind ≡ false)
unfolding work_of
calm_work slot work.Read dev lba sectors = (refl, refl)
calm_work slot other dev lba sectors = (refl, refl)

calm_request : (slot : ℕ) (head : Head) → (is_pio (work_of (request_of (request_fields slot head))).kind ≡ false) × (is_control (work_of (request_of (request_fields slot head))).kind ≡ false)
unfolding request_fields
calm_request slot head = calm_work slot head.work head.dev head.lba head.sectors

-- the request of the ticket, after the tick that issues it
pub record WentOut (h new : Host) (ticket : ℕ) : Type 0 where
  pub slot : ℕ
  pub entry : Entry
  pub before : entry_at (seen (sight_in h) h.driver).entries slot ≡ Some entry
  pub of_ticket : entry.head.ticket ≡ ticket
  pub after : entry_at new.driver.entries slot ≡ Some (rephased Issued entry)
  pub issued : HasOut new.port slot entry.head.dev

opened_first : (h : Host) (slot dev : ℕ) (queued : Bool) → due (sight_in h) h.driver ≡ Some (act.Issues slot dev queued) → 7 ≤ h.driver.plan.opened
opened_first h slot dev queued is = elim (cases_Bool (nat_lt h.driver.plan.opened 7)) [
  | inl less ↦
      let v : Sight = sight_in h in
      let opens : (turn v h.driver).act ≡ Some (act.Opens h.driver.plan.opened) = ap (λ (t : Turn). t.act) (turn_opens v h.driver.plan (done_ended v.issued h.driver.entries) less) in
      let bad : Some (act.Opens h.driver.plan.opened) ≡ Some (act.Issues slot dev queued) = sym opens ∙ is in
      absurd (differ h.driver.plan.opened slot dev queued bad)
  | inr more ↦ not_below h.driver.plan.opened 7 more
]
  where
    differ : (k slot dev : ℕ) (queued : Bool) → Some (act.Opens k) ≡ Some (act.Issues slot dev queued) → ⊥
    differ k slot dev queued h = cc

acted_entry : (file : TaskFile) (d : Driver) (slot dev : ℕ) (queued : Bool) (e : Entry) → length d.entries ≡ 30 → slot < 30 → entry_at d.entries slot ≡ Some e → entry_at (acted (Some (act.Issues slot dev queued)) file d).entries slot ≡ Some (rephased Issued e)
unfolding entries_after
acted_entry file d slot dev queued e long below here =
    get_or-set_same d.entries slot (option_map (rephased Issued) (entry_at d.entries slot)) None (omega (arith, long, below)) ∙ ap (option_map (rephased Issued)) here

pub went_out : {mode : Mode} (h : Host) (a : Bool) (new : Host) (ticket : ℕ) → Does h (Ticked a) new → IsOnWayIn mode h → IssuesIt (sight_in h) h.driver ticket → WentOut h new ticket
unfolding effects_of after_tick
went_out h a new ticket does w i =
    let v : Sight = sight_in h in
    let d : Driver = seen v h.driver in
    let g = goes_on h w (opened_first h i.slot i.dev i.queued i.is) in
    let waiting = subst (λ (x : Option Act). Due v d.plan d.entries x) i.is g.due_is in
    let runs : Runs d.plan (Some (act.Issues i.slot i.dev i.queued)) = subst (λ (x : Option Act). Runs d.plan x) i.is g.runs in
    let same : waiting.0.entry ≡ i.entry = some_inj waiting.0.entry i.entry (sym waiting.0.stands ∙ i.there) in
    let mode_is : d.plan.mode ≡ h.driver.plan.mode = (goes_turn v h.driver.plan (done_ended v.issued h.driver.entries)).mode in
    let acts_in : ActsAll (effects_due d.plan.mode (due v h.driver)) h.port h.memory new.port new.memory =
    subst (λ (m : Mode). ActsAll (effects_due m (due v h.driver)) h.port h.memory new.port new.memory) (sym mode_is) does.does in
    let alone : AloneFor d.plan.mode (Some (act.Issues i.slot i.dev i.queued)) h.port = subst (λ (x : Option Act). AloneFor d.plan.mode x h.port) i.is g.alone in
    let acts : ActsAll (issuing d.plan.mode i.slot i.dev i.queued) h.port h.memory new.port new.memory = subst (λ (x : Option Act). ActsAll (effects_due d.plan.mode x) h.port h.memory new.port new.memory) i.is acts_in in
    let issued = issue_taken d i.slot i.dev i.queued h.port new.port h.memory new.memory g.knows (is_up d h.port h.memory g.knows runs.1) alone waiting.0 waiting.1 acts in
    let kinds = calm_request i.slot waiting.0.entry.head in
    let out : HasOut new.port i.slot i.dev = record {
      issue = new_issue i.dev (work_of (request_of (request_fields i.slot waiting.0.entry.head)));
      is = issued.issued;
      pio = kinds.0;
      control = kinds.1;
    } in
    let driver : new.driver ≡ acted (Some (act.Issues i.slot i.dev i.queued)) (file_shown new.port) d = does.driver ∙ ap (λ (x : Option Act). acted x (file_shown new.port) d) i.is in
    record {
      slot = i.slot;
      entry = i.entry;
      before = i.there;
      of_ticket = i.of_ticket;
      after = ap (λ (x : Driver). entry_at x.entries i.slot) driver ∙ acted_entry (file_shown new.port) d i.slot i.dev i.queued i.entry g.knows.served.bounded.slots waiting.0.below i.there;
      issued = subst (λ (n : ℕ). HasOut new.port i.slot n) (sym waiting.0.of_dev ∙ ap (λ (e : Entry). e.head.dev) same) out;
    }

-- ---- how far a request has come

abbrev Fits : Stage → Port → (slot dev : ℕ) → Phase → Type 0
Fits stage port slot dev Waits = Unit {0}
Fits stage port slot dev Aside = Unit {0}
Fits stage port slot dev Issued = (stage ≡ Whole) ⊎ ((stage ≡ Out) × HasOut port slot dev)
Fits stage port slot dev (Ended Done) = stage ≡ Whole
Fits stage port slot dev (Ended outcome) = Unit {0}

-- how far the request of this ticket has come, in its slot
abbrev Far : (ticket slot dev : ℕ) → Host → Stage → Type 0
Far ticket slot dev h stage =
    (e : Entry) → entry_at h.driver.entries slot ≡ Some e → e.head.ticket ≡ ticket → e.head.dev ≡ dev → Fits stage h.port slot dev e.head.phase

-- the port leaves what is issued, or the stage goes on
fits_on : (stage next : Stage) (old new : Port) (slot dev : ℕ) (p : Phase) → (stage ≡ Whole → next ≡ Whole) → (stage ≡ Out → HasOut old slot dev → (next ≡ Whole) ⊎ ((next ≡ Out) × HasOut new slot dev))
    → Fits stage old slot dev p → Fits next new slot dev p
fits_on stage next old new slot dev Issued whole out (inl h) = inl (whole h)
fits_on stage next old new slot dev Issued whole out (inr h) = out h.0 h.1
fits_on stage next old new slot dev (Ended Done) whole out h = whole h
fits_on stage next old new slot dev other whole out h = tt

far_still : (t : HostTurn) (ticket slot dev : ℕ) (old new : Host) (stage next : Stage) → Does old t new → ticks t ≡ false → (stage ≡ Whole → next ≡ Whole)
    → (stage ≡ Out → HasOut old.port slot dev → (next ≡ Whole) ⊎ ((next ≡ Out) × HasOut new.port slot dev)) → Far ticket slot dev old stage → Far ticket slot dev new next
far_still t ticket slot dev old new stage next does calm whole out far e here of_ticket of_dev = elim (comes_from old t new does slot e here) [
  | inl stood ↦
      let same : e ≡ stood.entry = stood.still calm in
      let was : entry_at old.driver.entries slot ≡ Some e = stood.here ∙ ap Some (sym same) in
      fits_on stage next old.port new.port slot dev e.head.phase whole out (far e was of_ticket of_dev)
  | inr fresh ↦ fits_fresh t fresh
]
  where
    fits_fresh : (u : HostTurn) → Fresh old.driver u slot e → Fits next new.port slot dev e.head.phase
    fits_fresh (Submitted other request given) is = subst (λ (x : Entry). Fits next new.port slot dev x.head.phase) is.1 tt
    fits_fresh rest is = absurd is

took_whole : (c : Bool) (stage : Stage) → stage ≡ Whole → stage_by false c stage ≡ Whole
took_whole true Whole h = refl
took_whole false stage h = h
took_whole true other h = let bad : other ≡ Whole = h in cc

took_out : (c : Bool) (stage : Stage) (old new : Port) (slot dev : ℕ) → (c ≡ false → HasOut old slot dev → HasOut new slot dev) → stage ≡ Out → HasOut old slot dev
    → (stage_by false c stage ≡ Whole) ⊎ ((stage_by false c stage ≡ Out) × HasOut new slot dev)
took_out true stage old new slot dev keeps is h = inl (ap (λ (s : Stage). stage_by false true s) is)
took_out false stage old new slot dev keeps is h = inr (is, keeps refl h)

-- ---- a tick

-- what is there as Done after a tick is whole before it
fits_ended : (stage : Stage) (port : Port) (slot dev : ℕ) (p : Phase) → issue_at port.slots slot ≡ None → is_issued_in p ≡ true → Fits stage port slot dev p → stage ≡ Whole
fits_ended stage port slot dev Issued free is (inl h) = h
fits_ended stage port slot dev Issued free is (inr h) = none_some h.1.issue (sym free ∙ (own_in dev slot port.slots h.1.issue h.1.is).1)
fits_ended stage port slot dev other free is h = absurd (false≢true is)

fits_done : (stage : Stage) (port : Port) (slot dev : ℕ) (p : Phase) → p ≡ Ended Done → Fits stage port slot dev p → stage ≡ Whole
fits_done stage port slot dev p is h = subst (λ (x : Phase). Fits stage port slot dev x) is h

pub ended_same : (p q : Phase) → Goes p q → has_ended_in p ≡ true → q ≡ p
ended_same (Ended o) q h k = h
ended_same other q h k = absurd (false≢true k)

whole_ended : {mode : Mode} (ticket slot dev : ℕ) (h : Host) (stage : Stage) (e f : Entry) → IsOnWayIn mode h → Far ticket slot dev h stage → entry_at h.driver.entries slot ≡ Some e → GoesOn e f
    → (file : TaskFile) → entry_at (after_tick (sight_in h) file h.driver).entries slot ≡ Some f → f.head.phase ≡ Ended Done → e.head.ticket ≡ ticket → e.head.dev ≡ dev → stage ≡ Whole
whole_ended ticket slot dev h stage e f w far here on file there is of_ticket of_dev =
    let fits : Fits stage h.port slot dev e.head.phase = far e here of_ticket of_dev in
    elim (cases_Bool (has_ended e.head)) [
      | inl ended ↦ fits_done stage h.port slot dev e.head.phase (sym (ended_same e.head.phase f.head.phase on.goes ended) ∙ is) fits
      | inr going ↦
          let free = done_is_free h.driver.plan.mode h.port h.memory file h.driver slot e f w.sound.ruled.table w.sound.requests here going there is in
          fits_ended stage h.port slot dev e.head.phase free.1 free.0 fits
    ]

-- a request that stays issued over a tick, which neither stops the port nor clears its device
pub out_tick : {mode : Mode} (h : Host) (a : Bool) (new : Host) (slot dev : ℕ) → Does h (Ticked a) new → IsOnWayIn mode h → dev < 16 → list_any (flushes dev) (effects (sight_in h) h.driver) ≡ false
    → (due (sight_in h) h.driver ≡ Some act.Stops → ⊥) → ((k : ℕ) → due (sight_in h) h.driver ≡ Some (act.Clears k) → dev ≢ k) → HasOut h.port slot dev → HasOut new.port slot dev
out_tick h a new slot dev does w below other stops clears out = elim (tick_is (sight_in h) (file_shown new.port) h.driver) [
  | inl first ↦
      let k : ℕ = h.driver.plan.opened in
      out_opening h.driver.plan.mode k h.port new.port h.memory new.memory slot dev (w.sound.registers.stopped (less_most k first.less)) below
      (subst (λ (es : List Effect). ActsAll es h.port h.memory new.port new.memory) first.one does.does) w.sound.ruled.table out
  | inr going ↦
      out_act h.driver.plan.mode (due (sight_in h) h.driver) h.port new.port h.memory new.memory slot dev below (may_end_in h w.sound) stops clears (goes_on h w going.least).opens other does.does w.sound.ruled.table out
]
  where
    less_most : (n : ℕ) → n < 7 → n ≤ 6
    less_most n h = omega (arith, h)

module _ {mode : Mode} (ticket slot dev : ℕ) (h : Host) (a : Bool) (new : Host) (does : Does h (Ticked a) new) (w : IsOnWayIn mode h) (stage : Stage) (far : Far ticket slot dev h stage) where
  abbrev v : Sight
  v = sight_in h

  here_after : (f : Entry) → entry_at new.driver.entries slot ≡ Some f → entry_at (after_tick v (file_shown new.port) h.driver).entries slot ≡ Some f
  here_after f here = ap (λ (d : Driver). entry_at d.entries slot) (sym does.driver) ∙ here

  -- the tick issues the ticket
  far_issued : IssuesIt v h.driver ticket → Far ticket slot dev new Out
  far_issued i f here of_ticket of_dev =
      let o : WentOut h new ticket = went_out h a new ticket does w i in
      let next : AreRequests new.driver.given new.driver.entries = requests_turn h (Ticked a) new does w.sound.requests in
      let at : slot ≡ o.slot = next.own slot o.slot f (rephased Issued o.entry) here o.after (of_ticket ∙ sym o.of_ticket) in
      let same : f ≡ rephased Issued o.entry = some_inj f (rephased Issued o.entry) (sym here ∙ subst (λ (k : ℕ). entry_at new.driver.entries k ≡ Some (rephased Issued o.entry)) (sym at) o.after) in
      let to : o.entry.head.dev ≡ dev = ap (λ (x : Entry). x.head.dev) (sym same) ∙ of_dev in
      let out : HasOut new.port slot dev = subst (λ (n : ℕ). HasOut new.port slot n) to (subst (λ (k : ℕ). HasOut new.port k o.entry.head.dev) (sym at) o.issued) in
      subst (λ (x : Entry). Fits Out new.port slot dev x.head.phase) (sym same) (inr (refl, out))

  -- the tick does not issue it
  far_other : list_any (λ y. y == ticket) (issued_in_tick v h.driver) ≡ false → Far ticket slot dev new stage
  far_other none f here of_ticket of_dev = elim (comes_from h (Ticked a) new does slot f here) [
    | inr fresh ↦ absurd fresh
    | inl stood ↦
        let e : Entry = stood.entry in
        let ticket_is : e.head.ticket ≡ ticket = ap (λ (x : Entry). x.head.ticket) (sym stood.on.same) ∙ of_ticket in
        let dev_is : e.head.dev ≡ dev = ap (λ (x : Entry). x.head.dev) (sym stood.on.same) ∙ of_dev in
        by_phase e stood.here stood.on ticket_is dev_is f.head.phase refl
  ]
    where
      low : (e : Entry) → entry_at h.driver.entries slot ≡ Some e → e.head.dev ≡ dev → dev < 16
      low e at is = subst (λ (n : ℕ). n < 16) is (wider e.head.dev 15 16 (w.served.bounded.entries slot e at).dev (omega arith))

      unflushed : (is : f.head.phase ≡ Issued) → list_any (flushes dev) (effects v h.driver) ≡ false
      unflushed is = elim (cases_Bool (list_any (flushes dev) (effects v h.driver))) [
        | inl flushed ↦ absurd (false≢true (sym (ap has_ended_in is) ∙ ticks_serve.ends v (file_shown new.port) h.driver dev slot f flushed (here_after f here) of_dev))
        | inr other ↦ other
      ]

      unstopped : f.head.phase ≡ Issued → due v h.driver ≡ Some act.Stops → ⊥
      unstopped is stops = false≢true (sym (ap has_ended_in is) ∙ ticks_serve.stops v (file_shown new.port) h.driver slot f stops (here_after f here))

      uncleared : f.head.phase ≡ Issued → (k : ℕ) → due v h.driver ≡ Some (act.Clears k) → dev ≢ k
      uncleared is k clears same =
          false≢true (sym (ap (λ (p : Phase). is_aside_in p || has_ended_in p) is) ∙ ticks_serve.withdraws v (file_shown new.port) h.driver k slot f clears (here_after f here) (of_dev ∙ same))

      stays : (e : Entry) → entry_at h.driver.entries slot ≡ Some e → GoesOn e f → e.head.ticket ≡ ticket → e.head.dev ≡ dev → f.head.phase ≡ Issued → (p : Phase) → e.head.phase ≡ p
          → (stage ≡ Whole) ⊎ ((stage ≡ Out) × HasOut new.port slot dev)
      stays e at on ticket_is dev_is is Waits was =
          let issued : list_any (λ y. y == e.head.ticket) (issued_in_tick v h.driver) ≡ true = tick_issues v (file_shown new.port) h.driver slot e f at (here_after f here) (ap waits_in was) (issued_is f.head.phase is) in
          absurd (true≢false (sym (subst (λ (n : ℕ). list_any (λ y. y == n) (issued_in_tick v h.driver) ≡ true) ticket_is issued) ∙ none))
      stays e at on ticket_is dev_is is Issued was =
          elim (subst (λ (p : Phase). Fits stage h.port slot dev p) was (far e at ticket_is dev_is)) [
            | inl whole ↦ inl whole
            | inr out ↦ inr (out.0, out_tick h a new slot dev does w (low e at dev_is) (unflushed is) (unstopped is) (uncleared is) out.1)
          ]
      stays e at on ticket_is dev_is is Aside was =
          let goes : Goes Aside Issued = subst (λ (p : Phase). Goes Aside p) is (subst (λ (p : Phase). Goes p f.head.phase) was on.goes) in
          absurd (true≢false goes)
      stays e at on ticket_is dev_is is (Ended o) was =
          let same : f.head.phase ≡ e.head.phase = ended_same e.head.phase f.head.phase on.goes (ap has_ended_in was) in
          let bad : Issued ≡ Ended o = sym is ∙ same ∙ was in
          absurd (false≢true (sym (ap is_issued_in bad)))

      by_phase : (e : Entry) → entry_at h.driver.entries slot ≡ Some e → GoesOn e f → e.head.ticket ≡ ticket → e.head.dev ≡ dev → (p : Phase) → f.head.phase ≡ p → Fits stage new.port slot dev f.head.phase
      by_phase e at on ticket_is dev_is Issued is = subst (λ (x : Phase). Fits stage new.port slot dev x) (sym is) (stays e at on ticket_is dev_is is e.head.phase refl)
      by_phase e at on ticket_is dev_is (Ended Done) is =
          subst (λ (x : Phase). Fits stage new.port slot dev x) (sym is) (whole_ended ticket slot dev h stage e f w far at on (file_shown new.port) (here_after f here) is ticket_is dev_is)
      by_phase e at on ticket_is dev_is other is = subst (λ (x : Phase). Fits stage new.port slot dev x) (sym is) tt

  far_tick : Far ticket slot dev new (stage_after ticket slot dev stage h (Ticked a))
  far_tick = by_issue (list_any (λ y. y == ticket) (issued_in_tick v h.driver)) refl
    where
      by_issue : (b : Bool) → list_any (λ y. y == ticket) (issued_in_tick v h.driver) ≡ b → Far ticket slot dev new (stage_by b false stage)
      by_issue true is = far_issued (issued_act v h.driver ticket (due v h.driver) refl is)
      by_issue false is = far_other is

-- ---- each turn

far_turn : {mode : Mode} (ticket slot dev : ℕ) (old : Host) (t : HostTurn) (new : Host) (stage : Stage) → slot < 32 → dev < 16 → Does old t new → IsOnWayIn mode old → Far ticket slot dev old stage → Far ticket slot dev new (stage_after ticket slot dev stage old t)
far_turn ticket slot dev old (Took frame report) new stage below dev_below h w far =
    far_still (Took frame report) ticket slot dev old new stage (stage_after ticket slot dev stage old (Took frame report)) h refl
    (took_whole (completes slot dev (Took frame report)) stage)
    (took_out (completes slot dev (Took frame report)) stage old.port new.port slot dev (λ none out. out_took old new frame report w.past slot dev h w.sound w.served below dev_below none out)) far
far_turn ticket slot dev old (Pushed frame) new stage below dev_below h w far =
    far_still (Pushed frame) ticket slot dev old new stage stage h refl (λ is. is) (λ is out. inr (is, out_pushed old new frame w.past slot dev h w.sound w.served dev_below out)) far
far_turn ticket slot dev old (Ticked a) new stage below dev_below h w far = far_tick ticket slot dev old a new h w stage far
far_turn ticket slot dev old rest new stage below dev_below h w far =
    far_still rest ticket slot dev old new stage stage h refl (λ is. is) (λ is out. inr (is, out_same old.port new.port slot dev h.port out)) far

way_over : {mode : Mode} (turns : List HostTurn) (old new : Host) → DoesAll old turns new → IsOnWayIn mode old → IsOnWayIn mode new
way_over {mode} [] old new run w = subst (IsOnWayIn mode) (sym run) w
way_over {mode} (t ∷ turns) old new run w = way_over turns run.0 new run.2 (way_turn old t run.0 run.1 w)

far_over : {mode : Mode} (ticket slot dev : ℕ) → slot < 32 → dev < 16 → (turns : List HostTurn) (stage : Stage) (old new : Host) (run : DoesAll old turns new) → IsOnWayIn mode old → Far ticket slot dev old stage
    → Far ticket slot dev new (stage_over ticket slot dev stage old new turns run)
far_over ticket slot dev below dev_below [] stage old new run w far = subst (λ (h : Host). Far ticket slot dev h stage) (sym run) far
far_over ticket slot dev below dev_below (t ∷ turns) stage old new run w far =
    far_over ticket slot dev below dev_below turns (stage_after ticket slot dev stage old t) run.0 new run.2 (way_turn old t run.0 run.1 w) (far_turn ticket slot dev old t run.0 stage below dev_below run.1 w far)

-- ---- the device for which a request was taken

-- it was there before the turns, or one of them took it
abbrev Comes : Host → List HostTurn → ℕ → Entry → Type 0
Comes old turns s f =
    ((e : Entry) × (entry_at old.driver.entries s ≡ Some e) × (e.head.ticket ≡ f.head.ticket) × (e.head.dev ≡ f.head.dev)) ⊎ (list_any (takes f.head.ticket f.head.dev) turns ≡ true)

takes_fresh : (old : Host) (t : HostTurn) (new : Host) → Does old t new → (s : ℕ) (f : Entry) → Fresh old.driver t s f → takes f.head.ticket f.head.dev t ≡ true
takes_fresh old (Submitted dev request ticket) new h s f is =
    let same : ticket ≡ f.head.ticket = h.taken.next ∙ ap (λ (e : Entry). e.head.ticket) is.1 in
    let to : dev ≡ f.head.dev = ap (λ (e : Entry). e.head.dev) is.1 in
    both (ticket == f.head.ticket) (dev == f.head.dev) (equal_is ticket f.head.ticket same) (equal_is dev f.head.dev to)
  where
    both : (a b : Bool) → a ≡ true → b ≡ true → (a && b) ≡ true
    both true b h k = k
    both false b h k = absurd (false≢true h)
takes_fresh old other new h s f is = absurd is

comes_over : (turns : List HostTurn) (old new : Host) → DoesAll old turns new → (s : ℕ) (f : Entry) → entry_at new.driver.entries s ≡ Some f → Comes old turns s f
comes_over [] old new run s f here = inl (f, ap (λ (h : Host). entry_at h.driver.entries s) (sym run) ∙ here, refl, refl)
comes_over (t ∷ turns) old new run s f here = elim (comes_over turns run.0 new run.2 s f here) [
  | inr later ↦ inr (or_right (takes f.head.ticket f.head.dev t) (list_any (takes f.head.ticket f.head.dev) turns) later)
  | inl from ↦ elim (comes_from old t run.0 run.1 s from.0 from.1) [
    | inl stood ↦
        inl (stood.entry, stood.here, ap (λ (e : Entry). e.head.ticket) (sym stood.on.same) ∙ from.2, ap (λ (e : Entry). e.head.dev) (sym stood.on.same) ∙ from.3)
    | inr fresh ↦
        let here' : takes from.0.head.ticket from.0.head.dev t ≡ true = takes_fresh old t run.0 run.1 s from.0 fresh in
        let same : takes f.head.ticket f.head.dev t ≡ true =
        subst (λ (n : ℕ). takes n f.head.dev t ≡ true) from.2 (subst (λ (n : ℕ). takes from.0.head.ticket n t ≡ true) from.3 here') in
        inr (or_left (takes f.head.ticket f.head.dev t) (list_any (takes f.head.ticket f.head.dev) turns) same)
  ]
]

-- ---- the law

module _ (mode : Mode) (given : ℕ) (start : Memory) (right : IsHostMemory start) (turns : List HostTurn) (h : Host) (run : DoesAll (opening_host_in mode given start) turns h) where
  abbrev opened : Host
  opened = opening_host_in mode given start

  now : IsOnWayIn mode h
  now = way_over turns opened h run (way_opens given start right)

  far_now : (ticket slot dev : ℕ) → slot < 32 → dev < 16 → Far ticket slot dev h (stage_over ticket slot dev Idle opened h turns run)
  far_now ticket slot dev below dev_below = far_over ticket slot dev below dev_below turns Idle opened h run (way_opens given start right) (λ e here of_ticket of_dev. accept.none_here slot e here)

  low_slot : (s : ℕ) (e : Entry) → entry_at h.driver.entries s ≡ Some e → s < 32
  low_slot s e here = wider s 30 32 (in_slots h.driver.entries s e now.served.bounded.slots here) (omega arith)

  low_dev : (s : ℕ) (e : Entry) → entry_at h.driver.entries s ≡ Some e → e.head.dev < 16
  low_dev s e here = wider e.head.dev 15 16 (now.served.bounded.entries s e here).dev (omega arith)

  pub ends : (a : Bool) (after : Host) → Does h (Ticked a) after → (s : ℕ) (f : Entry) → entry_at after.driver.entries s ≡ Some f → f.head.phase ≡ Ended Done → is_completed f.head.ticket s f.head.dev opened h turns run ≡ true
  ends a after does s f here is = elim (comes_from h (Ticked a) after does s f here) [
    | inr fresh ↦ absurd fresh
    | inl stood ↦
        let e : Entry = stood.entry in
        let ticket_is : e.head.ticket ≡ f.head.ticket = ap (λ (x : Entry). x.head.ticket) (sym stood.on.same) in
        let dev_is : e.head.dev ≡ f.head.dev = ap (λ (x : Entry). x.head.dev) (sym stood.on.same) in
        let below : f.head.dev < 16 = subst (λ (n : ℕ). n < 16) dev_is (low_dev s e stood.here) in
        let far : Far f.head.ticket s f.head.dev h (stage_over f.head.ticket s f.head.dev Idle opened h turns run) = far_now f.head.ticket s f.head.dev (low_slot s e stood.here) below in
        tells f.head.ticket s f.head.dev turns Idle opened h run
        (whole_ended f.head.ticket s f.head.dev h (stage_over f.head.ticket s f.head.dev Idle opened h turns run) e f now far stood.here stood.on (file_shown after.port) (ap (λ (d : Driver). entry_at d.entries s) (sym does.driver) ∙ here) is ticket_is dev_is)
  ]

  pub polled : (c : Completion) (after : Host) → Does h (Polled c) after → c.outcome ≡ Done → WasCompleted c.ticket.0 c.slot opened h turns run
  polled c after does done =
      let f : PollFacts h.driver c = poll_facts h.driver c does.polled in
      let e : Entry = f.entry in
      let here : entry_at h.driver.entries c.slot ≡ Some e = subst (λ (k : ℕ). entry_at h.driver.entries k ≡ Some e) (sym f.slot_is) f.there in
      let is : e.head.phase ≡ Ended Done = f.ended ∙ ap Ended done in
      let far = far_now c.ticket.0 c.slot e.head.dev (low_slot c.slot e here) (low_dev c.slot e here) in
      let whole : stage_over c.ticket.0 c.slot e.head.dev Idle opened h turns run ≡ Whole = fits_done (stage_over c.ticket.0 c.slot e.head.dev Idle opened h turns run) h.port c.slot e.head.dev e.head.phase is (far e here (sym f.ticket) refl) in
      record {
        dev = e.head.dev;
        taken = taken e (comes_over turns opened h run c.slot e here) f.ticket;
        completed = tells c.ticket.0 c.slot e.head.dev turns Idle opened h run whole;
      }
    where
      taken : (e : Entry) → Comes opened turns c.slot e → c.ticket.0 ≡ e.head.ticket → list_any (takes c.ticket.0 e.head.dev) turns ≡ true
      taken e (inl from) same = accept.none_here c.slot from.0 from.1
      taken e (inr there) same = subst (λ (n : ℕ). list_any (takes n e.head.dev) turns ≡ true) (sym same) there

pub done_is_true : DoneIsTrue
done_is_true = record {
  ends = λ mode given start right turns h run a after does s e here is. ends mode given start right turns h run a after does s e here is;
  polled = λ mode given start right turns h run c after does done. polled mode given start right turns h run c after does done;
}
