-- For `turns_deliver`. What is issued lies in the client area, and a slot is issued to one device at a time.
use Rattle.std.proofs.Common.{◌≡◌, ℕ, ◌+◌, ◌<◌, ◌≤◌, Bool, true, false, List, [], ◌∷◌, length, replicate, set, refl, sym, ◌∙◌, ap, subst, inl, inr, arith, cond, eqb, Option, Some, None}
use Rattle.std.specs.{Prelude.{◌==◌, ◌%◌, ◌||◌, nat_lt}, List.list_any, Option.option_map}
use Rattle.std.proofs.lemmas.{Bool.{cases_lt, eqb-true, or_parts}, Bool.Decides.nat_tests, List.{get_or-replicate, get_or_past, length-replicate}}
use Rattle.host_memory.specs.{Memory.Memory, Place.{AreInside, LiesInClient}, declared.table.Prd.Prd}
use Rattle.slots.specs.Slots.{Issue, issue_at, own_issue, owned_by, slots_of}
use Rattle.slots.proofs.Door.{own_at}
use Rattle.hba_fbs.specs.Views.{Port}
use Rattle.hba_laws.specs.{Agreement.{AreHistoriesOf, work_of_issue, work_of_transfer}, Client.{Touches, own}, History.{Transfer, issued}}
use Rattle.hba_laws.specs.Hosts as event
use Rattle.hba_laws.proofs.Door.{own_in, sizes_stay}
use Rattle.hba_driver.specs.declared.{effect.Effect.Effect, mode.Mode.Mode, path.Stage.{Stage, TheVariants.{Identify, ReadLog}}}
use Rattle.hba_driver.specs.{declared.{path.TaskFile.TaskFile, request.Completion.Completion, request.Request.Request}, Seeing.Sight}
use Rattle.hba_driver.specs.{Drivers.{Driver, Entry, entry_at}, Effects.{Acts, ActsAll, prds_with}, Events.{IsSoundHostIn, events_over, shared_by}}
use Rattle.hba_driver.specs.{HostTurns.{Does, DoesAll, Host, HostTurn, Ticked, Submitted, Polled, sight_in}, Paths.reads_page, Requests.is_bad_prd}
use Rattle.hba_driver.specs.{Sights.file_shown, Submits.{after_poll, after_submit, completion_of, end_of, new_entry, next_slot, submit_refusal}}
use Rattle.hba_driver.specs.{Ticks.{after_tick, effects}, Between.{From, HasGoodPrds, HaveGoodPrds}}
use Rattle.hba_driver.specs.declared.effect.Effect.TheVariants as effect
use Rattle.hba_driver.proofs.{requests.HistoryLemmas.{back_of, freed, poll_facts, some_same}, ticks.LifeLemmas.keeps_tick}
use Rattle.hba_driver.proofs.{calls.RequestLemmas.set_cases, events.SoundLemmas.sound_turn, calls.SubmitLemmas.is_taken}
use Rattle.hba_driver.proofs.events.TurnLemmas.{turns_are_events}

-- ---- the PRDs of requests are good ones, from their submits on

none_some : (e : Entry) {P : Type 0} → None ≡ Some e → P
none_some e h = cc

good_same : (end : ℕ) (old new : Driver) → new ≡ old → HaveGoodPrds end old → HaveGoodPrds end new
good_same end old new is good s f here = good s f (ap (λ (d : Driver). entry_at d.entries s) (sym is) ∙ here)

good_tick : (end : ℕ) (v : Sight) (file : TaskFile) (old new : Driver) → new ≡ after_tick v file old → HaveGoodPrds end old → HaveGoodPrds end new
good_tick end v file old new is good s f here =
    let b = back_of (entry_at old.entries s) (entry_at (after_tick v file old).entries s) (keeps_tick v file old s) f (ap (λ (d : Driver). entry_at d.entries s) (sym is) ∙ here) in
    ap (λ (e : Entry). list_any (is_bad_prd end) e.prds) b.2.same ∙ good s b.0 b.1

good_submit : (old : Host) (dev : ℕ) (request : Request) (new : Driver) → submit_refusal old.driver old.memory dev request ≡ None → new ≡ after_submit old.driver dev request → HaveGoodPrds (end_of old.memory) old.driver
    → HaveGoodPrds (end_of old.memory) new
good_submit old dev request new accepted is good s f here =
    let fresh : Entry = new_entry (old.driver.given + 1) dev request in
    let there : entry_at (set old.driver.entries (next_slot old.driver) (Some fresh)) s ≡ Some f = ap (λ (d : Driver). entry_at d.entries s) (sym is) ∙ here in
    elim (set_cases old.driver.entries (next_slot old.driver) (Some fresh) s f there) [
      | inl at ↦ subst (HasGoodPrds (end_of old.memory)) (some_same fresh f at.1) (is_taken old.driver old.memory dev request accepted).good
      | inr beside ↦ good s f beside.1
    ]

good_poll : (end : ℕ) (c : Completion) (old new : Driver) → completion_of old ≡ Some c → new ≡ after_poll old → HaveGoodPrds end old → HaveGoodPrds end new
good_poll end c old new polled is good s f here =
    let facts = poll_facts old c polled in
    let there : entry_at (set old.entries facts.place None) s ≡ Some f = ap (λ (d : Driver). entry_at d.entries s) (sym (is ∙ freed old c facts)) ∙ here in
    elim (set_cases old.entries facts.place None s f there) [
      | inl at ↦ none_some f at.1
      | inr beside ↦ good s f beside.1
    ]

good_turn : (old : Host) (t : HostTurn) (new : Host) → Does old t new → HaveGoodPrds (end_of old.memory) old.driver → HaveGoodPrds (end_of old.memory) new.driver
good_turn old (Ticked a) new h = good_tick (end_of old.memory) (sight_in old) (file_shown new.port) old.driver new.driver h.driver
good_turn old (Submitted dev request ticket) new h = good_submit old dev request new.driver h.accepted h.taken.driver
good_turn old (Polled c) new h = good_poll (end_of old.memory) c old.driver new.driver h.polled h.driver
good_turn old other new h = good_same (end_of old.memory) old.driver new.driver h.driver

-- memory keeps its size
pub as_long : {mode : Mode} (old : Host) (turns : List HostTurn) (new : Host) → DoesAll old turns new → IsSoundHostIn mode old → length new.memory.client ≡ length old.memory.client
as_long old turns new run sound =
    let e = turns_are_events _ old new turns run sound in
    (sizes_stay (shared_by old) (shared_by new) (events_over old new turns run) e.runs e.sound.hosts).1

-- a tick leaves client memory
act_client : (e : Effect) (old : Port) (before : Memory) (new : Port) (after : Memory) → Acts e old before new after → after.client ≡ before.client
act_client (effect.Commands slot fields buffer) old before new after acts = acts.1.client
act_client other old before new after acts = ap (λ (m : Memory). m.client) acts.1

acts_client : (es : List Effect) (old : Port) (before : Memory) (new : Port) (after : Memory) → ActsAll es old before new after → after.client ≡ before.client
unfolding ActsAll
acts_client [] old before new after acts = ap (λ (m : Memory). m.client) acts.1
acts_client (e ∷ es) old before new after acts = acts_client es acts.0 acts.1 new after acts.4 ∙ act_client e old before acts.0 acts.1 acts.2

pub tick_client : (old : Host) (acted : Bool) (new : Host) → Does old (Ticked acted) new → new.memory.client ≡ old.memory.client
tick_client old acted new does = acts_client (effects (sight_in old) old.driver) old.port old.memory new.port new.memory does.does

good_over : {mode : Mode} (turns : List HostTurn) (old new : Host) → DoesAll old turns new → IsSoundHostIn mode old → HaveGoodPrds (end_of old.memory) old.driver → HaveGoodPrds (end_of new.memory) new.driver
good_over [] old new run sound good = subst (λ (h : Host). HaveGoodPrds (end_of h.memory) h.driver) (sym run) good
good_over (t ∷ turns) old new run sound good =
    let one : DoesAll old (t ∷ []) run.0 = (run.0, run.1, refl) in
    let long : length run.0.memory.client ≡ length old.memory.client = as_long old (t ∷ []) run.0 one sound in
    good_over turns run.0 new run.2 (sound_turn old t run.0 run.1 sound)
    (subst (λ (n : ℕ). HaveGoodPrds (1048576 + n) run.0.driver) (sym long) (good_turn old t run.0 run.1 good))

no_request : (s : ℕ) (e : Entry) {P : Type 0} → entry_at (replicate 30 None) s ≡ Some e → P
no_request s e h = elim (cases_lt s 30) [
  | inl less ↦ none_some e (sym (get_or-replicate 30 s None None less) ∙ h)
  | inr least ↦ none_some e (sym (get_or_past (replicate 30 None) s None (rw (length-replicate {A = Option Entry} 30 None) least)) ∙ h)
]

-- the same over all turns of a driver that begins without requests
pub good_since : {mode : Mode} (turns : List HostTurn) (old new : Host) → DoesAll old turns new → IsSoundHostIn mode old → old.driver.entries ≡ replicate 30 None → HaveGoodPrds (end_of new.memory) new.driver
good_since turns old new run sound none =
    good_over turns old new run sound (λ s e here. no_request s e (ap (λ (entries : List (Option Entry)). entry_at entries s) (sym none) ∙ here))

-- ---- and lie in the client area

inside_parts : (a b e : ℕ) → ((a % 2 == 1) || (b % 2 == 1) || (b == 0) || nat_lt 4194304 b || nat_lt a 1049088 || nat_lt e (a + b)) ≡ false → (1049088 ≤ a) × (a + b ≤ e)
inside_parts a b e h = (grind (arith, nat_tests), grind (arith, nat_tests))

inside_one : (len : ℕ) (prd : Prd) → is_bad_prd (1048576 + len) prd ≡ false → LiesInClient len prd.address prd.bytes
inside_one len prd good =
    let p = inside_parts prd.address prd.bytes (1048576 + len) good in
    (omega (arith, p.0), p.1)

inside_all : (len : ℕ) (prds : List Prd) → list_any (is_bad_prd (1048576 + len)) prds ≡ false → AreInside len prds
inside_all len [] good = tt
inside_all len (prd ∷ prds) good =
    let p = or_parts (is_bad_prd (1048576 + len) prd) (list_any (is_bad_prd (1048576 + len)) prds) good in
    (inside_one len prd p.0, inside_all len prds p.1)

buffer_inside : (len : ℕ) → 1048576 ≤ len → LiesInClient len 1048576 512
buffer_inside len least = (omega arith, omega (arith, least))

step_inside : (len : ℕ) (stage : Stage) → 1048576 ≤ len → AreInside len (prds_with (reads_page stage))
step_inside len Identify least = (buffer_inside len least, tt)
step_inside len (ReadLog file) least = (buffer_inside len least, tt)
step_inside len other least = tt

pub issue_inside : {mode : Mode} (h : Host) (n s : ℕ) (t : Transfer) → IsSoundHostIn mode h → HaveGoodPrds (end_of h.memory) h.driver → From h.driver n s t → AreInside (length h.memory.client) t.table
issue_inside h n s t sound good (inl r) =
    subst (AreInside (length h.memory.client)) (sym r.table) (inside_all (length h.memory.client) r.entry.prds (good s r.entry r.stands))
issue_inside h n s t sound good (inr (inl i)) =
    subst (AreInside (length h.memory.client)) (sym i.table) (step_inside (length h.memory.client) i.path.stage sound.memory.client_least)
issue_inside h n s t sound good (inr (inr o)) = subst (AreInside (length h.memory.client)) (sym o.table) tt

-- ---- a slot is one device's

owned_is : (n : ℕ) (issue i : Issue) → owned_by n (Some issue) ≡ Some i → issue.dev ≡ n
owned_is n issue i h = by_test (eqb issue.dev n) refl h
  where
    by_test : (b : Bool) → eqb issue.dev n ≡ b → cond b (Some issue) None ≡ Some i → issue.dev ≡ n
    by_test true is h = eqb-true issue.dev n is
    by_test false is h = cc

record OwnIssue (a : event.Host) (n s : ℕ) : Type 0 where
  pub issue : Issue
  pub there : issue_at a.port.slots s ≡ Some issue
  pub of_dev : issue.dev ≡ n

own_issue_of : (a : event.Host) (past : Touches) → AreHistoriesOf a past → (n s : ℕ) (t : Transfer) → n < 16 → issued s (own n past) ≡ Some t → OwnIssue a n s
own_issue_of a past told n s t below here = by_issue (own_issue (slots_of n a.port.slots) s) refl
  where
    by_issue : (o : Option Issue) → own_issue (slots_of n a.port.slots) s ≡ o → OwnIssue a n s
    by_issue None e =
        let bad : Some t.work ≡ None = sym (ap (option_map work_of_transfer) here) ∙ (told n below).issued s ∙ ap (option_map work_of_issue) e in cc
    by_issue (Some i) e =
        let there = own_in n s a.port.slots i e in
        record {
          issue = i;
          there = there.1;
          of_dev = owned_is n i i (ap (owned_by n) (sym there.1) ∙ sym (own_at n a.port.slots s there.0) ∙ e);
        }

pub one_owner : (a : event.Host) (past : Touches) → AreHistoriesOf a past → (n m s : ℕ) (t u : Transfer) → n < 16 → m < 16 → issued s (own n past) ≡ Some t → issued s (own m past) ≡ Some u → n ≡ m
one_owner a past told n m s t u below below_too here there =
    let x = own_issue_of a past told n s t below here in
    let y = own_issue_of a past told m s u below_too there in
    sym x.of_dev ∙ ap (λ (i : Issue). i.dev) (same_issue x.issue y.issue (sym x.there ∙ y.there)) ∙ y.of_dev
  where
    same_issue : (i j : Issue) → Some i ≡ Some j → i ≡ j
    same_issue i j h = cc
