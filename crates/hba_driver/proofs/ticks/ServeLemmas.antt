-- For `ticks_serve`. What a tick does to devices: whom it serves, and whom it flushes.
use Rattle.std.proofs.Common.{◌≡◌, ℕ, zero, suc, ◌<◌, nat_lt, Bool, true, false, List, [], ◌∷◌, length, get_or, set, refl, sym, ◌∙◌, ap, subst, inl}
use Rattle.std.proofs.{Common.{inr, arith, Option, Some, None, ◌++◌}, lemmas.Bool.{cases_Bool, cases_lt, false≢true, true≢false, Decides.nat_tests}}
use Rattle.std.proofs.lemmas.List.{get_or_past, get_or-set_same, length-set}
use Rattle.std.specs.{Prelude.{if◌then◌else◌, ◌==◌, ◌||◌}, List.list_any}
use Rattle.hba_driver.specs.declared.{effect.Effect.Effect, mode.Mode.{Mode, TheVariants.{Switching, CommandBased}}, order.Order.Order}
use Rattle.hba_driver.specs.declared.{order.Order.TheVariants.{AwaitSignature, Clear, Watch}, plan.Device.{Device, TheVariants.{Absent, Recovering}}}
use Rattle.hba_driver.specs.declared.{path.{Stage.{Stage, TheVariants.AwaitReset}, TaskFile.TaskFile}, plan.Plan.Plan}
use Rattle.hba_driver.specs.{declared.{request.Outcome.TheVariants.{PortError, Removed}, slot.{Head.Head, Phase.Phase}}, Seeing.Sight}
use Rattle.hba_driver.specs.{declared.{slot.Phase.TheVariants.{Aside, Ended}, turn.Act.Act}, Drivers.{Driver, Entry, device_at, entry_at, has_ended}}
use Rattle.hba_driver.specs.{Drivers.{is_aside, rephase, rephased}, Effects.{effects_of, emptying, issuing, opening_write, opening_writes}}
use Rattle.hba_driver.specs.{Effects.{order_command, order_effects, restart_write, restart_writes, stage_effects}, Laws.{TicksServe, flushes}}
use Rattle.hba_driver.specs.{Laws.is_withdrawn, Orders.order_fields, Paths.{recovery, stage_fields}, Ticks.{acted, after_tick, done_ended, due}}
use Rattle.hba_driver.specs.Ticks.{effects, effects_due, entries_after, from_reset, is_open, is_open_of, plan_after, recovering, seen, turn}
use Rattle.hba_driver.specs.Turns.{may_issue}
use Rattle.hba_driver.specs.declared.turn.Act.TheVariants as act
use Rattle.hba_driver.proofs.ticks.{DueLemmas.goes_turn, LifeLemmas.{May, entry_of_rephased, may_turn}}

-- ---- whom it serves

may_of : (a : Option Act) (entries : List (Option Entry)) (plan : Plan) (slot dev : ℕ) (queued : Bool) → a ≡ Some (act.Issues slot dev queued) → May plan entries a
    → may_issue plan (entry_at entries slot) ≡ true
may_of a entries plan slot dev queued is h = subst (λ (x : Option Act). May plan entries x) is h

ready : (v : Sight) (d : Driver) (slot dev : ℕ) (queued : Bool) → due v d ≡ Some (act.Issues slot dev queued) → may_issue (turn v d).plan (entry_at (seen v d).entries slot) ≡ true
ready v d slot dev queued is = may_of (turn v d).act (seen v d).entries (turn v d).plan slot dev queued is (may_turn v d)

-- ---- whom it flushes

at_none : (dev : ℕ) (es : List Effect) (k : ℕ) (e : Effect) → list_any (flushes dev) es ≡ false → flushes dev e ≡ false → flushes dev (get_or es k e) ≡ false
at_none dev [] k e h n = n
at_none dev (x ∷ es) zero e h n = first (flushes dev x) (list_any (flushes dev) es) h
  where
    first : (a b : Bool) → (a || b) ≡ false → a ≡ false
    first true b h = absurd (true≢false h)
    first false b h = refl
at_none dev (x ∷ es) (suc k) e h n = at_none dev es k e (rest (flushes dev x) (list_any (flushes dev) es) h) n
  where
    rest : (a b : Bool) → (a || b) ≡ false → b ≡ false
    rest true b h = absurd (true≢false h)
    rest false b h = h

opens_none : (mode : Mode) (dev k : ℕ) → list_any (flushes dev) (effects_of mode (act.Opens k)) ≡ false
unfolding effects_of opening_write
opens_none mode dev k = ap (λ (b : Bool). b || false) (at_none dev (opening_writes mode) k _ refl refl)

restarts_none : (mode : Mode) (dev k : ℕ) → list_any (flushes dev) (effects_of mode (act.Restarts k)) ≡ false
unfolding effects_of restart_write
restarts_none mode dev k = ap (λ (b : Bool). b || false) (at_none dev restart_writes k _ refl refl)

issues_none : (mode : Mode) (dev slot other : ℕ) (queued : Bool) → list_any (flushes dev) (issuing mode slot other queued) ≡ false
issues_none Switching dev slot other true = refl
issues_none Switching dev slot other false = refl
issues_none CommandBased dev slot other true = refl
issues_none CommandBased dev slot other false = refl

steps_none : (mode : Mode) (dev other : ℕ) (stage : Stage) → list_any (flushes dev) (stage_effects mode other stage) ≡ false
unfolding stage_fields
steps_none mode dev other AwaitReset = refl
steps_none mode dev other rest = issues_none mode dev 30 other false

equal_of : (x y : ℕ) → ((x == y) || false) ≡ true → x ≡ y
equal_of x y h = grind (arith, nat_tests)

none_cleared : (mode : Mode) (dev : ℕ) {P : Type 0} → list_any (flushes dev) (issuing mode 31 15 false) ≡ true → P
none_cleared mode dev h = absurd (false≢true (sym (issues_none mode dev 31 15 false) ∙ h))

-- the rest of what clears a port flushes nothing
rest_none : (mode : Mode) (dev port : ℕ) (es : List Effect) → list_any (flushes dev) es ≡ false → list_any (flushes dev) (emptying mode port ++ es) ≡ false
rest_none Switching dev port es h = h
rest_none CommandBased dev port es h = h

by_flush : (b c : Bool) → c ≡ false → (b || c) ≡ true → (b || false) ≡ true
by_flush true c none h = refl
by_flush false c none h = absurd (false≢true (sym none ∙ h))

clears : (mode : Mode) (dev : ℕ) (order : Order) → list_any (flushes dev) (order_effects mode order) ≡ true → order ≡ Clear dev
unfolding order_effects order_fields
clears mode dev AwaitSignature h = absurd (false≢true h)
clears mode dev (Clear port) h =
    ap Clear (equal_of port dev
    (by_flush (port == dev) _ (rest_none mode dev port (order_command mode (Clear port)) (issues_none mode dev 31 15 false)) h))
clears mode dev Watch h = absurd (false≢true h)
clears mode dev order h = none_cleared mode dev h

pub act_clears : (mode : Mode) (dev : ℕ) (a : Option Act) → list_any (flushes dev) (effects_due mode a) ≡ true → a ≡ Some (act.Orders (Clear dev))
unfolding effects_of
act_clears mode dev (Some (act.Opens k)) h = absurd (false≢true (sym (opens_none mode dev k) ∙ h))
act_clears mode dev (Some (act.Restarts k)) h = absurd (false≢true (sym (restarts_none mode dev k) ∙ h))
act_clears mode dev (Some (act.Orders order)) h = ap (λ (o : Order). Some (act.Orders o)) (clears mode dev order h)
act_clears mode dev (Some (act.Steps other stage)) h = absurd (false≢true (sym (steps_none mode dev other stage) ∙ h))
act_clears mode dev (Some (act.Issues slot other queued)) h = absurd (false≢true (sym (issues_none mode dev slot other queued) ∙ h))
act_clears mode dev rest h = absurd (false≢true h)

-- what is due tells what becomes of the driver
tick_of : (v : Sight) (file : TaskFile) (d : Driver) (a : Act) → due v d ≡ Some a → after_tick v file d ≡ acted (Some a) file (seen v d)
unfolding after_tick
tick_of v file d a is = ap (λ (x : Option Act). acted x file (seen v d)) is

-- so the tick is that of the port's scan
pub cleared : (v : Sight) (file : TaskFile) (d : Driver) (dev : ℕ) → list_any (flushes dev) (effects v d) ≡ true → after_tick v file d ≡ acted (Some (act.Orders (Clear dev))) file (seen v d)
cleared v file d dev h = tick_of v file d (act.Orders (Clear dev)) (act_clears d.plan.mode dev (due v d) h)

absent_set : (devices : List Device) (dev : ℕ) → get_or (set devices dev Absent) dev Absent ≡ Absent
absent_set devices dev = elim (cases_lt dev (length devices)) [
  | inl below ↦ get_or-set_same devices dev Absent Absent below
  | inr past ↦ get_or_past (set devices dev Absent) dev Absent (rw (length-set devices dev Absent) past)
]

absent_after : (d : Driver) (file : TaskFile) (dev : ℕ) → device_at (acted (Some (act.Orders (Clear dev))) file d).plan dev ≡ Absent
unfolding plan_after
absent_after d file dev = absent_set d.plan.devices dev

leaves : (v : Sight) (file : TaskFile) (d : Driver) (dev : ℕ) → list_any (flushes dev) (effects v d) ≡ true → device_at (after_tick v file d).plan dev ≡ Absent
leaves v file d dev h = ap (λ (x : Driver). device_at x.plan dev) (cleared v file d dev h) ∙ absent_after (seen v d) file dev

-- the device whose fault is cleared recovers
then_plan : (b : Bool) (x y : Plan) → b ≡ true → (if b then x else y) ≡ x
then_plan true x y h = refl
then_plan false x y h = absurd (false≢true h)

is_below : (dev : ℕ) → dev < 15 → nat_lt dev 15 ≡ true
is_below dev h = grind (arith, nat_tests)

recovers_after : (d : Driver) (file : TaskFile) (dev : ℕ) → dev < 15 → length d.plan.devices ≡ 15 → device_at (acted (Some (act.Clears dev)) file d).plan dev ≡ Recovering (recovery (device_at d.plan dev) file)
unfolding plan_after
recovers_after d file dev below long =
    ap (λ (p : Plan). device_at p dev) (then_plan (nat_lt dev 15) (recovering dev file d.plan) (from_reset d.plan) (is_below dev below))
    ∙ get_or-set_same d.plan.devices dev (Recovering (recovery (device_at d.plan dev) file)) Absent (omega (arith, below, long))

recovers : (v : Sight) (file : TaskFile) (d : Driver) (dev : ℕ) → due v d ≡ Some (act.Clears dev) → dev < 15 → length d.plan.devices ≡ 15
    → device_at (after_tick v file d).plan dev ≡ Recovering (recovery (device_at (turn v d).plan dev) file)
recovers v file d dev is below long =
    ap (λ (x : Driver). device_at x.plan dev) (tick_of v file d (act.Clears dev) is)
    ∙ recovers_after (seen v d) file dev below ((goes_turn v d.plan (done_ended v.issued d.entries)).devices ∙ long)

-- an open request of the device has ended this way
some_same : (e f : Entry) → Some e ≡ Some f → e ≡ f
some_same e f h = cc

abbrev none_entry : Option Entry
none_entry = None

none_some : (e : Entry) (P : Type 0) → none_entry ≡ Some e → P
none_some e P h = absurd (apart h)
  where
    apart : none_entry ≡ Some e → ⊥
    apart h = cc

equal_is : (x y : ℕ) → x ≡ y → (x == y) ≡ true
equal_is x y h = grind (arith, nat_tests)

-- what becomes of an entry for which a test holds, or that passes another test in any case
passes_by : (b : Bool) (phase : Phase) (test : Head → Bool) (e f : Entry) → test (rephased phase e).head ≡ true → (has_ended e.head ≡ true → test e.head ≡ true) → (has_ended e.head ≡ false → b ≡ true)
    → (if b then Some (rephased phase e) else Some e) ≡ Some f → test f.head ≡ true
passes_by true phase test e f there ended h is = subst (λ (x : Entry). test x.head ≡ true) (some_same (rephased phase e) f is) there
passes_by false phase test e f there ended h is = elim (cases_Bool (has_ended e.head)) [
  | inl over ↦ subst (λ (x : Entry). test x.head ≡ true) (some_same e f is) (ended over)
  | inr open' ↦ absurd (false≢true (h open'))
]

dev_stays : (b : Bool) (phase : Phase) (e f : Entry) → (if b then Some (rephased phase e) else Some e) ≡ Some f → f.head.dev ≡ e.head.dev
dev_stays true phase e f is = ap (λ (x : Entry). x.head.dev) (sym (some_same (rephased phase e) f is))
dev_stays false phase e f is = ap (λ (x : Entry). x.head.dev) (sym (some_same e f is))

passes_at : (dev s : ℕ) (phase : Phase) (test : Head → Bool) → ((e : Entry) → test (rephased phase e).head ≡ true) → ((e : Entry) → has_ended e.head ≡ true → test e.head ≡ true) → (o : Option Entry) (f : Entry)
    → rephase (is_open_of dev s) phase o ≡ Some f → f.head.dev ≡ dev → test f.head ≡ true
passes_at dev s phase test there ended None f is own = none_some f _ is
passes_at dev s phase test there ended (Some e) f is own =
    let same : (e.head.dev == dev) ≡ true = equal_is e.head.dev dev (sym (dev_stays (is_open_of dev s e.head) phase e f is) ∙ own) in
    passes_by (is_open_of dev s e.head) phase test e f (there e) (ended e) (λ open'. rw (same, open') refl) is

removed_after : (d : Driver) (file : TaskFile) (dev s : ℕ) (f : Entry) → entry_at (acted (Some (act.Orders (Clear dev))) file d).entries s ≡ Some f → f.head.dev ≡ dev → has_ended f.head ≡ true
unfolding entries_after
removed_after d file dev s f here own =
    passes_at dev s (Ended Removed) has_ended (λ e. refl) (λ e h. h) (entry_at d.entries s) f (sym (entry_of_rephased (is_open_of dev) (Ended Removed) d.entries s) ∙ here) own

ends : (v : Sight) (file : TaskFile) (d : Driver) (dev s : ℕ) (e : Entry) → list_any (flushes dev) (effects v d) ≡ true → entry_at (after_tick v file d).entries s ≡ Some e → e.head.dev ≡ dev → has_ended e.head ≡ true
ends v file d dev s e h here own = removed_after (seen v d) file dev s e (ap (λ (x : Driver). entry_at x.entries s) (sym (cleared v file d dev h)) ∙ here) own

-- the requests of a device whose fault is cleared are set aside
or_right : (a b : Bool) → b ≡ true → (a || b) ≡ true
or_right true b h = refl
or_right false b h = h

withdrawn_after : (d : Driver) (file : TaskFile) (dev s : ℕ) (f : Entry) → entry_at (acted (Some (act.Clears dev)) file d).entries s ≡ Some f → f.head.dev ≡ dev → is_withdrawn f.head ≡ true
unfolding entries_after
withdrawn_after d file dev s f here own =
    passes_at dev s Aside is_withdrawn (λ e. refl) (λ e h. or_right (is_aside e.head) (has_ended e.head) h) (entry_at d.entries s) f (sym (entry_of_rephased (is_open_of dev) Aside d.entries s) ∙ here) own

withdraws : (v : Sight) (file : TaskFile) (d : Driver) (dev s : ℕ) (e : Entry) → due v d ≡ Some (act.Clears dev) → entry_at (after_tick v file d).entries s ≡ Some e → e.head.dev ≡ dev → is_withdrawn e.head ≡ true
withdraws v file d dev s e is here own = withdrawn_after (seen v d) file dev s e (ap (λ (x : Driver). entry_at x.entries s) (sym (tick_of v file d (act.Clears dev) is)) ∙ here) own

-- every request ends when the port is stopped
stopped_at : (s : ℕ) (o : Option Entry) (f : Entry) → rephase (is_open s) (Ended PortError) o ≡ Some f → has_ended f.head ≡ true
stopped_at s None f is = none_some f _ is
stopped_at s (Some e) f is = passes_by (is_open s e.head) (Ended PortError) has_ended e f refl (λ h. h) (λ open'. rw open' refl) is

stopped_after : (d : Driver) (file : TaskFile) (s : ℕ) (f : Entry) → entry_at (acted (Some act.Stops) file d).entries s ≡ Some f → has_ended f.head ≡ true
unfolding entries_after
stopped_after d file s f here = stopped_at s (entry_at d.entries s) f (sym (entry_of_rephased is_open (Ended PortError) d.entries s) ∙ here)

stops : (v : Sight) (file : TaskFile) (d : Driver) (s : ℕ) (e : Entry) → due v d ≡ Some act.Stops → entry_at (after_tick v file d).entries s ≡ Some e → has_ended e.head ≡ true
stops v file d s e is here = stopped_after (seen v d) file s e (ap (λ (x : Driver). entry_at x.entries s) (sym (tick_of v file d act.Stops is)) ∙ here)

pub ticks_serve : TicksServe
ticks_serve = record { ready = ready; leaves = leaves; ends = ends; recovers = recovers; withdraws = withdraws; stops = stops }
