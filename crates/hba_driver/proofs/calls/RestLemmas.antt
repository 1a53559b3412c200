-- For `Driver::tick`. A tick that does not act leaves the driver as it was.
use Rattle.std.proofs.{Common.{◌≡◌, ℕ, Bool, true, false, List, length, refl, ap, ◌∙◌, inl, inr, Option, Some, None}, lemmas.Bool.or_parts}
use Rattle.std.proofs.lemmas.Bool.{false≢true, true≢false, cases_Bool}
use Rattle.std.specs.{Prelude.{if◌then◌else◌, ◌&&◌, not, ◌||◌}, Option.{is_some, option_map}}
use Rattle.slots.specs.Slots.{has_bit, match_some}
use Rattle.hba_driver.specs.declared.{order.Order.{Order, TheVariants.{AwaitSignature, Scan, Watch}}, path.{Path.Path, Stage.Stage}}
use Rattle.hba_driver.specs.declared.{path.Stage.TheVariants.{Identify, ReadLog, AssertReset, ReleaseReset}, plan.Plan.Plan}
use Rattle.hba_driver.specs.{declared.{request.Outcome.TheVariants.Done, slot.Phase.TheVariants.Ended, turn.{Act.Act, Logged.Logged}}, Seeing.Sight}
use Rattle.hba_driver.specs.{declared.turn.Turn.Turn, Drivers.{Driver, Entry}, Ticks.{acts, any_done, done_ended, due, is_done, logged_ended, seen}}
use Rattle.hba_driver.specs.{Ticks.turn, Turns.{advanced, awaits, awaits_reset, control_news, control_seen, device_news, device_seen, is_back}}
use Rattle.hba_driver.specs.Turns.{is_in_reset, is_out, logged_by, met, met_order, met_path, met_stage, path_met, path_news, turn_of, watches}
use Rattle.hba_driver.specs.declared.path.Stage.TheVariants as stage
use Rattle.hba_driver.proofs.{ticks.DueLemmas.turn_by, calls.ScanLemmas.none_rephased}

-- ---- slot 31

waits_on : (r : Bool) (o : Order) → not r ≡ false → (if r then AwaitSignature else o) ≡ AwaitSignature
waits_on true o h = refl
waits_on false o h = absurd (true≢false h)

watches_on : (n : Bool) → n ≡ false → (if n then Scan else Watch) ≡ Watch
watches_on true h = absurd (true≢false h)
watches_on false h = refl

-- where nothing came, the order goes on
met_quiet : (v : Sight) (o : Order) → ((awaits o && not v.resetting) || (watches o && v.notified)) ≡ false → met_order v o ≡ o
unfolding met_order
met_quiet v AwaitSignature n = waits_on v.resetting _ (or_parts (not v.resetting) false n).0
met_quiet v Watch n = watches_on v.notified n
met_quiet v other n = refl

abbrev with_order : Order → Plan → Plan
with_order o plan = record plan { order = o }

else_is : (b : Bool) (x y : Plan) → b ≡ false → (if b then x else y) ≡ y
else_is true x y h = absurd (true≢false h)
else_is false x y h = refl

then_is : (b : Bool) (x y : Plan) → b ≡ true → (if b then x else y) ≡ x
then_is true x y h = refl
then_is false x y h = absurd (false≢true h)

-- its command is out, and not done
quiet_asked : (v : Sight) (plan : Plan) → plan.asked ≡ true → control_news v plan ≡ false → control_seen v plan ≡ plan
quiet_asked v plan a n =
    let out : not (is_out v plan) ≡ false = rw a at n in
    let still : (plan.asked && not (is_out v plan)) ≡ false = rw (a, out) refl in
    ap (met v) (else_is (plan.asked && not (is_out v plan)) _ plan still) ∙ then_is plan.asked plan _ a

-- it has no command
quiet_free : (v : Sight) (plan : Plan) → plan.asked ≡ false → control_news v plan ≡ false → control_seen v plan ≡ plan
quiet_free v plan a n =
    let still : (plan.asked && not (is_out v plan)) ≡ false = rw a refl in
    let seen_is : control_seen v plan ≡ with_order (met_order v plan.order) plan =
    ap (met v) (else_is (plan.asked && not (is_out v plan)) _ plan still) ∙ else_is plan.asked plan _ a in
    let quiet : ((awaits plan.order && not v.resetting) || (watches plan.order && v.notified)) ≡ false = rw a at n in
    seen_is ∙ ap (λ (o : Order). with_order o plan) (met_quiet v plan.order quiet)

control_quiet : (v : Sight) (plan : Plan) → control_news v plan ≡ false → control_seen v plan ≡ plan
control_quiet v plan n = elim (cases_Bool plan.asked) [
  | inl a ↦ quiet_asked v plan a n
  | inr a ↦ quiet_free v plan a n
]

-- ---- slot 30

-- a command that is out, or no command, tells nothing
no_answer : {A : Type 0} (asked out more : Bool) (x y : A) → (if asked then not out else more) ≡ false → (if (asked && not out) then x else y) ≡ y
no_answer true true more x y h = refl
no_answer true false more x y h = absurd (true≢false h)
no_answer false out more x y h = refl

answered_quiet : (v : Sight) (plan : Plan) (o : Option Path) → match_some o false (path_news v) ≡ false → match_some o plan (λ path. if is_back v path then advanced v path plan else plan) ≡ plan
answered_quiet v plan None h = refl
answered_quiet v plan (Some path) h = no_answer path.asked (has_bit v.issued 30) _ (advanced v path plan) plan h

logged_quiet : (v : Sight) (o : Option Path) → match_some o false (path_news v) ≡ false → match_some o None (λ path. if is_back v path then logged_by v path.dev path.stage else None) ≡ None
logged_quiet v None h = refl
logged_quiet v (Some path) h = no_answer path.asked (has_bit v.issued 30) _ (logged_by v path.dev path.stage) None h

waits_for : (b : Bool) → not b ≡ false → (if b then stage.AwaitReset else Identify) ≡ stage.AwaitReset
waits_for true h = refl
waits_for false h = absurd (true≢false h)

stage_quiet : (v : Sight) (dev : ℕ) (s : Stage) → (awaits_reset s && not (is_in_reset v dev)) ≡ false → met_stage v dev s ≡ s
unfolding met_stage
stage_quiet v dev stage.AwaitReset h = waits_for (is_in_reset v dev) h
stage_quiet v dev other h = refl

abbrev with_stage : Path → Stage → Path
with_stage path s = record path { stage = s }

path_still : (asked out more : Bool) (path met : Path) → (if asked then not out else more) ≡ false → (more ≡ false → met ≡ path) → (if asked then path else met) ≡ path
path_still true out more path met h k = refl
path_still false out more path met h k = k h

path_quiet : (v : Sight) (o : Option Path) → match_some o false (path_news v) ≡ false → option_map (met_path v) o ≡ o
path_quiet v None h = refl
path_quiet v (Some path) h =
    ap Some
    (path_still path.asked (has_bit v.issued 30) _ path (with_stage path (met_stage v path.dev path.stage)) h (λ quiet. ap (with_stage path) (stage_quiet v path.dev path.stage quiet)))

abbrev with_path : Plan → Option Path → Plan
with_path plan o = record plan { path = o }

device_quiet : (v : Sight) (plan : Plan) → device_news v plan ≡ false → device_seen v plan ≡ plan
device_quiet v plan h = ap (path_met v) (answered_quiet v plan plan.path h) ∙ ap (with_path plan) (path_quiet v plan.path h)

-- ---- the turn

-- a turn with no act and no news leaves the plan, and no log came
abbrev Rests : Plan → Turn → Type 0
Rests plan t = t.act ≡ None → t.news ≡ false → (t.plan ≡ plan) × (t.logged ≡ None)

rest_turn : (v : Sight) (plan : Plan) (entries : List (Option Entry)) → Rests plan (turn_of v plan entries)
rest_turn v plan entries =
    turn_by (Rests plan) v plan entries (λ a n. (refl, refl)) (λ a n. (control_quiet v plan n, refl)) (λ a n.
    let parts = or_parts (control_news v plan) (device_news v (control_seen v plan)) n in
    (device_quiet v (control_seen v plan) parts.1 ∙ control_quiet v plan parts.0, logged_quiet v (control_seen v plan).path parts.1))

rests : (v : Sight) (d : Driver) → length d.entries ≡ 30 → any_done v.issued d.entries ≡ false → (turn v d).act ≡ None → (turn v d).news ≡ false → seen v d ≡ d
unfolding any_done
rests v d long done none news =
    let ended : done_ended v.issued d.entries ≡ d.entries = none_rephased (is_done v.issued) (Ended Done) 30 d.entries long done in
    let still = rest_turn v d.plan (done_ended v.issued d.entries) none news in
    ap (λ (p : Plan). let x : Driver = record { plan = p; given = d.given; entries = logged_ended v.log (turn v d).logged (done_ended v.issued d.entries) } in x) still.0
    ∙ ap (λ (l : Option Logged). let x : Driver = record { plan = d.plan; given = d.given; entries = logged_ended v.log l (done_ended v.issued d.entries) } in x) still.1
    ∙ ap (λ (e : List (Option Entry)). let x : Driver = record { plan = d.plan; given = d.given; entries = e } in x) ended

none_act : (a : Option Act) → is_some a ≡ false → a ≡ None
none_act None h = refl
none_act (Some a) h = absurd (true≢false h)

-- nothing is due, and the driver has seen nothing
pub acts_rests : (v : Sight) (d : Driver) → length d.entries ≡ 30 → acts v d ≡ false → (due v d ≡ None) × (seen v d ≡ d)
unfolding acts
acts_rests v d long h =
    let some = or_parts (is_some (turn v d).act) _ h in
    let more = or_parts (any_done v.issued d.entries) (turn v d).news some.1 in
    let none : (turn v d).act ≡ None = none_act (turn v d).act some.0 in
    (none, rests v d long more.0 none more.1)
