-- For `idle_drivers_wait`. A driver that has nothing to do waits for others.
use Rattle.std.proofs.Common.{◌≡◌, ◌⊎◌, ℕ, zero, suc, ◌<◌, Bool, true, false, List, [], ◌∷◌, length, refl, sym, ap, subst, ◌∙◌, inl, inr, Option}
use Rattle.std.proofs.{Common.{Some, None, arith}, lemmas.{Bool.{false≢true, true≢false, ltb-false}, List.FromFn.{get_or-map-range_with_len}}}
use Rattle.std.specs.{Prelude.{if◌then◌else◌, ◌==◌, ◌&&◌, ◌||◌, not, is_some, nat_lt, slice_index_or}, Option.{option_map, option_or}}
use Rattle.fis_view.specs.declared.build.H2dFields.{H2dFields}
use Rattle.slots.specs.Slots.{has_bit, lowest_below, match_some}
use Rattle.slots.proofs.Door.{lowest_is, none_below}
use Rattle.hba_driver.specs.declared.{mode.Mode.{Mode, TheVariants.Switching}, order.Order.{Order, TheVariants.{AwaitSignature, CountPorts, ResetOn}}}
use Rattle.hba_driver.specs.declared.{order.Order.TheVariants.{Scan, Watch}, path.{Path.Path, Recovery.TheVariants.{Log, Reset}, Stage.Stage}}
use Rattle.hba_driver.specs.declared.{path.Stage.TheVariants.{AwaitReset, Identify}, plan.Device.{Device, TheVariants.{Recovering, Starting}}}
use Rattle.hba_driver.specs.declared.{plan.Plan.Plan, request.Outcome.TheVariants.Done, slot.Phase.{Phase, TheVariants.{Waits, Ended}}}
use Rattle.hba_driver.specs.Drivers.{Driver, Entry, device_at, entry_at, holds, is_issued_in, rephase, rephase_all, rephased, waits_in}
use Rattle.hba_driver.specs.{Orders.order_fields, Paths.{first_stage, stage_fields}, Seeing.Sight, Ticks.{acts, any_done, done_ended, is_done, turn}}
use Rattle.hba_driver.specs.Turns.{advanced, allowed, answered, awaits, awaits_reset, control_news, control_seen, control_turn, device_due}
use Rattle.hba_driver.specs.Turns.{device_news, device_or_request, device_seen, device_turn, early_due, fault_due, is_back, is_due, is_in_reset}
use Rattle.hba_driver.specs.Turns.{is_out, is_ready, issue_of, may_issue, met, met_order, met_path, met_stage, opening_due, order_allowed, order_due}
use Rattle.hba_driver.specs.Turns.{path_answered, path_due, path_met, path_news, plain_turn, request_due, restart_due, stage_due, step_of, turn_of}
use Rattle.hba_driver.specs.Turns.{watches}
use Rattle.world_rests.specs.Waits.{DriverWaits, ForAnswer, ForCommand, ForEnd, ForNobody, ForNotice, ForSignature, NeedsNothing, RequestsWait}
use Rattle.world_rests.specs.Waits.{Waits30, Waits31}

-- ---- tests

neither : (a b : Bool) → (a || b) ≡ false → (a ≡ false) × (b ≡ false)
neither true b e = absurd (true≢false e)
neither false b e = (refl, e)

not_some : {A : Type 0} (o : Option A) → is_some o ≡ false → o ≡ None
not_some None e = refl
not_some (Some x) e = absurd (true≢false e)

not_not : (b : Bool) → not b ≡ false → b ≡ true
not_not true e = refl
not_not false e = absurd (true≢false e)

none_either : {A : Type 0} (a b : Option A) → option_or a b ≡ None → (a ≡ None) × (b ≡ None)
none_either None b e = (refl, e)
none_either (Some x) b e = absurd (cc)

none_mapped : {A B : Type 0} (f : A → B) (o : Option A) → option_map f o ≡ None → o ≡ None
none_mapped f None e = refl
none_mapped f (Some x) e = absurd (cc)

-- ---- what comes before everything else

none_if : {A : Type 0} (b : Bool) (a : A) → (if b then Some a else None) ≡ None → b ≡ false
none_if true a e = absurd (cc)
none_if false a e = refl

none_stops : {A : Type 0} (stops : A) (clears : ℕ → A) (b : Bool) (o : Option ℕ) → (if b then Some stops else option_map clears o) ≡ None → (b ≡ false) × (o ≡ None)
none_stops stops clears true o e = absurd (cc)
none_stops stops clears false o e = (refl, none_mapped clears o e)

record NoneEarly (v : Sight) (p : Plan) : Type 0 where
  opened : nat_lt p.opened 7 ≡ false
  restarted : nat_lt p.restarted 2 ≡ false
  stopped : v.stopped ≡ false
  faulty : v.faulty ≡ None

none_early : (v : Sight) (p : Plan) → early_due v p ≡ None → NoneEarly v p
unfolding early_due
none_early v p e =
    let one = none_either (opening_due p) (option_or (restart_due p) (fault_due v)) e in
    let two = none_either (restart_due p) (fault_due v) one.1 in
    let last = none_stops _ _ v.stopped v.faulty two.1 in
    record {
      opened = none_if (nat_lt p.opened 7) _ one.0;
      restarted = none_if (nat_lt p.restarted 2) _ two.0;
      stopped = last.0;
      faulty = last.1;
    }

-- ---- slot 31

met_stays : (v : Sight) (order : Order) → ((awaits order && not v.resetting) || (watches order && v.notified)) ≡ false → met_order v order ≡ order
unfolding met_order
met_stays v AwaitSignature e =
    let on : v.resetting ≡ true = not_not v.resetting (neither (not v.resetting) false e).0 in
    ap (λ (b : Bool). if b then AwaitSignature else if v.answer == 0x96690101 then CountPorts else ResetOn) on
met_stays v Watch e = ap (λ (b : Bool). if b then Scan else Watch) e
met_stays v other e = refl

control_stays : (v : Sight) (p : Plan) → control_news v p ≡ false → control_seen v p ≡ p
control_stays v p none = by_asked p.asked refl none
  where
    by_asked : (b : Bool) → p.asked ≡ b → (if b then not (is_out v p) else (awaits p.order && not v.resetting) || (watches p.order && v.notified)) ≡ false → control_seen v p ≡ p
    by_asked true is e =
        let out : is_out v p ≡ true = not_not (is_out v p) e in
        let same : answered v p ≡ p = rw (is, out) refl in
        ap (met v) same ∙ rw is refl
    by_asked false is e =
        let same : answered v p ≡ p = rw is refl in
        ap (met v) same ∙ rw (is, met_stays v p.order e) refl

no_order : (order : Order) → order_fields order ≡ None → (order ≡ AwaitSignature) ⊎ (order ≡ Watch)
unfolding order_fields
no_order AwaitSignature e = inl refl
no_order Watch e = inr refl
no_order other e = absurd (cc)

waits_31 : (v : Sight) (p : Plan) → control_news v p ≡ false → order_due p ≡ None → Waits31 v p
waits_31 v p none due = by_asked _ p.asked refl none due
  where
    by_order : p.asked ≡ false → (order : Order) → p.order ≡ order → (order ≡ AwaitSignature) ⊎ (order ≡ Watch)
        → ((awaits order && not v.resetting) || (watches order && v.notified)) ≡ false → Waits31 v p
    by_order un AwaitSignature is _ e = ForSignature un is (not_not v.resetting (neither (not v.resetting) false e).0)
    by_order un Watch is _ e = ForNotice un is e
    by_order un other is (inl wrong) e = absurd (cc)
    by_order un other is (inr wrong) e = absurd (cc)

    by_asked : {A : Type 0} (f : H2dFields → A) (b : Bool) → p.asked ≡ b → (if b then not (is_out v p) else (awaits p.order && not v.resetting) || (watches p.order && v.notified)) ≡ false
        → (if b then None else option_map f (order_fields p.order)) ≡ None → Waits31 v p
    by_asked f true is e due = ForAnswer is (not_not (is_out v p) e)
    by_asked f false is e due = by_order is p.order refl (no_order p.order (none_mapped f (order_fields p.order) due)) e

-- ---- slot 30

-- a stage without a command is the last of a reset
no_command : (dev : ℕ) (stage : Stage) → stage_fields dev stage ≡ None → stage ≡ AwaitReset
unfolding stage_fields
no_command dev AwaitReset e = refl
no_command dev other e = absurd (cc)

stage_stays : (v : Sight) (dev : ℕ) (stage : Stage) → (awaits_reset stage && not (is_in_reset v dev)) ≡ false → met_stage v dev stage ≡ stage
unfolding met_stage
stage_stays v dev AwaitReset e = ap (λ (b : Bool). if b then AwaitReset else Identify) (not_not (is_in_reset v dev) e)
stage_stays v dev other e = refl

path_stays : (v : Sight) (x : Path) → path_news v x ≡ false → (is_back v x ≡ false) × (met_path v x ≡ x)
path_stays v x none = by_asked x.asked refl none
  where
    by_asked : (b : Bool) → x.asked ≡ b → (if b then not (has_bit v.issued 30) else awaits_reset x.stage && not (is_in_reset v x.dev)) ≡ false
        → (is_back v x ≡ false) × (met_path v x ≡ x)
    by_asked true is e = (
      ap (λ (b : Bool). b && not (has_bit v.issued 30)) is ∙ e,
      ap (λ (b : Bool). if b then x else record x { stage = met_stage v x.dev x.stage }) is,
    )
    by_asked false is e = (
      ap (λ (b : Bool). b && not (has_bit v.issued 30)) is,
      ap (λ (b : Bool). if b then x else record x { stage = met_stage v x.dev x.stage }) is
          ∙ ap (λ (s : Stage). record x { stage = s }) (stage_stays v x.dev x.stage e),
    )

device_stays : (v : Sight) (p : Plan) → device_news v p ≡ false → device_seen v p ≡ p
device_stays v p none = by_path p.path refl none
  where
    by_path : (o : Option Path) → p.path ≡ o → match_some o false (path_news v) ≡ false → device_seen v p ≡ p
    by_path None is e =
        let same : path_answered v p ≡ p = ap (λ (o : Option Path). match_some o p (λ path. if is_back v path then advanced v path p else p)) is in
        ap (path_met v) same ∙ ap (λ (o : Option Path). record p { path = o }) (ap (option_map (met_path v)) is ∙ sym is)
    by_path (Some x) is e =
        let stays = path_stays v x e in
        let same : path_answered v p ≡ p =
        ap (λ (o : Option Path). match_some o p (λ path. if is_back v path then advanced v path p else p)) is
        ∙ ap (λ (b : Bool). if b then advanced v x p else p) stays.0 in
        ap (path_met v) same
        ∙ ap (λ (o : Option Path). record p { path = o }) (ap (option_map (met_path v)) is ∙ ap Some stays.1 ∙ sym is)

-- nothing that is due for a device is without a command
steps : (dev : ℕ) (device : Device) (signed : Bool) → match_some (first_stage device signed) None (step_of dev) ≡ None → NeedsNothing device signed
unfolding stage_fields
steps dev Starting true e = absurd (cc)
steps dev Starting false e = refl
steps dev (Recovering (Log file)) signed e = absurd (cc)
steps dev (Recovering Reset) signed e = absurd (cc)
steps dev other signed e = tt

needs : (device : Device) (signed : Bool) → is_some (first_stage device signed) ≡ false → NeedsNothing device signed
needs Starting true e = absurd (true≢false e)
needs Starting false e = refl
needs (Recovering (Log file)) signed e = absurd (true≢false e)
needs (Recovering Reset) signed e = absurd (true≢false e)
needs other signed e = tt

needless : (v : Sight) (dev : ℕ) (device : Device) (signed : Bool) → is_some (first_stage device signed) ≡ true → NeedsNothing device signed → ⊥
needless v dev Starting true e none = absurd (true≢false none)
needless v dev Starting false e none = absurd (false≢true e)
needless v dev (Recovering way) signed e none = none
needless v dev other signed e none = absurd (false≢true e)

waits_30 : (v : Sight) (p : Plan) → device_news v p ≡ false → device_due v p ≡ None → Waits30 v p
unfolding device_due
waits_30 v p none due = by_path p.path refl none due
  where
    signs : ℕ → Bool
    signs n = slice_index_or v.signed n false

    free : (o : Option ℕ) → lowest_below (is_due v p) 15 ≡ o → match_some o None (stage_due v p) ≡ None → (n : ℕ) → n < 15 → NeedsNothing (device_at p n) (signs n)
    free None is e n low = needs (device_at p n) (signs n) (none_below (is_due v p) 15 is n low)
    free (Some dev) is e n low =
        absurd (needless v dev (device_at p dev) (signs dev) (lowest_is (is_due v p) 15 dev is).passes (steps dev (device_at p dev) (signs dev) e))

    by_path : (o : Option Path) → p.path ≡ o → match_some o false (path_news v) ≡ false
        → match_some o (match_some (lowest_below (is_due v p) 15) None (stage_due v p)) path_due ≡ None → Waits30 v p
    by_path None is e due = ForNobody is (free (lowest_below (is_due v p) 15) refl due)
    by_path (Some x) is e due = by_asked _ x.asked refl e due
      where
        by_asked : {A : Type 0} (f : H2dFields → A) (b : Bool) → x.asked ≡ b → (if b then not (has_bit v.issued 30) else awaits_reset x.stage && not (is_in_reset v x.dev)) ≡ false
            → (if b then None else option_map f (stage_fields x.dev x.stage)) ≡ None → Waits30 v p
        by_asked f true on e due = ForCommand x is on (not_not (has_bit v.issued 30) e)
        by_asked f false off e due =
            let last : x.stage ≡ AwaitReset = no_command x.dev x.stage (none_mapped f (stage_fields x.dev x.stage) due) in
            let over : (awaits_reset AwaitReset && not (is_in_reset v x.dev)) ≡ false = subst (λ (s : Stage). (awaits_reset s && not (is_in_reset v x.dev)) ≡ false) last e in
            ForEnd x is off last (not_not (is_in_reset v x.dev) over)

-- ---- requests

ended_at : (issued : ℕ) (entries : List (Option Entry)) (s : ℕ) → s < length entries → entry_at (done_ended issued entries) s ≡ rephase (is_done issued s) (Ended Done) (entry_at entries s)
unfolding rephase_all
ended_at issued entries s below =
    get_or-map-range_with_len (λ (slot : ℕ). rephase (is_done issued slot) (Ended Done) (entry_at entries slot)) 0 (length entries) s s None below (omega arith)

entry_below : (entries : List (Option Entry)) (s : ℕ) (e : Entry) → entry_at entries s ≡ Some e → s < length entries
entry_below [] s e is = absurd (cc)
entry_below (x ∷ xs) zero e is = omega arith
entry_below (x ∷ xs) (suc s) e is = let k : s < length xs = entry_below xs s e is in omega arith

wait_unissued : (p : Phase) → waits_in p ≡ true → is_issued_in p ≡ false
wait_unissued Waits e = refl
wait_unissued other e = absurd (false≢true e)

no_request : (p : Plan) (entries : List (Option Entry)) → request_due p entries ≡ None → (s : ℕ) → s < 30 → may_issue p (entry_at entries s) ≡ false
unfolding request_due
no_request p entries due = by_lowest (lowest_below (λ (slot : ℕ). may_issue p (entry_at entries slot)) 30) refl due
  where
    by_entry : (slot : ℕ) (o : Option Entry) → may_issue p o ≡ true → issue_of slot o ≡ None → ⊥
    by_entry slot None may e = absurd (false≢true may)
    by_entry slot (Some x) may e = absurd (cc)

    by_lowest : (o : Option ℕ) → lowest_below (λ (slot : ℕ). may_issue p (entry_at entries slot)) 30 ≡ o
        → match_some o None (λ (slot : ℕ). issue_of slot (entry_at entries slot)) ≡ None → (s : ℕ) → s < 30 → may_issue p (entry_at entries s) ≡ false
    by_lowest None is e s low = none_below (λ (slot : ℕ). may_issue p (entry_at entries slot)) 30 is s low
    by_lowest (Some slot) is e s low =
        absurd (by_entry slot (entry_at entries slot) (lowest_is (λ (k : ℕ). may_issue p (entry_at entries k)) 30 slot is).passes e)

requests_wait : (v : Sight) (p : Plan) (entries : List (Option Entry)) → any_done v.issued entries ≡ false → request_due p (done_ended v.issued entries) ≡ None → RequestsWait v p entries
unfolding any_done
requests_wait v p entries done due = record {
  issued = λ s e low is on.
      let none : is_done v.issued s e.head ≡ false =
      ap (holds (is_done v.issued s)) (sym is)
      ∙ none_below (λ (slot : ℕ). holds (is_done v.issued slot) (entry_at entries slot)) 30 (not_some _ done) s low in
      not_not (has_bit v.issued s) (ap (λ (b : Bool). b && not (has_bit v.issued s)) (sym on) ∙ none);
  waiting = λ s e low is on ready.
      let quiet : is_done v.issued s e.head ≡ false = ap (λ (b : Bool). b && not (has_bit v.issued s)) (wait_unissued e.head.phase on) in
      let stays : entry_at (done_ended v.issued entries) s ≡ Some e =
      ended_at v.issued entries s (entry_below entries s e is)
      ∙ ap (rephase (is_done v.issued s) (Ended Done)) is
      ∙ ap (λ (b : Bool). if b then Some (rephased (Ended Done) e) else Some e) quiet in
      let may : may_issue p (Some e) ≡ true = ap (λ (b : Bool). b && is_ready (device_at p e.head.dev)) on ∙ ap is_ready ready in
      true≢false (sym may ∙ ap (may_issue p) (sym stays) ∙ no_request p (done_ended v.issued entries) due s low);
}

-- ---- all of it

-- nothing is due once the port is open
record NoneLater (v : Sight) (p : Plan) (entries : List (Option Entry)) : Type 0 where
  control : control_news v p ≡ false
  device : device_news v p ≡ false
  order : order_due p ≡ None
  step : device_due v p ≡ None
  request : request_due p entries ≡ None

module _ (v : Sight) (p : Plan) (entries : List (Option Entry)) (is : p.mode ≡ Switching) where
  order_may : order_allowed v p entries ≡ None → order_due p ≡ None
  order_may none = sym (ap (λ (m : Mode). allowed m v p entries (order_due p)) is) ∙ none

  step_may : allowed p.mode v p entries (device_due v p) ≡ None → device_due v p ≡ None
  step_may none = sym (ap (λ (m : Mode). allowed m v p entries (device_due v p)) is) ∙ none

  request_may : allowed p.mode v p entries (request_due p entries) ≡ None → request_due p entries ≡ None
  request_may none = sym (ap (λ (m : Mode). allowed m v p entries (request_due p entries)) is) ∙ none

none_late : (v : Sight) (p : Plan) (entries : List (Option Entry)) → p.mode ≡ Switching → control_news v p ≡ false → (device_turn v false p entries).act ≡ None → (device_turn v false p entries).news ≡ false
    → order_due p ≡ None → NoneLater v p entries
none_late v p entries mode control none news order =
    let same : device_seen v p ≡ p = device_stays v p news in
    let both : device_or_request v p entries ≡ None = subst (λ (q : Plan). device_or_request v q entries ≡ None) same none in
    let parts = none_either (allowed p.mode v p entries (device_due v p)) (allowed p.mode v p entries (request_due p entries)) both in
    record {
      control = control;
      device = news;
      order = order;
      step = step_may v p entries mode parts.0;
      request = request_may v p entries mode parts.1;
    }

-- if the first has nothing, what is due is what the second has
pick : {A T : Type 0} (late : T) (o : Option A) (plain : Option A → T) (act : T → Option A) (news : T → Bool) → ((a : A) → act (plain (Some a)) ≡ Some a)
    → act (if is_some o then plain o else late) ≡ None → news (if is_some o then plain o else late) ≡ false → (o ≡ None) × (act late ≡ None) × (news late ≡ false)
pick late None plain act news gives none quiet = (refl, none, quiet)
pick late (Some a) plain act news gives none quiet = absurd (let e : Some a ≡ None = sym (gives a) ∙ none in cc)

none_then : (v : Sight) (p : Plan) (entries : List (Option Entry)) → p.mode ≡ Switching → (news : Bool) → control_news v p ≡ news
    → (control_turn v news (control_seen v p) entries).act ≡ None → (control_turn v news (control_seen v p) entries).news ≡ false → NoneLater v p entries
none_then v p entries mode news is none quiet =
    let k = pick (device_turn v news (control_seen v p) entries) (order_allowed v (control_seen v p) entries) (λ o. plain_turn (control_seen v p) o news) (λ t. t.act) (λ t. t.news) (λ a. refl) none quiet in
    let off = neither news (device_news v (control_seen v p)) k.2 in
    let control : control_news v p ≡ false = is ∙ off.0 in
    let same : control_seen v p ≡ p = control_stays v p control in
    let none_here : (device_turn v false p entries).act ≡ None = subst (λ (q : Plan). device_or_request v (device_seen v q) entries ≡ None) same k.1 in
    let quiet_here : device_news v p ≡ false = subst (λ (q : Plan). device_news v q ≡ false) same off.1 in
    let order : order_allowed v p entries ≡ None = subst (λ (q : Plan). order_allowed v q entries ≡ None) same k.0 in
    none_late v p entries mode control none_here quiet_here (order_may v p entries mode order)

record NoneDue (v : Sight) (p : Plan) (entries : List (Option Entry)) : Type 0 where
  early : NoneEarly v p
  later : NoneLater v p entries

none_due : (v : Sight) (p : Plan) (entries : List (Option Entry)) → p.mode ≡ Switching → (turn_of v p entries).act ≡ None → (turn_of v p entries).news ≡ false → NoneDue v p entries
unfolding turn_of
none_due v p entries mode none quiet =
    let k = pick (control_turn v (control_news v p) (control_seen v p) entries) (early_due v p) (λ o. plain_turn p o false) (λ t. t.act) (λ t. t.news) (λ a. refl) none quiet in
    record { early = none_early v p k.0; later = none_then v p entries mode (control_news v p) refl k.1 k.2 }

pub driver_waits : (v : Sight) (d : Driver) → d.plan.mode ≡ Switching → acts v d ≡ false → DriverWaits v d
unfolding acts
driver_waits v d mode idle =
    let one = neither (is_some (turn v d).act) (any_done v.issued d.entries || (turn v d).news) idle in
    let two = neither (any_done v.issued d.entries) (turn v d).news one.1 in
    let none : NoneDue v d.plan (done_ended v.issued d.entries) =
    none_due v d.plan (done_ended v.issued d.entries) mode (not_some (turn v d).act one.0) two.1 in
    record {
      opened = ltb-false d.plan.opened 7 none.early.opened;
      restarted = ltb-false d.plan.restarted 2 none.early.restarted;
      runs = none.early.stopped;
      faultless = none.early.faulty;
      slot31 = waits_31 v d.plan none.later.control none.later.order;
      slot30 = waits_30 v d.plan none.later.device none.later.step;
      requests = requests_wait v d.plan d.entries two.0 none.later.request;
    }
