-- For `turns_serve`. After a tick, everything that is issued is still the driver's.
use Rattle.std.proofs.Common.{◌≡◌, ◌≢◌, ℕ, ◌+◌, ◌*◌, ◌^◌, ◌<◌, ◌⊎◌, Bool, true, false, ◌&&◌, List, [], ◌∷◌, ◌++◌, length, set, refl, sym, ◌∙◌, ap}
use Rattle.std.proofs.{Common.{subst, inl, inr, arith, Option, Some, None}, lemmas.Bool.{cases_eq, false≢true, ne_eqb, true≢false}}
use Rattle.std.proofs.lemmas.List.{get_or-set_other, get_or-set_same, length-set}
use Rattle.std.specs.{Prelude.{MatchOption, if◌then◌else◌, not, ◌%◌, ◌==◌}, List.list_all, Option.option_map}
use Rattle.fis_view.specs.declared.build.H2dFields.{H2dFields}
use Rattle.host_memory.specs.{Memory.{IsHostMemory, Memory}, declared.table.Prd.Prd}
use Rattle.hba_commands.specs.Requests.{request_of, work_of}
use Rattle.slots.specs.Slots.{match_some}
use Rattle.slots.specs.Work as moved
use Rattle.slots.specs.declared.work.Work as slot_work
use Rattle.hba_fbs.specs.{declared.{register.Register.Register, registers.Registers.Registers}, Offsets.register_at, Views.Port}
use Rattle.hba_laws.specs.{History.Transfer, Hosts.HostEvent}
use Rattle.hba_laws.specs.Hosts as event
use Rattle.hba_laws.proofs.Door.{some_inj}
use Rattle.hba_driver.specs.declared.{effect.Effect.Effect, mode.Mode.{Mode, TheVariants.{Switching, CommandBased}}, order.Order.Order}
use Rattle.hba_driver.specs.declared.order.Order.TheVariants.{ResetOn, ResetOff, AwaitSignature, CountPorts, SetMask, Enable, Open, Scan, Clear}
use Rattle.hba_driver.specs.declared.{order.Order.TheVariants.{Detect, Watch}, path.{Path.Path, Stage.{Stage, TheVariants.{Identify, ReadLog}}}}
use Rattle.hba_driver.specs.{declared.path.{Stage.TheVariants.{AssertReset, ReleaseReset}, TaskFile.TaskFile}, Seeing.Sight}
use Rattle.hba_driver.specs.declared.{request.{Outcome.TheVariants.{Aborted, Removed}, Work.Work}, slot.{Head.Head, Phase.Phase}}
use Rattle.hba_driver.specs.{declared.{slot.Phase.TheVariants.{Issued, Aside, Ended}, turn.Act.Act}, Drivers.{Driver, Entry, IsPath, entry_at}}
use Rattle.hba_driver.specs.{Drivers.{is_issued, is_issued_in, is_read, rephase, rephase_all, rephased, waits, waits_in}, Effects.{ActsAll, IsRuled}}
use Rattle.hba_driver.specs.Effects.{effects_of, is_effect, issuing, opening_write, opening_writes, order_command, order_effects, prds_with}
use Rattle.hba_driver.specs.{Effects.{restart_write, restart_writes, sending, stage_effects}, Events.{events_of_effect, events_of_effects}}
use Rattle.hba_driver.specs.{Modes.is_switching, Orders.{control_port, order_fields, request_fields, work_fields}, Paths.{reads_page, stage_fields}}
use Rattle.hba_driver.specs.{Sights.{px_ci, px_fbs, px_sact, px_sntf}, Ticks.{acted, effects_due, entries_after, is_aside_of, is_open_of, plan_after}}
use Rattle.hba_driver.specs.{Ticks.{plan_without, removed, stage_ended, unless}, Between.{Due, From, IsFree, MayStep, Waiting, beside}}
use Rattle.hba_driver.specs.declared.effect.Effect.TheVariants as effect
use Rattle.hba_driver.specs.declared.path.Stage.TheVariants as stage
use Rattle.hba_driver.specs.declared.request.Work.TheVariants as work
use Rattle.hba_driver.specs.declared.turn.Act.TheVariants as act
use Rattle.hba_driver.proofs.{events.{DrivenLemmas.{SamePlace, en_chosen, place_effect}, EventLemmas.beside_same}, calls.EffectLemmas.all_at}
use Rattle.hba_driver.proofs.{events.EventLemmas.{same_sizes, sized_effect, sound_beside}, requests.HistoryLemmas.back_of}
use Rattle.hba_driver.proofs.{issued.IssuingLemmas.{MayIssue, Standing}, ticks.LifeLemmas.{entry_of_rephased, keeps_removed, keeps_staged}}
use Rattle.hba_driver.proofs.{ticks.LifeLemmas.{length_of_rephased, length_staged}, calls.RequestLemmas.set_cases, issued.ServingLemmas.Follows}
use Rattle.hba_driver.proofs.issued.ServingLemmas.{Goes, ci_goes, command_goes, empties_goes, first_goes, flush_goes, from_moves, is_ci, moves_goes}
use Rattle.hba_driver.proofs.{issued.ServingLemmas.write_goes, requests.StandLemmas.{both, lt_of}}

-- ---- lists of effects

pub last_goes : (D d : Driver) (fs : List HostEvent) (c : event.Host) (old new : Port) (before after : Memory) (acts : ActsAll [] old before new after) → Goes D d fs c (beside new after)
    → Goes D d (events_of_effects [] old before new after acts ++ fs) c (beside old before)
unfolding ActsAll events_of_effects
last_goes D d fs c old new before after acts go = subst (λ (h : event.Host). Goes D d fs c h) (beside_same old new before after acts.0 acts.1) go

-- the last effect is the write of PxCI
last_ci : (D d : Driver) (fs : List HostEvent) (c : event.Host) (slot dev : ℕ) (prds : List Prd) (fields : H2dFields) (old new : Port) (before after : Memory)
    → slot < 32 → dev < 16 → old.registers.clb ≡ 0 → old.registers.switching ≡ is_switching d.plan.mode → Standing slot dev prds fields before → MayIssue d slot dev prds fields → IsRuled old → IsHostMemory before
    → (acts : ActsAll (effect.Writes px_ci (2 ^ slot) ∷ []) old before new after) → Goes D d fs c (beside new after)
    → Goes D d (events_of_effects (effect.Writes px_ci (2 ^ slot) ∷ []) old before new after acts ++ fs) c (beside old before)
unfolding ActsAll events_of_effects register_at
last_ci D d fs c slot dev prds fields old new before after below dev_below list on stands may ruled m acts go =
    first_goes D d fs c (beside old before) (events_of_effect (effect.Writes px_ci (2 ^ slot)) old before acts.1) []
    (ci_goes D d fs c px_ci slot dev prds fields old acts.0 before acts.1 below dev_below list on stands may refl (sound_beside old before ruled m) acts.2
    (subst (λ (h : event.Host). Goes D d fs c h) (beside_same acts.0 new acts.1 after acts.4.0 acts.4.1) go))

-- what the driver's commands need of the registers: the command list, the received area and the mode are its own
pub record IsOurs (mode : Mode) (r : Registers) : Type 0 where
  pub list : r.clb ≡ 0
  pub area : r.fb ≡ 4096
  pub switches : r.switching ≡ is_switching mode

ours_placed : (mode : Mode) (r s : Registers) → SamePlace mode r s → IsOurs mode r → IsOurs mode s
ours_placed mode r s place ours = record { list = place.list ∙ ours.list; area = place.area ∙ ours.area; switches = place.switches ours.switches }

ours_same : (mode : Mode) (r s : Registers) → s ≡ r → IsOurs mode r → IsOurs mode s
ours_same mode r s is ours = subst (IsOurs mode) (sym is) ours

-- once the device is chosen
abbrev arming : (slot : ℕ) → (queued : Bool) → List Effect
arming slot true = effect.Writes px_sact (2 ^ slot) ∷ effect.Writes px_ci (2 ^ slot) ∷ []
arming slot false = effect.Writes px_ci (2 ^ slot) ∷ []

arming_goes : (D d : Driver) (fs : List HostEvent) (c : event.Host) (mode : Mode) (slot dev : ℕ) (queued : Bool) (prds : List Prd) (fields : H2dFields) (old new : Port) (before after : Memory)
    → slot < 32 → dev < 16 → IsOurs mode old.registers → d.plan.mode ≡ mode → Standing slot dev prds fields before → MayIssue d slot dev prds fields → IsRuled old → IsHostMemory before
    → (acts : ActsAll (arming slot queued) old before new after) → Goes D d fs c (beside new after)
    → Goes D d (events_of_effects (arming slot queued) old before new after acts ++ fs) c (beside old before)
unfolding ActsAll events_of_effects register_at
arming_goes D d fs c mode slot dev false prds fields old new before after below dev_below ours drives stands may ruled m acts go =
    last_ci D d fs c slot dev prds fields old new before after below dev_below ours.list (ours.switches ∙ ap is_switching (sym drives)) stands may ruled m acts go
arming_goes D d fs c mode slot dev true prds fields old new before after below dev_below ours drives stands may ruled m acts go =
    let next = place_effect mode (effect.Writes px_sact (2 ^ slot)) old acts.0 before acts.1 refl acts.2 in
    let ours1 : IsOurs mode acts.0.registers = ours_placed mode old.registers acts.0.registers next ours in
    let standing : Standing slot dev prds fields acts.1 = subst (Standing slot dev prds fields) (sym acts.2.1) stands in
    let third = last_ci D d fs c slot dev prds fields acts.0 new acts.1 after below dev_below ours1.list (ours1.switches ∙ ap is_switching (sym drives)) standing may acts.3 (same_sizes before acts.1 acts.2.1 m) acts.4 go in
    let es : List HostEvent = events_of_effects (effect.Writes px_ci (2 ^ slot) ∷ []) acts.0 acts.1 new after acts.4 in
    first_goes D d fs c (beside old before) (events_of_effect (effect.Writes px_sact (2 ^ slot)) old before acts.1) es
    (write_goes D d (es ++ fs) c px_sact (2 ^ slot) old acts.0 before acts.1 refl (sound_beside old before ruled m) acts.2 third)

-- with FIS-based switching
chosen_goes : (D d : Driver) (fs : List HostEvent) (c : event.Host) (slot dev : ℕ) (queued : Bool) (prds : List Prd) (fields : H2dFields) (old new : Port) (before after : Memory)
    → slot < 32 → dev < 16 → IsOurs Switching old.registers → d.plan.mode ≡ Switching → Standing slot dev prds fields before → MayIssue d slot dev prds fields → IsRuled old → IsHostMemory before
    → (acts : ActsAll (effect.Writes px_fbs (256 * dev + 1) ∷ arming slot queued) old before new after) → Goes D d fs c (beside new after)
    → Goes D d (events_of_effects (effect.Writes px_fbs (256 * dev + 1) ∷ arming slot queued) old before new after acts ++ fs) c (beside old before)
unfolding ActsAll events_of_effects register_at
chosen_goes D d fs c slot dev queued prds fields old new before after below dev_below ours drives stands may ruled m acts go =
    let place = place_effect Switching (effect.Writes px_fbs (256 * dev + 1)) old acts.0 before acts.1 (en_chosen dev) acts.2 in
    let ours1 : IsOurs Switching acts.0.registers = ours_placed Switching old.registers acts.0.registers place ours in
    let standing : Standing slot dev prds fields acts.1 = subst (Standing slot dev prds fields) (sym acts.2.1) stands in
    let rest = arming_goes D d fs c Switching slot dev queued prds fields acts.0 new acts.1 after below dev_below ours1 drives standing may acts.3 (same_sizes before acts.1 acts.2.1 m) acts.4 go in
    let es : List HostEvent = events_of_effects (arming slot queued) acts.0 acts.1 new after acts.4 in
    first_goes D d fs c (beside old before) (events_of_effect (effect.Writes px_fbs (256 * dev + 1)) old before acts.1) es
    (write_goes D d (es ++ fs) c px_fbs (256 * dev + 1) old acts.0 before acts.1 refl (sound_beside old before ruled m) acts.2 rest)

issuing_goes : (D d : Driver) (fs : List HostEvent) (c : event.Host) (mode : Mode) (slot dev : ℕ) (queued : Bool) (prds : List Prd) (fields : H2dFields) (old new : Port) (before after : Memory)
    → slot < 32 → dev < 16 → IsOurs mode old.registers → d.plan.mode ≡ mode → Standing slot dev prds fields before → MayIssue d slot dev prds fields → IsRuled old → IsHostMemory before
    → (acts : ActsAll (issuing mode slot dev queued) old before new after) → Goes D d fs c (beside new after)
    → Goes D d (events_of_effects (issuing mode slot dev queued) old before new after acts ++ fs) c (beside old before)
issuing_goes D d fs c Switching slot dev true prds fields old new before after below dev_below ours drives stands may ruled m acts go =
    chosen_goes D d fs c slot dev true prds fields old new before after below dev_below ours drives stands may ruled m acts go
issuing_goes D d fs c Switching slot dev false prds fields old new before after below dev_below ours drives stands may ruled m acts go =
    chosen_goes D d fs c slot dev false prds fields old new before after below dev_below ours drives stands may ruled m acts go
issuing_goes D d fs c CommandBased slot dev true prds fields old new before after below dev_below ours drives stands may ruled m acts go =
    arming_goes D d fs c CommandBased slot dev true prds fields old new before after below dev_below ours drives stands may ruled m acts go
issuing_goes D d fs c CommandBased slot dev false prds fields old new before after below dev_below ours drives stands may ruled m acts go =
    arming_goes D d fs c CommandBased slot dev false prds fields old new before after below dev_below ours drives stands may ruled m acts go

-- a command of the driver's own is written and issued; in between the driver goes on
sending_goes : (D d e : Driver) (fs : List HostEvent) (c : event.Host) (mode : Mode) (slot dev : ℕ) (fields : H2dFields) (buffer : Bool) (old new : Port) (before after : Memory)
    → is_effect (effect.Commands slot fields buffer) ≡ true → Rattle.hba_driver.proofs.requests.StandLemmas.late (effect.Commands slot fields buffer) ≡ true → dev < 16 → (request_of fields).pm_port ≡ dev → IsFree d slot
    → Follows d e → ((n s : ℕ) (t : Transfer) → From d n s t → From e n s t) → MayIssue e slot dev (prds_with buffer) fields → IsOurs mode old.registers → e.plan.mode ≡ mode → IsRuled old → IsHostMemory before
    → (acts : ActsAll (sending mode slot dev fields buffer) old before new after) → Goes D e fs c (beside new after)
    → Goes D d (events_of_effects (sending mode slot dev fields buffer) old before new after acts ++ fs) c (beside old before)
unfolding ActsAll events_of_effects
sending_goes D d e fs c mode slot dev fields buffer old new before after is l dev_below to free follows moves may ours drives ruled m acts go =
    let w = acts.2.1.structure in
    let standing : Standing slot dev (prds_with buffer) fields acts.1 = record { header = w.header; to_dev = to; request_is = w.request; cfis = w.cfis; entries = w.entries } in
    let later : IsHostMemory acts.1 = sized_effect (effect.Commands slot fields buffer) old acts.0 before acts.1 is acts.2 m in
    let rest = issuing_goes D e fs c mode slot dev false (prds_with buffer) fields acts.0 new acts.1 after (lt_of slot 32 is) dev_below (ours_same mode old.registers acts.0.registers (ap (λ (p : Port). p.registers) acts.2.0) ours) drives standing may acts.3 later acts.4 go in
    let es : List HostEvent = events_of_effects (issuing mode slot dev false) acts.0 acts.1 new after acts.4 in
    first_goes D d fs c (beside old before) (events_of_effect (effect.Commands slot fields buffer) old before acts.1) es
    (command_goes D d (es ++ fs) c slot fields buffer old acts.0 before acts.1 is l ours.area free (sound_beside old before ruled m) acts.2
    (moves_goes D d e (es ++ fs) c (beside acts.0 acts.1) follows moves rest))

-- ---- orders

-- the driver waits for the answer to an order, and is otherwise as it was
record Asks (d e : Driver) : Type 0 where
  pub follows : Follows d e
  pub moves : (n s : ℕ) (t : Transfer) → From d n s t → From e n s t
  pub asked : e.plan.asked ≡ true

asks : (d : Driver) → Asks d (record d { plan = record d.plan { asked = true } })
asks d = record {
  follows = record { mode = refl; devices = refl; slots = refl; path = λ h. h; asked = λ x here a. inl here; entries = λ s f here. (f, here, refl) };
  moves = λ n s t from. from_moves d (record d { plan = record d.plan { asked = true } }) n s t (λ f below here goes of_dev. here) (λ is x here a of_dev. here) (λ is h. refl) from;
  asked = refl;
}

pub free_order : (d : Driver) → d.plan.asked ≡ false → IsFree d 31
free_order d h n t (inl r) = absurd (omega (arith, r.slot))
free_order d h n t (inr (inl i)) = absurd (omega (arith, i.slot))
free_order d h n t (inr (inr o)) = true≢false (sym o.goes ∙ h)

order_goes : (D d e : Driver) (fs : List HostEvent) (c : event.Host) (mode : Mode) (o : Option H2dFields) (old new : Port) (before after : Memory) → ((f : H2dFields) → o ≡ Some f → f.pm_port ≡ 15) → d.plan.asked ≡ false → Asks d e
    → IsOurs mode old.registers → d.plan.mode ≡ mode → IsRuled old → IsHostMemory before
    → (acts : ActsAll (match_some o [] (λ f. sending mode 31 control_port f false)) old before new after) → Goes D e fs c (beside new after)
    → Goes D d (events_of_effects (match_some o [] (λ f. sending mode 31 control_port f false)) old before new after acts ++ fs) c (beside old before)
order_goes D d e fs c mode None old new before after to free a ours drives ruled m acts go =
    last_goes D d fs c old new before after acts (moves_goes D d e fs c (beside new after) a.follows a.moves go)
order_goes D d e fs c mode (Some f) old new before after to free a ours drives ruled m acts go =
    sending_goes D d e fs c mode 31 control_port f false old new before after refl refl (omega arith) (ap (λ (k : ℕ). k % 16) (to f refl)) (free_order d free) a.follows a.moves
    (record {
      from = λ t table is. inr (inr (record { slot = refl; of_dev = refl; goes = a.asked; table = table }));
      are = record { of_request = λ x low here. absurd (omega (arith, low)); of_step = λ path given is here out g. absurd (omega (arith, is)) };
    }) ours (a.follows.mode ∙ drives) ruled m acts go

port_by : (g f : H2dFields) → g.pm_port ≡ 15 → Some g ≡ Some f → f.pm_port ≡ 15
port_by g f is h = ap (λ (x : H2dFields). x.pm_port) (sym (some_inj g f h)) ∙ is

port_none : (f : H2dFields) → None ≡ Some f → f.pm_port ≡ 15
port_none f h = cc

port_of_order : (order : Order) (f : H2dFields) → order_fields order ≡ Some f → f.pm_port ≡ 15
unfolding order_fields
port_of_order AwaitSignature f h = port_none f h
port_of_order Watch f h = port_none f h
port_of_order other f h = port_by _ f refl h

-- ---- a port is cleared

cleared : ℕ → Driver → Driver
cleared port d = record d { plan = plan_without port d.plan; entries = removed (Clear port) d.entries }

unless_if : (b : Bool) (path : Path) → path.dev < 15 → IsPath (if b then None else Some path)
unless_if true path h = tt
unless_if false path h = h

pub unless_path : (port : ℕ) (o : Option Path) → IsPath o → IsPath (unless port o)
unless_path port None h = tt
unless_path port (Some path) h = unless_if (path.dev == port) path h

unless_in : (b : Bool) (path x : Path) → (if b then None else Some path) ≡ Some x → Some path ≡ Some x
unless_in true path x h = cc
unless_in false path x h = h

pub unless_back : (port : ℕ) (o : Option Path) (x : Path) → unless port o ≡ Some x → o ≡ Some x
unless_back port None x h = h
unless_back port (Some path) x h = unless_in (path.dev == port) path x h

cleared_follows : (port : ℕ) (d : Driver) → Follows d (cleared port d)
unfolding cleared
cleared_follows port d = record {
  mode = refl;
  devices = length-set d.plan.devices port _;
  slots = length_of_rephased (is_open_of port) (Ended Removed) d.entries;
  path = λ h. unless_path port d.plan.path h;
  asked = λ x here a. inl (unless_back port d.plan.path x here);
  entries = λ s f here.
      let b = back_of (entry_at d.entries s) (entry_at (removed (Clear port) d.entries) s) (keeps_removed (Clear port) d.entries s) f here in
      (b.0, b.1, b.2.same);
}

pub else_entry : (b : Bool) (x y : Option Entry) → b ≡ false → (if b then x else y) ≡ y
else_entry true x y h = absurd (true≢false h)
else_entry false x y h = refl

still : (port s : ℕ) (d : Driver) (f : Entry) → entry_at d.entries s ≡ Some f → f.head.dev ≢ port → entry_at (removed (Clear port) d.entries) s ≡ Some f
still port s d f here other =
    entry_of_rephased (is_open_of port) (Ended Removed) d.entries s ∙ ap (rephase (is_open_of port s) (Ended Removed)) here
    ∙ else_entry (is_open_of port s f.head) (Some (rephased (Ended Removed) f)) (Some f) (ap (λ (b : Bool). b && not (Rattle.hba_driver.specs.Drivers.has_ended f.head)) (ne_eqb f.head.dev port other))

pub unless_other : (port : ℕ) (o : Option Path) (x : Path) → x.dev ≢ port → o ≡ Some x → unless port o ≡ Some x
unless_other port None x other h = cc
unless_other port (Some path) x other h =
    let is : path ≡ x = some_inj path x h in
    ap (λ (p : Path). if p.dev == port then None else Some p) is ∙ ap (λ (b : Bool). if b then None else Some x) (ne_eqb x.dev port other)

cleared_moves : (port : ℕ) (d : Driver) (n s : ℕ) (t : Transfer) → n ≢ port → From d n s t → From (cleared port d) n s t
unfolding cleared
cleared_moves port d n s t other from =
    from_moves d (cleared port d) n s t (λ f below here goes of_dev. still port s d f here (λ same. other (sym of_dev ∙ same))) (λ is x here a of_dev. unless_other port d.plan.path x (λ same. other (sym of_dev ∙ same)) here) (λ is h. h) from

-- ---- each order

order_act : (D d : Driver) (file : TaskFile) (fs : List HostEvent) (c : event.Host) (mode : Mode) (order : Order) (old new : Port) (before after : Memory) → d.plan.asked ≡ false → IsOurs mode old.registers → d.plan.mode ≡ mode → IsRuled old → IsHostMemory before
    → list_all is_effect (order_effects mode order) ≡ true → (acts : ActsAll (order_effects mode order) old before new after) → Goes D (acted (Some (act.Orders order)) file d) fs c (beside new after)
    → Goes D d (events_of_effects (order_effects mode order) old before new after acts ++ fs) c (beside old before)
unfolding order_effects plan_after entries_after ActsAll events_of_effects register_at cleared
order_act D d file fs c mode Scan old new before after free ours drives ruled m is acts go =
    let place = place_effect mode (effect.Writes px_sntf 32768) old acts.0 before acts.1 refl acts.2 in
    let effects : List Effect = order_command mode Scan in
    let rest = order_goes D d _ fs c mode (order_fields Scan) acts.0 new acts.1 after (port_of_order Scan) free (asks d) (ours_placed mode old.registers acts.0.registers place ours) drives acts.3 (same_sizes before acts.1 acts.2.1 m) acts.4 go in
    let es : List HostEvent = events_of_effects effects acts.0 acts.1 new after acts.4 in
    first_goes D d fs c (beside old before) (events_of_effect (effect.Writes px_sntf 32768) old before acts.1) es
    (write_goes D d (es ++ fs) c px_sntf 32768 old acts.0 before acts.1 refl (sound_beside old before ruled m) acts.2 rest)
order_act D d file fs c Switching (Clear port) old new before after free ours drives ruled m is acts go =
    let effects : List Effect = order_command Switching (Clear port) in
    let next_is = (both (is_effect (effect.Flushes port)) (list_all is_effect (effect.Empties port ∷ effects)) is).1 in
    let empties_is : is_effect (effect.Empties port) ≡ true = (both (is_effect (effect.Empties port)) (list_all is_effect effects) next_is).0 in
    let m1 : IsHostMemory acts.1 = same_sizes before acts.1 acts.2.1 m in
    let m2 : IsHostMemory acts.4.1 = sized_effect (effect.Empties port) acts.0 acts.4.0 acts.1 acts.4.1 empties_is acts.4.2 m1 in
    let ours1 : IsOurs Switching acts.0.registers = ours_same Switching old.registers acts.0.registers acts.2.0.registers ours in
    let ours2 : IsOurs Switching acts.4.0.registers = ours_same Switching acts.0.registers acts.4.0.registers (ap (λ (p : Port). p.registers) acts.4.2.0) ours1 in
    let third = order_goes D (cleared port d) _ fs c Switching (order_fields (Clear port)) acts.4.0 new acts.4.1 after (port_of_order (Clear port)) free (asks (cleared port d)) ours2 drives acts.4.3 m2 acts.4.4 go in
    let es : List HostEvent = events_of_effects effects acts.4.0 acts.4.1 new after acts.4.4 in
    let second = first_goes D (cleared port d) fs c (beside acts.0 acts.1) (events_of_effect (effect.Empties port) acts.0 acts.1 acts.4.1) es
    (empties_goes D (cleared port d) (es ++ fs) c port acts.0 acts.4.0 acts.1 acts.4.1 (lt_of port 16 empties_is) empties_is ours1.area (sound_beside acts.0 acts.1 acts.3 m1) acts.4.2 third) in
    let rest : List HostEvent = events_of_effect (effect.Empties port) acts.0 acts.1 acts.4.1 ++ es in
    first_goes D d fs c (beside old before) (events_of_effect (effect.Flushes port) old before acts.1) rest
    (flush_goes D d (cleared port d) (rest ++ fs) c port old acts.0 before acts.1 (cleared_follows port d) (cleared_moves port d) (sound_beside old before ruled m) acts.2 second)
order_act D d file fs c CommandBased (Clear port) old new before after free ours drives ruled m is acts go =
    let effects : List Effect = order_command CommandBased (Clear port) in
    let m1 : IsHostMemory acts.1 = same_sizes before acts.1 acts.2.1 m in
    let ours1 : IsOurs CommandBased acts.0.registers = ours_same CommandBased old.registers acts.0.registers acts.2.0.registers ours in
    let second = order_goes D (cleared port d) _ fs c CommandBased (order_fields (Clear port)) acts.0 new acts.1 after (port_of_order (Clear port)) free (asks (cleared port d)) ours1 drives acts.3 m1 acts.4 go in
    let es : List HostEvent = events_of_effects effects acts.0 acts.1 new after acts.4 in
    first_goes D d fs c (beside old before) (events_of_effect (effect.Flushes port) old before acts.1) es
    (flush_goes D d (cleared port d) (es ++ fs) c port old acts.0 before acts.1 (cleared_follows port d) (cleared_moves port d) (sound_beside old before ruled m) acts.2 second)
order_act D d file fs c mode other old new before after free ours drives ruled m is acts go =
    order_goes D d _ fs c mode (order_fields other) old new before after (port_of_order other) free (asks d) ours drives ruled m acts go

-- ---- the command of a stage, for a device

none_path : (x : Path) {P : Type 0} → None ≡ Some x → P
none_path x h = cc

-- slot 30 is free
free_step : (d : Driver) (dev : ℕ) (stage : Stage) → MayStep d.plan dev stage → (x : Path) → d.plan.path ≡ Some x → x.asked ≡ true → ⊥
free_step d dev stage (inl none) x here asked = none_path x (sym none.0 ∙ here)
free_step d dev stage (inr goes) x here asked =
    let is : record { dev = dev; stage = stage; asked = false } ≡ x = some_inj _ x (sym goes ∙ here) in
    false≢true (ap (λ (p : Path). p.asked) is ∙ asked)

pub free_slot : (d : Driver) (dev : ℕ) (stage : Stage) → MayStep d.plan dev stage → IsFree d 30
free_slot d dev stage may n t (inl r) = absurd (omega (arith, r.slot))
free_slot d dev stage may n t (inr (inl i)) = free_step d dev stage may i.path i.goes i.asked
free_slot d dev stage may n t (inr (inr o)) = absurd (omega (arith, o.slot))

pub step_dev : (d : Driver) (dev : ℕ) (stage : Stage) → IsPath d.plan.path → MayStep d.plan dev stage → dev < 15
step_dev d dev stage path (inl none) = none.1
step_dev d dev stage path (inr goes) = subst IsPath goes path

steps : ℕ → Stage → Driver → Driver
steps dev stage d = record d { plan = record d.plan { path = Some (record { dev = dev; stage = stage; asked = true }) }; entries = stage_ended dev stage d.entries }

steps_follows : (dev : ℕ) (stage : Stage) (d : Driver) → dev < 15 → MayStep d.plan dev stage → Follows d (steps dev stage d)
unfolding steps
steps_follows dev stage d below may = record {
  mode = refl;
  devices = refl;
  slots = length_staged dev stage d.entries;
  path = λ h. below;
  asked = λ x here a. inr (free_step d dev stage may);
  entries = λ s f here.
      let b = back_of (entry_at d.entries s) (entry_at (stage_ended dev stage d.entries) s) (keeps_staged dev stage d.entries s) f here in
      (b.0, b.1, b.2.same);
}

issued_only : (p : Phase) → is_issued_in p ≡ true → Rattle.hba_driver.specs.Drivers.is_aside_in p ≡ false
issued_only Aside h = absurd (false≢true h)
issued_only other h = refl

and_false : (a b : Bool) → b ≡ false → (a && b) ≡ false
and_false true b h = h
and_false false b h = refl

staged_still : (dev : ℕ) (stage : Stage) (entries : List (Option Entry)) (s : ℕ) (f : Entry) → entry_at entries s ≡ Some f → is_issued f.head ≡ true → entry_at (stage_ended dev stage entries) s ≡ Some f
staged_still dev AssertReset entries s f here goes =
    entry_of_rephased (is_aside_of dev) (Ended Aborted) entries s ∙ ap (rephase (is_aside_of dev s) (Ended Aborted)) here
    ∙ else_entry (is_aside_of dev s f.head) (Some (rephased (Ended Aborted) f)) (Some f) (and_false (f.head.dev == dev) _ (issued_only f.head.phase goes))
staged_still dev stage entries s f here goes = here

steps_moves : (dev : ℕ) (stage : Stage) (d : Driver) → MayStep d.plan dev stage → (n s : ℕ) (t : Transfer) → From d n s t → From (steps dev stage d) n s t
unfolding steps
steps_moves dev stage d may n s t from =
    from_moves d (steps dev stage d) n s t (λ f below here goes of_dev. staged_still dev stage d.entries s f here goes) (λ is x here a of_dev. absurd (free_step d dev stage may x here a)) (λ is h. h) from

port_of_stage : (dev : ℕ) (stage : Stage) (f : H2dFields) → stage_fields dev stage ≡ Some f → f.pm_port ≡ dev
unfolding stage_fields
port_of_stage dev stage.AwaitReset f h = port_nowhere f h
  where
    port_nowhere : (f : H2dFields) → None ≡ Some f → f.pm_port ≡ dev
    port_nowhere f h = cc
port_of_stage dev other f h = ap (λ (x : H2dFields). x.pm_port) (sym (some_inj _ f h))

small_dev : (n : ℕ) → n < 15 → n % 16 ≡ n
small_dev n h = omega (arith, h)

-- a path's fields are those of its stage
step_given : (dev : ℕ) (stage : Stage) (f : H2dFields) (path : Path) (given : H2dFields) → stage_fields dev stage ≡ Some f → Some (record { dev = dev; stage = stage; asked = true }) ≡ Some path
    → stage_fields path.dev path.stage ≡ Some given → given ≡ f
step_given dev stage f path given stands here g =
    let made : Path = record { dev = dev; stage = stage; asked = true } in
    let is : made ≡ path = some_inj made path here in
    some_inj given f (sym g ∙ ap (λ (p : Path). stage_fields p.dev p.stage) (sym is) ∙ stands)

step_goes : (D d : Driver) (fs : List HostEvent) (c : event.Host) (mode : Mode) (dev : ℕ) (stage : Stage) (o : Option H2dFields) (old new : Port) (before after : Memory) → ((f : H2dFields) → o ≡ Some f → f.pm_port ≡ dev) → ((f : H2dFields) → o ≡ Some f → stage_fields dev stage ≡ Some f) → MayStep d.plan dev stage → dev < 15
    → IsOurs mode old.registers → d.plan.mode ≡ mode → IsRuled old → IsHostMemory before
    → (acts : ActsAll (match_some o [] (λ f. sending mode 30 dev f (reads_page stage))) old before new after) → Goes D (steps dev stage d) fs c (beside new after)
    → Goes D d (events_of_effects (match_some o [] (λ f. sending mode 30 dev f (reads_page stage))) old before new after acts ++ fs) c (beside old before)
unfolding steps
step_goes D d fs c mode dev stage None old new before after to is_stage may below ours drives ruled m acts go =
    last_goes D d fs c old new before after acts (moves_goes D d (steps dev stage d) fs c (beside new after) (steps_follows dev stage d below may) (steps_moves dev stage d may) go)
step_goes D d fs c mode dev stage (Some f) old new before after to is_stage may below ours drives ruled m acts go =
    let stands : stage_fields dev stage ≡ Some f = is_stage f refl in
    sending_goes D d (steps dev stage d) fs c mode 30 dev f (reads_page stage) old new before after refl refl (omega (arith, below)) (ap (λ (k : ℕ). k % 16) (to f refl) ∙ small_dev dev below) (free_slot d dev stage may)
    (steps_follows dev stage d below may) (steps_moves dev stage d may)
    (record {
      from = λ t table is. inr (inl (record { slot = refl; path = record { dev = dev; stage = stage; asked = true }; goes = refl; asked = refl; of_dev = refl; table = table }));
      are = record { of_request = λ x low here. absurd (omega (arith, low)); of_step = λ path given is here out g. step_given dev stage f path given stands here g };
    }) ours drives ruled m acts go

step_act : (D d : Driver) (file : TaskFile) (fs : List HostEvent) (c : event.Host) (mode : Mode) (dev : ℕ) (stage : Stage) (old new : Port) (before after : Memory) → MayStep d.plan dev stage → IsOurs mode old.registers → d.plan.mode ≡ mode → IsRuled old → IsHostMemory before
    → (acts : ActsAll (stage_effects mode dev stage) old before new after) → Goes D (acted (Some (act.Steps dev stage)) file d) fs c (beside new after)
    → Goes D d (events_of_effects (stage_effects mode dev stage) old before new after acts ++ fs) c (beside old before)
unfolding plan_after entries_after steps
step_act D d file fs c mode dev stage old new before after may ours drives ruled m acts go past served =
    step_goes D d fs c mode dev stage (stage_fields dev stage) old new before after (port_of_stage dev stage) (λ f is. is) may (step_dev d dev stage served.bounded.path may) ours drives ruled m acts go past served

-- ---- a request is issued

work_port : (slot : ℕ) (w : Work) (dev lba sectors : ℕ) → (work_fields slot w dev lba sectors).pm_port ≡ dev
work_port slot work.Read dev lba sectors = refl
work_port slot other dev lba sectors = refl

pub request_port : (slot : ℕ) (head : Head) → (request_fields slot head).pm_port ≡ head.dev
unfolding request_fields
request_port slot head = work_port slot head.work head.dev head.lba head.sectors

work_reads : (slot : ℕ) (w : Work) (dev lba sectors : ℕ) → moved.is_read (work_of (request_of (work_fields slot w dev lba sectors))).kind ≡ true → is_read w ≡ true
unfolding work_of
work_reads slot work.Read dev lba sectors h = refl
work_reads slot other dev lba sectors h = h

request_reads : (slot : ℕ) (head : Head) → moved.is_read (work_of (request_of (request_fields slot head))).kind ≡ true → is_read head.work ≡ true
unfolding request_fields
request_reads slot head h = work_reads slot head.work head.dev head.lba head.sectors h

pub not_both : (p : Phase) → waits_in p ≡ true → is_issued_in p ≡ true → ⊥
not_both Issued h k = false≢true h
not_both Aside h k = false≢true h
not_both other h k = false≢true k

fields_rephased : (slot : ℕ) (phase : Rattle.hba_driver.specs.declared.slot.Phase.Phase) (x : Entry) → request_fields slot (rephased phase x).head ≡ request_fields slot x.head
unfolding request_fields
fields_rephased slot phase x = refl

goes_out : ℕ → Driver → Driver
goes_out slot d = record d { entries = set d.entries slot (option_map (rephased Issued) (entry_at d.entries slot)) }

module _ (d : Driver) (slot dev : ℕ) (w : Waiting d.plan d.entries slot dev) where
  out_follows : Follows d (goes_out slot d)
  unfolding goes_out
  out_follows = record {
    mode = refl;
    devices = refl;
    slots = length-set d.entries slot _;
    path = λ h. h;
    asked = λ x here a. inl here;
    entries = λ s f here. by_case s f (set_cases d.entries slot (option_map (rephased Issued) (entry_at d.entries slot)) s f here);
  }
    where
      by_case : (s : ℕ) (f : Entry) → ((s ≡ slot) × (option_map (rephased Issued) (entry_at d.entries slot) ≡ Some f)) ⊎ ((s ≢ slot) × (entry_at d.entries s ≡ Some f))
          → (x : Entry) × (entry_at d.entries s ≡ Some x) × (f ≡ rephased f.head.phase x)
      by_case s f (inl at) =
          let is : rephased Issued w.entry ≡ f = some_inj (rephased Issued w.entry) f (sym (ap (option_map (rephased Issued)) w.stands) ∙ at.1) in
          (w.entry, subst (λ (k : ℕ). entry_at d.entries k ≡ Some w.entry) (sym at.0) w.stands, subst (λ (x : Entry). x ≡ rephased x.head.phase w.entry) is refl)
      by_case s f (inr beside) = (f, beside.1, refl)

  out_moves : (n s : ℕ) (t : Transfer) → From d n s t → From (goes_out slot d) n s t
  unfolding goes_out
  out_moves n s t from = from_moves d (goes_out slot d) n s t (λ f below here goes of_dev. there f here goes) (λ is x here a of_dev. here) (λ is h. h) from
    where
      there : (f : Entry) → entry_at d.entries s ≡ Some f → is_issued f.head ≡ true → entry_at (set d.entries slot (option_map (rephased Issued) (entry_at d.entries slot))) s ≡ Some f
      there f here goes = elim (cases_eq s slot) [
        | inl same ↦
            let it : w.entry ≡ f = some_inj w.entry f (sym w.stands ∙ ap (entry_at d.entries) (sym same) ∙ here) in
            absurd (not_both f.head.phase (ap (λ (e : Entry). waits e.head) (sym it) ∙ w.waits_is) goes)
        | inr other ↦ get_or-set_other d.entries slot s _ None other ∙ here
      ]

  out_may : length d.entries ≡ 30 → MayIssue (goes_out slot d) slot dev w.entry.prds (request_fields slot w.entry.head)
  unfolding goes_out
  out_may long = record {
    from = λ t table is. inl (record {
      slot = w.below;
      entry = rephased Issued w.entry;
      stands = get_or-set_same d.entries slot _ None (omega (arith, long, w.below)) ∙ ap (option_map (rephased Issued)) w.stands;
      of_dev = w.of_dev;
      goes = refl;
      table = table;
      reads = λ h. request_reads slot w.entry.head (ap (λ (x : slot_work.Work). moved.is_read x.kind) (sym is) ∙ h);
    });
    are = record {
      of_request = λ x low here.
          let there : entry_at (set d.entries slot (option_map (rephased Issued) (entry_at d.entries slot))) slot ≡ Some (rephased Issued w.entry) =
          get_or-set_same d.entries slot _ None (omega (arith, long, w.below)) ∙ ap (option_map (rephased Issued)) w.stands in
          let is : rephased Issued w.entry ≡ x = some_inj (rephased Issued w.entry) x (sym there ∙ here) in
          ap (λ (y : Entry). request_fields slot y.head) (sym is) ∙ fields_rephased slot Issued w.entry;
      of_step = λ path given is here out g. absurd (omega (arith, is, w.below));
    };
  }

  small : (n : ℕ) → n < 15 → n % 16 ≡ n
  small n h = omega (arith, h)

  issue_act : (D : Driver) (file : TaskFile) (fs : List HostEvent) (c : event.Host) (mode : Mode) (queued : Bool) (old new : Port) (before after : Memory) → IsOurs mode old.registers → d.plan.mode ≡ mode → IsRuled old → IsHostMemory before
      → (acts : ActsAll (issuing mode slot dev queued) old before new after) → Goes D (acted (Some (act.Issues slot dev queued)) file d) fs c (beside new after)
      → Goes D d (events_of_effects (issuing mode slot dev queued) old before new after acts ++ fs) c (beside old before)
  unfolding plan_after entries_after goes_out
  issue_act D file fs c mode queued old new before after ours drives ruled m acts go past served =
      let stood = served.commands slot w.entry w.stands in
      let low : w.entry.head.dev < 15 = (served.bounded.entries slot w.entry w.stands).dev in
      let to : (request_of (request_fields slot w.entry.head)).pm_port ≡ dev = ap (λ (k : ℕ). k % 16) (request_port slot w.entry.head) ∙ small w.entry.head.dev low ∙ w.of_dev in
      let standing : Standing slot dev w.entry.prds (request_fields slot w.entry.head) before = record { header = stood.header; to_dev = to; request_is = stood.request; cfis = stood.cfis; entries = stood.entries } in
      let below : dev < 16 = subst (λ (k : ℕ). k < 16) w.of_dev (omega (arith, low)) in
      moves_goes D d (goes_out slot d) _ c (beside old before) out_follows out_moves
      (issuing_goes D (goes_out slot d) fs c mode slot dev queued w.entry.prds (request_fields slot w.entry.head) old new before after (omega (arith, w.below)) below ours drives standing (out_may served.bounded.slots) ruled m acts go) past served

-- ---- the writes that open the port

abbrev plain_at : Option Register → Bool
plain_at None = true
plain_at (Some r) = not (is_ci r)

abbrev plain : Effect → Bool
plain (effect.Writes offset value) = plain_at (register_at offset)
plain other = false

not_ci : (r : Option Register) → plain_at r ≡ true → MatchOption r (Unit {0}) (λ g. is_ci g ≡ false)
not_ci None h = tt
not_ci (Some r) h = by_test (is_ci r) h
  where
    by_test : (b : Bool) → not b ≡ true → b ≡ false
    by_test true h = absurd (false≢true h)
    by_test false h = refl

plain_opening : (mode : Mode) (k : ℕ) → plain (opening_write mode k) ≡ true
unfolding opening_write register_at
plain_opening mode k = all_at plain (opening_writes mode) k _ refl refl

plain_goes : (D d : Driver) (fs : List HostEvent) (c : event.Host) (e : Effect) (old new : Port) (before after : Memory) → plain e ≡ true → IsRuled old → IsHostMemory before → (acts : ActsAll (e ∷ []) old before new after)
    → Goes D d fs c (beside new after) → Goes D d (events_of_effects (e ∷ []) old before new after acts ++ fs) c (beside old before)
unfolding ActsAll events_of_effects
plain_goes D d fs c (effect.Writes offset value) old new before after is ruled m acts go =
    first_goes D d fs c (beside old before) (events_of_effect (effect.Writes offset value) old before acts.1) []
    (write_goes D d fs c offset value old acts.0 before acts.1 (not_ci (register_at offset) is) (sound_beside old before ruled m) acts.2
    (subst (λ (h : event.Host). Goes D d fs c h) (beside_same acts.0 new acts.1 after acts.4.0 acts.4.1) go))
plain_goes D d fs c other old new before after is ruled m acts go = absurd (false≢true is)

opening_act : (D d : Driver) (file : TaskFile) (fs : List HostEvent) (c : event.Host) (mode : Mode) (k : ℕ) (old new : Port) (before after : Memory) → IsRuled old → IsHostMemory before → (acts : ActsAll (opening_write mode k ∷ []) old before new after)
    → Goes D (acted (Some (act.Opens k)) file d) fs c (beside new after) → Goes D d (events_of_effects (opening_write mode k ∷ []) old before new after acts ++ fs) c (beside old before)
unfolding plan_after entries_after
opening_act D d file fs c mode k old new before after ruled m acts go =
    plain_goes D d fs c (opening_write mode k) old new before after (plain_opening mode k) ruled m acts
    (moves_goes D d (acted (Some (act.Opens k)) file d) fs c (beside new after) (record { mode = refl; devices = refl; slots = refl; path = λ h. h; asked = λ x here a. inl here; entries = λ s f here. (f, here, refl) })
    (λ n s t from. from_moves d (acted (Some (act.Opens k)) file d) n s t (λ f below here goes of_dev. here) (λ is x here a of_dev. here) (λ is h. h) from) go)

-- ---- the writes that start it again

plain_restart : (k : ℕ) → plain (restart_write k) ≡ true
unfolding restart_write register_at
plain_restart k = all_at plain restart_writes k _ refl refl

restart_act : (D d : Driver) (file : TaskFile) (fs : List HostEvent) (c : event.Host) (k : ℕ) (old new : Port) (before after : Memory) → IsRuled old → IsHostMemory before → (acts : ActsAll (restart_write k ∷ []) old before new after)
    → Goes D (acted (Some (act.Restarts k)) file d) fs c (beside new after) → Goes D d (events_of_effects (restart_write k ∷ []) old before new after acts ++ fs) c (beside old before)
unfolding plan_after entries_after
restart_act D d file fs c k old new before after ruled m acts go =
    plain_goes D d fs c (restart_write k) old new before after (plain_restart k) ruled m acts
    (moves_goes D d (acted (Some (act.Restarts k)) file d) fs c (beside new after) (record { mode = refl; devices = refl; slots = refl; path = λ h. h; asked = λ x here a. inl here; entries = λ s f here. (f, here, refl) })
    (λ n s t from. from_moves d (acted (Some (act.Restarts k)) file d) n s t (λ f below here goes of_dev. here) (λ is x here a of_dev. here) (λ is h. h) from) go)

-- ---- each act

-- command list, received area and mode must be the driver's
abbrev pub Needs : Option Act → Type 0
Needs None = ⊥
Needs (Some (act.Opens k)) = ⊥
Needs (Some a) = Unit {0}

-- an act that does not end a fault
abbrev pub is_calm : Option Act → Bool
is_calm (Some act.Stops) = false
is_calm (Some (act.Clears dev)) = false
is_calm a = true

pub act_goes : (D d : Driver) (v : Sight) (file : TaskFile) (fs : List HostEvent) (c : event.Host) (mode : Mode) (a : Option Act) (old new : Port) (before after : Memory) → is_calm a ≡ true → Due v d.plan d.entries a → d.plan.mode ≡ mode → (Needs a → IsOurs mode old.registers) → IsRuled old → IsHostMemory before
    → list_all is_effect (effects_due mode a) ≡ true → (acts : ActsAll (effects_due mode a) old before new after) → Goes D (acted a file d) fs c (beside new after)
    → Goes D d (events_of_effects (effects_due mode a) old before new after acts ++ fs) c (beside old before)
unfolding effects_of
act_goes D d v file fs c mode None old new before after calm due drives ours ruled m is acts go = last_goes D d fs c old new before after acts go
act_goes D d v file fs c mode (Some (act.Opens k)) old new before after calm due drives ours ruled m is acts go = opening_act D d file fs c mode k old new before after ruled m acts go
act_goes D d v file fs c mode (Some (act.Restarts k)) old new before after calm due drives ours ruled m is acts go = restart_act D d file fs c k old new before after ruled m acts go
act_goes D d v file fs c mode (Some (act.Orders order)) old new before after calm due drives ours ruled m is acts go = order_act D d file fs c mode order old new before after due (ours tt) drives ruled m is acts go
act_goes D d v file fs c mode (Some (act.Steps dev stage)) old new before after calm due drives ours ruled m is acts go = step_act D d file fs c mode dev stage old new before after due (ours tt) drives ruled m acts go
act_goes D d v file fs c mode (Some (act.Issues slot dev queued)) old new before after calm due drives ours ruled m is acts go =
    issue_act d slot dev due.0 D file fs c mode queued old new before after (ours tt) drives ruled m acts go
act_goes D d v file fs c mode other old new before after calm due drives ours ruled m is acts go = absurd (false≢true calm)
