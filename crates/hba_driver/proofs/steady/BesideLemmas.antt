-- For `turns_are_steady`. Each event of a calm tick does not concern a device, or issues for it the command in one
-- slot.
use Rattle.std.proofs.Common.{◌≡◌, ◌≢◌, ℕ, ◌+◌, ◌*◌, ◌/◌, ◌^◌, ◌<◌, ◌⊎◌, ◌&&◌, ◌||◌, nat_lt, Bool, true, false, List, [], ◌∷◌, ◌++◌, replicate, refl}
use Rattle.std.proofs.{Common.{sym, ◌∙◌, ap, subst, inl, inr, arith, Option, Some, None}, lemmas.Bool.{cases_eq, false≢true, true≢false}}
use Rattle.std.proofs.lemmas.{List.append-nil}
use Rattle.std.specs.{Prelude.{if◌then◌else◌, ◌%◌, not, is_some}, Option.option_or}
use Rattle.fis_view.specs.declared.build.H2dFields.{H2dFields}
use Rattle.host_memory.specs.Memory.{Memory}
use Rattle.slots.specs.Slots.{has_bit, match_some}
use Rattle.port_errors.specs.Errors.{cleared_device}
use Rattle.hba_fbs.specs.{Bits.{dec, st}, declared.{error.WriteError.WriteError, register.Register.{Register, TheVariants.{Is, Cmd, Sact, Ci, Sntf}}}}
use Rattle.hba_fbs.specs.{declared.register.Register.TheVariants.Fbs, Issuing.aimed, Offsets.register_at, Registers.{own_refusal, running_if}}
use Rattle.hba_fbs.specs.{Registers.written, Views.Port, Writing.{cleared_by, errors_after, slots_refusal, write_refusal}}
use Rattle.hba_laws.specs.Hosts as event
use Rattle.hba_laws.specs.Hosts.{HostEvent, Runs}
use Rattle.hba_driver.specs.declared.{effect.Effect.Effect, mode.Mode.{Mode, TheVariants.{CommandBased, Switching}}, order.Order.Order}
use Rattle.hba_driver.specs.{declared.{order.Order.TheVariants.{Scan, Clear}, turn.Act.Act, plan.Plan.Plan}, Seeing.Sight, Drivers.{Driver, Entry}}
use Rattle.hba_driver.specs.{Drivers.{IsPath, entry_at}, Effects.{ActsAll, clearing, effects_of, issuing, opening_write, opening_writes}}
use Rattle.hba_driver.specs.{Effects.{order_effects, restart_write, restart_writes, sending}, Events.{IsSoundHost, events_of, events_of_effects}}
use Rattle.hba_driver.specs.{Events.{events_over, shared_by, tried, wrote_to}, HostTurns.{Does, DoesAll, Host, Ticked, sight_in}, Orders.control_port}
use Rattle.hba_driver.specs.{Orders.order_fields, Paths.stage_fields, Served.AreBounded, Sights.{px_ci, px_fbs, px_is, px_sact, px_sntf}}
use Rattle.hba_driver.specs.{Steady.{AreBeside, IsBeside, IsCalmAct, IsCalmTick, Issues, slot_in, slot_of}, Ticks.{done_ended, due, effects_due}}
use Rattle.hba_driver.specs.{Ticks.turn, Between.{Due, MayEnd, Runs as RunsDue}}
use Rattle.hba_driver.specs.declared.effect.Effect.TheVariants as effect
use Rattle.hba_driver.specs.declared.turn.Act.TheVariants as act
use Rattle.hba_driver.proofs.{events.DrivenLemmas.{en_chosen, no_dec, not_below, place_effect}, ticks.DueLemmas.{due_turn, goes_turn, runs_turn}}
use Rattle.hba_driver.proofs.{calls.EffectLemmas.all_at, requests.HistoryLemmas.back_of, ticks.LifeLemmas.keeps_done, issued.EndingLemmas.may_end}
use Rattle.hba_driver.proofs.issued.{EndingLemmas.only_cleared, IssuingLemmas.asks_here}

-- ---- one event after another

-- as these events run from here, each either does not concern the device or issues for it
abbrev Calm : (n slot : ℕ) → List HostEvent → event.Host → event.Host → Type 0
Calm n slot fs c h = (run : Runs h fs c) → AreBeside n slot h c fs run

calm_none : (n slot : ℕ) (c h : event.Host) → Calm n slot [] c h
calm_none n slot c h run = tt

calm_then : (n slot : ℕ) (e : HostEvent) (fs : List HostEvent) (c h : event.Host) → ((mid : event.Host) → event.Does h e mid → IsBeside n h e ⊎ Issues n slot h e) → ((mid : event.Host) → event.Does h e mid → Calm n slot fs c mid)
    → Calm n slot (e ∷ fs) c h
calm_then n slot e fs c h first rest run = (first run.0 run.1, rest run.0 run.1 run.2)

-- a write that the port takes or refuses
calm_by : (n slot : ℕ) (fs : List HostEvent) (c h : event.Host) (o : Option WriteError) (g : Register) (value : ℕ)
    → ((mid : event.Host) → event.Does h (event.Wrote g value) mid → IsBeside n h (event.Wrote g value) ⊎ Issues n slot h (event.Wrote g value))
    → ((mid : event.Host) → event.Does h (event.Wrote g value) mid → Calm n slot fs c mid) → (is_some o ≡ true → Calm n slot fs c h)
    → Calm n slot (match_some o (wrote_to (Some g) value) (λ e. []) ++ fs) c h
calm_by n slot fs c h (Some e) g value first rest skip = skip refl
calm_by n slot fs c h None g value first rest skip = calm_then n slot (event.Wrote g value) fs c h first rest

calm_write : (n slot : ℕ) (fs : List HostEvent) (c h : event.Host) (port : Port) (memory : Memory) (offset : ℕ) (g : Register) (value : ℕ) → register_at offset ≡ Some g
    → ((mid : event.Host) → event.Does h (event.Wrote g value) mid → IsBeside n h (event.Wrote g value) ⊎ Issues n slot h (event.Wrote g value))
    → ((mid : event.Host) → event.Does h (event.Wrote g value) mid → Calm n slot fs c mid) → (is_some (write_refusal port memory offset value) ≡ true → Calm n slot fs c h)
    → Calm n slot (tried port memory offset value ++ fs) c h
calm_write n slot fs c h port memory offset g value at first rest skip =
    subst (λ (r : Option Register). Calm n slot (match_some (write_refusal port memory offset value) (wrote_to r value) (λ e. []) ++ fs) c h) (sym at)
    (calm_by n slot fs c h (write_refusal port memory offset value) g value first rest skip)

-- ---- what is chosen, and issued

not_running : (b : Bool) → option_or (running_if (b && false)) None ≡ None
not_running true = refl
not_running false = refl

fbs_taken : (dev : ℕ) (port : Port) (memory : Memory) → port.registers.switching ≡ true → write_refusal port memory px_fbs (256 * dev + 1) ≡ None
unfolding own_refusal slots_refusal register_at
fbs_taken dev port memory on = rw (en_chosen dev, on) (not_running port.registers.started)

none_taken : (o : Option WriteError) → o ≡ None → is_some o ≡ true → ⊥
none_taken o is h = true≢false (sym h ∙ ap is_some is)

dev_bits : (dev : ℕ) → dev < 16 → (256 * dev + 1) / 256 % 16 ≡ dev
dev_bits dev h = omega (arith, h)

-- choosing a device clears no error
calm_fbs : (n dev : ℕ) (h : event.Host) → cleared_by h.port.errors (256 * dev + 1) ≡ Some n → ⊥
calm_fbs n dev h is =
    let none : cleared_by h.port.errors (256 * dev + 1) ≡ None = ap (λ (b : Bool). if b then cleared_device h.port.errors else None) (no_dec dev) in
    let bad : None ≡ Some n = sym none ∙ is in cc

chosen_then : (dev : ℕ) (h mid : event.Host) → dev < 16 → event.Does h (event.Wrote Fbs (256 * dev + 1)) mid → mid.port.registers.chosen ≡ dev
unfolding written
chosen_then dev h mid below does = ap (λ r. r.chosen) does.1.registers ∙ dev_bits dev below

chosen_armed : (value dev : ℕ) (h mid : event.Host) → event.Does h (event.Wrote Sact value) mid → h.port.registers.chosen ≡ dev → mid.port.registers.chosen ≡ dev
unfolding written
chosen_armed value dev h mid does is = ap (λ r. r.chosen) does.1.registers ∙ is

-- the write of PxCI issues for one device
issues_or : (n slot dev : ℕ) (h mid : event.Host) → slot < 32 → h.port.registers.chosen ≡ dev → event.Does h (event.Wrote Ci (2 ^ slot)) mid → IsBeside n h (event.Wrote Ci (2 ^ slot)) ⊎ Issues n slot h (event.Wrote Ci (2 ^ slot))
issues_or n slot dev h mid below is does = elim (cases_eq (aimed h.port.registers h.memory.structure (2 ^ slot)) n) [
  | inl same ↦ inr (record { is = refl; below = below; for_dev = same; command = asks_here h.port h.memory slot below does.0 })
  | inr other ↦ inl (λ e. other (sym e))
]

calm_ci : (n slot dev : ℕ) (fs : List HostEvent) (c : event.Host) (port : Port) (memory : Memory) → slot < 32 → ((h : event.Host) → Calm n slot fs c h) → (h : event.Host) → h.port.registers.chosen ≡ dev
    → Calm n slot (tried port memory px_ci (2 ^ slot) ++ fs) c h
unfolding register_at
calm_ci n slot dev fs c port memory below rest h is =
    calm_write n slot fs c h port memory px_ci Ci (2 ^ slot) refl (λ mid does. issues_or n slot dev h mid below is does) (λ mid does. rest mid) (λ none. rest h)

calm_sact : (n slot dev value : ℕ) (fs : List HostEvent) (c : event.Host) (port : Port) (memory : Memory) → ((h : event.Host) → h.port.registers.chosen ≡ dev → Calm n slot fs c h) → (h : event.Host) → h.port.registers.chosen ≡ dev
    → Calm n slot (tried port memory px_sact value ++ fs) c h
unfolding register_at
calm_sact n slot dev value fs c port memory rest h is =
    calm_write n slot fs c h port memory px_sact Sact value refl (λ mid does. inl tt) (λ mid does. rest mid (chosen_armed value dev h mid does is)) (λ none. rest h is)

calm_chosen : (n slot dev : ℕ) (fs : List HostEvent) (c : event.Host) (port : Port) (memory : Memory) → dev < 16 → port.registers.switching ≡ true → ((h : event.Host) → h.port.registers.chosen ≡ dev → Calm n slot fs c h) → (h : event.Host)
    → Calm n slot (tried port memory px_fbs (256 * dev + 1) ++ fs) c h
unfolding register_at
calm_chosen n slot dev fs c port memory below on rest h =
    calm_write n slot fs c h port memory px_fbs Fbs (256 * dev + 1) refl (λ mid does. inl (λ is. calm_fbs n dev h is)) (λ mid does. rest mid (chosen_then dev h mid below does))
    (λ some. absurd (none_taken _ (fbs_taken dev port memory on) some))

-- ---- lists of effects

calm_issuing : (n slot dev : ℕ) (queued : Bool) (old new : Port) (before after : Memory) (c : event.Host) → slot < 32 → dev < 16 → old.registers.switching ≡ true → (acts : ActsAll (issuing Switching slot dev queued) old before new after) → (h : event.Host)
    → Calm n slot (events_of_effects (issuing Switching slot dev queued) old before new after acts) c h
unfolding ActsAll events_of_effects
calm_issuing n slot dev false old new before after c below dev_below on acts =
    calm_chosen n slot dev _ c old before dev_below on (calm_ci n slot dev [] c acts.0 acts.1 below (λ h. calm_none n slot c h))
calm_issuing n slot dev true old new before after c below dev_below on acts =
    calm_chosen n slot dev _ c old before dev_below on (calm_sact n slot dev (2 ^ slot) _ c acts.0 acts.1 (calm_ci n slot dev [] c acts.4.0 acts.4.1 below (λ h. calm_none n slot c h)))

calm_sending : (n slot dev : ℕ) (fields : H2dFields) (buffer : Bool) (old new : Port) (before after : Memory) (c : event.Host) → slot < 32 → dev < 16 → old.registers.switching ≡ true
    → (acts : ActsAll (sending Switching slot dev fields buffer) old before new after) → (h : event.Host) → Calm n slot (events_of_effects (sending Switching slot dev fields buffer) old before new after acts) c h
unfolding ActsAll events_of_effects
calm_sending n slot dev fields buffer old new before after c below dev_below on acts h =
    calm_then n slot (event.Stored acts.1.structure) _ c h (λ mid does. inl tt) (λ mid does.
    calm_issuing n slot dev false acts.0 new acts.1 after c below dev_below (ap (λ (p : Port). p.registers.switching) acts.2.0 ∙ on) acts.4 mid)

calm_command : (n slot dev : ℕ) (o : Option H2dFields) (buffer : Bool) (old new : Port) (before after : Memory) (c : event.Host) → slot < 32 → dev < 16 → old.registers.switching ≡ true
    → (acts : ActsAll (match_some o [] (λ f. sending Switching slot dev f buffer)) old before new after) → (h : event.Host) → Calm n slot (events_of_effects (match_some o [] (λ f. sending Switching slot dev f buffer)) old before new after acts) c h
unfolding ActsAll events_of_effects
calm_command n slot dev None buffer old new before after c below dev_below on acts h = calm_none n slot c h
calm_command n slot dev (Some f) buffer old new before after c below dev_below on acts h = calm_sending n slot dev f buffer old new before after c below dev_below on acts h

small : 31 < 32
small = omega arith

port_small : 15 < 16
port_small = omega arith

calm_order : (n : ℕ) (order : Order) (old new : Port) (before after : Memory) (c : event.Host) → order ≢ Clear n → old.registers.switching ≡ true → (acts : ActsAll (order_effects Switching order) old before new after) → (h : event.Host)
    → Calm n 31 (events_of_effects (order_effects Switching order) old before new after acts) c h
unfolding order_effects ActsAll events_of_effects register_at
calm_order n Scan old new before after c other on acts h =
    let place = place_effect Switching (effect.Writes px_sntf 32768) old acts.0 before acts.1 refl acts.2 in
    let rest : (k : event.Host) → Calm n 31 (events_of_effects (match_some (order_fields Scan) [] (λ f. sending Switching 31 control_port f false)) acts.0 acts.1 new after acts.4) c k =
    λ k. calm_command n 31 15 (order_fields Scan) false acts.0 new acts.1 after c small port_small (place.switches on) acts.4 k in
    calm_write n 31 _ c h old before px_sntf Sntf 32768 refl (λ mid does. inl tt) (λ mid does. rest mid) (λ none. rest h)
calm_order n (Clear port) old new before after c other on acts h =
    let last : List HostEvent = events_of_effects (match_some (order_fields (Clear port)) [] (λ f. sending Switching 31 control_port f false)) acts.4.0 acts.4.1 new after acts.4.4 in
    calm_then n 31 (event.Flushed port) (event.Rewrote port (replicate 256 0) ∷ last) c h (λ mid does. inl (λ same. other (ap Clear (sym same)))) (λ mid does.
    calm_then n 31 (event.Rewrote port (replicate 256 0)) last c mid (λ mid does. inl tt) (λ mid does.
    calm_command n 31 15 (order_fields (Clear port)) false acts.4.0 new acts.4.1 after c small port_small
    (ap (λ (p : Port). p.registers.switching) acts.4.2.0 ∙ (ap (λ r. r.switching) acts.2.0.registers ∙ on)) acts.4.4 mid))
calm_order n order old new before after c other on acts h = calm_command n 31 15 (order_fields order) false old new before after c small port_small on acts h

-- ---- the writes that open the port, and start it again

-- no device is issued for or cleared, and ST does not fall if it is 0 before or 1 afterwards
abbrev tame_at : (quiet : Bool) → Option Register → ℕ → Bool
tame_at quiet None value = false
tame_at quiet (Some Ci) value = false
tame_at quiet (Some Fbs) value = not (has_bit value dec)
tame_at quiet (Some Cmd) value = quiet || has_bit value st
tame_at quiet (Some register) value = true

abbrev tame : Bool → Effect → Bool
tame quiet (effect.Writes offset value) = tame_at quiet (register_at offset) value
tame quiet other = false

no_fall : (quiet started bit : Bool) → (quiet ≡ true → started ≡ false) → (quiet || bit) ≡ true → (started && not bit) ≡ false
no_fall quiet false bit off h = refl
no_fall quiet true true off h = refl
no_fall true true false off h = absurd (true≢false (off refl))
no_fall false true false off h = absurd (false≢true h)

unset : (b : Bool) → not b ≡ true → b ≡ false
unset true h = absurd (false≢true h)
unset false h = refl

cleared_none : (o : Option ℕ) (b : Bool) (n : ℕ) → b ≡ false → (if b then o else None) ≡ Some n → ⊥
cleared_none o true n h is = true≢false h
cleared_none o false n h is = cc

tame_write : (n value : ℕ) (quiet : Bool) (g : Register) (h : event.Host) → (quiet ≡ true → h.port.registers.started ≡ false) → tame_at quiet (Some g) value ≡ true → IsBeside n h (event.Wrote g value)
tame_write n value quiet Cmd h off is = no_fall quiet h.port.registers.started (has_bit value st) off is
tame_write n value quiet Ci h off is = absurd (false≢true is)
tame_write n value quiet Fbs h off is = λ named. cleared_none (cleared_device h.port.errors) (has_bit value dec) n (unset (has_bit value dec) is) named
tame_write n value quiet other h off is = tt

tame_by : (n slot value : ℕ) (quiet : Bool) (o : Option WriteError) (r : Option Register) (c h : event.Host) → (quiet ≡ true → h.port.registers.started ≡ false) → tame_at quiet r value ≡ true
    → Calm n slot (match_some o (wrote_to r value) (λ e. []) ++ []) c h
tame_by n slot value quiet o None c h off is = absurd (false≢true is)
tame_by n slot value quiet o (Some g) c h off is =
    calm_by n slot [] c h o g value (λ mid does. inl (tame_write n value quiet g h off is)) (λ mid does. calm_none n slot c mid) (λ some. calm_none n slot c h)

calm_tame : (n slot : ℕ) (quiet : Bool) (e : Effect) (old new : Port) (before after : Memory) (c h : event.Host) → (quiet ≡ true → h.port.registers.started ≡ false) → tame quiet e ≡ true → (acts : ActsAll (e ∷ []) old before new after)
    → Calm n slot (events_of_effects (e ∷ []) old before new after acts) c h
unfolding ActsAll events_of_effects
calm_tame n slot quiet (effect.Writes offset value) old new before after c h off is acts = tame_by n slot value quiet (write_refusal old before offset value) (register_at offset) c h off is
calm_tame n slot quiet other old new before after c h off is acts = absurd (false≢true is)

tame_opening : (k : ℕ) → tame true (opening_write Switching k) ≡ true
unfolding opening_write register_at
tame_opening k = all_at (tame true) (opening_writes Switching) k _ refl refl

tame_restart : (k : ℕ) → tame false (restart_write k) ≡ true
unfolding restart_write register_at
tame_restart k = all_at (tame false) restart_writes k _ refl refl

-- ---- another device is cleared

same_errors : (value dev : ℕ) (h mid : event.Host) → event.Does h (event.Wrote Is value) mid → cleared_device h.port.errors ≡ Some dev → cleared_device mid.port.errors ≡ Some dev
unfolding errors_after
same_errors value dev h mid does is = ap cleared_device does.1.errors ∙ is

other_cleared : (n dev : ℕ) (h : event.Host) → n ≢ dev → cleared_device h.port.errors ≡ Some dev → cleared_by h.port.errors (256 * dev + 3) ≢ Some n
other_cleared n dev h other is named = other (sym (one dev n (sym (only_cleared dev h.port.errors is) ∙ named)))
  where
    one : (a b : ℕ) → Some a ≡ Some b → a ≡ b
    one a b e = cc

calm_clearing : (n slot dev : ℕ) (old new : Port) (before after : Memory) (c h : event.Host) → n ≢ dev → cleared_device h.port.errors ≡ Some dev → (acts : ActsAll (clearing Switching dev) old before new after)
    → Calm n slot (events_of_effects (clearing Switching dev) old before new after acts) c h
unfolding ActsAll events_of_effects register_at
calm_clearing n slot dev old new before after c h other is acts =
    let last : (k : event.Host) → cleared_device k.port.errors ≡ Some dev → Calm n slot (tried acts.0 acts.1 px_fbs (256 * dev + 3) ++ []) c k =
    λ k at. calm_write n slot [] c k acts.0 acts.1 px_fbs Fbs (256 * dev + 3) refl (λ mid does. inl (other_cleared n dev k other at)) (λ mid does. calm_none n slot c mid) (λ some. calm_none n slot c k) in
    calm_write n slot _ c h old before px_is Is 1224736768 refl (λ mid does. inl tt) (λ mid does. last mid (same_errors 1224736768 dev h mid does is)) (λ none. last h is)

-- ---- each act

-- what an act finds: a port that has not started, one that switches between devices, or a device with a fault
abbrev Finds : Option Act → Port → event.Host → Type 0
Finds (Some (act.Opens k)) old h = h.port.registers.started ≡ false
Finds (Some (act.Clears dev)) old h = cleared_device h.port.errors ≡ Some dev
Finds (Some (act.Orders order)) old h = old.registers.switching ≡ true
Finds (Some (act.Steps dev stage)) old h = (old.registers.switching ≡ true) × (dev < 16)
Finds (Some (act.Issues slot dev queued)) old h = (old.registers.switching ≡ true) × ((slot < 30) × (dev < 16))
Finds other old h = Unit {0}

calm_act : (n : ℕ) (old new : Port) (before after : Memory) (c h : event.Host) (a : Option Act) → IsCalmAct n a → Finds a old h → (acts : ActsAll (effects_due Switching a) old before new after)
    → Calm n (slot_of a) (events_of_effects (effects_due Switching a) old before new after acts) c h
unfolding effects_of ActsAll events_of_effects
calm_act n old new before after c h None calm finds acts = calm_none n 31 c h
calm_act n old new before after c h (Some (act.Opens k)) calm finds acts = calm_tame n 31 true (opening_write Switching k) old new before after c h (λ q. finds) (tame_opening k) acts
calm_act n old new before after c h (Some act.Stops) calm finds acts = absurd calm
calm_act n old new before after c h (Some (act.Restarts k)) calm finds acts = calm_tame n 31 false (restart_write k) old new before after c h (λ q. absurd (false≢true q)) (tame_restart k) acts
calm_act n old new before after c h (Some (act.Clears dev)) calm finds acts = calm_clearing n 31 dev old new before after c h calm finds acts
calm_act n old new before after c h (Some (act.Orders order)) calm finds acts = calm_order n order old new before after c calm finds acts h
calm_act n old new before after c h (Some (act.Steps dev stage)) calm finds acts = calm_command n 30 dev (stage_fields dev stage) (Rattle.hba_driver.specs.Paths.reads_page stage) old new before after c (omega arith) finds.1 finds.0 acts h
calm_act n old new before after c h (Some (act.Issues slot dev queued)) calm finds acts =
    let below : slot < 30 = finds.1.0 in
    calm_issuing n slot dev queued old new before after c (omega (arith, below)) finds.1.1 finds.0 acts h

-- the same for a host of either mode, if it is this one
calm_in : (mode : Mode) (n : ℕ) (old new : Port) (before after : Memory) (c h : event.Host) (a : Option Act) → mode ≡ Switching → IsCalmAct n a → Finds a old h → (acts : ActsAll (effects_due mode a) old before new after)
    → Calm n (slot_of a) (events_of_effects (effects_due mode a) old before new after acts) c h
calm_in Switching n old new before after c h a on calm finds acts = calm_act n old new before after c h a calm finds acts
calm_in CommandBased n old new before after c h a on calm finds acts = absurd (cc)

switching : (old : Host) → IsSoundHost old → nat_lt old.driver.plan.opened 7 ≡ false → old.port.registers.switching ≡ true
switching old s up = s.registers.switches (omega (arith, not_below old.driver.plan.opened 7 up))

-- what is known of the host if an act is due
finds_of : (old : Host) (plan : Plan) (entries : List (Option Entry)) (a : Option Act) → IsSoundHost old → plan.opened ≡ old.driver.plan.opened → IsPath plan.path → ((s : ℕ) (e : Entry) → entry_at entries s ≡ Some e → e.head.dev < 15)
    → Due (sight_in old) plan entries a → RunsDue old.driver.plan a → MayEnd Switching a old.port → Finds a old.port (shared_by old)
finds_of old plan entries (Some (act.Opens k)) s same path devs due runs may = s.registers.stopped (omega (arith, due.1, same))
finds_of old plan entries (Some (act.Clears dev)) s same path devs due runs may = may.1.faulty
finds_of old plan entries (Some (act.Orders order)) s same path devs due runs may = switching old s runs.0
finds_of old plan entries (Some (act.Steps dev stage)) s same path devs due runs may =
    let low : dev < 15 = elim due [ inl none ↦ none.1 | inr goes ↦ subst IsPath goes path ] in
    (switching old s runs.0, omega (arith, low))
finds_of old plan entries (Some (act.Issues slot dev queued)) s same path devs due runs may =
    let w = due.0 in
    let low : w.entry.head.dev < 15 = devs slot w.entry w.stands in
    (switching old s runs.0, (w.below, subst (λ (k : ℕ). k < 16) w.of_dev (omega (arith, low))))
finds_of old plan entries other s same path devs due runs may = tt

done_devs : (d : Driver) (issued : ℕ) → AreBounded d → (s : ℕ) (e : Entry) → entry_at (done_ended issued d.entries) s ≡ Some e → e.head.dev < 15
done_devs d issued bounded s e here =
    let b = back_of (entry_at d.entries s) (entry_at (done_ended issued d.entries) s) (keeps_done issued d.entries s) e here in
    subst (λ (k : ℕ). k < 15) (sym (ap (λ (x : Entry). x.head.dev) b.2.same)) (bounded.entries s b.0 b.1).dev

tick_calm : (n : ℕ) (old : Host) (acted : Bool) (new : Host) (does : Does old (Ticked acted) new) (c : event.Host) → IsSoundHost old → AreBounded old.driver → IsCalmTick n old
    → Calm n (slot_in old) (events_of old (Ticked acted) new does) c (shared_by old)
tick_calm n old acted new does c s bounded calm =
    let v : Sight = sight_in old in
    let a : Option Act = (turn v old.driver).act in
    let done : List (Option Entry) = done_ended v.issued old.driver.entries in
    let goes = goes_turn v old.driver.plan done in
    calm_in old.driver.plan.mode n old.port new.port old.memory new.memory c (shared_by old) a s.drives calm
    (finds_of old (turn v old.driver).plan done a s goes.opened (goes.low bounded.path) (done_devs old.driver v.issued bounded) (due_turn v old.driver.plan done) (runs_turn v old.driver.plan done) (may_end old s)) does.does

pub tick_beside : (n : ℕ) (old : Host) (acted : Bool) (new : Host) (run : DoesAll old (Ticked acted ∷ []) new) → IsSoundHost old → AreBounded old.driver → IsCalmTick n old
    → (happens : Runs (shared_by old) (events_over old new (Ticked acted ∷ []) run) (shared_by new)) → AreBeside n (slot_in old) (shared_by old) (shared_by new) (events_over old new (Ticked acted ∷ []) run) happens
tick_beside n old acted new run s bounded calm =
    subst (λ (l : List HostEvent). Calm n (slot_in old) l (shared_by new) (shared_by old)) (sym (append-nil (events_of old (Ticked acted) run.0 run.1)))
    (tick_calm n old acted run.0 run.1 (shared_by new) s bounded calm)
