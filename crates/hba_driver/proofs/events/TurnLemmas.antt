-- For `turns_are_events`. Each list of turns is a list of events, and tells the same.
use Rattle.std.proofs.Common.{◌≡◌, ℕ, ◌<◌, ◌≤◌, Bool, true, false, ◌&&◌, List, [], ◌∷◌, ◌++◌, length, replicate, refl, sym, ◌∙◌, ap, subst, inl, inr}
use Rattle.std.proofs.{Common.{arith, Option, Some, None}, lemmas.{Bool.cases_lt, Grind.flat_map-append}}
use Rattle.std.specs.{Prelude.not, List.{flat_map, list_all}, Option.option_or}
use Rattle.host_memory.specs.Memory.{IsHostMemory, Memory}
use Rattle.slots.specs.Slots.{match_some}
use Rattle.hba_fbs.specs.{declared.{error.WriteError.WriteError, register.Register.Register}, Offsets.register_at, Views.Port, Writing.write_refusal}
use Rattle.hba_laws.specs.{Delivering.AreFramed, Hosts.{HostEvent, Runs}}
use Rattle.hba_laws.specs.Hosts as event
use Rattle.hba_laws.specs.Sound as sound
use Rattle.hba_driver.specs.declared.{effect.Effect.Effect, mode.Mode.Mode, plan.Device.TheVariants.Absent, request.Request.Request}
use Rattle.hba_driver.specs.{declared.request.SubmitError.SubmitError, Drivers.{Driver, device_at}, Effects.{ActsAll, IsRuled, is_effect}}
use Rattle.hba_driver.specs.{Effects.{opening_write, opening_writes}, Events.{EachRunTells, IsSoundHostIn, KnowsNone, TurnsAreEvents, events_of}}
use Rattle.hba_driver.specs.Events.{events_of_effect, events_of_effects, events_over, gave, pushed_by, put, put_by, shared_by, taken_by, took}
use Rattle.hba_driver.specs.{Events.wrote_to, HostTurns.{Does, DoesAll, Host, HostTurn, Took, Pushed, Ticked, Submitted, Polled, Put, sight_in}}
use Rattle.hba_driver.specs.{Requests.device_refusal, Sights.file_shown, Submits.{next_slot, submit_refusal}, Ticks.effects, Between.beside}
use Rattle.hba_driver.specs.declared.effect.Effect.TheVariants as effect
use Rattle.hba_driver.specs.declared.request.SubmitError.TheVariants as refusal
use Rattle.hba_driver.proofs.{events.{DrivenLemmas.tick_is, EventLemmas.{Good, beside_area, beside_same, does_store}}, calls.EffectLemmas.all_at}
use Rattle.hba_driver.proofs.events.EventLemmas.{good_effect, good_effects, good_none, good_one, good_then, sized_effect, sound_beside, wants_area}
use Rattle.hba_driver.proofs.{requests.{HistoryLemmas.free_below, StandLemmas.both}, events.SoundLemmas.sound_turn, calls.SubmitLemmas.is_taken}

-- ---- a tick

-- it leaves the received area as it is
abbrev spares_area : Effect → Bool
spares_area e = not (wants_area e)

not_wanted : (b : Bool) {P : Type 0} → not b ≡ true → b ≡ true → P
not_wanted true h k = let bad : false ≡ true = h in cc
not_wanted false h k = let bad : false ≡ true = k in cc

-- no effect, or one
good_few : (es : List Effect) (old new : Port) (before after : Memory) → length es ≤ 1 → list_all is_effect es ≡ true → list_all spares_area es ≡ true → IsHostMemory before
    → (acts : ActsAll es old before new after) → IsRuled old → Good (beside old before) (events_of_effects es old before new after acts) (beside new after)
unfolding ActsAll events_of_effects
good_few [] old new before after few is spares m h first =
    good_none (beside old before) (beside new after) (beside_same old new before after h.0 h.1) (sound_beside old before first m)
good_few (e ∷ []) old new before after few is spares m h first =
    let effect_is : is_effect e ≡ true = (both (is_effect e) true is).0 in
    let spared : spares_area e ≡ true = (both (spares_area e) true spares).0 in
    let later : IsHostMemory h.1 = sized_effect e old h.0 before h.1 effect_is h.2 m in
    good_then (events_of_effect e old before h.1) [] (beside old before) (beside h.0 h.1) (beside new after)
    (good_effect e old h.0 before h.1 effect_is (λ w. not_wanted (wants_area e) spared w) m h.2 (sound_beside old before first m) (sound_beside h.0 h.1 h.3 later))
    (good_none (beside h.0 h.1) (beside new after) (beside_same h.0 new h.1 after h.4.0 h.4.1) (sound_beside h.0 h.1 h.3 later))
good_few (e ∷ f ∷ es) old new before after few is spares m h first = absurd (omega (arith, few))

spares_opening : (mode : Mode) (k : ℕ) → spares_area (opening_write mode k) ≡ true
unfolding opening_write
spares_opening mode k = all_at spares_area (opening_writes mode) k _ refl refl

good_tick : {mode : Mode} (old : Host) (a : Bool) (new : Host) (h : Does old (Ticked a) new) → IsSoundHostIn mode old → IsRuled old.port → IsRuled new.port
    → Good (shared_by old) (events_of old (Ticked a) new h) (shared_by new)
good_tick old a new h s first last =
    let v = sight_in old in
    let d : Driver = old.driver in
    elim (tick_is v (file_shown new.port) d) [
      | inl one ↦
          good_few (effects v d) old.port new.port old.memory new.memory (subst (λ (es : List Effect). length es ≤ 1) (sym one.one) (omega arith)) h.possible
          (subst (λ (es : List Effect). list_all spares_area es ≡ true) (sym one.one) (ap (λ (b : Bool). b && true) (spares_opening d.plan.mode d.plan.opened))) s.memory h.does first
      | inr going ↦ good_effects d.plan.mode (effects v d) old.port new.port old.memory new.memory h.possible going.quiet (s.registers.area (omega (arith, going.least))) s.memory h.does first last
    ]

-- ---- a request

pub first_none : (a b : Option SubmitError) → option_or a b ≡ None → a ≡ None
first_none None b h = refl
first_none (Some e) b h = cc

-- a request is taken for a device that is there, so the port is open
pub submit_open : (d : Driver) (memory : Memory) (dev : ℕ) (request : Request) → KnowsNone d.plan → submit_refusal d memory dev request ≡ None → 7 ≤ d.plan.opened
unfolding submit_refusal
submit_open d memory dev request known h = elim (cases_lt d.plan.opened 7) [
  | inl less ↦
      let is : device_refusal Absent ≡ None = ap device_refusal (sym (known less dev)) ∙ first_none (device_refusal (device_at d.plan dev)) _ h in
      let bad : Some refusal.NoDevice ≡ None = is in
      cc
  | inr least ↦ least
]

-- ---- each turn

pub sound_shared : {mode : Mode} (h : Host) → IsSoundHostIn mode h → sound.IsHost (shared_by h)
sound_shared h s = sound_beside h.port h.memory s.ruled s.memory

good_turn : {mode : Mode} (old : Host) (t : HostTurn) (new : Host) (h : Does old t new) → IsSoundHostIn mode old → IsSoundHostIn mode new → Good (shared_by old) (events_of old t new h) (shared_by new)
good_turn old (Took frame report) new h s n =
    good_one (shared_by old) (event.Took frame report) (shared_by new) (record { ignored = h.ignored; heard = h.heard }) (sound_shared old s) (sound_shared new n)
good_turn old (Pushed frame) new h s n =
    good_one (shared_by old) (event.Gave frame) (shared_by new) (h.gives, h.memory) (sound_shared old s) (sound_shared new n)
good_turn old (Ticked a) new h s n = good_tick old a new h s s.ruled n.ruled
good_turn old (Submitted dev request ticket) new h s n =
    let below : next_slot old.driver < 30 = free_below old.driver old.memory dev request h.accepted in
    let same = beside_area (next_slot old.driver) _ request.prds.items old.memory.structure new.memory.structure s.memory.structure_len (omega (arith, below)) (is_taken old.driver old.memory dev request h.accepted).few h.taken.command in
    let area : old.port.registers.fb ≡ 4096 = s.registers.area (omega (arith, submit_open old.driver old.memory dev request s.devices h.accepted)) in
    good_one (shared_by old) (event.Stored new.memory.structure) (shared_by new) (does_store (shared_by old) (shared_by new) area s.memory.structure_len same h.taken.client h.port)
    (sound_shared old s) (sound_shared new n)
good_turn old (Polled c) new h s n =
    good_none (shared_by old) (shared_by new) (beside_same old.port new.port old.memory new.memory h.port h.memory) (sound_shared old s)
good_turn old (Put at bytes) new h s n =
    good_one (shared_by old) (event.Put at bytes) (shared_by new) (record { inside = h.inside; after = h.memory }, h.port) (sound_shared old s) (sound_shared new n)

-- ---- over turns

good_turns : {mode : Mode} (turns : List HostTurn) (old new : Host) (run : DoesAll old turns new) → IsSoundHostIn mode old → Good (shared_by old) (events_over old new turns run) (shared_by new)
good_turns {mode} [] old new run s = good_none (shared_by old) (shared_by new) (ap shared_by run) (sound_shared old s)
good_turns {mode} (t ∷ turns) old new run s =
    let n : IsSoundHostIn mode run.0 = sound_turn old t run.0 run.1 s in
    good_then (events_of old t run.0 run.1) (events_over run.0 new turns run.2) (shared_by old) (shared_by run.0) (shared_by new) (good_turn old t run.0 run.1 s n) (good_turns turns run.0 new run.2 n)

-- ---- what the events tell

-- it tells nothing of what the driver does
record IsSilent {A : Type 0} (f : HostEvent → List A) : Type 0 where
  pub wrote : (r : Register) (value : ℕ) → f (event.Wrote r value) ≡ []
  pub flushed : (dev : ℕ) → f (event.Flushed dev) ≡ []
  pub stored : (structure : List ℕ) → f (event.Stored structure) ≡ []
  pub rewrote : (dev : ℕ) (row : List ℕ) → f (event.Rewrote dev row) ≡ []

single : {A : Type 0} (f : HostEvent → List A) (e : HostEvent) → f e ≡ [] → flat_map f (e ∷ []) ≡ []
single f e h = ap (λ xs. xs ++ []) h

silent_write : {A : Type 0} (f : HostEvent → List A) → IsSilent f → (o : Option WriteError) (r : Option Register) (value : ℕ) → flat_map f (match_some o (wrote_to r value) (λ e. [])) ≡ []
silent_write f silent (Some e) r value = refl
silent_write f silent None None value = refl
silent_write f silent None (Some r) value = single f (event.Wrote r value) (silent.wrote r value)

silent_effect : {A : Type 0} (f : HostEvent → List A) → IsSilent f → (e : Effect) (old : Port) (before after : Memory) → flat_map f (events_of_effect e old before after) ≡ []
silent_effect f silent (effect.Writes offset value) old before after = silent_write f silent (write_refusal old before offset value) (register_at offset) value
silent_effect f silent (effect.Flushes dev) old before after = single f (event.Flushed dev) (silent.flushed dev)
silent_effect f silent (effect.Empties dev) old before after = single f (event.Rewrote dev (replicate 256 0)) (silent.rewrote dev (replicate 256 0))
silent_effect f silent (effect.Commands slot fields buffer) old before after = single f (event.Stored after.structure) (silent.stored after.structure)

silent_effects : {A : Type 0} (f : HostEvent → List A) → IsSilent f → (es : List Effect) (old new : Port) (before after : Memory) (acts : ActsAll es old before new after)
    → flat_map f (events_of_effects es old before new after acts) ≡ []
unfolding ActsAll events_of_effects
silent_effects f silent [] old new before after acts = refl
silent_effects f silent (e ∷ es) old new before after acts =
    flat_map-append f (events_of_effect e old before acts.1) (events_of_effects es acts.0 acts.1 new after acts.4)
    ∙ ap (λ xs. xs ++ flat_map f (events_of_effects es acts.0 acts.1 new after acts.4)) (silent_effect f silent e old before acts.1)
    ∙ silent_effects f silent es acts.0 new acts.1 after acts.4

-- if each turn tells what its events tell, so do all together
tell_over : {A : Type 0} (f : HostEvent → List A) (g : HostTurn → List A) → ((old : Host) (t : HostTurn) (new : Host) (h : Does old t new) → flat_map f (events_of old t new h) ≡ g t)
    → (turns : List HostTurn) (old new : Host) (run : DoesAll old turns new) → flat_map f (events_over old new turns run) ≡ flat_map g turns
tell_over f g each [] old new run = refl
tell_over f g each (t ∷ turns) old new run =
    flat_map-append f (events_of old t run.0 run.1) (events_over run.0 new turns run.2)
    ∙ ap (λ xs. xs ++ flat_map f (events_over run.0 new turns run.2)) (each old t run.0 run.1)
    ∙ ap (λ xs. g t ++ xs) (tell_over f g each turns run.0 new run.2)

silent_took : IsSilent took
silent_took = record { wrote = λ r v. refl; flushed = λ d. refl; stored = λ s. refl; rewrote = λ d r. refl }

silent_gave : IsSilent gave
silent_gave = record { wrote = λ r v. refl; flushed = λ d. refl; stored = λ s. refl; rewrote = λ d r. refl }

silent_put : IsSilent put
silent_put = record { wrote = λ r v. refl; flushed = λ d. refl; stored = λ s. refl; rewrote = λ d r. refl }

tell_taken : (old : Host) (t : HostTurn) (new : Host) (h : Does old t new) → flat_map took (events_of old t new h) ≡ taken_by t
tell_taken old (Ticked a) new h = silent_effects took silent_took (effects (sight_in old) old.driver) old.port new.port old.memory new.memory h.does
tell_taken old other new h = refl

tell_given : (old : Host) (t : HostTurn) (new : Host) (h : Does old t new) → flat_map gave (events_of old t new h) ≡ pushed_by t
tell_given old (Ticked a) new h = silent_effects gave silent_gave (effects (sight_in old) old.driver) old.port new.port old.memory new.memory h.does
tell_given old other new h = refl

tell_put : (old : Host) (t : HostTurn) (new : Host) (h : Does old t new) → flat_map put (events_of old t new h) ≡ put_by t
tell_put old (Ticked a) new h = silent_effects put silent_put (effects (sight_in old) old.driver) old.port new.port old.memory new.memory h.does
tell_put old other new h = refl

-- ---- each event that takes something takes a frame

framed_then : (es fs : List HostEvent) → AreFramed es → AreFramed fs → AreFramed (es ++ fs)
framed_then [] fs h k = k
framed_then (e ∷ es) fs h k = (h.0, framed_then es fs h.1 k)

framed_write : (o : Option WriteError) (r : Option Register) (value : ℕ) → AreFramed (match_some o (wrote_to r value) (λ e. []))
framed_write (Some e) r value = tt
framed_write None None value = tt
framed_write None (Some r) value = (tt, tt)

framed_effect : (e : Effect) (old : Port) (before after : Memory) → AreFramed (events_of_effect e old before after)
framed_effect (effect.Writes offset value) old before after = framed_write (write_refusal old before offset value) (register_at offset) value
framed_effect other old before after = (tt, tt)

framed_effects : (es : List Effect) (old new : Port) (before after : Memory) (acts : ActsAll es old before new after) → AreFramed (events_of_effects es old before new after acts)
unfolding ActsAll events_of_effects
framed_effects [] old new before after acts = tt
framed_effects (e ∷ es) old new before after acts =
    framed_then (events_of_effect e old before acts.1) (events_of_effects es acts.0 acts.1 new after acts.4) (framed_effect e old before acts.1) (framed_effects es acts.0 new acts.1 after acts.4)

framed_turn : (old : Host) (t : HostTurn) (new : Host) (h : Does old t new) → AreFramed (events_of old t new h)
framed_turn old (Took frame report) new h = (h.framed, tt)
framed_turn old (Ticked a) new h = framed_effects (effects (sight_in old) old.driver) old.port new.port old.memory new.memory h.does
framed_turn old (Polled c) new h = tt
framed_turn old other new h = (tt, tt)

pub framed_over : (turns : List HostTurn) (old new : Host) (run : DoesAll old turns new) → AreFramed (events_over old new turns run)
framed_over [] old new run = tt
framed_over (t ∷ turns) old new run =
    framed_then (events_of old t run.0 run.1) (events_over run.0 new turns run.2) (framed_turn old t run.0 run.1) (framed_over turns run.0 new run.2)

pub turns_are_events : TurnsAreEvents
turns_are_events mode old new turns run s =
    let g = good_turns turns old new run s in
    record { runs = g.runs; sound = record { hosts = g.hosts; frames = framed_over turns old new run } }

pub each_run_tells : EachRunTells
each_run_tells old new turns run = record {
  taken = tell_over took taken_by tell_taken turns old new run;
  given = tell_over gave pushed_by tell_given turns old new run;
  clients = tell_over put put_by tell_put turns old new run;
}
