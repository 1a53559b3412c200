-- For `hosts_stay_sound`. What a turn does to port and memory is a list of events.
use Rattle.std.proofs.Common.{◌≡◌, ℕ, ◌+◌, ◌*◌, ◌<◌, ◌≤◌, Bool, true, false, List, [], ◌∷◌, ◌++◌, length, take, drop, replicate, refl, sym, ◌∙◌, ap, subst, inl, inr, arith, Option, Some, None}
use Rattle.std.specs.{Prelude.{MatchOption, ◌%◌}, List.list_all}
use Rattle.std.proofs.lemmas.List.{ext_get_or, get_or-drop, get_or-take, length-drop, length-replicate, length-take}
use Rattle.host_memory.specs.{Memory.{IsHostMemory, Memory, overwritten}, Reading.AgreeFrom, declared.table.Prd.Prd}
use Rattle.host_memory.proofs.Door.{length-overwritten}
use Rattle.hba_commands.specs.Writing.{IsWritten}
use Rattle.fis_view.specs.declared.build.H2dFields.{H2dFields}
use Rattle.slots.specs.Slots.{match_some}
use Rattle.hba_fbs.specs.{declared.{error.WriteError.WriteError, register.Register.Register}, Offsets.register_at, Posting.area_at, Views.Port}
use Rattle.hba_fbs.specs.Writing.{Accepts, write_refusal}
use Rattle.hba_laws.specs.Hosts as event
use Rattle.hba_laws.specs.Hosts.{HostEvent, Runs}
use Rattle.hba_laws.specs.Sound as sound
use Rattle.hba_driver.specs.{declared.{effect.Effect.Effect, mode.Mode.Mode}, Effects.{Acts, ActsAll, IsRuled, Tries, is_effect, prds_with, table_of}}
use Rattle.hba_driver.specs.{Events.{events_of_effect, events_of_effects, wrote_to}, Between.{beside, calm_effect}}
use Rattle.hba_driver.specs.declared.effect.Effect.TheVariants as effect
use Rattle.hba_driver.proofs.events.DrivenLemmas.{SamePlace, place_effect, place_then, refusal_is, same_place}
use Rattle.hba_driver.proofs.requests.StandLemmas.{Same, both, few_prds, lt_of, same_written}

-- ---- lists of events that run

-- these events run, and each host among them is sound
pub record Good (a : event.Host) (es : List HostEvent) (b : event.Host) : Type 0 where
  pub runs : Runs a es b
  pub hosts : sound.AreHosts a b es runs

pub good_none : (a b : event.Host) → b ≡ a → sound.IsHost a → Good a [] b
good_none a b is host = record { runs = is; hosts = host }

pub good_one : (a : event.Host) (e : HostEvent) (b : event.Host) → event.Does a e b → sound.IsHost a → sound.IsHost b → Good a (e ∷ []) b
good_one a e b does first last = record { runs = (b, does, refl); hosts = (first, last) }

pub good_then : (es fs : List HostEvent) (a b c : event.Host) → Good a es b → Good b fs c → Good a (es ++ fs) c
good_then [] fs a b c g k = subst (λ (h : event.Host). Good h fs c) g.runs k
good_then (e ∷ es) fs a b c g k =
    let rest : Good g.runs.0 (es ++ fs) c = good_then es fs g.runs.0 b c (record { runs = g.runs.2; hosts = g.hosts.1 }) k in
    record { runs = (g.runs.0, g.runs.1, rest.runs); hosts = (g.hosts.0, rest.hosts) }

pub beside_same : (p q : Port) (m n : Memory) → q ≡ p → n ≡ m → beside q n ≡ beside p m
beside_same p q m n h k = rw (h, k) refl

pub sound_beside : (port : Port) (memory : Memory) → IsRuled port → IsHostMemory memory → sound.IsHost (beside port memory)
sound_beside port memory ruled is = record { port = ruled.rules; slots = ruled.table; errors = ruled.faults; memory = is }

-- ---- the structure area

pub area_same : (s t : List ℕ) → length s ≡ 1048576 → length t ≡ 1048576 → AgreeFrom 4096 4096 s t → area_at t 4096 ≡ area_at s 4096
area_same s t long same agree =
    let a = length-take 4096 (drop 4096 t) in
    let b = length-drop 4096 t in
    let c = length-take 4096 (drop 4096 s) in
    let d = length-drop 4096 s in
    ext_get_or 0 (take 4096 (drop 4096 t)) (take 4096 (drop 4096 s)) (omega (arith, a, b, c, d, long, same)) (λ i h.
    let below : i < 4096 = omega (arith, a, h) in
    get_or-take 4096 (drop 4096 t) i 0 below ∙ get_or-drop 4096 t i 0 ∙ sym (agree i below) ∙ sym (get_or-drop 4096 s i 0) ∙ sym (get_or-take 4096 (drop 4096 s) i 0 below))

-- a command is written beside the received area
pub beside_area : (slot : ℕ) (fields : H2dFields) (prds : List Prd) (old new : List ℕ) → length old ≡ 1048576 → slot < 32 → length prds ≤ 248 → IsWritten 0 slot (table_of slot) fields prds old new
    → Same 4096 4096 old new
beside_area slot fields prds old new long below few written =
    same_written 4096 4096 slot fields prds old new long below few (inr (omega (arith, below))) (inl (omega arith)) written

stores : (fb : ℕ) (old new : Memory) → fb ≡ 4096 → length old.structure ≡ 1048576 → Same 4096 4096 old.structure new.structure → new.client ≡ old.client → event.StoresStructure fb old new.structure new
stores fb old new at long same client = subst (λ (n : ℕ). event.StoresStructure n old new.structure new) (sym at) (record {
  as_long = same.long ∙ sym long;
  area = area_same old.structure new.structure long same.long same.agree;
  after = ap (λ (c : List ℕ). record { structure = new.structure; client = c }) client;
})

pub does_store : (old new : event.Host) → old.port.registers.fb ≡ 4096 → length old.memory.structure ≡ 1048576 → Same 4096 4096 old.memory.structure new.memory.structure → new.memory.client ≡ old.memory.client
    → new.port ≡ old.port → event.Does old (event.Stored new.memory.structure) new
does_store old new at long same client port = (stores old.port.registers.fb old.memory new.memory at long same client, port)

-- ---- the sizes of memory

pub sized : (m n : Memory) → IsHostMemory m → length n.structure ≡ length m.structure → length n.client ≡ length m.client → IsHostMemory n
sized m n is h k = record {
  structure_len = h ∙ is.structure_len;
  client_least = subst (λ (c : ℕ). 1048576 ≤ c) (sym k) is.client_least;
  client_most = subst (λ (c : ℕ). c ≤ 15728640) (sym k) is.client_most;
  client_even = ap (λ (c : ℕ). c % 2) k ∙ is.client_even;
}

pub same_sizes : (m n : Memory) → n ≡ m → IsHostMemory m → IsHostMemory n
same_sizes m n h is = subst IsHostMemory (sym h) is

pub sized_effect : (e : Effect) (old new : Port) (before after : Memory) → is_effect e ≡ true → Acts e old before new after → IsHostMemory before → IsHostMemory after
sized_effect (effect.Empties dev) old new before after is h m =
    let below : dev < 16 = lt_of dev 16 is in
    let row : List ℕ = replicate 256 0 in
    let long : length row ≡ 256 = length-replicate {A = ℕ} 256 0 in
    let room : 4096 + 256 * dev + length row ≤ length before.structure = omega (arith, long, below, m.structure_len) in
    let same : length (overwritten before.structure (4096 + 256 * dev) row) ≡ length before.structure = length-overwritten before.structure (4096 + 256 * dev) row room in
    sized before after m (ap (λ (x : Memory). length x.structure) h.1 ∙ same) (ap (λ (x : Memory). length x.client) h.1)
sized_effect (effect.Commands slot fields buffer) old new before after is h m =
    let long = (beside_area slot fields (prds_with buffer) before.structure after.structure m.structure_len (lt_of slot 32 is) (few_prds buffer) h.1.structure).long in
    sized before after m (long ∙ sym m.structure_len) (ap (λ (c : List ℕ). length c) h.1.client)
sized_effect other old new before after is h m = same_sizes before after h.1 m

-- ---- the events of an effect

good_write : (o : Option WriteError) (r : Option Register) (offset value : ℕ) (old new : Port) (before after : Memory) → write_refusal old before offset value ≡ o → register_at offset ≡ r
    → Tries old before offset value new → after ≡ before → sound.IsHost (beside old before) → sound.IsHost (beside new after)
    → Good (beside old before) (match_some o (wrote_to r value) (λ e. [])) (beside new after)
good_write (Some e) r offset value old new before after is at tries stays first last =
    good_none (beside old before) (beside new after) (beside_same old new before after (tries.refused e is) stays) first
good_write None None offset value old new before after is at tries stays first last =
    absurd (subst (λ (x : Option Register). MatchOption x ⊥ (λ (g : Register). Accepts old before g value new)) at (tries.accepted is))
good_write None (Some register) offset value old new before after is at tries stays first last =
    let accepts : Accepts old before register value new = subst (λ (x : Option Register). MatchOption x ⊥ (λ (g : Register). Accepts old before g value new)) at (tries.accepted is) in
    good_one (beside old before) (event.Wrote register value) (beside new after) (sym (refusal_is register offset value old before at) ∙ is, accepts, stays) first last

-- the received area must be the driver's
abbrev pub wants_area : Effect → Bool
wants_area (effect.Empties dev) = true
wants_area (effect.Commands slot fields buffer) = true
wants_area other = false

pub good_effect : (e : Effect) (old new : Port) (before after : Memory) → is_effect e ≡ true → (wants_area e ≡ true → old.registers.fb ≡ 4096) → IsHostMemory before → Acts e old before new after
    → sound.IsHost (beside old before) → sound.IsHost (beside new after) → Good (beside old before) (events_of_effect e old before after) (beside new after)
good_effect (effect.Writes offset value) old new before after is area m h first last =
    good_write (write_refusal old before offset value) (register_at offset) offset value old new before after refl refl h.0 h.1 first last
good_effect (effect.Flushes dev) old new before after is area m h first last = good_one (beside old before) (event.Flushed dev) (beside new after) h first last
good_effect (effect.Empties dev) old new before after is area m h first last =
    let below : dev < 16 = lt_of dev 16 is in
    let row : event.WritesRow old.registers.fb before dev (replicate 256 0) after =
    subst (λ (n : ℕ). event.WritesRow n before dev (replicate 256 0) after) (sym (area refl)) (record {
      dev_below = below;
      as_long = length-replicate {A = ℕ} 256 0;
      inside = omega (arith, below, m.structure_len);
      after = h.1;
    }) in
    good_one (beside old before) (event.Rewrote dev (replicate 256 0)) (beside new after) (row, h.0) first last
good_effect (effect.Commands slot fields buffer) old new before after is area m h first last =
    let same : Same 4096 4096 before.structure after.structure = beside_area slot fields (prds_with buffer) before.structure after.structure m.structure_len (lt_of slot 32 is) (few_prds buffer) h.1.structure in
    good_one (beside old before) (event.Stored after.structure) (beside new after) (does_store (beside old before) (beside new after) (area refl) m.structure_len same h.1.client h.0) first last

-- ---- the events of effects, one after another

-- what effects leave
pub record Left (mode : Mode) (old : Port) (new : Port) (after : Memory) : Type 0 where
  pub place : SamePlace mode old.registers new.registers
  pub sizes : IsHostMemory after

pub left_effects : (mode : Mode) (es : List Effect) (old new : Port) (before after : Memory) → list_all is_effect es ≡ true → list_all (calm_effect mode) es ≡ true → IsHostMemory before → ActsAll es old before new after → Left mode old new after
unfolding ActsAll
left_effects mode [] old new before after is quiet m h = record { place = same_place old.registers new.registers (ap (λ (p : Port). p.registers) h.0); sizes = same_sizes before after h.1 m }
left_effects mode (e ∷ es) old new before after is quiet m h =
    let effect_is = both (is_effect e) (list_all is_effect es) is in
    let calm_is = both (calm_effect mode e) (list_all (calm_effect mode) es) quiet in
    let rest : Left mode h.0 new after = left_effects mode es h.0 new h.1 after effect_is.1 calm_is.1 (sized_effect e old h.0 before h.1 effect_is.0 h.2 m) h.4 in
    record { place = place_then old.registers h.0.registers new.registers (place_effect mode e old h.0 before h.1 calm_is.0 h.2) rest.place; sizes = rest.sizes }

pub good_effects : (mode : Mode) (es : List Effect) (old new : Port) (before after : Memory) → list_all is_effect es ≡ true → list_all (calm_effect mode) es ≡ true → old.registers.fb ≡ 4096 → IsHostMemory before
    → (acts : ActsAll es old before new after) → IsRuled old → IsRuled new → Good (beside old before) (events_of_effects es old before new after acts) (beside new after)
unfolding ActsAll events_of_effects
good_effects mode [] old new before after is quiet at m h first last =
    good_none (beside old before) (beside new after) (beside_same old new before after h.0 h.1) (sound_beside old before first m)
good_effects mode (e ∷ es) old new before after is quiet at m h first last =
    let effect_is = both (is_effect e) (list_all is_effect es) is in
    let calm_is = both (calm_effect mode e) (list_all (calm_effect mode) es) quiet in
    let later : IsHostMemory h.1 = sized_effect e old h.0 before h.1 effect_is.0 h.2 m in
    let there : h.0.registers.fb ≡ 4096 = (place_effect mode e old h.0 before h.1 calm_is.0 h.2).area ∙ at in
    let one : Good (beside old before) (events_of_effect e old before h.1) (beside h.0 h.1) =
    good_effect e old h.0 before h.1 effect_is.0 (λ w. at) m h.2 (sound_beside old before first m) (sound_beside h.0 h.1 h.3 later) in
    let rest : Good (beside h.0 h.1) (events_of_effects es h.0 h.1 new after h.4) (beside new after) =
    good_effects mode es h.0 new h.1 after effect_is.1 calm_is.1 there later h.4 h.3 last in
    good_then (events_of_effect e old before h.1) (events_of_effects es h.0 h.1 new after h.4) (beside old before) (beside h.0 h.1) (beside new after) one rest
