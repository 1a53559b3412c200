-- For `turns_serve`. After each effect of a tick, everything that is issued is still the driver's.
use Rattle.std.proofs.Common.{◌≡◌, ◌≢◌, ℕ, ◌+◌, ◌*◌, ◌^◌, ◌<◌, ◌⊎◌, Bool, true, false, cond, List, [], ◌∷◌, ◌++◌, length, replicate, refl, sym, ◌∙◌}
use Rattle.std.proofs.{Common.{ap, subst, inl, inr, arith, append_assoc, Option, Some, None}, lemmas.Bool.{cases_lt, eq-eqb, true≢false}}
use Rattle.std.proofs.lemmas.{List.length-replicate}
use Rattle.std.specs.Prelude.{MatchOption, is_some}
use Rattle.host_memory.specs.{Memory.{IsHostMemory, Memory}, Reading.LieApart, declared.table.Prd.Prd}
use Rattle.hba_commands.specs.{Headers.header_place, declared.command.Command.Command}
use Rattle.slots.specs.Slots.{Issue, issue_at, match_some}
use Rattle.fis_view.specs.declared.build.H2dFields.{H2dFields}
use Rattle.hba_fbs.specs.{declared.{error.WriteError.WriteError, register.Register.{Register, TheVariants.{Cmd, Ci, Fbs}}}, Issuing.{aimed, asked}}
use Rattle.hba_fbs.specs.{Offsets.register_at, Registers.falls, Tables.prds_of, Views.Port, Writing.{Accepts, cleared_by, commands_after}}
use Rattle.hba_fbs.specs.Writing.{write_refusal}
use Rattle.hba_laws.specs.{Client.{By, IsKept, Stops, Touches, own}, Delivering.{SparesTables, touched, touched_by_clear, touched_by_write}}
use Rattle.hba_laws.specs.{History.{Emptied, Transfer, issued}, Hosts.HostEvent, Between.{NoneIssues, NotIssue}}
use Rattle.hba_laws.specs.Hosts as event
use Rattle.hba_laws.specs.Sound as sound
use Rattle.hba_laws.proofs.Door.{clear_none, falls_none, the}
use Rattle.hba_driver.specs.{declared.{effect.Effect.Effect, path.Path.Path}, Drivers.{Driver, Entry, IsPath, entry_at, is_issued, rephased}}
use Rattle.hba_driver.specs.{Effects.{Acts, Tries, is_effect, prds_with, table_of}, Events.{events_of_effect, wrote_to}, Orders.request_fields}
use Rattle.hba_driver.specs.{declared.mode.Mode.Mode, Modes.is_switching, Served.{AreBounded, AreOfOne, HasCommand, HaveCommands, IsBounded}}
use Rattle.hba_driver.specs.{Served.{IsBuiltOf, IsFisOf, IsServed}, Between.{From, IsFree, beside}}
use Rattle.hba_driver.specs.declared.effect.Effect.TheVariants as effect
use Rattle.hba_driver.proofs.{events.{DrivenLemmas.refusal_is, EventLemmas.{beside_area, beside_same, does_store}}, issued.IssueLemmas.Rest}
use Rattle.hba_driver.proofs.issued.{IssueLemmas.{calm_event, command_stays, rest_then, spares_by, told_of}, IssuingLemmas.{MayIssue, Standing}}
use Rattle.hba_driver.proofs.{issued.IssuingLemmas.{ci_served, kept_below}, requests.StandLemmas.{Same, few_prds, header_area, in_slots, late, lt_of}}
use Rattle.hba_driver.proofs.requests.StandLemmas.{same_act, same_beside, same_written, table_area}

-- ---- the driver goes on

-- slot 30 has no command out
abbrev pub IsNoStep : Driver → Type 0
IsNoStep d = (x : Path) → d.plan.path ≡ Some x → x.asked ≡ true → ⊥

-- of each request only the phase may change
pub record Follows (d e : Driver) : Type 0 where
  pub mode : e.plan.mode ≡ d.plan.mode
  pub devices : length e.plan.devices ≡ length d.plan.devices
  pub slots : length e.entries ≡ length d.entries
  pub path : IsPath d.plan.path → IsPath e.plan.path
  -- a path whose command is out was there before, or slot 30 was free
  pub asked : (x : Path) → e.plan.path ≡ Some x → x.asked ≡ true → (d.plan.path ≡ Some x) ⊎ IsNoStep d
  pub entries : (s : ℕ) (f : Entry) → entry_at e.entries s ≡ Some f → (x : Entry) × (entry_at d.entries s ≡ Some x) × (f ≡ rephased f.head.phase x)

bounded_follows : (d e : Driver) → Follows d e → AreBounded d → AreBounded e
bounded_follows d e h b = record {
  devices = h.devices ∙ b.devices;
  path = h.path b.path;
  slots = h.slots ∙ b.slots;
  entries = λ s f here.
      let was = h.entries s f here in
      let x : IsBounded was.0 = b.entries s was.0 was.1 in
      let y : IsBounded (rephased f.head.phase was.0) = record { dev = x.dev; size = λ q. let z = x.size q in record { some = z.some; most = z.most; place = z.place }; few = x.few; beyond = x.beyond } in
      subst IsBounded (sym was.2) y;
}

command_rephased : (phase : Rattle.hba_driver.specs.declared.slot.Phase.Phase) (s : ℕ) (x : Entry) (m : Memory) → HasCommand s x m → HasCommand s (rephased phase x) m
unfolding request_fields
command_rephased phase s x m h = record { header = h.header; request = h.request; cfis = h.cfis; entries = h.entries }

built_rephased : (phase : Rattle.hba_driver.specs.declared.slot.Phase.Phase) (s : ℕ) (x : Entry) (t : Transfer) (command : Command) → IsBuiltOf (request_fields s x.head) t command
    → IsBuiltOf (request_fields s (rephased phase x).head) t command
unfolding request_fields
built_rephased phase s x t command h = record { cfis = h.cfis; work = h.work }

-- what goes out of slot 30 is the path's, so it was there before
step_stays : (d : Driver) (n s : ℕ) (t : Transfer) → IsNoStep d → s ≡ 30 → From d n s t → ⊥
step_stays d n s t none is (inl r) = absurd (omega (arith, is, r.slot))
step_stays d n s t none is (inr (inl i)) = none i.path i.goes i.asked
step_stays d n s t none is (inr (inr o)) = absurd (omega (arith, is, o.slot))

fis_moves : (d e : Driver) (n s : ℕ) (t : Transfer) (command : Command) → Follows d e → From d n s t → IsFisOf d n s t command → IsFisOf e n s t command
fis_moves d e n s t command follows from f = record {
  to_dev = f.to_dev;
  of_request = λ x below here.
      let was = follows.entries s x here in
      subst (λ (y : Entry). IsBuiltOf (request_fields s y.head) t command) (sym was.2) (built_rephased x.head.phase s was.0 t command (f.of_request was.0 below was.1));
  of_step = λ path fields is here a given. elim (follows.asked path here a) [
    | inl same ↦ f.of_step path fields is same a given
    | inr none ↦ absurd (step_stays d n s t none is from)
  ];
}

-- each issue stays one of the driver's
pub served_moves : (d e : Driver) (h : event.Host) (past : Touches) → Follows d e → ((n s : ℕ) (t : Transfer) → n < 16 → issued s (own n past) ≡ Some t → From d n s t → From e n s t) → IsServed d h past → IsServed e h past
served_moves d e h past follows moves served = record {
  told = served.told;
  bounded = bounded_follows d e follows served.bounded;
  commands = λ s f here.
      let was = follows.entries s f here in
      subst (λ (x : Entry). HasCommand s x h.memory) (sym was.2) (command_rephased f.head.phase s was.0 h.memory (served.commands s was.0 was.1));
  issues = λ n s t here.
      let i = served.issues n s t here in
      record { dev = i.dev; from = moves n s t i.dev here i.from; total = i.total; apart = i.apart };
  fises = λ n s t command here is. fis_moves d e n s t command follows (served.issues n s t here).from (served.fises n s t command here is);
  one = subst (λ (m : Mode). AreOfOne m past) (sym follows.mode) served.one;
  tables = served.tables;
}

pub from_moves : (d e : Driver) (n s : ℕ) (t : Transfer)
    → ((f : Entry) → s < 30 → entry_at d.entries s ≡ Some f → is_issued f.head ≡ true → f.head.dev ≡ n → entry_at e.entries s ≡ Some f)
    → (s ≡ 30 → (x : Path) → d.plan.path ≡ Some x → x.asked ≡ true → x.dev ≡ n → e.plan.path ≡ Some x) → (s ≡ 31 → d.plan.asked ≡ true → e.plan.asked ≡ true) → From d n s t → From e n s t
from_moves d e n s t entry step asks (inl r) =
    inl (record { slot = r.slot; entry = r.entry; stands = entry r.entry r.slot r.stands r.goes r.of_dev; of_dev = r.of_dev; goes = r.goes; table = r.table; reads = r.reads })
from_moves d e n s t entry step asks (inr (inl i)) =
    inr (inl (record { slot = i.slot; path = i.path; goes = step i.slot i.path i.goes i.asked i.of_dev; asked = i.asked; of_dev = i.of_dev; table = i.table }))
from_moves d e n s t entry step asks (inr (inr o)) = inr (inr (record { slot = o.slot; of_dev = o.of_dev; goes = asks o.slot o.goes; table = o.table }))

-- ---- what follows

-- if this holds for this driver and host, what follows serves
abbrev pub Goes : Driver → Driver → List HostEvent → event.Host → event.Host → Type 0
Goes D d fs c h = (past : Touches) → IsServed d h past → Rest D h fs c past

pub moves_goes : (D d e : Driver) (fs : List HostEvent) (c h : event.Host) → Follows d e → ((n s : ℕ) (t : Transfer) → From d n s t → From e n s t) → Goes D e fs c h → Goes D d fs c h
moves_goes D d e fs c h follows moves go past served = go past (served_moves d e h past follows (λ n s t below here from. moves n s t from) served)

-- ---- events that leave memory

spares_same : (a b : event.Host) → b.memory ≡ a.memory → SparesTables a b
spares_same a b is s command busy last = ap (λ (m : Memory). prds_of m command) is

-- ---- writes of registers

abbrev pub is_ci : Register → Bool
is_ci Ci = true
is_ci register = false

calm_write : (register : Register) (host : event.Host) (value : ℕ) → is_ci register ≡ false → NoneIssues (touched_by_write register host value)
unfolding NoneIssues
calm_write Cmd host value h = falls_none (falls host.port.registers value)
calm_write Ci host value h = absurd (true≢false h)
calm_write Fbs host value h = clear_none (cleared_by host.port.errors value)
calm_write other host value h = tt

kept_falls : (b : Bool) (past : Touches) → IsKept past → IsKept (cond b (Stops ∷ []) [] ++ past)
kept_falls true past k = k
kept_falls false past k = k

kept_clear : (o : Option ℕ) (past : Touches) → IsKept past → IsKept (touched_by_clear o ++ past)
kept_clear None past k = k
kept_clear (Some dev) past k = k

kept_write : (register : Register) (host : event.Host) (value : ℕ) (past : Touches) → IsKept past → IsKept (touched_by_write register host value ++ past)
kept_write Cmd host value past k = kept_falls (falls host.port.registers value) past k
kept_write Ci host value past k = kept_below (aimed host.port.registers host.memory.structure value) host.memory (asked host.port.registers host.memory value) past 32 k
kept_write Fbs host value past k = kept_clear (cleared_by host.port.errors value) past k
kept_write other host value past k = k

commands_calm : (register : Register) (old : Port) (memory : Memory) (value : ℕ) → is_ci register ≡ false → commands_after register old memory value ≡ old.commands
unfolding commands_after
commands_calm Ci old memory value h = absurd (true≢false h)
commands_calm other old memory value h = refl

accepts_at : (old new : Port) (before : Memory) (offset value : ℕ) (r : Option Register) → register_at offset ≡ r → Tries old before offset value new → write_refusal old before offset value ≡ None
    → MatchOption r ⊥ (λ (g : Register). Accepts old before g value new)
accepts_at old new before offset value r at tries is = subst (λ (x : Option Register). MatchOption x ⊥ (λ (g : Register). Accepts old before g value new)) at (tries.accepted is)

-- a write that issues nothing
write_by : (D d : Driver) (fs : List HostEvent) (c : event.Host) (o : Option WriteError) (r : Option Register) (offset value : ℕ) (old new : Port) (before after : Memory)
    → write_refusal old before offset value ≡ o → register_at offset ≡ r → MatchOption r (Unit {0}) (λ g. is_ci g ≡ false) → sound.IsHost (beside old before) → Tries old before offset value new → after ≡ before
    → Goes D d fs c (beside new after) → Goes D d (match_some o (wrote_to r value) (λ e. []) ++ fs) c (beside old before)
write_by D d fs c (Some e) r offset value old new before after is at calm host tries stays go =
    subst (λ (h : event.Host). Goes D d fs c h) (beside_same old new before after (tries.refused e is) stays) go
write_by D d fs c None None offset value old new before after is at calm host tries stays go = absurd (accepts_at old new before offset value None at tries is)
write_by D d fs c None (Some register) offset value old new before after is at calm host tries stays go = λ past served.
    let accepts : Accepts old before register value new = accepts_at old new before offset value (Some register) at tries is in
    let does : event.Does (beside old before) (event.Wrote register value) (beside new after) = (sym (refusal_is register offset value old before at) ∙ is, accepts, stays) in
    rest_then D (beside old before) (beside new after) c (event.Wrote register value) fs past does host (spares_same (beside old before) (beside new after) stays)
    (kept_write register (beside old before) value past)
    (go (touched_by_write register (beside old before) value ++ past)
    (calm_event d (beside old before) (beside new after) (event.Wrote register value) past host tt does (calm_write register (beside old before) value calm)
    (accepts.commands ∙ commands_calm register old before value calm) (subst (HaveCommands d) (sym stays) served.commands) served))

pub write_goes : (D d : Driver) (fs : List HostEvent) (c : event.Host) (offset value : ℕ) (old new : Port) (before after : Memory) → MatchOption (register_at offset) (Unit {0}) (λ g. is_ci g ≡ false)
    → sound.IsHost (beside old before) → Acts (effect.Writes offset value) old before new after → Goes D d fs c (beside new after)
    → Goes D d (events_of_effect (effect.Writes offset value) old before after ++ fs) c (beside old before)
write_goes D d fs c offset value old new before after calm host acts go =
    write_by D d fs c (write_refusal old before offset value) (register_at offset) offset value old new before after refl refl calm host acts.0 acts.1 go

-- A write that the port takes, that issues nothing, and after which the driver is another. What follows is
-- asked for the past with only the touches of this write.
taken_here : (D d e : Driver) (fs : List HostEvent) (c : event.Host) (register : Register) (offset value : ℕ) (old new : Port) (before after : Memory) → register_at offset ≡ Some register
    → write_refusal old before offset value ≡ None → is_ci register ≡ false → Follows d e
    → ((past : Touches) (n s : ℕ) (t : Transfer) → n < 16 → issued s (own n (touched_by_write register (beside old before) value ++ past)) ≡ Some t → From d n s t → From e n s t)
    → sound.IsHost (beside old before) → Acts (effect.Writes offset value) old before new after → Goes D e fs c (beside new after) → Goes D d (event.Wrote register value ∷ fs) c (beside old before)
taken_here D d e fs c register offset value old new before after at is calm follows moves host acts go = λ past served.
    let accepts : Accepts old before register value new = accepts_at old new before offset value (Some register) at acts.0 is in
    let does : event.Does (beside old before) (event.Wrote register value) (beside new after) = (sym (refusal_is register offset value old before at) ∙ is, accepts, acts.1) in
    let touches : Touches = touched_by_write register (beside old before) value in
    let later : IsServed d (beside new after) (touches ++ past) =
    calm_event d (beside old before) (beside new after) (event.Wrote register value) past host tt does (calm_write register (beside old before) value calm)
    (accepts.commands ∙ commands_calm register old before value calm) (subst (HaveCommands d) (sym acts.1) served.commands) served in
    rest_then D (beside old before) (beside new after) c (event.Wrote register value) fs past does host (spares_same (beside old before) (beside new after) acts.1)
    (kept_write register (beside old before) value past)
    (go (touches ++ past) (served_moves d e (beside new after) (touches ++ past) follows (λ n s t below here from. moves past n s t below here from) later))

pub taken_goes : (D d e : Driver) (fs : List HostEvent) (c : event.Host) (register : Register) (offset value : ℕ) (old new : Port) (before after : Memory) → register_at offset ≡ Some register
    → write_refusal old before offset value ≡ None → is_ci register ≡ false → Follows d e
    → ((past : Touches) (n s : ℕ) (t : Transfer) → n < 16 → issued s (own n (touched_by_write register (beside old before) value ++ past)) ≡ Some t → From d n s t → From e n s t)
    → sound.IsHost (beside old before) → Acts (effect.Writes offset value) old before new after → Goes D e fs c (beside new after)
    → Goes D d (events_of_effect (effect.Writes offset value) old before after ++ fs) c (beside old before)
taken_goes D d e fs c register offset value old new before after at is calm follows moves host acts go =
    subst (λ (o : Option WriteError). Goes D d (match_some o (wrote_to (register_at offset) value) (λ x. []) ++ fs) c (beside old before)) (sym is)
    (subst (λ (r : Option Register). Goes D d (wrote_to r value ++ fs) c (beside old before)) (sym at)
    (taken_here D d e fs c register offset value old new before after at is calm follows moves host acts go))

-- the write of PxCI that issues the command in a slot
ci_by : (D d : Driver) (fs : List HostEvent) (c : event.Host) (o : Option WriteError) (offset slot dev : ℕ) (prds : List Prd) (fields : H2dFields) (old new : Port) (before after : Memory)
    → slot < 32 → dev < 16 → old.registers.clb ≡ 0 → old.registers.switching ≡ is_switching d.plan.mode → Standing slot dev prds fields before → MayIssue d slot dev prds fields
    → write_refusal old before offset (2 ^ slot) ≡ o → register_at offset ≡ Some Ci → sound.IsHost (beside old before) → Tries old before offset (2 ^ slot) new → after ≡ before
    → Goes D d fs c (beside new after) → Goes D d (match_some o (wrote_to (Some Ci) (2 ^ slot)) (λ e. []) ++ fs) c (beside old before)
ci_by D d fs c (Some e) offset slot dev prds fields old new before after below dev_below list on stands may is at host tries stays go =
    subst (λ (h : event.Host). Goes D d fs c h) (beside_same old new before after (tries.refused e is) stays) go
ci_by D d fs c None offset slot dev prds fields old new before after below dev_below list on stands may is at host tries stays go = λ past served.
    let accepts : Accepts old before Ci (2 ^ slot) new = accepts_at old new before offset (2 ^ slot) (Some Ci) at tries is in
    let does : event.Does (beside old before) (event.Wrote Ci (2 ^ slot)) (beside new after) = (sym (refusal_is Ci offset (2 ^ slot) old before at) ∙ is, accepts, stays) in
    rest_then D (beside old before) (beside new after) c (event.Wrote Ci (2 ^ slot)) fs past does host (spares_same (beside old before) (beside new after) stays)
    (kept_write Ci (beside old before) (2 ^ slot) past)
    (go (touched (beside old before) (event.Wrote Ci (2 ^ slot)) ++ past)
    (ci_served d (beside old before) (beside new after) past slot dev prds fields below dev_below host list on stands may does served))

pub ci_goes : (D d : Driver) (fs : List HostEvent) (c : event.Host) (offset slot dev : ℕ) (prds : List Prd) (fields : H2dFields) (old new : Port) (before after : Memory)
    → slot < 32 → dev < 16 → old.registers.clb ≡ 0 → old.registers.switching ≡ is_switching d.plan.mode → Standing slot dev prds fields before → MayIssue d slot dev prds fields → register_at offset ≡ Some Ci → sound.IsHost (beside old before)
    → Acts (effect.Writes offset (2 ^ slot)) old before new after → Goes D d fs c (beside new after)
    → Goes D d (events_of_effect (effect.Writes offset (2 ^ slot)) old before after ++ fs) c (beside old before)
ci_goes D d fs c offset slot dev prds fields old new before after below dev_below list on stands may at host acts go =
    subst (λ (r : Option Register). Goes D d (match_some (write_refusal old before offset (2 ^ slot)) (wrote_to r (2 ^ slot)) (λ e. []) ++ fs) c (beside old before)) (sym at)
    (ci_by D d fs c (write_refusal old before offset (2 ^ slot)) offset slot dev prds fields old new before after below dev_below list on stands may refl at host acts.0 acts.1 go)

-- ---- a device is flushed

pub not_flushed : (n s dev : ℕ) (t : Transfer) (past : Touches) → issued s (own n (By dev Emptied ∷ past)) ≡ Some t → n ≢ dev
not_flushed n s dev t past h same =
    let own_is : own n (By dev Emptied ∷ past) ≡ Emptied ∷ own n past = ap (λ b. cond b (Emptied ∷ own n past) (own n past)) (eq-eqb dev n (sym same)) in
    let bad : None ≡ Some t = ap (issued s) (sym own_is) ∙ h in
    cc

pub flush_goes : (D d e : Driver) (fs : List HostEvent) (c : event.Host) (dev : ℕ) (old new : Port) (before after : Memory) → Follows d e → ((n s : ℕ) (t : Transfer) → n ≢ dev → From d n s t → From e n s t)
    → sound.IsHost (beside old before) → Acts (effect.Flushes dev) old before new after → Goes D e fs c (beside new after)
    → Goes D d (events_of_effect (effect.Flushes dev) old before after ++ fs) c (beside old before)
unfolding NoneIssues NotIssue
flush_goes D d e fs c dev old new before after follows moves host acts go past served =
    let flushed : IsServed d (beside new after) (By dev Emptied ∷ past) =
    calm_event d (beside old before) (beside new after) (event.Flushed dev) past host tt acts (tt, tt) acts.0.commands (subst (HaveCommands d) (sym acts.1) served.commands) served in
    rest_then D (beside old before) (beside new after) c (event.Flushed dev) fs past acts host (spares_same (beside old before) (beside new after) acts.1) (λ k. k)
    (go (By dev Emptied ∷ past) (served_moves d e (beside new after) (By dev Emptied ∷ past) follows (λ n s t below here from. moves n s t (not_flushed n s dev t past here) from) flushed))

-- ---- the structure area is written

-- what requests wrote is beside the driver's own commands and the received area
stands_act : (d : Driver) (e : Effect) (old new : Port) (before after : Memory) → AreBounded d → is_effect e ≡ true → late e ≡ true → IsHostMemory before → Acts e old before new after → HaveCommands d before → HaveCommands d after
stands_act d e old new before after bounded is l m acts h s x here =
    let below : s < 30 = in_slots d.entries s x bounded.slots here in
    let header : Same (header_place 0 s) 32 before.structure after.structure = same_act (header_place 0 s) 32 (header_area s below).own e old new before after is l acts m.structure_len in
    let table : Same (table_of s) 4096 before.structure after.structure = same_act (table_of s) 4096 (table_area s below).own e old new before after is l acts m.structure_len in
    command_stays s x before after (header.long ∙ sym m.structure_len) (bounded.entries s x here).few (record { header = header.agree; table = table.agree }) (h s x here)

-- a row of the received area is emptied
pub empties_goes : (D d : Driver) (fs : List HostEvent) (c : event.Host) (dev : ℕ) (old new : Port) (before after : Memory) → dev < 16 → is_effect (effect.Empties dev) ≡ true → old.registers.fb ≡ 4096
    → sound.IsHost (beside old before) → Acts (effect.Empties dev) old before new after → Goes D d fs c (beside new after)
    → Goes D d (events_of_effect (effect.Empties dev) old before after ++ fs) c (beside old before)
unfolding NoneIssues
empties_goes D d fs c dev old new before after below is area host acts go past served =
    let m : IsHostMemory before = host.memory in
    let row : event.WritesRow old.registers.fb before dev (replicate 256 0) after =
    subst (λ (n : ℕ). event.WritesRow n before dev (replicate 256 0) after) (sym area) (record {
      dev_below = below;
      as_long = length-replicate {A = ℕ} 256 0;
      inside = omega (arith, below, m.structure_len);
      after = acts.1;
    }) in
    let does : event.Does (beside old before) (event.Rewrote dev (replicate 256 0)) (beside new after) = (row, acts.0) in
    let same : (s : ℕ) → Same (table_of s) 4096 before.structure after.structure =
    λ s. subst (λ (x : Memory). Same (table_of s) 4096 before.structure x.structure) (sym acts.1)
    (same_beside (table_of s) 4096 before.structure (4096 + 256 * dev) (replicate 256 0) 256 m.structure_len (omega (arith, length-replicate {A = ℕ} 256 0)) (omega (arith, below)) (inr (omega (arith, below)))) in
    rest_then D (beside old before) (beside new after) c (event.Rewrote dev (replicate 256 0)) fs past does host
    (spares_by d (beside old before) (beside new after) past served ((same 0).long ∙ sym m.structure_len) (λ s busy. (same s).agree)) (λ k. k)
    (go past (calm_event d (beside old before) (beside new after) (event.Rewrote dev (replicate 256 0)) past host tt does tt (ap (λ (p : Port). p.commands) acts.0)
    (stands_act d (effect.Empties dev) old new before after served.bounded is refl m acts served.commands) served))

pub not_busy : (d : Driver) (h : event.Host) (past : Touches) (slot s : ℕ) → sound.IsHost h → IsServed d h past → IsFree d slot → is_some (issue_at h.port.slots s) ≡ true → s ≢ slot
not_busy d h past slot s host served free busy same =
    let i : (i : Issue) × (issue_at h.port.slots s ≡ Some i) = the (issue_at h.port.slots s) busy in
    let t = told_of h past host.slots served.told s i.0 i.1 in
    free i.0.dev t.0 (subst (λ (k : ℕ). From d i.0.dev k t.0) same (served.issues i.0.dev s t.0 t.1).from)

pub beside_table : (s slot : ℕ) → s ≢ slot → LieApart (table_of s) 4096 (table_of slot) 4096
beside_table s slot other = elim (cases_lt s slot) [ inl less ↦ inl (omega (arith, less)) | inr more ↦ inr (omega (arith, more, other)) ]

-- a command of the driver's own is written into its free slot
pub command_goes : (D d : Driver) (fs : List HostEvent) (c : event.Host) (slot : ℕ) (fields : H2dFields) (buffer : Bool) (old new : Port) (before after : Memory)
    → is_effect (effect.Commands slot fields buffer) ≡ true → late (effect.Commands slot fields buffer) ≡ true → old.registers.fb ≡ 4096 → IsFree d slot
    → sound.IsHost (beside old before) → Acts (effect.Commands slot fields buffer) old before new after → Goes D d fs c (beside new after)
    → Goes D d (events_of_effect (effect.Commands slot fields buffer) old before after ++ fs) c (beside old before)
unfolding NoneIssues
command_goes D d fs c slot fields buffer old new before after is l area free host acts go past served =
    let m : IsHostMemory before = host.memory in
    let below : slot < 32 = lt_of slot 32 is in
    let rows = beside_area slot fields (prds_with buffer) before.structure after.structure m.structure_len below (few_prds buffer) acts.1.structure in
    let does : event.Does (beside old before) (event.Stored after.structure) (beside new after) = does_store (beside old before) (beside new after) area m.structure_len rows acts.1.client acts.0 in
    rest_then D (beside old before) (beside new after) c (event.Stored after.structure) fs past does host
    (spares_by d (beside old before) (beside new after) past served (rows.long ∙ sym m.structure_len) (λ s busy.
    (same_written (table_of s) 4096 slot fields (prds_with buffer) before.structure after.structure m.structure_len below (few_prds buffer) (inr (omega (arith, below)))
    (beside_table s slot (not_busy d (beside old before) past slot s host served free busy)) acts.1.structure).agree)) (λ k. k)
    (go past (calm_event d (beside old before) (beside new after) (event.Stored after.structure) past host tt does tt (ap (λ (p : Port). p.commands) acts.0)
    (stands_act d (effect.Commands slot fields buffer) old new before after served.bounded is l m acts served.commands) served))

-- ---- one effect after another

pub first_goes : (D d : Driver) (fs : List HostEvent) (c h : event.Host) (xs ys : List HostEvent) → Goes D d (xs ++ (ys ++ fs)) c h → Goes D d ((xs ++ ys) ++ fs) c h
first_goes D d fs c h xs ys go = subst (λ (l : List HostEvent). Goes D d l c h) (sym (append_assoc xs ys fs)) go
