-- For `turns_serve`. After the two acts that end a fault, everything that is issued is still the driver's.
use Rattle.std.proofs.Common.{◌≡◌, ◌≢◌, ℕ, ◌+◌, ◌*◌, ◌/◌, ◌<◌, ◌≤◌, Bool, true, false, ◌&&◌, nat_lt, List, [], ◌∷◌, ◌++◌, length, refl, sym, ◌∙◌, ap, subst, inl, inr, arith, Option, Some, None}
use Rattle.std.specs.{Prelude.{if◌then◌else◌, not, ◌%◌, ◌==◌}, List.list_all, Option.option_or}
use Rattle.std.proofs.lemmas.{Bool.{false≢true, lt-ltb, ne_eqb}, List.{length-map, length-set}, Nat.Bits.{bit_at-suc, bit_at_lowest}}
use Rattle.host_memory.specs.Memory.{IsHostMemory, Memory}
use Rattle.port_errors.specs.{declared.cause.Stop.Stop, Errors.{Errors, cleared_device, named_by, shown as errors_shown}}
use Rattle.slots.specs.Slots.{has_bit}
use Rattle.hba_fbs.specs.{Bits.{bit, dec, en}, declared.{register.Register.TheVariants.{Is, Cmd, Fbs}, registers.Registers.Registers}}
use Rattle.hba_fbs.specs.{Offsets.register_at, Reading.{fbs_errors, value_of}, Registers.{cmd_refusal, falls, own_refusal, running_if, written}}
use Rattle.hba_fbs.specs.{Views.Port, Writing.{Accepts, cleared_by, errors_after, slots_refusal, write_refusal}}
use Rattle.hba_laws.specs.{Client.{Stops, Touches, own}, Delivering.touched_by_clear, History.{Transfer, issued}, Hosts.HostEvent}
use Rattle.hba_laws.specs.Hosts as event
use Rattle.hba_laws.proofs.Door.{some_inj}
use Rattle.hba_driver.specs.declared.{mode.Mode.{Mode, TheVariants.{Switching, CommandBased}}, path.Path.Path, path.TaskFile.TaskFile, plan.Plan.Plan}
use Rattle.hba_driver.specs.{declared.request.Outcome.TheVariants.PortError, Seeing.Sight, declared.slot.Phase.TheVariants.{Aside, Ended}}
use Rattle.hba_driver.specs.{declared.turn.Act.Act, Drivers.{Driver, Entry, IsPath, entry_at, has_ended, rephase, rephase_all, rephased}}
use Rattle.hba_driver.specs.Effects.{Acts, ActsAll, IsRuled, clearing, effects_of, is_effect}
use Rattle.hba_driver.specs.{Events.{IsSoundHostIn, events_of_effect, events_of_effects}, HostTurns.{Host, sight_in}, Modes.is_switching}
use Rattle.hba_driver.specs.{Paths.reset_if_there, Sights.{faulty_in, px_cmd, px_fbs, px_is, shown, sight_of}}
use Rattle.hba_driver.specs.Ticks.{acted, cleared_plan, done_ended, effects_due, entries_after, from_reset, is_open, is_open_of, plan_after}
use Rattle.hba_driver.specs.{Ticks.{recovering, stopped_plan, turn}, Between.{Due, From, MayClear, MayEnd, MayStop, Runs, beside}}
use Rattle.hba_driver.specs.declared.effect.Effect.TheVariants as effect
use Rattle.hba_driver.specs.declared.turn.Act.TheVariants as act
use Rattle.hba_driver.proofs.{events.DrivenLemmas.not_below, ticks.DueLemmas.{due_turn, runs_turn}, events.EventLemmas.{same_sizes, sound_beside}}
use Rattle.hba_driver.proofs.requests.HistoryLemmas.{back_of}
use Rattle.hba_driver.proofs.ticks.LifeLemmas.{entry_of_rephased, keeps_set_aside, keeps_stopped, length_of_rephased}
use Rattle.hba_driver.proofs.issued.ServingLemmas.{Follows, Goes, first_goes, from_moves, not_flushed, taken_goes, write_goes}
use Rattle.hba_driver.proofs.issued.TickingLemmas.{IsOurs, Needs, act_goes, else_entry, last_goes, unless_back, unless_other, unless_path}

-- ---- the port is stopped

stopped : Driver → Driver
stopped d = record d { plan = stopped_plan d.plan; entries = rephase_all is_open (Ended PortError) d.entries }

none_path : (x : Path) {P : Type 0} → None ≡ Some x → P
none_path x h = cc

stopped_follows : (d : Driver) → Follows d (stopped d)
unfolding stopped
stopped_follows d = record {
  mode = refl;
  devices = length-map d.plan.devices reset_if_there;
  slots = length_of_rephased is_open (Ended PortError) d.entries;
  path = λ h. tt;
  asked = λ x here a. none_path x here;
  entries = λ s f here.
      let b = back_of (entry_at d.entries s) (entry_at (rephase_all is_open (Ended PortError) d.entries) s) (keeps_stopped d.entries s) f here in
      (b.0, b.1, b.2.same);
}

-- once ST has fallen, nothing is issued
none_issued : (b : Bool) (n s : ℕ) (t : Transfer) (past : Touches) {P : Type 0} → b ≡ true → issued s (own n ((if b then Stops ∷ [] else []) ++ past)) ≡ Some t → P
none_issued true n s t past on h = let bad : None ≡ Some t = h in cc
none_issued false n s t past on h = absurd (false≢true on)

pub stop_taken : (port : Port) (memory : Memory) → port.registers.receives ≡ true → write_refusal port memory px_cmd 131088 ≡ None
unfolding cmd_refusal own_refusal slots_refusal register_at
stop_taken port memory on = rw on refl

pub stop_act : (D d : Driver) (file : TaskFile) (fs : List HostEvent) (c : event.Host) (old new : Port) (before after : Memory) → MayStop old.registers → IsRuled old → IsHostMemory before
    → (acts : ActsAll (effect.Writes px_cmd 131088 ∷ []) old before new after) → Goes D (acted (Some act.Stops) file d) fs c (beside new after)
    → Goes D d (events_of_effects (effect.Writes px_cmd 131088 ∷ []) old before new after acts ++ fs) c (beside old before)
unfolding ActsAll events_of_effects plan_after entries_after register_at stopped
stop_act D d file fs c old new before after may ruled m acts go =
    let fall : falls old.registers 131088 ≡ true = ap (λ (b : Bool). b && not (has_bit 131088 0)) may.started in
    let rest : Goes D (stopped d) (events_of_effects [] acts.0 acts.1 new after acts.4 ++ fs) c (beside acts.0 acts.1) = last_goes D (stopped d) fs c acts.0 new acts.1 after acts.4 go in
    first_goes D d fs c (beside old before) (events_of_effect (effect.Writes px_cmd 131088) old before acts.1) (events_of_effects [] acts.0 acts.1 new after acts.4)
    (taken_goes D d (stopped d) (events_of_effects [] acts.0 acts.1 new after acts.4 ++ fs) c Cmd px_cmd 131088 old acts.0 before acts.1 refl (stop_taken old before may.receives) refl (stopped_follows d)
    (λ past n s t below here from. none_issued (falls old.registers 131088) n s t past fall here) (sound_beside old before ruled m) acts.2 rest)

-- ---- a device is cleared

set_aside : ℕ → TaskFile → Driver → Driver
set_aside dev file d = record d { plan = cleared_plan dev file d.plan; entries = rephase_all (is_open_of dev) Aside d.entries }

mode_if : (b : Bool) (dev : ℕ) (file : TaskFile) (plan : Plan) → (if b then recovering dev file plan else from_reset plan).mode ≡ plan.mode
mode_if true dev file plan = refl
mode_if false dev file plan = refl

devices_if : (b : Bool) (dev : ℕ) (file : TaskFile) (plan : Plan) → length (if b then recovering dev file plan else from_reset plan).devices ≡ length plan.devices
devices_if true dev file plan = length-set plan.devices dev _
devices_if false dev file plan = refl

path_if : (b : Bool) (dev : ℕ) (file : TaskFile) (plan : Plan) → IsPath plan.path → IsPath (if b then recovering dev file plan else from_reset plan).path
path_if true dev file plan h = unless_path dev plan.path h
path_if false dev file plan h = h

path_back : (b : Bool) (dev : ℕ) (file : TaskFile) (plan : Plan) (x : Path) → (if b then recovering dev file plan else from_reset plan).path ≡ Some x → plan.path ≡ Some x
path_back true dev file plan x h = unless_back dev plan.path x h
path_back false dev file plan x h = h

aside_follows : (dev : ℕ) (file : TaskFile) (d : Driver) → Follows d (set_aside dev file d)
unfolding set_aside
aside_follows dev file d = record {
  mode = mode_if (nat_lt dev 15) dev file d.plan;
  devices = devices_if (nat_lt dev 15) dev file d.plan;
  slots = length_of_rephased (is_open_of dev) Aside d.entries;
  path = λ h. path_if (nat_lt dev 15) dev file d.plan h;
  asked = λ x here a. inl (path_back (nat_lt dev 15) dev file d.plan x here);
  entries = λ s f here.
      let b = back_of (entry_at d.entries s) (entry_at (rephase_all (is_open_of dev) Aside d.entries) s) (keeps_set_aside dev d.entries s) f here in
      (b.0, b.1, b.2.same);
}

still_open : (dev s : ℕ) (d : Driver) (f : Entry) → entry_at d.entries s ≡ Some f → f.head.dev ≢ dev → entry_at (rephase_all (is_open_of dev) Aside d.entries) s ≡ Some f
still_open dev s d f here other =
    entry_of_rephased (is_open_of dev) Aside d.entries s ∙ ap (rephase (is_open_of dev s) Aside) here
    ∙ else_entry (is_open_of dev s f.head) (Some (rephased Aside f)) (Some f) (ap (λ (b : Bool). b && not (has_ended f.head)) (ne_eqb f.head.dev dev other))

other_path : (b : Bool) (dev : ℕ) (file : TaskFile) (plan : Plan) (x : Path) → x.dev ≢ dev → plan.path ≡ Some x → (if b then recovering dev file plan else from_reset plan).path ≡ Some x
other_path true dev file plan x other h = unless_other dev plan.path x other h
other_path false dev file plan x other h = h

-- What is issued to another device stays the driver's. An order is the control port's, and stays unless the
-- control port is the one that is cleared.
aside_moves : (dev : ℕ) (file : TaskFile) (d : Driver) (n s : ℕ) (t : Transfer) → dev < 16 → n ≢ dev → From d n s t → From (set_aside dev file d) n s t
unfolding set_aside
aside_moves dev file d n s t below other (inl r) =
    from_moves d (set_aside dev file d) n s t (λ f low here goes of_dev. still_open dev s d f here (λ same. other (sym of_dev ∙ same)))
    (λ is x here a of_dev. absurd (omega (arith, is, r.slot))) (λ is h. absurd (omega (arith, is, r.slot))) (inl r)
aside_moves dev file d n s t below other (inr (inl i)) =
    from_moves d (set_aside dev file d) n s t (λ f low here goes of_dev. absurd (omega (arith, low, i.slot)))
    (λ is x here a of_dev. other_path (nat_lt dev 15) dev file d.plan x (λ same. other (sym of_dev ∙ same)) here) (λ is h. absurd (omega (arith, is, i.slot))) (inr (inl i))
aside_moves dev file d n s t below other (inr (inr o)) =
    let less : dev < 15 = omega (arith, below, other, o.of_dev) in
    let stays : (if nat_lt dev 15 then recovering dev file d.plan else from_reset d.plan).asked ≡ d.plan.asked =
    ap (λ (b : Bool). (if b then recovering dev file d.plan else from_reset d.plan).asked) (lt-ltb dev 15 less) in
    inr (inr (record { slot = o.slot; of_dev = o.of_dev; goes = stays ∙ o.goes; table = o.table }))

-- the value has EN and DEC
pub has_en : (dev : ℕ) → has_bit (256 * dev + 3) en ≡ true
has_en dev = ap (λ (k : ℕ). k == 1) (bit_at_lowest (256 * dev + 3) ∙ odd dev)
  where
    odd : (d : ℕ) → (256 * d + 3) % 2 ≡ 1
    odd d = omega arith

has_dec : (dev : ℕ) → has_bit (256 * dev + 3) dec ≡ true
has_dec dev = ap (λ (k : ℕ). k == 1) (bit_at-suc (256 * dev + 3) 0 ∙ bit_at_lowest ((256 * dev + 3) / 2) ∙ odd dev)
  where
    odd : (d : ℕ) → (256 * d + 3) / 2 % 2 ≡ 1
    odd d = omega arith

not_running : (b : Bool) → option_or (running_if (b && false)) None ≡ None
not_running true = refl
not_running false = refl

pub clear_taken : (dev : ℕ) (port : Port) (memory : Memory) → port.registers.switching ≡ true → write_refusal port memory px_fbs (256 * dev + 3) ≡ None
unfolding own_refusal slots_refusal register_at
clear_taken dev port memory on = rw (has_en dev, on) (not_running port.registers.started)

pub only_cleared : (dev : ℕ) (errors : Errors) → cleared_device errors ≡ Some dev → cleared_by errors (256 * dev + 3) ≡ Some dev
only_cleared dev errors is = ap (λ (b : Bool). if b then cleared_device errors else None) (has_dec dev) ∙ is

-- the write of PxIS leaves that
pub may_then : (dev value : ℕ) (old new : Port) (memory : Memory) → Accepts old memory Is value new → MayClear dev old → MayClear dev new
unfolding written errors_after
may_then dev value old new memory accepts may = record {
  below = may.below;
  switches = ap (λ (r : Registers). r.switching) accepts.registers ∙ may.switches;
  faulty = ap cleared_device accepts.errors ∙ may.faulty;
}

pub is_accepted : (value : ℕ) (old new : Port) (before after : Memory) → Acts (effect.Writes px_is value) old before new after → Accepts old before Is value new
unfolding own_refusal slots_refusal register_at
is_accepted value old new before after acts = acts.0.accepted refl

pub clear_act : (D d : Driver) (file : TaskFile) (fs : List HostEvent) (c : event.Host) (dev : ℕ) (old new : Port) (before after : Memory) → MayClear dev old → IsRuled old → IsHostMemory before
    → (acts : ActsAll (clearing Switching dev) old before new after) → Goes D (acted (Some (act.Clears dev)) file d) fs c (beside new after)
    → Goes D d (events_of_effects (clearing Switching dev) old before new after acts ++ fs) c (beside old before)
unfolding ActsAll events_of_effects plan_after entries_after register_at set_aside
clear_act D d file fs c dev old new before after may ruled m acts go =
    let value : ℕ = 256 * dev + 3 in
    let next : MayClear dev acts.0 = may_then dev 1224736768 old acts.0 before (is_accepted 1224736768 old acts.0 before acts.1 acts.2) may in
    let m1 : IsHostMemory acts.1 = same_sizes before acts.1 acts.2.1 m in
    let mid : Port = acts.4.0 in
    let last : Memory = acts.4.1 in
    let ends : List HostEvent = events_of_effects [] mid last new after acts.4.4 in
    let third : Goes D (set_aside dev file d) (ends ++ fs) c (beside mid last) = last_goes D (set_aside dev file d) fs c mid new last after acts.4.4 go in
    let second : Goes D d ((events_of_effect (effect.Writes px_fbs value) acts.0 acts.1 last ++ ends) ++ fs) c (beside acts.0 acts.1) =
    first_goes D d fs c (beside acts.0 acts.1) (events_of_effect (effect.Writes px_fbs value) acts.0 acts.1 last) ends
    (taken_goes D d (set_aside dev file d) (ends ++ fs) c Fbs px_fbs value acts.0 mid acts.1 last refl (clear_taken dev acts.0 acts.1 next.switches) refl (aside_follows dev file d)
    (λ past n s t below here from.
    aside_moves dev file d n s t next.below
    (not_flushed n s dev t past (subst (λ (o : Option ℕ). issued s (own n (touched_by_clear o ++ past)) ≡ Some t) (only_cleared dev acts.0.errors next.faulty) here)) from)
    (sound_beside acts.0 acts.1 acts.3 m1) acts.4.2 third) in
    first_goes D d fs c (beside old before) (events_of_effect (effect.Writes px_is 1224736768) old before acts.1) (events_of_effect (effect.Writes px_fbs value) acts.0 acts.1 last ++ ends)
    (write_goes D d ((events_of_effect (effect.Writes px_fbs value) acts.0 acts.1 last ++ ends) ++ fs) c px_is 1224736768 old acts.0 before acts.1 refl (sound_beside old before ruled m) acts.2 second)

-- ---- the device that PxFBS shows

-- SDE, bit 2, and DWE, bits 19:16, beside EN, DEV and ADO
sde_at : (e c d : ℕ) → e ≤ 1 → (e + 256 * c + 61440 + (4 + 65536 * d)) / 2 / 2 % 2 ≡ 1
sde_at e c d h = omega (arith, h)

none_at : (e c : ℕ) → e ≤ 1 → (e + 256 * c + 61440) / 2 / 2 % 2 ≡ 0
none_at e c h = omega (arith, h)

dwe_at : (e c d : ℕ) → e ≤ 1 → c < 16 → d < 16 → (e + 256 * c + 61440 + (4 + 65536 * d)) / 65536 % 16 ≡ d
dwe_at e c d h k l = omega (arith, h, k, l)

bit_most : (b : Bool) → bit en b ≤ 1
bit_most true = omega arith
bit_most false = omega arith

-- bit 2 of a value
second_bit : (n k : ℕ) → n / 2 / 2 % 2 ≡ k → has_bit n 2 ≡ (k == 1)
second_bit n k h = ap (λ (m : ℕ). m == 1) (bit_at-suc n 1 ∙ bit_at-suc (n / 2) 0 ∙ bit_at_lowest (n / 2 / 2) ∙ h)

shows_none : (n dev : ℕ) {P : Type 0} → has_bit n 2 ≡ false → faulty_in n ≡ Some dev → P
shows_none n dev off h =
    let bad : None ≡ Some dev = sym (ap (λ (b : Bool). if b then Some (n / 65536 % 16) else None) off) ∙ h in
    cc

shows_some : (n x dev : ℕ) → has_bit n 2 ≡ true → n / 65536 % 16 ≡ x → faulty_in n ≡ Some dev → x ≡ dev
shows_some n x dev on is h =
    let named : Some (n / 65536 % 16) ≡ Some dev = sym (ap (λ (b : Bool). if b then Some (n / 65536 % 16) else None) on) ∙ h in
    sym is ∙ some_inj (n / 65536 % 16) dev named

-- with SDE 0 no device is shown
quiet_by : (on : Bool) (c dev : ℕ) {P : Type 0} → faulty_in (bit en on + 256 * c + 61440 + 0) ≡ Some dev → P
quiet_by on c dev h =
    let n : ℕ = bit en on + 256 * c + 61440 + 0 in
    let is : n ≡ bit en on + 256 * c + 61440 = omega arith in
    shows_none n dev (second_bit n 0 (ap (λ (m : ℕ). m / 2 / 2 % 2) is ∙ none_at (bit en on) c (bit_most on))) h

faulty_by : (on : Bool) (c : ℕ) (o : Option ℕ) (p : Option Stop) (dev : ℕ) → c < 16 → ((x : ℕ) → o ≡ Some x → x < 16)
    → faulty_in (bit en on + 256 * c + 61440 + fbs_errors (errors_shown o p)) ≡ Some dev → (named_by (errors_shown o p) ≡ Some dev) × (dev < 16)
faulty_by on c (Some x) None dev low below h =
    let n : ℕ = bit en on + 256 * c + 61440 + (4 + 65536 * x) in
    let is : x ≡ dev =
    shows_some n x dev (second_bit n 1 (sde_at (bit en on) c x (bit_most on))) (dwe_at (bit en on) c x (bit_most on) low (below x refl)) h in
    (ap Some is, subst (λ (k : ℕ). k < 16) is (below x refl))
faulty_by on c (Some x) (Some cause) dev low below h = quiet_by on c dev h
faulty_by on c None None dev low below h = quiet_by on c dev h
faulty_by on c None (Some cause) dev low below h = quiet_by on c dev h

-- what a tick sees of PxFBS is the device that DEC clears
none_faulty : (dev : ℕ) {P : Type 0} → None ≡ Some dev → P
none_faulty dev h = cc

faulty_is : (mode : Mode) (port : Port) (memory : Memory) (dev : ℕ) → IsRuled port → (sight_of mode port memory).faulty ≡ Some dev → (mode ≡ Switching) × ((cleared_device port.errors ≡ Some dev) × (dev < 16))
unfolding sight_of shown register_at value_of
faulty_is CommandBased port memory dev ruled h = none_faulty dev h
faulty_is Switching port memory dev ruled h = (
  refl,
  faulty_by port.registers.switching port.registers.chosen port.errors.reported port.errors.port dev ruled.rules.registers.chosen (λ x is. (ruled.faults.reported_is_marked x is).0) h,
)

-- PxFBS shows the device that is reported, if no fault of the port stands
pub faulty_reported : (port : Port) (memory : Memory) (x : ℕ) → IsRuled port → port.errors.port ≡ None → port.errors.reported ≡ Some x → (sight_of Switching port memory).faulty ≡ Some x
unfolding sight_of shown register_at value_of
faulty_reported port memory x ruled none is =
    let low : ℕ = bit en port.registers.switching + 256 * port.registers.chosen + 61440 in
    let n : ℕ = low + (4 + 65536 * x) in
    ap (λ (p : Option Stop). faulty_in (low + fbs_errors (errors_shown port.errors.reported p))) none
    ∙ ap (λ (o : Option ℕ). faulty_in (low + fbs_errors (errors_shown o None))) is
    ∙ ap (λ (b : Bool). if b then Some (n / 65536 % 16) else None) (second_bit n 1 (sde_at (bit en port.registers.switching) port.registers.chosen x (bit_most port.registers.switching)))
    ∙ ap (λ (k : ℕ). Some k)
    (dwe_at (bit en port.registers.switching) port.registers.chosen x (bit_most port.registers.switching) ruled.rules.registers.chosen (ruled.faults.reported_is_marked x is).0)

-- ---- each act

none_clears : {P : Type 0} → CommandBased ≡ Switching → P
none_clears h = cc

pub each_act : (D d : Driver) (v : Sight) (file : TaskFile) (fs : List HostEvent) (c : event.Host) (mode : Mode) (a : Option Act) (old new : Port) (before after : Memory) → MayEnd mode a old → Due v d.plan d.entries a → d.plan.mode ≡ mode → (Needs a → IsOurs mode old.registers) → IsRuled old → IsHostMemory before
    → list_all is_effect (effects_due mode a) ≡ true → (acts : ActsAll (effects_due mode a) old before new after) → Goes D (acted a file d) fs c (beside new after)
    → Goes D d (events_of_effects (effects_due mode a) old before new after acts ++ fs) c (beside old before)
unfolding effects_of
each_act D d v file fs c mode (Some act.Stops) old new before after may due drives ours ruled m is acts go = stop_act D d file fs c old new before after may ruled m acts go
each_act D d v file fs c Switching (Some (act.Clears dev)) old new before after may due drives ours ruled m is acts go = clear_act D d file fs c dev old new before after may.1 ruled m acts go
each_act D d v file fs c CommandBased (Some (act.Clears dev)) old new before after may due drives ours ruled m is acts go = none_clears may.0
each_act D d v file fs c mode other old new before after may due drives ours ruled m is acts go = act_goes D d v file fs c mode other old new before after refl due drives ours ruled m is acts go

-- ---- an act that ends a fault is due only while the port runs

may_of : (mode : Mode) (h : Host) (plan : Plan) (entries : List (Option Entry)) (a : Option Act) → IsSoundHostIn mode h → Due (sight_in h) plan entries a → Runs h.driver.plan a → MayEnd mode a h.port
may_of mode h plan entries (Some act.Stops) s due runs =
    let opened : 7 ≤ h.driver.plan.opened = not_below h.driver.plan.opened 7 runs.0 in
    record { receives = s.registers.receives (omega (arith, opened)); started = s.registers.starts opened (not_below h.driver.plan.restarted 2 runs.1) }
may_of mode h plan entries (Some (act.Clears dev)) s due runs =
    let shown_is = faulty_is h.driver.plan.mode h.port h.memory dev s.ruled due in
    let on : mode ≡ Switching = sym s.drives ∙ shown_is.0 in (
      on,
      record {
        below = shown_is.1.1;
        switches = s.registers.switches (omega (arith, not_below h.driver.plan.opened 7 runs.0)) ∙ ap is_switching on;
        faulty = shown_is.1.0;
      },
    )
may_of mode h plan entries other s due runs = tt

pub may_end : {mode : Mode} (h : Host) → IsSoundHostIn mode h → MayEnd mode (turn (sight_in h) h.driver).act h.port
may_end {mode} h s =
    let v : Sight = sight_in h in
    let done : List (Option Entry) = done_ended v.issued h.driver.entries in
    may_of mode h (turn v h.driver).plan done (turn v h.driver).act s (due_turn v h.driver.plan done) (runs_turn v h.driver.plan done)
