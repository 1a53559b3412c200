-- For `devices_are_apart`. What an act leaves of the view of a device: everything, except for a command of its own in
-- slot 30.
use Rattle.std.proofs.Common.{◌≡◌, ◌≢◌, ℕ, ◌+◌, ◌*◌, ◌^◌, ◌<◌, ◌≤◌, Bool, true, false, List, [], length, refl, sym, ◌∙◌, ap, subst, inl, inr, arith, Option, Some, None}
use Rattle.std.specs.{Prelude.if◌then◌else◌, Option.option_or}
use Rattle.std.proofs.lemmas.{Bool.{cases_lt, eq-eqb, ne_eqb}, List.get_or_past, List.FromFn.{get_or-map-range_with_len, length-map-range_with_len}}
use Rattle.fis_view.specs.{Built.{IsBuilt, h2d_given}, Table.H2d, declared.build.H2dFields.H2dFields}
use Rattle.host_memory.specs.{Memory.{IsHostMemory, Memory}, Place.total_of}
use Rattle.hba_commands.specs.{declared.command.Command.Command, Commands.{cfis_at, is_proper}, Requests.{request_of, work_of}}
use Rattle.hba_commands.specs.Writing.{header_for, total_if_usable}
use Rattle.port_errors.specs.Errors.{cleared_device}
use Rattle.slots.specs.Slots.{Issue, issue_at, match_some, new_issue, own_issue, slots_of}
use Rattle.hba_fbs.specs.declared.{register.Register.{Register, TheVariants.{Is, Sact, Ci, Fbs}}, registers.Registers.Registers}
use Rattle.hba_fbs.specs.{Issuing.{aimed, asked, commands_with}, Offsets.register_at, Registers.written}
use Rattle.hba_fbs.specs.Views.{DeviceView, Port, last_command, stopped_view, view_of}
use Rattle.hba_fbs.specs.Writing.{Accepts, commands_after, errors_after, refusal_of, view_after, view_cleared}
use Rattle.hba_fbs.proofs.Door.{aimed_chosen}
use Rattle.hba_laws.proofs.Door.{own_in, some_inj}
use Rattle.hba_driver.specs.declared.effect.Effect.TheVariants as effect
use Rattle.hba_driver.specs.declared.{mode.Mode.TheVariants.Switching, order.Order.{Order, TheVariants.{Scan, Clear}}}
use Rattle.hba_driver.specs.declared.path.Stage.{Stage, TheVariants.{Identify, ReadLog, AssertReset, ReleaseReset, AwaitReset}}
use Rattle.hba_driver.specs.Effects.{Acts, ActsAll, IsRuled, clearing, issuing, order_effects, prds_with, sending, stage_effects, table_of}
use Rattle.hba_driver.specs.{Orders.{control, identify_fields, log_fields, order_fields}, Paths.{reads_page, stage_fields}}
use Rattle.hba_driver.specs.{Sights.{px_ci, px_fbs, px_is, px_sact}, Between.{IsUp, Issues30}}
use Rattle.hba_driver.proofs.accepted.AcceptLemmas.{buffer_usable, control_proper, identify_proper, log_proper, small_dev}
use Rattle.hba_driver.proofs.{events.DrivenLemmas.tried_at, issued.EndingLemmas.{clear_taken, is_accepted, only_cleared}, events.OpenLemmas.taken}
use Rattle.hba_driver.proofs.accepted.UpLemmas.{Placed, Ready, asks, ci_step, ci_taken, command_placed, fbs_step, no_bit, same_free, sntf_step}

-- ---- what leaves the view

write_view : (n : ℕ) (g : Register) (offset value : ℕ) (old new : Port) (before after : Memory) → n < 16 → register_at offset ≡ Some g → view_after g old before value n ≡ view_of n old → Acts (effect.Writes offset value) old before new after → view_of n new ≡ view_of n old
write_view n g offset value old new before after low at same acts = elim (tried_at g offset value old before new at acts.0) [
  | inl taken ↦ taken.accepts.views n low ∙ same
  | inr refused ↦ ap (view_of n) refused.stays
]

-- the port switches between devices, and PxFBS.DEV names this one
abbrev Chooses : ℕ → Port → Type 0
Chooses dev port = (port.registers.switching ≡ true) × (port.registers.chosen ≡ dev)

sact_chosen : (value dev : ℕ) (old new : Port) (before after : Memory) → Acts (effect.Writes px_sact value) old before new after → Chooses dev old → Chooses dev new
unfolding written register_at
sact_chosen value dev old new before after acts is = elim (tried_at Sact px_sact value old before new refl acts.0) [
  | inl taken ↦ (ap (λ (r : Registers). r.switching) taken.accepts.registers ∙ is.0, ap (λ (r : Registers). r.chosen) taken.accepts.registers ∙ is.1)
  | inr refused ↦ (ap (λ (p : Port). p.registers.switching) refused.stays ∙ is.0, ap (λ (p : Port). p.registers.chosen) refused.stays ∙ is.1)
]

ci_view : (n slot dev : ℕ) (old new : Port) (before after : Memory) → n < 16 → dev ≢ n → Chooses dev old → Acts (effect.Writes px_ci (2 ^ slot)) old before new after → view_of n new ≡ view_of n old
unfolding view_after register_at
ci_view n slot dev old new before after low other is acts =
    let to : aimed old.registers before.structure (2 ^ slot) ≡ dev = aimed_chosen old.registers before.structure (2 ^ slot) is.0 ∙ is.1 in
    write_view n Ci px_ci (2 ^ slot) old new before after low refl
    (ap (λ (b : Bool). if b then Rattle.hba_fbs.specs.Issuing.view_issued old.registers before (2 ^ slot) (view_of n old) else view_of n old) (ne_eqb n (aimed old.registers before.structure (2 ^ slot)) (λ same. other (sym (same ∙ to))))) acts

-- commands of another device
pub issuing_view : (n slot dev : ℕ) (queued : Bool) (old new : Port) (before after : Memory) → n < 16 → dev < 16 → dev ≢ n → IsUp old.registers → ActsAll (issuing Switching slot dev queued) old before new after → view_of n new ≡ view_of n old
unfolding ActsAll view_after register_at
issuing_view n slot dev false old new before after low below other up acts =
    let f = fbs_step dev old acts.0 before acts.1 below up acts.2 in
    ap (view_of n) acts.4.4.0 ∙ ci_view n slot dev acts.0 acts.4.0 acts.1 acts.4.1 low other (f.0.up.switches, f.1) acts.4.2 ∙ f.0.views n low
issuing_view n slot dev true old new before after low below other up acts =
    let f = fbs_step dev old acts.0 before acts.1 below up acts.2 in
    let chosen : Chooses dev acts.4.0 = sact_chosen (2 ^ slot) dev acts.0 acts.4.0 acts.1 acts.4.1 acts.4.2 (f.0.up.switches, f.1) in
    ap (view_of n) acts.4.4.4.0 ∙ ci_view n slot dev acts.4.0 acts.4.4.0 acts.4.1 acts.4.4.1 low other chosen acts.4.4.2
    ∙ write_view n Sact px_sact (2 ^ slot) acts.0 acts.4.0 acts.1 acts.4.1 low refl refl acts.4.2 ∙ f.0.views n low

pub sending_view : (n slot dev : ℕ) (o : Option H2dFields) (buffer : Bool) (old new : Port) (before after : Memory) → n < 16 → dev < 16 → dev ≢ n → IsUp old.registers → ActsAll (match_some o [] (λ f. sending Switching slot dev f buffer)) old before new after
    → view_of n new ≡ view_of n old
unfolding ActsAll
sending_view n slot dev None buffer old new before after low below other up acts = ap (view_of n) acts.0
sending_view n slot dev (Some f) buffer old new before after low below other up acts =
    issuing_view n slot dev false acts.0 new acts.1 after low below other (subst (λ (p : Port). IsUp p.registers) (sym acts.2.0) up) acts.4 ∙ ap (view_of n) acts.2.0

-- an order that does not flush it
pub order_view : (n : ℕ) (order : Order) (old new : Port) (before after : Memory) → n < 15 → order ≢ Clear n → IsUp old.registers → ActsAll (order_effects Switching order) old before new after → view_of n new ≡ view_of n old
unfolding order_effects ActsAll
order_view n Scan old new before after low other up acts =
    let s = sntf_step old acts.0 before acts.1 up acts.2 in
    sending_view n 31 15 (order_fields Scan) false acts.0 new acts.1 after (omega (arith, low)) (omega arith) (λ same. omega (arith, low, same)) s.0.up acts.4 ∙ s.0.views n (omega (arith, low))
order_view n (Clear port) old new before after low other up acts =
    sending_view n 31 15 (order_fields (Clear port)) false acts.4.0 new acts.4.1 after (omega (arith, low)) (omega arith) (λ same. omega (arith, low, same))
    (subst (λ (p : Port). IsUp p.registers) (sym acts.4.2.0) (subst IsUp (sym acts.2.0.registers) up)) acts.4.4
    ∙ ap (view_of n) acts.4.2.0 ∙ acts.2.0.others n (λ same. other (ap Clear (sym same)))
order_view n order old new before after low other up acts = sending_view n 31 15 (order_fields order) false old new before after (omega (arith, low)) (omega arith) (λ same. omega (arith, low, same)) up acts

-- ---- a fault is cleared

errors_same : (value : ℕ) (old new : Port) (before after : Memory) → Acts (effect.Writes px_is value) old before new after → new.errors ≡ old.errors
unfolding errors_after
errors_same value old new before after acts = (is_accepted value old new before after acts).errors

pub clearing_view : (n dev : ℕ) (old new : Port) (before after : Memory) → n < 16 → dev ≢ n → cleared_device old.errors ≡ Some dev → ActsAll (clearing Switching dev) old before new after → view_of n new ≡ view_of n old
unfolding ActsAll view_after register_at
clearing_view n dev old new before after low other is acts =
    let errors : acts.0.errors ≡ old.errors = errors_same 0x49000000 old acts.0 before acts.1 acts.2 in
    ap (view_of n) acts.4.4.0
    ∙ write_view n Fbs px_fbs (256 * dev + 3) acts.0 acts.4.0 acts.1 acts.4.1 low refl
    (ap (λ (o : Option ℕ). view_cleared n o (view_of n acts.0)) (only_cleared dev acts.0.errors (ap cleared_device errors ∙ is)) ∙ ap (λ (b : Bool). if b then stopped_view (view_of n acts.0) else view_of n acts.0) (ne_eqb dev n other)) acts.4.2
    ∙ write_view n Is px_is 0x49000000 old acts.0 before acts.1 low refl refl acts.2

pub clearing_own_view : (n : ℕ) (old new : Port) (before after : Memory) → n < 16 → old.registers.switching ≡ true → cleared_device old.errors ≡ Some n → ActsAll (clearing Switching n) old before new after → view_of n new ≡ stopped_view (view_of n old)
unfolding ActsAll view_after register_at written
clearing_own_view n old new before after low on is acts =
    let errors : acts.0.errors ≡ old.errors = errors_same 0x49000000 old acts.0 before acts.1 acts.2 in
    let first : view_of n acts.0 ≡ view_of n old = write_view n Is px_is 0x49000000 old acts.0 before acts.1 low refl refl acts.2 in
    let switches : acts.0.registers.switching ≡ true = ap (λ (r : Registers). r.switching) (is_accepted 0x49000000 old acts.0 before acts.1 acts.2).registers ∙ on in
    let accepts : Accepts acts.0 acts.1 Fbs (256 * n + 3) acts.4.0 = acts.4.2.0.accepted (clear_taken n acts.0 acts.1 switches) in
    ap (view_of n) acts.4.4.0 ∙ accepts.views n low
    ∙ ap (λ (o : Option ℕ). view_cleared n o (view_of n acts.0)) (only_cleared n acts.0.errors (ap cleared_device errors ∙ is))
    ∙ ap (λ (b : Bool). if b then stopped_view (view_of n acts.0) else view_of n acts.0) (eq-eqb n n refl) ∙ ap stopped_view first

-- ---- a command of the device's own

issues_from : (n : ℕ) (fields : H2dFields) (a b c : Port) → view_of n b ≡ view_of n a → Issues30 n fields b c → Issues30 n fields a c
issues_from n fields a b c same k = record {
  state = k.state ∙ ap (λ (v : DeviceView). v.state) same;
  fault = k.fault ∙ ap (λ (v : DeviceView). v.fault) same;
  context = k.context ∙ ap (λ (v : DeviceView). v.slots.context) same;
  unsent = k.unsent;
}

last_new : (a : ℕ → Option Command) (old : List (Option Command)) (c : Command) → a 30 ≡ Some c → (last_command (commands_with a old) 30 ≡ None → ⊥) → last_command (commands_with a old) 30 ≡ Some c
unfolding commands_with
last_new a old c is some = elim (cases_lt 30 (length old)) [
  | inl less ↦ get_or-map-range_with_len (λ slot. option_or (a slot) (last_command old slot)) 0 (length old) 30 30 None less (omega arith) ∙ ap (λ (o : Option Command). option_or o (last_command old 30)) is
  | inr past ↦
      let long = length-map-range_with_len (λ slot. option_or (a slot) (last_command old slot)) 0 (length old) in
      absurd (some (get_or_past (commands_with a old) 30 None (omega (arith, long, past))))
]

-- the write of PxCI
ci30 : (n : ℕ) (prds : List Rattle.host_memory.specs.declared.table.Prd.Prd) (fields : H2dFields) (old new : Port) (before after : Memory) → n < 16 → Ready Switching 30 n prds fields old before → IsRuled old → IsRuled new → Acts (effect.Writes px_ci (2 ^ 30)) old before new after
    → IsBuilt H2d (h2d_given fields) (cfis_at before.structure (table_of 30)) → Issues30 n fields old new
unfolding view_after commands_after register_at
ci30 n prds fields old new before after low ready was ruled acts built =
    let free : refusal_of Ci old before (2 ^ 30) ≡ None = ci_taken Switching 30 n prds fields old before ready in
    let accepts : Accepts old before Ci (2 ^ 30) new = taken Ci px_ci (2 ^ 30) old new before refl free acts.0 in
    let whole : Command = command_placed 30 prds fields before in
    let asks_is : asked old.registers before (2 ^ 30) 30 ≡ Some whole = asks Switching 30 n prds fields old before ready in
    let to : aimed old.registers before.structure (2 ^ 30) ≡ n = aimed_chosen old.registers before.structure (2 ^ 30) ready.up.switches ∙ ready.aims in
    let view : view_of n new ≡ Rattle.hba_fbs.specs.Issuing.view_issued old.registers before (2 ^ 30) (view_of n old) =
    accepts.views n low ∙ ap (λ (b : Bool). if b then Rattle.hba_fbs.specs.Issuing.view_issued old.registers before (2 ^ 30) (view_of n old) else view_of n old) (eq-eqb n (aimed old.registers before.structure (2 ^ 30)) (sym to)) in
    let issued : own_issue (slots_of n new.slots) 30 ≡ Some (new_issue n (work_of (request_of fields))) = (ci_step Switching 30 n prds fields old before ready new after was.table acts).issued in
    let busy : issue_at new.slots 30 ≡ Some (new_issue n (work_of (request_of fields))) = (own_in n 30 new.slots (new_issue n (work_of (request_of fields))) issued).1 in
    record {
      state = ap (λ (v : DeviceView). v.state) view;
      fault = ap (λ (v : DeviceView). v.fault) view;
      context = ap (λ (v : DeviceView). v.slots.context) view;
      unsent = record {
        issued = issued;
        command = whole;
        there =
            ap (λ (l : List (Option Command)). last_command l 30) accepts.commands
            ∙ last_new (asked old.registers before (2 ^ 30)) old.commands whole asks_is (λ none.
            let free30 : issue_at new.slots 30 ≡ None = ruled.rules.commands 30 (ap (λ (l : List (Option Command)). last_command l 30) accepts.commands ∙ none) in
            none_some (new_issue n (work_of (request_of fields))) (sym free30 ∙ busy));
        work = refl;
        built = built;
      };
    }
  where
    none_some : (i : Issue) → None ≡ Some i → ⊥
    none_some i h = cc

-- a command that is proper in slot 30
record IsProper30 (n : ℕ) (fields : H2dFields) (buffer : Bool) : Type 0 where
  pub to : (request_of fields).pm_port ≡ n
  pub few : length (prds_with buffer) ≤ 248
  pub usable : (len : ℕ) → 1048576 ≤ len → total_if_usable len (prds_with buffer) ≡ Some (total_of (prds_with buffer))
  pub proper : is_proper (header_for (request_of fields) (table_of 30) (length (prds_with buffer))) (request_of fields) (total_of (prds_with buffer)) 30 false ≡ true

sending30 : (n : ℕ) (fields : H2dFields) (buffer : Bool) (old new : Port) (before after : Memory) → n < 15 → IsProper30 n fields buffer → IsUp old.registers → old.registers.armed ≡ 0 → issue_at old.slots 30 ≡ None → IsHostMemory before
    → ActsAll (sending Switching 30 n fields buffer) old before new after → Issues30 n fields old new
unfolding ActsAll
sending30 n fields buffer old new before after low is up none free m acts =
    let w = acts.2.1.structure in
    let placed : Placed 30 n (prds_with buffer) fields false acts.1 = record {
      header = w.header;
      to_dev = is.to;
      request_is = w.request;
      total = w.total (length acts.1.client) ∙ ap (λ (c : List ℕ). total_if_usable (length c) (prds_with buffer)) acts.2.1.client ∙ is.usable (length before.client) m.client_least;
      few = is.few;
      proper = is.proper;
    } in
    let up0 : IsUp acts.0.registers = subst (λ (p : Port). IsUp p.registers) (sym acts.2.0) up in
    let a = acts.4 in
    let f = fbs_step n acts.0 a.0 acts.1 a.1 (omega (arith, low)) up0 a.2 in
    let unarmed : a.0.registers.armed ≡ 0 = f.2 ∙ ap (λ (p : Port). p.registers.armed) acts.2.0 ∙ none in
    let free0 : issue_at acts.0.slots 30 ≡ None = ap (λ (p : Port). issue_at p.slots 30) acts.2.0 ∙ free in
    let ready : Ready Switching 30 n (prds_with buffer) fields a.0 a.1 = record {
      below = omega arith;
      dev_below = omega (arith, low);
      up = f.0.up;
      aims = f.1;
      free = same_free acts.0 a.0 30 a.3.table f.0.views free0;
      placed = subst (λ (b : Bool). Placed 30 n (prds_with buffer) fields b a.1) (sym (no_bit a.0.registers.armed 30 unarmed)) (subst (Placed 30 n (prds_with buffer) fields false) (sym a.2.1) placed);
    } in
    let last : Issues30 n fields a.0 a.4.0 =
    ci30 n (prds_with buffer) fields a.0 a.4.0 a.1 a.4.1 (omega (arith, low)) ready a.3 a.4.3 a.4.2 (subst (λ (x : Memory). IsBuilt H2d (h2d_given fields) (cfis_at x.structure (table_of 30))) (sym a.2.1) w.cfis) in
    subst (Issues30 n fields old) (sym a.4.4.0) (issues_from n fields old a.0 a.4.0 (f.0.views n (omega (arith, low)) ∙ ap (view_of n) acts.2.0) last)

proper_log : (n : ℕ) → n < 15 → IsProper30 n (log_fields n) true
proper_log n low = record { to = small_dev n low; few = omega arith; usable = buffer_usable; proper = log_proper n }

proper_identify : (n : ℕ) → n < 15 → IsProper30 n (identify_fields n) true
proper_identify n low = record { to = small_dev n low; few = omega arith; usable = buffer_usable; proper = identify_proper n }

proper_control : (n value : ℕ) → n < 15 → IsProper30 n (control n value) false
proper_control n value low = record { to = small_dev n low; few = omega arith; usable = λ len long. refl; proper = control_proper n value }

proper_by : (n : ℕ) (g f : H2dFields) (buffer : Bool) → IsProper30 n g buffer → Some g ≡ Some f → IsProper30 n f buffer
proper_by n g f buffer h is = subst (λ (x : H2dFields). IsProper30 n x buffer) (some_inj g f is) h

proper_step : (n : ℕ) (step : Stage) (f : H2dFields) → n < 15 → stage_fields n step ≡ Some f → IsProper30 n f (reads_page step)
unfolding stage_fields
proper_step n Identify f low is = proper_by n _ f true (proper_identify n low) is
proper_step n (ReadLog file) f low is = proper_by n _ f true (proper_log n low) is
proper_step n AssertReset f low is = proper_by n _ f false (proper_control n 4 low) is
proper_step n ReleaseReset f low is = proper_by n _ f false (proper_control n 0 low) is
proper_step n AwaitReset f low is = cc

-- a stage's command
pub step30 : (n : ℕ) (step : Stage) (f : H2dFields) (old new : Port) (before after : Memory) → n < 15 → stage_fields n step ≡ Some f → IsUp old.registers → old.registers.armed ≡ 0 → issue_at old.slots 30 ≡ None → IsHostMemory before
    → ActsAll (stage_effects Switching n step) old before new after → Issues30 n f old new
step30 n step f old new before after low is up none free m acts =
    sending30 n f (reads_page step) old new before after low (proper_step n step f low is) up none free m (subst (λ (o : Option H2dFields). ActsAll (match_some o [] (λ f. sending Switching 30 n f (reads_page step))) old before new after) is acts)
