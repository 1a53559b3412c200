-- For `orders_take_turns`. What a tick leaves of the control port's part of the host port: everything, except for the
-- command of an order, which is issued in slot 31.
use Rattle.std.proofs.Common.{◌≡◌, ◌≢◌, ℕ, ◌+◌, ◌*◌, ◌^◌, ◌<◌, Bool, true, false, ◌&&◌, nat_lt, List, [], ◌∷◌, ◌++◌, length, replicate, refl, sym, ◌∙◌, ap, subst, inl, inr, arith, Option, Some, None}
use Rattle.std.specs.{Prelude.{◌||◌, ◌==◌, ◌%◌, if◌then◌else◌, not, is_none, is_some}, Option.option_or}
use Rattle.std.proofs.lemmas.{Bool.{eq-eqb, false≢true, ne_eqb, true≢false}, Bool.Decides.nat_tests, Nat.Bits.bit_at-zero}
use Rattle.fis_view.specs.{Built.{IsBuilt, h2d_given}, Table.H2d, declared.build.H2dFields.H2dFields}
use Rattle.host_memory.specs.Memory.{IsHostMemory, Memory}
use Rattle.hba_commands.specs.{declared.command.Command.Command, Commands.{cfis_at, command_at, is_proper}, Requests.{request_of, work_of}}
use Rattle.hba_commands.specs.Writing.{header_for}
use Rattle.port_errors.specs.Errors.{cleared_device}
use Rattle.slots.specs.{Slots.{issue_at, has_bit, match_some, new_issue, own_issue, slots_of}, Table.IsTable}
use Rattle.hba_fbs.specs.declared.error.WriteError.{WriteError}
use Rattle.hba_fbs.specs.declared.register.Register.{Register, TheVariants.{Clb, Clbu, Fb, Fbu, Is, Cmd, Sact, Ci, Sntf, Fbs}}
use Rattle.hba_fbs.specs.{declared.registers.Registers.Registers, Bits.dec, Issuing.asked, Offsets.register_at, Registers.written}
use Rattle.hba_fbs.specs.{Views.{Flushes, Port, view_of}, Writing.{Accepts, errors_after, is_device, refusal_of, view_after}}
use Rattle.hba_laws.specs.Hosts as event
use Rattle.hba_laws.specs.Hosts.{HostEvent}
use Rattle.hba_laws.specs.Isolation.{Cleared, Emptied, Issued, OwnEvent, Rewritten, stops, lowers_st, own_events, part_after, part_after_all}
use Rattle.hba_laws.specs.{Isolation.written_to, Parts.{DevicePart, part_of}}
use Rattle.hba_laws.specs.Sound as sound
use Rattle.hba_laws.proofs.Door.{fold_of_own, some_inj}
use Rattle.hba_driver.specs.declared.effect.Effect.TheVariants as effect
use Rattle.hba_driver.specs.declared.{mode.Mode.TheVariants.Switching, order.Order.{Order, TheVariants.{AwaitSignature, Scan, Clear, Watch}}}
use Rattle.hba_driver.specs.{Effects.{Acts, ActsAll, IsRuled, clearing, is_effect, issuing, order_effects, sending, table_of}, Orders.order_fields}
use Rattle.hba_driver.specs.{Slot31.IsLow, Sights.{px_ci, px_fbs, px_is, px_sact, px_sntf}, Between.{IsCalm, IsUp, beside}}
use Rattle.hba_driver.proofs.{accepted.AcceptLemmas.flushed_before, events.DrivenLemmas.{no_dec, refusal_is, tried_at}}
use Rattle.hba_driver.proofs.issued.EndingLemmas.{clear_taken, is_accepted, only_cleared}
use Rattle.hba_driver.proofs.{events.EventLemmas.{Good, beside_same, good_effect, sized_effect, sound_beside}, goes_on.GoingLemmas.act_calm}
use Rattle.hba_driver.proofs.{issued.IssuingLemmas.bit_same, modes.ModeLemmas.written_chosen, events.OpenLemmas.taken}
use Rattle.hba_driver.proofs.accepted.UpLemmas.{Placed, Ready, ci_step, ci_taken, command_is, command_placed, fbs_step, free_by, same_free, sntf_step}

-- the control port's part
abbrev pub control_part : Port → Memory → DevicePart
control_part port memory = part_of 15 (beside port memory)

-- a port that runs, with the driver's received area, beside its memory
pub record Runs15 (port : Port) (memory : Memory) : Type 0 where
  pub ruled : IsRuled port
  pub sized : IsHostMemory memory
  pub calm : IsCalm port
  pub started : port.registers.started ≡ true
  pub area : port.registers.fb ≡ 4096

host_of : (port : Port) (memory : Memory) → Runs15 port memory → sound.IsHost (beside port memory)
host_of port memory r = sound_beside port memory r.ruled r.sized

-- what leaves the part
pub record Leaves15 (old : Port) (before : Memory) (new : Port) (after : Memory) : Type 0 where
  pub same : control_part new after ≡ control_part old before
  pub runs : Runs15 new after

pub leaves_then : (a b c : Port) (l m n : Memory) → Leaves15 a l b m → Leaves15 b m c n → Leaves15 a l c n
leaves_then a b c l m n h k = record { same = k.same ∙ h.same; runs = k.runs }

-- ---- one event

running : (port : Port) (memory : Memory) → Runs15 port memory → (port.registers.started && is_none port.errors.port) ≡ true
running port memory r = rw (r.started, r.calm.faultless) refl

no_port_event : (runs stops : Bool) → runs ≡ true → stops ≡ false → (not runs || stops) ≡ false
no_port_event true stops h k = k
no_port_event false stops h k = absurd (false≢true h)

-- the part after one event of the control port, or of none
pub part_event : (old new : Port) (before after : Memory) (e : HostEvent) → Runs15 old before → Runs15 new after → event.Does (beside old before) e (beside new after)
    → stops (beside old before) e ≡ false
    → control_part new after ≡ part_after_all 15 (control_part old before) (own_events 15 (beside old before) e ++ [])
part_event old new before after e r s does none =
    fold_of_own 15 (omega arith) (beside old before) (beside new after) (e ∷ []) (record {
      run = (beside new after, does, refl);
      hosts = (host_of old before r, host_of new after s);
      devices = (no_port_event (old.registers.started && is_none old.errors.port) (stops (beside old before) e) (running old before r) none, tt);
    })

-- ---- writes

abbrev is_place : Register → Bool
is_place Clb = true
is_place Clbu = true
is_place Fb = true
is_place Fbu = true
is_place Cmd = true
is_place register = false

never_lowers : (g : Register) (r : Registers) (value : ℕ) → is_place g ≡ false → lowers_st g r value ≡ false
never_lowers Cmd r value h = absurd (true≢false h)
never_lowers g r value h = refl

starts_on : (g : Register) (r : Registers) (value : ℕ) → is_place g ≡ false → (written g r value).started ≡ r.started
unfolding written
starts_on Cmd r value h = absurd (true≢false h)
starts_on g r value h = refl

area_on : (g : Register) (r : Registers) (value : ℕ) → is_place g ≡ false → (written g r value).fb ≡ r.fb
unfolding written
area_on Fb r value h = absurd (true≢false h)
area_on g r value h = refl

-- a write that is not the control port's
pub write_leaves : (g : Register) (offset value : ℕ) (old new : Port) (before after : Memory) → register_at offset ≡ Some g → is_place g ≡ false → Runs15 old before → Acts (effect.Writes offset value) old before new after → IsRuled new
    → written_to 15 (beside old before) g value ≡ [] → Leaves15 old before new after
write_leaves g offset value old new before after at free r acts ruled none =
    elim (tried_at g offset value old before new at acts.0) [
      | inl taken ↦
          let next : Runs15 new after = record {
            ruled = ruled;
            sized = subst IsHostMemory (sym acts.1) r.sized;
            calm = act_calm (effect.Writes offset value) old new before after acts r.calm;
            started = ap (λ (x : Registers). x.started) taken.accepts.registers ∙ starts_on g old.registers value free ∙ r.started;
            area = ap (λ (x : Registers). x.fb) taken.accepts.registers ∙ area_on g old.registers value free ∙ r.area;
          } in
          record {
            same = part_event old new before after (event.Wrote g value) r next (taken.free, taken.accepts, acts.1) (never_lowers g old.registers value free)
                ∙ ap (λ (es : List OwnEvent). part_after_all 15 (control_part old before) (es ++ [])) none;
            runs = next;
          }
      | inr refused ↦ record {
        same = ap (part_of 15) (beside_same old new before after refused.stays acts.1);
        runs = subst (λ (p : Port). Runs15 p after) (sym refused.stays) (subst (Runs15 old) (sym acts.1) r);
      }
    ]

-- a device is chosen
no_clear : (dev : ℕ) (old : Port) (before : Memory) → written_to 15 (beside old before) Fbs (256 * dev + 1) ≡ []
no_clear dev old before =
    ap (λ (b : Bool). if is_device 15 (if b then cleared_device old.errors else None) then Cleared ∷ [] else []) (no_dec dev)

-- another device's error is cleared
clear_other : (dev value : ℕ) (old : Port) (before : Memory) → dev ≢ 15 → cleared_device old.errors ≡ Some dev → written_to 15 (beside old before) Fbs value ≡ []
clear_other dev value old before other is = by_dec (has_bit value dec)
  where
    by_dec : (b : Bool) → (if is_device 15 (if b then cleared_device old.errors else None) then Cleared ∷ [] else []) ≡ []
    by_dec true = rw is (rw (ne_eqb dev 15 other) refl)
    by_dec false = refl

-- commands for another device
issue_other : (value : ℕ) (old : Port) (before : Memory) (dev : ℕ) → old.registers.switching ≡ true → old.registers.chosen ≡ dev → dev ≢ 15 → written_to 15 (beside old before) Ci value ≡ []
issue_other value old before dev on is other =
    written_chosen 15 (beside old before) value on
    ∙ ap (λ (b : Bool). if b then Issued (asked old.registers before value) ∷ [] else []) (ne_eqb 15 old.registers.chosen (λ same. other (sym (same ∙ is))))

-- ---- what else a tick does

part_good : (old new : Port) (before after : Memory) (x : HostEvent) → Runs15 old before → Good (beside old before) (x ∷ []) (beside new after) → stops (beside old before) x ≡ false
    → control_part new after ≡ part_after_all 15 (control_part old before) (own_events 15 (beside old before) x ++ [])
part_good old new before after x r g none =
    fold_of_own 15 (omega arith) (beside old before) (beside new after) (x ∷ []) (record {
      run = g.runs;
      hosts = g.hosts;
      devices = (no_port_event (old.registers.started && is_none old.errors.port) (stops (beside old before) x) (running old before r) none, tt);
    })

-- another device is flushed
pub flush_leaves : (dev : ℕ) (old new : Port) (before after : Memory) → dev < 15 → Runs15 old before → Acts (effect.Flushes dev) old before new after → IsRuled new → Leaves15 old before new after
flush_leaves dev old new before after low r acts ruled =
    let next : Runs15 new after = record {
      ruled = ruled;
      sized = subst IsHostMemory (sym acts.1) r.sized;
      calm = act_calm (effect.Flushes dev) old new before after acts r.calm;
      started = ap (λ (x : Registers). x.started) acts.0.registers ∙ r.started;
      area = ap (λ (x : Registers). x.fb) acts.0.registers ∙ r.area;
    } in
    record {
      same = part_event old new before after (event.Flushed dev) r next acts refl
          ∙ ap (λ (b : Bool). part_after_all 15 (control_part old before) ((if b then Emptied ∷ [] else []) ++ [])) (ne_eqb dev 15 (λ same. omega (arith, low, same)));
      runs = next;
    }

effect_of : (dev : ℕ) → dev < 15 → nat_lt dev 16 ≡ true
effect_of dev low = grind (arith, nat_tests)

same_port : (old new : Port) (before after : Memory) → new ≡ old → IsHostMemory after → Runs15 old before → Runs15 new after
same_port old new before after same sized r =
    subst (λ (p : Port). Runs15 p after) (sym same) (record { ruled = r.ruled; sized = sized; calm = r.calm; started = r.started; area = r.area })

-- its row is emptied
pub empties_leaves : (dev : ℕ) (old new : Port) (before after : Memory) → dev < 15 → Runs15 old before → Acts (effect.Empties dev) old before new after → Leaves15 old before new after
empties_leaves dev old new before after low r acts =
    let is : is_effect (effect.Empties dev) ≡ true = effect_of dev low in
    let next : Runs15 new after = same_port old new before after acts.0 (sized_effect (effect.Empties dev) old new before after is acts r.sized) r in
    let g : Good (beside old before) (event.Rewrote dev (replicate 256 0) ∷ []) (beside new after) =
    good_effect (effect.Empties dev) old new before after is (λ w. r.area) r.sized acts (host_of old before r) (host_of new after next) in
    record {
      same = part_good old new before after (event.Rewrote dev (replicate 256 0)) r g refl
          ∙ ap (λ (b : Bool). part_after_all 15 (control_part old before) ((if b then Rewritten (replicate 256 0) ∷ [] else []) ++ [])) (ne_eqb dev 15 (λ same. omega (arith, low, same)));
      runs = next;
    }

-- a command is written
pub command_leaves : (slot : ℕ) (fields : H2dFields) (buffer : Bool) (old new : Port) (before after : Memory) → nat_lt slot 32 ≡ true → Runs15 old before → Acts (effect.Commands slot fields buffer) old before new after
    → Leaves15 old before new after
command_leaves slot fields buffer old new before after is r acts =
    let next : Runs15 new after = same_port old new before after acts.0 (sized_effect (effect.Commands slot fields buffer) old new before after is acts r.sized) r in
    let g : Good (beside old before) (event.Stored after.structure ∷ []) (beside new after) =
    good_effect (effect.Commands slot fields buffer) old new before after is (λ w. r.area) r.sized acts (host_of old before r) (host_of new after next) in
    record { same = part_good old new before after (event.Stored after.structure) r g refl; runs = next }

-- ---- where the registers stand

fbs_at : register_at px_fbs ≡ Some Fbs
unfolding register_at
fbs_at = refl

ci_at : register_at px_ci ≡ Some Ci
unfolding register_at
ci_at = refl

sact_at : register_at px_sact ≡ Some Sact
unfolding register_at
sact_at = refl

is_at : register_at px_is ≡ Some Is
unfolding register_at
is_at = refl

sntf_at : register_at px_sntf ≡ Some Sntf
unfolding register_at
sntf_at = refl

sact_aim : (value : ℕ) (old new : Port) (before after : Memory) → Acts (effect.Writes px_sact value) old before new after
    → (new.registers.chosen ≡ old.registers.chosen) × (new.registers.switching ≡ old.registers.switching)
unfolding written
sact_aim value old new before after acts = elim (tried_at Sact px_sact value old before new sact_at acts.0) [
  | inl taken ↦ (ap (λ (r : Registers). r.chosen) taken.accepts.registers, ap (λ (r : Registers). r.switching) taken.accepts.registers)
  | inr refused ↦ (ap (λ (p : Port). p.registers.chosen) refused.stays, ap (λ (p : Port). p.registers.switching) refused.stays)
]

is_errors : (value : ℕ) (old new : Port) (before after : Memory) → Acts (effect.Writes px_is value) old before new after → new.errors ≡ old.errors
unfolding errors_after
is_errors value old new before after acts = elim (tried_at Is px_is value old before new is_at acts.0) [
  | inl taken ↦ taken.accepts.errors
  | inr refused ↦ ap (λ (p : Port). p.errors) refused.stays
]

-- ---- the acts that leave it

pub nothing_leaves : (old new : Port) (before after : Memory) → new ≡ old → after ≡ before → Runs15 old before → Leaves15 old before new after
nothing_leaves old new before after port memory r = record {
  same = ap (part_of 15) (beside_same old new before after port memory);
  runs = subst (λ (p : Port). Runs15 p after) (sym port) (subst (Runs15 old) (sym memory) r);
}

-- commands of other devices
pub issuing_leaves : (slot dev : ℕ) (queued : Bool) (old new : Port) (before after : Memory) → dev < 15 → IsUp old.registers → Runs15 old before → ActsAll (issuing Switching slot dev queued) old before new after → Leaves15 old before new after
unfolding ActsAll
issuing_leaves slot dev false old new before after low up r acts =
    let other : dev ≢ 15 = λ same. omega (arith, low, same) in
    let f = fbs_step dev old acts.0 before acts.1 (omega (arith, low)) up acts.2 in
    let first : Leaves15 old before acts.0 acts.1 = write_leaves Fbs px_fbs (256 * dev + 1) old acts.0 before acts.1 fbs_at refl r acts.2 acts.3 (no_clear dev old before) in
    let second : Leaves15 acts.0 acts.1 acts.4.0 acts.4.1 =
    write_leaves Ci px_ci (2 ^ slot) acts.0 acts.4.0 acts.1 acts.4.1 ci_at refl first.runs acts.4.2 acts.4.3 (issue_other (2 ^ slot) acts.0 acts.1 dev f.0.up.switches f.1 other) in
    leaves_then old acts.0 new before acts.1 after first
    (leaves_then acts.0 acts.4.0 new acts.1 acts.4.1 after second (nothing_leaves acts.4.0 new acts.4.1 after acts.4.4.0 acts.4.4.1 second.runs))
issuing_leaves slot dev true old new before after low up r acts =
    let other : dev ≢ 15 = λ same. omega (arith, low, same) in
    let f = fbs_step dev old acts.0 before acts.1 (omega (arith, low)) up acts.2 in
    let first : Leaves15 old before acts.0 acts.1 = write_leaves Fbs px_fbs (256 * dev + 1) old acts.0 before acts.1 fbs_at refl r acts.2 acts.3 (no_clear dev old before) in
    let second : Leaves15 acts.0 acts.1 acts.4.0 acts.4.1 = write_leaves Sact px_sact (2 ^ slot) acts.0 acts.4.0 acts.1 acts.4.1 sact_at refl first.runs acts.4.2 acts.4.3 refl in
    let aim = sact_aim (2 ^ slot) acts.0 acts.4.0 acts.1 acts.4.1 acts.4.2 in
    let third : Leaves15 acts.4.0 acts.4.1 acts.4.4.0 acts.4.4.1 =
    write_leaves Ci px_ci (2 ^ slot) acts.4.0 acts.4.4.0 acts.4.1 acts.4.4.1 ci_at refl second.runs acts.4.4.2 acts.4.4.3
    (issue_other (2 ^ slot) acts.4.0 acts.4.1 dev (aim.1 ∙ f.0.up.switches) (aim.0 ∙ f.1) other) in
    leaves_then old acts.0 new before acts.1 after first
    (leaves_then acts.0 acts.4.0 new acts.1 acts.4.1 after second
    (leaves_then acts.4.0 acts.4.4.0 new acts.4.1 acts.4.4.1 after third (nothing_leaves acts.4.4.0 new acts.4.4.1 after acts.4.4.4.0 acts.4.4.4.1 third.runs)))

dec_own : (old new : Port) (before after : Memory) → cleared_device old.errors ≡ Some 15 → old.registers.switching ≡ true → Runs15 old before → Acts (effect.Writes px_fbs (256 * 15 + 3)) old before new after → IsRuled new
    → control_part new after ≡ part_after 15 (control_part old before) Cleared
dec_own old new before after is on r acts ruled = elim (tried_at Fbs px_fbs (256 * 15 + 3) old before new fbs_at acts.0) [
  | inl taken ↦
      let next : Runs15 new after = record {
        ruled = ruled;
        sized = subst IsHostMemory (sym acts.1) r.sized;
        calm = act_calm (effect.Writes px_fbs (256 * 15 + 3)) old new before after acts r.calm;
        started = ap (λ (x : Registers). x.started) taken.accepts.registers ∙ starts_on Fbs old.registers (256 * 15 + 3) refl ∙ r.started;
        area = ap (λ (x : Registers). x.fb) taken.accepts.registers ∙ area_on Fbs old.registers (256 * 15 + 3) refl ∙ r.area;
      } in
      part_event old new before after (event.Wrote Fbs (256 * 15 + 3)) r next (taken.free, taken.accepts, acts.1) refl
      ∙ ap (λ (o : Option ℕ). part_after_all 15 (control_part old before) ((if is_device 15 o then Cleared ∷ [] else []) ++ [])) (only_cleared 15 old.errors is)
  | inr refused ↦
      not_refused refused.error (sym (clear_taken 15 old before on) ∙ refusal_is Fbs px_fbs (256 * 15 + 3) old before fbs_at ∙ refused.is)
]
  where
    not_refused : (e : WriteError) {P : Type 0} → None ≡ Some e → P
    not_refused e h = cc

-- the clearing of another device's error
pub clearing_leaves : (dev : ℕ) (old new : Port) (before after : Memory) → dev ≢ 15 → cleared_device old.errors ≡ Some dev → Runs15 old before → ActsAll (clearing Switching dev) old before new after → Leaves15 old before new after
unfolding ActsAll
clearing_leaves dev old new before after other is r acts =
    let first : Leaves15 old before acts.0 acts.1 = write_leaves Is px_is 0x49000000 old acts.0 before acts.1 is_at refl r acts.2 acts.3 refl in
    let errors : acts.0.errors ≡ old.errors = is_errors 0x49000000 old acts.0 before acts.1 acts.2 in
    let second : Leaves15 acts.0 acts.1 acts.4.0 acts.4.1 =
    write_leaves Fbs px_fbs (256 * dev + 3) acts.0 acts.4.0 acts.1 acts.4.1 fbs_at refl first.runs acts.4.2 acts.4.3
    (clear_other dev (256 * dev + 3) acts.0 acts.1 other (ap cleared_device errors ∙ is)) in
    leaves_then old acts.0 new before acts.1 after first
    (leaves_then acts.0 acts.4.0 new acts.1 acts.4.1 after second (nothing_leaves acts.4.0 new acts.4.1 after acts.4.4.0 acts.4.4.1 second.runs))

-- the clearing of the control port's own error
pub clearing_own : (old new : Port) (before after : Memory) → cleared_device old.errors ≡ Some 15 → old.registers.switching ≡ true → Runs15 old before → ActsAll (clearing Switching 15) old before new after
    → control_part new after ≡ part_after 15 (control_part old before) Cleared
unfolding ActsAll written
clearing_own old new before after is on r acts =
    let first : Leaves15 old before acts.0 acts.1 = write_leaves Is px_is 0x49000000 old acts.0 before acts.1 is_at refl r acts.2 acts.3 refl in
    let errors : acts.0.errors ≡ old.errors = is_errors 0x49000000 old acts.0 before acts.1 acts.2 in
    let switches : acts.0.registers.switching ≡ true = ap (λ (x : Registers). x.switching) (is_accepted 0x49000000 old acts.0 before acts.1 acts.2).registers ∙ on in
    let second : control_part acts.4.0 acts.4.1 ≡ part_after 15 (control_part acts.0 acts.1) Cleared = dec_own acts.0 acts.4.0 acts.1 acts.4.1 (ap cleared_device errors ∙ is) switches first.runs acts.4.2 acts.4.3 in
    ap (part_of 15) (beside_same acts.4.0 new acts.4.1 after acts.4.4.0 acts.4.4.1) ∙ second ∙ ap (λ (p : DevicePart). part_after 15 p Cleared) first.same

-- ---- an order

-- the command of these fields is issued in slot 31, and all else of the part stays
pub record Issues31 (fields : H2dFields) (old : Port) (before : Memory) (new : Port) (after : Memory) : Type 0 where
  pub state : (view_of 15 new).state ≡ (view_of 15 old).state
  pub fault : (view_of 15 new).fault ≡ (view_of 15 old).fault
  pub context : (view_of 15 new).slots.context ≡ (view_of 15 old).slots.context
  pub issued : own_issue (slots_of 15 new.slots) 31 ≡ Some (new_issue 15 (work_of (request_of fields)))
  pub command : Command
  pub there : (control_part new after).commands 31 ≡ Some command
  pub work : command.work ≡ work_of (request_of fields)
  pub built : IsBuilt H2d (h2d_given fields) command.cfis
  pub row : (control_part new after).row ≡ (control_part old before).row
  pub runs : Runs15 new after

-- from what leaves the part on
issues_from : (fields : H2dFields) (a b c : Port) (l m n : Memory) → Leaves15 a l b m → Issues31 fields b m c n → Issues31 fields a l c n
issues_from fields a b c l m n h k = record {
  state = k.state ∙ ap (λ (p : DevicePart). p.view.state) h.same;
  fault = k.fault ∙ ap (λ (p : DevicePart). p.view.fault) h.same;
  context = k.context ∙ ap (λ (p : DevicePart). p.view.slots.context) h.same;
  issued = k.issued;
  command = k.command;
  there = k.there;
  work = k.work;
  built = k.built;
  row = k.row ∙ ap (λ (p : DevicePart). p.row) h.same;
  runs = k.runs;
}

-- an order is a proper command in slot 31, to the control port
pub record IsProper31 (f : H2dFields) : Type 0 where
  pub to : f.pm_port ≡ 15
  pub proper : is_proper (header_for (request_of f) (table_of 31) 0) (request_of f) 0 31 false ≡ true

proper_by : (g f : H2dFields) → IsProper31 g → Some g ≡ Some f → IsProper31 f
proper_by g f h is = subst IsProper31 (some_inj g f is) h

proper_none : (f : H2dFields) → None ≡ Some f → IsProper31 f
proper_none f h = cc

pub proper31 : (order : Order) (f : H2dFields) → order_fields order ≡ Some f → IsProper31 f
unfolding order_fields is_proper work_of
proper31 AwaitSignature f h = proper_none f h
proper31 Watch f h = proper_none f h
proper31 other f h = proper_by _ f (record { to = refl; proper = refl }) h

no_bit : (n slot : ℕ) → n ≡ 0 → has_bit n slot ≡ false
no_bit n slot h = ap (λ (k : ℕ). has_bit k slot) h ∙ ap (λ (k : ℕ). k == 1) (bit_at-zero slot)

if_true : {A : Type 0} (b : Bool) (x y : A) → b ≡ true → (if b then x else y) ≡ x
if_true true x y h = refl
if_true false x y h = absurd (false≢true h)

-- the write of PxCI
ci31 : (fields : H2dFields) (old new : Port) (before after : Memory) → Ready Switching 31 15 [] fields old before → old.registers.armed ≡ 0 → Runs15 old before → Acts (effect.Writes px_ci (2 ^ 31)) old before new after → IsTable old.slots → IsRuled new
    → IsBuilt H2d (h2d_given fields) (cfis_at before.structure (table_of 31)) → Issues31 fields old before new after
unfolding view_after
ci31 fields old new before after ready none r acts table ruled built =
    let free : refusal_of Ci old before (2 ^ 31) ≡ None = ci_taken Switching 31 15 [] fields old before ready in
    let accepts : Accepts old before Ci (2 ^ 31) new = taken Ci px_ci (2 ^ 31) old new before ci_at free acts.0 in
    let next : Runs15 new after = record {
      ruled = ruled;
      sized = subst IsHostMemory (sym acts.1) r.sized;
      calm = act_calm (effect.Writes px_ci (2 ^ 31)) old new before after acts r.calm;
      started = ap (λ (x : Registers). x.started) accepts.registers ∙ starts_on Ci old.registers (2 ^ 31) refl ∙ r.started;
      area = ap (λ (x : Registers). x.fb) accepts.registers ∙ area_on Ci old.registers (2 ^ 31) refl ∙ r.area;
    } in
    let commands : ℕ → Option Command = asked old.registers before (2 ^ 31) in
    let whole : Command = command_placed 31 [] fields before in
    let asks : commands 31 ≡ Some whole =
    if_true (has_bit (2 ^ 31) 31) (command_at before old.registers.clb 31 (has_bit old.registers.armed 31)) None (bit_same 31)
    ∙ ap (λ (c : ℕ). command_at before c 31 (has_bit old.registers.armed 31)) ready.up.list
    ∙ command_is 31 15 [] fields (has_bit old.registers.armed 31) before ready.below ready.placed in
    let events : own_events 15 (beside old before) (event.Wrote Ci (2 ^ 31)) ≡ Issued commands ∷ [] =
    written_chosen 15 (beside old before) (2 ^ 31) ready.up.switches ∙ if_true (15 == old.registers.chosen) (Issued commands ∷ []) [] (eq-eqb 15 old.registers.chosen (sym ready.aims)) in
    let part : control_part new after ≡ part_after 15 (control_part old before) (Issued commands) =
    part_event old new before after (event.Wrote Ci (2 ^ 31)) r next (free, accepts, acts.1) refl
    ∙ ap (λ (es : List OwnEvent). part_after_all 15 (control_part old before) (es ++ [])) events in
    let issued : own_issue (slots_of 15 new.slots) 31 ≡ Some (new_issue 15 (work_of (request_of fields))) =
    (ci_step Switching 31 15 [] fields old before ready new after table acts).issued in
    let own : own_issue (part_after 15 (control_part old before) (Issued commands)).view.slots 31 ≡ Some (new_issue 15 (work_of (request_of fields))) =
    ap (λ (p : DevicePart). own_issue p.view.slots 31) (sym part) ∙ issued in
    record {
      state = ap (λ (p : DevicePart). p.view.state) part;
      fault = ap (λ (p : DevicePart). p.view.fault) part;
      context = ap (λ (p : DevicePart). p.view.slots.context) part;
      issued = issued;
      command = whole;
      there = ap (λ (p : DevicePart). p.commands 31) part
          ∙ if_true (is_some (own_issue (part_after 15 (control_part old before) (Issued commands)).view.slots 31)) (option_or (commands 31) ((control_part old before).commands 31)) None (ap is_some own)
          ∙ ap (λ (o : Option Command). option_or o ((control_part old before).commands 31)) asks;
      work = refl;
      built = built;
      row = ap (λ (p : DevicePart). p.row) part;
      runs = next;
    }

sending31 : (fields : H2dFields) (old new : Port) (before after : Memory) → IsProper31 fields → IsUp old.registers → old.registers.armed ≡ 0 → issue_at old.slots 31 ≡ None → Runs15 old before
    → ActsAll (sending Switching 31 15 fields false) old before new after → Issues31 fields old before new after
unfolding ActsAll
sending31 fields old new before after proper up none free r acts =
    let w = acts.2.1.structure in
    let placed : Placed 31 15 [] fields false acts.1 = record {
      header = w.header;
      to_dev = ap (λ (k : ℕ). k % 16) proper.to;
      request_is = w.request;
      total = w.total (length acts.1.client);
      few = omega arith;
      proper = proper.proper;
    } in
    let stored : Leaves15 old before acts.0 acts.1 = command_leaves 31 fields false old acts.0 before acts.1 refl r acts.2 in
    let up0 : IsUp acts.0.registers = subst (λ (p : Port). IsUp p.registers) (sym acts.2.0) up in
    let a = acts.4 in
    let f = fbs_step 15 acts.0 a.0 acts.1 a.1 (omega arith) up0 a.2 in
    let chosen : Leaves15 acts.0 acts.1 a.0 a.1 = write_leaves Fbs px_fbs (256 * 15 + 1) acts.0 a.0 acts.1 a.1 fbs_at refl stored.runs a.2 a.3 (no_clear 15 acts.0 acts.1) in
    let unarmed : a.0.registers.armed ≡ 0 = f.2 ∙ ap (λ (p : Port). p.registers.armed) acts.2.0 ∙ none in
    let free0 : issue_at acts.0.slots 31 ≡ None = ap (λ (p : Port). issue_at p.slots 31) acts.2.0 ∙ free in
    let ready : Ready Switching 31 15 [] fields a.0 a.1 = record {
      below = omega arith;
      dev_below = omega arith;
      up = f.0.up;
      aims = f.1;
      free = same_free acts.0 a.0 31 a.3.table f.0.views free0;
      placed = subst (λ (b : Bool). Placed 31 15 [] fields b a.1) (sym (no_bit a.0.registers.armed 31 unarmed)) (subst (Placed 31 15 [] fields false) (sym a.2.1) placed);
    } in
    let last : Issues31 fields a.0 a.1 a.4.0 a.4.1 =
    ci31 fields a.0 a.4.0 a.1 a.4.1 ready unarmed chosen.runs a.4.2 a.3.table a.4.3 (subst (λ (m : Memory). IsBuilt H2d (h2d_given fields) (cfis_at m.structure (table_of 31))) (sym a.2.1) w.cfis) in
    let end : Issues31 fields a.0 a.1 new after = subst (λ (p : Port). Issues31 fields a.0 a.1 p after) (sym a.4.4.0) (subst (Issues31 fields a.0 a.1 a.4.0) (sym a.4.4.1) last) in
    issues_from fields old acts.0 new before acts.1 after stored (issues_from fields acts.0 a.0 new acts.1 a.1 after chosen end)

-- the tick's effects for an order
pub order31 : (order : Order) (fields : H2dFields) (old new : Port) (before after : Memory) → order_fields order ≡ Some fields → IsLow order → IsUp old.registers → old.registers.armed ≡ 0 → issue_at old.slots 31 ≡ None
    → Runs15 old before → ActsAll (order_effects Switching order) old before new after → Issues31 fields old before new after
unfolding ActsAll order_effects
order31 Scan fields old new before after is low up none free r acts =
    let s = sntf_step old acts.0 before acts.1 up acts.2 in
    let first : Leaves15 old before acts.0 acts.1 = write_leaves Sntf px_sntf 0x8000 old acts.0 before acts.1 sntf_at refl r acts.2 acts.3 refl in
    issues_from fields old acts.0 new before acts.1 after first
    (sending31 fields acts.0 new acts.1 after (proper31 Scan fields is) s.0.up (s.1 ∙ none) (same_free old acts.0 31 acts.3.table s.0.views free) first.runs
    (subst (λ (o : Option H2dFields). ActsAll (match_some o [] (λ f. sending Switching 31 15 f false)) acts.0 acts.1 new after) is acts.4))
order31 (Clear port) fields old new before after is low up none free r acts =
    let flushed : Flushes old port acts.0 = acts.2.0 in
    let next : acts.4.0 ≡ acts.0 = acts.4.2.0 in
    let first : Leaves15 old before acts.0 acts.1 = flush_leaves port old acts.0 before acts.1 low r acts.2 acts.3 in
    let second : Leaves15 acts.0 acts.1 acts.4.0 acts.4.1 = empties_leaves port acts.0 acts.4.0 acts.1 acts.4.1 low first.runs acts.4.2 in
    let free1 : issue_at acts.0.slots 31 ≡ None = free_by old acts.0 31 acts.3.table (λ n i below here. flushed_before old acts.0 port n 31 i flushed here) free in
    let up1 : IsUp acts.0.registers = subst IsUp (sym flushed.registers) up in
    let none1 : acts.0.registers.armed ≡ 0 = ap (λ (r : Registers). r.armed) flushed.registers ∙ none in
    issues_from fields old acts.0 new before acts.1 after first
    (issues_from fields acts.0 acts.4.0 new acts.1 acts.4.1 after second
    (sending31 fields acts.4.0 new acts.4.1 after (proper31 (Clear port) fields is) (subst (λ (p : Port). IsUp p.registers) (sym next) up1) (ap (λ (p : Port). p.registers.armed) next ∙ none1)
    (ap (λ (p : Port). issue_at p.slots 31) next ∙ free1) second.runs
    (subst (λ (o : Option H2dFields). ActsAll (match_some o [] (λ f. sending Switching 31 15 f false)) acts.4.0 acts.4.1 new after) is acts.4.4)))
order31 order fields old new before after is low up none free r acts =
    sending31 fields old new before after (proper31 order fields is) up none free r (subst (λ (o : Option H2dFields). ActsAll (match_some o [] (λ f. sending Switching 31 15 f false)) old before new after) is acts)
