-- For `hosts_stay_sound`. What holds for port, driver and memory together, and what each turn leaves of it.
use Rattle.std.proofs.Common.{◌≡◌, ℕ, ◌+◌, ◌*◌, ◌/◌, ◌<◌, ◌≤◌, ◌⊎◌, ◌&&◌, Bool, true, false, nat_lt, nat_le, List, [], ◌∷◌, refl, sym, ◌∙◌, ap, subst, inl, inr, arith, Option, Some, None}
use Rattle.std.specs.{Prelude.{if◌then◌else◌, ◌==◌, ◌%◌, MatchOption, not}, List.list_all}
use Rattle.std.proofs.lemmas.{Nat.Bits.{bit_at-suc, bit_at_lowest}, Bool.{cases_Bool, false≢true}, Bool.Decides.nat_tests}
use Rattle.hba_fbs.specs.{Bits.{dec, en}, declared.error.WriteError.WriteError}
use Rattle.hba_fbs.specs.declared.{register.Register.{Register, TheVariants.{Is, Cmd, Sact, Ci, Sntf, Fbs}}, registers.Registers.Registers}
use Rattle.hba_fbs.specs.{Offsets.register_at, Registers.written, Views.Port, Writing.{Accepts, refusal_of, write_refusal}}
use Rattle.host_memory.specs.Memory.{Memory}
use Rattle.hba_fbs.specs.declared.error.WriteError.TheVariants as refusal
use Rattle.slots.specs.Slots.{has_bit, match_some}
use Rattle.hba_driver.specs.declared.{effect.Effect.Effect, mode.Mode.{Mode, TheVariants.{Switching, CommandBased}}}
use Rattle.hba_driver.specs.{declared.{order.Order.{Order, TheVariants.Clear}, path.TaskFile.TaskFile, plan.Plan.Plan}, Seeing.Sight}
use Rattle.hba_driver.specs.{declared.{turn.Act.Act, turn.Turn.Turn}, Drivers.{Driver, Entry}}
use Rattle.hba_driver.specs.{Effects.{Acts, ActsAll, Tries, effects_of, issuing, order_effects, restart_write}, Events.{AreDriven, KnowsNone}}
use Rattle.hba_driver.specs.{Modes.{clears_with, is_switching}, Paths.{reads_page, stage_fields}}
use Rattle.hba_driver.specs.Ticks.{acted, after_tick, done_ended, effects_due, from_reset, logged_ended, plan_after, recovering, seen, turn}
use Rattle.hba_driver.specs.Turns.{early_due, plain_turn, turn_of}
use Rattle.hba_driver.specs.Between.{Due, Going, Opening, Way, calm, calm_effect, firm, firm_effect, keeps_en}
use Rattle.hba_driver.specs.declared.effect.Effect.TheVariants as effect
use Rattle.hba_driver.specs.declared.turn.Act.TheVariants as act
use Rattle.hba_driver.proofs.ticks.DueLemmas.{PlanGoes, due_turn, goes_turn}
use Rattle.hba_driver.proofs.calls.EffectLemmas.{issuing_pass, order_pass, restarts_pass, sending_pass}

-- ---- a write is taken, or refused

-- the port refuses a write, and everything stays
pub record Refused (register : Register) (old : Port) (memory : Memory) (value : ℕ) (new : Port) : Type 0 where
  pub error : WriteError
  pub is : refusal_of register old memory value ≡ Some error
  pub stays : new ≡ old

-- the port takes a write
pub record Taken (register : Register) (old : Port) (memory : Memory) (value : ℕ) (new : Port) : Type 0 where
  pub free : refusal_of register old memory value ≡ None
  pub accepts : Accepts old memory register value new

abbrev pub Tried : Register → Port → Memory → ℕ → Port → Type 0
Tried register old memory value new = Taken register old memory value new ⊎ Refused register old memory value new

pub refusal_is : (register : Register) (offset value : ℕ) (old : Port) (memory : Memory) → register_at offset ≡ Some register → write_refusal old memory offset value ≡ refusal_of register old memory value
refusal_is register offset value old memory at = ap (λ (o : Option Register). match_some o (Some refusal.NoRegister) (λ (r : Register). refusal_of r old memory value)) at

tried_by : (register : Register) (offset value : ℕ) (old : Port) (memory : Memory) (new : Port) (o : Option WriteError) → register_at offset ≡ Some register → write_refusal old memory offset value ≡ o
    → Tries old memory offset value new → Tried register old memory value new
tried_by register offset value old memory new None at is tries =
    inl (record {
      free = sym (refusal_is register offset value old memory at) ∙ is;
      accepts = subst (λ (o : Option Register). MatchOption o ⊥ (λ (r : Register). Accepts old memory r value new)) at (tries.accepted is);
    })
tried_by register offset value old memory new (Some e) at is tries =
    inr (record { error = e; is = sym (refusal_is register offset value old memory at) ∙ is; stays = tries.refused e is })

pub tried_at : (register : Register) (offset value : ℕ) (old : Port) (memory : Memory) (new : Port) → register_at offset ≡ Some register → Tries old memory offset value new → Tried register old memory value new
tried_at register offset value old memory new at tries = tried_by register offset value old memory new (write_refusal old memory offset value) at refl tries

-- ---- what leaves command list and received area where they are

-- FBS.EN stays as the mode has it, and FRE stays set
pub record SamePlace (mode : Mode) (r s : Registers) : Type 0 where
  pub list : s.clb ≡ r.clb
  pub list_high : s.clbu ≡ r.clbu
  pub area : s.fb ≡ r.fb
  pub area_high : s.fbu ≡ r.fbu
  pub switches : r.switching ≡ is_switching mode → s.switching ≡ is_switching mode
  pub receives : r.receives ≡ true → s.receives ≡ true

pub same_place : {mode : Mode} (r s : Registers) → s ≡ r → SamePlace mode r s
same_place r s is = record {
  list = ap (λ (x : Registers). x.clb) is;
  list_high = ap (λ (x : Registers). x.clbu) is;
  area = ap (λ (x : Registers). x.fb) is;
  area_high = ap (λ (x : Registers). x.fbu) is;
  switches = λ h. ap (λ (x : Registers). x.switching) is ∙ h;
  receives = λ h. ap (λ (x : Registers). x.receives) is ∙ h;
}

pub place_then : {mode : Mode} (r s t : Registers) → SamePlace mode r s → SamePlace mode s t → SamePlace mode r t
place_then r s t h k = record {
  list = k.list ∙ h.list;
  list_high = k.list_high ∙ h.list_high;
  area = k.area ∙ h.area;
  area_high = k.area_high ∙ h.area_high;
  switches = λ on. k.switches (h.switches on);
  receives = λ on. k.receives (h.receives on);
}

en_kept : (mode : Mode) (value : ℕ) → keeps_en mode value ≡ true → has_bit value en ≡ is_switching mode
en_kept Switching value h = h
en_kept CommandBased value h = not_set (has_bit value en) h
  where
    not_set : (b : Bool) → not b ≡ true → b ≡ false
    not_set true h = absurd (false≢true h)
    not_set false h = refl

written_calm : (mode : Mode) (register : Register) (r : Registers) (value : ℕ) → calm mode (Some register) value ≡ true → SamePlace mode r (written register r value)
unfolding written
written_calm mode Sact r value h = record { list = refl; list_high = refl; area = refl; area_high = refl; switches = λ on. on; receives = λ on. on }
written_calm mode Ci r value h = record { list = refl; list_high = refl; area = refl; area_high = refl; switches = λ on. on; receives = λ on. on }
written_calm mode Sntf r value h = record { list = refl; list_high = refl; area = refl; area_high = refl; switches = λ on. on; receives = λ on. on }
written_calm mode Is r value h = record { list = refl; list_high = refl; area = refl; area_high = refl; switches = λ on. on; receives = λ on. on }
written_calm mode Fbs r value h = record { list = refl; list_high = refl; area = refl; area_high = refl; switches = λ on. en_kept mode value h; receives = λ on. on }
written_calm mode Cmd r value h = record { list = refl; list_high = refl; area = refl; area_high = refl; switches = λ on. on; receives = λ on. h }
written_calm mode other r value h = absurd (false≢true h)

place_tried : (mode : Mode) (o : Option Register) (offset value : ℕ) (old : Port) (memory : Memory) (new : Port) → register_at offset ≡ o → calm mode o value ≡ true → Tries old memory offset value new
    → SamePlace mode old.registers new.registers
place_tried mode None offset value old memory new at h tries = absurd (false≢true h)
place_tried mode (Some register) offset value old memory new at h tries = elim (tried_at register offset value old memory new at tries) [
  | inl taken ↦ subst (λ (r : Registers). SamePlace mode old.registers r) (sym taken.accepts.registers) (written_calm mode register old.registers value h)
  | inr refused ↦ same_place old.registers new.registers (ap (λ (p : Port). p.registers) refused.stays)
]

pub place_effect : (mode : Mode) (e : Effect) (old new : Port) (before after : Memory) → calm_effect mode e ≡ true → Acts e old before new after → SamePlace mode old.registers new.registers
place_effect mode (effect.Writes offset value) old new before after h acts = place_tried mode (register_at offset) offset value old before new refl h acts.0
place_effect mode (effect.Flushes dev) old new before after h acts = same_place old.registers new.registers acts.0.registers
place_effect mode other old new before after h acts = same_place old.registers new.registers (ap (λ (p : Port). p.registers) acts.0)

-- EN is in the values that choose and clear a device; DEC is not in the first
pub en_chosen : (dev : ℕ) → has_bit (256 * dev + 1) en ≡ true
en_chosen dev = ap (λ (k : ℕ). k == 1) (bit_at_lowest (256 * dev + 1) ∙ odd dev)
  where
    odd : (d : ℕ) → (256 * d + 1) % 2 ≡ 1
    odd d = omega arith

pub en_cleared : (dev : ℕ) → has_bit (256 * dev + 3) en ≡ true
en_cleared dev = ap (λ (k : ℕ). k == 1) (bit_at_lowest (256 * dev + 3) ∙ odd dev)
  where
    odd : (d : ℕ) → (256 * d + 3) % 2 ≡ 1
    odd d = omega arith

pub no_dec : (dev : ℕ) → has_bit (256 * dev + 1) dec ≡ false
no_dec dev = ap (λ (k : ℕ). k == 1) (bit_at-suc (256 * dev + 1) 0 ∙ bit_at_lowest ((256 * dev + 1) / 2) ∙ even dev)
  where
    even : (d : ℕ) → (256 * d + 1) / 2 % 2 ≡ 0
    even d = omega arith

en_off : (dev : ℕ) → has_bit (256 * dev + 2) en ≡ false
en_off dev = ap (λ (k : ℕ). k == 1) (bit_at_lowest (256 * dev + 2) ∙ even dev)
  where
    even : (d : ℕ) → (256 * d + 2) % 2 ≡ 0
    even d = omega arith

-- by the mode
en_clears : (mode : Mode) (dev : ℕ) → keeps_en mode (256 * dev + clears_with mode) ≡ true
en_clears Switching dev = en_cleared dev
en_clears CommandBased dev = ap not (en_off dev)

calm_issuing : (mode : Mode) (slot dev : ℕ) (queued : Bool) → list_all (calm_effect mode) (issuing mode slot dev queued) ≡ true
unfolding register_at
calm_issuing mode slot dev queued = issuing_pass (calm_effect mode) mode slot dev queued (λ on. subst (λ (m : Mode). keeps_en m (256 * dev + 1) ≡ true) (sym on) (en_chosen dev)) refl refl

calm_order : (mode : Mode) (order : Order) → list_all (calm_effect mode) (order_effects mode order) ≡ true
unfolding register_at
calm_order mode order = order_pass (calm_effect mode) mode order refl (λ port is. (refl, refl)) (λ f. refl) (calm_issuing mode 31 15 false)

-- ---- what leaves ST

written_firm : (register : Register) (r : Registers) (value : ℕ) → firm (Some register) ≡ true → (written register r value).started ≡ r.started
unfolding written
written_firm Cmd r value h = absurd (false≢true h)
written_firm register r value h = refl

firm_tried : (o : Option Register) (offset value : ℕ) (old : Port) (memory : Memory) (new : Port) → register_at offset ≡ o → firm o ≡ true → Tries old memory offset value new
    → new.registers.started ≡ old.registers.started
firm_tried None offset value old memory new at h tries = absurd (false≢true h)
firm_tried (Some register) offset value old memory new at h tries = elim (tried_at register offset value old memory new at tries) [
  | inl taken ↦ ap (λ (r : Registers). r.started) taken.accepts.registers ∙ written_firm register old.registers value h
  | inr refused ↦ ap (λ (p : Port). p.registers.started) refused.stays
]

started_effect : (e : Effect) (old new : Port) (before after : Memory) → firm_effect e ≡ true → Acts e old before new after → new.registers.started ≡ old.registers.started
started_effect (effect.Writes offset value) old new before after h acts = firm_tried (register_at offset) offset value old before new refl h acts.0
started_effect (effect.Flushes dev) old new before after h acts = ap (λ (r : Registers). r.started) acts.0.registers
started_effect other old new before after h acts = ap (λ (p : Port). p.registers.started) acts.0

and_parts : (a b : Bool) → (a && b) ≡ true → (a ≡ true) × (b ≡ true)
and_parts true b h = (refl, h)
and_parts false b h = absurd (false≢true h)

pub started_effects : (es : List Effect) (old new : Port) (before after : Memory) → list_all firm_effect es ≡ true → ActsAll es old before new after → new.registers.started ≡ old.registers.started
unfolding ActsAll
started_effects [] old new before after h acts = ap (λ (p : Port). p.registers.started) acts.0
started_effects (e ∷ es) old new before after h acts =
    let parts = and_parts (firm_effect e) (list_all firm_effect es) h in
    started_effects es acts.0 new acts.1 after parts.1 acts.4 ∙ started_effect e old acts.0 before acts.1 parts.0 acts.2

firm_issuing : (mode : Mode) (slot dev : ℕ) (queued : Bool) → list_all firm_effect (issuing mode slot dev queued) ≡ true
unfolding register_at
firm_issuing mode slot dev queued = issuing_pass firm_effect mode slot dev queued (λ on. refl) refl refl

firm_order : (mode : Mode) (order : Order) → list_all firm_effect (order_effects mode order) ≡ true
unfolding register_at
firm_order mode order = order_pass firm_effect mode order refl (λ port is. (refl, refl)) (λ f. refl) (firm_issuing mode 31 15 false)

firm_clears : (mode : Mode) (dev : ℕ) → list_all firm_effect (effects_due mode (Some (act.Clears dev))) ≡ true
unfolding effects_of register_at
firm_clears mode dev = refl

-- the numbers are not in this order
pub past : (n m : ℕ) {P : Type 0} → nat_le n m ≡ false → n ≤ m → P
past n m more h = absurd (grind (arith, nat_tests))

-- the registers of an open port, after something that leaves its places
pub driven_open : {mode : Mode} (n m k : ℕ) (r s : Registers) → 7 ≤ n → SamePlace mode r s → (2 ≤ k → s.started ≡ true) → AreDriven mode n m r → AreDriven mode n k s
driven_open n m k r s least same starts d = record {
  commands = same.list ∙ d.commands;
  list_high = λ h. same.list_high ∙ d.list_high h;
  area = λ h. same.area ∙ d.area h;
  area_high = λ h. same.area_high ∙ d.area_high h;
  switches = λ h. same.switches (d.switches h);
  closed = λ h. absurd (omega (arith, least, h));
  receives = λ h. same.receives (d.receives h);
  stopped = λ h. absurd (omega (arith, least, h));
  starts = λ h g. starts g;
}

-- ---- what a tick does

-- an act that is not an opening write
record Calm (a : Option Act) (d : Driver) : Type 0 where
  pub quiet : list_all (calm_effect d.plan.mode) (effects_due d.plan.mode a) ≡ true
  pub stays : (file : TaskFile) → (acted a file d).plan.opened ≡ d.plan.opened
  pub keeps : (file : TaskFile) → (acted a file d).plan.mode ≡ d.plan.mode
  pub way : (file : TaskFile) → Way d.plan.mode a d.plan.restarted (acted a file d).plan.restarted

opened_ordered : (order : Order) (file : TaskFile) (plan : Plan) → (plan_after (act.Orders order) file plan).opened ≡ plan.opened
unfolding plan_after
opened_ordered (Clear port) file plan = refl
opened_ordered order file plan = refl

pub restarted_ordered : (order : Order) (file : TaskFile) (plan : Plan) → (plan_after (act.Orders order) file plan).restarted ≡ plan.restarted
unfolding plan_after
restarted_ordered (Clear port) file plan = refl
restarted_ordered order file plan = refl

mode_ordered : (order : Order) (file : TaskFile) (plan : Plan) → (plan_after (act.Orders order) file plan).mode ≡ plan.mode
unfolding plan_after
mode_ordered (Clear port) file plan = refl
mode_ordered order file plan = refl

mode_if : (b : Bool) (p q : Plan) (mode : Mode) → p.mode ≡ mode → q.mode ≡ mode → (if b then p else q).mode ≡ mode
mode_if true p q mode h k = h
mode_if false p q mode h k = k

mode_cleared : (dev : ℕ) (file : TaskFile) (plan : Plan) → (plan_after (act.Clears dev) file plan).mode ≡ plan.mode
unfolding plan_after
mode_cleared dev file plan = mode_if (nat_lt dev 15) (recovering dev file plan) (from_reset plan) plan.mode refl refl

opened_if : (b : Bool) (p q : Plan) (n : ℕ) → p.opened ≡ n → q.opened ≡ n → (if b then p else q).opened ≡ n
opened_if true p q n h k = h
opened_if false p q n h k = k

opened_cleared : (dev : ℕ) (file : TaskFile) (plan : Plan) → (plan_after (act.Clears dev) file plan).opened ≡ plan.opened
unfolding plan_after
opened_cleared dev file plan = opened_if (nat_lt dev 15) (recovering dev file plan) (from_reset plan) plan.opened refl refl

restarted_if : (b : Bool) (p q : Plan) (n : ℕ) → p.restarted ≡ n → q.restarted ≡ n → (if b then p else q).restarted ≡ n
restarted_if true p q n h k = h
restarted_if false p q n h k = k

pub restarted_cleared : (dev : ℕ) (file : TaskFile) (plan : Plan) → (plan_after (act.Clears dev) file plan).restarted ≡ plan.restarted
unfolding plan_after
restarted_cleared dev file plan = restarted_if (nat_lt dev 15) (recovering dev file plan) (from_reset plan) plan.restarted refl refl

calm_restart : (mode : Mode) (k : ℕ) → list_all (calm_effect mode) (restart_write k ∷ []) ≡ true
unfolding register_at
calm_restart mode k = restarts_pass (calm_effect mode) mode k refl refl

calm_stops : (mode : Mode) → list_all (calm_effect mode) (effects_due mode (Some act.Stops)) ≡ true
unfolding effects_of register_at
calm_stops mode = refl

calm_clears : (mode : Mode) (dev : ℕ) → list_all (calm_effect mode) (effects_due mode (Some (act.Clears dev))) ≡ true
unfolding effects_of register_at
calm_clears mode dev = ap (λ (b : Bool). b && true) (en_clears mode dev)

calm_due : (v : Sight) (d : Driver) (entries : List (Option Entry)) (a : Option Act) → 7 ≤ d.plan.opened → Due v d.plan entries a → Calm a d
unfolding effects_of plan_after
calm_due v d entries None least due = record { quiet = refl; stays = λ file. refl; keeps = λ file. refl; way = λ file. inl (record { firm_is = refl; same = refl }) }
calm_due v d entries (Some (act.Opens k)) least due = absurd (omega (arith, least, due.1))
calm_due v d entries (Some act.Stops) least due = record { quiet = calm_stops d.plan.mode; stays = λ file. refl; keeps = λ file. refl; way = λ file. inr (inl refl) }
calm_due v d entries (Some (act.Restarts k)) least due = record {
  quiet = calm_restart d.plan.mode k;
  stays = λ file. refl;
  keeps = λ file. refl;
  way = λ file. inr (inr (record { less = due.1; one = ap (λ (n : ℕ). restart_write n ∷ []) due.0; next = ap (λ (n : ℕ). n + 1) due.0 }));
}
calm_due v d entries (Some (act.Clears dev)) least due = record {
  quiet = calm_clears d.plan.mode dev;
  stays = λ file. opened_cleared dev file d.plan;
  keeps = λ file. mode_cleared dev file d.plan;
  way = λ file. inl (record { firm_is = firm_clears d.plan.mode dev; same = restarted_cleared dev file d.plan });
}
calm_due v d entries (Some (act.Orders order)) least due = record {
  quiet = calm_order d.plan.mode order;
  stays = λ file. opened_ordered order file d.plan;
  keeps = λ file. mode_ordered order file d.plan;
  way = λ file. inl (record { firm_is = firm_order d.plan.mode order; same = restarted_ordered order file d.plan });
}
calm_due v d entries (Some (act.Steps dev stage)) least due = record {
  quiet = sending_pass (calm_effect d.plan.mode) d.plan.mode 30 dev (stage_fields dev stage) (reads_page stage) (λ f. refl) (calm_issuing d.plan.mode 30 dev false);
  stays = λ file. refl;
  keeps = λ file. refl;
  way = λ file. inl (record { firm_is = sending_pass firm_effect d.plan.mode 30 dev (stage_fields dev stage) (reads_page stage) (λ f. refl) (firm_issuing d.plan.mode 30 dev false); same = refl });
}
calm_due v d entries (Some (act.Issues slot dev queued)) least due = record {
  quiet = calm_issuing d.plan.mode slot dev queued;
  stays = λ file. refl;
  keeps = λ file. refl;
  way = λ file. inl (record { firm_is = firm_issuing d.plan.mode slot dev queued; same = refl });
}

pub turn_opens : (v : Sight) (plan : Plan) (entries : List (Option Entry)) → nat_lt plan.opened 7 ≡ true → turn_of v plan entries ≡ plain_turn plan (Some (act.Opens plan.opened)) false
unfolding turn_of early_due
turn_opens v plan entries h = rw h refl

below : (n m : ℕ) → nat_lt n m ≡ true → n < m
below n m h = grind (arith, nat_tests)

pub not_below : (n m : ℕ) → nat_lt n m ≡ false → m ≤ n
not_below n m h = grind (arith, nat_tests)

opens : (v : Sight) (file : TaskFile) (d : Driver) → nat_lt d.plan.opened 7 ≡ true → Opening v file d
unfolding effects_of plan_after after_tick
opens v file d less =
    let is : turn v d ≡ plain_turn d.plan (Some (act.Opens d.plan.opened)) false = turn_opens v d.plan (done_ended v.issued d.entries) less in
    record {
      less = below d.plan.opened 7 less;
      one = ap (λ (t : Turn). effects_due d.plan.mode t.act) is;
      plan_is = ap (λ (t : Turn). (acted t.act file (record d { plan = t.plan; entries = logged_ended v.log t.logged (done_ended v.issued d.entries) })).plan) is;
    }

goes : (v : Sight) (file : TaskFile) (d : Driver) → nat_lt d.plan.opened 7 ≡ false → Going v file d
unfolding after_tick
goes v file d more =
    let least : 7 ≤ d.plan.opened = not_below d.plan.opened 7 more in
    let same : PlanGoes v d.plan (turn v d).plan = goes_turn v d.plan (done_ended v.issued d.entries) in
    let opened : (turn v d).plan.opened ≡ d.plan.opened = same.opened in
    let is : Calm (turn v d).act (seen v d) =
    calm_due v (seen v d) (done_ended v.issued d.entries) (turn v d).act (omega (arith, least, opened)) (due_turn v d.plan (done_ended v.issued d.entries)) in
    record {
      least = least;
      quiet = subst (λ (m : Mode). list_all (calm_effect m) (effects_due m (turn v d).act) ≡ true) same.mode is.quiet;
      opened_is = is.stays file ∙ opened;
      mode_is = is.keeps file ∙ same.mode;
      way = subst (λ (m : Mode). Way m (turn v d).act d.plan.restarted (acted (turn v d).act file (seen v d)).plan.restarted) same.mode
          (subst (λ (n : ℕ). Way (turn v d).plan.mode (turn v d).act n (acted (turn v d).act file (seen v d)).plan.restarted) same.restarted (is.way file));
    }

pub tick_is : (v : Sight) (file : TaskFile) (d : Driver) → Opening v file d ⊎ Going v file d
tick_is v file d = elim (cases_Bool (nat_lt d.plan.opened 7)) [ inl less ↦ inl (opens v file d less) | inr more ↦ inr (goes v file d more) ]

-- the mode stays
pub mode_ticked : (v : Sight) (file : TaskFile) (d : Driver) → (after_tick v file d).plan.mode ≡ d.plan.mode
mode_ticked v file d = elim (tick_is v file d) [
  | inl first ↦ ap (λ (p : Plan). p.mode) first.plan_is
  | inr going ↦ going.mode_is
]

-- ---- no device is there before the port is open

pub none_ticked : (v : Sight) (file : TaskFile) (d : Driver) → KnowsNone d.plan → KnowsNone (after_tick v file d).plan
none_ticked v file d h = elim (tick_is v file d) [
  | inl first ↦ subst KnowsNone (sym first.plan_is) (λ less dev. h first.less dev)
  | inr going ↦ λ less dev. absurd (open_not d.plan.opened (after_tick v file d).plan.opened going.least going.opened_is less)
]
  where
    open_not : (n m : ℕ) → 7 ≤ n → m ≡ n → m < 7 → ⊥
    open_not n m h k l = omega (arith, h, k, l)
