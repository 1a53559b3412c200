-- For `turns_tend`. A device that is flushed is not in software reset afterwards.
use Rattle.std.proofs.{Common.{◌≡◌, ℕ, ◌<◌, Bool, false, List, [], ◌∷◌, sym, subst, inl, inr, refl, Option, Some, None, ◌++◌}, lemmas.Bool.cases_eq}
use Rattle.std.specs.Prelude.{MatchOption, ◌==◌}
use Rattle.host_memory.specs.Memory.{Memory}
use Rattle.hba_fbs.specs.{declared.{register.Register.{Register, TheVariants.{Cmd, Ci, Fbs}}, error.WriteError.WriteError}, Issuing.aimed}
use Rattle.hba_fbs.specs.{Issuing.view_issued, Offsets.register_at, Registers.falls, Views.{DeviceView, Port, stopped_view, view_of}, Writing.Accepts}
use Rattle.hba_fbs.specs.Writing.{cleared_by, is_device, view_after, write_refusal}
use Rattle.hba_driver.specs.{declared.{effect.Effect.Effect, mode.Mode.Mode, order.Order.TheVariants.Clear, turn.Act.Act}, Effects.{Acts, ActsAll}}
use Rattle.hba_driver.specs.{Effects.{Tries, effects_of, emptying, order_command, order_effects}, HostTurns.{Does, Host, Ticked}, Steady.IsFlushTick}
use Rattle.hba_driver.specs.{Tended.IsUnreset, Ticks.effects_due}
use Rattle.hba_driver.specs.declared.effect.Effect.TheVariants as effect
use Rattle.hba_driver.proofs.goes_on.StopLemmas.{either}

-- ---- no effect begins a software reset

abbrev Off : DeviceView → Type 0
Off v = v.state.resetting ≡ false

written_off : (n value : ℕ) (old : Port) (memory : Memory) (register : Register) → Off (view_of n old) → Off (view_after register old memory value n)
unfolding view_after
written_off n value old memory Cmd off = either Off (falls old.registers value) (stopped_view (view_of n old)) (view_of n old) refl off
written_off n value old memory Ci off = either Off (n == aimed old.registers memory.structure value) (view_issued old.registers memory value (view_of n old)) (view_of n old) off off
written_off n value old memory Fbs off = either Off (is_device n (cleared_by old.errors value)) (stopped_view (view_of n old)) (view_of n old) refl off
written_off n value old memory other off = off

accepted_off : (n value : ℕ) (old new : Port) (memory : Memory) (o : Option Register) → n < 16 → Off (view_of n old) → MatchOption o ⊥ (λ register. Accepts old memory register value new) → Off (view_of n new)
accepted_off n value old new memory None below off does = absurd does
accepted_off n value old new memory (Some register) below off does = subst Off (sym (does.views n below)) (written_off n value old memory register off)

tried_off : (n offset value : ℕ) (old new : Port) (memory : Memory) (o : Option WriteError) → write_refusal old memory offset value ≡ o → n < 16 → Off (view_of n old) → Tries old memory offset value new → Off (view_of n new)
tried_off n offset value old new memory None is below off does = accepted_off n value old new memory (register_at offset) below off (does.accepted is)
tried_off n offset value old new memory (Some e) is below off does = subst (λ (p : Port). Off (view_of n p)) (sym (does.refused e is)) off

effect_off : (n : ℕ) (e : Effect) (old new : Port) (before after : Memory) → n < 16 → Off (view_of n old) → Acts e old before new after → Off (view_of n new)
effect_off n (effect.Writes offset value) old new before after below off acts = tried_off n offset value old new before (write_refusal old before offset value) refl below off acts.0
effect_off n (effect.Flushes dev) old new before after below off acts = elim (cases_eq n dev) [
  | inl same ↦ subst (λ (k : ℕ). Off (view_of k new)) (sym same) (subst Off (sym acts.0.own) refl)
  | inr other ↦ subst Off (sym (acts.0.others n other)) off
]
effect_off n rest old new before after below off acts = subst (λ (p : Port). Off (view_of n p)) (sym acts.0) off

effects_off : (n : ℕ) (es : List Effect) (old new : Port) (before after : Memory) → n < 16 → Off (view_of n old) → ActsAll es old before new after → Off (view_of n new)
unfolding ActsAll
effects_off n [] old new before after below off acts = subst (λ (p : Port). Off (view_of n p)) (sym acts.0) off
effects_off n (e ∷ es) old new before after below off acts =
    effects_off n es acts.0 new acts.1 after below (effect_off n e old acts.0 before acts.1 below off acts.2) acts.4

-- ---- its flush ends a reset

cleared_off : (n : ℕ) (mode : Mode) (old new : Port) (before after : Memory) → n < 16 → ActsAll (order_effects mode (Clear n)) old before new after → Off (view_of n new)
unfolding ActsAll order_effects
cleared_off n mode old new before after below acts =
    effects_off n (emptying mode n ++ order_command mode (Clear n)) acts.0 new acts.1 after below (subst Off (sym acts.2.0.own) refl) acts.4

pub flush_unreset : (n : ℕ) (old : Host) (a : Bool) (new : Host) → n < 16 → Does old (Ticked a) new → IsFlushTick n old → IsUnreset n new
unfolding effects_of
flush_unreset n old a new below does is =
    cleared_off n old.driver.plan.mode old.port new.port old.memory new.memory below (subst (λ (x : Option Act). ActsAll (effects_due old.driver.plan.mode x) old.port old.memory new.port new.memory) is does.does)
