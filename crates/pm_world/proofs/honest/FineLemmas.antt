-- For `disks_are_honest`. In a run from a new world the port goes on, and no fault stands of a device for which none
-- was heard. What goes fine with a device goes well with it and with the port.
use Rattle.std.proofs.{Common.{◌≡◌, ℕ, ◌<◌, true, false, List, [], ◌∷◌, ◌++◌, length, refl, sym, ◌∙◌, Ok}, lemmas.Bool.{eq-eqb, true≢false}}
use Rattle.host_memory.specs.Memory.{zeroed}
use Rattle.hba_driver.specs.{declared.mode.Mode.TheVariants.Switching, Events.IsSoundHost}
use Rattle.disk_recovery.specs.Between.{IsUnfaulted}
use Rattle.hba_driver.proofs.Door.{calm_or_flush, hosts_stay_sound, zeroed_right}
use Rattle.pm_world.specs.{Attached.Attached, Places.{Places, is_config, new_world}, Rules.{Rule, Run}, Runs.over, Turns.{IsOfItsPort, turn_of}}
use Rattle.pm_world.specs.{declared.step.{Config.Config, Step.Step, Answer.Answer}, PortsGoOn.PortGoesOn}
use Rattle.pm_world.proofs.{serving.FirstLemmas.{OpensWell, is_taken_of}, turns.{Delivery.sized, HostFold.run_does}, upward.Law.run_append}
use Rattle.pm_world.proofs.honest.UnfaultedLemmas.{IsHeardUnfaulted}
use Rattle.pm_world.specs.declared.step.Answer.TheVariants as answer
use Rattle.disk_recovery.proofs.Door.{never_cleared}

-- ## Steps

pub opens_step : (n : ℕ) (old : Places) → PortGoesOn old → IsSoundHost old.host → IsUnfaulted n old.host.port → (a : Answer) → OpensWell n old a
opens_step n old p sound none answer.Ticked = calm_or_flush n old.host p.goes (never_cleared n old.host sound none)
opens_step n old p sound none a = tt

-- nothing of the device is taken, and what is taken of it is heard with no fault
pub untaken_none : (n : ℕ) (a : Answer) → IsOfItsPort a → is_taken_of n a ≡ false → IsHeardUnfaulted n a
untaken_none n (answer.Took port conn number bytes report) its untaken =
    λ at. absurd (true≢false (sym (eq-eqb port n (sym its.0 ∙ at)) ∙ untaken))
untaken_none n a its untaken = tt

-- ## Runs

module _ (config : Config) (units : List Attached) (fits : is_config config (length units) ≡ true) (n : ℕ) (below : n < 15) where
  pub further : (before : List Step) (told : List Answer) (old : Places) → Run (new_world config units) before told old → (s : Step) (a : Answer) (new : Places)
      → Rule old s (Ok a) new → Run (new_world config units) (before ++ s ∷ []) (told ++ a ∷ []) new
  further before told old made s a new rule =
      run_append (new_world config units) old new before told (s ∷ []) (a ∷ []) made (new, rule, refl)

  pub sound_at : (before : List Step) (told : List Answer) (old : Places) → Run (new_world config units) before told old → IsSoundHost old.host
  sound_at before told old made =
      hosts_stay_sound.last (new_world config units).host (over turn_of (new_world config units) before told old made) old.host
      (run_does (new_world config units) before told old made) (hosts_stay_sound.opens Switching 0 (zeroed config.memory) (zeroed_right config.memory (sized config (length units) fits)))
