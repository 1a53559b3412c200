-- For `turns_are_steady`. A host with FIS-based switching: what its tick does, and what it sees.
use Rattle.std.proofs.Common.{◌≡◌, Bool, true, ap, subst}
use Rattle.std.specs.List.{list_all}
use Rattle.hba_driver.specs.{declared.mode.Mode.{Mode, TheVariants.Switching}, Effects.{ActsAll, is_effect}, Events.IsSoundHost}
use Rattle.hba_driver.specs.{HostTurns.{Does, Host, Ticked, sight_in}, Sights.sight_of, Ticks.{due, effects_due}}

pub tick_acts : (h : Host) (a : Bool) (new : Host) → Does h (Ticked a) new → IsSoundHost h → ActsAll (effects_due Switching (due (sight_in h) h.driver)) h.port h.memory new.port new.memory
tick_acts h a new does s = subst (λ (m : Mode). ActsAll (effects_due m (due (sight_in h) h.driver)) h.port h.memory new.port new.memory) s.drives does.does

pub tick_possible : (h : Host) (a : Bool) (new : Host) → Does h (Ticked a) new → IsSoundHost h → list_all is_effect (effects_due Switching (due (sight_in h) h.driver)) ≡ true
tick_possible h a new does s = subst (λ (m : Mode). list_all is_effect (effects_due m (due (sight_in h) h.driver)) ≡ true) s.drives does.possible

pub sight_is : (h : Host) → IsSoundHost h → sight_in h ≡ sight_of Switching h.port h.memory
sight_is h s = ap (λ (m : Mode). sight_of m h.port h.memory) s.drives
