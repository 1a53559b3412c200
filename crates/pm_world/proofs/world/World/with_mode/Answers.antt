use Rattle.std.proofs.{Common.{◌≡◌, ◌↔◌, Bool, true, false, refl, ap, ◌∙◌, [], Ok, Err, map}, lemmas.List.{length-map}}
use Rattle.std.specs.Prelude.{Result, length}
use Rattle.pm_world.specs.{Places.{Places, is_config}, declared.step.WorldError.{WorldError, TheVariants.BadConfig}}
use Rattle.pm_world.proofs.world.World.with_mode.Goals as goal

-- what was made has a configuration that fits
fits_made : (b : Bool) (r : Result Places WorldError) (w : Places) → (r ≡ Err BadConfig) ↔ (b ≡ false) → r ≡ Ok w → b ≡ true
fits_made true r w iff is = refl
fits_made false r w iff is = let bad : r ≡ Err BadConfig = iff.1 refl in absurd (cc (bad, is))

pub invariant_of-result : goal.invariant_of-result
invariant_of-result g c = record {
  mode = c.args.mode;
  config = c.args.config;
  units = map g.D.PortDevice.seen c.args.units.items;
  fits =
      ap (is_config c.args.config) (length-map c.args.units.items g.D.PortDevice.seen)
      ∙ fits_made (is_config c.args.config (length c.args.units.items)) c.new.result c.in_ok-machine.machine c.new.ensures.bad_config c.in_ok-machine.was;
  steps = [];
  answers = [];
  run = c.in_ok-machine.ensures.ok;
}
