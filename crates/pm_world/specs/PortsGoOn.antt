-- The host port of a world goes on. Each FIS that the control port of its multiplier sends is a
-- Register Device to Host FIS or a Set Device Bits FIS, so nothing stops the port (AHCI 1.3.1, 6.1,
-- error types; Serial ATA 3.x, 16.2, control port). What stops a host port is cited from `hba_driver`
-- (specs/Going.antt).
use Rattle.std.specs.Prelude.{ℕ, ◌≡◌, true, List, length, Ok}
use Rattle.hba_fbs.specs.declared.report.TakeReport.{TakeReport}
use Rattle.hba_driver.specs.Going.{GoesOn, IsOfControl}
use Rattle.pm_world.specs.{Attached.Attached, Places.{Places, is_config, new_world}, Rules.{Rule, Run}, declared.{step.Config.Config, step.Step.Step}}
use Rattle.pm_world.specs.declared.step.Answer.{Answer}
use Rattle.pm_world.specs.declared.step.Answer.TheVariants as answer

-- No fault of the host port stands, nothing that comes or goes next makes one, and no tick stops it.
-- What comes next from the control port is such a FIS.
pub record PortGoesOn (now : Places) : Type 0 where
  pub goes : GoesOn now.host
  pub control : (s : Step) (port conn number : ℕ) (bytes : List ℕ) (report : TakeReport) (new : Places)
      → Rule now s (Ok (answer.Took port conn number bytes report)) new → IsOfControl bytes

-- that holds in each world to which a run from a new one leads
abbrev pub PortsGoOn : Type 0
PortsGoOn =
    (config : Config) (units : List Attached) → is_config config (length units) ≡ true
    → (steps : List Step) (answers : List Answer) (now : Places)
    → Run (new_world config units) steps answers now → PortGoesOn now
