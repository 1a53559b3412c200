-- For `connections_follow`. Connections come one after another, over every run from a new world.
use Rattle.std.proofs.Common.{◌≡◌, ◌<◌, ℕ, true, List, length, Some}
use Rattle.multiplier.specs.State.{port_at}
use Rattle.pm_world.specs.{Attached.Attached, Places.{Places, is_config, new_world}, Rules.Run, Traffic.is_removed, declared.step.Config.Config}
use Rattle.pm_world.specs.{declared.{step.Step.Step, step.Answer.Answer}, Connections.ConnectionsFollow}
use Rattle.pm_world.proofs.ports.{FirmLemmas.{opening_firm, removed_before, run_firm}, SentLemmas.none_on_way}

are_removed : (config : Config) (units : List Attached) → is_config config (length units) ≡ true → (steps : List Step) (answers : List Answer) (now : Places)
    → Run (new_world config units) steps answers now → (n c d : ℕ) → n < 15 → (port_at now.multiplier n).present ≡ Some c → 0 < d → d < c
    → is_removed n d now ≡ true
are_removed config units fits steps answers now run n c d below there some less =
    removed_before n c d now (run_firm n below (new_world config units) steps answers now run (opening_firm config units fits n)) there some less

pub connections_follow : ConnectionsFollow
connections_follow = record {
  removed = are_removed;
  none_early = λ config units fits steps answers now run n d below unused there. none_on_way n d below config units fits steps answers now run unused there;
}
