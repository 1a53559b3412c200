-- For `reports_are_honest_in_each_phase`. Events between two FISes of a disk leave both together.
use Rattle.std.proofs.Common.{ap, inr}
use Rattle.hba_fbs.specs.Views.{DeviceView}
use Rattle.disk_model.specs.Ledger.{ledger}
use Rattle.disk_simulation.specs.{Anew.{IsHostedOn, issues, stays}, Phases.CalmLeavesTogether}
use Rattle.disk_simulation.proofs.others.CalmLemmas.{calm_one}

pub calm_leaves_together : CalmLeavesTogether
calm_leaves_together n base host new event given commands next past below sound does calm hosted =
    calm_one n (ledger given) host new commands next past (λ h f p. IsHostedOn n base h given f p)
    (λ same. stays host new given commands past
    (record { slots = ap (λ (v : DeviceView). v.slots) same; block = ap (λ (v : DeviceView). v.state.block) same }) (inr same) hosted)
    (λ value does i. issues host new value given commands next past sound i.0 does i.1 i.2 i.3 hosted) event below does calm
