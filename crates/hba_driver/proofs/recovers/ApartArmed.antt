-- For `none_is_armed`. No bit of PxSACT is left set between two turns.
use Rattle.std.proofs.Common.{◌≡◌, List, [], ◌∷◌, ◌∙◌, ap}
use Rattle.hba_driver.specs.{Events.opening_host, HostTurns.{DoesAll, Host, HostTurn}, Slot30.NoneIsArmed, Between.IsOnWay}
use Rattle.hba_driver.proofs.accepted.AcceptLemmas.{way_opens, way_turn}

unarmed_over : (turns : List HostTurn) (old new : Host) → DoesAll old turns new → IsOnWay old → new.port.registers.armed ≡ 0
unarmed_over [] old new run w = ap (λ (h : Host). h.port.registers.armed) run ∙ w.unarmed
unarmed_over (t ∷ turns) old new run w = unarmed_over turns run.0 new run.2 (way_turn old t run.0 run.1 w)

pub none_is_armed : NoneIsArmed
none_is_armed given start right turns h run = unarmed_over turns (opening_host given start) h run (way_opens given start right)
