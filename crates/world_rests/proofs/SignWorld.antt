-- For `rested_disks_have_signed`. The lemmas of `pm_world` that the files Sign* use, and their words: how a unit waits at its port until the port
-- is cleared, how the port stays open to it from then on, and what a step is to its host.
pub use Rattle.pm_world.proofs.control_port.LineLemmas.{IsNow}
pub use Rattle.pm_world.proofs.honest.AnewLemmas.{now_at}
pub use Rattle.pm_world.proofs.honest.EarlyLemmas.{ComesShut, comes_shut}
pub use Rattle.pm_world.proofs.honest.EndsSteps.{IsNoTurn, IsUnflushed, aside, same_host}
pub use Rattle.pm_world.proofs.honest.FlushedLemmas.{unflushed}
pub use Rattle.pm_world.proofs.honest.ForwardLemmas.{met_at, open_forwards}
pub use Rattle.pm_world.proofs.honest.LiveLemmas.{IsLive, StaysPresent, live_after, open_or_waits, stays_present}
pub use Rattle.pm_world.proofs.honest.PulledLemmas.{Goes, Stuck, Unplugs, unplugs_or_not}
pub use Rattle.pm_world.proofs.honest.ShutLemmas.{WaitsFor, waits_after}
pub use Rattle.pm_world.proofs.honest.WaitingLemmas.{IsWaiting, all_sent, came_waiting, waits_on}
pub use Rattle.pm_world.proofs.meant.OrderLemmas.{Knows}
pub use Rattle.pm_world.proofs.meant.OrderTurns.{opening_knows, order_step}
pub use Rattle.pm_world.proofs.paths.PlaceLemmas.{KeepsPlace, keeps_down, keeps_from_device, keeps_inject, keeps_presence, keeps_send, keeps_take, same_place}
pub use Rattle.pm_world.proofs.ports.FirmLemmas.{IsFirm, firm_at}
pub use Rattle.pm_world.proofs.ports.KeepingLemmas.{is_there}
pub use Rattle.pm_world.proofs.serving.FirstLemmas.{comes_risen}
pub use Rattle.pm_world.proofs.serving.GivenLemmas.{HasGiven, host_gives}
pub use Rattle.pm_world.proofs.serving.TookLemmas.{host_takes, plain_frame}
pub use Rattle.pm_world.proofs.turns.HostFold.{rule_does}
pub use Rattle.pm_world.proofs.upward.Law.{run_append}
pub use Rattle.pm_world.proofs.upward.PortMarks.{opening_marks, run_marks}
