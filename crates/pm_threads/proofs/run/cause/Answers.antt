use Rattle.std.proofs.Common.{rules, ◌≡◌, ◌∙◌, List, Option, None, true, false, sym}
use Rattle.std.specs.{Prelude.All, List.list_any}
use Rattle.disk_thread.specs.declared.worker.DiskEnd.{DiskEnd}
use Rattle.host_thread.specs.{Runs.is_open, declared.end.HostEnd.HostEnd}
use Rattle.pm_thread.specs.declared.end.PmEnd.{PmEnd}
use Rattle.runner.specs.declared.worker.Fault.{Fault}
use Rattle.pm_threads.specs.Halts.{IsOpen, is_any_short, is_shut}
use Rattle.pm_threads.proofs.Ends.{all_quiet, first_false}
use Rattle.pm_threads.proofs.run.cause.Goals as goal

quiet : {D : Type 0} (disks : List (DiskEnd D)) (pm host : Option Fault) → is_any_short disks pm host ≡ false
    → list_any (λ e. is_shut e.fault) disks ≡ false → All (λ e. e.fault ≡ None) disks
quiet disks pm host short shut = all_quiet (λ e. e.fault) disks (first_false _ _ _ short) shut

-- a request is open, and no worker lacked memory or ended by its gate
open_ends : {D : Type 0} (disks : List (DiskEnd D)) (pm : PmEnd) (host : HostEnd) → is_any_short disks pm.fault host.fault ≡ false
    → list_any (λ e. is_shut e.fault) disks ≡ false → list_any is_open host.worker.states ≡ true
    → IsOpen (record { disks = disks; pm = pm; host = host })
open_ends disks pm host short shut is =
    record { memory = short; quiet = quiet disks pm.fault host.fault short shut; open_is = is }

pub returns-then-is_any_spent-clause-why : goal.returns-then-is_any_spent-clause-why
returns-then-is_any_spent-clause-why g c =
    let not_short : c.is_any_short.result ≡ false = search rules in
    let not_shut : c.any_shut.result ≡ false = search rules in
    let is : c.is_open.result ≡ true = search rules in
    let spent : c.is_any_spent.result ≡ true = search rules in (
      open_ends c.args.disks.now c.args.pm.now c.args.host.now (sym c.is_any_short.ensures ∙ not_short)
          (sym c.any_shut.ensures ∙ not_shut) (sym c.is_open.ensures ∙ is),
      sym c.is_any_spent.ensures ∙ spent,
    )

pub returns-then-is_open-clause-why : goal.returns-then-is_open-clause-why
returns-then-is_open-clause-why g c =
    let not_short : c.is_any_short.result ≡ false = search rules in
    let not_shut : c.any_shut.result ≡ false = search rules in
    let is : c.is_open.result ≡ true = search rules in
    let not_spent : c.is_any_spent.result ≡ false = search rules in (
      open_ends c.args.disks.now c.args.pm.now c.args.host.now (sym c.is_any_short.ensures ∙ not_short)
          (sym c.any_shut.ensures ∙ not_shut) (sym c.is_open.ensures ∙ is),
      sym c.is_any_spent.ensures ∙ not_spent,
    )

pub returns-clause-quiet : goal.returns-clause-quiet
returns-clause-quiet g c =
    let not_short : c.is_any_short.result ≡ false = search rules in
    let not_shut : c.any_shut.result ≡ false = search rules in
    quiet c.args.disks.now c.args.pm.now.fault c.args.host.now.fault (sym c.is_any_short.ensures ∙ not_short)
    (sym c.any_shut.ensures ∙ not_shut)
