use Rattle.std.proofs.Common.{rules, ◌≡◌, Option, None, Some, subst}
use Rattle.std.specs.Prelude.{All, IfNone}
use Rattle.disk_thread.specs.declared.worker.DiskEnd.{DiskEnd}
use Rattle.pm_threads.specs.{Halts.IsWhy, declared.run.RunError.RunError}
use Rattle.pm_threads.proofs.run.finished.Goals as goal

if_none : (r : Option RunError) (P : Type 0) → IfNone r P → r ≡ None → P
if_none None P p is = p
if_none (Some error) P p is = absurd cc

pub returns-in-Some-clause-why : goal.returns-in-Some-clause-why
returns-in-Some-clause-why g c =
    let first : c.as_slice.result.now ≡ c.args.disks.items = search rules in
    subst (λ l. IsWhy c.in-Some.error (record { disks = l; pm = c.args.pm; host = c.args.host })) first c.in-Some.ensures.why

pub returns-clause-no_fault : goal.returns-clause-no_fault
returns-clause-no_fault g c =
    let first : c.as_slice.result.now ≡ c.args.disks.items = search rules in
    let none : c.cause.result ≡ None = search rules in
    subst (All (λ (e : DiskEnd g.row.D.Denot). e.fault ≡ None)) first (if_none c.cause.result _ c.cause.ensures.quiet none)
