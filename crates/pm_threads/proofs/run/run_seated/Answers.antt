use Rattle.std.proofs.{Common.{rules, ◌≡◌, ℕ, List, None, Some, sym, ap, ◌∙◌, subst, arith}, lemmas.List.{length-map}}
use Rattle.runner.specs.declared.worker.Fault.TheVariants as fault
use Rattle.pm_threads.proofs.{Zips.zip_long, Ends.{all_at_ports, all_tied, all_ran, all_ran_unless, if_ok, on_ok, one_refused}, Failures.has_begun}
use Rattle.pm_threads.proofs.Failures.{is_told, left_is, shut_by_gate}
use Rattle.std.specs.{Prelude.{map, All, IfSome}, List.AllZip}
use Rattle.disk_model.specs.Histories.{Happening, Plan}
use Rattle.disk_thread.specs.{Runs.{StationState, IsRun, GoesOnRunning, IsAtSamePort}, declared.worker.DiskEnd.DiskEnd}
use Rattle.pm_thread.specs.{Runs.{SameLinks, LinkEnd}, declared.end.PmEnd.PmEnd}
use Rattle.host_thread.specs.{Runs.{GoesOn, Same, LinkEnd as HostLinkEnd}, declared.end.HostEnd.HostEnd}
use Rattle.pm_threads.specs.{Ends.{Ends, AllGoOn, RunsWith}, Setups.pulls_at, Halts.{Halt, LeadsTo}}
use Rattle.pm_threads.proofs.run.run_seated.Goals as goal

module _ {D : Type 0} (plan_of : D → Plan) (StandsFor : D → List Happening → Type 0) (MaySend : Plan → List Happening → List ℕ → Type 0) (MayRefuse : Type 0) (turns : ℕ) where
  abbrev pub Ended : StationState D → DiskEnd D → Type 0
  Ended w e =
      IsAtSamePort w e.station × (e.fault ≡ None → GoesOnRunning plan_of StandsFor MaySend w e.station) × (e.fault ≡ Some fault.GateShut → MayRefuse)
      × IfSome e.spent (λ s. s.turns ≡ turns)

  still_ran : (pulls : List (ℕ × ℕ)) (u : D) (w : StationState D) (e : DiskEnd D) → Ended w e → e.fault ≡ None → RunsWith plan_of StandsFor MaySend pulls u w
      → RunsWith plan_of StandsFor MaySend pulls u e.station
  still_ran pulls u w e r quiet was =
      subst (λ n. IsRun plan_of StandsFor MaySend (pulls_at n pulls) u e.station) (sym r.0.port) (r.1 quiet (pulls_at w.port pulls) u was)

pub finished-requires : goal.finished-requires
finished-requires g c =
    let d = g.D.Device in
    let ended : AllZip (Ended d.plan_of d.stands_for d.may_send g.G.Gate.may_refuse c.args.turns) c.args.workers.items c.in_ok-disks.disks.items = search rules in
    let links : SameLinks c.args.pm c.in_ok-disks.pm.worker = search rules in
    let same : Same c.args.host c.in_ok-disks.host.worker = search rules in
    record {
      few = (let few = c.requires.few in let long = zip_long (Ended d.plan_of d.stands_for d.may_send g.G.Gate.may_refuse c.args.turns) _ _ ended in
          let same = length-map c.in_ok-disks.disks.items (λ (e : DiskEnd g.row.D.Denot). e.station) in omega (arith, few, long, same));
      tied = all_tied (λ (e : DiskEnd g.row.D.Denot). e.station) (Ended d.plan_of d.stands_for d.may_send g.G.Gate.may_refuse c.args.turns) (λ w e r. r.0) _ _ _ _ c.requires.tied ended links.ports;
      up = ap (λ (x : LinkEnd). x.link) links.host ∙ c.requires.up ∙ sym (ap (λ (x : HostLinkEnd). x.link) same.frames);
      down = ap (λ (x : HostLinkEnd). x.link) same.commands ∙ c.requires.down ∙ sym (ap (λ (x : LinkEnd). x.link) links.commands);
    }

pub returns-clause-disks : goal.returns-clause-disks
returns-clause-disks g c =
    let d = g.D.Device in
    let ended : AllZip (Ended d.plan_of d.stands_for d.may_send g.G.Gate.may_refuse c.args.turns) c.args.workers.items c.in_ok-disks.disks.items = search rules in
    on_ok c.finished.result (All (λ (e : DiskEnd g.row.D.Denot). e.fault ≡ None) c.in_ok-disks.disks.items)
    (λ (f : Ends g.row.D.Denot). f.disks ≡ map (λ (e : DiskEnd g.row.D.Denot). e.station) c.in_ok-disks.disks.items)
    (λ (f : Ends g.row.D.Denot). AllGoOn d.plan_of d.stands_for d.may_send c.args.workers.items f.disks) c.finished.ensures.disks c.finished.ensures.no_fault
    (λ f is none pulls units ran. subst (AllZip (RunsWith d.plan_of d.stands_for d.may_send pulls) units) (sym is)
    (all_ran (λ (e : DiskEnd g.row.D.Denot). e.station) (Ended d.plan_of d.stands_for d.may_send g.G.Gate.may_refuse c.args.turns) (λ (e : DiskEnd g.row.D.Denot). e.fault) (RunsWith d.plan_of d.stands_for d.may_send pulls) (still_ran d.plan_of d.stands_for d.may_send g.G.Gate.may_refuse c.args.turns pulls)
    units _ _ ran ended none))

pub returns-clause-ports : goal.returns-clause-ports
returns-clause-ports g c =
    let d = g.D.Device in
    let ended : AllZip (Ended d.plan_of d.stands_for d.may_send g.G.Gate.may_refuse c.args.turns) c.args.workers.items c.in_ok-disks.disks.items = search rules in
    if_ok c.finished.result (λ (f : Ends g.row.D.Denot). f.disks ≡ map (λ (e : DiskEnd g.row.D.Denot). e.station) c.in_ok-disks.disks.items)
    (λ (f : Ends g.row.D.Denot). map (λ (s : StationState g.row.D.Denot). s.port) f.disks ≡ map (λ (s : StationState g.row.D.Denot). s.port) c.args.workers.items) c.finished.ensures.disks
    (λ f is. ap (map (λ (s : StationState g.row.D.Denot). s.port)) is
    ∙ all_at_ports (λ (e : DiskEnd g.row.D.Denot). e.station) (Ended d.plan_of d.stands_for d.may_send g.G.Gate.may_refuse c.args.turns) (λ w e r. r.0) c.args.workers.items c.in_ok-disks.disks.items ended)

-- what is left of a run that has not finished
abbrev left_of : {D : Type 0} → List (DiskEnd D) → PmEnd → HostEnd → Halt D
left_of disks pm host = record { disks = disks; pm = pm; host = host }

pub returns-clause-gate : goal.returns-clause-gate
returns-clause-gate g c shut =
    let d = g.D.Device in
    let ended : AllZip (Ended d.plan_of d.stands_for d.may_send g.G.Gate.may_refuse c.args.turns) c.args.workers.items c.in_ok-disks.disks.items = search rules in
    one_refused (λ (e : DiskEnd g.row.D.Denot). e.fault) (Ended d.plan_of d.stands_for d.may_send g.G.Gate.may_refuse c.args.turns) g.G.Gate.may_refuse (λ w e r is. r.2 is)
    c.args.workers.items c.in_ok-disks.disks.items ended
    (shut_by_gate c.finished.result (left_of c.in_ok-disks.disks.items c.in_ok-disks.pm c.in_ok-disks.host) c.finished.ensures.why shut)

pub returns-clause-begun : goal.returns-clause-begun
returns-clause-begun g c bad =
    has_begun c.finished.result (left_of c.in_ok-disks.disks.items c.in_ok-disks.pm c.in_ok-disks.host) c.finished.ensures.why bad

pub returns-clause-why : goal.returns-clause-why
returns-clause-why g c =
    is_told c.finished.result (left_of c.in_ok-disks.disks.items c.in_ok-disks.pm c.in_ok-disks.host) c.finished.ensures.left c.finished.ensures.why

pub returns-clause-left : goal.returns-clause-left
returns-clause-left g c =
    let d = g.D.Device in
    let ended : AllZip (Ended d.plan_of d.stands_for d.may_send g.G.Gate.may_refuse c.args.turns) c.args.workers.items c.in_ok-disks.disks.items = search rules in
    let goes : GoesOn c.args.host c.in_ok-disks.host.worker = search rules in
    let same : Same c.args.host c.in_ok-disks.host.worker = search rules in
    left_is c.finished.result (left_of c.in_ok-disks.disks.items c.in_ok-disks.pm c.in_ok-disks.host)
    (LeadsTo d.plan_of d.stands_for d.may_send c.args.workers.items c.args.host) c.finished.ensures.left
    (record {
      disks = λ pulls units ran. all_ran_unless (λ (e : DiskEnd g.row.D.Denot). e.station) (Ended d.plan_of d.stands_for d.may_send g.G.Gate.may_refuse c.args.turns)
          (λ (e : DiskEnd g.row.D.Denot). e.fault) (RunsWith d.plan_of d.stands_for d.may_send pulls) (still_ran d.plan_of d.stands_for d.may_send g.G.Gate.may_refuse c.args.turns pulls) units _ _ ran ended;
      ports = all_at_ports (λ (e : DiskEnd g.row.D.Denot). e.station) (Ended d.plan_of d.stands_for d.may_send g.G.Gate.may_refuse c.args.turns) (λ w e r. r.0) c.args.workers.items c.in_ok-disks.disks.items ended;
      goes_on = goes;
      plan = same.plan;
    })
