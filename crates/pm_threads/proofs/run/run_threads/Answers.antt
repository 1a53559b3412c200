use Rattle.std.proofs.Common.{rules, ◌≡◌, ℕ, true, false, List, length, Vec, Global, sym, subst, ap, ◌∙◌, arith}
use Rattle.std.specs.{Prelude.map, List.{AllZip, list_all}}
use Rattle.disk_thread.specs.Runs.{StationState}
use Rattle.host_thread.specs.Runs.{GoesOn, IsRun as IsHostRun}
use Rattle.pm_threads.specs.{Ends.{Ends, AllGoOn, RunsWith}, Halts.{IsLeftOf, LeadsTo}, Seats.{Starts, first_ports}, Setups.{is_fitting, lies_in}}
use Rattle.pm_threads.specs.Setups.{memory_of}
use Rattle.pm_threads.proofs.{Failures.{left_then, refused_gate, refused_left, refused_setup, refused_told}, Ends.{all_unused, starts_tied, if_ok}}
use Rattle.pm_threads.proofs.{Fits.{first_three, fits_puts, fits_size, fits_units, may_run, unit_for_each}, Zips.zip_long}
use Rattle.pm_threads.proofs.run.run_threads.Goals as goal

pub new-pm-requires-clause-some : goal.new-pm-requires-clause-some
new-pm-requires-clause-some g c =
    let d = g.D.Device in
    let starts : AllZip Starts c.in_ok-workers.workers.items c.in_ok-workers.ports.items = search rules in
    let due : c.deref.result.now ≡ c.args.setup.pulls.items = search rules in
    let runs : AllZip (RunsWith d.plan_of d.stands_for d.may_send c.args.setup.pulls.items) c.args.setup.units.items c.in_ok-workers.workers.items =
    subst (λ (l : List (ℕ × ℕ)). AllZip (RunsWith d.plan_of d.stands_for d.may_send l) c.args.setup.units.items c.in_ok-workers.workers.items) due c.in_ok-workers.ensures.run in
    let fits : is_fitting c.ports.result c.args.setup ≡ true = search rules in
    let few = unit_for_each c.ports.result (length c.args.setup.units.items) (first_three _ _ _ _ _ _ _ _ _ fits) in
    let one = few.0 in
    let long = zip_long Starts _ _ starts in
    let same = zip_long (RunsWith d.plan_of d.stands_for d.may_send c.args.setup.pulls.items) _ _ runs in
    omega (arith, one, long, same)

pub new-pm-requires-clause-at_most : goal.new-pm-requires-clause-at_most
new-pm-requires-clause-at_most g c =
    let d = g.D.Device in
    let starts : AllZip Starts c.in_ok-workers.workers.items c.in_ok-workers.ports.items = search rules in
    let due : c.deref.result.now ≡ c.args.setup.pulls.items = search rules in
    let runs : AllZip (RunsWith d.plan_of d.stands_for d.may_send c.args.setup.pulls.items) c.args.setup.units.items c.in_ok-workers.workers.items =
    subst (λ (l : List (ℕ × ℕ)). AllZip (RunsWith d.plan_of d.stands_for d.may_send l) c.args.setup.units.items c.in_ok-workers.workers.items) due c.in_ok-workers.ensures.run in
    let fits : is_fitting c.ports.result c.args.setup ≡ true = search rules in
    let few = unit_for_each c.ports.result (length c.args.setup.units.items) (first_three _ _ _ _ _ _ _ _ _ fits) in
    let most = few.1 in
    let long = zip_long Starts _ _ starts in
    let same = zip_long (RunsWith d.plan_of d.stands_for d.may_send c.args.setup.pulls.items) _ _ runs in
    omega (arith, most, long, same)

pub new-pm-requires-clause-unused : goal.new-pm-requires-clause-unused
new-pm-requires-clause-unused g c =
    let starts : AllZip Starts c.in_ok-workers.workers.items c.in_ok-workers.ports.items = search rules in
    all_unused _ _ starts

pub run_seated-requires-clause-tied : goal.run_seated-requires-clause-tied
run_seated-requires-clause-tied g c κs within =
    let starts : AllZip Starts c.in_ok-workers.workers.items c.in_ok-workers.ports.items = search rules in
    rw c.new-pm.ensures.ports (starts_tied _ _ starts)

pub returns-clause-disks : goal.returns-clause-disks
returns-clause-disks g c =
    let d = g.D.Device in
    let due : c.deref.result.now ≡ c.args.setup.pulls.items = search rules in
    let runs : AllZip (RunsWith d.plan_of d.stands_for d.may_send c.args.setup.pulls.items) c.args.setup.units.items c.in_ok-workers.workers.items =
    subst (λ (l : List (ℕ × ℕ)). AllZip (RunsWith d.plan_of d.stands_for d.may_send l) c.args.setup.units.items c.in_ok-workers.workers.items) due c.in_ok-workers.ensures.run in
    if_ok c.run_seated.result (λ (f : Ends g.row.D.Denot). AllGoOn d.plan_of d.stands_for d.may_send c.in_ok-workers.workers.items f.disks)
    (λ (f : Ends g.row.D.Denot). AllZip (RunsWith d.plan_of d.stands_for d.may_send c.args.setup.pulls.items) c.args.setup.units.items f.disks) c.run_seated.ensures.disks
    (λ f goes. goes c.args.setup.pulls.items c.args.setup.units.items runs)

pub returns-clause-host : goal.returns-clause-host
returns-clause-host g c =
    let start = memory_of c.args.setup.memory (map (λ (put : ℕ × Vec ℕ Global). (put.0, put.1.items)) c.args.setup.puts.items) in
    let given : c.deref-2.result.now ≡ c.args.setup.puts.items = search rules in
    let is : c.in_ok-memory.memory ≡ start =
    c.in_ok-memory.ensures
    ∙ ap (λ (l : List (ℕ × Vec ℕ Global)). memory_of c.args.setup.memory (map (λ (put : ℕ × Vec ℕ Global). (put.0, put.1.items)) l)) given in
    let ran : IsHostRun c.in_ok-memory.memory c.in_ok-host.host = search rules in
    if_ok c.run_seated.result (λ (f : Ends g.row.D.Denot). GoesOn c.in_ok-host.host f.host) (λ (f : Ends g.row.D.Denot). IsHostRun start f.host) c.run_seated.ensures.host
    (λ f goes. goes start (subst (λ m. IsHostRun m c.in_ok-host.host) is ran))

pub filled-requires-clause-puts : goal.filled-requires-clause-puts
filled-requires-clause-puts g c =
    let fits : is_fitting c.ports.result c.args.setup ≡ true = search rules in
    let given : c.deref-2.result.now ≡ c.args.setup.puts.items = search rules in
    subst (λ (l : List (ℕ × Vec ℕ Global)). list_all (λ put. lies_in c.args.setup.memory put.0 (length put.1.items)) l ≡ true) (sym given)
    (fits_puts c.ports.result c.args.setup fits)

pub filled-requires-clause-size : goal.filled-requires-clause-size
filled-requires-clause-size g c =
    let fits : is_fitting c.ports.result c.args.setup ≡ true = search rules in
    fits_size c.ports.result c.args.setup fits

pub run_seated-requires-clause-few : goal.run_seated-requires-clause-few
run_seated-requires-clause-few g c κs within =
    let d = g.D.Device in
    let due : c.deref.result.now ≡ c.args.setup.pulls.items = search rules in
    let runs : AllZip (RunsWith d.plan_of d.stands_for d.may_send c.args.setup.pulls.items) c.args.setup.units.items c.in_ok-workers.workers.items =
    subst (λ (l : List (ℕ × ℕ)). AllZip (RunsWith d.plan_of d.stands_for d.may_send l) c.args.setup.units.items c.in_ok-workers.workers.items) due c.in_ok-workers.ensures.run in
    let fits : is_fitting c.ports.result c.args.setup ≡ true = search rules in
    let few = unit_for_each c.ports.result (length c.args.setup.units.items) (first_three _ _ _ _ _ _ _ _ _ fits) in
    let most = few.1 in
    let same = zip_long (RunsWith d.plan_of d.stands_for d.may_send c.args.setup.pulls.items) _ _ runs in
    omega (arith, most, same)

pub returns-clause-ports : goal.returns-clause-ports
returns-clause-ports g c =
    let fits : is_fitting c.ports.result c.args.setup ≡ true = search rules in
    let count : length c.args.setup.units.items ≡ c.ports.result = fits_units c.ports.result c.args.setup fits in
    let there : c.ports.result ≡ length c.args.links.now.devices = search rules in
    let at : map (λ (s : StationState g.row.D.Denot). s.port) c.in_ok-workers.workers.items ≡ first_ports (length c.args.setup.units.items) = c.in_ok-workers.ensures.ports in
    if_ok c.run_seated.result
    (λ (f : Ends g.row.D.Denot). map (λ (s : StationState g.row.D.Denot). s.port) f.disks ≡ map (λ (s : StationState g.row.D.Denot). s.port) c.in_ok-workers.workers.items)
    (λ (f : Ends g.row.D.Denot). map (λ (s : StationState g.row.D.Denot). s.port) f.disks ≡ first_ports (length c.args.links.now.devices)) c.run_seated.ensures.ports
    (λ f is. is ∙ at ∙ ap first_ports (count ∙ there))

pub returns-clause-left : goal.returns-clause-left
returns-clause-left g c =
    let d = g.D.Device in
    let start = memory_of c.args.setup.memory (map (λ (put : ℕ × Vec ℕ Global). (put.0, put.1.items)) c.args.setup.puts.items) in
    let due : c.deref.result.now ≡ c.args.setup.pulls.items = search rules in
    let runs : AllZip (RunsWith d.plan_of d.stands_for d.may_send c.args.setup.pulls.items) c.args.setup.units.items c.in_ok-workers.workers.items =
    subst (λ (l : List (ℕ × ℕ)). AllZip (RunsWith d.plan_of d.stands_for d.may_send l) c.args.setup.units.items c.in_ok-workers.workers.items) due c.in_ok-workers.ensures.run in
    let given : c.deref-2.result.now ≡ c.args.setup.puts.items = search rules in
    let is : c.in_ok-memory.memory ≡ start =
    c.in_ok-memory.ensures
    ∙ ap (λ (l : List (ℕ × Vec ℕ Global)). memory_of c.args.setup.memory (map (λ (put : ℕ × Vec ℕ Global). (put.0, put.1.items)) l)) given in
    let ran : IsHostRun c.in_ok-memory.memory c.in_ok-host.host = search rules in
    let plan : c.in_ok-host.host.plan ≡ c.args.setup.plan.items = search rules in
    let fits : is_fitting c.ports.result c.args.setup ≡ true = search rules in
    let count : length c.args.setup.units.items ≡ c.ports.result = fits_units c.ports.result c.args.setup fits in
    let there : c.ports.result ≡ length c.args.links.now.devices = search rules in
    let at : map (λ (s : StationState g.row.D.Denot). s.port) c.in_ok-workers.workers.items ≡ first_ports (length c.args.setup.units.items) = c.in_ok-workers.ensures.ports in
    left_then c.run_seated.result (LeadsTo d.plan_of d.stands_for d.may_send c.in_ok-workers.workers.items c.in_ok-host.host)
    (IsLeftOf d.plan_of d.stands_for d.may_send c.args.setup.units.items c.args.setup.pulls.items (length c.args.links.now.devices) start c.args.setup.plan.items)
    c.run_seated.ensures.left
    (λ h leads. record {
      disks = leads.disks c.args.setup.pulls.items c.args.setup.units.items runs;
      at_ports = leads.ports ∙ at ∙ ap first_ports (count ∙ there);
      hosted = leads.goes_on start (subst (λ m. IsHostRun m c.in_ok-host.host) is ran);
      plan_is = leads.plan ∙ plan;
    })

pub returns-in_err-host-clause-bad_setup : goal.returns-in_err-host-clause-bad_setup
returns-in_err-host-clause-bad_setup g c =
    let fits : is_fitting c.ports.result c.args.setup ≡ true = search rules in
    let free : c.args.links.now.given ≡ false = search rules in
    let there : c.ports.result ≡ length c.args.links.now.devices = search rules in
    refused_setup _ _ c.from_residual-in_err-host.ensures.1 (may_run c.args.links.now c.ports.result c.args.setup free there fits)

pub returns-in_err-host-clause-gate : goal.returns-in_err-host-clause-gate
returns-in_err-host-clause-gate g c shut = refused_gate _ _ c.from_residual-in_err-host.ensures.1 shut

pub returns-in_err-host-clause-left : goal.returns-in_err-host-clause-left
returns-in_err-host-clause-left g c = refused_left _ _ c.from_residual-in_err-host.ensures.1

pub returns-in_err-host-clause-why : goal.returns-in_err-host-clause-why
returns-in_err-host-clause-why g c = refused_told _ c.from_residual-in_err-host.ensures.1
