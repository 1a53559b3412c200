-- What a disk heard until a command went from its slot, went before that.
use Rattle.std.proofs.Common.{◌≡◌, ℕ, ◌≤◌, Bool, true, List, ◌∷◌, ◌++◌, length, sym, ap, ◌∙◌, arith}
use Rattle.std.proofs.lemmas.List.{length-append}
use Rattle.std.specs.List.{flat_map}
use Rattle.controller_laws.specs.Events.{Event}
use Rattle.sata_disk_laws.specs.Calls.{Call, Hears}
use Rattle.ahci_machine.specs.States.{IsOpeningMachine, MachineState}
use Rattle.machine_laws.specs.{ControllerLaws.{OpensSo, RunsRuled, calls_in}, Controllers.GathersDue, Deeds.Deed, Falling.{AllLast, HasLink, heard_by}}
use Rattle.machine_theorem.specs.{FirstDeeds.{first_deeds, first_run, machine_at}, Identity.{calls_of, picks}, InTurn.{heard_in, is_asking}}
use Rattle.machine_theorem.specs.{OwnSlots.AllKeepLine, Singles.{BeginsIdle, StartsWith}}
use Rattle.machine_theorem.proofs.{Commanded.{asked, asked_both, heard_long}, Fallen.{heard_among, line_stays}, FirstCalls.starts_with}
use Rattle.machine_theorem.proofs.{FirstDeeds.{calls_to, lasts_to, line_to, linked_to}, Ordered.first_ruled, Within.{fewer, within_picks}}
use Rattle.machine_theorem.proofs.Fallen as fallen
use Rattle.machine_theorem.proofs.Falls as falls

pub heard_first : (of : falls.Laws) → fallen.Laws → (ports : ℕ) (legacy : Bool) (old : MachineState) → IsOpeningMachine ports legacy old
    → (before : List Deed) (at : MachineState) → RunsRuled old before at → (many : Bool) (n c dev : ℕ) → BeginsIdle n c at
    → (deeds : List Deed) (now : MachineState) (run : RunsRuled at deeds now) → HasLink deeds → AllLast n at deeds now run
    → AllKeepLine many n c dev at deeds now run
    → (front : List Call) (bytes : List ℕ) (more : List Call) → calls_of n at deeds now run ≡ front ++ Hears bytes ∷ more → is_asking bytes ≡ true
    → (k : ℕ) (until since : List Event)
    → until ≡ calls_in at (first_deeds k deeds) (machine_at k at deeds now run) (first_run k at deeds now run) ++ since
    → length (asked many n until) ≤ heard_in front
    → StartsWith (calls_of n at (first_deeds k deeds) (machine_at k at deeds now run) (first_run k at deeds now run)) front
heard_first of falling ports legacy old opening before at first many n c dev begins deeds now run has_link lasts keeps front bytes more split asks k until
    since is most =
    let mid : MachineState = machine_at k at deeds now run in
    let to : RunsRuled at (first_deeds k deeds) mid = first_run k at deeds now run in
    let calls : List Call = calls_of n at (first_deeds k deeds) mid to in
    let led : List Event = calls_in at (first_deeds k deeds) mid to in
    let opens : OpensSo old = of.opens ports legacy old opening (first_ruled before old at first) in
    let due : GathersDue at = (of.runs old before at first opens.due).due in
    let among = heard_among falling many n (first_deeds k deeds) at mid to begins.disk begins.there
    (line_stays many n c dev (first_deeds k deeds) at mid to (line_to many n c dev k deeds at now run keeps)) due
    (linked_to k deeds has_link) (lasts_to n k deeds at now run lasts) begins.leaving begins.down in
    let few = fewer (picks is_asking (flat_map heard_by calls)) (asked many n led) (within_picks is_asking _ _ among) in
    let long = heard_long calls in
    let sum = ap (λ (l : List Event). length (asked many n l)) is ∙ ap (λ (l : List (List ℕ)). length l) (asked_both many n led since)
    ∙ length-append (asked many n led) (asked many n since) in
    let rest = calls_to n k deeds at now run in
    starts_with calls front rest.0 more bytes (sym rest.1 ∙ split) asks (omega (arith, few, long, sum, most))
