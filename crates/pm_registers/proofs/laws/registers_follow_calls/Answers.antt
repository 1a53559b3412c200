use Rattle.std.proofs.Common.{arith, refl}
use Rattle.pm_registers.specs.{RegisterMap.{opening, opening_with_port_0}, Calls.after}
use Rattle.pm_registers.proofs.{LawLemmas.{ports_after, summary_agrees, due_since, cleared_by_ones}, ShownLemmas.keeps_sound}
use Rattle.pm_registers.proofs.laws.registers_follow_calls.Goals as goal

pub returns-clause-summary : goal.returns-clause-summary
returns-clause-summary c ports calls most = summary_agrees (after (opening ports) calls) (omega (arith, ports_after (opening ports) calls))

pub returns-clause-due : goal.returns-clause-due
returns-clause-due c ports = due_since (opening ports) refl

pub returns-clause-cleared : goal.returns-clause-cleared
returns-clause-cleared c ports calls most = cleared_by_ones (after (opening ports) calls) (omega (arith, ports_after (opening ports) calls))

pub returns-clause-summary_open : goal.returns-clause-summary_open
returns-clause-summary_open c ports present calls most =
    summary_agrees (after (opening_with_port_0 ports present) calls) (omega (arith, ports_after (opening_with_port_0 ports present) calls))

pub returns-clause-due_open : goal.returns-clause-due_open
returns-clause-due_open c ports present = due_since (opening_with_port_0 ports present) refl

pub returns-clause-cleared_open : goal.returns-clause-cleared_open
returns-clause-cleared_open c ports present calls most =
    cleared_by_ones (after (opening_with_port_0 ports present) calls) (omega (arith, ports_after (opening_with_port_0 ports present) calls))

pub returns-clause-sound : goal.returns-clause-sound
returns-clause-sound c = keeps_sound
