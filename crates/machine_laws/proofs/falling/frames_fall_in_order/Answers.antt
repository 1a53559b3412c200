use Rattle.machine_laws.proofs.{FallEnds.{begun_forgets, ports_emptied}, FallHeard.{go_where, hear_them}}
use Rattle.machine_laws.proofs.FallLinks as links
use Rattle.machine_laws.proofs.FallPorts as ports
use Rattle.machine_laws.proofs.falling.frames_fall_in_order.Goals as goal

pub returns-clause-links : goal.returns-clause-links
returns-clause-links c = links.in_order

pub returns-clause-resets : goal.returns-clause-resets
returns-clause-resets c = links.emptied

pub returns-clause-passes : goal.returns-clause-passes
returns-clause-passes c = go_where

pub returns-clause-ports : goal.returns-clause-ports
returns-clause-ports c = ports.in_order

pub returns-clause-heard : goal.returns-clause-heard
returns-clause-heard c = hear_them

pub returns-clause-begins : goal.returns-clause-begins
returns-clause-begins c = begun_forgets

pub returns-clause-renews : goal.returns-clause-renews
returns-clause-renews c = ports_emptied
