use Rattle.machine_laws.proofs.FallData as data_of
use Rattle.machine_laws.proofs.FallOrders.{issued, of_slots}
use Rattle.machine_laws.proofs.falling.sent_frames_are_supplied.Goals as goal

pub returns-clause-orders : goal.returns-clause-orders
returns-clause-orders c = issued c.commands_are_supplied.ensures.core

pub returns-clause-slots : goal.returns-clause-slots
returns-clause-slots c = of_slots

pub returns-clause-opens : goal.returns-clause-opens
returns-clause-opens c = data_of.opens

pub returns-clause-read : goal.returns-clause-read
returns-clause-read c = data_of.read

pub returns-clause-whole : goal.returns-clause-whole
returns-clause-whole c = data_of.what_came

pub returns-clause-asked : goal.returns-clause-asked
returns-clause-asked c = data_of.in_order
