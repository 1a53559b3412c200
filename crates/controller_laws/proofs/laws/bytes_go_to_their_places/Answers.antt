use Rattle.controller_laws.proofs.CarryLemmas as carry
use Rattle.controller_laws.proofs.OwnDataLemmas as own
use Rattle.controller_laws.proofs.laws.bytes_go_to_their_places.Goals as goal

pub returns-clause-own : goal.returns-clause-own
returns-clause-own c = own.data_is_own

pub returns-clause-whole : goal.returns-clause-whole
returns-clause-whole c = own.data_is_whole

pub returns-clause-said : goal.returns-clause-said
returns-clause-said c = carry.bytes_are_said

pub returns-clause-taken : goal.returns-clause-taken
returns-clause-taken c = carry.said_of_data

pub returns-clause-all : goal.returns-clause-all
returns-clause-all c = carry.all_are_said
