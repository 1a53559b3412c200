use Rattle.machine_theorem.specs.Settled.{CommandsAreSettledInTurn}
use Rattle.machine_theorem.proofs.{SectorData.sectors_end, Settled.settled_in_turn}
use Rattle.machine_theorem.proofs.pio.commands_are_settled_in_turn.Goals as goal

pub returns : goal.returns
returns c =
    let turn : CommandsAreSettledInTurn = settled_in_turn (record {
      single = c.answers_are_single.ensures;
      awaited = c.singles_are_awaited.ensures.waits;
      outs = c.singles_are_awaited.ensures.outs;
      earned = c.last_data_end_reads.ensures.earned;
      alone = c.last_data_end_reads.ensures.alone;
    }) in
    record { turn = turn; sectors = sectors_end (record { single = c.answers_are_single.ensures; under_way = c.open_is_under_way.ensures; settled = turn }) }
