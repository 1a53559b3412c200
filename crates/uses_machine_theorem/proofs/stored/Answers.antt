use Rattle.uses_machine_theorem.proofs.LedLemmas.{handed, holds, some_holds}
use Rattle.uses_machine_theorem.proofs.stored.Goals as goal

pub returns : goal.returns
returns c =
    some_holds (λ bytes is. holds c.writes_come_from_guests.ensures.stores c.args.machine.now c.args.id c.args.place bytes.now
    (handed c.args.machine.now c.args.id c.args.place bytes.now is)) c.stored.result c.stored.ensures.some
