use Rattle.uses_machine_laws.proofs.laws.Goals as goal

pub returns : goal.returns
returns c = λ are port d is. c.disks_have_their_laws.ensures.laws c.args.machine.now are port d is
