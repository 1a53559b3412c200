use Rattle.disk_model.proofs.unit.UnitDevice.next_out.Goals as goal

pub returns-in-Scripted-clause-silent : goal.returns-in-Scripted-clause-silent
returns-in-Scripted-clause-silent c = rw c.in-Scripted.is c.next_out-in-Scripted.ensures.silent
