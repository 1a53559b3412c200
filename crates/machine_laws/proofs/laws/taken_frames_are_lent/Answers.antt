use Rattle.machine_laws.proofs.Held.{carries, held, lent, opens_holding}
use Rattle.machine_laws.proofs.laws.taken_frames_are_lent.Goals as goal

pub returns-clause-opens : goal.returns-clause-opens
returns-clause-opens c = opens_holding

pub returns-clause-held : goal.returns-clause-held
returns-clause-held c = held

pub returns-clause-lent : goal.returns-clause-lent
returns-clause-lent c = lent c.writes_are_placed.ensures

pub returns-clause-carries : goal.returns-clause-carries
returns-clause-carries c = carries
