use Rattle.disk_simulation.proofs.link.{LineLemmas.lines_go_on, LooseLemmas.{lines_begin, plugging_leaves_reset}, MarkedFiles.marks_ask_nothing}
use Rattle.disk_simulation.proofs.laws.lines_lead_to_beginning_anew.Goals as goal

pub returns-clause-begins : goal.returns-clause-begins
returns-clause-begins c = lines_begin

pub returns-clause-goes_on : goal.returns-clause-goes_on
returns-clause-goes_on c = lines_go_on

pub returns-clause-plugs : goal.returns-clause-plugs
returns-clause-plugs c = plugging_leaves_reset

pub returns-clause-marks : goal.returns-clause-marks
returns-clause-marks c = marks_ask_nothing
