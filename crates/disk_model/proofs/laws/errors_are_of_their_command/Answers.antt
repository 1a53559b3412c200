use Rattle.disk_model.proofs.sent.ErrorLaws.{errs_right}
use Rattle.disk_model.proofs.laws.errors_are_of_their_command.Goals as goal

pub returns : goal.returns
returns c = errs_right
