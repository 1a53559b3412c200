use Rattle.disk_model.proofs.sent.AnswerLaws.{answers_right}
use Rattle.disk_model.proofs.laws.answers_commands_in_order.Goals as goal

pub returns : goal.returns
returns c = answers_right
