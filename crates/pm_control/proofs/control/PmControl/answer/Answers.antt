use Rattle.std.proofs.Common.{◌≡◌, Some, sym, ◌∙◌}
use Rattle.pm_control.specs.{Requests.request_in, Answers.{IsAnswer, answer_of}}
use Rattle.pm_control.proofs.{SeenLemmas.seen_next, control.PmControl.answer.Goals.{in-Some-reply+in_ok-d2h-in-Some-reply, in-None}}
use Rattle.pm_control.proofs.control.PmControl.answer.Goals as goal

pub returns-clause-seen : goal.returns-clause-seen
returns-clause-seen c =
    let asks : request_in c.args.frame.now.bytes ≡ Some c.in-Some.request = sym c.request_of.ensures ∙ c.in-Some.is in
    let answered : IsAnswer (answer_of c.args.self.now c.args.registers.now c.in-Some.request) c.args.stamp c.match-reply.answer =
    elim c.match-reply.branch [
      | in-Some-reply+in_ok-d2h-in-Some-reply w ↦ rw (w.answer-is, ← c.reply.ensures, w.in-Some-reply.is) (w.in_ok-d2h-in-Some-reply.ensures.built, w.in_ok-d2h-in-Some-reply.ensures.stamp)
      | in-None w ↦ rw (w.answer-is, ← c.reply.ensures, w.in-None.is) tt
    ] in
    seen_next c.args.self.now c.args.registers.now c.act.new.registers c.args.frame.now.bytes c.in-Some.request c.args.stamp c.match-reply.answer asks answered c.act.ensures.reads_back
