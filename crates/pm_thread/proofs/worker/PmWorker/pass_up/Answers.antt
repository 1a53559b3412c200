use Rattle.std.proofs.Common.{rules, ◌≡◌, ◌∷◌, [], ◌++◌, Ok, Some, ◌∙◌, subst}
use Rattle.multiplier.specs.Rules.{CanPutBackUp, NextUpRule, UndoesUp}
use Rattle.pm_thread.proofs.Steps.{may_send, sends_up, keeps_up}
use Rattle.pm_thread.proofs.worker.PmWorker.pass_up.Goals as goal

pub send-requires : goal.send-requires
send-requires g c =
    let rule : NextUpRule c.self.inside.pm (Ok (Some c.in-Some.frame)) c.next_up.new.self = search rules in
    may_send _ c.self.invariant c.next_up.new.self c.in-Some.frame rule

pub invariant_of-self-in-Ok : goal.invariant_of-self-in-Ok
invariant_of-self-in-Ok g c =
    let rule : NextUpRule c.self.inside.pm (Ok (Some c.in-Some.frame)) c.next_up.new.self = search rules in
    let sent : c.send.new.self.sent ≡ c.self.inside.host.sent ++ c.in-Some.frame ∷ [] = search rules in
    sends_up _ c.self.invariant c.next_up.new.self c.in-Some.frame rule c.send.new.self c.next_up.ensures.ports sent

pub invariant_of-self-in-Err : goal.invariant_of-self-in-Err
invariant_of-self-in-Err g c =
    let rule : NextUpRule c.self.inside.pm (Ok (Some c.in-Some.frame)) c.next_up.new.self = search rules in
    let can : CanPutBackUp c.next_up.new.self c.in-Some.frame = search rules in
    let same : c.in-Err.frame ≡ c.in-Some.frame = search rules in
    let sent : c.send.new.self.sent ≡ c.self.inside.host.sent = search rules in
    keeps_up _ c.self.invariant c.next_up.new.self c.in-Some.frame rule c.send.new.self c.put_back_up.new.self can
    (subst (λ f. UndoesUp c.next_up.new.self f c.put_back_up.new.self)
    (c.in-Err.frame-is ∙ same) c.put_back_up.ensures.undoes) c.next_up.ensures.ports c.put_back_up.ensures.ports sent
