use Rattle.std.proofs.Common.{rules, ◌≡◌, ◌<◌, ◌∷◌, [], ◌++◌, length, Some, refl, sym, ap, ◌∙◌, subst}
use Rattle.std.specs.Prelude.{slice_index_or}
use Rattle.multiplier.specs.Rules.{CanPutBackDown, NextDownRule, UndoesDown}
use Rattle.pm_thread.specs.Runs.{PmView, PortSeats, IsSound, SameLinks, ends_of}
use Rattle.pm_thread.proofs.{Seats.same_links, Steps.{with_port_seats, sends_down, keeps_down}}
use Rattle.pm_thread.proofs.worker.PmWorker.pass_down.Goals as goal

pub invariant_of-self-in-Ok : goal.invariant_of-self-in-Ok
invariant_of-self-in-Ok g c =
    let w : PmView = record {
      pm = c.self.inside.pm;
      ports = c.self.inside.ports.items;
      host = c.self.inside.host;
      commands = c.self.inside.commands;
      hand = c.self.inside.hand;
    } in
    let ports = w.ports in
    let d : PortSeats = c.index_mut-port.result.now in
    let q : PortSeats = record { commands = c.send.new.self; frames = c.port.inside.frames; presence = c.port.inside.presence } in
    let here : c.from.result ≡ c.args.n = search rules in
    let lt : c.args.n < length ports = search rules in
    let seat = c.port.view_is ∙ c.index_mut-port.ensures.value ∙ ap (λ k. slice_index_or ports k d) here in
    let rule : NextDownRule c.self.inside.pm c.args.n (Some c.in-Some.frame) c.next_down.new.self = search rules in
    let sent : c.send.new.self.sent ≡ c.port.inside.commands.sent ++ c.in-Some.frame ∷ [] = search rules in
    subst (λ k. IsSound (with_port_seats w k q c.next_down.new.self)) (sym here)
    (sends_down w c.self.invariant c.args.n q d c.next_down.new.self lt (ap (λ (s : PortSeats). s.frames.taken) seat)
    (ap (λ (s : PortSeats). s.presence.taken) seat)
    c.in-Some.frame rule c.next_down.ensures.ports (sent ∙ ap (λ (s : PortSeats). s.commands.sent ++ c.in-Some.frame ∷ []) seat))

pub invariant_of-self-in-Err : goal.invariant_of-self-in-Err
invariant_of-self-in-Err g c =
    let w : PmView = record {
      pm = c.self.inside.pm;
      ports = c.self.inside.ports.items;
      host = c.self.inside.host;
      commands = c.self.inside.commands;
      hand = c.self.inside.hand;
    } in
    let ports = w.ports in
    let d : PortSeats = c.index_mut-port.result.now in
    let q : PortSeats = record { commands = c.send.new.self; frames = c.port.inside.frames; presence = c.port.inside.presence } in
    let here : c.from.result ≡ c.args.n = search rules in
    let lt : c.args.n < length ports = search rules in
    let seat = c.port.view_is ∙ c.index_mut-port.ensures.value ∙ ap (λ k. slice_index_or ports k d) here in
    let rule : NextDownRule c.self.inside.pm c.args.n (Some c.in-Some.frame) c.next_down.new.self = search rules in
    let can : CanPutBackDown c.next_down.new.self c.args.n c.in-Some.frame = search rules in
    let same : c.in-Err.frame ≡ c.in-Some.frame = search rules in
    let sent : c.send.new.self.sent ≡ c.port.inside.commands.sent = search rules in
    subst (λ k. IsSound (with_port_seats w k q c.put_back_down.new.self)) (sym here)
    (keeps_down w c.self.invariant c.args.n q d c.put_back_down.new.self lt (ap (λ (s : PortSeats). s.frames.taken) seat)
    (ap (λ (s : PortSeats). s.presence.taken) seat)
    c.in-Some.frame c.next_down.new.self rule can (subst (λ f. UndoesDown c.next_down.new.self c.args.n f c.put_back_down.new.self)
    (c.in-Err.frame-is ∙ same) c.put_back_down.ensures.undoes)
    c.next_down.ensures.ports c.put_back_down.ensures.ports (sent ∙ ap (λ (s : PortSeats). s.commands.sent) seat))

pub returns-in-Ok-clause-links : goal.returns-in-Ok-clause-links
returns-in-Ok-clause-links g c =
    let w : PmView = record {
      pm = c.self.inside.pm;
      ports = c.self.inside.ports.items;
      host = c.self.inside.host;
      commands = c.self.inside.commands;
      hand = c.self.inside.hand;
    } in
    let q : PortSeats = record { commands = c.send.new.self; frames = c.port.inside.frames; presence = c.port.inside.presence } in
    let seat = c.port.view_is ∙ c.index_mut-port.ensures.value in
    let link : c.send.new.self.link ≡ c.port.inside.commands.link = search rules in
    let room : c.send.new.self.room ≡ c.port.inside.commands.room = search rules in
    let stays : ends_of q ≡ ends_of (record {
      commands = c.port.inside.commands;
      frames = c.port.inside.frames;
      presence = c.port.inside.presence;
    }) =
    (λ i. record {
      commands = record { link = link i; room = room i };
      frames = record { link = c.port.inside.frames.link; room = c.port.inside.frames.room };
      presence = record { link = c.port.inside.presence.link; room = c.port.inside.presence.room };
    }) in
    subst (λ (o : PmView). SameLinks o (with_port_seats w c.from.result q c.next_down.new.self)) c.self.view_is
    (same_links w (with_port_seats w c.from.result q c.next_down.new.self) c.from.result q c.index_mut-port.result.now refl
    (stays ∙ ap ends_of seat) refl refl)

pub returns-in-Err-clause-links : goal.returns-in-Err-clause-links
returns-in-Err-clause-links g c =
    let w : PmView = record {
      pm = c.self.inside.pm;
      ports = c.self.inside.ports.items;
      host = c.self.inside.host;
      commands = c.self.inside.commands;
      hand = c.self.inside.hand;
    } in
    let q : PortSeats = record { commands = c.send.new.self; frames = c.port.inside.frames; presence = c.port.inside.presence } in
    let seat = c.port.view_is ∙ c.index_mut-port.ensures.value in
    let link : c.send.new.self.link ≡ c.port.inside.commands.link = search rules in
    let room : c.send.new.self.room ≡ c.port.inside.commands.room = search rules in
    let stays : ends_of q ≡ ends_of (record {
      commands = c.port.inside.commands;
      frames = c.port.inside.frames;
      presence = c.port.inside.presence;
    }) =
    (λ i. record {
      commands = record { link = link i; room = room i };
      frames = record { link = c.port.inside.frames.link; room = c.port.inside.frames.room };
      presence = record { link = c.port.inside.presence.link; room = c.port.inside.presence.room };
    }) in
    subst (λ (o : PmView). SameLinks o (with_port_seats w c.from.result q c.put_back_down.new.self)) c.self.view_is
    (same_links w (with_port_seats w c.from.result q c.put_back_down.new.self) c.from.result q c.index_mut-port.result.now refl
    (stays ∙ ap ends_of seat) refl refl)
