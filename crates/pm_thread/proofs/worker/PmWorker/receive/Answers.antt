use Rattle.std.proofs.Common.{rules, ◌≡◌, ◌<◌, ◌∷◌, [], ◌++◌, length, None, refl, sym, ap, ◌∙◌, subst}
use Rattle.std.specs.Prelude.{slice_index_or}
use Rattle.multiplier.specs.{Orders.InDeviceOrder, Rules.FromDeviceRule, State.port_at}
use Rattle.pm_thread.specs.Runs.{PmView, PortSeats, IsSound, SameLinks, ends_of}
use Rattle.pm_thread.proofs.{Seats.same_links, Steps.{with_port_seats, receives, rests}}
use Rattle.pm_thread.proofs.worker.PmWorker.receive.Goals as goal

pub invariant_of-self-2 : goal.invariant_of-self-2
invariant_of-self-2 g c =
    let w : PmView = record {
      pm = c.self.inside.pm;
      ports = c.self.inside.ports.items;
      host = c.self.inside.host;
      commands = c.self.inside.commands;
      hand = c.self.inside.hand;
    } in
    let ports = w.ports in
    let d : PortSeats = c.index_mut-port.result.now in
    let q : PortSeats = record { commands = c.port.inside.commands; frames = c.take.new.self; presence = c.port.inside.presence } in
    let here : c.from.result ≡ c.args.n = search rules in
    let lt : c.args.n < length ports = search rules in
    let seat = c.port.view_is ∙ c.index_mut-port.ensures.value ∙ ap (λ k. slice_index_or ports k d) here in
    let empty : (port_at c.self.inside.pm c.args.n).up ≡ None = search rules in
    let order : InDeviceOrder c.take.new.self.taken = search rules in
    let taken : c.take.new.self.taken ≡ c.port.inside.frames.taken ++ c.in-Some.frame ∷ [] = search rules in
    subst (λ k. IsSound (with_port_seats w k q c.from_device.new.self)) (sym here)
    (receives w c.self.invariant c.args.n q d c.from_device.new.self lt c.in-Some.frame c.from_device.result
    (subst (λ f. FromDeviceRule c.self.inside.pm c.args.n f c.from_device.result c.from_device.new.self) c.in-Some.frame-is c.from_device.ensures.rule) empty c.from_device.ensures.ports order
    (taken ∙ ap (λ (s : PortSeats). s.frames.taken ++ c.in-Some.frame ∷ []) seat) (ap (λ (s : PortSeats). s.presence.taken) seat)
    (ap (λ (s : PortSeats). s.commands.sent) seat))

pub returns-clause-links : goal.returns-clause-links
returns-clause-links g c =
    let w : PmView = record {
      pm = c.self.inside.pm;
      ports = c.self.inside.ports.items;
      host = c.self.inside.host;
      commands = c.self.inside.commands;
      hand = c.self.inside.hand;
    } in
    let q : PortSeats = record { commands = c.port.inside.commands; frames = c.take.new.self; presence = c.port.inside.presence } in
    let seat = c.port.view_is ∙ c.index_mut-port.ensures.value in
    let link : c.take.new.self.link ≡ c.port.inside.frames.link = search rules in
    let room : c.take.new.self.room ≡ c.port.inside.frames.room = search rules in
    let stays : ends_of q ≡ ends_of (record {
      commands = c.port.inside.commands;
      frames = c.port.inside.frames;
      presence = c.port.inside.presence;
    }) =
    (λ i. record {
      commands = record { link = c.port.inside.commands.link; room = c.port.inside.commands.room };
      frames = record { link = link i; room = room i };
      presence = record { link = c.port.inside.presence.link; room = c.port.inside.presence.room };
    }) in
    subst (λ (o : PmView). SameLinks o (with_port_seats w c.from.result q c.from_device.new.self)) c.self.view_is
    (same_links w (with_port_seats w c.from.result q c.from_device.new.self) c.from.result q c.index_mut-port.result.now refl
    (stays ∙ ap ends_of seat) refl refl)

pub invariant_of-self : goal.invariant_of-self
invariant_of-self g c =
    let w : PmView = record {
      pm = c.self.inside.pm;
      ports = c.self.inside.ports.items;
      host = c.self.inside.host;
      commands = c.self.inside.commands;
      hand = c.self.inside.hand;
    } in
    let d : PortSeats = c.index_mut-port.result.now in
    let q : PortSeats = record { commands = c.port.inside.commands; frames = c.take.new.self; presence = c.port.inside.presence } in
    let here : c.from.result ≡ c.args.n = search rules in
    let seat = c.port.view_is ∙ c.index_mut-port.ensures.value ∙ ap (λ k. slice_index_or w.ports k d) here in
    let same : c.take.new.self.taken ≡ c.port.inside.frames.taken = search rules in
    subst (λ k. IsSound (with_port_seats w k q w.pm)) (sym here)
    (rests w c.self.invariant c.args.n q d (same ∙ ap (λ (s : PortSeats). s.frames.taken) seat)
    (ap (λ (s : PortSeats). s.presence.taken) seat) (ap (λ (s : PortSeats). s.commands.sent) seat))

pub returns-in_default-clause-links : goal.returns-in_default-clause-links
returns-in_default-clause-links g c =
    let w : PmView = record {
      pm = c.self.inside.pm;
      ports = c.self.inside.ports.items;
      host = c.self.inside.host;
      commands = c.self.inside.commands;
      hand = c.self.inside.hand;
    } in
    let q : PortSeats = record { commands = c.port.inside.commands; frames = c.take.new.self; presence = c.port.inside.presence } in
    let seat = c.port.view_is ∙ c.index_mut-port.ensures.value in
    let link : c.take.new.self.link ≡ c.port.inside.frames.link = search rules in
    let room : c.take.new.self.room ≡ c.port.inside.frames.room = search rules in
    let stays : ends_of q ≡ ends_of (record {
      commands = c.port.inside.commands;
      frames = c.port.inside.frames;
      presence = c.port.inside.presence;
    }) =
    (λ i. record {
      commands = record { link = c.port.inside.commands.link; room = c.port.inside.commands.room };
      frames = record { link = link i; room = room i };
      presence = record { link = c.port.inside.presence.link; room = c.port.inside.presence.room };
    }) in
    subst (λ (o : PmView). SameLinks o (with_port_seats w c.from.result q w.pm)) c.self.view_is
    (same_links w (with_port_seats w c.from.result q w.pm) c.from.result q c.index_mut-port.result.now refl
    (stays ∙ ap ends_of seat) refl refl)
