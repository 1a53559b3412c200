use Rattle.std.proofs.Common.{rules, ◌≡◌, ◌<◌, ◌∷◌, [], ◌++◌, length, refl, sym, ap, ◌∙◌, subst}
use Rattle.std.specs.Prelude.{slice_index_or}
use Rattle.link_items.specs.declared.items.Presence.TheVariants as presence
use Rattle.pm_thread.specs.Runs.{PmView, PortSeats, IsSound, SameLinks, ends_of}
use Rattle.pm_thread.proofs.{Seats.same_links, Steps.{with_port_seats, rests, tells_came, tells_gone}}
use Rattle.pm_thread.proofs.worker.PmWorker.record.Goals as goal

pub invariant_of-self-in-Some-Came : goal.invariant_of-self-in-Some-Came
invariant_of-self-in-Some-Came g c =
    let w : PmView = record {
      pm = c.self.inside.pm;
      ports = c.self.inside.ports.items;
      host = c.self.inside.host;
      commands = c.self.inside.commands;
      hand = c.self.inside.hand;
    } in
    let ports = w.ports in
    let d : PortSeats = c.index_mut-port.result.now in
    let q : PortSeats = record { commands = c.port.inside.commands; frames = c.port.inside.frames; presence = c.take.new.self } in
    let here : c.from.result ≡ c.args.n = search rules in
    let lt : c.args.n < length ports = search rules in
    let seat = c.port.view_is ∙ c.index_mut-port.ensures.value ∙ ap (λ k. slice_index_or ports k d) here in
    let taken : c.take.new.self.taken ≡ c.port.inside.presence.taken ++ presence.Came c.in-Some-Came.conn ∷ [] = search rules in
    subst (λ k. IsSound (with_port_seats w k q c.came.new.self)) (sym here)
    (tells_came w c.self.invariant c.args.n q d c.came.new.self lt (ap (λ (s : PortSeats). s.frames.taken) seat)
    (ap (λ (s : PortSeats). s.commands.sent) seat)
    c.in-Some-Came.conn c.came.result c.came.ensures
    (taken ∙ ap (λ (s : PortSeats). s.presence.taken ++ presence.Came c.in-Some-Came.conn ∷ []) seat))

pub invariant_of-self-in-Some-Gone : goal.invariant_of-self-in-Some-Gone
invariant_of-self-in-Some-Gone g c =
    let w : PmView = record {
      pm = c.self.inside.pm;
      ports = c.self.inside.ports.items;
      host = c.self.inside.host;
      commands = c.self.inside.commands;
      hand = c.self.inside.hand;
    } in
    let ports = w.ports in
    let d : PortSeats = c.index_mut-port.result.now in
    let q : PortSeats = record { commands = c.port.inside.commands; frames = c.port.inside.frames; presence = c.take.new.self } in
    let here : c.from.result ≡ c.args.n = search rules in
    let lt : c.args.n < length ports = search rules in
    let seat = c.port.view_is ∙ c.index_mut-port.ensures.value ∙ ap (λ k. slice_index_or ports k d) here in
    let taken : c.take.new.self.taken ≡ c.port.inside.presence.taken ++ presence.Gone c.in-Some-Gone.conn ∷ [] = search rules in
    subst (λ k. IsSound (with_port_seats w k q c.gone.new.self)) (sym here)
    (tells_gone w c.self.invariant c.args.n q d c.gone.new.self lt (ap (λ (s : PortSeats). s.frames.taken) seat)
    (ap (λ (s : PortSeats). s.commands.sent) seat)
    c.in-Some-Gone.conn c.gone.result c.gone.ensures
    (taken ∙ ap (λ (s : PortSeats). s.presence.taken ++ presence.Gone c.in-Some-Gone.conn ∷ []) seat))

pub returns-in-Some-Came-clause-links : goal.returns-in-Some-Came-clause-links
returns-in-Some-Came-clause-links g c =
    let w : PmView = record {
      pm = c.self.inside.pm;
      ports = c.self.inside.ports.items;
      host = c.self.inside.host;
      commands = c.self.inside.commands;
      hand = c.self.inside.hand;
    } in
    let q : PortSeats = record { commands = c.port.inside.commands; frames = c.port.inside.frames; presence = c.take.new.self } in
    let seat = c.port.view_is ∙ c.index_mut-port.ensures.value in
    let link : c.take.new.self.link ≡ c.port.inside.presence.link = search rules in
    let room : c.take.new.self.room ≡ c.port.inside.presence.room = search rules in
    let stays : ends_of q ≡ ends_of (record {
      commands = c.port.inside.commands;
      frames = c.port.inside.frames;
      presence = c.port.inside.presence;
    }) =
    (λ i. record {
      commands = record { link = c.port.inside.commands.link; room = c.port.inside.commands.room };
      frames = record { link = c.port.inside.frames.link; room = c.port.inside.frames.room };
      presence = record { link = link i; room = room i };
    }) in
    subst (λ (o : PmView). SameLinks o (with_port_seats w c.from.result q c.came.new.self)) c.self.view_is
    (same_links w (with_port_seats w c.from.result q c.came.new.self) c.from.result q c.index_mut-port.result.now refl
    (stays ∙ ap ends_of seat) refl refl)

pub returns-in-Some-Gone-clause-links : goal.returns-in-Some-Gone-clause-links
returns-in-Some-Gone-clause-links g c =
    let w : PmView = record {
      pm = c.self.inside.pm;
      ports = c.self.inside.ports.items;
      host = c.self.inside.host;
      commands = c.self.inside.commands;
      hand = c.self.inside.hand;
    } in
    let q : PortSeats = record { commands = c.port.inside.commands; frames = c.port.inside.frames; presence = c.take.new.self } in
    let seat = c.port.view_is ∙ c.index_mut-port.ensures.value in
    let link : c.take.new.self.link ≡ c.port.inside.presence.link = search rules in
    let room : c.take.new.self.room ≡ c.port.inside.presence.room = search rules in
    let stays : ends_of q ≡ ends_of (record {
      commands = c.port.inside.commands;
      frames = c.port.inside.frames;
      presence = c.port.inside.presence;
    }) =
    (λ i. record {
      commands = record { link = c.port.inside.commands.link; room = c.port.inside.commands.room };
      frames = record { link = c.port.inside.frames.link; room = c.port.inside.frames.room };
      presence = record { link = link i; room = room i };
    }) in
    subst (λ (o : PmView). SameLinks o (with_port_seats w c.from.result q c.gone.new.self)) c.self.view_is
    (same_links w (with_port_seats w c.from.result q c.gone.new.self) c.from.result q c.index_mut-port.result.now refl
    (stays ∙ ap ends_of seat) refl refl)

pub invariant_of-self : goal.invariant_of-self
invariant_of-self g c =
    let w : PmView = record {
      pm = c.self.inside.pm;
      ports = c.self.inside.ports.items;
      host = c.self.inside.host;
      commands = c.self.inside.commands;
      hand = c.self.inside.hand;
    } in
    let d : PortSeats = c.index_mut-port.result.now in
    let q : PortSeats = record { commands = c.port.inside.commands; frames = c.port.inside.frames; presence = c.take.new.self } in
    let here : c.from.result ≡ c.args.n = search rules in
    let seat = c.port.view_is ∙ c.index_mut-port.ensures.value ∙ ap (λ k. slice_index_or w.ports k d) here in
    let same : c.take.new.self.taken ≡ c.port.inside.presence.taken = search rules in
    subst (λ k. IsSound (with_port_seats w k q w.pm)) (sym here)
    (rests w c.self.invariant c.args.n q d (ap (λ (s : PortSeats). s.frames.taken) seat)
    (same ∙ ap (λ (s : PortSeats). s.presence.taken) seat) (ap (λ (s : PortSeats). s.commands.sent) seat))

pub returns-in-None-clause-links : goal.returns-in-None-clause-links
returns-in-None-clause-links g c =
    let w : PmView = record {
      pm = c.self.inside.pm;
      ports = c.self.inside.ports.items;
      host = c.self.inside.host;
      commands = c.self.inside.commands;
      hand = c.self.inside.hand;
    } in
    let q : PortSeats = record { commands = c.port.inside.commands; frames = c.port.inside.frames; presence = c.take.new.self } in
    let seat = c.port.view_is ∙ c.index_mut-port.ensures.value in
    let link : c.take.new.self.link ≡ c.port.inside.presence.link = search rules in
    let room : c.take.new.self.room ≡ c.port.inside.presence.room = search rules in
    let stays : ends_of q ≡ ends_of (record {
      commands = c.port.inside.commands;
      frames = c.port.inside.frames;
      presence = c.port.inside.presence;
    }) =
    (λ i. record {
      commands = record { link = c.port.inside.commands.link; room = c.port.inside.commands.room };
      frames = record { link = c.port.inside.frames.link; room = c.port.inside.frames.room };
      presence = record { link = link i; room = room i };
    }) in
    subst (λ (o : PmView). SameLinks o (with_port_seats w c.from.result q w.pm)) c.self.view_is
    (same_links w (with_port_seats w c.from.result q w.pm) c.from.result q c.index_mut-port.result.now refl
    (stays ∙ ap ends_of seat) refl refl)
