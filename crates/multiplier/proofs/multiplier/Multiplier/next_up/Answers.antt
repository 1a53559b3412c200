use Rattle.std.proofs.Common.{◌≡◌, ◌<◌, ◌∙◌, ℕ, true, Some, Ok, sym, ap, rules, arith}
use Rattle.multiplier.specs.State.{ready}
use Rattle.multiplier.proofs.{ArbiterLemmas.{served_below, served_is_ready}, Holds.ready_holds, GiveLemmas.up_rule_keeps}
use Rattle.multiplier.proofs.multiplier.Multiplier.next_up.Goals as goal

pub control_gives-requires : goal.control_gives-requires
control_gives-requires c =
    let now = c.args.self.now in
    let is_ready : ready now c.in-Some.place ≡ true = served_is_ready (ready now) now.served c.in-Some.place (sym c.in-Some.ensures.value) in
    let control : c.in-Some.place ≡ 15 = c.if-place-eq-CONTROL_PORT.true in
    sym (ap (λ (p : ℕ). ready now p) control) ∙ is_ready

pub port_gives-frame-requires-clause-there : goal.port_gives-frame-requires-clause-there
port_gives-frame-requires-clause-there c =
    let now = c.args.self.now in
    let below : c.in-Some.place < 16 = served_below (ready now) now.served c.in-Some.place c.next_place.ensures.sound.served (sym c.in-Some.ensures.value) in
    omega arith

pub port_gives-frame-requires-clause-ready : goal.port_gives-frame-requires-clause-ready
port_gives-frame-requires-clause-ready c =
    let now = c.args.self.now in
    let below : c.in-Some.place < 16 = served_below (ready now) now.served c.in-Some.place c.next_place.ensures.sound.served (sym c.in-Some.ensures.value) in
    ready_holds now c.in-Some.place (omega arith) (served_is_ready (ready now) now.served c.in-Some.place (sym c.in-Some.ensures.value))

pub returns-clause-can_put_back : goal.returns-clause-can_put_back
returns-clause-can_put_back c = (c.args.self.now, c.next_place.ensures.sound, search rules)

pub returns-clause-ports : goal.returns-clause-ports
returns-clause-ports c = up_rule_keeps c.args.self.now c.if-place-eq-CONTROL_PORT.self (Ok (Some c.if-place-eq-CONTROL_PORT.frame)) (search rules)
