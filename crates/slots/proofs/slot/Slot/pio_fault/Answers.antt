use Rattle.std.proofs.Common.{◌≡◌, ◌*◌, length, ℕ, sym, ap, ◌∙◌}
use Rattle.slots.specs.{Bytes.came_of, Issued.{with_flags, issue_in}, Setup.transfer_fault}
use Rattle.slots.proofs.ByteLemmas.{whole_dwords}
use Rattle.slots.proofs.slot.Slot.pio_fault.Goals as goal

pub returns-in-Some : goal.returns-in-Some
returns-in-Some c =
    let over = c.self.inside.moved in
    let i = c.in-Some.issued in
    let room = rw c.in-Some.is at c.self.invariant in
    let long : 4 * length over ≡ i.work.len = whole_dwords over i.work.len room.0 room.1.0 in
    let came : c.came.result ≡ came_of over i.work.len = c.came.ensures ∙ ap (came_of over) long in
    let now : c.args.self.now ≡ issue_in c.self.inside.issued over = sym c.self.view_is in
    rw now (rw c.in-Some.is (c.transfer_fault.ensures ∙ ap (λ (n : ℕ). transfer_fault (with_flags i over) n c.args.count c.args.to_host) came))
