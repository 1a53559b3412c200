use Rattle.std.proofs.Common.{rules, ◌≡◌, ◌≢◌, Some, sym, subst, ap, ◌∙◌}
use Rattle.pm_registers.specs.RegisterMap.{RegisterMap, port_at, after_write, register_at, write_rule, after_rule}
use Rattle.pm_registers.proofs.{RegisterLemmas.{IsThere, is_there, write_seen, write_others, write_ports}, ShownLemmas.write_devices}
use Rattle.pm_registers.proofs.registers.PmRegisters.write.Goals.{then-port-eq-CONTROL_PORT, else-port-eq-CONTROL_PORT}
use Rattle.pm_registers.proofs.registers.PmRegisters.write.Goals as goal

-- where the write was to a device port, it is there
there : (c : goal.After-settle) → c.args.port ≢ 15 → IsThere c.args.self.now c.args.port c.args.register c.args.value
there c device = elim c.if-port-eq-CONTROL_PORT.branch [
  | then-port-eq-CONTROL_PORT w ↦ absurd (device w.if-port-eq-CONTROL_PORT.true)
  | else-port-eq-CONTROL_PORT w ↦ is_there c.args.self.now c.args.port c.args.register c.args.value w.port.result w.written-next.result w.set_port.new.self
      w.port.ensures.value w.written-next.ensures w.set_port.ensures.changed w.set_port.ensures.there
]

is_after : (c : goal.After-settle) → c.settle.new.self ≡ after_write c.args.self.now c.args.port c.args.register c.args.value
is_after c = search rules

pub returns-clause-seen : goal.returns-clause-seen
returns-clause-seen c was is =
    let P : RegisterMap → Type 0 = λ m. register_at m c.args.port c.args.register ≡ Some (after_rule (write_rule c.args.port c.args.register) was c.args.value) in
    subst P (sym (is_after c)) (write_seen c.args.self.now c.args.port c.args.register c.args.value was c.ranges.value.fits (there c) is)

pub returns-clause-ports : goal.returns-clause-ports
returns-clause-ports c = ap (λ (m : RegisterMap). m.ports) (is_after c) ∙ write_ports c.args.self.now c.args.port c.args.register c.args.value

pub returns-clause-others : goal.returns-clause-others
returns-clause-others c p r apart =
    let P : RegisterMap → Type 0 = λ m. register_at m p r ≡ register_at c.args.self.now p r in
    subst P (sym (is_after c)) (write_others c.args.self.now c.args.port c.args.register c.args.value p r (there c) apart)

pub returns-clause-devices : goal.returns-clause-devices
returns-clause-devices c n =
    let P : RegisterMap → Type 0 = λ m. (port_at m n).present ≡ (port_at c.args.self.now n).present in
    subst P (sym (is_after c)) (write_devices c.args.self.now c.args.port c.args.register c.args.value n)
