use Rattle.std.proofs.Common.{◌≡◌, ℕ, true, false, subst}
use Rattle.hba_fbs.specs.Taking.{Hears, Ignores, ignores}
use Rattle.hba_fbs.proofs.shell.HostPort.take.Goals as goal

pub returns-clause-ignored : goal.returns-clause-ignored
returns-clause-ignored c =
    subst (λ (dev : ℕ). ignores dev c.args.self.now c.args.frame.now.bytes ≡ true → Ignores dev c.args.self.now c.args.memory.now c.take_from.result c.take_from.new.self c.take_from.new.memory) c.pm_port-dev.ensures.low_bits
    c.take_from.ensures.ignored

pub returns-clause-heard : goal.returns-clause-heard
returns-clause-heard c =
    subst
    (λ (dev : ℕ). ignores dev c.args.self.now c.args.frame.now.bytes ≡ false → Hears dev c.args.self.now c.args.memory.now c.args.frame.now.bytes c.take_from.result c.take_from.new.self c.take_from.new.memory)
    c.pm_port-dev.ensures.low_bits c.take_from.ensures.heard
