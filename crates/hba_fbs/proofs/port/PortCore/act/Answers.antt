use Rattle.std.proofs.Common.{◌≡◌, true, false, sym, ap, ◌∙◌}
use Rattle.hba_fbs.specs.Views.{Port}
use Rattle.hba_fbs.proofs.WriteLemmas.{accepted_free, idle_active, idle_commands, idle_views, stopped_zero}
use Rattle.hba_fbs.proofs.port.PortCore.act.Goals as goal

pub issue-requires-clause-free : goal.issue-requires-clause-free
issue-requires-clause-free g c =
    let run : c.args.self.now.registers.started ≡ true = ap (λ (p : Port). p.registers.started) (sym c.self-in-Ci.view_is) ∙ c.if-self.true in
    accepted_free c.args.self.now (g.O.Offers.offer c.args.offers.now) c.args.value run (rw c.in-Ci.is at c.requires.accepted)

pub returns-else-self-clause-views : goal.returns-else-self-clause-views
returns-else-self-clause-views g c n below =
    let stop : c.args.self.now.registers.started ≡ false = ap (λ (p : Port). p.registers.started) (sym c.self-in-Ci.view_is) ∙ c.if-self.false in
    let zero : c.args.value ≡ 0 = stopped_zero c.args.self.now (g.O.Offers.offer c.args.offers.now) c.args.value stop (rw c.in-Ci.is at c.requires.accepted) in
    rw c.in-Ci.is (idle_views c.args.self.now (g.O.Offers.offer c.args.offers.now) c.args.value zero n)

pub returns-else-self-clause-commands : goal.returns-else-self-clause-commands
returns-else-self-clause-commands g c =
    let stop : c.args.self.now.registers.started ≡ false = ap (λ (p : Port). p.registers.started) (sym c.self-in-Ci.view_is) ∙ c.if-self.false in
    let zero : c.args.value ≡ 0 = stopped_zero c.args.self.now (g.O.Offers.offer c.args.offers.now) c.args.value stop (rw c.in-Ci.is at c.requires.accepted) in
    rw c.in-Ci.is (idle_commands c.args.self.now (g.O.Offers.offer c.args.offers.now) c.args.value zero)

pub returns-else-self-clause-active : goal.returns-else-self-clause-active
returns-else-self-clause-active g c =
    let stop : c.args.self.now.registers.started ≡ false = ap (λ (p : Port). p.registers.started) (sym c.self-in-Ci.view_is) ∙ c.if-self.false in
    let zero : c.args.value ≡ 0 = stopped_zero c.args.self.now (g.O.Offers.offer c.args.offers.now) c.args.value stop (rw c.in-Ci.is at c.requires.accepted) in
    rw c.in-Ci.is (idle_active c.args.self.now (g.O.Offers.offer c.args.offers.now) c.args.value zero)
