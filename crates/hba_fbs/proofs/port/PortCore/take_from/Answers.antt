use Rattle.std.proofs.Common.{Option, ap, subst, sym, ◌∙◌}
use Rattle.fis_view.specs.declared.view.Fis.{Fis}
use Rattle.hba_fbs.specs.{Deciding.Decides, Taking.admitted}
use Rattle.hba_fbs.proofs.port.PortCore.take_from.Goals as goal

pub returns-in-None-clause-heard : goal.returns-in-None-clause-heard
returns-in-None-clause-heard c hears =
    subst (λ (o : Option Fis). Decides c.args.self.now c.args.dev c.args.room o c.hear_bad.result c.hear_bad.new.self)
    (sym (sym (ap (admitted c.args.dev) c.fis-fis.ensures.view) ∙ sym c.admit.ensures.value ∙ c.in-None.is)) (c.hear_bad.ensures.decides c.args.room)
