use Rattle.std.proofs.Common.{◌∙◌}
use Rattle.hba_commands.proofs.RequestLemmas.{request_seen, not_requested}
use Rattle.hba_commands.proofs.request.Request.read.Goals as goal

pub returns-in_err-fis : goal.returns-in_err-fis
returns-in_err-fis c = c.from_residual.ensures ∙ not_requested c.args.cfis.now c.of.result c.requires c.of.ensures.view (λ g h. let none = c.in_err-fis.ensures.value in cc)

pub returns-in-RegH2D : goal.returns-in-RegH2D
returns-in-RegH2D c = rw c.under.ensures (request_seen c.args.cfis.now c.in-RegH2D.fis c.of.result c.in_ok-fis.field-0 c.of.ensures.view c.in_ok-fis.ensures.value c.in-RegH2D.is)

pub returns-in_default : goal.returns-in_default
returns-in_default c = not_requested c.args.cfis.now c.of.result c.requires c.of.ensures.view (λ g h. c.in_default.not-RegH2D g (let some = c.in_ok-fis.ensures.value in cc))
