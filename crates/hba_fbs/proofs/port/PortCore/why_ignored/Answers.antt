use Rattle.std.proofs.Common.{◌≡◌, ℕ, subst, ap, ◌∙◌}
use Rattle.std.specs.Prelude.{is_some}
use Rattle.fis_view.specs.Seen.{seen}
use Rattle.hba_fbs.specs.{Reasons.ignored_for, Taking.port_of, Views.view_of}
use Rattle.hba_fbs.proofs.ReasonLemmas.{ignored_is}
use Rattle.hba_fbs.proofs.port.PortCore.why_ignored.Goals as goal

pub returns-clause-value : goal.returns-clause-value
returns-clause-value c =
    let port = c.args.self.now in
    subst (λ (d : ℕ). c.ignored_for.result ≡ ignored_for d port (view_of d port) (seen c.args.frame.now.bytes)) c.pm_port-dev.ensures.low_bits
    (c.ignored_for.ensures ∙ ap (ignored_for c.pm_port-dev.result port (view_of c.pm_port-dev.result port)) c.fis-fis.ensures.view)

pub returns-clause-exact : goal.returns-clause-exact
returns-clause-exact c =
    let port = c.args.self.now in
    let dev = port_of c.args.frame.now.bytes in
    ap is_some
    (subst (λ (d : ℕ). c.ignored_for.result ≡ ignored_for d port (view_of d port) (seen c.args.frame.now.bytes)) c.pm_port-dev.ensures.low_bits
    (c.ignored_for.ensures ∙ ap (ignored_for c.pm_port-dev.result port (view_of c.pm_port-dev.result port)) c.fis-fis.ensures.view))
    ∙ ignored_is dev port (view_of dev port) (seen c.args.frame.now.bytes)
