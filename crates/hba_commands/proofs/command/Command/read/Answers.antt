use Rattle.std.proofs.Common.{◌≡◌, ◌+◌, ℕ, List, sym, ap, ◌∙◌}
use Rattle.host_memory.specs.{Place.total_of, Reading.prds_at}
use Rattle.slots.specs.declared.work.Work.{Work}
use Rattle.hba_commands.specs.{declared.request.Request.Request, Headers.header_at, Requests.tag_of}
use Rattle.hba_commands.proofs.ProperLemmas.{proper_armed, proper_port, proper_tag, proper_work, proper_write, proper_total, request_is, sound_total}
use Rattle.hba_commands.proofs.command.Command.read.Goals as goal

pub returns-clause-work : goal.returns-clause-work
returns-clause-work c = rw c.work.ensures (proper_work _ _ _ _ _ (sym c.if-not-is_proper.ensures))

pub returns-clause-armed : goal.returns-clause-armed
returns-clause-armed c = rw c.work.ensures (proper_armed _ _ _ _ _ (sym c.if-not-is_proper.ensures))

pub returns-clause-port : goal.returns-clause-port
returns-clause-port c =
    let is : c.read-header.result ≡ header_at c.args.memory.now.structure c.args.clb c.args.slot = c.read-header.ensures ∙ ap (λ (s : List ℕ). header_at s c.args.clb c.args.slot) c.structure-structure.ensures.structure in
    rw (sym is) (ap (λ (r : Request). r.pm_port) (request_is _ _ c.in_ok-request.ensures) ∙ proper_port _ _ _ _ _ (sym c.if-not-is_proper.ensures))

pub returns-clause-tag : goal.returns-clause-tag
returns-clause-tag c = λ on. ap tag_of (request_is _ _ c.in_ok-request.ensures) ∙ proper_tag _ _ _ _ _ (sym c.if-not-is_proper.ensures) on

pub returns-clause-direction : goal.returns-clause-direction
returns-clause-direction c =
    let is : c.read-header.result ≡ header_at c.args.memory.now.structure c.args.clb c.args.slot = c.read-header.ensures ∙ ap (λ (s : List ℕ). header_at s c.args.clb c.args.slot) c.structure-structure.ensures.structure in
    rw (sym is, c.work.ensures) (proper_write _ _ _ _ _ (sym c.if-not-is_proper.ensures))

pub returns-clause-sized : goal.returns-clause-sized
returns-clause-sized c =
    ap (λ (s : List ℕ). total_of (prds_at s (c.read-header.result.ctba + 128) c.read-header.result.prdtl)) (sym c.structure-structure.ensures.structure)
    ∙ sound_total _ _ _ c.in_ok-total.ensures ∙ proper_total _ _ _ _ _ (sym c.if-not-is_proper.ensures) ∙ ap (λ (w : Work). w.len) (sym c.work.ensures)
