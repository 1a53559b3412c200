use Rattle.std.proofs.Common.{ℕ, List, [], refl, subst}
use Rattle.fis_view.specs.Frames.{IsFrame}
use Rattle.hba_laws.specs.Cores.{IsCore}
use Rattle.uses_core_laws.proofs.takes.Goals as goal

pub returns : goal.returns
returns c = λ past told.
    let framed : IsFrame c.args.frame.now.bytes = subst (λ (l : List ℕ). IsFrame l) c.bytes.ensures.bytes c.bytes.ensures.is_frame in
    let ruled : IsCore c.args.port.now = record { port = c.keeps_rules.ensures.port; slots = c.keeps_rules.ensures.slots } in
    c.core_delivers.ensures.done c.args.port.now c.args.port.now c.take.new.self [] refl (record { cores = ruled; frames = tt }) c.args.frame.now.bytes c.args.room c.take.result past framed told
    (record { ignored = c.take.ensures.ignored; heard = c.take.ensures.heard })
