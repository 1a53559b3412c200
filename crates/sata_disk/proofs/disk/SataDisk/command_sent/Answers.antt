use Rattle.std.proofs.Common.{◌∙◌, ap, None}
use Rattle.block_engine.specs.Engine.{EngineState, line, with_schedule}
use Rattle.sata_disk.specs.State.{DiskState}
use Rattle.sata_disk.proofs.Sent.{FrontFits, command_keeps, fits_failed, fits_same, fits_single}
use Rattle.sata_disk.proofs.disk.SataDisk.command_sent.Goals as goal
use Rattle.sata_disk.proofs.disk.SataDisk.command_sent.Goals.{then-place-lt32+then-failed, then-place-lt32+else-failed, else-place-lt32}

pub invariant_of-self : goal.invariant_of-self
invariant_of-self c =
    let d : DiskState = record { profile = c.self.inside.profile; front = c.self.inside.front; engine = c.self.inside.engine } in
    let forgiven : EngineState → EngineState = λ e. with_schedule e (record { line = line e; limit = e.schedule.limit; fault = None }) in
    let fits : FrontFits d c.if-place-lt32.self = elim c.if-place-lt32.branch [
      | then-place-lt32+then-failed w ↦ fits_failed d c.if-place-lt32.self c.args.place c.trouble_at-trouble.result c.self.invariant (w.self-is ∙ w.queued_failed.ensures)
      | then-place-lt32+else-failed w ↦ fits_same d c.if-place-lt32.self c.self.invariant w.self-is
      | else-place-lt32 w ↦ fits_single d c.if-place-lt32.self _ c.args.sectors c.self.invariant (w.self-is ∙ w.single_front-self-inside.ensures)
    ] in
    command_keeps d c.if-place-lt32.self c.forgive.new.self c.args.place c.requires.place c.self.invariant fits (c.forgive.ensures ∙ ap forgiven c.send.ensures)
