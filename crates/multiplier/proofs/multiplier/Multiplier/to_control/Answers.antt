use Rattle.std.proofs.Common.{None, ap, sym, subst}
use Rattle.fis_view.specs.declared.frame.Stamp.{Stamp}
use Rattle.multiplier.specs.{contracts.multiplier.Multiplier.the_view, State.{PmState, ShowsRecorded}}
use Rattle.multiplier.proofs.Sound.{answered_sound, answer_is, answer_shows, stamp_shows}
use Rattle.multiplier.proofs.multiplier.Multiplier.to_control.Goals as goal

pub invariant_of-self : goal.invariant_of-self
invariant_of-self c =
    answered_sound _ c.answer.new.registers c.answer.new.self c.in-Ok.answer c.number_after-self-inside.result None c.args.frame.bytes c.self.invariant c.in-Ok.ensures.registers
    (answer_is _ c.control_stamp-stamp.result (ap (λ (s : Stamp). s.port) c.control_stamp-stamp.ensures) c.in-Ok.answer c.in-Ok.ensures.answer)
    (answer_shows (the_view c.self.inside) _ c.control_stamp-stamp.result
    (subst (λ (pm : PmState). ShowsRecorded pm c.control_stamp-stamp.result) (sym c.self.view_is) (subst (ShowsRecorded c.args.self.now) (sym c.control_stamp-stamp.ensures) (stamp_shows c.args.self.now)))
    c.in-Ok.answer c.in-Ok.ensures.answer) tt
