-- For `rested_drivers_watch`. What holds over a run between driver and control port, put together at rest.
use Rattle.std.proofs.Common.{List, refl}
use Rattle.pm_world.specs.{Attached.Attached, Line.OneOrderAtATime, Places.new_world, PortsGoOn.PortsGoOn, declared.step.Config.Config}
use Rattle.world_rests.specs.{Laws.RestedHaveDone, Watches.RestedDriversWatch}
use Rattle.world_rests.proofs.{ControlFile.{IsCalm, keeps_calm}, Noticed.waits_for_notice, Orders.none_asking, Settled.free_settled, Signed.IsSigned}
use Rattle.world_rests.proofs.{Signed.{keeps_signed, opens_signed}, Ways.{IsGood, Line, Way, good, kept_by, line_of}}

-- what each way keeps
record IsKept (l : Line) : Type 0 where
  calm : IsCalm l
  signed : IsSigned l

keeps : (l m : Line) → IsGood l → IsGood m → Way l m → IsKept l → IsKept m
keeps l m g h way k = record { calm = keeps_calm l m g h way k.calm; signed = keeps_signed l m g k.calm h way k.signed }

pub opening_calm : (config : Config) (units : List Attached) → IsCalm (line_of (new_world config units))
opening_calm config units = record {
  marks = λ f there. absurd there;
  up = λ f there. absurd there;
  waits = λ f there. absurd (cc there);
  shows = free_settled _ refl refl;
}

opening_kept : (config : Config) (units : List Attached) → IsKept (line_of (new_world config units))
opening_kept config units = record { calm = opening_calm config units; signed = opens_signed config units }

pub rested_drivers_watch : RestedHaveDone → OneOrderAtATime → PortsGoOn → RestedDriversWatch
rested_drivers_watch have_done lines ports config units fits before told now run rests =
    let done = have_done config units fits before told now run rests in
    let g : IsGood (line_of now) = good lines ports config units fits before told now run in
    let k : IsKept (line_of now) = kept_by lines ports config units fits IsKept keeps (opening_kept config units) before told now run in
    waits_for_notice (line_of now) g k.calm k.signed done.1.port done.1.driver done.0.downward done.0.answer done.0.upward
    (none_asking lines ports config units fits before told now run done.0.downward done.0.answer done.0.upward)
