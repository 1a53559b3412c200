-- The FIS of a command that may send.
use Rattle.std.proofs.Common.{◌≡◌, ℕ, true, false, List, Some, None, refl, sym, ap, ◌∙◌, subst}
use Rattle.std.specs.{Prelude.{Option, Bool}, Option.option_map}
use Rattle.block_command.specs.declared.command.{Command.Command, Stage.{Stage, TheVariants.{SetUpRead, Announce, Sending, SetUpWrite, Activate}}}
use Rattle.block_command.specs.{declared.command.Stage.TheVariants.{End, Fail}, Moments.{Moment, turn_of}}
use Rattle.block_command.proofs.Door.{at}
use Rattle.block_disk.specs.Requests.{is_fis, sends_at}
use Rattle.block_queue.specs.Line.{command_at}
use Rattle.block_queue.proofs.Door.{of_and}
use Rattle.block_engine.specs.declared.engine.EngineFis.TheVariants as fis
use Rattle.block_engine.specs.Engine.{IsEngineFis, MayGo}
use Rattle.ata_reply.specs.declared.reply.Reply.{Reply}
use Rattle.ata_front.specs.Fronts.{owed}
use Rattle.sata_disk.specs.{State.{DiskState, commands}, Sending.{IsOut, is_data, out_at, out_by, reply_at}, declared.out.Out.{Out, TheVariants.Of}}

-- what sends has a FIS, Data or another
has_reply : (d : DiskState) (p : ℕ) (c : Command) (done : ℕ) (bytes : List ℕ) (sent : ℕ) (stage : Stage) → is_fis (turn_of stage) ≡ true
    → is_data (turn_of stage) ≡ false → reply_at d p (at c done bytes sent stage) ≡ None → ⊥
has_reply d p c done bytes sent SetUpRead fis' data' e = cc
has_reply d p c done bytes sent Announce fis' data' e = cc
has_reply d p c done bytes sent Sending fis' data' e = cc
has_reply d p c done bytes sent SetUpWrite fis' data' e = cc
has_reply d p c done bytes sent Activate fis' data' e = cc
has_reply d p c done bytes sent End fis' data' e = cc
has_reply d p c done bytes sent Fail fis' data' e = cc
has_reply d p c done bytes sent stage fis' data' e = cc

module _ (d : DiskState) (p : ℕ) (free : owed d.front.task ≡ None) (next : IsEngineFis d.engine (Some (fis.Of p))) (may : MayGo d.engine (fis.Of p)) where
  by_reply : (m : Moment) (y : Option Reply) → command_at (commands d) p ≡ Some m → is_data (turn_of m.stage) ≡ false → is_fis (turn_of m.stage) ≡ true
      → reply_at d p m ≡ y → IsOut d (option_map (λ r. Of p r) y)
  by_reply m None is other sends e = absurd (has_reply d p m.command m.done m.bytes m.sent m.stage sends other e)
  by_reply m (Some r) is other sends e =
      (free, next, may, sym (ap (out_at d p) is ∙ ap (out_by d p m) other ∙ ap (option_map (λ r. Of p r)) e))

  by_data : (m : Moment) (b : Bool) → command_at (commands d) p ≡ Some m → is_fis (turn_of m.stage) ≡ true → is_data (turn_of m.stage) ≡ b
      → IsOut d (out_by d p m b)
  by_data m true is sends e = (free, next, may, sym (ap (out_at d p) is ∙ ap (out_by d p m) e))
  by_data m false is sends e = by_reply m (reply_at d p m) is e sends refl

  by_command : (x : Option Moment) → command_at (commands d) p ≡ x → sends_at x ≡ true → IsOut d (out_at d p x)
  by_command None is sends = absurd (cc)
  by_command (Some m) is sends = by_data m _ is sends refl

pub out_is : (d : DiskState) (p : ℕ) (r : Option Out) → owed d.front.task ≡ None → IsEngineFis d.engine (Some (fis.Of p)) → MayGo d.engine (fis.Of p)
    → r ≡ out_at d p (command_at (commands d) p) → IsOut d r
out_is d p r free next may e =
    let P : Option Out → Type 0 = λ o. IsOut d o in
    subst P (sym e) (by_command d p free next may (command_at (commands d) p) refl (of_and _ _ may.1).0)
