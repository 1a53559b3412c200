-- For the steps at a port, such as `Machine::pm_down`. What a step at a port does if the port is there, and a unit that
-- has no room for a frame.
use Rattle.std.proofs.{Common.{◌≡◌, ℕ, ◌<◌, ◌∷◌, List, length, Some, refl, sym, ap, ◌∙◌, subst}, lemmas.Option.slice_get_read}
use Rattle.std.specs.Prelude.{IsTrue, slice_get, slice_index_or}
use Rattle.fis_view.specs.Frames.{Stamped}
use Rattle.disk_model.specs.Histories.{Received}
use Rattle.multiplier.specs.State.{PmState}
use Rattle.pm_world.specs.{Attached.{Attached, WantsRoom}, Places.{Places, Place, Queue, FirstLeaves, with_device, with_multiplier}, Rules.Outcome}
use Rattle.pm_world.specs.{Rules.{OnDeviceAndMultiplier, TakeWants, is_for}, declared.step.StepError.TheVariants.OutOfMemory}

-- its rule holds of the device's place and the multiplier
pub on_both : (now old : Places) (n : ℕ) (place after : Place) (outcome : Outcome) (left : PmState) (R : Place → PmState → Outcome → Place → PmState → Type 0)
    → now ≡ old → n < length now.devices → place ≡ slice_index_or now.devices n place → R place now.multiplier outcome after left
    → OnDeviceAndMultiplier old n outcome (with_multiplier (with_device now n after) left) R
on_both now old n place after outcome left R same there here rule =
    let is : slice_get now.devices n ≡ Some place = slice_get_read now.devices (length now.devices) n place refl there here in
    subst (λ (o : Places). OnDeviceAndMultiplier o n outcome (with_multiplier (with_device now n after) left) R) same (rw is (after, left, rule, refl))

-- a frame that goes back to the front of its link
again : (old : Queue) (frame : Stamped) (rest : Queue) → FirstLeaves old (Some frame) rest → (let q : Queue = record { frames = frame ∷ rest.frames; capacity = rest.capacity } in q) ≡ old
again old frame rest first =
    ap (λ (fs : List Stamped). let q : Queue = record { frames = fs; capacity = rest.capacity } in q) (sym first.0)
    ∙ ap (λ (k : ℕ). let q : Queue = record { frames = old.frames; capacity = k } in q) first.1

-- a place whose unit lacks memory for the frame, which goes back, is as before
pub wants_room : (old : Place) (unit : Attached) (down rest : Queue) (frame : Stamped) → FirstLeaves old.down (Some frame) rest
    → down ≡ record { frames = frame ∷ rest.frames; capacity = rest.capacity } → IsTrue (is_for old frame) → WantsRoom old.unit (Received frame.bytes) → unit ≡ old.unit
    → TakeWants old OutOfMemory × ((let left : Place = record old { unit = unit; down = down } in left) ≡ old)
wants_room old unit down rest frame first back for wants same = (
  (frame, rest.frames, first.0, for, wants),
  ap (λ (u : Attached). let left : Place = record old { unit = u; down = down } in left) same
      ∙ ap (λ (q : Queue). let left : Place = record old { down = q } in left) (back ∙ again old.down frame rest first),
)
