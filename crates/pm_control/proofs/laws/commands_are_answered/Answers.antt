use Rattle.std.proofs.{Common.{◌≡◌, ◌==◌, ℕ, Bool, true, false, List, IsSome, if◌then◌else◌, refl}, lemmas.Bool.{eq-eqb}}
use Rattle.fis_view.specs.Table.{H2d, C, Command, field}
use Rattle.pm_registers.specs.RegisterMap.{RegisterMap}
use Rattle.pm_control.specs.{declared.request.Request.{Request, TheVariants.{Read, Write, Unknown}}, Requests.{IsCommand, address_in, value_in}}
use Rattle.pm_control.specs.{Requests.requested, Answers.{answer_of, answer_to}}
use Rattle.pm_control.proofs.laws.commands_are_answered.Goals as goal

-- a choice has what both values have
either : {A : Type 0} (P : A → Type 0) (b : Bool) (x y : A) → P x → P y → P (if b then x else y)
either P true x y h k = h
either P false x y h k = k

command_answered : (mark : Bool) (m : RegisterMap) (f : List ℕ) → field H2d C f ≡ 1 → IsSome (answer_of mark m (requested f))
command_answered mark m f c =
    let P : Request → Type 0 = λ r. IsSome (answer_of mark m r) in
    rw (eq-eqb (field H2d C f) 1 c) (
    either P (field H2d Command f == 0xE4) (Read (address_in f)) (if field H2d Command f == 0xE8 then Write (address_in f) (value_in f) else Unknown) refl
    (either P (field H2d Command f == 0xE8) (Write (address_in f) (value_in f)) Unknown refl refl))

answered : (mark : Bool) (m : RegisterMap) (bytes : List ℕ) → IsCommand bytes → IsSome (answer_to mark m bytes)
answered mark m bytes (is, c) = rw is (command_answered mark m bytes c)

pub returns : goal.returns
returns c = answered
