-- For `one_order_at_a_time`. What the control port says, and what is said to it.
use Rattle.std.proofs.Common.{◌≡◌, ℕ, Bool, true, false, bit_and, List, Option, Some, None, Ok, Err, refl, ◌∙◌, ap, subst}
use Rattle.std.specs.{Prelude.{◌==◌, if◌then◌else◌, Result}, Int.from_bool}
use Rattle.fis_view.specs.{Built.{IsBuilt, cut, d2h_given, h2d_given, set_bits_given}, Frames.Stamped, Table.{Bits, C, Control, Count, D2h, Error}}
use Rattle.fis_view.specs.{Table.{H2d, Lba, SActive, Status, field, places}, declared.build.{D2hFields.D2hFields, H2dFields.H2dFields}}
use Rattle.fis_view.specs.declared.frame.Stamp.{Stamp}
use Rattle.hba_fbs.specs.{Posting.is_signature, Status.{is_busy, is_error}}
use Rattle.pm_registers.specs.{RegisterMap.{RegisterMap, read_at}, declared.words.RegisterError.{RegisterError, TheVariants.{NoPort, NoRegister}}}
use Rattle.pm_control.specs.{Answers.{IsAnswer, answer_to_request, notice_fields, read_answer, refused, signature, write_answer}, Requests.request_in}
use Rattle.pm_control.specs.{Requests.request_under, declared.request.Request.{Request, TheVariants.{Read, Write, Unknown, Reset, EndReset}}}
use Rattle.hba_driver.specs.Slot31.{IsAnswer31, IsNotice31, IsSignature31}

-- ---- what is said to the control port

control_cases : (c control : ℕ) (x : Request) → c ≡ 0 → (if c == 1 then x else (if bit_and control 4 == 0 then EndReset else Reset)) ≡ (if bit_and control 4 == 0 then EndReset else Reset)
control_cases c control x is = ap (λ (n : ℕ). if n == 1 then x else (if bit_and control 4 == 0 then EndReset else Reset)) is

-- a Control FIS with this value
module _ (f : H2dFields) (bytes : List ℕ) (built : IsBuilt H2d (h2d_given f) bytes) (control : f.c ≡ false) where
  no_command : field H2d C bytes ≡ 0
  unfolding cut places
  no_command = built.fields C ∙ ap (λ (b : Bool). cut (places H2d C) (from_bool b)) control

  value_is : (value : ℕ) → f.control ≡ value → field H2d Control bytes ≡ cut (places H2d Control) value
  value_is value is = built.fields Control ∙ ap (cut (places H2d Control)) is

  asks : (value : ℕ) → f.control ≡ value → request_in bytes ≡ Some (if bit_and (cut (places H2d Control) value) 4 == 0 then EndReset else Reset)
  asks value is =
      ap request_under built.viewed
      ∙ ap (λ (r : Request). Some r) (control_cases (field H2d C bytes) (field H2d Control bytes) _ no_command
      ∙ ap (λ (n : ℕ). if bit_and n 4 == 0 then EndReset else Reset) (value_is value is))

  pub asks_reset : f.control ≡ 4 → request_in bytes ≡ Some Reset
  unfolding cut places
  asks_reset is = asks 4 is

  pub asks_end : f.control ≡ 0 → request_in bytes ≡ Some EndReset
  unfolding cut places
  asks_end is = asks 0 is

-- ---- what the control port answers

answers_as : (fields : D2hFields) (bytes : List ℕ) (status : ℕ) → fields.status ≡ status → is_busy (cut (places D2h Status) status) ≡ false → IsBuilt D2h (d2h_given fields) bytes → IsAnswer31 bytes
answers_as fields bytes status is quiet built = record {
  viewed = built.viewed;
  done = ap is_busy (built.fields Status ∙ ap (cut (places D2h Status)) is) ∙ quiet;
}

right_busy : is_busy (cut (places D2h Status) 0x50) ≡ false
unfolding cut places
right_busy = refl

wrong_busy : is_busy (cut (places D2h Status) 0x51) ≡ false
unfolding cut places
wrong_busy = refl

read_answers : (r : Result ℕ RegisterError) (bytes : List ℕ) → IsBuilt D2h (d2h_given (read_answer r)) bytes → IsAnswer31 bytes
read_answers (Ok value) bytes built = answers_as (read_answer (Ok value)) bytes 0x50 refl right_busy built
read_answers (Err NoPort) bytes built = answers_as (read_answer (Err NoPort)) bytes 0x51 refl wrong_busy built
read_answers (Err NoRegister) bytes built = answers_as (read_answer (Err NoRegister)) bytes 0x51 refl wrong_busy built

write_answers : (r : Result ℕ RegisterError) (bytes : List ℕ) → IsBuilt D2h (d2h_given (write_answer r)) bytes → IsAnswer31 bytes
write_answers (Ok value) bytes built = answers_as (write_answer (Ok value)) bytes 0x50 refl right_busy built
write_answers (Err NoPort) bytes built = answers_as (write_answer (Err NoPort)) bytes 0x51 refl wrong_busy built
write_answers (Err NoRegister) bytes built = answers_as (write_answer (Err NoRegister)) bytes 0x51 refl wrong_busy built

end_answers : (b : Bool) (stamp : Stamp) (g : Stamped) → IsAnswer (if b then Some signature else None) stamp (Some g) → IsBuilt D2h (d2h_given signature) g.bytes
end_answers true stamp g is = is.0
end_answers false stamp g is = absurd is

-- whatever is asked
pub answers : (mark : Bool) (m : RegisterMap) (request : Option Request) (stamp : Stamp) (now : Option Stamped) → IsAnswer (answer_to_request mark m request) stamp now → (g : Stamped) → now ≡ Some g → IsAnswer31 g.bytes
answers mark m request stamp None is g same = cc
answers mark m (Some (Read at)) stamp (Some x) is g same = let e : x ≡ g = cc in subst (λ (y : Stamped). IsAnswer31 y.bytes) e (read_answers (read_at m at.port at.register) x.bytes is.0)
answers mark m (Some (Write at value)) stamp (Some x) is g same = let e : x ≡ g = cc in subst (λ (y : Stamped). IsAnswer31 y.bytes) e (write_answers (read_at m at.port at.register) x.bytes is.0)
answers mark m (Some Unknown) stamp (Some x) is g same = let e : x ≡ g = cc in subst (λ (y : Stamped). IsAnswer31 y.bytes) e (answers_as (refused 4) x.bytes 0x51 refl wrong_busy is.0)
answers mark m (Some EndReset) stamp (Some x) is g same = let e : x ≡ g = cc in subst (λ (y : Stamped). IsAnswer31 y.bytes) e (answers_as signature x.bytes 0x50 refl right_busy (end_answers mark stamp x is))
answers mark m other stamp (Some x) is g same = absurd is

-- the beginning of a software reset has no answer
none_now : (now : Option Stamped) (stamp : Stamp) → IsAnswer None stamp now → now ≡ None
none_now None stamp is = refl
none_now (Some g) stamp is = absurd is

pub reset_silent : (mark : Bool) (m : RegisterMap) (bytes : List ℕ) (stamp : Stamp) (now : Option Stamped) → request_in bytes ≡ Some Reset → IsAnswer (answer_to_request mark m (request_in bytes)) stamp now → now ≡ None
reset_silent mark m bytes stamp now asks is = none_now now stamp (subst (λ (r : Option Request). IsAnswer (answer_to_request mark m r) stamp now) asks is)

-- its end is answered with the signature
is_signature_of : (bytes : List ℕ) → IsBuilt D2h (d2h_given signature) bytes → is_signature bytes ≡ true
unfolding cut places
is_signature_of bytes built = rw (built.fields Error, built.fields Status, built.fields Count, built.fields Lba) refl

pub end_signs : (mark : Bool) (m : RegisterMap) (bytes : List ℕ) (stamp : Stamp) (now : Option Stamped) → request_in bytes ≡ Some EndReset → IsAnswer (answer_to_request mark m (request_in bytes)) stamp now
    → (g : Stamped) → now ≡ Some g → IsSignature31 g.bytes
end_signs mark m bytes stamp now asks is g same =
    let there : IsAnswer (if mark then Some signature else None) stamp (Some g) =
    subst (λ (o : Option Stamped). IsAnswer (if mark then Some signature else None) stamp o) same (subst (λ (r : Option Request). IsAnswer (answer_to_request mark m r) stamp now) asks is) in
    let built : IsBuilt D2h (d2h_given signature) g.bytes = end_answers mark stamp g there in
    record { viewed = built.viewed; signs = is_signature_of g.bytes built }

-- ---- its notification

pub notice_is : (bytes : List ℕ) → IsBuilt Bits (set_bits_given notice_fields) bytes → IsNotice31 bytes
unfolding cut places
notice_is bytes built = record {
  viewed = built.viewed;
  right = ap is_error (built.fields Status);
  names = built.fields SActive;
}
