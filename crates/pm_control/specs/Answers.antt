-- How the control port answers, and what an answer leaves (Serial ATA 3.x, 16.2: READ PORT MULTIPLIER and
-- WRITE PORT MULTIPLIER, software reset of the control port; 16.3: asynchronous notification; 16.4: the
-- registers).
use Rattle.std.specs.Prelude.{◌≡◌, ℕ, ◌/◌, ◌%◌, Bool, true, false, if◌then◌else◌, List, Option, Some, None, IsSome, Result, Ok, Err}
use Rattle.fis_view.specs.{Frames.Stamped, Table.{D2h, Bits}, Built.{IsBuilt, d2h_given, set_bits_given}, declared.build.D2hFields.D2hFields}
use Rattle.fis_view.specs.declared.{build.SetBitsFields.SetBitsFields, frame.Stamp.Stamp}
use Rattle.pm_registers.specs.{RegisterMap.{RegisterMap, register_at, read_at, after_rule, after_write, write_rule}, Calls.value_at}
use Rattle.pm_registers.specs.declared.words.RegisterError.{RegisterError, TheVariants.{NoPort, NoRegister}}
use Rattle.pm_control.specs.declared.request.{Address.Address, Request.{Request, TheVariants.{Read, Write, Unknown, Reset, EndReset}}}
use Rattle.pm_control.specs.Requests.{IsCommand, request_in}

-- ---- the fields of the answers, which are Register Device to Host FISes from PM Port Fh with I set

abbrev pub done : D2hFields
done = record { pm_port = 15; i = true; status = 0x50; error = 0; lba = 0; device = 0; count = 0 }

-- the bytes of the value, the low byte first, in Count 7:0, LBA 7:0, LBA 15:8 and LBA 23:16
abbrev pub value_answer : ℕ → D2hFields
value_answer value = record done { lba = value / 256; count = value % 256 }

abbrev pub refused : ℕ → D2hFields
refused error = record done { status = 0x51; error = error }

-- the Error field of the two refusals
abbrev pub refused_by : RegisterError → D2hFields
refused_by NoPort = refused 5
refused_by NoRegister = refused 6

-- the signature of a port multiplier: 01h, 01h, 69h, 96h in Count 7:0, LBA 7:0, LBA 15:8 and LBA 23:16
abbrev pub signature : D2hFields
signature = record done { error = 1; lba = 0x966901; count = 1 }

abbrev pub read_answer : Result ℕ RegisterError → D2hFields
read_answer (Ok value) = value_answer value
read_answer (Err error) = refused_by error

abbrev pub write_answer : Result ℕ RegisterError → D2hFields
write_answer (Ok value) = done
write_answer (Err error) = refused_by error

-- ---- the answer to a request, given whether a software reset has begun

abbrev pub answer_of : Bool → RegisterMap → Request → Option D2hFields
answer_of mark m (Read at) = Some (read_answer (read_at m at.port at.register))
answer_of mark m (Write at value) = Some (write_answer (read_at m at.port at.register))
answer_of mark m Unknown = Some (refused 4)
answer_of mark m Reset = None
answer_of mark m EndReset = (if mark then Some signature else None)

-- the registers afterwards: only a write changes them
abbrev pub registers_after : RegisterMap → Request → RegisterMap
registers_after m (Write at value) = after_write m at.port at.register value
registers_after m (Read at) = m
registers_after m Unknown = m
registers_after m Reset = m
registers_after m EndReset = m

-- whether a software reset is in progress afterwards: its end clears this
abbrev pub mark_after : Bool → Request → Bool
mark_after mark Reset = true
mark_after mark EndReset = false
mark_after mark (Read at) = mark
mark_after mark (Write at value) = mark
mark_after mark Unknown = mark

-- ---- the same for a frame

abbrev pub answer_to_request : Bool → RegisterMap → Option Request → Option D2hFields
answer_to_request mark m None = None
answer_to_request mark m (Some request) = answer_of mark m request

abbrev pub answer_to : Bool → RegisterMap → List ℕ → Option D2hFields
answer_to mark m bytes = answer_to_request mark m (request_in bytes)

abbrev pub registers_after_request : RegisterMap → Option Request → RegisterMap
registers_after_request m None = m
registers_after_request m (Some request) = registers_after m request

abbrev pub registers_left : RegisterMap → List ℕ → RegisterMap
registers_left m bytes = registers_after_request m (request_in bytes)

abbrev pub mark_after_request : Bool → Option Request → Bool
mark_after_request mark None = mark
mark_after_request mark (Some request) = mark_after mark request

abbrev pub mark_left : Bool → List ℕ → Bool
mark_left mark bytes = mark_after_request mark (request_in bytes)

-- each frame that gives a command has an answer
abbrev pub CommandsAreAnswered : Type 0
CommandsAreAnswered =
    (mark : Bool) (m : RegisterMap) (bytes : List ℕ) → IsCommand bytes → IsSome (answer_to mark m bytes)

-- a frame with these fields and this stamp if there are fields, else none
abbrev pub IsAnswer : Option D2hFields → Stamp → Option Stamped → Type 0
IsAnswer None stamp None = Unit {0}
IsAnswer None stamp (Some frame) = ⊥
IsAnswer (Some fields) stamp None = ⊥
IsAnswer (Some fields) stamp (Some frame) = IsBuilt D2h (d2h_given fields) frame.bytes × (frame.stamp ≡ stamp)

-- a register that is written has the value that its write rule makes from the old value and the written one
abbrev pub ReadsBack : RegisterMap → Request → RegisterMap → Type 0
ReadsBack old (Write at value) new = (was : ℕ) → register_at old at.port at.register ≡ Some was
    → register_at new at.port at.register ≡ Some (after_rule (write_rule at.port at.register) was value)
ReadsBack old (Read at) new = Unit {0}
ReadsBack old Unknown new = Unit {0}
ReadsBack old Reset new = Unit {0}
ReadsBack old EndReset new = Unit {0}

-- 16.2.2, WRITE PORT MULTIPLIER: where a write completes with Status 50h, the next READ PORT MULTIPLIER of
-- that port and register returns what the register's write rule makes from its old value and the written one.
abbrev pub IsSeenNext : RegisterMap → List ℕ → ℕ → RegisterMap → Type 0
IsSeenNext old write status new =
    (at : Address) (value : ℕ) → request_in write ≡ Some (Write at value) → status ≡ 0x50
    → (mark : Bool) (read : List ℕ) → request_in read ≡ Some (Read at)
    → answer_to mark new read
    ≡ Some (value_answer (after_rule (write_rule at.port at.register)
    (value_at old at.port at.register) value))

-- ---- the notification: a Set Device Bits FIS from PM Port Fh with N and I set, Status 50h, Error 0, SActive 0

abbrev pub notice_fields : SetBitsFields
notice_fields = record { pm_port = 15; n = true; i = true; status = 0x50; error = 0; sactive = 0 }

-- one is made where it is due, else none
abbrev pub IsNotice : Bool → Stamp → Option Stamped → Type 0
IsNotice false stamp None = Unit {0}
IsNotice false stamp (Some frame) = ⊥
IsNotice true stamp None = ⊥
IsNotice true stamp (Some frame) =
    IsBuilt Bits (set_bits_given notice_fields) frame.bytes × (frame.stamp ≡ stamp)
