-- A write that was done is seen by the next read.
use Rattle.std.proofs.Common.{◌≡◌, ℕ, ◌%◌, Bool, nat_lt, List, Option, Some, None, Result, Ok, Err, IfSome, unwrap_or, refl, sym, ap, subst, ◌∙◌}
use Rattle.std.proofs.{Common.{arith, inl, inr}, lemmas.Bool.cases_Bool}
use Rattle.std.specs.Prelude.{◌==◌, ok_or}
use Rattle.fis_view.specs.{Frames.Stamped, Table.{D2h, Status, places, field}, Built.{IsBuilt, cut, d2h_given}, declared.build.D2hFields.D2hFields}
use Rattle.fis_view.specs.declared.frame.Stamp.{Stamp}
use Rattle.pm_registers.specs.{RegisterMap.{RegisterMap, after_rule, control_port, has_port, read_at, register_at, write_rule}, Calls.value_at}
use Rattle.pm_registers.specs.declared.words.RegisterError.{RegisterError, TheVariants.{NoPort, NoRegister}}
use Rattle.pm_control.specs.{declared.request.{Address.Address, Request.{Request, TheVariants.{Read, Write}}}, Requests.request_in, Answers.IsAnswer}
use Rattle.pm_control.specs.Answers.{IsSeenNext, ReadsBack, answer_of, answer_to, value_answer, write_answer}

-- a register that has a value is read
read_some : (m : RegisterMap) (port register x : ℕ) → register_at m port register ≡ Some x → read_at m port register ≡ Ok x
read_some m port register x h =
    elim (cases_Bool (port == control_port)) [
      | inl control ↦ rw control (ap (λ (o : Option ℕ). ok_or o NoRegister) (rw control at h))
      | inr device ↦ elim (cases_Bool (nat_lt port m.ports)) [
        | inl there ↦ rw (device, there) (ap (λ (o : Option ℕ). ok_or o NoRegister) (rw (device, there) at h))
        | inr away ↦ let none = rw (device, away) at h in cc
      ]
    ]

-- a register whose write has Status 50h has a value
record HasValue (m : RegisterMap) (port register : ℕ) : Type 0 where
  x : ℕ
  there : register_at m port register ≡ Some x

written_some : (m : RegisterMap) (port register : ℕ) → (write_answer (read_at m port register)).status ≡ 0x50 → HasValue m port register
written_some m port register h =
    elim (cases_Bool (has_port m port)) [
      | inl there ↦ by_value (register_at m port register) refl (rw there at h)
      | inr away ↦ let wrong : 0x51 ≡ 0x50 = rw away at h in absurd (omega (arith, wrong))
    ]
  where
    by_value : (o : Option ℕ) → register_at m port register ≡ o → (write_answer (ok_or o NoRegister)).status ≡ 0x50 → HasValue m port register
    by_value None is wrong = absurd (omega (arith, wrong))
    by_value (Some x) is fifty = record { x = x; there = is }

-- the Status of a frame that is built
status_built : (fields : D2hFields) (f : List ℕ) → IsBuilt D2h (d2h_given fields) f → field D2h Status f ≡ fields.status % 256
unfolding cut places
status_built fields f built = omega (arith, built.fields Status)

-- the Status of an answer to a write is 50h or 51h
write_status : (r : Result ℕ RegisterError) → (write_answer r).status % 256 ≡ 0x50 → (write_answer r).status ≡ 0x50
write_status (Ok x) h = refl
write_status (Err NoPort) h = cc
write_status (Err NoRegister) h = cc

pub seen_next : (mark : Bool) (old new : RegisterMap) (write : List ℕ) (request : Request) (stamp : Stamp) (answer : Option Stamped) → request_in write ≡ Some request
    → IsAnswer (answer_of mark old request) stamp answer → ReadsBack old request new → IfSome answer (λ reply. IsSeenNext old write (field D2h Status reply.bytes) new)
seen_next mark old new write request stamp None asks is back = tt
seen_next mark old new write request stamp (Some reply) asks is back = λ at value write_is fifty. seen at value write_is fifty
  where
    seen : (at : Address) (value : ℕ) → request_in write ≡ Some (Write at value) → field D2h Status reply.bytes ≡ 0x50 → (later : Bool) (read : List ℕ) → request_in read ≡ Some (Read at)
        → answer_to later new read ≡ Some (value_answer (after_rule (write_rule at.port at.register) (value_at old at.port at.register) value))
    seen at value write_is fifty later read read_is =
        let same : request ≡ Write at value = cc in
        let built = subst (λ (r : Request). IsAnswer (answer_of mark old r) stamp (Some reply)) same is in
        let reads = subst (λ (r : Request). ReadsBack old r new) same back in
        let status = status_built (write_answer (read_at old at.port at.register)) reply.bytes built.0 in
        let found = written_some old at.port at.register (write_status (read_at old at.port at.register) (sym status ∙ fifty)) in
        let was : value_at old at.port at.register ≡ found.x = ap (λ (o : Option ℕ). unwrap_or o 0) found.there in
        let next = read_some new at.port at.register _ (reads found.x found.there) in
        rw (read_is, next, was) refl
