-- For `task_files_stay_fine`. The task file that a host port has of an honest disk.
use Rattle.std.proofs.Common.{◌≡◌, ◌==◌, ◌-◌, eqb, max, min, nat_lt, bit_or, bit_and, ℕ, zero, suc, ◌<◌, Bool, true, false, List, [], ◌∷◌, length, refl, sym, ap, subst, ◌∙◌, inl, inr, Option, Some, None, Ok, Err, Result, arith}
use Rattle.std.specs.{Prelude.{◌⊎◌, if◌then◌else◌, is_some, not}, Int.bit_at}
use Rattle.std.proofs.lemmas.{Bool.eqb-true, Nat.Bits.{bit_at-lt, bit_at_and, bit_at_or}}
use Rattle.fis_view.specs.{Table.{Bits, D2h, Pio, SActive, Status, field}, declared.{view.Fis.Fis, view.FisFault.FisFault}}
use Rattle.fis_view.specs.Table as table
use Rattle.fis_view.specs.declared.view.Fis.TheVariants as view
use Rattle.port_errors.specs.declared.cause.DeviceCause.TheVariants as cause
use Rattle.port_errors.specs.declared.cause.PortCause.TheVariants as port_cause
use Rattle.slots.specs.{Commands.{after_complete, answer_of, answered_as, completed, is_done, is_slot}, Data.{after_arrive, may_activate}}
use Rattle.slots.specs.{Setup.{out_setup, pio_fault, pio_issue}, Slots.{DeviceSlots, context_unless, match_some, sent_pio}}
use Rattle.slots.specs.declared.{answer.Answered.Answered, answer.SetupError.SetupError, table.Context.Context}
use Rattle.slots.specs.declared.answer.Answered.TheVariants as answer
use Rattle.hba_fbs.specs.{declared.{hearing.Fault.Fault, hearing.Heard.Heard, report.Wrote.Wrote, status.Block.Block}, Hearing.{heard_fis, moved}}
use Rattle.hba_fbs.specs.{Status.{after_reset, is_error, with_bits, with_file}, Taking.{admitted, device_cause, heard, view_after_hearing}}
use Rattle.hba_fbs.specs.Views.{DeviceView}
use Rattle.hba_fbs.specs.declared.hearing.Fault.TheVariants as fault
use Rattle.hba_fbs.specs.declared.hearing.Happening.TheVariants as happening
use Rattle.hba_fbs.specs.Hearing as hear
use Rattle.disk_model.specs.{Anew.IsClear, Ends.IsRight, Laws.{ActivatesRight, AnswersFirst, ShowsFirst}, Ledger.{Ledger, Refuses, Reply, ShowsPage}}
use Rattle.disk_simulation.specs.{Files.{EndsFine, IsFineBlock, IsFineFile, IsNoRefusal, IsOfDisk, IsUnrefused}, Line.EachReply}
use Rattle.disk_simulation.proofs.{link.LooseLemmas.no_setup, joined.HeardLemmas.error_is}

-- ## Status.ERR

pub bit_none : (x : ℕ) → x < 2 → eqb x 1 ≡ false → x ≡ 0
bit_none zero below is = refl
bit_none (suc zero) below is = cc is
bit_none (suc (suc x)) below is = absurd (omega (arith, below))

-- a Set Device Bits FIS without ERR clears it
bits_none : (old status : ℕ) → is_error status ≡ false → is_error (bit_or (bit_and old 136) status) ≡ false
bits_none old status is =
    let low : bit_at status 0 ≡ 0 = bit_none (bit_at status 0) (bit_at-lt status 0) is in
    let both : bit_at (bit_or (bit_and old 136) status) 0 ≡ max (bit_at (bit_and old 136) 0) (bit_at status 0) = bit_at_or (bit_and old 136) status 0 in
    let kept : bit_at (bit_and old 136) 0 ≡ min (bit_at old 0) (bit_at 136 0) = bit_at_and old 136 0 in
    let never : bit_at 136 0 ≡ 0 = refl in
    let none : bit_at (bit_or (bit_and old 136) status) 0 ≡ 0 = omega (arith, low, both, kept, never) in
    ap (λ (x : ℕ). eqb x 1) none

not_control_by : (dev : ℕ) (b : Bool) → eqb dev 15 ≡ b → dev < 15 → b ≡ false
not_control_by dev true is below = let same : dev ≡ 15 = eqb-true dev 15 is in absurd (omega (arith, same, below))
not_control_by dev false is below = refl

not_control : (dev : ℕ) → dev < 15 → (dev == 15) ≡ false
not_control dev below = not_control_by dev (eqb dev 15) refl below

-- ## What comes

-- the Status of an answer that is awaited, where none is a refusal
answer_status : (xs : List Reply) (f : List ℕ) → EachReply IsNoRefusal xs → AnswersFirst xs f → field D2h Status f ≡ 0x50
answer_status [] f none answers = absurd answers
answer_status (Refuses ∷ xs) f none answers = absurd none.0
answer_status (ShowsPage ∷ xs) f none answers = absurd answers
answer_status other f none answers = answers.status_is

page_status : (xs : List Reply) (f : List ℕ) → ShowsFirst xs f → field Pio Status f ≡ 0x58
page_status (ShowsPage ∷ xs) f shows = shows.0.status_is
page_status other f shows = absurd shows

-- ## What is heard

-- what follows of the task file is without an error; where Status is not told, it was so before
pub record IsFineHeard (v : DeviceView) (h : Heard) : Type 0 where
  pub status : is_error h.state.status ≡ false
  pub ends : ((moved h.happening v.slots).context ≡ None) ⊎ IsFineBlock h.state.block

module _ (v : DeviceView) where
  -- nothing of the task file is told, and no slot changes
  same_heard : (f : Option Fault) (done : ℕ) (pss : Bool) → IsFineFile v
      → IsFineHeard v (record { state = v.state; happening = happening.Nothing; fault = f; done = done; pss = pss })
  same_heard f done pss fine = record { status = fine.status; ends = fine.ends }

  answered_unset : (own : DeviceSlots) (a : Answered) → own.context ≡ None → (answered_as a own).context ≡ None
  answered_unset own (answer.Done slot) none = ap (context_unless (is_slot slot)) none
  answered_unset own other none = none

  answered_ends : (a : Answered) → EndsFine v → ((answered_as a v.slots).context ≡ None) ⊎ IsFineBlock v.state.block
  answered_ends a (inl none) = inl (answered_unset v.slots a none)
  answered_ends a (inr fine) = inr fine

  register_by : (error : ℕ) (resetting : Bool) → EndsFine v
      → IsFineHeard v (if resetting then hear.quietly (after_reset v.state 0x50 error) happening.Nothing else hear.heard_d2h v.slots v.state 0x50 error)
  register_by error true ends = record { status = refl; ends = ends }
  register_by error false ends = record { status = refl; ends = answered_ends (answer_of v.slots) ends }

  register_heard : (status error : ℕ) → status ≡ 0x50 → EndsFine v → IsFineHeard v (hear.heard_register v.slots v.state status error)
  register_heard status error is ends =
      subst (λ (n : ℕ). IsFineHeard v (hear.heard_register v.slots v.state n error)) (sym is) (register_by error v.state.resetting ends)

  -- the mark of a signature is no part of the task file
  signing_fine : (f : List ℕ) (h : Heard) → IsFineHeard v h → IsFineHeard v (hear.signing f h)
  signing_fine f h fine = record { status = fine.status; ends = fine.ends }

  named_ends : (mask : ℕ) → EndsFine v → ((after_complete mask v.slots).context ≡ None) ⊎ IsFineBlock v.state.block
  named_ends mask (inl none) = inl (ap (context_unless (is_done mask v.slots)) none)
  named_ends mask (inr fine) = inr fine

  bits_heard : (status error mask : ℕ) → is_error status ≡ false → EndsFine v → IsFineHeard v (hear.heard_bits v.slots v.state status error mask)
  bits_heard status error mask is ends =
      subst (λ (b : Bool). IsFineHeard v (if b then hear.faulty (with_bits v.state status error) cause.TaskFile
      else hear.named (completed mask v.slots) (with_bits v.state status error) mask)) (sym is)
      (record { status = bits_none v.state.status status is; ends = named_ends mask ends })

  setup_by : (o : Option SetupError) (c : Context) → IsFineFile v → IsFineHeard v (hear.set_up o v.state None (happening.SetUp c))
  setup_by None c fine = record { status = fine.status; ends = inr tt }
  setup_by (Some e) c fine = same_heard _ 0 false fine

  pio_set_up : (o : Option SetupError) (error count : ℕ) (to_host : Bool) (block : Block) → is_error block.ends ≡ false → EndsFine v
      → IsFineHeard v (hear.set_up o (with_file v.state 0x58 error) (Some block) (happening.PioSetUp count to_host))
  pio_set_up None error count to_host block fine ends = record { status = refl; ends = inr fine }
  pio_set_up (Some e) error count to_host block fine ends = record { status = refl; ends = ends }

  out_set_up : (error : ℕ) (block : Block) (r : Result Context SetupError) → is_error block.ends ≡ false → EndsFine v
      → IsFineHeard v (hear.heard_out (with_file v.state 0x58 error) block r)
  out_set_up error block (Ok c) fine ends = record { status = fine; ends = inr tt }
  out_set_up error block (Err e) fine ends = record { status = refl; ends = ends }

  pio_heard : (status error count : ℕ) (to_host : Bool) (block : Block) → status ≡ 0x58 → is_error block.ends ≡ false → EndsFine v
      → IsFineHeard v (hear.heard_pio v.slots v.state status error count to_host block)
  pio_heard status error count to_host block is fine ends =
      subst (λ (n : ℕ). IsFineHeard v (hear.heard_pio v.slots v.state n error count to_host block)) (sym is)
      (by_sent (is_some (sent_pio v.slots)))
    where
      by_sent : (b : Bool) → IsFineHeard v (if b then hear.set_up (pio_fault (pio_issue v.slots) count to_host) (with_file v.state 0x58 error) (Some block)
          (happening.PioSetUp count to_host) else hear.heard_out (with_file v.state 0x58 error) block (out_setup v.slots count to_host))
      by_sent true = pio_set_up (pio_fault (pio_issue v.slots) count to_host) error count to_host block fine ends
      by_sent false = out_set_up error block (out_setup v.slots count to_host) fine ends

  activated_by : (o : Option Context) → v.slots.context ≡ o → IsFineFile v
      → IsFineHeard v (if may_activate o then hear.quietly v.state happening.Activated else hear.faulty v.state cause.Stray)
  activated_by None is fine = same_heard _ 0 false fine
  activated_by (Some c) is fine = activated_if (may_activate (Some c)) fine.ends
    where
      activated_if : (b : Bool) → EndsFine v
          → IsFineHeard v (if b then hear.quietly v.state happening.Activated else hear.faulty v.state cause.Stray)
      activated_if true (inl none) = let bad : Some c ≡ None = sym is ∙ none in cc bad
      activated_if true (inr ends) = record { status = fine.status; ends = inr ends }
      activated_if false ends = same_heard _ 0 false fine

  -- bytes of a setup
  bytes_by : (own : DeviceSlots) (wrote : Wrote) (block : Option Block) (last : Bool) → v.state.block ≡ block → is_error v.state.status ≡ false
      → IsFineBlock block → IsFineHeard v (hear.heard_bytes own v.state wrote block last)
  bytes_by own wrote None last is status fine = record { status = status; ends = inr (subst IsFineBlock (sym is) fine) }
  bytes_by own wrote (Some block) true is status fine = record { status = fine; ends = inr (subst IsFineBlock (sym is) fine) }
  bytes_by own wrote (Some block) false is status fine = record { status = status; ends = inr (subst IsFineBlock (sym is) fine) }

  data_if : (a b c : Bool) (h : Heard) → IsFineFile v → IsFineHeard v h
      → IsFineHeard v (if a then hear.faulty v.state cause.Stray else if b then hear.bus_failed v.state else if c then hear.overflowed v.state else h)
  data_if true b c h fine on = same_heard _ 0 false fine
  data_if false true c h fine on = same_heard _ 0 _ fine
  data_if false false true h fine on = same_heard _ 0 _ fine
  data_if false false false h fine on = on

  set_block : (c : Context) → v.slots.context ≡ Some c → EndsFine v → IsFineBlock v.state.block
  set_block c is (inl none) = let bad : Some c ≡ None = sym is ∙ none in cc bad
  set_block c is (inr fine) = fine

  data_by : (sound : Bool) (count : ℕ) (o : Option Context) → v.slots.context ≡ o → IsFineFile v
      → IsFineHeard v (match_some o (hear.faulty v.state cause.Stray) (hear.heard_data_of v.slots v.state sound count))
  data_by sound count None is fine = same_heard _ 0 false fine
  data_by sound count (Some c) is fine =
      let wrote : Wrote = record { slot = c.slot; offset = c.next; len = count } in
      data_if (not c.to_host) (not sound) (nat_lt c.left count)
      (hear.heard_bytes (after_arrive v.slots count) v.state wrote v.state.block (c.left == count)) fine
      (bytes_by (after_arrive v.slots count) wrote v.state.block (c.left == count) refl fine.status (set_block c is fine.ends))

  -- a FIS that is right
  fis_heard : (k : Ledger) (sound : Bool) (fis : Fis) → IsUnrefused k → IsRight k (Ok fis) → IsOfDisk (Ok fis) → IsFineFile v
      → IsFineHeard v (heard_fis v.slots v.state sound fis)
  unfolding heard_fis
  fis_heard k sound (view.RegD2H f) none right mine fine =
      signing_fine f (hear.heard_register v.slots v.state (field D2h Status f) (field D2h table.Error f))
      (register_heard (field D2h Status f) (field D2h table.Error f) (answer_status k.awaited f none right.replies) fine.ends)
  fis_heard k sound (view.SetBits f) none right mine fine =
      bits_heard (field Bits Status f) (field Bits table.Error f) (field Bits SActive f) (error_is (field Bits Status f) ∙ right.fine) fine.ends
  fis_heard k sound (view.DmaActivate f) none right mine fine = activated_by v.slots.context refl fine
  fis_heard k sound (view.DmaSetup f) none right mine fine = setup_by _ _ fine
  fis_heard k sound (view.PioSetup f) none right mine fine =
      pio_heard (field Pio Status f) (field Pio table.Error f) (field Pio table.Transfer f) (field Pio table.D f == 1) (hear.block_of f)
      (page_status k.awaited f right.replies) (ap is_error mine) fine.ends
  fis_heard k sound (view.Payload f) none right mine fine = data_by sound (length f - 4) v.slots.context refl fine
  fis_heard k sound other none right mine fine = absurd mine

  admitted_if : (dev : ℕ) (sound : Bool) (fis : Fis) (b : Bool) → IsFineFile v → IsFineHeard v (heard_fis v.slots v.state sound fis)
      → IsFineHeard v (heard dev v sound (if b then Some fis else None))
  admitted_if dev sound fis true fine on = on
  admitted_if dev sound fis false fine on = same_heard _ 0 false fine

  pub right_heard : (k : Ledger) (dev : ℕ) (sound : Bool) (r : Result Fis FisFault) → IsUnrefused k → IsRight k r → IsOfDisk r → IsFineFile v
      → IsFineHeard v (heard dev v sound (admitted dev r))
  right_heard k dev sound (Ok fis) none right mine fine = admitted_if dev sound fis (hear.is_admitted dev fis) fine (fis_heard k sound fis none right mine fine)
  right_heard k dev sound (Err e) none right mine fine = absurd mine

  -- the first FIS of a disk from which nothing queued is to come, where no setup stands
  first_fis : (k : Ledger) (sound : Bool) (fis : Fis) → IsUnrefused k → IsClear k → IsRight k (Ok fis) → IsOfDisk (Ok fis) → v.slots.context ≡ None
      → IsFineHeard v (heard_fis v.slots v.state sound fis) ⊎ (is_some (device_cause (heard_fis v.slots v.state sound fis).fault) ≡ true)
  unfolding heard_fis
  first_fis k sound (view.RegD2H f) none clear right mine unset =
      inl (signing_fine f (hear.heard_register v.slots v.state (field D2h Status f) (field D2h table.Error f))
      (register_heard (field D2h Status f) (field D2h table.Error f) (answer_status k.awaited f none right.replies) (inl unset)))
  first_fis k sound (view.SetBits f) none clear right mine unset =
      inl (bits_heard (field Bits Status f) (field Bits table.Error f) (field Bits SActive f) (error_is (field Bits Status f) ∙ right.fine) (inl unset))
  first_fis k sound (view.DmaActivate f) none clear right mine unset = absurd (subst ActivatesRight clear.moving right.moves)
  first_fis k sound (view.DmaSetup f) none clear right mine unset = absurd (no_setup k f clear.moving clear.outstanding right.moves)
  first_fis k sound (view.PioSetup f) none clear right mine unset =
      inl (pio_heard (field Pio Status f) (field Pio table.Error f) (field Pio table.Transfer f) (field Pio table.D f == 1) (hear.block_of f)
      (page_status k.awaited f right.replies) (ap is_error mine) (inl unset))
  first_fis k sound (view.Payload f) none clear right mine unset =
      inr (ap (λ (o : Option Context). is_some (device_cause (match_some o (hear.faulty v.state cause.Stray)
      (hear.heard_data_of v.slots v.state sound (length f - 4))).fault)) unset)
  first_fis k sound other none clear right mine unset = absurd mine

  first_if : (dev : ℕ) (sound : Bool) (fis : Fis) (b : Bool) → (dev == 15) ≡ false
      → IsFineHeard v (heard_fis v.slots v.state sound fis) ⊎ (is_some (device_cause (heard_fis v.slots v.state sound fis).fault) ≡ true)
      → IsFineHeard v (heard dev v sound (if b then Some fis else None))
      ⊎ (is_some (device_cause (heard dev v sound (if b then Some fis else None)).fault) ≡ true)
  first_if dev sound fis true other on = on
  first_if dev sound fis false other on =
      inr (ap (λ (b : Bool). is_some (device_cause (Some (if b then fault.Port port_cause.BadControl else fault.Device cause.BadFis)))) other)

  pub first_heard : (k : Ledger) (dev : ℕ) (sound : Bool) (r : Result Fis FisFault) → dev < 15 → IsUnrefused k → IsClear k → IsRight k r → IsOfDisk r
      → v.slots.context ≡ None
      → IsFineHeard v (heard dev v sound (admitted dev r)) ⊎ (is_some (device_cause (heard dev v sound (admitted dev r)).fault) ≡ true)
  first_heard k dev sound (Ok fis) below none clear right mine unset =
      first_if dev sound fis (hear.is_admitted dev fis) (not_control dev below) (first_fis k sound fis none clear right mine unset)
  first_heard k dev sound (Err e) below none clear right mine unset = absurd mine

  pub fine_view : (h : Heard) → IsFineHeard v h → IsFineFile (view_after_hearing v h)
  fine_view h fine = record { status = fine.status; ends = fine.ends }
