-- Which commands read the NCQ Command Error log.
use Rattle.std.proofs.{Common.{◌≡◌, ℕ, ◌/◌, ◌%◌, true, false, List, Some, None, refl, ap, ◌∙◌}, lemmas.Bool.{eqb-true}}
use Rattle.std.specs.Prelude.{Option, Bool, nat_le, ◌==◌, ◌||◌, ◌&&◌, if◌then◌else◌}
use Rattle.fis_view.specs.Table.{H2d, Command, Count, field}
use Rattle.block_command.specs.declared.command.Command as block
use Rattle.block_queue.proofs.Door.{of_and}
use Rattle.ata_reply.specs.declared.reply.AtaError.TheVariants.{Aborted}
use Rattle.ata_command.specs.Asks.{DiskFacts, aborted, asked, asked_by, does_smart, log_page, moved, queued, sets, sets_multiple, transferred_by}
use Rattle.ata_command.specs.{Courses.is_error_log, Opcodes.{opcode_of, or_other, transfer_of}, declared.asked.{Asked.Asked, LogPage.LogPage}}
use Rattle.ata_command.specs.declared.{asked.SmartTask.SmartTask, opcode.Opcode.Opcode, settings.{Multiple.Multiple, Setting.Setting}}
use Rattle.ata_command.specs.declared.settings.Settings.{Settings}
use Rattle.ata_command.specs.declared.asked.Asked.TheVariants as ask
use Rattle.ata_command.specs.declared.opcode.Opcode.TheVariants as code
use Rattle.ata_command.specs.declared.opcode.Transfer as moves
use Rattle.disk_pages.specs.Logs.{reads_log}
use Rattle.sata_disk.specs.Hearing.{page_asked, with_logs}
use Rattle.sata_disk_laws.specs.Errors.{reads_error}
use Rattle.sata_disk_laws.proofs.AskedPlaces.{queued_command}

abbrev is_log : Asked → Bool
is_log (ask.ReadsLog p) = true
is_log _ = false

record IsOther (a : Asked) : Type 0 where
  pub is : is_log a ≡ false

either : (b : Bool) (x y : Asked) → IsOther x → IsOther y → IsOther (if b then x else y)
either true x y e f = e
either false x y e f = f

other : (a : Asked) → is_log a ≡ false → IsOther a
other a e = record { is = e }

moved_other : (d : DiskFacts) (c : block.Command) (wide : Bool) → IsOther (moved d c wide)
moved_other d c wide = either _ _ _ (other (ask.Moves (record { command = c; wide = wide })) refl) (other (ask.Refused _) refl)

transferred_other : (f : List ℕ) (t : moves.Transfer) (d : DiskFacts) (s : Settings) (x : Option ℕ) → IsOther (transferred_by f t d s x)
transferred_other f t d s None = other _ refl
transferred_other f t d s (Some n) = moved_other d _ t.wide

sets_other : (x : Option Setting) → IsOther (sets x)
sets_other None = other _ refl
sets_other (Some s) = other _ refl

multiple_other : (x : Option Multiple) → IsOther (sets_multiple x)
multiple_other None = other _ refl
multiple_other (Some m) = other _ refl

smart_other : (x : Option SmartTask) → IsOther (does_smart x)
smart_other None = other _ refl
smart_other (Some t) = other _ refl

queued_other : (f : List ℕ) (write : Bool) (d : DiskFacts) (s : Settings) → IsOther (queued f write d s)
queued_other f write d s = either (nat_le d.depth (field H2d Count f % 256 / 8))
    (ask.Refused (record { error = Aborted; lba = 0; wide = true; tag = Some (field H2d Count f % 256 / 8) })) (moved d (queued_command f write s) true)
    (other _ refl) (moved_other d (queued_command f write s) true)

abbrev is_log_op : Opcode → Bool
is_log_op code.ReadLog = true
is_log_op code.ReadLogDma = true
is_log_op _ = false

op_other : (o : Opcode) (f : List ℕ) (d : DiskFacts) (s : Settings) → is_log_op o ≡ false → IsOther (asked_by o f d s)
op_other code.ReadQueued f d s e = queued_other f false d s
op_other code.WriteQueued f d s e = queued_other f true d s
op_other (code.Transfer t) f d s e = transferred_other f t d s _
op_other code.SetFeatures f d s e = sets_other _
op_other code.SetMultiple f d s e = multiple_other _
op_other code.DataSet f d s e = either _ _ _ (other (ask.Trims _) refl) (other aborted refl)
op_other code.ReadLog f d s e = absurd (cc)
op_other code.ReadLogDma f d s e = absurd (cc)
op_other code.Smart f d s e = either _ _ _ (smart_other _) (other aborted refl)
op_other rest f d s e = other _ refl

-- ## The command code

record IsOp (o : Opcode) : Type 0 where
  pub is : is_log_op o ≡ false

op : (o : Opcode) → is_log_op o ≡ false → IsOp o
op o e = record { is = e }

either_op : (b : Bool) (x y : Opcode) → IsOp x → IsOp y → IsOp (if b then x else y)
either_op true x y e f = e
either_op false x y e f = f

second_op : (b : Bool) (x y : Opcode) → b ≡ false → IsOp y → IsOp (if b then x else y)
second_op true x y e f = absurd (cc)
second_op false x y e f = f

code_other : (x : Option moves.Transfer) (c : ℕ) → (c == 0x2F) ≡ false → (c == 0x47) ≡ false → IsOp (or_other x c)
code_other (Some t) c e f = op _ refl
code_other None c e f =
    either_op _ _ _ (op code.ReadQueued refl) (either_op _ _ _ (op code.WriteQueued refl) (either_op _ _ _ (op code.Flush refl)
    (either_op _ _ _ (op code.SetFeatures refl) (either_op _ _ _ (op code.SetMultiple refl) (either_op _ _ _ (op code.DataSet refl)
    (either_op _ _ _ (op code.Identify refl) (second_op _ _ _ e (second_op _ _ _ f (either_op _ _ _ (op code.Smart refl)
    (either_op _ _ _ (op code.Standby refl) (either_op _ _ _ (op code.Idle refl)
    (either_op _ _ _ (op code.CheckPower refl) (op code.Unknown refl)))))))))))))

-- ## The page

page_case : (p : LogPage) (b e : Bool) → is_error_log (ask.ReadsLog p) ≡ e → (e ≡ true → b ≡ true)
    → is_error_log (if b then ask.ReadsLog p else aborted) ≡ e
page_case p true e is there = is
page_case p false true is there = absurd (let no = there refl in cc)
page_case p false false is there = refl

-- page 0 of log 10h is there
error_there : (p : LogPage) → is_error_log (ask.ReadsLog p) ≡ true → ((p.count == 1) && reads_log p.log p.page p.count) ≡ true
error_there p e =
    let first = of_and ((p.log == 0x10) && (p.page == 0)) (p.count == 1) e in
    let second = of_and (p.log == 0x10) (p.page == 0) first.0 in
    ap (λ n. (n == 1) && reads_log p.log p.page n) (eqb-true p.count 1 first.1)
    ∙ ap (λ n. (1 == 1) && reads_log n p.page 1) (eqb-true p.log 0x10 second.0)
    ∙ ap (λ n. (1 == 1) && reads_log 0x10 n 1) (eqb-true p.page 0 second.1)

page_error : (p : LogPage) → is_error_log (page_asked p) ≡ is_error_log (ask.ReadsLog p)
page_error p = page_case p _ _ refl (λ e. error_there p e)

none_error : (a : Asked) → is_log a ≡ false → is_error_log (with_logs a) ≡ false
none_error (ask.ReadsLog p) e = absurd (cc)
none_error a e = refl

reads_case : (f : List ℕ) (d : DiskFacts) (s : Settings) (a b : Bool) → (field H2d Command f == 0x2F) ≡ a → (field H2d Command f == 0x47) ≡ b
    → is_error_log (with_logs (asked_by (opcode_of (field H2d Command f)) f d s)) ≡ ((a || b) && is_error_log (ask.ReadsLog (log_page f false)))
reads_case f d s true b e g =
    ap (λ c. is_error_log (with_logs (asked_by (opcode_of c) f d s))) (eqb-true (field H2d Command f) 0x2F e) ∙ page_error (log_page f false)
reads_case f d s false true e g =
    ap (λ c. is_error_log (with_logs (asked_by (opcode_of c) f d s))) (eqb-true (field H2d Command f) 0x47 g) ∙ page_error (log_page f true)
reads_case f d s false false e g =
    none_error _ (op_other (opcode_of (field H2d Command f)) f d s (code_other (transfer_of (field H2d Command f)) (field H2d Command f) e g).is).is

-- a command reads the log where its FIS says so
pub asked_reads : (f : List ℕ) (d : DiskFacts) (s : Settings) → is_error_log (with_logs (asked f d s)) ≡ reads_error f
unfolding asked
asked_reads f d s = reads_case f d s _ _ refl refl
