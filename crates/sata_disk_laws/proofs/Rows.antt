-- Rows of the walk along the FISes, worked out.
use Rattle.std.proofs.Common.{◌≡◌, ℕ, true, false, List, [], ◌∷◌, Some, refl, arith}
use Rattle.std.specs.Option.{is_some}
use Rattle.fis_view.specs.{Bits.bits, Seen.seen, Table.{field, places, spelled}}
use Rattle.block_queue.specs.Line.{any_below}
use Rattle.ata_reply.specs.declared.reply.{AtaError.TheVariants.{NotFound, Uncorrectable}, Failure.Failure}
use Rattle.ata_reply.specs.declared.reply.Reply.TheVariants as replies
use Rattle.ata_front.specs.Fronts.{page_announced}
use Rattle.ata_front.specs.declared.task.Fault.TheVariants as faults
use Rattle.ata_front.specs.declared.task.Page.TheVariants as pages
use Rattle.disk_pages.specs.declared.profile.Profile.{Profile}
use Rattle.sata_disk.specs.State.{new_disk}
use Rattle.sata_disk.specs.declared.out.Out.TheVariants as out
use Rattle.sata_disk_laws.specs.{Calls.{Call, Hears, Plugs, Sends}, Errors.{Watch, new_watch, watch_of}, Once.{ForAnswer, ForEnd, ForLast}}
use Rattle.sata_disk_laws.specs.Once.{ForNothing, ForSignature, IsDue, host_of, new_host, none_open}

-- a Register FIS of these first bytes and this Count
abbrev fis : (flags code count : ℕ) → (control : ℕ) → List ℕ
fis flags code count control =
    0x27 ∷ flags ∷ code ∷ 0 ∷ 0 ∷ 0 ∷ 0 ∷ 0x40 ∷ 0 ∷ 0 ∷ 0 ∷ 0 ∷ count ∷ 0 ∷ 0 ∷ control ∷ 0 ∷ 0 ∷ 0 ∷ 0 ∷ []

-- plugged in, and the signature came
abbrev start : List Call
start = Plugs ∷ Sends (out.Own replies.Signature) ∷ []

-- READ FPDMA QUEUED with tag 3, and its acceptance
abbrev read_3 : List Call
read_3 = Plugs ∷ Sends (out.Own replies.Signature) ∷ Hears (fis 0x80 0x60 0x18 0) ∷ Sends (out.Own replies.Accepted) ∷ []

row_start : (host_of new_host start).waits ≡ ForNothing
unfolding host_of
row_start = refl

row_tag : (host_of new_host (Hears (fis 0x80 0x60 0x18 0) ∷ [])).waits ≡ ForAnswer 3
unfolding host_of seen field places spelled bits
row_tag = refl

row_open : (host_of new_host read_3).open_at 3 ≡ true
unfolding host_of seen field places spelled bits
row_open = refl

row_other : (host_of new_host read_3).open_at 2 ≡ false
unfolding host_of seen field places spelled bits
row_other = refl

-- the Set Device Bits FIS with bit 3 is due, and none with bit 3 after it
row_twice : IsDue (host_of new_host (Plugs ∷ Sends (out.Own replies.Signature) ∷ Hears (fis 0x80 0x60 0x18 0) ∷ Sends (out.Own replies.Accepted)
    ∷ Sends (out.Ends 8) ∷ [])) (replies.Ends 8) → ⊥
unfolding host_of seen field places spelled bits
row_twice due = let none = (due 3 (omega arith) refl).1 in cc

-- IDENTIFY DEVICE: its one block ends it
row_identify : (host_of new_host (Hears (fis 0x80 0xEC 0 0) ∷ [])).waits ≡ ForEnd
unfolding host_of seen field places spelled bits
row_identify = refl

row_last : (host_of new_host (Hears (fis 0x80 0xEC 0 0) ∷ Sends (out.Own page_announced) ∷ [])).waits ≡ ForLast
unfolding host_of seen field places spelled bits
row_last = refl

row_ended : (host_of new_host (Hears (fis 0x80 0xEC 0 0) ∷ Sends (out.Own page_announced) ∷ Sends (out.Page pages.Identity) ∷ [])).open_at 32 ≡ false
unfolding host_of seen field places spelled bits
row_ended = refl

-- a software reset, and its end
row_srst : (host_of new_host (Hears (fis 0x80 0x60 0x18 0) ∷ Hears (fis 0 0 0 4) ∷ Hears (fis 0 0 0 0) ∷ [])) ≡ record {
  open_at = none_open;
  waits = ForSignature;
  in_reset = false;
}
unfolding host_of seen field places spelled bits
row_srst = refl

-- a command that comes while the host waits is none
row_busy : (host_of new_host (Hears (fis 0x80 0xEC 0 0) ∷ Hears (fis 0x80 0x60 0x18 0) ∷ [])).open_at 3 ≡ false
unfolding host_of seen field places spelled bits
row_busy = refl

-- the error of a queued command ends all
row_error : (host_of new_host (Hears (fis 0x80 0x60 0x18 0) ∷ Sends (out.Own replies.Accepted) ∷ Sends (out.Of 3 (replies.Aborts Uncorrectable)) ∷ [])).open_at 3
    ≡ false
unfolding host_of seen field places spelled bits
row_error = refl

-- ## Errors

abbrev watch : Profile → (limit : ℕ) → List Call → Watch
watch p limit calls = watch_of (new_disk p limit) new_host new_watch calls

-- a queued read failed
abbrev failed_3 : List Call
failed_3 = Hears (fis 0x80 0x60 0x18 0) ∷ Sends (out.Own replies.Accepted) ∷ Sends (out.Of 3 (replies.Aborts Uncorrectable)) ∷ []

row_stands : (p : Profile) (limit : ℕ) → is_some (watch p limit failed_3).fault ≡ true
unfolding watch_of seen field places spelled bits
row_stands p limit = refl

-- another command that comes is to be aborted
row_aborts : (p : Profile) (limit : ℕ) → (watch p limit (Hears (fis 0x80 0x60 0x18 0) ∷ Sends (out.Own replies.Accepted)
    ∷ Sends (out.Of 3 (replies.Aborts Uncorrectable)) ∷ Hears (fis 0x80 0xEC 0 0) ∷ [])).aborts ≡ true
unfolding watch_of seen field places spelled bits any_below
row_aborts p limit = refl

-- a queued command was refused: the error is its own
row_refused : (p : Profile) (limit : ℕ) → (watch p limit (Hears (fis 0x80 0x60 0x18 0)
    ∷ Sends (out.Own (replies.Failed (record { error = NotFound; lba = 7; wide = true }))) ∷ [])).fault
    ≡ Some (faults.Queued 3 (record { error = NotFound; lba = 7 }))
unfolding watch_of seen field places spelled bits any_below
row_refused p limit = refl

-- a queued read with tag 3 is open, and another command comes and is refused
abbrev beside_3 : (flags code count : ℕ) → Failure → List Call
beside_3 flags code count f = Hears (fis 0x80 0x60 0x18 0) ∷ Sends (out.Own replies.Accepted) ∷ Hears (fis flags code count 0) ∷ Sends (out.Own (replies.Failed f)) ∷ []

-- one with tag 4, which is past the end: so the error is its own there, too
row_beside : (p : Profile) (limit : ℕ) → (watch p limit (beside_3 0x80 0x60 0x20 (record { error = NotFound; lba = 7; wide = true }))).fault
    ≡ Some (faults.Queued 4 (record { error = NotFound; lba = 7 }))
unfolding watch_of seen field places spelled bits any_below
row_beside p limit = refl

-- one with the same tag, and one that is not queued: the error is of none
row_tag_twice : (p : Profile) (limit : ℕ) → (watch p limit (beside_3 0x80 0x60 0x18 (record { error = NotFound; lba = 7; wide = true }))).fault ≡ Some faults.Mixed
unfolding watch_of seen field places spelled bits any_below
row_tag_twice p limit = refl

row_mixed : (p : Profile) (limit : ℕ) → (watch p limit (beside_3 0x80 0xEC 0 (record { error = NotFound; lba = 7; wide = true }))).fault ≡ Some faults.Mixed
unfolding watch_of seen field places spelled bits any_below
row_mixed p limit = refl
