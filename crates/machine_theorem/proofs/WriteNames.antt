-- The sectors that a disk takes for a write that is not queued are those that its FIS names.
use Rattle.std.proofs.Common.{◌≡◌, ℕ, ◌+◌, ◌*◌, ◌%◌, ◌&&◌, Bool, true, false, not, List, Option, Some, None, Result, Ok, Err, refl, sym, ap, subst}
use Rattle.std.proofs.{Common.{◌∙◌}, lemmas.{Bool.{and_parts, false≢true}, Option.same_Some}}
use Rattle.std.specs.Prelude.{◌==◌, ◌||◌, if◌then◌else◌, nat_le}
use Rattle.fis_view.specs.{Frames.marked, Seen.seen, Table.{H2d, Command, Device, Lba, PmPort, field}, declared.view.{Fis.Fis, FisFault.FisFault}}
use Rattle.fis_view.specs.declared.view.Fis.TheVariants as view
use Rattle.guest_fetch.specs.Heads.{fields_in}
use Rattle.block_command.specs.Moments.{is_verify}
use Rattle.block_command.specs.declared.command.Command as block
use Rattle.ata_command.specs.Asks.{DiskFacts, aborted, asked, asked_by, block_in, count_of, first_missing, lba_of, moved, protocol_of, sectors_asked}
use Rattle.ata_command.specs.{Asks.{tag_of_place, transferred_by}, Opcodes.{or_other, transfer_of}, declared.asked.{Asked.Asked, LogPage.LogPage}}
use Rattle.ata_command.specs.declared.opcode.Transfer.{Transfer}
use Rattle.ata_command.specs.declared.asked.Asked.TheVariants as ask
use Rattle.ata_command.specs.declared.opcode.Opcode.TheVariants as code
use Rattle.ata_reply.specs.declared.reply.AtaError.TheVariants.{NotFound}
use Rattle.disk_pages.specs.{Logs.reads_log, Profiles.facts_of}
use Rattle.sata_disk.specs.{Hearing.{asked_of, is_command, with_logs}, State.DiskState}
use Rattle.machine_theorem.specs.{InTurn.{commands, is_asking}, StoredSingles.{IsNamedBy, WritesAreNamed, is_write, is_writing, writes}}
use Rattle.machine_theorem.proofs.Counts.{AreMarked, Fits, FitsRow, are_marked, count_is, fits, frame_is}

-- ---- what the disk takes

-- the sectors are those that the bytes name for such a command
record IsTransferOf (d : DiskState) (g : List ℕ) (t : Transfer) (c : block.Command) : Type 0 where
  lba : c.lba ≡ lba_of g t.wide
  count : c.count ≡ count_of g t.wide
  write : c.write ≡ t.write
  lasting : c.lasting ≡ (t.write && (t.fua || not d.front.settings.write_cache))
  protocol : c.protocol ≡ protocol_of t.way

module _ (d : DiskState) (g : List ℕ) (t : Transfer) where
  abbrev Of : Asked → Type 0
  Of (ask.Moves m) = IsTransferOf d g t m.command
  Of other = Unit {0}

  abbrev missing : DiskFacts → block.Command → (wide : Bool) → Asked
  missing facts c wide = ask.Refused (record { error = NotFound; lba = first_missing facts c.lba; wide = wide; tag = tag_of_place c.place })

  moved_of : (facts : DiskFacts) (c : block.Command) (wide : Bool) → IsTransferOf d g t c → Of (moved facts c wide)
  moved_of facts c wide is = by (nat_le (c.lba + c.count) facts.sectors)
    where
      by : (b : Bool) → Of (if b then ask.Moves (record { command = c; wide = wide }) else missing facts c wide)
      by true = is
      by false = tt

  transferred_of : (facts : DiskFacts) (o : Option ℕ) → Of (transferred_by g t facts d.front.settings o)
  transferred_of facts None = tt
  transferred_of facts (Some size) = moved_of facts (record {
    place = 32;
    lba = lba_of g t.wide;
    count = count_of g t.wide;
    write = t.write;
    lasting = t.write && (t.fua || not d.front.settings.write_cache);
    protocol = protocol_of t.way;
    block = size;
    auto_activate = false;
  }) t.wide (record { lba = refl; count = refl; write = refl; lasting = refl; protocol = refl })

  log_case : (p : LogPage) (b : Bool) → Of (if b then ask.ReadsLog p else aborted)
  log_case p true = tt
  log_case p false = tt

  logs_of : (a : Asked) → Of a → Of (with_logs a)
  logs_of (ask.ReadsLog p) is = log_case p ((p.count == 1) && reads_log p.log p.page p.count)
  logs_of (ask.Moves m) is = is
  logs_of other is = tt

  by_code : (o : Option Transfer) (c : ℕ) → o ≡ Some t → Of (with_logs (asked_by (or_other o c) g (facts_of d.profile) d.front.settings))
  by_code None c e = absurd (cc)
  by_code (Some x) c e =
      subst (λ (y : Transfer). Of (with_logs (asked_by (or_other (Some y) c) g (facts_of d.profile) d.front.settings))) (sym (same_Some x t e))
      (logs_of (asked_by (code.Transfer t) g (facts_of d.profile) d.front.settings)
      (transferred_of (facts_of d.profile) (block_in t.way d.front.settings.multiple)))

  transfer_asked : transfer_of (field H2d Command g) ≡ Some t → Of (asked_of d g)
  unfolding asked
  transfer_asked e = by_code (transfer_of (field H2d Command g)) (field H2d Command g) e

-- ---- the FIS

-- it is a command, and writes
pub record IsWriting (bytes : List ℕ) : Type 0 where
  pub asks : is_asking bytes ≡ true
  pub write : is_write (transfer_of (field H2d Command bytes)) ≡ true

writing_by : (r : Result Fis FisFault) (bytes : List ℕ) → seen bytes ≡ r → writes r ≡ true → IsWriting bytes
writing_by (Ok (view.RegH2D g)) bytes e is =
    let both = and_parts (is_command g) (is_write (transfer_of (field H2d Command g))) is in
    record {
      asks = ap commands e ∙ both.0;
      write = ap (λ (f : List ℕ). is_write (transfer_of (field H2d Command f))) (sym (frame_is bytes g e)) ∙ both.1;
    }
writing_by (Ok other) bytes e is = absurd (false≢true is)
writing_by (Err fault) bytes e is = absurd (false≢true is)

pub writing : (bytes : List ℕ) → is_writing bytes ≡ true → IsWriting bytes
writing bytes is = writing_by (seen bytes) bytes refl is

record TheWrite (o : Option Transfer) : Type 0 where
  transfer : Transfer
  is : o ≡ Some transfer
  write : transfer.write ≡ true

the_write : (o : Option Transfer) → is_write o ≡ true → TheWrite o
the_write None is = absurd (false≢true is)
the_write (Some t) is = record { transfer = t; is = refl; write = is }

-- ---- the law

pub are_named : WritesAreNamed
are_named d fis is move asks =
    by (the_write (transfer_of (field H2d Command fis)) (ap (λ (c : ℕ). is_write (transfer_of c)) (sym command_is) ∙ w.write))
  where
    w : IsWriting (marked fis 0)
    w = writing (marked fis 0) is

    m : AreMarked fis
    m = are_marked fis w.asks

    command_is : field H2d Command (marked fis 0) ≡ field H2d Command fis
    command_is = m.fields Command (λ (e : Command ≡ PmPort). cc)

    lba_is : field H2d Lba (marked fis 0) ≡ field H2d Lba fis
    lba_is = m.fields Lba (λ (e : Lba ≡ PmPort). cc)

    device_is : field H2d Device (marked fis 0) ≡ field H2d Device fis
    device_is = m.fields Device (λ (e : Device ≡ PmPort). cc)

    lba_of_it : (wide : Bool) → lba_of (marked fis 0) wide ≡ lba_of fis wide
    lba_of_it true = lba_is
    lba_of_it false =
        ap (λ (n : ℕ). n % 0x1000000 + 0x1000000 * (field H2d Device (marked fis 0) % 16)) lba_is
        ∙ ap (λ (n : ℕ). field H2d Lba fis % 0x1000000 + 0x1000000 * (n % 16)) device_is

    count_of_it : (wide : Bool) → count_of (marked fis 0) wide ≡ count_of fis wide
    count_of_it true = ap (λ (n : ℕ). sectors_asked n 65536) (count_is fis m)
    count_of_it false = ap (λ (n : ℕ). sectors_asked (n % 256) 256) (count_is fis m)

    by : TheWrite (transfer_of (field H2d Command fis)) → IsNamedBy d fis move.command
    by r =
        let t : Transfer = r.transfer in
        let of : IsTransferOf d (marked fis 0) t move.command =
        subst (Of d (marked fis 0) t) asks (transfer_asked d (marked fis 0) t (ap transfer_of command_is ∙ r.is)) in
        let fit : Fits (fields_in fis) (field H2d Command fis) t =
        subst (FitsRow (fields_in fis) (field H2d Command fis)) r.is (fits (fields_in fis) (field H2d Command fis)) in
        record {
          transfer = t;
          code = r.is;
          lba = of.lba ∙ lba_of_it t.wide;
          count = of.count ∙ count_of_it t.wide;
          write = of.write ∙ r.write;
          lasting = of.lasting ∙ ap (λ (b : Bool). b && (t.fua || not d.front.settings.write_cache)) r.write;
          moves = ap is_verify of.protocol ∙ fit.out r.write;
        }
