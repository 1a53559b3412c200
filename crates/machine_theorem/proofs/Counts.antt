-- The controller and a disk read the same count out of the FIS of a command.
use Rattle.std.proofs.Common.{◌≡◌, ℕ, ◌+◌, ◌*◌, ◌/◌, ◌%◌, ◌≤◌, ◌&&◌, Bool, true, false, not, List, [], length, Option, Some, None, Result, Ok, Err}
use Rattle.std.proofs.{Common.{refl, sym, ap, subst, ◌∙◌, arith}, lemmas.{Bool.{eqb-true, false≢true, true≢false}, List.{length-set}}}
use Rattle.std.specs.Prelude.{◌==◌, ◌||◌, if◌then◌else◌, nat_le, nat_lt, slice_index}
use Rattle.fis_view.specs.{Frames.marked, Seen.{frame_of, kind_of, may_have, seen, view_as}, Table.{H2d, C, Command, Count, Features, Kind, Lba}}
use Rattle.fis_view.specs.{Table.{Name, PmPort, field}, declared.{build.H2dFields.H2dFields, view.{Fis.Fis, FisFault.FisFault}}}
use Rattle.fis_view.specs.declared.view.FisFault.TheVariants.{WrongLength}
use Rattle.fis_view.specs.declared.view.Fis.TheVariants as view
use Rattle.fis_view.proofs.Door.{is_marked_from}
use Rattle.slots.specs.{Slots.is_control, Work.is_read, declared.work.Work.Work}
use Rattle.hba_commands.specs.Requests.{work_of}
use Rattle.guest_fetch.specs.Heads.{asked_work, fields_in}
use Rattle.block_command.specs.Moments.{is_verify, whole}
use Rattle.block_command.specs.declared.command.Command as block
use Rattle.ata_command.specs.Asks.{DiskFacts, aborted, asked, asked_by, block_in, count_of, does_smart, moved, protocol_of, queued, sectors_asked}
use Rattle.ata_command.specs.{Asks.{sets, sets_multiple, setting_of, smart_task, transferred_by}, Modes.multiple_of, Opcodes.{opcode_of, or_other}}
use Rattle.ata_command.specs.{Opcodes.{other_of, transfer_of}, declared.{asked.{Asked.Asked, SmartTask.SmartTask}, opcode.Opcode.Opcode}}
use Rattle.ata_command.specs.declared.{opcode.{Transfer.Transfer, Way.{Way, TheVariants.{Dma, Single, Multiple, Verify}}}, settings.Setting.Setting}
use Rattle.ata_command.specs.declared.settings.Settings.{Settings}
use Rattle.ata_command.specs.declared.asked.Asked.TheVariants as ask
use Rattle.ata_command.specs.declared.opcode.Opcode.TheVariants as code
use Rattle.ata_command.specs.declared.settings.Multiple as settings
use Rattle.disk_pages.specs.{Logs.reads_log, Profiles.facts_of}
use Rattle.sata_disk.specs.{Hearing.{asked_of, is_command, with_logs}, State.DiskState}
use Rattle.machine_theorem.specs.{CountedAlike.CommandsAreCountedAlike, InTurn.{commands, is_asking}}

-- ---- the count of the controller

abbrev pub transfer : (write wide fua : Bool) → Way → Transfer
transfer write wide fua way = record { write = write; wide = wide; fua = fua; way = way }

abbrev count_with : ℕ → (wide : Bool) → ℕ
count_with count true = sectors_asked count 65536
count_with count false = sectors_asked (count % 256) 256

module _ (f : H2dFields) where
  -- what these fields ask for, with another command code
  abbrev pub work_at : Bool → ℕ → Work
  work_at c command = asked_work (record {
    pm_port = f.pm_port;
    c = c;
    command = command;
    features = f.features;
    lba = f.lba;
    device = f.device;
    count = f.count;
    icc = f.icc;
    control = f.control;
  })

  -- with C 0 it is no command
  pub control_at : (command : ℕ) → is_control (work_at false command).kind ≡ true
  unfolding work_of
  control_at command = refl

  -- of a command that moves sectors and is not queued
  pub record Fits (command : ℕ) (t : Transfer) : Type 0 where
    len : is_verify (protocol_of t.way) ≡ false → (work_at true command).len ≡ 512 * count_with f.count t.wide
    way : is_verify (protocol_of t.way) ≡ false → is_read (work_at true command).kind ≡ not t.write
    pub out : t.write ≡ true → is_verify (protocol_of t.way) ≡ false

  abbrev pub FitsRow : ℕ → Option Transfer → Type 0
  FitsRow command None = Unit {0}
  FitsRow command (Some t) = Fits command t

  step : (c : ℕ) (b : Bool) (x y : Option Transfer) → (b ≡ true → FitsRow c x) → FitsRow c y → FitsRow c (if b then x else y)
  step c true x y first second = first refl
  step c false x y first second = second

  moving : (code : ℕ) (t : Transfer) → (work_at true code).len ≡ 512 * count_with f.count t.wide → is_read (work_at true code).kind ≡ not t.write
      → is_verify (protocol_of t.way) ≡ false → (c : ℕ) → (c == code) ≡ true → FitsRow c (Some t)
  moving code t len way moves c same =
      subst (λ (n : ℕ). FitsRow n (Some t)) (sym (eqb-true c code same)) (record { len = λ v. len; way = λ v. way; out = λ write. moves })

  staying : (t : Transfer) → is_verify (protocol_of t.way) ≡ true → t.write ≡ false → (c : ℕ) → FitsRow c (Some t)
  staying t stays none c = record {
    len = λ moves. absurd (false≢true (sym moves ∙ stays));
    way = λ moves. absurd (false≢true (sym moves ∙ stays));
    out = λ write. absurd (false≢true (sym none ∙ write));
  }

  pub fits : (c : ℕ) → FitsRow c (transfer_of c)
  unfolding work_of
  fits c =
      step c (c == 0x20) _ _ (moving 0x20 (transfer false false false Single) refl refl refl c)
      (step c (c == 0x24) _ _ (moving 0x24 (transfer false true false Single) refl refl refl c)
      (step c (c == 0xC4) _ _ (moving 0xC4 (transfer false false false Multiple) refl refl refl c)
      (step c (c == 0x29) _ _ (moving 0x29 (transfer false true false Multiple) refl refl refl c)
      (step c (c == 0x30) _ _ (moving 0x30 (transfer true false false Single) refl refl refl c)
      (step c (c == 0x34) _ _ (moving 0x34 (transfer true true false Single) refl refl refl c)
      (step c (c == 0xC5) _ _ (moving 0xC5 (transfer true false false Multiple) refl refl refl c)
      (step c (c == 0x39) _ _ (moving 0x39 (transfer true true false Multiple) refl refl refl c)
      (step c (c == 0xCE) _ _ (moving 0xCE (transfer true true true Multiple) refl refl refl c)
      (step c (c == 0xC8) _ _ (moving 0xC8 (transfer false false false Dma) refl refl refl c)
      (step c (c == 0x25) _ _ (moving 0x25 (transfer false true false Dma) refl refl refl c)
      (step c (c == 0xCA) _ _ (moving 0xCA (transfer true false false Dma) refl refl refl c)
      (step c (c == 0x35) _ _ (moving 0x35 (transfer true true false Dma) refl refl refl c)
      (step c (c == 0x3D) _ _ (moving 0x3D (transfer true true true Dma) refl refl refl c)
      (step c (c == 0x40) _ _ (λ same. staying (transfer false false false Verify) refl refl c)
      (step c (c == 0x42) _ _ (λ same. staying (transfer false true false Verify) refl refl c) tt)))))))))))))))

  -- of a queued one
  queued_len : (c : ℕ) → ((c == 0x60) || (c == 0x61)) ≡ true → (work_at true c).len ≡ 512 * sectors_asked f.features 65536
  unfolding work_of
  queued_len c is = by (c == 0x60) (c == 0x61) refl refl is
    where
      by : (a b : Bool) → (c == 0x60) ≡ a → (c == 0x61) ≡ b → (a || b) ≡ true → (work_at true c).len ≡ 512 * sectors_asked f.features 65536
      by true b e g is = subst (λ (n : ℕ). (work_at true n).len ≡ 512 * sectors_asked f.features 65536) (sym (eqb-true c 0x60 e)) refl
      by false true e g is = subst (λ (n : ℕ). (work_at true n).len ≡ 512 * sectors_asked f.features 65536) (sym (eqb-true c 0x61 g)) refl
      by false false e g is = absurd (false≢true is)

  read_way : (c : ℕ) → (c == 0x60) ≡ true → is_read (work_at true c).kind ≡ true
  unfolding work_of
  read_way c e = subst (λ (n : ℕ). is_read (work_at true n).kind ≡ true) (sym (eqb-true c 0x60 e)) refl

  write_way : (c : ℕ) → (c == 0x61) ≡ true → is_read (work_at true c).kind ≡ false
  unfolding work_of
  write_way c e = subst (λ (n : ℕ). is_read (work_at true n).kind ≡ false) (sym (eqb-true c 0x61 e)) refl

-- ---- the count of the disk

abbrev is_still : Opcode → Bool
is_still code.ReadQueued = false
is_still code.WriteQueued = false
is_still (code.Transfer t) = false
is_still _ = true

record IsStill (o : Opcode) : Type 0 where
  is : is_still o ≡ true

still_if : (b : Bool) (x y : Opcode) → IsStill x → IsStill y → IsStill (if b then x else y)
still_if true x y e f = e
still_if false x y e f = f

still : (o : Opcode) → is_still o ≡ true → IsStill o
still o e = record { is = e }

neither : (a b : Bool) (rest : Opcode) → a ≡ false → b ≡ false → IsStill rest
    → is_still (if a then code.ReadQueued else (if b then code.WriteQueued else rest)) ≡ true
neither true b rest e g is = absurd (true≢false e)
neither false true rest e g is = absurd (true≢false g)
neither false false rest e g is = is.is

other_still : (c : ℕ) → (c == 0x60) ≡ false → (c == 0x61) ≡ false → is_still (other_of c) ≡ true
other_still c e g = neither (c == 0x60) (c == 0x61) _ e g
    (still_if _ _ _ (still code.Flush refl) (still_if _ _ _ (still code.SetFeatures refl) (still_if _ _ _ (still code.SetMultiple refl)
    (still_if _ _ _ (still code.DataSet refl) (still_if _ _ _ (still code.Identify refl) (still_if _ _ _ (still code.ReadLog refl)
    (still_if _ _ _ (still code.ReadLogDma refl) (still_if _ _ _ (still code.Smart refl) (still_if _ _ _ (still code.Standby refl)
    (still_if _ _ _ (still code.Idle refl) (still_if _ _ _ (still code.CheckPower refl) (still code.Unknown refl))))))))))))

-- as many bytes, the same way
record Same (w : Work) (c : block.Command) : Type 0 where
  len : w.len ≡ whole c
  way : is_read w.kind ≡ not c.write

abbrev Alike : Work → Asked → Type 0
Alike w (ask.Moves m) = is_verify m.command.protocol ≡ false → Same w m.command
Alike w other = Unit {0}

alike_if : (w : Work) (b : Bool) (x y : Asked) → Alike w x → Alike w y → Alike w (if b then x else y)
alike_if w true x y e f = e
alike_if w false x y e f = f

logs_alike : (w : Work) (a : Asked) → Alike w a → Alike w (with_logs a)
logs_alike w (ask.ReadsLog p) is = alike_if w ((p.count == 1) && reads_log p.log p.page p.count) (ask.ReadsLog p) aborted tt tt
logs_alike w (ask.Moves m) is = is
logs_alike w other is = tt

module _ (w : Work) (g : List ℕ) (d : DiskFacts) (s : Settings) where
  moved_alike : (c : block.Command) (wide : Bool) → (is_verify c.protocol ≡ false → Same w c) → Alike w (moved d c wide)
  moved_alike c wide same = alike_if w (nat_le (c.lba + c.count) d.sectors) (ask.Moves (record { command = c; wide = wide })) _ same tt

  transfer_alike : (t : Transfer) (o : Option ℕ) → (is_verify (protocol_of t.way) ≡ false → w.len ≡ count_of g t.wide * 512)
      → (is_verify (protocol_of t.way) ≡ false → is_read w.kind ≡ not t.write) → Alike w (transferred_by g t d s o)
  transfer_alike t None len way = tt
  transfer_alike t (Some b) len way = moved_alike _ t.wide (λ moves. record { len = len moves; way = way moves })

  queued_alike : (write : Bool) → w.len ≡ sectors_asked (field H2d Features g) 65536 * 512 → is_read w.kind ≡ not write → Alike w (queued g write d s)
  queued_alike write len way =
      alike_if w (nat_le d.depth (field H2d Count g % 256 / 8)) _ _ tt (moved_alike _ true (λ moves. record { len = len; way = way }))

  sets_alike : (x : Option Setting) → Alike w (sets x)
  sets_alike None = tt
  sets_alike (Some y) = tt

  multiple_alike : (x : Option settings.Multiple) → Alike w (sets_multiple x)
  multiple_alike None = tt
  multiple_alike (Some y) = tt

  smart_alike : (x : Option SmartTask) → Alike w (does_smart x)
  smart_alike None = tt
  smart_alike (Some y) = tt

  still_alike : (o : Opcode) → is_still o ≡ true → Alike w (asked_by o g d s)
  still_alike code.ReadQueued e = absurd (false≢true e)
  still_alike code.WriteQueued e = absurd (false≢true e)
  still_alike (code.Transfer t) e = absurd (false≢true e)
  still_alike code.SetFeatures e = sets_alike (setting_of s.mode (field H2d Features g % 256) (field H2d Count g % 256))
  still_alike code.SetMultiple e = multiple_alike (multiple_of (field H2d Count g % 256))
  still_alike code.DataSet e =
      alike_if w ((field H2d Features g % 256 == 1) && nat_lt 0 (field H2d Count g) && nat_le (field H2d Count g) d.trim_blocks) _ aborted tt tt
  still_alike code.Smart e =
      alike_if w (field H2d Lba g / 0x100 % 0x10000 == 0xC24F) _ aborted
      (smart_alike (smart_task (field H2d Features g % 256) (field H2d Count g % 256))) tt
  still_alike other e = tt

-- ---- a FIS, as a disk hears it

record IsRegister (f g : List ℕ) : Type 0 where
  same : g ≡ f
  long : length f ≡ 20

abbrev frame_in : Result Fis FisFault → List ℕ
frame_in (Ok v) = frame_of v
frame_in (Err e) = []

register_by : (kind : Kind) (b : Bool) (f g : List ℕ) → may_have kind (length f) ≡ b
    → (if b then Ok (view_as kind f) else Err WrongLength) ≡ Ok (view.RegH2D g) → IsRegister f g
register_by kind false f g long h = absurd (cc)
register_by H2d true f g long h = record { same = sym (ap frame_in h); long = eqb-true (length f) 20 long }
register_by kind true f g long h = absurd (cc)

register : (f g : List ℕ) → seen f ≡ Ok (view.RegH2D g) → IsRegister f g
unfolding seen
register f g h = register_by (kind_of f) (may_have (kind_of f) (length f)) f g refl h

-- a view is of all bytes
pub frame_is : (f g : List ℕ) → seen f ≡ Ok (view.RegH2D g) → g ≡ f
frame_is f g h = (register f g h).same

pub record IsAsking (bytes : List ℕ) : Type 0 where
  pub command : is_command bytes ≡ true
  pub long : length bytes ≡ 20

asking_by : (r : Result Fis FisFault) (bytes : List ℕ) → seen bytes ≡ r → commands r ≡ true → IsAsking bytes
asking_by (Ok (view.RegH2D g)) bytes e is =
    let r : IsRegister bytes g = register bytes g e in
    record { command = ap is_command (sym r.same) ∙ is; long = r.long }
asking_by (Ok other) bytes e is = absurd (false≢true is)
asking_by (Err fault) bytes e is = absurd (false≢true is)

pub asking : (bytes : List ℕ) → is_asking bytes ≡ true → IsAsking bytes
asking bytes is = asking_by (seen bytes) bytes refl is

-- a FIS has the fields that were sent
pub marked_fields : (fis g : List ℕ) → seen (marked fis 0) ≡ Ok (view.RegH2D g) → (name : Name) → (name ≡ PmPort → ⊥)
    → field H2d name (marked fis 0) ≡ field H2d name fis
marked_fields fis g viewed name other =
    let long = (register (marked fis 0) g viewed).long in
    let same = length-set fis 1 (slice_index fis 1 / 16 * 16 + 0) in
    (is_marked_from fis 0 (omega (arith, long, same)) (omega arith)).fields H2d name other

-- its fields are those that were sent
pub record AreMarked (fis : List ℕ) : Type 0 where
  pub c : (field H2d C fis == 1) ≡ true
  pub fields : (name : Name) → (name ≡ PmPort → ⊥) → field H2d name (marked fis 0) ≡ field H2d name fis

pub are_marked : (fis : List ℕ) → is_asking (marked fis 0) ≡ true → AreMarked fis
are_marked fis is =
    let a : IsAsking (marked fis 0) = asking (marked fis 0) is in
    let long = a.long in
    let same = length-set fis 1 (slice_index fis 1 / 16 * 16 + 0) in
    let room : 2 ≤ length fis = omega (arith, long, same) in
    let it = is_marked_from fis 0 room (omega arith) in
    record {
      c = ap (λ (n : ℕ). n == 1) (sym (it.fields H2d C (λ (e : C ≡ PmPort). cc))) ∙ a.command;
      fields = λ name other. it.fields H2d name other;
    }

-- ---- the law

module _ (fis : List ℕ) (m : AreMarked fis) where
  abbrev g : List ℕ
  g = marked fis 0

  abbrev f : H2dFields
  f = fields_in fis

  work_is : work_at f true (field H2d Command fis) ≡ asked_work (fields_in fis)
  work_is = ap (λ (b : Bool). work_at f b (field H2d Command fis)) (sym m.c)

  command_is : field H2d Command (marked fis 0) ≡ field H2d Command fis
  command_is = m.fields Command (λ (e : Command ≡ PmPort). cc)

  pub count_is : field H2d Count (marked fis 0) ≡ field H2d Count fis
  count_is = m.fields Count (λ (e : Count ≡ PmPort). cc)

  counts : (wide : Bool) → count_of g wide ≡ count_with (field H2d Count fis) wide
  counts true = ap (λ (n : ℕ). sectors_asked n 65536) count_is
  counts false = ap (λ (n : ℕ). sectors_asked (n % 256) 256) count_is

  fits_as : (c : ℕ) (t : Transfer) → field H2d Command fis ≡ c → Fits f c t → (facts : DiskFacts) (s : Settings)
      → Alike (asked_work (fields_in fis)) (asked_by (code.Transfer t) g facts s)
  fits_as c t is fit facts s =
      let at : work_at f true c ≡ asked_work (fields_in fis) = ap (work_at f true) (sym is) ∙ work_is in
      let same = ap (λ (w : Work). w.len) at in
      let count = counts t.wide in
      transfer_alike (asked_work (fields_in fis)) g facts s t (block_in t.way s.multiple)
      (λ moves. (let len = fit.len moves in omega (arith, len, same, count))) (λ moves. sym (ap (λ (w : Work). is_read w.kind) at) ∙ fit.way moves)

  queued_as : (write : Bool) → ((field H2d Command fis == 0x60) || (field H2d Command fis == 0x61)) ≡ true
      → is_read (work_at f true (field H2d Command fis)).kind ≡ not write → (facts : DiskFacts) (s : Settings)
      → Alike (asked_work (fields_in fis)) (queued g write facts s)
  queued_as write is way facts s =
      let same = ap (λ (w : Work). w.len) work_is in
      let len = queued_len f (field H2d Command fis) is in
      let count = ap (λ (n : ℕ). sectors_asked n 65536) (m.fields Features (λ (e : Features ≡ PmPort). cc)) in
      queued_alike (asked_work (fields_in fis)) g facts s write (omega (arith, same, len, count))
      (sym (ap (λ (w : Work). is_read w.kind) work_is) ∙ way)

  other_alike : (a b : Bool) → (field H2d Command fis == 0x60) ≡ a → (field H2d Command fis == 0x61) ≡ b → (facts : DiskFacts) (s : Settings)
      → Alike (asked_work (fields_in fis)) (asked_by (other_of (field H2d Command fis)) g facts s)
  other_alike true b e h facts s =
      subst (λ (n : ℕ). Alike (asked_work (fields_in fis)) (asked_by (other_of n) g facts s)) (sym (eqb-true (field H2d Command fis) 0x60 e))
      (queued_as false (ap (λ (x : Bool). x || (field H2d Command fis == 0x61)) e) (read_way f (field H2d Command fis) e) facts s)
  other_alike false true e h facts s =
      subst (λ (n : ℕ). Alike (asked_work (fields_in fis)) (asked_by (other_of n) g facts s)) (sym (eqb-true (field H2d Command fis) 0x61 h))
      (queued_as true (ap (λ (x : Bool). x || (field H2d Command fis == 0x61)) e ∙ h) (write_way f (field H2d Command fis) h) facts s)
  other_alike false false e h facts s =
      still_alike (asked_work (fields_in fis)) g facts s (other_of (field H2d Command fis)) (other_still (field H2d Command fis) e h)

  row_alike : (o : Option Transfer) → FitsRow f (field H2d Command fis) o → (facts : DiskFacts) (s : Settings)
      → Alike (asked_work (fields_in fis)) (asked_by (or_other o (field H2d Command fis)) g facts s)
  row_alike (Some t) fit facts s = fits_as (field H2d Command fis) t refl fit facts s
  row_alike None fit facts s = other_alike (field H2d Command fis == 0x60) (field H2d Command fis == 0x61) refl refl facts s

  code_alike : (facts : DiskFacts) (s : Settings) → Alike (asked_work (fields_in fis)) (asked_by (opcode_of (field H2d Command g)) g facts s)
  code_alike facts s =
      subst (λ (n : ℕ). Alike (asked_work (fields_in fis)) (asked_by (opcode_of n) g facts s)) (sym command_is)
      (row_alike (transfer_of (field H2d Command fis)) (fits f (field H2d Command fis)) facts s)

  all_alike : (d : DiskState) → Alike (asked_work (fields_in fis)) (asked_of d g)
  unfolding asked
  all_alike d =
      logs_alike (asked_work (fields_in fis)) (asked_by (opcode_of (field H2d Command g)) g (facts_of d.profile) d.front.settings)
      (code_alike (facts_of d.profile) d.front.settings)

pub counted_alike : CommandsAreCountedAlike
counted_alike d fis is move asks moves =
    let same : Same (asked_work (fields_in fis)) move.command =
    subst (Alike (asked_work (fields_in fis))) asks (all_alike fis (are_marked fis is) d) moves in
    record { len = same.len; way = same.way }
