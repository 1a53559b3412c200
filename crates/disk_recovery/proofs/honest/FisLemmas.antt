-- For `pushes_keep_honest`. What the command FIS of a request, or of IDENTIFY DEVICE, asks of a disk.
use Rattle.std.proofs.Common.{◌≡◌, ℕ, ◌*◌, ◌/◌, ◌<◌, ◌≤◌, Bool, true, false, List, refl, ◌∙◌, ap, arith}
use Rattle.std.specs.{Prelude.{if◌then◌else◌, ◌==◌, ◌%◌}, Int.from_bool}
use Rattle.std.proofs.lemmas.{Bool.{false≢true, true≢false}, Bool.Decides.nat_tests}
use Rattle.fis_view.specs.{Built.{IsBuilt, cut, h2d_given}, Table.{H2d, places, field}, declared.build.H2dFields.H2dFields}
use Rattle.fis_view.specs.Table as name
use Rattle.slots.specs.Work as moved
use Rattle.hba_commands.specs.Requests.{kind_of, request_of as fields_request, work_of}
use Rattle.disk_model.specs.declared.{request.Command.Command, request.Request.TheVariants.{Reset, Queue, Identify, Flush}}
use Rattle.disk_model.specs.Requests.{command_request, queued_command, request_of, sectors_asked}
use Rattle.hba_driver.specs.{declared.request.Work.Work, Drivers.Entry, Orders.{identify_fields, is_queued, request_fields, work_fields}}
use Rattle.hba_driver.specs.Served.{HasSize}
use Rattle.hba_driver.specs.declared.request.Work.TheVariants as work
use Rattle.disk_recovery.specs.Steady.{command_of, is_write}

-- ---- the fields of a built FIS

pub record FieldsRead (fields : H2dFields) (f : List ℕ) : Type 0 where
  pub c : field H2d name.C f ≡ from_bool fields.c
  pub command : field H2d name.Command f ≡ fields.command % 256
  pub features : field H2d name.Features f ≡ fields.features % 65536
  pub lba : field H2d name.Lba f ≡ fields.lba % 281474976710656
  pub count : field H2d name.Count f ≡ fields.count % 65536
  pub control : field H2d name.Control f ≡ fields.control % 256

bool_small : (b : Bool) → from_bool b < 2
bool_small true = omega arith
bool_small false = omega arith

pub fields_read : (fields : H2dFields) (f : List ℕ) → IsBuilt H2d (h2d_given fields) f → FieldsRead fields f
unfolding places cut
fields_read fields f built =
    let small = bool_small fields.c in
    record {
      c = omega (arith, built.fields name.C, small);
      command = omega (arith, built.fields name.Command);
      features = omega (arith, built.fields name.Features);
      lba = omega (arith, built.fields name.Lba);
      count = omega (arith, built.fields name.Count);
      control = omega (arith, built.fields name.Control);
    }

-- ---- a request

same_command : (c d : Command) → c.write ≡ d.write → c.tag ≡ d.tag → c.lba ≡ d.lba → c.count ≡ d.count → c ≡ d
same_command c d w t l n =
    ap (λ (x : Bool). record { write = x; tag = c.tag; lba = c.lba; count = c.count }) w ∙ ap (λ (x : ℕ). record { write = d.write; tag = x; lba = c.lba; count = c.count }) t
    ∙ ap (λ (x : ℕ). record { write = d.write; tag = d.tag; lba = x; count = c.count }) l ∙ ap (λ (x : ℕ). record { write = d.write; tag = d.tag; lba = d.lba; count = x }) n

sectors_of : (s : ℕ) → 0 < s → sectors_asked s ≡ s
sectors_of s some = by_test (s == 0) refl
  where
    is_zero : (k : ℕ) → (k == 0) ≡ true → k ≡ 0
    is_zero k h = grind (arith, nat_tests)

    by_test : (b : Bool) → (s == 0) ≡ b → (if b then 65536 else s) ≡ s
    by_test true h = absurd (omega (arith, some, is_zero s h))
    by_test false h = refl

queued_is : (slot lba sectors : ℕ) (write : Bool) (f : List ℕ) → slot < 32 → 0 < sectors → sectors ≤ 256 → lba < 281474976710656
    → field H2d name.Count f ≡ (8 * slot) % 65536 → field H2d name.Lba f ≡ lba % 281474976710656 → field H2d name.Features f ≡ sectors % 65536
    → queued_command f write ≡ record { write = write; tag = slot; lba = lba; count = sectors }
queued_is slot lba sectors write f below some most place count at features =
    same_command (queued_command f write) (record { write = write; tag = slot; lba = lba; count = sectors }) refl (tag (field H2d name.Count f) count) (at ∙ low place) (ap sectors_asked (features ∙ few) ∙ sectors_of sectors some)
  where
    tag : (c : ℕ) → c ≡ (8 * slot) % 65536 → c % 256 / 8 ≡ slot
    tag c is = omega (arith, is, below)

    low : lba < 281474976710656 → lba % 281474976710656 ≡ lba
    low h = omega (arith, h)

    few : sectors % 65536 ≡ sectors
    few = omega (arith, most)

-- the request of a FIS of which C and the Command register are known
pub request_by : (f : List ℕ) (code : ℕ) → field H2d name.C f ≡ 1 → field H2d name.Command f ≡ code → request_of f ≡ command_request f code
request_by f code c is = ap (λ (k : ℕ). if k == 1 then command_request f (field H2d name.Command f) else Reset (field H2d name.Control f / 4 % 2 == 1)) c ∙ ap (command_request f) is

read_asks : (f : List ℕ) → command_request f 0x60 ≡ Queue (queued_command f false)
read_asks f = refl

write_asks : (f : List ℕ) → command_request f 0x61 ≡ Queue (queued_command f true)
write_asks f = refl

flush_asks : (f : List ℕ) → command_request f 0xEA ≡ Flush
flush_asks f = refl

identify_asks : (f : List ℕ) → command_request f 0xEC ≡ Identify
identify_asks f = refl

-- a queued request asks for its command
work_asks : (slot : ℕ) (w : Work) (dev lba sectors : ℕ) (f : List ℕ) → slot < 32 → 0 < sectors → sectors ≤ 256 → lba < 281474976710656 → is_queued w ≡ true → FieldsRead (work_fields slot w dev lba sectors) f
    → request_of f ≡ Queue (record { write = is_write w; tag = slot; lba = lba; count = sectors })
work_asks slot work.Read dev lba sectors f below some most place queued r =
    request_by f 0x60 r.c r.command ∙ read_asks f ∙ ap Queue (queued_is slot lba sectors false f below some most place r.count r.lba r.features)
work_asks slot work.Write dev lba sectors f below some most place queued r =
    request_by f 0x61 r.c r.command ∙ write_asks f ∙ ap Queue (queued_is slot lba sectors true f below some most place r.count r.lba r.features)
work_asks slot work.Flush dev lba sectors f below some most place queued r = absurd (false≢true queued)

pub request_asks : (slot : ℕ) (e : Entry) (f : List ℕ) → slot < 30 → is_queued e.head.work ≡ true → HasSize e.head → IsBuilt H2d (h2d_given (request_fields slot e.head)) f → request_of f ≡ Queue (command_of slot e)
unfolding request_fields
request_asks slot e f below queued size built =
    work_asks slot e.head.work e.head.dev e.head.lba e.head.sectors f (omega (arith, below)) size.some size.most size.place queued (fields_read (work_fields slot e.head.work e.head.dev e.head.lba e.head.sectors) f built)

work_flush : (slot : ℕ) (w : Work) (dev lba sectors : ℕ) (f : List ℕ) → is_queued w ≡ false → FieldsRead (work_fields slot w dev lba sectors) f → request_of f ≡ Flush
work_flush slot work.Flush dev lba sectors f queued r = request_by f 0xEA r.c r.command ∙ flush_asks f
work_flush slot other dev lba sectors f queued r = absurd (true≢false queued)

-- another is a Flush
pub flush_is : (slot : ℕ) (e : Entry) (f : List ℕ) → is_queued e.head.work ≡ false → IsBuilt H2d (h2d_given (request_fields slot e.head)) f → request_of f ≡ Flush
unfolding request_fields
flush_is slot e f queued built = work_flush slot e.head.work e.head.dev e.head.lba e.head.sectors f queued (fields_read (work_fields slot e.head.work e.head.dev e.head.lba e.head.sectors) f built)

pub identify_is : (dev : ℕ) (f : List ℕ) → IsBuilt H2d (h2d_given (identify_fields dev)) f → request_of f ≡ Identify
identify_is dev f built = let r = fields_read (identify_fields dev) f built in request_by f 0xEC r.c r.command ∙ identify_asks f

-- ---- their kinds

work_kind : (slot : ℕ) (w : Work) (dev lba sectors : ℕ) → moved.is_queued (kind_of (fields_request (work_fields slot w dev lba sectors))) ≡ is_queued w
work_kind slot work.Read dev lba sectors = refl
work_kind slot other dev lba sectors = refl

pub request_kind : (slot : ℕ) (e : Entry) → moved.is_queued (work_of (fields_request (request_fields slot e.head))).kind ≡ is_queued e.head.work
unfolding request_fields work_of
request_kind slot e = work_kind slot e.head.work e.head.dev e.head.lba e.head.sectors

work_control : (slot : ℕ) (w : Work) (dev lba sectors : ℕ) → Rattle.slots.specs.Slots.is_control (kind_of (fields_request (work_fields slot w dev lba sectors))) ≡ false
work_control slot work.Read dev lba sectors = refl
work_control slot other dev lba sectors = refl

pub request_control : (slot : ℕ) (e : Entry) → Rattle.slots.specs.Slots.is_control (work_of (fields_request (request_fields slot e.head))).kind ≡ false
unfolding request_fields work_of
request_control slot e = work_control slot e.head.work e.head.dev e.head.lba e.head.sectors

work_moves : (slot : ℕ) (w : Work) (dev lba sectors : ℕ) → moved.is_dma (kind_of (fields_request (work_fields slot w dev lba sectors))) ≡ false
work_moves slot work.Read dev lba sectors = refl
work_moves slot other dev lba sectors = refl

pub request_moves : (slot : ℕ) (e : Entry) → moved.is_dma (work_of (fields_request (request_fields slot e.head))).kind ≡ false
unfolding request_fields work_of
request_moves slot e = work_moves slot e.head.work e.head.dev e.head.lba e.head.sectors

pub identify_moves : (dev : ℕ) → moved.is_dma (work_of (fields_request (identify_fields dev))).kind ≡ false
unfolding work_of
identify_moves dev = refl

pub identify_kind : (dev : ℕ) → moved.is_queued (work_of (fields_request (identify_fields dev))).kind ≡ false
unfolding work_of
identify_kind dev = refl

pub identify_control : (dev : ℕ) → Rattle.slots.specs.Slots.is_control (work_of (fields_request (identify_fields dev))).kind ≡ false
unfolding work_of
identify_control dev = refl
