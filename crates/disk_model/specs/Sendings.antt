-- The FISes that a disk sends, by their fields (Serial ATA 3.x, 10.5). All have PM Port 0.
use Rattle.std.specs.Prelude.{ℕ, ◌≡◌, ◌%◌, ◌^◌, ◌&&◌, Bool, true, false, not, List, ◌∷◌, Ok}
use Rattle.fis_view.specs.{Table.{D2h, Bits, Setup, Activate, Pio}, Built.{IsBuilt, d2h_given, set_bits_given, dma_setup_given, dma_activate_given}}
use Rattle.fis_view.specs.{Built.pio_setup_given, Seen.seen, declared.build.{D2hFields.D2hFields, SetBitsFields.SetBitsFields}}
use Rattle.fis_view.specs.declared.build.{DmaSetupFields.DmaSetupFields, PioSetupFields.PioSetupFields}
use Rattle.fis_view.specs.declared.view.Fis.TheVariants as view
use Rattle.disk_model.specs.declared.answer.Answer.{Answer, TheVariants.{Signature, Accepted, Finished, Refused, Ended, PageFollows, PageData}}
use Rattle.disk_model.specs.{Pages.page_bytes, declared.plan.DiskPlan.DiskPlan}

-- a FIS, by its type and its fields
pub data Sending : Type 0 where
  -- Register Device to Host
  Register : D2hFields → Sending
  -- Set Device Bits
  SetsBits : SetBitsFields → Sending
  -- DMA Setup
  SetsUp : DmaSetupFields → Sending
  -- DMA Activate
  Activates : Sending
  -- PIO Setup
  SetsUpPio : PioSetupFields → Sending
  -- Data
  Carries : List ℕ → Sending

-- the bytes are a FIS with these fields and no other bit set
abbrev pub Shows : Sending → List ℕ → Type 0
Shows (Register v) b = IsBuilt D2h (d2h_given v) b
Shows (SetsBits v) b = IsBuilt Bits (set_bits_given v) b
Shows (SetsUp v) b = IsBuilt Setup (dma_setup_given v) b
Shows Activates b = IsBuilt Activate (dma_activate_given (record { pm_port = 0 })) b
Shows (SetsUpPio v) b = IsBuilt Pio (pio_setup_given v) b
Shows (Carries bytes) b = (b ≡ 0x46 ∷ 0 ∷ 0 ∷ 0 ∷ bytes) × (seen b ≡ Ok (view.Payload b))

-- a Register FIS; first is in LBA and Count
abbrev pub register : (i : Bool) (status error first : ℕ) → Sending
register i status error first = Register (record {
  pm_port = 0;
  i = i;
  status = status;
  error = error;
  lba = first;
  device = 0;
  count = first;
})

-- a Set Device Bits FIS
abbrev pub bits : (status error sactive : ℕ) → Sending
bits status error sactive =
    SetsBits (record { pm_port = 0; n = false; i = true; status = status; error = error; sactive = sactive })

-- a DMA Setup; d says that it goes to the host, auto that Data of the host may come at once
abbrev pub setup : (tag offset count : ℕ) (d auto : Bool) → Sending
setup tag offset count d auto = SetsUp (record {
  pm_port = 0;
  a = auto && not d;
  i = false;
  d = d;
  buffer_id = tag;
  offset = offset;
  count = count;
})

-- the PIO Setup of a page: one block of 512 bytes to the host
abbrev pub page_follows : Sending
page_follows = SetsUpPio (record {
  pm_port = 0;
  i = true;
  d = true;
  status = 0x58;
  error = 0;
  lba = 0;
  device = 0;
  count = 0;
  e_status = 0x50;
  transfer = 512;
})

-- the FIS of an answer
abbrev pub answer_sent : (sectors : ℕ) (plan : DiskPlan) → Answer → Sending
answer_sent sectors plan Signature = register false 0x50 1 1
answer_sent sectors plan Accepted = register false 0x50 0 0
answer_sent sectors plan Finished = register true 0x50 0 0
answer_sent sectors plan Refused = register true 0x51 4 0
answer_sent sectors plan (Ended tag) = bits 0x50 0 (2 ^ (tag % 32))
answer_sent sectors plan PageFollows = page_follows
answer_sent sectors plan (PageData page) = Carries (page_bytes sectors plan page)
