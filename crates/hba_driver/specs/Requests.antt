-- The bytes of requests, and how a request is taken, polled and refused. The refusals are defined by this
-- driver.
use Rattle.std.specs.Prelude.{ℕ, ◌+◌, ◌*◌, ◌%◌, ◌==◌, ◌&&◌, ◌||◌, Bool, true, false, not, nat_lt, nat_le, if◌then◌else◌, List, length, Option, Some}
use Rattle.std.specs.{Prelude.{None, is_none}, List.list_any}
use Rattle.host_memory.specs.{Memory.client_start, Place.total_of, Reading.{have_overlap, share_with}, declared.table.Prd.Prd}
use Rattle.slots.specs.Slots.{lowest_below}
use Rattle.hba_driver.specs.declared.{plan.Device.{Device, TheVariants.{Ready, Recovering}}, request.Request.Request, request.SubmitError.SubmitError}
use Rattle.hba_driver.specs.{declared.{request.Work.Work, slot.Head.Head}, Drivers.{Driver, Entry, entry_at, has_ended, is_read}, Orders.is_flush}
use Rattle.hba_driver.specs.declared.request.SubmitError.TheVariants as refusal

-- ---- bytes in use

-- len bytes from an address on share a byte with bytes bytes from another
abbrev pub share_bytes : (at len other bytes : ℕ) → Bool
share_bytes at len other bytes = nat_lt at (other + bytes) && nat_lt other (at + len)

-- one of the bytes belongs to one of these entries
abbrev pub is_among : (at len : ℕ) → List Prd → Bool
is_among at len prds = list_any (λ prd. share_bytes at len prd.address prd.bytes) prds

abbrev pub is_used_by : (at len : ℕ) → Option Entry → Bool
is_used_by at len None = false
is_used_by at len (Some entry) = is_among at len entry.prds

-- one of the bytes belongs to the driver's buffer, 100000h to 1001FFh, or to a request that is not polled yet
abbrev pub in_use : Driver → (at len : ℕ) → Bool
in_use d at len =
    nat_lt 0 len && (share_bytes at len client_start 512 || list_any (is_used_by at len) d.entries)

-- ---- refusals

-- the request of a device has not ended, and it or the new one is a Flush
abbrev pub blocks : (dev : ℕ) → Work → Head → Bool
blocks dev work head = (head.dev == dev) && not (has_ended head) && (is_flush work || is_flush head.work)

-- a Flush has no sectors; a read or a write has 1 to 256, the first below 2^48
abbrev pub is_bad_count : Request → Bool
is_bad_count request =
    if is_flush request.work then not (request.sectors == 0)
    else (request.sectors == 0) || nat_lt 256 request.sectors || nat_le 0x1000000000000 request.lba

-- not 512 bytes for each sector, or more than 248 PRDs
abbrev pub is_mismatch : Request → Bool
is_mismatch request =
    nat_lt 248 (length request.prds.items) || not (total_of request.prds.items == request.sectors * 512)

-- a PRD that no request may have: odd, empty, above 4 MiB, or not between 100200h and the end of memory
abbrev pub is_bad_prd : (end : ℕ) → Prd → Bool
is_bad_prd end prd =
    (prd.address % 2 == 1) || (prd.bytes % 2 == 1) || (prd.bytes == 0) || nat_lt 4194304 prd.bytes
    || nat_lt prd.address 1049088 || nat_lt end (prd.address + prd.bytes)

-- an outstanding request has one of these bytes, and one of the two reads
abbrev pub conflicts : Work → List Prd → Option Entry → Bool
conflicts work prds None = false
conflicts work prds (Some entry) = (is_read work || is_read entry.head.work) && share_with prds entry.prds

abbrev pub overlaps : Driver → Request → Bool
overlaps d request =
    have_overlap request.prds.items || list_any (conflicts request.work request.prds.items) d.entries

abbrev pub is_free : Option Entry → Bool
is_free None = true
is_free (Some entry) = false

unfoldable pub lowest_free : List (Option Entry) → Option ℕ
lowest_free entries = lowest_below (λ slot. is_free (entry_at entries slot)) 30

abbrev pub is_full : List (Option Entry) → Bool
is_full entries = is_none (lowest_free entries)

-- a ready device takes requests; a recovering device will take them again
abbrev pub device_refusal : Device → Option SubmitError
device_refusal Ready = None
device_refusal (Recovering way) = Some refusal.Recovering
device_refusal device = Some refusal.NoDevice

-- why a request is refused because of what it is
abbrev pub shape_refusal : (end : ℕ) → Request → Option SubmitError
shape_refusal end request =
    if is_bad_count request then Some refusal.BadCount
    else if is_mismatch request then Some refusal.LengthMismatch
    else if list_any (is_bad_prd end) request.prds.items then Some refusal.BadPrd
    else None

-- why a request is refused because of what the driver has taken already
abbrev pub room_refusal : Driver → Request → Option SubmitError
room_refusal d request =
    if overlaps d request then Some refusal.Overlap
    else if is_full d.entries then Some refusal.NoSlot
    else if d.given == 4294967295 then Some refusal.TicketsSpent
    else None
