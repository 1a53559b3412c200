-- What a host has open at a disk, told by the FISes alone: those that it sent, and those that came. A FIS that ends a command goes only
-- while a command is open there, so each is answered at most once, and none from before a plug or a reset (Serial ATA 3.x, 11.4, software
-- reset, and 13.6, native command queuing; ACS-3, 4, protocols).
use Rattle.std.specs.Prelude.{ℕ, ◌≡◌, ◌/◌, ◌%◌, ◌==◌, ◌<◌, ◌≤◌, ◌⊎◌, ◌&&◌, ◌||◌, nat_lt, Bool, true, false, not, List, [], ◌∷◌, Option, Some, None}
use Rattle.std.specs.Prelude.{Result, Ok, if◌then◌else◌}
use Rattle.fis_view.specs.{Table.{H2d, Command, Count, field}, Seen.seen, declared.view.{Fis.Fis, FisFault.FisFault}}
use Rattle.fis_view.specs.declared.view.Fis.TheVariants as view
use Rattle.block_queue.specs.Line.{has_bit}
use Rattle.ata_command.specs.Courses.{resets}
use Rattle.ata_reply.specs.declared.reply.Reply.{Reply}
use Rattle.ata_reply.specs.declared.reply.Reply.TheVariants as replies
use Rattle.disk_pages.specs.declared.profile.Profile.{Profile}
use Rattle.sata_disk.specs.{State.{DiskState, commands, is_taken, new_disk}, Hearing.{is_command, register_unheard}, Sending.IsOut}
use Rattle.sata_disk.specs.declared.{out.Out.Out, unheard.Unheard.{Unheard, TheVariants.{InReset, Busy}}}
use Rattle.sata_disk.specs.declared.out.Out.TheVariants as out
use Rattle.sata_disk_laws.specs.{Calls.{AreCalls, Call, Hears, Plugs, Sends}, Laws.reached}

-- what a host waits for before it may send a command (BSY)
pub data Wait : Type 0 where
  -- it may send one
  ForNothing : Wait
  -- the signature, after a plug or a software reset
  ForSignature : Wait
  -- the answer to the queued command of this tag: it is accepted, or refused
  ForAnswer : ℕ → Wait
  -- the end of the command that is not queued
  ForEnd : Wait
  -- the Data FIS that ends it: the PIO Setup FIS of its last DRQ data block to the host came
  ForLast : Wait

pub record Host : Type 0 where
  -- whether a command is open at a place: a tag, or 32 for the command that is not queued
  pub open_at : ℕ → Bool
  pub waits : Wait
  -- SRST is set
  pub in_reset : Bool

abbrev pub none_open : ℕ → Bool
none_open place = false

-- the host of a disk that was not plugged in
abbrev pub new_host : Host
new_host = record { open_at = none_open; waits = ForNothing; in_reset = false }

-- ## Places

abbrev pub opened : (ℕ → Bool) → (place : ℕ) → ℕ → Bool
opened was place q = (q == place) || was q

abbrev pub closed : (ℕ → Bool) → (place : ℕ) → ℕ → Bool
closed was place q = not (q == place) && was q

abbrev pub tags_closed : (ℕ → Bool) → (tags : ℕ) → ℕ → Bool
tags_closed was tags q = not (nat_lt q 32 && has_bit tags q) && was q

-- ## What the host sends

-- READ FPDMA QUEUED and WRITE FPDMA QUEUED
abbrev pub is_queued_code : ℕ → Bool
is_queued_code code = code == 0x60 || code == 0x61

-- a queued command has its tag in Count 7:3
abbrev pub place_in : List ℕ → ℕ
place_in f = if is_queued_code (field H2d Command f) then field H2d Count f % 256 / 8 else 32

abbrev pub wait_for : (place : ℕ) → Wait
wait_for place = if nat_lt place 32 then ForAnswer place else ForEnd

abbrev pub waits_for_nothing : Wait → Bool
waits_for_nothing ForNothing = true
waits_for_nothing _ = false

-- why a command is not heard: a host that waits, or has SRST set, sends none
abbrev pub unheard_of : Host → Option Unheard
unheard_of h = if h.in_reset then Some InReset else (if waits_for_nothing h.waits then None else Some Busy)

abbrev pub command_given : Host → (place : ℕ) → Option Unheard → Host
command_given h place None = record { open_at = opened h.open_at place; waits = wait_for place; in_reset = false }
command_given h place (Some why) = h

-- SRST drops all that is open; the signature is due once it is cleared
abbrev pub control_given : Host → (srst : Bool) → Host
control_given h true = record { open_at = none_open; waits = ForNothing; in_reset = true }
control_given h false = if h.in_reset then record { open_at = none_open; waits = ForSignature; in_reset = false } else h

abbrev pub register_given : Host → List ℕ → Host
register_given h f = if is_command f then command_given h (place_in f) (unheard_of h) else control_given h (resets f)

-- no other FIS opens or closes anything
abbrev pub fis_given : Host → Result Fis FisFault → Host
fis_given h (Ok (view.RegH2D f)) = register_given h f
fis_given h _ = h

-- ## What the disk sends

abbrev pub single_over : Host → Host
single_over h = record { open_at = closed h.open_at 32; waits = ForNothing; in_reset = h.in_reset }

-- it is the last block: the Status behind it has no BSY
abbrev pub announced : Host → (last : Bool) → Host
announced h last = if last then record h { waits = ForLast } else h

-- An error of the command that the host waits for, or of a queued one, ends all.
abbrev pub reply_got : Host → Reply → Host
reply_got h replies.Signature = record h { waits = ForNothing }
reply_got h replies.Accepted = record h { waits = ForNothing }
reply_got h replies.Done = single_over h
reply_got h replies.Active = single_over h
reply_got h replies.Healthy = single_over h
reply_got h (replies.Failed f) = record h { open_at = none_open; waits = ForNothing }
reply_got h (replies.Ends tags) = record h { open_at = tags_closed h.open_at tags }
reply_got h (replies.Aborts error) = record h { open_at = none_open }
reply_got h (replies.Announce a) = announced h (a.to_host && a.last)
reply_got h _ = h

abbrev pub data_got_by : Host → Wait → Host
data_got_by h ForLast = single_over h
data_got_by h _ = h

abbrev pub data_got : Host → Host
data_got h = data_got_by h h.waits

abbrev pub out_got : Host → Out → Host
out_got h (out.Own r) = reply_got h r
out_got h (out.Beside r) = reply_got h r
out_got h (out.Of p r) = reply_got h r
out_got h (out.Ends tags) = reply_got h (replies.Ends tags)
out_got h (out.Page p) = data_got h
out_got h (out.Data p n) = data_got h

-- ## A walk along the calls

abbrev pub host_after : Host → Call → Host
host_after h Plugs = record { open_at = none_open; waits = ForSignature; in_reset = false }
host_after h (Hears f) = fis_given h (seen f)
host_after h (Sends o) = out_got h o
host_after h _ = h

unfoldable pub host_of : Host → List Call → Host
host_of h [] = h
host_of h (c ∷ later) = host_of (host_after h c) later

-- ## What may go

-- the command that is not queued is open, and the host waits for its end
abbrev pub IsSingle : Host → Type 0
IsSingle h = (h.open_at 32 ≡ true) × (h.waits ≡ ForEnd)

-- a queued command is open at this tag, and was accepted
abbrev pub IsQueued : Host → (tag : ℕ) → Type 0
IsQueued h tag = (tag < 32) × (h.open_at tag ≡ true) × (h.waits ≡ ForNothing)

abbrev pub IsAccepted : Host → Wait → Type 0
IsAccepted h (ForAnswer tag) = (tag < 32) × (h.open_at tag ≡ true)
IsAccepted h _ = ⊥

-- the command that the host waits for is open, queued or not
abbrev pub IsRefused : Host → Wait → Type 0
IsRefused h (ForAnswer tag) = (tag < 32) × (h.open_at tag ≡ true)
IsRefused h ForEnd = h.open_at 32 ≡ true
IsRefused h _ = ⊥

-- What a FIS ends is open. Its parts are of a command that is open, and the signature is due.
abbrev pub IsDue : Host → Reply → Type 0
IsDue h replies.Signature = h.waits ≡ ForSignature
IsDue h replies.Accepted = IsAccepted h h.waits
IsDue h replies.Done = IsSingle h
IsDue h replies.Active = IsSingle h
IsDue h replies.Healthy = IsSingle h
IsDue h (replies.Failed f) = IsRefused h h.waits
IsDue h (replies.Ends tags) = (tag : ℕ) → tag < 32 → has_bit tags tag ≡ true → IsQueued h tag
IsDue h (replies.Aborts error) = (tag : ℕ) × IsQueued h tag
IsDue h (replies.SetUp s) = IsQueued h s.tag
IsDue h (replies.Announce a) = IsSingle h
IsDue h replies.Activate = IsSingle h ⊎ ((tag : ℕ) × IsQueued h tag)

-- the command of a place is open
abbrev pub IsOpenAt : Host → (place : ℕ) → (queued : Bool) → Type 0
IsOpenAt h place true = IsQueued h place
IsOpenAt h place false = (place ≡ 32) × IsSingle h

-- whether Data to the host may come for the command that is not queued
abbrev pub is_for_data : Wait → Bool
is_for_data ForEnd = true
is_for_data ForLast = true
is_for_data _ = false

abbrev pub IsFilling : Host → Type 0
IsFilling h = (h.open_at 32 ≡ true) × (is_for_data h.waits ≡ true)

abbrev pub IsDataAt : Host → (place : ℕ) → (queued : Bool) → Type 0
IsDataAt h place true = IsQueued h place
IsDataAt h place false = (place ≡ 32) × IsFilling h

-- a queued command has its error in a Set Device Bits FIS, and the FIS of a command names no other
abbrev pub IsOfPlace : (place : ℕ) → Reply → Type 0
IsOfPlace p (replies.SetUp s) = s.tag ≡ p
IsOfPlace p (replies.Aborts error) = p < 32
IsOfPlace p (replies.Announce a) = p ≡ 32
IsOfPlace p replies.Done = p ≡ 32
IsOfPlace p (replies.Failed f) = p ≡ 32
IsOfPlace p replies.Activate = Unit {0}
IsOfPlace p _ = ⊥

abbrev pub IsOutDue : Host → Out → Type 0
IsOutDue h (out.Own r) = IsDue h r
IsOutDue h (out.Beside r) = IsDue h r
IsOutDue h (out.Of p r) = IsDue h r × IsOpenAt h p (nat_lt p 32) × IsOfPlace p r
IsOutDue h (out.Ends tags) = IsDue h (replies.Ends tags)
IsOutDue h (out.Page p) = IsFilling h
IsOutDue h (out.Data p n) = IsDataAt h p (nat_lt p 32)

abbrev pub IsCallDue : Host → Call → Type 0
IsCallDue h (Sends o) = IsOutDue h o
IsCallDue h _ = Unit {0}

abbrev pub AreDue : Host → List Call → Type 0
AreDue h [] = Unit {0}
AreDue h (c ∷ later) = IsCallDue h c × AreDue (host_after h c) later

-- ## The laws

-- in every run each FIS is of a command that is open, and each that ends one goes while it is open
abbrev pub AnswersAreSingle : Type 0
AnswersAreSingle = (p : Profile) (limit : ℕ) (calls : List Call) → AreCalls (new_disk p limit) calls → AreDue new_host calls

-- what the host has open the disk has under way, and it hears a command exactly where the host may send one
pub record IsHostOf (h : Host) (d : DiskState) : Type 0 where
  pub heard : (f : List ℕ) → is_command f ≡ true → register_unheard d f ≡ unheard_of h
  pub queued : (tag : ℕ) → tag < 32 → h.waits ≡ ForNothing → is_taken (commands d) tag ≡ h.open_at tag

abbrev pub OpenIsUnderWay : Type 0
OpenIsUnderWay = (p : Profile) (limit : ℕ) (calls : List Call) → AreCalls (new_disk p limit) calls
    → IsHostOf (host_of new_host calls) (reached p limit calls)

-- the bytes of a Data FIS are some sectors, at most 16
pub record IsChunk (n : ℕ) : Type 0 where
  pub some : 512 ≤ n
  pub most : n ≤ 8192
  pub whole : n % 512 ≡ 0

-- in every run the Data FIS of a read that goes next can be a frame
abbrev pub PartsAreFrames : Type 0
PartsAreFrames = (p : Profile) (limit : ℕ) (calls : List Call) (place n : ℕ) → AreCalls (new_disk p limit) calls
    → IsOut (reached p limit calls) (Some (out.Data place n)) → IsChunk n
