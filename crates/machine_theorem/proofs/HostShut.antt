-- Where a host sends a disk queued commands alone, none that is not queued is open there; so all Data that the disk sends are of queued ones.
use Rattle.std.proofs.Common.{◌≡◌, ℕ, ◌/◌, ◌&&◌, ◌||◌, Bool, true, false, not, List, [], ◌∷◌, ◌++◌, map, Option, Some, None, Ok, Err, refl, sym, ap}
use Rattle.std.proofs.{Common.{◌∙◌, arith, inl, inr}, lemmas.Bool.{eqb-true, false≢true}}
use Rattle.std.specs.{Prelude.{◌==◌, ◌%◌, if◌then◌else◌, Result}, List.flat_map}
use Rattle.fis_view.specs.{Frames.Stamped, Seen.seen, Table.{H2d, Command, Count, field}, declared.view.{Fis.Fis, FisFault.FisFault}}
use Rattle.fis_view.specs.declared.view.Fis.TheVariants as view
use Rattle.ata_command.specs.Courses.{resets}
use Rattle.ata_reply.specs.declared.reply.Reply.{Reply}
use Rattle.ata_reply.specs.declared.reply.Reply.TheVariants as replies
use Rattle.sata_disk.specs.{Hearing.is_command, declared.{out.Out.Out, unheard.Unheard.Unheard}}
use Rattle.sata_disk.specs.declared.out.Out.TheVariants as out
use Rattle.sata_disk_laws.specs.{Calls.{Call, Plugs, Hears, Starts, Asks, Answers, Sends}, Once.{ForLast, ForSignature, Host, Wait, announced}}
use Rattle.sata_disk_laws.specs.Once.{command_given, control_given, data_got_by, fis_given, host_after, host_of, is_queued_code, none_open, out_got}
use Rattle.sata_disk_laws.specs.Once.{place_in, reply_got, unheard_of}
use Rattle.machine_laws.specs.Falling.{heard_by}
use Rattle.machine_theorem.specs.{Identity.{heard_as, is_for, picks}, QueuedOnly.{NoneSingle, asks_single}, Crossing.Within}

-- no command is open that is not queued
abbrev pub IsShut : Host → Type 0
IsShut h = h.open_at 32 ≡ false

-- ---- what the disk sends

announced_shut : (h : Host) (last : Bool) → IsShut h → IsShut (announced h last)
announced_shut h true shut = shut
announced_shut h false shut = shut

reply_shut : (h : Host) (r : Reply) → IsShut h → IsShut (reply_got h r)
reply_shut h replies.Signature shut = shut
reply_shut h replies.Accepted shut = shut
reply_shut h replies.Done shut = refl
reply_shut h replies.Active shut = refl
reply_shut h replies.Healthy shut = refl
reply_shut h (replies.Failed f) shut = refl
reply_shut h (replies.Ends tags) shut = shut
reply_shut h (replies.Aborts error) shut = refl
reply_shut h (replies.Announce a) shut = announced_shut h (a.to_host && a.last) shut
reply_shut h other shut = shut

data_shut : (h : Host) (w : Wait) → IsShut h → IsShut (data_got_by h w)
data_shut h ForLast shut = refl
data_shut h other shut = shut

out_shut : (h : Host) (o : Out) → IsShut h → IsShut (out_got h o)
out_shut h (out.Own r) shut = reply_shut h r shut
out_shut h (out.Beside r) shut = reply_shut h r shut
out_shut h (out.Of p r) shut = reply_shut h r shut
out_shut h (out.Ends tags) shut = reply_shut h (replies.Ends tags) shut
out_shut h (out.Page p) shut = data_shut h h.waits shut
out_shut h (out.Data p n) shut = data_shut h h.waits shut

-- ---- what it hears

tag_place : (x : ℕ) → (32 == x % 256 / 8) ≡ false
tag_place x = by (32 == x % 256 / 8) refl
  where
    by : (b : Bool) → (32 == x % 256 / 8) ≡ b → b ≡ false
    by false e = refl
    by true e = absurd (let same = eqb-true 32 (x % 256 / 8) e in omega (arith, same))

other_place : (f : List ℕ) (b : Bool) → not b ≡ false → (32 == (if b then field H2d Count f % 256 / 8 else 32)) ≡ false
other_place f true e = tag_place (field H2d Count f)
other_place f false e = absurd (false≢true (sym e))

neither : (a b : Bool) → a ≡ false → b ≡ false → (a || b) ≡ false
neither true b e f = absurd (false≢true (sym e))
neither false b e f = f

command_shut : (h : Host) (place : ℕ) (o : Option Unheard) → (32 == place) ≡ false → IsShut h → IsShut (command_given h place o)
command_shut h place None other shut = neither (32 == place) (h.open_at 32) other shut
command_shut h place (Some why) other shut = shut

cleared_shut : (h : Host) (b : Bool) → IsShut h → IsShut (if b then record { open_at = none_open; waits = ForSignature; in_reset = false } else h)
cleared_shut h true shut = refl
cleared_shut h false shut = shut

control_shut : (h : Host) (srst : Bool) → IsShut h → IsShut (control_given h srst)
control_shut h true shut = refl
control_shut h false shut = cleared_shut h h.in_reset shut

register_shut : (h : Host) (f : List ℕ) (b : Bool) → (b && not (is_queued_code (field H2d Command f))) ≡ false → IsShut h
    → IsShut (if b then command_given h (place_in f) (unheard_of h) else control_given h (resets f))
register_shut h f true e shut = command_shut h (place_in f) (unheard_of h) (other_place f (is_queued_code (field H2d Command f)) e) shut
register_shut h f false e shut = control_shut h (resets f) shut

fis_shut : (h : Host) (r : Result Fis FisFault) → asks_single r ≡ false → IsShut h → IsShut (fis_given h r)
fis_shut h (Ok (view.RegH2D f)) e shut = register_shut h f (is_command f) e shut
fis_shut h (Ok other) e shut = shut
fis_shut h (Err fault) e shut = shut

-- ---- over its calls

abbrev pub NoneAsk : List (List ℕ) → Type 0
NoneAsk [] = Unit {0}
NoneAsk (f ∷ later) = (asks_single (seen f) ≡ false) × NoneAsk later

pub calls_shut : (calls : List Call) (h : Host) → IsShut h → NoneAsk (flat_map heard_by calls) → IsShut (host_of h calls)
unfolding host_of
calls_shut [] h shut none = shut
calls_shut (Plugs ∷ later) h shut none = calls_shut later (record { open_at = none_open; waits = ForSignature; in_reset = false }) refl none
calls_shut (Hears f ∷ later) h shut none = calls_shut later (fis_given h (seen f)) (fis_shut h (seen f) none.0 shut) none.1
calls_shut (Sends o ∷ later) h shut none = calls_shut later (out_got h o) (out_shut h o shut) none
calls_shut (Starts x ∷ later) h shut none = calls_shut later h shut none
calls_shut (Asks r ∷ later) h shut none = calls_shut later h shut none
calls_shut (Answers n a ∷ later) h shut none = calls_shut later h shut none

pub host_both : (xs ys : List Call) (h : Host) → host_of h (xs ++ ys) ≡ host_of (host_of h xs) ys
unfolding host_of
host_both [] ys h = refl
host_both (x ∷ xs) ys h = host_both xs ys (host_after h x)

-- ---- what the disk hears was sent

none_within : (xs ys : List (List ℕ)) → Within xs ys → NoneAsk ys → NoneAsk xs
none_within [] ys w none = tt
none_within (x ∷ xs) [] w none = absurd w
none_within (x ∷ xs) (y ∷ ys) (inl h) none = (ap (λ f. asks_single (seen f)) h.0 ∙ none.0, none_within xs ys h.1 none.1)
none_within (x ∷ xs) (y ∷ ys) (inr h) none = none_within (x ∷ xs) ys h none.1

if_ask : (b : Bool) (f : Stamped) (later : List Stamped) → (b ≡ true → asks_single (seen (heard_as f)) ≡ false) → NoneAsk (map heard_as later)
    → NoneAsk (map heard_as (if b then f ∷ later else later))
if_ask true f later own none = (own refl, none)
if_ask false f later own none = none

none_sent : (many : Bool) (n : ℕ) (frames : List Stamped) → NoneSingle many n frames → NoneAsk (map heard_as (picks (is_for many n) frames))
none_sent many n [] none = tt
none_sent many n (f ∷ later) none = if_ask (is_for many n f) f (picks (is_for many n) later) none.0 (none_sent many n later none.1)

pub none_heard : (many : Bool) (n : ℕ) (heard : List (List ℕ)) (frames : List Stamped) → Within heard (map heard_as (picks (is_for many n) frames))
    → NoneSingle many n frames
    → NoneAsk heard
none_heard many n heard frames within none = none_within heard (map heard_as (picks (is_for many n) frames)) within (none_sent many n frames none)

pub single_first : (many : Bool) (n : ℕ) (xs ys : List Stamped) → NoneSingle many n (xs ++ ys) → NoneSingle many n xs
single_first many n [] ys none = tt
single_first many n (x ∷ xs) ys none = (none.0, single_first many n xs ys none.1)
