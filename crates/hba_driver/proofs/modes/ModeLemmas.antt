-- For `turns_are_steady`. With FIS-based switching: what the words of the port that tell the modes apart come to.
use Rattle.std.proofs.Common.{◌≡◌, ℕ, Bool, true, false, List, [], ◌∷◌, ap, subst, Option, Some, None}
use Rattle.std.specs.Prelude.{◌==◌, ◌||◌, if◌then◌else◌, is_some, Result}
use Rattle.fis_view.specs.{Seen.seen, declared.{view.Fis.Fis, view.FisFault.FisFault}}
use Rattle.rx_area.specs.Area.{row_of}
use Rattle.hba_fbs.specs.{declared.{hearing.Fault.Fault, register.Register.TheVariants.Ci}, Issuing.asked, Posting.area_at, Reading.shown_device}
use Rattle.hba_fbs.specs.Taking.{PostsIn, PostsOf, ignores, is_ignored, is_running, passes_over, port_cause, row_for, stops_with}
use Rattle.hba_fbs.specs.Views.{DeviceView, Port, view_of}
use Rattle.hba_fbs.proofs.Door.{aimed_chosen}
use Rattle.hba_laws.specs.{Hosts.Host, Isolation.{Issued, written_to}, Parts.own_row}

-- ---- what a write of PxCI issues

pub written_chosen : (n : ℕ) (host : Host) (value : ℕ) → host.port.registers.switching ≡ true
    → written_to n host Ci value ≡ (if n == host.port.registers.chosen then Issued (asked host.port.registers host.memory value) ∷ [] else [])
written_chosen n host value on =
    ap (λ (dev : ℕ). if n == dev then Issued (asked host.port.registers host.memory value) ∷ [] else []) (aimed_chosen host.port.registers host.memory.structure value on)

-- ---- what PxTFD shows

pub shown_chosen : (port : Port) → port.registers.switching ≡ true → shown_device port ≡ port.registers.chosen
shown_chosen port on = ap (λ (b : Bool). if b then port.registers.chosen else port.active) on

-- ---- a FIS is taken

-- nothing is ignored besides
pub passes_none : (on : Bool) (dev : ℕ) (view : DeviceView) (fis : Result Fis FisFault) → on ≡ true → passes_over on dev view fis ≡ false
passes_none on dev view fis is = ap (λ (b : Bool). passes_over b dev view fis) is

pub ignores_as : (dev : ℕ) (port : Port) (frame : List ℕ) → port.registers.switching ≡ true → ignores dev port frame ≡ is_ignored (is_running port) (view_of dev port) (seen frame)
ignores_as dev port frame on =
    ap (λ (b : Bool). b || is_ignored (is_running port) (view_of dev port) (seen frame)) (passes_none port.registers.switching dev (view_of dev port) (seen frame) on)

-- it is posted in the row of its device
pub row_own : (port : Port) (dev : ℕ) → port.registers.switching ≡ true → row_for port dev ≡ Some dev
row_own port dev on = ap (λ (b : Bool). if b then Some dev else if dev == port.active then Some 0 else None) on

pub posts_own : (port : Port) (fb dev : ℕ) (fis : Option Fis) (s t : List ℕ) → port.registers.switching ≡ true → PostsIn fb (row_for port dev) fis s t → PostsOf fb dev fis s t
posts_own port fb dev fis s t on posts = subst (λ (row : Option ℕ). PostsIn fb row fis s t) (row_own port dev on) posts

pub own_row_is : (on : Bool) (fb : ℕ) (structure : List ℕ) (n : ℕ) → on ≡ true → own_row on fb structure n ≡ Some (row_of (area_at structure fb) n)
own_row_is on fb structure n is = ap (λ (b : Bool). own_row b fb structure n) is

pub stops_as : (on : Bool) (f : Option Fault) → on ≡ true → stops_with on f ≡ is_some (port_cause f)
stops_as on f is = ap (λ (b : Bool). stops_with b f) is
