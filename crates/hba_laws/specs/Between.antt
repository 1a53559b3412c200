-- The words in which lemmas are stated that proofs of other crates use (`proofs/Door.antt`), and the words that these need.
-- No clause says them.
use Rattle.std.specs.Prelude.{Bool, None, Option, Some, cond, eqb, false, is_some, length, nat_lt, suc, true, zero, ℕ, ◌<◌, ◌∷◌, ◌≡◌, []}
use Rattle.host_memory.specs.Memory.{Memory}
use Rattle.slots.specs.{declared.table.Context.Context, Between.Owns, Data.{payload, payload_len}, Slots.{DeviceSlots, Issue, context_of, is_control}}
use Rattle.slots.specs.{Slots.{issue_at, own_issue, slots_of, waiting}, Table.{IsContextOf, IsIssue}}
use Rattle.hba_commands.specs.declared.command.Command.{Command}
use Rattle.hba_fbs.specs.{Issuing.issue_with, Sending.Outgoing, Tables.prds_of, Views.{Port, last_command}}
use Rattle.hba_fbs.specs.Sending as out
use Rattle.hba_laws.specs.{Client.{By, Filling, Puts, Stops, Touches}, History.{Carried, Event, History, Issued, Setup, Transfer, is_set_up, issued}}
use Rattle.hba_laws.specs.History.{last_setup, next_number, unless}

-- ---- histories

-- a function of slots, changed at one slot
abbrev pub at_slot : {A : Type 0} → (ℕ → A) → ℕ → A → ℕ → A
at_slot f s x k = cond (eqb k s) x (f k)

-- what is issued, without the slots of a set
abbrev pub frees : (ℕ → Bool) → (ℕ → Option Issue) → ℕ → Option Issue
frees F issues s = unless (F s) (issues s)

-- commands are issued in slots below a number
abbrev pub issue_below : ℕ → (ℕ → Option Command) → (ℕ → Option Issue) → ℕ → ℕ → Option Issue
issue_below dev commands issues m k = cond (nat_lt k m) (issue_with dev (commands k) (issues k)) (issues k)

-- a context is within what is issued in its slot
pub record HasContext (n : ℕ) (own : DeviceSlots) (c : Context) : Type 0 where
  pub issue : Issue
  pub at : own_issue own c.slot ≡ Some issue
  pub is : IsContextOf n c issue

-- what is issued for a device, and its context, are sound
pub record IsOwn (n : ℕ) (own : DeviceSlots) : Type 0 where
  pub long : length own.issues ≡ 32
  pub issues : (s : ℕ) (i : Issue) → own_issue own s ≡ Some i → IsIssue i
  pub contexts : (c : Context) → own.context ≡ Some c → HasContext n own c

-- the filling is of an issued slot that was set up last, towards the host
pub record IsFilling (past : History) (f : Filling) : Type 0 where
  pub setup : Setup
  pub last : last_setup past ≡ Some setup
  pub host : setup.to_host ≡ true
  pub slot_is : f.slot ≡ setup.slot
  pub is_issued : issued f.slot past ≡ Some f.transfer
  pub is_up : is_set_up f.slot past ≡ true
  pub from_is : f.from ≡ next_number past

-- the transfer of a command: its work, and its PRDs as they are in memory
abbrev pub transfer_of : Memory → Command → Transfer
transfer_of memory command = record { work = command.work; table = prds_of memory command }

-- a history, and then the issue of this command, if there is one
abbrev pub with_issued : Memory → ℕ → Option Command → History → History
with_issued memory slot None past = past
with_issued memory slot (Some command) past = Issued slot (transfer_of memory command) ∷ past

-- a history, and then the issue of the commands in slots below a number
abbrev pub history_below : Memory → (ℕ → Option Command) → History → ℕ → History
history_below memory commands past zero = past
history_below memory commands past (suc m) = with_issued memory m (commands m) (history_below memory commands past m)

-- what is known of a FIS that goes out
unfoldable pub GoesOut : Port → Outgoing → Type 0
GoesOut port (out.Data dev offset len command) = (c : Context) × (context_of port.slots dev ≡ Some c) × (c.activated ≡ true) × (len ≡ payload_len c)
GoesOut port (out.Order dev slot command) =
    (i : Issue) × (issue_at port.slots slot ≡ Some i) × (dev ≡ i.dev) × (slot < 32) × (i.sent ≡ false) × (is_control i.work.kind ≡ false → waiting (slots_of i.dev port.slots) ≡ None)
GoesOut port other = Unit {0}

-- ---- isolation

-- what is known of data that goes out: it is the next of the device's setup, of the command of its slot
pub record IsData (port : Port) (dev offset len : ℕ) (command : Command) : Type 0 where
  pub next : ℕ × ℕ × ℕ
  pub is : payload (context_of port.slots dev) ≡ Some next
  pub offset_is : next.1 ≡ offset
  pub len_is : next.2 ≡ len
  pub filled : is_some (own_issue (slots_of dev port.slots) next.0) ≡ true
  pub stands : last_command port.commands next.0 ≡ Some command

-- what is known of a command that goes out: no device waits for data, its slot is the next, and it is the device's
pub record IsOrder (port : Port) (dev slot : ℕ) (command : Command) (r s : Option ℕ) : Type 0 where
  pub no_data : r ≡ None
  pub next : s ≡ Some slot
  pub owns : Owns dev (issue_at port.slots slot)
  pub stands : last_command port.commands slot ≡ Some command

-- no slot of the device that is free becomes filled
abbrev pub KeepsOwn : DeviceSlots → DeviceSlots → Type 0
KeepsOwn old new = (slot : ℕ) → own_issue old slot ≡ None → own_issue new slot ≡ None

-- ---- placed

-- an event that issues nothing
unfoldable pub NotIssue : Event → Type 0
NotIssue (Issued slot t) = ⊥
NotIssue e = Unit {0}

-- touches of which none issues
unfoldable pub NoneIssues : Touches → Type 0
NoneIssues [] = Unit {0}
NoneIssues (By dev e ∷ rest) = NotIssue e × NoneIssues rest
NoneIssues (Stops ∷ rest) = NoneIssues rest
NoneIssues (Puts at bytes ∷ rest) = NoneIssues rest

-- ---- gathered

-- touches in which no payload is carried, and nothing is put into client memory
unfoldable pub AreQuiet : Touches → Type 0
AreQuiet [] = Unit {0}
AreQuiet (By dev (Carried bytes) ∷ rest) = ⊥
AreQuiet (By dev e ∷ rest) = AreQuiet rest
AreQuiet (Stops ∷ rest) = AreQuiet rest
AreQuiet (Puts at bytes ∷ rest) = ⊥
