-- For whom a command is meant that a device takes. It is the command of a request. The last IDENTIFY
-- data that the host accepted for the port before that request was submitted were sent on the
-- connection on which the command is taken. On the same connection come the FISes that the host takes
-- of that port as long as the request waits or is issued (Serial ATA 3.x, 16.3, port multiplier:
-- presence of a device on a port, frame transmission; ACS-3, IDENTIFY DEVICE; AHCI 1.3.1, 5.3). So no
-- command that was meant for a removed device reaches its successor, however long its request waited
-- and however long the command was on its way. And no other device answers it.
--
-- Cited: what is told of a step, and steps of a run (specs/Runs.antt); what goes down
-- (specs/Downward.antt); IDENTIFY data that are accepted (specs/Stale.antt). IsCommandOf of
-- `hba_driver` (specs/Queued.antt) says that a frame which goes out is the command of a request.
use Rattle.std.specs.Prelude.{ℕ, ◌≡◌, ◌<◌, true, false, List, [], ◌∷◌, length, take, None, Some, Ok, slice_get}
use Rattle.fis_view.specs.Frames.{Stamped}
use Rattle.hba_fbs.specs.declared.report.TakeReport.{TakeReport}
use Rattle.hba_driver.specs.{declared.{request.{Request.Request, Ticket.Ticket}, slot.Phase.TheVariants.{Issued, Waits}}, Drivers.{Entry, rephased}}
use Rattle.hba_driver.specs.{Known.is_request, Queued.IsCommandOf, Submits.new_entry, Tended.IsLiveAt}
use Rattle.multiplier.specs.State.{falling}
use Rattle.pm_world.specs.{Attached.Attached, Downward.{on_down_link, pushed_by}, Places.{Places, is_config, new_world}, Rules.{Rule, Run}}
use Rattle.pm_world.specs.{Runs.{IsStepOf, over}, Stale.{connection, identified_by, latest}, declared.step.{Config.Config, Step.Step, Answer.Answer}}
use Rattle.pm_world.specs.declared.step.Step.TheVariants as step
use Rattle.pm_world.specs.declared.step.Answer.TheVariants as answer

-- In this run a request of device n was submitted under a ticket. Later its command was put on the
-- host's link, while the request was issued in its slot. The frame is that command, as it fell to
-- this connection. On the same connection the last IDENTIFY data were sent that the host had accepted
-- for the port when the request was submitted.
pub record IsMeant (n conn : ℕ) (frame : Stamped) (old now : Places) (steps : List Step)
    (answers : List Answer) (run : Run old steps answers now) : Type 0 where
  pub slot : ℕ
  pub ticket : Ticket
  pub request : Request
  pub sent : Stamped
  pub fell : frame ≡ falling conn sent
  pub pushed : IsStepOf step.HostPush answer.Pushed old now steps answers run
  pub is_sent : pushed_by pushed.at step.HostPush answer.Pushed pushed.next ≡ sent ∷ []
  pub of_request : IsCommandOf slot (rephased Issued (new_entry ticket.0 n request)) pushed.at.host sent
  pub submitted : IsStepOf (step.Submit n request) (answer.Submitted ticket) old pushed.at pushed.before
      pushed.told pushed.came
  pub identified : latest None (over (identified_by n) old submitted.before submitted.told submitted.at
      submitted.came) ≡ Some conn

-- Holds after every run from a new world: if the device at port n takes the command of a request, the
-- command is meant for the connection on which the device takes it.
abbrev pub CommandsAreMeant : Type 0
CommandsAreMeant =
    (config : Config) (units : List Attached) → is_config config (length units) ≡ true
    → (steps : List Step) (answers : List Answer) (now : Places)
    (run : Run (new_world config units) steps answers now) (n : ℕ) → n < 15
    → (s : Step) (new : Places) → Rule now s (Ok (answer.DiskTook n false)) new
    → (frame : Stamped) → take 1 (on_down_link (slice_get now.devices n)) ≡ frame ∷ []
    → is_request frame.bytes ≡ true
    → IsMeant n (connection (slice_get now.devices n)) frame (new_world config units) now steps answers run

-- In this run the request of an entry of device n was submitted. The last IDENTIFY data that the host
-- had accepted for the port by then were sent on this connection.
pub record WasSubmittedFor (n conn : ℕ) (e : Entry) (old now : Places) (steps : List Step)
    (answers : List Answer) (run : Run old steps answers now) : Type 0 where
  pub ticket : Ticket
  pub request : Request
  pub of_request : new_entry ticket.0 n request ≡ rephased Waits e
  pub submitted : IsStepOf (step.Submit n request) (answer.Submitted ticket) old now steps answers run
  pub identified : latest None (over (identified_by n) old submitted.before submitted.told submitted.at
      submitted.came) ≡ Some conn

-- Holds after every run from a new world: if the host takes a FIS of port n while a request of that
-- port waits or is issued, that request was submitted for the connection on which the FIS was sent.
abbrev pub AnswersAreMeant : Type 0
AnswersAreMeant =
    (config : Config) (units : List Attached) → is_config config (length units) ≡ true
    → (steps : List Step) (answers : List Answer) (now : Places)
    (run : Run (new_world config units) steps answers now) (n : ℕ) → n < 15
    → (s : Step) (conn number : ℕ) (bytes : List ℕ) (report : TakeReport) (new : Places)
    → Rule now s (Ok (answer.Took n conn number bytes report)) new
    → (slot : ℕ) (e : Entry) → IsLiveAt n slot now.host.driver.entries e
    → WasSubmittedFor n conn e (new_world config units) now steps answers run
