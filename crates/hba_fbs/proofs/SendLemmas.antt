-- What goes out, from the clauses of the calls that make it.
use Rattle.std.proofs.Common.{◌≡◌, ℕ, ◌+◌, ◌-◌, Bool, true, false, List, slice_index, refl, sym, ap, ◌∙◌, subst, Option, Some, None}
use Rattle.std.proofs.lemmas.List.FromFn.{fill_by_all}
use Rattle.std.specs.{Prelude.{OnErr, Result, Ok, Err, if◌then◌else◌, is_some, not}, List.concat}
use Rattle.fis_view.specs.Frames.{Stamped}
use Rattle.host_memory.specs.{Memory.{Memory, client_start}, Parts.AreParts, Place.{Table, place}, declared.table.Prd.Prd}
use Rattle.hba_commands.specs.declared.command.Command.{Command}
use Rattle.slots.specs.{Data.payload, Slots.{Issue, context_of, issue_at, match_some}}
use Rattle.hba_fbs.specs.{declared.turn.Turn.{Turn, TheVariants.{Feeds, Orders, Rests}}, Sending.{Gives, Nothing, Order, Sends, data_due, data_fis}}
use Rattle.hba_fbs.specs.{Sending.{data_with, gathered, is_sent, next_receiver, next_to_send, order_due, outgoing, view_fed}, Tables.IsTableOf}
use Rattle.hba_fbs.specs.{Tables.{areas, sound_command}, Taking.is_running, Turning.{feeds, orders, outgoing_at, turn_of}, Views.{Port, last_command}}
use Rattle.hba_fbs.specs.Views.{view_of}

-- the parts of a transfer, joined, are its bytes
pub gathered_is : (prds : List Prd) (offset len : ℕ) (client : List ℕ) (parts : List (List ℕ)) → AreParts prds offset len client parts → concat parts ≡ gathered prds offset len client
gathered_is prds offset len client parts h = fill_by_all (λ k. slice_index client (place prds (offset + k) - client_start)) (concat parts) len 0 h.as_long h.at_places

-- the data that is due, by the table of its slot, read from these two areas of the memory
pub data_given : (old : Port) (dev slot offset len : ℕ) (memory : Memory) (structure client : List ℕ) (table : Table) (frame : Stamped) (new : Port) → structure ≡ memory.structure → client ≡ memory.client
    → IsTableOf (areas structure client) (sound_command (areas structure client) old.commands (view_of dev old).slots slot) table
    → Sends old dev (data_fis dev (gathered table.prds offset len client)) (view_fed (view_of dev old)) frame new → Gives (outgoing_at old memory (Feeds dev slot offset len)) old memory (Some frame) new
data_given old dev slot offset len memory structure client table frame new s c is sends = by_command (sound_command memory old.commands (view_of dev old).slots slot) table_is
  where
    IsTable : List ℕ → List ℕ → Type 0
    IsTable x y = IsTableOf (areas x y) (sound_command (areas x y) old.commands (view_of dev old).slots slot) table

    table_is : IsTable memory.structure memory.client
    table_is = subst (λ (y : List ℕ). IsTable memory.structure y) c (subst (λ (x : List ℕ). IsTable x client) s is)

    SendsBy : List Prd → List ℕ → Type 0
    SendsBy prds y = Sends old dev (data_fis dev (gathered prds offset len y)) (view_fed (view_of dev old)) frame new

    now_sends : SendsBy table.prds memory.client
    now_sends = subst (λ (y : List ℕ). SendsBy table.prds y) c sends

    by_command : (found : Option Command) → IsTableOf memory found table → Gives (data_with dev offset len found) old memory (Some frame) new
    by_command None e = absurd e
    by_command (Some command) e = subst (λ (t : Table). SendsBy t.prds memory.client) e now_sends

-- whether it goes, by the table of its slot
pub data_sent : (old : Port) (dev slot offset len : ℕ) (memory : Memory) (structure client : List ℕ) (b : Bool) → structure ≡ memory.structure → client ≡ memory.client
    → is_some (sound_command (areas structure client) old.commands (view_of dev old).slots slot) ≡ b → is_sent (outgoing_at old memory (Feeds dev slot offset len)) ≡ b
data_sent old dev slot offset len memory structure client b s c there = by_command (sound_command memory old.commands (view_of dev old).slots slot) there_is
  where
    IsThere : List ℕ → List ℕ → Type 0
    IsThere x y = is_some (sound_command (areas x y) old.commands (view_of dev old).slots slot) ≡ b

    there_is : IsThere memory.structure memory.client
    there_is = subst (λ (y : List ℕ). IsThere memory.structure y) c (subst (λ (x : List ℕ). IsThere x client) s there)

    by_command : (found : Option Command) → is_some found ≡ b → is_sent (data_with dev offset len found) ≡ b
    by_command None e = e
    by_command (Some command) e = e

-- what holds also holds where a call failed
pub on_err : {T E P : Type 0} (r : Result T E) → P → OnErr r P
on_err (Ok x) p = tt
on_err (Err e) p = p

-- ---- what goes out next is the turn of the core, beside a memory

due_is : (port : Port) (memory : Memory) (dev : ℕ) (o : Option (ℕ × ℕ × ℕ)) → match_some o Nothing (λ next. data_with dev next.1 next.2 (sound_command memory port.commands (view_of dev port).slots next.0)) ≡ outgoing_at port memory (match_some o Rests (feeds dev))
due_is port memory dev None = refl
due_is port memory dev (Some next) = refl

order_is : (port : Port) (memory : Memory) (slot : ℕ) (o : Option Issue) (q : Option Command)
    → match_some o Nothing (λ issue. match_some q Nothing (Order issue.dev slot)) ≡ outgoing_at port memory (match_some o Rests (λ issue. match_some q Rests (Orders issue.dev slot)))
order_is port memory slot None q = refl
order_is port memory slot (Some issue) None = refl
order_is port memory slot (Some issue) (Some command) = refl

by_cases : (port : Port) (memory : Memory) (stopped : Bool) (r s : Option ℕ)
    → (if stopped then Nothing else match_some r (match_some s Nothing (order_due port)) (data_due port memory))
    ≡ outgoing_at port memory (if stopped then Rests else match_some r (match_some s Rests (orders port)) (λ dev. match_some (payload (context_of port.slots dev)) Rests (feeds dev)))
by_cases port memory true r s = refl
by_cases port memory false None None = refl
by_cases port memory false None (Some slot) = order_is port memory slot (issue_at port.slots slot) (last_command port.commands slot)
by_cases port memory false (Some dev) s = due_is port memory dev (payload (context_of port.slots dev))

pub outgoing_is : (port : Port) (memory : Memory) → outgoing port memory ≡ outgoing_at port memory (turn_of port)
outgoing_is port memory = by_cases port memory (not (is_running port)) (next_receiver port) (next_to_send port)

pub outgoing_for : (port : Port) (memory : Memory) (turn : Turn) → turn ≡ turn_of port → outgoing port memory ≡ outgoing_at port memory turn
outgoing_for port memory turn is = outgoing_is port memory ∙ ap (outgoing_at port memory) (sym is)
