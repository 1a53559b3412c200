-- A store has the bytes of all its sectors.
use Rattle.std.proofs.Common.{◌≡◌, ℕ, ◌+◌, ◌-◌, ◌≤◌, Bool, true, false, List, [], ◌∷◌, ◌++◌, length, get_or, set, Option, Some, None, refl, sym}
use Rattle.std.proofs.{Common.{subst, arith, length-append}, lemmas.Bool.{eqb-true, ltb-false}}
use Rattle.std.specs.{Prelude.{◌==◌, ◌&&◌, if◌then◌else◌, nat_lt, replicate}, Option.option_map}
use Rattle.block_command.specs.{declared.command.{Command.Command, Protocol.Protocol, Stage.Stage}, Laws.{Comes, Fails, Flushes, Goes, Input, Loads}}
use Rattle.block_command.specs.{Laws.{Stores, after}, Moments.{Moment, after_came, after_failed, after_flushed, after_loaded, after_stored, chunk}}
use Rattle.block_command.specs.Moments.{data_stage, gone, is_queued, is_verify, opening, part_count, part_len, read_end, read_on, write_on}
use Rattle.block_command.specs.declared.command.Protocol.TheVariants as protocol
use Rattle.block_command.specs.declared.command.Stage.TheVariants as stage
use Rattle.block_command.proofs.Door.{at}
use Rattle.block_disk.specs.Table as table
use Rattle.block_disk.specs.{Table.is_under_way, Requests.{Queue, is_out, with_table}}
use Rattle.block_disk.proofs.Door.{each_is}
use Rattle.block_queue.specs.Deeds as deed
use Rattle.block_queue.specs.{Deeds.{Deed, after_deed}, Line.{Line, command_at, moved_back}}
use Rattle.block_scheduler.specs.Laws.{all_deeds}
use Rattle.block_engine.specs.Laws.{all_moves}
use Rattle.disk_pages.specs.declared.profile.Profile.{Profile}
use Rattle.sata_disk.specs.State.{commands, new_disk}
use Rattle.sata_disk_laws.specs.{Calls.{Call, all_steps}, Laws.reached}
use Rattle.sata_disk_books.proofs.Door.{after_deeds, line_then}
use Rattle.machine_theorem.proofs.Came.{set_each}

-- ---- one command

abbrev pub AtStage : (c : Command) (done : ℕ) (bytes : List ℕ) → Stage → Type 0
AtStage c done bytes stage.Store = length bytes ≡ part_len c done
AtStage c done bytes other = Unit {0}

pub record IsWhole (m : Moment) : Type 0 where
  pub fits : length m.bytes ≤ part_len m.command m.done
  pub store : AtStage m.command m.done m.bytes m.stage

none_fit : (n : ℕ) → 0 ≤ n
none_fit n = omega arith

module _ (c : Command) (done : ℕ) (bytes : List ℕ) where
  started_at : (w q : Bool) → AtStage c done bytes (if w then (if q then stage.SetUpWrite else stage.Activate) else stage.Load)
  started_at true true = tt
  started_at true false = tt
  started_at false q = tt

  data_at : (p : Protocol) → AtStage c done bytes (data_stage p)
  data_at protocol.Pio = tt
  data_at other = tt

  first_at : (p : Protocol) (b : Bool) → AtStage c done bytes (if b then stage.SetUpRead else data_stage p)
  first_at p true = tt
  first_at p false = data_at p

  read_at : (p : Protocol) (b : Bool) → AtStage c done bytes (if b then stage.Load else read_end p)
  read_at p true = tt
  read_at protocol.Pio false = tt
  read_at other false = tt

  written_at : (b lasting : Bool) → AtStage c done bytes (if b then stage.Activate else (if lasting then stage.Flush else stage.End))
  written_at true lasting = tt
  written_at false true = tt
  written_at false false = tt

  set_up_at : (b : Bool) → AtStage c done bytes (if b then stage.Receiving else stage.Activate)
  set_up_at true = tt
  set_up_at false = tt

reads_on : (m : Moment) (done : ℕ) → IsWhole (read_on m done)
reads_on m done = record { fits = none_fit (part_len m.command done); store = read_at m.command done [] m.command.protocol (nat_lt done m.command.count) }

writes_on : (m : Moment) (done : ℕ) → IsWhole (write_on m done)
writes_on m done = record { fits = none_fit (part_len m.command done); store = written_at m.command done [] (nat_lt done m.command.count) m.command.lasting }

sends_on : (m : Moment) (sent done : ℕ) (b : Bool) → length m.bytes ≤ part_len m.command m.done
    → IsWhole (if b then record m { sent = sent; stage = data_stage m.command.protocol } else read_on m done)
sends_on m sent done true fits = record { fits = fits; store = data_at m.command m.done m.bytes m.command.protocol }
sends_on m sent done false fits = reads_on m done

goes : (c : Command) (done : ℕ) (bytes : List ℕ) (sent : ℕ) (s : Stage) → IsWhole (at c done bytes sent s) → IsWhole (gone (at c done bytes sent s) s)
goes c done bytes sent stage.Waiting is = record { fits = is.fits; store = started_at c done bytes c.write (is_queued c.protocol) }
goes c done bytes sent stage.Load is = record { fits = is.fits; store = tt }
goes c done bytes sent stage.SetUpRead is = record { fits = is.fits; store = tt }
goes c done bytes sent stage.Announce is = record { fits = is.fits; store = tt }
goes c done bytes sent stage.Sending is =
    sends_on (at c done bytes sent stage.Sending) (sent + chunk c (length bytes - sent)) (done + part_count c done) (nat_lt (sent + chunk c (length bytes - sent)) (length bytes)) is.fits
goes c done bytes sent stage.SetUpWrite is = record { fits = is.fits; store = set_up_at c done bytes c.auto_activate }
goes c done bytes sent stage.Activate is = record { fits = is.fits; store = tt }
goes c done bytes sent stage.Store is = record { fits = is.fits; store = tt }
goes c done bytes sent stage.Flush is = record { fits = is.fits; store = tt }
goes c done bytes sent stage.End is = record { fits = is.fits; store = tt }
goes c done bytes sent stage.Fail is = record { fits = is.fits; store = tt }
goes c done bytes sent other is = is

-- no more of a part than is left of it
chunk_fits : (c : Command) (left : ℕ) → chunk c left ≤ left
chunk_fits c left = by (nat_lt left c.block) refl
  where
    by : (b : Bool) → nat_lt left c.block ≡ b → (if b then left else c.block) ≤ left
    by true is = omega arith
    by false is = ltb-false left c.block is

comes_by : (c : Command) (done : ℕ) (bytes part : List ℕ) (sent : ℕ) (more short : Bool) → length bytes ≤ part_len c done
    → nat_lt (chunk c (part_len c done - length bytes)) (length part) ≡ more → nat_lt (length (bytes ++ part)) (part_len c done) ≡ short
    → IsWhole (if more then at c done bytes sent stage.Fail else at c done (bytes ++ part) sent (if short then stage.Activate else stage.Store))
comes_by c done bytes part sent true short fits is so = record { fits = fits; store = tt }
comes_by c done bytes part sent false short fits is so = by short so
  where
    all : length (bytes ++ part) ≤ part_len c done
    all =
        let most = ltb-false (chunk c (part_len c done - length bytes)) (length part) is in
        let room = chunk_fits c (part_len c done - length bytes) in
        let long = length-append bytes part in
        omega (arith, fits, most, room, long)

    by : (b : Bool) → nat_lt (length (bytes ++ part)) (part_len c done) ≡ b → IsWhole (at c done (bytes ++ part) sent (if b then stage.Activate else stage.Store))
    by true e = record { fits = all; store = tt }
    by false e =
        let least = ltb-false (length (bytes ++ part)) (part_len c done) e in
        record { fits = all; store = omega (arith, all, least) }

comes : (c : Command) (done : ℕ) (bytes : List ℕ) (sent : ℕ) (s : Stage) (part : List ℕ) → IsWhole (at c done bytes sent s) → IsWhole (after_came (at c done bytes sent s) s part)
comes c done bytes sent stage.Receiving part is =
    comes_by c done bytes part sent (nat_lt (chunk c (part_len c done - length bytes)) (length part)) (nat_lt (length (bytes ++ part)) (part_len c done)) is.fits refl refl
comes c done bytes sent other part is = is

loads_by : (m : Moment) (bytes : List ℕ) (here verify : Bool) → IsWhole m → (length bytes == part_len m.command m.done) ≡ here
    → IsWhole (if here then (if verify then read_on m (m.done + part_count m.command m.done)
    else record m { bytes = bytes; stage = if is_queued m.command.protocol && m.done == 0 then stage.SetUpRead else data_stage m.command.protocol }) else m)
loads_by m bytes false verify is so = is
loads_by m bytes true true is so = reads_on m (m.done + part_count m.command m.done)
loads_by m bytes true false is so =
    let same = eqb-true (length bytes) (part_len m.command m.done) so in
    record { fits = omega (arith, same); store = first_at m.command m.done bytes m.command.protocol (is_queued m.command.protocol && m.done == 0) }

loads : (c : Command) (done : ℕ) (bytes : List ℕ) (sent : ℕ) (s : Stage) (given : List ℕ) → IsWhole (at c done bytes sent s) → IsWhole (after_loaded (at c done bytes sent s) s given)
loads c done bytes sent stage.Loading given is =
    loads_by (at c done bytes sent stage.Loading) given (length given == part_len c done) (is_verify c.protocol) is refl
loads c done bytes sent other given is = is

stores : (c : Command) (done : ℕ) (bytes : List ℕ) (sent : ℕ) (s : Stage) → IsWhole (at c done bytes sent s) → IsWhole (after_stored (at c done bytes sent s) s)
stores c done bytes sent stage.Storing is = writes_on (at c done bytes sent stage.Storing) (done + part_count c done)
stores c done bytes sent other is = is

flushes : (c : Command) (done : ℕ) (bytes : List ℕ) (sent : ℕ) (s : Stage) → IsWhole (at c done bytes sent s) → IsWhole (after_flushed (at c done bytes sent s) s)
flushes c done bytes sent stage.Flushing is = record { fits = is.fits; store = tt }
flushes c done bytes sent other is = is

fails : (c : Command) (done : ℕ) (bytes : List ℕ) (sent : ℕ) (s : Stage) → IsWhole (at c done bytes sent s) → IsWhole (after_failed (at c done bytes sent s) s)
fails c done bytes sent stage.Loading is = record { fits = is.fits; store = tt }
fails c done bytes sent stage.Storing is = record { fits = is.fits; store = tt }
fails c done bytes sent stage.Flushing is = record { fits = is.fits; store = tt }
fails c done bytes sent other is = is

inputs : (m : Moment) (i : Input) → IsWhole m → IsWhole (after m i)
inputs m Goes is = goes m.command m.done m.bytes m.sent m.stage is
inputs m (Loads bytes) is = loads m.command m.done m.bytes m.sent m.stage bytes is
inputs m (Comes part) is = comes m.command m.done m.bytes m.sent m.stage part is
inputs m Stores is = stores m.command m.done m.bytes m.sent m.stage is
inputs m Flushes is = flushes m.command m.done m.bytes m.sent m.stage is
inputs m Fails is = fails m.command m.done m.bytes m.sent m.stage is

opens : (c : Command) → IsWhole (opening c)
opens c = record { fits = none_fit (part_len c 0); store = tt }

-- ---- all of a line

abbrev OfPlace : Option Moment → Type 0
OfPlace None = Unit {0}
OfPlace (Some m) = IsWhole m

abbrev OfPlaces : List (Option Moment) → Type 0
OfPlaces places = (p : ℕ) → OfPlace (get_or places p None)

none_there : OfPlaces (replicate 33 None)
none_there p = subst OfPlace (sym (each_is (Option Moment) 33 p None)) tt

mapped : (i : Input) (x : Option Moment) → OfPlace x → OfPlace (option_map (λ m. after m i) x)
mapped i None is = tt
mapped i (Some m) is = inputs m i is

given : (places : List (Option Moment)) (place : ℕ) (i : Input) → OfPlaces places → OfPlaces (set places place (option_map (λ m. after m i) (get_or places place None)))
given places place i are = set_each OfPlace places place (option_map (λ m. after m i) (get_or places place None)) (mapped i (get_or places place None) (are place)) are

taken : (d : table.Table) (c : Command) (there : Bool) → OfPlaces d.places → OfPlaces (if there then d else table.with_command d c.place (Some (opening c))).places
taken d c true are = are
taken d c false are = set_each OfPlace d.places c.place (Some (opening c)) (opens c) are

takes : (l : Line) (c : Command) (here : Bool) → OfPlaces l.queue.table.places
    → OfPlaces (if here then l else record l { queue = with_table l.queue (table.with_taken l.queue.table c); ranks = moved_back l.ranks c.place }).queue.table.places
takes l c true are = are
takes l c false are = taken l.queue.table c (is_under_way (command_at l c.place)) are

answers : (q : Queue) (place number : ℕ) (i : Input) (b : Bool) → OfPlaces q.table.places
    → OfPlaces (if b then record q { table = table.with_input q.table place i; out = set q.out place 0 } else q).table.places
answers q place number i true are = given q.table.places place i are
answers q place number i false are = are

deed_keeps : (l : Line) (d : Deed) → OfPlaces l.queue.table.places → OfPlaces (after_deed l d).queue.table.places
deed_keeps l (deed.Takes c) are = takes l c (is_under_way (command_at l c.place)) are
deed_keeps l (deed.Starts place) are = given l.queue.table.places place Goes are
deed_keeps l (deed.Sends place) are = given l.queue.table.places place Goes are
deed_keeps l (deed.Asks place) are = given l.queue.table.places place Goes are
deed_keeps l (deed.Hears place part) are = given l.queue.table.places place (Comes part) are
deed_keeps l (deed.Answers place number i) are = answers l.queue place number i (is_out l.queue.out place number) are
deed_keeps l deed.Resets are = none_there
deed_keeps l deed.Draws are = are

deeds_keep : (ds : List Deed) (l : Line) → OfPlaces l.queue.table.places → OfPlaces (after_deeds l ds).queue.table.places
deeds_keep [] l are = are
deeds_keep (d ∷ later) l are = deeds_keep later (after_deed l d) (deed_keeps l d are)

pub whole_at : (p : Profile) (limit : ℕ) (calls : List Call) (place : ℕ) (m : Moment) → command_at (commands (reached p limit calls)) place ≡ Some m → IsWhole m
whole_at p limit calls place m is =
    subst OfPlace is
    (subst (λ (l : Line). OfPlace (command_at l place)) (sym (line_then (new_disk p limit) calls))
    (deeds_keep (all_deeds (new_disk p limit).engine.schedule (all_moves (new_disk p limit).engine (all_steps (new_disk p limit) calls))) (commands (new_disk p limit)) none_there place))
