-- A command that has the link: only its DMA Setup FIS brings the link to it, and so many of its bytes went as its moment says.
use Rattle.std.proofs.Common.{◌≡◌, ℕ, ◌+◌, ◌-◌, ◌*◌, ◌≤◌, true, false, List, [], length, drop, refl, sym, ap, ◌∙◌, arith, inl, inr}
use Rattle.std.proofs.lemmas.{Bool.{cases_lt, lt-ltb, ltb-false, eqb-true, eqb-false}, List.{length-drop, length-take-le}}
use Rattle.std.specs.Prelude.{Bool, nat_lt, ◌&&◌, ◌==◌, if◌then◌else◌}
use Rattle.block_command.specs.declared.command.{Command.Command, Protocol.{Protocol, TheVariants.{Queued, Dma, Pio, Verify}}, Stage.Stage}
use Rattle.block_command.specs.declared.command.Stage.TheVariants.{Waiting, Load, Loading, SetUpRead, Announce, Sending, SetUpWrite, Activate}
use Rattle.block_command.specs.{declared.command.Stage.TheVariants.{Receiving, Store, Storing, Flush, Flushing, End, Fail}, Moments.{Moment, chunk}}
use Rattle.block_command.specs.Moments.{is_set_up, is_queued, is_verify, part_count, part_len, part_of, first_data_stage, data_stage, read_end}
use Rattle.block_command.specs.{Moments.read_on, Laws.{Input, Goes, Loads, Comes, Stores, Flushes, Fails, after}}
use Rattle.block_command.proofs.Door.{at}

-- ## Who has the link

-- a FIS that sets up, or Data
abbrev pub is_loud_stage : Stage → Bool
is_loud_stage SetUpRead = true
is_loud_stage SetUpWrite = true
is_loud_stage Sending = true
is_loud_stage _ = false

abbrev pub is_loud : Stage → Input → Bool
is_loud stage Goes = is_loud_stage stage
is_loud stage _ = false

abbrev pub set_up : Moment → Bool
set_up m = is_set_up m m.stage

some_done : (b : Bool) (n : ℕ) → (b && n == 0) ≡ false → b ≡ true → nat_lt 0 n ≡ true
some_done true n e f = elim (cases_lt 0 n) [
  | inl low ↦ lt-ltb 0 n low
  | inr high ↦ absurd (eqb-false n 0 e (omega (arith, high)))
]
some_done false n e f = absurd (cc)

loads_on : (c : Command) (done : ℕ) (bytes : List ℕ) (sent : ℕ) (b : Bool) → (is_queued c.protocol && done == 0) ≡ b
    → is_queued c.protocol ≡ true
    → is_set_up (at c done bytes sent (if b then SetUpRead else data_stage c.protocol)) (if b then SetUpRead else data_stage c.protocol) ≡ true
    → nat_lt 0 done ≡ true
loads_on c done bytes sent true e q h = absurd (cc)
loads_on c done bytes sent false e q h = some_done (is_queued c.protocol) done e q

not_verify : (p : Protocol) → is_queued p ≡ true → is_verify p ≡ false
not_verify Queued e = refl
not_verify Dma e = absurd (cc)
not_verify Pio e = absurd (cc)
not_verify Verify e = absurd (cc)

loaded_case : (c : Command) (done : ℕ) (bytes given : List ℕ) (sent : ℕ) (b d : Bool) → is_verify c.protocol ≡ d → is_queued c.protocol ≡ true
    → set_up (if b then (if d then read_on (at c done bytes sent Loading) (done + part_count c done)
    else at c done given sent (first_data_stage c.protocol done)) else at c done bytes sent Loading) ≡ true
    → nat_lt 0 done ≡ true
loaded_case c done bytes given sent false d e q h = h
loaded_case c done bytes given sent true false e q h = loads_on c done given sent _ refl q h
loaded_case c done bytes given sent true true e q h = let no = not_verify c.protocol q in cc

stored_case : (c : Command) (to : ℕ) (b l : Bool)
    → set_up (at c to [] 0 (if b then Activate else (if l then Flush else End))) ≡ true → b ≡ true
stored_case c to true l h = refl
stored_case c to false true h = absurd (cc)
stored_case c to false false h = absurd (cc)

start_case : (c : Command) (done : ℕ) (bytes : List ℕ) (sent : ℕ) (w q : Bool) → q ≡ true
    → set_up (at c done bytes sent (if w then (if q then SetUpWrite else Activate) else Load)) ≡ true → nat_lt 0 done ≡ true
start_case c done bytes sent true true e h = absurd (cc)
start_case c done bytes sent true false e h = absurd (cc)
start_case c done bytes sent false q e h = h

-- only a DMA Setup FIS brings it
pub had : (c : Command) (done : ℕ) (bytes : List ℕ) (sent : ℕ) (stage : Stage) (i : Input) → is_queued c.protocol ≡ true → is_loud stage i ≡ false
    → set_up (after (at c done bytes sent stage) i) ≡ true → set_up (at c done bytes sent stage) ≡ true
had c done bytes sent Announce i q e h = refl
had c done bytes sent Activate i q e h = refl
had c done bytes sent Receiving i q e h = refl
had c done bytes sent Sending i q e h = refl
had c done bytes sent Waiting Goes q e h = start_case c done bytes sent c.write (is_queued c.protocol) q h
had c done bytes sent Load Goes q e h = h
had c done bytes sent Loading (Loads given) q e h = loaded_case c done bytes given sent (length given == part_len c done) _ refl q h
had c done bytes sent Storing Stores q e h = stored_case c _ _ c.lasting h
had c done bytes sent Store Goes q e h = h
had c done bytes sent stage Goes q e h = cc
had c done bytes sent stage i q e h = cc

-- ## How many of its bytes went

abbrev pub is_reading : Stage → Bool
is_reading Waiting = true
is_reading Load = true
is_reading Loading = true
is_reading SetUpRead = true
is_reading Announce = true
is_reading Sending = true
is_reading _ = false

abbrev pub gone_of : Moment → ℕ
gone_of m = m.done * 512 + m.sent

abbrev Same : Moment → Stage → (done sent : ℕ) → Type 0
Same m stage done sent = is_reading m.stage ≡ true → (is_reading stage ≡ true) × (gone_of m ≡ done * 512 + sent)

loaded_same : (c : Command) (done : ℕ) (bytes given : List ℕ) (sent : ℕ) (b d : Bool) → is_verify c.protocol ≡ d → is_queued c.protocol ≡ true
    → Same (if b then (if d then read_on (at c done bytes sent Loading) (done + part_count c done)
    else at c done given sent (first_data_stage c.protocol done)) else at c done bytes sent Loading) Loading done sent
loaded_same c done bytes given sent false d e q h = (refl, refl)
loaded_same c done bytes given sent true false e q h = (refl, refl)
loaded_same c done bytes given sent true true e q h = let no = not_verify c.protocol q in absurd (cc)

stored_same : (c : Command) (to done sent : ℕ) (b l : Bool) → Same (at c to [] 0 (if b then Activate else (if l then Flush else End))) Storing done sent
stored_same c to done sent true l h = absurd (cc)
stored_same c to done sent false true h = absurd (cc)
stored_same c to done sent false false h = absurd (cc)

came_same : (c : Command) (done : ℕ) (bytes more : List ℕ) (sent : ℕ) (b d : Bool)
    → Same (if b then at c done bytes sent Fail else at c done more sent (if d then Activate else Store)) Receiving done sent
came_same c done bytes more sent true d h = absurd (cc)
came_same c done bytes more sent false true h = absurd (cc)
came_same c done bytes more sent false false h = absurd (cc)

pub same_gone : (c : Command) (done : ℕ) (bytes : List ℕ) (sent : ℕ) (stage : Stage) (i : Input) → is_queued c.protocol ≡ true → is_loud stage i ≡ false
    → Same (after (at c done bytes sent stage) i) stage done sent
same_gone c done bytes sent Waiting Goes q e h = (refl, refl)
same_gone c done bytes sent Load Goes q e h = (refl, refl)
same_gone c done bytes sent Announce Goes q e h = (refl, refl)
same_gone c done bytes sent Sending Goes q e h = absurd (cc)
same_gone c done bytes sent SetUpRead Goes q e h = absurd (cc)
same_gone c done bytes sent SetUpWrite Goes q e h = absurd (cc)
same_gone c done bytes sent Loading (Loads given) q e h = loaded_same c done bytes given sent (length given == part_len c done) _ refl q h
same_gone c done bytes sent Storing Stores q e h = stored_same c _ done sent _ c.lasting h
same_gone c done bytes sent Receiving (Comes part) q e h = came_same c done bytes _ sent _ _ h
same_gone c done bytes sent Activate Goes q e h = absurd (cc)
same_gone c done bytes sent Store Goes q e h = absurd (cc)
same_gone c done bytes sent Flush Goes q e h = absurd (cc)
same_gone c done bytes sent End Goes q e h = absurd (cc)
same_gone c done bytes sent Fail Goes q e h = absurd (cc)
same_gone c done bytes sent Loading Fails q e h = absurd (cc)
same_gone c done bytes sent Storing Fails q e h = absurd (cc)
same_gone c done bytes sent Flushing Fails q e h = absurd (cc)
same_gone c done bytes sent Flushing Flushes q e h = absurd (cc)
same_gone c done bytes sent stage Goes q e h = (h, refl)
same_gone c done bytes sent stage (Loads given) q e h = (h, refl)
same_gone c done bytes sent stage (Comes part) q e h = (h, refl)
same_gone c done bytes sent stage Stores q e h = (h, refl)
same_gone c done bytes sent stage Flushes q e h = (h, refl)
same_gone c done bytes sent stage Fails q e h = (h, refl)

-- a DMA Setup FIS of a read goes before its first part
abbrev pub IsFirst : (done : ℕ) → Stage → Type 0
IsFirst done SetUpRead = done ≡ 0
IsFirst done _ = Unit {0}

abbrev pub First : Moment → Type 0
First m = IsFirst m.done m.stage

data_first : (n : ℕ) (p : Protocol) → IsFirst n (data_stage p)
data_first n Pio = tt
data_first n other = tt

none_done : (q : Bool) (n : ℕ) → (q && n == 0) ≡ true → n ≡ 0
none_done true n e = eqb-true n 0 e
none_done false n e = absurd (cc)

first_case : (n : ℕ) (p : Protocol) (b : Bool) → (is_queued p && n == 0) ≡ b → IsFirst n (if b then SetUpRead else data_stage p)
first_case n p false e = data_first n p
first_case n p true e = none_done (is_queued p) n e

end_first : (n : ℕ) (p : Protocol) → IsFirst n (read_end p)
end_first n Pio = tt
end_first n other = tt

on_first : (n : ℕ) (p : Protocol) (b : Bool) → IsFirst n (if b then Load else read_end p)
on_first n p true = tt
on_first n p false = end_first n p

loaded_first : (c : Command) (done : ℕ) (bytes given : List ℕ) (sent : ℕ) (b d : Bool)
    → First (if b then (if d then read_on (at c done bytes sent Loading) (done + part_count c done)
    else at c done given sent (first_data_stage c.protocol done)) else at c done bytes sent Loading)
loaded_first c done bytes given sent false d = tt
loaded_first c done bytes given sent true true = on_first (done + part_count c done) c.protocol _
loaded_first c done bytes given sent true false = first_case done c.protocol _ refl

started_first : (n : ℕ) (w q : Bool) → IsFirst n (if w then (if q then SetUpWrite else Activate) else Load)
started_first n true true = tt
started_first n true false = tt
started_first n false q = tt

sent_first : (c : Command) (done : ℕ) (bytes : List ℕ) (to : ℕ) (b : Bool)
    → First (if b then at c done bytes to (data_stage c.protocol) else read_on (at c done bytes to Sending) (done + part_count c done))
sent_first c done bytes to true = data_first done c.protocol
sent_first c done bytes to false = on_first (done + part_count c done) c.protocol _

set_up_first : (n : ℕ) (b : Bool) → IsFirst n (if b then Receiving else Activate)
set_up_first n true = tt
set_up_first n false = tt

stored_first : (n : ℕ) (b l : Bool) → IsFirst n (if b then Activate else (if l then Flush else End))
stored_first n true l = tt
stored_first n false true = tt
stored_first n false false = tt

came_first : (c : Command) (done : ℕ) (bytes more : List ℕ) (sent : ℕ) (b d : Bool)
    → First (if b then at c done bytes sent Fail else at c done more sent (if d then Activate else Store))
came_first c done bytes more sent true d = tt
came_first c done bytes more sent false true = tt
came_first c done bytes more sent false false = tt

pub first_after : (c : Command) (done : ℕ) (bytes : List ℕ) (sent : ℕ) (stage : Stage) (i : Input) → IsFirst done stage
    → First (after (at c done bytes sent stage) i)
first_after c done bytes sent Waiting Goes is = started_first done c.write (is_queued c.protocol)
first_after c done bytes sent Sending Goes is = sent_first c done bytes _ _
first_after c done bytes sent SetUpWrite Goes is = set_up_first done c.auto_activate
first_after c done bytes sent SetUpRead Goes is = tt
first_after c done bytes sent SetUpRead i is = is
first_after c done bytes sent Loading (Loads given) is = loaded_first c done bytes given sent (length given == part_len c done) (is_verify c.protocol)
first_after c done bytes sent Storing Stores is = stored_first (done + part_count c done) _ c.lasting
first_after c done bytes sent Receiving (Comes part) is = came_first c done bytes _ sent _ _
first_after c done bytes sent stage Goes is = tt
first_after c done bytes sent stage i is = tt

-- ## Data go

chunk_case : (left block : ℕ) (b : Bool) → nat_lt left block ≡ b → (if b then left else block) ≤ left
chunk_case left block true e = omega arith
chunk_case left block false e = ltb-false _ _ e

part_length : (c : Command) (done : ℕ) (bytes : List ℕ) (sent : ℕ) (stage : Stage)
    → length (part_of (at c done bytes sent stage)) ≡ chunk c (length bytes - sent)
part_length c done bytes sent stage =
    let low = chunk_case (length bytes - sent) c.block _ refl in let left = length-drop sent bytes in
    length-take-le (chunk c (length bytes - sent)) (drop sent bytes) (omega (arith, low, left))

-- the part of a read is as long as it is, and no more of it went than there is
pub record IsPart (c : Command) (done : ℕ) (bytes : List ℕ) (sent : ℕ) : Type 0 where
  pub whole : length bytes ≡ part_len c done
  pub sent_most : sent ≤ length bytes

data_case : (c : Command) (done : ℕ) (bytes : List ℕ) (sent : ℕ) (b : Bool) → nat_lt (sent + chunk c (length bytes - sent)) (length bytes) ≡ b
    → IsPart c done bytes sent
    → gone_of (if b then at c done bytes (sent + chunk c (length bytes - sent)) (data_stage c.protocol)
    else read_on (at c done bytes sent Sending) (done + part_count c done))
    ≡ done * 512 + sent + chunk c (length bytes - sent)
data_case c done bytes sent true e is = omega arith
data_case c done bytes sent false e is =
    let high = ltb-false _ _ e in let low = chunk_case (length bytes - sent) c.block _ refl in
    omega (arith, high, low, is.whole, is.sent_most)

pub data_gone : (c : Command) (done : ℕ) (bytes : List ℕ) (sent : ℕ) → IsPart c done bytes sent
    → gone_of (after (at c done bytes sent Sending) Goes) ≡ done * 512 + sent + length (part_of (at c done bytes sent Sending))
data_gone c done bytes sent is =
    data_case c done bytes sent _ refl is ∙ ap (λ n. done * 512 + sent + n) (sym (part_length c done bytes sent Sending))
