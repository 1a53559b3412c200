-- A write that has the link: so many bytes came for it since its DMA Setup FIS as its moment says.
use Rattle.std.proofs.Common.{◌≡◌, ℕ, ◌+◌, ◌*◌, ◌<◌, true, false, List, [], ◌++◌, length, get_or, set, Some, None, refl, sym, ap, ◌∙◌, subst, arith}
use Rattle.std.proofs.{Common.{inl, inr}, lemmas.{Bool.cases_eq, List.{get_or-set_same, get_or-set_other, length-append}}}
use Rattle.std.specs.Prelude.{Option, Bool, ◌==◌, if◌then◌else◌}
use Rattle.block_command.specs.declared.command.{Command.Command, Protocol.{Protocol, TheVariants.Pio}, Stage.{Stage, TheVariants.{Waiting, Load}}}
use Rattle.block_command.specs.declared.command.Stage.TheVariants.{Loading, SetUpRead, Announce, Sending, SetUpWrite, Activate, Receiving, Store}
use Rattle.block_command.specs.{declared.command.Stage.TheVariants.{Storing, Flush, Flushing, End, Fail}, Moments.{Moment, data_stage}}
use Rattle.block_command.specs.{Moments.{first_data_stage, is_queued, is_set_up, is_verify, part_count, part_len, read_end, read_on}, Laws.Comes}
use Rattle.block_command.specs.Laws.{Fails, Flushes, Goes, Input, Ledger, Loads, Stores, after}
use Rattle.block_command.proofs.Door.{Agrees, at}
use Rattle.block_disk.specs.Table.{Table, has_wire, with_command}
use Rattle.block_queue.proofs.Door.{of_and}
use Rattle.sata_disk_books.specs.Counted.{Counted}
use Rattle.sata_disk_books.proofs.{Holds.{had, is_loud, set_up}, Sound.{and_true, queued_of, same_protocol}}

abbrev pub is_writing : Stage → Bool
is_writing Activate = true
is_writing Receiving = true
is_writing Store = true
is_writing Storing = true
is_writing _ = false

-- so many bytes came for it
abbrev pub come_of : Moment → ℕ
come_of m = m.done * 512 + length m.bytes

-- a DMA Setup FIS goes, or Data are taken
abbrev pub is_turning : Stage → Input → Bool
is_turning SetUpRead Goes = true
is_turning SetUpWrite Goes = true
is_turning Receiving (Comes part) = true
is_turning _ _ = false

-- ## How many bytes came stays

started_none : (w q : Bool) → q ≡ true → is_writing (if w then (if q then SetUpWrite else Activate) else Load) ≡ true → ⊥
started_none true true e h = cc
started_none true false e h = cc
started_none false q e h = cc

end_none : (p : Protocol) → is_writing (read_end p) ≡ true → ⊥
end_none Pio h = cc
end_none other h = cc

on_none : (p : Protocol) (b : Bool) → is_writing (if b then Load else read_end p) ≡ true → ⊥
on_none p true h = cc
on_none p false h = end_none p h

data_none : (p : Protocol) → is_writing (data_stage p) ≡ true → ⊥
data_none Pio h = cc
data_none other h = cc

first_none : (p : Protocol) (b : Bool) → is_writing (if b then SetUpRead else data_stage p) ≡ true → ⊥
first_none p true h = cc
first_none p false h = data_none p h

loaded_none : (c : Command) (done : ℕ) (bytes given : List ℕ) (sent : ℕ) (b d : Bool)
    → is_writing (if b then (if d then read_on (at c done bytes sent Loading) (done + part_count c done)
    else at c done given sent (first_data_stage c.protocol done)) else at c done bytes sent Loading).stage ≡ true → ⊥
loaded_none c done bytes given sent false d h = cc
loaded_none c done bytes given sent true true h = on_none c.protocol _ h
loaded_none c done bytes given sent true false h = first_none c.protocol _ h

sent_none : (c : Command) (done : ℕ) (bytes : List ℕ) (to : ℕ) (b : Bool)
    → is_writing (if b then at c done bytes to (data_stage c.protocol) else read_on (at c done bytes to Sending) (done + part_count c done)).stage ≡ true → ⊥
sent_none c done bytes to true h = data_none c.protocol h
sent_none c done bytes to false h = on_none c.protocol _ h

-- it was writing before, and as many bytes came
abbrev Same : Moment → Stage → (done : ℕ) → List ℕ → Type 0
Same m stage done bytes = is_writing m.stage ≡ true → (is_writing stage ≡ true) × (come_of m ≡ done * 512 + length bytes)

stored_same : (c : Command) (done : ℕ) (bytes : List ℕ) (b l : Bool) → length bytes ≡ part_len c done
    → Same (at c (done + part_count c done) [] 0 (if b then Activate else (if l then Flush else End))) Storing done bytes
stored_same c done bytes true l long h = (refl, omega (arith, long))
stored_same c done bytes false true long h = absurd (cc)
stored_same c done bytes false false long h = absurd (cc)

pub same_come : (c : Command) (done : ℕ) (bytes : List ℕ) (sent : ℕ) (stage : Stage) (i : Input) → is_queued c.protocol ≡ true → is_turning stage i ≡ false
    → (stage ≡ Storing → length bytes ≡ part_len c done) → Same (after (at c done bytes sent stage) i) stage done bytes
same_come c done bytes sent Waiting Goes q e s h = absurd (started_none c.write (is_queued c.protocol) q h)
same_come c done bytes sent Load Goes q e s h = absurd (cc)
same_come c done bytes sent Loading (Loads given) q e s h = absurd (loaded_none c done bytes given sent (length given == part_len c done) (is_verify c.protocol) h)
same_come c done bytes sent Loading Fails q e s h = absurd (cc)
same_come c done bytes sent SetUpRead Goes q e s h = absurd (cc)
same_come c done bytes sent SetUpWrite Goes q e s h = absurd (cc)
same_come c done bytes sent Announce Goes q e s h = absurd (cc)
same_come c done bytes sent Sending Goes q e s h = absurd (sent_none c done bytes _ _ h)
same_come c done bytes sent Activate Goes q e s h = (refl, refl)
same_come c done bytes sent Store Goes q e s h = (refl, refl)
same_come c done bytes sent Storing Stores q e s h = stored_same c done bytes _ c.lasting (s refl) h
same_come c done bytes sent Storing Fails q e s h = absurd (cc)
same_come c done bytes sent Flush Goes q e s h = absurd (cc)
same_come c done bytes sent Flushing Flushes q e s h = absurd (cc)
same_come c done bytes sent Flushing Fails q e s h = absurd (cc)
same_come c done bytes sent End Goes q e s h = absurd (cc)
same_come c done bytes sent Fail Goes q e s h = absurd (cc)
same_come c done bytes sent Receiving (Comes part) q e s h = absurd (cc)
same_come c done bytes sent stage Goes q e s h = (h, refl)
same_come c done bytes sent stage (Loads given) q e s h = (h, refl)
same_come c done bytes sent stage (Comes part) q e s h = (h, refl)
same_come c done bytes sent stage Stores q e s h = (h, refl)
same_come c done bytes sent stage Flushes q e s h = (h, refl)
same_come c done bytes sent stage Fails q e s h = (h, refl)

-- ## Data come

came_more : (c : Command) (done : ℕ) (bytes part : List ℕ) (sent : ℕ) (b d : Bool)
    → is_writing (if b then at c done bytes sent Fail else at c done (bytes ++ part) sent (if d then Activate else Store)).stage ≡ true
    → come_of (if b then at c done bytes sent Fail else at c done (bytes ++ part) sent (if d then Activate else Store)) ≡ done * 512 + length bytes + length part
came_more c done bytes part sent true d h = absurd (cc)
came_more c done bytes part sent false true h = let sum = length-append bytes part in omega (arith, sum)
came_more c done bytes part sent false false h = let sum = length-append bytes part in omega (arith, sum)

pub comes_more : (c : Command) (done : ℕ) (bytes : List ℕ) (sent : ℕ) (part : List ℕ) → is_writing (after (at c done bytes sent Receiving) (Comes part)).stage ≡ true
    → come_of (after (at c done bytes sent Receiving) (Comes part)) ≡ done * 512 + length bytes + length part
comes_more c done bytes sent part h = came_more c done bytes part sent _ _ h

-- ## A DMA Setup FIS of a write goes before its first byte

abbrev pub IsFresh : (done : ℕ) → List ℕ → Stage → Type 0
IsFresh done bytes SetUpWrite = (done ≡ 0) × (length bytes ≡ 0)
IsFresh done bytes _ = Unit {0}

abbrev pub Fresh : Moment → Type 0
Fresh m = IsFresh m.done m.bytes m.stage

started_fresh : (done : ℕ) (bytes : List ℕ) (w q : Bool) → (done ≡ 0) × (length bytes ≡ 0) → IsFresh done bytes (if w then (if q then SetUpWrite else Activate) else Load)
started_fresh done bytes true true is = is
started_fresh done bytes true false is = tt
started_fresh done bytes false q is = tt

end_fresh : (done : ℕ) (bytes : List ℕ) (p : Protocol) → IsFresh done bytes (read_end p)
end_fresh done bytes Pio = tt
end_fresh done bytes other = tt

on_fresh : (done : ℕ) (bytes : List ℕ) (p : Protocol) (b : Bool) → IsFresh done bytes (if b then Load else read_end p)
on_fresh done bytes p true = tt
on_fresh done bytes p false = end_fresh done bytes p

data_fresh : (done : ℕ) (bytes : List ℕ) (p : Protocol) → IsFresh done bytes (data_stage p)
data_fresh done bytes Pio = tt
data_fresh done bytes other = tt

first_fresh : (done : ℕ) (bytes : List ℕ) (p : Protocol) (b : Bool) → IsFresh done bytes (if b then SetUpRead else data_stage p)
first_fresh done bytes p true = tt
first_fresh done bytes p false = data_fresh done bytes p

loaded_fresh : (c : Command) (done : ℕ) (bytes given : List ℕ) (sent : ℕ) (b d : Bool)
    → Fresh (if b then (if d then read_on (at c done bytes sent Loading) (done + part_count c done)
    else at c done given sent (first_data_stage c.protocol done)) else at c done bytes sent Loading)
loaded_fresh c done bytes given sent false d = tt
loaded_fresh c done bytes given sent true true = on_fresh (done + part_count c done) [] c.protocol _
loaded_fresh c done bytes given sent true false = first_fresh done given c.protocol _

sent_fresh : (c : Command) (done : ℕ) (bytes : List ℕ) (to : ℕ) (b : Bool)
    → Fresh (if b then at c done bytes to (data_stage c.protocol) else read_on (at c done bytes to Sending) (done + part_count c done))
sent_fresh c done bytes to true = data_fresh done bytes c.protocol
sent_fresh c done bytes to false = on_fresh (done + part_count c done) [] c.protocol _

set_up_fresh : (done : ℕ) (bytes : List ℕ) (b : Bool) → IsFresh done bytes (if b then Receiving else Activate)
set_up_fresh done bytes true = tt
set_up_fresh done bytes false = tt

stored_fresh : (done : ℕ) (bytes : List ℕ) (b l : Bool) → IsFresh done bytes (if b then Activate else (if l then Flush else End))
stored_fresh done bytes true l = tt
stored_fresh done bytes false true = tt
stored_fresh done bytes false false = tt

came_fresh : (c : Command) (done : ℕ) (bytes more : List ℕ) (sent : ℕ) (b d : Bool)
    → Fresh (if b then at c done bytes sent Fail else at c done more sent (if d then Activate else Store))
came_fresh c done bytes more sent true d = tt
came_fresh c done bytes more sent false true = tt
came_fresh c done bytes more sent false false = tt

pub fresh_after : (c : Command) (done : ℕ) (bytes : List ℕ) (sent : ℕ) (stage : Stage) (i : Input) → (stage ≡ Waiting → (done ≡ 0) × (length bytes ≡ 0))
    → IsFresh done bytes stage → Fresh (after (at c done bytes sent stage) i)
fresh_after c done bytes sent Waiting Goes waits is = started_fresh done bytes c.write (is_queued c.protocol) (waits refl)
fresh_after c done bytes sent Sending Goes waits is = sent_fresh c done bytes _ _
fresh_after c done bytes sent SetUpWrite Goes waits is = set_up_fresh done bytes c.auto_activate
fresh_after c done bytes sent SetUpWrite i waits is = is
fresh_after c done bytes sent Loading (Loads given) waits is = loaded_fresh c done bytes given sent (length given == part_len c done) (is_verify c.protocol)
fresh_after c done bytes sent Storing Stores waits is = stored_fresh (done + part_count c done) [] _ c.lasting
fresh_after c done bytes sent Receiving (Comes part) waits is = came_fresh c done bytes _ sent _ _
fresh_after c done bytes sent stage Goes waits is = tt
fresh_after c done bytes sent stage i waits is = tt

-- ## What the ledger says

pub record HasFacts (m : Moment) : Type 0 where
  pub waits : m.stage ≡ Waiting → (m.done ≡ 0) × (length m.bytes ≡ 0)
  pub stores : m.stage ≡ Storing → length m.bytes ≡ part_len m.command m.done

waiting_known : (c k : Command) (done : ℕ) (bytes : List ℕ) (sent : ℕ) (g : Ledger) → Agrees c (at k done bytes sent Waiting) g → (done ≡ 0) × (length bytes ≡ 0)
waiting_known c k done bytes sent g (inl over) = absurd (cc)
waiting_known c k done bytes sent g (inr known) = (known.facts.1, ap (λ (x : List ℕ). length x) known.facts.2)

storing_known : (c k : Command) (done : ℕ) (bytes : List ℕ) (sent : ℕ) (g : Ledger) → k ≡ c → Agrees c (at k done bytes sent Storing) g → length bytes ≡ part_len k done
storing_known c k done bytes sent g e (inl over) = absurd (cc)
storing_known c k done bytes sent g e (inr known) = known.facts.2 ∙ ap (λ (x : Command). part_len x done) (sym e)

pub facts_of : (c k : Command) (done : ℕ) (bytes : List ℕ) (sent : ℕ) (stage : Stage) (g : Ledger) → k ≡ c → Agrees c (at k done bytes sent stage) g
    → HasFacts (at k done bytes sent stage)
facts_of c k done bytes sent stage g e is = record {
  waits = λ w. waiting_known c k done bytes sent g (subst (λ (s : Stage). Agrees c (at k done bytes sent s) g) w is);
  stores = λ w. storing_known c k done bytes sent g e (subst (λ (s : Stage). Agrees c (at k done bytes sent s) g) w is);
}

-- ## One place

pub record CameFor (t : Option Counted) (p : ℕ) (m : Moment) : Type 0 where
  pub count : ℕ
  pub told : t ≡ Some (record { tag = p; count = count })
  pub come : is_writing m.stage ≡ true → count ≡ come_of m

abbrev pub CameAt : Option Counted → ℕ → Option Moment → Type 0
CameAt t p None = Unit {0}
CameAt t p (Some m) = CameFor t p m

abbrev pub FreshAt : Option Moment → Type 0
FreshAt None = Unit {0}
FreshAt (Some m) = Fresh m

pub record ComesAt (t : Option Counted) (p : ℕ) (x : Option Moment) : Type 0 where
  pub fresh : FreshAt x
  pub held : has_wire x ≡ true → CameAt t p x

loud_case : (stage : Stage) (i : Input) → is_loud stage i ≡ true → is_turning stage i ≡ false → stage ≡ Sending
loud_case SetUpRead Goes a e = absurd (cc)
loud_case SetUpWrite Goes a e = absurd (cc)
loud_case Sending Goes a e = refl
loud_case stage Goes a e = absurd (cc)
loud_case stage i a e = absurd (cc)

had_set : (c : Command) (done : ℕ) (bytes : List ℕ) (sent : ℕ) (stage : Stage) (i : Input) (b : Bool) → is_loud stage i ≡ b → is_queued c.protocol ≡ true
    → is_turning stage i ≡ false → set_up (after (at c done bytes sent stage) i) ≡ true → set_up (at c done bytes sent stage) ≡ true
had_set c done bytes sent stage i true loud q e h = ap (λ (s : Stage). is_set_up (at c done bytes sent s) s) (loud_case stage i loud e)
had_set c done bytes sent stage i false loud q e h = had c done bytes sent stage i q loud h

-- it had the link before
had_it : (m : Moment) (i : Input) → is_turning m.stage i ≡ false → has_wire (Some (after m i)) ≡ true → has_wire (Some m) ≡ true
had_it m i quiet h =
    let both = of_and (is_queued (after m i).command.protocol) (set_up (after m i)) h in
    let q : is_queued m.command.protocol ≡ true = sym (same_protocol m i) ∙ both.0 in
    and_true (is_queued m.command.protocol) (set_up m) q (had_set m.command m.done m.bytes m.sent m.stage i (is_loud m.stage i) refl q quiet both.1)

pub stays_at : (t : Option Counted) (p : ℕ) (m : Moment) (i : Input) → HasFacts m → is_turning m.stage i ≡ false → ComesAt t p (Some m) → ComesAt t p (Some (after m i))
stays_at t p m i facts quiet was = record {
  fresh = fresh_after m.command m.done m.bytes m.sent m.stage i facts.waits was.fresh;
  held = λ h.
      (let link : has_wire (Some m) ≡ true = had_it m i quiet h in
      let x : CameFor t p m = was.held link in
      record {
        count = x.count;
        told = x.told;
        come = λ w. (let s = same_come m.command m.done m.bytes m.sent m.stage i (queued_of m link) quiet facts.stores w in x.come s.0 ∙ sym s.1);
      });
}

-- ## The table

abbrev pub AllCome : Table → Option Counted → Type 0
AllCome d t = (p : ℕ) → ComesAt t p (get_or d.places p None)

module _ (d : Table) (place : ℕ) (x : Option Moment) (long : length d.places ≡ 33) (low : place < 33) where
  here : get_or (set d.places place x) place None ≡ x
  here = get_or-set_same d.places place x None (omega (arith, low, long))

  pub put_same : (t : Option Counted) → AllCome d t → ComesAt t place x → AllCome (with_command d place x) t
  put_same t are put p = elim (cases_eq p place) [
    | inl same ↦ rw same (rw here put)
    | inr apart ↦ rw (get_or-set_other d.places place p x None apart) (are p)
  ]

  -- no other has the link
  pub put_alone : (t t' : Option Counted) → AllCome d t → ((p : ℕ) → (p ≡ place → ⊥) → has_wire (get_or d.places p None) ≡ true → ⊥) → ComesAt t' place x
      → AllCome (with_command d place x) t'
  put_alone t t' are alone put p = elim (cases_eq p place) [
    | inl same ↦ rw same (rw here put)
    | inr apart ↦ rw (get_or-set_other d.places place p x None apart) (record { fresh = (are p).fresh; held = λ h. absurd (alone p apart h) })
  ]
