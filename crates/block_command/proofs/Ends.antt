-- The ends of a command are earned: at each stage the ledger is a function of the command's moment and of the bytes of its
-- earlier parts.
use Rattle.std.proofs.Common.{◌≡◌, ℕ, ◌+◌, ◌-◌, ◌*◌, ◌<◌, ◌≤◌, true, false, List, [], ◌∷◌, ◌++◌, length, take, drop, refl, ap, sym, ◌∙◌, arith, rules}
use Rattle.std.proofs.{Common.{inl, inr, ◌⊎◌, Some, None}, lemmas.{Bool.{eqb-true, eq-eqb, ltb-true, ltb-false}, List.{append-nil, append_assoc}}}
use Rattle.std.proofs.{lemmas.List.{length-append, take_all, take-append-drop}, Math.Seq.{take-add}}
use Rattle.std.specs.Prelude.{Bool, Option, nat_lt, if◌then◌else◌, ◌==◌, ◌&&◌}
use Rattle.block_command.specs.declared.command.{Command.Command, Protocol.{Protocol, TheVariants.{Queued, Dma, Pio, Verify}}, Stage.Stage}
use Rattle.block_command.specs.declared.command.Stage.TheVariants.{Waiting, Load, Loading, SetUpRead, Announce, Sending, SetUpWrite, Activate}
use Rattle.block_command.specs.{declared.command.Stage.TheVariants.{Receiving, Store, Storing, Flush, Flushing, End, Fail, Ended}, Moments.IsCommand}
use Rattle.block_command.specs.Moments.{Moment, opening, whole, chunk, part_count, part_len, read_end, read_on, with_sectors, data_stage}
use Rattle.block_command.specs.{Moments.{first_data_stage, is_queued, is_verify, started, write_on}, Laws.{Input, Goes, Loads, Comes, Stores}}
use Rattle.block_command.specs.Laws.{Flushes, Fails, after, happening, account, HappensRightly, IsLoaded, Ledger, blank, entered, is_behind, IsEarned}
use Rattle.block_command.specs.Laws.{Earned, EndsAreEarned}

abbrev pub read_ledger : List ℕ → Option ℕ → List ℕ → Ledger
read_ledger given wanting sent = record {
  given = given;
  wanting = wanting;
  sent = sent;
  active = false;
  came = [];
  kept = [];
  storing = None;
  flushing = false;
  flushed = false;
}

abbrev pub write_ledger : List ℕ → Bool → List ℕ → Option (List ℕ) → Bool → Bool → Ledger
write_ledger came active kept storing flushing flushed = record {
  given = [];
  wanting = None;
  sent = [];
  active = active;
  came = came;
  kept = kept;
  storing = storing;
  flushing = flushing;
  flushed = flushed;
}

-- a verify sends nothing
abbrev pub moved_of : Bool → List ℕ → List ℕ
moved_of true past = []
moved_of false past = past

abbrev pub moved : Command → List ℕ → List ℕ
moved c past = moved_of (is_verify c.protocol) past

abbrev pub end_ledger : Command → List ℕ → Bool → Ledger
end_ledger c past false = read_ledger past None (moved c past)
end_ledger c past true = write_ledger past false past None c.lasting c.lasting

-- past are the bytes of earlier parts
abbrev pub ledger_of : Command → List ℕ → ℕ → List ℕ → ℕ → Stage → Ledger
ledger_of c past done bytes sent Waiting = blank
ledger_of c past done bytes sent Load = read_ledger past None (moved c past)
ledger_of c past done bytes sent Loading = read_ledger past (Some (part_len c done)) (moved c past)
ledger_of c past done bytes sent SetUpRead = read_ledger (past ++ bytes) None past
ledger_of c past done bytes sent Announce = read_ledger (past ++ bytes) None (past ++ take sent bytes)
ledger_of c past done bytes sent Sending = read_ledger (past ++ bytes) None (past ++ take sent bytes)
ledger_of c past done bytes sent SetUpWrite = write_ledger (past ++ bytes) false past None false false
ledger_of c past done bytes sent Activate = write_ledger (past ++ bytes) false past None false false
ledger_of c past done bytes sent Receiving = write_ledger (past ++ bytes) true past None false false
ledger_of c past done bytes sent Store = write_ledger (past ++ bytes) false past None false false
ledger_of c past done bytes sent Storing = write_ledger (past ++ bytes) false past (Some bytes) false false
ledger_of c past done bytes sent Flush = write_ledger past false past None false false
ledger_of c past done bytes sent Flushing = write_ledger past false past None true false
ledger_of c past done bytes sent End = end_ledger c past c.write
ledger_of c past done bytes sent Fail = blank
ledger_of c past done bytes sent Ended = blank

-- earlier parts have this many sectors, and there is another
abbrev pub Behind : Command → List ℕ → ℕ → Type 0
Behind c past done = (length past ≡ done * 512) × (done < c.count)

-- what the command keeps at a stage
abbrev pub Facts : Command → List ℕ → ℕ → List ℕ → ℕ → Stage → Type 0
Facts c past done bytes sent Waiting = (past ≡ []) × (done ≡ 0) × (bytes ≡ []) × (sent ≡ 0) × (0 < c.count)
Facts c past done bytes sent Load = (c.write ≡ false) × Behind c past done × (sent ≡ 0)
Facts c past done bytes sent Loading = (c.write ≡ false) × Behind c past done × (sent ≡ 0)
Facts c past done bytes sent SetUpRead =
    (c.write ≡ false) × Behind c past done × (is_verify c.protocol ≡ false) × (length bytes ≡ part_len c done) × (sent ≡ 0)
Facts c past done bytes sent Announce =
    (c.write ≡ false) × Behind c past done × (is_verify c.protocol ≡ false) × (length bytes ≡ part_len c done) × (sent ≤ length bytes)
Facts c past done bytes sent Sending =
    (c.write ≡ false) × Behind c past done × (is_verify c.protocol ≡ false) × (length bytes ≡ part_len c done) × (sent ≤ length bytes)
Facts c past done bytes sent SetUpWrite = (c.write ≡ true) × Behind c past done × (length bytes ≤ part_len c done)
Facts c past done bytes sent Activate = (c.write ≡ true) × Behind c past done × (length bytes ≤ part_len c done)
Facts c past done bytes sent Receiving = (c.write ≡ true) × Behind c past done × (length bytes ≤ part_len c done)
Facts c past done bytes sent Store = (c.write ≡ true) × Behind c past done × (length bytes ≡ part_len c done)
Facts c past done bytes sent Storing = (c.write ≡ true) × Behind c past done × (length bytes ≡ part_len c done)
Facts c past done bytes sent Flush = (c.write ≡ true) × (length past ≡ whole c) × (c.lasting ≡ true)
Facts c past done bytes sent Flushing = (c.write ≡ true) × (length past ≡ whole c) × (c.lasting ≡ true)
Facts c past done bytes sent End = length past ≡ whole c
Facts c past done bytes sent Fail = Unit {0}
Facts c past done bytes sent Ended = Unit {0}

abbrev pub is_over : Stage → Bool
is_over Fail = true
is_over Ended = true
is_over _ = false

pub record Known (c : Command) (done : ℕ) (bytes : List ℕ) (sent : ℕ) (stage : Stage) (l : Ledger) : Type 0 where
  pub past : List ℕ
  pub is : l ≡ ledger_of c past done bytes sent stage
  pub facts : Facts c past done bytes sent stage

-- the ledger is the one of the moment, or nothing more can be earned
abbrev pub Agrees : Command → Moment → Ledger → Type 0
Agrees c m l = (is_over m.stage ≡ true) ⊎ Known c m.done m.bytes m.sent m.stage l

abbrev pub at : Command → ℕ → List ℕ → ℕ → Stage → Moment
at c done bytes sent stage = record { command = c; stage = stage; done = done; bytes = bytes; sent = sent }

known : (c : Command) (past : List ℕ) {done : ℕ} {bytes : List ℕ} {sent : ℕ} {stage : Stage} {l : Ledger}
    → l ≡ ledger_of c past done bytes sent stage → Facts c past done bytes sent stage
    → (is_over stage ≡ true) ⊎ Known c done bytes sent stage l
known c past is facts = inr (record { past = past; is = is; facts = facts })

same_ledger : (c : Command) (m : Moment) (k l : Ledger) → k ≡ l → Agrees c m l → Agrees c m k
same_ledger c m k l e agrees = rw e agrees

-- ## Parts

part_case : (n : ℕ) (b : Bool) → nat_lt n 2048 ≡ b → (if b then n else 2048) ≤ n
part_case n true e = omega arith
part_case n false e = ltb-false _ _ e

-- a part is no longer than what is left
part_below : (c : Command) (done : ℕ) → part_count c done ≤ c.count - done
part_below c done = part_case (c.count - done) _ refl

-- the bytes of a whole part behind those of earlier ones
past_part : (c : Command) (past bytes : List ℕ) (done : ℕ) → length past ≡ done * 512 → length bytes ≡ part_len c done
    → length (past ++ bytes) ≡ (done + part_count c done) * 512
past_part c past bytes done e f = let sum = length-append past bytes in omega (arith, sum, e, f)

past_whole : (c : Command) (past : List ℕ) (done : ℕ) → done < c.count → length past ≡ (done + part_count c done) * 512
    → c.count ≤ done + part_count c done → length past ≡ whole c
past_whole c past done more e above = let below = part_below c done in omega (arith, below, e, above, more)

-- the read ends, or goes on with its next part
read_ends : (c : Command) (past : List ℕ) (done : ℕ) (p : Protocol) → c.write ≡ false → length past ≡ whole c
    → Agrees c (at c done [] 0 (read_end p)) (read_ledger past None (moved c past))
read_ends c past done Queued write long = known c past (sym (ap (end_ledger c past) write)) long
read_ends c past done Dma write long = known c past (sym (ap (end_ledger c past) write)) long
read_ends c past done Pio write long = inl refl
read_ends c past done Verify write long = known c past (sym (ap (end_ledger c past) write)) long

reads_on : (c : Command) (past : List ℕ) (done to : ℕ) (b : Bool) → nat_lt to c.count ≡ b → c.write ≡ false
    → length past ≡ to * 512 → (c.count ≤ to → length past ≡ whole c)
    → Agrees c (at c to [] 0 (if b then Load else read_end c.protocol)) (read_ledger past None (moved c past))
reads_on c past done to true e write long all = known c past refl (write, (long, ltb-true _ _ e), refl)
reads_on c past done to false e write long all = read_ends c past to c.protocol write (all (ltb-false _ _ e))

-- ## One step

-- a part of a read is done
part_done : (c : Command) (past bytes : List ℕ) (done : ℕ) → c.write ≡ false → Behind c past done → length bytes ≡ part_len c done
    → Agrees c (at c (done + part_count c done) [] 0 (if nat_lt (done + part_count c done) c.count then Load else read_end c.protocol))
    (read_ledger (past ++ bytes) None (moved c (past ++ bytes)))
part_done c past bytes done write behind long =
    let is = past_part c past bytes done behind.0 long in
    reads_on c (past ++ bytes) done (done + part_count c done) _ refl write is (past_whole c (past ++ bytes) done behind.1 is)

moved_all : (c : Command) (past : List ℕ) → is_verify c.protocol ≡ false → moved c past ≡ past
moved_all c past is = ap (λ v. moved_of v past) is

moved_none : (c : Command) (past : List ℕ) → is_verify c.protocol ≡ true → moved c past ≡ []
moved_none c past is = ap (λ v. moved_of v past) is

-- the sectors of a verify came
verifies : (c : Command) (past given : List ℕ) (done : ℕ) → c.write ≡ false → Behind c past done → is_verify c.protocol ≡ true
    → length given ≡ part_len c done
    → Agrees c (at c (done + part_count c done) [] 0 (if nat_lt (done + part_count c done) c.count then Load else read_end c.protocol))
    (read_ledger (past ++ given) None (moved c past))
verifies c past given done write behind is long =
    let same : moved c (past ++ given) ≡ moved c past = moved_none c (past ++ given) is ∙ sym (moved_none c past is) in
    rw (sym same) (part_done c past given done write behind long)

-- a read with the bytes of a part sends Data, by PIO behind a PIO Setup
data_next : (c : Command) (past bytes : List ℕ) (done sent : ℕ) (p : Protocol) → c.write ≡ false → Behind c past done
    → is_verify c.protocol ≡ false → length bytes ≡ part_len c done → sent ≤ length bytes
    → Agrees c (at c done bytes sent (data_stage p)) (read_ledger (past ++ bytes) None (past ++ take sent bytes))
data_next c past bytes done sent Pio write behind is long low = known c past refl (write, behind, is, long, low)
data_next c past bytes done sent Queued write behind is long low = known c past refl (write, behind, is, long, low)
data_next c past bytes done sent Dma write behind is long low = known c past refl (write, behind, is, long, low)
data_next c past bytes done sent Verify write behind is long low = known c past refl (write, behind, is, long, low)

-- none of them went yet
none_sent : (past bytes : List ℕ) (sent : ℕ) → sent ≡ 0 → past ≡ past ++ take sent bytes
none_sent past bytes sent zero = sym (ap (λ n. past ++ take n bytes) zero ∙ append-nil past)

-- the sectors of another read came
first_data : (c : Command) (past given : List ℕ) (done sent : ℕ) (b : Bool) → c.write ≡ false → Behind c past done
    → is_verify c.protocol ≡ false → length given ≡ part_len c done → sent ≡ 0
    → Agrees c (at c done given sent (if b then SetUpRead else data_stage c.protocol)) (read_ledger (past ++ given) None past)
first_data c past given done sent true write behind is long zero = known c past refl (write, behind, is, long, zero)
first_data c past given done sent false write behind is long zero =
    let next = data_next c past given done sent c.protocol write behind is long (omega (arith, zero)) in
    same_ledger c (at c done given sent (data_stage c.protocol)) _ _ (ap (read_ledger (past ++ given) None) (none_sent past given sent zero)) next

given_case : (c : Command) (past given : List ℕ) (done sent : ℕ) (d : Bool) → is_verify c.protocol ≡ d → c.write ≡ false → Behind c past done
    → length given ≡ part_len c done → sent ≡ 0
    → Agrees c (if d then read_on (at c done [] sent Loading) (done + part_count c done)
    else at c done given sent (first_data_stage c.protocol done)) (read_ledger (past ++ given) None (moved c past))
given_case c past given done sent true e write behind long zero = verifies c past given done write behind e long
given_case c past given done sent false e write behind long zero =
    rw (moved_all c past e) (first_data c past given done sent _ write behind e long zero)

loads : (c : Command) (past bytes given : List ℕ) (done sent : ℕ) (b : Bool) → (length given == part_len c done) ≡ b → c.write ≡ false
    → Behind c past done → sent ≡ 0
    → Agrees c (if b then with_sectors (at c done bytes sent Loading) given else at c done bytes sent Loading)
    (if b then read_ledger (past ++ given) None (moved c past) else read_ledger past (Some (part_len c done)) (moved c past))
loads c past bytes given done sent true e write behind zero =
    given_case c past given done sent _ refl write behind (eqb-true _ _ e) zero
loads c past bytes given done sent false e write behind zero = known c past refl (write, behind, zero)

sends : (c : Command) (past bytes : List ℕ) (done to : ℕ) (b : Bool) → nat_lt to (length bytes) ≡ b
    → c.write ≡ false → Behind c past done → is_verify c.protocol ≡ false → length bytes ≡ part_len c done
    → Agrees c (if b then at c done bytes to (data_stage c.protocol) else read_on (at c done bytes to Sending) (done + part_count c done))
    (read_ledger (past ++ bytes) None (past ++ take to bytes))
sends c past bytes done to true e write behind is long =
    let low : to < length bytes = ltb-true _ _ e in
    data_next c past bytes done to c.protocol write behind is long (omega (arith, low))
sends c past bytes done to false e write behind is long =
    let all : past ++ take to bytes ≡ moved c (past ++ bytes) =
    ap (λ x. past ++ x) (take_all to bytes (ltb-false _ _ e)) ∙ sym (moved_all c (past ++ bytes) is) in
    rw all (part_done c past bytes done write behind long)

chunk_case : (n k : ℕ) (b : Bool) → nat_lt n k ≡ b → (if b then n else k) ≤ n
chunk_case n k true e = omega arith
chunk_case n k false e = ltb-false _ _ e

chunk_below : (c : Command) (n : ℕ) → chunk c n ≤ n
chunk_below c n = chunk_case n c.block _ refl

receives : (c : Command) (past bytes part : List ℕ) (done sent : ℕ) (d : Bool) → nat_lt (length (bytes ++ part)) (part_len c done) ≡ d
    → c.write ≡ true → Behind c past done → length bytes ≤ part_len c done → length part ≤ chunk c (part_len c done - length bytes)
    → Agrees c (at c done (bytes ++ part) sent (if d then Activate else Store))
    (write_ledger ((past ++ bytes) ++ part) false past None false false)
receives c past bytes part done sent true f write behind low is =
    let below : length (bytes ++ part) < part_len c done = ltb-true _ _ f in
    known c past (ap (λ x. write_ledger x false past None false false) (append_assoc past bytes part)) (write, behind, omega (arith, below))
receives c past bytes part done sent false f write behind low is =
    let above : part_len c done ≤ length (bytes ++ part) = ltb-false _ _ f in
    let most = chunk_below c (part_len c done - length bytes) in
    let sum = length-append bytes part in
    known c past (ap (λ x. write_ledger x false past None false false) (append_assoc past bytes part))
    (write, behind, omega (arith, above, most, low, sum, is))

comes : (c : Command) (past bytes part : List ℕ) (done sent : ℕ) (b : Bool)
    → nat_lt (chunk c (part_len c done - length bytes)) (length part) ≡ b
    → c.write ≡ true → Behind c past done → length bytes ≤ part_len c done
    → Agrees c (if b then at c done bytes sent Fail
    else at c done (bytes ++ part) sent (if nat_lt (length (bytes ++ part)) (part_len c done) then Activate else Store))
    (write_ledger ((past ++ bytes) ++ part) false past None false false)
comes c past bytes part done sent true e write behind low = inl refl
comes c past bytes part done sent false e write behind low =
    receives c past bytes part done sent _ refl write behind low (ltb-false _ _ e)

-- all parts of a write are stored
stores_end : (c : Command) (past : List ℕ) (done : ℕ) (l : Bool) → c.lasting ≡ l → c.write ≡ true → length past ≡ whole c
    → Agrees c (at c done [] 0 (if l then Flush else End)) (write_ledger past false past None false false)
stores_end c past done true e write long = known c past refl (write, long, e)
stores_end c past done false e write long =
    known c past (sym (ap (end_ledger c past) write ∙ ap (λ l. write_ledger past false past None l l) e)) long

stores_on : (c : Command) (past : List ℕ) (to : ℕ) (b : Bool) → nat_lt to c.count ≡ b → c.write ≡ true → length past ≡ to * 512
    → (c.count ≤ to → length past ≡ whole c)
    → Agrees c (at c to [] 0 (if b then Activate else (if c.lasting then Flush else End))) (write_ledger past false past None false false)
stores_on c past to true e write long all =
    known c past (ap (λ x. write_ledger x false past None false false) (sym (append-nil past))) (write, (long, ltb-true _ _ e), omega arith)
stores_on c past to false e write long all = stores_end c past to _ refl write (all (ltb-false _ _ e))

stores : (c : Command) (past bytes : List ℕ) (done : ℕ) → c.write ≡ true → Behind c past done → length bytes ≡ part_len c done
    → Agrees c (write_on (at c done bytes 0 Storing) (done + part_count c done)) (write_ledger (past ++ bytes) false (past ++ bytes) None false false)
stores c past bytes done write behind long =
    let is = past_part c past bytes done behind.0 long in
    stores_on c (past ++ bytes) (done + part_count c done) _ refl write is (past_whole c (past ++ bytes) done behind.1 is)

-- the next sector is the one behind the bytes of earlier parts
behind_is : (c : Command) (past : List ℕ) (done : ℕ) → length past ≡ done * 512 → is_behind c (c.lba + done) past ≡ true
behind_is c past done e = eq-eqb _ _ (omega (arith, e))

-- a flush that is answered again changes nothing
again : (past : List ℕ) (l : Bool) → (if l then write_ledger past false past None l true
    else write_ledger past false past None l l) ≡ write_ledger past false past None l l
again past true = refl
again past false = refl

ends : (c : Command) (past bytes : List ℕ) (done sent : ℕ) (b : Bool) → c.write ≡ b → length past ≡ whole c → (i : Input)
    → Agrees c (after (at c done bytes sent End) i) (entered c (end_ledger c past b) (happening (at c done bytes sent End) i))
ends c past bytes done sent b e long Goes = inl refl
ends c past bytes done sent true e long Flushes = known c past (again past c.lasting ∙ sym (ap (end_ledger c past) e)) long
ends c past bytes done sent true e long i = known c past (sym (ap (end_ledger c past) e)) long
ends c past bytes done sent false e long i = known c past (sym (ap (end_ledger c past) e)) long

-- it starts
no_bytes : (v : Bool) → moved_of v [] ≡ []
no_bytes true = refl
no_bytes false = refl

starts_write : (c : Command) (b : Bool) → c.write ≡ true → 0 < c.count
    → Agrees c (at c 0 [] 0 (if b then SetUpWrite else Activate)) blank
starts_write c true write some = known c [] refl (write, (refl, some), omega arith)
starts_write c false write some = known c [] refl (write, (refl, some), omega arith)

starts : (c : Command) (b : Bool) → c.write ≡ b → 0 < c.count
    → Agrees c (at c 0 [] 0 (if b then (if is_queued c.protocol then SetUpWrite else Activate) else Load)) blank
starts c true write some = starts_write c _ write some
starts c false write some =
    known c [] (ap (read_ledger [] None) (sym (no_bytes (is_verify c.protocol)))) (write, (refl, some), refl)

begin : (c : Command) (past bytes : List ℕ) (done sent : ℕ) → bytes ≡ [] → done ≡ 0 → sent ≡ 0 → 0 < c.count
    → Agrees c (at c done bytes sent (started c)) blank
begin c past bytes done sent e f g some = rw e (rw f (rw g (starts c _ refl some)))

-- the DMA Setup of a write lets Data come, or a DMA Activate is next
set_up_writes : (c : Command) (past bytes : List ℕ) (done sent : ℕ) (w a : Bool) → w ≡ true → c.write ≡ true → Behind c past done
    → length bytes ≤ part_len c done
    → Agrees c (at c done bytes sent (if a then Receiving else Activate)) (if w && a then write_ledger (past ++ bytes) true past None false false
    else write_ledger (past ++ bytes) false past None false false)
set_up_writes c past bytes done sent true true e write behind low = known c past refl (write, behind, low)
set_up_writes c past bytes done sent true false e write behind low = known c past refl (write, behind, low)
set_up_writes c past bytes done sent false a e write behind low = absurd (cc)

-- that of a read lets none come
set_up_reads : (w a : Bool) (k l : Ledger) → w ≡ false → (if w && a then k else l) ≡ l
set_up_reads false a k l e = refl
set_up_reads true a k l e = absurd (cc)

asks_load : (c : Command) (past bytes : List ℕ) (done sent : ℕ) (b : Bool) → b ≡ true → c.write ≡ false → Behind c past done → sent ≡ 0
    → Agrees c (at c done bytes sent Loading) (read_ledger past (if b then Some (part_len c done) else None) (moved c past))
asks_load c past bytes done sent true e write behind zero = known c past refl (write, behind, zero)
asks_load c past bytes done sent false e write behind zero = absurd (cc)

asks_store : (c : Command) (past bytes : List ℕ) (done sent : ℕ) (b : Bool) → b ≡ true → c.write ≡ true → Behind c past done
    → length bytes ≡ part_len c done
    → Agrees c (at c done bytes sent Storing) (write_ledger (past ++ bytes) false past (if b then Some bytes else None) false false)
asks_store c past bytes done sent true e write behind long = known c past refl (write, behind, long)
asks_store c past bytes done sent false e write behind long = absurd (cc)

asks_flush : (c : Command) (past bytes : List ℕ) (done sent : ℕ) (b : Bool) → b ≡ true → c.write ≡ true → length past ≡ whole c
    → c.lasting ≡ true → Agrees c (at c done bytes sent Flushing) (write_ledger past false past None b false)
asks_flush c past bytes done sent true e write long lasting = known c past refl (write, long, lasting)
asks_flush c past bytes done sent false e write long lasting = absurd (cc)

over_step : (c : Command) (done : ℕ) (bytes : List ℕ) (sent : ℕ) (stage : Stage) (i : Input) → is_over stage ≡ true
    → is_over (after (at c done bytes sent stage) i).stage ≡ true
over_step c done bytes sent Fail i over = search rules
over_step c done bytes sent Ended i over = search rules
over_step c done bytes sent stage i over = absurd (cc)

step : (c : Command) (past : List ℕ) (done : ℕ) (bytes : List ℕ) (sent : ℕ) (stage : Stage) (i : Input)
    → Facts c past done bytes sent stage
    → Agrees c (after (at c done bytes sent stage) i)
    (entered c (ledger_of c past done bytes sent stage) (happening (at c done bytes sent stage) i))
step c past done bytes sent Waiting Goes facts = begin c past bytes done sent facts.2 facts.1 facts.3 facts.4
step c past done bytes sent Load Goes facts =
    asks_load c past bytes done sent _ (behind_is c past done facts.1.0) facts.0 facts.1 facts.2
step c past done bytes sent Loading (Loads given) facts = loads c past bytes given done sent _ refl facts.0 facts.1 facts.2
step c past done bytes sent Loading Fails facts = inl refl
step c past done bytes sent SetUpWrite Goes facts =
    set_up_writes c past bytes done sent c.write c.auto_activate facts.0 facts.0 facts.1 facts.2
step c past done bytes sent SetUpRead Goes facts =
    known c past (set_up_reads c.write c.auto_activate _ _ facts.0 ∙ ap (read_ledger (past ++ bytes) None) (none_sent past bytes sent facts.4))
    (facts.0, facts.1, facts.2, facts.3, omega (arith, facts.4))
step c past done bytes sent Sending Goes facts =
    let n = chunk c (length bytes - sent) in
    let is : (past ++ take sent bytes) ++ take n (drop sent bytes) ≡ past ++ take (sent + n) bytes =
    append_assoc past (take sent bytes) (take n (drop sent bytes)) ∙ ap (λ x. past ++ x) (sym (take-add sent n bytes)) in
    rw is (sends c past bytes done (sent + n) _ refl facts.0 facts.1 facts.2 facts.3)
step c past done bytes sent Receiving (Comes part) facts = comes c past bytes part done sent _ refl facts.0 facts.1 facts.2
step c past done bytes sent Store Goes facts =
    asks_store c past bytes done sent _ (behind_is c past done facts.1.0) facts.0 facts.1 facts.2
step c past done bytes sent Storing Stores facts = stores c past bytes done facts.0 facts.1 facts.2
step c past done bytes sent Storing Fails facts = inl refl
step c past done bytes sent Flush Goes facts = asks_flush c past bytes done sent _ (eq-eqb _ _ facts.1) facts.0 facts.1 facts.2
step c past done bytes sent Flushing Flushes facts =
    known c past (sym (ap (end_ledger c past) facts.0 ∙ ap (λ l. write_ledger past false past None l l) facts.2)) facts.1
step c past done bytes sent Flushing Fails facts = inl refl
step c past done bytes sent End i facts = ends c past bytes done sent _ refl facts i
step c past done bytes sent Fail i facts = inl (over_step c done bytes sent Fail i refl)
step c past done bytes sent Ended i facts = inl (over_step c done bytes sent Ended i refl)
step c past done bytes sent stage Goes facts = known c past refl facts
step c past done bytes sent stage i facts = known c past refl facts

pub agrees_after : (c : Command) (done : ℕ) (bytes : List ℕ) (sent : ℕ) (stage : Stage) (i : Input) (l : Ledger)
    → Agrees c (at c done bytes sent stage) l
    → Agrees c (after (at c done bytes sent stage) i) (entered c l (happening (at c done bytes sent stage) i))
agrees_after c done bytes sent stage i l (inl over) = inl (over_step c done bytes sent stage i over)
agrees_after c done bytes sent stage i l (inr k) = rw k.is (step c k.past done bytes sent stage i k.facts)

-- ## What is earned

at_end : (c : Command) (past : List ℕ) (b : Bool) → length past ≡ whole c → IsEarned c (end_ledger c past b) b
at_end c past false long = record { bytes = λ is. moved_all c past is; all = long }
at_end c past true long = record { bytes = refl; all = long; flushed = λ e. e }

at_data : (past bytes : List ℕ) (sent n : ℕ)
    → IsLoaded (read_ledger (past ++ bytes) None (past ++ take sent bytes)) (take n (drop sent bytes))
at_data past bytes sent n = record {
  rest = drop (sent + n) bytes;
  is = sym (ap (λ x. x ++ drop (sent + n) bytes) (append_assoc past (take sent bytes) (take n (drop sent bytes))
      ∙ ap (λ x. past ++ x) (sym (take-add sent n bytes)))
      ∙ append_assoc past (take (sent + n) bytes) (drop (sent + n) bytes)
      ∙ ap (λ x. past ++ x) (take-append-drop (sent + n) bytes));
}

rights : (c : Command) (past : List ℕ) (done : ℕ) (bytes : List ℕ) (sent : ℕ) (stage : Stage) (i : Input)
    → Facts c past done bytes sent stage
    → HappensRightly c (ledger_of c past done bytes sent stage) (happening (at c done bytes sent stage) i)
rights c past done bytes sent Sending Goes facts = at_data past bytes sent (chunk c (length bytes - sent))
rights c past done bytes sent End Goes facts = at_end c past c.write facts
rights c past done bytes sent stage Goes facts = tt
rights c past done bytes sent stage i facts = tt

over_rights : (c : Command) (done : ℕ) (bytes : List ℕ) (sent : ℕ) (stage : Stage) (i : Input) (l : Ledger) → is_over stage ≡ true
    → HappensRightly c l (happening (at c done bytes sent stage) i)
over_rights c done bytes sent Fail Goes l over = tt
over_rights c done bytes sent Ended Goes l over = tt
over_rights c done bytes sent stage Goes l over = absurd (cc)
over_rights c done bytes sent stage i l over = tt

pub rights_agreed : (c : Command) (done : ℕ) (bytes : List ℕ) (sent : ℕ) (stage : Stage) (i : Input) (l : Ledger)
    → Agrees c (at c done bytes sent stage) l → HappensRightly c l (happening (at c done bytes sent stage) i)
rights_agreed c done bytes sent stage i l (inl over) = over_rights c done bytes sent stage i l over
rights_agreed c done bytes sent stage i l (inr k) = rw k.is (rights c k.past done bytes sent stage i k.facts)

either_command : (c : Command) (b : Bool) (x y : Moment) → x.command ≡ c → y.command ≡ c → (if b then x else y).command ≡ c
either_command c true x y e f = e
either_command c false x y e f = f

pub same_command : (c : Command) (done : ℕ) (bytes : List ℕ) (sent : ℕ) (stage : Stage) (i : Input)
    → (after (at c done bytes sent stage) i).command ≡ c
same_command c done bytes sent Loading (Loads given) = either_command c _ _ _ (either_command c _ _ _ refl refl) refl
same_command c done bytes sent Receiving (Comes part) = either_command c _ _ _ refl refl
same_command c done bytes sent Sending Goes = either_command c _ _ _ refl refl
same_command c done bytes sent stage Goes = search rules
same_command c done bytes sent stage i = search rules

runs : (c : Command) (inputs : List Input) (done : ℕ) (bytes : List ℕ) (sent : ℕ) (stage : Stage) (l : Ledger)
    → Agrees c (at c done bytes sent stage) l → Earned c l (account (at c done bytes sent stage) inputs)
unfolding account
runs c [] done bytes sent stage l agrees = tt
runs c (i ∷ later) done bytes sent stage l agrees =
    let m = after (at c done bytes sent stage) i in
    let h = happening (at c done bytes sent stage) i in
    let next = runs c later m.done m.bytes m.sent m.stage (entered c l h) (agrees_after c done bytes sent stage i l agrees) in
    let same = ap (λ k. at k m.done m.bytes m.sent m.stage) (same_command c done bytes sent stage i) in
    (rights_agreed c done bytes sent stage i l agrees, rw same next)

pub begins : (c : Command) → IsCommand c → Agrees c (opening c) blank
begins c is = known c [] refl (refl, refl, refl, refl, is.some)

pub ends_are_earned : EndsAreEarned
ends_are_earned c inputs is = runs c inputs 0 [] 0 _ blank (begins c is)

-- ## The same of a command that is known by an equation

steps_at : (c k : Command) (done : ℕ) (bytes : List ℕ) (sent : ℕ) (stage : Stage) (i : Input) (l : Ledger) → k ≡ c
    → Agrees c (at c done bytes sent stage) l
    → ((after (at k done bytes sent stage) i).command ≡ c)
    × Agrees c (after (at k done bytes sent stage) i) (entered c l (happening (at k done bytes sent stage) i))
steps_at c k done bytes sent stage i l e agrees =
    rw e (same_command c done bytes sent stage i, agrees_after c done bytes sent stage i l agrees)

pub steps : (c : Command) (m : Moment) (i : Input) (l : Ledger) → m.command ≡ c → Agrees c m l
    → ((after m i).command ≡ c) × Agrees c (after m i) (entered c l (happening m i))
steps c m i l e agrees = steps_at c m.command m.done m.bytes m.sent m.stage i l e agrees

rights_at : (c k : Command) (done : ℕ) (bytes : List ℕ) (sent : ℕ) (stage : Stage) (i : Input) (l : Ledger) → k ≡ c
    → Agrees c (at c done bytes sent stage) l → HappensRightly c l (happening (at k done bytes sent stage) i)
rights_at c k done bytes sent stage i l e agrees = rw e (rights_agreed c done bytes sent stage i l agrees)

pub rights_then : (c : Command) (m : Moment) (i : Input) (l : Ledger) → m.command ≡ c → Agrees c m l
    → HappensRightly c l (happening m i)
rights_then c m i l e agrees = rights_at c m.command m.done m.bytes m.sent m.stage i l e agrees
