-- The sectors that a read by PIO has left: its last PIO Setup FIS is that of the block that ends it.
use Rattle.std.proofs.Common.{◌≡◌, ℕ, ◌+◌, ◌-◌, ◌*◌, ◌/◌, ◌<◌, ◌≤◌, true, false, List, [], ◌++◌, length, refl, sym, ap, ◌∙◌, arith, inl, inr, subst}
use Rattle.std.proofs.lemmas.Bool.{cases_Bool, ltb-true, ltb-false, le-leb, lt-leb}
use Rattle.std.specs.Prelude.{Bool, nat_le, nat_lt, not, if◌then◌else◌, ◌&&◌}
use Rattle.block_command.specs.declared.command.{Command.Command, Protocol.{Protocol, TheVariants.{Pio, Verify}}, Stage.{Stage, TheVariants.Waiting}}
use Rattle.block_command.specs.declared.command.Stage.TheVariants.{Load, Loading, SetUpRead, Announce, Sending, SetUpWrite, Activate, Receiving}
use Rattle.block_command.specs.{declared.command.Stage.TheVariants.{Store, Storing, Flush, Flushing, End, Fail}, Moments.{Moment, data_stage}}
use Rattle.block_command.specs.{Moments.{first_data_stage, is_ended, is_verify, part_count, part_of, read_end, read_on, turn_of}, Laws.{Input, Goes}}
use Rattle.block_command.specs.Laws.{Loads, Comes, Stores, Flushes, Fails, after}
use Rattle.block_command.proofs.Door.{at}
use Rattle.block_disk.specs.Requests.{is_fis}
use Rattle.sata_disk_laws.proofs.Fits.{IsPart, IsWhole, is_pio, next_is, part_some}

abbrev pub is_sending : Stage → Bool
is_sending Sending = true
is_sending _ = false

-- the next Data FIS is the last of a read by PIO, of which so many sectors are left
abbrev pub is_last : Moment → (left : ℕ) → Bool
is_last m left = is_sending m.stage && (is_pio m.command.protocol && nat_le (left * 512) (length (part_of m)))

abbrev pub Left : Command → (left done sent : ℕ) → Type 0
Left c left done sent = is_pio c.protocol ≡ true → left * 512 + (sent + done * 512) ≡ c.count * 512

abbrev pub Counts : (left : ℕ) → Command → ℕ → ℕ → Stage → Type 0
Counts left c done sent Waiting = Left c left done sent
Counts left c done sent Load = Left c left done sent
Counts left c done sent Loading = Left c left done sent
Counts left c done sent Announce = Left c left done sent
Counts left c done sent Sending = Left c left done sent
Counts left c done sent stage = Unit {0}

abbrev pub CountsAt : ℕ → Moment → Type 0
CountsAt left m = Counts left m.command m.done m.sent m.stage

-- ## A Data FIS goes

not_both : (p : Protocol) (x : Bool) → is_pio p ≡ false → (is_pio p && x) ≡ false
not_both p x e = ap (λ b. b && x) e

data_alive : (p : Protocol) → is_ended (data_stage p) ≡ false
data_alive Pio = refl
data_alive other = refl

read_ended : (p : Protocol) → is_ended (read_end p) ≡ is_pio p
read_ended Pio = refl
read_ended other = refl

abbrev pub data_sent : Command → (done : ℕ) → List ℕ → (to : ℕ) → (more again : Bool) → Moment
data_sent c done bytes to more again = if more then at c done bytes to (data_stage c.protocol)
    else at c (done + part_count c done) [] 0 (if again then Load else read_end c.protocol)

pub and_none : (b : Bool) → (b && false) ≡ false
and_none true = refl
and_none false = refl

and_all : (b : Bool) → (b && true) ≡ b
and_all true = refl
and_all false = refl

sent_ended : (c : Command) (done : ℕ) (bytes : List ℕ) (to : ℕ) (more again : Bool)
    → is_ended (data_sent c done bytes to more again).stage ≡ (is_pio c.protocol && (not more && not again))
sent_ended c done bytes to true again = data_alive c.protocol ∙ sym (and_none (is_pio c.protocol))
sent_ended c done bytes to false true = sym (and_none (is_pio c.protocol))
sent_ended c done bytes to false false = read_ended c.protocol ∙ sym (and_all (is_pio c.protocol))

-- nothing is left behind this one
last_case : (c : Command) (done : ℕ) (bytes : List ℕ) (sent left n : ℕ) (w : IsPart c done bytes sent) (more again : Bool)
    → nat_lt (sent + n * 512) (length bytes) ≡ more → nat_lt (done + part_count c done) c.count ≡ again
    → left * 512 + (sent + done * 512) ≡ c.count * 512 → w.gone + n ≤ part_count c done
    → nat_le (left * 512) (n * 512) ≡ (not more && not again)
last_case c done bytes sent left n w true again e f counts within =
    let low = ltb-true (sent + n * 512) (length bytes) e in let all = w.all in let some = (part_some c done w.more).1 in
    lt-leb (left * 512) (n * 512) (omega (arith, counts, low, all, some))
last_case c done bytes sent left n w false true e f counts within =
    let again = ltb-true (done + part_count c done) c.count f in let at' = w.sectors in
    lt-leb (left * 512) (n * 512) (omega (arith, counts, again, within, at'))
last_case c done bytes sent left n w false false e f counts within =
    let over = ltb-false (done + part_count c done) c.count f in let high = ltb-false (sent + n * 512) (length bytes) e in
    let all = w.all in
    le-leb (left * 512) (n * 512) (omega (arith, counts, over, high, all))

pio_case : (c : Command) (x y : Bool) → (is_pio c.protocol ≡ true → x ≡ y) → (is_pio c.protocol && x) ≡ (is_pio c.protocol && y)
pio_case c x y same = elim (cases_Bool (is_pio c.protocol)) [
  | inl e ↦ ap (λ b. is_pio c.protocol && b) (same e)
  | inr e ↦ not_both c.protocol x e ∙ sym (not_both c.protocol y e)
]

-- a Data FIS ends its command exactly where it is the last of a read by PIO
pub last_ends : (c : Command) (done : ℕ) (bytes : List ℕ) (sent left : ℕ) → IsWhole c → (p : IsPart c done bytes sent) → Left c left done sent
    → is_ended (after (at c done bytes sent Sending) Goes).stage ≡ is_last (at c done bytes sent Sending) left
last_ends c done bytes sent left w p counts =
    let n = next_is c done bytes sent w p in
    sent_ended c done bytes _ _ _
    ∙ pio_case c _ _ (λ e. sym (ap (λ k. nat_le (left * 512) k) n.carried
    ∙ last_case c done bytes sent left n.sectors p _ _ (ap (λ k. nat_lt (sent + k) (length bytes)) (sym n.long)) refl (counts e) n.within))

-- ## What is left after it

sent_counts : (c : Command) (done : ℕ) (bytes : List ℕ) (sent left n : ℕ) (w : IsPart c done bytes sent) (more again : Bool)
    → nat_lt (sent + n * 512) (length bytes) ≡ more → nat_lt (done + part_count c done) c.count ≡ again
    → Left c left done sent → w.gone + n ≤ part_count c done
    → CountsAt (left - n) (data_sent c done bytes (sent + n * 512) more again)
sent_counts c done bytes sent left n w true again e f counts within = stays c.protocol
  where
    stays : (p : Protocol) → Counts (left - n) c done (sent + n * 512) (data_stage p)
    stays Pio = λ is. let all = counts is in let at' = w.sectors in let some = (part_some c done w.more).1 in omega (arith, all, within, at', some)
    stays other = λ is. let all = counts is in let at' = w.sectors in let some = (part_some c done w.more).1 in omega (arith, all, within, at', some)
sent_counts c done bytes sent left n w false true e f counts within =
    λ is. let all = counts is in let at' = w.sectors in let some = (part_some c done w.more).1 in
    let high = ltb-false (sent + n * 512) (length bytes) e in let long = w.all in omega (arith, all, within, at', some, high, long)
sent_counts c done bytes sent left n w false false e f counts within = over c.protocol
  where
    over : (p : Protocol) → Counts (left - n) c (done + part_count c done) 0 (read_end p)
    over Pio = tt
    over other = tt

div_512 : (n : ℕ) → n * 512 / 512 ≡ n
div_512 n = omega arith

pub sending_counts : (c : Command) (done : ℕ) (bytes : List ℕ) (sent left : ℕ) → IsWhole c → (p : IsPart c done bytes sent) → Left c left done sent
    → CountsAt (left - length (part_of (at c done bytes sent Sending)) / 512) (after (at c done bytes sent Sending) Goes)
sending_counts c done bytes sent left w p counts =
    let n = next_is c done bytes sent w p in
    let P : ℕ → Type 0 = λ k. CountsAt (left - length (part_of (at c done bytes sent Sending)) / 512) (data_sent c done bytes (sent + k) (nat_lt (sent + k) (length bytes)) (nat_lt (done + part_count c done) c.count)) in
    let Q : ℕ → Type 0 = λ k. CountsAt (left - k) (data_sent c done bytes (sent + n.sectors * 512) (nat_lt (sent + n.sectors * 512) (length bytes)) (nat_lt (done + part_count c done) c.count)) in
    subst P (sym n.long) (subst Q (sym (ap (λ k. k / 512) n.carried ∙ div_512 n.sectors))
    (sent_counts c done bytes sent left n.sectors p _ _ refl refl counts n.within))

-- Data have some sectors, at most 16
pub record IsSome (n : ℕ) : Type 0 where
  pub sectors : ℕ
  pub is : n ≡ sectors * 512
  pub some : 0 < sectors
  pub most : sectors ≤ 16

pub part_some_sectors : (c : Command) (done : ℕ) (bytes : List ℕ) (sent : ℕ) → IsWhole c → IsPart c done bytes sent
    → IsSome (length (part_of (at c done bytes sent Sending)))
part_some_sectors c done bytes sent w p =
    let n = next_is c done bytes sent w p in record { sectors = n.sectors; is = n.carried; some = n.some; most = n.most }

data_last : (c : Command) (done : ℕ) (bytes : List ℕ) (sent left : ℕ) (p : Protocol) → c.protocol ≡ p → is_last (at c done bytes sent (data_stage p)) left ≡ false
data_last c done bytes sent left Pio e = refl
data_last c done bytes sent left other e = not_both c.protocol _ (ap is_pio e)

end_last : (c : Command) (done : ℕ) (bytes : List ℕ) (sent left : ℕ) (p : Protocol) → is_last (at c done bytes sent (read_end p)) left ≡ false
end_last c done bytes sent left Pio = refl
end_last c done bytes sent left other = refl

sent_last : (c : Command) (done : ℕ) (bytes : List ℕ) (to left : ℕ) (more again : Bool) → is_last (data_sent c done bytes to more again) left ≡ false
sent_last c done bytes to left true again = data_last c done bytes to left c.protocol refl
sent_last c done bytes to left false true = refl
sent_last c done bytes to left false false = end_last c (done + part_count c done) [] 0 left c.protocol

pub sending_last : (c : Command) (done : ℕ) (bytes : List ℕ) (sent left : ℕ) → is_last (after (at c done bytes sent Sending) Goes) left ≡ false
sending_last c done bytes sent left = sent_last c done bytes _ left _ _

-- ## What is no FIS

abbrev pub is_quiet : Stage → Input → Bool
is_quiet stage Goes = not (is_fis (turn_of stage))
is_quiet stage i = true

started_ended : (w q : Bool) → is_ended (if w then (if q then SetUpWrite else Activate) else Load) ≡ false
started_ended true true = refl
started_ended true false = refl
started_ended false q = refl

either_stage : (b : Bool) (x y : Stage) → is_ended x ≡ false → is_ended y ≡ false → is_ended (if b then x else y) ≡ false
either_stage true x y e f = e
either_stage false x y e f = f

verify_end : (p : Protocol) → is_verify p ≡ true → is_ended (read_end p) ≡ false
verify_end Verify e = refl
verify_end other e = absurd (cc)

loaded_ended : (c : Command) (done : ℕ) (bytes old : List ℕ) (sent : ℕ) (b d : Bool) → is_verify c.protocol ≡ d
    → is_ended (if b then (if d then read_on (at c done old sent Loading) (done + part_count c done)
    else at c done bytes sent (first_data_stage c.protocol done)) else at c done old sent Loading).stage ≡ false
loaded_ended c done bytes old sent false d e = refl
loaded_ended c done bytes old sent true true e = either_stage _ Load (read_end c.protocol) refl (verify_end c.protocol e)
loaded_ended c done bytes old sent true false e = either_stage _ SetUpRead (data_stage c.protocol) refl (data_alive c.protocol)

came_ended : (c : Command) (done : ℕ) (bytes old : List ℕ) (sent : ℕ) (b d : Bool)
    → is_ended (if b then at c done old sent Fail else at c done bytes sent (if d then Activate else Store)).stage ≡ false
came_ended c done bytes old sent true d = refl
came_ended c done bytes old sent false true = refl
came_ended c done bytes old sent false false = refl

pub quiet_ended : (c : Command) (done : ℕ) (bytes : List ℕ) (sent : ℕ) (stage : Stage) (i : Input) → is_quiet stage i ≡ true
    → is_ended (after (at c done bytes sent stage) i).stage ≡ is_ended stage
quiet_ended c done bytes sent Waiting Goes q = started_ended c.write _
quiet_ended c done bytes sent Loading (Loads given) q = loaded_ended c done given bytes sent _ _ refl
quiet_ended c done bytes sent Receiving (Comes part) q = came_ended c done (bytes ++ part) bytes sent _ _
quiet_ended c done bytes sent Storing Stores q = either_stage _ Activate _ refl (either_stage c.lasting Flush End refl refl)
quiet_ended c done bytes sent stage Goes q = cc
quiet_ended c done bytes sent stage i q = refl

-- ## What is left, and what is last, stay

started_counts : (c : Command) (done sent left : ℕ) (w q : Bool) → Left c left done sent
    → Counts left c done sent (if w then (if q then SetUpWrite else Activate) else Load)
started_counts c done sent left true true counts = tt
started_counts c done sent left true false counts = tt
started_counts c done sent left false q counts = counts

data_counts : (c : Command) (done sent left : ℕ) (p : Protocol) → Left c left done sent → Counts left c done sent (data_stage p)
data_counts c done sent left Pio counts = counts
data_counts c done sent left other counts = counts

first_counts : (c : Command) (done sent left : ℕ) (b : Bool) → Left c left done sent → Counts left c done sent (if b then SetUpRead else data_stage c.protocol)
first_counts c done sent left true counts = tt
first_counts c done sent left false counts = data_counts c done sent left c.protocol counts

verify_pio : (p : Protocol) → is_verify p ≡ true → is_pio p ≡ true → ⊥
verify_pio Verify e f = cc
verify_pio other e f = cc

verify_counts : (c : Command) (done left : ℕ) (b : Bool) → is_verify c.protocol ≡ true → Counts left c done 0 (if b then Load else read_end c.protocol)
verify_counts c done left true e = λ f. absurd (verify_pio c.protocol e f)
verify_counts c done left false e = over c.protocol
  where
    over : (p : Protocol) → Counts left c done 0 (read_end p)
    over Pio = tt
    over other = tt

loaded_counts : (c : Command) (done : ℕ) (bytes old : List ℕ) (sent left : ℕ) (b d : Bool) → is_verify c.protocol ≡ d → Left c left done sent
    → CountsAt left (if b then (if d then read_on (at c done old sent Loading) (done + part_count c done)
    else at c done bytes sent (first_data_stage c.protocol done)) else at c done old sent Loading)
loaded_counts c done bytes old sent left false d e counts = counts
loaded_counts c done bytes old sent left true true e counts = verify_counts c (done + part_count c done) left _ e
loaded_counts c done bytes old sent left true false e counts = first_counts c done sent left _ counts

came_counts : (c : Command) (done : ℕ) (bytes old : List ℕ) (sent left : ℕ) (b d : Bool)
    → CountsAt left (if b then at c done old sent Fail else at c done bytes sent (if d then Activate else Store))
came_counts c done bytes old sent left true d = tt
came_counts c done bytes old sent left false true = tt
came_counts c done bytes old sent left false false = tt

stored_counts : (c : Command) (done left : ℕ) (b d : Bool) → CountsAt left (at c done [] 0 (if b then Activate else (if d then Flush else End)))
stored_counts c done left true d = tt
stored_counts c done left false true = tt
stored_counts c done left false false = tt

pub quiet_counts : (c : Command) (done : ℕ) (bytes : List ℕ) (sent left : ℕ) (stage : Stage) (i : Input) → is_quiet stage i ≡ true
    → Counts left c done sent stage → CountsAt left (after (at c done bytes sent stage) i)
quiet_counts c done bytes sent left Waiting Goes q counts = started_counts c done sent left c.write _ counts
quiet_counts c done bytes sent left Load Goes q counts = counts
quiet_counts c done bytes sent left Store Goes q counts = tt
quiet_counts c done bytes sent left Flush Goes q counts = tt
quiet_counts c done bytes sent left Loading (Loads given) q counts = loaded_counts c done given bytes sent left _ (is_verify c.protocol) refl counts
quiet_counts c done bytes sent left Loading Fails q counts = tt
quiet_counts c done bytes sent left Storing Fails q counts = tt
quiet_counts c done bytes sent left Flushing Fails q counts = tt
quiet_counts c done bytes sent left Receiving (Comes part) q counts = came_counts c done (bytes ++ part) bytes sent left _ _
quiet_counts c done bytes sent left Storing Stores q counts = stored_counts c _ left _ c.lasting
quiet_counts c done bytes sent left Flushing Flushes q counts = tt
quiet_counts c done bytes sent left SetUpRead Goes q counts = absurd (cc)
quiet_counts c done bytes sent left Announce Goes q counts = absurd (cc)
quiet_counts c done bytes sent left Sending Goes q counts = absurd (cc)
quiet_counts c done bytes sent left SetUpWrite Goes q counts = absurd (cc)
quiet_counts c done bytes sent left Activate Goes q counts = absurd (cc)
quiet_counts c done bytes sent left End Goes q counts = absurd (cc)
quiet_counts c done bytes sent left Fail Goes q counts = absurd (cc)
quiet_counts c done bytes sent left stage Goes q counts = counts
quiet_counts c done bytes sent left stage i q counts = counts

started_last : (c : Command) (done : ℕ) (bytes : List ℕ) (sent left : ℕ) (w q : Bool)
    → is_last (at c done bytes sent (if w then (if q then SetUpWrite else Activate) else Load)) left ≡ false
started_last c done bytes sent left true true = refl
started_last c done bytes sent left true false = refl
started_last c done bytes sent left false q = refl

read_last : (c : Command) (done left : ℕ) (b : Bool) → is_last (at c done [] 0 (if b then Load else read_end c.protocol)) left ≡ false
read_last c done left true = refl
read_last c done left false = end_last c done [] 0 left c.protocol

first_last : (c : Command) (done : ℕ) (bytes : List ℕ) (sent left : ℕ) (b : Bool)
    → is_last (at c done bytes sent (if b then SetUpRead else data_stage c.protocol)) left ≡ false
first_last c done bytes sent left true = refl
first_last c done bytes sent left false = data_last c done bytes sent left c.protocol refl

loaded_last : (c : Command) (done : ℕ) (bytes old : List ℕ) (sent left : ℕ) (b d : Bool)
    → is_last (if b then (if d then read_on (at c done old sent Loading) (done + part_count c done)
    else at c done bytes sent (first_data_stage c.protocol done)) else at c done old sent Loading) left ≡ false
loaded_last c done bytes old sent left false d = refl
loaded_last c done bytes old sent left true true = read_last c (done + part_count c done) left _
loaded_last c done bytes old sent left true false = first_last c done bytes sent left _

came_last : (c : Command) (done : ℕ) (bytes old : List ℕ) (sent left : ℕ) (b d : Bool)
    → is_last (if b then at c done old sent Fail else at c done bytes sent (if d then Activate else Store)) left ≡ false
came_last c done bytes old sent left true d = refl
came_last c done bytes old sent left false true = refl
came_last c done bytes old sent left false false = refl

stored_last : (c : Command) (done left : ℕ) (b d : Bool) → is_last (at c done [] 0 (if b then Activate else (if d then Flush else End))) left ≡ false
stored_last c done left true d = refl
stored_last c done left false true = refl
stored_last c done left false false = refl

pub quiet_last : (c : Command) (done : ℕ) (bytes : List ℕ) (sent left : ℕ) (stage : Stage) (i : Input) → is_quiet stage i ≡ true
    → is_last (after (at c done bytes sent stage) i) left ≡ is_last (at c done bytes sent stage) left
quiet_last c done bytes sent left Waiting Goes q = started_last c done bytes sent left c.write _
quiet_last c done bytes sent left Loading (Loads given) q = loaded_last c done given bytes sent left _ (is_verify c.protocol)
quiet_last c done bytes sent left Receiving (Comes part) q = came_last c done (bytes ++ part) bytes sent left _ _
quiet_last c done bytes sent left Storing Stores q = stored_last c (done + part_count c done) left _ c.lasting
quiet_last c done bytes sent left Announce Goes q = absurd (cc)
quiet_last c done bytes sent left Sending Goes q = absurd (cc)
quiet_last c done bytes sent left SetUpRead Goes q = absurd (cc)
quiet_last c done bytes sent left SetUpWrite Goes q = absurd (cc)
quiet_last c done bytes sent left stage Goes q = refl
quiet_last c done bytes sent left stage i q = refl
