-- What one command does, and does not, to what its page keeps.
use Rattle.std.proofs.Common.{◌≡◌, ℕ, ◌+◌, ◌-◌, ◌*◌, ◌<◌, ◌≤◌, true, false, List, ◌++◌, length, Some, None, refl, ap, ◌∙◌, arith, rules, inl, inr}
use Rattle.std.proofs.{Common.subst, lemmas.Bool.{ltb-false}}
use Rattle.std.specs.Prelude.{Option, Bool, nat_lt, ◌&&◌, ◌==◌, if◌then◌else◌}
use Rattle.block_command.specs.declared.command.{Command.Command, Protocol.{Protocol, TheVariants.Pio}, Stage.{Stage, TheVariants.{Waiting, Load}}}
use Rattle.block_command.specs.declared.command.Stage.TheVariants.{Loading, SetUpRead, Announce, Sending, SetUpWrite, Activate, Receiving, Store}
use Rattle.block_command.specs.{declared.command.{Stage.TheVariants.{Storing, Flush, Flushing, End, Fail, Ended}, Turn.Turn}, Moments.{Moment, chunk}}
use Rattle.block_command.specs.Moments.{data_stage, first_data_stage, is_ended, is_queued, is_storing, is_verify, part_count, part_len, read_end}
use Rattle.block_command.specs.{Moments.{read_on, sent_to, with_part, with_sectors, runs, set_up_stage, started, turn_of, whole}, Laws.{Input, Goes}}
use Rattle.block_command.specs.Laws.{Comes, Loads, Stores, Happening, IsEarned, Ledger, Stored, Loaded, SentSetUp, CameData, Flushed, after, entered}
use Rattle.block_command.specs.Laws.{given_to, shown}
use Rattle.block_command.proofs.Door.{Agrees, at, rights_then}
use Rattle.block_disk.specs.Requests.{is_request}

-- it has failed or has ended
abbrev pub is_over : Stage → Bool
is_over Fail = true
is_over Ended = true
is_over _ = false

over_step : (c : Command) (done : ℕ) (bytes : List ℕ) (sent : ℕ) (stage : Stage) (i : Input) → is_over stage ≡ true
    → is_over (after (at c done bytes sent stage) i).stage ≡ true
over_step c done bytes sent Fail i over = search rules
over_step c done bytes sent Ended i over = search rules
over_step c done bytes sent stage i over = absurd (cc)

not_over : (a b : Bool) → (a ≡ true → b ≡ true) → b ≡ false → a ≡ false
not_over false b f e = refl
not_over true b f e = absurd (let g = f refl in cc)

pub over_before : (m : Moment) (i : Input) → is_over (after m i).stage ≡ false → is_over m.stage ≡ false
over_before m i e = not_over (is_over m.stage) _ (over_step m.command m.done m.bytes m.sent m.stage i) e

pub alive_of : (stage : Stage) → is_over stage ≡ false → is_ended stage ≡ false
alive_of Ended e = absurd (cc)
alive_of stage e = refl

-- ## What is kept

abbrev pub is_stored : Happening → Bool
is_stored Stored = true
is_stored _ = false

given_case : (l : Ledger) (n : ℕ) (bytes : List ℕ) (b : Bool) → (if b then record l { given = l.given ++ bytes; wanting = None } else l).kept ≡ l.kept
given_case l n bytes true = refl
given_case l n bytes false = refl

given_kept : (l : Ledger) (w : Option ℕ) (bytes : List ℕ) → (given_to l w bytes).kept ≡ l.kept
given_kept l None bytes = refl
given_kept l (Some n) bytes = given_case l n bytes _

active_case : (l : Ledger) (b : Bool) → (if b then record l { active = true } else l).kept ≡ l.kept
active_case l true = refl
active_case l false = refl

came_case : (l : Ledger) (part : List ℕ) (b : Bool) → (if b then record l { came = l.came ++ part; active = false } else l).kept ≡ l.kept
came_case l part true = refl
came_case l part false = refl

flushed_case : (l : Ledger) (b : Bool) → (if b then record l { flushed = true } else l).kept ≡ l.kept
flushed_case l true = refl
flushed_case l false = refl

-- only the answer to a store changes what is kept
pub same_kept : (c : Command) (l : Ledger) (h : Happening) → is_stored h ≡ false → (entered c l h).kept ≡ l.kept
same_kept c l Stored e = absurd (cc)
same_kept c l (Loaded bytes) e = given_kept l l.wanting bytes
same_kept c l SentSetUp e = active_case l _
same_kept c l (CameData part) e = came_case l part l.active
same_kept c l Flushed e = flushed_case l l.flushing
same_kept c l h e = refl

pub goes_not_stored : (m : Moment) (t : Turn) → is_stored (shown m t) ≡ false
goes_not_stored m t = search rules

-- ## When it waits for the answer to a store

not_storing : (b : Bool) (x y : Stage) → is_storing x ≡ false → is_storing y ≡ false → is_storing (if b then x else y) ≡ false
not_storing true x y e f = e
not_storing false x y e f = f

data_not : (p : Protocol) → is_storing (data_stage p) ≡ false
data_not Pio = refl
data_not other = refl

end_not : (p : Protocol) → is_storing (read_end p) ≡ false
end_not Pio = refl
end_not other = refl

read_on_not : (m : Moment) (done : ℕ) → is_storing (read_on m done).stage ≡ false
read_on_not m done = not_storing (nat_lt done m.command.count) Load (read_end m.command.protocol) refl (end_not m.command.protocol)

sent_not : (m : Moment) (to : ℕ) (b : Bool)
    → is_storing (if b then record m { sent = to; stage = data_stage m.command.protocol } else read_on m (m.done + part_count m.command m.done)).stage ≡ false
sent_not m to true = data_not m.command.protocol
sent_not m to false = read_on_not m (m.done + part_count m.command m.done)

came_not : (m : Moment) (part : List ℕ) (b : Bool) → is_storing (if b then record m { stage = Fail } else with_part m (m.bytes ++ part)).stage ≡ false
came_not m part true = refl
came_not m part false = not_storing (nat_lt (length (m.bytes ++ part)) (part_len m.command m.done)) Activate Store refl refl

verify_not : (m : Moment) (given : List ℕ) (v : Bool)
    → is_storing (if v then read_on m (m.done + part_count m.command m.done)
    else record m { bytes = given; stage = first_data_stage m.command.protocol m.done }).stage ≡ false
verify_not m given true = read_on_not m (m.done + part_count m.command m.done)
verify_not m given false =
    not_storing (is_queued m.command.protocol && (m.done == 0)) SetUpRead (data_stage m.command.protocol) refl (data_not m.command.protocol)

given_not : (m : Moment) (given : List ℕ) (b : Bool) → is_storing m.stage ≡ false → is_storing (if b then with_sectors m given else m).stage ≡ false
given_not m given true e = verify_not m given (is_verify m.command.protocol)
given_not m given false e = e

pub loaded_not : (c : Command) (done : ℕ) (bytes : List ℕ) (sent : ℕ) (given : List ℕ) → is_storing (after (at c done bytes sent Loading) (Loads given)).stage ≡ false
loaded_not c done bytes sent given = given_not (at c done bytes sent Loading) given (length given == part_len c done) refl

pub done_not : (c : Command) (done : ℕ) (bytes : List ℕ) (sent : ℕ) → is_storing (after (at c done bytes sent Storing) Stores).stage ≡ false
done_not c done bytes sent =
    not_storing (nat_lt (done + part_count c done) c.count) Activate (if c.lasting then Flush else End) refl (not_storing c.lasting Flush End refl refl)

by_false : (b : Bool) → b ≡ false → b ≡ true → (P : Type 0) → P
by_false b e f P = absurd (cc)

-- what is sent, or started, leaves a store that is out as it is
pub goes_storing : (c : Command) (done : ℕ) (bytes : List ℕ) (sent : ℕ) (stage : Stage) → is_request (turn_of stage) ≡ false
    → is_storing (after (at c done bytes sent stage) Goes).stage ≡ true → after (at c done bytes sent stage) Goes ≡ at c done bytes sent stage
goes_storing c done bytes sent Waiting e f = by_false (is_storing (started c)) (not_storing c.write _ _ (not_storing (is_queued c.protocol) _ _ refl refl) refl) f _
goes_storing c done bytes sent Sending e f =
    let m : Moment = at c done bytes sent Sending in
    let to : ℕ = sent + chunk c (length bytes - sent) in
    by_false (is_storing (sent_to m to).stage) (sent_not m to (nat_lt to (length bytes))) f _
goes_storing c done bytes sent SetUpWrite e f = by_false (is_storing (set_up_stage c)) (not_storing c.auto_activate _ _ refl refl) f _
goes_storing c done bytes sent Loading e f = refl
goes_storing c done bytes sent Receiving e f = refl
goes_storing c done bytes sent Storing e f = refl
goes_storing c done bytes sent Flushing e f = refl
goes_storing c done bytes sent Ended e f = refl
goes_storing c done bytes sent stage e f = absurd (cc)

-- and so do Data that come
pub comes_storing : (c : Command) (done : ℕ) (bytes : List ℕ) (sent : ℕ) (stage : Stage) (part : List ℕ)
    → is_storing (after (at c done bytes sent stage) (Comes part)).stage ≡ true → after (at c done bytes sent stage) (Comes part) ≡ at c done bytes sent stage
comes_storing c done bytes sent Receiving part f =
    let m : Moment = at c done bytes sent Receiving in
    by_false (is_storing (after m (Comes part)).stage) (came_not m part (nat_lt (chunk c (part_len c done - length bytes)) (length part))) f _
comes_storing c done bytes sent stage part f = refl

-- ## A write that has stored, or stores

part_case : (n : ℕ) (b : Bool) → nat_lt n 2048 ≡ b → (if b then n else 2048) ≤ n
part_case n true e = omega arith
part_case n false e = ltb-false _ _ e

pub part_below : (c : Command) (done : ℕ) → part_count c done ≤ c.count - done
part_below c done = part_case (c.count - done) _ refl

-- it runs, and what it stored lies within it
pub record Runs (c : Command) (stage : Stage) (kept : List ℕ) : Type 0 where
  pub runs : runs stage ≡ true
  pub most : length kept ≤ c.count * 512

all_kept : (c : Command) (l : Ledger) → c.write ≡ true → IsEarned c l c.write → length l.kept ≡ whole c
all_kept c l write earned = let e = subst (λ b. IsEarned c l b) write earned in ap length e.bytes ∙ e.all

at_end : (c : Command) (l : Ledger) → length l.kept ≡ whole c → Runs c End l.kept
at_end c l long = record { runs = refl; most = omega (arith, long) }

at_past : (c : Command) (stage : Stage) (kept past : List ℕ) (done : ℕ) → runs stage ≡ true → kept ≡ past → length past ≡ done * 512 → done < c.count
    → Runs c stage kept
at_past c stage kept past done run is long more = record { runs = run; most = (let same = ap length is in omega (arith, same, long, more)) }

pub write_runs : (c : Command) (done : ℕ) (bytes : List ℕ) (sent : ℕ) (stage : Stage) (l : Ledger) (n : ℕ) → Agrees c (at c done bytes sent stage) l
    → is_over stage ≡ false → c.write ≡ true → n + 512 ≤ length l.kept → Runs c stage l.kept
write_runs c done bytes sent stage l n (inl over) e write some = absurd (cc)
write_runs c done bytes sent Waiting l n (inr k) e write some = absurd (let none = ap (λ x. length x.kept) k.is in omega (arith, none, some))
write_runs c done bytes sent Load l n (inr k) e write some = absurd (let no = k.facts.0 in cc)
write_runs c done bytes sent Loading l n (inr k) e write some = absurd (let no = k.facts.0 in cc)
write_runs c done bytes sent SetUpRead l n (inr k) e write some = absurd (let no = k.facts.0 in cc)
write_runs c done bytes sent Announce l n (inr k) e write some = absurd (let no = k.facts.0 in cc)
write_runs c done bytes sent Sending l n (inr k) e write some = absurd (let no = k.facts.0 in cc)
write_runs c done bytes sent SetUpWrite l n (inr k) e write some = at_past c SetUpWrite l.kept k.past done refl (ap (λ x. x.kept) k.is) k.facts.1.0 k.facts.1.1
write_runs c done bytes sent Activate l n (inr k) e write some = at_past c Activate l.kept k.past done refl (ap (λ x. x.kept) k.is) k.facts.1.0 k.facts.1.1
write_runs c done bytes sent Receiving l n (inr k) e write some = at_past c Receiving l.kept k.past done refl (ap (λ x. x.kept) k.is) k.facts.1.0 k.facts.1.1
write_runs c done bytes sent Store l n (inr k) e write some = at_past c Store l.kept k.past done refl (ap (λ x. x.kept) k.is) k.facts.1.0 k.facts.1.1
write_runs c done bytes sent Storing l n (inr k) e write some = at_past c Storing l.kept k.past done refl (ap (λ x. x.kept) k.is) k.facts.1.0 k.facts.1.1
write_runs c done bytes sent Flush l n (inr k) e write some = record { runs = refl; most = (let same = ap (λ x. length x.kept) k.is in let long = k.facts.1 in omega (arith, same, long)) }
write_runs c done bytes sent Flushing l n (inr k) e write some = record { runs = refl; most = (let same = ap (λ x. length x.kept) k.is in let long = k.facts.1 in omega (arith, same, long)) }
write_runs c done bytes sent End l n (inr k) e write some = at_end c l (all_kept c l write (rights_then c (at c done bytes sent End) Goes l refl (inr k)))
write_runs c done bytes sent stage l n (inr k) e write some = absurd (cc)

-- a part is to be stored, or its store is out
pub record HasPart (c : Command) (done : ℕ) (bytes : List ℕ) (l : Ledger) : Type 0 where
  pub write : c.write ≡ true
  pub behind : length l.kept ≡ done * 512
  pub more : done < c.count
  pub long : length bytes ≡ part_len c done

pub store_part : (c : Command) (done : ℕ) (bytes : List ℕ) (sent : ℕ) (l : Ledger) → Agrees c (at c done bytes sent Store) l → HasPart c done bytes l
store_part c done bytes sent l (inl over) = absurd (cc)
store_part c done bytes sent l (inr k) =
    record { write = k.facts.0; behind = ap (λ x. length x.kept) k.is ∙ k.facts.1.0; more = k.facts.1.1; long = k.facts.2 }

pub record IsStoring (c : Command) (done : ℕ) (bytes : List ℕ) (l : Ledger) : Type 0 where
  pub part : HasPart c done bytes l
  pub out : l.storing ≡ Some bytes

pub storing_part : (c : Command) (done : ℕ) (bytes : List ℕ) (sent : ℕ) (l : Ledger) → Agrees c (at c done bytes sent Storing) l → IsStoring c done bytes l
storing_part c done bytes sent l (inl over) = absurd (cc)
storing_part c done bytes sent l (inr k) = record {
  part = record { write = k.facts.0; behind = ap (λ x. length x.kept) k.is ∙ k.facts.1.0; more = k.facts.1.1; long = k.facts.2 };
  out = ap (λ x. x.storing) k.is;
}
