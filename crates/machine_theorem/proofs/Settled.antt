-- A disk settles no more commands than it heard, each by a Register FIS or by the PIO Setup FIS of its last block.
use Rattle.std.proofs.Common.{◌≡◌, ◌⊎◌, ℕ, zero, suc, ◌+◌, ◌-◌, ◌≤◌, ◌&&◌, ◌||◌, Bool, true, false, not, List, [], ◌∷◌, ◌++◌, Some, refl, sym, ap}
use Rattle.std.proofs.Common.{◌∙◌, subst, arith, inl, inr, append_assoc, append-nil}
use Rattle.std.specs.Prelude.{if◌then◌else◌, Option, None, nat_lt, Result, Ok, Err}
use Rattle.fis_view.specs.{Seen.seen, declared.view.{Fis.Fis, FisFault.FisFault}}
use Rattle.fis_view.specs.declared.view.Fis.TheVariants as view
use Rattle.block_command.specs.{declared.command.{Command.Command, Stage.{Stage, TheVariants.Ended}}, Moments.Moment}
use Rattle.block_command.proofs.Door.{at as moment}
use Rattle.block_disk.specs.{Laws.Page, Table.is_under_way}
use Rattle.block_queue.specs.Line.{command_at}
use Rattle.ata_command.specs.Courses.{resets}
use Rattle.ata_reply.specs.declared.reply.Reply.{Reply}
use Rattle.ata_reply.specs.declared.reply.Reply.TheVariants as replies
use Rattle.disk_pages.specs.declared.profile.Profile.{Profile}
use Rattle.sata_disk.specs.{Hearing.is_command, Sending.{IsOut, out_at}, State.{DiskState, commands as line_of, is_taken, new_disk}}
use Rattle.sata_disk.specs.declared.{out.Out.Out, unheard.Unheard.{Unheard, TheVariants.{Busy, InReset}}}
use Rattle.sata_disk.specs.declared.out.Out.TheVariants as out
use Rattle.sata_disk_books.specs.{Books.{IsAskedFor, page_in}, LastData.{HearNoCommand, IsNoCommand, IsReadWhole, LastBlocksAreAlone}}
use Rattle.sata_disk_books.specs.LastData.{LastDataAreEarned, is_last_block, sets_up_last}
use Rattle.sata_disk_laws.specs.{Awaited.{OutsAreUnderWay, SinglesAreAwaited}, Calls.{Answers, AreCalls, Asks, Call, Hears, Plugs, Sends, Starts}}
use Rattle.sata_disk_laws.specs.{Calls.after_call, Laws.reached, Once.{AnswersAreSingle, ForAnswer, ForEnd, ForLast, ForNothing, ForSignature, Host}}
use Rattle.sata_disk_laws.specs.Once.{IsAccepted, IsDataAt, IsDue, IsOutDue, IsRefused, Wait, announced, command_given, control_given, data_got_by}
use Rattle.sata_disk_laws.specs.Once.{fis_given, host_after, host_of, is_for_data, new_host, none_open, out_got, place_in, reply_got, unheard_of}
use Rattle.sata_disk_laws.specs.Once.{waits_for_nothing}
use Rattle.sata_disk_laws.proofs.Door.{calls_both}
use Rattle.machine_theorem.specs.InTurn.{AreKeptOn, IsIdle, IsKeptOn, commands, heard_in, hears_one, is_answer, is_asking, is_register, sets_reset}
use Rattle.machine_theorem.specs.Settled.{CommandsAreSettledInTurn, IsAskedInTurn, IsBehindLastBlock, IsSettledLast, IsUnsettled, IsWholeInTurn}
use Rattle.machine_theorem.specs.{Settled.{is_data, is_settling, settled_in, settles_one}, Tags.once_if}
use Rattle.machine_theorem.proofs.{Answered.heard_both, TagAsked.{Outcome, outcome, Outcome.{Nothing, Taken}}, TagCounts.{due_at, first_calls}}
use Rattle.machine_theorem.proofs.{TagCounts.{held_of_taken, host_then, none_held, one_call_more}, TagKept.{IsNoFis, call_held, call_takes, held_at}}
use Rattle.machine_theorem.proofs.{TagKept.others_none, TagPages.page_same, Transferring.rest_calls}

pub record Laws : Type 0 where
  pub single : AnswersAreSingle
  pub awaited : SinglesAreAwaited
  pub outs : OutsAreUnderWay
  pub earned : LastDataAreEarned
  pub alone : LastBlocksAreAlone

pub settled_both : (xs ys : List Call) → settled_in (xs ++ ys) ≡ settled_in xs + settled_in ys
settled_both [] ys = omega arith
settled_both (x ∷ xs) ys = let more = settled_both xs ys in omega (arith, more)

-- ---- what a host waits for that is to be settled

abbrev is_open : Wait → Bool
is_open ForNothing = false
is_open ForLast = false
is_open w = true

abbrev busy : Host → ℕ
busy h = once_if (is_open h.waits)

busy_is : (h : Host) (w : Wait) → h.waits ≡ w → busy h ≡ once_if (is_open w)
busy_is h w e = ap (λ (v : Wait). once_if (is_open v)) e

busy_most : (h : Host) → busy h ≤ 1
busy_most h = by (is_open h.waits)
  where
    by : (b : Bool) → once_if b ≤ 1
    by true = omega arith
    by false = omega arith

free_or_last : (w : Wait) → once_if (is_open w) ≡ 0 → (w ≡ ForNothing) ⊎ (w ≡ ForLast)
free_or_last ForNothing e = inl refl
free_or_last ForLast e = inr refl
free_or_last other e = absurd (cc)

last_or_open : (w : Wait) → is_for_data w ≡ true → once_if (is_open w) ≡ 0 → w ≡ ForLast
last_or_open ForLast data' none = refl
last_or_open ForEnd data' none = absurd (cc)
last_or_open other data' none = absurd (cc)

-- the host behind a FIS of the disk
record IsOver (h k : Host) (settles : Bool) : Type 0 where
  clear : k.in_reset ≡ h.in_reset
  few : once_if settles + busy k ≤ busy h
  last : k.waits ≡ ForLast → settles ≡ false → h.waits ≡ ForLast

no_last : {C : Type 0} (w : Wait) → w ≡ ForNothing → w ≡ ForLast → C
no_last w free last = absurd (by (sym free ∙ last))
  where
    by : ForNothing ≡ ForLast → ⊥
    by e = cc

settles_it : (h k : Host) (w : Wait) → h.waits ≡ w → is_open w ≡ true → k.in_reset ≡ h.in_reset → k.waits ≡ ForNothing → IsOver h k true
settles_it h k w e stands clear free =
    let one = busy_is h w e ∙ ap once_if stands in
    let none = busy_is k ForNothing free in
    record { clear = clear; few = omega (arith, one, none); last = λ is unlike. absurd (cc) }

stays_so : (h k : Host) → k.in_reset ≡ h.in_reset → k.waits ≡ h.waits → IsOver h k false
stays_so h k clear same = let alike = busy_is k h.waits same in record { clear = clear; few = omega (arith, alike); last = λ is unlike. sym same ∙ is }

accepted_over : (h k : Host) (w : Wait) → h.waits ≡ w → IsAccepted h w → k.in_reset ≡ h.in_reset → k.waits ≡ ForNothing → IsOver h k true
accepted_over h k (ForAnswer tag) e due clear free = settles_it h k (ForAnswer tag) e refl clear free
accepted_over h k other e due clear free = absurd due

refused_over : (h k : Host) (w : Wait) → h.waits ≡ w → IsRefused h w → k.in_reset ≡ h.in_reset → k.waits ≡ ForNothing → IsOver h k true
refused_over h k (ForAnswer tag) e due clear free = settles_it h k (ForAnswer tag) e refl clear free
refused_over h k ForEnd e due clear free = settles_it h k ForEnd e refl clear free
refused_over h k other e due clear free = absurd due

announced_over : (h : Host) (b : Bool) → h.waits ≡ ForEnd → IsOver h (announced h b) b
announced_over h true e = let one = busy_is h ForEnd e in record { clear = refl; few = omega (arith, one); last = λ is unlike. absurd (cc) }
announced_over h false e = stays_so h h refl refl

abbrev settles_by : Reply → Bool
settles_by r = is_register r || is_last_block r

reply_over : (h : Host) (r : Reply) → IsDue h r → IsOver h (reply_got h r) (settles_by r)
reply_over h replies.Signature due = settles_it h _ ForSignature due refl refl refl
reply_over h replies.Accepted due = accepted_over h _ h.waits refl due refl refl
reply_over h replies.Done due = settles_it h _ ForEnd due.1 refl refl refl
reply_over h replies.Active due = settles_it h _ ForEnd due.1 refl refl refl
reply_over h replies.Healthy due = settles_it h _ ForEnd due.1 refl refl refl
reply_over h (replies.Failed f) due = refused_over h _ h.waits refl due refl refl
reply_over h (replies.Ends tags) due = stays_so h _ refl refl
reply_over h (replies.Aborts error) due = stays_so h _ refl refl
reply_over h (replies.Announce a) due = announced_over h (a.to_host && a.last) due.1
reply_over h (replies.SetUp s) due = stays_so h _ refl refl
reply_over h replies.Activate due = stays_so h _ refl refl

data_over : (h : Host) (w : Wait) → h.waits ≡ w → IsOver h (data_got_by h w) false
data_over h ForLast e = let none = busy_is h ForLast e in record { clear = refl; few = omega (arith, none); last = λ is unlike. e }
data_over h w e = stays_so h _ refl refl

out_over : (h : Host) (o : Out) → IsOutDue h o → IsOver h (out_got h o) (is_settling o)
out_over h (out.Own r) due = reply_over h r due
out_over h (out.Beside r) due = reply_over h r due
out_over h (out.Of p r) due = reply_over h r due.0
out_over h (out.Ends tags) due = stays_so h _ refl refl
out_over h (out.Page p) due = data_over h h.waits refl
out_over h (out.Data p n) due = data_over h h.waits refl

-- the host behind a FIS that it sends
record IsGiven (h k : Host) (asks : Bool) : Type 0 where
  clear : k.in_reset ≡ false
  few : busy k ≤ busy h + once_if asks
  last : k.waits ≡ ForLast → h.waits ≡ ForLast
  -- no command is taken while it waits
  stays : waits_for_nothing h.waits ≡ false → busy k ≤ busy h

taken_waits : {C : Type 0} (place : ℕ) (b : Bool) → (if b then ForAnswer place else ForEnd) ≡ ForLast → C
taken_waits place true e = absurd (cc)
taken_waits place false e = absurd (cc)

unheard_busy : (h : Host) → h.in_reset ≡ false → waits_for_nothing h.waits ≡ false → unheard_of h ≡ Some Busy
unheard_busy h clear waits =
    ap (λ (b : Bool). if b then Some InReset else (if waits_for_nothing h.waits then None else Some Busy)) clear ∙ ap (λ (b : Bool). if b then None else Some Busy) waits

command_over : (h : Host) (place : ℕ) (x : Option Unheard) → unheard_of h ≡ x → h.in_reset ≡ false → IsGiven h (command_given h place x) true
command_over h place None is clear =
    let most = busy_most (command_given h place None) in
    record {
      clear = refl;
      few = omega (arith, most);
      last = λ e. taken_waits place (nat_lt place 32) e;
      stays = λ waits. absurd (by (sym (unheard_busy h clear waits) ∙ is));
    }
  where
    by : Some Busy ≡ None → ⊥
    by e = cc
command_over h place (Some why) is clear = record { clear = clear; few = omega arith; last = λ e. e; stays = λ waits. omega arith }

same_given : (h : Host) → h.in_reset ≡ false → IsGiven h h false
same_given h clear = record { clear = clear; few = omega arith; last = λ e. e; stays = λ waits. omega arith }

control_over : (h : Host) (b : Bool) → h.in_reset ≡ b → b ≡ false → IsGiven h (if b then record { open_at = none_open; waits = ForSignature; in_reset = false } else h) false
control_over h true is e = absurd (cc)
control_over h false is e = same_given h is

register_over : (h : Host) (f : List ℕ) (b r : Bool) → h.in_reset ≡ false → (not b && r) ≡ false
    → IsGiven h (if b then command_given h (place_in f) (unheard_of h) else control_given h r) b
register_over h f true r clear calm = command_over h (place_in f) (unheard_of h) refl clear
register_over h f false true clear calm = absurd (cc)
register_over h f false false clear calm = control_over h h.in_reset refl clear

fis_over : (h : Host) (r : Result Fis FisFault) → h.in_reset ≡ false → sets_reset r ≡ false → IsGiven h (fis_given h r) (commands r)
fis_over h (Ok (view.RegH2D f)) clear calm = register_over h f (is_command f) (resets f) clear calm
fis_over h (Ok (view.RegD2H f)) clear calm = same_given h clear
fis_over h (Ok (view.SetBits f)) clear calm = same_given h clear
fis_over h (Ok (view.DmaActivate f)) clear calm = same_given h clear
fis_over h (Ok (view.DmaSetup f)) clear calm = same_given h clear
fis_over h (Ok (view.PioSetup f)) clear calm = same_given h clear
fis_over h (Ok (view.Payload f)) clear calm = same_given h clear
fis_over h (Ok (view.Unknown f)) clear calm = same_given h clear
fis_over h (Err e) clear calm = same_given h clear

-- ---- what is counted

waiting_free : (w : Wait) → waits_for_nothing w ≡ true → w ≡ ForNothing
waiting_free ForNothing e = refl
waiting_free other e = absurd (cc)

no_data : (w : Wait) → w ≡ ForNothing → is_for_data w ≡ true → ⊥
no_data w e is = by (sym (ap is_for_data e) ∙ is)
  where
    by : is_for_data ForNothing ≡ true → ⊥
    by e = cc

-- a command that sends Data is under way
alive_case : (d : DiskState) (place n : ℕ) (c : Command) (done : ℕ) (bytes : List ℕ) (sent : ℕ) (stage : Stage)
    → Some (out.Data place n) ≡ out_at d place (Some (moment c done bytes sent stage)) → is_under_way (Some (moment c done bytes sent stage)) ≡ true
alive_case d place n c done bytes sent Ended e = absurd (cc)
alive_case d place n c done bytes sent stage e = refl

data_alive : (d : DiskState) (place n : ℕ) (x : Option Moment) → Some (out.Data place n) ≡ out_at d place x → is_under_way x ≡ true
data_alive d place n None e = absurd (cc)
data_alive d place n (Some m) e = alive_case d place n m.command m.done m.bytes m.sent m.stage e

-- of the calls of a disk, those behind some
module _ (laws : Laws) (p : Profile) (limit : ℕ) (base : List Call) where
  abbrev host : List Call → Host
  host done = host_of new_host (base ++ done)

  abbrev disk : List Call → DiskState
  disk done = reached p limit (base ++ done)

  one_more : (done : List Call) (x : Call) → disk (done ++ x ∷ []) ≡ after_call (disk done) x
  one_more done x = ap (reached p limit) (sym (append_assoc base done (x ∷ []))) ∙ one_call_more p limit (base ++ done) x

  host_more : (done : List Call) (x : Call) → host (done ++ x ∷ []) ≡ host_after (host done) x
  host_more done x = ap (host_of new_host) (sym (append_assoc base done (x ∷ []))) ∙ host_then (base ++ done) x new_host

  -- a command was asked for, behind all that were settled but one; and behind all where the host waits
  record Since (done : List Call) (waiting : ℕ) (c : Command) : Type 0 where
    asked : IsAskedFor p limit (base ++ done) c
    front : List Call
    split : done ≡ front ++ Hears asked.bytes ∷ asked.later
    asks : is_asking asked.bytes ≡ true
    behind : settled_in done + waiting ≤ suc (heard_in front)

  -- a command was heard behind all that were settled, and was not settled
  record Open (done : List Call) : Type 0 where
    front : List Call
    bytes : List ℕ
    later : List Call
    split : done ≡ front ++ Hears bytes ∷ later
    asks : is_asking bytes ≡ true
    idle : IsIdle (host front)
    behind : settled_in done ≤ heard_in front
    quiet : settled_in later ≡ 0

  -- the command that was settled last
  record Last (done : List Call) : Type 0 where
    front : List Call
    bytes : List ℕ
    later : List Call
    split : done ≡ front ++ Hears bytes ∷ later
    asks : is_asking bytes ≡ true
    behind : settled_in done ≤ suc (heard_in front)

  record Counted (done : List Call) : Type 0 where
    clear : (host done).in_reset ≡ false
    fewer : settled_in done + busy (host done) ≤ heard_in done
    stands : 1 ≤ busy (host done) → Open done
    last : (host done).waits ≡ ForLast → Last done
    since : (c : Command) → held_at (line_of (disk done)) 32 ≡ Some c → Since done (busy (host done)) c

  since_more : (done : List Call) (x : Call) (before now : ℕ) (c : Command) → settles_one x + now ≤ before → Since done before c → Since (done ++ x ∷ []) now c
  since_more done x before now c few s =
      let a = s.asked in
      let all = settled_both done (x ∷ []) in
      let behind = s.behind in
      record {
        asked = record {
          before = a.before;
          bytes = a.bytes;
          later = a.later ++ x ∷ [];
          heard = sym (append_assoc base done (x ∷ [])) ∙ ap (λ (l : List Call). l ++ x ∷ []) a.heard ∙ append_assoc a.before (Hears a.bytes ∷ a.later) (x ∷ []);
          fis = a.fis;
          viewed = a.viewed;
          move = a.move;
          asks = a.asks;
          is = a.is;
        };
        front = s.front;
        split = ap (λ (l : List Call). l ++ x ∷ []) s.split ∙ append_assoc s.front (Hears a.bytes ∷ a.later) (x ∷ []);
        asks = s.asks;
        behind = omega (arith, all, few, behind);
      }

  split_more : (done front later : List Call) (bytes : List ℕ) (x : Call) → done ≡ front ++ Hears bytes ∷ later
      → done ++ x ∷ [] ≡ front ++ Hears bytes ∷ (later ++ x ∷ [])
  split_more done front later bytes x split = ap (λ (l : List Call). l ++ x ∷ []) split ∙ append_assoc front (Hears bytes ∷ later) (x ∷ [])

  open_more : (done : List Call) (x : Call) → settles_one x ≡ 0 → Open done → Open (done ++ x ∷ [])
  open_more done x none l =
      let all = settled_both done (x ∷ []) in
      let rest = settled_both l.later (x ∷ []) in
      let behind = l.behind in
      let quiet = l.quiet in
      record {
        front = l.front;
        bytes = l.bytes;
        later = l.later ++ x ∷ [];
        split = split_more done l.front l.later l.bytes x l.split;
        asks = l.asks;
        idle = l.idle;
        behind = omega (arith, all, none, behind);
        quiet = omega (arith, rest, none, quiet);
      }

  last_more : (done : List Call) (x : Call) → settles_one x ≡ 0 → Last done → Last (done ++ x ∷ [])
  last_more done x none l =
      let all = settled_both done (x ∷ []) in
      let behind = l.behind in
      record { front = l.front; bytes = l.bytes; later = l.later ++ x ∷ []; split = split_more done l.front l.later l.bytes x l.split; asks = l.asks; behind = omega (arith, all, none, behind) }

  -- it is settled by this call
  settled_now : (done : List Call) (x : Call) → settles_one x ≡ 1 → Open done → Last (done ++ x ∷ [])
  settled_now done x one l =
      let all = settled_both done (x ∷ []) in
      let behind = l.behind in
      record { front = l.front; bytes = l.bytes; later = l.later ++ x ∷ []; split = split_more done l.front l.later l.bytes x l.split; asks = l.asks; behind = omega (arith, all, one, behind) }

  -- none is under way while the host waits for nothing
  none_under : (done : List Call) → AreCalls (new_disk p limit) (base ++ done) → (host done).waits ≡ ForNothing → (c : Command)
      → held_at (line_of (disk done)) 32 ≡ Some c → ⊥
  none_under done are free c held = by (is_taken (line_of (disk done)) 32) refl
    where
      by : (b : Bool) → is_taken (line_of (disk done)) 32 ≡ b → ⊥
      by true e = no_data (host done).waits free (laws.awaited p limit (base ++ done) are e)
      by false e = none_held (command_at (line_of (disk done)) 32) c e held

  -- ---- one call

  fewer_more : (done : List Call) (x : Call) → busy (host_after (host done) x) + settles_one x ≤ busy (host done) + hears_one x
      → settled_in done + busy (host done) ≤ heard_in done
      → settled_in (done ++ x ∷ []) + busy (host (done ++ x ∷ [])) ≤ heard_in (done ++ x ∷ [])
  fewer_more done x step few =
      let a = settled_both done (x ∷ []) in
      let h = heard_both done (x ∷ []) in
      let same : busy (host (done ++ x ∷ [])) ≡ busy (host_after (host done) x) = ap busy (host_more done x) in
      omega (arith, a, h, same, step, few)

  -- a call that sends and hears nothing
  kept : (done : List Call) (x : Call) → host_after (host done) x ≡ host done → settles_one x ≡ 0 → IsNoFis x → Counted done → Counted (done ++ x ∷ [])
  kept done x same none quiet q =
      let alike : host (done ++ x ∷ []) ≡ host done = host_more done x ∙ same in
      let w : busy (host (done ++ x ∷ [])) ≡ busy (host done) = ap busy alike in
      let w_after : busy (host_after (host done) x) ≡ busy (host done) = ap busy same in
      record {
        clear = ap (λ (h : Host). h.in_reset) alike ∙ q.clear;
        fewer = fewer_more done x (omega (arith, w_after, none)) q.fewer;
        stands = λ some. open_more done x none (q.stands (omega (arith, some, w)));
        last = λ is. last_more done x none (q.last (ap (λ (h : Host). h.waits) (sym alike) ∙ is));
        since = λ c h. since_more done x (busy (host done)) (busy (host (done ++ x ∷ []))) c (omega (arith, w, none))
            (q.since c (call_held (disk done) x 32 c (others_none (disk done) x quiet) (ap (λ (d : DiskState). held_at (line_of d) 32) (sym (one_more done x)) ∙ h)));
      }

  -- it sends
  sends : (done : List Call) (o : Out) → AreCalls (new_disk p limit) (base ++ (done ++ Sends o ∷ [])) → Counted done → Counted (done ++ Sends o ∷ [])
  sends done o are q =
      let x : Call = Sends o in
      let due : IsOutDue (host done) o = due_at (base ++ done) x new_host (laws.single p limit ((base ++ done) ++ x ∷ []) (subst (AreCalls (new_disk p limit)) (sym (append_assoc base done (x ∷ []))) are)) in
      let over : IsOver (host done) (out_got (host done) o) (is_settling o) = out_over (host done) o due in
      let few = over.few in
      let w : busy (host (done ++ x ∷ [])) ≡ busy (out_got (host done) o) = ap busy (host_more done x) in
      record {
        clear = ap (λ (h : Host). h.in_reset) (host_more done x) ∙ over.clear ∙ q.clear;
        fewer = fewer_more done x (omega (arith, few)) q.fewer;
        stands = λ some. goes (is_settling o) refl over.few (omega (arith, some, w));
        last = λ is. ends (is_settling o) refl over.few (ap (λ (h : Host). h.waits) (sym (host_more done x)) ∙ is) over.last;
        since = λ c h. since_more done x (busy (host done)) (busy (host (done ++ x ∷ []))) c (omega (arith, few, w))
            (q.since c (call_held (disk done) x 32 c (others_none (disk done) x tt) (ap (λ (d : DiskState). held_at (line_of d) 32) (sym (one_more done x)) ∙ h)));
      }
    where
      goes : (b : Bool) → is_settling o ≡ b → once_if (is_settling o) + busy (out_got (host done) o) ≤ busy (host done) → 1 ≤ busy (out_got (host done) o)
          → Open (done ++ Sends o ∷ [])
      goes true e few some = absurd (let one = ap once_if e in let most = busy_most (host done) in omega (arith, few, some, one, most))
      goes false e few some = let none = ap once_if e in open_more done (Sends o) none (q.stands (omega (arith, few, some)))

      ends : (b : Bool) → is_settling o ≡ b → once_if (is_settling o) + busy (out_got (host done) o) ≤ busy (host done)
          → (out_got (host done) o).waits ≡ ForLast
          → ((out_got (host done) o).waits ≡ ForLast → is_settling o ≡ false → (host done).waits ≡ ForLast) → Last (done ++ Sends o ∷ [])
      ends true e few is was = let one = ap once_if e in settled_now done (Sends o) one (q.stands (omega (arith, few, one)))
      ends false e few is was = last_more done (Sends o) (ap once_if e) (q.last (was is e))

  -- it hears
  asks_it : (bytes f : List ℕ) → seen bytes ≡ Ok (view.RegH2D f) → is_command f ≡ true → is_asking bytes ≡ true
  asks_it bytes f viewed is = ap commands viewed ∙ is

  heard_since : (done : List Call) (bytes : List ℕ) (now : ℕ) → Outcome (disk done) (seen bytes) → settled_in done + busy (host done) ≤ heard_in done → now ≤ 1
      → ((c : Command) → held_at (line_of (disk done)) 32 ≡ Some c → Since (done ++ Hears bytes ∷ []) now c)
      → (c : Command) → held_at (line_of (disk (done ++ Hears bytes ∷ []))) 32 ≡ Some c → Since (done ++ Hears bytes ∷ []) now c
  heard_since done bytes now (Nothing none) few most since c h =
      since c (call_held (disk done) (Hears bytes) 32 c none (ap (λ (d : DiskState). held_at (line_of d) 32) (sym (one_more done (Hears bytes))) ∙ h))
  heard_since done bytes now (Taken f k viewed is place steps move asks same) few most since c h =
      elim (call_takes (disk done) (Hears bytes) k 32 c steps (ap (λ (d : DiskState). held_at (line_of d) 32) (sym (one_more done (Hears bytes))) ∙ h)) [
        | inl was ↦ since c was
        | inr it ↦ new it.0
      ]
    where
      new : c ≡ k → Since (done ++ Hears bytes ∷ []) now c
      new e =
          let all = settled_both done (Hears bytes ∷ []) in
          record {
            asked = record {
              before = base ++ done;
              bytes = bytes;
              later = [];
              heard = sym (append_assoc base done (Hears bytes ∷ []));
              fis = f;
              viewed = viewed;
              move = move;
              asks = asks;
              is = e ∙ same;
            };
            front = done;
            split = refl;
            asks = asks_it bytes f viewed is;
            behind = omega (arith, all, few, most);
          }

  heard_open : (done : List Call) (bytes : List ℕ) → IsGiven (host done) (fis_given (host done) (seen bytes)) (is_asking bytes)
      → 1 ≤ busy (fis_given (host done) (seen bytes)) → Counted done
      → (w : ℕ) → busy (host done) ≡ w → (b : Bool) → is_asking bytes ≡ b → (f : Bool) → waits_for_nothing (host done).waits ≡ f
      → Open (done ++ Hears bytes ∷ [])
  heard_open done bytes g some q (suc w) is b asks f free = open_more done (Hears bytes) refl (q.stands (omega (arith, is)))
  heard_open done bytes g some q zero is false asks f free = absurd (let few = g.few in let none = ap once_if asks in omega (arith, few, some, is, none))
  heard_open done bytes g some q zero is true asks false free = absurd (let few = g.stays free in omega (arith, few, some, is))
  heard_open done bytes g some q zero is true asks true free =
      let all = settled_both done (Hears bytes ∷ []) in
      let fewer = q.fewer in
      record {
        front = done;
        bytes = bytes;
        later = [];
        split = refl;
        asks = asks;
        idle = record { waits = waiting_free (host done).waits free; clear = q.clear };
        behind = omega (arith, all, fewer);
        quiet = refl;
      }

  hears : (done : List Call) (bytes : List ℕ) → AreCalls (new_disk p limit) (base ++ done) → sets_reset (seen bytes) ≡ false → Counted done
      → Counted (done ++ Hears bytes ∷ [])
  hears done bytes are calm q =
      let x : Call = Hears bytes in
      let given : IsGiven (host done) (fis_given (host done) (seen bytes)) (commands (seen bytes)) = fis_over (host done) (seen bytes) q.clear calm in
      let few = given.few in
      let w : busy (host (done ++ x ∷ [])) ≡ busy (fis_given (host done) (seen bytes)) = ap busy (host_more done x) in
      let most = busy_most (host (done ++ x ∷ [])) in
      record {
        clear = ap (λ (h : Host). h.in_reset) (host_more done x) ∙ given.clear;
        fewer = fewer_more done x (omega (arith, few)) q.fewer;
        stands = λ some. heard_open done bytes given (omega (arith, some, w)) q (busy (host done)) refl (is_asking bytes) refl (waits_for_nothing (host done).waits) refl;
        last = λ is. last_more done x refl (q.last (given.last (ap (λ (h : Host). h.waits) (sym (host_more done x)) ∙ is)));
        since = heard_since done bytes (busy (host (done ++ x ∷ []))) (outcome (disk done) (seen bytes)) q.fewer most
            (λ c h. stays (waits_for_nothing (host done).waits) refl given.stays w c h);
      }
    where
      stays : (f : Bool) → waits_for_nothing (host done).waits ≡ f
          → (waits_for_nothing (host done).waits ≡ false → busy (fis_given (host done) (seen bytes)) ≤ busy (host done))
          → busy (host (done ++ Hears bytes ∷ [])) ≡ busy (fis_given (host done) (seen bytes)) → (c : Command) → held_at (line_of (disk done)) 32 ≡ Some c
          → Since (done ++ Hears bytes ∷ []) (busy (host (done ++ Hears bytes ∷ []))) c
      stays true free few w c h = absurd (none_under done are (waiting_free (host done).waits free) c h)
      stays false free few w c h =
          let less = few free in since_more done (Hears bytes) (busy (host done)) (busy (host (done ++ Hears bytes ∷ []))) c (omega (arith, less, w)) (q.since c h)

  -- ---- every run

  step : (done : List Call) (x : Call) → AreCalls (new_disk p limit) (base ++ (done ++ x ∷ [])) → IsKeptOn x → Counted done → Counted (done ++ x ∷ [])
  step done (Hears bytes) are on q =
      hears done bytes (first_calls (base ++ done) (Hears bytes ∷ []) (new_disk p limit) (subst (AreCalls (new_disk p limit)) (sym (append_assoc base done (Hears bytes ∷ []))) are)) on q
  step done (Sends o) are on q = sends done o are q
  step done Plugs are on q = absurd on
  step done (Starts x) are on q = kept done (Starts x) refl refl tt q
  step done (Asks r) are on q = kept done (Asks r) refl refl tt q
  step done (Answers n a) are on q = kept done (Answers n a) refl refl tt q

  walk : (later done : List Call) → AreCalls (new_disk p limit) (base ++ (done ++ later)) → AreKeptOn later → Counted done → Counted (done ++ later)
  walk [] done are on q = subst Counted (sym (append-nil done)) q
  walk (x ∷ later) done are on q =
      let same : (done ++ x ∷ []) ++ later ≡ done ++ x ∷ later = append_assoc done (x ∷ []) later in
      let all : AreCalls (new_disk p limit) (base ++ ((done ++ x ∷ []) ++ later)) = subst (λ (l : List Call). AreCalls (new_disk p limit) (base ++ l)) (sym same) are in
      let whole : AreCalls (new_disk p limit) ((base ++ (done ++ x ∷ [])) ++ later) = subst (AreCalls (new_disk p limit)) (sym (append_assoc base (done ++ x ∷ []) later)) all in
      let next = step done x (first_calls (base ++ (done ++ x ∷ [])) later (new_disk p limit) whole) on.0 q in
      subst Counted same (walk later (done ++ x ∷ []) all on.1 next)

  begins : AreCalls (new_disk p limit) base → IsIdle (host_of new_host base) → Counted []
  begins are idle =
      let none = append-nil base in
      let free : (host []).waits ≡ ForNothing = ap (λ (l : List Call). (host_of new_host l).waits) none ∙ idle.waits in
      let zero_now : busy (host []) ≡ 0 = busy_is (host []) ForNothing free in
      record {
        clear = ap (λ (l : List Call). (host_of new_host l).in_reset) none ∙ idle.clear;
        fewer = omega (arith, zero_now);
        stands = λ some. absurd (omega (arith, some, zero_now));
        last = λ is. no_last (host []).waits free is;
        since = λ c h. absurd (none_under [] (subst (AreCalls (new_disk p limit)) (sym none) are) free c h);
      }

  -- ---- what follows

  all_heard : (done front later : List Call) (bytes : List ℕ) → done ≡ front ++ Hears bytes ∷ later → is_asking bytes ≡ true
      → heard_in done ≡ heard_in front + (1 + heard_in later)
  all_heard done front later bytes split asks =
      let all : heard_in done ≡ heard_in front + (once_if (is_asking bytes) + heard_in later) = ap heard_in split ∙ heard_both front (Hears bytes ∷ later) in
      let one : once_if (is_asking bytes) ≡ 1 = ap once_if asks in
      omega (arith, all, one)

  due_next : (done : List Call) (o : Out) → AreCalls (new_disk p limit) (base ++ done) → IsOut (disk done) (Some o) → IsOutDue (host done) o
  due_next done o are is =
      due_at (base ++ done) (Sends o) new_host (laws.single p limit ((base ++ done) ++ Sends o ∷ []) (calls_both (base ++ done) (Sends o ∷ []) (new_disk p limit) are (is, tt)))

  answers : (done : List Call) → AreCalls (new_disk p limit) (base ++ done) → Counted done → (o : Out) → IsOut (disk done) (Some o) → is_settling o ≡ true
      → IsUnsettled base done
  answers done are q o is settles =
      let few = (out_over (host done) o (due_next done o are is)).few in
      let one = ap once_if settles in
      let l : Open done = q.stands (omega (arith, few, one)) in
      let behind = l.behind in
      let all = all_heard done l.front l.later l.bytes l.split l.asks in
      record {
        front = l.front;
        bytes = l.bytes;
        later = l.later;
        split = l.split;
        asks = l.asks;
        idle = l.idle;
        behind = l.behind;
        quiet = l.quiet;
        last = λ some. omega (arith, all, behind, some);
      }

  ends : (done : List Call) → AreCalls (new_disk p limit) (base ++ done) → Counted done → IsOut (disk done) (Some (out.Of 32 replies.Done)) → (page : Page)
      → page_in p limit (base ++ done) 32 ≡ Some page → IsAskedInTurn (settled_in done) p limit base done page.command
  ends done are q is page books =
      let under = laws.outs p limit (base ++ done) 32 replies.Done are is in
      let it = held_of_taken (command_at (line_of (disk done)) 32) under in
      let same : page.command ≡ it.0 = page_same p limit (base ++ done) 32 it.0 page it.1 books in
      let few = (out_over (host done) (out.Of 32 replies.Done) (due_next done (out.Of 32 replies.Done) are is)).few in
      let s = q.since it.0 it.1 in
      let behind = s.behind in
      subst (IsAskedInTurn (settled_in done) p limit base done) (sym same)
      (record { asked = s.asked; front = s.front; split = s.split; asks = s.asks; behind = omega (arith, behind, few) })

  data_last : (done : List Call) → Counted done → (host done).waits ≡ ForLast → IsSettledLast done
  data_last done q waits =
      let l : Last done = q.last waits in
      let behind = l.behind in
      let all = all_heard done l.front l.later l.bytes l.split l.asks in
      record { front = l.front; bytes = l.bytes; later = l.later; split = l.split; asks = l.asks; behind = l.behind; last = λ some. omega (arith, all, behind, some) }

  reads : (done : List Call) → AreCalls (new_disk p limit) (base ++ done) → Counted done → (n : ℕ) → IsOut (disk done) (Some (out.Data 32 n))
      → (host done).waits ≡ ForLast
      → IsWholeInTurn p limit base done n
  reads done are q n is waits =
      let whole : IsReadWhole p limit (base ++ done) n = laws.earned p limit (base ++ done) n are is waits in
      let it = held_of_taken (command_at (line_of (disk done)) 32) (data_alive (disk done) 32 n (command_at (line_of (disk done)) 32) is.3) in
      let same : whole.was.command ≡ it.0 = page_same p limit (base ++ done) 32 it.0 whole.was it.1 whole.before in
      let s = q.since it.0 it.1 in
      let behind = s.behind in
      record {
        whole = whole;
        turn = subst (IsAskedInTurn (settled_in done - 1) p limit base done) (sym same)
            (record { asked = s.asked; front = s.front; split = s.split; asks = s.asks; behind = omega (arith, behind) });
      }

  -- ---- behind the last block

  asks_none : (r : Result Fis FisFault) → once_if (commands r) ≡ 0 → IsNoCommand r
  asks_none (Ok (view.RegH2D f)) none = by (is_command f) refl none
    where
      by : (b : Bool) → is_command f ≡ b → once_if (is_command f) ≡ 0 → is_command f ≡ false
      by true e none = absurd (let one = ap once_if e in omega (arith, one, none))
      by false e none = e
  asks_none other none = tt

  hear_none : (later : List Call) → heard_in later ≡ 0 → HearNoCommand later
  hear_none [] none = tt
  hear_none (Hears bytes ∷ later) none = (asks_none (seen bytes) (omega (arith, none)), hear_none later (omega (arith, none)))
  hear_none (Plugs ∷ later) none = (tt, hear_none later (omega (arith, none)))
  hear_none (Starts x ∷ later) none = (tt, hear_none later (omega (arith, none)))
  hear_none (Asks r ∷ later) none = (tt, hear_none later (omega (arith, none)))
  hear_none (Answers n a ∷ later) none = (tt, hear_none later (omega (arith, none)))
  hear_none (Sends o ∷ later) none = (tt, hear_none later (omega (arith, none)))

  kept_first : (xs ys : List Call) → AreKeptOn (xs ++ ys) → AreKeptOn xs
  kept_first [] ys on = tt
  kept_first (x ∷ xs) ys on = (on.0, kept_first xs ys on.1)

  settling : (o : Out) → sets_up_last o ≡ true → is_settling o ≡ true
  settling o e = by (is_answer o) (sets_up_last o) e
    where
      by : (a b : Bool) → b ≡ true → (a || b) ≡ true
      by true b e = refl
      by false b e = e

  of_data : (h : Host) (o : Out) → IsOutDue h o → is_data o ≡ true → ((place n : ℕ) → o ≡ out.Data place n → place ≡ 32) → is_for_data h.waits ≡ true
  of_data h (out.Page page) due data' place = due.1
  of_data h (out.Data k n) due data' place = (subst (λ (j : ℕ). IsDataAt h j (nat_lt j 32)) (place k n refl) due).1.1
  of_data h other due data' place = absurd (cc)

  alone : (done : List Call) → AreCalls (new_disk p limit) (base ++ done) → IsIdle (host_of new_host base) → AreKeptOn done → Counted done → (o : Out)
      → IsOut (disk done) (Some o) → is_data o ≡ true
      → heard_in done ≤ settled_in done → IsBehindLastBlock done → (host done).waits ≡ ForLast
  alone done are idle on q o is data' all b =
      let x : Call = Sends b.said in
      let whole : base ++ done ≡ (base ++ b.front) ++ x ∷ b.later = ap (λ (l : List Call). base ++ l) b.split ∙ sym (append_assoc base b.front (x ∷ b.later)) in
      let are_whole : AreCalls (new_disk p limit) ((base ++ b.front) ++ x ∷ b.later) = subst (AreCalls (new_disk p limit)) whole are in
      let are_front : AreCalls (new_disk p limit) (base ++ b.front) = first_calls (base ++ b.front) (x ∷ b.later) (new_disk p limit) are_whole in
      let front : Counted b.front = walk b.front [] are_front (kept_first b.front (x ∷ b.later) (subst AreKeptOn b.split on)) (begins (first_calls base b.front (new_disk p limit) are_front) idle) in
      let more : AreCalls (new_disk p limit) (((base ++ b.front) ++ x ∷ []) ++ b.later) =
      subst (AreCalls (new_disk p limit)) (sym (append_assoc (base ++ b.front) (x ∷ []) b.later)) are_whole in
      let says : IsOut (disk b.front) (Some b.said) = last_is (base ++ b.front) b.said (first_calls ((base ++ b.front) ++ x ∷ []) b.later (new_disk p limit) more) in
      let u : IsUnsettled base b.front = answers b.front are_front front b.said says (settling b.said b.sets) in
      let heard_front = all_heard b.front u.front u.later u.bytes u.split u.asks in
      let behind = u.behind in
      let settled : settled_in done ≡ settled_in b.front + (once_if (is_settling b.said) + settled_in b.later) = ap settled_in b.split ∙ settled_both b.front (x ∷ b.later) in
      let heard : heard_in done ≡ heard_in b.front + (0 + heard_in b.later) = ap heard_in b.split ∙ heard_both b.front (x ∷ b.later) in
      let one = ap once_if (settling b.said b.sets) in
      let quiet = b.quiet in
      let none : heard_in b.later ≡ 0 = omega (arith, all, heard, settled, heard_front, behind, one, quiet) in
      let fewer = q.fewer in
      last_or_open (host done).waits
      (of_data (host done) o (due_next done o are is) data' (λ place n same.
      laws.alone p limit (base ++ b.front) b.later b.said are_whole front.clear b.sets (hear_none b.later none) place n
      (subst (λ (l : List Call). IsOut (reached p limit l) (Some (out.Data place n))) whole (subst (λ (y : Out). IsOut (disk done) (Some y)) same is))))
      (omega (arith, fewer, all))
    where
      last_is : (before : List Call) (o : Out) → AreCalls (new_disk p limit) (before ++ Sends o ∷ []) → IsOut (reached p limit before) (Some o)
      last_is before o are = (rest_calls before (Sends o ∷ []) (new_disk p limit) are).0

pub settled_in_turn : Laws → CommandsAreSettledInTurn
settled_in_turn laws p limit base calls are idle on =
    let q = walk laws p limit base calls [] are on (begins laws p limit base (first_calls base calls (new_disk p limit) are) idle) in
    let fewer = q.fewer in
    record {
      fewer = omega (arith, fewer);
      idle = λ all. (q.clear, free_or_last (host_of new_host (base ++ calls)).waits (omega (arith, fewer, all)));
      answers = answers laws p limit base calls are q;
      ends = ends laws p limit base calls are q;
      lasts = data_last laws p limit base calls q;
      reads = reads laws p limit base calls are q;
      alone = alone laws p limit base calls are idle on q;
    }
