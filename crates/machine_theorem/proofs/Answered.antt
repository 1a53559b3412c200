-- A disk answers no more commands than it heard, and a command that is not queued was heard behind all that were answered.
use Rattle.std.proofs.Common.{◌≡◌, ℕ, zero, suc, ◌+◌, ◌≤◌, ◌&&◌, Bool, true, false, not, List, [], ◌∷◌, ◌++◌, Some, refl, sym, ap, ◌∙◌, subst, arith}
use Rattle.std.proofs.{Common.{inl, inr, append_assoc, append-nil}, lemmas.Bool.{false≢true}}
use Rattle.std.specs.Prelude.{if◌then◌else◌, Option, None, Result, Ok, Err}
use Rattle.fis_view.specs.{Seen.seen, declared.view.{Fis.Fis, FisFault.FisFault}}
use Rattle.fis_view.specs.declared.view.Fis.TheVariants as view
use Rattle.block_command.specs.{declared.command.{Command.Command, Stage.{Stage, TheVariants.Sending}}, Moments.{Moment, is_ended}}
use Rattle.block_command.proofs.Door.{at as moment}
use Rattle.block_disk.specs.Laws.{Page}
use Rattle.block_queue.specs.Line.{command_at}
use Rattle.ata_command.specs.Courses.{resets}
use Rattle.ata_reply.specs.declared.reply.Reply.{Reply}
use Rattle.ata_reply.specs.declared.reply.Reply.TheVariants as replies
use Rattle.disk_pages.specs.declared.profile.Profile.{Profile}
use Rattle.sata_disk.specs.{Hearing.is_command, Sending.{IsOut, out_at}, State.{DiskState, commands as line_of, is_taken, new_disk}}
use Rattle.sata_disk.specs.declared.{out.Out.Out, unheard.Unheard.Unheard}
use Rattle.sata_disk.specs.declared.out.Out.TheVariants as out
use Rattle.sata_disk_books.specs.Books.{IsAskedFor, page_in}
use Rattle.sata_disk_laws.specs.{Awaited.{OutsAreUnderWay, SinglesAreAwaited}, Calls.{Answers, AreCalls, Asks, Call, Hears, Plugs, Sends, Starts}}
use Rattle.sata_disk_laws.specs.{Calls.after_call, Laws.reached, Once.{AnswersAreSingle, ForAnswer, ForEnd, ForLast, ForNothing, ForSignature, Host}}
use Rattle.sata_disk_laws.specs.Once.{IsAccepted, IsDue, IsFilling, IsOutDue, IsRefused, Wait, announced, command_given, control_given, data_got_by}
use Rattle.sata_disk_laws.specs.Once.{fis_given, host_after, host_of, is_for_data, new_host, none_open, out_got, place_in, reply_got, unheard_of}
use Rattle.sata_disk_laws.specs.Once.{waits_for_nothing}
use Rattle.sata_disk_laws.proofs.Door.{calls_both}
use Rattle.ata_front.specs.declared.task.Page as own
use Rattle.machine_theorem.specs.{OwnPages.PagesGoInTurn, InTurn.{AreKeptOn, CommandsGoInTurn, IsIdle, IsInTurn, IsKeptOn, IsUnanswered, answered_in}}
use Rattle.machine_theorem.specs.InTurn.{answers_one, commands, heard_in, hears_one, is_answer, is_asking, is_register, sets_reset}
use Rattle.machine_theorem.specs.{SingleBytes.SingleDataGoInTurn, Tags.once_if}
use Rattle.machine_theorem.proofs.{TagAsked.{Outcome, outcome, Outcome.{Nothing, Taken}}, TagCounts.{due_at, first_calls, held_of_taken, host_then}}
use Rattle.machine_theorem.proofs.{TagCounts.{none_held, one_call_more}, TagKept.{IsNoFis, call_held, call_takes, held_at, held_is, held_of}}
use Rattle.machine_theorem.proofs.{TagKept.others_none, TagPages.page_same}

pub record Laws : Type 0 where
  pub single : AnswersAreSingle
  pub awaited : SinglesAreAwaited
  pub outs : OutsAreUnderWay

-- ---- lists of calls

pub heard_both : (xs ys : List Call) → heard_in (xs ++ ys) ≡ heard_in xs + heard_in ys
heard_both [] ys = omega arith
heard_both (x ∷ xs) ys = let more = heard_both xs ys in omega (arith, more)

pub answered_both : (xs ys : List Call) → answered_in (xs ++ ys) ≡ answered_in xs + answered_in ys
answered_both [] ys = omega arith
answered_both (x ∷ xs) ys = let more = answered_both xs ys in omega (arith, more)

-- ---- what a host waits for

abbrev pub waiting : Host → ℕ
waiting h = once_if (not (waits_for_nothing h.waits))

none_waits : (h : Host) → h.waits ≡ ForNothing → waiting h ≡ 0
none_waits h e = ap (λ (w : Wait). once_if (not (waits_for_nothing w))) e

pub for_nothing : (w : Wait) → once_if (not (waits_for_nothing w)) ≡ 0 → w ≡ ForNothing
for_nothing ForNothing none = refl
for_nothing other none = absurd (cc)

-- the host behind a FIS of the disk
pub record IsOver (h k : Host) (answer : Bool) : Type 0 where
  pub clear : k.in_reset ≡ h.in_reset
  pub few : once_if answer + waiting k ≤ waiting h
  pub free : answer ≡ true → k.waits ≡ ForNothing

one_waits : (h : Host) (w : Wait) → h.waits ≡ w → waits_for_nothing w ≡ false → waiting h ≡ 1
one_waits h w e busy = ap (λ (v : Wait). once_if (not (waits_for_nothing v))) e ∙ ap (λ (b : Bool). once_if (not b)) busy

answers_it : (h k : Host) (w : Wait) → h.waits ≡ w → waits_for_nothing w ≡ false → k.in_reset ≡ h.in_reset → k.waits ≡ ForNothing → IsOver h k true
answers_it h k w e busy clear free =
    let one = one_waits h w e busy in
    let none = none_waits k free in
    record { clear = clear; few = omega (arith, one, none); free = λ a. free }

stays_so : (h k : Host) → k.in_reset ≡ h.in_reset → waiting k ≤ waiting h → IsOver h k false
stays_so h k clear few = record { clear = clear; few = omega (arith, few); free = λ a. absurd (false≢true a) }

accepted_over : (h k : Host) (w : Wait) → h.waits ≡ w → IsAccepted h w → k.in_reset ≡ h.in_reset → k.waits ≡ ForNothing → IsOver h k true
accepted_over h k (ForAnswer tag) e due clear free = answers_it h k (ForAnswer tag) e refl clear free
accepted_over h k other e due clear free = absurd due

refused_over : (h k : Host) (w : Wait) → h.waits ≡ w → IsRefused h w → k.in_reset ≡ h.in_reset → k.waits ≡ ForNothing → IsOver h k true
refused_over h k (ForAnswer tag) e due clear free = answers_it h k (ForAnswer tag) e refl clear free
refused_over h k ForEnd e due clear free = answers_it h k ForEnd e refl clear free
refused_over h k other e due clear free = absurd due

announced_over : (h : Host) (b : Bool) → h.waits ≡ ForEnd → IsOver h (announced h b) false
announced_over h true e = let one = one_waits h ForEnd e refl in stays_so h (announced h true) refl (omega (arith, one))
announced_over h false e = stays_so h h refl (omega arith)

reply_over : (h : Host) (r : Reply) → IsDue h r → IsOver h (reply_got h r) (is_register r)
reply_over h replies.Signature due = answers_it h _ ForSignature due refl refl refl
reply_over h replies.Accepted due = accepted_over h _ h.waits refl due refl refl
reply_over h replies.Done due = answers_it h _ ForEnd due.1 refl refl refl
reply_over h replies.Active due = answers_it h _ ForEnd due.1 refl refl refl
reply_over h replies.Healthy due = answers_it h _ ForEnd due.1 refl refl refl
reply_over h (replies.Failed f) due = refused_over h _ h.waits refl due refl refl
reply_over h (replies.Ends tags) due = stays_so h _ refl (omega arith)
reply_over h (replies.Aborts error) due = stays_so h _ refl (omega arith)
reply_over h (replies.Announce a) due = announced_over h (a.to_host && a.last) due.1
reply_over h (replies.SetUp s) due = stays_so h _ refl (omega arith)
reply_over h replies.Activate due = stays_so h _ refl (omega arith)

data_over : (h : Host) (w : Wait) → IsOver h (data_got_by h w) false
data_over h ForLast = stays_so h _ refl (omega arith)
data_over h w = stays_so h _ refl (omega arith)

pub out_over : (h : Host) (o : Out) → IsOutDue h o → IsOver h (out_got h o) (is_answer o)
out_over h (out.Own r) due = reply_over h r due
out_over h (out.Beside r) due = reply_over h r due
out_over h (out.Of p r) due = reply_over h r due.0
out_over h (out.Ends tags) due = stays_so h _ refl (omega arith)
out_over h (out.Page p) due = data_over h h.waits
out_over h (out.Data p n) due = data_over h h.waits

-- the host behind a FIS that it sends
some_waits : (h : Host) (w : Wait) → h.waits ≡ w → is_for_data w ≡ true → 1 ≤ waiting h
some_waits h ForEnd e is = let one = one_waits h ForEnd e refl in omega (arith, one)
some_waits h ForLast e is = let one = one_waits h ForLast e refl in omega (arith, one)
some_waits h other e is = absurd (cc)

record IsGiven (h k : Host) (asks : Bool) : Type 0 where
  clear : k.in_reset ≡ false
  few : waiting k ≤ waiting h + once_if asks

waiting_most : (h : Host) → waiting h ≤ 1
waiting_most h = by (not (waits_for_nothing h.waits))
  where
    by : (b : Bool) → once_if b ≤ 1
    by true = omega arith
    by false = omega arith

command_over : (h : Host) (place : ℕ) (x : Option Unheard) → h.in_reset ≡ false → IsGiven h (command_given h place x) true
command_over h place None clear = let most = waiting_most (command_given h place None) in record { clear = refl; few = omega (arith, most) }
command_over h place (Some why) clear = record { clear = clear; few = omega arith }

control_over : (h : Host) (b : Bool) → h.in_reset ≡ b → b ≡ false → IsGiven h (if b then record { open_at = none_open; waits = ForSignature; in_reset = false } else h) false
control_over h true is e = absurd (cc)
control_over h false is e = record { clear = is; few = omega arith }

register_over : (h : Host) (f : List ℕ) (b r : Bool) → h.in_reset ≡ false → (not b && r) ≡ false
    → IsGiven h (if b then command_given h (place_in f) (unheard_of h) else control_given h r) b
register_over h f true r clear calm = command_over h (place_in f) (unheard_of h) clear
register_over h f false true clear calm = absurd (cc)
register_over h f false false clear calm = control_over h h.in_reset refl clear

same_given : (h : Host) → h.in_reset ≡ false → IsGiven h h false
same_given h clear = record { clear = clear; few = omega arith }

fis_over : (h : Host) (r : Result Fis FisFault) → h.in_reset ≡ false → sets_reset r ≡ false → IsGiven h (fis_given h r) (commands r)
fis_over h (Ok (view.RegH2D f)) clear calm = register_over h f (is_command f) (resets f) clear calm
fis_over h (Ok (view.RegD2H f)) clear calm = same_given h clear
fis_over h (Ok (view.SetBits f)) clear calm = same_given h clear
fis_over h (Ok (view.DmaActivate f)) clear calm = same_given h clear
fis_over h (Ok (view.DmaSetup f)) clear calm = same_given h clear
fis_over h (Ok (view.PioSetup f)) clear calm = same_given h clear
fis_over h (Ok (view.Payload f)) clear calm = same_given h clear
fis_over h (Ok (view.Unknown f)) clear calm = same_given h clear
fis_over h (Err e) clear calm = same_given h clear

-- ---- what is counted

pub no_data : (w : Wait) → w ≡ ForNothing → is_for_data w ≡ true → ⊥
no_data ForNothing e is = cc
no_data w e is = absurd (by (sym (ap is_for_data e) ∙ is))
  where
    by : is_for_data ForNothing ≡ true → ⊥
    by e = cc

-- the command whose Data go next
stage_of : (d : DiskState) (place len : ℕ) (c : Command) (past : ℕ) (bytes : List ℕ) (sent : ℕ) (stage : Stage)
    → Some (out.Data place len) ≡ out_at d place (Some (moment c past bytes sent stage)) → is_ended stage ≡ false
stage_of d place len c past bytes sent Sending e = refl
stage_of d place len c past bytes sent stage e = absurd (cc)

pub data_held : (d : DiskState) (place len : ℕ) (x : Option Moment) → Some (out.Data place len) ≡ out_at d place x → (c : Command) × (held_of x ≡ Some c)
data_held d place len None e = absurd (cc)
data_held d place len (Some m) e = (m.command, held_is m (stage_of d place len m.command m.done m.bytes m.sent m.stage e))

-- of the calls of a disk, those behind some
module _ (laws : Laws) (p : Profile) (limit : ℕ) (base : List Call) where
  abbrev pub host : List Call → Host
  host done = host_of new_host (base ++ done)

  abbrev pub disk : List Call → DiskState
  disk done = reached p limit (base ++ done)

  pub one_more : (done : List Call) (x : Call) → disk (done ++ x ∷ []) ≡ after_call (disk done) x
  one_more done x = ap (reached p limit) (sym (append_assoc base done (x ∷ []))) ∙ one_call_more p limit (base ++ done) x

  pub host_more : (done : List Call) (x : Call) → host (done ++ x ∷ []) ≡ host_after (host done) x
  host_more done x = ap (host_of new_host) (sym (append_assoc base done (x ∷ []))) ∙ host_then (base ++ done) x new_host

  -- a command was asked for behind all that were answered
  record Since (done : List Call) (c : Command) : Type 0 where
    asked : IsAskedFor p limit (base ++ done) c
    front : List Call
    split : done ≡ front ++ Hears asked.bytes ∷ asked.later
    asks : is_asking asked.bytes ≡ true
    behind : answered_in done ≤ heard_in front

  -- a command was heard behind all that were answered, and was not answered
  record Last (done : List Call) : Type 0 where
    front : List Call
    bytes : List ℕ
    later : List Call
    split : done ≡ front ++ Hears bytes ∷ later
    asks : is_asking bytes ≡ true
    behind : answered_in done ≤ heard_in front
    quiet : answered_in later ≡ 0

  pub record Counted (done : List Call) : Type 0 where
    pub clear : (host done).in_reset ≡ false
    pub fewer : answered_in done + waiting (host done) ≤ heard_in done
    last : 1 ≤ waiting (host done) → Last done
    since : (c : Command) → held_at (line_of (disk done)) 32 ≡ Some c → Since done c

  since_more : (done : List Call) (x : Call) (c : Command) → answers_one x ≡ 0 → Since done c → Since (done ++ x ∷ []) c
  since_more done x c none s =
      let a = s.asked in
      let all = answered_both done (x ∷ []) in
      let behind = s.behind in
      record {
        asked = record {
          before = a.before;
          bytes = a.bytes;
          later = a.later ++ x ∷ [];
          heard = sym (append_assoc base done (x ∷ [])) ∙ ap (λ (l : List Call). l ++ x ∷ []) a.heard ∙ append_assoc a.before (Hears a.bytes ∷ a.later) (x ∷ []);
          fis = a.fis;
          viewed = a.viewed;
          move = a.move;
          asks = a.asks;
          is = a.is;
        };
        front = s.front;
        split = ap (λ (l : List Call). l ++ x ∷ []) s.split ∙ append_assoc s.front (Hears a.bytes ∷ a.later) (x ∷ []);
        asks = s.asks;
        behind = omega (arith, all, none, behind);
      }

  last_more : (done : List Call) (x : Call) → answers_one x ≡ 0 → Last done → Last (done ++ x ∷ [])
  last_more done x none l =
      let all = answered_both done (x ∷ []) in
      let rest = answered_both l.later (x ∷ []) in
      let behind = l.behind in
      let quiet = l.quiet in
      record {
        front = l.front;
        bytes = l.bytes;
        later = l.later ++ x ∷ [];
        split = ap (λ (k : List Call). k ++ x ∷ []) l.split ∙ append_assoc l.front (Hears l.bytes ∷ l.later) (x ∷ []);
        asks = l.asks;
        behind = omega (arith, all, none, behind);
        quiet = omega (arith, rest, none, quiet);
      }

  -- none is under way while the host waits for nothing
  pub none_under : (done : List Call) → AreCalls (new_disk p limit) (base ++ done) → (host done).waits ≡ ForNothing → (c : Command) → held_at (line_of (disk done)) 32 ≡ Some c → ⊥
  none_under done are free c held = by (is_taken (line_of (disk done)) 32) refl
    where
      by : (b : Bool) → is_taken (line_of (disk done)) 32 ≡ b → ⊥
      by true e = no_data (host done).waits free (laws.awaited p limit (base ++ done) are e)
      by false e = none_held (command_at (line_of (disk done)) 32) c e held

  -- ---- one call

  fewer_more : (done : List Call) (x : Call) → waiting (host_after (host done) x) + answers_one x ≤ waiting (host done) + hears_one x → answered_in done + waiting (host done) ≤ heard_in done
      → answered_in (done ++ x ∷ []) + waiting (host (done ++ x ∷ [])) ≤ heard_in (done ++ x ∷ [])
  fewer_more done x step few =
      let a = answered_both done (x ∷ []) in
      let h = heard_both done (x ∷ []) in
      let same : waiting (host (done ++ x ∷ [])) ≡ waiting (host_after (host done) x) = ap waiting (host_more done x) in
      omega (arith, a, h, same, step, few)

  -- a call that sends and hears nothing
  kept : (done : List Call) (x : Call) → host_after (host done) x ≡ host done → answers_one x ≡ 0 → IsNoFis x → Counted done → Counted (done ++ x ∷ [])
  kept done x same none quiet q = record {
    clear = ap (λ (h : Host). h.in_reset) (host_more done x ∙ same) ∙ q.clear;
    fewer = let w = ap waiting same in fewer_more done x (omega (arith, w, none)) q.fewer;
    last = λ some. let w = ap waiting (host_more done x ∙ same) in last_more done x none (q.last (omega (arith, some, w)));
    since = λ c h. since_more done x c none
        (q.since c (call_held (disk done) x 32 c (others_none (disk done) x quiet) (ap (λ (d : DiskState). held_at (line_of d) 32) (sym (one_more done x)) ∙ h)));
  }

  -- it sends
  sends : (done : List Call) (o : Out) → AreCalls (new_disk p limit) (base ++ (done ++ Sends o ∷ [])) → Counted done → Counted (done ++ Sends o ∷ [])
  sends done o are q =
      let x : Call = Sends o in
      let due : IsOutDue (host done) o = due_at (base ++ done) x new_host (laws.single p limit ((base ++ done) ++ x ∷ []) (subst (AreCalls (new_disk p limit)) (sym (append_assoc base done (x ∷ []))) are)) in
      let over : IsOver (host done) (out_got (host done) o) (is_answer o) = out_over (host done) o due in
      let few = over.few in
      record {
        clear = ap (λ (h : Host). h.in_reset) (host_more done x) ∙ over.clear ∙ q.clear;
        fewer = fewer_more done x (omega (arith, few)) q.fewer;
        last = λ some. let w = ap waiting (host_more done x) in goes (is_answer o) refl over.few (omega (arith, some, w));
        since = λ c h. by (is_answer o) refl over.free c h;
      }
    where
      goes : (b : Bool) → is_answer o ≡ b → once_if (is_answer o) + waiting (out_got (host done) o) ≤ waiting (host done) → 1 ≤ waiting (out_got (host done) o) → Last (done ++ Sends o ∷ [])
      goes true e few some = absurd (let one = ap once_if e in let most = waiting_most (host done) in omega (arith, few, some, one, most))
      goes false e few some = let none = ap once_if e in last_more done (Sends o) none (q.last (omega (arith, few, some)))

      by : (b : Bool) → is_answer o ≡ b → (is_answer o ≡ true → (out_got (host done) o).waits ≡ ForNothing) → (c : Command)
          → held_at (line_of (disk (done ++ Sends o ∷ []))) 32 ≡ Some c → Since (done ++ Sends o ∷ []) c
      by true e free c h = absurd (none_under (done ++ Sends o ∷ []) are (ap (λ (k : Host). k.waits) (host_more done (Sends o)) ∙ free e) c h)
      by false e free c h = since_more done (Sends o) c (ap once_if e)
          (q.since c (call_held (disk done) (Sends o) 32 c (others_none (disk done) (Sends o) tt) (ap (λ (d : DiskState). held_at (line_of d) 32) (sym (one_more done (Sends o))) ∙ h)))

  -- it hears
  pub asks_it : (bytes f : List ℕ) → seen bytes ≡ Ok (view.RegH2D f) → is_command f ≡ true → is_asking bytes ≡ true
  asks_it bytes f viewed is = ap commands viewed ∙ is

  heard_since : (done : List Call) (bytes : List ℕ) → Outcome (disk done) (seen bytes) → answered_in done ≤ heard_in done → ((c : Command) → held_at (line_of (disk done)) 32 ≡ Some c → Since done c)
      → (c : Command) → held_at (line_of (disk (done ++ Hears bytes ∷ []))) 32 ≡ Some c → Since (done ++ Hears bytes ∷ []) c
  heard_since done bytes (Nothing none) few since c h =
      since_more done (Hears bytes) c refl
      (since c (call_held (disk done) (Hears bytes) 32 c none (ap (λ (d : DiskState). held_at (line_of d) 32) (sym (one_more done (Hears bytes))) ∙ h)))
  heard_since done bytes (Taken f k viewed is place steps move asks same) few since c h =
      elim (call_takes (disk done) (Hears bytes) k 32 c steps (ap (λ (d : DiskState). held_at (line_of d) 32) (sym (one_more done (Hears bytes))) ∙ h)) [
        | inl was ↦ since_more done (Hears bytes) c refl (since c was)
        | inr it ↦ new it.0
      ]
    where
      new : c ≡ k → Since (done ++ Hears bytes ∷ []) c
      new e =
          let all = answered_both done (Hears bytes ∷ []) in
          record {
            asked = record {
              before = base ++ done;
              bytes = bytes;
              later = [];
              heard = sym (append_assoc base done (Hears bytes ∷ []));
              fis = f;
              viewed = viewed;
              move = move;
              asks = asks;
              is = e ∙ same;
            };
            front = done;
            split = refl;
            asks = asks_it bytes f viewed is;
            behind = omega (arith, all, few);
          }

  heard_last : (done : List Call) (bytes : List ℕ) (w : ℕ) → waiting (host done) ≡ w → (b : Bool) → is_asking bytes ≡ b
      → waiting (fis_given (host done) (seen bytes)) ≤ waiting (host done) + once_if (is_asking bytes) → 1 ≤ waiting (fis_given (host done) (seen bytes)) → Counted done
      → Last (done ++ Hears bytes ∷ [])
  heard_last done bytes (suc w) is b asks few some q = last_more done (Hears bytes) refl (q.last (omega (arith, is)))
  heard_last done bytes zero is false asks few some q = absurd (let none = ap once_if asks in omega (arith, few, some, is, none))
  heard_last done bytes zero is true asks few some q =
      let all = answered_both done (Hears bytes ∷ []) in
      let fewer = q.fewer in
      record { front = done; bytes = bytes; later = []; split = refl; asks = asks; behind = omega (arith, all, fewer); quiet = refl }

  hears : (done : List Call) (bytes : List ℕ) → sets_reset (seen bytes) ≡ false → Counted done → Counted (done ++ Hears bytes ∷ [])
  hears done bytes calm q =
      let x : Call = Hears bytes in
      let given : IsGiven (host done) (fis_given (host done) (seen bytes)) (commands (seen bytes)) = fis_over (host done) (seen bytes) q.clear calm in
      let few = given.few in
      let fewer = q.fewer in
      record {
        clear = ap (λ (h : Host). h.in_reset) (host_more done x) ∙ given.clear;
        fewer = fewer_more done x (omega (arith, few)) q.fewer;
        last = λ some. let w = ap waiting (host_more done x) in heard_last done bytes (waiting (host done)) refl (is_asking bytes) refl few (omega (arith, some, w)) q;
        since = heard_since done bytes (outcome (disk done) (seen bytes)) (omega (arith, fewer)) q.since;
      }

  -- ---- every run

  step : (done : List Call) (x : Call) → AreCalls (new_disk p limit) (base ++ (done ++ x ∷ [])) → IsKeptOn x → Counted done → Counted (done ++ x ∷ [])
  step done (Hears bytes) are on q = hears done bytes on q
  step done (Sends o) are on q = sends done o are q
  step done Plugs are on q = absurd on
  step done (Starts x) are on q = kept done (Starts x) refl refl tt q
  step done (Asks r) are on q = kept done (Asks r) refl refl tt q
  step done (Answers n a) are on q = kept done (Answers n a) refl refl tt q

  pub walk : (later done : List Call) → AreCalls (new_disk p limit) (base ++ (done ++ later)) → AreKeptOn later → Counted done → Counted (done ++ later)
  walk [] done are on q = subst Counted (sym (append-nil done)) q
  walk (x ∷ later) done are on q =
      let same : (done ++ x ∷ []) ++ later ≡ done ++ x ∷ later = append_assoc done (x ∷ []) later in
      let all : AreCalls (new_disk p limit) (base ++ ((done ++ x ∷ []) ++ later)) = subst (λ (l : List Call). AreCalls (new_disk p limit) (base ++ l)) (sym same) are in
      let whole : AreCalls (new_disk p limit) ((base ++ (done ++ x ∷ [])) ++ later) = subst (AreCalls (new_disk p limit)) (sym (append_assoc base (done ++ x ∷ []) later)) all in
      let next = step done x (first_calls (base ++ (done ++ x ∷ [])) later (new_disk p limit) whole) on.0 q in
      subst Counted same (walk later (done ++ x ∷ []) all on.1 next)

  pub begins : AreCalls (new_disk p limit) base → IsIdle (host_of new_host base) → Counted []
  begins are idle =
      let none = append-nil base in
      let free : (host []).waits ≡ ForNothing = ap (λ (l : List Call). (host_of new_host l).waits) none ∙ idle.waits in
      let zero_now : waiting (host []) ≡ 0 = none_waits (host []) free in
      record {
        clear = ap (λ (l : List Call). (host_of new_host l).in_reset) none ∙ idle.clear;
        fewer = omega (arith, zero_now);
        last = λ some. absurd (omega (arith, some, zero_now));
        since = λ c h. absurd (none_under [] (subst (AreCalls (new_disk p limit)) (sym none) are) free c h);
      }

  -- ---- the command that ends

  all_heard : (done : List Call) (c : Command) (s : Since done c) → heard_in done ≡ heard_in s.front + (1 + heard_in s.asked.later)
  all_heard done c s =
      let all : heard_in done ≡ heard_in s.front + (once_if (is_asking s.asked.bytes) + heard_in s.asked.later) =
      ap heard_in s.split ∙ heard_both s.front (Hears s.asked.bytes ∷ s.asked.later) in
      let one : once_if (is_asking s.asked.bytes) ≡ 1 = ap once_if s.asks in
      omega (arith, all, one)

  ends : (done : List Call) → AreCalls (new_disk p limit) (base ++ done) → Counted done → IsOut (disk done) (Some (out.Of 32 replies.Done)) → (page : Page)
      → page_in p limit (base ++ done) 32 ≡ Some page → IsInTurn p limit base done page.command
  ends done are q is page books =
      let under = laws.outs p limit (base ++ done) 32 replies.Done are is in
      let it = held_of_taken (command_at (line_of (disk done)) 32) under in
      let same : page.command ≡ it.0 = page_same p limit (base ++ done) 32 it.0 page it.1 books in
      let s = q.since it.0 it.1 in
      let all = all_heard done it.0 s in
      let behind = s.behind in
      subst (IsInTurn p limit base done) (sym same) (record {
        asked = s.asked;
        front = s.front;
        split = s.split;
        asks = s.asks;
        behind = s.behind;
        last = λ few. omega (arith, all, behind, few);
      })

  -- Data of the command that is not queued
  data_now : (done : List Call) → AreCalls (new_disk p limit) (base ++ done) → Counted done → (len : ℕ) → IsOut (disk done) (Some (out.Data 32 len)) → (page : Page)
      → page_in p limit (base ++ done) 32 ≡ Some page → IsInTurn p limit base done page.command
  data_now done are q len is page books =
      let it = data_held (disk done) 32 len (command_at (line_of (disk done)) 32) is.3 in
      let same : page.command ≡ it.0 = page_same p limit (base ++ done) 32 it.0 page it.1 books in
      let s = q.since it.0 it.1 in
      let all = all_heard done it.0 s in
      let behind = s.behind in
      subst (IsInTurn p limit base done) (sym same) (record {
        asked = s.asked;
        front = s.front;
        split = s.split;
        asks = s.asks;
        behind = s.behind;
        last = λ few. omega (arith, all, behind, few);
      })

  -- while the host waits, the command that was heard last is not answered
  pub unanswered : (done : List Call) → Counted done → 1 ≤ waiting (host done) → IsUnanswered done
  unanswered done q some =
      let l : Last done = q.last some in
      let behind = l.behind in
      let all : heard_in done ≡ heard_in l.front + (once_if (is_asking l.bytes) + heard_in l.later) = ap heard_in l.split ∙ heard_both l.front (Hears l.bytes ∷ l.later) in
      let asks = ap once_if l.asks in
      record {
        front = l.front;
        bytes = l.bytes;
        later = l.later;
        split = l.split;
        asks = l.asks;
        behind = l.behind;
        quiet = l.quiet;
        last = λ some. omega (arith, all, asks, behind, some);
      }

  -- an answer is that of the command which was heard last
  answers : (done : List Call) → AreCalls (new_disk p limit) (base ++ done) → Counted done → (o : Out) → IsOut (disk done) (Some o)
      → is_answer o ≡ true → IsUnanswered done
  answers done are q o is answer =
      let x : Call = Sends o in
      let more : AreCalls (new_disk p limit) ((base ++ done) ++ x ∷ []) = calls_both (base ++ done) (x ∷ []) (new_disk p limit) are (is, tt) in
      let due : IsOutDue (host done) o = due_at (base ++ done) x new_host (laws.single p limit ((base ++ done) ++ x ∷ []) more) in
      let few = (out_over (host done) o due).few in
      let one = ap once_if answer in
      unanswered done q (omega (arith, few, one))

  -- and so is a page
  page_now : (done : List Call) → AreCalls (new_disk p limit) (base ++ done) → Counted done → (page : own.Page)
      → IsOut (disk done) (Some (out.Page page))
      → IsUnanswered done
  page_now done are q page is =
      let x : Call = Sends (out.Page page) in
      let more : AreCalls (new_disk p limit) ((base ++ done) ++ x ∷ []) = calls_both (base ++ done) (x ∷ []) (new_disk p limit) are (is, tt) in
      let due : IsFilling (host done) = due_at (base ++ done) x new_host (laws.single p limit ((base ++ done) ++ x ∷ []) more) in
      unanswered done q (some_waits (host done) (host done).waits refl due.1)

pub pages_go : Laws → PagesGoInTurn
pages_go laws p limit base calls are idle on page is =
    let q = walk laws p limit base calls [] are on (begins laws p limit base (first_calls base calls (new_disk p limit) are) idle) in
    page_now laws p limit base calls are q page is

pub single_data_go : Laws → SingleDataGoInTurn
single_data_go laws p limit base calls are idle on len is page books =
    let q = walk laws p limit base calls [] are on (begins laws p limit base (first_calls base calls (new_disk p limit) are) idle) in
    data_now laws p limit base calls are q len is page books

pub go_in_turn : Laws → CommandsGoInTurn
go_in_turn laws p limit base calls are idle on =
    let q = walk laws p limit base calls [] are on (begins laws p limit base (first_calls base calls (new_disk p limit) are) idle) in
    let fewer = q.fewer in
    record {
      fewer = omega (arith, fewer);
      idle = λ all. record { waits = for_nothing (host_of new_host (base ++ calls)).waits (omega (arith, fewer, all)); clear = q.clear };
      answers = answers laws p limit base calls are q;
      ends = ends laws p limit base calls are q;
    }
