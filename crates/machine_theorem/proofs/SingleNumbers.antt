-- The bytes that a disk sent of the command that is not queued are those that its FISes say since it answered last.
use Rattle.std.proofs.Common.{◌≡◌, ℕ, zero, suc, ◌+◌, ◌-◌, ◌<◌, ◌≤◌, ◌&&◌, ◌||◌, Bool, true, false, not, List, [], ◌∷◌, ◌++◌, append_assoc}
use Rattle.std.proofs.{Common.{append-nil, length, Option, Some, None, refl, sym, ap, subst, ◌∙◌, inl, inr, arith}, lemmas.Bool.{eqb-true}}
use Rattle.std.proofs.lemmas.Bool.{false≢true, true≢false}
use Rattle.std.specs.Prelude.{◌==◌, ◌%◌, ◌/◌, nat_lt, if◌then◌else◌, Result, Ok, Err}
use Rattle.fis_view.specs.{Seen.seen, Table.{H2d, Command as H2dCommand, Count, field}, declared.view.{Fis.Fis, FisFault.FisFault}}
use Rattle.fis_view.specs.declared.view.Fis.TheVariants as view
use Rattle.block_command.specs.{declared.command.Command.Command, Laws.Goes, Moments.Moment}
use Rattle.block_disk.specs.{Laws.Page, Requests.{Books, no_books}, Table.is_under_way}
use Rattle.block_queue.specs.Line.{command_at}
use Rattle.block_engine.specs.Laws as engine
use Rattle.ata_command.specs.{Courses.resets, declared.asked.Move.Move}
use Rattle.ata_command.specs.declared.asked.Asked.TheVariants as ask
use Rattle.ata_reply.specs.{Replies.{Carries, Shows}, declared.reply.Reply.Reply}
use Rattle.ata_reply.specs.declared.reply.Reply.TheVariants as replies
use Rattle.disk_pages.specs.declared.profile.Profile.{Profile}
use Rattle.sata_disk.specs.{Hearing.{asked_of, fis_heard, is_command, register_unheard}, Sending.{IsFis, IsOut, out_at, part_at}, State.DiskState}
use Rattle.sata_disk.specs.{State.{commands as line_of, new_disk}, declared.{out.Out.Out, unheard.Unheard.{Unheard, TheVariants.{Busy, InReset}}}}
use Rattle.sata_disk.specs.declared.out.Out.TheVariants as out
use Rattle.sata_disk_books.specs.{Books.{books_after, page_in}, Fises.AreFises}
use Rattle.sata_disk_books.proofs.Door.{IsQuietCall, data_stage, loud_at, of_case}
use Rattle.sata_disk_laws.specs.{Calls.{Answers, AreCalls, Asks, Call, Hears, IsCall, Plugs, Sends, Starts, after_call, steps_of}, Laws.reached}
use Rattle.sata_disk_laws.specs.{Laws.seen_in, Once.{ForLast, ForNothing, ForSignature, Host, IsDataAt, IsDue, IsFilling, IsOutDue, OpenIsUnderWay}}
use Rattle.sata_disk_laws.specs.Once.{Wait, announced, command_given, control_given, data_got_by, fis_given, host_after, host_of, is_queued_code}
use Rattle.sata_disk_laws.specs.Once.{new_host, none_open, out_got, place_in, reply_got, unheard_of, waits_for_nothing}
use Rattle.machine_theorem.specs.InTurn.{AreKeptOn, IsKeptOn, answered_in, answers_one, heard_in, hears_one, is_answer, is_register}
use Rattle.machine_theorem.specs.{SingleNumbers.{AllHearSingle, IsClear, SingleDataAreCounted, asks_queued, since_after, since_by}, Tags.once_if}
use Rattle.machine_theorem.proofs.Answered as answered
use Rattle.machine_theorem.proofs.Answered.{Counted, answered_both, asks_it, begins, data_held, disk, for_nothing, heard_both, host, host_more}
use Rattle.machine_theorem.proofs.{Answered.{no_data, none_under, one_more, out_over, waiting, walk}, SentSingle.{Behind, HasSent, data_sent}}
use Rattle.machine_theorem.proofs.{SentSingle.{page_then, quiet_sent, takes_sent}, TagAsked.{Outcome, outcome, Outcome.{Nothing, Taken}}}
use Rattle.machine_theorem.proofs.{TagCounts.{due_at, first_calls, held_of_taken}, TagKept.{IsNoFis, StepNone, call_held, call_takes, held_at}}
use Rattle.machine_theorem.proofs.{TagKept.others_none, Transferring.{IsTransferAsked, Works, call_so, hears_moves, owes_no_page, rest_calls}}

pub record Laws : Type 0 where
  pub answered : answered.Laws
  pub under_way : OpenIsUnderWay

-- ---- a FIS

-- what it says since the last answer
abbrev Says : Out → ℕ → ℕ → Type 0
Says (out.Data p n) t u = u ≡ t + n
Says (out.Page p) t u = Unit {0}
Says o t u = (is_answer o ≡ true → u ≡ 0) × (is_answer o ≡ false → u ≡ t)

reply_says : (r : Reply) (b : List ℕ) (t : ℕ) → Shows r b → (is_register r ≡ true → since_by (seen b) t ≡ 0) × (is_register r ≡ false → since_by (seen b) t ≡ t)
reply_says replies.Signature b t is = (λ e. ap (λ x. since_by x t) is.viewed, λ e. absurd (true≢false e))
reply_says replies.Accepted b t is = (λ e. ap (λ x. since_by x t) is.viewed, λ e. absurd (true≢false e))
reply_says replies.Done b t is = (λ e. ap (λ x. since_by x t) is.viewed, λ e. absurd (true≢false e))
reply_says replies.Active b t is = (λ e. ap (λ x. since_by x t) is.viewed, λ e. absurd (true≢false e))
reply_says replies.Healthy b t is = (λ e. ap (λ x. since_by x t) is.viewed, λ e. absurd (true≢false e))
reply_says (replies.Failed f) b t is = (λ e. ap (λ x. since_by x t) is.viewed, λ e. absurd (true≢false e))
reply_says (replies.Ends tags) b t is = (λ e. absurd (false≢true e), λ e. ap (λ x. since_by x t) is.viewed)
reply_says (replies.Aborts error) b t is = (λ e. absurd (false≢true e), λ e. ap (λ x. since_by x t) is.viewed)
reply_says (replies.SetUp s) b t is = (λ e. absurd (false≢true e), λ e. ap (λ x. since_by x t) is.viewed)
reply_says replies.Activate b t is = (λ e. absurd (false≢true e), λ e. ap (λ x. since_by x t) is.viewed)
reply_says (replies.Announce a) b t is = (λ e. absurd (false≢true e), λ e. ap (λ x. since_by x t) is.viewed)

data_size : (d : DiskState) (p n : ℕ) (x : Option Moment) → Some (out.Data p n) ≡ out_at d p x → n ≡ length (part_at x)
data_size d p n None e = absurd (cc)
data_size d p n (Some m) e = (data_stage d p n m.command m.done m.bytes m.sent m.stage e).1

part_size : (part b : List ℕ) → Carries part b → length b - 4 ≡ length part
part_size part b is = ap (λ (x : List ℕ). length x - 4) is.0 ∙ omega arith

out_says : (d : DiskState) (o : Out) (b : List ℕ) (t : ℕ) → IsOut d (Some o) → IsFis d o b → Says o t (since_by (seen b) t)
out_says d (out.Own r) b t is fis = reply_says r b t fis
out_says d (out.Beside r) b t is fis = reply_says r b t fis
out_says d (out.Of p r) b t is fis = reply_says r b t fis
out_says d (out.Ends tags) b t is fis = reply_says (replies.Ends tags) b t fis
out_says d (out.Page p) b t is fis = tt
out_says d (out.Data p n) b t is fis =
    ap (λ x. since_by x t) fis.1
    ∙ ap (λ (k : ℕ). t + k) (part_size _ b fis ∙ sym (data_size d p n (command_at (line_of d) p) is.3))

-- ---- no queued command is open

abbrev pub IsShut : Host → Type 0
IsShut h = (tag : ℕ) → tag < 32 → h.open_at tag ≡ false

announced_shut : (h : Host) (last : Bool) → IsShut h → IsShut (announced h last)
announced_shut h true shut = shut
announced_shut h false shut = shut

both_false : (a b : Bool) → b ≡ false → (a && b) ≡ false
both_false true b e = e
both_false false b e = refl

reply_shut : (h : Host) (r : Reply) → IsShut h → IsShut (reply_got h r)
reply_shut h replies.Signature shut = shut
reply_shut h replies.Accepted shut = shut
reply_shut h replies.Done shut = λ tag low. both_false (not (tag == 32)) (h.open_at tag) (shut tag low)
reply_shut h replies.Active shut = λ tag low. both_false (not (tag == 32)) (h.open_at tag) (shut tag low)
reply_shut h replies.Healthy shut = λ tag low. both_false (not (tag == 32)) (h.open_at tag) (shut tag low)
reply_shut h (replies.Failed f) shut = λ tag low. refl
reply_shut h (replies.Ends tags) shut = λ tag low. both_false _ (h.open_at tag) (shut tag low)
reply_shut h (replies.Aborts error) shut = λ tag low. refl
reply_shut h (replies.Announce a) shut = announced_shut h (a.to_host && a.last) shut
reply_shut h other shut = shut

data_shut : (h : Host) (w : Wait) → IsShut h → IsShut (data_got_by h w)
data_shut h ForLast shut = λ tag low. both_false (not (tag == 32)) (h.open_at tag) (shut tag low)
data_shut h other shut = shut

out_shut : (h : Host) (o : Out) → IsShut h → IsShut (out_got h o)
out_shut h (out.Own r) shut = reply_shut h r shut
out_shut h (out.Beside r) shut = reply_shut h r shut
out_shut h (out.Of p r) shut = reply_shut h r shut
out_shut h (out.Ends tags) shut = reply_shut h (replies.Ends tags) shut
out_shut h (out.Page p) shut = data_shut h h.waits shut
out_shut h (out.Data p n) shut = data_shut h h.waits shut

not_high : (tag : ℕ) → tag < 32 → (tag == 32) ≡ false
not_high tag low = by (tag == 32) refl
  where
    by : (b : Bool) → (tag == 32) ≡ b → b ≡ false
    by false e = refl
    by true e = absurd (let same = eqb-true tag 32 e in omega (arith, same, low))

opened_shut : (a b : Bool) → a ≡ false → b ≡ false → (a || b) ≡ false
opened_shut true b e f = absurd (cc)
opened_shut false b e f = f

command_shut : (h : Host) (place : ℕ) (o : Option Unheard) → place ≡ 32 → IsShut h → IsShut (command_given h place o)
command_shut h place None at shut =
    λ tag low. opened_shut (tag == place) (h.open_at tag) (ap (λ (q : ℕ). tag == q) at ∙ not_high tag low) (shut tag low)
command_shut h place (Some why) at shut = shut

cleared_shut : (h : Host) (b : Bool) → IsShut h → IsShut (if b then record { open_at = none_open; waits = ForSignature; in_reset = false } else h)
cleared_shut h true shut = λ tag low. refl
cleared_shut h false shut = shut

control_shut : (h : Host) (srst : Bool) → IsShut h → IsShut (control_given h srst)
control_shut h true shut = λ tag low. refl
control_shut h false shut = cleared_shut h h.in_reset shut

single_place : (f : List ℕ) (b : Bool) → is_queued_code (field H2d H2dCommand f) ≡ b → b ≡ false → place_in f ≡ 32
single_place f b e none = ap (λ (x : Bool). if x then field H2d Count f % 256 / 8 else 32) (e ∙ none)

register_shut : (h : Host) (f : List ℕ) (b : Bool) → (b && is_queued_code (field H2d H2dCommand f)) ≡ false → IsShut h
    → IsShut (if b then command_given h (place_in f) (unheard_of h) else control_given h (resets f))
register_shut h f true none shut = command_shut h (place_in f) (unheard_of h) (single_place f (is_queued_code (field H2d H2dCommand f)) refl none) shut
register_shut h f false none shut = control_shut h (resets f) shut

fis_shut : (h : Host) (r : Result Fis FisFault) → asks_queued r ≡ false → IsShut h → IsShut (fis_given h r)
fis_shut h (Ok (view.RegH2D f)) none shut = register_shut h f (is_command f) none shut
fis_shut h (Ok other) none shut = shut
fis_shut h (Err fault) none shut = shut

-- nor behind calls by which none is heard
pub calls_shut : (calls : List Call) (h : Host) → AllHearSingle calls → IsShut h → IsShut (host_of h calls)
unfolding host_of
calls_shut [] h single shut = shut
calls_shut (Hears f ∷ later) h single shut = calls_shut later (fis_given h (seen f)) single.1 (fis_shut h (seen f) single.0 shut)
calls_shut (Sends o ∷ later) h single shut = calls_shut later (out_got h o) single.1 (out_shut h o shut)
calls_shut (Plugs ∷ later) h single shut = calls_shut later (host_after h Plugs) single.1 (λ tag low. refl)
calls_shut (Starts x ∷ later) h single shut = calls_shut later h single.1 shut
calls_shut (Asks r ∷ later) h single shut = calls_shut later h single.1 shut
calls_shut (Answers n a ∷ later) h single shut = calls_shut later h single.1 shut

-- Data are of the command that is not queued
pub data_place : (h : Host) (place n : ℕ) → IsShut h → IsOutDue h (out.Data place n) → place ≡ 32
data_place h place n shut due = by (nat_lt place 32) due
  where
    by : (b : Bool) → IsDataAt h place b → place ≡ 32
    by true queued = absurd (false≢true (sym (shut place queued.0) ∙ queued.1))
    by false single = single.0

-- so nothing goes of one
none_tagged : (h : Host) (tag : ℕ) → IsShut h → tag < 32 → h.open_at tag ≡ true → ⊥
none_tagged h tag shut low up = false≢true (sym (shut tag low) ∙ up)

no_set_up : (h : Host) (r : Reply) (s : _) → IsShut h → r ≡ replies.SetUp s → IsDue h r → ⊥
no_set_up h r s shut is due =
    let queued = subst (λ (x : Reply). IsDue h x) is due in
    none_tagged h s.tag shut queued.0 queued.1

quiet_of : (d : DiskState) (h : Host) (p : ℕ) (r : Reply) (x : Option Moment) → IsShut h → IsDue h r → Some (out.Of p r) ≡ out_at d p x → loud_at x Goes ≡ false
quiet_of d h p r None shut due e = refl
quiet_of d h p r (Some m) shut due e = elim (of_case d p r m.command m.done m.bytes m.sent m.stage e) [
  | inl sets ↦ absurd (no_set_up h r _ shut sets.2 due)
  | inr none ↦ none.0
]

-- ---- the calls of a disk, behind some

module _ (laws : Laws) (p : Profile) (limit : ℕ) (base : List Call) where
  abbrev calls_to : List Call → Type 0
  calls_to done = AreCalls (new_disk p limit) (base ++ done)

  abbrev host_at : List Call → Host
  host_at done = host laws.answered p limit base done

  abbrev disk_at : List Call → DiskState
  disk_at done = disk laws.answered p limit base done

  abbrev held : List Call → Command → Type 0
  held done c = held_at (line_of (disk_at done)) 32 ≡ Some c

  abbrev InTurn : List Call → Type 0
  InTurn done = Counted laws.answered p limit base done

  abbrev IsFew : List Call → Type 0
  IsFew done = heard_in done ≤ suc (answered_in done)

  record Single (done : List Call) (t : ℕ) : Type 0 where
    works : Works (disk_at done).front
    count : HasSent (page_in p limit (base ++ done) 32) t

  record Numbers (done : List Call) (t : ℕ) : Type 0 where
    shut : IsShut (host_at done)
    idle : heard_in done ≤ answered_in done → t ≡ 0
    single : (c : Command) → held done c → IsFew done → Single done t

  -- where all were answered the host waits for nothing
  all_answered : (done : List Call) → InTurn done → heard_in done ≤ answered_in done → (host_at done).waits ≡ ForNothing
  all_answered done q all = let fewer = q.fewer in for_nothing (host_at done).waits (omega (arith, fewer, all))

  none_then : (done : List Call) → calls_to done → InTurn done → heard_in done ≤ answered_in done → (c : Command) → held done c → ⊥
  none_then done are q all c h = none_under laws.answered p limit base done are (all_answered done q all) c h

  held_back : (done : List Call) (x : Call) (c : Command) → StepNone (steps_of (disk_at done) x) → held (done ++ x ∷ []) c → held done c
  held_back done x c none h =
      call_held (disk_at done) x 32 c none (ap (λ (d : DiskState). held_at (line_of d) 32) (sym (one_more laws.answered p limit base done x)) ∙ h)

  abbrev books_at : List Call → Books
  books_at done = books_after no_books (seen_in p limit (base ++ done))

  page_from : (done : List Call) (x : Call) (t : ℕ) → Behind (disk_at done) (books_at done) x t
      → HasSent (page_in p limit (base ++ (done ++ x ∷ [])) 32) t
  page_from done x t now =
      subst (λ (l : List Call). HasSent (page_in p limit l 32) t) (append_assoc base done (x ∷ []))
      (subst (λ (y : Option Page). HasSent y t) (sym (page_then p limit (base ++ done) x)) now)

  works_from : (done : List Call) (x : Call) → Works (after_call (disk_at done) x).front → Works (disk_at (done ++ x ∷ [])).front
  works_from done x w = subst (λ (d : DiskState). Works d.front) (sym (one_more laws.answered p limit base done x)) w

  is_call : (done : List Call) (x : Call) → calls_to (done ++ x ∷ []) → IsCall (disk_at done) x
  is_call done x are =
      (rest_calls (base ++ done) (x ∷ []) (new_disk p limit) (subst (AreCalls (new_disk p limit)) (sym (append_assoc base done (x ∷ []))) are)).0

  first_are : (done : List Call) (x : Call) → calls_to (done ++ x ∷ []) → calls_to done
  first_are done x are = first_calls (base ++ done) (x ∷ []) (new_disk p limit) (subst (AreCalls (new_disk p limit)) (sym (append_assoc base done (x ∷ []))) are)

  is_due : (done : List Call) (o : Out) → calls_to (done ++ Sends o ∷ []) → IsOutDue (host_at done) o
  is_due done o are =
      due_at (base ++ done) (Sends o) new_host
      (laws.answered.single p limit ((base ++ done) ++ Sends o ∷ []) (subst (AreCalls (new_disk p limit)) (sym (append_assoc base done (Sends o ∷ []))) are))

  heard_more : (done : List Call) (x : Call) → heard_in done ≤ heard_in (done ++ x ∷ [])
  heard_more done x = let both = heard_both done (x ∷ []) in omega (arith, both)

  -- ---- a call that takes no command, sends no Data, and answers none

  quiet_call : (done : List Call) (x : Call) (t : ℕ) → calls_to (done ++ x ∷ []) → InTurn done → IsKeptOn x → answers_one x ≡ 0
      → StepNone (steps_of (disk_at done) x) → IsQuietCall (disk_at done) x → IsShut (host_after (host_at done) x) → Numbers done t
      → Numbers (done ++ x ∷ []) t
  quiet_call done x t are q on none steps quiet shut n = record {
    shut = subst IsShut (sym (host_more laws.answered p limit base done x)) shut;
    idle = λ all.
        let more = heard_more done x in
        let said = answered_both done (x ∷ []) in
        n.idle (omega (arith, all, more, said, none));
    single = λ c h few. by (hears_one x) refl c (held_back done x c steps h) few;
  }
    where
      by : (k : ℕ) → hears_one x ≡ k → (c : Command) → held done c → IsFew (done ++ x ∷ []) → Single (done ++ x ∷ []) t
      by zero e c was few =
          let heard = heard_both done (x ∷ []) in
          let said = answered_both done (x ∷ []) in
          let old = n.single c was (omega (arith, few, heard, said, none, e)) in
          record {
            works = works_from done x (call_so (disk_at done) x (is_call done x are) on e none old.works);
            count = page_from done x t (quiet_sent (disk_at done) (books_at done) x t (is_call done x are) quiet steps old.count);
          }
      by (suc k) e c was few =
          let heard = heard_both done (x ∷ []) in
          let said = answered_both done (x ∷ []) in
          absurd (none_then done (first_are done x are) q (omega (arith, few, heard, said, none, e)) c was)

  -- ---- it sends

  answer_call : (done : List Call) (o : Out) (t u : ℕ) → calls_to (done ++ Sends o ∷ []) → is_answer o ≡ true → u ≡ 0 → Numbers done t
      → Numbers (done ++ Sends o ∷ []) u
  answer_call done o t u are answer zero_now n =
      let x : Call = Sends o in
      let due : IsOutDue (host_at done) o = is_due done o are in
      record {
        shut = subst IsShut (sym (host_more laws.answered p limit base done x)) (out_shut (host_at done) o n.shut);
        idle = λ all. zero_now;
        single = λ c h few.
            absurd (none_under laws.answered p limit base (done ++ x ∷ []) are
            (ap (λ (k : Host). k.waits) (host_more laws.answered p limit base done x) ∙ (out_over (host_at done) o due).free answer) c h);
      }

  -- Data go only while the host waits for them
  idle_fills : (done : List Call) (o : Out) → InTurn done → is_answer o ≡ false → IsFilling (host_at done)
      → heard_in (done ++ Sends o ∷ []) ≤ answered_in (done ++ Sends o ∷ []) → ⊥
  idle_fills done o q none fills all =
      let heard = heard_both done (Sends o ∷ []) in
      let said = answered_both done (Sends o ∷ []) in
      let zero_now = ap once_if none in
      no_data (host_at done).waits (all_answered done q (omega (arith, all, heard, said, zero_now))) fills.1

  few_back : (done : List Call) (o : Out) → is_answer o ≡ false → IsFew (done ++ Sends o ∷ []) → IsFew done
  few_back done o none few =
      let heard = heard_both done (Sends o ∷ []) in
      let said = answered_both done (Sends o ∷ []) in
      let zero_now = ap once_if none in
      omega (arith, few, heard, said, zero_now)

  data_at : (done : List Call) (len t u : ℕ) → calls_to (done ++ Sends (out.Data 32 len) ∷ []) → InTurn done → IsFilling (host_at done) → u ≡ t + len
      → Numbers done t → Numbers (done ++ Sends (out.Data 32 len) ∷ []) u
  data_at done len t u are q fills more n =
      let o : Out = out.Data 32 len in
      let x : Call = Sends o in
      record {
        shut = subst IsShut (sym (host_more laws.answered p limit base done x)) (out_shut (host_at done) o n.shut);
        idle = λ all. absurd (idle_fills done o q refl fills all);
        single = λ c h few.
            let old = n.single c (held_back done x c (others_none (disk_at done) x tt) h) (few_back done o refl few) in
            let next : IsOut (disk_at done) (Some o) = is_call done x are in
            record {
              works = works_from done x (call_so (disk_at done) x next tt refl refl old.works);
              count = page_from done x u (subst (λ (k : ℕ). Behind (disk_at done) (books_at done) x k) (sym more) (data_sent (disk_at done) (books_at done) len t next old.count));
            };
      }

  data_call : (done : List Call) (place len t u : ℕ) → calls_to (done ++ Sends (out.Data place len) ∷ []) → InTurn done → u ≡ t + len → Numbers done t
      → Numbers (done ++ Sends (out.Data place len) ∷ []) u
  data_call done place len t u are q more n = by (nat_lt place 32) refl (is_due done (out.Data place len) are)
    where
      by : (low : Bool) → nat_lt place 32 ≡ low → IsDataAt (host_at done) place low → Numbers (done ++ Sends (out.Data place len) ∷ []) u
      by true e due = absurd (none_tagged (host_at done) place n.shut due.0 due.1)
      by false e due =
          subst (λ (k : ℕ). calls_to (done ++ Sends (out.Data k len) ∷ []) → Numbers (done ++ Sends (out.Data k len) ∷ []) u) (sym due.0)
          (λ here. data_at done len t u here q due.1 more n) are

  page_call : (done : List Call) (page : _) (t u : ℕ) → calls_to (done ++ Sends (out.Page page) ∷ []) → InTurn done → Numbers done t
      → Numbers (done ++ Sends (out.Page page) ∷ []) u
  page_call done page t u are q n =
      let o : Out = out.Page page in
      let x : Call = Sends o in
      record {
        shut = subst IsShut (sym (host_more laws.answered p limit base done x)) (out_shut (host_at done) o n.shut);
        idle = λ all. absurd (idle_fills done o q refl (is_due done o are) all);
        single = λ c h few.
            let old = n.single c (held_back done x c (others_none (disk_at done) x tt) h) (few_back done o refl few) in
            absurd (owes_no_page (disk_at done).front.task page old.works.task (is_call done x are));
      }

  plain_call : (done : List Call) (o : Out) (t u : ℕ) → calls_to (done ++ Sends o ∷ []) → InTurn done
      → (is_answer o ≡ true → u ≡ 0) × (is_answer o ≡ false → u ≡ t) → (is_answer o ≡ false → IsQuietCall (disk_at done) (Sends o)) → Numbers done t
      → Numbers (done ++ Sends o ∷ []) u
  plain_call done o t u are q says quiet n = by (is_answer o) refl
    where
      by : (b : Bool) → is_answer o ≡ b → Numbers (done ++ Sends o ∷ []) u
      by true e = answer_call done o t u are e (says.0 e) n
      by false e =
          subst (λ (k : ℕ). Numbers (done ++ Sends o ∷ []) k) (sym (says.1 e))
          (quiet_call done (Sends o) t are q tt (ap once_if e) (others_none (disk_at done) (Sends o) tt) (quiet e) (out_shut (host_at done) o n.shut) n)

  sends : (done : List Call) (o : Out) (t u : ℕ) → calls_to (done ++ Sends o ∷ []) → InTurn done → Says o t u → Numbers done t → Numbers (done ++ Sends o ∷ []) u
  sends done (out.Own r) t u are q says n = plain_call done (out.Own r) t u are q says (λ e. tt) n
  sends done (out.Beside r) t u are q says n = plain_call done (out.Beside r) t u are q says (λ e. tt) n
  sends done (out.Ends tags) t u are q says n = plain_call done (out.Ends tags) t u are q says (λ e. tt) n
  sends done (out.Of place r) t u are q says n =
      let next : IsOut (disk_at done) (Some (out.Of place r)) = is_call done (Sends (out.Of place r)) are in
      plain_call done (out.Of place r) t u are q says
      (λ e. quiet_of (disk_at done) (host_at done) place r (command_at (line_of (disk_at done)) place) n.shut (is_due done (out.Of place r) are).0 next.3) n
  sends done (out.Page page) t u are q says n = page_call done page t u are q n
  sends done (out.Data place len) t u are q says n = data_call done place len t u are q says n

  -- ---- it hears

  taken_call : (done : List Call) (bytes f : List ℕ) (k : Command) (t : ℕ) → calls_to (done ++ Hears bytes ∷ []) → InTurn done
      → IsShut (host_after (host_at done) (Hears bytes)) → seen bytes ≡ Ok (view.RegH2D f) → is_command f ≡ true
      → steps_of (disk_at done) (Hears bytes) ≡ engine.Takes k ∷ [] → (move : Move) → asked_of (disk_at done) f ≡ ask.Moves move → k ≡ move.command
      → Numbers done t → Numbers (done ++ Hears bytes ∷ []) t
  taken_call done bytes f k t are q shut viewed is steps move asks same n =
      let x : Call = Hears bytes in
      record {
        shut = subst IsShut (sym (host_more laws.answered p limit base done x)) shut;
        idle = λ all.
            let more = heard_more done x in
            let said = answered_both done (x ∷ []) in
            n.idle (omega (arith, all, more, said));
        single = λ c h few. now c h few;
      }
    where
      all_of : IsFew (done ++ Hears bytes ∷ []) → heard_in done ≤ answered_in done
      all_of few =
          let heard = heard_both done (Hears bytes ∷ []) in
          let said = answered_both done (Hears bytes ∷ []) in
          let one = ap once_if (asks_it laws.answered p limit base bytes f viewed is) in
          omega (arith, few, heard, said, one)

      free : heard_in done ≤ answered_in done → register_unheard (disk_at done) f ≡ None
      free all =
          (laws.under_way p limit (base ++ done) (first_are done (Hears bytes) are)).heard f is
          ∙ ap (λ (b : Bool). if b then Some InReset else (if waits_for_nothing (host_at done).waits then None else Some Busy)) q.clear
          ∙ ap (λ (w : Wait). if waits_for_nothing w then None else Some Busy) (all_answered done q all)

      none_going : heard_in done ≤ answered_in done → is_under_way (command_at (line_of (disk_at done)) 32) ≡ false
      none_going all = by (is_under_way (command_at (line_of (disk_at done)) 32)) refl
        where
          by : (b : Bool) → is_under_way (command_at (line_of (disk_at done)) 32) ≡ b → b ≡ false
          by true e =
              let it = held_of_taken (command_at (line_of (disk_at done)) 32) e in
              absurd (none_then done (first_are done (Hears bytes) are) q all it.0 it.1)
          by false e = refl

      new : heard_in done ≤ answered_in done → k.place ≡ 32 → Single (done ++ Hears bytes ∷ []) t
      new all at =
          let moves : IsTransferAsked (asked_of (disk_at done) f) =
          subst IsTransferAsked (sym asks) (ap (λ (c : Command). nat_lt c.place 32) (sym same) ∙ ap (λ (q : ℕ). nat_lt q 32) at) in
          record {
            works = works_from done (Hears bytes)
                (subst (λ (r : Result Fis FisFault). Works (fis_heard (disk_at done) r).front) (sym viewed) (hears_moves (disk_at done) f is moves (free all)));
            count = page_from done (Hears bytes) t
                (subst (λ (j : ℕ). Behind (disk_at done) (books_at done) (Hears bytes) j) (sym (n.idle all))
                (takes_sent (disk_at done) (books_at done) (Hears bytes) k steps (none_going all) at));
          }

      now : (c : Command) → held (done ++ Hears bytes ∷ []) c → IsFew (done ++ Hears bytes ∷ []) → Single (done ++ Hears bytes ∷ []) t
      now c h few =
          elim (call_takes (disk_at done) (Hears bytes) k 32 c steps
          (ap (λ (d : DiskState). held_at (line_of d) 32) (sym (one_more laws.answered p limit base done (Hears bytes))) ∙ h)) [
            | inl was ↦ absurd (none_then done (first_are done (Hears bytes) are) q (all_of few) c was)
            | inr it ↦ new (all_of few) it.1
          ]

  hears : (done : List Call) (bytes : List ℕ) (t : ℕ) → calls_to (done ++ Hears bytes ∷ []) → InTurn done → IsKeptOn (Hears bytes) → asks_queued (seen bytes) ≡ false
      → Numbers done t → Numbers (done ++ Hears bytes ∷ []) t
  hears done bytes t are q on none n = by (outcome (disk_at done) (seen bytes))
    where
      shut : IsShut (host_after (host_at done) (Hears bytes))
      shut = fis_shut (host_at done) (seen bytes) none n.shut

      by : Outcome (disk_at done) (seen bytes) → Numbers (done ++ Hears bytes ∷ []) t
      by (Nothing steps) = quiet_call done (Hears bytes) t are q on refl steps tt shut n
      by (Taken f k viewed is place steps move asks same) = taken_call done bytes f k t are q shut viewed is steps move asks same n

  -- ---- all of them

  still_call : (done : List Call) (x : Call) (t : ℕ) → calls_to (done ++ x ∷ []) → InTurn done → IsKeptOn x → answers_one x ≡ 0 → IsNoFis x
      → IsQuietCall (disk_at done) x → host_after (host_at done) x ≡ host_at done → Numbers done t → Numbers (done ++ x ∷ []) t
  still_call done x t are q on none quiet loud same n =
      quiet_call done x t are q on none (others_none (disk_at done) x quiet) loud (subst IsShut (sym same) n.shut) n

  record Next (done : List Call) (x : Call) (later : List Call) (fises : List (List ℕ)) : Type 0 where
    one : calls_to (done ++ x ∷ [])
    are : calls_to ((done ++ x ∷ []) ++ later)
    turn : InTurn (done ++ x ∷ [])
    fis : AreFises (disk_at (done ++ x ∷ [])) later fises

  next_of : (done : List Call) (x : Call) (later : List Call) (fises : List (List ℕ)) → calls_to (done ++ x ∷ later) → IsKeptOn x → InTurn done
      → AreFises (after_call (disk_at done) x) later fises → Next done x later fises
  next_of done x later fises are on q fis =
      let all : calls_to ((done ++ x ∷ []) ++ later) =
      subst (λ (l : List Call). AreCalls (new_disk p limit) (base ++ l)) (sym (append_assoc done (x ∷ []) later)) are in
      let whole : AreCalls (new_disk p limit) ((base ++ (done ++ x ∷ [])) ++ later) =
      subst (AreCalls (new_disk p limit)) (sym (append_assoc base (done ++ x ∷ []) later)) all in
      let one : calls_to (done ++ x ∷ []) = first_calls (base ++ (done ++ x ∷ [])) later (new_disk p limit) whole in
      record {
        one = one;
        are = all;
        turn = walk laws.answered p limit base (x ∷ []) done one (on, tt) q;
        fis = subst (λ (d : DiskState). AreFises d later fises) (sym (one_more laws.answered p limit base done x)) fis;
      }

  back : (done : List Call) (x : Call) (later : List Call) (u : ℕ) → Numbers ((done ++ x ∷ []) ++ later) u → Numbers (done ++ x ∷ later) u
  back done x later u n = subst (λ (l : List Call). Numbers l u) (append_assoc done (x ∷ []) later) n

  numbers : (later done : List Call) (t : ℕ) (fises : List (List ℕ)) → calls_to (done ++ later) → AreKeptOn later → AllHearSingle later
      → AreFises (disk_at done) later fises → InTurn done → Numbers done t → Numbers (done ++ later) (since_after t fises)
  unfolding since_after
  numbers [] done t fises are on single fis q n =
      subst (λ (l : List (List ℕ)). Numbers (done ++ []) (since_after t l)) (sym fis)
      (subst (λ (l : List Call). Numbers l t) (sym (append-nil done)) n)
  numbers (Plugs ∷ later) done t fises are on single fis q n = absurd on.0
  numbers (Sends o ∷ later) done t fises are on single fis q n =
      let k = next_of done (Sends o) later fis.rest are on.0 q fis.later in
      let u : ℕ = since_by (seen fis.fis) t in
      let n' = sends done o t u k.one q (out_says (disk_at done) o fis.fis t (is_call done (Sends o) k.one) fis.is) n in
      subst (λ (l : List (List ℕ)). Numbers (done ++ Sends o ∷ later) (since_after t l)) (sym fis.are)
      (back done (Sends o) later (since_after u fis.rest) (numbers later (done ++ Sends o ∷ []) u fis.rest k.are on.1 single.1 k.fis k.turn n'))
  numbers (Hears bytes ∷ later) done t fises are on single fis q n =
      let k = next_of done (Hears bytes) later fises are on.0 q fis in
      back done (Hears bytes) later (since_after t fises)
      (numbers later (done ++ Hears bytes ∷ []) t fises k.are on.1 single.1 k.fis k.turn (hears done bytes t k.one q on.0 single.0 n))
  numbers (Starts x ∷ later) done t fises are on single fis q n =
      let k = next_of done (Starts x) later fises are on.0 q fis in
      back done (Starts x) later (since_after t fises)
      (numbers later (done ++ Starts x ∷ []) t fises k.are on.1 single.1 k.fis k.turn (still_call done (Starts x) t k.one q tt refl tt tt refl n))
  numbers (Asks r ∷ later) done t fises are on single fis q n =
      let k = next_of done (Asks r) later fises are on.0 q fis in
      back done (Asks r) later (since_after t fises)
      (numbers later (done ++ Asks r ∷ []) t fises k.are on.1 single.1 k.fis k.turn (still_call done (Asks r) t k.one q tt refl tt tt refl n))
  numbers (Answers number a ∷ later) done t fises are on single fis q n =
      let k = next_of done (Answers number a) later fises are on.0 q fis in
      back done (Answers number a) later (since_after t fises)
      (numbers later (done ++ Answers number a ∷ []) t fises k.are on.1 single.1 k.fis k.turn
      (still_call done (Answers number a) t k.one q tt refl tt tt refl n))

  start : AreCalls (new_disk p limit) base → IsClear (host_of new_host base) → InTurn [] → Numbers [] 0
  start are clear q = record {
    shut = λ tag low. ap (λ (l : List Call). (host_of new_host l).open_at tag) (append-nil base) ∙ clear.none tag low;
    idle = λ all. refl;
    single = λ c h few. absurd (none_then [] (subst (AreCalls (new_disk p limit)) (sym (append-nil base)) are) q (omega arith) c h);
  }

-- ---- the law

pub single_data_are_counted : Laws → SingleDataAreCounted
single_data_are_counted laws p limit base calls fises are clear on single fis few len is page books =
    let first : AreCalls (new_disk p limit) base = first_calls base calls (new_disk p limit) are in
    let q = begins laws.answered p limit base first clear.idle in
    let fis_at = subst (λ (l : List Call). AreFises (reached p limit l) calls fises) (sym (append-nil base)) fis in
    let n = numbers laws p limit base calls [] 0 fises are on single fis_at q (start laws p limit base first clear q) in
    let c = data_held (reached p limit (base ++ calls)) 32 len (command_at (line_of (reached p limit (base ++ calls))) 32) is.3 in
    (n.single c.0 c.1 few).count page books
