-- Behind the PIO Setup FIS of a last block no Data of a queued command go until another command is heard.
use Rattle.std.proofs.Common.{◌≡◌, ◌⊎◌, ℕ, true, false, List, [], ◌∷◌, ◌++◌, drop, Some, None, refl, sym, ap, ◌∙◌, subst, inl, inr}
use Rattle.std.proofs.lemmas.Bool.{false≢true, ltb-true}
use Rattle.std.specs.Prelude.{Option, Bool, nat_lt, if◌then◌else◌, Result, Ok}
use Rattle.fis_view.specs.{Bits.bits, Seen.seen as view_seen, Table.{field, places, spelled}, declared.view.{Fis.Fis, FisFault.FisFault}}
use Rattle.fis_view.specs.declared.view.Fis.TheVariants as view
use Rattle.block_command.specs.Moments.{Moment}
use Rattle.block_disk.specs.Table.{is_under_way}
use Rattle.block_command.proofs.Door.{at as moment}
use Rattle.block_queue.specs.Line.{command_at}
use Rattle.ata_command.specs.Courses.{resets}
use Rattle.ata_command.specs.declared.control.Standing.TheVariants as stand
use Rattle.ata_front.specs.{Fronts.{controlled, heard_data, over, owed, said_by, standing_by}, declared.task.{Fault.Fault, Task.Task}}
use Rattle.ata_front.specs.declared.task.Trouble.{Trouble}
use Rattle.ata_front.specs.declared.task.Owed.TheVariants as owe
use Rattle.ata_front.specs.declared.task.Task.TheVariants as tasks
use Rattle.ata_reply.specs.declared.reply.Reply.{Reply}
use Rattle.ata_reply.specs.declared.reply.Reply.TheVariants as replies
use Rattle.disk_pages.specs.declared.profile.Profile.{Profile}
use Rattle.sata_disk.specs.{State.{DiskState, commands, is_taken, new_disk, tags_of}, Hearing.{command_told, command_unheard, is_command}}
use Rattle.sata_disk.specs.{Sending.{IsOut, out_at}, declared.{out.Out.Out, unheard.Unheard.TheVariants.{Busy, InReset}}}
use Rattle.sata_disk.specs.declared.out.Out.TheVariants as out
use Rattle.sata_disk_laws.specs.Calls as call
use Rattle.sata_disk_laws.specs.{Calls.{AreCalls, Call, act_steps, after_call, after_calls, fis_steps, steps_of}, Laws.reached, Once.AnswersAreSingle}
use Rattle.sata_disk_laws.specs.Once.{AreDue, ForEnd, ForLast, Host, IsCallDue, IsDataAt, IsHostOf, IsOutDue, OpenIsUnderWay, Wait, announced}
use Rattle.sata_disk_laws.specs.Once.{host_after, host_of, new_host, reply_got, unheard_of, waits_for_nothing}
use Rattle.sata_disk_laws.proofs.Door.{calls_after, calls_both}
use Rattle.sata_disk_books.specs.LastData.{HearNoCommand, HearsNoCommand, IsNoCommand, LastBlocksAreAlone, is_last_block, sets_up_last}
use Rattle.sata_disk_books.proofs.{Alone.{calls_alone, is_at_work, new_alone}, Asked.{Each, OfStep, ask_none, data_none, out_none, start_none}}
use Rattle.sata_disk_books.proofs.{Counted.data_stage, Lone.{NoTags, call_free, none}}

-- ## Lists of calls

pub first_calls : (xs ys : List Call) (d : DiskState) → AreCalls d (xs ++ ys) → AreCalls d xs
first_calls [] ys d are = tt
first_calls (x ∷ xs) ys d are = (are.0, first_calls xs ys (after_call d x) are.1)

pub rest_calls : (xs ys : List Call) (d : DiskState) → AreCalls d (xs ++ ys) → AreCalls (after_calls d xs) ys
unfolding after_calls
rest_calls [] ys d are = are
rest_calls (x ∷ xs) ys d are = rest_calls xs ys (after_call d x) are.1

pub host_then : (xs : List Call) (x : Call) (h : Host) → host_of h (xs ++ x ∷ []) ≡ host_after (host_of h xs) x
unfolding host_of
host_then [] x h = refl
host_then (y ∷ xs) x h = host_then xs x (host_after h y)

pub due_at : (xs : List Call) (x : Call) (h : Host) → AreDue h (xs ++ x ∷ []) → IsCallDue (host_of h xs) x
unfolding host_of
due_at [] x h due = due.0
due_at (y ∷ xs) x h due = due_at xs x (host_after h y) due.1

pub one_more : (p : Profile) (limit : ℕ) (done : List Call) (x : Call) → reached p limit (done ++ x ∷ []) ≡ after_call (reached p limit done) x
unfolding after_calls
one_more p limit done x = calls_after done (x ∷ []) (new_disk p limit)

-- ## A disk whose host waits is at work

-- a Register FIS that is a command
abbrev a_command : List ℕ
a_command = 0x27 ∷ 0x80 ∷ 0 ∷ 0 ∷ 0 ∷ 0 ∷ 0 ∷ 0 ∷ 0 ∷ 0 ∷ 0 ∷ 0 ∷ 0 ∷ 0 ∷ 0 ∷ 0 ∷ 0 ∷ 0 ∷ 0 ∷ 0 ∷ []

is_one : is_command a_command ≡ true
unfolding field places spelled bits
is_one = refl

busy_of : (h : Host) (w : Wait) → h.in_reset ≡ false → h.waits ≡ w → waits_for_nothing w ≡ false → unheard_of h ≡ Some Busy
busy_of h w clear is waits =
    ap (λ (b : Bool). if b then Some InReset else (if waits_for_nothing h.waits then None else Some Busy)) clear
    ∙ ap (λ (v : Wait). if waits_for_nothing v then None else Some Busy) is ∙ ap (λ (b : Bool). if b then None else Some Busy) waits

not_idle : (r : Bool) (x : Option Fault) (tags : ℕ) → command_unheard (if r then stand.Reset else standing_by tasks.Idle x tags) ≡ Some Busy → ⊥
not_idle true x tags e = cc
not_idle false None tags e = cc
not_idle false (Some f) tags e = cc

-- it is not idle
waited_for : (h : Host) (d : DiskState) (w : Wait) → IsHostOf h d → h.in_reset ≡ false → h.waits ≡ w → waits_for_nothing w ≡ false
    → d.front.task ≡ tasks.Idle → ⊥
waited_for h d w is clear waits busy idle =
    not_idle d.front.in_reset d.front.fault (tags_of (commands d))
    (ap (λ (t : Task). command_unheard (if d.front.in_reset then stand.Reset else standing_by t d.front.fault (tags_of (commands d)))) (sym idle)
    ∙ ap (λ (b : Bool). if b then command_unheard (if d.front.in_reset then stand.Reset else standing_by d.front.task d.front.fault (tags_of (commands d))) else None) (sym is_one)
    ∙ is.heard a_command is_one ∙ busy_of h w clear waits busy)

works_or : (t : Task) → owed t ≡ None → (t ≡ tasks.Idle → ⊥) → is_at_work t ≡ true
works_or tasks.Idle none idle = absurd (idle refl)
works_or (tasks.Owes r) none idle = absurd (cc)
works_or t none idle = refl

-- ## The PIO Setup FIS of a last block

last_waits : (h : Host) (r : Reply) → is_last_block r ≡ true → (reply_got h r).waits ≡ ForLast
last_waits h (replies.Announce a) last = ap (λ (b : Bool). (announced h b).waits) last
last_waits h other last = absurd (cc)

last_clear : (h : Host) (r : Reply) → is_last_block r ≡ true → (reply_got h r).in_reset ≡ h.in_reset
last_clear h (replies.Announce a) last = ap (λ (b : Bool). (announced h b).in_reset) last
last_clear h other last = absurd (cc)

last_due : (h : Host) (p : ℕ) (r : Reply) → IsOutDue h (out.Of p r) → is_last_block r ≡ true → h.waits ≡ ForEnd
last_due h p (replies.Announce a) due last = due.0.1
last_due h p other due last = absurd (cc)

owes_it : (t : Task) (r : Reply) → owed t ≡ Some (owe.Reply r) → is_last_block r ≡ true → (t ≡ tasks.Owes r) ⊎ (is_at_work t ≡ true)
owes_it (tasks.Owes x) r is last = inl (ap (λ (y : Reply). tasks.Owes y) (by is))
  where
    by : Some (owe.Reply x) ≡ Some (owe.Reply r) → x ≡ r
    by e = cc
owes_it (tasks.Announces p) r is last = inr refl
owes_it (tasks.Activates blocks) r is last = inr refl
owes_it t r is last = absurd (cc)

no_end : (b : Bool) (t : Trouble) → is_last_block (over b t) ≡ true → ⊥
no_end true t e = cc
no_end false t e = cc

module _ (single : AnswersAreSingle) (under : OpenIsUnderWay) (p : Profile) (limit : ℕ) where
  -- of itself
  own_works : (before : List Call) (r : Reply) → AreCalls (new_disk p limit) (before ++ call.Sends (out.Own r) ∷ [])
      → (host_of new_host before).in_reset ≡ false → is_last_block r ≡ true
      → IsOut (reached p limit before) (Some (out.Own r)) → is_at_work (reached p limit before).front.task ≡ true
  own_works before r are clear last is = elim (owes_it (reached p limit before).front.task r is last) [
    | inr works ↦ works
    | inl owes ↦
        let x : Call = call.Sends (out.Own r) in
        let h : Host = host_of new_host before in
        let now : host_of new_host (before ++ x ∷ []) ≡ reply_got h r = host_then before x new_host in
        let then' : reached p limit (before ++ x ∷ []) ≡ after_call (reached p limit before) x = one_more p limit before x in
        absurd (waited_for (reply_got h r) (after_call (reached p limit before) x) ForLast
        (subst (λ (k : Host). IsHostOf k (after_call (reached p limit before) x)) now (subst (IsHostOf (host_of new_host (before ++ x ∷ []))) then' (under p limit (before ++ x ∷ []) are)))
        (last_clear h r last ∙ clear) (last_waits h r last) refl (ap (λ (t : Task). (said_by (reached p limit before).front t).task) owes))
  ]

  works : (before : List Call) (o : Out) → AreCalls (new_disk p limit) (before ++ call.Sends o ∷ []) → (host_of new_host before).in_reset ≡ false
      → sets_up_last o ≡ true
      → IsOut (reached p limit before) (Some o) → is_at_work (reached p limit before).front.task ≡ true
  works before (out.Own r) are clear last is = own_works before r are clear last is
  works before (out.Of q r) are clear last is =
      let first : AreCalls (new_disk p limit) before = first_calls before (call.Sends (out.Of q r) ∷ []) (new_disk p limit) are in
      let due : IsOutDue (host_of new_host before) (out.Of q r) = due_at before (call.Sends (out.Of q r)) new_host (single p limit (before ++ call.Sends (out.Of q r) ∷ []) are) in
      works_or (reached p limit before).front.task is.0
      (λ idle. waited_for (host_of new_host before) (reached p limit before) ForEnd (under p limit before first) clear (last_due (host_of new_host before) q r due last) refl idle)
  works before (out.Beside r) are clear last is = absurd (no_end _ _ (ap is_last_block (sym is.2) ∙ last))
  works before other are clear last is = absurd (cc)

-- ## Calls that take none

control_none : (d : DiskState) (b : Bool) → Each (OfStep none) (act_steps d.engine (controlled d.front b).act)
control_none d true = (tt, tt)
control_none d false = tt

fis_none : (d : DiskState) (r : Result Fis FisFault) → IsNoCommand r → Each (OfStep none) (fis_steps d r)
fis_none d (Ok (view.RegH2D f)) quiet =
    subst (λ (b : Bool). Each (OfStep none) (act_steps d.engine (if b then command_told d f else controlled d.front (resets f)).act)) (sym quiet) (control_none d (resets f))
fis_none d (Ok (view.Payload f)) quiet = data_none none d (heard_data d.front.task) (drop 4 f)
fis_none d other quiet = tt

takes_none : (d : DiskState) (c : Call) → HearsNoCommand c → Each (OfStep none) (steps_of d c)
takes_none d call.Plugs quiet = (tt, tt)
takes_none d (call.Hears f) quiet = fis_none d (view_seen f) quiet
takes_none d (call.Starts x) quiet = start_none none x
takes_none d (call.Asks r) quiet = ask_none none r.place
takes_none d (call.Answers number a) quiet = (tt, tt)
takes_none d (call.Sends o) quiet = out_none none o

calls_free : (later : List Call) (d : DiskState) → HearNoCommand later → NoTags (commands d) → NoTags (commands (after_calls d later))
unfolding after_calls
calls_free [] d quiet free = free
calls_free (c ∷ later) d quiet free = calls_free later (after_call d c) quiet.1 (call_free d c (takes_none d c quiet.0) free)

-- ## Data

data_alive : (d : DiskState) (place n : ℕ) (x : Option Moment) → Some (out.Data place n) ≡ out_at d place x → is_under_way x ≡ true
data_alive d place n None e = absurd (cc)
data_alive d place n (Some m) e =
    ap (λ k. is_under_way (Some (moment m.command m.done m.bytes m.sent k))) (data_stage d place n m.command m.done m.bytes m.sent m.stage e).0

pub last_blocks : AnswersAreSingle → OpenIsUnderWay → LastBlocksAreAlone
last_blocks single under p limit before later o are clear last quiet place n is =
    let x : Call = call.Sends o in
    let all : List Call = before ++ x ∷ later in
    let d : DiskState = reached p limit before in
    let first : AreCalls (new_disk p limit) before = first_calls before (x ∷ later) (new_disk p limit) are in
    let says : IsOut d (Some o) = (rest_calls before (x ∷ later) (new_disk p limit) are).0 in
    let at_work = works single under p limit before o (calls_both before (x ∷ []) (new_disk p limit) first (says, tt)) clear last says in
    let free : NoTags (commands d) = (calls_alone before (new_disk p limit) (new_alone p limit)).working at_work in
    let now : NoTags (commands (reached p limit all)) =
    subst (λ (k : DiskState). NoTags (commands k)) (sym (calls_after before (x ∷ later) (new_disk p limit))) (calls_free (x ∷ later) d (tt, quiet) free) in
    by (reached p limit all) (host_of new_host all) now (due_at all (call.Sends (out.Data place n)) new_host (single p limit (all ++ call.Sends (out.Data place n) ∷ []) (calls_both all (call.Sends (out.Data place n) ∷ []) (new_disk p limit) are (is, tt))))
    (data_alive (reached p limit all) place n (command_at (commands (reached p limit all)) place) is.3) (nat_lt place 32) refl
  where
    by : (d : DiskState) (h : Host) → NoTags (commands d) → IsOutDue h (out.Data place n) → is_taken (commands d) place ≡ true → (b : Bool)
        → nat_lt place 32 ≡ b → place ≡ 32
    by d h free due alive true low = absurd (false≢true (sym (free place (ltb-true place 32 low)) ∙ alive))
    by d h free due alive false low = (subst (λ (b : Bool). IsDataAt h place b) low due).0
