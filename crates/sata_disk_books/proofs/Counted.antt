-- In every run the bytes of a queued command that were sent since its DMA Setup FIS are those that the books have as sent.
use Rattle.std.proofs.Common.{◌≡◌, ℕ, ◌<◌, ◌⊎◌, true, false, List, [], ◌∷◌, length, Some, None, refl, sym, ap, ◌∙◌, subst, inl, inr}
use Rattle.std.proofs.lemmas.{Bool.{ltb-true}, Option.same_Some}
use Rattle.std.specs.Prelude.{Option, Bool, nat_lt, if◌then◌else◌}
use Rattle.block_command.specs.declared.command.{Command.Command, Protocol.Protocol, Stage.{Stage, TheVariants.{Activate, Announce, End, Ended}}}
use Rattle.block_command.specs.{declared.command.Stage.TheVariants.{Fail, Sending, SetUpRead, SetUpWrite}, Moments.{Moment, is_queued, is_set_up}}
use Rattle.block_command.specs.{Moments.{part_of, turn_of}, Laws.Goes}
use Rattle.block_command.specs.declared.command.Protocol.TheVariants as protocol
use Rattle.block_command.proofs.Door.{at as moment}
use Rattle.block_disk.specs.{Laws.at_page, Table.{has_wire, is_under_way, wants_wire}, Requests.{Books, entered_by, no_books, seen}}
use Rattle.block_disk.proofs.Door.{kept_none}
use Rattle.block_queue.specs.Deeds as deed
use Rattle.block_queue.specs.{Deeds.seen_of, Line.{Line, command_at}}
use Rattle.block_queue.proofs.Door.{of_and}
use Rattle.block_scheduler.specs.{Schedule.IsNextFis, Laws.all_deeds}
use Rattle.block_scheduler.specs.declared.scheduler.NextFis.TheVariants as next_fis
use Rattle.block_engine.specs.Laws.{all_moves}
use Rattle.ata_front.specs.{CommandFis.{asks_by, set_up}, Fronts.owed, declared.task.Task.Task}
use Rattle.ata_front.specs.declared.task.Owed.TheVariants as owe
use Rattle.ata_front.specs.declared.task.Page as own
use Rattle.ata_front.specs.declared.task.Task.TheVariants as tasks
use Rattle.ata_reply.specs.declared.reply.Reply.{Reply}
use Rattle.disk_pages.specs.declared.profile.Profile.{Profile}
use Rattle.sata_disk.specs.{State.{DiskState, commands, new_disk}, Sending.{IsOut, out_at}, declared.out.Out.Out}
use Rattle.sata_disk.specs.declared.out.Out.TheVariants as out
use Rattle.sata_disk_laws.specs.Calls as call
use Rattle.sata_disk_laws.specs.{Calls.{AreCalls, Call, IsCall, after_call, after_calls, all_steps}, Laws.{reached, seen_in}}
use Rattle.sata_disk_books.specs.{Books.books_after, Counted.{AreCounted, Counted, DataAreCounted, counted_after, counted_call, more_by, set_up_by}}
use Rattle.sata_disk_books.proofs.{Does.{call_stands, deeds_by, sent_stands, shown_by}, Holds.is_loud_stage, Lone.{IsLone, NoTags, call_lone}}
use Rattle.sata_disk_books.proofs.{Lone.is_paging, Sound.{IsOwn, NoHolder, Stands, data_holds, data_stands, forget, high_free, loud_at, none_sound}}
use Rattle.sata_disk_books.proofs.{Sound.{other_stands, paged, sent_known, set_up_stands}, Walks.{books_both, shown_from}}

-- ## Which FIS a command sends

abbrev pub reply_or : Reply → Option Out → Reply
reply_or r (Some (out.Of p x)) = x
reply_or r other = r

abbrev size_or : ℕ → Option Out → ℕ
size_or n (Some (out.Data p k)) = k
size_or n other = n

asks_none : (m : Moment) (p : Protocol) (t : Option Counted) → set_up_by (asks_by m p) t ≡ t
asks_none m protocol.Pio t = refl
asks_none m other t = refl

fails_none : (b : Bool) (one two : Reply) (t : Option Counted) → set_up_by one t ≡ t → set_up_by two t ≡ t → set_up_by (if b then one else two) t ≡ t
fails_none true one two t first second = first
fails_none false one two t first second = second

-- it is a DMA Setup FIS, or none
abbrev pub Either : Stage → Command → Reply → Type 0
Either stage c r = ((is_loud_stage stage ≡ true) × (wants_wire (turn_of stage) ≡ true) × (r ≡ set_up c))
    ⊎ ((is_loud_stage stage ≡ false) × ((t : Option Counted) → set_up_by r t ≡ t))

pub of_case : (d : DiskState) (p : ℕ) (r : Reply) (c : Command) (done : ℕ) (bytes : List ℕ) (sent : ℕ) (stage : Stage)
    → Some (out.Of p r) ≡ out_at d p (Some (moment c done bytes sent stage)) → Either stage c r
of_case d p r c done bytes sent SetUpRead e = inl (refl, refl, ap (λ x. reply_or r x) e)
of_case d p r c done bytes sent SetUpWrite e = inl (refl, refl, ap (λ x. reply_or r x) e)
of_case d p r c done bytes sent Announce e = inr (refl, λ t. ap (λ x. set_up_by (reply_or r x) t) e)
of_case d p r c done bytes sent Activate e =
    inr (refl, λ t. ap (λ x. set_up_by (reply_or r x) t) e ∙ asks_none (moment c done bytes sent Activate) c.protocol t)
of_case d p r c done bytes sent End e = inr (refl, λ t. ap (λ x. set_up_by (reply_or r x) t) e)
of_case d p r c done bytes sent Fail e = inr (refl, λ t. ap (λ x. set_up_by (reply_or r x) t) e ∙ fails_none (nat_lt c.place 32) _ _ t refl refl)
of_case d p r c done bytes sent stage e = absurd (cc)

pub data_stage : (d : DiskState) (p n : ℕ) (c : Command) (done : ℕ) (bytes : List ℕ) (sent : ℕ) (stage : Stage)
    → Some (out.Data p n) ≡ out_at d p (Some (moment c done bytes sent stage))
    → (stage ≡ Sending) × (n ≡ length (part_of (moment c done bytes sent Sending)))
data_stage d p n c done bytes sent Sending e = (refl, ap (λ x. size_or n x) e)
data_stage d p n c done bytes sent stage e = absurd (cc)

-- ## Each call

pub record Good (d : DiskState) (b : Books) (t : Option Counted) : Type 0 where
  pub stands : Stands (commands d) b t
  pub lone : IsLone d.front (commands d)

abbrev Then : DiskState → Books → Call → Option Counted → Type 0
Then d b c t = Stands (commands (after_call d c)) (books_after b (seen_of (commands d) (deeds_by d c))) t

of_goes : (d : DiskState) (b : Books) (t : Option Counted) (p : ℕ) (r : Reply) (x : Option Moment) → command_at (commands d) p ≡ x → Stands (commands d) b t
    → IsOut d (Some (out.Of p r)) → Some (out.Of p r) ≡ out_at d p x → Then d b (call.Sends (out.Of p r)) (set_up_by r t)
of_goes d b t p r None here is may e = absurd (cc)
of_goes d b t p r (Some m) here is may e = elim (of_case d p r m.command m.done m.bytes m.sent m.stage e) [
  | inl sets ↦
      let place : m.command.place ≡ p = (subst (λ (x : Option Moment). IsOwn p x) here (is.sound p).own).1 in
      let told : set_up_by r t ≡ Some (record { tag = p; count = 0 }) =
      ap (λ x. set_up_by x t) sets.2 ∙ ap (λ k. Some (record { tag = k; count = 0 })) place in
      subst (λ (k : Option Counted). Then d b (call.Sends (out.Of p r)) k) (sym told)
      (sent_stands d b (Some (record { tag = p; count = 0 })) p (out.Of p r) refl (set_up_stands (commands d) b t p m is may.2 here sets.1 sets.0))
  | inr none ↦
      subst (λ (k : Option Counted). Then d b (call.Sends (out.Of p r)) k) (sym (none.1 t))
      (call_stands d b t (call.Sends (out.Of p r)) is may (ap (λ x. loud_at x Goes) here ∙ none.0))
]

only_wire : (l : Line) (w : Option ℕ) (p : ℕ) → IsNextFis l w (Some (next_fis.Alone p)) → (q : ℕ) → w ≡ Some q → p ≡ q
only_wire l None p is q e = absurd (cc)
only_wire l (Some h) p is q e = is.0 ∙ same_Some h q e

sending_goes : (d : DiskState) (b : Books) (t : Option Counted) (p n : ℕ) (c : Command) (done : ℕ) (bytes : List ℕ) (sent : ℕ) (low : Bool) → nat_lt p 32 ≡ low
    → command_at (commands d) p ≡ Some (moment c done bytes sent Sending) → Stands (commands d) b t → IsOut d (Some (out.Data p n))
    → n ≡ length (part_of (moment c done bytes sent Sending)) → Then d b (call.Sends (out.Data p n)) (if low then more_by n t else None)
sending_goes d b t p n c done bytes sent true low here is may size =
    sent_stands d b (more_by n t) p (out.Data p n) refl
    (subst (λ k. Stands (deed.after_deed (commands d) (deed.Sends p)) (entered_by b (seen (commands d).queue (deed.act_of (deed.Sends p)))) (more_by k t)) (sym size)
    (data_stands (commands d) b t p c done bytes sent is may.2 here (ltb-true p 32 low)))
sending_goes d b t p n c done bytes sent false low here is may size =
    sent_stands d b None p (out.Data p n) refl
    (other_stands (commands d) b t p (moment c done bytes sent Sending) is may.2 here low (only_wire (commands d) (commands d).queue.table.wire p may.1.1))

data_goes : (d : DiskState) (b : Books) (t : Option Counted) (p n : ℕ) (x : Option Moment) → command_at (commands d) p ≡ x → Stands (commands d) b t
    → IsOut d (Some (out.Data p n)) → Some (out.Data p n) ≡ out_at d p x → Then d b (call.Sends (out.Data p n)) (if nat_lt p 32 then more_by n t else None)
data_goes d b t p n None here is may e = absurd (cc)
data_goes d b t p n (Some m) here is may e =
    let s = data_stage d p n m.command m.done m.bytes m.sent m.stage e in
    sending_goes d b t p n m.command m.done m.bytes m.sent (nat_lt p 32) refl
    (here ∙ ap (λ k. Some (moment m.command m.done m.bytes m.sent k)) s.0) is may s.1

held_alive : (c : Command) (done : ℕ) (bytes : List ℕ) (sent : ℕ) (stage : Stage) → is_set_up (moment c done bytes sent stage) stage ≡ true
    → is_under_way (Some (moment c done bytes sent stage)) ≡ true
held_alive c done bytes sent Ended e = absurd (cc)
held_alive c done bytes sent stage e = refl

holds_alive : (x : Option Moment) → has_wire x ≡ true → is_under_way x ≡ true
holds_alive None e = absurd (cc)
holds_alive (Some m) e = held_alive m.command m.done m.bytes m.sent m.stage (of_and (is_queued m.command.protocol) _ e).1

tag_case : (l : Line) (b : Books) (t : Option Counted) (q : ℕ) (low : Bool) → nat_lt q 32 ≡ low → Stands l b t → NoTags l → has_wire (command_at l q) ≡ true → ⊥
tag_case l b t q true low is free h = let no = sym (free q (ltb-true q 32 low)) ∙ holds_alive (command_at l q) h in cc
tag_case l b t q false low is free h = high_free q (command_at l q) (is.sound q).own low h

nobody_holds : (l : Line) (b : Books) (t : Option Counted) → Stands l b t → NoTags l → NoHolder l
nobody_holds l b t is free q h = tag_case l b t q (nat_lt q 32) refl is free h

pages_owed : (t : Task) (p : own.Page) → owed t ≡ Some (owe.Page p) → is_paging t ≡ true
pages_owed (tasks.Gives x) p e = refl
pages_owed (tasks.Sends x) p e = refl
pages_owed (tasks.Owes r) p e = absurd (cc)
pages_owed (tasks.Announces x) p e = absurd (cc)
pages_owed (tasks.Activates n) p e = absurd (cc)
pages_owed t p e = absurd (cc)

out_goes : (d : DiskState) (b : Books) (t : Option Counted) (o : Out) → Good d b t → IsOut d (Some o) → Then d b (call.Sends o) (counted_call (call.Sends o) t)
out_goes d b t (out.Of p r) is may = of_goes d b t p r (command_at (commands d) p) refl is.stands may may.3
out_goes d b t (out.Data p n) is may = data_goes d b t p n (command_at (commands d) p) refl is.stands may may.3
out_goes d b t (out.Page p) is may =
    let free : NoTags (commands d) = is.lone.paging (pages_owed d.front.task p may) in
    forget (commands d) _ t None (nobody_holds (commands d) b t is.stands free) (call_stands d b t (call.Sends (out.Page p)) is.stands may tt)
out_goes d b t (out.Own r) is may = call_stands d b t (call.Sends (out.Own r)) is.stands may tt
out_goes d b t (out.Beside r) is may = call_stands d b t (call.Sends (out.Beside r)) is.stands may tt
out_goes d b t (out.Ends tags) is may = call_stands d b t (call.Sends (out.Ends tags)) is.stands may tt

call_goes : (d : DiskState) (b : Books) (t : Option Counted) (c : Call) → Good d b t → IsCall d c → Then d b c (counted_call c t)
call_goes d b t call.Plugs is may = call_stands d b t call.Plugs is.stands may tt
call_goes d b t (call.Hears f) is may = call_stands d b t (call.Hears f) is.stands may tt
call_goes d b t (call.Starts x) is may = call_stands d b t (call.Starts x) is.stands may tt
call_goes d b t (call.Asks r) is may = call_stands d b t (call.Asks r) is.stands may tt
call_goes d b t (call.Answers number a) is may = call_stands d b t (call.Answers number a) is.stands may tt
call_goes d b t (call.Sends o) is may = out_goes d b t o is may

-- ## Every run

pub none_shown : (d : DiskState) (b : Books) → b ≡ books_after b (shown_from d [])
unfolding books_after seen_of all_deeds all_moves all_steps
none_shown d b = refl

pub call_good : (d : DiskState) (b : Books) (t : Option Counted) (c : Call) → Good d b t → IsCall d c
    → Good (after_call d c) (books_after b (seen_of (commands d) (deeds_by d c))) (counted_call c t)
call_good d b t c is may = record { stands = call_goes d b t c is may; lone = call_lone d c is.lone }

pub calls_good : (calls : List Call) (d : DiskState) (b : Books) (t : Option Counted) → Good d b t → AreCalls d calls
    → Good (after_calls d calls) (books_after b (shown_from d calls)) (counted_after t calls)
unfolding after_calls counted_after
calls_good [] d b t is are = subst (λ (x : Books). Good d x t) (none_shown d b) is
calls_good (c ∷ later) d b t is are =
    subst (λ (x : Books). Good (after_calls (after_call d c) later) x (counted_after (counted_call c t) later))
    (sym (books_both (seen_of (commands d) (deeds_by d c)) (shown_from (after_call d c) later) b) ∙ ap (λ x. books_after b x) (sym (shown_by d c later)))
    (calls_good later (after_call d c) (books_after b (seen_of (commands d) (deeds_by d c))) (counted_call c t) (call_good d b t c is are.0) are.1)

pub new_good : (p : Profile) (limit : ℕ) → Good (new_disk p limit) no_books None
new_good p limit = record {
  stands = record { agree = record { kept = kept_none 33 refl; out = refl }; sound = none_sound None };
  lone = record { paging = λ e. absurd (cc); faulty = λ e. absurd (cc) };
}

told_case : (d : DiskState) (b : Books) (t : Option Counted) (p n : ℕ) (c : Command) (done : ℕ) (bytes : List ℕ) (sent : ℕ) → Good d b t → p < 32
    → command_at (commands d) p ≡ Some (moment c done bytes sent Sending) → AreCounted (at_page b.pages p) p t
told_case d b t p n c done bytes sent is low here =
    let m : Moment = moment c done bytes sent Sending in
    let holds = data_holds (commands d) b t p c done bytes sent is.stands here low in
    let x = paged (commands d) b p m is.stands.agree here in
    let same : holds.1.count ≡ length x.page.ledger.sent = holds.1.gone refl ∙ sym (sent_known x.page.command c done bytes sent x.page.ledger x.agrees) in
    record { of = x.page; is = x.is; counts = holds.1.told ∙ ap (λ k. Some (record { tag = p; count = k })) same }

told_at : (d : DiskState) (b : Books) (t : Option Counted) (p n : ℕ) (x : Option Moment) → command_at (commands d) p ≡ x → Good d b t → p < 32
    → Some (out.Data p n) ≡ out_at d p x → AreCounted (at_page b.pages p) p t
told_at d b t p n None here is low e = absurd (cc)
told_at d b t p n (Some m) here is low e =
    let s = data_stage d p n m.command m.done m.bytes m.sent m.stage e in
    told_case d b t p n m.command m.done m.bytes m.sent is low (here ∙ ap (λ k. Some (moment m.command m.done m.bytes m.sent k)) s.0)

pub data_are_counted : DataAreCounted
data_are_counted p limit calls place n are is low =
    told_at (reached p limit calls) (books_after no_books (seen_in p limit calls)) (counted_after None calls) place n (command_at (commands (reached p limit calls)) place) refl
    (calls_good calls (new_disk p limit) no_books None (new_good p limit) are) low is.3
