-- The Data that end a PIO data-in which moves sectors are of these, and no page that the disk has of itself.
use Rattle.std.proofs.Common.{◌≡◌, ℕ, ◌+◌, ◌||◌, Bool, true, false, List, [], ◌∷◌, ◌++◌, append_assoc, Some, None, refl, sym, ap, subst, ◌∙◌, arith}
use Rattle.std.specs.{Prelude.{nat_lt, if◌then◌else◌}, List.flat_map}
use Rattle.fis_view.specs.Seen.{seen}
use Rattle.ata_reply.specs.declared.reply.Reply.{Reply}
use Rattle.ata_reply.specs.declared.reply.Reply.TheVariants as replies
use Rattle.disk_pages.specs.declared.profile.Profile.{Profile}
use Rattle.sata_disk.specs.{Sending.IsOut, State.{DiskState, new_disk}, declared.{out.Out.Out, unheard.Unheard.TheVariants.{Busy, InReset}}}
use Rattle.sata_disk.specs.declared.out.Out.TheVariants as out
use Rattle.sata_disk_books.specs.LastData.{is_last_block, sets_up_last}
use Rattle.sata_disk_laws.specs.{Calls.{AreCalls, Call, Hears, Sends, after_call, after_calls}, Laws.reached, Once.{AnswersAreSingle, ForLast}}
use Rattle.sata_disk_laws.specs.Once.{ForNothing, Host, IsDataAt, IsOutDue, OpenIsUnderWay, Wait, host_of, new_host, unheard_of, waits_for_nothing}
use Rattle.sata_disk_laws.proofs.Door.{calls_after, calls_both}
use Rattle.machine_laws.specs.Falling.{heard_by}
use Rattle.machine_theorem.specs.{Identity.picks, InTurn.{AreKeptOn, IsIdle, answered_in, heard_in, is_answer, is_asking, is_register}}
use Rattle.machine_theorem.specs.Settled.{AreSettled, CommandsAreSettledInTurn, IsUnsettled, SectorsEndByData, is_data, is_settling, settled_in}
use Rattle.machine_theorem.specs.{Tags.once_if, Transfers.is_transferring}
use Rattle.machine_theorem.proofs.{Answered.{answered_both, heard_both}, EndedByData.answered_less, Settled.settled_both, SinglesOwn.kept_behind}
use Rattle.machine_theorem.proofs.{SinglesOwn.{kept_first, last_heard}, TagCounts.{due_at, first_calls}, Transferring.{Works, calls_so}}
use Rattle.machine_theorem.proofs.Transferring.{hears_transfer, one_then, owes_no_page, rest_calls}

pub record Laws : Type 0 where
  pub single : AnswersAreSingle
  pub under_way : OpenIsUnderWay
  pub settled : CommandsAreSettledInTurn

-- ---- the command that was heard last is one

last_or : List ℕ → List (List ℕ) → List ℕ
last_or x [] = x
last_or x (y ∷ ys) = last_or y ys

last_of : (x : List ℕ) (xs : List (List ℕ)) (b : List ℕ) → last_or x (xs ++ b ∷ []) ≡ b
unfolding last_or
last_of x [] b = refl
last_of x (y ∷ ys) b = last_of y ys b

same_last : (xs ys : List (List ℕ)) (b c : List ℕ) → xs ++ b ∷ [] ≡ ys ++ c ∷ [] → b ≡ c
same_last xs ys b c e = sym (last_of [] xs b) ∙ ap (last_or []) e ∙ last_of [] ys c

-- ---- the PIO Setup FIS of a last block

settles : (o : Out) → sets_up_last o ≡ true → is_settling o ≡ true
settles o e = by (is_answer o) (sets_up_last o) e
  where
    by : (a b : Bool) → b ≡ true → (a || b) ≡ true
    by true b e = refl
    by false b e = e

no_register : (r : Reply) → is_last_block r ≡ true → is_register r ≡ false
no_register (replies.Announce a) e = refl
no_register other e = absurd (cc)

no_answer : (o : Out) → sets_up_last o ≡ true → is_answer o ≡ false
no_answer (out.Own r) e = no_register r e
no_answer (out.Beside r) e = no_register r e
no_answer (out.Of place r) e = no_register r e
no_answer other e = absurd (cc)

-- ---- the disk is at work on it

works_there : OpenIsUnderWay → (p : Profile) (limit : ℕ) (before : List Call) (bytes : List ℕ) (later : List Call)
    → AreCalls (new_disk p limit) (before ++ Hears bytes ∷ later)
    → is_transferring bytes ≡ true → IsIdle (host_of new_host before) → AreKeptOn later → heard_in later ≡ 0 → answered_in later ≡ 0
    → Works (reached p limit (before ++ Hears bytes ∷ later)).front
works_there under_way p limit before bytes later are is idle on heard said =
    let d : DiskState = reached p limit before in
    let first : AreCalls (new_disk p limit) before = first_calls before (Hears bytes ∷ later) (new_disk p limit) are in
    let rest : AreCalls d (Hears bytes ∷ later) = rest_calls before (Hears bytes ∷ later) (new_disk p limit) are in
    let h : Host = host_of new_host before in
    let free : unheard_of h ≡ None =
    ap (λ (b : Bool). if b then Some InReset else (if waits_for_nothing h.waits then None else Some Busy)) idle.clear
    ∙ ap (λ (w : Wait). if waits_for_nothing w then None else Some Busy) idle.waits in
    let works : Works (after_call d (Hears bytes)).front = hears_transfer d (seen bytes) is (λ f c. (under_way p limit before first).heard f c ∙ free) in
    let now : Works (after_calls (after_call d (Hears bytes)) later).front = calls_so later (after_call d (Hears bytes)) rest.1 on heard said works in
    subst (λ (x : DiskState). Works x.front) (sym (calls_after before (Hears bytes ∷ later) (new_disk p limit) ∙ one_then d (Hears bytes) later)) now

-- ---- Data that go next

place_is : (h : Host) (place n : ℕ) → IsOutDue h (out.Data place n) → h.waits ≡ ForLast → place ≡ 32
place_is h place n due waits = by (nat_lt place 32) due
  where
    none : ForLast ≡ ForNothing → ⊥
    none e = cc

    by : (b : Bool) → IsDataAt h place b → place ≡ 32
    by true queued = absurd (none (sym waits ∙ queued.2))
    by false single = single.0

data_are : (h : Host) (d : DiskState) (o : Out) → IsOut d (Some o) → is_data o ≡ true → IsOutDue h o → h.waits ≡ ForLast → Works d.front
    → (n : ℕ) × (o ≡ out.Data 32 n)
data_are h d (out.Page page) says is due waits works = absurd (owes_no_page d.front.task page works.task says)
data_are h d (out.Data place n) says is due waits works = (n, ap (λ (j : ℕ). out.Data j n) (place_is h place n due waits))
data_are h d other says is due waits works = absurd (cc)

-- ---- the law

pub sectors_end : Laws → SectorsEndByData
sectors_end laws p limit base calls are idle on all b last moves o says is =
    let x : Call = Sends b.said in
    let new : DiskState = new_disk p limit in
    let whole : base ++ calls ≡ (base ++ b.front) ++ x ∷ b.later = ap (λ (l : List Call). base ++ l) b.split ∙ sym (append_assoc base b.front (x ∷ b.later)) in
    let are_whole : AreCalls new ((base ++ b.front) ++ x ∷ b.later) = subst (AreCalls new) whole are in
    let are_front : AreCalls new (base ++ b.front) = first_calls (base ++ b.front) (x ∷ b.later) new are_whole in
    let front : AreSettled p limit base b.front = laws.settled p limit base b.front are_front idle (kept_first b.front (x ∷ b.later) (subst AreKeptOn b.split on)) in
    let said : IsOut (reached p limit (base ++ b.front)) (Some b.said) = (rest_calls (base ++ b.front) (x ∷ b.later) new are_whole).0 in
    let u : IsUnsettled base b.front = front.answers b.said said (settles b.said b.sets) in
    let one_heard = ap once_if u.asks in
    let heard_front : heard_in b.front ≡ heard_in u.front + (once_if (is_asking u.bytes) + heard_in u.later) = ap heard_in u.split ∙ heard_both u.front (Hears u.bytes ∷ u.later) in
    let behind = u.behind in
    let settled : settled_in calls ≡ settled_in b.front + (once_if (is_settling b.said) + settled_in b.later) = ap settled_in b.split ∙ settled_both b.front (x ∷ b.later) in
    let heard : heard_in calls ≡ heard_in b.front + (0 + heard_in b.later) = ap heard_in b.split ∙ heard_both b.front (x ∷ b.later) in
    let one = ap once_if (settles b.said b.sets) in
    let quiet_behind = b.quiet in
    let quiet = u.quiet in
    let later : List Call = u.later ++ x ∷ b.later in
    let split : calls ≡ u.front ++ Hears u.bytes ∷ later =
    b.split ∙ ap (λ (l : List Call). l ++ x ∷ b.later) u.split ∙ append_assoc u.front (Hears u.bytes ∷ u.later) (x ∷ b.later) in
    let heard_later : heard_in later ≡ heard_in u.later + (0 + heard_in b.later) = heard_both u.later (x ∷ b.later) in
    let none_heard : heard_in later ≡ 0 = omega (arith, all, heard, settled, heard_front, one_heard, behind, one, quiet_behind, heard_later) in
    let answered_later : answered_in later ≡ answered_in u.later + (once_if (is_answer b.said) + answered_in b.later) = answered_both u.later (x ∷ b.later) in
    let no_one = ap once_if (no_answer b.said b.sets) in
    let less = answered_less u.later in
    let less_behind = answered_less b.later in
    let none_answered : answered_in later ≡ 0 = omega (arith, answered_later, no_one, less, less_behind, quiet, quiet_behind) in
    let same : u.bytes ≡ last.bytes =
    same_last (picks is_asking (flat_map heard_by u.front)) (picks is_asking (flat_map heard_by last.front)) u.bytes last.bytes
    (sym (last_heard calls u.front later u.bytes split u.asks none_heard) ∙ last_heard calls last.front last.later last.bytes last.split last.asks (last.last all)) in
    let at : base ++ calls ≡ (base ++ u.front) ++ Hears u.bytes ∷ later = ap (λ (l : List Call). base ++ l) split ∙ sym (append_assoc base u.front (Hears u.bytes ∷ later)) in
    let works : Works (reached p limit (base ++ calls)).front =
    subst (λ (l : List Call). Works (reached p limit l).front) (sym at)
    (works_there laws.under_way p limit (base ++ u.front) u.bytes later (subst (AreCalls new) at are) (ap is_transferring same ∙ moves) u.idle
    (kept_behind u.front (Hears u.bytes) later (subst AreKeptOn split on)) none_heard none_answered) in
    let more : AreCalls new ((base ++ calls) ++ Sends o ∷ []) = calls_both (base ++ calls) (Sends o ∷ []) new are (says, tt) in
    data_are (host_of new_host (base ++ calls)) (reached p limit (base ++ calls)) o says is
    (due_at (base ++ calls) (Sends o) new_host (laws.single p limit ((base ++ calls) ++ Sends o ∷ []) more))
    ((laws.settled p limit base calls are idle on).alone o says is all b) works
