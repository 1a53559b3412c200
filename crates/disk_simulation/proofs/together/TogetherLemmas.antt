-- For `both_views_go_on_together`. Both views of a disk go on to say the same.
use Rattle.std.proofs.Common.{◌≡◌, ◌==◌, ◌&&◌, eqb, ℕ, ◌+◌, ◌*◌, Bool, true, false, List, [], ◌∷◌, ◌++◌, refl, sym, ap, subst, ◌∙◌, inl, inr, Option, Some, None, Ok, Result, ◌≤◌, length, arith}
use Rattle.std.specs.{Prelude.{◌≢◌, not, if◌then◌else◌, drop, find, replicate}, Int.from_bool, List.list_any}
use Rattle.std.proofs.lemmas.{Bool.{and_parts, cases_Bool, eq-eqb, eqb-true, or_parts, true≢false}, List.Sums.sum_by-append}
use Rattle.fis_view.specs.{Table.{Bits, BufferId, EStatus, Offset, Pio, SActive, Setup, field}, declared.{view.Fis.Fis, view.FisFault.FisFault}}
use Rattle.fis_view.specs.Table as table
use Rattle.fis_view.specs.declared.view.Fis.TheVariants as view
use Rattle.slots.specs.{Slots.{has_bit, is_pio}, Work.is_queued, declared.work.Kind.{Kind, TheVariants.{QueuedRead, QueuedWrite}}}
use Rattle.disk_model.specs.declared.{request.Command.Command, request.Request.{Request, TheVariants.Queue}}
use Rattle.disk_model.specs.Ends.{FitsData, FitsRequest, IsFree, IsRight, MovesOther, PageAsked, Rests, has}
use Rattle.disk_model.specs.Laws.{ActivatesRight, AsksOnce, CarriesNext, CarriesRight, SetsUpNext, SetsUpRight, StartsOne, bytes_named}
use Rattle.disk_model.specs.Ledger.{Ledger, Moving, Signs, Stretch, activates, answers, asks, ends, is_auto, listens_up, sends_data, sets_up}
use Rattle.disk_model.specs.{Ledger.{starts_moving, takes_data, with_auto}, Between.{after_bytes, alone, is_all, opened, with_bytes}}
use Rattle.disk_model.specs.declared.request.Request.TheVariants as asked
use Rattle.disk_model.proofs.Door.{asks_fits, bits_up, data_down, found_not, goes_by, opens_free, up_leaves}
use Rattle.hba_laws.specs.History.{Answered, Carried, History, Issued, Named, Sent, SetUp, Transfer, completes, is_at, is_set_up, issued, unless}
use Rattle.hba_laws.specs.History.{waiting_in}
use Rattle.disk_simulation.specs.{Same.{InLife, SlotCommand}, Anew.OpensTheSame, Answers.{IsAlone, IsIdle}}
use Rattle.disk_simulation.specs.Together.{AsksOne, InTalk, IsHeard, IsUntouched, IsWaited, NoneQueued, NothingWaits, QueuesOne, Replies, Same}
use Rattle.disk_simulation.specs.Together.{SameGoesOn, is_sent, told, with_command}
use Rattle.disk_simulation.proofs.events.AnswerLemmas.{IsBeside, answers_keep, asks_beside, free_beside, names_keep, others_keep}
use Rattle.disk_simulation.proofs.events.{DataLemmas.{data_comes_down, data_up, goes_beside, still_free}, MoveLemmas.{activates_keep, setups_go_on}}
use Rattle.disk_simulation.proofs.events.SameLemmas.{commands_keep, free_more, issues_keep, setups_start, still_not_at}
use Rattle.disk_simulation.proofs.together.TalkLemmas.{IsQuiet, Stays, idle_activates, idle_moves, idle_names, idle_sets_up, page_idle, quiet}
use Rattle.disk_simulation.proofs.together.TalkLemmas.{shows_idle, talk_asks, talk_issues, talk_page, talk_queues, talk_register, talk_shown}
use Rattle.disk_simulation.proofs.together.TalkLemmas.{talk_stays, waited_on}

-- ## What stays issued

none_some : (t : Transfer) → None ≡ Some t → ⊥
none_some t e = cc e

same_some : (u t : Transfer) → Some u ≡ Some t → u ≡ t
same_some u t e = cc e

was_one : (u t : Transfer) (test : Transfer → Bool) (b : Bool) → test u ≡ b → unless b (Some u) ≡ Some t → (Some u ≡ Some t) × (test t ≡ false)
was_one u t test true is e = absurd (none_some t e)
was_one u t test false is e = (e, subst (λ (x : Transfer). test x ≡ false) (same_some u t e) is)

-- what is issued yet was issued before, and did not complete
was : (o : Option Transfer) (test : Transfer → Bool) (t : Transfer) → Stays o test ≡ Some t → (o ≡ Some t) × (test t ≡ false)
was None test t e = absurd (none_some t e)
was (Some u) test t e = was_one u t test (test u) refl e

one_by : {X : Type 0} (t : Transfer) (test : Transfer → Bool) (q b : Bool) → is_queued t.work.kind ≡ q → test t ≡ b → (NoneQueued (Some t) → X)
    → ((u : Transfer) → Some t ≡ Some u → is_queued u.work.kind ≡ true → test u ≡ true → X) → NoneQueued (unless b (Some t)) → X
one_by t test false b queued is keeps ends none = keeps queued
one_by t test true true queued is keeps ends none = ends t refl queued is
one_by t test true false queued is keeps ends none = absurd (true≢false (sym queued ∙ none))

-- where no queued command is issued none was before, or one completed
none_by : {X : Type 0} (o : Option Transfer) (test : Transfer → Bool) → (NoneQueued o → X)
    → ((t : Transfer) → o ≡ Some t → is_queued t.work.kind ≡ true → test t ≡ true → X) → NoneQueued (Stays o test) → X
none_by None test keeps ends none = keeps tt
none_by (Some t) test keeps ends none = one_by t test (is_queued t.work.kind) (test t) refl refl keeps ends none

-- ## An event that issues nothing

record Leaves (commands : ℕ → SlotCommand) (past later : History) (k x : Ledger) : Type 0 where
  test : ℕ → Transfer → Bool
  issued_is : (s : ℕ) → issued s later ≡ Stays (issued s past) (test s)
  fine : k.failed ≡ false → x.failed ≡ false
  live : (s : ℕ) (t : Transfer) → issued s past ≡ Some t → is_queued t.work.kind ≡ true → test s t ≡ false → InLife s (commands s) past k
      → InLife s (commands s) later x
  free : (s : ℕ) → NoneQueued (issued s past) → IsFree k s → IsFree x s
  ends : (s : ℕ) (t : Transfer) → issued s past ≡ Some t → is_queued t.work.kind ≡ true → test s t ≡ true → InLife s (commands s) past k → IsFree x s
  unsent : (s : ℕ) → is_sent s later ≡ false → (is_sent s past ≡ false) × (IsFree k s → IsFree x s)
  untouched : (s : ℕ) → is_sent s later ≡ false → IsFree k s → IsUntouched s past → IsUntouched s later
  talk : InTalk past k → InTalk later x

same_after : (commands : ℕ → SlotCommand) (past later : History) (k x : Ledger) → Leaves commands past later k x → Same commands past k
    → Same commands later x
same_after commands past later k x l same = record {
  fine = l.fine same.fine;
  tags = same.tags;
  live = λ s t there queued.
      let before = was (issued s past) (l.test s) t (sym (l.issued_is s) ∙ there) in
      l.live s t before.0 queued before.1 (same.live s t before.0 queued);
  free = λ s none.
      none_by (issued s past) (l.test s) (λ before. l.free s before (same.free s before))
      (λ t there queued ended. l.ends s t there queued ended (same.live s t there queued)) (subst NoneQueued (l.issued_is s) none);
  unsent = λ s sent. let before = l.unsent s sent in before.1 (same.unsent s before.0);
  untouched = λ s t there sent.
      let before = was (issued s past) (l.test s) t (sym (l.issued_is s) ∙ there) in
      let yet = l.unsent s sent in
      l.untouched s sent (same.unsent s yet.0) (same.untouched s t before.0 yet.0);
  talk = l.talk same.talk;
}

-- ## Tests

false_true : {X : Type 0} → false ≡ true → X
false_true e = absurd (true≢false (sym e))

pub no_answer : (a q c : Bool) → q ≡ true → (a && not q && c) ≡ true → ⊥
no_answer a false c queued e = true≢false (sym queued)
no_answer true true true queued e = true≢false (sym e)
no_answer true true false queued e = true≢false (sym e)
no_answer false true true queued e = true≢false (sym e)
no_answer false true false queued e = true≢false (sym e)

pub no_end : (a p c d : Bool) → p ≡ false → (a && p && c && d) ≡ true → ⊥
no_end a true c d pio e = true≢false pio
no_end true false c d pio e = true≢false (sym e)
no_end false false c d pio e = true≢false (sym e)

pub not_pio : (kind : Kind) → is_queued kind ≡ true → is_pio kind ≡ false
not_pio QueuedRead queued = refl
not_pio QueuedWrite queued = refl
not_pio other queued = absurd (true≢false (sym queued))

-- ## Tags that stay free

free_up : (k : Ledger) (fis : Result Fis FisFault) (s : ℕ) → IsRight k fis → IsFree k s → IsFree (listens_up k fis) s
free_up k fis s right free =
    let u = up_leaves k fis right in
    subst (λ (x : Ledger). IsFree x s) (sym u.is) (u.free s free)

free_ends : (s : ℕ) (k : Ledger) (w : Moving) (b write : Bool) → eqb w.command.tag s ≡ false → IsFree k s → IsFree (after_bytes k w b write) s
free_ends s k w false write other free = record { outstanding = free.outstanding; unanswered = free.unanswered; moving = other }
free_ends s k w true write other free = still_free s w.command.tag k (ends k w write) other (goes_beside k w write) free

-- ## The plugging

idle_free : (s : ℕ) (k : Ledger) → IsIdle k → IsFree k s
idle_free s k idle = record {
  outstanding = ap (list_any (λ (q : Command). q.tag == s)) idle.outstanding;
  unanswered = ap (has s) idle.unanswered;
  moving = subst (MovesOther s) (sym idle.moving) tt;
}

pub opens_the_same : OpensTheSame
opens_the_same commands past k tags none clear talk sent =
    let idle : IsIdle k = record { outstanding = clear.outstanding; unanswered = clear.unanswered; moving = clear.moving } in
    record {
      fine = clear.failed;
      tags = tags;
      live = λ s t there queued. absurd (true≢false (sym queued ∙ subst NoneQueued there (none s)));
      free = λ s unqueued. idle_free s k idle;
      unsent = λ s unsent. idle_free s k idle;
      untouched = λ s t there unsent. absurd (true≢false (sym (sent s t there) ∙ unsent));
      talk = talk;
    }

opens_same : (commands : ℕ → SlotCommand) (past : History) (k : Ledger) → ((s : ℕ) → (commands s).command.tag ≡ s) → ((s : ℕ) → issued s past ≡ None)
    → k.failed ≡ false → IsIdle k → k.awaited ≡ Signs ∷ [] → k.pages ≡ []
    → Same commands past k
opens_same commands past k tags nothing fine idle signs none =
    opens_the_same commands past k tags (λ s. subst NoneQueued (sym (nothing s)) tt)
    (record { failed = fine; outstanding = idle.outstanding; unanswered = idle.unanswered; moving = idle.moving }) (Replies Signs idle signs tt none)
    (λ s t there. absurd (none_some t (sym (nothing s) ∙ there)))

-- ## A command is issued

-- a slot of which another answer is awaited, or none
not_at : (s slot : ℕ) (w : Option ℕ) (b : Bool) → slot ≡ s → is_at slot w ≡ b → is_at s (unless b w) ≡ false
not_at s slot w true is e = refl
not_at s slot w false is e = ap (λ (n : ℕ). is_at n w) (sym is) ∙ e

record IsUntouchedBy (s : ℕ) (at_it set_up : Bool) : Type 0 where
  quiet : at_it ≡ false
  unset : set_up ≡ false

issue_live : (commands : ℕ → SlotCommand) (s slot : ℕ) (c : SlotCommand) (t u : Transfer) (past : History) (k : Ledger) (b : Bool) → eqb slot s ≡ b
    → issued slot past ≡ None → c.since ≤ length k.writes → Same commands past k
    → (if b then Some t else issued s past) ≡ Some u → is_queued u.work.kind ≡ true → InLife s (if b then c else commands s) (Issued slot t ∷ past) k
issue_live commands s slot c t u past k true at free counted same there queued =
    let is : slot ≡ s = eqb-true slot s at in
    let none : issued s past ≡ None = ap (λ (n : ℕ). issued n past) (sym is) ∙ free in
    subst (λ (n : ℕ). InLife s c (Issued n t ∷ past) k) (sym is) (issues_keep.own s c t past k (same.free s (subst NoneQueued (sym none) tt)) counted)
issue_live commands s slot c t u past k false other free counted same there queued =
    issues_keep.other s slot (commands s) t past k other (same.live s u there queued)

issue_free : (commands : ℕ → SlotCommand) (s slot : ℕ) (t : Transfer) (past : History) (k : Ledger) (b : Bool) → eqb slot s ≡ b → issued slot past ≡ None
    → Same commands past k
    → NoneQueued (if b then Some t else issued s past) → IsFree k s
issue_free commands s slot t past k true at free same none =
    let is : slot ≡ s = eqb-true slot s at in
    let before : issued s past ≡ None = ap (λ (n : ℕ). issued n past) (sym is) ∙ free in
    same.free s (subst NoneQueued (sym before) tt)
issue_free commands s slot t past k false other free same none = same.free s none

issue_unsent : (commands : ℕ → SlotCommand) (s slot : ℕ) (past : History) (k : Ledger) (b : Bool) → eqb slot s ≡ b → issued slot past ≡ None
    → Same commands past k
    → (if b then false else is_sent s past) ≡ false → IsFree k s
issue_unsent commands s slot past k true at free same sent =
    let is : slot ≡ s = eqb-true slot s at in
    let before : issued s past ≡ None = ap (λ (n : ℕ). issued n past) (sym is) ∙ free in
    same.free s (subst NoneQueued (sym before) tt)
issue_unsent commands s slot past k false other free same sent = same.unsent s sent

issue_touch : (commands : ℕ → SlotCommand) (s slot : ℕ) (t u : Transfer) (past : History) (k : Ledger) (b : Bool) → eqb slot s ≡ b → Same commands past k
    → (if b then Some t else issued s past) ≡ Some u → (if b then false else is_sent s past) ≡ false
    → IsUntouchedBy s (is_at s (unless (is_at slot (waiting_in past)) (waiting_in past))) (if b then false else is_set_up s past)
issue_touch commands s slot t u past k true at same there sent =
    let is : slot ≡ s = eqb-true slot s at in
    record { quiet = not_at s slot (waiting_in past) (is_at slot (waiting_in past)) is refl; unset = refl }
issue_touch commands s slot t u past k false other same there sent =
    let before : IsUntouched s past = same.untouched s u there sent in
    record { quiet = still_not_at s (waiting_in past) (is_at slot (waiting_in past)) before.quiet; unset = before.unset }

issue_tag : (commands : ℕ → SlotCommand) (s slot : ℕ) (c : SlotCommand) (b : Bool) → eqb slot s ≡ b → c.command.tag ≡ slot → ((n : ℕ) → (commands n).command.tag ≡ n)
    → (if b then c else commands s).command.tag ≡ s
issue_tag commands s slot c true at tag tags = tag ∙ eqb-true slot s at
issue_tag commands s slot c false at tag tags = tags s

issues_same : (commands : ℕ → SlotCommand) (slot : ℕ) (c : SlotCommand) (t : Transfer) (past : History) (k : Ledger) → issued slot past ≡ None
    → c.command.tag ≡ slot → c.since ≤ length k.writes → Same commands past k → Same (with_command commands slot c) (Issued slot t ∷ past) k
issues_same commands slot c t past k free tag counted same = record {
  fine = same.fine;
  tags = λ s. issue_tag commands s slot c (eqb slot s) refl tag same.tags;
  live = λ s u there queued. issue_live commands s slot c t u past k (eqb slot s) refl free counted same there queued;
  free = λ s none. issue_free commands s slot t past k (eqb slot s) refl free same none;
  unsent = λ s sent. issue_unsent commands s slot past k (eqb slot s) refl free same sent;
  untouched = λ s u there sent.
      let n = issue_touch commands s slot t u past k (eqb slot s) refl same there sent in
      record { quiet = n.quiet; unset = n.unset };
  talk = talk_issues slot t past k free same.talk;
}

-- ## A command goes out

-- another slot's, by whether its command was sent before
sent_before : (s slot : ℕ) (past : History) (b : Bool) → eqb slot s ≡ b → (if b then true else is_sent s past) ≡ false
    → (eqb slot s ≡ false) × (is_sent s past ≡ false)
sent_before s slot past true at sent = absurd (true≢false sent)
sent_before s slot past false at sent = (at, sent)

queued_here : (slot s : ℕ) (t : Transfer) (past : History) → issued slot past ≡ Some t → is_queued t.work.kind ≡ true → NoneQueued (issued s past)
    → eqb slot s ≡ false
queued_here slot s t past there queued none = elim (cases_Bool (eqb slot s)) [
  | inl at ↦
      let is : slot ≡ s = eqb-true slot s at in
      let here : issued s past ≡ Some t = ap (λ (n : ℕ). issued n past) (sym is) ∙ there in
      let not_queued : is_queued t.work.kind ≡ false = subst NoneQueued here none in
      absurd (true≢false (sym queued ∙ not_queued))
  | inr other ↦ other
]

opened_free : (s : ℕ) (k : Ledger) (c : Command) → eqb c.tag s ≡ false → IsFree k s → IsFree (opened k c) s
opened_free s k c other free = record { outstanding = free_more s k.outstanding c free.outstanding other; unanswered = free.unanswered; moving = free.moving }

queue_live : (commands : ℕ → SlotCommand) (s slot : ℕ) (past : History) (k : Ledger) → Same commands past k → IsFree k slot → InLife s (commands s) past k
    → InLife s (commands s) (Sent slot ∷ past) (asks k (Queue (commands slot).command) k.failed)
queue_live commands s slot past k same free life = elim (cases_Bool (eqb slot s)) [
  | inl at ↦
      let is : s ≡ slot = sym (eqb-true slot s at) in
      subst (λ (n : ℕ). InLife n (commands n) past k → InLife n (commands n) (Sent slot ∷ past) (asks k (Queue (commands slot).command) k.failed)) (sym is)
      (λ own. commands_keep.own slot (commands slot) past k (same.tags slot) same.fine free own) life
  | inr other ↦
      let tag : (commands slot).command.tag ≡ slot = same.tags slot in
      let differs : eqb (commands slot).command.tag s ≡ false = subst (λ (n : ℕ). eqb n s ≡ false) (sym tag) other in
      let its : IsFree k (commands slot).command.tag = subst (IsFree k) (sym tag) free in
      subst (λ (n : ℕ). InLife s (commands s) (Sent n ∷ past) (asks k (Queue (commands slot).command) k.failed)) tag
      (commands_keep.other s (commands s) (commands slot).command past k differs same.fine its life)
]

queues_same : (commands : ℕ → SlotCommand) (slot : ℕ) (t : Transfer) (past : History) (k : Ledger) → issued slot past ≡ Some t
    → is_queued t.work.kind ≡ true → is_sent slot past ≡ false → k.awaited ≢ Signs ∷ [] → NothingWaits past
    → Same commands past k → QueuesOne commands slot past k
queues_same commands slot t past k there queued sent signed nothing same =
    let silent : IsQuiet k = quiet past k nothing signed same.talk in
    let free : IsFree k slot = same.unsent slot sent in
    let tag : (commands slot).command.tag ≡ slot = same.tags slot in
    let its : IsFree k (commands slot).command.tag = subst (IsFree k) (sym tag) free in
    let is : asks k (Queue (commands slot).command) k.failed ≡ opened k (commands slot).command = opens_free k (commands slot).command same.fine its.outstanding in
    let stays : (s : ℕ) → eqb slot s ≡ false → IsFree k s → IsFree (asks k (Queue (commands slot).command) k.failed) s =
    λ s other f. subst (λ (x : Ledger). IsFree x s) (sym is)
    (opened_free s k (commands slot).command (subst (λ (n : ℕ). eqb n s ≡ false) (sym tag) other) f) in
    record {
      fits = (its, silent.awaited);
      same = same_after commands past (Sent slot ∷ past) k (asks k (Queue (commands slot).command) k.failed) (record {
        test = λ s u. false;
        issued_is = λ s. refl;
        fine = λ fine. subst (λ (x : Ledger). x.failed ≡ false) (sym is) fine;
        live = λ s u here q going life. queue_live commands s slot past k same free life;
        free = λ s none f. stays s (queued_here slot s t past there queued none) f;
        ends = λ s u here q ended life. false_true ended;
        unsent = λ s unsent. let before = sent_before s slot past (eqb slot s) refl unsent in (before.1, stays s before.0);
        untouched =
            λ s unsent f before. let other = sent_before s slot past (eqb slot s) refl unsent in record { quiet = other.0; unset = before.unset };
        talk = λ talk. subst (InTalk (Sent slot ∷ past)) (sym is) (talk_queues slot t (commands slot).command past k there queued silent);
      }) same;
    }

other_queued : (slot s : ℕ) (t u : Transfer) (past : History) → issued slot past ≡ Some t → is_queued t.work.kind ≡ false → issued s past ≡ Some u
    → is_queued u.work.kind ≡ true → eqb slot s ≡ false
other_queued slot s t u past there not_queued here queued = elim (cases_Bool (eqb slot s)) [
  | inl at ↦
      let is : slot ≡ s = eqb-true slot s at in
      let same : t ≡ u = same_some t u (sym there ∙ ap (λ (n : ℕ). issued n past) is ∙ here) in
      absurd (true≢false (sym queued ∙ subst (λ (x : Transfer). is_queued x.work.kind ≡ false) same not_queued))
  | inr other ↦ other
]

alone_failed : (k : Ledger) (request : Request) → k.failed ≡ false → IsAlone request → FitsRequest k request → (alone k request).failed ≡ false
alone_failed k (asked.Reset on) failed one fits = absurd fits
alone_failed k (asked.Queue c) failed one fits = absurd one
alone_failed k asked.ReadErrorLog failed one fits = refl
alone_failed k other failed one fits = failed

rest_asks : (commands : ℕ → SlotCommand) (slot : ℕ) (t : Transfer) (request : Request) (past : History) (k : Ledger) → issued slot past ≡ Some t
    → is_queued t.work.kind ≡ false → is_sent slot past ≡ false → IsAlone request → FitsRequest k request
    → Same commands past k → Same commands (Sent slot ∷ past) (asks k request k.failed)
rest_asks commands slot t request past k there not_queued sent one fits same =
    let fresh : IsUntouched slot past = same.untouched slot t there sent in
    let is : asks k request k.failed ≡ alone k request = asks_fits k request same.fine fits in
    let beside : IsBeside k (asks k request k.failed) = asks_beside k request same.fine one fits in
    same_after commands past (Sent slot ∷ past) k (asks k request k.failed) (record {
      test = λ s u. false;
      issued_is = λ s. refl;
      fine = λ fine. subst (λ (x : Ledger). x.failed ≡ false) (sym is) (alone_failed k request fine one fits);
      live =
          λ s u here queued going life. others_keep s slot (commands s) request past k
          (other_queued slot s t u past there not_queued here queued) same.fine one fits life;
      free = λ s none f. free_beside s k (asks k request k.failed) beside f;
      ends = λ s u here q ended life. false_true ended;
      unsent =
          λ s unsent. let before = sent_before s slot past (eqb slot s) refl unsent in (before.1, free_beside s k (asks k request k.failed) beside);
      untouched =
          λ s unsent f before. let other = sent_before s slot past (eqb slot s) refl unsent in record { quiet = other.0; unset = before.unset };
      talk = λ talk. subst (InTalk (Sent slot ∷ past)) (sym is) (talk_asks slot t request past k there not_queued fresh.unset one fits);
    }) same

-- ---- where no tag is in use the ledger rests

no_tags : (k : Ledger) (cs : List Command) → k.outstanding ≡ cs → ((s : ℕ) → IsFree k s) → k.outstanding ≡ []
no_tags k [] is free = is
no_tags k (c ∷ cs) is free =
    let f : IsFree k c.tag = free c.tag in
    let parts =
    or_parts (c.tag == c.tag) (list_any (λ q. q.tag == c.tag) cs) (sym (ap (list_any (λ (q : Command). q.tag == c.tag)) is) ∙ f.outstanding) in
    absurd (true≢false (sym (eq-eqb c.tag c.tag refl) ∙ parts.0))

none_ended : (k : Ledger) (us : List ℕ) → k.unanswered ≡ us → ((s : ℕ) → IsFree k s) → k.unanswered ≡ []
none_ended k [] is free = is
none_ended k (u ∷ us) is free =
    let f : IsFree k u = free u in
    let parts = or_parts (u == u) (has u us) (sym (ap (has u) is) ∙ f.unanswered) in
    absurd (true≢false (sym (eq-eqb u u refl) ∙ parts.0))

none_moves : (k : Ledger) (m : Option Moving) → k.moving ≡ m → ((s : ℕ) → IsFree k s) → k.moving ≡ None
none_moves k None is free = is
none_moves k (Some v) is free =
    let f : IsFree k v.command.tag = free v.command.tag in
    let other : eqb v.command.tag v.command.tag ≡ false = subst (MovesOther v.command.tag) is f.moving in
    absurd (true≢false (sym (eq-eqb v.command.tag v.command.tag refl) ∙ other))

fits_alone : (k : Ledger) (request : Request) → IsAlone request → Rests k → FitsRequest k request
fits_alone k (asked.Reset on) one rests = absurd one
fits_alone k (asked.Queue c) one rests = absurd one
fits_alone k other one rests = rests

asks_same : (commands : ℕ → SlotCommand) (slot : ℕ) (t : Transfer) (request : Request) (past : History) (k : Ledger) → issued slot past ≡ Some t
    → is_queued t.work.kind ≡ false → is_sent slot past ≡ false → IsAlone request
    → ((s : ℕ) → NoneQueued (issued s past)) → k.awaited ≢ Signs ∷ [] → NothingWaits past → Same commands past k
    → AsksOne commands slot request past k
asks_same commands slot t request past k there not_queued sent one none signed nothing same =
    let free : (s : ℕ) → IsFree k s = λ s. same.free s (none s) in
    let silent : IsQuiet k = quiet past k nothing signed same.talk in
    let fits : FitsRequest k request = fits_alone k request one (record {
      outstanding = no_tags k k.outstanding refl free;
      unanswered = none_ended k k.unanswered refl free;
      awaited = silent.awaited;
      pages = silent.pages;
      moving = none_moves k k.moving refl free;
    }) in
    record { fits = fits; same = rest_asks commands slot t request past k there not_queued sent one fits same }

-- ## FISes of the disk

-- auto-activate of a write whose bytes the DMA Setup named
auto_life : (b : Bool) (s : ℕ) (c : SlotCommand) (v : Moving) (past : History) (x : Ledger) → x.moving ≡ Some v → c.command.tag ≡ s
    → v.moved + v.count ≡ bytes_named v.setups → InLife s c past x → InLife s c past (with_auto b x)
auto_life true s c v past x moving tag in_turn life = activates_keep s c v past x moving tag in_turn life
auto_life false s c v past x moving tag in_turn life = life

-- what a DMA Setup names is the last that was named
named_last : (moved at count : ℕ) (setups : List Stretch) → moved ≡ bytes_named setups
    → moved + count ≡ bytes_named (setups ++ record { at = at; count = count } ∷ [])
named_last moved at count setups is =
    let all : bytes_named (setups ++ record { at = at; count = count } ∷ []) ≡ bytes_named setups + count =
    sum_by-append (λ (x : Stretch). x.count) setups _ ∙ (omega arith) in
    ap (λ (n : ℕ). n + count) is ∙ sym all

-- what a DMA Setup that is right leaves: its data moves, nothing else changes, and its tag is not free
pub record IsSetUp (k : Ledger) (f : List ℕ) (x : Ledger) : Type 0 where
  pub current : Moving
  pub moving : x.moving ≡ Some current
  pub tag : field Setup BufferId f ≡ current.command.tag
  pub direction : field Setup table.D f ≡ from_bool (not current.command.write)
  pub count : field Setup table.Count f ≡ current.count
  pub in_turn : current.moved + current.count ≡ bytes_named current.setups
  pub awaited : x.awaited ≡ k.awaited
  pub pages : x.pages ≡ k.pages
  pub failed : x.failed ≡ k.failed
  pub beside : (s : ℕ) → IsFree k s → eqb (field Setup BufferId f) s ≡ false
  pub live : (s : ℕ) (c : SlotCommand) (past : History) → is_at (field Setup BufferId f) (waiting_in past) ≡ false → c.command.tag ≡ s
      → InLife s c past k → InLife s c (told (Ok (view.DmaSetup f)) ++ past) x

set_up_by : (k : Ledger) (f : List ℕ) (m : Option Moving) (o : Option Command) → k.moving ≡ m
    → find (λ q. q.tag == field Setup BufferId f) k.outstanding ≡ o → IsRight k (Ok (view.DmaSetup f))
    → IsSetUp k f (sets_up k k.moving (field Setup BufferId f) (field Setup Offset f) (field Setup table.Count f))
set_up_by k f None None moving found right =
    let first : SetsUpRight k None f = subst (λ (v : Option Moving). SetsUpRight k v f) moving right.moves in
    absurd (subst (λ (q : Option Command). StartsOne q f) found first)
set_up_by k f None (Some q) moving found right =
    let at = field Setup Offset f in
    let count = field Setup table.Count f in
    let first : SetsUpRight k None f = subst (λ (v : Option Moving). SetsUpRight k v f) moving right.moves in
    let next : SetsUpNext q 0 [] f = subst (λ (q : Option Command). StartsOne q f) found first in
    let up : sets_up k k.moving (field Setup BufferId f) at count ≡ starts_moving k at count (Some q) =
    ap (λ (v : Option Moving). sets_up k v (field Setup BufferId f) at count) moving ∙ ap (starts_moving k at count) found in
    subst (IsSetUp k f) (sym up) (record {
      current = record {
        command = q;
        before = k.writes;
        bytes = replicate (512 * q.count) 0;
        moved = 0;
        setups = record { at = at; count = count } ∷ [];
        offset = at;
        count = count;
        active = false;
      };
      moving = refl;
      tag = next.tag;
      direction = next.direction;
      count = refl;
      in_turn = named_last 0 at count [] next.in_turn;
      awaited = refl;
      pages = refl;
      failed = refl;
      beside = λ s free.
          ap (λ (n : ℕ). eqb n s) next.tag
          ∙ found_not (λ (x : Command). x.tag == field Setup BufferId f) (λ (x : Command). x.tag == s) k.outstanding q found free.outstanding;
      live = λ s c past answered_yet tag life.
          setups_start s (field Setup BufferId f) at count (field Setup table.D f == 1) c q past k moving found answered_yet next.inside life;
    })
set_up_by k f (Some v) o moving found right =
    let at = field Setup Offset f in
    let count = field Setup table.Count f in
    let next : SetsUpRight k (Some v) f = subst (λ (m : Option Moving). SetsUpRight k m f) moving right.moves in
    let rest : SetsUpNext v.command v.moved v.setups f = next.1 in
    let up : sets_up k k.moving (field Setup BufferId f) at count ≡ sets_up k (Some v) (field Setup BufferId f) at count =
    ap (λ (m : Option Moving). sets_up k m (field Setup BufferId f) at count) moving in
    subst (IsSetUp k f) (sym up) (record {
      current = record v { setups = v.setups ++ record { at = at; count = count } ∷ []; offset = at; count = count; active = false };
      moving = refl;
      tag = rest.tag;
      direction = rest.direction;
      count = refl;
      in_turn = named_last v.moved at count v.setups rest.in_turn;
      awaited = refl;
      pages = refl;
      failed = refl;
      beside = λ s free. ap (λ (n : ℕ). eqb n s) rest.tag ∙ subst (MovesOther s) moving free.moving;
      live = λ s c past answered_yet tag life.
          subst (λ (n : ℕ). InLife s c (SetUp n at count (field Setup table.D f == 1) ∷ past) (sets_up k (Some v) n at count)) (sym rest.tag)
          (subst (λ (m : Option Moving). InLife s c (SetUp v.command.tag at count (field Setup table.D f == 1) ∷ past) (sets_up k m v.command.tag at count))
          moving (setups_go_on s at count (field Setup table.D f == 1) c v past k moving tag rest.inside life));
    })

pub set_up_now : (k : Ledger) (f : List ℕ) → IsRight k (Ok (view.DmaSetup f))
    → IsSetUp k f (sets_up k k.moving (field Setup BufferId f) (field Setup Offset f) (field Setup table.Count f))
set_up_now k f right = set_up_by k f k.moving (find (λ q. q.tag == field Setup BufferId f) k.outstanding) refl refl right

active_answers : (x : Ledger) (m : Option Moving)
    → ((activates x m).awaited ≡ x.awaited) × ((activates x m).pages ≡ x.pages) × ((activates x m).failed ≡ x.failed)
active_answers x None = (refl, refl, refl)
active_answers x (Some v) = (refl, refl, refl)

auto_answers : (b : Bool) (x : Ledger)
    → ((with_auto b x).awaited ≡ x.awaited) × ((with_auto b x).pages ≡ x.pages) × ((with_auto b x).failed ≡ x.failed)
auto_answers true x = active_answers x x.moving
auto_answers false x = (refl, refl, refl)

-- a FIS that completes nothing that is queued
up_same : (commands : ℕ → SlotCommand) (fis : Result Fis FisFault) (past later : History) (k : Ledger) (test : ℕ → Transfer → Bool) → IsRight k fis
    → ((s : ℕ) → issued s later ≡ Stays (issued s past) (test s))
    → ((s : ℕ) (t : Transfer) → is_queued t.work.kind ≡ true → test s t ≡ true → ⊥) → ((s : ℕ) → is_sent s later ≡ is_sent s past)
    → ((s : ℕ) → IsFree k s → IsUntouched s past → IsUntouched s later) → (k.failed ≡ false → (listens_up k fis).failed ≡ false)
    → ((s : ℕ) → InLife s (commands s) past k → InLife s (commands s) later (listens_up k fis)) → (InTalk past k → InTalk later (listens_up k fis))
    → Same commands past k → Same commands later (listens_up k fis)
up_same commands fis past later k test right issued_is never sent_is untouched fine live talk same =
    same_after commands past later k (listens_up k fis) (record {
      test = test;
      issued_is = issued_is;
      fine = fine;
      live = λ s t there queued going life. live s life;
      free = λ s none free. free_up k fis s right free;
      ends = λ s t there queued ended life. absurd (never s t queued ended);
      unsent = λ s unsent. (sym (sent_is s) ∙ unsent, free_up k fis s right);
      untouched = λ s unsent. untouched s;
      talk = talk;
    }) same

-- a queued command that waits goes on to do so where data moves
waits_on : (past later : History) (e : ℕ → Transfer → Bool) → waiting_in later ≡ waiting_in past
    → ((s : ℕ) → issued s later ≡ Stays (issued s past) (e s)) → ((s : ℕ) (t : Transfer) → is_queued t.work.kind ≡ true → e s t ≡ true → ⊥)
    → IsWaited true past → IsWaited true later
waits_on past later e waits issued_is never w =
    waited_on true past later w (e w.slot) waits (issued_is w.slot) (not_true (e w.slot w.transfer) (never w.slot w.transfer w.kind))
  where
    not_true : (b : Bool) → (b ≡ true → ⊥) → b ≡ false
    not_true true no_one = absurd (no_one refl)
    not_true false no_one = refl

takes_set_up : (commands : ℕ → SlotCommand) (f : List ℕ) (past : History) (k : Ledger) → IsRight k (Ok (view.DmaSetup f))
    → is_at (field Setup BufferId f) (waiting_in past) ≡ false → Same commands past k
    → Same commands (told (Ok (view.DmaSetup f)) ++ past) (listens_up k (Ok (view.DmaSetup f)))
takes_set_up commands f past k right answered_yet same =
    let x : Ledger = sets_up k k.moving (field Setup BufferId f) (field Setup Offset f) (field Setup table.Count f) in
    let u : IsSetUp k f (sets_up k k.moving (field Setup BufferId f) (field Setup Offset f) (field Setup table.Count f)) = set_up_now k f right in
    let auto = auto_answers (is_auto f) x in
    up_same commands (Ok (view.DmaSetup f)) past (told (Ok (view.DmaSetup f)) ++ past) k (λ s t. false) right (λ s. refl)
    (λ s t queued ended. true≢false (sym ended)) (λ s. refl)
    (λ s free untouched. record { quiet = untouched.quiet; unset = u.beside s free })
    (λ fine. auto.2 ∙ u.failed ∙ fine)
    (λ s life. auto_life (is_auto f) s (commands s) u.current (told (Ok (view.DmaSetup f)) ++ past) x u.moving (same.tags s) u.in_turn
    (u.live s (commands s) past answered_yet (same.tags s) life))
    (talk_stays past (told (Ok (view.DmaSetup f)) ++ past) k (listens_up k (Ok (view.DmaSetup f))) (auto.0 ∙ u.awaited) (auto.1 ∙ u.pages)
    (idle_sets_up f k right.moves)
    (waits_on past (told (Ok (view.DmaSetup f)) ++ past) (λ s t. false) refl (λ s. refl) (λ s t queued ended. true≢false (sym ended)))) same

activates_by : (commands : ℕ → SlotCommand) (f : List ℕ) (past : History) (k : Ledger) (m : Option Moving) → k.moving ≡ m
    → IsRight k (Ok (view.DmaActivate f)) → Same commands past k → Same commands past (activates k k.moving)
activates_by commands f past k None moving right same = absurd (subst ActivatesRight moving right.moves)
activates_by commands f past k (Some v) moving right same =
    let asks_once : AsksOnce v = subst ActivatesRight moving right.moves in
    let up : activates k k.moving ≡ activates k (Some v) = ap (activates k) moving in
    up_same commands (Ok (view.DmaActivate f)) past past k (λ s t. false) right (λ s. stays_all (issued s past))
    (λ s t queued ended. true≢false (sym ended)) (λ s. refl)
    (λ s free u. u)
    (λ fine. ap (λ (x : Ledger). x.failed) up ∙ fine)
    (λ s life. activates_keep s (commands s) v past k moving (same.tags s) asks_once.in_turn life)
    (talk_stays past past k (activates k k.moving) (ap (λ (x : Ledger). x.awaited) up) (ap (λ (x : Ledger). x.pages) up)
    (idle_activates k right.moves) (λ w. w)) same
  where
    stays_all : (o : Option Transfer) → o ≡ Stays o (λ t. false)
    stays_all None = refl
    stays_all (Some t) = refl

-- ---- Data

bytes_answers : (k : Ledger) (w : Moving) (b write : Bool)
    → ((after_bytes k w b write).awaited ≡ k.awaited) × ((after_bytes k w b write).pages ≡ k.pages) × ((after_bytes k w b write).failed ≡ k.failed)
bytes_answers k w true true = (refl, refl, refl)
bytes_answers k w true false = (refl, refl, refl)
bytes_answers k w false write = (refl, refl, refl)

never_by_data : (bytes : List ℕ) (past : History) (s : ℕ) (t : Transfer) → is_queued t.work.kind ≡ true
    → completes s (Carried bytes) past t.work ≡ true → ⊥
never_by_data bytes past s t queued ended = no_end _ (is_pio t.work.kind) _ _ (not_pio t.work.kind queued) ended

takes_bytes : (commands : ℕ → SlotCommand) (f : List ℕ) (past : History) (k : Ledger) (m : Option Moving) → k.moving ≡ m → IsRight k (Ok (view.Payload f))
    → Same commands past k → Same commands (Carried (drop 4 f) ∷ past) (sends_data k k.moving (drop 4 f))
takes_bytes commands f past k None moving right same =
    let pages : k.pages ≢ [] = subst (PageAsked k) moving right.asked in
    let up : sends_data k k.moving (drop 4 f) ≡ record k { pages = drop 1 k.pages } = ap (λ (m : Option Moving). sends_data k m (drop 4 f)) moving in
    up_same commands (Ok (view.Payload f)) past (Carried (drop 4 f) ∷ past) k (λ s t. completes s (Carried (drop 4 f)) past t.work) right (λ s. refl)
    (never_by_data (drop 4 f) past) (λ s. refl)
    (λ s free u. record { quiet = u.quiet; unset = u.unset })
    (λ fine. ap (λ (x : Ledger). x.failed) up ∙ fine)
    (λ s life. answers_keep.page s (commands s) (drop 4 f) past k (page_idle past k pages same.talk) life)
    (λ talk. subst (InTalk (Carried (drop 4 f) ∷ past)) (sym up) (talk_page (drop 4 f) past k pages talk)) same
takes_bytes commands f past k (Some v) moving right same =
    let carries : CarriesNext v (drop 4 f) = subst (λ (m : Option Moving). CarriesRight m (drop 4 f)) moving right.moves in
    let w : Moving = with_bytes v (drop 4 f) in
    let up : sends_data k k.moving (drop 4 f) ≡ after_bytes k (with_bytes v (drop 4 f)) (is_all (with_bytes v (drop 4 f))) false =
    ap (λ (m : Option Moving). sends_data k m (drop 4 f)) moving
    ∙ goes_by k (with_bytes v (drop 4 f)) (is_all (with_bytes v (drop 4 f))) false refl carries.reads in
    let is = bytes_answers k (with_bytes v (drop 4 f)) (is_all (with_bytes v (drop 4 f))) false in
    up_same commands (Ok (view.Payload f)) past (Carried (drop 4 f) ∷ past) k (λ s t. completes s (Carried (drop 4 f)) past t.work) right (λ s. refl)
    (never_by_data (drop 4 f) past) (λ s. refl)
    (λ s free u. record { quiet = u.quiet; unset = u.unset })
    (λ fine. ap (λ (x : Ledger). x.failed) up ∙ is.2 ∙ fine)
    (λ s life. data_up s (commands s) v (drop 4 f) past k moving (same.tags s) carries life)
    (talk_stays past (Carried (drop 4 f) ∷ past) k (sends_data k k.moving (drop 4 f)) (ap (λ (x : Ledger). x.awaited) up ∙ is.0)
    (ap (λ (x : Ledger). x.pages) up ∙ is.1) (idle_moves k v moving)
    (waits_on past (Carried (drop 4 f) ∷ past) (λ s t. completes s (Carried (drop 4 f)) past t.work) refl (λ s. refl)
    (never_by_data (drop 4 f) past))) same

gives_bytes : (commands : ℕ → SlotCommand) (bytes : List ℕ) (past : History) (k : Ledger) (m : Option Moving) → k.moving ≡ m → FitsData m bytes
    → Same commands past k → Same commands (Carried bytes ∷ past) (takes_data k k.moving bytes)
gives_bytes commands bytes past k None moving asked same = absurd asked
gives_bytes commands bytes past k (Some v) moving asked same =
    let down : takes_data k k.moving bytes ≡ after_bytes k (with_bytes v bytes) (is_all (with_bytes v bytes)) true =
    data_down k v bytes (is_all (with_bytes v bytes)) moving asked refl in
    let is = bytes_answers k (with_bytes v bytes) (is_all (with_bytes v bytes)) true in
    let stays : (s : ℕ) → IsFree k s → IsFree (takes_data k k.moving bytes) s =
    λ s free. subst (λ (x : Ledger). IsFree x s) (sym down)
    (free_ends s k (with_bytes v bytes) (is_all (with_bytes v bytes)) true (subst (MovesOther s) moving free.moving) free) in
    same_after commands past (Carried bytes ∷ past) k (takes_data k k.moving bytes) (record {
      test = λ s t. completes s (Carried bytes) past t.work;
      issued_is = λ s. refl;
      fine = λ fine. ap (λ (x : Ledger). x.failed) down ∙ is.2 ∙ fine;
      live = λ s t there queued going life. data_comes_down s (commands s) v bytes past k moving (same.tags s) asked life;
      free = λ s none free. stays s free;
      ends = λ s t there queued ended life. absurd (never_by_data bytes past s t queued ended);
      unsent = λ s unsent. (unsent, stays s);
      talk =
          talk_stays past (Carried bytes ∷ past) k (takes_data k k.moving bytes) (ap (λ (x : Ledger). x.awaited) down
          ∙ is.0) (ap (λ (x : Ledger). x.pages) down ∙ is.1) (idle_moves k v moving)
          (waits_on past (Carried bytes ∷ past) (λ s t. completes s (Carried bytes) past t.work) refl (λ s. refl) (never_by_data bytes past));
      untouched = λ s unsent free u. record { quiet = u.quiet; unset = u.unset };
    }) same

-- ---- a Set Device Bits FIS

bits_same : (commands : ℕ → SlotCommand) (f : List ℕ) (past : History) (k : Ledger) → IsRight k (Ok (view.SetBits f)) → IsHeard past (Ok (view.SetBits f))
    → Same commands past k
    → Same commands (Named (field Bits SActive f) ∷ past) (answers k (field Bits table.Error f) false)
bits_same commands f past k right ended same =
    let mask = field Bits SActive f in
    let error = field Bits table.Error f in
    let names = right.answers right.fine in
    let stays : (s : ℕ) → IsFree k s → IsFree (answers k error false) s =
    λ s free. subst (λ (x : Ledger). IsFree x s) (bits_up k f right.fine) (free_up k (Ok (view.SetBits f)) s right free) in
    same_after commands past (Named mask ∷ past) k (answers k error false) (record {
      test = λ s t. completes s (Named mask) past t.work;
      issued_is = λ s. refl;
      fine = λ fine. fine;
      live = λ s t there queued going life. names_keep.other s mask error (commands s) past k names (unnamed s t there queued going) life;
      free = λ s none free. stays s free;
      ends = λ s t there queued done life. names_keep.free s mask error (commands s) past k names (and_parts _ _ done).0 life;
      unsent = λ s unsent. (unsent, stays s);
      untouched = λ s unsent free u. record { quiet = u.quiet; unset = u.unset };
      talk = talk_stays past (Named mask ∷ past) k (answers k error false) refl refl (idle_names mask k names) waits;
    }) same
  where
    -- what is named was answered, so that it is not the command that waits
    unended : (w : IsWaited true past) (b : Bool) → completes w.slot (Named (field Bits SActive f)) past w.transfer.work ≡ b → b ≡ false
    unended w false is = refl
    unended w true is =
        let named : has_bit (field Bits SActive f) w.slot ≡ true = (and_parts _ _ is).0 in
        let answered_yet : is_at w.slot (waiting_in past) ≡ false =
        names_keep.answered w.slot (field Bits SActive f) (commands w.slot) past k (right.answers right.fine) named
        (same.live w.slot w.transfer w.there w.kind) in
        absurd (true≢false (sym (ap (is_at w.slot) w.waits ∙ eq-eqb w.slot w.slot refl) ∙ answered_yet))

    waits : IsWaited true past → IsWaited true (Named (field Bits SActive f) ∷ past)
    waits w =
        waited_on true past (Named (field Bits SActive f) ∷ past) w (λ t. completes w.slot (Named (field Bits SActive f)) past t.work) refl refl
        (unended w (completes w.slot (Named (field Bits SActive f)) past w.transfer.work) refl)

    unnamed : (s : ℕ) (t : Transfer) → issued s past ≡ Some t → is_queued t.work.kind ≡ true
        → completes s (Named (field Bits SActive f)) past t.work ≡ false → has_bit (field Bits SActive f) s ≡ false
    unnamed s t there queued going = elim (cases_Bool (has_bit (field Bits SActive f) s)) [
      | inl named ↦ absurd (true≢false (sym (ended s t there queued named) ∙ going))
      | inr other ↦ other
    ]

-- ---- each kind

takes_same : (commands : ℕ → SlotCommand) (fis : Result Fis FisFault) (past : History) (k : Ledger) → IsRight k fis → IsHeard past fis
    → Same commands past k → Same commands (told fis ++ past) (listens_up k fis)
takes_same commands (Ok (view.RegD2H f)) past k right ended same =
    up_same commands (Ok (view.RegD2H f)) past (Answered ∷ past) k (λ s t. completes s Answered past t.work) right (λ s. refl)
    (λ s t queued done. no_answer (is_at s (waiting_in past)) (is_queued t.work.kind) _ queued done) (λ s. refl)
    (λ s free u. record { quiet = refl; unset = u.unset }) (λ fine. fine)
    (λ s life. answers_keep.register s (commands s) past k life) (talk_register f past k right.replies) same
takes_same commands (Ok (view.SetBits f)) past k right ended same =
    subst (Same commands (Named (field Bits SActive f) ∷ past)) (sym (bits_up k f right.fine)) (bits_same commands f past k right ended same)
takes_same commands (Ok (view.DmaActivate f)) past k right ended same = activates_by commands f past k k.moving refl right same
takes_same commands (Ok (view.DmaSetup f)) past k right ended same = takes_set_up commands f past k right ended same
takes_same commands (Ok (view.PioSetup f)) past k right ended same =
    let count = field Pio table.Transfer f in
    let ends_with = field Pio EStatus f in
    up_same commands (Ok (view.PioSetup f)) past (told (Ok (view.PioSetup f)) ++ past) k (λ s t. false) right (λ s. refl)
    (λ s t queued done. true≢false (sym done)) (λ s. refl)
    (λ s free u. record { quiet = u.quiet; unset = u.quiet }) (λ fine. fine)
    (λ s life. answers_keep.shows s count ends_with (field Pio table.D f == 1) (commands s) past k (shows_idle f past k right.replies same.talk) life)
    (talk_shown f count ends_with (field Pio table.D f == 1) past k right.replies) same
takes_same commands (Ok (view.Payload f)) past k right ended same = takes_bytes commands f past k k.moving refl right same
takes_same commands other past k right ended same = same

pub same_goes_on : SameGoesOn
same_goes_on = record {
  opens = opens_same;
  issues = issues_same;
  queues = queues_same;
  asks_other = asks_same;
  takes = takes_same;
  gives = λ commands bytes past k fits same. gives_bytes commands bytes past k k.moving refl fits same;
}
