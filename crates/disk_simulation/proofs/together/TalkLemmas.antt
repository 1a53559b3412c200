-- For `both_views_go_on_together`. What each event leaves of the answers that are still to come.
use Rattle.std.proofs.Common.{◌≡◌, ◌==◌, ◌&&◌, eqb, ℕ, Bool, true, false, List, [], ◌∷◌, ◌++◌, refl, sym, ap, subst, ◌∙◌, inl, inr, Option, Some}
use Rattle.std.proofs.{Common.{None, arith}, lemmas.Bool.{cases_Bool, eq-eqb, eqb-true, true≢false, Decides.nat_tests}}
use Rattle.std.specs.Prelude.{◌≢◌, if◌then◌else◌, drop, find}
use Rattle.fis_view.specs.Table.{BufferId, Setup, field}
use Rattle.slots.specs.{Slots.match_some, Work.is_queued}
use Rattle.disk_model.specs.{declared.request.{Command.Command, Request.Request}, Ends.{FitsRequest, Rests}, Laws.{ActivatesRight, AnswersFirst}}
use Rattle.disk_model.specs.{Laws.{SetsUpRight, ShowsFirst, StartsOne}, Ledger.{Accepts, Finishes, IdentifyData, Ledger, LogOf, Moving, Names}}
use Rattle.disk_model.specs.{Ledger.{Refuses, Reply, ShowsPage, Signs, Wanted, answered}, Between.{alone, opened}}
use Rattle.disk_model.specs.declared.request.Request.TheVariants as asked
use Rattle.hba_laws.specs.History.{Answered, Carried, History, Issued, PioSetUp, Sent, Transfer, completes, is_at, is_set_up, issued, unless}
use Rattle.hba_laws.specs.History.{waiting_in}
use Rattle.disk_simulation.specs.{Answers.{IsAlone, IsIdle}, Together.{AtMostAccepts, AtMostOne, InTalk, IsOwnReply, IsWaited, IsWaitedUnset}}
use Rattle.disk_simulation.specs.Together.{NothingWaits, Pages, Queues, Replies, Shows}

-- ## The command that waits

turned : (a b : ℕ) → eqb a b ≡ false → eqb b a ≡ false
turned a b e = grind (arith, nat_tests)

some_free : (o : Option Transfer) (t : Transfer) → o ≡ None → o ≡ Some t → ⊥
some_free o t none some = cc (sym none ∙ some)

-- what stays issued at an event: all that it does not complete
abbrev pub Stays : Option Transfer → (Transfer → Bool) → Option Transfer
Stays o test = match_some o None (λ u. unless (test u) (Some u))

other_slot : (q : Bool) (slot : ℕ) (past : History) (w : IsWaited q past) → issued slot past ≡ None → eqb w.slot slot ≡ false
other_slot q slot past w free = elim (cases_Bool (eqb w.slot slot)) [
  | inl same ↦
      let at : w.slot ≡ slot = eqb-true w.slot slot same in
      absurd (some_free (issued w.slot past) w.transfer (ap (λ (s : ℕ). issued s past) at ∙ free) w.there)
  | inr other ↦ other
]

waited_issue : (q : Bool) (slot : ℕ) (t : Transfer) (past : History) → issued slot past ≡ None → IsWaited q past → IsWaited q (Issued slot t ∷ past)
waited_issue q slot t past free w =
    let other : eqb w.slot slot ≡ false = other_slot q slot past w free in
    let apart : is_at slot (waiting_in past) ≡ false = ap (is_at slot) w.waits ∙ other in
    record {
      slot = w.slot;
      transfer = w.transfer;
      kind = w.kind;
      waits = ap (λ (b : Bool). unless b (waiting_in past)) apart ∙ w.waits;
      there = ap (λ (b : Bool). if b then Some t else issued w.slot past) (turned w.slot slot other) ∙ w.there;
    }

unset_issue : (slot : ℕ) (t : Transfer) (past : History) → issued slot past ≡ None → IsWaitedUnset past → IsWaitedUnset (Issued slot t ∷ past)
unfolding waited_issue
unset_issue slot t past free u =
    let w : IsWaited false past = u.waited in
    let other : eqb w.slot slot ≡ false = other_slot false slot past w free in
    record {
      waited = waited_issue false slot t past free w;
      unset = ap (λ (b : Bool). if b then false else is_set_up w.slot past) (turned w.slot slot other) ∙ u.unset;
    }

-- it waits on where an event does not complete it
pub waited_on : (q : Bool) (past later : History) (w : IsWaited q past) (test : Transfer → Bool) → waiting_in later ≡ waiting_in past
    → issued w.slot later ≡ Stays (issued w.slot past) test → test w.transfer ≡ false → IsWaited q later
waited_on q past later w test waits issued_is going = record {
  slot = w.slot;
  transfer = w.transfer;
  kind = w.kind;
  waits = waits ∙ w.waits;
  there = issued_is ∙ ap (λ (o : Option Transfer). Stays o test) w.there ∙ ap (λ (b : Bool). unless b (Some w.transfer)) going;
}

waited_sent : (q : Bool) (slot : ℕ) (t : Transfer) (past : History) → issued slot past ≡ Some t → is_queued t.work.kind ≡ q
    → IsWaited q (Sent slot ∷ past)
waited_sent q slot t past there kind =
    record { slot = slot; transfer = t; kind = kind; waits = refl; there = ap (λ (o : Option Transfer). match_some o None (λ u. Some u)) there }

one_waits : (q : Bool) (past : History) → IsWaited q past → NothingWaits past → ⊥
one_waits q past w nothing = true≢false (sym (ap (is_at w.slot) w.waits ∙ eq-eqb w.slot w.slot refl) ∙ nothing w.slot w.transfer w.there)

-- ## Answers

none_after : {X : Type 0} (xs : List X) (x : X) → xs ≡ x ∷ [] → drop 1 xs ≡ []
none_after xs x is = ap (drop 1) is

accepted : (xs : List Reply) → AtMostAccepts xs → drop 1 xs ≡ []
accepted [] few = refl
accepted (Accepts ∷ []) few = refl
accepted other few = absurd few

none_left : (ps : List Wanted) → AtMostOne ps → drop 1 ps ≡ []
none_left (p ∷ q ∷ ps) few = absurd few
none_left other few = refl

-- ## Commands

own_issue : (reply : Reply) (slot : ℕ) (t : Transfer) (past : History) → issued slot past ≡ None → IsOwnReply reply past
    → IsOwnReply reply (Issued slot t ∷ past)
own_issue Signs slot t past free own = tt
own_issue Finishes slot t past free own = waited_issue false slot t past free own
own_issue Refuses slot t past free own = waited_issue false slot t past free own
own_issue other slot t past free own = own

pub talk_issues : (slot : ℕ) (t : Transfer) (past : History) (k : Ledger) → issued slot past ≡ None → InTalk past k → InTalk (Issued slot t ∷ past) k
talk_issues slot t past k free (Queues few waits none) = Queues few (λ some. waited_issue true slot t past free (waits some)) none
talk_issues slot t past k free (Replies reply idle is own none) = Replies reply idle is (own_issue reply slot t past free own) none
talk_issues slot t past k free (Shows idle is few unset) = Shows idle is few (unset_issue slot t past free unset)
talk_issues slot t past k free (Pages page idle is one waited) = Pages page idle is one (waited_issue false slot t past free waited)

-- nothing is to be answered where nothing waits
pub record IsQuiet (k : Ledger) : Type 0 where
  pub awaited : k.awaited ≡ []
  pub pages : k.pages ≡ []

quiet_queue : (past : History) (k : Ledger) (xs : List Reply) → k.awaited ≡ xs → NothingWaits past → (k.awaited ≢ [] → IsWaited true past)
    → k.pages ≡ [] → IsQuiet k
quiet_queue past k [] is nothing waits none = record { awaited = is; pages = none }
quiet_queue past k (x ∷ xs) is nothing waits none = absurd (one_waits true past (waits (λ empty. cc (sym empty ∙ is))) nothing)

quiet_reply : (past : History) (k : Ledger) (reply : Reply) → k.awaited ≡ reply ∷ [] → NothingWaits past → k.awaited ≢ Signs ∷ []
    → IsOwnReply reply past → IsQuiet k
quiet_reply past k Signs is nothing signed own = absurd (signed is)
quiet_reply past k Finishes is nothing signed own = absurd (one_waits false past own nothing)
quiet_reply past k Refuses is nothing signed own = absurd (one_waits false past own nothing)
quiet_reply past k other is nothing signed own = absurd own

pub quiet : (past : History) (k : Ledger) → NothingWaits past → k.awaited ≢ Signs ∷ [] → InTalk past k → IsQuiet k
quiet past k nothing signed (Queues few waits none) = quiet_queue past k k.awaited refl nothing waits none
quiet past k nothing signed (Replies reply idle is own none) = quiet_reply past k reply is nothing signed own
quiet past k nothing signed (Shows idle is few unset) = absurd (one_waits false past unset.waited nothing)
quiet past k nothing signed (Pages page idle is one waited) = absurd (one_waits false past waited nothing)

pub talk_queues : (slot : ℕ) (t : Transfer) (c : Command) (past : History) (k : Ledger) → issued slot past ≡ Some t → is_queued t.work.kind ≡ true
    → IsQuiet k → InTalk (Sent slot ∷ past) (opened k c)
talk_queues slot t c past k there queued quiet =
    Queues (subst (λ (xs : List Reply). AtMostAccepts (xs ++ Accepts ∷ [])) (sym quiet.awaited) tt)
    (λ some. waited_sent true slot t past there queued) quiet.pages

one_more : {X : Type 0} (xs : List X) (x : X) → xs ≡ [] → xs ++ x ∷ [] ≡ x ∷ []
one_more xs x empty = ap (λ ys. ys ++ x ∷ []) empty

talk_shows : (slot : ℕ) (t : Transfer) (past : History) (k x : Ledger) (page : Wanted) → issued slot past ≡ Some t → is_queued t.work.kind ≡ false
    → is_set_up slot past ≡ false → Rests k
    → x.outstanding ≡ k.outstanding → x.unanswered ≡ k.unanswered → x.moving ≡ k.moving → x.awaited ≡ k.awaited ++ ShowsPage ∷ []
    → x.pages ≡ k.pages ++ page ∷ [] → InTalk (Sent slot ∷ past) x
unfolding waited_sent
talk_shows slot t past k x page there kind unset rests outstanding unanswered moving awaited pages =
    Shows (record { outstanding = outstanding ∙ rests.outstanding; unanswered = unanswered ∙ rests.unanswered; moving = moving ∙ rests.moving })
    (awaited ∙ one_more k.awaited ShowsPage rests.awaited) (subst AtMostOne (sym (pages ∙ one_more k.pages page rests.pages)) tt)
    (record { waited = waited_sent false slot t past there kind; unset = unset })

talk_replies : (slot : ℕ) (past : History) (k x : Ledger) (reply : Reply) → IsOwnReply reply (Sent slot ∷ past) → Rests k
    → x.outstanding ≡ k.outstanding → x.unanswered ≡ k.unanswered → x.moving ≡ k.moving
    → x.awaited ≡ k.awaited ++ reply ∷ [] → x.pages ≡ k.pages → InTalk (Sent slot ∷ past) x
talk_replies slot past k x reply own rests outstanding unanswered moving awaited pages =
    Replies reply (record { outstanding = outstanding ∙ rests.outstanding; unanswered = unanswered ∙ rests.unanswered; moving = moving ∙ rests.moving })
    (awaited ∙ one_more k.awaited reply rests.awaited) own (pages ∙ rests.pages)

pub talk_asks : (slot : ℕ) (t : Transfer) (request : Request) (past : History) (k : Ledger) → issued slot past ≡ Some t
    → is_queued t.work.kind ≡ false → is_set_up slot past ≡ false → IsAlone request → FitsRequest k request
    → InTalk (Sent slot ∷ past) (alone k request)
talk_asks slot t (asked.Reset on) past k there kind unset one fits = absurd fits
talk_asks slot t (asked.Queue c) past k there kind unset one fits = absurd one
talk_asks slot t asked.ReadErrorLog past k there kind unset one fits =
    talk_shows slot t past k (alone k asked.ReadErrorLog) (LogOf k.failure) there kind unset fits refl refl refl refl refl
talk_asks slot t asked.Identify past k there kind unset one fits =
    talk_shows slot t past k (alone k asked.Identify) IdentifyData there kind unset fits refl refl refl refl refl
talk_asks slot t asked.Flush past k there kind unset one fits =
    talk_replies slot past k (alone k asked.Flush) Finishes (waited_sent false slot t past there kind) fits refl refl refl refl refl
talk_asks slot t asked.Other past k there kind unset one fits =
    talk_replies slot past k (alone k asked.Other) Refuses (waited_sent false slot t past there kind) fits refl refl refl refl refl

-- ## FISes of the disk

-- one that no disk sends where no queued command is there leaves the answers as they are
pub talk_stays : (past later : History) (k x : Ledger) → x.awaited ≡ k.awaited → x.pages ≡ k.pages → (IsIdle k → ⊥)
    → (IsWaited true past → IsWaited true later) → InTalk past k → InTalk later x
talk_stays past later k x awaited pages busy on (Queues few waits none) =
    Queues (subst AtMostAccepts (sym awaited) few) (λ some. on (waits (λ empty. some (awaited ∙ empty)))) (pages ∙ none)
talk_stays past later k x awaited pages busy on (Replies reply idle is own none) = absurd (busy idle)
talk_stays past later k x awaited pages busy on (Shows idle is few unset) = absurd (busy idle)
talk_stays past later k x awaited pages busy on (Pages page idle is one waited) = absurd (busy idle)

-- nothing is to be answered any more
done_talking : (later : History) (k : Ledger) → k.awaited ≡ [] → k.pages ≡ [] → InTalk later k
done_talking later k empty none = Queues (subst AtMostAccepts (sym empty) tt) (λ some. absurd (some empty)) none

pub talk_register : (f : List ℕ) (past : History) (k : Ledger) → AnswersFirst k.awaited f → InTalk past k → InTalk (Answered ∷ past) (answered k)
talk_register f past k right (Queues few waits none) = done_talking (Answered ∷ past) (answered k) (accepted k.awaited few) none
talk_register f past k right (Replies reply idle is own none) = done_talking (Answered ∷ past) (answered k) (none_after k.awaited reply is) none
talk_register f past k right (Shows idle is few unset) = absurd (subst (λ (xs : List Reply). AnswersFirst xs f) is right)
talk_register f past k right (Pages page idle is one waited) = absurd (subst (λ (xs : List Reply). AnswersFirst xs f) is right)

shows_none : (xs : List Reply) (f : List ℕ) → AtMostAccepts xs → ShowsFirst xs f → ⊥
shows_none (ShowsPage ∷ xs) f few shows = few
shows_none other f few shows = shows

shows_own : (reply : Reply) (past : History) (f : List ℕ) → IsOwnReply reply past → ShowsFirst (reply ∷ []) f → ⊥
shows_own Accepts past f own shows = own
shows_own ShowsPage past f own shows = own
shows_own other past f own shows = shows

shown_reply : (reply : Reply) (past : History) (f : List ℕ) (k : Ledger) → k.awaited ≡ reply ∷ [] → IsOwnReply reply past → ShowsFirst k.awaited f → ⊥
shown_reply reply past f k is own shows = shows_own reply past f own (subst (λ (xs : List Reply). ShowsFirst xs f) is shows)

shown_nothing : (f : List ℕ) (k : Ledger) → k.awaited ≡ [] → ShowsFirst k.awaited f → ⊥
shown_nothing f k is shows = subst (λ (xs : List Reply). ShowsFirst xs f) is shows

-- a PIO Setup comes only where no queued command is there
pub shows_idle : (f : List ℕ) (past : History) (k : Ledger) → ShowsFirst k.awaited f → InTalk past k → IsIdle k
shows_idle f past k right (Queues few waits none) = absurd (shows_none k.awaited f few right)
shows_idle f past k right (Replies reply idle is own none) = idle
shows_idle f past k right (Shows idle is few unset) = idle
shows_idle f past k right (Pages page idle is one waited) = idle

waited_setup : (count ends : ℕ) (to_host : Bool) (past : History) → IsWaited false past → IsWaited false (PioSetUp count to_host ends ∷ past)
waited_setup count ends to_host past w = waited_on false past (PioSetUp count to_host ends ∷ past) w (λ t. false) refl refl refl

shows_page : (count ends : ℕ) (to_host : Bool) (past : History) (k : Ledger) (ps : List Wanted) → k.pages ≡ ps → AtMostOne ps → IsIdle k
    → k.awaited ≡ ShowsPage ∷ [] → IsWaited false past → InTalk (PioSetUp count to_host ends ∷ past) (answered k)
shows_page count ends to_host past k [] pages few idle is waited =
    done_talking (PioSetUp count to_host ends ∷ past) (answered k) (none_after k.awaited ShowsPage is) pages
shows_page count ends to_host past k (page ∷ []) pages few idle is waited =
    Pages page (record { outstanding = idle.outstanding; unanswered = idle.unanswered; moving = idle.moving })
    (none_after k.awaited ShowsPage is) pages
    (waited_setup count ends to_host past waited)
shows_page count ends to_host past k (page ∷ more ∷ ps) pages few idle is waited = absurd few

pub talk_shown : (f : List ℕ) (count ends : ℕ) (to_host : Bool) (past : History) (k : Ledger) → ShowsFirst k.awaited f → InTalk past k
    → InTalk (PioSetUp count to_host ends ∷ past) (answered k)
talk_shown f count ends to_host past k right (Queues few waits none) = absurd (shows_none k.awaited f few right)
talk_shown f count ends to_host past k right (Replies reply idle is own none) = absurd (shown_reply reply past f k is own right)
talk_shown f count ends to_host past k right (Shows idle is few unset) = shows_page count ends to_host past k k.pages refl few idle is unset.waited
talk_shown f count ends to_host past k right (Pages page idle is one waited) = absurd (shown_nothing f k is right)

-- so does Data where no queued command's moves
pub page_idle : (past : History) (k : Ledger) → k.pages ≢ [] → InTalk past k → IsIdle k
page_idle past k asks (Queues few waits none) = absurd (asks none)
page_idle past k asks (Replies reply idle is own none) = idle
page_idle past k asks (Shows idle is few unset) = idle
page_idle past k asks (Pages page idle is one waited) = idle

-- Data that comes before a setup of the command that waits completes nothing
not_ended : (a b c d : Bool) → a ≡ false → (a && b && c && d) ≡ false
not_ended true b c d e = absurd (true≢false e)
not_ended false b c d e = refl

unset_data : (bytes : List ℕ) (past : History) → IsWaitedUnset past → IsWaitedUnset (Carried bytes ∷ past)
unfolding waited_on
unset_data bytes past u =
    let w : IsWaited false past = u.waited in
    record {
      waited =
          waited_on false past (Carried bytes ∷ past) w (λ t. completes w.slot (Carried bytes) past t.work) refl refl
          (not_ended (is_set_up w.slot past) _ _ _ u.unset);
      unset = u.unset;
    }

pub talk_page : (bytes : List ℕ) (past : History) (k : Ledger) → k.pages ≢ [] → InTalk past k
    → InTalk (Carried bytes ∷ past) (record k { pages = drop 1 k.pages })
talk_page bytes past k asks (Queues few waits none) = absurd (asks none)
talk_page bytes past k asks (Replies reply idle is own none) = absurd (asks none)
talk_page bytes past k asks (Shows idle is few unset) =
    let none : drop 1 k.pages ≡ [] = none_left k.pages few in
    Shows (record { outstanding = idle.outstanding; unanswered = idle.unanswered; moving = idle.moving }) is (subst AtMostOne (sym none) tt)
    (unset_data bytes past unset)
talk_page bytes past k asks (Pages page idle is one waited) =
    done_talking (Carried bytes ∷ past) (record k { pages = drop 1 k.pages }) is (none_after k.pages page one)

-- ## What no disk sends where no queued command is there

pub idle_names : (mask : ℕ) (k : Ledger) → Names k.unanswered mask → IsIdle k → ⊥
idle_names mask k names idle = subst (λ (us : List ℕ). Names us mask) idle.unanswered names

pub idle_sets_up : (f : List ℕ) (k : Ledger) → SetsUpRight k k.moving f → IsIdle k → ⊥
idle_sets_up f k right idle =
    let first : SetsUpRight k None f = subst (λ (m : Option Moving). SetsUpRight k m f) idle.moving right in
    subst (λ (cs : List Command). StartsOne (find (λ c. c.tag == field Setup BufferId f) cs) f) idle.outstanding first

pub idle_activates : (k : Ledger) → ActivatesRight k.moving → IsIdle k → ⊥
idle_activates k right idle = subst ActivatesRight idle.moving right

pub idle_moves : (k : Ledger) (v : Moving) → k.moving ≡ Some v → IsIdle k → ⊥
idle_moves k v moving idle = cc (sym idle.moving ∙ moving)
