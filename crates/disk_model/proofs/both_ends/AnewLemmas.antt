-- For `disks_begin_anew`. Where both ends of a disk's link may begin anew, and what they tell from then on.
use Rattle.std.proofs.Common.{◌≡◌, ℕ, Bool, true, false, List, [], ◌∷◌, ◌++◌, append_assoc, Option, Some, None, Ok, Result, drop, refl, ap, sym}
use Rattle.std.proofs.{Common.{subst, ◌∙◌}, lemmas.List.{append_cancel_left, append-nil}}
use Rattle.std.specs.Prelude.{if◌then◌else◌}
use Rattle.fis_view.specs.{Table.{Bits, Error, field}, Seen.seen, declared.view.{Fis.Fis, FisFault.FisFault}}
use Rattle.fis_view.specs.declared.view.Fis.TheVariants as view
use Rattle.disk_model.specs.declared.{plan.{DiskPlan.DiskPlan, Order.{Order, TheVariants.{Oldest, Newest}}}, request.Command.Command}
use Rattle.disk_model.specs.declared.request.Request.{Request, TheVariants.{Reset, Queue, ReadErrorLog, Identify, Flush, Other}}
use Rattle.disk_model.specs.{declared.answer.{Answer.{Answer, TheVariants.{Ended, PageData}}, Fault.Fault, Page.Page}, Histories.Happening}
use Rattle.disk_model.specs.{Histories.{Received, Sent, Plugged}, Requests.request_of, Disks.{Started, Writing, opening, pick_turn, picked, turn}}
use Rattle.disk_model.specs.{Runs.{IsDiskRun, IsTurn, moment}, Ledger.{IsSize, Ledger, LogOf, Moving, Reply, ShowsPage, Signs, Wanted, answers, asks}}
use Rattle.disk_model.specs.Ledger.{awaits, awaits_page, given_up, has_error, ledger, ledger_after, listens, listens_down, listens_up, mixes}
use Rattle.disk_model.specs.{Ledger.{reads_log, takes_data}, Ends.{FitsAll, Rests, reports, with_down, with_up, AreRight}, Anew.AreUnheard}
use Rattle.disk_model.specs.Anew.{BeginsAnew, EndsTellTheSameAnew, IsCarefulSince, IsClear, IsLinkedOn, IsPassed, IsRequest, IsUnheard}
use Rattle.disk_model.specs.{Anew.{LinkedSinceNew, OwesOnly, RestingIsSilent, RestsUntil}, Between.{AreApart, AreWanted, FitsOne, Moves, Ties, at}}
use Rattle.disk_model.specs.Between.{ended_tags, pages_of, replies}
use Rattle.disk_model.specs.Ends as link
use Rattle.disk_model.specs.Anew as anew
use Rattle.disk_model.proofs.both_ends.EndsLemmas.{agree, careful_last, ledger_push, run_before, sent_right, tie_comes, tie_gives, tie_sends}
use Rattle.disk_model.proofs.{both_ends.EndsLemmas.tie_takes, agreement.LawLemmas.{agrees, last_may}}

-- ## One more happening

request_told : (l : Ledger) (bytes : List ℕ) (request : Request) → IsRequest bytes request → listens l (Received bytes) ≡ asks l request l.failed
request_told l bytes request q = ap (listens_down l) q.is ∙ ap (λ (r : Request). asks l r l.failed) q.asks

pub after_more : (l : Ledger) (history more : List Happening) → ledger_after l (history ++ more) ≡ ledger_after (ledger_after l history) more
unfolding ledger_after
after_more l [] more = refl
after_more l (e ∷ history) more = after_more (listens l e) history more

-- ## A reset

abbrev pub held_ledger : Ledger → Ledger
held_ledger l = record (given_up l true) { resetting = true; in_reset = true }

pub held_is : (before : List Happening) (on : List ℕ) → IsRequest on (Reset true) → ledger (before ++ Received on ∷ []) ≡ held_ledger (ledger before)
held_is before on q = ledger_push before (Received on) ∙ request_told (ledger before) on (Reset true) q

held_rests : (l : Ledger) → Rests (held_ledger l)
held_rests l = record { outstanding = refl; unanswered = refl; awaited = refl; pages = refl; moving = refl }

signs_owed : (l : Ledger) (resetting : Bool) → OwesOnly (awaits (record (given_up l false) { resetting = resetting }) Signs) (Signs ∷ []) []
signs_owed l resetting = record { clear = record { failed = refl; outstanding = refl; unanswered = refl; moving = refl }; awaited = refl; pages = refl }

pub held_signs : (history : List Happening) (l : Ledger) (off : List ℕ) → ledger history ≡ held_ledger l → IsRequest off (Reset false)
    → OwesOnly (ledger (history ++ Received off ∷ [])) (Signs ∷ []) []
held_signs history l off is clear =
    let now : ledger (history ++ Received off ∷ []) ≡ asks (held_ledger l) (Reset false) true =
    ledger_push history (Received off)
    ∙ request_told (ledger history) off (Reset false) clear
    ∙ ap (λ (x : Ledger). asks x (Reset false) x.failed) is in
    subst (λ (x : Ledger). OwesOnly x (Signs ∷ []) []) (sym now) (signs_owed l false)

reset_owes : (before : List Happening) (on off : List ℕ) → IsRequest on (Reset true) → IsRequest off (Reset false) → OwesOnly (ledger ((before ++ Received on ∷ []) ++ Received off ∷ [])) (Signs ∷ []) []
reset_owes before on off set clear = held_signs (before ++ Received on ∷ []) (ledger before) off (held_is before on set) clear

plugged_owes : (before : List Happening) → OwesOnly (ledger (before ++ Plugged ∷ [])) (Signs ∷ []) []
plugged_owes before =
    let l : Ledger = ledger before in
    subst (λ (x : Ledger). OwesOnly x (Signs ∷ []) []) (sym (ledger_push before Plugged)) (signs_owed l l.resetting)

-- ## An error

record HasFailed (l : Ledger) : Type 0 where
  failed : l.failed ≡ true
  awake : l.in_reset ≡ false
  rests : Rests l

fails_by : (l : Ledger) (e : ℕ) (b : Bool) → b ≡ true → HasFailed (answers l e b)
fails_by l e true is = record { failed = refl; awake = refl; rests = record { outstanding = refl; unanswered = refl; awaited = refl; pages = refl; moving = refl } }
fails_by l e false is = cc is

fails : (l : Ledger) (r : Result Fis FisFault) → reports r ≡ true → HasFailed (listens_up l r)
fails l (Ok (view.SetBits f)) is = fails_by l (field Bits Error f) (has_error f) is
fails l other is = cc is

failed_now : (before : List Happening) (error : List ℕ) → reports (seen error) ≡ true → HasFailed (ledger (before ++ Sent error ∷ []))
failed_now before error is = subst HasFailed (sym (ledger_push before (Sent error))) (fails (ledger before) (seen error) is)

passes : (l : Ledger) (r : Request) (failed : Bool) → failed ≡ true → IsPassed r → asks l r failed ≡ l
passes l (Reset on) failed is passed = absurd passed
passes l ReadErrorLog failed is passed = absurd passed
passes l (Queue c) false is passed = cc is
passes l Identify false is passed = cc is
passes l Flush false is passed = cc is
passes l Other false is passed = cc is
passes l request true is passed = refl

unheard : (l : Ledger) (r : Result Fis FisFault) → HasFailed l → IsUnheard r → listens_down l r ≡ l
unheard l (Ok (view.RegH2D f)) now passed = passes l (request_of f) l.failed now.failed passed
unheard l (Ok (view.Payload f)) now passed = ap (λ (v : Option Moving). takes_data l v (drop 4 f)) now.rests.moving
unheard l other now passed = refl

all_unheard : (l : Ledger) (between : List Happening) → HasFailed l → AreUnheard between → ledger_after l between ≡ l
unfolding ledger_after
all_unheard l [] now none = refl
all_unheard l (Received bytes ∷ between) now none =
    let same : listens l (Received bytes) ≡ l = unheard l (seen bytes) now none.0 in
    ap (λ (x : Ledger). ledger_after x between) same ∙ all_unheard l between now none.1
all_unheard l other now none = absurd none

still : (before between : List Happening) (error : List ℕ) → reports (seen error) ≡ true → AreUnheard between → ledger ((before ++ Sent error ∷ []) ++ between) ≡ ledger (before ++ Sent error ∷ [])
still before between error is none =
    after_more _ (before ++ Sent error ∷ []) between
    ∙ all_unheard (ledger (before ++ Sent error ∷ [])) between (failed_now before error is) none

-- ## Its log

abbrev logged_ledger : Ledger → Ledger
logged_ledger l = record (awaits_page l (LogOf l.failure)) { failed = false; failure = None }

alone_mixes : (l x : Ledger) (cs : List Command) → cs ≡ [] → mixes l x cs ≡ x
alone_mixes l x [] e = refl
alone_mixes l x (c ∷ cs) e = cc e

logged_owes : (l : Ledger) → Rests l → OwesOnly (logged_ledger l) (ShowsPage ∷ []) (LogOf l.failure ∷ [])
logged_owes l rests = record {
  clear = record { failed = refl; outstanding = rests.outstanding; unanswered = rests.unanswered; moving = rests.moving };
  awaited = ap (λ (xs : List Reply). xs ++ ShowsPage ∷ []) rests.awaited;
  pages = ap (λ (xs : List Wanted). xs ++ LogOf l.failure ∷ []) rests.pages;
}

reads_now : (l : Ledger) → HasFailed l → asks l ReadErrorLog l.failed ≡ logged_ledger l
reads_now l now =
    ap (asks l ReadErrorLog) now.failed ∙ ap (λ (b : Bool). if b then l else reads_log l) now.awake
    ∙ alone_mixes l (logged_ledger l) l.outstanding now.rests.outstanding

log_owes : (before between : List Happening) (error log : List ℕ) → reports (seen error) ≡ true → AreUnheard between → IsRequest log ReadErrorLog → OwesOnly (ledger (((before ++ Sent error ∷ []) ++ between) ++ Received log ∷ [])) (ShowsPage ∷ []) (LogOf (ledger (before ++ Sent error ∷ [])).failure ∷ [])
log_owes before between error log is none q =
    let l : Ledger = ledger (before ++ Sent error ∷ []) in
    let rests : Rests (ledger (before ++ Sent error ∷ [])) = (failed_now before error is).rests in
    let now : ledger (((before ++ Sent error ∷ []) ++ between) ++ Received log ∷ []) ≡ logged_ledger (ledger (before ++ Sent error ∷ [])) =
    ledger_push ((before ++ Sent error ∷ []) ++ between) (Received log)
    ∙ request_told (ledger ((before ++ Sent error ∷ []) ++ between)) log ReadErrorLog q
    ∙ ap (λ (x : Ledger). asks x ReadErrorLog x.failed) (still before between error is none)
    ∙ reads_now l (failed_now before error is) in
    subst (λ (x : Ledger). OwesOnly x (ShowsPage ∷ []) (LogOf l.failure ∷ [])) (sym now) (logged_owes l rests)

pub begins_anew : BeginsAnew
begins_anew = record { plugged = plugged_owes; reset = reset_owes; log = log_owes }

pub rests_until : RestsUntil
rests_until = record {
  held = λ before on q. subst Rests (sym (held_is before on q)) (held_rests (ledger before));
  failed = λ before between error is none. subst Rests (sym (still before between error is none)) (failed_now before error is).rests;
}

-- ## A disk that rests

none_picked : (order : Order) → picked order [] ≡ None
none_picked Oldest = refl
none_picked Newest = refl

none_owed : (owed : List Answer) → replies owed ≡ [] → ended_tags owed ≡ [] → pages_of owed ≡ [] → owed ≡ []
none_owed [] replied ended pages = refl
none_owed (Ended t ∷ later) replied ended pages = cc ended
none_owed (PageData page ∷ later) replied ended pages = cc pages
none_owed other replied ended pages = cc replied

no_pages : (plan : DiskPlan) (sectors : ℕ) (pages : List Page) (ws : List Wanted) → AreWanted plan sectors pages ws → ws ≡ [] → pages ≡ []
no_pages plan sectors [] ws are none = refl
no_pages plan sectors (p ∷ pages) [] are none = absurd are
no_pages plan sectors (p ∷ pages) (w ∷ ws) are none = cc none

none_sent : (plan : DiskPlan) (sectors : ℕ) (medium : List ℕ) (queued : List Command) (fault : Option Fault) (resetting : Bool) (owed : List Answer) (s : Option Started) (w : Option Writing) (v : Option Moving) (b : List ℕ) → queued ≡ [] → owed ≡ [] → v ≡ None → Moves plan sectors medium queued owed s w v → IsTurn (turn plan sectors (at medium queued fault resetting owed s w)) b → ⊥
none_sent plan sectors medium queued fault resetting owed s w (Some v) b empty nothing none m may = cc none
none_sent plan sectors medium (q ∷ queued) fault resetting owed s w None b empty nothing none m may = cc empty
none_sent plan sectors medium [] fault resetting (a ∷ owed) s w None b empty nothing none m may = cc nothing
none_sent plan sectors medium [] fault resetting [] (Some s) None None b empty nothing none m may = absurd m
none_sent plan sectors medium [] fault resetting [] (Some s) (Some w) None b empty nothing none m may = absurd m
none_sent plan sectors medium [] fault resetting [] None (Some w) None b empty nothing none m may = absurd m
none_sent plan sectors medium [] fault resetting [] None None None b empty nothing none m may =
    subst (λ (o : Option Command). IsTurn (pick_turn plan sectors (at medium [] fault resetting [] None None) o) b) (none_picked plan.order) may

pub resting_is_silent : RestingIsSilent
resting_is_silent plan sectors before bytes size rests run =
    let parts = last_may plan sectors (opening sectors) before (Sent bytes) run in
    let a = agrees plan sectors before size parts.0 in
    let m = moment plan sectors before in
    let pages : pages_of m.owed ≡ [] = no_pages plan sectors (pages_of m.owed) (ledger before).pages a.pages rests.pages in
    let owed : m.owed ≡ [] = none_owed m.owed (sym a.awaited ∙ rests.awaited) (sym a.unanswered ∙ rests.unanswered) pages in
    none_sent plan sectors m.medium m.queued m.fault m.resetting m.owed m.started m.writing (ledger before).moving bytes (sym a.outstanding ∙ rests.outstanding) owed rests.moving a.moving parts.1

-- ## Both ends

-- what the host's end tells goes on from where both began
since_of : (base disk host : List Happening) (down stale up : List (List ℕ)) → IsLinkedOn base disk host down stale up → (since : List Happening) × (host ≡ base ++ since)
since_of base disk host down stale up (anew.begins s clear) = ([], sym (append-nil base))
since_of base disk host down stale up (anew.gives d h below s above bytes linked) =
    let p = since_of base d h below s above linked in
    (p.0 ++ Received bytes ∷ [], ap (λ (xs : List Happening). xs ++ Received bytes ∷ []) p.1 ∙ append_assoc base p.0 (Received bytes ∷ []))
since_of base disk host down stale up (anew.comes d h before after s above bytes linked) = since_of base d h (before ++ bytes ∷ after) s above linked
since_of base disk host down stale up (anew.sends d h below s above bytes fine linked) = since_of base d h below s above linked
since_of base disk host down stale up (anew.drops d h below s above bytes linked) = since_of base d h below (bytes ∷ s) above linked
since_of base disk host down stale up (anew.takes d h below above bytes linked) =
    let p = since_of base d h below [] (bytes ∷ above) linked in
    (p.0 ++ Sent bytes ∷ [], ap (λ (xs : List Happening). xs ++ Sent bytes ∷ []) p.1 ∙ append_assoc base p.0 (Sent bytes ∷ []))

careful_before : (base host since : List Happening) (e : Happening) → host ≡ base ++ since → IsCarefulSince base (host ++ e ∷ []) → IsCarefulSince base host × FitsOne (ledger host) e
careful_before base host since e is careful =
    let same : since ++ e ∷ [] ≡ careful.since =
    append_cancel_left base (since ++ e ∷ []) careful.since
    (sym (append_assoc base since (e ∷ [])) ∙ ap (λ (xs : List Happening). xs ++ e ∷ []) (sym is) ∙ careful.is) in
    let parts = careful_last (ledger base) since e (subst (FitsAll (ledger base)) (sym same) careful.fits) in
    let now : ledger_after (ledger base) since ≡ ledger host = sym (after_more _ base since) ∙ ap ledger (sym is) in
    (record { since = since; is = is; fits = parts.0 }, subst (λ (x : Ledger). FitsOne x e) now parts.1)

tie_begins_anew : (base : List Happening) → IsClear (ledger base) → Ties base base [] []
unfolding with_up with_down AreRight
tie_begins_anew base clear = record { same = refl; right = tt; fit = tt; apart = subst (AreApart (ledger base)) (sym clear.unanswered) tt }

module _ (plan : DiskPlan) (sectors : ℕ) (size : IsSize plan sectors) (base : List Happening) where
  ties_anew : (disk host : List Happening) (down stale up : List (List ℕ)) → IsLinkedOn base disk host down stale up → IsDiskRun plan sectors disk → IsCarefulSince base host → Ties disk host down up
  ties_anew disk host down stale up (anew.begins s clear) run careful = tie_begins_anew base clear
  ties_anew disk host down stale up (anew.gives d h below s above bytes linked) run careful =
      let p = since_of base d h below s above linked in
      let last = careful_before base h p.0 (Received bytes) p.1 careful in
      tie_gives d h below above bytes (ties_anew d h below s above linked run last.0) last.1
  ties_anew disk host down stale up (anew.comes d h before after s above bytes linked) run careful =
      tie_comes d h before after above bytes (ties_anew d h (before ++ bytes ∷ after) s above linked (run_before plan sectors size d (Received bytes) run) careful)
  ties_anew disk host down stale up (anew.sends d h below s above bytes fine linked) run careful =
      tie_sends d h below above bytes (ties_anew d h below s above linked (run_before plan sectors size d (Sent bytes) run) careful) (sent_right plan sectors size d bytes run fine)
  ties_anew disk host down stale up (anew.drops d h below s above bytes linked) run careful = ties_anew d h below (bytes ∷ s) above linked run careful
  ties_anew disk host down stale up (anew.takes d h below above bytes linked) run careful =
      let p = since_of base d h below [] (bytes ∷ above) linked in
      tie_takes d h below above bytes (ties_anew d h below [] (bytes ∷ above) linked run (careful_before base h p.0 (Sent bytes) p.1 careful).0)

pub ends_agree_anew : EndsTellTheSameAnew
ends_agree_anew plan sectors base disk host down stale up size run linked careful =
    agree plan sectors size disk host down up run (ties_anew plan sectors size base disk host down stale up linked run careful)

-- ## A new disk

new_clear : IsClear (ledger (Plugged ∷ []))
new_clear = (plugged_owes []).clear

pub linked_since_new : LinkedSinceNew
linked_since_new disk host down up link.begins = anew.begins [] new_clear
linked_since_new disk host down up (link.gives d h below above bytes linked) = anew.gives d h below [] above bytes (linked_since_new d h below above linked)
linked_since_new disk host down up (link.comes d h before after above bytes linked) = anew.comes d h before after [] above bytes (linked_since_new d h (before ++ bytes ∷ after) above linked)
linked_since_new disk host down up (link.sends d h below above bytes fine linked) = anew.sends d h below [] above bytes fine (linked_since_new d h below above linked)
linked_since_new disk host down up (link.takes d h below above bytes linked) = anew.takes d h below above bytes (linked_since_new d h below (bytes ∷ above) linked)
