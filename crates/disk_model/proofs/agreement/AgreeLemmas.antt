-- For `answers_each_command_once`. What the ledger of a run says about the disk: how both agree, and how they still
-- agree after the host sends.
use Rattle.std.proofs.Common.{◌≡◌, ◌==◌, ◌||◌, ℕ, ◌<◌, Bool, true, false, List, [], ◌∷◌, ◌++◌, Option, Some, None, refl, ap, sym, subst, ◌∙◌}
use Rattle.std.proofs.lemmas.{Bool.or_from, List.{append-nil, Folds.{list_any-append}, Elements.{filter_map-append}}}
use Rattle.std.specs.Prelude.{is_some, if◌then◌else◌}
use Rattle.disk_model.specs.declared.{plan.DiskPlan.DiskPlan, request.{Command.Command, Request.{Request, TheVariants.{Reset, Queue, ReadErrorLog}}}}
use Rattle.disk_model.specs.declared.{request.Request.TheVariants.{Identify, Flush, Other}, answer.Answer.{Answer, TheVariants.{Signature, Accepted}}}
use Rattle.disk_model.specs.declared.answer.{Answer.TheVariants.{Finished, Refused, PageFollows, PageData}, Page.{Page, TheVariants.ErrorLog}}
use Rattle.disk_model.specs.{declared.answer.{Page.TheVariants.Identity, Fault.{Fault, TheVariants.{Failed, Held, Mixed}}}, Requests.Asks}
use Rattle.disk_model.specs.{Requests.IsCounted, Disks.{Moment, Started, Writing, is_held, logged, received, refused}, Ledger.{Ledger, Moving}}
use Rattle.disk_model.specs.Ledger.{Written, ReadOut, Failure, Wanted, LogOf, IdentifyData, Reply, Signs, Accepts, Finishes, Refuses, ShowsPage, asks}
use Rattle.disk_model.specs.{Ledger.{given_up, reads_log, refuses, awaits}, Between.{Agrees, AreWanted, IsHeld, IsNoted, IsQueue, IsWanted, Moves}}
use Rattle.disk_model.specs.Between.{at, ended_tags, has_page, has_tag, is_page, page_of, pages_of, replies, tag_of}
use Rattle.disk_model.proofs.agreement.{FaultLemmas.{AreWanted-append}, QueueLemmas.{replies_more, pages_same, IsQueue-append}}

-- ## How both agree

-- what the ledger knows and the disk does not
pub record Beside : Type 0 where
  pub moving : Option Moving
  pub writes : List Written
  pub reads : List ReadOut
  pub failure : Option Failure
  pub pages : List Wanted

-- the ledger that agrees with the disk, apart from what the disk does not know
abbrev pub shown : Moment → Beside → Ledger
shown m k = record {
  outstanding = m.queued;
  failed = is_some m.fault;
  failure = k.failure;
  resetting = m.resetting;
  in_reset = is_held m.fault;
  awaited = replies m.owed;
  pages = k.pages;
  unanswered = ended_tags m.owed;
  moving = k.moving;
  writes = k.writes;
  reads = k.reads;
}

abbrev pub beside : Ledger → Beside
beside l = record {
  moving = l.moving;
  writes = l.writes;
  reads = l.reads;
  failure = l.failure;
  pages = l.pages;
}

-- the disk agrees with a ledger that knows this in addition
abbrev pub Stands : DiskPlan → ℕ → Moment → Beside → Type 0
Stands plan sectors m k = Agrees plan sectors m (shown m k)

pub ledger_is : (plan : DiskPlan) (sectors : ℕ) (m : Moment) (l : Ledger) → Agrees plan sectors m l
    → l ≡ shown m (beside l)
ledger_is plan sectors m l a = λ i. record (shown m (beside l)) {
  outstanding = a.outstanding i;
  failed = a.failed i;
  resetting = a.resetting i;
  in_reset = a.in_reset i;
  awaited = a.awaited i;
  unanswered = a.unanswered i;
}

-- ## The disk between two FISes

-- these answers are owed, and this command is under way
abbrev pub under : Moment → List Answer → Option Started → Option Writing → Moment
under m owed s w = record m { owed = owed; started = s; writing = w }

-- nothing is under way
abbrev pub idle : Moment → Moment
idle m = under m [] None None

-- a read is under way, and no answer is owed
abbrev pub reading : Moment → Started → Moment
reading m s = under m [] (Some s) None

-- a write is under way
abbrev pub writing : Moment → List Answer → Writing → Moment
writing m owed w = under m owed None (Some w)

-- the same while this data moves
abbrev pub along : Beside → Option Moving → Beside
along k v = record k { moving = v }

-- where only data moves, all else agrees as before
pub only_moves : (plan : DiskPlan) (sectors : ℕ) (m : Moment) (k : Beside) (owed : List Answer) (s s2 : Option Started) (w w2 : Option Writing) (v v2 : Option Moving)
    → Stands plan sectors (under m owed s w) (along k v) → Moves plan sectors m.medium m.queued owed s2 w2 v2 → Stands plan sectors (under m owed s2 w2) (along k v2)
only_moves plan sectors m k owed s s2 w w2 v v2 a moving = record {
  outstanding = refl;
  failed = refl;
  unanswered = refl;
  medium = a.medium;
  length_is = a.length_is;
  queue = a.queue;
  tags = a.tags;
  reads = a.reads;
  moving = moving;
  failure = a.failure;
  resetting = refl;
  in_reset = refl;
  awaited = refl;
  pages = a.pages;
}

-- ## Everything is given up

pub gives_up : (plan : DiskPlan) (sectors : ℕ) (m : Moment) (l : Ledger) → Agrees plan sectors m l
    → (fault : Option Fault) (fl : Option Failure) (resetting : Bool) (owed : List Answer)
    → IsNoted plan sectors fault fl → ended_tags owed ≡ [] → pages_of owed ≡ []
    → Agrees plan sectors (at m.medium [] fault resetting owed None None)
    (record (given_up l (is_some fault)) { failure = fl; resetting = resetting; in_reset = is_held fault; awaited = replies owed })
gives_up plan sectors m l a fault fl resetting owed is none no_page = record {
  outstanding = refl;
  failed = refl;
  unanswered = sym none;
  medium = a.medium;
  length_is = a.length_is;
  queue = tt;
  tags = rw none tt;
  reads = a.reads;
  moving = tt;
  failure = is;
  resetting = refl;
  in_reset = refl;
  awaited = refl;
  pages = rw no_page tt;
}

-- ## One more answer

true_or : (x y : Bool) → x ≡ true → (x || y) ≡ true
true_or true y e = refl
true_or false y e = cc e

holds_on : (tag : ℕ) (queued more_queued : List Command) (owed more : List Answer) → IsHeld queued owed tag
    → has_page more ≡ false → IsHeld (queued ++ more_queued) (owed ++ more) tag
holds_on tag queued more_queued owed more held quiet = record {
  has = list_any-append (λ (q : Command). q.tag == tag) queued more_queued ∙ true_or _ _ held.has;
  quiet = list_any-append is_page owed more ∙ or_from _ _ held.quiet quiet;
}

moves_on : (plan : DiskPlan) (sectors : ℕ) (medium : List ℕ) (queued more_queued : List Command) (owed more : List Answer)
    (s : Option Started) (w : Option Writing) (v : Option Moving) → Moves plan sectors medium queued owed s w v
    → ((tag : ℕ) → has_tag tag queued ≡ true → has_page more ≡ false)
    → Moves plan sectors medium (queued ++ more_queued) (owed ++ more) s w v
moves_on plan sectors medium queued more_queued owed more None None None m quiet = tt
moves_on plan sectors medium queued more_queued owed more None None (Some v) m quiet = absurd m
moves_on plan sectors medium queued more_queued owed more (Some s) None None m quiet = absurd m
moves_on plan sectors medium queued more_queued owed more (Some s) None (Some v) m quiet = (m.0, m.1, m.2, holds_on s.command.tag queued more_queued owed more m.3 (quiet s.command.tag m.3.has))
moves_on plan sectors medium queued more_queued owed more None (Some w) None m quiet = absurd m
moves_on plan sectors medium queued more_queued owed more None (Some w) (Some v) m quiet = (m.0, m.1, holds_on w.command.tag queued more_queued owed more m.2 (quiet w.command.tag m.2.has))
moves_on plan sectors medium queued more_queued owed more (Some s) (Some w) v m quiet = absurd m

-- What a FIS of the host adds: commands, answers (none of which ends a command), the reply that is awaited
-- for them, and the error mode, SRST and the pages afterwards.
pub record Added : Type 0 where
  pub fault : Option Fault
  pub failure : Option Failure
  pub resetting : Bool
  pub commands : List Command
  pub answers : List Answer
  pub reply : Reply
  pub pages : List Wanted

pub record IsAdded (plan : DiskPlan) (sectors : ℕ) (m : Moment) (x : Added) : Type 0 where
  pub noted : IsNoted plan sectors x.fault x.failure
  pub none_ends : ended_tags x.answers ≡ []
  pub one : replies x.answers ≡ x.reply ∷ []
  pub pages : AreWanted plan sectors (pages_of (m.owed ++ x.answers)) x.pages
  -- no page follows while a command is queued
  pub quiet : (tag : ℕ) → has_tag tag m.queued ≡ true → has_page x.answers ≡ false

abbrev pub disk_with : Moment → Added → Moment
disk_with m x = record m {
  queued = m.queued ++ x.commands;
  fault = x.fault;
  resetting = x.resetting;
  owed = m.owed ++ x.answers;
}

abbrev pub ledger_with : Moment → Ledger → Added → Ledger
ledger_with m l x = record l {
  outstanding = m.queued ++ x.commands;
  failed = is_some x.fault;
  failure = x.failure;
  resetting = x.resetting;
  in_reset = is_held x.fault;
  awaited = l.awaited ++ x.reply ∷ [];
  pages = x.pages;
}

pub owes_more : (plan : DiskPlan) (sectors : ℕ) (m : Moment) (l : Ledger) (x : Added) → Agrees plan sectors m l
    → IsQueue (m.queued ++ x.commands) → IsAdded plan sectors m x
    → Agrees plan sectors (disk_with m x) (ledger_with m l x)
owes_more plan sectors m l x a queue is =
    let same : ended_tags (m.owed ++ x.answers) ≡ ended_tags m.owed =
    filter_map-append tag_of m.owed x.answers
    ∙ ap (λ (xs : List ℕ). ended_tags m.owed ++ xs) is.none_ends ∙ append-nil (ended_tags m.owed) in
    record {
      outstanding = refl;
      failed = refl;
      unanswered = a.unanswered ∙ sym same;
      medium = a.medium;
      length_is = a.length_is;
      queue = queue;
      tags = rw same a.tags;
      reads = a.reads;
      moving = moves_on plan sectors m.medium m.queued x.commands m.owed x.answers m.started m.writing l.moving a.moving is.quiet;
      failure = is.noted;
      resetting = refl;
      in_reset = refl;
      awaited = ap (λ (xs : List Reply). xs ++ x.reply ∷ []) a.awaited ∙ sym (replies_more m.owed x.answers x.reply is.one);
      pages = is.pages;
    }

-- answers and no command
abbrev answering : Option Fault → Option Failure → Bool → List Answer → Reply → List Wanted → Added
answering fault fl resetting answers reply ps = record {
  fault = fault;
  failure = fl;
  resetting = resetting;
  commands = [];
  answers = answers;
  reply = reply;
  pages = ps;
}

owes_answers : (plan : DiskPlan) (sectors : ℕ) (m : Moment) (l : Ledger) (x : Added) → Agrees plan sectors m l
    → x.commands ≡ [] → IsAdded plan sectors m x
    → Agrees plan sectors (record (disk_with m x) { queued = m.queued })
    (record (ledger_with m l x) { outstanding = m.queued })
owes_answers plan sectors m l x a none is =
    let same : m.queued ++ x.commands ≡ m.queued =
    ap (λ (xs : List Command). m.queued ++ xs) none ∙ append-nil m.queued in
    subst (λ (xs : List Command). Agrees plan sectors (record (disk_with m x) { queued = xs })
    (record (ledger_with m l x) { outstanding = xs })) same
    (owes_more plan sectors m l x a (rw same a.queue) is)

-- no more page is owed
no_page : (plan : DiskPlan) (sectors : ℕ) (m : Moment) (l : Ledger) → Agrees plan sectors m l → (more : List Answer)
    → pages_of more ≡ [] → AreWanted plan sectors (pages_of (m.owed ++ more)) l.pages
no_page plan sectors m l a more none = rw (pages_same m.owed more none) a.pages

-- one more page is owed
one_page : (plan : DiskPlan) (sectors : ℕ) (m : Moment) (l : Ledger) → Agrees plan sectors m l → (page : Page) (w : Wanted)
    → IsWanted plan sectors page w
    → AreWanted plan sectors (pages_of (m.owed ++ PageFollows ∷ PageData page ∷ [])) (l.pages ++ w ∷ [])
one_page plan sectors m l a page w is = rw (filter_map-append page_of m.owed (PageFollows ∷ PageData page ∷ [])) (AreWanted-append plan sectors (pages_of m.owed) l.pages page w a.pages is)

-- ## What the host asks

not_queued : (tag : ℕ) (more : List Answer) → has_tag tag [] ≡ true → has_page more ≡ false
not_queued tag more e = cc e

-- an answer that is not a page
answers_so : (plan : DiskPlan) (sectors : ℕ) (m : Moment) (l : Ledger) (x : Added) → Agrees plan sectors m l
    → x.commands ≡ [] → x.pages ≡ l.pages → IsNoted plan sectors x.fault x.failure → ended_tags x.answers ≡ []
    → replies x.answers ≡ x.reply ∷ [] → pages_of x.answers ≡ [] → has_page x.answers ≡ false
    → Agrees plan sectors (record (disk_with m x) { queued = m.queued })
    (record (ledger_with m l x) { outstanding = m.queued })
answers_so plan sectors m l x a none same noted ends one pageless quiet = owes_answers plan sectors m l x a none (record {
  noted = noted;
  none_ends = ends;
  one = one;
  pages = rw same (no_page plan sectors m l a x.answers pageless);
  quiet = λ t h. quiet;
})

-- a page follows, and nothing is queued
shows_page : (plan : DiskPlan) (sectors : ℕ) (m : Moment) (l : Ledger) (fault : Option Fault) (fl : Option Failure)
    (page : Page) (w : Wanted) → Agrees plan sectors m l → m.queued ≡ [] → IsNoted plan sectors fault fl
    → IsWanted plan sectors page w
    → let x = answering fault fl m.resetting (PageFollows ∷ PageData page ∷ []) ShowsPage (l.pages ++ w ∷ []) in
    Agrees plan sectors (record (disk_with m x) { queued = m.queued })
    (record (ledger_with m l x) { outstanding = m.queued })
shows_page plan sectors m l fault fl page w a none noted wanted =
    let follows = PageFollows ∷ PageData page ∷ [] in
    owes_answers plan sectors m l _ a refl (record {
      noted = noted;
      none_ends = refl;
      one = refl;
      pages = one_page plan sectors m l a page w wanted;
      quiet = λ t h. not_queued t follows (subst (λ (q : List Command). has_tag t q ≡ true) none h);
    })

-- the disk with this queue, error mode and SRST
abbrev pub with_queue : Moment → List Command → Option Fault → Bool → Moment
with_queue m queued fault resetting = record m { queued = queued; fault = fault; resetting = resetting }

-- a command that is not queued is refused, and all queued ones are given up
mixed : (plan : DiskPlan) (sectors : ℕ) (m : Moment) (l : Ledger) → Agrees plan sectors m l
    → Agrees plan sectors (at m.medium [] (Some Mixed) m.resetting (Refused ∷ []) None None)
    (record (given_up l true) { failure = None; resetting = m.resetting; awaited = Refuses ∷ [] })
mixed plan sectors m l a = gives_up plan sectors m l a (Some Mixed) None m.resetting (Refused ∷ []) tt refl refl

step_queue : (plan : DiskPlan) (sectors : ℕ) (m : Moment) (k : Beside) (queued : List Command) (c : Command) (twice : Bool)
    → has_tag c.tag queued ≡ twice → IsCounted c → c.tag < 32
    → Stands plan sectors (with_queue m queued None m.resetting) k
    → let n = with_queue m queued None m.resetting in
    let l = shown n k in
    Agrees plan sectors
    (if twice then refused n queued else record n { queued = queued ++ c ∷ []; owed = m.owed ++ Accepted ∷ [] })
    (if twice then refuses l else awaits (record l { outstanding = queued ++ c ∷ [] }) Accepts)
step_queue plan sectors m k [] c true e some tag a = cc e
step_queue plan sectors m k (q ∷ qs) c true e some tag a = mixed plan sectors _ _ a
step_queue plan sectors m k queued c false e some tag a =
    let n = with_queue m queued None m.resetting in
    let x : Added = record (answering None k.failure m.resetting (Accepted ∷ []) Accepts k.pages) { commands = c ∷ [] } in
    owes_more plan sectors n (shown n k) x a (IsQueue-append queued c a.queue e some tag) (record {
      noted = a.failure;
      none_ends = refl;
      one = refl;
      pages = no_page plan sectors n (shown n k) a (Accepted ∷ []) refl;
      quiet = λ t h. refl;
    })

-- the log is read while SRST is not set
step_log : (plan : DiskPlan) (sectors : ℕ) (m : Moment) (k : Beside) (queued : List Command) (fault : Option Fault)
    → is_held fault ≡ false → Stands plan sectors (with_queue m queued fault m.resetting) k
    → let n = with_queue m queued fault m.resetting in
    Agrees plan sectors (logged n queued) (reads_log (shown n k))
step_log plan sectors m k [] None awake a = shows_page plan sectors _ _ None None (ErrorLog None) (LogOf k.failure) a refl tt a.failure
step_log plan sectors m k [] (Some Held) awake a = cc awake
step_log plan sectors m k [] (Some Mixed) awake a = shows_page plan sectors _ _ None None (ErrorLog (Some Mixed)) (LogOf k.failure) a refl tt a.failure
step_log plan sectors m k [] (Some (Failed tag error lba)) awake a =
    shows_page plan sectors _ _ None None (ErrorLog (Some (Failed tag error lba))) (LogOf k.failure) a refl tt a.failure
step_log plan sectors m k (q ∷ qs) fault awake a = mixed plan sectors _ _ a

-- what was noted while SRST was set
released : (plan : DiskPlan) (sectors : ℕ) (o : Option Failure) → IsNoted plan sectors (Some Held) o → IsNoted plan sectors None o
released plan sectors None is = tt
released plan sectors (Some f) is = absurd is

pub step_request : (plan : DiskPlan) (sectors : ℕ) (m : Moment) (k : Beside) (queued : List Command) (fault : Option Fault)
    (resetting : Bool) (r : Request) → Asks r → Stands plan sectors (with_queue m queued fault resetting) k
    → let n = with_queue m queued fault resetting in
    Agrees plan sectors (received n r fault) (asks (shown n k) r (is_some fault))
step_request plan sectors m k queued fault resetting (Reset true) good a =
    gives_up plan sectors _ _ a (Some Held) None true [] tt refl refl
step_request plan sectors m k queued None true (Reset false) good a =
    answers_so plan sectors _ _ (answering None k.failure false (Signature ∷ []) Signs k.pages) a refl refl a.failure refl refl refl refl
step_request plan sectors m k queued (Some Held) true (Reset false) good a =
    answers_so plan sectors _ _ (answering None k.failure false (Signature ∷ []) Signs k.pages) a refl refl (released plan sectors k.failure a.failure) refl refl refl refl
step_request plan sectors m k queued (Some Mixed) true (Reset false) good a =
    answers_so plan sectors _ _ (answering (Some Mixed) k.failure false (Signature ∷ []) Signs k.pages) a refl refl a.failure refl refl refl refl
step_request plan sectors m k queued (Some (Failed tag error lba)) true (Reset false) good a =
    answers_so plan sectors _ _ (answering (Some (Failed tag error lba)) k.failure false (Signature ∷ []) Signs k.pages) a refl refl a.failure refl refl refl refl
step_request plan sectors m k queued fault false (Reset false) good a = a
step_request plan sectors m k queued (Some Held) resetting ReadErrorLog good a = a
step_request plan sectors m k queued None resetting ReadErrorLog good a = step_log plan sectors (record m { resetting = resetting }) k queued None refl a
step_request plan sectors m k queued (Some Mixed) resetting ReadErrorLog good a =
    step_log plan sectors (record m { resetting = resetting }) k queued (Some Mixed) refl a
step_request plan sectors m k queued (Some (Failed tag error lba)) resetting ReadErrorLog good a =
    step_log plan sectors (record m { resetting = resetting }) k queued (Some (Failed tag error lba)) refl a
step_request plan sectors m k queued None resetting (Queue c) good a =
    step_queue plan sectors (record m { resetting = resetting }) k queued c _ refl good.0 good.1 a
step_request plan sectors m k [] None resetting Flush good a =
    answers_so plan sectors _ _ (answering None k.failure resetting (Finished ∷ []) Finishes k.pages) a refl refl a.failure refl refl refl refl
step_request plan sectors m k (q ∷ qs) None resetting Flush good a = mixed plan sectors _ _ a
step_request plan sectors m k [] None resetting Identify good a =
    shows_page plan sectors _ _ None k.failure Identity IdentifyData a refl a.failure tt
step_request plan sectors m k (q ∷ qs) None resetting Identify good a = mixed plan sectors _ _ a
step_request plan sectors m k [] None resetting Other good a =
    answers_so plan sectors _ _ (answering None k.failure resetting (Refused ∷ []) Refuses k.pages) a refl refl a.failure refl refl refl refl
step_request plan sectors m k (q ∷ qs) None resetting Other good a = mixed plan sectors _ _ a
step_request plan sectors m k queued (Some f) resetting request good a = a
