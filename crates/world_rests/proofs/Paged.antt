-- For `rested_disks_have_done`. A page that a disk shows fills the block that its PIO Setup FIS announced, and no page comes before
-- that FIS.
use Rattle.std.proofs.Common.{◌≡◌, ◌≢◌, ◌⊎◌, ◌==◌, ◌&&◌, ◌+◌, eqb, ℕ, ◌≤◌, Bool, true, false, List, [], ◌∷◌, ◌++◌, drop, length, refl, sym, ap, subst}
use Rattle.std.proofs.{Common.{◌∙◌, inl, inr, Option, Some, None, Ok, Result, arith}, lemmas.Bool.{eq-eqb, eqb-true, false≢true, true≢false}}
use Rattle.std.specs.Prelude.{◌*◌, if◌then◌else◌, find}
use Rattle.fis_view.specs.{Table.{Bits, BufferId, EStatus, Offset, Pio, SActive, Setup, field}, declared.view.{Fis.Fis, FisFault.FisFault}}
use Rattle.fis_view.specs.Table as table
use Rattle.fis_view.specs.declared.view.Fis.TheVariants as view
use Rattle.slots.specs.{Slots.match_some, Work.is_queued}
use Rattle.disk_model.specs.{declared.request.{Command.Command, Request.Request}, Between.{alone, opened}, Ends.{IsFree, IsRight, MovesOther, Rests}}
use Rattle.disk_model.specs.{Laws.{SetsUpRight, ShowsFirst, StartsOne}, Ledger.{Accepts, Finishes, Ledger, Moving, Refuses, Reply, ShowsPage, Wanted}}
use Rattle.disk_model.specs.Ledger.{activates, answered, ends, is_auto, listens_up, moves, sends_data, sets_up, starts_moving, takes_data, with_auto}
use Rattle.disk_model.specs.declared.request.Request.TheVariants as asked
use Rattle.disk_model.proofs.Door.{bits_up, found_not}
use Rattle.hba_laws.specs.{Between.NotIssue, History.{Event, History, Setup as LastSetup, Transfer, carried, is_set_up, issued, last_setup}}
use Rattle.hba_laws.specs.History.{pio_setup, waiting_in}
use Rattle.hba_laws.specs.History as event
use Rattle.hba_laws.proofs.Door.{issued_before}
use Rattle.disk_simulation.specs.{Answers.{IsAlone, IsIdle}, Together.{AtMostAccepts, InTalk, NoneQueued, Pages, Queues, Replies, Shows, told}}
use Rattle.disk_simulation.specs.Files.{IsOfDisk}
use Rattle.world_rests.proofs.Long.{IsLong}

-- only a page is to come, and its PIO Setup came last: of at most 512 bytes, at whose end neither BSY nor DRQ is set
pub record IsPageDue (past : History) (k : Ledger) : Type 0 where
  pub awaited : k.awaited ≡ []
  pub pages : k.pages ≢ []
  pub last : (g : LastSetup) → last_setup past ≡ Some g → (g.count ≤ 512) × (g.ends ≡ Some 0x50)

-- all bytes of the last setup came
abbrev pub AllCame : History → Type 0
AllCame past = (g : LastSetup) → last_setup past ≡ Some g → g.count ≤ carried past

-- so it is with each command that is issued, is not queued and was set up; and a page whose PIO Setup is to come is to come too
pub record IsPaged (past : History) (k : Ledger) : Type 0 where
  pub due : (s : ℕ) (t : Transfer) → issued s past ≡ Some t → is_queued t.work.kind ≡ false → is_set_up s past ≡ true
      → IsPageDue past k ⊎ AllCame past
  pub shown : (later : List Reply) → k.awaited ≡ ShowsPage ∷ later → k.pages ≢ []

-- ---- what is to be answered

pub one_reply : (past : History) (k : Ledger) → InTalk past k → drop 1 k.awaited ≡ []
one_reply past k (Queues most waits pages) = by_replies k.awaited most
  where
    by_replies : (xs : List Reply) → AtMostAccepts xs → drop 1 xs ≡ []
    by_replies [] most = refl
    by_replies (Accepts ∷ []) most = refl
    by_replies other most = absurd most
one_reply past k (Replies reply idle one mine pages) = ap (λ (xs : List Reply). drop 1 xs) one
one_reply past k (Shows idle one most unset) = ap (λ (xs : List Reply). drop 1 xs) one
one_reply past k (Pages page idle none one waits) = ap (λ (xs : List Reply). drop 1 xs) none

pub paged_idle : (past : History) (k : Ledger) → InTalk past k → k.pages ≢ [] → IsIdle k
paged_idle past k (Queues most waits pages) some = absurd (some pages)
paged_idle past k (Replies reply idle one mine pages) some = idle
paged_idle past k (Shows idle one most unset) some = idle
paged_idle past k (Pages page idle none one waits) some = idle

pub no_shows : {X : Type 0} (xs : List Reply) (later : List Reply) → xs ≡ [] → xs ≡ ShowsPage ∷ later → X
no_shows xs later none some = let bad : [] ≡ ShowsPage ∷ later = sym none ∙ some in cc bad

-- ---- what a FIS leaves of it

pub record KeepsAsked (k x : Ledger) : Type 0 where
  pub awaited : x.awaited ≡ k.awaited
  pub pages : x.pages ≡ k.pages

asked_activates : (x : Ledger) (m : Option Moving) → KeepsAsked x (activates x m)
asked_activates x None = record { awaited = refl; pages = refl }
asked_activates x (Some v) = record { awaited = refl; pages = refl }

asked_auto : (b : Bool) (x : Ledger) → KeepsAsked x (with_auto b x)
asked_auto true x = asked_activates x x.moving
asked_auto false x = record { awaited = refl; pages = refl }

asked_starts : (k : Ledger) (offset count : ℕ) (o : Option Command) → KeepsAsked k (starts_moving k offset count o)
asked_starts k offset count None = record { awaited = refl; pages = refl }
asked_starts k offset count (Some c) = record { awaited = refl; pages = refl }

asked_setup : (k : Ledger) (m : Option Moving) (tag offset count : ℕ) → KeepsAsked k (sets_up k m tag offset count)
asked_setup k None tag offset count = asked_starts k offset count (find (λ c. c.tag == tag) k.outstanding)
asked_setup k (Some v) tag offset count = record { awaited = refl; pages = refl }

asked_ends : (k : Ledger) (v : Moving) (write : Bool) → KeepsAsked k (ends k v write)
asked_ends k v true = record { awaited = refl; pages = refl }
asked_ends k v false = record { awaited = refl; pages = refl }

asked_goes : (k : Ledger) (v : Moving) (b : Bool) → KeepsAsked k (if b then ends k v v.command.write else record k { moving = Some v })
asked_goes k v true = asked_ends k v v.command.write
asked_goes k v false = record { awaited = refl; pages = refl }

pub asked_moves : (k : Ledger) (v : Moving) (bytes : List ℕ) → KeepsAsked k (moves k v bytes)
asked_moves k v bytes = asked_goes k _ (v.moved + length bytes == 512 * v.command.count)

asked_takes : (k : Ledger) (m : Option Moving) (bytes : List ℕ) → KeepsAsked k (takes_data k m bytes)
asked_takes k None bytes = record { awaited = refl; pages = refl }
asked_takes k (Some v) bytes = by_test (v.active && (length bytes == v.count))
  where
    by_test : (b : Bool) → KeepsAsked k (if b then moves k v bytes else k)
    by_test true = asked_moves k v bytes
    by_test false = record { awaited = refl; pages = refl }

asked_then : (k x y : Ledger) → KeepsAsked k x → KeepsAsked x y → KeepsAsked k y
asked_then k x y first second = record { awaited = second.awaited ∙ first.awaited; pages = second.pages ∙ first.pages }

pub asked_setup_fis : (k : Ledger) (f : List ℕ) → KeepsAsked k (listens_up k (Ok (view.DmaSetup f)))
asked_setup_fis k f =
    let x : Ledger = sets_up k k.moving (field Setup BufferId f) (field Setup Offset f) (field Setup table.Count f) in
    asked_then k x (with_auto (is_auto f) x) (asked_setup k k.moving (field Setup BufferId f) (field Setup Offset f) (field Setup table.Count f))
    (asked_auto (is_auto f) x)

pub asked_activate_fis : (k : Ledger) (f : List ℕ) → KeepsAsked k (listens_up k (Ok (view.DmaActivate f)))
asked_activate_fis k f = asked_activates k k.moving

pub asked_bits : (k : Ledger) (f : List ℕ) → IsRight k (Ok (view.SetBits f)) → KeepsAsked k (listens_up k (Ok (view.SetBits f)))
asked_bits k f right = record {
  awaited = ap (λ (x : Ledger). x.awaited) (bits_up k f right.fine);
  pages = ap (λ (x : Ledger). x.pages) (bits_up k f right.fine);
}

pub asked_down : (k : Ledger) (bytes : List ℕ) → KeepsAsked k (takes_data k k.moving bytes)
asked_down k bytes = asked_takes k k.moving bytes

-- ---- each event

-- a page that is awaited comes first among what is
first_page : {X : Type 0} (xs : List Reply) (f : List ℕ) → ShowsFirst xs f → ((later : List Reply) → xs ≡ ShowsPage ∷ later → X) → X
first_page [] f shows h = absurd shows
first_page (ShowsPage ∷ xs) f shows h = h xs refl
first_page other f shows h = absurd shows

page_of_512 : (xs : List Reply) (f : List ℕ) → ShowsFirst xs f → field Pio table.Transfer f ≡ 512
page_of_512 [] f shows = absurd shows
page_of_512 (ShowsPage ∷ xs) f shows = shows.2
page_of_512 other f shows = absurd shows

-- a DMA Setup is for a tag that is not free
unfree : {X : Type 0} (k : Ledger) (f : List ℕ) (s : ℕ) → field Setup BufferId f ≡ s → IsFree k s → SetsUpRight k k.moving f → X
unfree {X} k f s at free right = by_moving k.moving right free.moving
  where
    by_found : (o : Option Command) → find (λ c. c.tag == field Setup BufferId f) k.outstanding ≡ o → StartsOne o f → X
    by_found None is starts = absurd starts
    by_found (Some c) is starts =
        let other : eqb c.tag s ≡ false =
        found_not (λ (x : Command). x.tag == field Setup BufferId f) (λ (x : Command). x.tag == s) k.outstanding c is free.outstanding in
        let same : c.tag ≡ s = sym starts.tag ∙ at in
        absurd (true≢false (sym (eq-eqb c.tag s same) ∙ other))

    by_moving : (m : Option Moving) → SetsUpRight k m f → MovesOther s m → X
    by_moving None right other = by_found (find (λ c. c.tag == field Setup BufferId f) k.outstanding) refl right
    by_moving (Some v) right other =
        let same : v.command.tag ≡ s = sym right.1.tag ∙ at in
        absurd (true≢false (sym (eq-eqb v.command.tag s same) ∙ other))

pub due_as : (past later : History) (k x : Ledger) → last_setup later ≡ last_setup past → x.awaited ≡ [] → x.pages ≡ k.pages → IsPageDue past k → IsPageDue later x
due_as past later k x last none pages d = record {
  awaited = none;
  pages = λ empty. d.pages (sym pages ∙ empty);
  last = λ g is. d.last g (sym last ∙ is);
}

-- a command is issued
module _ (past : History) (k : Ledger) (p : IsPaged past k) where
  pub paged_issued : (slot : ℕ) (t : Transfer) → IsPaged (event.Issued slot t ∷ past) k
  paged_issued slot t = record { due = λ s u here plain on. by_slot s u (slot == s) here plain on; shown = p.shown }
    where
      by_slot : (s : ℕ) (u : Transfer) (b : Bool) → (if b then Some t else issued s past) ≡ Some u → is_queued u.work.kind ≡ false
          → (if b then false else is_set_up s past) ≡ true → IsPageDue (event.Issued slot t ∷ past) k ⊎ AllCame (event.Issued slot t ∷ past)
      by_slot s u true here plain on = absurd (false≢true on)
      by_slot s u false here plain on = elim (p.due s u here plain on) [
        | inl d ↦ inl (due_as past (event.Issued slot t ∷ past) k k refl d.awaited refl d)
        | inr all ↦ inr all
      ]

module _ (past : History) (k : Ledger) (talk : InTalk past k) (p : IsPaged past k) where
  -- an event that leaves setups and what is asked for
  quiet : (e : Event) (x : Ledger) → NotIssue e → ((s : ℕ) → is_set_up s (e ∷ past) ≡ is_set_up s past) → last_setup (e ∷ past) ≡ last_setup past
      → carried (e ∷ past) ≡ carried past → KeepsAsked k x → IsPaged (e ∷ past) x
  quiet e x not same last count keeps = record {
    due = λ s t here plain on.
        elim (p.due s t (issued_before s e past t not here) plain (sym (same s) ∙ on)) [
          | inl d ↦ inl (due_as past (e ∷ past) k x last (keeps.awaited ∙ d.awaited) keeps.pages d)
          | inr all ↦ inr (λ g is. subst (λ (n : ℕ). g.count ≤ n) (sym count) (all g (sym last ∙ is)))
        ];
    shown = λ later is empty. p.shown later (sym keeps.awaited ∙ is) (sym keeps.pages ∙ empty);
  }

  unchanged : (x : Ledger) → KeepsAsked k x → IsPaged past x
  unchanged x keeps = record {
    due = λ s t here plain on.
        elim (p.due s t here plain on) [
          | inl d ↦ inl (due_as past past k x refl (keeps.awaited ∙ d.awaited) keeps.pages d)
          | inr all ↦ inr all
        ];
    shown = λ later is empty. p.shown later (sym keeps.awaited ∙ is) (sym keeps.pages ∙ empty);
  }

  none_shown : (later : List Reply) → drop 1 k.awaited ≡ ShowsPage ∷ later → k.pages ≢ []
  none_shown later is = no_shows (drop 1 k.awaited) later (one_reply past k talk) is

  -- an answer, or the signature that ends a reset
  paged_answered : IsPaged (event.Answered ∷ past) (answered k)
  unfolding NotIssue
  paged_answered = record {
    due = λ s t here plain on.
        elim (p.due s t (issued_before s event.Answered past t tt here) plain on) [
          | inl d ↦ inl (due_as past (event.Answered ∷ past) k (answered k) refl (one_reply past k talk) refl d)
          | inr all ↦ inr all
        ];
    shown = none_shown;
  }

  pub paged_signed : IsPaged past (answered k)
  paged_signed = record {
    due = λ s t here plain on.
        elim (p.due s t here plain on) [
          | inl d ↦ inl (due_as past past k (answered k) refl (one_reply past k talk) refl d)
          | inr all ↦ inr all
        ];
    shown = none_shown;
  }

  -- a PIO Setup
  pub page_due : (f : List ℕ) → ShowsFirst k.awaited f → field Pio EStatus f ≡ 0x50
      → IsPageDue (event.PioSetUp (field Pio table.Transfer f) (field Pio table.D f == 1) (field Pio EStatus f) ∷ past) (answered k)
  page_due f shows ends = record {
    awaited = one_reply past k talk;
    pages = first_page k.awaited f shows p.shown;
    last = λ g is. by_waiting (waiting_in past) g is;
  }
    where
      by_waiting : (o : Option ℕ) (g : LastSetup)
          → match_some o None (λ s. Some (pio_setup s (event.bytes_of s past) (field Pio table.Transfer f) (field Pio table.D f == 1) (field Pio EStatus f))) ≡ Some g
          → (g.count ≤ 512) × (g.ends ≡ Some 0x50)
      by_waiting None g is = cc is
      by_waiting (Some s) g is =
          let one : pio_setup s (event.bytes_of s past) (field Pio table.Transfer f) (field Pio table.D f == 1) (field Pio EStatus f) ≡ g = cc is in
          let count : field Pio table.Transfer f ≡ g.count = ap (λ (x : LastSetup). x.count) one in
          let size : field Pio table.Transfer f ≡ 512 = page_of_512 k.awaited f shows in
          (omega (arith, count, size), ap (λ (x : LastSetup). x.ends) (sym one) ∙ ap (λ (n : ℕ). Some n) ends)

  paged_pio : (f : List ℕ) → ShowsFirst k.awaited f → field Pio EStatus f ≡ 0x50
      → IsPaged (event.PioSetUp (field Pio table.Transfer f) (field Pio table.D f == 1) (field Pio EStatus f) ∷ past) (answered k)
  paged_pio f shows ends = record { due = λ s t here plain on. inl (page_due f shows ends); shown = none_shown }

  -- a DMA Setup: no such command is set up
  paged_setup : (f : List ℕ) → ((s : ℕ) → NoneQueued (issued s past) → IsFree k s) → SetsUpRight k k.moving f
      → IsPaged (event.SetUp (field Setup BufferId f) (field Setup Offset f) (field Setup table.Count f) (field Setup table.D f == 1) ∷ past) (listens_up k (Ok (view.DmaSetup f)))
  unfolding NotIssue
  paged_setup f frees right = record {
    due = λ s t here plain on.
        let before : issued s past ≡ Some t =
        issued_before s (event.SetUp (field Setup BufferId f) (field Setup Offset f) (field Setup table.Count f) (field Setup table.D f == 1)) past t tt here in
        unfree k f s (eqb-true (field Setup BufferId f) s on) (frees s (subst (λ (o : Option Transfer). NoneQueued o) (sym before) plain)) right;
    shown = λ later is empty. p.shown later (sym (asked_setup_fis k f).awaited ∙ is) (sym (asked_setup_fis k f).pages ∙ empty);
  }

  -- Data of the disk
  page_came : (bytes : List ℕ) → 512 ≤ length bytes → IsPageDue past k → IsPaged (event.Carried bytes ∷ past) (record k { pages = drop 1 k.pages })
  page_came bytes long d = record {
    due = λ s t here plain on. inr (λ g is.
        let few : g.count ≤ 512 = (d.last g is).0 in
        let enough : g.count ≤ carried past + length bytes = omega (arith, few, long) in
        enough);
    shown = λ later is. no_shows k.awaited later d.awaited is;
  }

  data_came : (v : Moving) (bytes : List ℕ) (x : Ledger) → k.moving ≡ Some v → KeepsAsked k x → IsPaged (event.Carried bytes ∷ past) x
  unfolding NotIssue
  data_came v bytes x now keeps = record {
    due = λ s t here plain on.
        elim (p.due s t (issued_before s (event.Carried bytes) past t tt here) plain on) [
          | inl d ↦ let idle : IsIdle k = paged_idle past k talk d.pages in let bad : None ≡ Some v = sym idle.moving ∙ now in cc bad
          | inr all ↦ inr (λ g is.
              let before : g.count ≤ carried past = all g is in
              let enough : g.count ≤ carried past + length bytes = omega (arith, before) in
              enough)
        ];
    shown = λ later is empty. p.shown later (sym keeps.awaited ∙ is) (sym keeps.pages ∙ empty);
  }

  paged_data : (bytes : List ℕ) (m : Option Moving) → k.moving ≡ m → 512 ≤ length bytes → (m ≡ None → IsPageDue past k) → IsPaged (event.Carried bytes ∷ past) (sends_data k m bytes)
  paged_data bytes None is long due = page_came bytes long (due refl)
  paged_data bytes (Some v) is long due = data_came v bytes (moves k v bytes) is (asked_moves k v bytes)

  -- Data of the host
  pub paged_down : (v : Moving) (bytes : List ℕ) → k.moving ≡ Some v → IsPaged (event.Carried bytes ∷ past) (takes_data k k.moving bytes)
  paged_down v bytes now = data_came v bytes (takes_data k k.moving bytes) now (asked_down k bytes)

  pub paged_up : (r : Result Fis FisFault) → IsRight k r → IsOfDisk r → IsLong r → ((s : ℕ) → NoneQueued (issued s past) → IsFree k s)
      → ((f : List ℕ) → r ≡ Ok (view.Payload f) → k.moving ≡ None → IsPageDue past k) → IsPaged (told r ++ past) (listens_up k r)
  unfolding NotIssue
  paged_up (Ok (view.RegD2H f)) right mine long frees due = paged_answered
  paged_up (Ok (view.SetBits f)) right mine long frees due = quiet (event.Named (field Bits SActive f)) (listens_up k (Ok (view.SetBits f))) tt (λ s. refl) refl refl (asked_bits k f right)
  paged_up (Ok (view.DmaActivate f)) right mine long frees due = unchanged (listens_up k (Ok (view.DmaActivate f))) (asked_activate_fis k f)
  paged_up (Ok (view.DmaSetup f)) right mine long frees due = paged_setup f frees right.moves
  paged_up (Ok (view.PioSetup f)) right mine long frees due = paged_pio f right.replies mine
  paged_up (Ok (view.Payload f)) right mine long frees due = paged_data (drop 4 f) k.moving refl long (λ none. due f refl none)
  paged_up other right mine long frees due = absurd mine

  -- ---- a command is sent

  -- a page that is due keeps the host from giving a command
  pub no_page_queued : {X : Type 0} (slot : ℕ) (c : Command) → InTalk (event.Sent slot ∷ past) (opened k c) → k.awaited ≡ [] → IsPageDue past k → X
  no_page_queued slot c (Queues most waits pages) none d = absurd (d.pages pages)
  no_page_queued slot c (Replies reply idle one mine pages) none d = absurd (d.pages pages)
  no_page_queued slot c (Shows idle one most unset) none d =
      let bad : Accepts ∷ [] ≡ ShowsPage ∷ [] = ap (λ (xs : List Reply). xs ++ Accepts ∷ []) (sym none) ∙ one in cc bad
  no_page_queued slot c (Pages page idle nothing one waits) none d =
      let bad : Accepts ∷ [] ≡ [] = ap (λ (xs : List Reply). xs ++ Accepts ∷ []) (sym none) ∙ nothing in cc bad

  sent_due : (slot : ℕ) (x : Ledger) → (IsPageDue past k → ⊥) → ((later : List Reply) → x.awaited ≡ ShowsPage ∷ later → x.pages ≢ []) → IsPaged (event.Sent slot ∷ past) x
  unfolding NotIssue
  sent_due slot x never shown = record {
    due = λ s t here plain on.
        elim (p.due s t (issued_before s (event.Sent slot) past t tt here) plain on) [ inl d ↦ absurd (never d) | inr all ↦ inr all ];
    shown = shown;
  }

  pub paged_queued : (slot : ℕ) (c : Command) → InTalk (event.Sent slot ∷ past) (opened k c) → k.awaited ≡ [] → IsPaged (event.Sent slot ∷ past) (opened k c)
  paged_queued slot c later none = sent_due slot (opened k c) (no_page_queued slot c later none) (λ replies is.
      let bad : Accepts ∷ [] ≡ ShowsPage ∷ replies = ap (λ (xs : List Reply). xs ++ Accepts ∷ []) (sym none) ∙ is in cc bad)

  shown_alone : (r : Request) → IsAlone r → k.awaited ≡ [] → (later : List Reply) → (alone k r).awaited ≡ ShowsPage ∷ later → (alone k r).pages ≢ []
  shown_alone (asked.Reset on) one none later is = absurd one
  shown_alone (asked.Queue c) one none later is = absurd one
  shown_alone asked.ReadErrorLog one none later is = λ empty. no_more k.pages _ empty
    where
      no_more : (xs : List Wanted) (x : Wanted) → xs ++ x ∷ [] ≡ [] → ⊥
      no_more [] x is = cc is
      no_more (y ∷ xs) x is = cc is
  shown_alone asked.Identify one none later is = λ empty. no_more k.pages _ empty
    where
      no_more : (xs : List Wanted) (x : Wanted) → xs ++ x ∷ [] ≡ [] → ⊥
      no_more [] x is = cc is
      no_more (y ∷ xs) x is = cc is
  shown_alone asked.Flush one none later is =
      let bad : Finishes ∷ [] ≡ ShowsPage ∷ later = ap (λ (xs : List Reply). xs ++ Finishes ∷ []) (sym none) ∙ is in cc bad
  shown_alone asked.Other one none later is =
      let bad : Refuses ∷ [] ≡ ShowsPage ∷ later = ap (λ (xs : List Reply). xs ++ Refuses ∷ []) (sym none) ∙ is in cc bad

  pub paged_alone : (slot : ℕ) (r : Request) → IsAlone r → Rests k → IsPaged (event.Sent slot ∷ past) (alone k r)
  paged_alone slot r one rests = sent_due slot (alone k r) (λ d. d.pages rests.pages) (shown_alone r one rests.awaited)
