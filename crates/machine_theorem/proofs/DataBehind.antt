-- All that came for the command that a disk ended, and that is not queued, is the payload of Data which it heard behind this command.
use Rattle.std.proofs.Common.{◌≡◌, ◌⊎◌, ℕ, zero, suc, Bool, true, false, List, [], ◌∷◌, ◌++◌, append_assoc, append-nil, drop, get_or, set, Option}
use Rattle.std.proofs.{Common.{Some, None, refl, sym, ap, ◌∙◌, subst, inl, inr, arith}, lemmas.{Bool.{false≢true}, List.Elements.{All-append}}}
use Rattle.std.proofs.lemmas.List.Elements.{All-cons, All-nil}
use Rattle.std.specs.Prelude.{if◌then◌else◌}
use Rattle.fis_view.specs.Seen.{seen}
use Rattle.block_command.specs.{declared.command.Command.Command, Laws.blank}
use Rattle.block_disk.specs.{Laws.{Page, Refused, Took}, Requests.{Books, OnLink, Seen, entered_by, no_books}, Table.is_under_way}
use Rattle.block_queue.specs.{Deeds.seen_of, Line.command_at}
use Rattle.block_scheduler.specs.Laws.{all_deeds}
use Rattle.block_engine.specs.Laws as engine
use Rattle.block_engine.specs.Laws.{Step, all_moves}
use Rattle.ata_reply.specs.declared.reply.Reply.TheVariants as replies
use Rattle.disk_pages.specs.declared.profile.Profile.{Profile}
use Rattle.sata_disk.specs.State.{DiskState, commands as line_of, is_taken, new_disk}
use Rattle.sata_disk_books.specs.{Books.{books_after, page_in}, Ended.PagesAreOfPlaces}
use Rattle.sata_disk_books.proofs.Door.{books_both, shown_both, shown_from}
use Rattle.sata_disk_laws.specs.{Awaited.{OutsAreUnderWay, SinglesAreAwaited}, Calls.{Answers, AreCalls, Asks, Call, Hears, Plugs, Sends, Starts}}
use Rattle.sata_disk_laws.specs.{Calls.{after_call, steps_of}, Laws.{reached, seen_in}, Once.{ForNothing, Wait, host_of, is_for_data, new_host}}
use Rattle.machine_theorem.specs.{DataCame.{AreOfHeard, DataComeBehind, IsDataFis, IsWrittenBehind}, InTurn.{commands, heard_in, hears_one}}
use Rattle.machine_theorem.specs.Tags.{once_if}
use Rattle.machine_theorem.proofs.Came.{HearsData, Holding, OfPage, OfPages, books_of, heard_last, heard_longer, next_pages, one_call, payload_last}
use Rattle.machine_theorem.proofs.{TagAsked.{Outcome, outcome, Outcome.{Nothing, Taken}}, TagCounts.{first_calls, held_of_taken, none_held}}
use Rattle.machine_theorem.proofs.{TagCounts.one_call_more, TagKept.{StepNone, call_held, call_takes, held_at, others_none}, TagPages.page_same}

pub record Laws : Type 0 where
  pub outs : OutsAreUnderWay
  pub awaited : SinglesAreAwaited
  pub places : PagesAreOfPlaces

-- ---- no command is taken

takes_none : (d : DiskState) (bytes : List ℕ) → Outcome d (seen bytes) → once_if (commands (seen bytes)) ≡ 0 → StepNone (steps_of d (Hears bytes))
takes_none d bytes (Nothing none) few = none
takes_none d bytes (Taken f k viewed is place steps move asks same) few =
    absurd (let one : once_if (commands (seen bytes)) ≡ 1 = ap (λ r. once_if (commands r)) viewed ∙ ap once_if is in omega (arith, few, one))

step_none : (d : DiskState) (x : Call) → hears_one x ≡ 0 → StepNone (steps_of d x)
step_none d (Hears bytes) few = takes_none d bytes (outcome d (seen bytes)) few
step_none d Plugs few = others_none d Plugs tt
step_none d (Starts x) few = others_none d (Starts x) tt
step_none d (Asks r) few = others_none d (Asks r) tt
step_none d (Answers number a) few = others_none d (Answers number a) tt
step_none d (Sends o) few = others_none d (Sends o) tt

-- what is under way behind calls that hear no command was so before them
held_back : (p : Profile) (limit : ℕ) (later pre : List Call) → heard_in later ≡ 0 → (c : Command) → held_at (line_of (reached p limit (pre ++ later))) 32 ≡ Some c
    → held_at (line_of (reached p limit pre)) 32 ≡ Some c
held_back p limit [] pre none c h = ap (λ (l : List Call). held_at (line_of (reached p limit l)) 32) (sym (append-nil pre)) ∙ h
held_back p limit (x ∷ later) pre none c h =
    let next : held_at (line_of (reached p limit (pre ++ x ∷ []))) 32 ≡ Some c =
    held_back p limit later (pre ++ x ∷ []) (omega (arith, none)) c (ap (λ (l : List Call). held_at (line_of (reached p limit l)) 32) (append_assoc pre (x ∷ []) later) ∙ h) in
    call_held (reached p limit pre) x 32 c (step_none (reached p limit pre) x (omega (arith, none)))
    (ap (λ (d : DiskState). held_at (line_of d) 32) (sym (one_call_more p limit pre x)) ∙ next)

-- ---- the page of a command that was taken

abbrev shown_by : DiskState → List Step → List Seen
shown_by d steps = seen_of (line_of d) (all_deeds d.engine.schedule (all_moves d.engine steps))

takes_shown : (d : DiskState) (k : Command)
    → shown_by d (engine.Takes k ∷ []) ≡ OnLink (if is_under_way (command_at (line_of d) k.place) then Refused k else Took k) ∷ []
unfolding seen_of all_deeds all_moves
takes_shown d k = refl

one_seen : (b : Books) (s : Seen) → books_after b (s ∷ []) ≡ entered_by b s
unfolding books_after
one_seen b s = refl

here_or : {A : Type 0} (xs : List (Option A)) (place : ℕ) (x : Option A) → (get_or (set xs place x) place None ≡ x) ⊎ (get_or (set xs place x) place None ≡ None)
here_or [] place x = inr refl
here_or (y ∷ xs) zero x = inl refl
here_or (y ∷ xs) (suc place) x = here_or xs place x

blank_page : (k : Command) (o : Option Page) (page : Page) → (o ≡ Some (record { command = k; ledger = blank })) ⊎ (o ≡ None) → o ≡ Some page → page.ledger.came ≡ []
blank_page k o page (inl is) e = ap (λ (q : Option Page). came_or q) (sym e) ∙ ap (λ (q : Option Page). came_or q) is
  where
    came_or : Option Page → List ℕ
    came_or None = []
    came_or (Some q) = q.ledger.came
blank_page k o page (inr none) e = absurd (let no : None ≡ Some page = sym none ∙ e in cc)

module _ (p : Profile) (limit : ℕ) (before : List Call) (bytes : List ℕ) (k : Command) (steps : steps_of (reached p limit before) (Hears bytes) ≡ engine.Takes k ∷ []) (place : k.place ≡ 32)
    (free : is_taken (line_of (reached p limit before)) 32 ≡ false) where
  abbrev d : DiskState
  d = reached p limit before

  books_then : books_of p limit (before ++ Hears bytes ∷ []) ≡ entered_by (books_of p limit before) (OnLink (Took k))
  books_then =
      let b : Books = books_of p limit before in
      let unused : is_under_way (command_at (line_of d) k.place) ≡ false = ap (λ (j : ℕ). is_taken (line_of d) j) place ∙ free in
      ap (λ (xs : List Seen). books_after no_books xs) (shown_both (new_disk p limit) before (Hears bytes ∷ []))
      ∙ books_both (seen_in p limit before) (shown_from d (Hears bytes ∷ [])) no_books
      ∙ ap (λ (ss : List Step). books_after b (shown_by d ss)) (one_call d (Hears bytes) ∙ steps)
      ∙ ap (λ (xs : List Seen). books_after b xs) (takes_shown d k)
      ∙ one_seen b (OnLink (if is_under_way (command_at (line_of d) k.place) then Refused k else Took k))
      ∙ ap (λ (c : Bool). entered_by b (OnLink (if c then Refused k else Took k))) unused

  pub came_none : (page : Page) → page_in p limit (before ++ Hears bytes ∷ []) 32 ≡ Some page → page.ledger.came ≡ []
  came_none page is =
      let pages : List (Option Page) = (books_of p limit before).pages in
      let there : get_or (set pages 32 (Some (record { command = k; ledger = blank }))) 32 None ≡ Some page =
      ap (λ (j : ℕ). get_or (set pages j (Some (record { command = k; ledger = blank }))) 32 None) (sym place) ∙ ap (λ (b : Books). get_or b.pages 32 None) (sym books_then) ∙ is in
      blank_page k (get_or (set pages 32 (Some (record { command = k; ledger = blank }))) 32 None) page (here_or pages 32 (Some (record { command = k; ledger = blank }))) there

-- ---- what comes then

abbrev Behind : List Call → Holding
Behind l = λ c came. c.place ≡ 32 → AreOfHeard l came

fresh : (l : List Call) (c : Command) → Behind l c []
fresh l c place = record { fises = []; heard = tt; each = All-nil IsDataFis; is = refl }

longer : (l : List Call) (k : Call) (c : Command) (came : List ℕ) → Behind l c came → Behind (l ++ k ∷ []) c came
longer l k c came was place = let h = was place in record { fises = h.fises; heard = heard_longer h.fises l (k ∷ []) h.heard; each = h.each; is = h.is }

more : (l : List Call) (k : Call) (fis : List ℕ) → HearsData k fis → (c : Command) (came : List ℕ) → Behind l c came → Behind (l ++ k ∷ []) c (came ++ drop 4 fis)
more l k fis it c came was place =
    let h = was place in
    subst (λ (x : Call). AreOfHeard (l ++ x ∷ []) (came ++ drop 4 fis)) (sym it.is) (record {
      fises = h.fises ++ fis ∷ [];
      heard = heard_last h.fises l fis h.heard;
      each = All-append IsDataFis h.fises (fis ∷ []) h.each (All-cons IsDataFis fis [] (record { frame = it.frame; viewed = it.viewed }) (All-nil IsDataFis));
      is = ap (λ (x : List ℕ). x ++ drop 4 fis) h.is ∙ sym (payload_last h.fises fis);
    })

walk : (p : Profile) (limit : ℕ) (base rest l : List Call) → OfPages (Behind l) (books_of p limit (base ++ l)).pages → OfPages (Behind (l ++ rest)) (books_of p limit (base ++ (l ++ rest))).pages
walk p limit base [] l before = subst (λ (q : List Call). OfPages (Behind q) (books_of p limit (base ++ q)).pages) (sym (append-nil l)) before
walk p limit base (x ∷ rest) l before =
    let one : OfPages (Behind (l ++ x ∷ [])) (books_of p limit ((base ++ l) ++ x ∷ [])).pages =
    next_pages (Behind l) (Behind (l ++ x ∷ [])) (fresh (l ++ x ∷ [])) (longer l x) p limit (base ++ l) x (more l x) before in
    let here : OfPages (Behind (l ++ x ∷ [])) (books_of p limit (base ++ (l ++ x ∷ []))).pages =
    subst (λ (q : List Call). OfPages (Behind (l ++ x ∷ [])) (books_of p limit q).pages) (append_assoc base l (x ∷ [])) one in
    subst (λ (q : List Call). OfPages (Behind q) (books_of p limit (base ++ q)).pages) (append_assoc l (x ∷ []) rest) (walk p limit base rest (l ++ x ∷ []) here)

-- ---- the law

no_data : (w : Wait) → w ≡ ForNothing → is_for_data w ≡ true → ⊥
no_data w e is = false≢true (sym (ap is_for_data e) ∙ is)

pub come_behind : Laws → DataComeBehind
come_behind laws p limit before bytes later are idle none is page books =
    let x : Call = Hears bytes in
    let all : List Call = before ++ x ∷ later in
    let first : AreCalls (new_disk p limit) before = first_calls before (x ∷ later) (new_disk p limit) are in
    let held = held_of_taken (command_at (line_of (reached p limit all)) 32) (laws.outs p limit all 32 replies.Done are is) in
    let split : (before ++ x ∷ []) ++ later ≡ all = append_assoc before (x ∷ []) later in
    let then' : held_at (line_of (reached p limit (before ++ x ∷ []))) 32 ≡ Some held.0 =
    held_back p limit later (before ++ x ∷ []) none held.0 (ap (λ (l : List Call). held_at (line_of (reached p limit l)) 32) split ∙ held.1) in
    let heard : held_at (line_of (after_call (reached p limit before) x)) 32 ≡ Some held.0 =
    ap (λ (d : DiskState). held_at (line_of d) 32) (sym (one_call_more p limit before x)) ∙ then' in
    let same : page.command ≡ held.0 = page_same p limit all 32 held.0 page held.1 books in
    by first held.0 heard same (outcome (reached p limit before) (seen bytes)) (is_taken (line_of (reached p limit before)) 32) refl
  where
    free_is : AreCalls (new_disk p limit) before → (b : Bool) → is_taken (line_of (reached p limit before)) 32 ≡ b → b ≡ false
    free_is first true e = absurd (no_data (host_of new_host before).waits idle.waits (laws.awaited p limit before first e))
    free_is first false e = refl

    taken_so : (c k : Command) → (held_at (line_of (reached p limit before)) 32 ≡ Some c) ⊎ ((c ≡ k) × (k.place ≡ 32)) → is_taken (line_of (reached p limit before)) 32 ≡ false
        → (c ≡ k) × (k.place ≡ 32)
    taken_so c k (inl was) free = absurd (none_held (command_at (line_of (reached p limit before)) 32) c free was)
    taken_so c k (inr it) free = it

    by : AreCalls (new_disk p limit) before → (c : Command) → held_at (line_of (after_call (reached p limit before) (Hears bytes))) 32 ≡ Some c → page.command ≡ c
        → Outcome (reached p limit before) (seen bytes) → (b : Bool) → is_taken (line_of (reached p limit before)) 32 ≡ b → IsWrittenBehind p limit before bytes later page
    by first c heard same (Nothing quiet) b e =
        let free : is_taken (line_of (reached p limit before)) 32 ≡ false = e ∙ free_is first b e in
        absurd (none_held (command_at (line_of (reached p limit before)) 32) c free (call_held (reached p limit before) (Hears bytes) 32 c quiet heard))
    by first c heard same (Taken f k viewed is_one place steps move asks one) b e =
        let d : DiskState = reached p limit before in
        let free : is_taken (line_of d) 32 ≡ false = e ∙ free_is first b e in
        let it = taken_so c k (call_takes d (Hears bytes) k 32 c steps heard) free in
        let split : (before ++ Hears bytes ∷ []) ++ later ≡ before ++ Hears bytes ∷ later = append_assoc before (Hears bytes ∷ []) later in
        let begin : OfPages (Behind []) (books_of p limit ((before ++ Hears bytes ∷ []) ++ [])).pages =
        subst (λ (l : List Call). OfPages (Behind []) (books_of p limit l).pages) (sym (append-nil (before ++ Hears bytes ∷ []))) (begins k steps it.1 free) in
        let end : OfPages (Behind later) (books_of p limit (before ++ Hears bytes ∷ later)).pages =
        subst (λ (l : List Call). OfPages (Behind later) (books_of p limit l).pages) split (walk p limit (before ++ Hears bytes ∷ []) later [] begin) in
        let there : OfPage (Behind later) (Some page) = subst (λ (o : Option Page). OfPage (Behind later) o) books (end 32) in
        record {
          asked = record {
            before = before;
            bytes = bytes;
            later = later;
            heard = refl;
            fis = f;
            viewed = viewed;
            move = move;
            asks = asks;
            is = same ∙ it.0 ∙ one;
          };
          is = refl;
          came = there (laws.places p limit (before ++ Hears bytes ∷ later) 32 page books);
        }
      where
        begins : (k : Command) → steps_of (reached p limit before) (Hears bytes) ≡ engine.Takes k ∷ [] → k.place ≡ 32 → is_taken (line_of (reached p limit before)) 32 ≡ false
            → OfPages (Behind []) (books_of p limit (before ++ Hears bytes ∷ [])).pages
        begins k steps place free q = at (page_in p limit (before ++ Hears bytes ∷ []) q) refl
          where
            at : (o : Option Page) → page_in p limit (before ++ Hears bytes ∷ []) q ≡ o → OfPage (Behind []) o
            at None e = tt
            at (Some x) e = λ own.
                (let here : q ≡ 32 = sym (laws.places p limit (before ++ Hears bytes ∷ []) q x e) ∙ own in
                let none : x.ledger.came ≡ [] =
                came_none p limit before bytes k steps place free x (ap (λ (j : ℕ). page_in p limit (before ++ Hears bytes ∷ []) j) (sym here) ∙ e) in
                subst (AreOfHeard []) (sym none) (fresh [] x.command own))
