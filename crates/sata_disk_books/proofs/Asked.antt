-- Each command in the books was asked for by a FIS that was heard.
use Rattle.std.proofs.Common.{◌≡◌, ℕ, zero, suc, true, false, List, [], ◌∷◌, ◌++◌, get_or, set, Some, None, refl, sym, ap, ◌∙◌, subst, append_assoc}
use Rattle.std.specs.{Prelude.{Option, Bool, ◌&&◌, if◌then◌else◌, replicate, Result, Ok, drop}, Option.option_map}
use Rattle.fis_view.specs.{Seen.seen as view_seen, declared.view.{Fis.Fis, FisFault.FisFault}}
use Rattle.fis_view.specs.declared.view.Fis.TheVariants as view
use Rattle.block_command.specs.{declared.command.Command.Command, Moments.Moment, Laws.{Goes, Comes, Happening, Input, blank}}
use Rattle.block_disk.specs.Table as table
use Rattle.block_disk.specs.{Table.is_under_way, Laws.{At, Page, Refused, Reset, Shown, Took, at_page, entered_in, page_entered, shown_at}}
use Rattle.block_disk.specs.Requests.{Asked, Answered, Books, Drawn, OnLink, Seen, entered_by, is_out, no_books, seen}
use Rattle.block_disk.proofs.Door.{each_is}
use Rattle.block_queue.specs.Deeds as deed
use Rattle.block_queue.specs.{Deeds.{Deed, act_of, after_deed, seen_of}, Line.{Line, may_send}}
use Rattle.block_scheduler.specs.{Sets.ends_at, Schedule.{Schedule, ends_all, ends_sent}, Laws.{Move, after_move, all_deeds, deeds_of, end_deeds}}
use Rattle.block_scheduler.specs.Laws.{ends_deeds}
use Rattle.block_scheduler.specs.Laws as move
use Rattle.block_engine.specs.{declared.request.{Answer.Answer, Range.Range}, Engine.{EngineState, none_engaged, place_of}, Laws.{Step, after_step}}
use Rattle.block_engine.specs.Laws.{all_moves, answer_moves, moves_of}
use Rattle.block_engine.specs.declared.request.Answer.TheVariants as answers
use Rattle.block_engine.specs.Laws as engine
use Rattle.ata_command.specs.declared.{asked.{Asked.Asked as Ask, PowerTask.PowerTask, Refusal.Refusal}, control.Course.{Course, TheVariants.Take}}
use Rattle.ata_command.specs.{declared.settings.Setting.Setting, Courses.{course, resets}}
use Rattle.ata_command.specs.declared.asked.Asked.TheVariants as ask
use Rattle.ata_command.specs.declared.asked.Move as wanted
use Rattle.ata_command.specs.declared.asked.PowerTask.TheVariants as power
use Rattle.ata_command.specs.declared.settings.Setting.TheVariants as setting
use Rattle.ata_front.specs.Fronts.{commanded_by, controlled, heard_data, refused_by, set_by, standing, taken, taken_flush, taken_power}
use Rattle.ata_front.specs.declared.{front.Heard.Heard, task.Act.Act}
use Rattle.ata_front.specs.declared.task.Act.TheVariants as act
use Rattle.ata_front.specs.declared.task.Purpose.TheVariants as purpose
use Rattle.disk_pages.specs.{Profiles.facts_of, declared.profile.Profile.Profile}
use Rattle.sata_disk.specs.{State.{DiskState, commands, new_disk, tags_of}, Hearing.{asked_of, command_told, is_command, ranges_of, register_told}}
use Rattle.sata_disk.specs.declared.out.Out.{Out}
use Rattle.sata_disk.specs.declared.out.Out.TheVariants as out
use Rattle.sata_disk_laws.specs.Calls as call
use Rattle.sata_disk_laws.specs.Calls.{Call, act_steps, after_call, after_calls, all_steps, ask_steps, data_steps, fis_steps, out_steps, range_steps}
use Rattle.sata_disk_laws.specs.{Calls.{start_steps, steps_of}, Laws.{reached, seen_in}}
use Rattle.sata_disk_laws.proofs.Door.{calls_after}
use Rattle.sata_disk_books.specs.Books.{CommandsAreAsked, IsAskedFor, books_after, page_in}

-- ## Lists

abbrev pub Each : {X : Type 0} → (X → Type 0) → List X → Type 0
Each holds [] = Unit {0}
Each holds (x ∷ later) = holds x × Each holds later

both : {X : Type 0} (holds : X → Type 0) (xs ys : List X) → Each holds xs → Each holds ys → Each holds (xs ++ ys)
both holds [] ys first later = later
both holds (x ∷ xs) ys first later = (first.0, both holds xs ys first.1 later)

-- ## What is taken

module _ (holds : Command → Type 0) where
  abbrev OfShown : Shown → Type 0
  OfShown (Took c) = holds c
  OfShown other = Unit {0}

  abbrev OfSeen : Seen → Type 0
  OfSeen (OnLink s) = OfShown s
  OfSeen (Asked place number s) = OfShown s
  OfSeen other = Unit {0}

  abbrev pub OfDeed : Deed → Type 0
  OfDeed (deed.Takes c) = holds c
  OfDeed other = Unit {0}

  abbrev pub OfMove : Move → Type 0
  OfMove (move.Takes c) = holds c
  OfMove other = Unit {0}

  abbrev pub OfStep : Step → Type 0
  OfStep (engine.Takes c) = holds c
  OfStep other = Unit {0}

  abbrev OfPage : Option Page → Type 0
  OfPage None = Unit {0}
  OfPage (Some p) = holds p.command

  abbrev OfPages : List (Option Page) → Type 0
  OfPages pages = (place : ℕ) → OfPage (get_or pages place None)

  -- ## The books

  with_page : (pages : List (Option Page)) (place : ℕ) (x : Option Page) → OfPages pages → OfPage x → OfPages (set pages place x)
  with_page [] place x before now q = before q
  with_page (p ∷ pages) zero x before now zero = now
  with_page (p ∷ pages) zero x before now (suc q) = before (suc q)
  with_page (p ∷ pages) (suc n) x before now zero = before zero
  with_page (p ∷ pages) (suc n) x before now (suc q) = with_page pages n x (λ k. before (suc k)) now q

  same_command : (h : Happening) (x : Option Page) → OfPage x → OfPage (option_map (λ p. page_entered p h) x)
  same_command h None is = tt
  same_command h (Some p) is = is

  no_pages : OfPages (replicate 33 None)
  no_pages q = subst OfPage (sym (each_is (Option Page) 33 q None)) tt

  shown_entered : (pages : List (Option Page)) (s : Shown) → OfPages pages → OfShown s → OfPages (entered_in pages s)
  shown_entered pages (Took c) before is = with_page pages c.place (Some (record { command = c; ledger = blank })) before is
  shown_entered pages (At place h) before is =
      with_page pages place (option_map (λ p. page_entered p h) (at_page pages place)) before (same_command h (at_page pages place) (before place))
  shown_entered pages Reset before is = no_pages
  shown_entered pages other before is = before

  answer_entered : (b : Books) (place number : ℕ) (h : Happening) (d : Bool) → OfPages b.pages
      → OfPages (if d then record { pages = entered_in b.pages (At place h); out = set b.out place 0 } else b).pages
  answer_entered b place number h true before = shown_entered b.pages (At place h) before tt
  answer_entered b place number h false before = before

  seen_entered : (b : Books) (s : Seen) → OfPages b.pages → OfSeen s → OfPages (entered_by b s).pages
  seen_entered b (OnLink s) before is = shown_entered b.pages s before is
  seen_entered b (Asked place number s) before is = shown_entered b.pages s before is
  seen_entered b (Answered place number h) before is = answer_entered b place number h (is_out b.out place number) before
  seen_entered b (Drawn number) before is = before

  all_entered : (xs : List Seen) (b : Books) → OfPages b.pages → Each OfSeen xs → OfPages (books_after b xs).pages
  unfolding books_after
  all_entered [] b before are = before
  all_entered (s ∷ later) b before are = all_entered later (entered_by b s) (seen_entered b s before are.0) are.1

  -- ## Deeds

  shown_none : (place : ℕ) (x : Option Moment) (i : Input) → OfShown (shown_at place x i)
  shown_none place None i = tt
  shown_none place (Some m) i = tt

  taken_shown : (c : Command) (b : Bool) → holds c → OfShown (if b then Refused c else Took c)
  taken_shown c true is = tt
  taken_shown c false is = is

  deed_seen : (l : Line) (d : Deed) → OfDeed d → OfSeen (seen l.queue (act_of d))
  deed_seen l (deed.Takes c) is = taken_shown c (is_under_way (table.at l.queue.table c.place)) is
  deed_seen l (deed.Starts place) is = shown_none place (table.at l.queue.table place) Goes
  deed_seen l (deed.Sends place) is = shown_none place (table.at l.queue.table place) Goes
  deed_seen l (deed.Asks place) is = shown_none place (table.at l.queue.table place) Goes
  deed_seen l (deed.Hears place part) is = shown_none place (table.at l.queue.table place) (Comes part)
  deed_seen l other is = tt

  deeds_seen : (ds : List Deed) (l : Line) → Each OfDeed ds → Each OfSeen (seen_of l ds)
  unfolding seen_of
  deeds_seen [] l are = tt
  deeds_seen (d ∷ later) l are = (deed_seen l d are.0, deeds_seen later (after_deed l d) are.1)

  -- ## Moves

  end_deed : (tag : ℕ) (b : Bool) → Each OfDeed (if b then deed.Sends tag ∷ [] else [])
  end_deed tag true = (tt, tt)
  end_deed tag false = tt

  end_deeds_hold : (l : Line) (n : ℕ) → Each OfDeed (ends_deeds l n)
  unfolding ends_deeds
  end_deeds_hold l zero = tt
  end_deeds_hold l (suc n) = both OfDeed (ends_deeds l n) (end_deeds (ends_sent l n) n) (end_deeds_hold l n) (end_deed n (ends_at (ends_sent l n) n && may_send (ends_sent l n) n))

  sent_deeds : (place : ℕ) (b : Bool) → Each OfDeed (if b then deed.Sends place ∷ deed.Resets ∷ [] else deed.Sends place ∷ [])
  sent_deeds place true = (tt, (tt, tt))
  sent_deeds place false = (tt, tt)

  move_deeds : (s : Schedule) (m : Move) → OfMove m → Each OfDeed (deeds_of s m)
  move_deeds s (move.Takes c) is = (is, tt)
  move_deeds s (move.Sends place) is = sent_deeds place (ends_all s.line place)
  move_deeds s move.SendsEnds is = end_deeds_hold s.line 32
  move_deeds s move.Forgives is = tt
  move_deeds s other is = (tt, tt)

  pub moves_deeds : (ms : List Move) (s : Schedule) → Each OfMove ms → Each OfDeed (all_deeds s ms)
  unfolding all_deeds
  moves_deeds [] s are = tt
  moves_deeds (m ∷ later) s are = both OfDeed (deeds_of s m) (all_deeds (after_move s m) later) (move_deeds s m are.0) (moves_deeds later (after_move s m) are.1)

  -- ## Steps

  answer_none : (e : EngineState) (x : Option ℕ) (number : ℕ) (a : Answer) → Each OfMove (answer_moves e x number a)
  answer_none e None number a = tt
  answer_none e (Some p) number (answers.Loaded bytes) = (tt, tt)
  answer_none e (Some p) number answers.Done = (tt, tt)
  answer_none e (Some p) number (answers.Failed f) = (tt, tt)

  step_moves : (e : EngineState) (s : Step) → OfStep s → Each OfMove (moves_of e s)
  step_moves e (engine.Takes c) is = (is, tt)
  step_moves e (engine.TakesAside k ranges) is = tt
  step_moves e (engine.Answers number a) is = answer_none e (place_of e number) number a
  step_moves e engine.SendsAside is = tt
  step_moves e other is = (tt, tt)

  pub steps_moves : (ss : List Step) (e : EngineState) → Each OfStep ss → Each OfMove (all_moves e ss)
  unfolding all_moves
  steps_moves [] e are = tt
  steps_moves (s ∷ later) e are = both OfMove (moves_of e s) (all_moves (after_step e s) later) (step_moves e s are.0) (steps_moves later (after_step e s) are.1)

  -- ## Calls other than a command's FIS

  pub range_none : (x : Option (List Range)) → Each OfStep (range_steps x)
  range_none None = tt
  range_none (Some ranges) = (tt, tt)

  pub data_none : (d : DiskState) (x : Option ℕ) (bytes : List ℕ) → Each OfStep (data_steps d x bytes)
  data_none d None bytes = (tt, tt)
  data_none d (Some blocks) bytes = range_none (ranges_of blocks (facts_of d.profile).sectors bytes)

  pub start_none : (x : Option ℕ) → Each OfStep (start_steps x)
  start_none None = tt
  start_none (Some p) = (tt, tt)

  pub ask_none : (x : Option ℕ) → Each OfStep (ask_steps x)
  ask_none None = (tt, tt)
  ask_none (Some p) = (tt, tt)

  pub out_none : (o : Out) → Each OfStep (out_steps o)
  out_none (out.Beside r) = (tt, tt)
  out_none (out.Ends tags) = (tt, tt)
  out_none (out.Of p r) = (tt, (tt, tt))
  out_none (out.Data p n) = (tt, (tt, tt))
  out_none other = tt

-- ## A command's FIS

pub record IsAskedNow (d : DiskState) (f : List ℕ) (c : Command) : Type 0 where
  pub move : wanted.Move
  pub asks : asked_of d f ≡ ask.Moves move
  pub is : c ≡ move.command

abbrev OfAct : DiskState → List ℕ → Act → Type 0
OfAct d f (act.Takes c) = IsAskedNow d f c
OfAct d f other = Unit {0}

set_none : (d : DiskState) (f : List ℕ) (s : Setting) → OfAct d f (set_by d.front s).act
set_none d f (setting.WriteCache false) = tt
set_none d f other = tt

refused_none : (d : DiskState) (f : List ℕ) (r : Refusal) (tag : Option ℕ) → OfAct d f (refused_by d.front r tag).act
refused_none d f r None = tt
refused_none d f r (Some tag) = tt

standby_none : (d : DiskState) (f : List ℕ) (b : Bool) (h : Heard) → h.act ≡ act.Nothing → OfAct d f (if b then taken_flush d.front purpose.Flush else h).act
standby_none d f true h is = tt
standby_none d f false h is = subst (OfAct d f) (sym is) tt

power_none : (d : DiskState) (f : List ℕ) (t : PowerTask) → OfAct d f (taken_power d.front t).act
power_none d f power.Standby = standby_none d f d.front.settings.write_cache _ refl
power_none d f other = tt

taken_asked : (d : DiskState) (f : List ℕ) (a : Ask) → asked_of d f ≡ a → OfAct d f (taken d.front a).act
taken_asked d f (ask.Moves m) is = record { move = m; asks = is; is = refl }
taken_asked d f (ask.Sets s) is = set_none d f s
taken_asked d f (ask.Power t) is = power_none d f t
taken_asked d f (ask.Refused r) is = refused_none d f r r.tag
taken_asked d f other is = tt

command_asked : (d : DiskState) (f : List ℕ) (c : Course) → OfAct d f (commanded_by d.front (asked_of d f) c).act
command_asked d f Take = taken_asked d f (asked_of d f) refl
command_asked d f other = tt

control_none : (d : DiskState) (f : List ℕ) (srst : Bool) → OfAct d f (controlled d.front srst).act
control_none d f true = tt
control_none d f false = tt

register_asked : (d : DiskState) (f : List ℕ) (b : Bool) → OfAct d f (if b then command_told d f else controlled d.front (resets f)).act
register_asked d f true = command_asked d f (course (asked_of d f) (standing d.front (tags_of (commands d))))
register_asked d f false = control_none d f (resets f)

act_holds : (holds : Command → Type 0) (e : EngineState) (d : DiskState) (f : List ℕ) (a : Act) → ((c : Command) → IsAskedNow d f c → holds c) → OfAct d f a → Each (OfStep holds) (act_steps e a)
act_holds holds e d f act.Nothing step is = tt
act_holds holds e d f (act.Takes c) step is = (step c is, tt)
act_holds holds e d f other step is = (tt, tt)

fis_holds : (holds : Command → Type 0) (d : DiskState) (r : Result Fis FisFault) → ((f : List ℕ) (c : Command) → r ≡ Ok (view.RegH2D f) → IsAskedNow d f c → holds c) → Each (OfStep holds) (fis_steps d r)
fis_holds holds d (Ok (view.RegH2D f)) step = act_holds holds d.engine d f (register_told d f).act (λ c is. step f c refl is) (register_asked d f (is_command f))
fis_holds holds d (Ok (view.Payload f)) step = data_none holds d (heard_data d.front.task) (drop 4 f)
fis_holds holds d other step = tt

-- ## Every run

call_holds : (p : Profile) (limit : ℕ) (whole before later : List Call) (d : DiskState) (c : Call) → whole ≡ before ++ c ∷ later → d ≡ reached p limit before
    → Each (OfStep (IsAskedFor p limit whole)) (steps_of d c)
call_holds p limit whole before later d (call.Hears bytes) is at =
    fis_holds (IsAskedFor p limit whole) d (view_seen bytes) (λ f c viewed asked. record {
      before = before;
      bytes = bytes;
      later = later;
      heard = is;
      fis = f;
      viewed = viewed;
      move = asked.move;
      asks = ap (λ (x : DiskState). asked_of x f) (sym at) ∙ asked.asks;
      is = asked.is;
    })
call_holds p limit whole before later d (call.Starts x) is at = start_none (IsAskedFor p limit whole) x
call_holds p limit whole before later d (call.Asks r) is at = ask_none (IsAskedFor p limit whole) r.place
call_holds p limit whole before later d (call.Sends o) is at = out_none (IsAskedFor p limit whole) o
call_holds p limit whole before later d other is at = (tt, tt)

one_call : (d : DiskState) (c : Call) → after_call d c ≡ after_calls d (c ∷ [])
unfolding after_calls
one_call d c = refl

calls_hold : (p : Profile) (limit : ℕ) (whole before calls : List Call) (d : DiskState) → whole ≡ before ++ calls → d ≡ reached p limit before
    → Each (OfStep (IsAskedFor p limit whole)) (all_steps d calls)
unfolding all_steps
calls_hold p limit whole before [] d is at = tt
calls_hold p limit whole before (c ∷ later) d is at =
    both (OfStep (IsAskedFor p limit whole)) (steps_of d c) (all_steps (after_call d c) later) (call_holds p limit whole before later d c is at)
    (calls_hold p limit whole (before ++ c ∷ []) later (after_call d c) (is ∙ sym (append_assoc before (c ∷ []) later))
    (one_call d c ∙ ap (λ (x : DiskState). after_calls x (c ∷ [])) at ∙ sym (calls_after before (c ∷ []) (new_disk p limit))))

nothing_called : (p : Profile) (limit : ℕ) → new_disk p limit ≡ reached p limit []
unfolding after_calls
nothing_called p limit = refl

of_page : (holds : Command → Type 0) (x : Option Page) (page : Page) → OfPage holds x → x ≡ Some page → holds page.command
of_page holds x page is at = subst (OfPage holds) at is

pub commands_are_asked : CommandsAreAsked
commands_are_asked p limit calls place page at =
    let holds : Command → Type 0 = IsAskedFor p limit calls in
    of_page holds (page_in p limit calls place) page
    (all_entered holds (seen_in p limit calls) no_books (no_pages holds)
    (deeds_seen holds _ _ (moves_deeds holds _ _ (steps_moves holds (all_steps (new_disk p limit) calls) (none_engaged limit)
    (calls_hold p limit calls [] calls (new_disk p limit) refl (nothing_called p limit))))) place) at
