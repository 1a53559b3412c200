-- All Data that came for the command of a page are the payload of Data FISes that were heard behind the FIS which asked for it.
use Rattle.std.proofs.Common.{◌≡◌, ◌⊎◌, ℕ, zero, suc, Bool, true, false, List, [], ◌∷◌, ◌++◌, append_assoc, append-nil, drop, get_or, set, length}
use Rattle.std.proofs.Common.{Option, Some, None, Result, Ok, refl, sym, ap, ◌∙◌, subst, inl, inr}
use Rattle.std.specs.{Prelude.{◌&&◌, ◌==◌, if◌then◌else◌, replicate, slice_index}, Option.option_map}
use Rattle.fis_view.specs.{Seen.{frame_of, seen as view_seen}, declared.view.{Fis.Fis, FisFault.FisFault}}
use Rattle.fis_view.specs.declared.view.Fis.TheVariants as view
use Rattle.block_command.specs.{declared.command.{Command.Command, Turn.Turn}, Moments.{Moment, turn_of}, Laws.{CameData, Comes, Flushed, Goes}}
use Rattle.block_command.specs.Laws.{Happening, Input, Ledger, Loaded, Loads, SentSetUp, Stored, blank, entered, given_to, shown, stored_in}
use Rattle.block_command.specs.declared.command.Turn.TheVariants as turn
use Rattle.block_disk.specs.Table as table
use Rattle.block_disk.specs.{Table.is_under_way, Laws.{At, Page, Refused, Reset, Shown, Took, at_page, entered_in, page_entered, shown_at}}
use Rattle.block_disk.specs.Requests.{Answered, Asked, Books, Drawn, OnLink, Seen, entered_by, is_out, no_books, seen, told}
use Rattle.block_disk.proofs.Door.{each_is}
use Rattle.block_queue.specs.Deeds as deed
use Rattle.block_queue.specs.{Deeds.{Deed, act_of, after_deed, seen_of}, Line.{Line, may_send}}
use Rattle.block_scheduler.specs.{Sets.ends_at, Schedule.{Schedule, ends_all, ends_sent}, Laws.{Move, after_move, all_deeds, deeds_of, end_deeds}}
use Rattle.block_scheduler.specs.Laws.{ends_deeds}
use Rattle.block_scheduler.specs.Laws as move
use Rattle.block_engine.specs.{declared.request.{Answer.Answer, Range.Range}, Engine.{EngineState, place_of}, Laws.{Step, after_step, all_moves}}
use Rattle.block_engine.specs.Laws.{answer_moves, moves_of}
use Rattle.block_engine.specs.declared.request.Answer.TheVariants as answers
use Rattle.block_engine.specs.Laws as engine
use Rattle.ata_front.specs.{Fronts.heard_data, declared.task.Act.Act}
use Rattle.ata_front.specs.declared.task.Act.TheVariants as act
use Rattle.disk_pages.specs.{Profiles.facts_of, declared.profile.Profile.Profile}
use Rattle.sata_disk.specs.{State.{DiskState, commands, data_place, new_disk}, Hearing.{ranges_of, register_told}, declared.out.Out.Out}
use Rattle.sata_disk.specs.declared.out.Out.TheVariants as out
use Rattle.sata_disk_laws.specs.Calls as call
use Rattle.sata_disk_laws.specs.Calls.{Call, act_steps, all_steps, ask_steps, data_steps, fis_steps, out_steps, range_steps, start_steps, steps_of}
use Rattle.sata_disk_laws.specs.Laws.{reached, seen_in}
use Rattle.sata_disk_books.specs.Books.{CommandsAreAsked, IsAskedFor, books_after, page_in}
use Rattle.sata_disk_books.proofs.Door.{books_both, shown_both, shown_from}
use Rattle.machine_theorem.specs.Writes.{AreHeard, payloads}
use Rattle.machine_theorem.proofs.{IsData.payload_type, Sent.seen_data}

-- ---- FISes that are heard

pub heard_longer : (fises : List (List ℕ)) (calls more : List Call) → AreHeard fises calls → AreHeard fises (calls ++ more)
heard_longer [] calls more h = tt
heard_longer (f ∷ rest) calls more h = record {
  before = h.before;
  later = h.later ++ more;
  is = ap (λ (l : List Call). l ++ more) h.is ∙ append_assoc h.before (call.Hears f ∷ h.later) more;
  after = heard_longer rest h.later more h.after;
}

pub heard_last : (fises : List (List ℕ)) (calls : List Call) (fis : List ℕ) → AreHeard fises calls → AreHeard (fises ++ fis ∷ []) (calls ++ call.Hears fis ∷ [])
heard_last [] calls fis h = record { before = calls; later = []; is = refl; after = tt }
heard_last (f ∷ rest) calls fis h = record {
  before = h.before;
  later = h.later ++ call.Hears fis ∷ [];
  is = ap (λ (l : List Call). l ++ call.Hears fis ∷ []) h.is ∙ append_assoc h.before (call.Hears f ∷ h.later) (call.Hears fis ∷ []);
  after = heard_last rest h.later fis h.after;
}

pub payload_last : (fises : List (List ℕ)) (fis : List ℕ) → payloads (fises ++ fis ∷ []) ≡ payloads fises ++ drop 4 fis
payload_last [] fis = append-nil (drop 4 fis)
payload_last (f ∷ rest) fis = ap (λ (x : List ℕ). drop 4 f ++ x) (payload_last rest fis) ∙ sym (append_assoc (drop 4 f) (payloads rest) (drop 4 fis))

abbrev pub Each : {X : Type 0} → (X → Type 0) → List X → Type 0
Each holds [] = Unit {0}
Each holds (x ∷ later) = holds x × Each holds later

both : {X : Type 0} (holds : X → Type 0) (xs ys : List X) → Each holds xs → Each holds ys → Each holds (xs ++ ys)
both holds [] ys first later = later
both holds (x ∷ xs) ys first later = (first.0, both holds xs ys first.1 later)

-- what holds of each place, and of what is put at one
pub set_each : {A : Type 0} (P : Option A → Type 0) (l : List (Option A)) (k : ℕ) (x : Option A) → P x → ((s : ℕ) → P (get_or l s None)) → (s : ℕ) → P (get_or (set l k x) s None)
set_each P [] k x is each s = each s
set_each P (y ∷ l) zero x is each zero = is
set_each P (y ∷ l) zero x is each (suc s) = each (suc s)
set_each P (y ∷ l) (suc k) x is each zero = each zero
set_each P (y ∷ l) (suc k) x is each (suc s) = set_each P l k x is (λ t. each (suc t)) s

abbrev pub IsDataType : List ℕ → Type 0
IsDataType fis = slice_index fis 0 ≡ 0x46

-- ---- what came for a command

pub record CameSince (p : Profile) (limit : ℕ) (calls : List Call) (c : Command) (came : List ℕ) : Type 0 where
  pub asked : IsAskedFor p limit calls c
  pub fises : List (List ℕ)
  pub heard : AreHeard fises asked.later
  pub types : Each IsDataType fises
  pub is : came ≡ payloads fises

asked_longer : (p : Profile) (limit : ℕ) (calls more : List Call) (c : Command) → IsAskedFor p limit calls c → IsAskedFor p limit (calls ++ more) c
asked_longer p limit calls more c a = record {
  before = a.before;
  bytes = a.bytes;
  later = a.later ++ more;
  heard = ap (λ (l : List Call). l ++ more) a.heard ∙ append_assoc a.before (call.Hears a.bytes ∷ a.later) more;
  fis = a.fis;
  viewed = a.viewed;
  move = a.move;
  asks = a.asks;
  is = a.is;
}

came_longer : (p : Profile) (limit : ℕ) (calls : List Call) (k : Call) (c : Command) (came : List ℕ) → CameSince p limit calls c came
    → CameSince p limit (calls ++ k ∷ []) c came
unfolding asked_longer
came_longer p limit calls k c came h = record {
  asked = asked_longer p limit calls (k ∷ []) c h.asked;
  fises = h.fises;
  heard = heard_longer h.fises h.asked.later (k ∷ []) h.heard;
  types = h.types;
  is = h.is;
}

came_more : (p : Profile) (limit : ℕ) (calls : List Call) (fis : List ℕ) → IsDataType fis → (c : Command) (came : List ℕ) → CameSince p limit calls c came
    → CameSince p limit (calls ++ call.Hears fis ∷ []) c (came ++ drop 4 fis)
unfolding asked_longer
came_more p limit calls fis type c came h = record {
  asked = asked_longer p limit calls (call.Hears fis ∷ []) c h.asked;
  fises = h.fises ++ fis ∷ [];
  heard = heard_last h.fises h.asked.later fis h.heard;
  types = both IsDataType h.fises (fis ∷ []) h.types (type, tt);
  is = ap (λ (x : List ℕ). x ++ drop 4 fis) h.is ∙ sym (payload_last h.fises fis);
}

-- ---- the books, by what is seen

abbrev pub Holding : Type 1
Holding = Command → List ℕ → Type 0

abbrev pub OfPage : Holding → Option Page → Type 0
OfPage holds None = Unit {0}
OfPage holds (Some p) = holds p.command p.ledger.came

abbrev pub OfPages : Holding → List (Option Page) → Type 0
OfPages holds pages = (place : ℕ) → OfPage holds (get_or pages place None)

no_pages : (holds : Holding) → OfPages holds (replicate 33 None)
no_pages holds q = subst (OfPage holds) (sym (each_is (Option Page) 33 q None)) tt

given_came : (l : Ledger) (o : Option ℕ) (bytes : List ℕ) → (given_to l o bytes).came ≡ l.came
given_came l None bytes = refl
given_came l (Some n) bytes = by (length bytes == n)
  where
    by : (b : Bool) → (if b then record l { given = l.given ++ bytes; wanting = None } else l).came ≡ l.came
    by true = refl
    by false = refl

stored_came : (l : Ledger) (o : Option (List ℕ)) → (stored_in l o).came ≡ l.came
stored_came l None = refl
stored_came l (Some bytes) = refl

set_up_came : (l : Ledger) (b : Bool) → (if b then record l { active = true } else l).came ≡ l.came
set_up_came l true = refl
set_up_came l false = refl

flushed_came : (l : Ledger) (b : Bool) → (if b then record l { flushed = true } else l).came ≡ l.came
flushed_came l true = refl
flushed_came l false = refl

-- Data that come are behind those that came
abbrev pub OfHappening : (was now : Holding) → Happening → Type 0
OfHappening was now (CameData part) = (c : Command) (came : List ℕ) → was c came → now c (came ++ part)
OfHappening was now other = Unit {0}

abbrev OfShown : (was now : Holding) → Shown → Type 0
OfShown was now (At place h) = OfHappening was now h
OfShown was now other = Unit {0}

abbrev OfSeen : (was now : Holding) → Seen → Type 0
OfSeen was now (OnLink s) = OfShown was now s
OfSeen was now (Asked place number s) = OfShown was now s
OfSeen was now (Answered place number h) = OfHappening was now h
OfSeen was now (Drawn number) = Unit {0}

module _ (was now : Holding) (fresh : (c : Command) → now c []) (stays : (c : Command) (came : List ℕ) → was c came → now c came) where
  same_came : (c : Command) (l m : Ledger) → m.came ≡ l.came → was c l.came → now c m.came
  same_came c l m same is = stays c m.came (subst (λ (x : List ℕ). was c x) (sym same) is)

  more_came : (c : Command) (l : Ledger) (part : List ℕ) (b : Bool) → was c l.came → ((came : List ℕ) → was c came → now c (came ++ part))
      → now c (if b then record l { came = l.came ++ part; active = false } else l).came
  more_came c l part true is more = more l.came is
  more_came c l part false is more = stays c l.came is

  pub ledger_holds : (c : Command) (l : Ledger) (h : Happening) → was c l.came → OfHappening was now h → now c (entered c l h).came
  ledger_holds c l (CameData part) is more = more_came c l part l.active is (more c)
  ledger_holds c l (Loaded bytes) is of = same_came c l (given_to l l.wanting bytes) (given_came l l.wanting bytes) is
  ledger_holds c l Stored is of = same_came c l (stored_in l l.storing) (stored_came l l.storing) is
  ledger_holds c l SentSetUp is of = same_came c l (entered c l SentSetUp) (set_up_came l (c.write && c.auto_activate)) is
  ledger_holds c l Flushed is of = same_came c l (entered c l Flushed) (flushed_came l l.flushing) is
  ledger_holds c l other is of = stays c l.came is

  page_stays : (x : Option Page) → OfPage was x → OfPage now x
  page_stays None is = tt
  page_stays (Some p) is = stays p.command p.ledger.came is

  pages_stay : (pages : List (Option Page)) → OfPages was pages → OfPages now pages
  pages_stay pages before q = page_stays (get_or pages q None) (before q)

  page_holds : (h : Happening) (x : Option Page) → OfPage was x → OfHappening was now h → OfPage now (option_map (λ p. page_entered p h) x)
  page_holds h None is of = tt
  page_holds h (Some p) is of = ledger_holds p.command p.ledger h is of

  shown_entered : (pages : List (Option Page)) (s : Shown) → OfPages was pages → OfShown was now s → OfPages now (entered_in pages s)
  shown_entered pages (Took c) before of = set_each (OfPage now) pages c.place (Some (record { command = c; ledger = blank })) (fresh c) (pages_stay pages before)
  shown_entered pages (At place h) before of =
      set_each (OfPage now) pages place (option_map (λ p. page_entered p h) (at_page pages place)) (page_holds h (at_page pages place) (before place) of) (pages_stay pages before)
  shown_entered pages Reset before of = no_pages now
  shown_entered pages other before of = pages_stay pages before

  answer_entered : (b : Books) (place number : ℕ) (h : Happening) (d : Bool) → OfPages was b.pages → OfHappening was now h
      → OfPages now (if d then record { pages = entered_in b.pages (At place h); out = set b.out place 0 } else b).pages
  answer_entered b place number h true before of = shown_entered b.pages (At place h) before of
  answer_entered b place number h false before of = pages_stay b.pages before

  seen_entered : (b : Books) (s : Seen) → OfPages was b.pages → OfSeen was now s → OfPages now (entered_by b s).pages
  seen_entered b (OnLink s) before of = shown_entered b.pages s before of
  seen_entered b (Asked place number s) before of = shown_entered b.pages s before of
  seen_entered b (Answered place number h) before of = answer_entered b place number h (is_out b.out place number) before of
  seen_entered b (Drawn number) before of = pages_stay b.pages before

-- ---- what brings no Data

abbrev pub NoHappening : Happening → Type 0
NoHappening (CameData part) = ⊥
NoHappening other = Unit {0}

abbrev NoShown : Shown → Type 0
NoShown (At place h) = NoHappening h
NoShown other = Unit {0}

abbrev NoSeen : Seen → Type 0
NoSeen (OnLink s) = NoShown s
NoSeen (Asked place number s) = NoShown s
NoSeen (Answered place number h) = NoHappening h
NoSeen (Drawn number) = Unit {0}

abbrev pub NoDeed : Deed → Type 0
NoDeed (deed.Hears place part) = ⊥
NoDeed other = Unit {0}

abbrev pub NoMove : Move → Type 0
NoMove (move.Hears place part) = ⊥
NoMove other = Unit {0}

abbrev pub NoStep : Step → Type 0
NoStep (engine.Hears place part) = ⊥
NoStep other = Unit {0}

pub none_happens : (holds : Holding) (h : Happening) → NoHappening h → OfHappening holds holds h
none_happens holds (CameData part) none = absurd none
none_happens holds other none = tt

none_shown : (holds : Holding) (s : Shown) → NoShown s → OfShown holds holds s
none_shown holds (At place h) none = none_happens holds h none
none_shown holds other none = tt

none_seen : (holds : Holding) (s : Seen) → NoSeen s → OfSeen holds holds s
none_seen holds (OnLink s) none = none_shown holds s none
none_seen holds (Asked place number s) none = none_shown holds s none
none_seen holds (Answered place number h) none = none_happens holds h none
none_seen holds (Drawn number) none = tt

all_entered : (holds : Holding) → ((c : Command) → holds c []) → (xs : List Seen) (b : Books) → OfPages holds b.pages → Each NoSeen xs → OfPages holds (books_after b xs).pages
unfolding books_after
all_entered holds fresh [] b before none = before
all_entered holds fresh (s ∷ later) b before none =
    all_entered holds fresh later (entered_by b s) (seen_entered holds holds fresh (λ c came is. is) b s before (none_seen holds s none.0)) none.1

pub turn_none : (m : Moment) (t : Turn) → NoHappening (shown m t)
turn_none m turn.Nothing = tt
turn_none m other = tt

goes_none : (place : ℕ) (x : Option Moment) → NoShown (shown_at place x Goes)
goes_none place None = tt
goes_none place (Some m) = turn_none m (turn_of m.stage)

pub told_none : (i : Input) → NoHappening (told i)
told_none (Loads bytes) = tt
told_none other = tt

taken_none : (c : Command) (b : Bool) → NoShown (if b then Refused c else Took c)
taken_none c true = tt
taken_none c false = tt

deed_seen : (l : Line) (d : Deed) → NoDeed d → NoSeen (seen l.queue (act_of d))
deed_seen l (deed.Takes c) none = taken_none c (is_under_way (table.at l.queue.table c.place))
deed_seen l (deed.Starts place) none = goes_none place (table.at l.queue.table place)
deed_seen l (deed.Sends place) none = goes_none place (table.at l.queue.table place)
deed_seen l (deed.Asks place) none = goes_none place (table.at l.queue.table place)
deed_seen l (deed.Hears place part) none = absurd none
deed_seen l (deed.Answers place number i) none = told_none i
deed_seen l other none = tt

deeds_seen : (ds : List Deed) (l : Line) → Each NoDeed ds → Each NoSeen (seen_of l ds)
unfolding seen_of
deeds_seen [] l are = tt
deeds_seen (d ∷ later) l are = (deed_seen l d are.0, deeds_seen later (after_deed l d) are.1)

end_deed : (tag : ℕ) (b : Bool) → Each NoDeed (if b then deed.Sends tag ∷ [] else [])
end_deed tag true = (tt, tt)
end_deed tag false = tt

ends_none : (l : Line) (n : ℕ) → Each NoDeed (ends_deeds l n)
unfolding ends_deeds
ends_none l zero = tt
ends_none l (suc n) = both NoDeed (ends_deeds l n) (end_deeds (ends_sent l n) n) (ends_none l n) (end_deed n (ends_at (ends_sent l n) n && may_send (ends_sent l n) n))

sent_deeds : (place : ℕ) (b : Bool) → Each NoDeed (if b then deed.Sends place ∷ deed.Resets ∷ [] else deed.Sends place ∷ [])
sent_deeds place true = (tt, (tt, tt))
sent_deeds place false = (tt, tt)

move_deeds : (s : Schedule) (m : Move) → NoMove m → Each NoDeed (deeds_of s m)
move_deeds s (move.Sends place) none = sent_deeds place (ends_all s.line place)
move_deeds s move.SendsEnds none = ends_none s.line 32
move_deeds s move.Forgives none = tt
move_deeds s (move.Hears place part) none = absurd none
move_deeds s other none = (tt, tt)

pub moves_deeds : (ms : List Move) (s : Schedule) → Each NoMove ms → Each NoDeed (all_deeds s ms)
unfolding all_deeds
moves_deeds [] s are = tt
moves_deeds (m ∷ later) s are = both NoDeed (deeds_of s m) (all_deeds (after_move s m) later) (move_deeds s m are.0) (moves_deeds later (after_move s m) are.1)

answer_none : (e : EngineState) (x : Option ℕ) (number : ℕ) (a : Answer) → Each NoMove (answer_moves e x number a)
answer_none e None number a = tt
answer_none e (Some p) number (answers.Loaded bytes) = (tt, tt)
answer_none e (Some p) number answers.Done = (tt, tt)
answer_none e (Some p) number (answers.Failed f) = (tt, tt)

step_moves : (e : EngineState) (s : Step) → NoStep s → Each NoMove (moves_of e s)
step_moves e (engine.TakesAside k ranges) none = tt
step_moves e (engine.Answers number a) none = answer_none e (place_of e number) number a
step_moves e engine.SendsAside none = tt
step_moves e (engine.Hears p part) none = absurd none
step_moves e other none = (tt, tt)

pub steps_moves : (ss : List Step) (e : EngineState) → Each NoStep ss → Each NoMove (all_moves e ss)
unfolding all_moves
steps_moves [] e are = tt
steps_moves (s ∷ later) e are = both NoMove (moves_of e s) (all_moves (after_step e s) later) (step_moves e s are.0) (steps_moves later (after_step e s) are.1)

-- ---- what a call shows

abbrev shown_by : DiskState → List Step → List Seen
shown_by d steps = seen_of (commands d) (all_deeds d.engine.schedule (all_moves d.engine steps))

quiet : (d : DiskState) (steps : List Step) → Each NoStep steps → Each NoSeen (shown_by d steps)
quiet d steps none =
    deeds_seen (all_deeds d.engine.schedule (all_moves d.engine steps)) (commands d)
    (moves_deeds (all_moves d.engine steps) d.engine.schedule (steps_moves steps d.engine none))

pub data_shown : (d : DiskState) (place : ℕ) (part : List ℕ)
    → shown_by d (engine.Hears place part ∷ []) ≡ OnLink (shown_at place (table.at (commands d).queue.table place) (Comes part)) ∷ []
unfolding seen_of all_deeds all_moves
data_shown d place part = refl

pub one_call : (d : DiskState) (k : Call) → all_steps d (k ∷ []) ≡ steps_of d k
unfolding all_steps
one_call d k = append-nil (steps_of d k)

-- A call brings no Data, or it is the FIS whose payload it brings.
pub data CallSteps (k : Call) (steps : List Step) : Type 0 where
  Quiet : Each NoStep steps → CallSteps k steps
  Brings : (fis g : List ℕ) (place : ℕ) → k ≡ call.Hears fis → IsDataType fis → view_seen fis ≡ Ok (view.Payload g) → steps ≡ engine.Hears place (drop 4 fis) ∷ [] → CallSteps k steps

act_none : (e : EngineState) (a : Act) → Each NoStep (act_steps e a)
act_none e act.Nothing = tt
act_none e other = (tt, tt)

range_none : (x : Option (List Range)) → Each NoStep (range_steps x)
range_none None = tt
range_none (Some ranges) = (tt, tt)

data_kind : (d : DiskState) (f g : List ℕ) → view_seen f ≡ Ok (view.Payload g) → (x : Option ℕ) → CallSteps (call.Hears f) (data_steps d x (drop 4 g))
data_kind d f g is None =
    let type : IsDataType f = payload_type f g is in
    let same : g ≡ f = ap frame_of (seen_data f (view.Payload g) type is) in
    Brings f g (data_place (commands d)) refl type is (ap (λ (l : List ℕ). engine.Hears (data_place (commands d)) (drop 4 l) ∷ []) same)
data_kind d f g is (Some blocks) = Quiet (range_none (ranges_of blocks (facts_of d.profile).sectors (drop 4 g)))

fis_kind : (d : DiskState) (f : List ℕ) (r : Result Fis FisFault) → view_seen f ≡ r → CallSteps (call.Hears f) (fis_steps d r)
fis_kind d f (Ok (view.RegH2D g)) is = Quiet (act_none d.engine (register_told d g).act)
fis_kind d f (Ok (view.Payload g)) is = data_kind d f g is (heard_data d.front.task)
fis_kind d f other is = Quiet tt

start_none : (x : Option ℕ) → Each NoStep (start_steps x)
start_none None = tt
start_none (Some p) = (tt, tt)

ask_none : (x : Option ℕ) → Each NoStep (ask_steps x)
ask_none None = (tt, tt)
ask_none (Some p) = (tt, tt)

out_none : (o : Out) → Each NoStep (out_steps o)
out_none (out.Beside r) = (tt, tt)
out_none (out.Ends tags) = (tt, tt)
out_none (out.Of p r) = (tt, (tt, tt))
out_none (out.Data p n) = (tt, (tt, tt))
out_none other = tt

pub call_kind : (d : DiskState) (k : Call) → CallSteps k (steps_of d k)
call_kind d (call.Hears f) = fis_kind d f (view_seen f) refl
call_kind d (call.Starts x) = Quiet (start_none x)
call_kind d (call.Asks r) = Quiet (ask_none r.place)
call_kind d (call.Sends o) = Quiet (out_none o)
call_kind d other = Quiet (tt, tt)

one_seen : (b : Books) (s : Seen) → books_after b (s ∷ []) ≡ entered_by b s
unfolding books_after
one_seen b s = refl

-- ---- one call

-- a FIS has Data, and the call hears it
pub record HearsData (k : Call) (fis : List ℕ) : Type 0 where
  pub is : k ≡ call.Hears fis
  pub type : IsDataType fis
  pub frame : List ℕ
  pub viewed : view_seen fis ≡ Ok (view.Payload frame)

abbrev pub books_of : Profile → (limit : ℕ) → List Call → Books
books_of p limit calls = books_after no_books (seen_in p limit calls)

-- what holds of the pages before a call, and then behind it
module _ (was now : Holding) (fresh : (c : Command) → now c []) (longer : (c : Command) (came : List ℕ) → was c came → now c came) where
  comes : (k : Call) (fis : List ℕ) → ((c : Command) (came : List ℕ) → was c came → now c (came ++ drop 4 fis)) → (place : ℕ) (x : Option Moment)
      → OfShown was now (shown_at place x (Comes (drop 4 fis)))
  comes k fis more place None = tt
  comes k fis more place (Some m) = more

  step : (d : DiskState) (b : Books) (k : Call) (steps : List Step) → CallSteps k steps
      → ((fis : List ℕ) → HearsData k fis → (c : Command) (came : List ℕ) → was c came → now c (came ++ drop 4 fis)) → OfPages was b.pages
      → OfPages now (books_after b (shown_by d steps)).pages
  step d b k steps (Quiet none) more before = all_entered now fresh (shown_by d steps) b (pages_stay was now fresh longer b.pages before) (quiet d steps none)
  step d b k steps (Brings fis g place is type viewed are) more before =
      let s : Seen = OnLink (shown_at place (table.at (commands d).queue.table place) (Comes (drop 4 fis))) in
      subst (λ (ss : List Step). OfPages now (books_after b (shown_by d ss)).pages) (sym are)
      (subst (λ (xs : List Seen). OfPages now (books_after b xs).pages) (sym (data_shown d place (drop 4 fis)))
      (subst (λ (x : Books). OfPages now x.pages) (sym (one_seen b s))
      (seen_entered was now fresh longer b s before
      (comes k fis (more fis (record { is = is; type = type; frame = g; viewed = viewed })) place (table.at (commands d).queue.table place)))))

  pub next_pages : (p : Profile) (limit : ℕ) (calls : List Call) (k : Call)
      → ((fis : List ℕ) → HearsData k fis → (c : Command) (came : List ℕ) → was c came → now c (came ++ drop 4 fis)) → OfPages was (books_of p limit calls).pages
      → OfPages now (books_of p limit (calls ++ k ∷ [])).pages
  next_pages p limit calls k more before =
      let d : DiskState = reached p limit calls in
      let next : OfPages now (books_after (books_of p limit calls) (shown_from d (k ∷ []))).pages =
      subst (λ (ss : List Step). OfPages now (books_after (books_of p limit calls) (shown_by d ss)).pages) (sym (one_call d k))
      (step d (books_of p limit calls) k (steps_of d k) (call_kind d k) more before) in
      let same : books_of p limit (calls ++ k ∷ []) ≡ books_after (books_of p limit calls) (shown_from d (k ∷ [])) =
      ap (λ (xs : List Seen). books_after no_books xs) (shown_both (new_disk p limit) calls (k ∷ [])) ∙ books_both (seen_in p limit calls) (shown_from d (k ∷ [])) no_books in
      subst (λ (x : Books). OfPages now x.pages) (sym same) next

-- ---- every run

module _ (asked : CommandsAreAsked) (p : Profile) (limit : ℕ) where
  abbrev Since : List Call → Holding
  Since calls = λ c came. CameSince p limit calls c came

  -- nothing came yet
  abbrev OrNothing : List Call → Holding
  OrNothing calls = λ c came. (came ≡ []) ⊎ CameSince p limit calls c came

  abbrev books : List Call → Books
  books calls = books_after no_books (seen_in p limit calls)

  of_asked : (calls : List Call) (c : Command) (came : List ℕ) → IsAskedFor p limit calls c → came ≡ [] → CameSince p limit calls c came
  of_asked calls c came a none = record { asked = a; fises = []; heard = tt; types = tt; is = none }

  settled : (calls : List Call) (place : ℕ) (x : Option Page) → page_in p limit calls place ≡ x → OfPage (OrNothing calls) x → OfPage (Since calls) x
  settled calls place None is h = tt
  settled calls place (Some page) is (inl none) = of_asked calls page.command page.ledger.came (asked p limit calls place page is) none
  settled calls place (Some page) is (inr since) = since

  longer_then : (calls : List Call) (k : Call) (c : Command) (came : List ℕ) → CameSince p limit calls c came → OrNothing (calls ++ k ∷ []) c came
  longer_then calls k c came since = inr (came_longer p limit calls k c came since)

  more_then : (calls : List Call) (k : Call) (fis : List ℕ) → HearsData k fis → (c : Command) (came : List ℕ) → CameSince p limit calls c came
      → OrNothing (calls ++ k ∷ []) c (came ++ drop 4 fis)
  more_then calls k fis it c came since =
      inr (subst (λ (x : Call). CameSince p limit (calls ++ x ∷ []) c (came ++ drop 4 fis)) (sym it.is) (came_more p limit calls fis it.type c came since))

  one : (calls : List Call) (k : Call) → OfPages (Since calls) (books calls).pages → OfPages (Since (calls ++ k ∷ [])) (books (calls ++ k ∷ [])).pages
  one calls k before place =
      settled (calls ++ k ∷ []) place (page_in p limit (calls ++ k ∷ []) place) refl
      (next_pages (Since calls) (OrNothing (calls ++ k ∷ [])) (λ c. inl refl) (longer_then calls k) p limit calls k (more_then calls k) before place)

  from : (later calls : List Call) → OfPages (Since calls) (books calls).pages → OfPages (Since (calls ++ later)) (books (calls ++ later)).pages
  from [] calls before = subst (λ (l : List Call). OfPages (Since l) (books l).pages) (sym (append-nil calls)) before
  from (k ∷ later) calls before =
      subst (λ (l : List Call). OfPages (Since l) (books l).pages) (append_assoc calls (k ∷ []) later) (from later (calls ++ k ∷ []) (one calls k before))

  nothing : OfPages (Since []) (books []).pages
  unfolding books_after seen_of all_deeds all_moves all_steps
  nothing = no_pages (Since [])

  pub came_since : (calls : List Call) (place : ℕ) (page : Page) → page_in p limit calls place ≡ Some page → CameSince p limit calls page.command page.ledger.came
  came_since calls place page is = subst (OfPage (Since calls)) is (from calls [] nothing place)
