-- What a disk asks its caller to store was supplied, and so is what a write stored that ends well.
use Rattle.std.proofs.Common.{◌≡◌, ℕ, ◌*◌, length, zero, suc, Bool, true, List, [], ◌∷◌, ◌++◌, get_or, set, Option, Some, None, refl, sym, ap, ◌∙◌}
use Rattle.std.proofs.{Common.subst, lemmas.Bool.{eq-eqb}}
use Rattle.std.specs.{Prelude.{◌==◌, MatchOption, if◌then◌else◌}, Option.option_map}
use Rattle.block_command.specs.{declared.command.{Command.Command, Stage.{Stage, TheVariants.Store}, Turn.Turn}, Laws.{AskedStore, Goes, after}}
use Rattle.block_command.specs.{Laws.shown, Moments.{Moment, gone, part_count, part_lba, part_len, turn_of}}
use Rattle.block_command.specs.declared.command.Turn.TheVariants as turn
use Rattle.block_disk.specs.{Laws.{At, Page, at_page, shown_at}, Requests.{Asked, Books, Seen, entered_by, no_books}}
use Rattle.block_engine.specs.{Engine.{EngineState, IsAskedOf, IsRequested, aside_what, line, place_asked, what_at, what_of}, Laws.{Step, all_moves}}
use Rattle.block_engine.specs.declared.{aside.AsideKind.AsideKind, request.{Request.Request, What.What}}
use Rattle.block_engine.specs.Laws as engine
use Rattle.block_engine.specs.declared.aside.AsideKind.TheVariants as kinds
use Rattle.block_engine.specs.declared.request.What.TheVariants as what
use Rattle.block_queue.specs.{Deeds.seen_of, Line.command_at}
use Rattle.block_scheduler.specs.Laws.{all_deeds}
use Rattle.disk_pages.specs.declared.profile.Profile.{Profile}
use Rattle.sata_disk.specs.{Sending.IsOut, State.{DiskState, commands, new_disk}}
use Rattle.sata_disk.specs.declared.out.Out.TheVariants as out
use Rattle.sata_disk_books.specs.{Books.{books_after, page_in}, Ended.{EndsAreOfPages, HasEarned}}
use Rattle.sata_disk_books.proofs.Door.{shown_both, shown_from}
use Rattle.sata_disk_laws.specs.{Calls.{AreCalls, Asks, Call, after_calls, all_steps, ask_steps, asked_by}, Laws.{reached, seen_in}}
use Rattle.sata_disk_laws.specs.Stores.{AreStoresHeard, IsStoreHeard, PageHas, StoresAreHeard}
use Rattle.sata_disk_laws.proofs.Door.{calls_both, engine_asked}
use Rattle.ahci_machine.specs.{Answers.disk_in, Bays.with_unit, States.{IsOpeningMachine, MachineState, bay_at}, declared.{act.Act.Act, bay.Bay.Bay}}
use Rattle.ahci_machine.specs.declared.{bay.Unit.TheVariants.Disk, request.MediumId.MediumId}
use Rattle.ahci_machine.specs.declared.act.Act.TheVariants as act
use Rattle.machine_laws.specs.{ControllerLaws.RunsRuled, Deeds.{Deed, Moved}, Heard.{DisksHaveLived, HasLived, life_in, no_life}}
use Rattle.machine_theorem.specs.{Ends.{EndOrigin, EndsAreOfDevices, HasEarnedAt, IsEndBy, IsEnded}, Moments.{Earns, Moment as RunMoment}}
use Rattle.machine_theorem.specs.Writes.{CompletionsAreSupplied, HasSupplied, IsSuppliedEnd, StoresAreOfGuests, StoresNext, SuppliedToNewDisk}
use Rattle.machine_theorem.specs.Writes.{WritesAreSupplied}
use Rattle.machine_theorem.proofs.{AtMoments.ended_at, Came.one_call, Supplied.supplied, Whole.{AtStage, whole_at}}
use Rattle.machine_theorem.proofs.Supplied as given

-- ---- a store that is next

-- what is next at a place is the store of these bytes
record IsToStore (x : Option Moment) (lba count : ℕ) : Type 0 where
  moment : Moment
  is : x ≡ Some moment
  turn : turn_of moment.stage ≡ turn.Store
  lba_is : part_lba moment ≡ lba
  count_is : part_count moment.command moment.done ≡ count

abbrev lba_of : What → ℕ
lba_of (what.Store lba count) = lba
lba_of other = 0

abbrev count_of : What → ℕ
count_of (what.Store lba count) = count
count_of other = 0

moment_stores : (m : Moment) (t : Turn) (lba count : ℕ) → turn_of m.stage ≡ t → what_of m t ≡ what.Store lba count → IsToStore (Some m) lba count
moment_stores m turn.Store lba count is h = record { moment = m; is = refl; turn = is; lba_is = ap lba_of h; count_is = ap count_of h }
moment_stores m other lba count is h = absurd (cc)

to_store : (x : Option Moment) (lba count : ℕ) → what_at x ≡ what.Store lba count → IsToStore x lba count
to_store None lba count h = absurd (cc)
to_store (Some m) lba count h = moment_stores m (turn_of m.stage) lba count refl h

no_aside : (k : AsideKind) (lba count : ℕ) → aside_what k ≡ what.Store lba count → ⊥
no_aside kinds.Flush lba count h = absurd (cc)
no_aside kinds.Discard lba count h = absurd (cc)

record IsPlaced (e : EngineState) (x : Option ℕ) (lba count : ℕ) : Type 0 where
  place : ℕ
  is : x ≡ Some place
  next : IsToStore (command_at (line e) place) lba count

placed_by : (old new : EngineState) (r : Request) (x : Option ℕ) (lba count : ℕ) → IsAskedOf old new r x → r.what ≡ what.Store lba count → IsPlaced old x lba count
placed_by old new r None lba count h is = absurd (no_aside old.kind lba count (sym h.3 ∙ is))
placed_by old new r (Some place) lba count h is = record { place = place; is = refl; next = to_store (command_at (line old) place) lba count (sym h.2 ∙ is) }

-- ---- what the disk holds then

set_there : {A : Type 0} (l : List (Option A)) (k : ℕ) (y : Option A) (x : A) → get_or l k None ≡ Some x → get_or (set l k y) k None ≡ y
set_there [] k y x is = absurd (cc)
set_there (a ∷ l) zero y x is = refl
set_there (a ∷ l) (suc k) y x is = set_there l k y x is

gone_bytes : (m : Moment) (s : Stage) → turn_of s ≡ turn.Store → (gone m s).bytes ≡ m.bytes
gone_bytes m Store is = refl
gone_bytes m other is = absurd (cc)

store_len : (c : Command) (done : ℕ) (bytes : List ℕ) (s : Stage) → turn_of s ≡ turn.Store → AtStage c done bytes s → length bytes ≡ part_len c done
store_len c done bytes Store is h = h
store_len c done bytes other is h = absurd (cc)

held_at : (e : EngineState) (place : ℕ) (m : Moment) → command_at (line e) place ≡ Some m → command_at (line (place_asked e place)) place ≡ Some (after m Goes)
held_at e place m is =
    set_there (line e).queue.table.places place (option_map (λ x. after x Goes) (command_at (line e) place)) m is
    ∙ ap (λ (x : Option Moment). option_map (λ y. after y Goes) x) is

-- ---- the law of the disk

stores_then : (xs ys : List Seen) (b : Books) → AreStoresHeard b (xs ++ ys) → AreStoresHeard (books_after b xs) ys
unfolding books_after
stores_then [] ys b are = are
stores_then (x ∷ xs) ys b are = stores_then xs ys (entered_by b x) are.1

ask_shown : (d : DiskState) (place : ℕ)
    → seen_of (commands d) (all_deeds d.engine.schedule (all_moves d.engine (engine.Asks place ∷ []))) ≡ Asked place (commands d).queue.next (shown_at place (command_at (commands d) place) Goes) ∷ []
unfolding seen_of all_deeds all_moves
ask_shown d place = refl

page_of : (b : Books) (place number lba : ℕ) (m : Moment) (x : Option Moment) → x ≡ Some m → turn_of m.stage ≡ turn.Store → part_lba m ≡ lba
    → IsStoreHeard b (Asked place number (shown_at place x Goes)) → PageHas (at_page b.pages place) (AskedStore lba m.bytes)
page_of b place number lba m x is t same h =
    let shows : IsStoreHeard b (Asked place number (shown_at place (Some m) Goes)) = subst (λ (y : Option Moment). IsStoreHeard b (Asked place number (shown_at place y Goes))) is h in
    subst (λ (n : ℕ). PageHas (at_page b.pages place) (AskedStore n m.bytes)) same (by (turn_of m.stage) t shows)
  where
    by : (u : Turn) → u ≡ turn.Store → IsStoreHeard b (Asked place number (At place (shown m u))) → PageHas (at_page b.pages place) (AskedStore (part_lba m) m.bytes)
    by u e s = (subst (λ (v : Turn). IsStoreHeard b (Asked place number (At place (shown m v)))) e s).1

module _ (law : StoresAreHeard) (p : Profile) (limit : ℕ) (calls : List Call) (are : AreCalls (new_disk p limit) calls) (r : Request) (e : EngineState)
    (asked : IsRequested (reached p limit calls).engine e (Some r)) (place : ℕ) (is : r.place ≡ Some place) where
  abbrev disk : DiskState
  disk = reached p limit calls

  asks_steps : all_steps disk (Asks r ∷ []) ≡ engine.Asks place ∷ []
  asks_steps = one_call disk (Asks r) ∙ ap ask_steps is

  is_call : IsRequested disk.engine (asked_by disk.engine r.place) (Some r)
  is_call = subst (λ (x : EngineState). IsRequested disk.engine x (Some r)) (engine_asked disk.engine e r r.place asked.1) asked

  store_heard : IsStoreHeard (books_after no_books (seen_in p limit calls)) (Asked place (commands disk).queue.next (shown_at place (command_at (commands disk) place) Goes))
  store_heard =
      let b : Books = books_after no_books (seen_in p limit calls) in
      let all : AreStoresHeard no_books (shown_from (new_disk p limit) (calls ++ Asks r ∷ [])) =
      law p limit (calls ++ Asks r ∷ []) (calls_both calls (Asks r ∷ []) (new_disk p limit) are (is_call, tt)) in
      let parted = subst (λ (x : List Seen). AreStoresHeard no_books x) (shown_both (new_disk p limit) calls (Asks r ∷ [])) all in
      let last : AreStoresHeard b (shown_from disk (Asks r ∷ [])) = stores_then (seen_in p limit calls) (shown_from disk (Asks r ∷ [])) no_books parted in
      let steps = subst (λ (ss : List Step). AreStoresHeard b (seen_of (commands disk) (all_deeds disk.engine.schedule (all_moves disk.engine ss)))) asks_steps last in
      (subst (λ (x : List Seen). AreStoresHeard b x) (ask_shown disk place) steps).0

  pub store_page : (lba : ℕ) (m : Moment) → command_at (commands disk) place ≡ Some m → turn_of m.stage ≡ turn.Store → part_lba m ≡ lba
      → PageHas (page_in p limit calls place) (AskedStore lba m.bytes)
  store_page lba m there t same =
      page_of (books_after no_books (seen_in p limit calls)) place (commands disk).queue.next lba m (command_at (commands disk) place) there t same store_heard

-- ---- the laws, as the crates below have them

pub record Laws : Type 0 where
  pub given : given.Laws
  pub lived : DisksHaveLived
  pub stores : StoresAreHeard
  pub ends : EndsAreOfPages

module _ (laws : Laws) (ports : ℕ) (legacy : Bool) (old : MachineState) (opening : IsOpeningMachine ports legacy old) (deeds : List Deed) (now : MachineState)
    (run : RunsRuled old deeds now) (n : ℕ) where
  abbrev calls : List Call
  calls = (life_in n no_life old deeds now run).calls

  store_supplied : (p : Profile) (limit lba count place : ℕ) (bytes : List ℕ) (d : DiskState) (x : Option Page) → page_in p limit calls place ≡ x → PageHas x (AskedStore lba bytes)
      → length bytes ≡ count * 512 → HasSupplied old deeds now run n place (StoresNext lba count bytes d) p limit
  store_supplied p limit lba count place bytes d None is has whole = absurd has
  store_supplied p limit lba count place bytes d (Some page) is has whole =
      supplied laws.given ports legacy old opening deeds now run n p limit place (StoresNext lba count bytes d) page is (record { next = has; whole = whole })

  stores_of : (d : DiskState) → (bay_at now n).unit ≡ Disk d → (r : Request) (e : EngineState) → IsRequested d.engine e (Some r) → (place lba count : ℕ) → r.place ≡ Some place
      → (next : IsToStore (command_at (commands d) place) lba count) → SuppliedToNewDisk old deeds now run n place (StoresNext lba count next.moment.bytes)
  stores_of d there r e asked place lba count is next =
      let lived : HasLived (life_in n no_life old deeds now run) d = laws.lived ports legacy old opening deeds now run n d there in
      let m : Moment = next.moment in
      record {
        disk = d;
        there = there;
        lived = lived;
        new = λ p limit new.
            let same : d ≡ reached p limit calls = lived.is ∙ ap (λ (x : DiskState). after_calls x calls) new in
            let are : AreCalls (new_disk p limit) calls = subst (λ (x : DiskState). AreCalls x calls) new lived.are in
            let at : command_at (commands (reached p limit calls)) place ≡ Some m = subst (λ (x : DiskState). command_at (commands x) place ≡ Some m) same next.is in
            store_supplied p limit lba count place m.bytes d (page_in p limit calls place) refl
            (store_page laws.stores p limit calls are r e (subst (λ (x : DiskState). IsRequested x.engine e (Some r)) same asked) place is lba m at next.turn next.lba_is)
            (store_len m.command m.done m.bytes m.stage next.turn (whole_at p limit calls place m at).store ∙ ap (λ (k : ℕ). k * 512) next.count_is);
      }

  end_supplied : (p : Profile) (limit tag : ℕ) (d : DiskState) (x : Option Page) → page_in p limit calls tag ≡ x → HasEarned x → HasSupplied old deeds now run n tag (Earns d) p limit
  end_supplied p limit tag d None is earned = absurd earned
  end_supplied p limit tag d (Some page) is earned = supplied laws.given ports legacy old opening deeds now run n p limit tag (Earns d) page is earned

  ends_of : (tag : ℕ) (d : DiskState) → (bay_at now n).unit ≡ Disk d
      → ((p : Profile) (limit : ℕ) (before : List Call) → AreCalls (new_disk p limit) before → d ≡ reached p limit before → HasEarned (page_in p limit before tag))
      → SuppliedToNewDisk old deeds now run n tag Earns
  ends_of tag d there earned =
      let lived : HasLived (life_in n no_life old deeds now run) d = laws.lived ports legacy old opening deeds now run n d there in
      record {
        disk = d;
        there = there;
        lived = lived;
        new = λ p limit new.
            let same : d ≡ reached p limit calls = lived.is ∙ ap (λ (x : DiskState). after_calls x calls) new in
            let are : AreCalls (new_disk p limit) calls = subst (λ (x : DiskState). AreCalls x calls) new lived.are in
            end_supplied p limit tag d (page_in p limit calls tag) refl (earned p limit calls are same);
      }

-- ---- stores

-- the disk that asked holds them, as the machine has it
holds_in : (b : Bay) (there : Bool) (d : DiskState) (place : ℕ) (m : Moment) (bytes : List ℕ) → there ≡ true → command_at (commands d) place ≡ Some m → bytes ≡ m.bytes
    → MatchOption (if there then disk_in (with_unit b (Disk d)).unit else None) ⊥ (λ x. MatchOption (command_at (commands x) place) ⊥ (λ c. bytes ≡ c.bytes))
holds_in b there d place m bytes is at same =
    subst (λ (t : Bool). MatchOption (if t then disk_in (with_unit b (Disk d)).unit else None) ⊥ (λ x. MatchOption (command_at (commands x) place) ⊥ (λ c. bytes ≡ c.bytes))) (sym is)
    (subst (λ (x : Option Moment). MatchOption x ⊥ (λ c. bytes ≡ c.bytes)) (sym at) same)

pub stores_are : Laws → StoresAreOfGuests
stores_are laws ports legacy old opening deeds now run id asked new does lba count is =
    let h = does.does.does.2 in
    let by : IsPlaced h.disk.engine asked.place lba count = placed_by h.disk.engine h.after.engine asked asked.place lba count h.asks.1 is in
    let m : Moment = by.next.moment in
    let b : Bay = bay_at now id.port in
    let now_there : bay_at new id.port ≡ with_unit b (Disk h.after) = ap (λ (x : MachineState). bay_at x id.port) does.turns ∙ h.rest in
    let engine_is : h.after.engine ≡ place_asked h.disk.engine by.place =
    engine_asked h.disk.engine h.after.engine asked asked.place h.asks.1 ∙ ap (asked_by h.disk.engine) by.is in
    let at : command_at (commands h.after) by.place ≡ Some (after m Goes) =
    ap (λ (x : EngineState). command_at (line x) by.place) engine_is ∙ held_at h.disk.engine by.place m by.next.is in
    let one : (b.disk == id.disk) ≡ true = eq-eqb b.disk id.disk (sym (ap (λ (x : MediumId). x.disk) does.does.does.0)) in
    record {
      place = by.place;
      is = by.is;
      bytes = m.bytes;
      held = subst (λ (x : Bay). MatchOption (if x.disk == id.disk then disk_in x.unit else None) ⊥ (λ d. MatchOption (command_at (commands d) by.place) ⊥ (λ c. m.bytes ≡ c.bytes)))
          (sym now_there) (holds_in b (b.disk == id.disk) h.after by.place (after m Goes) m.bytes one at (sym (gone_bytes m m.stage by.next.turn)));
      supplied = stores_of laws ports legacy old opening deeds now run id.port h.disk h.there asked h.after.engine h.asks by.place lba count by.is by.next;
    }

-- ---- ends

pub writes_are : Laws → WritesAreSupplied
writes_are laws ports legacy old opening deeds now run n tags new does tag low bit =
    let h = does.does.does.1 in
    ends_of laws ports legacy old opening deeds now run n tag h.disk h.there
    (λ p limit before are same. laws.ends p limit before tags are (subst (λ (x : DiskState). IsOut x (Some (out.Ends tags))) same h.next) tag low bit)

module _ (laws : Laws) (ports : ℕ) (legacy : Bool) (old : MachineState) (opening : IsOpeningMachine ports legacy old) (before : List Deed) (at : MachineState)
    (first : RunsRuled old before at) where
  pub of_earned : (n tag : ℕ) → HasEarnedAt at n tag → SuppliedToNewDisk old before at first n tag Earns
  of_earned n tag h = ends_of laws ports legacy old opening before at first n tag h.disk h.there h.earned

  move_end : (a : Act) (tag : ℕ) → EndOrigin at (Moved a) tag → IsSuppliedEnd old before at first (Moved a) tag
  move_end (act.Speaks n o) tag origin = of_earned n tag origin
  move_end a tag origin = tt

  deed_end : (deed : Deed) (tag : ℕ) → EndOrigin at deed tag → IsSuppliedEnd old before at first deed tag
  deed_end (Moved a) tag origin = move_end a tag origin
  deed_end deed tag origin = tt

pub completions : Laws → EndsAreOfDevices → CompletionsAreSupplied
completions laws law ports legacy old opening deeds now run took new does rules slot low shows hides =
    let ended : IsEnded old deeds now run new.fan does.does.frame slot = law ports legacy old opening deeds now run took new does rules slot low shows hides in
    let sent : RunMoment old deeds (IsEndBy does.does.frame slot) = ended_at does.does.frame slot old deeds now run ended.sent in
    record {
      ended = ended;
      sent = sent;
      command = deed_end laws ports legacy old opening sent.before sent.at sent.first sent.deed slot sent.holds.origin;
    }
