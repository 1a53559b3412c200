-- A flush reaches what was written before: as a write ended each of its sectors was stored, and the flush was asked for behind that.
use Rattle.std.proofs.{Common.{◌≡◌, ℕ, Bool, true, false, List, [], ◌∷◌, ◌++◌, append_assoc, Some, refl, sym, ap, subst, ◌∙◌}, lemmas.Bool.{eqb-true}}
use Rattle.std.proofs.lemmas.List.{append-nil}
use Rattle.std.specs.Prelude.{◌==◌, if◌then◌else◌}
use Rattle.fis_view.specs.Frames.{Stamped}
use Rattle.slots.specs.Slots.{Issue}
use Rattle.ahci_controller.specs.States.{ControllerState}
use Rattle.controller_laws.specs.Events.{Event, Runs}
use Rattle.block_disk.specs.Laws.{Page}
use Rattle.block_engine.specs.declared.request.{Answer.Answer, Request.Request, What.What}
use Rattle.block_engine.specs.declared.request.Answer.TheVariants as caller
use Rattle.block_engine.specs.declared.request.What.TheVariants as what
use Rattle.ata_reply.specs.declared.reply.Reply.TheVariants as replies
use Rattle.disk_pages.specs.declared.profile.Profile.{Profile}
use Rattle.sata_disk.specs.{Sending.IsOut, State.{DiskState, new_disk}, declared.out.Out.Out}
use Rattle.sata_disk.specs.declared.out.Out.TheVariants as out
use Rattle.sata_disk_books.specs.Books.{page_in}
use Rattle.sata_disk_laws.specs.{Calls.{Answers, AreCalls, Asks, Call, Hears, Sends, after_call, after_calls}, Laws.reached}
use Rattle.sata_disk_laws.proofs.Door.{calls_after}
use Rattle.sata_disk_media.specs.Cells.{Cell, Kept, Storing, Unknown, answered_cell, asked_cell, covers, in_ranges, kept_in, sector_of}
use Rattle.sata_disk_media.specs.{Laws.{AreSparing, Spares, WritesAreKept, touches}, Media.{cell_after, cell_of, kept, store_bytes}}
use Rattle.ahci_machine.specs.{States.MachineState, declared.bay.Unit.TheVariants.Disk}
use Rattle.ahci_machine.specs.declared.act.Act.TheVariants as act
use Rattle.machine_laws.specs.{ControllerLaws.{RunsRuled, calls_in}, Deeds.{Deed, Moved}, Disks.DisksGoOn}
use Rattle.machine_theorem.specs.{FirstDeeds.{first_deeds, first_run, machine_at}, Flushes.{IsFlushDone, OfSingles}, FlushesFollow.AreLeft}
use Rattle.machine_theorem.specs.FlushesFollow.{FlushesWrites, HasEnded, IsReachedStill, IsStoredAndFlushed, WasCompleted, WasWritten}
use Rattle.machine_theorem.specs.{FlushesFollow.WasCompleted.{Queued, Single}, Flushing.{IsFlushed, is_flushing}, Identity.calls_of}
use Rattle.machine_theorem.specs.{Settled.IsUnsettled, Singles.StartsWith}
use Rattle.machine_theorem.proofs.{FlushesOwn.{left_until, line_left, still_one}, TagCounts.{first_calls, one_call_more}, Transferring.rest_calls}

-- ---- what is known of a sector comes from a store that was answered

module _ (p : Profile) (limit s : ℕ) where
  -- a store of these bytes is out under this number, and nothing else asked for a store or a discard of the sector since
  record IsAsked (number : ℕ) (bytes : List ℕ) (calls : List Call) : Type 0 where
    before : List Call
    store : Request
    later : List Call
    is : calls ≡ before ++ Asks store ∷ later
    number' : store.number ≡ number
    lba : ℕ
    count : ℕ
    stores : store.what ≡ what.Store lba count
    covered : covers lba count s ≡ true
    holds : sector_of lba s (store_bytes (reached p limit before) store.place) ≡ bytes
    spared : AreSparing (reached p limit (before ++ Asks store ∷ [])) s later

  -- it is done
  pub record IsStored (bytes : List ℕ) (calls : List Call) : Type 0 where
    pub before : List Call
    pub store : Request
    pub storing : List Call
    pub after : List Call
    pub is : calls ≡ before ++ Asks store ∷ storing ++ Answers store.number caller.Done ∷ after
    pub lba : ℕ
    pub count : ℕ
    pub stores : store.what ≡ what.Store lba count
    pub covered : covers lba count s ≡ true
    pub holds : sector_of lba s (store_bytes (reached p limit before) store.place) ≡ bytes
    pub spared : AreSparing (reached p limit (before ++ Asks store ∷ [])) s (storing ++ Answers store.number caller.Done ∷ after)

  abbrev IsCell : Cell → List Call → Type 0
  IsCell Unknown calls = Unit {0}
  IsCell (Storing number bytes) calls = IsAsked number bytes calls
  IsCell (Kept bytes) calls = IsStored bytes calls

  spare_more : (xs : List Call) (x : Call) (d : DiskState) → AreSparing d s xs → Spares (after_calls d xs) s x → AreSparing d s (xs ++ x ∷ [])
  unfolding after_calls
  spare_more [] x d are spares = (spares, tt)
  spare_more (y ∷ xs) x d are spares = (are.0, spare_more xs x (after_call d y) are.1 spares)

  -- the disk behind the store and what came then
  disk_then : (before later calls : List Call) (x : Call) → calls ≡ before ++ x ∷ later → reached p limit calls ≡ after_calls (reached p limit (before ++ x ∷ [])) later
  disk_then before later calls x is = ap (reached p limit) (is ∙ sym (append_assoc before (x ∷ []) later)) ∙ calls_after (before ++ x ∷ []) later (new_disk p limit)

  cell_more : (cell : Cell) (calls : List Call) (x : Call) → Spares (reached p limit calls) s x → IsCell cell calls → IsCell cell (calls ++ x ∷ [])
  cell_more Unknown calls x spares is = tt
  cell_more (Storing number bytes) calls x spares a = record {
    before = a.before;
    store = a.store;
    later = a.later ++ x ∷ [];
    is = ap (λ (l : List Call). l ++ x ∷ []) a.is ∙ append_assoc a.before (Asks a.store ∷ a.later) (x ∷ []);
    number' = a.number';
    lba = a.lba;
    count = a.count;
    stores = a.stores;
    covered = a.covered;
    holds = a.holds;
    spared = spare_more a.later x (reached p limit (a.before ++ Asks a.store ∷ [])) a.spared
        (subst (λ (d : DiskState). Spares d s x) (disk_then a.before a.later calls (Asks a.store) a.is) spares);
  }
  cell_more (Kept bytes) calls x spares a =
      let rest : List Call = Answers a.store.number caller.Done ∷ a.after in
      let first : DiskState = reached p limit (a.before ++ Asks a.store ∷ []) in
      record {
        before = a.before;
        store = a.store;
        storing = a.storing;
        after = a.after ++ x ∷ [];
        is = ap (λ (l : List Call). l ++ x ∷ []) a.is ∙ append_assoc (a.before ++ Asks a.store ∷ a.storing) rest (x ∷ []);
        lba = a.lba;
        count = a.count;
        stores = a.stores;
        covered = a.covered;
        holds = a.holds;
        spared = subst (AreSparing first s) (append_assoc a.storing rest (x ∷ [])) (spare_more (a.storing ++ rest) x first a.spared
            (subst (λ (d : DiskState). Spares d s x) (disk_then a.before (a.storing ++ rest) calls (Asks a.store) (a.is ∙ append_assoc a.before (Asks a.store ∷ a.storing) rest)) spares));
      }

  if_cell : (b : Bool) (x y : Cell) (calls : List Call) → (b ≡ true → IsCell x calls) → (b ≡ false → IsCell y calls) → IsCell (if b then x else y) calls
  if_cell true x y calls first other = first refl
  if_cell false x y calls first other = other refl

  spares_by : (r : Request) (d : DiskState) (w : What) (b : Bool) → r.what ≡ w → touches s w d.engine.ranges ≡ b → b ≡ false → Spares d s (Asks r)
  spares_by r d w b is touched none = ap (λ (x : What). touches s x d.engine.ranges) is ∙ touched ∙ none

  asked_so : (r : Request) (w : What) (was : Cell) (calls : List Call) → r.what ≡ w → IsCell was calls
      → IsCell (asked_cell s was w r.number (store_bytes (reached p limit calls) r.place) (reached p limit calls).engine.ranges) (calls ++ Asks r ∷ [])
  asked_so r (what.Store lba count) was calls is cell =
      if_cell (covers lba count s) _ was (calls ++ Asks r ∷ []) (λ covered. record {
        before = calls;
        store = r;
        later = [];
        is = refl;
        number' = refl;
        lba = lba;
        count = count;
        stores = is;
        covered = covered;
        holds = refl;
        spared = tt;
      }) (λ none. cell_more was calls (Asks r) (spares_by r (reached p limit calls) (what.Store lba count) (covers lba count s) is refl none) cell)
  asked_so r what.Discard was calls is cell =
      if_cell (in_ranges (reached p limit calls).engine.ranges s) Unknown was (calls ++ Asks r ∷ []) (λ in'. tt)
      (λ none. cell_more was calls (Asks r) (spares_by r (reached p limit calls) what.Discard (in_ranges (reached p limit calls).engine.ranges s) is refl none) cell)
  asked_so r (what.Load lba count) was calls is cell = cell_more was calls (Asks r) (spares_by r (reached p limit calls) (what.Load lba count) false is refl refl) cell
  asked_so r what.Flush was calls is cell = cell_more was calls (Asks r) (spares_by r (reached p limit calls) what.Flush false is refl refl) cell

  answered_so : (was : Cell) (number : ℕ) (a : Answer) (calls : List Call) → IsCell was calls → IsCell (answered_cell was number a) (calls ++ Answers number a ∷ [])
  answered_so (Storing n bytes) number caller.Done calls a =
      if_cell (n == number) (Kept bytes) (Storing n bytes) (calls ++ Answers number caller.Done ∷ []) (λ own. record {
        before = a.before;
        store = a.store;
        storing = a.later;
        after = [];
        is = ap (λ (l : List Call). l ++ Answers number caller.Done ∷ []) a.is
            ∙ ap (λ (k : ℕ). a.before ++ Asks a.store ∷ a.later ++ Answers k caller.Done ∷ []) (sym (a.number' ∙ eqb-true n number own));
        lba = a.lba;
        count = a.count;
        stores = a.stores;
        covered = a.covered;
        holds = a.holds;
        spared = spare_more a.later (Answers a.store.number caller.Done) (reached p limit (a.before ++ Asks a.store ∷ [])) a.spared tt;
      }) (λ other. cell_more (Storing n bytes) calls (Answers number caller.Done) tt a)
  answered_so (Storing n bytes) number (caller.Failed f) calls a =
      if_cell (n == number) Unknown (Storing n bytes) (calls ++ Answers number (caller.Failed f) ∷ []) (λ own. tt)
      (λ other. cell_more (Storing n bytes) calls (Answers number (caller.Failed f)) tt a)
  answered_so (Storing n bytes) number (caller.Loaded loaded) calls a = cell_more (Storing n bytes) calls (Answers number (caller.Loaded loaded)) tt a
  answered_so Unknown number a calls cell = tt
  answered_so (Kept bytes) number a calls cell = cell_more (Kept bytes) calls (Answers number a) tt cell

  call_so : (was : Cell) (x : Call) (calls : List Call) → IsCell was calls → IsCell (cell_after (reached p limit calls) s was x) (calls ++ x ∷ [])
  call_so was (Asks r) calls cell = asked_so r r.what was calls refl cell
  call_so was (Answers number a) calls cell = answered_so was number a calls cell
  call_so was x calls cell = cell_more was calls x tt cell

  cells_so : (later calls : List Call) (d : DiskState) (was : Cell) → d ≡ reached p limit calls → IsCell was calls → IsCell (cell_of d s was later) (calls ++ later)
  unfolding cell_of
  cells_so [] calls d was is cell = subst (IsCell was) (sym (append-nil calls)) cell
  cells_so (x ∷ later) calls d was is cell =
      subst (IsCell (cell_of (after_call d x) s (cell_after d s was x) later)) (append_assoc calls (x ∷ []) later)
      (cells_so later (calls ++ x ∷ []) (after_call d x) (cell_after d s was x) (ap (λ (y : DiskState). after_call y x) is ∙ sym (one_call_more p limit calls x))
      (subst (λ (y : DiskState). IsCell (cell_after y s was x) (calls ++ x ∷ [])) (sym is) (call_so was x calls cell)))

  kept_so : (cell : Cell) (bytes : List ℕ) (calls : List Call) → kept_in cell ≡ Some bytes → IsCell cell calls → IsStored bytes calls
  kept_so (Kept x) bytes calls is cell = subst (λ (l : List ℕ). IsStored l calls) (by is) cell
    where
      by : Some x ≡ Some bytes → x ≡ bytes
      by e = cc
  kept_so other bytes calls is cell = absurd (cc)

  none_yet : new_disk p limit ≡ reached p limit []
  unfolding after_calls
  none_yet = refl

  pub stored : (calls : List Call) (bytes : List ℕ) → kept p limit calls s ≡ Some bytes → IsStored bytes calls
  stored calls bytes is = kept_so (cell_of (new_disk p limit) s Unknown calls) bytes calls is (cells_so calls [] (new_disk p limit) Unknown none_yet tt)

-- ---- the end of the write

cut_of : (base first more rest of calls : List Call) (x : Call) → calls ≡ base ++ of ++ rest → of ≡ first ++ x ∷ more → calls ≡ (base ++ first) ++ x ∷ (more ++ rest)
cut_of base first more rest of calls x are is =
    are ∙ ap (λ (l : List Call). base ++ l ++ rest) is ∙ ap (λ (l : List Call). l ++ rest) (sym (append_assoc base first (x ∷ more))) ∙ append_assoc (base ++ first) (x ∷ more) rest

module _ (n : ℕ) (old : MachineState) (before : List Deed) (at : MachineState) (first : RunsRuled old before at) (deeds : List Deed) (now : MachineState) (run : RunsRuled at deeds now)
    (p : Profile) (limit : ℕ) (base calls rest : List Call) (written : Page) (writes : written.command.write ≡ true) (are : calls ≡ base ++ calls_of n at deeds now run ++ rest) where
  ended_so : WasCompleted n old before at first deeds now run p limit base written → HasEnded p limit calls written
  ended_so (Queued many tag f low done is) =
      let until : List Call = calls_of n at done.end.before done.end.moment done.end.first in
      let more : List Call = calls_of n done.end.new done.end.later now done.end.rest in
      record {
        ended = base ++ until;
        end = out.Ends done.end.tags;
        later = more ++ rest;
        is = cut_of base until more rest (calls_of n at deeds now run) calls (Sends (out.Ends done.end.tags)) are done.end.own;
        place = tag;
        ends = (low, done.end.named);
        page = done.books ∙ ap Some is;
        writes = writes;
      }
  ended_so (Single dev slot issue f done said is) =
      let until : List Call = calls_of n at done.sooner done.mid done.led in
      let more : List Call = calls_of n done.after done.later now done.rest in
      record {
        ended = base ++ until;
        end = out.Of 32 replies.Done;
        later = more ++ rest;
        is = cut_of base until more rest (calls_of n at deeds now run) calls (Sends (out.Of 32 replies.Done)) are
            (done.own ∙ ap (λ (o : Out). until ++ Sends o ∷ more) said);
        place = 32;
        ends = refl;
        page = (done.slots said).books ∙ ap Some is;
        writes = writes;
      }

ended_more : (p : Profile) (limit : ℕ) (calls more : List Call) (written : Page) → HasEnded p limit calls written → HasEnded p limit (calls ++ more) written
ended_more p limit calls more written e = record {
  ended = e.ended;
  end = e.end;
  later = e.later ++ more;
  is = ap (λ (l : List Call). l ++ more) e.is ∙ append_assoc e.ended (Sends e.end ∷ e.later) more;
  place = e.place;
  ends = e.ends;
  page = e.page;
  writes = e.writes;
}

-- as it ended, its sectors were stored
write_stored : WritesAreKept → (p : Profile) (limit : ℕ) (calls : List Call) (written : Page) → AreCalls (new_disk p limit) calls → (e : HasEnded p limit calls written)
    → (s : ℕ) → covers written.command.lba written.command.count s ≡ true → IsStored p limit s (sector_of written.command.lba s written.ledger.came) e.ended
write_stored keeps p limit calls written are e s covered =
    let split : AreCalls (new_disk p limit) (e.ended ++ Sends e.end ∷ e.later) = subst (AreCalls (new_disk p limit)) e.is are in
    let first : AreCalls (new_disk p limit) e.ended = first_calls e.ended (Sends e.end ∷ e.later) (new_disk p limit) split in
    let says : IsOut (reached p limit e.ended) (Some e.end) = (rest_calls e.ended (Sends e.end ∷ e.later) (new_disk p limit) split).0 in
    stored p limit s e.ended (sector_of written.command.lba s written.ledger.came) (keeps p limit e.ended e.end e.place s written first says e.ends e.page e.writes covered)

-- ---- and then flushed

-- w behind v behind u, which is behind the rest: each stands behind all that is before it
regroup : (a n u v w : List Call) → (a ++ n) ++ (u ++ v ++ w) ≡ a ++ (n ++ u) ++ v ++ w
regroup a n u v w =
    sym (append_assoc (a ++ n) (u ++ v) w) ∙ ap (λ (l : List Call). l ++ w) (sym (append_assoc (a ++ n) u v)) ∙ ap (λ (l : List Call). l ++ v ++ w) (append_assoc a n u)

joined : (p : Profile) (limit : ℕ) (calls first since : List Call) (h : Call) (written : Page) (s : ℕ) → calls ≡ first ++ h ∷ since → (e : HasEnded p limit first written)
    → IsStored p limit s (sector_of written.command.lba s written.ledger.came) e.ended → IsFlushed since → IsStoredAndFlushed p limit calls written s
joined p limit calls first since h written s split e st fl =
    let a : List Call = st.before ++ Asks st.store ∷ st.storing ++ Answers st.store.number caller.Done ∷ st.after in
    let n : List Call = Sends e.end ∷ e.later in
    let v : List Call = Asks fl.request ∷ fl.between in
    let w : List Call = Answers fl.request.number caller.Done ∷ fl.after in
    record {
      before = st.before;
      store = st.store;
      storing = st.storing;
      stored = st.after;
      end = e.end;
      between = e.later ++ h ∷ fl.before;
      flush = fl.request;
      flushing = fl.between;
      after = fl.after;
      is = split ∙ ap (λ (l : List Call). l ++ h ∷ since) (e.is ∙ ap (λ (l : List Call). l ++ n) st.is) ∙ ap (λ (l : List Call). (a ++ n) ++ h ∷ l) fl.is
          ∙ regroup a n (h ∷ fl.before) v w;
      lba = st.lba;
      count = st.count;
      stores = st.stores;
      covered = st.covered;
      holds = st.holds;
      place = e.place;
      ends = e.ends;
      page = ap (λ (l : List Call). page_in p limit l e.place) (sym st.is) ∙ e.page;
      spared = st.spared;
      flushes = fl.what;
      own = fl.own;
    }

-- ---- the law

module _ (keeps : WritesAreKept) (n dev slot : ℕ) (old : MachineState) (before : List Deed) (at : MachineState) (first : RunsRuled old before at) (deeds : List Deed) (now : MachineState)
    (run : RunsRuled at deeds now) (p : Profile) (limit : ℕ) (base : List Call) (issue : Issue) (f : Stamped)
    (flush : IsFlushDone n dev slot old before at first deeds now run p limit base issue f) (are : AreCalls (new_disk p limit) (base ++ calls_of n at flush.done.sooner flush.done.mid flush.done.led))
    (flushing : is_flushing (flush.done.answers flush.answering).command.bytes ≡ true) where
  abbrev command : IsUnsettled base (calls_of n at flush.done.sooner flush.done.mid flush.done.led)
  command = (flush.done.answers flush.answering).command

  behind_end : (written : Page) → HasEnded p limit (base ++ command.front) written → (s : ℕ) → covers written.command.lba written.command.count s ≡ true
      → IsStoredAndFlushed p limit (base ++ calls_of n at flush.done.sooner flush.done.mid flush.done.led) written s
  behind_end written e s covered =
      let calls : List Call = base ++ calls_of n at flush.done.sooner flush.done.mid flush.done.led in
      let x : Call = Hears command.bytes in
      let split : calls ≡ (base ++ command.front) ++ x ∷ command.later =
      ap (λ (l : List Call). base ++ l) command.split ∙ sym (append_assoc base command.front (x ∷ command.later)) in
      let front : AreCalls (new_disk p limit) (base ++ command.front) =
      first_calls (base ++ command.front) (x ∷ command.later) (new_disk p limit) (subst (AreCalls (new_disk p limit)) split are) in
      joined p limit calls (base ++ command.front) command.later x written s split e
      (write_stored keeps p limit (base ++ command.front) written front e s covered) (flush.flushed flushing).flush

  behind_seen : (written : Page) → WasWritten n old at p limit base written → (s : ℕ) → covers written.command.lba written.command.count s ≡ true
      → IsStoredAndFlushed p limit (base ++ calls_of n at flush.done.sooner flush.done.mid flush.done.led) written s
  behind_seen written was =
      behind_end written (ended_more p limit base command.front written
      (ended_so n old was.before was.at was.first was.deeds was.seen was.run p limit was.base base (calls_of n was.seen was.since at was.rest) written was.writes was.are was.completed))

  behind_here : (k : ℕ) (since : List Event) → (flush.done.answers flush.answering).slots.ordered.before
      ≡ calls_in at (first_deeds k deeds) (machine_at k at deeds now run) (first_run k at deeds now run) ++ since
      → (written : Page) → WasWritten n old (machine_at k at deeds now run) p limit (base ++ calls_of n at (first_deeds k deeds) (machine_at k at deeds now run) (first_run k at deeds now run)) written
      → (s : ℕ) → covers written.command.lba written.command.count s ≡ true
      → IsStoredAndFlushed p limit (base ++ calls_of n at flush.done.sooner flush.done.mid flush.done.led) written s
  behind_here k since sent written was =
      let first : List Call = calls_of n at (first_deeds k deeds) (machine_at k at deeds now run) (first_run k at deeds now run) in
      let w : StartsWith first command.front = flush.done.went flush.answering k since sent in
      behind_end written (subst (λ (l : List Call). HasEnded p limit l written) (append_assoc base first w.more ∙ ap (λ (l : List Call). base ++ l) (sym w.is))
      (ended_more p limit (base ++ first) w.more written
      (ended_so n old was.before was.at was.first was.deeds was.seen was.run p limit was.base (base ++ first) (calls_of n was.seen was.since (machine_at k at deeds now run) was.rest) written was.writes was.are
      was.completed)))

pub flushes_follow : DisksGoOn → WritesAreKept → (Waits : (dev : ℕ) → (old : ControllerState) → (events : List Event) → (now : ControllerState) → Runs old events now → Type 0)
    → OfSingles Waits IsFlushDone → OfSingles Waits FlushesWrites
flushes_follow disks keeps Waits flushes ports legacy old opening before at first many n c dev slot below dev_low low begins p limit base are same idle deeds now run has_link lasts line on runs of waiting
    took new does rules own shows hides none issue there mine plain other =
    let f : Stamped = does.does.frame in
    let flush : IsFlushDone n dev slot old before at first deeds now run p limit base issue f =
    flushes ports legacy old opening before at first many n c dev slot below dev_low low begins p limit base are same idle deeds now run has_link lasts line on runs of waiting
    took new does rules own shows hides none issue there mine plain other in
    let left : AreLeft n flush.done.sooner = left_until n flush.done.sooner (Moved (act.Speaks n flush.done.said)) flush.done.later deeds flush.done.is (line_left many n c dev deeds at now run line) in
    let it : IsReachedStill n flush.done.mid p limit (base ++ calls_of n at flush.done.sooner flush.done.mid flush.done.led) =
    still_one disks n at p limit base (record { are = are; there = begins.there ∙ ap Disk same }) flush.done.sooner flush.done.mid flush.done.led left in
    record {
      flush = flush;
      ended = behind_end keeps n dev slot old before at first deeds now run p limit base issue f flush it.are;
      seen = behind_seen keeps n dev slot old before at first deeds now run p limit base issue f flush it.are;
      here = behind_here keeps n dev slot old before at first deeds now run p limit base issue f flush it.are;
    }
