-- Between a write and a read that the guest sees completed each store for a queued command is of one that stands in its slot.
use Rattle.std.proofs.Common.{◌≡◌, ℕ, zero, suc, ◌<◌, ◌≤◌, Bool, true, false, List, [], ◌∷◌, ◌++◌, append_assoc, append-nil, Option, Some, None, refl}
use Rattle.std.proofs.{Common.{sym, ap, subst, ◌∙◌, inl, inr, arith}, lemmas.{Bool.{cases_lt, false≢true, ltb-true}, List.append_cancel_left}}
use Rattle.std.specs.Prelude.{◌&&◌, if◌then◌else◌, Result, Ok, Err}
use Rattle.fis_view.specs.Frames.{Stamped}
use Rattle.block_command.specs.declared.command.Command.{Command}
use Rattle.block_queue.specs.Line.{command_at, has_bit}
use Rattle.block_engine.specs.declared.request.{Range.Range, Request.Request, What.What}
use Rattle.block_engine.specs.declared.request.What.TheVariants as what
use Rattle.disk_pages.specs.declared.profile.Profile.{Profile}
use Rattle.sata_disk.specs.State.{DiskState, commands, new_disk}
use Rattle.sata_disk.specs.declared.out.Out.TheVariants as out
use Rattle.sata_disk_laws.specs.{Calls.{AreCalls, Asks, Call, IsCall, Sends, after_call, after_calls}, Laws.reached}
use Rattle.sata_disk_laws.proofs.Door.{calls_after}
use Rattle.sata_disk_media.specs.{Cells.covers, Laws.{AreSparing, GivenIsWritten, Spares, StoresAreOfWrites, UndisturbedIsSpared, touches}}
use Rattle.ahci_machine.specs.{States.{MachineState, bay_at}, declared.act.Act.Act}
use Rattle.ahci_machine.specs.declared.act.Act.TheVariants as act
use Rattle.machine_laws.specs.{ControllerLaws.RunsRuled, Deeds.{Answered, Deed, Moved, Pulled}, Disks.{calls_at, calls_by, heard, unless_refused}}
use Rattle.machine_theorem.specs.Between.{AllOthersSpare, IsFollowedAmong, NoneStands, OthersSpare, ReadsFollowAmong, is_of_tag, is_store}
use Rattle.machine_theorem.specs.{FirstDeeds.{first_deeds, first_run, machine_at}, Identity.{AllKeep, IsAtRest, calls_of, own_of}}
use Rattle.machine_theorem.specs.{ReadsFollow.IsFollowed, Tags.{ended_with, heard_with, once_if}, Unheard.SlotsTellOfWrites, Writes.WritesAreSupplied}
use Rattle.machine_theorem.proofs.AsSupplied as supplied
use Rattle.machine_theorem.proofs.{AtEnd.is_there, FirstDeeds.{Fell, keeps_to, lasts_to, linked_to}, HeardAfter.{fall, to, with_tag}}
use Rattle.machine_theorem.proofs.{HeardBehind.{calls_then, first_or, rest_of}, ReadsFollow.followed, Stretch.{Fall, Stretch, calls, counts, falls}}
use Rattle.machine_theorem.proofs.{Stretch.{has_disk, was_free}, TagCounts.{Counted, all_heard, counted, ended_both, first_calls, heard_both}}
use Rattle.machine_theorem.proofs.{TagCounts.{one_call_more, under_way_held}, TagKept.held_at, TagPages.page_same, TheirSlots.{ends_in, is_done}}
use Rattle.machine_theorem.proofs.FirstDeeds as firsts

-- ---- the moment of a call

-- a deed is one call of the disk, or none
data IsOne (calls : List Call) : Type 0 where
  IsNone : calls ≡ [] → IsOne calls
  IsCall' : (c : Call) → calls ≡ c ∷ [] → IsOne calls

port_one : (n port : ℕ) (calls : List Call) (b : Bool) → IsOne calls → IsOne (if b then calls else [])
port_one n port calls true one = one
port_one n port calls false one = IsNone refl

heard_one : (f : Option Stamped) → IsOne (heard f)
heard_one None = IsNone refl
heard_one (Some frame) = IsCall' _ refl

told_one : {A B : Type 0} (told : Result A B) (c : Call) → IsOne (unless_refused told (c ∷ []))
told_one (Ok x) c = IsCall' c refl
told_one (Err e) c = IsNone refl

move_one : (a : Act) (port : ℕ) (down : Option Stamped) → IsOne (calls_by a port down)
move_one (act.Begins n) port down = port_one n port _ _ (IsCall' _ refl)
move_one (act.Hears n unheard) port down = port_one n port _ _ (heard_one down)
move_one (act.Speaks n o) port down = port_one n port _ _ (IsCall' _ refl)
move_one (act.Starts n place) port down = port_one n port _ _ (IsCall' _ refl)
move_one (act.Asks id request) port down = port_one id.port port _ _ (IsCall' _ refl)
move_one other port down = IsNone refl

deed_one : (old : MachineState) (deed : Deed) (n : ℕ) → IsOne (calls_at old deed n)
deed_one old (Moved a) n = move_one a n (bay_at old n).down
deed_one old (Answered id answer told) n = port_one id.port n _ _ (told_one told _)
deed_one old (Pulled k told) n = port_one k n _ _ (told_one told _)
deed_one old other n = IsNone refl

-- the first j deeds are those before it
record IsBefore (n : ℕ) (at : MachineState) (deeds : List Deed) (now : MachineState) (run : RunsRuled at deeds now) (xs : List Call) : Type 0 where
  index : ℕ
  is : calls_of n at (first_deeds index deeds) (machine_at index at deeds now run) (first_run index at deeds now run) ≡ xs

none_split : (xs : List Call) (c : Call) (ys : List Call) → [] ≡ xs ++ c ∷ ys → ⊥
none_split [] c ys e = cc
none_split (x ∷ xs) c ys e = cc

before_more : (n : ℕ) (deed : Deed) (later : List Deed) (at now : MachineState) (run : RunsRuled at (deed ∷ later) now) (here xs all : List Call)
    → calls_at at deed n ≡ here → here ++ xs ≡ all → IsBefore n run.1.0 later now run.1.2 xs → IsBefore n at (deed ∷ later) now run all
before_more n deed later at now run here xs all e f b = record {
  index = suc b.index;
  is = ap (λ (l : List Call). calls_at at deed n ++ l) b.is ∙ ap (λ (l : List Call). l ++ xs) e ∙ f;
}

before_here : (n : ℕ) (deeds : List Deed) (at now : MachineState) (run : RunsRuled at deeds now) → IsBefore n at deeds now run []
before_here n deeds at now run = record { index = 0; is = refl }

call_before : (n : ℕ) (deeds : List Deed) (at now : MachineState) (run : RunsRuled at deeds now) (xs : List Call) (c : Call) (ys : List Call)
    → calls_of n at deeds now run ≡ xs ++ c ∷ ys → IsBefore n at deeds now run xs
call_before n [] at now run xs c ys is = absurd (none_split xs c ys is)
call_before n (deed ∷ later) at now run xs c ys is = by (deed_one at deed n) xs is (λ zs e. call_before n later run.1.0 now run.1.2 zs c ys e)
  where
    by : IsOne (calls_at at deed n) → (zs : List Call) → calls_at at deed n ++ calls_of n run.1.0 later now run.1.2 ≡ zs ++ c ∷ ys
        → ((us : List Call) → calls_of n run.1.0 later now run.1.2 ≡ us ++ c ∷ ys → IsBefore n run.1.0 later now run.1.2 us)
        → IsBefore n at (deed ∷ later) now run zs
    by (IsNone none) zs e more =
        before_more n deed later at now run [] zs zs none refl (more zs (ap (λ (l : List Call). l ++ calls_of n run.1.0 later now run.1.2) (sym none) ∙ e))
    by (IsCall' x one) [] e more = before_here n (deed ∷ later) at now run
    by (IsCall' x one) (z ∷ zs) e more =
        let f : x ∷ calls_of n run.1.0 later now run.1.2 ≡ z ∷ (zs ++ c ∷ ys) = ap (λ (l : List Call). l ++ calls_of n run.1.0 later now run.1.2) (sym one) ∙ e in
        before_more n deed later at now run (x ∷ []) zs (z ∷ zs) one (ap (λ (y : Call). y ∷ zs) (ap (first_or x) f)) (more zs (ap rest_of f))

-- no more FISes with a tag were heard by the first j of them than by the first k
pub heard_to : (tag n j k : ℕ) → j ≤ k → (deeds : List Deed) (at now : MachineState) (run : RunsRuled at deeds now)
    → heard_with tag (calls_of n at (first_deeds j deeds) (machine_at j at deeds now run) (first_run j at deeds now run))
    ≤ heard_with tag (calls_of n at (first_deeds k deeds) (machine_at k at deeds now run) (first_run k at deeds now run))
heard_to tag n zero k least deeds at now run = omega arith
heard_to tag n (suc j) zero least deeds at now run = absurd (omega (arith, least))
heard_to tag n (suc j) (suc k) least [] at now run = omega arith
heard_to tag n (suc j) (suc k) least (deed ∷ later) at now run =
    let more = heard_to tag n j k (omega (arith, least)) later run.1.0 now run.1.2 in
    let a = heard_both tag (calls_at at deed n)
    (calls_of n run.1.0 (first_deeds j later) (machine_at j run.1.0 later now run.1.2) (first_run j run.1.0 later now run.1.2)) in
    let b = heard_both tag (calls_at at deed n)
    (calls_of n run.1.0 (first_deeds k later) (machine_at k run.1.0 later now run.1.2) (first_run k run.1.0 later now run.1.2)) in
    omega (arith, more, a, b)

-- ---- calls that spare a sector

spares_one : (d : DiskState) (c : Call) (s : ℕ) → ((r : Request) → c ≡ Asks r → touches s r.what d.engine.ranges ≡ false) → Spares d s c
spares_one d (Asks r) s none = none r refl
spares_one d c s none = tt

spares_all : (since : List Call) (p : Profile) (limit : ℕ) (first : List Call) (s : ℕ)
    → ((before : List Call) (r : Request) (after : List Call) → since ≡ before ++ Asks r ∷ after
    → touches s r.what (reached p limit (first ++ before)).engine.ranges ≡ false) → AreSparing (reached p limit first) s since
spares_all [] p limit first s all = tt
spares_all (c ∷ later) p limit first s all = (
  spares_one (reached p limit first) c s (λ r e.
      subst (λ (l : List Call). touches s r.what (reached p limit l).engine.ranges ≡ false) (append-nil first) (all [] r later (ap (λ (x : Call). x ∷ later) e))),
  subst (λ (d : DiskState). AreSparing d s later) (one_call_more p limit first c) (spares_all later p limit (first ++ c ∷ []) s (λ before r after e.
      subst (λ (l : List Call). touches s r.what (reached p limit l).engine.ranges ≡ false) (sym (append_assoc first (c ∷ []) before))
      (all (c ∷ before) r after (ap (λ (l : List Call). c ∷ l) e)))),
)

others_at : (before : List Call) (d : DiskState) (s : ℕ) (r : Request) (after : List Call) → AllOthersSpare d s (before ++ Asks r ∷ after)
    → OthersSpare (after_calls d before) s (Asks r)
unfolding after_calls
others_at [] d s r after all = all.0
others_at (c ∷ before) d s r after all = others_at before (after_call d c) s r after all.1

store_case : (s : ℕ) (w : What) → is_store w ≡ true → ((lba count : ℕ) → w ≡ what.Store lba count → covers lba count s ≡ true → ⊥)
    → (ranges : List Range) → touches s w ranges ≡ false
store_case s (what.Store lba count) e none ranges = by (covers lba count s) refl
  where
    by : (b : Bool) → covers lba count s ≡ b → b ≡ false
    by true c = absurd (none lba count refl c)
    by false c = refl
store_case s other e none ranges = absurd (false≢true e)

second_true : (a b : Bool) → (a && b) ≡ true → b ≡ true
second_true true b e = e
second_true false b e = absurd (false≢true e)

first_true : (a b : Bool) → (a && b) ≡ true → a ≡ true
first_true true b e = refl
first_true false b e = absurd (false≢true e)

-- ---- between a write and a read

module _ (laws : supplied.Laws) (stores : StoresAreOfWrites) (slots : SlotsTellOfWrites) (s : Stretch) (r : ℕ)
    (rests : (tag : ℕ) → tag < 32 → IsAtRest s.many s.n tag s.old s.before s.at s.first)
    (same : (tag : ℕ) (low : tag < 32) → (rests tag low).disk ≡ reached s.p s.limit s.base)
    (keeps : (tag : ℕ) → tag < 32 → AllKeep s.many s.n tag s.at s.deeds s.now s.run) (k : ℕ) (end finish : Stamped)
    (it : IsFollowed s.many s.n s.tag r s.old s.before s.at s.first (to s k).deeds (to s k).now (to s k).run s.deeds s.now s.run s.p s.limit s.base end finish)
    (fell : falls (to s k) ≤ ended_with s.tag (calls_of s.n s.at it.written.end.before it.written.end.moment it.written.end.first)) where
  abbrev first : List Call
  first = calls_of s.n s.at it.written.end.before it.written.end.moment it.written.end.first

  abbrev x : Call
  x = Sends (out.Ends it.written.end.tags)

  abbrev ended : List Call
  ended = s.base ++ first ++ x ∷ []

  abbrev since : List Call
  since = it.follows.since

  -- the machine at which a request is asked for, and what the disk did until then
  record IsAsked (before : List Call) (q : Request) : Type 0 where
    here : IsBefore s.n s.at s.deeds s.now s.run ((first ++ x ∷ []) ++ before)
    are : AreCalls (new_disk s.p s.limit) (s.base ++ ((first ++ x ∷ []) ++ before))
    asks : IsCall (reached s.p s.limit (s.base ++ ((first ++ x ∷ []) ++ before))) (Asks q)

  asked : (before : List Call) (q : Request) (after : List Call) → since ≡ before ++ Asks q ∷ after → IsAsked before q
  asked before q after e =
      let until : List Call = calls_of s.n s.at it.read.end.before it.read.end.moment it.read.end.first in
      let later : List Call = Sends (out.Ends it.read.end.tags) ∷ calls_of s.n it.read.end.new it.read.end.later s.now it.read.end.rest in
      let xs : List Call = (first ++ x ∷ []) ++ before in
      let c : List Call = Asks q ∷ after in
      let both : s.base ++ until ≡ s.base ++ (xs ++ c) =
      it.follows.is ∙ ap (λ (l : List Call). ended ++ l) e ∙ ap (λ (l : List Call). l ++ (before ++ c)) (append_assoc s.base first (x ∷ []))
      ∙ append_assoc s.base (first ++ x ∷ []) (before ++ c) ∙ ap (λ (l : List Call). s.base ++ l) (sym (append_assoc (first ++ x ∷ []) before c)) in
      let until_is : until ≡ xs ++ c = append_cancel_left s.base until (xs ++ c) both in
      let all : calls s ≡ xs ++ Asks q ∷ (after ++ later) =
      it.read.end.own ∙ ap (λ (l : List Call). l ++ later) until_is ∙ append_assoc xs c later in
      let whole : AreCalls (new_disk s.p s.limit) ((s.base ++ xs) ++ Asks q ∷ (after ++ later)) =
      subst (AreCalls (new_disk s.p s.limit)) (ap (λ (l : List Call). s.base ++ l) all ∙ sym (append_assoc s.base xs (Asks q ∷ (after ++ later))))
      (has_disk laws.end.slots s).are in
      record {
        here = call_before s.n s.deeds s.at s.now s.run xs (Asks q) (after ++ later) all;
        are = first_calls (s.base ++ xs) (Asks q ∷ (after ++ later)) (new_disk s.p s.limit) whole;
        asks = (calls_then (s.base ++ xs) (Asks q ∷ (after ++ later)) (new_disk s.p s.limit) whole).0;
      }

  -- the write's tag is free from the write's end on, until its bit falls
  window : (before : List Call) (q : Request) → (a : IsAsked before q) → a.here.index ≤ k → (c : Command)
      → held_at (commands (reached s.p s.limit (s.base ++ ((first ++ x ∷ []) ++ before)))) s.tag ≡ Some c → ⊥
  window before q a least c held =
      let xs : List Call = (first ++ x ∷ []) ++ before in
      let n : Counted s.p s.limit s.base s.tag xs = counted s.p s.limit s.base s.tag laws.end.slots.tags s.low xs a.are (was_free s) in
      let since' = n.since c held in
      let behind = since'.behind in
      let heard = all_heard s.p s.limit s.base s.tag xs c since' in
      let to_k = heard_to s.tag s.n a.here.index k least s.deeds s.at s.now s.run in
      let same_heard = ap (heard_with s.tag) a.here.is in
      let q' = counts laws.end.slots (to s k) in
      let h1 = q'.heard in
      let h2 = q'.asked in
      let h3 = q'.ordered in
      let h4 = q'.one in
      let e1 = ended_both s.tag (first ++ x ∷ []) before in
      let e2 = ended_both s.tag first (x ∷ []) in
      let one : once_if (has_bit it.written.end.tags s.tag) ≡ 1 = ap once_if it.written.end.named in
      omega (arith, behind, heard, to_k, same_heard, h1, h2, h3, h4, e1, e2, one, fell)

  -- a store for a queued command is none of the sector
  none_stored : (sector : ℕ) → NoneStands s.many s.n s.tag k sector s.old s.before s.at s.first s.deeds s.now s.run (first ++ x ∷ [])
      → (before : List Call) (q : Request) → IsAsked before q → is_of_tag q.place ≡ true → (lba count : ℕ) → q.what ≡ what.Store lba count
      → covers lba count sector ≡ true → ⊥
  none_stored sector none before q a tagged lba count e covered =
      let xs : List Call = (first ++ x ∷ []) ++ before in
      let d : DiskState = reached s.p s.limit (s.base ++ xs) in
      let w = stores s.p s.limit (s.base ++ xs) q lba count sector a.are a.asks e covered in
      let low : w.place < 32 = ltb-true w.place 32 (ap is_of_tag (sym w.at') ∙ tagged) in
      let m = is_there (command_at (commands d) w.place) w.taken in
      let held : held_at (commands d) w.place ≡ Some m.moment.command = under_way_held (commands d) w.place m.moment m.is m.going in
      let command : w.page.command ≡ m.moment.command = page_same s.p s.limit (s.base ++ xs) w.place m.moment.command w.page held w.has in
      let j : ℕ = a.here.index in
      let free : w.place ≡ s.tag → j ≤ k → ⊥ = λ tag least. window before q a least m.moment.command
      (subst (λ (t : ℕ). held_at (commands d) t ≡ Some m.moment.command) tag held) in
      let stands = none j before a.here.is w.place low (λ tag. elim (cases_lt k j) [
        | inl less ↦ less
        | inr least ↦ absurd (free tag least)
      ]) in
      let there : command_at (commands (reached s.p s.limit (s.base ++ calls_of s.n s.at (first_deeds j s.deeds) (machine_at j s.at s.deeds s.now s.run)
      (first_run j s.at s.deeds s.now s.run)))) w.place ≡ Some m.moment =
      ap (λ (l : List Call). command_at (commands (reached s.p s.limit (s.base ++ l))) w.place) a.here.is ∙ m.is in
      let told = slots s.ports s.legacy s.old s.opening s.before s.at s.first s.many s.n w.place s.below low (rests w.place low) (first_deeds j s.deeds)
      (machine_at j s.at s.deeds s.now s.run) (first_run j s.at s.deeds s.now s.run) (linked_to j s.deeds s.linked)
      (lasts_to s.n j s.deeds s.at s.now s.run s.lasts) (keeps_to s.many s.n w.place j s.deeds s.at s.now s.run (keeps w.place low)) s.p s.limit s.base s.are
      (same w.place low) sector stands m.moment there m.going in
      let not' = subst (λ (c : Command). c.write ≡ true → covers c.lba c.count sector ≡ false) (sym command) told w.writes in
      false≢true (sym not' ∙ w.covered)

  pub spared : (sector : ℕ) → NoneStands s.many s.n s.tag k sector s.old s.before s.at s.first s.deeds s.now s.run (first ++ x ∷ [])
      → AllOthersSpare (reached s.p s.limit ended) sector since → AreSparing (reached s.p s.limit ended) sector since
  spared sector none others = spares_all since s.p s.limit ended sector spare
    where
      spare : (before : List Call) (q : Request) (after : List Call) → since ≡ before ++ Asks q ∷ after
          → touches sector q.what (reached s.p s.limit (ended ++ before)).engine.ranges ≡ false
      spare before q after e = by (is_store q.what && is_of_tag q.place) refl
        where
          by : (b : Bool) → (is_store q.what && is_of_tag q.place) ≡ b → touches sector q.what (reached s.p s.limit (ended ++ before)).engine.ranges ≡ false
          by false is =
              subst (λ (d : DiskState). touches sector q.what d.engine.ranges ≡ false) (sym (calls_after ended before (new_disk s.p s.limit)))
              (others_at before (reached s.p s.limit ended) sector q after
              (subst (λ (l : List Call). AllOthersSpare (reached s.p s.limit ended) sector l) e others) is)
          by true is =
              store_case sector q.what (first_true _ _ is) (none_stored sector none before q (asked before q after e) (second_true _ _ is))
              (reached s.p s.limit (ended ++ before)).engine.ranges

-- ---- the law

pub reads_follow_among : supplied.Laws → GivenIsWritten → UndisturbedIsSpared → WritesAreSupplied → StoresAreOfWrites → SlotsTellOfWrites → ReadsFollowAmong
reads_follow_among laws given undisturbed writes stores slots ports legacy old opening before at first' many n w r below w_low r_low rests deeds now run linked
    lasts keeps p limit base are same honest k end falls' took new does rules fell_r =
    let s : Stretch = record {
      ports = ports;
      legacy = legacy;
      old = old;
      opening = opening;
      before = before;
      at = at;
      first = first';
      many = many;
      n = n;
      tag = w;
      below = below;
      low = w_low;
      rest = rests w w_low;
      deeds = deeds;
      now = now;
      run = run;
      linked = linked;
      lasts = lasts;
      keeps = keeps w w_low;
      p = p;
      limit = limit;
      base = base;
      are = are;
      same = same w w_low;
    } in
    let u : Stretch = with_tag s r r_low (rests r r_low) (keeps r r_low) in
    let it : Fell (own_of many n) w r end k at deeds now run = firsts.fell (own_of many n) w r end k deeds at now run falls' in
    let there_fall : Fall (to s k) = fall s r k end it in
    let last : Fall u = record {
      took = took;
      new = new;
      does = does;
      rules = rules;
      shows = fell_r.shows;
      hides = fell_r.hides;
      issue = fell_r.issue;
      is = fell_r.is;
      mine = fell_r.mine;
    } in
    let both = followed laws given undisturbed writes s r r_low (rests r r_low) (keeps r r_low) k end it there_fall.does.does.frame
    (is_done laws (to s k) there_fall) (ends_in laws (to s k) there_fall) honest does.does.frame (is_done laws u last) (ends_in laws u last) in
    subst (λ (x' : Stamped). IsFollowedAmong many n w r k old before at first' deeds now run p limit base x' does.does.frame) it.frame (record {
      followed = both.all;
      spared = spared laws stores slots s r rests same keeps k there_fall.does.does.frame does.does.frame both.all both.fell;
    })
