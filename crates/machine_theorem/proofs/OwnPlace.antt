-- The Data of a queued read go to its own slot: what the FISes say that came is what those say that were sent before.
use Rattle.std.proofs.Common.{◌≡◌, ◌⊎◌, ℕ, ◌<◌, Bool, true, false, List, [], ◌∷◌, ◌++◌, append_assoc, append-nil, refl, sym, ap, subst, ◌∙◌, inl, inr}
use Rattle.std.proofs.{Common.{Option, Some, None, Ok, Err, All}, lemmas.{Bool.{and_parts, false≢true}, List.Elements.{All-contains, Contains-push}}}
use Rattle.std.specs.{Prelude.{◌==◌, drop, if◌then◌else◌}, Option.option_to_list}
use Rattle.fis_view.specs.{Frames.Stamped, Seen.seen}
use Rattle.multiplier.specs.Passing.{of_conn}
use Rattle.slots.specs.{Slots.{Issue, issue_at, match_some}, declared.work.Kind.TheVariants.QueuedRead}
use Rattle.hba_fbs.specs.{Taking.port_of, declared.report.Wrote.Wrote}
use Rattle.ahci_controller.specs.{Taking.is_overflow, declared.taking.Took.Took}
use Rattle.controller_laws.specs.Events as call
use Rattle.controller_laws.specs.Events.{Event}
use Rattle.block_disk.specs.Laws.{Page}
use Rattle.disk_pages.specs.declared.profile.Profile.{Profile}
use Rattle.sata_disk.specs.{Sending.{IsOut, part_at}, State.{DiskState, commands, new_disk}, declared.out.Out.Out}
use Rattle.block_queue.specs.Line.{command_at}
use Rattle.sata_disk.specs.declared.out.Out.TheVariants as out
use Rattle.sata_disk_books.specs.{Books.{AreNext, AreOfPage, DataAreGiven, page_in}, Counted.Counted, Fises.{AreFises, FisesTell, told_after}}
use Rattle.sata_disk_books.specs.Fises.{told_by}
use Rattle.sata_disk_laws.specs.{Calls.{AreCalls, Call, after_calls}, Laws.reached}
use Rattle.sata_disk_laws.proofs.Door.{calls_after, calls_both}
use Rattle.ahci_machine.specs.{States.{IsOpeningMachine, MachineState, bay_at}, declared.{act.Act.Act, bay.Unit.TheVariants.Disk}}
use Rattle.ahci_machine.specs.declared.act.Act.TheVariants as act
use Rattle.machine_laws.specs.{ControllerLaws.{ControllerRuns, RunsRuled, calls_in}, Deeds.{Deed, Does, FrameOffered, Moved}, Disks.DisksGoOn}
use Rattle.machine_laws.specs.Rising.{AreLinked, CarriesPart, DataCarryParts, Frames, FramesAreTaken, FramesRise, HaveRisen, RisesInOrder, bytes_of}
use Rattle.machine_laws.specs.Rising.{came_by, frames_in, frames_of, held_at, is_over, is_reset, more_frames, no_frames, on_way, risen, sent_by}
use Rattle.machine_laws.specs.Rising.{untaken}
use Rattle.machine_theorem.specs.{Identity.calls_of, OwnSlots.{AllKeepLine, AreOne, BeginsClear, IsAtPlace, KeepsLine, IsOfOwnSlot, NoneLost}}
use Rattle.machine_theorem.specs.{OwnSlots.{OfItsPlace, PayloadGoesToItsOwnSlot, is_of}, Following.{AllHeardWell, DataFollowSetups, told_calls}}
use Rattle.machine_theorem.proofs.{Cut.{Cut, cut_here, cut_more}, EndsFew.{disk_same, sent_of}, Falls.{Told, told_now}, FallsFew.came_of}
use Rattle.machine_theorem.proofs.{RisenTold.conn_both, SentFises.{GoneOn, sender_is, stretch_made}}
use Rattle.machine_theorem.proofs.Falls as falls

pub record Laws : Type 0 where
  pub falls : falls.Laws
  pub order : FramesRise
  pub taken : FramesAreTaken
  pub disks : DisksGoOn
  pub tell : FisesTell
  pub given : DataAreGiven
  pub parts : DataCarryParts
  pub follow : DataFollowSetups

-- ---- what the FISes say that came

-- those of a device, in a list of them
abbrev told_own : (dev : ℕ) → Option Counted → List (List ℕ) → Option Counted
told_own dev t [] = t
told_own dev t (f ∷ later) = told_own dev (if port_of f == dev then told_by (seen f) t else t) later

left_same : (b : Bool) (x t : Option Counted) → b ≡ false → t ≡ (if b then x else t)
left_same true x t e = absurd (false≢true (sym e))
left_same false x t e = refl

calls_told : (dev : ℕ) (events : List Event) (t : Option Counted) → NoneLost dev events → told_calls dev t events ≡ told_own dev t (frames_of events)
unfolding told_calls
calls_told dev [] t none = refl
calls_told dev (call.Took frame took ∷ later) t none = calls_told dev later _ none
calls_told dev (call.Left frame why ∷ later) t none =
    calls_told dev later t none.1 ∙ ap (λ k. told_own dev k (frames_of later)) (left_same (port_of frame == dev) (told_by (seen frame) t) t none.0)
calls_told dev (call.Wrote offset value written ∷ later) t none = calls_told dev later t none
calls_told dev (call.WroteWide offset width value written ∷ later) t none = calls_told dev later t none
calls_told dev (call.Supplied slot number bytes supply ∷ later) t none = calls_told dev later t none
calls_told dev (call.Missed slot number supply ∷ later) t none = calls_told dev later t none
calls_told dev (call.Turned next ∷ later) t none = calls_told dev later t none
calls_told dev (call.Said write ∷ later) t none = calls_told dev later t none
calls_told dev (call.Gathered d number frame fed ∷ later) t none = calls_told dev later t none
calls_told dev (call.NotThere d number fed ∷ later) t none = calls_told dev later t none

one_case : (b : Bool) (f : Stamped) (later : List Stamped) (x t : Option Counted) → told_by (seen f.bytes) t ≡ x
    → told_after (if b then x else t) (bytes_of later) ≡ told_after t (bytes_of (if b then f ∷ later else later))
unfolding told_after
one_case true f later x t e = ap (λ k. told_after k (bytes_of later)) (sym e)
one_case false f later x t e = refl

none_told : (t : Option Counted) → t ≡ told_after t []
unfolding told_after
none_told t = refl

own_told : (n c dev : ℕ) (frames : List Stamped) (t : Option Counted) → AreOne n c dev frames → told_own dev t (bytes_of frames) ≡ told_after t (bytes_of (of_conn n c frames))
own_told n c dev [] t one = none_told t
own_told n c dev (f ∷ later) t one =
    own_told n c dev later (if port_of f.bytes == dev then told_by (seen f.bytes) t else t) one.1
    ∙ ap (λ (b : Bool). told_after (if b then told_by (seen f.bytes) t else t) (bytes_of (of_conn n c later))) one.0
    ∙ one_case (is_of n c f) f (of_conn n c later) (told_by (seen f.bytes) t) t refl

one_both : (n c dev : ℕ) (xs ys : List Stamped) → AreOne n c dev xs → AreOne n c dev ys → AreOne n c dev (xs ++ ys)
one_both n c dev [] ys first later = later
one_both n c dev (x ∷ xs) ys first later = (first.0, one_both n c dev xs ys first.1 later)

-- ---- the frames of a stretch

module _ (many : Bool) (n c dev : ℕ) where
  pub linked : (deeds : List Deed) (old now : MachineState) (run : RunsRuled old deeds now) → AllKeepLine many n c dev old deeds now run → AreLinked deeds
  linked [] old now run keeps = tt
  linked (deed ∷ later) old now run keeps = (keeps.0.linked, linked later run.1.0 now run.1.2 keeps.1)

  pub came_one : (deeds : List Deed) (old now : MachineState) (run : RunsRuled old deeds now) → AllKeepLine many n c dev old deeds now run → AreOne n c dev (came_of old deeds now run)
  came_one [] old now run keeps = tt
  came_one (deed ∷ later) old now run keeps =
      one_both n c dev (came_by old deed run.1.0 run.1.1) (came_of run.1.0 later now run.1.2) keeps.0.came (came_one later run.1.0 now run.1.2 keeps.1)

more_frames_are : (b : Bool) (was : Frames) (sent came : List Stamped) → b ≡ false → more_frames b was sent came ≡ record { sent = was.sent ++ sent; came = was.came ++ came }
more_frames_are true was sent came e = absurd (false≢true (sym e))
more_frames_are false was sent came e = refl

pub frames_are : (deeds : List Deed) (old now : MachineState) (run : RunsRuled old deeds now) (was : Frames) → AreLinked deeds
    → frames_in was old deeds now run ≡ record { sent = was.sent ++ sent_of old deeds now run; came = was.came ++ came_of old deeds now run }
frames_are [] old now run was linked =
    ap (λ l. record { sent = l; came = was.came }) (sym (append-nil was.sent)) ∙ ap (λ l. record { sent = was.sent ++ []; came = l }) (sym (append-nil was.came))
frames_are (deed ∷ later) old now run was linked =
    let sent : List Stamped = sent_by old deed run.1.0 run.1.1 in
    let came : List Stamped = came_by old deed run.1.0 run.1.1 in
    let sent_then : List Stamped = sent_of run.1.0 later now run.1.2 in
    let came_then : List Stamped = came_of run.1.0 later now run.1.2 in
    ap (λ (f : Frames). frames_in f run.1.0 later now run.1.2) (more_frames_are (is_reset deed) was sent came linked.0)
    ∙ frames_are later run.1.0 now run.1.2 (record { sent = was.sent ++ sent; came = was.came ++ came }) linked.1
    ∙ ap (λ l. record { sent = l; came = (was.came ++ came) ++ came_then }) (append_assoc was.sent sent sent_then)
    ∙ ap (λ l. record { sent = was.sent ++ (sent ++ sent_then); came = l }) (append_assoc was.came came came_then)

-- ---- the moment

-- what is sent by a deed is one FIS at most
pub one_sent : (old : MachineState) (deed : Deed) (new : MachineState) (does : Does old deed new) → (sent_by old deed new does ≡ []) ⊎ ((f : Stamped) × (sent_by old deed new does ≡ f ∷ []))
one_sent old (Moved (act.Speaks k o)) new does = inr (risen old.fan k does.does.does.1.frame, refl)
one_sent old (Moved a) new does = inl refl
one_sent old (FrameOffered k frame (Ok x)) new does = inr (risen old.fan k frame, refl)
one_sent old (FrameOffered k frame (Err back)) new does = inl refl
one_sent old deed new does = inl refl

pub record Found (many : Bool) (n c dev : ℕ) (old : MachineState) (deeds : List Deed) (now : MachineState) (run : RunsRuled old deeds now) (pre : List Stamped) (f : Stamped) : Type 0 where
  pub deed : Deed
  pub cut : Cut deed old deeds now run
  pub prior : of_conn n c (sent_of old cut.sooner cut.mid cut.led) ≡ pre
  pub sent : sent_by cut.mid deed cut.next cut.does ≡ f ∷ []
  pub keeps : AllKeepLine many n c dev old cut.sooner cut.mid cut.led
  pub line : KeepsLine many n c dev cut.mid deed cut.next cut.does

-- one deed before
behind : (many : Bool) (n c dev : ℕ) (old : MachineState) (deed : Deed) (later : List Deed) (now : MachineState) (run : RunsRuled old (deed ∷ later) now) (one pre : List Stamped) (f : Stamped)
    → KeepsLine many n c dev old deed run.1.0 run.1.1 → of_conn n c (sent_by old deed run.1.0 run.1.1) ≡ one → Found many n c dev run.1.0 later now run.1.2 pre f
    → Found many n c dev old (deed ∷ later) now run (one ++ pre) f
unfolding cut_more
behind many n c dev old deed later now run one pre f line is found = record {
  deed = found.deed;
  cut = cut_more found.deed deed later old now run found.cut;
  prior = conn_both n c (sent_by old deed run.1.0 run.1.1) (sent_of run.1.0 found.cut.sooner found.cut.mid found.cut.led)
      ∙ ap (λ l. l ++ of_conn n c (sent_of run.1.0 found.cut.sooner found.cut.mid found.cut.led)) is ∙ ap (λ l. one ++ l) found.prior;
  sent = found.sent;
  keeps = (line, found.keeps);
  line = found.line;
}

abbrev pub head_or : Stamped → List Stamped → Stamped
head_or x [] = x
head_or x (y ∷ ys) = y

abbrev tail_of : List Stamped → List Stamped
tail_of [] = []
tail_of (y ∷ ys) = ys

if_conn : (b c : Bool) (x : Stamped) → b ≡ c → (if b then x ∷ [] else []) ≡ (if c then x ∷ [] else [])
if_conn b c x e = ap (λ k. if k then x ∷ [] else []) e

module _ (many : Bool) (n c dev : ℕ) (old : MachineState) (deed : Deed) (later : List Deed) (now : MachineState) (run : RunsRuled old (deed ∷ later) now)
    (line : KeepsLine many n c dev old deed run.1.0 run.1.1) (rest_of : List Stamped)
    (ih : (pre rest : List Stamped) (f : Stamped) → rest_of ≡ pre ++ f ∷ rest → Found many n c dev run.1.0 later now run.1.2 pre f) where
  abbrev by_it : List Stamped
  by_it = sent_by old deed run.1.0 run.1.1

  -- it sent none of the connection
  not_here : (pre rest : List Stamped) (f : Stamped) → of_conn n c by_it ≡ [] → of_conn n c by_it ++ rest_of ≡ pre ++ f ∷ rest → Found many n c dev old (deed ∷ later) now run pre f
  not_here pre rest f none is = behind many n c dev old deed later now run [] pre f line none (ih pre rest f (ap (λ l. l ++ rest_of) (sym none) ∙ is))

  -- it sent this one
  here : (pre rest : List Stamped) (f x : Stamped) → by_it ≡ x ∷ [] → of_conn n c by_it ≡ x ∷ [] → x ∷ rest_of ≡ pre ++ f ∷ rest → Found many n c dev old (deed ∷ later) now run pre f
  unfolding cut_here
  here [] rest f x sent one is = record {
    deed = deed;
    cut = cut_here deed later old now run;
    prior = refl;
    sent = sent ∙ ap (λ y. y ∷ []) (ap (λ l. head_or x l) is);
    keeps = line.end;
    line = line;
  }
  here (y ∷ pre) rest f x sent one is =
      subst (λ (z : Stamped). Found many n c dev old (deed ∷ later) now run (z ∷ pre) f) (ap (λ l. head_or x l) is)
      (behind many n c dev old deed later now run (x ∷ []) pre f line one (ih pre rest f (ap (λ l. tail_of l) is)))

  by_conn : (pre rest : List Stamped) (f x : Stamped) (b : Bool) → is_of n c x ≡ b → by_it ≡ x ∷ [] → of_conn n c by_it ++ rest_of ≡ pre ++ f ∷ rest
      → Found many n c dev old (deed ∷ later) now run pre f
  by_conn pre rest f x false e sent is = not_here pre rest f (ap (λ l. of_conn n c l) sent ∙ if_conn (is_of n c x) false x e) is
  by_conn pre rest f x true e sent is =
      let one : of_conn n c by_it ≡ x ∷ [] = ap (λ l. of_conn n c l) sent ∙ if_conn (is_of n c x) true x e in
      here pre rest f x sent one (ap (λ l. l ++ rest_of) (sym one) ∙ is)

  step : (pre rest : List Stamped) (f : Stamped) → of_conn n c by_it ++ rest_of ≡ pre ++ f ∷ rest → Found many n c dev old (deed ∷ later) now run pre f
  step pre rest f is = elim (one_sent old deed run.1.0 run.1.1) [
    | inl none ↦ not_here pre rest f (ap (λ l. of_conn n c l) none) is
    | inr some ↦ by_conn pre rest f some.0 (is_of n c some.0) refl some.1 is
  ]

no_cons : {A : Type 0} (pre rest : List Stamped) (f : Stamped) → [] ≡ pre ++ f ∷ rest → A
no_cons [] rest f e = absurd (cc)
no_cons (x ∷ pre) rest f e = absurd (cc)

pub find : (many : Bool) (n c dev : ℕ) (deeds : List Deed) (old now : MachineState) (run : RunsRuled old deeds now) → AllKeepLine many n c dev old deeds now run
    → (pre rest : List Stamped) (f : Stamped) → of_conn n c (sent_of old deeds now run) ≡ pre ++ f ∷ rest → Found many n c dev old deeds now run pre f
find many n c dev [] old now run keeps pre rest f is = no_cons pre rest f is
find many n c dev (deed ∷ later) old now run keeps pre rest f is =
    step many n c dev old deed later now run keeps.0 (of_conn n c (sent_of run.1.0 later now run.1.2))
    (λ pre rest f e. find many n c dev later run.1.0 now run.1.2 keeps.1 pre rest f e) pre rest f
    (sym (conn_both n c (sent_by old deed run.1.0 run.1.1) (sent_of run.1.0 later now run.1.2)) ∙ is)

-- ---- in order

pub cancel : (xs ys zs : List Stamped) → xs ++ ys ≡ xs ++ zs → ys ≡ zs
cancel [] ys zs e = e
cancel (x ∷ xs) ys zs e = cancel xs ys zs (ap (λ l. tail_of l) e)

-- what came of the connection, and then the FIS that is to be taken, is a beginning of what was sent
pub record InOrder (n c : ℕ) (came sent : List Stamped) (f : Stamped) : Type 0 where
  pub rest : List Stamped
  pub is : of_conn n c sent ≡ of_conn n c came ++ f ∷ rest

pub untaken_is : (m : MachineState) (f : Stamped) → m.taken ≡ false → m.incoming ≡ Some f → untaken m ≡ f ∷ []
untaken_is m f free on = ap (λ (b : Bool). if b then [] else option_to_list m.incoming) free ∙ ap (λ (o : Option Stamped). option_to_list o) on

-- nothing is on its way as it begins, so all came that was sent before
pub all_came : (n c : ℕ) (at : MachineState) (was : Frames) → RisesInOrder at was n c → on_way n c at ≡ [] → is_over at.fan n c ≡ false
    → of_conn n c was.came ≡ of_conn n c was.sent
all_came n c at was first way lasts =
    sym (append-nil (of_conn n c was.came)) ∙ ap (λ l. of_conn n c was.came ++ l) (sym (ap (λ l. l ++ first.dropped) way ∙ first.whole lasts))
    ∙ sym (append_assoc (of_conn n c was.came) (on_way n c at) first.dropped) ∙ first.order

pub in_order : (n c : ℕ) (at now : MachineState) (was all : Frames) (came sent : List Stamped) (f : Stamped) → RisesInOrder at was n c → RisesInOrder now all n c
    → all ≡ record { sent = was.sent ++ sent; came = was.came ++ came } → on_way n c at ≡ [] → is_over at.fan n c ≡ false → untaken now ≡ f ∷ [] → is_of n c f ≡ true → InOrder n c came sent f
in_order n c at now was all came sent f first last same way lasts next own =
    let whole : of_conn n c was.came ≡ of_conn n c was.sent = all_came n c at was first way lasts in
    let left : on_way n c now ++ last.dropped ≡ f ∷ (held_at n c now.fan ++ last.dropped) =
    ap (λ l. (of_conn n c l ++ held_at n c now.fan) ++ last.dropped) next ∙ ap (λ (b : Bool). ((if b then f ∷ [] else []) ++ held_at n c now.fan) ++ last.dropped) own in
    let order : of_conn n c (was.came ++ came) ++ on_way n c now ++ last.dropped ≡ of_conn n c (was.sent ++ sent) =
    ap (λ (x : Frames). of_conn n c x.came ++ on_way n c now ++ last.dropped) (sym same) ∙ last.order ∙ ap (λ (x : Frames). of_conn n c x.sent) same in
    let both : of_conn n c was.sent ++ (of_conn n c came ++ f ∷ (held_at n c now.fan ++ last.dropped)) ≡ of_conn n c was.sent ++ of_conn n c sent =
    ap (λ l. l ++ (of_conn n c came ++ f ∷ (held_at n c now.fan ++ last.dropped))) (sym whole)
    ∙ sym (append_assoc (of_conn n c was.came) (of_conn n c came) (f ∷ (held_at n c now.fan ++ last.dropped)))
    ∙ ap (λ l. l ++ f ∷ (held_at n c now.fan ++ last.dropped)) (sym (conn_both n c was.came came))
    ∙ ap (λ l. of_conn n c (was.came ++ came) ++ l) (sym left)
    ∙ sym (append_assoc (of_conn n c (was.came ++ came)) (on_way n c now) last.dropped) ∙ order ∙ conn_both n c was.sent sent in
    record { rest = held_at n c now.fan ++ last.dropped; is = sym (cancel (of_conn n c was.sent) _ _ both) }

-- ---- the disk as it sent the FIS

one_told : (a b : Counted) → Some a ≡ Some b → a ≡ b
one_told a b e = ap (λ (o : Option Counted). match_some o a (λ x. x)) e

-- a FIS of the connection is of its port
pub port_is : (n c : ℕ) (f : Stamped) → is_of n c f ≡ true → (f.stamp.port == n) ≡ true
port_is n c f e = (and_parts (f.stamp.port == n) (f.stamp.conn == c) e).0

of_page : (x : Option Page) (page : Page) (bytes : List ℕ) → x ≡ Some page → AreOfPage x bytes → AreNext page.ledger bytes
of_page x page bytes e is = subst (λ (y : Option Page). AreOfPage y bytes) e is

module _ (tell : FisesTell) (given : DataAreGiven) (parts : DataCarryParts) (disks : DisksGoOn) (many : Bool) (n c dev : ℕ) (at : MachineState) (d : DiskState) (there : (bay_at at n).unit ≡ Disk d) (p : Profile) (limit : ℕ)
    (base : List Call) (are : AreCalls (new_disk p limit) base) (same : d ≡ reached p limit base) (deeds : List Deed) (now : MachineState)
    (run : RunsRuled at deeds now) (f : Stamped) (wrote : Wrote) (own : is_of n c f ≡ true) where
  -- who sent it is the device at the port
  pub speaker : (pre : List Stamped) (found : Found many n c dev at deeds now run pre f) (k : ℕ) (o : Out) (does : Does found.cut.mid (Moved (act.Speaks k o)) found.cut.next)
      → sent_by found.cut.mid (Moved (act.Speaks k o)) found.cut.next does ≡ f ∷ [] → k ≡ n
  speaker pre found k o does sent =
      let h = does.does.does.1 in
      let risen_is : risen found.cut.mid.fan k h.frame ≡ f = ap (λ l. head_or f l) sent in
      sender_is many n found.cut.mid k h.frame found.line.end h.room (ap (λ (x : Stamped). x.stamp.port == n) risen_is ∙ port_is n c f own)

  -- it is the disk, as the calls led to it
  is_speaker : (pre : List Stamped) (found : Found many n c dev at deeds now run pre f) (k : ℕ) (o : Out)
      (does : Does found.cut.mid (Moved (act.Speaks k o)) found.cut.next)
      → sent_by found.cut.mid (Moved (act.Speaks k o)) found.cut.next does ≡ f ∷ []
      → does.does.does.1.disk ≡ reached p limit (base ++ calls_of n at found.cut.sooner found.cut.mid found.cut.led)
  is_speaker pre found k o does sent =
      let calls : List Call = calls_of n at found.cut.sooner found.cut.mid found.cut.led in
      let gone : GoneOn many n c dev d calls (of_conn n c (sent_of at found.cut.sooner found.cut.mid found.cut.led)) (bay_at found.cut.mid n).unit =
      stretch_made many n c dev disks found.cut.sooner at found.cut.mid found.cut.led found.keeps d there in
      let h = does.does.does.1 in
      disk_same h.disk (after_calls d calls) (sym h.there ∙ ap (λ (j : ℕ). (bay_at found.cut.mid j).unit) (speaker pre found k o does sent) ∙ gone.is)
      ∙ ap (λ (x : DiskState). after_calls x calls) same ∙ sym (calls_after base calls (new_disk p limit))

  -- so these Data went next, and they are those of the FIS
  pub sends_of : (pre : List Stamped) (found : Found many n c dev at deeds now run pre f) (k place len : ℕ)
      → (does : Does found.cut.mid (Moved (act.Speaks k (out.Data place len))) found.cut.next)
      → sent_by found.cut.mid (Moved (act.Speaks k (out.Data place len))) found.cut.next does ≡ f ∷ []
      → IsOut (reached p limit (base ++ calls_of n at found.cut.sooner found.cut.mid found.cut.led)) (Some (out.Data place len))
  sends_of pre found k place len does sent =
      subst (λ (x : DiskState). IsOut x (Some (out.Data place len))) (is_speaker pre found k (out.Data place len) does sent) does.does.does.1.next

  pub part_of : (pre : List Stamped) (found : Found many n c dev at deeds now run pre f) (k place len : ℕ)
      → (does : Does found.cut.mid (Moved (act.Speaks k (out.Data place len))) found.cut.next)
      → sent_by found.cut.mid (Moved (act.Speaks k (out.Data place len))) found.cut.next does ≡ f ∷ []
      → part_at (command_at (commands (reached p limit (base ++ calls_of n at found.cut.sooner found.cut.mid found.cut.led))) place) ≡ drop 4 f.bytes
  part_of pre found k place len does sent =
      let h = does.does.does.1 in
      let carries : CarriesPart found.cut.mid k place f =
      All-contains (CarriesPart found.cut.mid k place) (f ∷ []) f
      (subst (λ l. All (CarriesPart found.cut.mid k place) l) sent (parts found.cut.mid k place len found.cut.next does)) (Contains-push [] f) in
      ap (λ (x : DiskState). part_at (command_at (commands x) place))
      (sym (disk_same carries.disk h.disk (sym carries.there ∙ h.there) ∙ is_speaker pre found k (out.Data place len) does sent)) ∙ sym carries.part

  pub place_of : (pre : List Stamped) → told_after None (bytes_of pre) ≡ Some (record { tag = wrote.slot; count = wrote.offset }) → (found : Found many n c dev at deeds now run pre f)
      → (k : ℕ) (place len : ℕ) → (does : Does found.cut.mid (Moved (act.Speaks k (out.Data place len))) found.cut.next) → sent_by found.cut.mid (Moved (act.Speaks k (out.Data place len))) found.cut.next does ≡ f ∷ []
      → place < 32 → IsAtPlace p limit (base ++ calls_of n at found.cut.sooner found.cut.mid found.cut.led) place f wrote
  place_of pre told found k place len does sent low =
      let calls : List Call = calls_of n at found.cut.sooner found.cut.mid found.cut.led in
      let gone : GoneOn many n c dev d calls (of_conn n c (sent_of at found.cut.sooner found.cut.mid found.cut.led)) (bay_at found.cut.mid n).unit =
      stretch_made many n c dev disks found.cut.sooner at found.cut.mid found.cut.led found.keeps d there in
      let whole : AreCalls (new_disk p limit) (base ++ calls) = calls_both base calls (new_disk p limit) are (subst (λ (x : DiskState). AreCalls x calls) same gone.are) in
      let fises : AreFises (reached p limit base) calls gone.made.fises = subst (λ (x : DiskState). AreFises x calls gone.made.fises) same gone.made.are in
      let says : told_after None gone.made.fises ≡ Some (record { tag = wrote.slot; count = wrote.offset }) =
      gone.made.told None ∙ ap (λ l. told_after None (bytes_of l)) found.prior ∙ told in
      let sends : IsOut (reached p limit (base ++ calls)) (Some (out.Data place len)) = sends_of pre found k place len does sent in
      let part : part_at (command_at (commands (reached p limit (base ++ calls))) place) ≡ drop 4 f.bytes = part_of pre found k place len does sent in
      elim (tell p limit base calls gone.made.fises place len whole fises sends low) [
        | inl none ↦ absurd (let both = sym says ∙ none in cc)
        | inr counted ↦ (
            let one = one_told _ _ (sym says ∙ counted.counts) in
            record {
              slot = ap (λ (x : Counted). x.tag) one;
              page = counted.of;
              is = counted.is;
              number = ap (λ (x : Counted). x.count) one;
              next = of_page _ counted.of (drop 4 f.bytes) counted.is (subst (λ b. AreOfPage (page_in p limit (base ++ calls) place) b) part (given p limit (base ++ calls) place len whole sends));
            })
      ]

  move_place : (pre : List Stamped) → told_after None (bytes_of pre) ≡ Some (record { tag = wrote.slot; count = wrote.offset }) → (found : Found many n c dev at deeds now run pre f)
      → (a : Act) (does : Does found.cut.mid (Moved a) found.cut.next) → sent_by found.cut.mid (Moved a) found.cut.next does ≡ f ∷ []
      → OfItsPlace p limit (base ++ calls_of n at found.cut.sooner found.cut.mid found.cut.led) (Moved a) f wrote
  move_place pre told found (act.Speaks k (out.Data place len)) does sent = λ low. place_of pre told found k place len does sent low
  move_place pre told found (act.Speaks k o) does sent = tt
  move_place pre told found a does sent = tt

  deed_place : (pre : List Stamped) → told_after None (bytes_of pre) ≡ Some (record { tag = wrote.slot; count = wrote.offset }) → (found : Found many n c dev at deeds now run pre f)
      → (deed : Deed) (does : Does found.cut.mid deed found.cut.next) → sent_by found.cut.mid deed found.cut.next does ≡ f ∷ []
      → OfItsPlace p limit (base ++ calls_of n at found.cut.sooner found.cut.mid found.cut.led) deed f wrote
  deed_place pre told found (Moved a) does sent = move_place pre told found a does sent
  deed_place pre told found deed does sent = tt

  own_slot : (pre : List Stamped) → told_after None (bytes_of pre) ≡ Some (record { tag = wrote.slot; count = wrote.offset }) → Found many n c dev at deeds now run pre f
      → IsOfOwnSlot n at deeds p limit base f wrote
  own_slot pre told found = record {
    before = found.cut.sooner;
    mid = found.cut.mid;
    first = found.cut.led;
    deed = found.deed;
    after = found.cut.next;
    does = found.cut.does;
    later = found.cut.later;
    is = found.cut.is;
    sent = found.sent;
    place = deed_place pre told found found.deed found.cut.does found.sent;
  }

-- ---- the law

-- the moment, and what the FISes said that were sent before it
pub record IsFound (many : Bool) (n c dev : ℕ) (at : MachineState) (deeds : List Deed) (now : MachineState) (run : RunsRuled at deeds now) (f : Stamped) (wrote : Wrote) : Type 0 where
  pub prior : List Stamped
  -- all that came of the connection
  pub came : of_conn n c (came_of at deeds now run) ≡ prior
  pub told : told_after None (bytes_of prior) ≡ Some (record { tag = wrote.slot; count = wrote.offset })
  pub found : Found many n c dev at deeds now run prior f

pub found_at : Laws → (ports : ℕ) (legacy : Bool) (old : MachineState) → IsOpeningMachine ports legacy old
    → (before : List Deed) (at : MachineState) (first : RunsRuled old before at) (many : Bool) (n c dev : ℕ) → n < 15 → dev < 16 → BeginsClear n c dev at
    → (deeds : List Deed) (now : MachineState) (run : RunsRuled at deeds now) → AllKeepLine many n c dev at deeds now run
    → (runs : ControllerRuns at deeds now run) → AllHeardWell dev at.controller (calls_in at deeds now run) now.controller runs.calls
    → NoneLost dev (calls_in at deeds now run) → (took : Took) (new : MachineState) → (does : Does now (Moved (act.Takes took)) new)
    → is_of n c does.does.frame ≡ true → port_of does.does.frame.bytes ≡ dev → is_overflow took.report.fault ≡ false
    → (wrote : Wrote) → took.brought ≡ Some wrote → (issue : Issue) → issue_at now.controller.core.slots wrote.slot ≡ Some issue → issue.work.kind ≡ QueuedRead
    → IsFound many n c dev at deeds now run does.does.frame wrote
found_at laws ports legacy old opening before at first many n c dev low dev_low begins deeds now run keeps runs well lost took new does own port calm wrote brought issue there kind =
    let h = does.does in
    let f : Stamped = h.frame in
    let link : AreLinked deeds = linked many n c dev deeds at now run keeps in
    let t : Told at.controller = told_now laws.falls ports legacy old opening before at first in
    let set : told_calls dev None (calls_in at deeds now run) ≡ Some (record { tag = wrote.slot; count = wrote.offset }) =
    laws.follow dev dev_low at.controller now.controller does.middle.controller (calls_in at deeds now run) runs.calls (t.past dev) (t.told dev dev_low) begins.clear well
    f.bytes took (record { framed = h.framed; free = h.free; hears = h.hears }) port calm wrote brought issue there kind in
    let came : List Stamped = came_of at deeds now run in
    let sent : List Stamped = sent_of at deeds now run in
    let taken : bytes_of came ≡ frames_of (calls_in at deeds now run) =
    ap (λ (x : Frames). bytes_of x.came) (sym (frames_are deeds at now run no_frames link)) ∙ laws.taken at deeds now run no_frames link in
    let told : told_after None (bytes_of (of_conn n c came)) ≡ Some (record { tag = wrote.slot; count = wrote.offset }) =
    sym (own_told n c dev came None (came_one many n c dev deeds at now run keeps)) ∙ ap (λ l. told_own dev None l) taken ∙ sym (calls_told dev (calls_in at deeds now run) None lost) ∙ set in
    let was : Frames = frames_in no_frames old before at first in
    let risen_at : HaveRisen at was = laws.falls.rising old before at first no_frames (laws.falls.opens_rising ports legacy old opening) in
    let all : Frames = frames_in was at deeds now run in
    let risen_now : HaveRisen now all = laws.falls.rising at deeds now run was risen_at in
    let order : InOrder n c came sent f =
    in_order n c at now was all came sent f (laws.order at was risen_at n c low) (laws.order now all risen_now n c low) (frames_are deeds at now run was link) begins.way begins.lasts
    (untaken_is now f h.once h.on) own in
    record { prior = of_conn n c came; came = refl; told = told; found = find many n c dev deeds at now run keeps (of_conn n c came) order.rest f order.is }

pub payload_goes : Laws → PayloadGoesToItsOwnSlot
payload_goes laws ports legacy old opening before at first many n c dev low dev_low begins p limit base are same deeds now run keeps runs well lost took new does own port calm wrote brought issue there kind =
    let it : IsFound many n c dev at deeds now run does.does.frame wrote =
    found_at laws ports legacy old opening before at first many n c dev low dev_low begins deeds now run keeps runs well lost took new does own port calm wrote brought issue there kind in
    own_slot laws.tell laws.given laws.parts laws.disks many n c dev at begins.disk begins.there p limit base are same deeds now run does.does.frame wrote own it.prior it.told it.found
