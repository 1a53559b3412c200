-- What each device sends, and what its Data are.
use Rattle.std.proofs.Common.{◌≡◌, ℕ, ◌+◌, ◌*◌, ◌/◌, Bool, true, false, List, [], ◌∷◌, length, drop, Some, None, Option, Result, Ok, Err, refl, sym}
use Rattle.std.proofs.{Common.{ap, ◌∙◌, subst, arith, inl, inr, All, Contains}, lemmas.{Bool.{false≢true}, List.{drop-set-lt, get_or-set_other}}}
use Rattle.std.proofs.lemmas.List.Elements.{All-cons, All-contains, All-contains_itself, All-nil, All-weaker, Contains-push}
use Rattle.std.specs.Prelude.{if◌then◌else◌, slice_index}
use Rattle.fis_view.specs.{Frames.{Stamped, marked}, Seen.{kind_of_type, may_have, seen, view_as}, declared.view.Fis.Fis}
use Rattle.fis_view.specs.declared.view.FisFault.TheVariants.{WrongLength}
use Rattle.fis_view.specs.declared.view.Fis.TheVariants as view
use Rattle.fan_out.specs.declared.fan_out.FanOut.{FanOut, TheVariants.{Device, Multiplier}}
use Rattle.ata_front.specs.declared.task.Page as own
use Rattle.block_disk.specs.Laws.{Page}
use Rattle.ata_reply.specs.{Replies.Shows, declared.reply.Reply.Reply}
use Rattle.ata_reply.specs.declared.reply.Reply.TheVariants as reply
use Rattle.block_queue.specs.Line.{command_at}
use Rattle.disk_pages.specs.declared.profile.Profile.{Profile}
use Rattle.sata_disk.specs.{Pages.IsPage, Sending.{IsOut, part_at}, State.{DiskState, commands}, declared.out.Out.Out}
use Rattle.sata_disk.specs.declared.out.Out.TheVariants as out
use Rattle.sata_disk_books.specs.Books.{AreOfPage, CommandsAreAsked, DataAreGiven, page_in}
use Rattle.sata_disk_laws.specs.{Calls.Call, Laws.reached}
use Rattle.ahci_machine.specs.{States.{MachineState, bay_at}, declared.{act.Act.Act, bay.Unit.{Unit as Inside, TheVariants.Disk}}}
use Rattle.ahci_machine.specs.declared.act.Act.TheVariants as act
use Rattle.machine_laws.specs.{ControllerLaws.RunsRuled, Deeds.{Deed, Does, Moved, FrameOffered}, Rising.{CarriesPart, DataCarryParts, is_multiplier}}
use Rattle.machine_laws.specs.Rising.{risen, sent_by, unless_back}
use Rattle.machine_theorem.specs.Origins.{AreOfCommand, AreOwnPage, AreSectors, IsSentIn, Origin, sender}

-- the laws, as the crates below have them
pub record Laws : Type 0 where
  pub given : DataAreGiven
  pub asked : CommandsAreAsked
  pub parts : DataCarryParts

-- ---- the type of a FIS

data_by : (f : List ℕ) (v : Fis) (b : Bool) → (if b then Ok (view.Payload f) else Err WrongLength) ≡ Ok v → v ≡ view.Payload f
data_by f v true h = cc
data_by f v false h = absurd (cc)

-- a FIS of type 46h is seen as Data
pub seen_data : (f : List ℕ) (v : Fis) → slice_index f 0 ≡ 0x46 → seen f ≡ Ok v → v ≡ view.Payload f
unfolding seen
seen_data f v type e =
    data_by f v (may_have (kind_of_type 0x46) (length f)) (ap (λ (k : ℕ). if may_have (kind_of_type k) (length f) then Ok (view_as (kind_of_type k) f) else Err WrongLength) (sym type) ∙ e)

register : (f : List ℕ) → slice_index f 0 ≡ 0x46 → seen f ≡ Ok (view.RegD2H f) → ⊥
register f type is = let same : view.RegD2H f ≡ view.Payload f = seen_data f (view.RegD2H f) type is in cc

bits : (f : List ℕ) → slice_index f 0 ≡ 0x46 → seen f ≡ Ok (view.SetBits f) → ⊥
bits f type is = let same : view.SetBits f ≡ view.Payload f = seen_data f (view.SetBits f) type is in cc

-- and no reply is one
no_reply : (r : Reply) (f : List ℕ) → Shows r f → slice_index f 0 ≡ 0x46 → ⊥
no_reply (reply.Ends tags) f shows type = bits f type shows.viewed
no_reply (reply.Aborts error) f shows type = bits f type shows.viewed
no_reply (reply.SetUp s) f shows type = let same : view.DmaSetup f ≡ view.Payload f = seen_data f (view.DmaSetup f) type shows.viewed in cc
no_reply (reply.Announce a) f shows type = let same : view.PioSetup f ≡ view.Payload f = seen_data f (view.PioSetup f) type shows.viewed in cc
no_reply reply.Activate f shows type = let same : view.DmaActivate f ≡ view.Payload f = seen_data f (view.DmaActivate f) type shows.viewed in cc
no_reply other f shows type = register f type shows.viewed

-- ---- only the PM Port is written on the way up

pub marked_rest : (bytes : List ℕ) (port : ℕ) → drop 4 (marked bytes port) ≡ drop 4 bytes
marked_rest bytes port = drop-set-lt 4 bytes 1 (slice_index bytes 1 / 16 * 16 + port) (omega arith)

pub marked_type : (bytes : List ℕ) (port : ℕ) → slice_index (marked bytes port) 0 ≡ slice_index bytes 0
marked_type bytes port = get_or-set_other bytes 1 0 (slice_index bytes 1 / 16 * 16 + port) 0 (λ same. omega (arith, same))

rest_is : (f : FanOut) (n : ℕ) (frame : Stamped) → drop 4 (risen f n frame).bytes ≡ drop 4 frame.bytes
rest_is (Device s) n frame = marked_rest frame.bytes s.asked
rest_is (Multiplier f) n frame = marked_rest frame.bytes n

pub type_is : (f : FanOut) (n : ℕ) (frame : Stamped) → slice_index (risen f n frame).bytes 0 ≡ slice_index frame.bytes 0
type_is (Device s) n frame = marked_type frame.bytes s.asked
type_is (Multiplier f) n frame = marked_type frame.bytes n

-- ---- each deed

-- a disk that is the same one
abbrev the_disk : DiskState → Inside → DiskState
the_disk d (Disk e) = e
the_disk d other = d

one_disk : (d e : DiskState) → Disk d ≡ Disk e → d ≡ e
one_disk d e is = ap (the_disk d) is

-- its stamp has the port of its device, and if it is a Data FIS, its bytes are these
pub record HasOrigin (old : MachineState) (deed : Deed) (f : Stamped) : Type 0 where
  pub port : is_multiplier old.fan ≡ true → f.stamp.port ≡ sender deed
  pub origin : slice_index f.bytes 0 ≡ 0x46 → Origin old deed (drop 4 f.bytes)

pub stamped : (f : FanOut) (n : ℕ) (frame : Stamped) → is_multiplier f ≡ true → (risen f n frame).stamp.port ≡ n
stamped (Device s) n frame on = absurd (false≢true on)
stamped (Multiplier f) n frame on = refl

pub only : (P : Stamped → Type 0) (f : Stamped) → P f → All P (f ∷ [])
only P f h = All-cons P f [] h (All-nil P)

-- the page of the books, with what was asked for
of_command : CommandsAreAsked → (p : Profile) (limit : ℕ) (calls : List Call) (place : ℕ) (bytes : List ℕ) (x : Option Page) → page_in p limit calls place ≡ x → AreOfPage x bytes
    → AreOfCommand p limit calls place bytes
of_command law p limit calls place bytes None is next = absurd next
of_command law p limit calls place bytes (Some page) is next = record { page = page; is = is; asked = law p limit calls place page is; next = next }

sectors : Laws → (old : MachineState) (n place len : ℕ) (disk : DiskState) → IsOut disk (Some (out.Data place len)) → (bay_at old n).unit ≡ Disk disk
    → (f : Stamped) → CarriesPart old n place f → AreSectors old n place (drop 4 f.bytes)
sectors laws old n place len disk next there f h = record {
  disk = disk;
  there = there;
  given = λ p limit calls are is.
      let part : part_at (command_at (commands (reached p limit calls)) place) ≡ drop 4 f.bytes =
      ap (λ (d : DiskState). part_at (command_at (commands d) place)) (sym (one_disk h.disk disk (sym h.there ∙ there) ∙ is)) ∙ sym h.part in
      of_command laws.asked p limit calls place (drop 4 f.bytes) (page_in p limit calls place) refl
      (subst (λ (bytes : List ℕ). AreOfPage (page_in p limit calls place) bytes) part
      (laws.given p limit calls place len are (subst (λ (d : DiskState). IsOut d (Some (out.Data place len))) is next)));
}

own_page : (old : MachineState) (n : ℕ) (page : own.Page) (disk : DiskState) (frame : Stamped) → IsPage disk.profile disk.front page (drop 4 frame.bytes)
    → (bay_at old n).unit ≡ Disk disk → AreOwnPage old n page (drop 4 (risen old.fan n frame).bytes)
own_page old n page disk frame is there =
    record { disk = disk; there = there; is = subst (λ (b : List ℕ). IsPage disk.profile disk.front page b) (sym (rest_is old.fan n frame)) is }

-- a FIS that is no Data
other_fis : (old : MachineState) (deed : Deed) (n : ℕ) (r : Reply) (frame : Stamped) → Shows r frame.bytes → (is_multiplier old.fan ≡ true → (risen old.fan n frame).stamp.port ≡ sender deed)
    → HasOrigin old deed (risen old.fan n frame)
other_fis old deed n r frame shows by = record { port = by; origin = λ type. absurd (no_reply r frame.bytes shows (sym (type_is old.fan n frame) ∙ type)) }

speaks : Laws → (old : MachineState) (n : ℕ) (o : Out) (new : MachineState) (does : Does old (Moved (act.Speaks n o)) new)
    → All (HasOrigin old (Moved (act.Speaks n o))) (sent_by old (Moved (act.Speaks n o)) new does)
speaks laws old n (out.Data place len) new does =
    let h = does.does.does.1 in
    let f : Stamped = risen old.fan n h.frame in
    let carries : CarriesPart old n place f = All-contains (CarriesPart old n place) (f ∷ []) f (laws.parts old n place len new does) (Contains-push [] f) in
    only (HasOrigin old (Moved (act.Speaks n (out.Data place len)))) f
    (record { port = stamped old.fan n h.frame; origin = λ type. sectors laws old n place len h.disk h.next h.there f carries })
speaks laws old n (out.Page page) new does =
    let h = does.does.does.1 in
    only (HasOrigin old (Moved (act.Speaks n (out.Page page)))) (risen old.fan n h.frame)
    (record { port = stamped old.fan n h.frame; origin = λ type. own_page old n page h.disk h.frame h.bytes.0 h.there })
speaks laws old n (out.Own r) new does =
    let h = does.does.does.1 in
    only (HasOrigin old (Moved (act.Speaks n (out.Own r)))) (risen old.fan n h.frame)
    (other_fis old (Moved (act.Speaks n (out.Own r))) n r h.frame h.bytes (stamped old.fan n h.frame))
speaks laws old n (out.Beside r) new does =
    let h = does.does.does.1 in
    only (HasOrigin old (Moved (act.Speaks n (out.Beside r)))) (risen old.fan n h.frame)
    (other_fis old (Moved (act.Speaks n (out.Beside r))) n r h.frame h.bytes (stamped old.fan n h.frame))
speaks laws old n (out.Ends tags) new does =
    let h = does.does.does.1 in
    only (HasOrigin old (Moved (act.Speaks n (out.Ends tags)))) (risen old.fan n h.frame)
    (other_fis old (Moved (act.Speaks n (out.Ends tags))) n (reply.Ends tags) h.frame h.bytes (stamped old.fan n h.frame))
speaks laws old n (out.Of p r) new does =
    let h = does.does.does.1 in
    only (HasOrigin old (Moved (act.Speaks n (out.Of p r)))) (risen old.fan n h.frame)
    (other_fis old (Moved (act.Speaks n (out.Of p r))) n r h.frame h.bytes (stamped old.fan n h.frame))

offers : (old : MachineState) (n : ℕ) (frame : Stamped) (told : Result (Unit {0}) Stamped) (answer : Result (Unit {0}) Stamped)
    → All (HasOrigin old (FrameOffered n frame told)) (unless_back answer (risen old.fan n frame))
offers old n frame told (Ok x) = only (HasOrigin old (FrameOffered n frame told)) (risen old.fan n frame)
    (record { port = stamped old.fan n frame; origin = λ type. rest_is old.fan n frame })
offers old n frame told (Err back) = All-nil (HasOrigin old (FrameOffered n frame told))

moves : Laws → (old : MachineState) (a : Act) (new : MachineState) (does : Does old (Moved a) new)
    → All (HasOrigin old (Moved a)) (sent_by old (Moved a) new does)
moves laws old (act.Speaks n o) new does = speaks laws old n o new does
moves laws old other new does = All-nil (HasOrigin old (Moved other))

pub origins : Laws → (old : MachineState) (deed : Deed) (new : MachineState) (does : Does old deed new)
    → All (HasOrigin old deed) (sent_by old deed new does)
origins laws old (Moved a) new does = moves laws old a new does
origins laws old (FrameOffered n frame told) new does = offers old n frame told told
origins laws old other new does = All-nil (HasOrigin old other)

-- ---- a run

-- it holds of all that is sent
abbrev pub AllSent : (Stamped → Type 0) → (old : MachineState) → (deeds : List Deed) → (new : MachineState) → RunsRuled old deeds new → Type 0
AllSent P old [] new run = Unit {0}
AllSent P old (deed ∷ later) new run = All P (sent_by old deed run.1.0 run.1.1) × AllSent P run.1.0 later new run.1.2

-- what holds of each Data FIS of a run
pub each_sent : Laws → (P : Stamped → Type 0) (old : MachineState) (deeds : List Deed) (new : MachineState) (run : RunsRuled old deeds new)
    → ((f : Stamped) → IsSentIn f old deeds new run → P f) → AllSent (λ f. slice_index f.bytes 0 ≡ 0x46 → P f) old deeds new run
each_sent laws P old [] new run holds = tt
each_sent laws P old (deed ∷ later) new run holds =
    let sent : List Stamped = sent_by old deed run.1.0 run.1.1 in (
      All-weaker (λ f. Contains sent f) (λ f. slice_index f.bytes 0 ≡ 0x46 → P f)
          (λ f has type.
          let h : HasOrigin old deed f = All-contains (HasOrigin old deed) sent f (origins laws old deed run.1.0 run.1.1) has in
          holds f (inl (record { sent = has; port = h.port; origin = h.origin type }))) sent (All-contains_itself sent),
      each_sent laws P run.1.0 later new run.1.2 (λ f is. holds f (inr is)),
    )
