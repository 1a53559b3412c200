-- A disk sends no more FISes that name a tag than ends with it, and nobody else sends one at its port.
use Rattle.std.proofs.Common.{◌≡◌, ℕ, ◌+◌, ◌<◌, ◌≤◌, Bool, true, false, List, [], ◌∷◌, ◌++◌, length, Some, Result, Ok, Err, refl, sym, ap, subst, ◌∙◌}
use Rattle.std.proofs.{Common.arith, lemmas.{Bool.{and_parts, eq-eqb, eqb-true, false≢true, ltb-true}, List.{length-append}}}
use Rattle.std.specs.Prelude.{◌==◌, if◌then◌else◌}
use Rattle.fis_view.specs.{Frames.Stamped, Seen.seen, Table.SActive}
use Rattle.fis_view.specs.declared.view.Fis.TheVariants as view
use Rattle.slots.specs.Slots.{has_bit}
use Rattle.fan_out.specs.{FanOuts.wants_at, declared.fan_out.FanOut.{FanOut, TheVariants.{Device, Multiplier}}}
use Rattle.ata_reply.specs.{Replies.Shows, declared.reply.Reply.Reply}
use Rattle.disk_pages.specs.declared.profile.Profile.{Profile}
use Rattle.sata_disk.specs.{Sending.IsOut, State.{DiskState, new_disk}, declared.out.Out.Out}
use Rattle.sata_disk.specs.declared.out.Out.TheVariants as out
use Rattle.sata_disk_books.specs.Ended.{IsNoEnd, NamesNone, OnlyEndsEnd}
use Rattle.sata_disk_laws.specs.{Calls.{Call, Sends, after_calls}, Laws.reached}
use Rattle.sata_disk_laws.proofs.Door.{calls_after}
use Rattle.ahci_machine.specs.{Answers.is_own, States.{MachineState, bay_at}, declared.bay.Unit.{Unit as Inside, TheVariants.Disk}}
use Rattle.ahci_machine.specs.declared.act.Act.TheVariants as act
use Rattle.machine_laws.specs.{ControllerLaws.RunsRuled, Deeds.{Deed, Does, FrameOffered, Moved}, Disks.{DisksGoOn, calls_at}, Rising.is_multiplier}
use Rattle.machine_laws.specs.Rising.{risen, sent_by, unless_back}
use Rattle.machine_theorem.specs.{Identity.{AllKeep, IsThere, calls_of, names_in, picks}, Tags.{ended_with, ends_with, once_if}}
use Rattle.machine_theorem.proofs.{EndSent.{cut_bit, no_reply, other_kind, risen_sactive}, Fallen.left_there, Risen.{IsNaming, names_of, naming_is}}
use Rattle.machine_theorem.proofs.{Sent.{stamped, type_is}, TagCounts.ended_both, Within.picks_both}

-- ---- which port it is

pub straight_port : (fan : FanOut) (k : ℕ) (frame : Stamped) → is_multiplier fan ≡ false → (risen fan k frame).stamp.port ≡ 0
straight_port (Device s) k frame end = refl
straight_port (Multiplier f) k frame end = absurd (false≢true (sym end))

straight_room : (fan : FanOut) (k : ℕ) → is_multiplier fan ≡ false → wants_at fan k ≡ true → k ≡ 0
straight_room (Device s) k end room = let less = ltb-true k 1 (and_parts _ _ room).0 in omega (arith, less)
straight_room (Multiplier f) k end room = absurd (false≢true (sym end))

-- what a device with room sends with the stamp of the port it sends there
pub sender_is : (many : Bool) (n : ℕ) (old : MachineState) (k : ℕ) (frame : Stamped) → IsThere many n old → wants_at old.fan k ≡ true → ((risen old.fan k frame).stamp.port == n) ≡ true → k ≡ n
sender_is true n old k frame there room port = sym (stamped old.fan k frame there.fan) ∙ eqb-true (risen old.fan k frame).stamp.port n port
sender_is false n old k frame there room port = straight_room old.fan k there.fan room ∙ sym (there.one refl)

-- ---- what it says

-- a FIS of a disk that names the tag is an end with it
reply_none : {C : Type 0} (tag : ℕ) (old : MachineState) (k : ℕ) (frame : Stamped) (r : Reply) → IsNoEnd r → Shows r frame.bytes → IsNaming tag (risen old.fan k frame).bytes → C
reply_none tag old k frame r none shows is =
    absurd (no_reply r frame.bytes (risen old.fan k frame).bytes tag none shows (type_is old.fan k frame) (risen_sactive old.fan k frame) is.viewed is.names)

data_none : {C : Type 0} (tag : ℕ) (old : MachineState) (k : ℕ) (frame : Stamped) → seen frame.bytes ≡ Ok (view.Payload frame.bytes) → IsNaming tag (risen old.fan k frame).bytes → C
data_none tag old k frame viewed is =
    absurd (other_kind (risen old.fan k frame).bytes frame.bytes (view.Payload frame.bytes) (type_is old.fan k frame) is.viewed viewed (λ e. absurd (cc)))

says : (tag : ℕ) → tag < 32 → (old : MachineState) (k : ℕ) (o : Out) (new : MachineState) (does : Does old (Moved (act.Speaks k o)) new) → NamesNone o
    → IsNaming tag (risen old.fan k does.does.does.1.frame).bytes → ends_with tag (Sends o) ≡ 1
says tag low old k (out.Ends tags) new does none is =
    let h = does.does.does.1 in
    ap once_if (cut_bit tags tag low (subst (λ (y : ℕ). has_bit y tag ≡ true) (risen_sactive old.fan k h.frame ∙ h.bytes.fields SActive) is.names))
says tag low old k (out.Own r) new does none is = let h = does.does.does.1 in reply_none tag old k h.frame r none h.bytes is
says tag low old k (out.Beside r) new does none is = let h = does.does.does.1 in reply_none tag old k h.frame r none h.bytes is
says tag low old k (out.Of p r) new does none is = let h = does.does.does.1 in reply_none tag old k h.frame r none h.bytes is
says tag low old k (out.Page page) new does none is = let h = does.does.does.1 in data_none tag old k h.frame h.bytes.1.1 is
says tag low old k (out.Data place len) new does none is = let h = does.does.does.1 in data_none tag old k h.frame h.bytes.1 is

-- ---- one deed

pub disk_same : (a b : DiskState) → Disk a ≡ Disk b → a ≡ b
disk_same a b e = cc

pub one_call : (k n tag : ℕ) (o : Out) → k ≡ n → ends_with tag (Sends o) ≡ 1 → ended_with tag (if k == n then Sends o ∷ [] else []) ≡ 1
one_call k n tag o same one =
    ap (λ (b : Bool). ended_with tag (if b then Sends o ∷ [] else [])) (eq-eqb k n same) ∙ whole
  where
    whole : ended_with tag (Sends o ∷ []) ≡ 1
    whole = omega (arith, one)

if_few : (b : Bool) (f : Stamped) (n : ℕ) → (b ≡ true → n ≡ 1) → length (if b then f ∷ [] else []) ≤ n
if_few true f n one = let is = one refl in omega (arith, is)
if_few false f n one = omega arith

pub own_not : (u : Inside) (d : DiskState) → u ≡ Disk d → is_own u ≡ true → ⊥
own_not u d is own = false≢true (sym (ap is_own is) ∙ own)

-- what the devices send by these deeds
abbrev pub sent_of : (old : MachineState) → (deeds : List Deed) → (now : MachineState) → RunsRuled old deeds now → List Stamped
sent_of old [] now run = []
sent_of old (deed ∷ later) now run = sent_by old deed run.1.0 run.1.1 ++ sent_of run.1.0 later now run.1.2

module _ (laws : OnlyEndsEnd) (many : Bool) (n tag : ℕ) (low : tag < 32) (p : Profile) (limit : ℕ) where
  speaks_few : (old : MachineState) (k : ℕ) (o : Out) (new : MachineState) (does : Does old (Moved (act.Speaks k o)) new) → IsThere many n old → (d : DiskState) → (bay_at old n).unit ≡ Disk d
      → (base : List Call) → d ≡ reached p limit base
      → length (picks (names_of n tag) (risen old.fan k does.does.does.1.frame ∷ [])) ≤ ended_with tag (if k == n then Sends o ∷ [] else [])
  speaks_few old k o new does there d unit base same =
      let h = does.does.does.1 in
      let f : Stamped = risen old.fan k h.frame in
      if_few (names_of n tag f) f (ended_with tag (if k == n then Sends o ∷ [] else [])) (λ named.
      let both = and_parts (f.stamp.port == n) (names_in tag (seen f.bytes)) named in
      let here : k ≡ n = sender_is many n old k h.frame there h.room both.0 in
      let disk : h.disk ≡ d = disk_same h.disk d (sym h.there ∙ ap (λ (j : ℕ). (bay_at old j).unit) here ∙ unit) in
      let none : NamesNone o = laws p limit base o (subst (λ (x : DiskState). IsOut x (Some o)) (disk ∙ same) h.next) in
      one_call k n tag o here (says tag low old k o new does none (naming_is tag f.bytes both.1)))

  offers_few : (old : MachineState) (k : ℕ) (frame : Stamped) (told : Result (Unit {0}) Stamped) (new : MachineState) → Does old (FrameOffered k frame told) new → IsThere many n old
      → (d : DiskState) → (bay_at old n).unit ≡ Disk d → length (picks (names_of n tag) (unless_back told (risen old.fan k frame))) ≤ 0
  offers_few old k frame (Err back) new does there d unit = omega arith
  offers_few old k frame (Ok x) new does there d unit =
      let f : Stamped = risen old.fan k frame in
      if_few (names_of n tag f) f 0 (λ named.
      let both = and_parts (f.stamp.port == n) (names_in tag (seen f.bytes)) named in
      let here : k ≡ n = sender_is many n old k frame there does.own.1 both.0 in
      absurd (own_not (bay_at old k).unit d (ap (λ (j : ℕ). (bay_at old j).unit) here ∙ unit) does.own.0))

  deed_few : (old : MachineState) (deed : Deed) (new : MachineState) (does : Does old deed new) → IsThere many n old → (d : DiskState) → (bay_at old n).unit ≡ Disk d
      → (base : List Call) → d ≡ reached p limit base → length (picks (names_of n tag) (sent_by old deed new does)) ≤ ended_with tag (calls_at old deed n)
  deed_few old (Moved (act.Speaks k o)) new does there d unit base same = speaks_few old k o new does there d unit base same
  deed_few old (Moved a) new does there d unit base same = omega arith
  deed_few old (FrameOffered k frame told) new does there d unit base same = let few = offers_few old k frame told new does there d unit in omega (arith, few)
  deed_few old deed new does there d unit base same = omega arith

  pub sent_few : DisksGoOn → (deeds : List Deed) (old now : MachineState) (run : RunsRuled old deeds now) → AllKeep many n tag old deeds now run → (d : DiskState) → (bay_at old n).unit ≡ Disk d
      → (base : List Call) → d ≡ reached p limit base → length (picks (names_of n tag) (sent_of old deeds now run)) ≤ ended_with tag (calls_of n old deeds now run)
  sent_few goes [] old now run keeps d unit base same = omega arith
  sent_few goes (deed ∷ later) old now run keeps d unit base same =
      let mid : MachineState = run.1.0 in
      let calls : List Call = calls_at old deed n in
      let on = goes old deed mid run.1.1 n d unit (left_there n deed keeps.0.left) in
      let next : after_calls d calls ≡ reached p limit (base ++ calls) = ap (λ (x : DiskState). after_calls x calls) same ∙ sym (calls_after base calls (new_disk p limit)) in
      let first = deed_few old deed mid run.1.1 keeps.0.end d unit base same in
      let rest = sent_few goes later mid now run.1.2 keeps.1 (after_calls d calls) on.is (base ++ calls) next in
      let a : length (picks (names_of n tag) (sent_by old deed mid run.1.1 ++ sent_of mid later now run.1.2))
      ≡ length (picks (names_of n tag) (sent_by old deed mid run.1.1)) + length (picks (names_of n tag) (sent_of mid later now run.1.2)) =
      ap (λ (l : List Stamped). length l) (picks_both (names_of n tag) (sent_by old deed mid run.1.1) (sent_of mid later now run.1.2))
      ∙ length-append (picks (names_of n tag) (sent_by old deed mid run.1.1)) (picks (names_of n tag) (sent_of mid later now run.1.2)) in
      let b = ended_both tag calls (calls_of n mid later now run.1.2) in
      omega (arith, first, rest, a, b)
