-- What each device sends that names a slot in a Set Device Bits FIS.
use Rattle.std.proofs.Common.{◌≡◌, ℕ, zero, suc, ◌+◌, ◌*◌, ◌/◌, ◌%◌, ◌^◌, ◌<◌, ◌≤◌, Bool, true, false, List, [], ◌∷◌, length, Some, Result, Ok, Err}
use Rattle.std.proofs.{Common.{refl, sym, ap, ◌∙◌, subst, arith, inl, inr, All, Contains}, lemmas.{Bool.{false≢true}, List.{get_or-set_other}}}
use Rattle.std.proofs.lemmas.{List.Elements.{All-contains, All-contains_itself, All-nil, All-weaker}, Nat.Bits.{bit_at-zero, bit_at_cat_low}}
use Rattle.std.specs.{Prelude.{◌==◌, if◌then◌else◌, slice_index, slice_set}, Int.bit_at}
use Rattle.fis_view.specs.{Bits.bits, Built.cut, Frames.{Stamped, marked}, Seen.{kind_of, may_have, seen, view_as}, Table.{Bits, Kind, Run, SActive}}
use Rattle.fis_view.specs.{Table.{field, places, spelled}, declared.view.{Fis.Fis, FisFault.{FisFault, TheVariants.WrongLength}}}
use Rattle.fis_view.specs.Table as table
use Rattle.fis_view.specs.declared.view.Fis.TheVariants as view
use Rattle.slots.specs.Slots.{has_bit}
use Rattle.fan_out.specs.declared.fan_out.FanOut.{FanOut, TheVariants.{Device, Multiplier}}
use Rattle.ata_reply.specs.{Replies.Shows, declared.reply.Reply.Reply}
use Rattle.ata_reply.specs.declared.reply.Reply.TheVariants as reply
use Rattle.sata_disk.specs.{Sending.IsOut, State.DiskState, declared.out.Out.Out}
use Rattle.sata_disk.specs.declared.out.Out.TheVariants as out
use Rattle.sata_disk_books.specs.Ended.{EndsAreOfPages, IsNoEnd, NamesNone, OnlyEndsEnd}
use Rattle.ahci_machine.specs.{States.{MachineState, bay_at}, declared.{act.Act.Act, bay.Unit.TheVariants.Disk}}
use Rattle.ahci_machine.specs.declared.act.Act.TheVariants as act
use Rattle.machine_laws.specs.{ControllerLaws.RunsRuled, Deeds.{Deed, Does, Moved, FrameOffered}, Rising.{is_multiplier, risen, sent_by, unless_back}}
use Rattle.machine_theorem.specs.{Ends.{EndOrigin, IsEndIn}, Origins.sender}
use Rattle.machine_theorem.proofs.Sent.{AllSent, only, stamped, type_is}

-- the laws, as the crates below have them
pub record Laws : Type 0 where
  pub ends : EndsAreOfPages
  pub only : OnlyEndsEnd

-- ---- kinds

abbrev pub kind_view : Fis → Kind
kind_view (view.RegH2D f) = table.H2d
kind_view (view.RegD2H f) = table.D2h
kind_view (view.SetBits f) = table.Bits
kind_view (view.DmaActivate f) = table.Activate
kind_view (view.DmaSetup f) = table.Setup
kind_view (view.PioSetup f) = table.Pio
kind_view (view.Payload f) = table.Data
kind_view (view.Unknown f) = table.Other

abbrev kind_in : Result Fis FisFault → Kind
kind_in (Ok v) = kind_view v
kind_in (Err e) = table.Other

view_kind : (kind : Kind) (b : Bool) (f : List ℕ) (v : Fis) → (if b then Ok (view_as kind f) else Err WrongLength) ≡ Ok v → kind ≡ kind_view v
view_kind kind false f v h = absurd (cc)
view_kind table.H2d true f v h = ap kind_in h
view_kind table.D2h true f v h = ap kind_in h
view_kind table.Activate true f v h = ap kind_in h
view_kind table.Setup true f v h = ap kind_in h
view_kind table.Data true f v h = ap kind_in h
view_kind table.Pio true f v h = ap kind_in h
view_kind table.Bits true f v h = ap kind_in h
view_kind table.Other true f v h = ap kind_in h

pub seen_kind : (f : List ℕ) (v : Fis) → seen f ≡ Ok v → kind_of f ≡ kind_view v
unfolding seen
seen_kind f v h = view_kind (kind_of f) (may_have (kind_of f) (length f)) f v h

-- a FIS with the type of another has its kind
pub other_kind : {C : Type 0} (f g : List ℕ) (v : Fis) → slice_index f 0 ≡ slice_index g 0 → seen f ≡ Ok (view.SetBits f) → seen g ≡ Ok v → (Bits ≡ kind_view v → C) → C
other_kind f g v same is other absurd_of =
    absurd_of (sym (seen_kind f (view.SetBits f) is) ∙ ap (λ (t : ℕ). kind_of (t ∷ [])) same ∙ seen_kind g v other)

-- ---- SActive

pub set_kept : (f : List ℕ) (v i n : ℕ) → 16 ≤ i → bits (slice_set f 1 v) i n ≡ bits f i n
unfolding bits
set_kept f v i zero high = refl
set_kept f v i (suc n) high =
    let byte : slice_index (slice_set f 1 v) (i / 8) ≡ slice_index f (i / 8) = get_or-set_other f 1 (i / 8) v 0 (λ e. omega (arith, e, high)) in
    let rest : bits (slice_set f 1 v) (suc i) n ≡ bits f (suc i) n = set_kept f v (suc i) n (omega (arith, high)) in
    ap (λ (x : ℕ). bit_at x (i % 8) + 2 * bits (slice_set f 1 v) (suc i) n) byte ∙ ap (λ (x : ℕ). bit_at (slice_index f (i / 8)) (i % 8) + 2 * x) rest

sactive_kept : (f : List ℕ) (port : ℕ) → field Bits SActive (marked f port) ≡ field Bits SActive f
unfolding field places spelled
sactive_kept f port = ap (λ (x : ℕ). x + 2 ^ 32 * 0) (set_kept f (slice_index f 1 / 16 * 16 + port) 32 32 (omega arith))

pub risen_sactive : (f : FanOut) (n : ℕ) (frame : Stamped) → field Bits SActive (risen f n frame).bytes ≡ field Bits SActive frame.bytes
risen_sactive (Device s) n frame = sactive_kept frame.bytes s.asked
risen_sactive (Multiplier f) n frame = sactive_kept frame.bytes n

pub cut_run : (byte low n x : ℕ) → cut (Run byte low n ∷ []) x ≡ x % 2 ^ n
unfolding cut
cut_run byte low n x = omega arith

low_bit : (x tag : ℕ) → tag < 32 → has_bit (x % 2 ^ 32) tag ≡ true → has_bit x tag ≡ true
low_bit x tag low is =
    ap (λ (y : ℕ). y == 1) (ap (λ (y : ℕ). bit_at y tag) whole ∙ bit_at_cat_low (x / 2 ^ 32) 32 (x % 2 ^ 32) tag low) ∙ is
  where
    whole : x ≡ x / 2 ^ 32 * 2 ^ 32 + x % 2 ^ 32
    whole = omega arith

pub cut_bit : (tags tag : ℕ) → tag < 32 → has_bit (cut (places Bits SActive) tags) tag ≡ true → has_bit tags tag ≡ true
unfolding places
cut_bit tags tag low is = low_bit tags tag low (subst (λ (y : ℕ). has_bit y tag ≡ true) (cut_run 4 0 32 tags) is)

none_named : (tag : ℕ) → has_bit (cut (places Bits SActive) 0) tag ≡ true → ⊥
unfolding places
none_named tag is = false≢true (sym (ap (λ (y : ℕ). y == 1) (ap (λ (y : ℕ). bit_at y tag) (cut_run 4 0 32 0) ∙ bit_at-zero tag)) ∙ is)

-- ---- replies

-- no reply but the ends of queued commands names a tag
pub no_reply : (r : Reply) (g f : List ℕ) (tag : ℕ) → IsNoEnd r → Shows r g → slice_index f 0 ≡ slice_index g 0 → field Bits SActive f ≡ field Bits SActive g → seen f ≡ Ok (view.SetBits f)
    → has_bit (field Bits SActive f) tag ≡ true → ⊥
no_reply (reply.Ends tags) g f tag none shows type same is names = none
no_reply (reply.Aborts error) g f tag none shows type same is names =
    none_named tag (subst (λ (y : ℕ). has_bit y tag ≡ true) (same ∙ shows.fields SActive) names)
no_reply (reply.SetUp s) g f tag none shows type same is names = other_kind f g (view.DmaSetup g) type is shows.viewed (λ e. absurd (cc))
no_reply (reply.Announce a) g f tag none shows type same is names = other_kind f g (view.PioSetup g) type is shows.viewed (λ e. absurd (cc))
no_reply reply.Activate g f tag none shows type same is names = other_kind f g (view.DmaActivate g) type is shows.viewed (λ e. absurd (cc))
no_reply other g f tag none shows type same is names = other_kind f g (view.RegD2H g) type is shows.viewed (λ e. absurd (cc))

-- ---- each deed

-- its stamp has the port of its device, and if it names a tag, it is such a FIS
record HasEnd (old : MachineState) (deed : Deed) (f : Stamped) : Type 0 where
  port : is_multiplier old.fan ≡ true → f.stamp.port ≡ sender deed
  origin : (tag : ℕ) → tag < 32 → seen f.bytes ≡ Ok (view.SetBits f.bytes) → has_bit (field Bits SActive f.bytes) tag ≡ true → EndOrigin old deed tag

-- the command of a tag in the ends that a disk sends
ends : Laws → (old : MachineState) (n tags : ℕ) (frame : Stamped) (disk : DiskState) → (bay_at old n).unit ≡ Disk disk → IsOut disk (Some (out.Ends tags))
    → Shows (reply.Ends tags) frame.bytes → HasEnd old (Moved (act.Speaks n (out.Ends tags))) (risen old.fan n frame)
ends laws old n tags frame disk there next shows = record {
  port = stamped old.fan n frame;
  origin = λ tag low is names. record {
    disk = disk;
    there = there;
    earned = λ p limit calls are same.
        laws.ends p limit calls tags are (subst (λ (d : DiskState). IsOut d (Some (out.Ends tags))) same next) tag low
        (cut_bit tags tag low (subst (λ (y : ℕ). has_bit y tag ≡ true) (risen_sactive old.fan n frame ∙ shows.fields SActive) names));
  };
}

-- no other FIS of a disk names one
other : Laws → (old : MachineState) (n : ℕ) (o : Out) (frame : Stamped) (disk : DiskState) → (bay_at old n).unit ≡ Disk disk → IsOut disk (Some o)
    → (NamesNone o → (tag : ℕ) → seen (risen old.fan n frame).bytes ≡ Ok (view.SetBits (risen old.fan n frame).bytes)
    → has_bit (field Bits SActive (risen old.fan n frame).bytes) tag ≡ true → ⊥)
    → HasEnd old (Moved (act.Speaks n o)) (risen old.fan n frame)
other laws old n o frame disk there next never = record {
  port = stamped old.fan n frame;
  origin = λ tag low is names. record {
    disk = disk;
    there = there;
    earned = λ p limit calls are same.
        absurd (never (laws.only p limit calls o (subst (λ (d : DiskState). IsOut d (Some o)) same next)) tag is names);
  };
}

replies : Laws → (old : MachineState) (n : ℕ) (o : Out) (r : Reply) (frame : Stamped) (disk : DiskState) → (bay_at old n).unit ≡ Disk disk → IsOut disk (Some o)
    → (NamesNone o → IsNoEnd r) → Shows r frame.bytes → HasEnd old (Moved (act.Speaks n o)) (risen old.fan n frame)
replies laws old n o r frame disk there next none shows =
    other laws old n o frame disk there next
    (λ only_is tag is names. no_reply r frame.bytes (risen old.fan n frame).bytes tag (none only_is) shows (type_is old.fan n frame) (risen_sactive old.fan n frame) is names)

-- Data name none
data_fis : Laws → (old : MachineState) (n : ℕ) (o : Out) (frame : Stamped) (disk : DiskState) → (bay_at old n).unit ≡ Disk disk → IsOut disk (Some o)
    → seen frame.bytes ≡ Ok (view.Payload frame.bytes) → HasEnd old (Moved (act.Speaks n o)) (risen old.fan n frame)
data_fis laws old n o frame disk there next viewed =
    other laws old n o frame disk there next
    (λ only_is tag is names. other_kind (risen old.fan n frame).bytes frame.bytes (view.Payload frame.bytes) (type_is old.fan n frame) is viewed (λ e. absurd (cc)))

speaks : Laws → (old : MachineState) (n : ℕ) (o : Out) (new : MachineState) (does : Does old (Moved (act.Speaks n o)) new)
    → All (HasEnd old (Moved (act.Speaks n o))) (sent_by old (Moved (act.Speaks n o)) new does)
speaks laws old n (out.Ends tags) new does =
    let h = does.does.does.1 in
    only (HasEnd old (Moved (act.Speaks n (out.Ends tags)))) (risen old.fan n h.frame) (ends laws old n tags h.frame h.disk h.there h.next h.bytes)
speaks laws old n (out.Own r) new does =
    let h = does.does.does.1 in
    only (HasEnd old (Moved (act.Speaks n (out.Own r)))) (risen old.fan n h.frame) (replies laws old n (out.Own r) r h.frame h.disk h.there h.next (λ none. none) h.bytes)
speaks laws old n (out.Beside r) new does =
    let h = does.does.does.1 in
    only (HasEnd old (Moved (act.Speaks n (out.Beside r)))) (risen old.fan n h.frame) (replies laws old n (out.Beside r) r h.frame h.disk h.there h.next (λ none. none) h.bytes)
speaks laws old n (out.Of p r) new does =
    let h = does.does.does.1 in
    only (HasEnd old (Moved (act.Speaks n (out.Of p r)))) (risen old.fan n h.frame) (replies laws old n (out.Of p r) r h.frame h.disk h.there h.next (λ none. none) h.bytes)
speaks laws old n (out.Page page) new does =
    let h = does.does.does.1 in
    only (HasEnd old (Moved (act.Speaks n (out.Page page)))) (risen old.fan n h.frame) (data_fis laws old n (out.Page page) h.frame h.disk h.there h.next h.bytes.1.1)
speaks laws old n (out.Data place len) new does =
    let h = does.does.does.1 in
    only (HasEnd old (Moved (act.Speaks n (out.Data place len)))) (risen old.fan n h.frame) (data_fis laws old n (out.Data place len) h.frame h.disk h.there h.next h.bytes.1)

offers : (old : MachineState) (n : ℕ) (frame : Stamped) (told : Result (Unit {0}) Stamped) (answer : Result (Unit {0}) Stamped)
    → All (HasEnd old (FrameOffered n frame told)) (unless_back answer (risen old.fan n frame))
offers old n frame told (Ok x) = only (HasEnd old (FrameOffered n frame told)) (risen old.fan n frame)
    (record { port = stamped old.fan n frame; origin = λ tag low is names. tt })
offers old n frame told (Err back) = All-nil (HasEnd old (FrameOffered n frame told))

moves : Laws → (old : MachineState) (a : Act) (new : MachineState) (does : Does old (Moved a) new) → All (HasEnd old (Moved a)) (sent_by old (Moved a) new does)
moves laws old (act.Speaks n o) new does = speaks laws old n o new does
moves laws old a new does = All-nil (HasEnd old (Moved a))

origins : Laws → (old : MachineState) (deed : Deed) (new : MachineState) (does : Does old deed new) → All (HasEnd old deed) (sent_by old deed new does)
origins laws old (Moved a) new does = moves laws old a new does
origins laws old (FrameOffered n frame told) new does = offers old n frame told told
origins laws old deed new does = All-nil (HasEnd old deed)

-- ---- a run

-- it is a Set Device Bits FIS that names this tag
abbrev pub IsNamingTag : ℕ → Stamped → Type 0
IsNamingTag tag f = (seen f.bytes ≡ Ok (view.SetBits f.bytes)) × (has_bit (field Bits SActive f.bytes) tag ≡ true)

-- what holds of each such FIS of a run
pub each_end : Laws → (tag : ℕ) → tag < 32 → (P : Stamped → Type 0) (old : MachineState) (deeds : List Deed) (new : MachineState) (run : RunsRuled old deeds new)
    → ((f : Stamped) → IsEndIn f tag old deeds new run → P f) → AllSent (λ f. IsNamingTag tag f → P f) old deeds new run
each_end laws tag low P old [] new run holds = tt
each_end laws tag low P old (deed ∷ later) new run holds =
    let sent : List Stamped = sent_by old deed run.1.0 run.1.1 in (
      All-weaker (λ f. Contains sent f) (λ f. IsNamingTag tag f → P f)
          (λ f has names.
          let h : HasEnd old deed f = All-contains (HasEnd old deed) sent f (origins laws old deed run.1.0 run.1.1) has in
          holds f (inl (record { sent = has; port = h.port; origin = h.origin tag low names.0 names.1 }))) sent (All-contains_itself sent),
      each_end laws tag low P run.1.0 later new run.1.2 (λ f is. holds f (inr is)),
    )
