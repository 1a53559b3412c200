-- What the FISes that a disk sends say of Data that are to go to it: what the calls of the disk say, and the same as they come up.
use Rattle.std.proofs.{Common.{◌≡◌, ℕ, ◌%◌, ◌<◌, Bool, true, false, not, List, length, refl, ap, ◌∙◌, arith}, lemmas.Bool.{eqb-true, true≢false}}
use Rattle.std.proofs.lemmas.List.{length-set}
use Rattle.std.specs.{Prelude.{◌==◌, ◌&&◌, ◌*◌, ◌/◌, ◌+◌, slice_index, if◌then◌else◌, Ok, Err}, Int.from_bool}
use Rattle.fis_view.specs.{Built.cut, Frames.{Stamped, marked}, Marks.IsMarked, Seen.{kind_of, kind_of_type, may_have, seen, view_as}, Table.Kind}
use Rattle.fis_view.specs.{Table.{field, places}, declared.view.FisFault.TheVariants.WrongLength}
use Rattle.fis_view.specs.Table as table
use Rattle.fis_view.proofs.Door.{is_marked_from}
use Rattle.fan_out.specs.declared.fan_out.FanOut.{FanOut, TheVariants.{Device, Multiplier}}
use Rattle.ata_reply.specs.{Replies.Shows, declared.reply.Reply.Reply}
use Rattle.ata_reply.specs.declared.reply.Reply.TheVariants as replies
use Rattle.sata_disk.specs.{Sending.IsFis, State.DiskState, declared.out.Out.Out}
use Rattle.sata_disk.specs.declared.out.Out.TheVariants as out
use Rattle.sata_disk_laws.specs.Once.{Host, IsDue, IsOutDue}
use Rattle.sata_disk_books.specs.{InTurn.{sign_out, sign_reply}, Talks.{SetsUp, sign_of}}
use Rattle.ahci_machine.specs.States.{MachineState}
use Rattle.machine_laws.specs.Rising.{Frames, HaveRisen, IsSoundEnd, Sends, risen}
use Rattle.machine_laws.proofs.{RisRun.crosses, RisStraight.straight_through}
use Rattle.machine_theorem.proofs.Sent.{marked_type}

-- ---- as the disk sends it

low_bits : (n : ℕ) → n < 32 → cut (places table.Setup table.BufferId) n % 32 ≡ n
unfolding places cut
low_bits n low = omega (arith, low)

no_bits : cut (places table.Setup table.Offset) 0 ≡ 0
unfolding places cut
no_bits = omega arith

a_is : (x : Bool) → (cut (places table.Setup table.A) (from_bool x) == 1) ≡ x
unfolding places cut
a_is true = refl
a_is false = refl

d_is : (x : Bool) → (cut (places table.Setup table.D) (from_bool x) == 1) ≡ x
unfolding places cut
d_is true = refl
d_is false = refl

both : (a d : Bool) → ((a && not d) && not d) ≡ (a && not d)
both true true = refl
both true false = refl
both false d = refl

abbrev auto_of : ℕ → ℕ → Bool
auto_of a d = (a == 1) && not (d == 1)

reply_sign : (r : Reply) (h : Host) (b : List ℕ) → IsDue h r → Shows r b → sign_of (seen b) ≡ sign_reply r
reply_sign (replies.SetUp s) h b due is =
    let tag : field table.Setup table.BufferId b % 32 ≡ s.tag = ap (λ k. k % 32) (is.fields table.BufferId) ∙ low_bits s.tag due.0 in
    let offset : field table.Setup table.Offset b ≡ 0 = is.fields table.Offset ∙ no_bits in
    let a : (field table.Setup table.A b == 1) ≡ (s.auto_activate && not s.to_host) = ap (λ k. k == 1) (is.fields table.A) ∙ a_is (s.auto_activate && not s.to_host) in
    let d : (field table.Setup table.D b == 1) ≡ s.to_host = ap (λ k. k == 1) (is.fields table.D) ∙ d_is s.to_host in
    let auto : auto_of (field table.Setup table.A b) (field table.Setup table.D b) ≡ (s.auto_activate && not s.to_host) =
    ap (λ x. x && not (field table.Setup table.D b == 1)) a ∙ ap (λ x. (s.auto_activate && not s.to_host) && not x) d ∙ both s.auto_activate s.to_host in
    ap sign_of is.viewed
    ∙ ap (λ k. SetsUp k (field table.Setup table.Offset b) (auto_of (field table.Setup table.A b) (field table.Setup table.D b))) tag
    ∙ ap (λ k. SetsUp s.tag k (auto_of (field table.Setup table.A b) (field table.Setup table.D b))) offset
    ∙ ap (λ x. SetsUp s.tag 0 x) auto
reply_sign replies.Signature h b due is = ap sign_of is.viewed
reply_sign replies.Accepted h b due is = ap sign_of is.viewed
reply_sign replies.Done h b due is = ap sign_of is.viewed
reply_sign replies.Active h b due is = ap sign_of is.viewed
reply_sign replies.Healthy h b due is = ap sign_of is.viewed
reply_sign (replies.Failed f) h b due is = ap sign_of is.viewed
reply_sign (replies.Ends tags) h b due is = ap sign_of is.viewed
reply_sign (replies.Aborts error) h b due is = ap sign_of is.viewed
reply_sign replies.Activate h b due is = ap sign_of is.viewed
reply_sign (replies.Announce a) h b due is = ap sign_of is.viewed

-- whatever disk sends it
abbrev pub SignsWell : Out → Type 0
SignsWell o = (d : DiskState) (b : List ℕ) → IsFis d o b → sign_of (seen b) ≡ sign_out o

pub signs_well : (o : Out) (h : Host) → IsOutDue h o → SignsWell o
signs_well (out.Own r) h due d b is = reply_sign r h b due is
signs_well (out.Beside r) h due d b is = reply_sign r h b due is
signs_well (out.Of p r) h due d b is = reply_sign r h b due.0 is
signs_well (out.Ends tags) h due d b is = ap sign_of is.viewed
signs_well (out.Page p) h due d b is = ap sign_of is.1.1
signs_well (out.Data p n) h due d b is = ap sign_of is.1

-- ---- as it comes up

sign_kind : (kind : Kind) (b : Bool) (f : List ℕ) (port : ℕ) → port < 16 → may_have kind (length f) ≡ b
    → sign_of (if b then Ok (view_as kind (marked f port)) else Err WrongLength) ≡ sign_of (if b then Ok (view_as kind f) else Err WrongLength)
sign_kind kind false f port low may = refl
sign_kind table.Setup true f port low may =
    let long : length f ≡ 28 = eqb-true (length f) 28 may in
    let m : IsMarked port f (marked f port) = is_marked_from f port (omega (arith, long)) low in
    let auto : auto_of (field table.Setup table.A (marked f port)) (field table.Setup table.D (marked f port)) ≡ auto_of (field table.Setup table.A f) (field table.Setup table.D f) =
    ap (λ x. auto_of x (field table.Setup table.D (marked f port))) (m.fields table.Setup table.A (λ e. cc))
    ∙ ap (λ x. auto_of (field table.Setup table.A f) x) (m.fields table.Setup table.D (λ e. cc)) in
    ap (λ k. SetsUp (k % 32) (field table.Setup table.Offset (marked f port)) (auto_of (field table.Setup table.A (marked f port)) (field table.Setup table.D (marked f port))))
    (m.fields table.Setup table.BufferId (λ e. cc))
    ∙ ap (λ k. SetsUp (field table.Setup table.BufferId f % 32) k (auto_of (field table.Setup table.A (marked f port)) (field table.Setup table.D (marked f port))))
    (m.fields table.Setup table.Offset (λ e. cc))
    ∙ ap (λ x. SetsUp (field table.Setup table.BufferId f % 32) (field table.Setup table.Offset f) x) auto
sign_kind table.Data true f port low may = refl
sign_kind table.H2d true f port low may = refl
sign_kind table.D2h true f port low may = refl
sign_kind table.Activate true f port low may = refl
sign_kind table.Pio true f port low may = refl
sign_kind table.Bits true f port low may = refl
sign_kind table.Other true f port low may = refl

sign_marked : (f : List ℕ) (port : ℕ) → port < 16 → sign_of (seen (marked f port)) ≡ sign_of (seen f)
unfolding seen
sign_marked f port low =
    let type = marked_type f port in
    let long : length (marked f port) ≡ length f = length-set f 1 (slice_index f 1 / 16 * 16 + port) in
    ap (λ (t : ℕ). sign_of (if may_have (kind_of_type t) (length (marked f port)) then Ok (view_as (kind_of_type t) (marked f port)) else Err WrongLength)) type
    ∙ ap (λ (k : ℕ). sign_of (if may_have (kind_of f) k then Ok (view_as (kind_of f) (marked f port)) else Err WrongLength)) long
    ∙ sign_kind (kind_of f) (may_have (kind_of f) (length f)) f port low refl

-- the PM Port that a device writes is one
abbrev pub MarksLow : FanOut → ℕ → Type 0
MarksLow (Device s) n = s.asked < 16
MarksLow (Multiplier f) n = n < 16

pub risen_sign : (fan : FanOut) (n : ℕ) (f : Stamped) → MarksLow fan n → sign_of (seen (risen fan n f).bytes) ≡ sign_of (seen f.bytes)
risen_sign (Device s) n f low = sign_marked f.bytes s.asked low
risen_sign (Multiplier g) n f low = sign_marked f.bytes n low

pub marks_low : (m : MachineState) (frames : Frames) (n : ℕ) → n < 15 → HaveRisen m frames → MarksLow m.fan n
marks_low m frames n low h = by h.first m.fan h.sound h.sends
  where
    by : (e g : FanOut) → IsSoundEnd e → Sends e h.calls frames.sent g → MarksLow g n
    by (Device s) (Device t) sound sends = (straight_through s t h.calls frames.sent sound sends).sound.0.asked
    by (Multiplier f) (Device t) sound sends = absurd (true≢false (crosses (Multiplier f) (Device t) h.calls frames.sent sends))
    by e (Multiplier g) sound sends = omega (arith, low)
