-- Answers as words.
use Rattle.std.specs.Prelude.{◌≡◌, ℕ, ◌<◌, ◌^◌, List, ◌∷◌, Bool, refl}
use Rattle.std.proofs.Common.{ap, arith}
use Rattle.saved_state.specs.State.{IsToldApart, bool_apart, number_apart, pair_apart, parts_apart, put_bool, put_number, put_pair, put_three}
use Rattle.saved_state.specs.State.{three_apart}
use Rattle.ata_reply.specs.declared.reply.{AtaError.{AtaError, TheVariants.{Aborted, NotFound, Uncorrectable, Interface}}, Failure.Failure}
use Rattle.ata_reply.specs.declared.reply.{Announcement.Announcement, Reply.{Reply, TheVariants.{Signature, Accepted, Done, Active, Healthy, Failed}}}
use Rattle.ata_reply.specs.declared.reply.Reply.TheVariants.{Ends, Aborts, SetUp, Activate, Announce}
use Rattle.ata_reply.specs.declared.reply.SetUp as setup

abbrev pub error_number : AtaError → ℕ
error_number Aborted = 1
error_number NotFound = 2
error_number Uncorrectable = 3
error_number Interface = 4

abbrev pub put_error : AtaError → List ℕ → List ℕ
put_error error rest = error_number error ∷ rest

-- ## A failure: why, at which sector, and whether its LBA is wide

abbrev pub FailureParts : Type 0
FailureParts = AtaError × ℕ × Bool

abbrev pub failure_parts : Failure → FailureParts
failure_parts f = (f.error, f.lba, f.wide)

abbrev pub put_failure_parts : FailureParts → List ℕ → List ℕ
put_failure_parts = put_three put_error put_number put_bool

abbrev pub KeepsFailureParts : FailureParts → Type 0
KeepsFailureParts p = Unit {0} × (p.1 < 2 ^ 64) × Unit {0}

abbrev pub put_failure : Failure → List ℕ → List ℕ
put_failure f rest = put_failure_parts (failure_parts f) rest

abbrev pub KeepsFailure : Failure → Type 0
KeepsFailure f = KeepsFailureParts (failure_parts f)

-- ## A DMA Setup: its tag and direction, and whether Data may come at once, and its bytes

abbrev pub SetUpParts : Type 0
SetUpParts = (ℕ × Bool) × (Bool × ℕ)

abbrev pub set_up_parts : setup.SetUp → SetUpParts
set_up_parts s = ((s.tag, s.to_host), (s.auto_activate, s.bytes))

abbrev pub put_set_up_parts : SetUpParts → List ℕ → List ℕ
put_set_up_parts = put_pair (put_pair put_number put_bool) (put_pair put_bool put_number)

abbrev pub KeepsSetUpParts : SetUpParts → Type 0
KeepsSetUpParts p = ((p.0.0 < 2 ^ 8) × Unit {0}) × (Unit {0} × (p.1.1 < 2 ^ 32))

abbrev pub put_set_up : setup.SetUp → List ℕ → List ℕ
put_set_up s rest = put_set_up_parts (set_up_parts s) rest

abbrev pub KeepsSetUp : setup.SetUp → Type 0
KeepsSetUp s = KeepsSetUpParts (set_up_parts s)

-- ## A PIO Setup: its direction, whether it is the first or the last of its command, and its bytes

abbrev pub AnnouncementParts : Type 0
AnnouncementParts = (Bool × Bool) × (Bool × ℕ)

abbrev pub announcement_parts : Announcement → AnnouncementParts
announcement_parts a = ((a.to_host, a.first), (a.last, a.bytes))

abbrev pub put_announcement_parts : AnnouncementParts → List ℕ → List ℕ
put_announcement_parts = put_pair (put_pair put_bool put_bool) (put_pair put_bool put_number)

abbrev pub KeepsAnnouncementParts : AnnouncementParts → Type 0
KeepsAnnouncementParts p = (Unit {0} × Unit {0}) × (Unit {0} × (p.1.1 < 2 ^ 16))

abbrev pub put_announcement : Announcement → List ℕ → List ℕ
put_announcement a rest = put_announcement_parts (announcement_parts a) rest

abbrev pub KeepsAnnouncement : Announcement → Type 0
KeepsAnnouncement a = KeepsAnnouncementParts (announcement_parts a)

-- ## An answer: which one, and what it tells

abbrev pub kind_of : Reply → ℕ
kind_of Signature = 1
kind_of Accepted = 2
kind_of Done = 3
kind_of Active = 4
kind_of Healthy = 5
kind_of (Failed f) = 6
kind_of (Ends tags) = 7
kind_of (Aborts error) = 8
kind_of (SetUp s) = 9
kind_of Activate = 10
kind_of (Announce a) = 11

abbrev pub put_told : Reply → List ℕ → List ℕ
put_told (Failed f) rest = put_failure f rest
put_told (Ends tags) rest = put_number tags rest
put_told (Aborts error) rest = put_error error rest
put_told (SetUp s) rest = put_set_up s rest
put_told (Announce a) rest = put_announcement a rest
put_told _ rest = rest

abbrev pub put_reply : Reply → List ℕ → List ℕ
put_reply reply rest = kind_of reply ∷ put_told reply rest

abbrev pub KeepsReply : Reply → Type 0
KeepsReply (Failed f) = KeepsFailure f
KeepsReply (Ends tags) = tags < 2 ^ 32
KeepsReply (SetUp s) = KeepsSetUp s
KeepsReply (Announce a) = KeepsAnnouncement a
KeepsReply _ = Unit {0}

-- ## Words are those of one value

error_same : (a b : AtaError) → error_number a ≡ error_number b → a ≡ b
error_same Aborted Aborted e = refl
error_same NotFound NotFound e = refl
error_same Uncorrectable Uncorrectable e = refl
error_same Interface Interface e = refl
error_same a b e = absurd (cc)

pub error_apart : IsToldApart put_error (λ _. Unit {0})
error_apart a b x y k l e = let same : error_number a ≡ error_number b = cc in (error_same a b same, cc)

failure_parts_apart : IsToldApart put_failure_parts KeepsFailureParts
failure_parts_apart = three_apart put_error (λ _. Unit {0}) error_apart
    put_number (λ n. n < 2 ^ 64) (λ a b x y k l e. number_apart a b x y e)
    put_bool (λ _. Unit {0}) (λ a b x y k l e. bool_apart a b x y e)

pub failure_apart : IsToldApart put_failure KeepsFailure
failure_apart = parts_apart put_failure_parts KeepsFailureParts KeepsFailure failure_parts failure_parts_apart (λ v k. k)
    (λ v w e. ap (λ p. record { error = p.0; lba = p.1; wide = p.2 }) e)

set_up_parts_apart : IsToldApart put_set_up_parts KeepsSetUpParts
set_up_parts_apart = pair_apart
    (put_pair put_number put_bool) (λ p. (p.0 < 2 ^ 8) × Unit {0})
    (pair_apart put_number (λ n. n < 2 ^ 8) (λ a b x y k l e. number_apart a b x y e) put_bool (λ _. Unit {0}) (λ a b x y k l e. bool_apart a b x y e))
    (put_pair put_bool put_number) (λ p. Unit {0} × (p.1 < 2 ^ 32))
    (pair_apart put_bool (λ _. Unit {0}) (λ a b x y k l e. bool_apart a b x y e) put_number (λ n. n < 2 ^ 32) (λ a b x y k l e. number_apart a b x y e))

pub set_up_apart : IsToldApart put_set_up KeepsSetUp
set_up_apart = parts_apart put_set_up_parts KeepsSetUpParts KeepsSetUp set_up_parts set_up_parts_apart (λ v k. k)
    (λ v w e. ap (λ p. record { tag = p.0.0; to_host = p.0.1; auto_activate = p.1.0; bytes = p.1.1 }) e)

announcement_parts_apart : IsToldApart put_announcement_parts KeepsAnnouncementParts
announcement_parts_apart = pair_apart
    (put_pair put_bool put_bool) (λ p. Unit {0} × Unit {0})
    (pair_apart put_bool (λ _. Unit {0}) (λ a b x y k l e. bool_apart a b x y e) put_bool (λ _. Unit {0}) (λ a b x y k l e. bool_apart a b x y e))
    (put_pair put_bool put_number) (λ p. Unit {0} × (p.1 < 2 ^ 16))
    (pair_apart put_bool (λ _. Unit {0}) (λ a b x y k l e. bool_apart a b x y e) put_number (λ n. n < 2 ^ 16) (λ a b x y k l e. number_apart a b x y e))

pub announcement_apart : IsToldApart put_announcement KeepsAnnouncement
announcement_apart = parts_apart put_announcement_parts KeepsAnnouncementParts KeepsAnnouncement announcement_parts announcement_parts_apart (λ v k. k)
    (λ v w e. ap (λ p. record { to_host = p.0.0; first = p.0.1; last = p.1.0; bytes = p.1.1 }) e)

told_apart : (a b : Reply) (x y : List ℕ) → KeepsReply a → KeepsReply b → put_told a x ≡ put_told b y → kind_of a ≡ kind_of b
    → (a ≡ b) × (x ≡ y)
told_apart Signature Signature x y k l told kind = (refl, told)
told_apart Accepted Accepted x y k l told kind = (refl, told)
told_apart Done Done x y k l told kind = (refl, told)
told_apart Active Active x y k l told kind = (refl, told)
told_apart Healthy Healthy x y k l told kind = (refl, told)
told_apart (Failed a) (Failed b) x y k l told kind = let both = failure_apart a b x y k l told in (ap Failed both.0, both.1)
told_apart (Ends a) (Ends b) x y k l told kind = let both = number_apart a b x y told in (ap Ends both.0, both.1)
told_apart (Aborts a) (Aborts b) x y k l told kind = let both = error_apart a b x y tt tt told in (ap Aborts both.0, both.1)
told_apart (SetUp a) (SetUp b) x y k l told kind = let both = set_up_apart a b x y k l told in (ap SetUp both.0, both.1)
told_apart Activate Activate x y k l told kind = (refl, told)
told_apart (Announce a) (Announce b) x y k l told kind = let both = announcement_apart a b x y k l told in (ap Announce both.0, both.1)
told_apart a b x y k l told kind = absurd (omega arith)

pub reply_apart : IsToldApart put_reply KeepsReply
reply_apart a b x y k l e =
    let kind : kind_of a ≡ kind_of b = cc in
    let told : put_told a x ≡ put_told b y = cc in
    told_apart a b x y k l told kind
