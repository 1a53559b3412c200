-- The front of a disk as words.
use Rattle.std.specs.Prelude.{◌≡◌, ℕ, ◌<◌, ◌^◌, List, ◌∷◌, Option, Bool, refl}
use Rattle.std.proofs.Common.{ap}
use Rattle.saved_state.specs.State.{IsToldApart, KeepsOption, bool_apart, number_apart, option_apart, pair_apart, parts_apart, put_bool, put_number}
use Rattle.saved_state.specs.State.{put_option, put_pair}
use Rattle.ata_reply.specs.{declared.reply.AtaError.AtaError, Saved.{KeepsReply, error_apart, put_error, put_reply, reply_apart}}
use Rattle.ata_command.specs.{declared.settings.Settings.Settings, Saved.{KeepsPage as KeepsLogPage, page_apart as log_page_apart}}
use Rattle.ata_command.specs.Saved.{put_page as put_log_page, put_settings, settings_apart}
use Rattle.ata_front.specs.declared.{front.Front.Front, task.{Fault.{Fault, TheVariants.{Mixed, Queued}}, Moving.Moving, Page.Page}}
use Rattle.ata_front.specs.declared.task.{Page.TheVariants.{Identity, Log, SmartData, SmartThresholds}, Purpose.{Purpose, TheVariants.Flush}}
use Rattle.ata_front.specs.declared.task.{Purpose.TheVariants.{CacheOff, Discard}, Task.{Task, TheVariants.{Idle, Owes, Moves, Waits, Announces}}}
use Rattle.ata_front.specs.declared.task.{Task.TheVariants.{Gives, Sends, Activates, Expects}, Trouble.Trouble}

-- ## Why a command failed, and at which sector

abbrev pub TroubleParts : Type 0
TroubleParts = AtaError × ℕ

abbrev pub trouble_parts : Trouble → TroubleParts
trouble_parts t = (t.error, t.lba)

abbrev pub put_trouble_parts : TroubleParts → List ℕ → List ℕ
put_trouble_parts = put_pair put_error put_number

abbrev pub KeepsTroubleParts : TroubleParts → Type 0
KeepsTroubleParts p = Unit {0} × (p.1 < 2 ^ 64)

abbrev pub put_trouble : Trouble → List ℕ → List ℕ
put_trouble t rest = put_trouble_parts (trouble_parts t) rest

abbrev pub KeepsTrouble : Trouble → Type 0
KeepsTrouble t = KeepsTroubleParts (trouble_parts t)

-- ## An error that ended all queued commands

abbrev pub put_fault : Fault → List ℕ → List ℕ
put_fault Mixed rest = 1 ∷ rest
put_fault (Queued tag t) rest = 2 ∷ put_pair put_number put_trouble (tag, t) rest

abbrev pub KeepsFault : Fault → Type 0
KeepsFault Mixed = Unit {0}
KeepsFault (Queued tag t) = (tag < 2 ^ 8) × KeepsTrouble t

-- ## A page that the disk gives of itself

abbrev pub put_page : Page → List ℕ → List ℕ
put_page Identity rest = 1 ∷ rest
put_page (Log p) rest = 2 ∷ put_log_page p rest
put_page SmartData rest = 3 ∷ rest
put_page SmartThresholds rest = 4 ∷ rest

abbrev pub KeepsPage : Page → Type 0
KeepsPage (Log p) = KeepsLogPage p
KeepsPage _ = Unit {0}

-- ## Why a command beside the queue asks

abbrev pub purpose_number : Purpose → ℕ
purpose_number Flush = 1
purpose_number CacheOff = 2
purpose_number Discard = 3

abbrev pub put_purpose : Purpose → List ℕ → List ℕ
put_purpose purpose rest = purpose_number purpose ∷ rest

-- ## The command that is not queued: whether its LBA is wide, and the sectors that were not sent

abbrev pub MovingParts : Type 0
MovingParts = Bool × ℕ

abbrev pub moving_parts : Moving → MovingParts
moving_parts m = (m.wide, m.left)

abbrev pub put_moving_parts : MovingParts → List ℕ → List ℕ
put_moving_parts = put_pair put_bool put_number

abbrev pub KeepsMovingParts : MovingParts → Type 0
KeepsMovingParts p = Unit {0} × (p.1 < 2 ^ 32)

abbrev pub put_moving : Moving → List ℕ → List ℕ
put_moving m rest = put_moving_parts (moving_parts m) rest

abbrev pub KeepsMoving : Moving → Type 0
KeepsMoving m = KeepsMovingParts (moving_parts m)

-- ## What the host waits for

abbrev pub put_task : Task → List ℕ → List ℕ
put_task Idle rest = 1 ∷ rest
put_task (Owes r) rest = 2 ∷ put_reply r rest
put_task (Moves m) rest = 3 ∷ put_moving m rest
put_task (Waits p) rest = 4 ∷ put_purpose p rest
put_task (Announces p) rest = 5 ∷ put_page p rest
put_task (Gives p) rest = 6 ∷ put_page p rest
put_task (Sends p) rest = 7 ∷ put_page p rest
put_task (Activates n) rest = 8 ∷ put_number n rest
put_task (Expects n) rest = 9 ∷ put_number n rest

abbrev pub KeepsTask : Task → Type 0
KeepsTask Idle = Unit {0}
KeepsTask (Owes r) = KeepsReply r
KeepsTask (Moves m) = KeepsMoving m
KeepsTask (Waits p) = Unit {0}
KeepsTask (Announces p) = KeepsPage p
KeepsTask (Gives p) = KeepsPage p
KeepsTask (Sends p) = KeepsPage p
KeepsTask (Activates n) = n < 2 ^ 16
KeepsTask (Expects n) = n < 2 ^ 16

-- ## The front: what the host waits for, the error, whether SRST is set, and the settings

abbrev pub FrontParts : Type 0
FrontParts = (Task × Option Fault) × (Bool × Settings)

abbrev pub front_parts : Front → FrontParts
front_parts f = ((f.task, f.fault), (f.in_reset, f.settings))

abbrev pub put_front_parts : FrontParts → List ℕ → List ℕ
put_front_parts = put_pair (put_pair put_task (put_option put_fault)) (put_pair put_bool put_settings)

abbrev pub KeepsFrontParts : FrontParts → Type 0
KeepsFrontParts p = (KeepsTask p.0.0 × KeepsOption KeepsFault p.0.1) × (Unit {0} × Unit {0})

abbrev pub put_front : Front → List ℕ → List ℕ
put_front f rest = put_front_parts (front_parts f) rest

abbrev pub KeepsFront : Front → Type 0
KeepsFront f = KeepsFrontParts (front_parts f)

-- ## Words are those of one value

pub trouble_apart : IsToldApart put_trouble KeepsTrouble
trouble_apart = parts_apart put_trouble_parts KeepsTroubleParts KeepsTrouble trouble_parts
    (pair_apart put_error (λ _. Unit {0}) error_apart put_number (λ n. n < 2 ^ 64) (λ a b x y k l e. number_apart a b x y e))
    (λ v k. k) (λ v w e. ap (λ p. record { error = p.0; lba = p.1 }) e)

queued_apart : IsToldApart (put_pair put_number put_trouble) (λ p. (p.0 < 2 ^ 8) × KeepsTrouble p.1)
queued_apart = pair_apart put_number (λ n. n < 2 ^ 8) (λ a b x y k l e. number_apart a b x y e) put_trouble KeepsTrouble trouble_apart

pub fault_apart : IsToldApart put_fault KeepsFault
fault_apart Mixed Mixed x y k l e = (refl, cc)
fault_apart (Queued m a) (Queued n b) x y k l e =
    let inner : put_pair put_number put_trouble (m, a) x ≡ put_pair put_number put_trouble (n, b) y = cc in
    let both = queued_apart (m, a) (n, b) x y k l inner in (ap (λ p. Queued p.0 p.1) both.0, both.1)
fault_apart Mixed (Queued n b) x y k l e = absurd (cc)
fault_apart (Queued m a) Mixed x y k l e = absurd (cc)

pub page_apart : IsToldApart put_page KeepsPage
page_apart Identity Identity x y k l e = (refl, cc)
page_apart (Log a) (Log b) x y k l e =
    let inner : put_log_page a x ≡ put_log_page b y = cc in
    let both = log_page_apart a b x y k l inner in (ap Log both.0, both.1)
page_apart SmartData SmartData x y k l e = (refl, cc)
page_apart SmartThresholds SmartThresholds x y k l e = (refl, cc)
page_apart a b x y k l e = absurd (cc)

purpose_same : (a b : Purpose) → purpose_number a ≡ purpose_number b → a ≡ b
purpose_same Flush Flush e = refl
purpose_same CacheOff CacheOff e = refl
purpose_same Discard Discard e = refl
purpose_same a b e = absurd (cc)

pub purpose_apart : IsToldApart put_purpose (λ _. Unit {0})
purpose_apart a b x y k l e = let same : purpose_number a ≡ purpose_number b = cc in (purpose_same a b same, cc)

pub moving_apart : IsToldApart put_moving KeepsMoving
moving_apart = parts_apart put_moving_parts KeepsMovingParts KeepsMoving moving_parts
    (pair_apart put_bool (λ _. Unit {0}) (λ a b x y k l e. bool_apart a b x y e) put_number (λ n. n < 2 ^ 32) (λ a b x y k l e. number_apart a b x y e))
    (λ v k. k) (λ v w e. ap (λ p. record { wide = p.0; left = p.1 }) e)

pub task_apart : IsToldApart put_task KeepsTask
task_apart Idle Idle x y k l e = (refl, cc)
task_apart (Owes a) (Owes b) x y k l e =
    let inner : put_reply a x ≡ put_reply b y = cc in
    let both = reply_apart a b x y k l inner in (ap Owes both.0, both.1)
task_apart (Moves a) (Moves b) x y k l e =
    let inner : put_moving a x ≡ put_moving b y = cc in
    let both = moving_apart a b x y k l inner in (ap Moves both.0, both.1)
task_apart (Waits a) (Waits b) x y k l e =
    let inner : put_purpose a x ≡ put_purpose b y = cc in
    let both = purpose_apart a b x y k l inner in (ap Waits both.0, both.1)
task_apart (Announces a) (Announces b) x y k l e =
    let inner : put_page a x ≡ put_page b y = cc in
    let both = page_apart a b x y k l inner in (ap Announces both.0, both.1)
task_apart (Gives a) (Gives b) x y k l e =
    let inner : put_page a x ≡ put_page b y = cc in
    let both = page_apart a b x y k l inner in (ap Gives both.0, both.1)
task_apart (Sends a) (Sends b) x y k l e =
    let inner : put_page a x ≡ put_page b y = cc in
    let both = page_apart a b x y k l inner in (ap Sends both.0, both.1)
task_apart (Activates a) (Activates b) x y k l e = (cc, cc)
task_apart (Expects a) (Expects b) x y k l e = (cc, cc)
task_apart a b x y k l e = absurd (cc)

doing_apart : IsToldApart (put_pair put_task (put_option put_fault)) (λ p. KeepsTask p.0 × KeepsOption KeepsFault p.1)
doing_apart = pair_apart put_task KeepsTask task_apart (put_option put_fault) (KeepsOption KeepsFault) (option_apart put_fault KeepsFault fault_apart)

standing_apart : IsToldApart (put_pair put_bool put_settings) (λ p. Unit {0} × Unit {0})
standing_apart = pair_apart put_bool (λ _. Unit {0}) (λ a b x y k l e. bool_apart a b x y e) put_settings (λ _. Unit {0}) settings_apart

pub front_apart : IsToldApart put_front KeepsFront
front_apart = parts_apart put_front_parts KeepsFrontParts KeepsFront front_parts
    (pair_apart (put_pair put_task (put_option put_fault)) (λ p. KeepsTask p.0 × KeepsOption KeepsFault p.1) doing_apart
    (put_pair put_bool put_settings) (λ p. Unit {0} × Unit {0}) standing_apart)
    (λ v k. k) (λ v w e. ap (λ p. record { task = p.0.0; fault = p.0.1; in_reset = p.1.0; settings = p.1.1 }) e)
