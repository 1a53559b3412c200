-- For the calls of a disk. What a disk sends next, by its kind, and what it leaves once that was sent to nobody.
use Rattle.std.proofs.Common.{◌≡◌, rules, ℕ, zero, suc, ◌+◌, ◌<◌, Bool, true, false, List, [], ◌∷◌, Option, Some, None, length, drop, refl, ap, subst}
use Rattle.std.proofs.Common.{◌∙◌, arith}
use Rattle.std.specs.Prelude.{◌%◌, ◌==◌, ◌&&◌, if◌then◌else◌, is_some, is_none}
use Rattle.disk_model.specs.declared.{request.Command.Command, answer.Answer.{Answer, TheVariants.Signature}, plan.DiskPlan.DiskPlan}
use Rattle.disk_model.specs.{declared.disk.Reading.Reading, Sendings.{Sending, SetsBits, SetsUp, answer_sent}, Chunks.{activations, asks_for}}
use Rattle.disk_model.specs.{Chunks.{fault_of, sends_left}, Disks.{DiskValue, Moment, Started, Writing, after_turn, answer_turn, idle_turn, picked}}
use Rattle.disk_model.specs.{Disks.{read_turn, starts, turn, waiting_turn, went, with_now, write_turn}, Insides.{sends_after, sends_of}}
use Rattle.disk_model.specs.Quiet.{after_next, due_by, kind_of, starts_write}
use Rattle.disk_model.specs.declared.disk.quiet.Due.TheVariants as due
use Rattle.disk_model.proofs.turns.SendLemmas.{sends_left_next}

-- ## Reads

pub turn_read : (plan : DiskPlan) (sectors : ℕ) (m : Moment) (c : Command) (sends : List Sending) → m.owed ≡ []
    → m.started ≡ Some (record { command = c; sends = sends }) → turn plan sectors m ≡ read_turn m c sends
turn_read plan sectors m c sends owed started = rw (owed, started) refl

pub turn_start : (plan : DiskPlan) (sectors : ℕ) (m : Moment) (c : Command) → m.owed ≡ [] → m.started ≡ None
    → m.writing ≡ None → picked plan.order m.queued ≡ Some c → fault_of plan sectors c ≡ None
    → turn plan sectors m ≡ starts plan m c c.write
turn_start plan sectors m c owed started writing pick good = rw (owed, started, writing, pick, good) refl

pub read_leaves : (plan : DiskPlan) (m : Moment) (medium : List ℕ) (r : Reading) (up : Bool) → 0 < r.left
    → after_turn m (read_turn m r.command (sends_of plan medium r up)) ≡ went m r.command (sends_after plan medium r up)
read_leaves plan m medium r false some = rw (sends_left_next plan medium r.command r.left some) refl
read_leaves plan m medium r true some = rw (sends_left_next plan medium r.command r.left some) refl

never_both : (o : Option Writing) → (is_none o && is_some o) ≡ false
never_both None = refl
never_both (Some w) = refl

-- a FIS of a read starts no write
went_no_write : (m : Moment) (c : Command) (later : List Sending) → starts_write m (went m c later) ≡ false
went_no_write m c [] = search rules
went_no_write m c (s ∷ later) = never_both m.writing

pub data_is_due : (plan : DiskPlan) (m : Moment) (medium : List ℕ) (r : Reading) (up : Bool) → up ≡ true → 0 < r.left
    → due_by m (read_turn m r.command (sends_of plan medium r up)) ≡ Some due.Data
data_is_due plan m medium r up is some = rw (is, sends_left_next plan medium r.command r.left some) refl

pub setup_is_due : (plan : DiskPlan) (m : Moment) (medium : List ℕ) (r : Reading) (up : Bool) → up ≡ false → 0 < r.left
    → due_by m (read_turn m r.command (sends_of plan medium r up)) ≡ Some due.Setup
setup_is_due plan m medium r up is some =
    let next = sends_left_next plan medium r.command r.left some in
    let none = went_no_write m r.command (drop 1 (sends_left plan medium r.command r.left)) in
    let none2 = rw next at none in
    rw (is, next, none2) refl

-- ## Writes

asks_leave : (m : Moment) (c : Command) (whole : List Sending) (left : ℕ) (staged : List ℕ) (x : Sending) (auto : Bool) (gone : ℕ)
    → gone < 1 + length (activations auto)
    → after_turn m (write_turn m (record { command = c; sends = whole; left = left; staged = staged }) (drop gone (x ∷ activations auto)))
    ≡ record m { writing = Some (record { command = c; sends = drop (gone + 1) (x ∷ activations auto); left = left; staged = staged }) }
asks_leave m c whole left staged x true zero more = refl
asks_leave m c whole left staged x true (suc k) more = absurd (omega arith)
asks_leave m c whole left staged x false zero more = refl
asks_leave m c whole left staged x false (suc zero) more = refl
asks_leave m c whole left staged x false (suc (suc k)) more = absurd (omega arith)

-- a FIS that asks for a chunk was sent to nobody
pub ask_leaves : (plan : DiskPlan) (sectors : ℕ) (m : Moment) (c : Command) (left gone : ℕ) (staged : List ℕ) → m.owed ≡ []
    → m.started ≡ None
    → m.writing ≡ Some (record { command = c; sends = drop gone (asks_for plan c left); left = left; staged = staged })
    → gone < 1 + length (activations plan.auto)
    → after_turn m (turn plan sectors m)
    ≡ record m { writing = Some (record { command = c; sends = drop (gone + 1) (asks_for plan c left); left = left; staged = staged }) }
ask_leaves plan sectors m c left gone staged owed started writing more =
    let w : Writing = record { command = c; sends = drop gone (asks_for plan c left); left = left; staged = staged } in
    let is : turn plan sectors m ≡ write_turn m w w.sends = rw (owed, started, writing) refl in
    ap (after_turn m) is ∙ asks_leave m c w.sends left staged _ plan.auto gone more

-- ## A write starts

-- the first FIS of a write is due
pub record Starts (plan : DiskPlan) (sectors : ℕ) (m : Moment) : Type 0 where
  pub owed : m.owed ≡ []
  pub started : m.started ≡ None
  pub writing : m.writing ≡ None

answer_no_start : (old new : Moment) (sectors : ℕ) (plan : DiskPlan) (a : Answer)
    → kind_of old new (answer_sent sectors plan a) ≡ due.Start → ⊥
answer_no_start old new sectors plan Signature e = cc e
answer_no_start old new sectors plan other e = cc e

bits_no_start : (failed : Bool) → (if failed then due.Failed else due.Ended) ≡ due.Start → ⊥
bits_no_start true e = cc e
bits_no_start false e = cc e

setup_start : (b : Bool) → (if b then due.Start else due.Setup) ≡ due.Start → b ≡ true
setup_start true e = refl
setup_start false e = absurd (cc e)

kind_start : (old new : Moment) (s : Sending) → kind_of old new s ≡ due.Start → starts_write old new ≡ true
kind_start old new (SetsBits v) e = absurd (bits_no_start (v.status % 2 == 1) e)
kind_start old new (SetsUp v) e = setup_start (starts_write old new) e
kind_start old new other e = absurd (cc e)

some_same : (a b : due.the_data) → Some a ≡ Some b → a ≡ b
some_same a b e = cc e

read_no_start : (m : Moment) (c : Command) (sends : List Sending) → due_by m (read_turn m c sends) ≡ Some due.Start → ⊥
read_no_start m c [] e = cc e
read_no_start m c (s ∷ later) e =
    let is = kind_start m (went m c later) s (some_same _ _ e) in
    let none = went_no_write m c later in
    cc (is, none)

write_no_start : (m : Moment) (w : Writing) (sends : List Sending) → m.writing ≡ Some w
    → due_by m (write_turn m w sends) ≡ Some due.Start → ⊥
write_no_start m w [] is e = cc e
write_no_start m w (s ∷ later) is e =
    let new : Moment = record m { writing = Some (record w { sends = later }) } in
    let begins = kind_start m new s (some_same _ _ e) in
    let none : starts_write m new ≡ false = rw is refl in
    cc (begins, none)

by_writing : (plan : DiskPlan) (sectors : ℕ) (m : Moment) (w : Option Writing) → m.owed ≡ [] → m.started ≡ None → m.writing ≡ w
    → due_by m (waiting_turn plan sectors m w) ≡ Some due.Start → Starts plan sectors m
by_writing plan sectors m None owed started writing e = record { owed = owed; started = started; writing = writing }
by_writing plan sectors m (Some w) owed started writing e = absurd (write_no_start m w w.sends writing e)

by_started : (plan : DiskPlan) (sectors : ℕ) (m : Moment) (s : Option Started) → m.owed ≡ [] → m.started ≡ s
    → due_by m (idle_turn plan sectors m s) ≡ Some due.Start → Starts plan sectors m
by_started plan sectors m None owed started e = by_writing plan sectors m m.writing owed started refl e
by_started plan sectors m (Some s) owed started e = absurd (read_no_start m s.command s.sends e)

by_owed : (plan : DiskPlan) (sectors : ℕ) (m : Moment) (owed : List Answer) → m.owed ≡ owed
    → due_by m (answer_turn plan sectors m owed) ≡ Some due.Start → Starts plan sectors m
by_owed plan sectors m [] owed e = by_started plan sectors m m.started owed refl e
by_owed plan sectors m (a ∷ later) owed e =
    absurd (answer_no_start m (record m { owed = later }) sectors plan a (some_same _ _ e))

pub start_is_due : (plan : DiskPlan) (sectors : ℕ) (m : Moment) → due_by m (turn plan sectors m) ≡ Some due.Start
    → Starts plan sectors m
start_is_due plan sectors m e = by_owed plan sectors m m.owed refl e

-- ## The disk as it is seen

-- the disk is seen with another moment
pub same_disk : (seen v : DiskValue) (n : Moment) → seen ≡ v → n ≡ after_turn v.now (turn v.plan v.sectors v.now)
    → with_now seen n ≡ after_next v
same_disk seen v n is same = rw is (ap (with_now v) same)

pub same_disk_here : (seen v : DiskValue) (n : Moment) → seen ≡ v
    → n ≡ after_turn seen.now (turn seen.plan seen.sectors seen.now) → with_now seen n ≡ after_next v
same_disk_here seen v n is same =
    subst (λ (x : DiskValue). with_now seen n ≡ after_next x) is (ap (with_now seen) same)
