-- For the calls of a disk. What a disk's turn is, from the facts that its code has.
use Rattle.std.proofs.Common.{◌≡◌, ◌≢◌, ℕ, ◌-◌, ◌<◌, Bool, true, false, List, [], ◌∷◌, Some, None, length, get_or, drop, refl, ap, sym, subst, ◌∙◌}
use Rattle.std.proofs.{Common.arith, lemmas.{List.Elements.{All-get_or}, Option.{get_or_from_slice_get, slice_get_within}}}
use Rattle.std.specs.Prelude.{Result, Ok, Err, OnErr, All, slice_get}
use Rattle.disk_model.specs.declared.{request.Command.Command, answer.Answer.Answer, plan.{DiskPlan.DiskPlan, Order.{Order, TheVariants.Oldest}}}
use Rattle.disk_model.specs.{declared.{plan.Order.TheVariants.Newest, disk.{Reading.Reading, Transfer.TheVariants.Read}}, Requests.IsCounted}
use Rattle.disk_model.specs.{Sendings.{Sending, Shows, answer_sent}, Chunks.{sends_left, chunks, fault_of}, Disks.{Moment, Turn, turn, went, ended}}
use Rattle.disk_model.specs.{Disks.{picked, starts, read_turn}, Runs.Takes, Insides.{sends_of, sends_after, moved, started_by, Leads}}
use Rattle.disk_model.proofs.turns.SendLemmas.{sends_left_next}

-- ## The command that starts next

counted_at : (queued : List Command) (i : ℕ) (c : Command) → All (λ q. IsCounted q) queued → slice_get queued i ≡ Some c → IsCounted c
counted_at queued i c all is =
    subst (λ (q : Command). IsCounted q) (get_or_from_slice_get queued i c c is)
    (All-get_or (λ q. IsCounted q) queued i c (slice_get_within queued i c is) all)

pub picked_counted : (order : Order) (queued : List Command) (c : Command) → All (λ q. IsCounted q) queued
    → picked order queued ≡ Some c → IsCounted c
picked_counted Oldest queued c all is = counted_at queued 0 c all is
picked_counted Newest queued c all is = counted_at queued (length queued - 1) c all is

-- ## A turn that is known

-- the bytes that show it, and what it leaves
pub takes : (t : Turn) (s : Sending) (bytes : List ℕ) (m n : Moment) → t ≡ Some (s, m) → Shows s bytes → n ≡ m → Takes t bytes n
takes t s bytes m n is shows same = rw is (shows, same)

pub takes_answer : (plan : DiskPlan) (sectors : ℕ) (m n : Moment) (a : Answer) (later : List Answer) (bytes : List ℕ)
    → m.owed ≡ a ∷ later → Shows (answer_sent sectors plan a) bytes → n ≡ record m { owed = later }
    → Takes (turn plan sectors m) bytes n
takes_answer plan sectors m n a later bytes owed shows same =
    takes _ (answer_sent sectors plan a) bytes (record m { owed = later }) n (rw owed refl) shows same

takes_first : (m n : Moment) (c : Command) (sends later : List Sending) (bytes : List ℕ) → Leads sends bytes later
    → n ≡ went m c later → Takes (read_turn m c sends) bytes n
takes_first m n c [] later bytes leads same = absurd leads
takes_first m n c (s ∷ rest) later bytes leads same = (leads.0, same ∙ ap (went m c) (sym leads.1))

pub takes_read : (plan : DiskPlan) (sectors : ℕ) (m n : Moment) (c : Command) (sends later : List Sending) (bytes : List ℕ)
    → m.owed ≡ [] → m.started ≡ Some (record { command = c; sends = sends }) → Leads sends bytes later → n ≡ went m c later
    → Takes (turn plan sectors m) bytes n
takes_read plan sectors m n c sends later bytes owed started leads same =
    let a : turn plan sectors m ≡ read_turn m c sends = rw (owed, started) refl in
    rw a (takes_first m n c sends later bytes leads same)

pub takes_start : (plan : DiskPlan) (sectors : ℕ) (m n : Moment) (c : Command) (later : List Sending) (bytes : List ℕ)
    → c.write ≡ false → m.owed ≡ [] → m.started ≡ None → m.writing ≡ None → picked plan.order m.queued ≡ Some c
    → fault_of plan sectors c ≡ None → Leads (sends_left plan m.medium c (chunks plan c)) bytes later → n ≡ went m c later
    → Takes (turn plan sectors m) bytes n
takes_start plan sectors m n c later bytes read owed started writing pick good leads same =
    let a : turn plan sectors m ≡ starts plan m c c.write = rw (owed, started, writing, pick, good) refl in
    rw (a ∙ ap (starts plan m c) read) (takes_first m n c _ later bytes leads same)

-- ## It is the disk's turn

-- what holds also holds if there is an error
pub on_err_so : {T E P : Type 0} (r : Result T E) → P → OnErr r P
on_err_so (Ok x) p = tt
on_err_so (Err e) p = p

pub none_left : (m : Moment) (c : Command) (sends later : List Sending) (s : Sending) → sends ≡ s ∷ later
    → read_turn m c sends ≢ None
none_left m c sends later s is = λ none. let e = rw is at none in cc e

read_left : (plan : DiskPlan) (m : Moment) (medium : List ℕ) (r : Reading) (up : Bool) → 0 < r.left
    → read_turn m r.command (sends_of plan medium r up) ≢ None
read_left plan m medium r false some = none_left m r.command _ _ _ (sends_left_next plan medium r.command r.left some)
read_left plan m medium r true some = none_left m r.command _ _ _ (ap (drop 1) (sends_left_next plan medium r.command r.left some))

-- a read goes on
pub has_read : (plan : DiskPlan) (sectors : ℕ) (m : Moment) (medium : List ℕ) (r : Reading) → m.owed ≡ []
    → m.started ≡ Some (record { command = r.command; sends = sends_of plan medium r r.set_up }) → 0 < r.left
    → turn plan sectors m ≢ None
has_read plan sectors m medium r owed started some =
    let a : turn plan sectors m ≡ read_turn m r.command (sends_of plan medium r r.set_up) = rw (owed, started) refl in
    λ none. read_left plan m medium r r.set_up some (sym a ∙ none)

-- a read is started
pub has_start : (plan : DiskPlan) (sectors : ℕ) (m : Moment) (c : Command) → c.write ≡ false → m.owed ≡ [] → m.started ≡ None
    → m.writing ≡ None → picked plan.order m.queued ≡ Some c → fault_of plan sectors c ≡ None → 0 < chunks plan c
    → turn plan sectors m ≢ None
has_start plan sectors m c read owed started writing pick good some =
    let a : turn plan sectors m ≡ starts plan m c c.write = rw (owed, started, writing, pick, good) refl in
    λ none. none_left m c _ _ _ (sends_left_next plan m.medium c (chunks plan c) some) (ap (starts plan m c) (sym read) ∙ sym a ∙ none)

-- ## What a read's FIS leaves

went_more : (m : Moment) (c : Command) (sends : List Sending) (s : Sending) (later : List Sending) → sends ≡ s ∷ later
    → went m c sends ≡ record m { started = Some (record { command = c; sends = sends }) }
went_more m c sends s later is = rw is refl

-- the read moves on
pub went_on : (plan : DiskPlan) (m : Moment) (r : Reading) (up : Bool) → r.set_up ≡ up → 0 < r.left → (up ≡ true → 1 < r.left)
    → went m r.command (sends_after plan m.medium r up) ≡ record m { started = started_by plan m.medium (Read (moved r)) }
went_on plan m r true is some more =
    let rest = sends_left_next plan m.medium r.command (r.left - 1) (let h : 1 < r.left = more refl in omega arith) in
    rw is (went_more m r.command _ _ _ rest)
went_on plan m r false is some more =
    let rest = ap (drop 1) (sends_left_next plan m.medium r.command r.left some) in
    rw is (went_more m r.command _ _ _ rest)

-- the read ends
pub went_last : (plan : DiskPlan) (m : Moment) (r : Reading) (up : Bool) → up ≡ true → r.left ≡ 1
    → went m r.command (sends_after plan m.medium r up) ≡ ended m r.command
unfolding sends_left
went_last plan m r up is last = rw (is, last) refl

-- the front of a list that is not empty
pub front_is : (xs : List Answer) (a : Answer) → 0 < length xs → a ≡ get_or xs 0 a → xs ≡ a ∷ drop 1 xs
front_is [] a some is = absurd (omega arith)
front_is (x ∷ xs) a some is = ap (λ y. y ∷ xs) (sym is)

-- two moments with the same parts
pub same_moment : (m n : Moment) → m.medium ≡ n.medium → m.queued ≡ n.queued → m.fault ≡ n.fault → m.resetting ≡ n.resetting
    → m.owed ≡ n.owed → m.started ≡ n.started → m.writing ≡ n.writing → m ≡ n
same_moment m n a b c d e f g = λ i. record { medium = a i; queued = b i; fault = c i; resetting = d i; owed = e i; started = f i; writing = g i }
