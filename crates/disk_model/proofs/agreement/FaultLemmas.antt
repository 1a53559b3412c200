-- For `answers_each_command_once`. Why commands fail, as the disk and the ledger note it, and the pages that are owed
-- and awaited.
use Rattle.std.proofs.Common.{◌≡◌, ℕ, ◌+◌, ◌<◌, ◌≤◌, Bool, true, false, List, [], ◌∷◌, ◌++◌, Option, Some, None, drop, refl, subst, arith, inl, inr}
use Rattle.std.proofs.lemmas.Bool.{ltb-true, ltb-false}
use Rattle.std.specs.Prelude.{nat_lt}
use Rattle.disk_model.specs.declared.{plan.DiskPlan.DiskPlan, request.Command.Command, answer.Fault.{Fault, TheVariants.{Held, Mixed, Failed}}}
use Rattle.disk_model.specs.{declared.answer.Page.Page, Chunks.{fault_of, first_bad, error_of}, Disks.picked, Ledger.Wanted, Laws.{Fails, CanBeDone}}
use Rattle.disk_model.specs.Between.{AreWanted, IsNoted, IsWanted}

-- ## Why a command fails

abbrev pub FaultIs : DiskPlan → ℕ → Command → Fault → Type 0
FaultIs plan sectors c (Failed tag error lba) = (tag ≡ c.tag) × Fails plan sectors c error lba
FaultIs plan sectors c Mixed = ⊥
FaultIs plan sectors c Held = ⊥

fault_by : (plan : DiskPlan) (sectors : ℕ) (c : Command) (f : Fault) (past write : Bool) (bad : Option ℕ)
    → nat_lt sectors (c.lba + c.count) ≡ past → c.write ≡ write → first_bad c plan.bad.items ≡ bad
    → fault_of plan sectors c ≡ Some f → FaultIs plan sectors c f
unfolding first_bad
fault_by plan sectors c f true write bad e w b is =
    let got = rw e at is in
    let same : Failed c.tag 0x10 c.lba ≡ f = cc got in
    let over : sectors < c.lba + c.count = ltb-true sectors (c.lba + c.count) e in
    subst (FaultIs plan sectors c) same (refl, inl (record { past = over; error_is = refl; lba_is = refl }))
fault_by plan sectors c f false true bad e w b is = let got = rw (e, w) at is in cc got
fault_by plan sectors c f false false (Some lba) e w b is =
    let got = rw (e, w, b) at is in
    let same : Failed c.tag 0x40 lba ≡ f = cc got in
    let within : c.lba + c.count ≤ sectors = ltb-false sectors (c.lba + c.count) e in
    subst (FaultIs plan sectors c) same (refl, inr (record { inside = within; reads = w; error_is = refl; first = b }))
fault_by plan sectors c f false false None e w b is = let got = rw (e, w, b) at is in cc got

pub fault_is : (plan : DiskPlan) (sectors : ℕ) (c : Command) (f : Fault) → fault_of plan sectors c ≡ Some f
    → FaultIs plan sectors c f
fault_is plan sectors c f is = fault_by plan sectors c f _ _ _ refl refl refl is

good_by : (plan : DiskPlan) (sectors : ℕ) (c : Command) (past : Bool) (bad : Option ℕ) → nat_lt sectors (c.lba + c.count) ≡ past
    → c.write ≡ false → first_bad c plan.bad.items ≡ bad → fault_of plan sectors c ≡ None → first_bad c plan.bad.items ≡ None
unfolding first_bad
good_by plan sectors c true bad e w b is = let got = rw e at is in cc got
good_by plan sectors c false (Some lba) e w b is = let got = rw (e, w, b) at is in cc got
good_by plan sectors c false None e w b is = b

in_end_by : (plan : DiskPlan) (sectors : ℕ) (c : Command) (past : Bool) → nat_lt sectors (c.lba + c.count) ≡ past
    → fault_of plan sectors c ≡ None → c.lba + c.count ≤ sectors
in_end_by plan sectors c true e good = let no = rw e at good in cc no
in_end_by plan sectors c false e good = ltb-false sectors (c.lba + c.count) e

pub can_be_done : (plan : DiskPlan) (sectors : ℕ) (c : Command) → fault_of plan sectors c ≡ None → CanBeDone plan sectors c
can_be_done plan sectors c is = record { inside = in_end_by plan sectors c _ refl is; good = λ reads. good_by plan sectors c _ _ refl reads refl is }

error_small : (plan : DiskPlan) (sectors : ℕ) (c : Command) (error lba : ℕ) → Fails plan sectors c error lba → error < 256
error_small plan sectors c error lba (inl h) = omega (arith, h.error_is)
error_small plan sectors c error lba (inr h) = omega (arith, h.error_is)

pub fault_small : (plan : DiskPlan) (sectors : ℕ) (c : Command) (f : Fault) → FaultIs plan sectors c f → error_of f < 256
fault_small plan sectors c (Failed tag error lba) is = error_small plan sectors c error lba is.1
fault_small plan sectors c other is = absurd is

-- ## What is noted about it

pub noted : (plan : DiskPlan) (sectors : ℕ) (c : Command) (f : Fault) (among : List Command) (error : ℕ)
    → picked plan.order among ≡ Some c → FaultIs plan sectors c f → error ≡ error_of f → IsNoted plan sectors (Some f)
    (Some (record { error = error; among = among }))
noted plan sectors c (Failed tag e lba) among error turn is same = (c, turn, is.0, is.1, same)
noted plan sectors c other among error turn is same = absurd is

-- ## Pages

pub AreWanted-append : (plan : DiskPlan) (sectors : ℕ) (pages : List Page) (ws : List Wanted) (p : Page) (w : Wanted)
    → AreWanted plan sectors pages ws → IsWanted plan sectors p w → AreWanted plan sectors (pages ++ p ∷ []) (ws ++ w ∷ [])
AreWanted-append plan sectors [] [] p w are is = (is, tt)
AreWanted-append plan sectors [] (x ∷ ws) p w are is = absurd are
AreWanted-append plan sectors (q ∷ pages) [] p w are is = absurd are
AreWanted-append plan sectors (q ∷ pages) (x ∷ ws) p w are is = (are.0, AreWanted-append plan sectors pages ws p w are.1 is)

pub wanted_left : (plan : DiskPlan) (sectors : ℕ) (p : Page) (pages : List Page) (ws : List Wanted)
    → AreWanted plan sectors (p ∷ pages) ws → AreWanted plan sectors pages (drop 1 ws)
wanted_left plan sectors p pages [] are = absurd are
wanted_left plan sectors p pages (w ∷ ws) are = are.1
