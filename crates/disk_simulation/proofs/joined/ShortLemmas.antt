-- For `port_and_ledger_stay_joined`. No DMA Setup whose data moves names more bytes than a Data FIS holds.
use Rattle.std.proofs.Common.{◌≡◌, ℕ, ◌≤◌, Bool, true, false, List, drop, refl, sym, ap, subst, ◌∙◌, Option, Some, None, Ok, Result}
use Rattle.fis_view.specs.{Table.{BufferId, Offset, Setup, field}, declared.view.{Fis.Fis, FisFault.FisFault}}
use Rattle.fis_view.specs.Table as table
use Rattle.fis_view.specs.declared.view.Fis.TheVariants as view
use Rattle.disk_model.specs.{Ends.{IsAskedFor, IsRight}, Laws.{ActivatesRight, CarriesNext, CarriesRight}, Ledger.{Ledger, Moving, activates}}
use Rattle.disk_model.specs.{Ledger.{is_auto, listens_up, sends_data, sets_up, takes_data, with_auto}, Between.{after_bytes, is_all, with_bytes}}
use Rattle.disk_model.proofs.Door.{bits_up, data_down, goes_by}
use Rattle.disk_simulation.specs.Joined.{AreShort, IsShort}
use Rattle.disk_simulation.proofs.together.TogetherLemmas.{set_up_now}

same_count : (a v : Moving) → Some a ≡ Some v → a.count ≡ v.count
same_count a v e = let is : a ≡ v = cc e in ap (λ (x : Moving). x.count) is

short_bytes : (k : Ledger) (w : Moving) (bytes : List ℕ) (b write : Bool) → k.moving ≡ Some w → AreShort k
    → AreShort (after_bytes k (with_bytes w bytes) b write)
short_bytes k w bytes true true was short v now = cc now
short_bytes k w bytes true false was short v now = cc now
short_bytes k w bytes false write was short v now = subst (λ (n : ℕ). n ≤ 8192) (same_count (with_bytes w bytes) v now) (short w was)

short_setup : (k : Ledger) (f : List ℕ) → IsRight k (Ok (view.DmaSetup f)) → field Setup table.Count f ≤ 8192
    → AreShort (sets_up k k.moving (field Setup BufferId f) (field Setup Offset f) (field Setup table.Count f))
short_setup k f right few v now =
    let u = set_up_now k f right in
    subst (λ (n : ℕ). n ≤ 8192) (u.count ∙ same_count u.current v (sym u.moving ∙ now)) few

short_active : (x : Ledger) (m : Option Moving) → x.moving ≡ m → AreShort x → AreShort (activates x m)
short_active x None moving short v now = short v now
short_active x (Some w) moving short v now =
    subst (λ (n : ℕ). n ≤ 8192) (same_count (record w { active = true }) v now) (short w moving)

short_auto : (b : Bool) (x : Ledger) → AreShort x → AreShort (with_auto b x)
short_auto true x short = short_active x x.moving refl short
short_auto false x short = short

short_activate : (k : Ledger) (m : Option Moving) → k.moving ≡ m → ActivatesRight m → AreShort k → AreShort (activates k k.moving)
short_activate k None moving right short v now = absurd right
short_activate k (Some w) moving right short v now =
    let here : Some (record w { active = true }) ≡ Some v = sym (ap (λ (x : Option Moving). (activates k x).moving) moving) ∙ now in
    subst (λ (n : ℕ). n ≤ 8192) (same_count (record w { active = true }) v here) (short w moving)

short_data : (k : Ledger) (bytes : List ℕ) (m : Option Moving) → k.moving ≡ m → CarriesRight m bytes → AreShort k
    → AreShort (sends_data k k.moving bytes)
short_data k bytes None moving right short v now =
    let here : k.moving ≡ Some v = sym (ap (λ (x : Option Moving). (sends_data k x bytes).moving) moving) ∙ now in
    short v here
short_data k bytes (Some w) moving right short v now =
    let carries : CarriesNext w bytes = right in
    let up : sends_data k k.moving bytes ≡ after_bytes k (with_bytes w bytes) (is_all (with_bytes w bytes)) false =
    ap (λ (x : Option Moving). sends_data k x bytes) moving ∙ goes_by k (with_bytes w bytes) (is_all (with_bytes w bytes)) false refl carries.reads in
    short_bytes k w bytes (is_all (with_bytes w bytes)) false moving short v (sym (ap (λ (x : Ledger). x.moving) up) ∙ now)

pub short_up : (k : Ledger) (r : Result Fis FisFault) → IsRight k r → IsShort r → AreShort k → AreShort (listens_up k r)
short_up k (Ok (view.SetBits f)) right few short = λ v now. short v (sym (ap (λ (x : Ledger). x.moving) (bits_up k f right.fine)) ∙ now)
short_up k (Ok (view.DmaActivate f)) right few short = short_activate k k.moving refl right.moves short
short_up k (Ok (view.DmaSetup f)) right few short =
    short_auto (is_auto f) (sets_up k k.moving (field Setup BufferId f) (field Setup Offset f) (field Setup table.Count f))
    (short_setup k f right few)
short_up k (Ok (view.Payload f)) right few short = short_data k (drop 4 f) k.moving refl right.moves short
short_up k other right few short = short

pub short_down : (k : Ledger) (w : Moving) (bytes : List ℕ) → k.moving ≡ Some w → IsAskedFor w bytes → AreShort k
    → AreShort (takes_data k k.moving bytes)
short_down k w bytes moving asked short v now =
    let down : takes_data k k.moving bytes ≡ after_bytes k (with_bytes w bytes) (is_all (with_bytes w bytes)) true =
    data_down k w bytes (is_all (with_bytes w bytes)) moving asked refl in
    short_bytes k w bytes (is_all (with_bytes w bytes)) true moving short v (sym (ap (λ (x : Ledger). x.moving) down) ∙ now)
