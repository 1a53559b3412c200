-- For `disks_in_reset_take_no_command`. A disk in software reset takes no command, and sends nothing.
use Rattle.std.proofs.Common.{◌≡◌, ℕ, true, false, List, [], ◌∷◌, ◌++◌, Option, Some, None, Ok, Result, refl, ap, sym, subst, ◌∙◌}
use Rattle.fis_view.specs.{Seen.seen, declared.view.{Fis.Fis, FisFault.FisFault}}
use Rattle.fis_view.specs.declared.view.Fis.TheVariants as view
use Rattle.disk_model.specs.declared.{answer.Fault.TheVariants.Held, plan.{DiskPlan.DiskPlan, Order.{Order, TheVariants.{Oldest, Newest}}}}
use Rattle.disk_model.specs.{declared.request.{Command.Command, Request.{Request, TheVariants.Reset}}, Anew.{IsRequest, OwesOnly}, Disks.Moment}
use Rattle.disk_model.specs.{Disks.{after, cleared, heard, moment_after, opening, pick_turn, picked, received, turn}, Histories.{Happening, Received}}
use Rattle.disk_model.specs.{Histories.{Sent, sent_in}, InReset.{IsHeldRun, LeavesReset, LeavesSet, NoneEndsReset, TakesNoCommand}, Ledger.Ledger}
use Rattle.disk_model.specs.{Ledger.{Signs, asks, ledger, ledger_after, listens, listens_down}, Requests.request_of, Runs.{IsTurn, Runs, moment}}
use Rattle.disk_model.proofs.{both_ends.AnewLemmas.{after_more, held_is, held_ledger, held_signs}, turns.MomentLemmas.{moment_after-append}}

-- ## The disk

abbrev held : Moment → Moment
held m = record (cleared m) { resetting = true; fault = Some Held }

not_asked : (m : Moment) (r : Request) → LeavesSet r → received (held m) r (Some Held) ≡ held m
not_asked m (Reset false) leaves = absurd leaves
not_asked m request leaves = refl

not_heard : (plan : DiskPlan) (m : Moment) (r : Result Fis FisFault) → LeavesReset r → heard plan (held m) r ≡ held m
not_heard plan m (Ok (view.RegH2D f)) leaves = not_asked m (request_of f) leaves
not_heard plan m other leaves = refl

none_picked : (order : Order) → picked order [] ≡ None
none_picked Oldest = refl
none_picked Newest = refl

no_turn : (plan : DiskPlan) (sectors : ℕ) (m : Moment) (bytes : List ℕ) → IsTurn (turn plan sectors (held m)) bytes → ⊥
no_turn plan sectors m bytes may =
    subst (λ (o : Option Command). IsTurn (pick_turn plan sectors (held m) o) bytes) (none_picked plan.order) may

-- nothing is sent, and the disk stays as it is
record IsStill (plan : DiskPlan) (sectors : ℕ) (m : Moment) (between : List Happening) : Type 0 where
  silent : sent_in between ≡ []
  same : moment_after plan sectors (held m) between ≡ held m

still : (plan : DiskPlan) (sectors : ℕ) (m : Moment) (between : List Happening) → NoneEndsReset between
    → Runs plan sectors (held m) between → IsStill plan sectors m between
unfolding moment_after Runs
still plan sectors m [] stays run = record { silent = refl; same = refl }
still plan sectors m (Received bytes ∷ later) stays run =
    let here : after plan sectors (held m) (Received bytes) ≡ held m = not_heard plan m (seen bytes) stays.0 in
    let rest : IsStill plan sectors m later = still plan sectors m later stays.1 (subst (λ (x : Moment). Runs plan sectors x later) here run.1) in
    record { silent = rest.silent; same = ap (λ (x : Moment). moment_after plan sectors x later) here ∙ rest.same }
still plan sectors m (Sent bytes ∷ later) stays run = absurd (no_turn plan sectors m bytes run.0)
still plan sectors m other stays run = absurd stays

-- ## From a new disk on

run_on : (plan : DiskPlan) (sectors : ℕ) (m : Moment) (history more : List Happening) → Runs plan sectors m (history ++ more)
    → Runs plan sectors (moment_after plan sectors m history) more
unfolding moment_after Runs
run_on plan sectors m [] more run = run
run_on plan sectors m (e ∷ history) more run = run_on plan sectors (after plan sectors m e) history more run.1

moment_on : (plan : DiskPlan) (sectors : ℕ) (m : Moment) (history more : List Happening)
    → moment_after plan sectors m (history ++ more) ≡ moment_after plan sectors (moment_after plan sectors m history) more
unfolding moment_after
moment_on plan sectors m [] more = refl
moment_on plan sectors m (e ∷ history) more = moment_on plan sectors (after plan sectors m e) history more

held_now : (plan : DiskPlan) (sectors : ℕ) (before : List Happening) (on : List ℕ) → IsRequest on (Reset true)
    → moment plan sectors (before ++ Received on ∷ []) ≡ held (moment plan sectors before)
held_now plan sectors before on sets =
    let m : Moment = moment plan sectors before in
    moment_after-append plan sectors (opening sectors) before (Received on)
    ∙ ap (heard plan m) sets.is ∙ ap (λ (r : Request). received m r m.fault) sets.asks

held_run : (plan : DiskPlan) (sectors : ℕ) (before : List Happening) (on : List ℕ) (between : List Happening)
    → IsHeldRun plan sectors before on between → IsStill plan sectors (moment plan sectors before) between
held_run plan sectors before on between h =
    let run : Runs plan sectors (moment plan sectors (before ++ Received on ∷ [])) between = run_on plan sectors (opening sectors) (before ++ Received on ∷ []) between h.run in
    still plan sectors (moment plan sectors before) between h.stays
    (subst (λ (x : Moment). Runs plan sectors x between) (held_now plan sectors before on h.sets) run)

held_same : (plan : DiskPlan) (sectors : ℕ) (before : List Happening) (on : List ℕ) (between : List Happening)
    → IsHeldRun plan sectors before on between
    → moment plan sectors ((before ++ Received on ∷ []) ++ between) ≡ moment plan sectors (before ++ Received on ∷ [])
held_same plan sectors before on between h =
    let now : moment plan sectors (before ++ Received on ∷ []) ≡ held (moment plan sectors before) = held_now plan sectors before on h.sets in
    moment_on plan sectors (opening sectors) (before ++ Received on ∷ []) between
    ∙ ap (λ (x : Moment). moment_after plan sectors x between) now
    ∙ (held_run plan sectors before on between h).same ∙ sym now

-- ## A listener

not_asked_told : (l : Ledger) (r : Request) → LeavesSet r → asks (held_ledger l) r true ≡ held_ledger l
not_asked_told l (Reset false) leaves = absurd leaves
not_asked_told l request leaves = refl

not_told : (l : Ledger) (r : Result Fis FisFault) → LeavesReset r → listens_down (held_ledger l) r ≡ held_ledger l
not_told l (Ok (view.RegH2D f)) leaves = not_asked_told l (request_of f) leaves
not_told l other leaves = refl

still_told : (l : Ledger) (between : List Happening) → NoneEndsReset between → sent_in between ≡ [] → ledger_after (held_ledger l) between ≡ held_ledger l
unfolding ledger_after
still_told l [] stays none = refl
still_told l (Received bytes ∷ later) stays none =
    let here : listens (held_ledger l) (Received bytes) ≡ held_ledger l = not_told l (seen bytes) stays.0 in
    ap (λ (x : Ledger). ledger_after x later) here ∙ still_told l later stays.1 none
still_told l (Sent bytes ∷ later) stays none = cc none
still_told l other stays none = absurd stays

held_told : (plan : DiskPlan) (sectors : ℕ) (before : List Happening) (on : List ℕ) (between : List Happening)
    → IsHeldRun plan sectors before on between
    → ledger ((before ++ Received on ∷ []) ++ between) ≡ ledger (before ++ Received on ∷ [])
held_told plan sectors before on between h =
    let now : ledger (before ++ Received on ∷ []) ≡ held_ledger (ledger before) = held_is before on h.sets in
    after_more _ (before ++ Received on ∷ []) between
    ∙ ap (λ (x : Ledger). ledger_after x between) now
    ∙ still_told (ledger before) between h.stays (held_run plan sectors before on between h).silent ∙ sym now

held_signing : (plan : DiskPlan) (sectors : ℕ) (before : List Happening) (on : List ℕ) (between : List Happening) (off : List ℕ)
    → IsHeldRun plan sectors before on between → IsRequest off (Reset false)
    → OwesOnly (ledger (((before ++ Received on ∷ []) ++ between) ++ Received off ∷ [])) (Signs ∷ []) []
held_signing plan sectors before on between off h clears =
    let now : ledger ((before ++ Received on ∷ []) ++ between) ≡ held_ledger (ledger before) =
    held_told plan sectors before on between h ∙ held_is before on h.sets in
    held_signs ((before ++ Received on ∷ []) ++ between) (ledger before) off now clears

pub takes_no_command : TakesNoCommand
takes_no_command = record {
  silent = λ plan sectors before on between h. (held_run plan sectors before on between h).silent;
  same = held_same;
  told = held_told;
  signs = held_signing;
}
