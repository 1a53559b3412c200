-- What the FISes that came to the controller say of Data that are to go is a beginning of what the calls of the disk say.
use Rattle.std.proofs.Common.{◌≡◌, ℕ, ◌-◌, Bool, true, false, List, [], ◌∷◌, ◌++◌, append_assoc, append-nil, length, refl, sym, ap, ◌∙◌}
use Rattle.std.proofs.lemmas.Bool.{false≢true}
use Rattle.std.specs.Prelude.{◌==◌, if◌then◌else◌}
use Rattle.fis_view.specs.{Frames.Stamped, Seen.seen}
use Rattle.multiplier.specs.Passing.{of_conn}
use Rattle.hba_fbs.specs.Taking.{port_of}
use Rattle.ahci_controller.specs.declared.feeding.Fed.TheVariants as fed_answer
use Rattle.controller_laws.specs.Events as call
use Rattle.controller_laws.specs.Events.{Event}
use Rattle.sata_disk_books.specs.Talks.{Down, Sign, Step, Up, sign_of}
use Rattle.ahci_machine.specs.States.{MachineState}
use Rattle.machine_laws.specs.Rising.{Frames, RisesInOrder, bytes_of, frames_of, is_over, on_way}
use Rattle.machine_theorem.specs.{Asking.events_steps, Crossing.ups, OwnSlots.{AreOne, NoneLost, is_of}}
use Rattle.machine_theorem.proofs.{OwnPlace.cancel, RisenTold.conn_both, SignsSent.{sign_in, signs_in}}

-- ---- the calls of the controller

-- of a device, in a list of FISes
abbrev pub signs_own : (dev : ℕ) → List (List ℕ) → List Sign
signs_own dev [] = []
signs_own dev (f ∷ later) = if port_of f == dev then sign_of (seen f) ∷ signs_own dev later else signs_own dev later

up_if : (b : Bool) (s : Sign) (rest : List Step) → ups ((if b then Up s ∷ [] else []) ++ rest) ≡ (if b then s ∷ ups rest else ups rest)
up_if true s rest = refl
up_if false s rest = refl

down_if : (b : Bool) (count : ℕ) (rest : List Step) → ups ((if b then Down count ∷ [] else []) ++ rest) ≡ ups rest
down_if true count rest = refl
down_if false count rest = refl

left_same : (b : Bool) (s : Sign) (rest : List Sign) → b ≡ false → rest ≡ (if b then s ∷ rest else rest)
left_same true s rest e = absurd (false≢true (sym e))
left_same false s rest e = refl

pub events_up : (dev : ℕ) (events : List Event) → NoneLost dev events → ups (events_steps dev events) ≡ signs_own dev (frames_of events)
events_up dev [] none = refl
events_up dev (call.Took frame took ∷ later) none =
    up_if (port_of frame == dev) (sign_of (seen frame)) (events_steps dev later)
    ∙ ap (λ l. if port_of frame == dev then sign_of (seen frame) ∷ l else l) (events_up dev later none)
events_up dev (call.Left frame why ∷ later) none =
    events_up dev later none.1 ∙ left_same (port_of frame == dev) (sign_of (seen frame)) (signs_own dev (frames_of later)) none.0
events_up dev (call.Gathered d number frame (fed_answer.Goes message line) ∷ later) none =
    down_if (d == dev) (length frame - 4) (events_steps dev later) ∙ events_up dev later none
events_up dev (call.Gathered d number frame other ∷ later) none = events_up dev later none
events_up dev (call.Wrote offset value written ∷ later) none = events_up dev later none
events_up dev (call.WroteWide offset width value written ∷ later) none = events_up dev later none
events_up dev (call.Supplied slot number bytes supply ∷ later) none = events_up dev later none
events_up dev (call.Missed slot number supply ∷ later) none = events_up dev later none
events_up dev (call.Turned next ∷ later) none = events_up dev later none
events_up dev (call.Said write ∷ later) none = events_up dev later none
events_up dev (call.NotThere d number fed ∷ later) none = events_up dev later none

one_case : (b : Bool) (f : Stamped) (later : List Stamped) → (if b then sign_in f ∷ signs_in later else signs_in later) ≡ signs_in (if b then f ∷ later else later)
one_case true f later = refl
one_case false f later = refl

pub own_up : (n c dev : ℕ) (frames : List Stamped) → AreOne n c dev frames → signs_own dev (bytes_of frames) ≡ signs_in (of_conn n c frames)
own_up n c dev [] one = refl
own_up n c dev (f ∷ later) one =
    ap (λ l. if port_of f.bytes == dev then sign_in f ∷ l else l) (own_up n c dev later one.1)
    ∙ ap (λ (b : Bool). if b then sign_in f ∷ signs_in (of_conn n c later) else signs_in (of_conn n c later)) one.0
    ∙ one_case (is_of n c f) f (of_conn n c later)

-- ---- in order

-- what came of the connection is a beginning of what was sent
pub record Begins (n c : ℕ) (came sent : List Stamped) : Type 0 where
  pub rest : List Stamped
  pub is : of_conn n c sent ≡ of_conn n c came ++ rest

pub begins : (n c : ℕ) (at now : MachineState) (was all : Frames) (came sent : List Stamped) → RisesInOrder at was n c → RisesInOrder now all n c
    → all ≡ record { sent = was.sent ++ sent; came = was.came ++ came } → on_way n c at ≡ [] → is_over at.fan n c ≡ false → Begins n c came sent
begins n c at now was all came sent first last same way lasts =
    let whole : of_conn n c was.came ≡ of_conn n c was.sent =
    sym (append-nil (of_conn n c was.came)) ∙ ap (λ l. of_conn n c was.came ++ l) (sym (ap (λ l. l ++ first.dropped) way ∙ first.whole lasts))
    ∙ sym (append_assoc (of_conn n c was.came) (on_way n c at) first.dropped) ∙ first.order in
    let left : List Stamped = on_way n c now ++ last.dropped in
    let order : of_conn n c (was.came ++ came) ++ on_way n c now ++ last.dropped ≡ of_conn n c (was.sent ++ sent) =
    ap (λ (x : Frames). of_conn n c x.came ++ on_way n c now ++ last.dropped) (sym same) ∙ last.order ∙ ap (λ (x : Frames). of_conn n c x.sent) same in
    let both : of_conn n c was.sent ++ (of_conn n c came ++ left) ≡ of_conn n c was.sent ++ of_conn n c sent =
    ap (λ l. l ++ (of_conn n c came ++ left)) (sym whole)
    ∙ sym (append_assoc (of_conn n c was.came) (of_conn n c came) left)
    ∙ ap (λ l. l ++ left) (sym (conn_both n c was.came came))
    ∙ sym (append_assoc (of_conn n c (was.came ++ came)) (on_way n c now) last.dropped) ∙ order ∙ conn_both n c was.sent sent in
    record { rest = left; is = sym (cancel (of_conn n c was.sent) _ _ both) }
