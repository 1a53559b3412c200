-- For `disks_are_honest`. The plugging of a unit: its port is shut from there on.
use Rattle.std.proofs.Common.{◌≡◌, ◌≢◌, ◌==◌, ◌&&◌, ℕ, ◌+◌, ◌<◌, ◌≤◌, Bool, true, false, List, [], ◌∷◌, length, refl, sym, ap, subst, ◌∙◌, inr}
use Rattle.std.proofs.{Common.{Option, Some, Ok, arith}, lemmas.Bool.{eq-eqb, true≢false}}
use Rattle.std.specs.Prelude.{slice_get, if◌then◌else◌}
use Rattle.fis_view.specs.Frames.{Stamped}
use Rattle.pm_ports.specs.Port.{is_gone}
use Rattle.multiplier.specs.{Arbiter.control_port, State.{PmState, port_at}}
use Rattle.hba_driver.specs.declared.mode.Mode.TheVariants.{Switching}
use Rattle.pm_world.specs.{Attached.Attached, Downward.falling_to, Places.{Place, Places, is_config, new_world}, Rules.{CameActs, CameRule, Rule}}
use Rattle.pm_world.specs.{Rules.Run, Traffic.{all_marked, is_removed, of_conn, stamped, transit, waiting}, declared.step.{Config.Config, Step.Step}}
use Rattle.pm_world.specs.{declared.step.Answer.Answer, PathEnds.{IsThere, IsUnremoved}, Connections.IsUnused}
use Rattle.pm_world.specs.declared.step.Step.TheVariants as step
use Rattle.pm_world.specs.declared.step.Answer.TheVariants as answer
use Rattle.pm_world.proofs.{steps.Lists.{slice_get-set_same, stamped-append, stamped-one}, upward.Recorded.{IsLed, led_last}}
use Rattle.pm_world.proofs.{upward.PortMarks.{opening_marks, run_marks}, steps.Steps.{AtDevice, at_device}, ports.EachLemmas.{Each, each_map}}
use Rattle.pm_world.proofs.{serving.FirstLemmas.comes_risen, paths.{KeptLemmas.{came_unremoved, unremoved}, RunLemmas.IsPlugged, PathLemmas.and_both}}
use Rattle.pm_world.proofs.{paths.PathLemmas.{none_both, still_above}, ports.FirmLemmas.{HasCome, IsFirm, firm_after, opening_firm, run_firm}}
use Rattle.pm_world.proofs.{ports.{FirmLemmas.seen_at, SentLemmas.none_on_way}, honest.ShutLemmas.{IsForOther, IsNoneOf, IsShutOff, WaitsFor}}

-- ## The plugging

one_none : (b : Bool) → b ≡ true → (bytes : List ℕ) → (if b then bytes ∷ [] else []) ≡ [] → ⊥
one_none true is bytes e = cc e
one_none false is bytes e = true≢false (sym is)

-- if nothing of a connection is on the host's link, each FIS there is of another one
pub none_of_conn : (n c : ℕ) (frames : List Stamped) → stamped n c frames ≡ [] → Each (IsNoneOf n c) frames
none_of_conn n c [] none = tt
none_of_conn n c (f ∷ frames) none =
    let both = none_both (stamped n c (f ∷ [])) (stamped n c frames) (sym (stamped-append n c (f ∷ []) frames) ∙ none) in (
      λ here same.
          one_none (f.stamp.port == n && f.stamp.conn == c)
          (and_both (f.stamp.port == n) (f.stamp.conn == c) (eq-eqb f.stamp.port n here) (eq-eqb f.stamp.conn c same)) f.bytes
          (sym (stamped-one n c f) ∙ both.0),
      none_of_conn n c frames both.1,
    )

-- the unit that comes is shut off at its port
pub record ComesShut (n c : ℕ) (new : Places) : Type 0 where
  pub off : IsShutOff n c new []
  pub waits : WaitsFor n c new

pub comes_shut : (n c : ℕ) → n < 15 → (config : Config) (units : List Attached) → is_config config (length units) ≡ true → (first : List Step) (told : List Answer)
    (out : Places) → Run (new_world config units) first told out → (new : Places) → Rule out (step.Came n) (Ok (answer.Came n c)) new → ComesShut n c new
comes_shut n c below config units fits first told out made new rule =
    let device : n ≢ control_port = λ e. absurd (omega (arith, e, below)) in
    let firm : IsFirm n out = run_firm n below (new_world config units) first told out made (opening_firm config units fits n) in
    let firm_now : IsFirm n new = firm_after n below out (step.Came n) (answer.Came n c) new rule firm in
    let d : AtDevice out n (Ok (answer.Came n c)) new (CameRule n) = at_device out n (answer.Came n c) new (CameRule n) rule in
    let acts : CameActs n d.place (answer.Came n c) d.after = d.rule.1 in
    let after_is = acts.3 in
    let next : c ≡ d.place.conn + 1 = acts.1 in
    let less : d.place.conn < c = omega (arith, next) in
    let here : slice_get new.devices n ≡ Some d.after =
    ap (λ (w : Places). slice_get w.devices n) d.new_is ∙ slice_get-set_same out.devices n d.place d.after d.is in
    let there : IsThere n c new =
    subst (IsPlugged c) (sym here) (ap (λ (p : Place). p.plugged) after_is, ap (λ (p : Place). p.conn) after_is ∙ sym acts.1) in
    let pm : new.multiplier ≡ out.multiplier = ap (λ (w : Places). w.multiplier) d.new_is in
    let kept : IsUnremoved n c new = came_unremoved n c out new firm.orderly rule Switching config units fits first told made in
    let still : is_removed n c new ≡ false = unremoved n c new kept in
    let was : is_removed n c out ≡ false = ap (λ (m : PmState). is_gone (port_at m n) c) (sym pm) ∙ still in
    let unused : IsUnused n c out = inr (record { place = d.place; is = d.is; less = less }) in
    let none : transit n c out ≡ [] = none_on_way n c below config units fits first told out made unused was in
    let above : transit n c new ≡ [] =
    still_above n c out new (step.Came n) (answer.Came n c) device firm.orderly rule refl refl still ∙ none in
    let led : IsLed (Some d.place) (seen_at n out) = subst (λ (o : Option Place). IsLed o (seen_at n out)) d.is firm.led in
    let most : (seen_at n out).1 ≤ d.place.conn = led_last d.place (seen_at n out) led in
    let last : (seen_at n new).1 ≡ (seen_at n out).1 = ap (λ (m : PmState). (port_at m n).last) pm in
    let off : IsShutOff n c new [] =
    record {
      orderly = firm_now.orderly;
      risen =
          (comes_risen out (step.Came n) (answer.Came n c) new (run_marks (new_world config units) first told out (opening_marks config units) made).1
          rule).risen;
      true_is = firm_now.true_is;
      up =
          none_of_conn n c new.upward.frames
          (none_both (stamped n c new.upward.frames) (all_marked n (of_conn c (waiting n new))) above).0;
      falls =
          each_map (HasCome n new) (IsForOther c) (falling_to n new)
          (λ f came same. let low : f.stamp.conn ≤ (seen_at n new).1 = came in absurd (omega (arith, low, same, last, most, less))) firm_now.falls;
      there = there;
      kept = kept;
      above = above;
    } in
    record {
      off = off;
      waits = λ present.
          let is : c ≡ (seen_at n new).1 = ((firm_now.orderly.knows n).present c present).0 in
          absurd (omega (arith, is, last, most, less));
    }
