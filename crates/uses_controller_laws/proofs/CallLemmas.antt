-- A call, from what the laws and the rules of a controller hand out.
use Rattle.std.proofs.Common.{◌≡◌, ℕ, List, [], ◌∷◌, ◌++◌, refl, sym, ap, subst, ◌∙◌, Bool, false, Option, Some, None}
use Rattle.std.specs.{Prelude.{IfOk, IfSome, Result, Ok, Err}, Result.result_err}
use Rattle.fis_view.specs.Frames.{IsFrame}
use Rattle.slots.specs.Table.{IsTable}
use Rattle.hba_fbs.specs.Views.{IsCorePort}
use Rattle.hba_laws.specs.Cores.{CoreEvent}
use Rattle.ahci_controller.specs.{Rules.IsRuled, States.ControllerState, Taking.{Hears, hindrance}, declared.latch.Edge.Edge}
use Rattle.ahci_controller.specs.declared.{taking.Hindrance.Hindrance, writing.Written.Written}
use Rattle.ahci_controller.specs.declared.taking.Took as taking
use Rattle.controller_laws.specs.{Carrying.{AreNumbered, AreSaid, Carrying, IsOwnData, first_of, placed_of, said_of}, CoreEvents.AreCoreEvents}
use Rattle.controller_laws.specs.{CoreEvents.of_event, Events.{Does, Event, IsController, Runs, Took, Wrote}, Interrupts.{line_after, line_shown}}
use Rattle.uses_controller_laws.specs.Ended.{IsCall, Laws}

no_more : (l : List CoreEvent) → (l ++ []) ≡ l
no_more [] = refl
no_more (e ∷ rest) = ap (λ (t : List CoreEvent). e ∷ t) (no_more rest)

pub ruled : (c : ControllerState) → IsCorePort c.core → IsTable c.core.slots → IsRuled c → IsController c
ruled c port slots rules = record { port = port; slots = slots; rules = rules }

-- one call is a run
abbrev one : (old new : ControllerState) (e : Event) → IsController old → IsController new → Does old e new → Runs old (e ∷ []) new
one old new e k k_new does = (k, (new, does, (k_new, refl)))

pub is_call : Laws → (old new : ControllerState) (e : Event) → IsController old → IsController new → Does old e new → IsCall old e new
is_call laws old new e k k_new does =
    let run : Runs old (e ∷ []) new = one old new e k k_new does in
    let are : AreCoreEvents old.core (of_event old e new does) new.core =
    subst (λ (l : List CoreEvent). AreCoreEvents old.core l new.core) (no_more (of_event old e new does)) (laws.events old new (e ∷ []) run) in
    record {
      does = does;
      are = are;
      falls = λ past told s below shows hides. laws.falls old new e k k_new does are past told s below shows hides;
      active = λ past told s below shows hides. laws.active old new e k k_new does are past told s below shows hides;
      sources = λ s below was sources. laws.supplied old new (e ∷ []) run s below was sources;
      said = λ was said. laws.said old new (e ∷ []) run was said;
      line = laws.told old new (e ∷ []) run;
      latched = λ was. laws.latched old new (e ∷ []) run was;
    }

module _ (laws : Laws) (old new : ControllerState) (frame : List ℕ) (k : IsController old) (k_new : IsController new) (framed : IsFrame frame) where
  pub takes_call : (r : Result taking.Took Hindrance) → result_err r ≡ hindrance old → IfOk r (λ took. Hears old frame took new) → IfOk r (λ took. IsCall old (Took frame took) new)
  takes_call (Ok took) free hears = is_call laws old new (Took frame took) k k_new (record { framed = framed; free = sym free; hears = hears })
  takes_call (Err why) free hears = tt

  pub takes_own : (r : Result taking.Took Hindrance) → result_err r ≡ hindrance old → IfOk r (λ took. Hears old frame took new) → IfOk r (λ took. IfSome took.brought (IsOwnData old frame))
  takes_own (Ok took) free hears = laws.own old new frame took k (record { framed = framed; free = sym free; hears = hears })
  takes_own (Err why) free hears = tt

  pub takes_whole : (r : Result taking.Took Hindrance) → result_err r ≡ hindrance old → IfOk r (λ took. (d : Carrying) → AreSaid old (Some d) → AreNumbered d → d.cut ≡ false → said_of d ≡ first_of d (placed_of d))
  takes_whole (Ok took) free = λ d said numbered cut. laws.all old d said numbered (sym free) cut
  takes_whole (Err why) free = tt

-- the line that is kept
pub line_kept : Laws → (old new : ControllerState) (offset value : ℕ) (written : Written) → IsController old → IsController new → Does old (Wrote offset value written) new → (line : Bool) → line ≡ line_shown old → line_after line (written.line ∷ []) ≡ line_shown new
line_kept laws old new offset value written k k_new does line is =
    ap (λ (b : Bool). line_after b (written.line ∷ [])) is ∙ laws.kept old new (Wrote offset value written ∷ []) (one old new (Wrote offset value written) k k_new does)
