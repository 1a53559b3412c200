-- For `rested`. The steps of a round of one port, and what a world that did nothing in one is.
use Rattle.std.proofs.Common.{◌≡◌, ℕ, zero, suc, ◌<◌, Bool, true, false, List, [], ◌∷◌, length, map, Some, refl, sym, ap, subst, ◌∙◌, arith}
use Rattle.std.proofs.lemmas.List.{length-map}
use Rattle.std.specs.Prelude.{◌↔◌, Result, Ok, Err}
use Rattle.hba_driver.specs.HostTurns.{sight_in}
use Rattle.pm_world.specs.{Attached.Attached, Places.{Places, is_config, new_world}, Rules.Run, declared.step.{Answer.Answer, Step.Step}}
use Rattle.pm_world.specs.declared.step.Step.TheVariants as step
use Rattle.world_rests.specs.{Ended.{AsidesRecover, EachAsideRecovers}, Laws.RestsAfter, Left.RestedDisksHaveDone, Matches.PlanMatches}
use Rattle.world_rests.specs.{Matches.RestedPlansMatch, Opens.{MultiplierIsSet, RestedPortsAreOpen}, Out.RestedDisksAreLeft}
use Rattle.world_rests.specs.{Over.RestedWorldsHaveEnded, Rests.{HasRound, IsAtRest, NothingMoves}, Signs.RestedDisksHaveSigned, Waits.HostWaits}
use Rattle.world_rests.specs.Watches.{RestedDriversWatch, WaitsForNotice}
use Rattle.uses_world_rests.specs.{Left.{DiskHasDoneIn, DiskIsLeftIn, config}, Over.WorldHasEndedIn, Signs.DiskHasSignedIn}

abbrev pub round : List Step
round = step.PmPresence 0 ∷ step.DiskTake 0 ∷ step.DiskSend 0 ∷ step.PmFromDevice 0 ∷ step.PmDown 0 ∷ step.PmFromHost ∷ step.PmUp ∷ step.HostTake ∷ step.Tick ∷ step.HostPush ∷ []

first : (n : ℕ) → n < 1 → 0 ≡ n
first zero low = refl
first (suc n) low = absurd (omega (arith, low))

has_round : HasRound 1 round
has_round (step.PmPresence n) of = (0, ap (λ (k : ℕ). Some (step.PmPresence k)) (first n of))
has_round (step.DiskTake n) of = (1, ap (λ (k : ℕ). Some (step.DiskTake k)) (first n of))
has_round (step.DiskSend n) of = (2, ap (λ (k : ℕ). Some (step.DiskSend k)) (first n of))
has_round (step.PmFromDevice n) of = (3, ap (λ (k : ℕ). Some (step.PmFromDevice k)) (first n of))
has_round (step.PmDown n) of = (4, ap (λ (k : ℕ). Some (step.PmDown k)) (first n of))
has_round step.PmFromHost of = (5, refl)
has_round step.PmUp of = (6, refl)
has_round step.HostTake of = (7, refl)
has_round step.Tick of = (8, refl)
has_round step.HostPush of = (9, refl)
has_round other of = absurd of

pub fits : {A E : Type 0} (r : Result A E) (e : E) (w : A) (b : Bool) → ((r ≡ Err e) ↔ (b ≡ false)) → r ≡ Ok w → b ≡ true
fits r e w true both is = refl
fits r e w false both is = absurd (let wrong : Ok w ≡ Err e = sym is ∙ both.1 refl in cc)

pub moves_none : {X : Type 0} (seen : X → Attached) (items : List X) (opened old new : Places) (steps : List Step) (answers : List Answer) → opened ≡ new_world config (map seen items)
    → is_config config (length items) ≡ true → Run opened steps answers old → RestsAfter old round new → NothingMoves new × HostWaits new.host
moves_none seen items opened old new steps answers is right run rests =
    let fit : is_config config (length (map seen items)) ≡ true = ap (λ (n : ℕ). is_config config n) (length-map items seen) ∙ right in
    let r = rests config (map seen items) fit steps answers (subst (λ (w : Places). Run w steps answers old) is run) has_round in
    (subst NothingMoves (sym r.0) r.2, subst (λ (w : Places). HostWaits w.host) (sym r.0) r.3)

pub watches_alone : {X : Type 0} (seen : X → Attached) (items : List X) (opened old new : Places) (steps : List Step) (answers : List Answer) → opened ≡ new_world config (map seen items)
    → is_config config (length items) ≡ true → Run opened steps answers old → RestsAfter old round new → RestedDriversWatch → WaitsForNotice (sight_in new.host) new.host.driver.plan
watches_alone seen items opened old new steps answers is right run rests law =
    let fit : is_config config (length (map seen items)) ≡ true = ap (λ (n : ℕ). is_config config n) (length-map items seen) ∙ right in
    let made : Run (new_world config (map seen items)) steps answers old = subst (λ (w : Places). Run w steps answers old) is run in
    let r = rests config (map seen items) fit steps answers made has_round in
    subst (λ (w : Places). WaitsForNotice (sight_in w.host) w.host.driver.plan) (sym r.0) (law config (map seen items) fit steps answers old made r.1)

pub opens_all : {X : Type 0} (seen : X → Attached) (items : List X) (opened old new : Places) (steps : List Step) (answers : List Answer) → opened ≡ new_world config (map seen items)
    → is_config config (length items) ≡ true → Run opened steps answers old → RestsAfter old round new → RestedPortsAreOpen → MultiplierIsSet new
opens_all seen items opened old new steps answers is right run rests law =
    let fit : is_config config (length (map seen items)) ≡ true = ap (λ (n : ℕ). is_config config n) (length-map items seen) ∙ right in
    let made : Run (new_world config (map seen items)) steps answers old = subst (λ (w : Places). Run w steps answers old) is run in
    let r = rests config (map seen items) fit steps answers made has_round in
    subst MultiplierIsSet (sym r.0) (law config (map seen items) fit steps answers old made r.1)

pub disk_has_done : {X : Type 0} (seen : X → Attached) (items : List X) (opened old new : Places) (steps : List Step) (answers : List Answer) → opened ≡ new_world config (map seen items)
    → is_config config (length items) ≡ true → Run opened steps answers old → RestsAfter old round new → RestedDisksHaveDone → DiskHasDoneIn (map seen items) new
disk_has_done seen items opened old new steps answers is right run rests law sectors plan past has d there =
    let fit : is_config config (length (map seen items)) ≡ true = ap (λ (n : ℕ). is_config config n) (length-map items seen) ∙ right in
    let r = rests config (map seen items) fit steps answers (subst (λ (w : Places). Run w steps answers old) is run) has_round in
    law config (map seen items) 0 sectors plan past fit (omega (arith)) has new d there (subst IsAtRest (sym r.0) r.1)

pub disk_is_left : {X : Type 0} (seen : X → Attached) (items : List X) (opened old new : Places) (steps : List Step) (answers : List Answer) → opened ≡ new_world config (map seen items)
    → is_config config (length items) ≡ true → Run opened steps answers old → RestsAfter old round new → RestedDisksAreLeft → DiskIsLeftIn (map seen items) new
disk_is_left seen items opened old new steps answers is right run rests law sectors plan past has d there =
    let fit : is_config config (length (map seen items)) ≡ true = ap (λ (n : ℕ). is_config config n) (length-map items seen) ∙ right in
    let r = rests config (map seen items) fit steps answers (subst (λ (w : Places). Run w steps answers old) is run) has_round in
    law config (map seen items) 0 sectors plan past fit (omega (arith)) has new d there (subst IsAtRest (sym r.0) r.1)

pub asides_go_on : {X : Type 0} (seen : X → Attached) (items : List X) (opened old new : Places) (steps : List Step) (answers : List Answer) → opened ≡ new_world config (map seen items)
    → is_config config (length items) ≡ true → Run opened steps answers old → RestsAfter old round new → AsidesRecover → EachAsideRecovers new.host
asides_go_on seen items opened old new steps answers is right run rests law =
    let fit : is_config config (length (map seen items)) ≡ true = ap (λ (n : ℕ). is_config config n) (length-map items seen) ∙ right in
    let made : Run (new_world config (map seen items)) steps answers old = subst (λ (w : Places). Run w steps answers old) is run in
    let r = rests config (map seen items) fit steps answers made has_round in
    subst (λ (w : Places). EachAsideRecovers w.host) (sym r.0) (law config (map seen items) fit steps answers old made)

pub plan_matches : {X : Type 0} (seen : X → Attached) (items : List X) (opened old new : Places) (steps : List Step) (answers : List Answer) → opened ≡ new_world config (map seen items)
    → is_config config (length items) ≡ true → Run opened steps answers old → RestsAfter old round new → RestedPlansMatch → PlanMatches new
plan_matches seen items opened old new steps answers is right run rests law =
    let fit : is_config config (length (map seen items)) ≡ true = ap (λ (n : ℕ). is_config config n) (length-map items seen) ∙ right in
    let made : Run (new_world config (map seen items)) steps answers old = subst (λ (w : Places). Run w steps answers old) is run in
    let r = rests config (map seen items) fit steps answers made has_round in
    subst PlanMatches (sym r.0) (law config (map seen items) fit steps answers old made r.1)

pub world_has_ended : {X : Type 0} (seen : X → Attached) (items : List X) (opened old new : Places) (steps : List Step) (answers : List Answer) → opened ≡ new_world config (map seen items)
    → is_config config (length items) ≡ true → Run opened steps answers old → RestsAfter old round new → RestedWorldsHaveEnded → WorldHasEndedIn (map seen items) new
world_has_ended seen items opened old new steps answers is right run rests law =
    let fit : is_config config (length (map seen items)) ≡ true = ap (λ (n : ℕ). is_config config n) (length-map items seen) ∙ right in
    let made : Run (new_world config (map seen items)) steps answers old = subst (λ (w : Places). Run w steps answers old) is run in
    let r = rests config (map seen items) fit steps answers made has_round in
    subst (WorldHasEndedIn (map seen items)) (sym r.0) (λ alone. law config (map seen items) fit steps answers old made alone r.1)

pub disk_has_signed : {X : Type 0} (seen : X → Attached) (items : List X) (opened old new : Places) (steps : List Step) (answers : List Answer) → opened ≡ new_world config (map seen items)
    → is_config config (length items) ≡ true → Run opened steps answers old → RestsAfter old round new → RestedDisksHaveSigned → DiskHasSignedIn (map seen items) new
disk_has_signed seen items opened old new steps answers is right run rests law sectors plan past has d there =
    let fit : is_config config (length (map seen items)) ≡ true = ap (λ (n : ℕ). is_config config n) (length-map items seen) ∙ right in
    let r = rests config (map seen items) fit steps answers (subst (λ (w : Places). Run w steps answers old) is run) has_round in
    law config (map seen items) 0 sectors plan past fit (omega (arith)) has new d there (subst IsAtRest (sym r.0) r.1)
