-- For `devices_are_known`. What an act does to the command of slot 30: only a stage of a path issues one there.
use Rattle.std.proofs.Common.{◌≡◌, ◌≢◌, ℕ, Bool, true, false, refl, sym, ap, arith}
use Rattle.std.specs.{Prelude.not, List.list_all}
use Rattle.hba_fbs.specs.Offsets.{register_at}
use Rattle.hba_driver.specs.{declared.{mode.Mode.TheVariants.Switching, path.Stage.Stage, turn.Act.Act}, Effects.{effects_of, issuing}}
use Rattle.hba_driver.specs.declared.turn.Act.TheVariants as act
use Rattle.hba_driver.proofs.{known.AwaitLemmas.keeps_here, calls.EffectLemmas.{issuing_pass, opens_pass, order_pass, restarts_pass}}
use Rattle.hba_driver.proofs.issued.IssuingLemmas.{bit_other}

-- ---- effects that issue nothing in slot 30

here_issuing : (slot dev : ℕ) (queued : Bool) → slot ≢ 30 → list_all keeps_here (issuing Switching slot dev queued) ≡ true
unfolding register_at
here_issuing slot dev queued other = issuing_pass keeps_here Switching slot dev queued (λ on. refl) refl (ap not (bit_other slot 30 (λ same. other (sym same))))

apart : ◌≢◌ {A = ℕ} 31 30
apart same = absurd (omega (arith, same))

pub here_act : (a : Act) → ((dev : ℕ) (stage : Stage) → a ≡ act.Steps dev stage → ⊥) → ((slot dev : ℕ) (queued : Bool) → a ≡ act.Issues slot dev queued → slot ≢ 30) → list_all keeps_here (effects_of Switching a) ≡ true
unfolding effects_of register_at
here_act (act.Opens k) steps slots = opens_pass keeps_here Switching k refl refl
here_act (act.Restarts k) steps slots = restarts_pass keeps_here Switching k refl refl
here_act (act.Orders order) steps slots = order_pass keeps_here Switching order refl (λ port is. (refl, refl)) (λ f. refl) (here_issuing 31 15 false apart)
here_act (act.Steps dev stage) steps slots = absurd (steps dev stage refl)
here_act (act.Issues slot dev queued) steps slots = here_issuing slot dev queued (slots slot dev queued refl)
here_act other steps slots = refl
