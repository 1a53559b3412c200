-- For `ports_rest_at_a_flush`. Up to the first FIS of a disk, the host serves the disk and gives it nothing.
use Rattle.std.proofs.Common.{◌≡◌, ◌≢◌, eqb, ◌==◌, ◌⊎◌, ℕ, ◌<◌, Bool, true, false, List, [], ◌∷◌, ◌++◌, drop, length, map, refl, sym, ap, subst, ◌∙◌}
use Rattle.std.proofs.{Common.{inl, inr, Ok}, lemmas.{Bool.{eq-eqb, true≢false}, List.append-nil, List.Elements.All-head}}
use Rattle.std.specs.{Prelude.Result, List.flat_map}
use Rattle.fis_view.specs.{Frames.Stamped, Seen.seen, declared.view.{Fis.Fis, FisFault.FisFault}}
use Rattle.fis_view.specs.declared.view.Fis.TheVariants as view
use Rattle.host_memory.specs.Memory.{is_memory_size}
use Rattle.hba_fbs.specs.Taking.{port_of}
use Rattle.disk_model.specs.{declared.request.Request.Request, Ends.{Fits, FitsAll, FitsRequest, IsCareful}, Histories.{Happening, Plugged, Received}}
use Rattle.disk_model.specs.{Ledger.{Signs, empty, listens}, Requests.request_of}
use Rattle.disk_model.specs.declared.request.Request.TheVariants as asked
use Rattle.hba_laws.specs.Client.{own}
use Rattle.hba_driver.specs.{Events.shared_by, HostTurns.HostTurn, Steady.{IsCalmTick, IsFlushTick}}
use Rattle.disk_simulation.specs.Hosted.{IsKept}
use Rattle.disk_simulation.proofs.Door.{hosted_is_kept}
use Rattle.pm_world.specs.{Places.Places, Rules.Rule, Turns.{IsOfItsPort, turn_of}, declared.step.{Step.Step, Answer.Answer}, PathEnds.for_port}
use Rattle.pm_world.specs.declared.step.Answer.TheVariants as answer
use Rattle.pm_world.proofs.{upward.PortMarks.{AllHavePortMarks, run_marks}, serving.HostLemmas.{DriversServe, HasPushed, HostOn, step_flushes}}
use Rattle.pm_world.proofs.{serving.HostLemmas.{step_keeps, step_pushes}, ports.DownLemmas.given_for, paths.PathLemmas.drop_front}

-- the host took a FIS of port n
abbrev pub is_taken_of : ℕ → Answer → Bool
is_taken_of n (answer.Took port conn number bytes report) = port == n
is_taken_of n a = false

-- A tick does not stop the port, and clears no fault of n. It may flush n.
abbrev pub OpensWell : ℕ → Places → Answer → Type 0
OpensWell n old answer.Ticked = IsCalmTick n old.host ⊎ IsFlushTick n old.host
OpensWell n old a = Prim.Unit {0}

-- ## Nothing fits before the signature

no_request : (r : Request) → FitsRequest (listens empty Plugged) r → ⊥
no_request (asked.Reset on) fits = fits
no_request (asked.Queue c) fits = let e : Signs ∷ [] ≡ [] = fits.1 in cc e
no_request other fits = let e : Signs ∷ [] ≡ [] = fits.awaited in cc e

nothing_fits : (f : Result Fis FisFault) → Fits (listens empty Plugged) f → ⊥
nothing_fits (Ok (view.RegH2D f)) fits = no_request (request_of f) fits.1
nothing_fits _ fits = fits

careless : (bytes : List ℕ) (later : List Happening) → IsCareful (Plugged ∷ Received bytes ∷ later) → ⊥
unfolding FitsAll
careless bytes later careful = nothing_fits (seen bytes) careful.0

-- so a host that serves a disk gives it nothing before that
gives_none : (n len : ℕ) (turns : List HostTurn) (now : Places) (xs : List (List ℕ)) → n < 15
    → HostOn n len turns now.host (Plugged ∷ map (λ bytes. Received bytes) xs) → xs ≡ []
gives_none n len turns now [] below h = refl
gives_none n len turns now (x ∷ xs) below h =
    let kept : IsKept n (shared_by now.host) (Plugged ∷ Received x ∷ map (λ bytes. Received bytes) xs) h.commands (own n h.touches) =
    hosted_is_kept n (shared_by now.host) (Plugged ∷ Received x ∷ map (λ bytes. Received bytes) xs) h.commands (own n h.touches) below h.serves.hosted in
    absurd (careless x (map (λ bytes. Received bytes) xs) kept.careful)

-- ## The run

-- each FIS that is taken has the PM Port that the answer says
pub record ComesRisen (a : Answer) (new : Places) : Type 0 where
  pub own_port : IsOfItsPort a
  pub risen : AllHavePortMarks new.multiplier new.upward.frames

pub comes_risen : (old : Places) (s : Step) (a : Answer) (new : Places) → AllHavePortMarks old.multiplier old.upward.frames → Rule old s (Ok a) new → ComesRisen a new
comes_risen old s a new risen rule =
    let r = run_marks old (s ∷ []) (a ∷ []) new risen (new, rule, refl) in
    record { own_port = All-head IsOfItsPort a [] r.0; risen = r.1 }

module _ (law : DriversServe) (n len : ℕ) (below : n < 15) (right : is_memory_size len ≡ true) where
  pub record FirstOn (turns : List HostTurn) (old : Places) (s : Step) (a : Answer) (new : Places) : Type 0 where
    pub host : HostOn n len (turns ++ turn_of old s a new) new.host (Plugged ∷ [])
    pub given : given_for n old s a new ≡ []

  pub elsewhere : (port : ℕ) (bytes : List ℕ) → eqb port n ≡ false → port_of bytes ≡ port → n ≢ port_of bytes
  elsewhere port bytes other at same = true≢false (sym (eq-eqb port n (sym (same ∙ at))) ∙ other)

  pub first_step : (turns : List HostTurn) (old : Places) (s : Step) (a : Answer) (new : Places) → HostOn n len turns old.host (Plugged ∷ [])
      → Rule old s (Ok a) new → IsOfItsPort a → is_taken_of n a ≡ false → OpensWell n old a → FirstOn turns old s a new
  first_step turns old s (answer.Took port conn number bytes report) new h rule its untaken well = record {
    host = step_keeps law n len below right turns old s new (Plugged ∷ []) h (answer.Took port conn number bytes report) rule
        (elsewhere port bytes untaken its.0);
    given = refl;
  }
  first_step turns old s answer.Pushed new h rule its untaken well =
      let p : HasPushed law n len below right turns old s new (Plugged ∷ []) h = step_pushes law n len below right turns old s new (Plugged ∷ []) h rule in
      let none : for_port n p.frame ≡ [] = gives_none n len (turns ++ turn_of old s answer.Pushed new) new (for_port n p.frame) below p.host in
      record {
        host = subst (λ (xs : List (List ℕ)). HostOn n len (turns ++ turn_of old s answer.Pushed new) new.host (Plugged ∷ map (λ bytes. Received bytes) xs)) none p.host;
        given =
            ap (λ (xs : List Stamped). flat_map (for_port n) (drop (length old.downward.frames) xs)) p.link
            ∙ ap (λ (xs : List Stamped). flat_map (for_port n) xs) (drop_front old.downward.frames (p.frame ∷ []))
            ∙ append-nil (for_port n p.frame) ∙ none;
      }
  first_step turns old s answer.Ticked new h rule its untaken (inl calm) =
      record { host = step_keeps law n len below right turns old s new (Plugged ∷ []) h answer.Ticked rule calm; given = refl }
  first_step turns old s answer.Ticked new h rule its untaken (inr flush) =
      record { host = step_flushes law n len below right turns old s new (Plugged ∷ []) h rule flush; given = refl }
  first_step turns old s a new h rule its untaken well =
      record { host = step_keeps law n len below right turns old s new (Plugged ∷ []) h a rule tt; given = refl }
