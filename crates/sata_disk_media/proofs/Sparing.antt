-- Where no write that has a sector is under way, and no discard waits, nothing asks for a store or a discard of it.
use Rattle.std.proofs.Common.{◌≡◌, ℕ, true, false, List, [], ◌∷◌, ◌++◌, Some, None, refl, sym, ap, ◌∙◌, append_assoc, subst}
use Rattle.std.proofs.lemmas.List.{append-nil}
use Rattle.std.specs.Prelude.{Option, Bool, ◌&&◌}
use Rattle.block_command.specs.{declared.command.Turn.Turn, Moments.{Moment, turn_of}}
use Rattle.block_command.specs.declared.command.Turn.TheVariants as turn
use Rattle.block_queue.specs.Line.{command_at}
use Rattle.block_engine.specs.{declared.{aside.AsideKind.AsideKind, request.{Range.Range, Request.Request, What.What}}, Aside.is_waiting}
use Rattle.block_engine.specs.Engine.{EngineState, IsAskedOf, aside_what, is_discard, line, what_at, what_of}
use Rattle.block_engine.specs.declared.aside.AsideKind.TheVariants as kinds
use Rattle.block_engine.specs.declared.request.What.TheVariants as what
use Rattle.disk_pages.specs.declared.profile.Profile.{Profile}
use Rattle.sata_disk.specs.State.{DiskState, new_disk}
use Rattle.sata_disk_laws.specs.{Calls.{AreCalls, Asks, Call, IsCall, after_call, after_calls, asked_by}, Laws.reached}
use Rattle.sata_disk_laws.proofs.Door.{calls_after}
use Rattle.sata_disk_media.specs.{Cells.covers, Laws.{AreSparing, IsUndisturbed, Spares, StoresAreOfWrites, UndisturbedIsSpared, touches}}
use Rattle.sata_disk_media.proofs.Runs.{are_first, are_then}

-- ## A discard waits before it is asked for

record Waits (e : EngineState) : Type 0 where
  pub kind : is_discard e.kind ≡ true
  pub waits : is_waiting e.stage ≡ true

of_kind : (k : AsideKind) → aside_what k ≡ what.Discard → is_discard k ≡ true
of_kind kinds.Discard e = refl
of_kind kinds.Flush e = absurd (cc)

first_true : (a b : Bool) → (a && b) ≡ true → a ≡ true
first_true true b e = refl
first_true false b e = absurd (cc)

no_discard : (m : Moment) (t : Turn) → what_of m t ≡ what.Discard → ⊥
no_discard m turn.Load e = cc
no_discard m turn.Store e = cc
no_discard m t e = cc

none_at : (x : Option Moment) → what_at x ≡ what.Discard → ⊥
none_at None e = cc
none_at (Some m) e = no_discard m (turn_of m.stage) e

discard_waits : (e : EngineState) (r : Request) (x : Option ℕ) → IsAskedOf e (asked_by e x) r x → r.what ≡ what.Discard → Waits e
discard_waits e r None is same = record { kind = of_kind e.kind (sym is.3 ∙ same); waits = first_true _ _ (first_true _ _ is.1) }
discard_waits e r (Some q) is same = absurd (none_at (command_at (line e) q) (sym is.2 ∙ same))

-- ## One call

by_both : (b : Bool) → b ≡ true → b ≡ false → ⊥
by_both b e f = cc

not_true : (b : Bool) → (b ≡ true → ⊥) → b ≡ false
not_true true f = absurd (f refl)
not_true false f = refl

what_case : StoresAreOfWrites → (p : Profile) (limit : ℕ) (calls : List Call) (r : Request) (s : ℕ) (ranges : List Range) (w : What) → AreCalls (new_disk p limit) calls
    → IsCall (reached p limit calls) (Asks r) → IsUndisturbed p limit calls s → r.what ≡ w → touches s w ranges ≡ false
what_case law p limit calls r s ranges (what.Store lba count) are is calm e =
    not_true (covers lba count s) (λ cov. (let w = law p limit calls r lba count s are is e cov in
    by_both _ w.taken (calm.writes w.place w.page w.has w.writes w.covered)))
what_case law p limit calls r s ranges what.Discard are is calm e =
    let w = discard_waits (reached p limit calls).engine r r.place is.1 e in
    absurd (by_both _ w.waits (calm.discards w.kind))
what_case law p limit calls r s ranges other are is calm e = refl

call_spares : StoresAreOfWrites → (p : Profile) (limit : ℕ) (calls : List Call) (c : Call) (s : ℕ) → AreCalls (new_disk p limit) calls
    → IsCall (reached p limit calls) c → IsUndisturbed p limit calls s → Spares (reached p limit calls) s c
call_spares law p limit calls (Asks r) s are is calm = what_case law p limit calls r s (reached p limit calls).engine.ranges r.what are is calm refl
call_spares law p limit calls other s are is calm = tt

-- ## All of them

one_after : (d : DiskState) (c : Call) → after_calls d (c ∷ []) ≡ after_call d c
unfolding after_calls
one_after d c = refl

calls_spare : StoresAreOfWrites → (later : List Call) (p : Profile) (limit : ℕ) (first : List Call) (s : ℕ) → AreCalls (new_disk p limit) (first ++ later)
    → ((before after : List Call) → later ≡ before ++ after → IsUndisturbed p limit (first ++ before) s) → AreSparing (reached p limit first) s later
calls_spare law [] p limit first s are calm = tt
calls_spare law (c ∷ later) p limit first s are calm =
    let longer : (first ++ c ∷ []) ++ later ≡ first ++ c ∷ later = append_assoc first (c ∷ []) later in
    let then' : reached p limit (first ++ c ∷ []) ≡ after_call (reached p limit first) c =
    calls_after first (c ∷ []) (new_disk p limit) ∙ one_after (reached p limit first) c in
    let now : IsUndisturbed p limit first s = subst (λ x. IsUndisturbed p limit x s) (append-nil first) (calm [] (c ∷ later) refl) in
    let rest = calls_spare law later p limit (first ++ c ∷ []) s (subst (λ x. AreCalls (new_disk p limit) x) (sym longer) are)
    (λ before after e. subst (λ x. IsUndisturbed p limit x s) (sym (append_assoc first (c ∷ []) before)) (calm (c ∷ before) after (ap (λ x. c ∷ x) e))) in (
      call_spares law p limit first c s (are_first first (c ∷ later) (new_disk p limit) are) (are_then first (c ∷ later) (new_disk p limit) are).0 now,
      subst (λ d. AreSparing d s later) then' rest,
    )

pub undisturbed_is_spared : StoresAreOfWrites → UndisturbedIsSpared
undisturbed_is_spared law p limit first later s are calm = calls_spare law later p limit first s are calm
