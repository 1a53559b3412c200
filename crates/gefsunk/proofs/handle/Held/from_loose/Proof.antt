-- `from_loose` puts the pointer into the other struct.
use Rattle.std.proofs.{Common.{◌≡◌, List, [], ◌∷◌, ◌++◌, refl, sym, ap, ◌∙◌, subst}, raw_atomic.Walks.{proved_at, leaves}}
use base.Logic.{SProp, ent, emp, id⊢}
use contract.Monad.{fact, fact_i}
use contract.Running.{tables}
use denote.Exit.{yes}
use denote.RattleType.{owns}
use denote.RawPtr.{Ptr, block_ptr}
use denote.Signature.{types_at, plain}
use denote.Steps.{nothing}
use denote.Triple.Entry.{alive}
use denote.Triple.Walked.{Stays, stay_dropped, walk_of, Goes-dropped}
use mir.Val.{Val}
use prog.Wp.{WpFn}
use types.ByLocal.{alloc_all, pass_all, free_all, look_at, get, get_in, sets}
use types.Kit.{‵, raw, ◌⊛◌, ◌$◌, ◌∵◌, !, qed, by, move, keep, split, fsplit, fjoin, fpack, suffices, use0}
use types.Part.{agg, sub, whole}
use types.Run.{stop, fld, of_opd, no_more, and_then, returns, enter}
use Rattle.std.specs.{Box.Ownership.box_owns, Prelude.{Option, Some}}
use Rattle.std_heap.specs.{contracts.GlobalAllocator.TheImpl.ghosts, declared.Global.Global}
use Rattle.gefsunk.proofs.{HeldSteps.{State, Loose, word, boxed_out, loose_out, held_in}, handle.Held.from_loose.Statement.statement}
use Rattle.gefsunk.specs.contracts.handle.Held.from_loose as f
use Rattle.gefsunk.proofs.handle.Held.from_loose.Code as code

abbrev stayed : Stays f.ended.signature.params f.ended.kept
stayed = (stay_dropped (plain (λ _. Loose State)) yes, tt)

pub from_loose_spec : {M : Type 1} → statement M
from_loose_spec 𝓤 𝓛 𝓜 𝓡 wired =
    let H = 𝓛.H in let 𝓣 = tables 𝓤 H 𝓜 𝓡 𝓡.env in let c = f.clauses 𝓛 𝓜.mem 𝓡.returns in
    proved_at 𝓛 f.ended stayed c 𝓜 𝓡 (Goes-dropped 𝓛 0 (plain (λ _. Loose State)) yes (λ κs x w. refl), tt) f.Key.name code.function (code.unfolded 𝓤 H 𝓜 𝓡 wired) (λ z are.
    let κs = z.0.0 in let v = z.0.3.0 in let Post : Val → SProp 𝓤 = (walk_of 𝓛 f.ended stayed c).post z in
    let Run : List Val → SProp 𝓤 = λ ws. WpFn 𝓤 H 𝓣.C 𝓣.Λ code.function ws Post in
    qed 𝓛 ((raw (alive 𝓛 f.signature κs z.0.1) ⊛ ‵ (owns (types_at f.signature.params κs) z.0.3 z.0.4)) ∷ raw ((c κs z.0.3).requires z.1) ∷ []) ∵ split ! $ move ! (1 ∷ []) $ fsplit ! $
    loose_out ! State v z.0.4.0 (λ ws. boxed_out ! State v.at v.value (λ alloc b o e.
    let p = block_ptr b o in let held : Option State.Denot = Some v.value in
    let us : z.0.4.0 ≡ word p ∷ [] = ws ∙ ap (λ (q : Ptr). word q ∷ []) e in
    suffices ! (Run (word p ∷ [])) (subst (λ (xs : List Val). ent 𝓤 (Run (word p ∷ [])) (Run xs)) (sym (λ i. us i ++ [])) (id⊢ 𝓤 (Run (word p ∷ [])))) $
    enter ! 𝓣.C 𝓣.Λ code.function (word p ∷ []) Post $ alloc_all ! (λ l. pass_all ! refl ((tt, (tt, tt)), tt) $
    sets ! (of_opd ! (get_in ! (fld ! refl (stop !)) (sub ! 0 refl (whole !)))) refl (tt, tt) $ sets ! (of_opd ! (get ! refl)) refl (tt, tt) $
    sets ! (agg ! (and_then ! (get ! refl) (no_more !))) refl (tt, (tt, tt)) $
    fpack ! Global (λ a. box_owns (ghosts.dealloc_token a) State p v.value) alloc $ held_in ! p held $
    use0 𝓛 (raw (fact 𝓤 (held ≡ Some v.value))) (fact_i 𝓤 (held ≡ Some v.value) (emp 𝓤) refl) $ nothing ! $ nothing ! $
    returns ! (look_at ! 0 refl) $ free_all ! refl $ fjoin ! $ keep ! (4 ∷ 0 ∷ 2 ∷ 1 ∷ []) $
    by ! (leaves 𝓛 f.ended stayed c z (word p) (record { at = p; value = held }) (tt, tt) (tt, tt))))))
