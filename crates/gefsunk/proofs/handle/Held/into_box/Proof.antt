-- `into_box` makes the box again.
use Rattle.std.proofs.{Common.{◌≡◌, List, [], ◌∷◌, ◌++◌, T, refl, sym, ap, ◌∙◌, subst}, BoxSteps.Steps.{box_out, box_in}, boxed.Box.from_raw.Met.met}
use Rattle.std.proofs.{cell.Inside.one, raw_atomic.Walks.{proved_at, leaves}}
use base.Fraction.{full_share}
use base.Fml.{flft, ftrue}
use base.Logic.{SProp, ent, emp, id⊢}
use contract.BorrowLft.{◌⊑◌, ⊑_refl}
use contract.Lifetimes.{Lfts}
use contract.Monad.{fact, fact_i}
use contract.Running.{tables, tables_of}
use denote.Exit.{yes, no}
use denote.Param.{layout, arg}
use denote.Param.Laws.{arg_laws}
use denote.Param.NoDrop.{glues}
use denote.RattleType.{RattleType, owns}
use denote.RawPtr.{Ptr, block_ptr}
use denote.Signature.{types_at, plain}
use denote.Steps.{nothing, only, heard}
use denote.Triple.Call.{calls_at_last}
use denote.Triple.Clauses.{Lasts, lasts}
use denote.Triple.Entry.{alive}
use denote.Triple.Spec.{triple_of}
use denote.Triple.Table.{framed}
use denote.Triple.Walked.{Stays, stay_dropped, walk_of, Goes-dropped}
use mir.Raw.{raw as bare}
use mir.Syntax.{impl, tcons, tnil, dnil}
use mir.Val.{Val, vptr, has_ty, WT}
use prog.Wp.{WpFn}
use types.ByLocal.{alloc_all, pass_all, free_all, look_at, get, get_in, sets, lands_last, env}
use types.Kit.{‵, raw, ◌⊛◌, some, later, at_ret, ◌$◌, ◌∵◌, !, qed, by, move, keep, drop, split, split3, join, fsplit3, fjoin, fjoin3, pick, suffices, use0, use1, await, rewrite, feq_i}
use types.Part.{sub, whole}
use types.Run.{stop, fld, of_opd, no_more, and_then, first, blocks, exec, returns, enter}
use Rattle.std.proofs.BoxSteps.Form as box
use Rattle.std.specs.contracts.boxed.Box.from_raw as callee
use Rattle.std.specs.Prelude.{Option, Some, is_some, true}
use Rattle.std_heap.proofs.Global.TheLaws as heap_laws
use Rattle.std_heap.proofs.GlobalAllocator.TheImpl.Met.{passed}
use Rattle.std_heap.specs.contracts.Global as heap
use Rattle.std_heap.specs.contracts.GlobalAllocator.TheImpl.{ghosts, dict}
use Rattle.gefsunk.proofs.{HeldSteps.{State, Held, word, some_of, boxed_out, held_out}, handle.Held.into_box.Statement.statement}
use Rattle.gefsunk.proofs.kept.Kept.TheLaws as state_laws
use Rattle.gefsunk.specs.Handles.{owned}
use Rattle.gefsunk.specs.contracts.handle.Held.into_box as f
use Rattle.gefsunk.proofs.handle.Held.into_box.Code as code
use Rattle.gefsunk.proofs.Destruct++none.drop.Code as none

abbrev stayed : Stays f.ended.signature.params f.ended.kept
stayed = (stay_dropped (plain (λ _. Held)) yes, (stay_dropped (plain (λ _. heap.the_row)) yes, tt))

pub into_box_spec : {M : Type 1} → statement M
unfolding tables_of none.code
into_box_spec {M} 𝓤 𝓛 𝓜 𝓡 wired =
    let H = 𝓛.H in let 𝓣 = tables 𝓤 H 𝓜 𝓡 𝓡.env in let c = f.clauses 𝓛 𝓜.mem 𝓡.returns in let δ = bare (layout heap.the_row) in let Z : RattleType = arg δ no heap.the_row in let LZ = arg_laws δ no heap.the_row heap_laws.the_row_laws refl in let σ = bare (layout State) in let X : RattleType = arg σ no State in let LX = arg_laws σ no State state_laws.the_row_laws refl in
    let dd = impl ("gefsunk::Destruct++none::drop" ∷ []) (tcons (layout Z) tnil) dnil in
    let E : box.Bx = record { row = X; laws = LX; al = record { row = Z; laws = LZ; g = ghosts; d = dict; drops = dd } } in let B : RattleType = box.B E in
    let Ce = callee.ended X Z ghosts dict dd in let k = triple_of 𝓛 Ce.signature (callee.spec X Z ghosts dict dd 𝓛 𝓜.mem 𝓡.returns) in
    let frees = passed 𝓡.env (code.calls-std_heap::GlobalAllocator::allocate 𝓡.env wired) (code.calls-std_heap::GlobalAllocator::deallocate 𝓡.env wired) (code.calls-std_heap::GlobalAllocator::grow 𝓡.env wired) (code.calls-std_heap::GlobalAllocator::shrink 𝓡.env wired) M 𝓤 𝓛 𝓜 𝓡 in
    let drops = glues "gefsunk::Destruct++none::drop" 𝓡.env (code.calls-gefsunk::Destruct++none::drop 𝓡.env wired) Z LZ M 𝓤 𝓛 𝓜 𝓡 in
    let known = met 𝓤 𝓛 𝓜 𝓡 (code.calls-std_alloc::boxed::Box::from_raw 𝓡.env wired) X Z LX LZ ghosts dict dd frees drops in
    proved_at 𝓛 f.ended stayed c 𝓜 𝓡 (Goes-dropped 𝓛 0 (plain (λ _. Held)) yes (λ κs x w. refl), (Goes-dropped 𝓛 0 (plain (λ _. heap.the_row)) yes (λ κs x w. refl), tt)) f.Key.name code.function (code.unfolded 𝓤 H 𝓜 𝓡 wired) (λ z are.
    let κs = z.0.0 in let v = z.0.3.0 in let a = z.0.3.1.0 in let Post : Val → SProp 𝓤 = (walk_of 𝓛 f.ended stayed c).post z in
    let Run : List Val → SProp 𝓤 = λ ws. WpFn 𝓤 H 𝓣.C 𝓣.Λ code.function ws Post in
    let handle = one (layout Z) z.0.4.1.0 ((LZ.lawful 𝓛).typed a z.0.4.1.0 are.1.0) in let hv = handle.0 in
    qed 𝓛 ((raw (alive 𝓛 f.signature κs z.0.1) ⊛ ‵ (owns (types_at f.signature.params κs) z.0.3 z.0.4)) ∷ raw (fact 𝓤 (is_some v.value ≡ true)) ∷ []) ∵
    move ! (1 ∷ []) $ heard ! (is_some v.value ≡ true) (λ live. split ! $ move ! (1 ∷ []) $ fsplit3 ! $
    let x = (some_of v.value live).0 in let ex : v.value ≡ Some x = (some_of v.value live).1 in
    held_out ! v z.0.4.0 (λ ws. rewrite ! 0 (λ (o : Option State.Denot). ‵ (owned State v.at o)) ex refl $ boxed_out ! State v.at x (λ alloc b o e.
    let p = block_ptr b o in let us : z.0.4.0 ≡ word p ∷ [] = ws ∙ ap (λ (q : Ptr). word q ∷ []) e in let ins = word p ∷ hv ∷ [] in
    let κ₂ : Lfts 2 = ([], ([], tt)) in let toks = ‵ (flft [] full_share) ⊛ ‵ (flft [] full_share) ⊛ ‵ ftrue in let inX = [] ⊑ X.lives in let inZ = [] ⊑ Z.lives in
    let y : k.Ghost = ((κ₂, (full_share, (full_share, tt)), tt, (a, (p, tt)), (hv ∷ [], (vptr b o ∷ [], tt))), x) in
    rewrite ! 1 (λ (xs : List Val). ‵ (Z.own_val a xs)) handle.1 refl $
    suffices ! (Run ins) (subst (λ (xs : List Val). ent 𝓤 (Run ins) (Run xs)) (sym (λ i. us i ++ (handle.1 i ++ []))) (id⊢ 𝓤 (Run ins))) $
    enter ! 𝓣.C 𝓣.Λ code.function ins Post $ alloc_all ! (λ l. pass_all ! refl ((tt, (tt, tt)), (handle.2, tt)) $
    sets ! (of_opd ! (get_in ! (fld ! refl (stop !)) (sub ! 0 refl (whole !)))) refl (tt, tt) $ first ! $ blocks ! $ sets ! (of_opd ! (get ! refl)) refl (tt, tt) $
    use0 𝓛 (raw (fact 𝓤 inZ)) (fact_i 𝓤 inZ (emp 𝓤) (⊑_refl _)) $ join ! $ use0 𝓛 (raw (fact 𝓤 inX)) (fact_i 𝓤 inX (emp 𝓤) (⊑_refl _)) $ join ! $
    nothing ! $ feq_i ! (List Val) (vptr b o ∷ []) (vptr b o ∷ []) refl $ move ! (3 ∷ 0 ∷ 1 ∷ []) $ fjoin3 ! $
    nothing ! $ use0 𝓛 (‵ (flft [] full_share)) (𝓛.lfts.lft-nil full_share) $ join ! $ use0 𝓛 (‵ (flft [] full_share)) (𝓛.lfts.lft-nil full_share) $ join ! $ join ! $ join ! $ use1 𝓛 (raw (k.pre y)) (id⊢ 𝓤 _) $
    calls_at_last ! (framed 𝓤 H 𝓜 𝓣) k known y (and_then ! (get ! refl) (and_then ! (get ! refl) (no_more !))) (λ u.
    use1 𝓛 (later (some (λ (r : B.Denot). (toks ⊛ ‵ (B.own_val r (u ∷ []))) ⊛ some (λ (ls : Lasts Ce κ₂ (a, (p, tt))). ‵ (lasts Ce κ₂ (a, (p, tt)) ls) ⊛ (raw (fact 𝓤 (r.value ≡ x)) ⊛ raw (fact 𝓤 (r.alloc ≡ a))))))) (id⊢ 𝓤 (k.post y u)) $
    await ! tt $ pick ! (λ r. split ! $ move ! (1 ∷ []) $ pick ! (λ _. split3 ! $ drop ! $ heard ! (r.value ≡ x) (λ same. drop ! $ split ! $ move ! (1 ∷ []) $
    box_out E ! r (u ∷ []) (λ b' o' hw e' wu fw. box_in E ! r b' o' r.value e' refl $ rewrite ! 0 (λ (xs : List Val). ‵ (B.own_val r xs)) (sym wu) refl $
    let typed : T (has_ty (box.box_ty E) u) × WT u = subst (λ (s : Val). T (has_ty (box.box_ty E) s) × WT s) (sym (ap only wu)) (box.box_typed E hw b' o' fw) in let goal = v.value ≡ Some r.value in
    lands_last ! refl typed $ exec ! 𝓣.C 𝓣.Λ (env code.Mir.locals l) code.Mir.t-3 (at_ret _ Post) $ sets ! (of_opd ! (get ! refl)) refl typed $
    use0 𝓛 (raw (fact 𝓤 goal)) (fact_i 𝓤 goal (emp 𝓤) (ex ∙ ap Some (sym same))) $ nothing ! $ nothing ! $ fjoin ! $ nothing ! $ fjoin ! $
    returns ! (look_at ! 0 refl) $ free_all ! refl $ keep ! (5 ∷ 0 ∷ 2 ∷ 1 ∷ []) $
    by ! (leaves 𝓛 f.ended stayed c z u r (tt, (tt, tt)) (tt, (tt, tt)))))))))))))
