-- `of` takes the pointer of a box, with what the box owned.
use Rattle.std.proofs.{Common.{◌≡◌, List, [], ◌∷◌, ◌++◌, refl, sym, ap, ◌∙◌, subst}, BoxSteps.Steps.{box_out, box_in}, alloc.Calls.{Goes-blank}}
use Rattle.std.proofs.{boxed.Box.into_raw.Met.met, raw_atomic.Walks.{proved_at, leaves}}
use base.Fraction.{full_share}
use base.Fml.{flft, ftrue}
use base.Logic.{SProp, ent, emp, never, fst∗, id⊢}
use contract.BorrowLft.{◌⊑◌, ⊑_refl}
use contract.Lifetimes.{Lfts}
use contract.Monad.{fact, fact_i}
use contract.Running.{tables, tables_of}
use denote.Builtin.{RawPtr}
use denote.Exit.{no}
use denote.Memory.{lone}
use denote.Param.{param, layout, bounded, arg}
use denote.Param.Laws.{arg_laws}
use denote.Param.NoDrop.{glues}
use denote.RattleType.{RattleType, owns}
use denote.RawPtr.{Ptr, block_ptr, null_ptr, ptr_val, in_a_block}
use denote.Signature.{types_at, plain}
use denote.Steps.{nothing, only, heard}
use denote.Triple.Call.{calls_at}
use denote.Triple.Clauses.{Lasts, lasts}
use denote.Triple.Spec.{triple_of}
use denote.Triple.Table.{framed}
use denote.Triple.Walked.{Stays, stay_dropped, walk_of}
use mir.MapTy.{inst_fn}
use mir.Raw.{raw as bare}
use mir.Syntax.{a_type, impl, tcons, tnil, dcons, dnil}
use mir.Val.{Val}
use prog.Wp.{WpFn}
use types.ByLocal.{alloc_all, pass_all, free_all, look_at, get, sets, lands_as}
use types.Kit.{‵, raw, ◌⊛◌, some, later, ◌$◌, ◌∵◌, !, qed, by, move, keep, drop, split, join, fsplit, fjoin, fpack, pick, suffices, use0, use1, await, feq_l}
use types.Logic.{sem}
use types.Part.{agg}
use types.Run.{of_opd, no_more, and_then, returns, enter}
use Rattle.std.proofs.BoxSteps.Form as box
use Rattle.std.specs.Box.Ownership.{box_owns}
use Rattle.std.specs.contracts.boxed.Box as Boxes
use Rattle.std.specs.contracts.boxed.Box.into_raw as callee
use Rattle.std_heap.proofs.Global.TheLaws as heap_laws
use Rattle.std_heap.proofs.GlobalAllocator.TheImpl.Met.{passed}
use Rattle.std_heap.specs.contracts.Global as heap
use Rattle.std_heap.specs.{contracts.GlobalAllocator.TheImpl.{ghosts, dict}, declared.Global.Global}
use Rattle.gefsunk.proofs.{HeldSteps.{word, loose_in}, handle.Loose.of.Statement.statement}
use Rattle.gefsunk.specs.contracts.handle.Loose.of.{ended, clauses, Key.{name as #self}}
use Rattle.gefsunk.proofs.handle.Loose.of.Code as code
use Rattle.gefsunk.proofs.Destruct++none.drop.Code as none

pub of_spec : {M : Type 1} → statement M
unfolding tables_of none.code
of_spec {M} 𝓤 𝓛 𝓜 𝓡 wired X L dx glue =
    let H = 𝓛.H in let 𝓣 = tables 𝓤 H 𝓜 𝓡 𝓡.env in let R : RattleType = param 0 X in let δ = bare (layout heap.the_row) in let Z : RattleType = arg δ no heap.the_row in let LZ = arg_laws δ no heap.the_row heap_laws.the_row_laws refl in
    let dd = impl ("gefsunk::Destruct++none::drop" ∷ []) (tcons (layout Z) tnil) dnil in
    let E : box.Bx = record { row = X; laws = L; al = record { row = Z; laws = LZ; g = ghosts; d = dict; drops = dd } } in
    let Boxed : RattleType = Boxes.the_row R heap.the_row ghosts in let En = ended X dx in let c = clauses X dx 𝓛 𝓜.mem 𝓡.returns in
    let inst = bounded (a_type ∷ []) (X, tt) (dcons dx dnil) in let fn = inst_fn inst code.function in
    let Ce = callee.ended X Z ghosts dict dd dx in let k = triple_of 𝓛 Ce.signature (callee.spec X Z ghosts dict dd dx 𝓛 𝓜.mem 𝓡.returns) in
    let frees = passed 𝓡.env (code.calls-std_heap::GlobalAllocator::allocate 𝓡.env wired) (code.calls-std_heap::GlobalAllocator::deallocate 𝓡.env wired) (code.calls-std_heap::GlobalAllocator::grow 𝓡.env wired) (code.calls-std_heap::GlobalAllocator::shrink 𝓡.env wired) M 𝓤 𝓛 𝓜 𝓡 in
    let drops = glues "gefsunk::Destruct++none::drop" 𝓡.env (code.calls-gefsunk::Destruct++none::drop 𝓡.env wired) Z LZ M 𝓤 𝓛 𝓜 𝓡 in
    let known = met 𝓤 𝓛 𝓜 𝓡 (code.calls-std_alloc::boxed::Box::into_raw 𝓡.env wired) X Z L LZ ghosts dict dd dx frees drops glue in
    let hs : Stays En.signature.params En.kept = (stay_dropped (plain (λ _. Boxed)) no, tt) in
    proved_at 𝓛 En hs c 𝓜 𝓡 (Goes-blank 𝓛 1 (plain (λ _. Boxed)) no (λ κs x f. tt), tt) (#self inst) fn (code.unfolded 𝓤 H 𝓜 𝓡 wired (X, tt) dx) (λ z are.
    let κs = z.0.0 in let v = z.0.3.0 in let a = v.alloc in let t = ‵ (flft z.0.0.0 z.0.1.0) in let inX = κs.0 ⊑ X.lives in let inZ = [] ⊑ Z.lives in
    let Post : Val → SProp 𝓤 = (walk_of 𝓛 En hs c).post z in let Run : List Val → SProp 𝓤 = λ ws. WpFn 𝓤 H 𝓣.C 𝓣.Λ fn ws Post in
    qed 𝓛 (((t ⊛ ‵ ftrue) ⊛ ‵ (owns (types_at En.signature.params κs) z.0.3 z.0.4)) ∷ raw (fact 𝓤 inX) ∷ raw (emp 𝓤) ∷ []) ∵ move ! (1 ∷ []) $ heard ! inX (λ leX.
    split ! $ split ! $ move ! (2 ∷ []) $ fsplit ! $ box_out E ! v z.0.4.0 (λ b o h e ws fits. box_in E ! v b o v.value e refl $
    let w : Val = box.word E h b o in let typed = box.box_typed E h b o fits in let κ₂ : Lfts 2 = (κs.0, ([], tt)) in
    let y : k.Ghost = ((κ₂, (z.0.1.0, (full_share, tt)), tt, (v, tt), (w ∷ [], tt)), tt) in
    let toks = t ⊛ ‵ (flft [] full_share) ⊛ ‵ ftrue in
    fjoin ! $ nothing ! $ use0 𝓛 (‵ (flft [] full_share)) (𝓛.lfts.lft-nil full_share) $ join ! $ move ! (2 ∷ 0 ∷ []) $ join ! $ join ! $
    nothing ! $ use0 𝓛 (raw (fact 𝓤 inZ)) (fact_i 𝓤 inZ (emp 𝓤) (⊑_refl _)) $ join ! $ use0 𝓛 (raw (fact 𝓤 inX)) (fact_i 𝓤 inX (emp 𝓤) leX) $ join ! $
    move ! (1 ∷ 0 ∷ []) $ join ! $ use1 𝓛 (raw (k.pre y)) (id⊢ 𝓤 _) $
    suffices ! (Run (w ∷ [])) (subst (λ (us : List Val). ent 𝓤 (Run (w ∷ [])) (Run us)) (sym (λ i. ws i ++ [])) (id⊢ 𝓤 (Run (w ∷ [])))) $
    enter ! 𝓣.C 𝓣.Λ fn (w ∷ []) Post $ alloc_all ! (λ l. pass_all ! refl (typed, tt) $ sets ! (of_opd ! (get ! refl)) refl typed $
    calls_at ! (framed 𝓤 H 𝓜 𝓣) k known y (and_then ! (get ! refl) (no_more !)) (λ u.
    use1 𝓛 (later (some (λ (r : Ptr). (toks ⊛ ‵ (RawPtr.own_val r (u ∷ []))) ⊛ some (λ (ls : Lasts Ce κ₂ (v, tt)). ‵ (lasts Ce κ₂ (v, tt) ls) ⊛ ‵ (box_owns (ghosts.dealloc_token a) R r v.value))))) (id⊢ 𝓤 (k.post y u)) $
    await ! tt $ pick ! (λ r. split ! $ move ! (1 ∷ []) $ pick ! (λ _. split ! $ drop ! $
    in_a_block ! r (λ p. box_owns (ghosts.dealloc_token a) R p v.value) (fst∗ 𝓤 (never 𝓤) (sem 𝓛 (ghosts.dealloc_token a (bare (lone R.mir)) null_ptr))) (λ b' o' e'.
    let p = block_ptr b' o' in
    move ! (1 ∷ []) $ split ! $ move ! (1 ∷ []) $ feq_l ! (λ eu.
    lands_as ! (ap only (eu ∙ ap (λ (q : Ptr). ptr_val q ∷ []) e')) refl (tt, tt) $ sets ! (agg ! (and_then ! (get ! refl) (no_more !))) refl (tt, (tt, tt)) $
    move ! (1 ∷ []) $ fpack ! Global (λ g. box_owns (ghosts.dealloc_token g) R p v.value) a $ loose_in ! R p v.value $
    move ! (1 ∷ []) $ split ! $ nothing ! $ move ! (1 ∷ 0 ∷ []) $ join ! $
    use0 𝓛 (raw (fact 𝓤 (v.value ≡ v.value))) (fact_i 𝓤 (v.value ≡ v.value) (emp 𝓤) refl) $ nothing ! $ nothing ! $ fjoin ! $
    returns ! (look_at ! 0 refl) $ free_all ! refl $ keep ! (2 ∷ 0 ∷ 4 ∷ 1 ∷ []) $
    by ! (leaves 𝓛 En hs c z (word p) (record { at = p; value = v.value }) (tt, tt) (tt, tt)))))))))))
