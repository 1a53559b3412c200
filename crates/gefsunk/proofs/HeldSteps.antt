-- The machine value of a `Held` and of a `Loose` is their pointer alone.
--     word                  that machine value
--     boxed_out             a value in a block of its own is at a pointer that is not null
--     loose_in, loose_out   such a value as a `Loose` by value, and back
--     held_in, held_out     the same as a `Held`, which may have none
use Rattle.std.proofs.Common.{◌≡◌, ℕ, List, [], ◌∷◌, ◌++◌, T, refl, sym, ap, ◌∙◌, subst}
use seplogic.Ra.Ura.{Ura}
use mir.Raw.{raw as bare}
use mir.Val.{Val, vstruct, vcons, vnil, of_list}
use base.Logic.{never, fst∗}
use types.Logic.{Logic, sem}
use types.Kit.{Item, Goal, Seq, Step, step, ‵, ◌$◌, drop, fsplit, fjoin, fpick, fpack, feq_i, feq_l}
use denote.RattleType.{RattleType, Valss}
use denote.Builtin.{RawPtr}
use denote.Memory.{lone}
use denote.RawPtr.{Ptr, ptr_val, block_ptr, null_ptr, in_a_block}
use denote.Steps.{nothing}
use denote.Struct.Struct.{within}
use denote.Struct.Owning.{shape}
use Rattle.std.specs.{Box.Ownership.box_owns, Prelude.{Option, None, Some, is_some, true}}
use Rattle.std_heap.specs.{contracts.GlobalAllocator.TheImpl.ghosts, declared.Global.Global}
use Rattle.gefsunk.specs.Handles.{boxed, owned}
use Rattle.gefsunk.specs.contracts.handle.Held as held
use Rattle.gefsunk.specs.contracts.handle.Loose as loose
use Rattle.gefsunk.specs.contracts.kept.Kept as state

abbrev pub State : RattleType
State = state.the_row

abbrev pub Held : RattleType
Held = held.the_row

abbrev pub Loose : RattleType → RattleType
Loose R = loose.the_row R

abbrev pub word : Ptr → Val
word p = vstruct (vcons (ptr_val p) vnil)

module _ {M : Type 1} {𝓤 : Ura M} {𝓛 : Logic 𝓤} {K : Type 0} {Γ : List (Item 𝓤)} {G : Goal 𝓤 𝓛.H} where
  pub boxed_out : K → (R : RattleType) (p : Ptr) (x : R.Denot)
      → ((alloc : Global) (b o : ℕ) → p ≡ block_ptr b o → Seq K 𝓛 (‵ (box_owns (ghosts.dealloc_token alloc) R (block_ptr b o) x) ∷ Γ) G)
      → Seq K 𝓛 (‵ (boxed R p x) ∷ Γ) G
  boxed_out t R p x k = fpick t (λ alloc.
      in_a_block t p (λ q. box_owns (ghosts.dealloc_token alloc) R q x) (fst∗ 𝓤 (never 𝓤) (sem 𝓛 (ghosts.dealloc_token alloc (bare (lone R.mir)) null_ptr))) (λ b o e. k alloc b o e))

  pub loose_in : K → (R : RattleType) (p : Ptr) (x : R.Denot)
      → Step K 𝓛 (‵ ((Loose R).own_val (record { at = p; value = x }) (word p ∷ [])) ∷ Γ) G (‵ (boxed R p x) ∷ Γ) G
  loose_in t R p x = step (λ s. nothing t $ feq_i t (List Val) (ptr_val p ∷ []) (ptr_val p ∷ []) refl $ fjoin t $ feq_i t (List Val) (word p ∷ []) (word p ∷ []) refl $ fjoin t $
      fpack t (Valss (RawPtr ∷ [])) (within (shape (loose.the_type R)) (p, tt) (word p ∷ [])) (ptr_val p ∷ [], tt) $ fjoin t $ s)

  pub loose_out : K → (R : RattleType) (d : (Loose R).Denot) (vs : List Val) → (vs ≡ word d.at ∷ [] → Seq K 𝓛 (‵ (boxed R d.at d.value) ∷ Γ) G) → Seq K 𝓛 (‵ ((Loose R).own_val d vs) ∷ Γ) G
  loose_out t R d vs k = fsplit t $ fpick t (λ vss. fsplit t $ feq_l t (λ ev. fsplit t $ feq_l t (λ ep. drop t $
      k (ev ∙ ap (λ (ps : List Val). vstruct (of_list (ps ++ [])) ∷ []) ep))))

  pub held_in : K → (p : Ptr) (x : Option State.Denot)
      → Step K 𝓛 (‵ (Held.own_val (record { at = p; value = x }) (word p ∷ [])) ∷ Γ) G (‵ (owned State p x) ∷ Γ) G
  held_in t p x = step (λ s. nothing t $ feq_i t (List Val) (ptr_val p ∷ []) (ptr_val p ∷ []) refl $ fjoin t $ feq_i t (List Val) (word p ∷ []) (word p ∷ []) refl $ fjoin t $
      fpack t (Valss (RawPtr ∷ [])) (within (shape held.the_type) (p, tt) (word p ∷ [])) (ptr_val p ∷ [], tt) $ fjoin t $ s)

  pub held_out : K → (d : Held.Denot) (vs : List Val) → (vs ≡ word d.at ∷ [] → Seq K 𝓛 (‵ (owned State d.at d.value) ∷ Γ) G) → Seq K 𝓛 (‵ (Held.own_val d vs) ∷ Γ) G
  held_out t d vs k = fsplit t $ fpick t (λ vss. fsplit t $ feq_l t (λ ev. fsplit t $ feq_l t (λ ep. drop t $
      k (ev ∙ ap (λ (ps : List Val). vstruct (of_list (ps ++ [])) ∷ []) ep))))

-- the value that is there
pub some_of : {X : Type 0} → (o : Option X) → is_some o ≡ true → (x : X) × (o ≡ Some x)
some_of (Some x) e = (x, refl)
some_of None e = absurd (subst T (sym e) tt)
