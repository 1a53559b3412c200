-- Sets of a device's slots that are freed.
use Rattle.std.proofs.Common.{◌≡◌, ℕ, ◌<◌, Bool, true, false, ◌&&◌, cond, List, get_or, length, map, refl, sym, ◌∙◌, ap, arith, replicate, Option}
use Rattle.std.proofs.{Common.{Some, None}, lemmas.{Bool.{and_parts, cond-true, false≢true}, List.{get_or-replicate, length-replicate, length-map}}}
use Rattle.std.proofs.lemmas.List.{same_lists}
use Rattle.std.specs.Prelude.{MatchOption}
use Rattle.slots.specs.{declared.table.Context.Context, Commands.{is_done, is_any}, Slots.{Issue, Slots, issue_at, context_of, owned_by, own_issue}}
use Rattle.slots.specs.Slots.{own_of, slots_of, has_bit, holds, is_queued_issue, is_whole_issue, issues_unless, context_unless, freed, mask_below}
use Rattle.slots.specs.{Slots.no_own_slots, Table.{IsContextOf, IsContext, IsTable}, Between.Owns}
use Rattle.slots.proofs.{MaskLemmas.{has_bit_mask, length-unless, get-unless}, TableLemmas.{own_at, owned_own, owns_where}, FreeLemmas.AreOwn}
use Rattle.slots.proofs.FreeLemmas.{no_issue}

-- the bits of the number of a set
pub mask_is : (test : ℕ → Bool) (mask : ℕ) → mask ≡ mask_below test 32 → (s : ℕ) → s < 32 → has_bit mask s ≡ test s
mask_is test mask is s lt = ap (λ (m : ℕ). has_bit m s) is ∙ has_bit_mask test s lt

-- slots with an issue of the device for which a test holds are the device's own
own_where : (test : Issue → Bool) (dev : ℕ) (t : Slots) (s : ℕ) → s < length t.issues → holds test (own_issue (slots_of dev t) s) ≡ true → Owns dev (issue_at t s)
own_where test dev t s lt h = owns_where test dev (issue_at t s) (ap (holds test) (sym (own_at dev t s lt)) ∙ h)

pub done_own : (dev mask : ℕ) (f : ℕ → Bool) (t : Slots) → IsTable t → ((s : ℕ) → s < 32 → f s ≡ is_done mask (own_of dev t.issues) s) → AreOwn dev f t
done_own dev mask f t is same s lt passes =
    let done : (has_bit mask s && holds (λ issue. is_queued_issue issue && is_whole_issue issue) (own_issue (slots_of dev t) s)) ≡ true = sym (same s (omega (arith, is.slots))) ∙ passes in
    own_where (λ issue. is_queued_issue issue && is_whole_issue issue) dev t s lt (and_parts (has_bit mask s) (holds (λ issue. is_queued_issue issue && is_whole_issue issue) (own_issue (slots_of dev t) s)) done).1

pub any_own : (dev : ℕ) (f : ℕ → Bool) (t : Slots) → IsTable t → ((s : ℕ) → s < 32 → f s ≡ holds is_any (own_issue (own_of dev t.issues) s)) → AreOwn dev f t
any_own dev f t is same s lt passes = own_where is_any dev t s lt (sym (same s (omega (arith, is.slots))) ∙ passes)

-- ---- all of a device's

any_at : (dev : ℕ) (c : Context) (o : Option Issue) → MatchOption o ⊥ (IsContextOf dev c) → holds is_any (owned_by dev o) ≡ true
any_at dev c None h = absurd h
any_at dev c (Some issue) h = ap (holds is_any) (owned_own dev issue h.of_dev)

in_context_ends : (dev : ℕ) (f : ℕ → Bool) (t : Slots) (m : Option Context) → IsTable t → ((s : ℕ) → s < 32 → f s ≡ holds is_any (own_issue (own_of dev t.issues) s)) → MatchOption m (Unit {0}) (IsContext dev t) → None ≡ context_unless f m
in_context_ends dev f t None is same h = refl
in_context_ends dev f t (Some c) is same h =
    let there : f c.slot ≡ true = same c.slot h.0 ∙ ap (holds is_any) (own_at dev t c.slot (omega (arith, h.0, is.slots))) ∙ any_at dev c (issue_at t c.slot) h.1 in
    sym (cond-true (f c.slot) None (Some c) there)

pub flushed_context : (dev : ℕ) (f : ℕ → Bool) (t : Slots) → IsTable t → ((s : ℕ) → s < 32 → f s ≡ holds is_any (own_issue (own_of dev t.issues) s)) → None ≡ context_unless f (context_of t dev)
flushed_context dev f t is same = in_context_ends dev f t (context_of t dev) is same (is.contexts dev)

gone : (b : Bool) (o : Option Issue) → b ≡ holds is_any o → cond b None o ≡ None
gone true o h = refl
gone false None h = refl
gone false (Some issue) h = absurd (false≢true h)

pub flushed_own : (dev : ℕ) (f : ℕ → Bool) (t : Slots) → IsTable t → ((s : ℕ) → s < 32 → f s ≡ holds is_any (own_issue (own_of dev t.issues) s)) → freed f (slots_of dev t) ≡ no_own_slots
flushed_own dev f t is same =
    let own : List (Option Issue) = map (owned_by dev) t.issues in
    let lu = length-unless f own in
    let lm = length-map t.issues (owned_by dev) in
    let lr = length-replicate 32 no_issue in
    let e : issues_unless f own ≡ replicate 32 no_issue = same_lists (issues_unless f own) (replicate 32 no_issue) (omega (arith, lu, lm, lr, is.slots)) (λ k d lt.
    let below : k < length own = omega (arith, lu) in
    let k32 : k < 32 = omega (arith, lu, lm, is.slots) in
    get-unless f own k d below ∙ gone (f k) (get_or own k None) (same k k32) ∙ sym (get_or-replicate 32 k no_issue d k32)) in
    ap (λ (x : List (Option Issue)). record { issues = x; context = context_unless f (context_of t dev) }) e
    ∙ ap (λ (x : Option Context). record { issues = replicate 32 no_issue; context = x }) (sym (flushed_context dev f t is same))
