-- For `setups_keep_the_same`. What the further DMA Setups of a command, a DMA Activate and Data leave of each queued
-- command.
use Rattle.std.proofs.Common.{◌≡◌, eqb, ℕ, ◌+◌, ◌*◌, ◌≤◌, Bool, true, false, [], ◌∷◌, ◌++◌, refl, sym, ap, subst, ◌∙◌, inl, inr, Option, Some, None}
use Rattle.std.proofs.lemmas.Bool.{cases_Bool, eq-eqb, eqb-true}
use Rattle.disk_model.specs.{declared.request.Command.Command, Ends.{MovesOther, has}, Laws.bytes_named, Ledger.{Ledger, Moving, activates, sets_up}}
use Rattle.hba_laws.specs.History.{History, SetUp, filled, is_at, is_set_up, waiting_in}
use Rattle.disk_simulation.specs.Same.{InLife, IsLastOf, IsMovingAt, IsMovingSince, Moves, Open, ReadEnded, SlotCommand, Stand, Unsent, Unset}
use Rattle.disk_simulation.specs.{Same.WriteEnded, Steps.{ActivatesKeep, SetupsGoOn}}

-- ## Whose data moves

some_same : (u v : Moving) → Some u ≡ Some v → u ≡ v
some_same u v e = cc e

-- a slot whose data moves has the command's tag
is_own : (s : ℕ) (c : SlotCommand) (u v : Moving) (k : Ledger) → k.moving ≡ Some v → k.moving ≡ Some u → u.command ≡ c.command → c.command.tag ≡ s
    → eqb v.command.tag s ≡ true
is_own s c u v k moving here same tag =
    let uv : u ≡ v = some_same u v (sym here ∙ moving) in
    eq-eqb v.command.tag s (ap (λ (x : Moving). x.command.tag) (sym uv) ∙ ap (λ (q : Command). q.tag) same ∙ tag)

pub not_own : (s : ℕ) (c : SlotCommand) (u v : Moving) (k : Ledger) → k.moving ≡ Some v → k.moving ≡ Some u → u.command ≡ c.command → c.command.tag ≡ s
    → eqb v.command.tag s ≡ false → ⊥
not_own s c u v k moving here same tag other = cc (sym (is_own s c u v k moving here same tag) ∙ other)

-- the data of another tag does not move
none_of : (s : ℕ) (v : Moving) (k : Ledger) → k.moving ≡ Some v → v.command.tag ≡ s → MovesOther s k.moving → ⊥
none_of s v k moving own other =
    let differs : eqb v.command.tag s ≡ false = subst (MovesOther s) moving other in
    cc (sym (eq-eqb v.command.tag s own) ∙ differs)

-- where the data of another tag moves the slot is not set up
pub unset_other : (s : ℕ) (c : SlotCommand) (v : Moving) (past : History) (k : Ledger) → k.moving ≡ Some v → eqb v.command.tag s ≡ false → c.command.tag ≡ s
    → InLife s c past k → is_set_up s past ≡ false
unset_other s c v past k moving other tag (Unsent free quiet unset none counted) = unset
unset_other s c v past k moving other tag (Open found yet beside unset none counted) = unset
unset_other s c v past k moving other tag (Moves u here same yet m counted) = absurd (not_own s c u v k moving here same tag other)
unset_other s c v past k moving other tag (ReadEnded at r e quiet there same stands counted) =
    subst (λ (m : Option Moving). Unset m (is_set_up s past)) moving e.unset
unset_other s c v past k moving other tag (WriteEnded at w e quiet there same stands counted) =
    subst (λ (m : Option Moving). Unset m (is_set_up s past)) moving e.unset

-- and it stands as it stood while that goes on
pub other_life : (s : ℕ) (c : SlotCommand) (v w : Moving) (past later : History) (k : Ledger) → k.moving ≡ Some v → eqb v.command.tag s ≡ false
    → c.command.tag ≡ s → w.command ≡ v.command
    → waiting_in later ≡ waiting_in past → is_set_up s later ≡ false → filled s later ≡ filled s past → InLife s c past k
    → InLife s c later (record k { moving = Some w })
other_life s c v w past later k moving other tag same waits unset fills life = by_life life
  where
    differs : eqb w.command.tag s ≡ false
    differs = subst (λ (q : Command). eqb q.tag s ≡ false) (sym same) other

    by_life : InLife s c past k → InLife s c later (record k { moving = Some w })
    by_life (Unsent free quiet set none counted) =
        Unsent (record { outstanding = free.outstanding; unanswered = free.unanswered; moving = differs }) (ap (is_at s) waits ∙ quiet) unset (fills
        ∙ none) counted
    by_life (Open found yet beside set none counted) = Open found yet differs unset (fills ∙ none) counted
    by_life (Moves u here is yet m counted) = absurd (not_own s c u v k moving here is tag other)
    by_life (ReadEnded at r e quiet there is stands counted) =
        ReadEnded at r (record { unanswered = e.unanswered; outstanding = e.outstanding; moving = differs; unset = unset }) (ap (is_at s) waits
        ∙ quiet) there is (subst (λ (f : ℕ → Option ℕ). Stand f r.bytes) (sym fills) stands) counted
    by_life (WriteEnded at x e quiet there is stands counted) =
        WriteEnded at x (record { unanswered = e.unanswered; outstanding = e.outstanding; moving = differs; unset = unset }) (ap (is_at s) waits
        ∙ quiet) there is (subst (λ (f : ℕ → Option ℕ). Stand f x.bytes) (sym fills) stands) counted

-- ## The slot's own data

pub record IsMoved (s : ℕ) (c : SlotCommand) (v : Moving) (past : History) (k : Ledger) : Type 0 where
  pub command : v.command ≡ c.command
  pub yet : has s k.unanswered ≡ false
  pub at : IsMovingAt s v past
  pub counted : IsMovingSince c.since v k

pub own_life : (s : ℕ) (c : SlotCommand) (v : Moving) (past : History) (k : Ledger) → k.moving ≡ Some v → v.command.tag ≡ s → InLife s c past k
    → IsMoved s c v past k
own_life s c v past k moving own (Unsent free quiet unset none counted) = absurd (none_of s v k moving own free.moving)
own_life s c v past k moving own (Open found yet beside unset none counted) = absurd (none_of s v k moving own beside)
own_life s c v past k moving own (Moves u here same yet m counted) =
    let uv : u ≡ v = some_same u v (sym here ∙ moving) in
    record {
      command = subst (λ (x : Moving). x.command ≡ c.command) uv same;
      yet = yet;
      at = subst (λ (x : Moving). IsMovingAt s x past) uv m;
      counted = subst (λ (x : Moving). IsMovingSince c.since x k) uv counted;
    }
own_life s c v past k moving own (ReadEnded at r e quiet there same stands counted) = absurd (none_of s v k moving own e.moving)
own_life s c v past k moving own (WriteEnded at w e quiet there same stands counted) = absurd (none_of s v k moving own e.moving)

-- ## A further DMA Setup

setup_on : (s offset count : ℕ) (to_host : Bool) (c : SlotCommand) (v : Moving) (past : History) (k : Ledger) → k.moving ≡ Some v → c.command.tag ≡ s
    → offset + count ≤ 512 * v.command.count
    → InLife s c past k → InLife s c (SetUp v.command.tag offset count to_host ∷ past) (sets_up k (Some v) v.command.tag offset count)
setup_on s offset count to_host c v past k moving tag fits life = elim (cases_Bool (eqb v.command.tag s)) [
  | inl is ↦
      let own = own_life s c v past k moving (eqb-true v.command.tag s is) life in
      let at : IsMovingAt s v past = own.at in
      Moves (record v { setups = v.setups ++ record { at = offset; count = count } ∷ []; offset = offset; count = count; active = false }) refl own.command own.yet (record {
        long = at.long;
        quiet = at.quiet;
        set_up = is;
        inside = fits;
        names = record { setup = record { slot = v.command.tag; offset = offset; count = count; to_host = to_host; ends = None }; last = refl; offset = refl; count = refl };
        fresh = inl refl;
        asked = λ e. cc e;
        stands = at.stands;
      }) (record { before = own.counted.before; now = own.counted.now })
  | inr other ↦ other_life s c v
      (record v { setups = v.setups ++ record { at = offset; count = count } ∷ []; offset = offset; count = count; active = false }) past
      (SetUp v.command.tag offset count to_host ∷ past) k moving other tag refl refl other refl life
]

pub setups_go_on : SetupsGoOn
setups_go_on s offset count to_host c v past k moving tag fits life =
    subst (λ (m : Option Moving). InLife s c (SetUp v.command.tag offset count to_host ∷ past) (sets_up k m v.command.tag offset count)) (sym moving)
    (setup_on s offset count to_host c v past k moving tag fits life)

-- ## A DMA Activate, of which the host's history says nothing

names_of : (s : ℕ) (v : Moving) (past : History) → IsMovingAt s v past → IsLastOf (record v { active = true }) past
names_of s v past at = let n : IsLastOf v past = at.names in record { setup = n.setup; last = n.last; offset = n.offset; count = n.count }

activate_on : (s : ℕ) (c : SlotCommand) (v : Moving) (past : History) (k : Ledger) → k.moving ≡ Some v → c.command.tag ≡ s
    → v.moved + v.count ≡ bytes_named v.setups
    → InLife s c past k → InLife s c past (activates k (Some v))
activate_on s c v past k moving tag in_turn life = elim (cases_Bool (eqb v.command.tag s)) [
  | inl is ↦
      let own = own_life s c v past k moving (eqb-true v.command.tag s is) life in
      let at : IsMovingAt s v past = own.at in
      Moves (record v { active = true }) refl own.command own.yet (record {
        long = at.long;
        quiet = at.quiet;
        set_up = at.set_up;
        inside = at.inside;
        names = names_of s v past at;
        fresh = at.fresh;
        asked = λ e. in_turn;
        stands = at.stands;
      }) (record { before = own.counted.before; now = own.counted.now })
  | inr other ↦ other_life s c v (record v { active = true }) past past k moving other tag refl refl
      (unset_other s c v past k moving other tag life) refl life
]

pub activates_keep : ActivatesKeep
activates_keep s c v past k moving tag in_turn life =
    subst (λ (m : Option Moving). InLife s c past (activates k m)) (sym moving) (activate_on s c v past k moving tag in_turn life)
