-- The FISes that the controller sends and that ask for a queued command with a tag are those of the slot of this number.
use Rattle.std.proofs.Common.{◌≡◌, ℕ, ◌+◌, ◌<◌, ◌≤◌, Bool, true, false, List, [], ◌∷◌, ◌++◌, length, map, Option, Some, None, Result, Ok, Err, refl}
use Rattle.std.proofs.{Common.{sym, ap, subst, ◌∙◌, inl, inr, arith}, lemmas.{Bool.{false≢true}, Grind.{flat_map-append}, List.{length-append}}}
use Rattle.std.specs.{Prelude.{MatchOption, if◌then◌else◌, slice_index}, Bool.MatchBool, declared.alloc.AllocError.AllocError}
use Rattle.fis_view.specs.{Frames.{Stamped, marked}, Seen.seen, declared.view.{Fis.Fis, FisFault.FisFault}}
use Rattle.fis_view.specs.declared.view.Fis.TheVariants as view
use Rattle.ahci_controller.specs.{States.ControllerState, declared.{feeding.Fed.Fed, taking.Hindrance.Hindrance}}
use Rattle.ahci_controller.specs.declared.feeding.Fed.TheVariants as fed
use Rattle.ahci_controller.specs.declared.next.Next.TheVariants as next
use Rattle.controller_laws.specs.Events as call
use Rattle.controller_laws.specs.Events.{Event}
use Rattle.ahci_machine.specs.Acts as acts
use Rattle.ahci_machine.specs.{Answers.{IsStale, MissesFor, MissesMachine, SuppliesMachine, is_wanted}, Gathers.{GatheringState, host_stamp}}
use Rattle.ahci_machine.specs.{States.{HasRules, IsOpeningMachine, MachineState, gathering_at}, declared.{answers.Told.Told, request.Wanted.Wanted}}
use Rattle.ahci_machine.specs.declared.request.Wanted.TheVariants.{Command, Data}
use Rattle.ahci_machine.specs.declared.act.Act.TheVariants as act
use Rattle.machine_laws.specs.{ControllerLaws.{RunsRuled, calls_in}, Controllers.{GathersDue, StaysDue, data_calls, deed_calls, lost_calls}}
use Rattle.machine_laws.specs.{Controllers.{miss_calls, rest_calls, supply_calls}, Deeds.{Deed, Does, Missed, Moved, Supplied, Wrote}}
use Rattle.machine_laws.specs.{Falling.{sent_by, sent_in}, Feeding.{DataIsRead, DataIsWhatCame, OpensUnread, came_in, data_with}}
use Rattle.machine_theorem.specs.{Identity.{AllKeep, IsTagged, asked_of, asks_of, heard_as, is_for, own_of, picks}, Orders.{are_ordered, is_ordered}}
use Rattle.machine_theorem.specs.{Orders.ordered_in, Tags.{asks_with, once_if}}
use Rattle.machine_theorem.proofs.{Fallen.map_both, AtMoments.more, FromHost.no_data, Ordered.{does_go, fed_low, first_ruled}, Few.{AreFew, are_few}}
use Rattle.machine_theorem.proofs.Within.{picks_both}

-- Data ask for none
asks_none : (tag : ℕ) (bytes : List ℕ) (r : Result Fis FisFault) → seen bytes ≡ r → slice_index bytes 0 ≡ 0x46 → asks_with tag r ≡ false
asks_none tag bytes (Ok (view.RegH2D f)) is data_of = absurd (no_data bytes f is data_of)
asks_none tag bytes (Ok (view.RegD2H f)) is data_of = refl
asks_none tag bytes (Ok (view.SetBits f)) is data_of = refl
asks_none tag bytes (Ok (view.DmaActivate f)) is data_of = refl
asks_none tag bytes (Ok (view.DmaSetup f)) is data_of = refl
asks_none tag bytes (Ok (view.PioSetup f)) is data_of = refl
asks_none tag bytes (Ok (view.Payload f)) is data_of = refl
asks_none tag bytes (Ok (view.Unknown f)) is data_of = refl
asks_none tag bytes (Err e) is data_of = refl

pub data_asks_none : (tag dev : ℕ) (came : List ℕ) → asks_of tag (marked (data_with dev came) 0) ≡ false
data_asks_none tag dev came = asks_none tag (marked (data_with dev came) 0) (seen (marked (data_with dev came) 0)) refl refl

-- the Data of these calls ask for none
abbrev pub DataAsksNone : ℕ → Event → Type 0
DataAsksNone tag (call.Gathered dev number bytes (fed.Goes message line)) = asks_of tag (marked bytes 0) ≡ false
DataAsksNone tag event = Unit {0}

abbrev pub DataAskNone : ℕ → List Event → Type 0
DataAskNone tag [] = Unit {0}
DataAskNone tag (e ∷ later) = DataAsksNone tag e × DataAskNone tag later

pub none_both : (tag : ℕ) (xs ys : List Event) → DataAskNone tag xs → DataAskNone tag ys → DataAskNone tag (xs ++ ys)
none_both tag [] ys a b = b
none_both tag (x ∷ xs) ys a b = (a.0, none_both tag xs ys a.1 b)

-- ---- as many as are sent from the slot

pub asked_both : (many : Bool) (n tag : ℕ) (xs ys : List Stamped) → asked_of many n tag (xs ++ ys) ≡ asked_of many n tag xs ++ asked_of many n tag ys
asked_both many n tag xs ys =
    ap (λ (l : List Stamped). picks (asks_of tag) (map heard_as l)) (picks_both (is_for many n) xs ys)
    ∙ ap (picks (asks_of tag)) (map_both heard_as (picks (is_for many n) xs) (picks (is_for many n) ys))
    ∙ picks_both (asks_of tag) (map heard_as (picks (is_for many n) xs)) (map heard_as (picks (is_for many n) ys))

one_asks : (b c d : Bool) (bytes : List ℕ) → (b ≡ true → c ≡ true → d ≡ true) → length (if c then bytes ∷ [] else []) ≤ 1 → length (if b then (if c then bytes ∷ [] else []) else []) ≤ once_if d
one_asks true true true bytes only few = omega arith
one_asks true true false bytes only few = absurd (false≢true (only refl refl))
one_asks true false d bytes only few = zero_least (once_if d)
  where
    zero_least : (k : ℕ) → 0 ≤ k
    zero_least k = omega arith
one_asks false c d bytes only few = zero_least (once_if d)
  where
    zero_least : (k : ℕ) → 0 ≤ k
    zero_least k = omega arith

short : (c : Bool) (bytes : List ℕ) → length (if c then bytes ∷ [] else []) ≤ 1
short true bytes = omega arith
short false bytes = omega arith

pub picked : (p : List ℕ → Bool) (b : Bool) (f : Stamped) → picks p (map heard_as (if b then f ∷ [] else [])) ≡ (if b then (if p (heard_as f) then heard_as f ∷ [] else []) else [])
picked p true f = refl
picked p false f = refl

one_frame : (many : Bool) (n tag : ℕ) (f : Stamped) (d : Bool) → (is_for many n f ≡ true → asks_of tag (heard_as f) ≡ true → d ≡ true) → length (asked_of many n tag (f ∷ [])) ≤ once_if d
one_frame many n tag f d only =
    subst (λ (l : List (List ℕ)). length l ≤ once_if d) (sym (picked (asks_of tag) (is_for many n f) f))
    (one_asks (is_for many n f) (asks_of tag (heard_as f)) d (heard_as f) only (short (asks_of tag (heard_as f)) (heard_as f)))

calls_few : (many : Bool) (n tag : ℕ) (events : List Event) (c : ControllerState) → AreFew events → IsTagged many n tag c events → DataAskNone tag events
    → length (asked_of many n tag (sent_in events)) ≤ once_if (are_ordered (own_of many n) tag c events)
calls_few many n tag [] c few tagged none = omega arith
calls_few many n tag (call.Turned (next.Order dev slot fis) ∷ []) c few tagged none =
    one_frame many n tag (record { bytes = fis; stamp = host_stamp dev }) (is_ordered (own_of many n) tag c (call.Turned (next.Order dev slot fis))) tagged
calls_few many n tag (call.Gathered dev number bytes (fed.Goes message line) ∷ []) c few tagged none =
    one_frame many n tag (record { bytes = bytes; stamp = host_stamp dev }) false (λ a b. absurd (false≢true (sym none.0 ∙ b)))
calls_few many n tag (call.Wrote offset value written ∷ []) c few tagged none = omega arith
calls_few many n tag (call.WroteWide offset width value written ∷ []) c few tagged none = omega arith
calls_few many n tag (call.Supplied slot number bytes told ∷ []) c few tagged none = omega arith
calls_few many n tag (call.Missed slot number told ∷ []) c few tagged none = omega arith
calls_few many n tag (call.Took frame took ∷ []) c few tagged none = omega arith
calls_few many n tag (call.Left frame why ∷ []) c few tagged none = omega arith
calls_few many n tag (call.Said write ∷ []) c few tagged none = omega arith
calls_few many n tag (call.NotThere dev number x ∷ []) c few tagged none = omega arith
calls_few many n tag (call.Turned other ∷ []) c few tagged none = omega arith
calls_few many n tag (call.Gathered dev number bytes other ∷ []) c few tagged none = omega arith
calls_few many n tag (e ∷ f ∷ later) c few tagged none = absurd few

-- the Data of each deed of a run ask for none
abbrev pub AllDataAskNone : ℕ → (old : MachineState) → (deeds : List Deed) → (now : MachineState) → RunsRuled old deeds now → Type 0
AllDataAskNone tag old [] now run = Unit {0}
AllDataAskNone tag old (deed ∷ later) now run = DataAskNone tag (deed_calls old deed run.1.0 run.1.1) × AllDataAskNone tag run.1.0 later now run.1.2

pub asked_few : (many : Bool) (n tag : ℕ) (deeds : List Deed) (old now : MachineState) (run : RunsRuled old deeds now) → AllKeep many n tag old deeds now run
    → AllDataAskNone tag old deeds now run → length (asked_of many n tag (sent_in (calls_in old deeds now run))) ≤ ordered_in (own_of many n) tag old deeds now run
asked_few many n tag [] old now run keeps none = omega arith
asked_few many n tag (deed ∷ later) old now run keeps none =
    let mid : MachineState = run.1.0 in
    let events : List Event = deed_calls old deed mid run.1.1 in
    let rest : List Event = calls_in mid later now run.1.2 in
    let first = calls_few many n tag events old.controller (are_few deed old mid run.1.1) keeps.0.tagged none.0 in
    let more = asked_few many n tag later mid now run.1.2 keeps.1 none.1 in
    let whole : length (asked_of many n tag (sent_in (events ++ rest))) ≡ length (asked_of many n tag (sent_in events)) + length (asked_of many n tag (sent_in rest)) =
    ap (λ (l : List Stamped). length (asked_of many n tag l)) (flat_map-append sent_by events rest)
    ∙ ap (λ (l : List (List ℕ)). length l) (asked_both many n tag (sent_in events) (sent_in rest))
    ∙ length-append (asked_of many n tag (sent_in events)) (asked_of many n tag (sent_in rest)) in
    omega (arith, first, more, whole)

-- ---- Data ask for none

gathered_none : (tag : ℕ) (answer : Fed) (dev number : ℕ) (bytes : List ℕ) → ((message : _) (line : _) → answer ≡ fed.Goes message line → asks_of tag (marked bytes 0) ≡ false)
    → DataAskNone tag (call.Gathered dev number bytes answer ∷ [])
gathered_none tag (fed.Goes message line) dev number bytes of = (of message line refl, tt)
gathered_none tag other dev number bytes of = (tt, tt)

rests_none : (tag : ℕ) (old new : MachineState) (does : acts.RestsNow old new) → DataAskNone tag (rest_calls old new does)
rests_none tag old new (inl same) = tt
rests_none tag old new (inr turns) = (tt, tt)

loses_none : (tag : ℕ) (frame : Option Stamped) (why : Hindrance) → DataAskNone tag (lost_calls frame why)
loses_none tag None why = tt
loses_none tag (Some frame) why = (tt, tt)

supplies_none : (tag : ℕ) (w : Wanted) (bytes : List ℕ) (old : MachineState) (answer : Result Told AllocError) (new : MachineState) (h : SuppliesMachine w bytes old answer new)
    → DataAskNone tag (supply_calls w bytes old answer new h)
supplies_none tag (Command slot number) bytes old answer new h = (tt, tt)
supplies_none tag (Data dev number done) bytes old answer new h = tt

misses_data_none : (tag : ℕ) (wanted : Bool) (there : Option GatheringState) (dev : ℕ) (old : MachineState) (it : Told) (new : MachineState)
    (h : MatchBool wanted (MatchOption there ⊥ (λ g. MissesFor g dev old it new)) (IsStale old it new)) → DataAskNone tag (data_calls wanted there dev old it new h)
misses_data_none tag true None dev old it new h = tt
misses_data_none tag true (Some g) dev old it new h = (tt, tt)
misses_data_none tag false there dev old it new h = tt

misses_none : (tag : ℕ) (w : Wanted) (old : MachineState) (answer : Result Told AllocError) (new : MachineState) (h : MissesMachine w old answer new) → DataAskNone tag (miss_calls w old answer new h)
misses_none tag (Command slot number) old answer new h = (tt, tt)
misses_none tag (Data dev number done) old (Ok it) new h = misses_data_none tag (is_wanted old dev number done) (gathering_at old dev) dev old it new h
misses_none tag (Data dev number done) old (Err e) new h = tt

pub record Laws : Type 0 where
  pub read : DataIsRead
  pub whole : DataIsWhatCame
  pub unread : OpensUnread
  pub due : StaysDue

module _ (laws : Laws) (tag ports : ℕ) (legacy : Bool) (first : MachineState) (opening : IsOpeningMachine ports legacy first) (due_first : GathersDue first) where
  gathers_none : (past : List Deed) (old : MachineState) (so_far : RunsRuled first past old) (dev : ℕ) (answer : Fed) (new : MachineState) (does : Does old (Moved (act.Gathers dev answer)) new)
      → HasRules old → GathersDue old → DataAskNone tag (deed_calls old (Moved (act.Gathers dev answer)) new does)
  gathers_none past old so_far dev answer new does rules due =
      gathered_none tag answer dev does.does.gathering.feed.number does.does.gathering.bytes (λ message line goes.
      let low : dev < 16 = fed_low old.controller does.middle.controller dev does.does.gathering.feed.number answer rules.slots (subst does_go (sym goes) tt) does.does.gathers.gathers in
      let came : List ℕ = came_in dev [] first past old so_far in
      let is : does.does.gathering.bytes ≡ data_with dev came =
      laws.whole old dev answer new does due came (laws.read dev low first past old so_far due_first [] (laws.unread ports legacy first opening dev)) in
      ap (λ (b : List ℕ). asks_of tag (marked b 0)) is ∙ data_asks_none tag dev came)

  pub deed_none : (past : List Deed) (old : MachineState) (so_far : RunsRuled first past old) (deed : Deed) (new : MachineState) (does : Does old deed new)
      → HasRules old → GathersDue old → DataAskNone tag (deed_calls old deed new does)
  deed_none past old so_far (Moved (act.Gathers dev answer)) new does rules due = gathers_none past old so_far dev answer new does rules due
  deed_none past old so_far (Moved act.Rests) new does rules due = rests_none tag old does.middle does.does
  deed_none past old so_far (Moved (act.Loses why)) new does rules due = loses_none tag old.incoming why
  deed_none past old so_far (Moved (act.Writes w)) new does rules due = (tt, tt)
  deed_none past old so_far (Moved act.LetsGo) new does rules due = (tt, tt)
  deed_none past old so_far (Moved (act.Turns said)) new does rules due = (tt, tt)
  deed_none past old so_far (Moved (act.Misses slot answer)) new does rules due = (tt, tt)
  deed_none past old so_far (Moved (act.Takes took)) new does rules due = (tt, tt)
  deed_none past old so_far (Moved other) new does rules due = tt
  deed_none past old so_far (Wrote offset width value written) new does rules due = (tt, tt)
  deed_none past old so_far (Supplied w bytes) new does rules due = supplies_none tag w bytes old does.answer new does.supplies
  deed_none past old so_far (Missed w) new does rules due = misses_none tag w old does.answer new does.misses
  deed_none past old so_far other new does rules due = tt

  pub all_none : (past : List Deed) (old : MachineState) (so_far : RunsRuled first past old) (deeds : List Deed) (now : MachineState) (run : RunsRuled old deeds now) → GathersDue old
      → AllDataAskNone tag old deeds now run
  all_none past old so_far [] now run due = tt
  all_none past old so_far (deed ∷ later) now run due =
      let mid : MachineState = run.1.0 in (
        deed_none past old so_far deed mid run.1.1 run.0 due,
        all_none (past ++ deed ∷ []) mid (more past first old mid deed so_far run.1.1 (first_ruled later mid now run.1.2)) later now run.1.2 (laws.due old deed mid run.1.1 due),
      )
