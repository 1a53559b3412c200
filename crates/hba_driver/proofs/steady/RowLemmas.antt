-- For `turns_are_steady`. A device's posted Register FIS stays in its row until its next Register FIS or its flush.
use Rattle.std.proofs.Common.{◌≡◌, ◌≢◌, ℕ, ◌+◌, ◌-◌, ◌*◌, ◌<◌, ◌≤◌, ◌⊎◌, Bool, true, false, List, [], ◌∷◌, ◌++◌, length, take, drop, replicate}
use Rattle.std.proofs.{Common.{get_or, refl, sym, ◌∙◌, ap, subst, inl, inr, arith, Option, Some, None}, lemmas.Bool.{cases_Bool, cases_eq, cases_lt}}
use Rattle.std.proofs.lemmas.{Bool.{false≢true, ne_eqb, Decides.nat_tests}, List.{ext_get_or, get_or-append_right, get_or-drop, get_or-replicate}}
use Rattle.std.proofs.lemmas.List.{get_or-take, get_or_append_left, length-append, length-drop, length-replicate, length-take}
use Rattle.std.specs.{Prelude.{if◌then◌else◌, ◌==◌, not, nat_le, slice_index, Result, Ok, Err}, List.list_all}
use Rattle.fis_view.specs.{Seen.{kind_of, kind_of_type, may_have, seen, view_as}, Table.{Bits, D2h, Kind, Other, Pio, Setup}, declared.view.Fis.Fis}
use Rattle.fis_view.specs.declared.view.FisFault.{FisFault, TheVariants.WrongLength}
use Rattle.fis_view.specs.declared.view.Fis.TheVariants as view
use Rattle.host_memory.specs.{Memory.{Memory, client_start, zeroed, zeros}, Reading.AgreeFrom}
use Rattle.host_memory.proofs.Door.{agree_beside}
use Rattle.rx_area.specs.Area as rx
use Rattle.rx_area.specs.declared.area.Posted.TheVariants as posted
use Rattle.hba_fbs.specs.{Hearing.is_admitted, Posting.{Posts, area_at}, Taking.{PostsOf, admitted, ignores, port_of}, Views.Port}
use Rattle.hba_driver.specs.declared.{effect.Effect.Effect, mode.Mode.TheVariants.Switching, order.Order.TheVariants.Clear, turn.Act.Act}
use Rattle.hba_driver.specs.{Effects.{Acts, ActsAll, effects_of, is_effect, issuing, order_command, order_effects, prds_with}, Events.IsSoundHost}
use Rattle.hba_driver.specs.{Events.opening_host, HostTurns.{Does, Host, HostTurn, Took, Ticked, Submitted, sight_in}, Orders.order_fields}
use Rattle.hba_driver.specs.{Paths.{reads_page, stage_fields}, Sights.{is_ata, last_d2h}, Steady.{HasSignature, IsCalmAct, IsFlushTick, IsRowTurn}}
use Rattle.hba_driver.specs.{Submits.next_slot, Ticks.{due, effects_due}}
use Rattle.hba_driver.specs.declared.effect.Effect.TheVariants as effect
use Rattle.hba_driver.specs.declared.turn.Act.TheVariants as act
use Rattle.hba_driver.proofs.calls.EffectLemmas.{issuing_pass, opens_pass, order_pass, restarts_pass, sending_pass}
use Rattle.hba_driver.proofs.{requests.HistoryLemmas.free_below, modes.{ModeLemmas.posts_own, RowMode.started_mode}, events.SoundLemmas.sound_host}
use Rattle.hba_driver.proofs.{events.SoundLemmas.sound_turn, requests.StandLemmas.{Same, both, few_prds, lt_of, runs, same_beside, same_memory}}
use Rattle.hba_driver.proofs.{requests.StandLemmas.same_written, calls.SubmitLemmas.is_taken, modes.SwitchLemmas.{tick_acts, tick_possible}}

-- ---- where it is

-- the Register FIS of device n
abbrev place : ℕ → ℕ
place n = 4160 + 256 * n

pub window_same : (at : ℕ) (old new : List ℕ) → length new ≡ length old → AgreeFrom at 20 old new → take 20 (drop at new) ≡ take 20 (drop at old)
window_same at old new long same =
    let a = length-take 20 (drop at new) in
    let b = length-take 20 (drop at old) in
    let c = length-drop at new in
    let d = length-drop at old in
    ext_get_or 0 (take 20 (drop at new)) (take 20 (drop at old)) (omega (arith, a, b, c, d, long)) (λ i h.
    let below : i < 20 = omega (arith, a, h) in
    get_or-take 20 (drop at new) i 0 below ∙ get_or-drop at new i 0 ∙ sym (same i below) ∙ sym (get_or-drop at old i 0) ∙ sym (get_or-take 20 (drop at old) i 0 below))

pub d2h_same : (n : ℕ) (old new : List ℕ) → length new ≡ length old → AgreeFrom (place n) 20 old new → last_d2h new n ≡ last_d2h old n
d2h_same n old new long same = window_same (place n) old new long same

-- a byte of it is a byte of the row
byte_of : (n i : ℕ) (s : List ℕ) → n < 16 → i < 20 → get_or (rx.row_of (area_at s 4096) n) (64 + i) 0 ≡ slice_index s (place n + i)
byte_of n i s low below =
    let at : 4096 + (256 * n + (64 + i)) ≡ place n + i = omega arith in
    get_or-take 256 (drop (256 * n) (take 4096 (drop 4096 s))) (64 + i) 0 (omega (arith, below)) ∙ get_or-drop (256 * n) (take 4096 (drop 4096 s)) (64 + i) 0
    ∙ get_or-take 4096 (drop 4096 s) (256 * n + (64 + i)) 0 (omega (arith, low, below)) ∙ get_or-drop 4096 s (256 * n + (64 + i)) 0 ∙ ap (λ (k : ℕ). get_or s k 0) at

-- ---- effects

-- the row of the device is not emptied
abbrev spares : ℕ → Effect → Bool
spares n (effect.Empties dev) = not (dev == n)
spares n other = true

here : (n : ℕ) (s : List ℕ) → length s ≡ 1048576 → Same (place n) 20 s s
here n s long = record { long = long; agree = λ i h. refl }

other_of : (a b : ℕ) → not (a == b) ≡ true → a ≢ b
other_of a b h = grind (arith, nat_tests)

row_act : (n : ℕ) (e : Effect) (old new : Port) (before after : Memory) → n < 16 → spares n e ≡ true → is_effect e ≡ true → Acts e old before new after → length before.structure ≡ 1048576 → Same (place n) 20 before.structure after.structure
row_act n (effect.Empties dev) old new before after low spared is h long =
    let below : dev < 16 = lt_of dev 16 is in
    let other : dev ≢ n = other_of dev n spared in
    subst (λ (m : Memory). Same (place n) 20 before.structure m.structure) (sym h.1)
    (same_beside (place n) 20 before.structure (4096 + 256 * dev) (replicate 256 0) 256 long (omega (arith, length-replicate {A = ℕ} 256 0)) (omega (arith, below)) (apart dev n other))
  where
    apart : (a b : ℕ) → a ≢ b → (place b + 20 ≤ 4096 + 256 * a) ⊎ (4096 + 256 * a + 256 ≤ place b)
    apart a b other = elim (cases_lt a b) [ inl less ↦ inr (omega (arith, less)) | inr least ↦ inl (omega (arith, least, other)) ]
row_act n (effect.Commands slot fields buffer) old new before after low spared is h long =
    let below : slot < 32 = lt_of slot 32 is in
    same_written (place n) 20 slot fields (prds_with buffer) before.structure after.structure long below (few_prds buffer) (inr (omega (arith, below))) (inl (omega (arith, low))) h.1.structure
row_act n rest old new before after low spared is h long = subst (λ (m : Memory). Same (place n) 20 before.structure m.structure) (sym h.1) (here n before.structure long)

row_acts : (n : ℕ) (es : List Effect) (old new : Port) (before after : Memory) → n < 16 → list_all (spares n) es ≡ true → list_all is_effect es ≡ true → ActsAll es old before new after → length before.structure ≡ 1048576
    → Same (place n) 20 before.structure after.structure
unfolding ActsAll
row_acts n [] old new before after low spared is h long = subst (λ (m : Memory). Same (place n) 20 before.structure m.structure) (sym h.1) (here n before.structure long)
row_acts n (e ∷ es) old new before after low spared is h long =
    let s = both (spares n e) (list_all (spares n) es) spared in
    let f = both (is_effect e) (list_all is_effect es) is in
    let first : Same (place n) 20 before.structure h.1.structure = row_act n e old h.0 before h.1 low s.0 f.0 h.2 long in
    let rest : Same (place n) 20 h.1.structure after.structure = row_acts n es h.0 new h.1 after low s.1 f.1 h.4 first.long in
    record { long = rest.long; agree = λ i below. first.agree i below ∙ rest.agree i below }

spares_issuing : (n slot dev : ℕ) (queued : Bool) → list_all (spares n) (issuing Switching slot dev queued) ≡ true
spares_issuing n slot dev queued = issuing_pass (spares n) Switching slot dev queued (λ on. refl) refl refl

spares_act : (n : ℕ) (a : Option Act) → IsCalmAct n a → list_all (spares n) (effects_due Switching a) ≡ true
unfolding effects_of
spares_act n (Some (act.Opens k)) calm = opens_pass (spares n) Switching k refl refl
spares_act n (Some (act.Restarts k)) calm = restarts_pass (spares n) Switching k refl refl
spares_act n (Some (act.Orders order)) calm = order_pass (spares n) Switching order refl (λ port is. (refl, ap not (ne_eqb port n (λ same. calm (is ∙ ap Clear same))))) (λ f. refl) (spares_issuing n 31 15 false)
spares_act n (Some (act.Steps dev stage)) calm = sending_pass (spares n) Switching 30 dev (stage_fields dev stage) (reads_page stage) (λ f. refl) (spares_issuing n 30 dev false)
spares_act n (Some (act.Issues slot dev queued)) calm = spares_issuing n slot dev queued
spares_act n other calm = refl

-- ---- a FIS is posted

-- the length of a FIS that is posted at the place, or beside it
abbrev pub IsSized : Fis → Type 0
IsSized (view.RegD2H f) = length f ≡ 20
IsSized (view.DmaSetup f) = length f ≡ 28
IsSized (view.PioSetup f) = length f ≡ 20
IsSized (view.SetBits f) = length f ≡ 8
IsSized fis = Unit {0}

equal_of : (a b : ℕ) → (a == b) ≡ true → a ≡ b
equal_of a b h = grind (arith, nat_tests)

size_as : (k : Kind) (frame : List ℕ) → may_have k (length frame) ≡ true → IsSized (view_as k frame)
size_as D2h frame h = equal_of (length frame) 20 h
size_as Setup frame h = equal_of (length frame) 28 h
size_as Pio frame h = equal_of (length frame) 20 h
size_as Bits frame h = equal_of (length frame) 8 h
size_as other frame h = tt

abbrev shows : Fis → Result Fis FisFault
shows fis = Ok fis

same_fis : (a c : Fis) → shows a ≡ shows c → a ≡ c
same_fis a c e = cc

sized_by : (b : Bool) (shown fis : Fis) → (b ≡ true → IsSized shown) → (if b then Ok shown else Err WrongLength) ≡ Ok fis → IsSized fis
sized_by true shown fis size h = subst IsSized (same_fis shown fis h) (size refl)
sized_by false shown fis size h = cc

pub sized : (frame : List ℕ) (fis : Fis) → seen frame ≡ Ok fis → IsSized fis
unfolding seen
sized frame fis h = sized_by (may_have (kind_of frame) (length frame)) (view_as (kind_of frame) frame) fis (size_as (kind_of frame) frame) h

le_of : (a b : ℕ) → nat_le a b ≡ true → a ≤ b
le_of a b h = grind (arith, nat_tests)

-- it is not a Register FIS of a device
abbrev pub IsNoRegister : Fis → Type 0
IsNoRegister (view.RegD2H f) = ⊥
IsNoRegister fis = Unit {0}

pub own_row : (row : List ℕ) (fis : Fis) → length row ≡ 256 → IsSized fis → IsNoRegister fis → AgreeFrom 64 20 row (rx.row_after row fis)
own_row row (view.DmaSetup f) long size other = agree_beside row 0 f 64 20 (omega (arith, long, size)) (inr (omega (arith, size)))
own_row row (view.PioSetup f) long size other = agree_beside row 32 f 64 20 (omega (arith, long, size)) (inr (omega (arith, size)))
own_row row (view.SetBits f) long size other = agree_beside row 88 f 64 20 (omega (arith, long, size)) (inl (omega arith))
own_row row (view.Unknown f) long size other = by_test (nat_le (length f) 64) refl
  where
    by_test : (b : Bool) → nat_le (length f) 64 ≡ b → AgreeFrom 64 20 row (rx.overwritten row (rx.offset_of (if b then posted.Unknown else posted.Nothing)) (if b then f else []))
    by_test true h = let few : length f ≤ 64 = le_of (length f) 64 h in agree_beside row 96 f 64 20 (omega (arith, long, few)) (inl (omega arith))
    by_test false h = agree_beside row 0 [] 64 20 (omega (arith, long)) (inr (omega arith))
own_row row (view.RegD2H f) long size other = absurd other
own_row row rest long size other = agree_beside row 0 [] 64 20 (omega (arith, long)) (inr (omega arith))

pub row_long : (n : ℕ) (s : List ℕ) → n < 16 → length s ≡ 1048576 → length (rx.row_of (area_at s 4096) n) ≡ 256
row_long n s low long =
    let a = length-drop 4096 s in
    let b = length-take 4096 (drop 4096 s) in
    let c = length-drop (256 * n) (take 4096 (drop 4096 s)) in
    let d = length-take 256 (drop (256 * n) (take 4096 (drop 4096 s))) in
    omega (arith, a, b, c, d, low, long)

-- its place in the row
pub d2h_row : (n : ℕ) (s : List ℕ) → n < 16 → length s ≡ 1048576 → take 20 (drop 64 (rx.row_of (area_at s 4096) n)) ≡ last_d2h s n
d2h_row n s low long =
    let row : List ℕ = rx.row_of (area_at s 4096) n in
    let whole = row_long n s low long in
    let a = length-take 20 (drop 64 row) in
    let b = length-drop 64 row in
    let c = length-take 20 (drop (place n) s) in
    let d = length-drop (place n) s in
    ext_get_or 0 (take 20 (drop 64 row)) (last_d2h s n) (omega (arith, a, b, c, d, whole, long, low)) (λ i h.
    let below : i < 20 = omega (arith, a, h) in
    get_or-take 20 (drop 64 row) i 0 below ∙ get_or-drop 64 row i 0 ∙ byte_of n i s low below ∙ sym (get_or-drop (place n) s i 0) ∙ sym (get_or-take 20 (drop (place n) s) i 0 below))

-- a FIS of another device, or no Register FIS
posted_row : (n dev : ℕ) (fis : Fis) (old new : List ℕ) → n < 16 → length old ≡ 1048576 → IsSized fis → (dev ≢ n) ⊎ IsNoRegister fis → Posts 4096 dev fis old new → AgreeFrom (place n) 20 old new
posted_row n dev fis old new low long size which posts i below =
    sym (byte_of n i old low below) ∙ rows ∙ byte_of n i new low below
  where
    by_dev : (dev ≡ n) ⊎ (dev ≢ n) → get_or (rx.row_of (area_at old 4096) n) (64 + i) 0 ≡ get_or (rx.row_of (area_at new 4096) n) (64 + i) 0
    by_dev (inr other) = ap (λ (r : List ℕ). get_or r (64 + i) 0) (sym (posts.others n (λ e. other (sym e))))
    by_dev (inl same) = elim which [
      | inl other ↦ absurd (other same)
      | inr plain ↦
          let own : rx.row_of (area_at new 4096) n ≡ rx.row_after (rx.row_of (area_at old 4096) n) fis = subst (λ (k : ℕ). rx.row_of (area_at new 4096) k ≡ rx.row_after (rx.row_of (area_at old 4096) k) fis) same posts.own in
          own_row (rx.row_of (area_at old 4096) n) fis (row_long n old low long) size plain i below ∙ ap (λ (r : List ℕ). get_or r (64 + i) 0) (sym own)
    ]

    rows : get_or (rx.row_of (area_at old 4096) n) (64 + i) 0 ≡ get_or (rx.row_of (area_at new 4096) n) (64 + i) 0
    rows = by_dev (cases_eq dev n)

posted_of : (n dev fb : ℕ) (frame : List ℕ) (old new : List ℕ) → n < 16 → fb ≡ 4096 → length old ≡ 1048576 → (dev ≢ n) ⊎ ((f : List ℕ) → seen frame ≡ Ok (view.RegD2H f) → ⊥) → PostsOf fb dev (admitted dev (seen frame)) old new → AgreeFrom (place n) 20 old new
posted_of n dev fb frame old new low area long which posts = by_seen (seen frame) refl posts
  where
    none : new ≡ old → AgreeFrom (place n) 20 old new
    none is i below = ap (λ (l : List ℕ). slice_index l (place n + i)) (sym is)

    plain : (fis : Fis) → seen frame ≡ Ok fis → ((f : List ℕ) → seen frame ≡ Ok (view.RegD2H f) → ⊥) → IsNoRegister fis
    plain (view.RegD2H f) is not_one = not_one f is
    plain other is not_one = tt

    by_test : (fis : Fis) (b : Bool) → seen frame ≡ Ok fis → PostsOf fb dev (if b then Some fis else None) old new → AgreeFrom (place n) 20 old new
    by_test fis false is h = none h
    by_test fis true is h =
        let which_of : (dev ≢ n) ⊎ IsNoRegister fis = elim which [ inl other ↦ inl other | inr not_one ↦ inr (plain fis is not_one) ] in
        posted_row n dev fis old new low long (sized frame fis is) which_of (subst (λ (k : ℕ). Posts k dev fis old new) area h)

    by_seen : (r : Result Fis FisFault) → seen frame ≡ r → PostsOf fb dev (admitted dev r) old new → AgreeFrom (place n) 20 old new
    by_seen (Err e) is h = none h
    by_seen (Ok fis) is h = by_test fis (is_admitted dev fis) is h

-- ---- each turn

pub row_turn : (n : ℕ) (old : Host) (t : HostTurn) (new : Host) → n < 16 → Does old t new → IsSoundHost old → IsRowTurn n old t → AgreeFrom (place n) 20 old.memory.structure new.memory.structure
row_turn n old (Took frame report) new low h s which = elim (cases_Bool (ignores (port_of frame) old.port frame)) [
  | inl skip ↦ same_memory (place n) 20 old.memory new.memory (ap (λ (m : Memory). m.structure) (h.ignored skip).memory)
  | inr heard ↦
      let starts : old.port.registers.started ≡ true = runs old.port frame heard in
      let on : old.port.registers.switching ≡ true = started_mode old.driver.plan.opened old.driver.plan.restarted old.port.registers s.registers starts in
      posted_of n (port_of frame) old.port.registers.fb frame old.memory.structure new.memory.structure low ((sound_host old s).area starts) s.memory.structure_len which
      (posts_own old.port old.port.registers.fb (port_of frame) (admitted (port_of frame) (seen frame)) old.memory.structure new.memory.structure on (h.heard heard).structure)
]
row_turn n old (Ticked a) new low h s which =
    (row_acts n (effects_due Switching (due (sight_in old) old.driver)) old.port new.port old.memory new.memory low (spares_act n (due (sight_in old) old.driver) which) (tick_possible old a new h s) (tick_acts old a new h s)
    s.memory.structure_len).agree
row_turn n old (Submitted dev request ticket) new low h s which =
    let slot : ℕ = next_slot old.driver in
    let below : slot < 30 = free_below old.driver old.memory dev request h.accepted in
    (same_written (place n) 20 slot _ request.prds.items old.memory.structure new.memory.structure s.memory.structure_len (omega (arith, below)) (is_taken old.driver old.memory dev request h.accepted).few
    (inr (omega (arith, below))) (inl (omega (arith, low))) h.taken.command).agree
row_turn n old other new low h s which = same_memory (place n) 20 old.memory new.memory (ap (λ (m : Memory). m.structure) h.memory)

pub rows_stay : (n : ℕ) (old : Host) (t : HostTurn) (new : Host) → n < 16 → Does old t new → IsSoundHost old → IsRowTurn n old t → HasSignature n new → HasSignature n old
rows_stay n old t new low h s which signs =
    let later = sound_turn old t new h s in
    let same : last_d2h new.memory.structure n ≡ last_d2h old.memory.structure n =
    d2h_same n old.memory.structure new.memory.structure (later.memory.structure_len ∙ sym s.memory.structure_len) (row_turn n old t new low h s which) in
    ap (λ (f : List ℕ). is_ata (seen f)) (sym same) ∙ signs

-- ---- a row that is empty

first_zero : (f : List ℕ) → slice_index f 0 ≡ 0 → is_ata (seen f) ≡ false
unfolding seen
first_zero f zero_is =
    let kind : kind_of f ≡ Other = ap kind_of_type zero_is in
    ap (λ (k : Kind). is_ata (if may_have k (length f) then Ok (view_as k f) else Err WrongLength)) kind

zero_row : (n : ℕ) (s : List ℕ) → slice_index s (place n) ≡ 0 → is_ata (seen (last_d2h s n)) ≡ false
zero_row n s zero_is =
    let at : place n + 0 ≡ place n = omega arith in
    first_zero (last_d2h s n) (get_or-take 20 (drop (place n) s) 0 0 (omega arith) ∙ get_or-drop (place n) s 0 0 ∙ ap (λ (k : ℕ). get_or s k 0) at ∙ zero_is)

zeros_at : (len k : ℕ) → k < len → get_or (zeros len) k 0 ≡ 0
unfolding zeros
zeros_at len k below = get_or-replicate len k 0 0 below

-- when the host opens
pub opens_row : (n given len : ℕ) → n < 16 → HasSignature n (opening_host given (zeroed len)) → ⊥
opens_row n given len low signs = false≢true (sym (zero_row n (zeros client_start) (zeros_at client_start (place n) (omega (arith, low)))) ∙ signs)

at_place : (old bytes : List ℕ) (at k : ℕ) → at + length bytes ≤ length old → k < length bytes → get_or (take at old ++ bytes ++ drop (at + length bytes) old) (at + k) 0 ≡ get_or bytes k 0
at_place old bytes at k room below =
    let long = length-take at old in
    let both_long = length-append (take at old) bytes in
    let back : at + k - at ≡ k = omega arith in
    get_or_append_left (take at old ++ bytes) (drop (at + length bytes) old) 0 (at + k) (omega (arith, both_long, long, room, below))
    ∙ get_or-append_right (take at old) bytes at (at + k) 0 (omega (arith, long, room)) (omega arith) ∙ ap (λ (j : ℕ). get_or bytes j 0) back

pub set_long : (old bytes : List ℕ) (at : ℕ) → at + length bytes ≤ length old → length (rx.overwritten old at bytes) ≡ length old
set_long old bytes at room =
    let a = length-take at old in
    let b = length-drop (at + length bytes) old in
    let c = length-append (take at old) bytes in
    let d : length (rx.overwritten old at bytes) ≡ length (take at old ++ bytes) + length (drop (at + length bytes) old) = length-append (take at old ++ bytes) (drop (at + length bytes) old) in
    omega (arith, a, b, c, d, room)

pub set_window : (old bytes : List ℕ) (at : ℕ) → length bytes ≡ 20 → at + length bytes ≤ length old → take 20 (drop at (rx.overwritten old at bytes)) ≡ bytes
set_window old bytes at long room =
    let a = set_long old bytes at room in
    let b = length-drop at (rx.overwritten old at bytes) in
    let c = length-take 20 (drop at (rx.overwritten old at bytes)) in
    ext_get_or 0 (take 20 (drop at (rx.overwritten old at bytes))) bytes (omega (arith, a, b, c, long, room)) (λ i h.
    let below : i < 20 = omega (arith, c, h) in
    get_or-take 20 (drop at (rx.overwritten old at bytes)) i 0 below ∙ get_or-drop at (rx.overwritten old at bytes) i 0 ∙ at_place old bytes at i room (omega (arith, long, below)))

-- in the tick that flushes the device
clear_row : (n : ℕ) (old new : Port) (before after : Memory) → n < 16 → list_all is_effect (order_effects Switching (Clear n)) ≡ true → ActsAll (order_effects Switching (Clear n)) old before new after → length before.structure ≡ 1048576 → slice_index after.structure (place n) ≡ 0
unfolding order_effects order_fields ActsAll
clear_row n old new before after low is acts long =
    let first : length acts.1.structure ≡ 1048576 = ap (λ (m : Memory). length m.structure) acts.2.1 ∙ long in
    let zeros_long = length-replicate {A = ℕ} 256 0 in
    let emptied_is : Same 0 0 acts.1.structure acts.4.1.structure =
    subst (λ (m : Memory). Same 0 0 acts.1.structure m.structure) (sym acts.4.2.1)
    (same_beside 0 0 acts.1.structure (4096 + 256 * n) (replicate 256 0) 256 first (omega (arith, zeros_long)) (omega (arith, low)) (inl (omega arith))) in
    let one : get_or acts.4.1.structure (4096 + 256 * n + 64) 0 ≡ 0 =
    ap (λ (m : Memory). get_or m.structure (4096 + 256 * n + 64) 0) acts.4.2.1 ∙ at_place acts.1.structure (replicate 256 0) (4096 + 256 * n) 64 (omega (arith, zeros_long, first, low)) (omega (arith, zeros_long))
    ∙ get_or-replicate 256 64 0 0 (omega arith) in
    let at : 4096 + 256 * n + 64 ≡ place n + 0 = omega arith in
    let back : place n + 0 ≡ place n = omega arith in
    let parts = both (is_effect (effect.Flushes n)) _ is in
    let more = both (is_effect (effect.Empties n)) _ parts.1 in
    let rest : Same (place n) 20 acts.4.1.structure after.structure = row_acts n (order_command Switching (Clear n)) acts.4.0 new acts.4.1 after low refl more.1 acts.4.4 emptied_is.long in
    ap (λ (k : ℕ). get_or after.structure k 0) (sym back) ∙ sym (rest.agree 0 (omega arith)) ∙ ap (λ (k : ℕ). get_or acts.4.1.structure k 0) (sym at) ∙ one

pub flush_row : (n : ℕ) (old : Host) (acted : Bool) (new : Host) → n < 16 → Does old (Ticked acted) new → IsSoundHost old → IsFlushTick n old → HasSignature n new → ⊥
unfolding effects_of
flush_row n old acted new low does s flush signs =
    let acts = subst (λ (a : Option Act). ActsAll (effects_due Switching a) old.port old.memory new.port new.memory) flush (tick_acts old acted new does s) in
    let possible = subst (λ (a : Option Act). list_all is_effect (effects_due Switching a) ≡ true) flush (tick_possible old acted new does s) in
    false≢true (sym (zero_row n new.memory.structure (clear_row n old.port new.port old.memory new.memory low possible acts s.memory.structure_len)) ∙ signs)
