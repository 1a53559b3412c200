-- For `port_goes_on`. The table of slot 30 stays as it was written while a page is awaited there.
use Rattle.std.proofs.Common.{◌≡◌, ℕ, ◌+◌, ◌*◌, ◌<◌, ◌≤◌, ◌⊎◌, Bool, true, false, ◌&&◌, nat_lt, List, [], ◌∷◌, length, replicate, refl, sym, ◌∙◌, ap, subst, inl, inr, arith, Option, Some, None}
use Rattle.std.specs.{Prelude.{◌||◌, ◌==◌, ◌%◌, if◌then◌else◌, not, slice_index, slice_set}, List.list_all}
use Rattle.std.proofs.lemmas.{Bool.{cases_Bool, false≢true, le-ltb, true≢false}, List.length-replicate}
use Rattle.fis_view.specs.{Seen.seen as seen_in, declared.build.H2dFields.H2dFields}
use Rattle.host_memory.specs.{Memory.{IsHostMemory, Memory}, Reading.read_fault, declared.table.PrdError.PrdError}
use Rattle.host_memory.proofs.Door.{says_the_same}
use Rattle.hba_fbs.specs.{declared.report.TakeReport.TakeReport, Taking.{admitted, ignores, port_of, row_for}, Views.Port}
use Rattle.slots.specs.Slots.{match_some}
use Rattle.hba_commands.specs.{Commands.total_if_sound, Writing.total_if_usable}
use Rattle.hba_driver.specs.declared.{effect.Effect.Effect, mode.Mode.TheVariants.Switching, order.Order.{Order, TheVariants.Clear}, path.Path.Path}
use Rattle.hba_driver.specs.{declared.{path.Stage.{Stage, TheVariants.{Identify, ReadLog}}, path.TaskFile.TaskFile, plan.Plan.Plan}, Seeing.Sight}
use Rattle.hba_driver.specs.{declared.turn.Act.Act, Drivers.{Driver, Entry}}
use Rattle.hba_driver.specs.Effects.{Acts, ActsAll, buffer_prd, effects_of, is_effect, issuing, prds_with, sending, stage_effects}
use Rattle.hba_driver.specs.{Events.IsSoundHost, HostTurns.{Does, Host, HostTurn, Took, Ticked, Submitted, Polled, sight_in}, Sights.file_shown}
use Rattle.hba_driver.specs.{Submits.{after_poll, lowest_ended, next_slot}, Paths.{reads_page, stage_fields}}
use Rattle.hba_driver.specs.{Ticks.{acted, after_tick, done_ended, due, effects_due, ordered, plan_after, seen, unless}, Turns.turn_of}
use Rattle.hba_driver.specs.Between.{HasPage}
use Rattle.hba_driver.specs.declared.effect.Effect.TheVariants as effect
use Rattle.hba_driver.specs.declared.turn.Act.TheVariants as act
use Rattle.hba_driver.proofs.{ticks.DueLemmas.goes_turn, calls.EffectLemmas.{issuing_pass, opens_pass, order_pass, restarts_pass}}
use Rattle.hba_driver.proofs.{requests.HistoryLemmas.free_below, delivery.InsideLemmas.as_long, events.SoundLemmas.sound_host}
use Rattle.hba_driver.proofs.requests.StandLemmas.{Same, both, few_prds, lt_of, posted_beside, runs, same_beside, same_written}
use Rattle.hba_driver.proofs.{goes_on.StopLemmas.either, calls.SubmitLemmas.is_taken, modes.SwitchLemmas.{tick_acts, tick_possible}}

-- ---- a path that waits was there before

-- a path of this plan whose command is out was there before
abbrev Back : Option Path → Option Path → Type 0
Back old new = (x : Path) → new ≡ Some x → x.asked ≡ true → old ≡ Some x

none_there : (x : Path) {P : Type 0} → None ≡ Some x → P
none_there x h = cc

pub turn_back : (v : Sight) (plan : Plan) (entries : List (Option Entry)) → Back plan.path (turn_of v plan entries).plan.path
turn_back v plan entries = (goes_turn v plan entries).back

unless_back : (dev : ℕ) (o : Option Path) → Back o (unless dev o)
unless_back dev None = λ x here out. none_there x here
unless_back dev (Some path) = either (λ (p : Option Path). Back (Some path) p) (path.dev == dev) None (Some path) (λ x here out. none_there x here) (λ x here out. here)

-- no act except that of slot 30 begins a path
abbrev pub Begins : Option Act → Path → Type 0
Begins (Some (act.Steps dev stage)) x = x ≡ record { dev = dev; stage = stage; asked = true }
Begins a x = ⊥

acted_back : (a : Option Act) (file : TaskFile) (d : Driver) (x : Path) → (acted a file d).plan.path ≡ Some x → x.asked ≡ true → Begins a x ⊎ (d.plan.path ≡ Some x)
unfolding plan_after
acted_back (Some act.Stops) file d x here out = let bad : None ≡ Some x = here in cc
acted_back (Some (act.Clears dev)) file d x here out =
    inr (either (λ (q : Plan). Back d.plan.path q.path) (nat_lt dev 15) _ _ (unless_back dev d.plan.path) (λ x here out. here) x here out)
acted_back (Some (act.Orders order)) file d x here out = inr (by_order order x here out)
  where
    by_order : (o : Order) → Back d.plan.path (ordered o d.plan).path
    by_order (Clear port) = unless_back port d.plan.path
    by_order o = λ x here out. here
acted_back (Some (act.Steps dev stage)) file d x here out = inl (let same : record { dev = dev; stage = stage; asked = true } ≡ x = cc in sym same)
acted_back other file d x here out = inr here

-- ---- the bytes of the table stay

abbrev page_at : ℕ
page_at = 131200

-- the entry of the table is as it was
abbrev SamePage : List ℕ → List ℕ → Type 0
SamePage old new = Same page_at 16 old new

-- what writes no command into slot 30
abbrev spares_page : Effect → Bool
spares_page (effect.Commands slot fields buffer) = nat_lt 30 slot
spares_page other = true

same_page : (s t : List ℕ) → t ≡ s → length s ≡ 1048576 → SamePage s t
same_page s t same long = record { long = ap (λ (l : List ℕ). length l) same ∙ long; agree = λ i h. ap (λ (l : List ℕ). slice_index l (page_at + i)) (sym same) }

page_act : (e : Effect) (old new : Port) (before after : Memory) → is_effect e ≡ true → spares_page e ≡ true → Acts e old before new after → length before.structure ≡ 1048576 → SamePage before.structure after.structure
page_act (effect.Empties dev) old new before after is l h long =
    let below : dev < 16 = lt_of dev 16 is in
    subst (λ (m : Memory). SamePage before.structure m.structure) (sym h.1)
    (same_beside page_at 16 before.structure (4096 + 256 * dev) (replicate 256 0) 256 long (omega (arith, length-replicate {A = ℕ} 256 0)) (omega (arith, below)) (inr (omega (arith, below))))
page_act (effect.Commands slot fields buffer) old new before after is l h long =
    let below : slot < 32 = lt_of slot 32 is in
    let least : 30 < slot = lt_of 30 slot l in
    same_written page_at 16 slot fields (prds_with buffer) before.structure after.structure long below (few_prds buffer) (inr (omega (arith, below))) (inl (omega (arith, least))) h.1.structure
page_act other old new before after is l h long = same_page before.structure after.structure (ap (λ (m : Memory). m.structure) h.1) long

page_then : (a b c : List ℕ) → SamePage a b → SamePage b c → SamePage a c
page_then a b c h k = record { long = k.long; agree = λ i below. h.agree i below ∙ k.agree i below }

page_acts : (es : List Effect) (old new : Port) (before after : Memory) → list_all is_effect es ≡ true → list_all spares_page es ≡ true → ActsAll es old before new after → length before.structure ≡ 1048576
    → SamePage before.structure after.structure
unfolding ActsAll
page_acts [] old new before after is l h long = same_page before.structure after.structure (ap (λ (m : Memory). m.structure) h.1) long
page_acts (e ∷ es) old new before after is l h long =
    let effect_is = both (is_effect e) (list_all is_effect es) is in
    let spares_is = both (spares_page e) (list_all spares_page es) l in
    let first : SamePage before.structure h.1.structure = page_act e old h.0 before h.1 effect_is.0 spares_is.0 h.2 long in
    page_then before.structure h.1.structure after.structure first (page_acts es h.0 new h.1 after effect_is.1 spares_is.1 h.4 first.long)

-- only the act of slot 30 writes there
abbrev Elsewhere : Option Act → Type 0
Elsewhere (Some (act.Steps dev stage)) = ⊥
Elsewhere a = Unit {0}

spares_issuing : (slot dev : ℕ) (queued : Bool) → list_all spares_page (issuing Switching slot dev queued) ≡ true
spares_issuing slot dev queued = issuing_pass spares_page Switching slot dev queued (λ on. refl) refl refl

spares_due : (a : Option Act) → Elsewhere a → list_all spares_page (effects_due Switching a) ≡ true
unfolding effects_of
spares_due (Some (act.Opens k)) other = opens_pass spares_page Switching k refl refl
spares_due (Some (act.Restarts k)) other = restarts_pass spares_page Switching k refl refl
spares_due (Some (act.Orders order)) other = order_pass spares_page Switching order refl (λ port is. (refl, refl)) (λ f. refl) (spares_issuing 31 15 false)
spares_due (Some (act.Steps dev stage)) other = absurd other
spares_due (Some (act.Issues slot dev queued)) other = spares_issuing slot dev queued
spares_due rest other = refl

-- ---- the table as it is written

buffer_usable : (len : ℕ) → 1048576 ≤ len → total_if_usable len (buffer_prd ∷ []) ≡ Some 512
buffer_usable len long = by_end (nat_lt (1048576 + len) (1048576 + 512)) 512 (le-ltb (1048576 + len) (1048576 + 512) (omega (arith, long)))
  where
    by_end : (b : Bool) (n : ℕ) → b ≡ false → (if (((1048576 % 2 == 0) && (512 % 2 == 0) && not (nat_lt 1048576 1048576 || b)) && true) && not (false || false) then Some n else None) ≡ Some n
    by_end true n h = absurd (true≢false h)
    by_end false n h = refl

read_unrefused : (fault : Option PrdError) (total t : ℕ) → total_if_sound fault total ≡ Some t → fault ≡ None
read_unrefused None total t h = refl
read_unrefused (Some e) total t h = let bad : None ≡ Some t = h in cc

-- it can be read
abbrev pub IsPage : Memory → Type 0
IsPage memory = read_fault memory.structure (length memory.client) page_at 1 ≡ None

page_written : (dev : ℕ) (fields : H2dFields) (old new : Port) (before after : Memory) → IsHostMemory before → ActsAll (sending Switching 30 dev fields true) old before new after → IsPage after
unfolding ActsAll
page_written dev fields old new before after m acts =
    let client : length acts.1.client ≡ length before.client = ap (λ (c : List ℕ). length c) acts.2.1.client in
    let usable : total_if_usable (length acts.1.client) (buffer_prd ∷ []) ≡ Some 512 = buffer_usable (length acts.1.client) (omega (arith, client, m.client_least)) in
    let here : IsPage acts.1 = read_unrefused (read_fault acts.1.structure (length acts.1.client) page_at 1) _ 512 (acts.2.1.structure.total (length acts.1.client) ∙ usable) in
    subst IsPage (sym (acts.4.4.4.1 ∙ acts.4.4.2.1 ∙ acts.4.2.1)) here

page_stage : (dev : ℕ) (stage : Stage) (old new : Port) (before after : Memory) → reads_page stage ≡ true → IsHostMemory before → ActsAll (stage_effects Switching dev stage) old before new after → IsPage after
unfolding stage_fields
page_stage dev Identify old new before after reads m acts = page_written dev _ old new before after m acts
page_stage dev (ReadLog file) old new before after reads m acts = page_written dev _ old new before after m acts
page_stage dev other old new before after reads m acts = absurd (false≢true reads)

-- ---- over a turn

-- a table says the same in a memory with the same bytes there
page_kept : (old new : Memory) → length old.structure ≡ 1048576 → SamePage old.structure new.structure → length new.client ≡ length old.client → IsPage old → IsPage new
page_kept old new long same client is =
    let said = says_the_same (length old.client) page_at 1 old.structure new.structure same.agree (λ h. omega (arith, long, same.long, h), λ h. omega (arith, long, same.long, h)) in
    ap (λ (n : ℕ). read_fault new.structure n page_at 1) client ∙ sym said.refusal ∙ is

module _ (old : Host) (t : HostTurn) (new : Host) (h : Does old t new) (s : IsSoundHost old) where
  client_same : length new.memory.client ≡ length old.memory.client
  client_same = as_long old (t ∷ []) new (new, h, refl) s

  -- the memory of a turn that leaves the table
  left : SamePage old.memory.structure new.memory.structure → new.driver ≡ old.driver → HasPage old.driver old.memory → HasPage new.driver new.memory
  left same driver has path here out reads =
      page_kept old.memory new.memory s.memory.structure_len same client_same
      (has path (sym (ap (λ (d : Driver). d.plan.path) driver) ∙ here) out reads)

  same_as : new.memory.structure ≡ old.memory.structure → SamePage old.memory.structure new.memory.structure
  same_as same = same_page old.memory.structure new.memory.structure same s.memory.structure_len

took_page : (old new : Host) (frame : List ℕ) (report : TakeReport) → Does old (Took frame report) new → IsSoundHost old → IsSoundHost new → SamePage old.memory.structure new.memory.structure
took_page old new frame report h s n = elim (cases_Bool (ignores (port_of frame) old.port frame)) [
  | inl skip ↦ same_page old.memory.structure new.memory.structure (ap (λ (m : Memory). m.structure) (h.ignored skip).memory) s.memory.structure_len
  | inr heard ↦ record {
    long = n.memory.structure_len;
    agree = posted_beside page_at 16 old.port.registers.fb (row_for old.port (port_of frame)) (admitted (port_of frame) (seen_in frame)) old.memory.structure new.memory.structure
        ((sound_host old s).area (runs old.port frame heard)) (inr (omega arith)) (h.heard heard).structure;
  }
]

ticked_page : (old new : Host) (a : Option Act) → due (sight_in old) old.driver ≡ a → (acts : Bool) → Does old (Ticked acts) new → IsSoundHost old → HasPage old.driver old.memory
    → (path : Path) → (acted a (file_shown new.port) (seen (sight_in old) old.driver)).plan.path ≡ Some path → path.asked ≡ true → reads_page path.stage ≡ true → IsPage new.memory
unfolding plan_after effects_of
ticked_page old new (Some (act.Steps dev stage)) is acts h s has path here out reads =
    let same : record { dev = dev; stage = stage; asked = true } ≡ path = cc in
    page_stage dev stage old.port new.port old.memory new.memory (ap (λ (p : Path). reads_page p.stage) same ∙ reads) s.memory
    (subst (λ (x : Option Act). ActsAll (effects_due Switching x) old.port old.memory new.port new.memory) is (tick_acts old acts new h s))
ticked_page old new a is acts h s has path here out reads = other (acted_back a (file_shown new.port) (seen (sight_in old) old.driver) path here out)
  where
    other : Begins a path ⊎ ((seen (sight_in old) old.driver).plan.path ≡ Some path) → IsPage new.memory
    other (inl begins) = absurd begins
    other (inr there) =
        let was : old.driver.plan.path ≡ Some path = turn_back (sight_in old) old.driver.plan (done_ended (sight_in old).issued old.driver.entries) path there out in
        page_kept old.memory new.memory s.memory.structure_len
        (page_acts (effects_due Switching (due (sight_in old) old.driver)) old.port new.port old.memory new.memory (tick_possible old acts new h s) (ap (λ (x : Option Act). list_all spares_page (effects_due Switching x)) is ∙ spares_due a tt) (tick_acts old acts new h s) s.memory.structure_len)
        (client_same old (Ticked acts) new h s) (has path was out reads)

pub poll_plan : (d : Driver) → (after_poll d).plan ≡ d.plan
unfolding after_poll
poll_plan d = by_slot (lowest_ended d.entries)
  where
    by_slot : (o : Option ℕ) → (match_some o d (λ slot. record d { entries = slice_set d.entries slot None })).plan ≡ d.plan
    by_slot None = refl
    by_slot (Some slot) = refl

pub page_turn : (old : Host) (t : HostTurn) (new : Host) → Does old t new → IsSoundHost old → IsSoundHost new → HasPage old.driver old.memory → HasPage new.driver new.memory
unfolding after_tick
page_turn old (Took frame report) new h s n has = left old (Took frame report) new h s (took_page old new frame report h s n) h.driver has
page_turn old (Ticked acts) new h s n has = λ path here out reads.
    ticked_page old new (due (sight_in old) old.driver) refl acts h s has path (sym (ap (λ (d : Driver). d.plan.path) h.driver) ∙ here) out reads
page_turn old (Submitted dev request ticket) new h s n has = λ path here out reads.
    let slot : ℕ = next_slot old.driver in
    let below : slot < 30 = free_below old.driver old.memory dev request h.accepted in
    page_kept old.memory new.memory s.memory.structure_len
    (same_written page_at 16 slot _ request.prds.items old.memory.structure new.memory.structure s.memory.structure_len (omega (arith, below)) (is_taken old.driver old.memory dev request h.accepted).few
    (inr (omega (arith, below))) (inr (omega (arith, below))) h.taken.command)
    (client_same old (Submitted dev request ticket) new h s) (has path (sym (ap (λ (d : Driver). d.plan.path) h.taken.driver) ∙ here) out reads)
page_turn old (Polled c) new h s n has = λ path here out reads.
    page_kept old.memory new.memory s.memory.structure_len (same_as old (Polled c) new h s (ap (λ (m : Memory). m.structure) h.memory)) (client_same old (Polled c) new h s)
    (has path (sym (ap (λ (p : Plan). p.path) (poll_plan old.driver)) ∙ sym (ap (λ (d : Driver). d.plan.path) h.driver) ∙ here) out reads)
page_turn old other new h s n has = left old other new h s (same_as old other new h s (ap (λ (m : Memory). m.structure) h.memory)) h.driver has
