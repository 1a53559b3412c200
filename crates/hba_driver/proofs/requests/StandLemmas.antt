-- For `commands_stand`. What a request has written into the structure area stays there.
use Rattle.std.proofs.Common.{◌≡◌, ◌≢◌, ℕ, ◌+◌, ◌-◌, ◌*◌, ◌<◌, ◌≤◌, Bool, true, false, ◌&&◌, nat_lt, nat_le, List, [], ◌∷◌, ◌++◌, length, take, drop, replicate, get_or, refl, sym, ◌∙◌, ap, subst, inl, inr, arith, Option, Some, None, length-append}
use Rattle.std.specs.{Prelude.{◌||◌, not, slice_index}, List.{list_all, list_any}}
use Rattle.std.proofs.lemmas.{Bool.{cases_Bool, cases_lt, false≢true, true≢false, or_parts}, Bool.Decides.nat_tests}
use Rattle.std.proofs.lemmas.List.{get_or_past, get_or-drop, get_or-take, length-replicate, length-take}
use Rattle.fis_view.specs.{Seen.seen, declared.{build.H2dFields.H2dFields, view.Fis.Fis}}
use Rattle.host_memory.specs.{Memory.{Memory, overwritten, zeros}, Reading.{AgreeFrom, LieApart}, Writing.table_bytes, declared.table.Prd.Prd}
use Rattle.host_memory.proofs.Door.{agree_beside, length-overwritten, length-table_bytes, length-zeros}
use Rattle.hba_commands.specs.{Commands.cfis_at, Headers.header_place, Requests.request_of}
use Rattle.hba_commands.specs.Writing.{IsWritten, command_table, header_bytes, header_for}
use Rattle.hba_commands.proofs.Door.{length-header_bytes}
use Rattle.hba_fbs.specs.{Posting.Posts, Taking.{PostsIn, admitted, ignores, is_running, port_of, row_for}, Views.Port}
use Rattle.hba_driver.specs.{declared.{effect.Effect.Effect, mode.Mode.Mode, turn.Act.Act}, Drivers.{AreRequests, Entry, entry_at}}
use Rattle.hba_driver.specs.Effects.{Acts, ActsAll, effects_of, is_effect, issuing, prds_with, table_of}
use Rattle.hba_driver.specs.HostTurns.{AreHosts, Does, DoesAll, Host, HostTurn, IsHost, Took, Ticked, Submitted, sight_in}
use Rattle.hba_driver.specs.{Laws.{CommandsStand, Stands, gives}, Paths.{reads_page, stage_fields}, Submits.next_slot}
use Rattle.hba_driver.specs.Ticks.{due, effects, effects_due}
use Rattle.hba_driver.specs.declared.effect.Effect.TheVariants as effect
use Rattle.hba_driver.specs.declared.turn.Act.TheVariants as act
use Rattle.hba_driver.proofs.calls.EffectLemmas.{issuing_pass, opens_pass, order_pass, restarts_pass, sending_pass}
use Rattle.hba_driver.proofs.{requests.HistoryLemmas.{free_below, free_other, lives_turn, none_gives, requests_turn}, modes.RowMode.heard_as}
use Rattle.hba_driver.proofs.calls.SubmitLemmas.{is_taken}

abbrev no_entry : Option Entry
no_entry = None

-- ---- areas that agree

-- both have their full length, and agree there
pub record Same (at count : ℕ) (old new : List ℕ) : Type 0 where
  pub long : length new ≡ 1048576
  pub agree : AgreeFrom at count old new

same_here : (at count : ℕ) (s : List ℕ) → length s ≡ 1048576 → Same at count s s
same_here at count s long = record { long = long; agree = λ i h. refl }

same_then : (at count : ℕ) (a b c : List ℕ) → Same at count a b → Same at count b c → Same at count a c
same_then at count a b c h k = record { long = k.long; agree = λ i below. h.agree i below ∙ k.agree i below }

pub same_beside : (at count : ℕ) (old : List ℕ) (place : ℕ) (bytes : List ℕ) (room : ℕ) → length old ≡ 1048576 → length bytes ≤ room → place + room ≤ 1048576 → LieApart at count place room
    → Same at count old (overwritten old place bytes)
same_beside at count old place bytes room long few fits apart = record {
  long = length-overwritten old place bytes (omega (arith, long)) ∙ long;
  agree = agree_beside old place bytes at count (omega (arith, long)) (elim apart [ inl before ↦ inl before | inr after ↦ inr (omega (arith, after)) ]);
}

-- ---- a command that is written

pub table_few : (cfis : List ℕ) (prds : List Prd) → length cfis ≤ 20 → length prds ≤ 248 → length (command_table cfis prds) ≤ 4096
unfolding command_table
table_few cfis prds short few =
    rw (length-append (cfis ++ zeros 108) (table_bytes prds), length-append cfis (zeros 108), length-zeros 108, length-table_bytes prds) (omega (arith, short, few))

pub same_written : (at count slot : ℕ) (fields : H2dFields) (prds : List Prd) (old new : List ℕ) → length old ≡ 1048576 → slot < 32 → length prds ≤ 248
    → LieApart at count (header_place 0 slot) 32 → LieApart at count (table_of slot) 4096 → IsWritten 0 slot (table_of slot) fields prds old new → Same at count old new
same_written at count slot fields prds old new long below few header table written =
    let hb : List ℕ = header_bytes (header_for (request_of fields) (table_of slot) (length prds)) in
    let ct : List ℕ = command_table (cfis_at new (table_of slot)) prds in
    let short : length (cfis_at new (table_of slot)) ≤ 20 = omega (arith, length-take 20 (drop (table_of slot) new)) in
    let first : Same at count old (overwritten old (header_place 0 slot) hb) =
    same_beside at count old (header_place 0 slot) hb 32 long (omega (arith, length-header_bytes (header_for (request_of fields) (table_of slot) (length prds)))) (omega arith) header in
    let second : Same at count (overwritten old (header_place 0 slot) hb) (overwritten (overwritten old (header_place 0 slot) hb) (table_of slot) ct) =
    same_beside at count (overwritten old (header_place 0 slot) hb) (table_of slot) ct 4096 first.long (table_few (cfis_at new (table_of slot)) prds short few) (omega arith) table in
    subst (λ (s : List ℕ). Same at count old s) (sym written.bytes) (same_then at count old _ _ first second)

-- ---- effects of the driver's own

-- apart from the received area, and from headers and tables of the slots 30 and 31
pub record IsOwn (at count : ℕ) : Type 0 where
  pub rows : LieApart at count 4096 4096
  pub headers : LieApart at count 960 64
  pub tables : LieApart at count 131072 8192

abbrev pub late : Effect → Bool
late (effect.Commands slot fields buffer) = nat_le 30 slot
late other = true

within : (at count place room from n : ℕ) → LieApart at count place room → place ≤ from → from + n ≤ place + room → LieApart at count from n
within at count place room from n (inl before) low high = inl (omega (arith, before, low))
within at count place room from n (inr after) low high = inr (omega (arith, after, high))

pub lt_of : (n m : ℕ) → nat_lt n m ≡ true → n < m
lt_of n m h = grind (arith, nat_tests)

le_of : (n m : ℕ) → nat_le n m ≡ true → n ≤ m
le_of n m h = grind (arith, nat_tests)

pub few_prds : (buffer : Bool) → length (prds_with buffer) ≤ 248
few_prds true = omega arith
few_prds false = omega arith

pub same_act : (at count : ℕ) → IsOwn at count → (e : Effect) (old new : Port) (before after : Memory) → is_effect e ≡ true → late e ≡ true → Acts e old before new after → length before.structure ≡ 1048576
    → Same at count before.structure after.structure
same_act at count own (effect.Empties dev) old new before after is l h long =
    let below : dev < 16 = lt_of dev 16 is in
    subst (λ (m : Memory). Same at count before.structure m.structure) (sym h.1)
    (same_beside at count before.structure (4096 + 256 * dev) (replicate 256 0) 256 long (omega (arith, length-replicate {A = ℕ} 256 0)) (omega (arith, below)) (within at count 4096 4096 (4096 + 256 * dev) 256 own.rows (omega arith) (omega (arith, below))))
same_act at count own (effect.Commands slot fields buffer) old new before after is l h long =
    let below : slot < 32 = lt_of slot 32 is in
    let least : 30 ≤ slot = le_of 30 slot l in
    same_written at count slot fields (prds_with buffer) before.structure after.structure long below (few_prds buffer)
    (within at count 960 64 (header_place 0 slot) 32 own.headers (omega (arith, least)) (omega (arith, below)))
    (within at count 131072 8192 (table_of slot) 4096 own.tables (omega (arith, least)) (omega (arith, below)))
    h.1.structure
same_act at count own other old new before after is l h long = subst (λ (m : Memory). Same at count before.structure m.structure) (sym h.1) (same_here at count before.structure long)

pub both : (a b : Bool) → (a && b) ≡ true → (a ≡ true) × (b ≡ true)
both true b h = (refl, h)
both false b h = absurd (false≢true h)

pub same_acts : (at count : ℕ) → IsOwn at count → (es : List Effect) (old new : Port) (before after : Memory) → list_all is_effect es ≡ true → list_all late es ≡ true → ActsAll es old before new after
    → length before.structure ≡ 1048576 → Same at count before.structure after.structure
unfolding ActsAll
same_acts at count own [] old new before after is l h long = subst (λ (m : Memory). Same at count before.structure m.structure) (sym h.1) (same_here at count before.structure long)
same_acts at count own (e ∷ es) old new before after is l h long =
    let effect_is = both (is_effect e) (list_all is_effect es) is in
    let late_is = both (late e) (list_all late es) l in
    let first : Same at count before.structure h.1.structure = same_act at count own e old h.0 before h.1 effect_is.0 late_is.0 h.2 long in
    same_then at count before.structure h.1.structure after.structure first (same_acts at count own es h.0 new h.1 after effect_is.1 late_is.1 h.4 first.long)

-- each act writes commands only into the slots 30 and 31
late_issuing : (mode : Mode) (slot dev : ℕ) (queued : Bool) → list_all late (issuing mode slot dev queued) ≡ true
late_issuing mode slot dev queued = issuing_pass late mode slot dev queued (λ on. refl) refl refl

pub late_act : (mode : Mode) (a : Option Act) → list_all late (effects_due mode a) ≡ true
unfolding effects_of
late_act mode (Some (act.Opens k)) = opens_pass late mode k refl refl
late_act mode (Some (act.Restarts k)) = restarts_pass late mode k refl refl
late_act mode (Some (act.Orders order)) = order_pass late mode order refl (λ port is. (refl, refl)) (λ f. refl) (late_issuing mode 31 15 false)
late_act mode (Some (act.Steps dev stage)) = sending_pass late mode 30 dev (stage_fields dev stage) (reads_page stage) (λ f. refl) (late_issuing mode 30 dev false)
late_act mode (Some (act.Issues slot dev queued)) = late_issuing mode slot dev queued
late_act mode other = refl

-- ---- posted FISes

beside_rows : (at count : ℕ) (old new : List ℕ) → LieApart at count 4096 4096 → take 4096 new ≡ take 4096 old → drop 8192 new ≡ drop 8192 old → AgreeFrom at count old new
beside_rows at count old new (inl before) low high i h =
    let below : at + i < 4096 = omega (arith, before, h) in
    sym (get_or-take 4096 old (at + i) 0 below) ∙ ap (λ (l : List ℕ). get_or l (at + i) 0) (sym low) ∙ get_or-take 4096 new (at + i) 0 below
beside_rows at count old new (inr after) low high i h =
    let k : ℕ = at + i - 8192 in
    let e : 8192 + k ≡ at + i = omega (arith, after) in
    let there : get_or old (8192 + k) 0 ≡ get_or new (8192 + k) 0 = sym (get_or-drop 8192 old k 0) ∙ ap (λ (l : List ℕ). get_or l k 0) (sym high) ∙ get_or-drop 8192 new k 0 in
    subst (λ (n : ℕ). get_or old n 0 ≡ get_or new n 0) e there

pub posted_beside : (at count fb : ℕ) (row : Option ℕ) (fis : Option Fis) (old new : List ℕ) → fb ≡ 4096 → LieApart at count 4096 4096 → PostsIn fb row fis old new → AgreeFrom at count old new
posted_beside at count fb None fis old new is apart h i below = ap (λ (l : List ℕ). slice_index l (at + i)) (sym h)
posted_beside at count fb (Some dev) None old new is apart h i below = ap (λ (l : List ℕ). slice_index l (at + i)) (sym h)
posted_beside at count fb (Some dev) (Some fis) old new is apart h i below =
    let posts : Posts 4096 dev fis old new = subst (λ (n : ℕ). Posts n dev fis old new) is h in
    beside_rows at count old new apart posts.before posts.behind i below

and_first : (a b : Bool) → (a && b) ≡ true → a ≡ true
and_first true b h = refl
and_first false b h = absurd (false≢true h)

not_or_or : (a b c : Bool) → ((not a || b) || c) ≡ false → a ≡ true
not_or_or true b c h = refl
not_or_or false b c h = absurd (true≢false h)

pub runs : (port : Port) (frame : List ℕ) → ignores (port_of frame) port frame ≡ false → port.registers.started ≡ true
runs port frame h = and_first port.registers.started _ (not_or_or (is_running port) _ _ (heard_as (port_of frame) port frame h))

-- ---- one turn

-- an area of a request: apart from what the driver writes of its own, and from the commands of other slots
pub record IsArea (s at count : ℕ) : Type 0 where
  pub own : IsOwn at count
  pub header : (n : ℕ) → n < 30 → n ≢ s → LieApart at count (header_place 0 n) 32
  pub table : (n : ℕ) → n < 30 → n ≢ s → LieApart at count (table_of n) 4096

pub same_memory : (at count : ℕ) (old new : Memory) → new.structure ≡ old.structure → AgreeFrom at count old.structure new.structure
same_memory at count old new is i h = ap (λ (l : List ℕ). slice_index l (at + i)) (sym is)

pub agree_took : (s at count : ℕ) → IsArea s at count → (old new : Host) (frame : List ℕ) (report : Rattle.hba_fbs.specs.declared.report.TakeReport.TakeReport) → Does old (Took frame report) new → IsHost old
    → AgreeFrom at count old.memory.structure new.memory.structure
agree_took s at count area old new frame report h host = elim (cases_Bool (ignores (port_of frame) old.port frame)) [
  | inl skip ↦ same_memory at count old.memory new.memory (ap (λ (m : Memory). m.structure) (h.ignored skip).memory)
  | inr heard ↦
      posted_beside at count old.port.registers.fb (row_for old.port (port_of frame)) (admitted (port_of frame) (seen frame)) old.memory.structure new.memory.structure (host.area (runs old.port frame heard)) area.own.rows (h.heard heard).structure
]

pub agree_turn : (s at count : ℕ) → IsArea s at count → (e : Entry) (old : Host) (t : HostTurn) (new : Host) → Does old t new → IsHost old → entry_at old.driver.entries s ≡ Some e
    → AgreeFrom at count old.memory.structure new.memory.structure
agree_turn s at count area e old (Took frame report) new h host here = agree_took s at count area old new frame report h host
agree_turn s at count area e old (Ticked a) new h host here =
    (same_acts at count area.own (effects (sight_in old) old.driver) old.port new.port old.memory new.memory h.possible (late_act old.driver.plan.mode (due (sight_in old) old.driver)) h.does host.memory.structure_len).agree
agree_turn s at count area e old (Submitted dev request ticket) new h host here =
    let n : ℕ = next_slot old.driver in
    let below : n < 30 = free_below old.driver old.memory dev request h.accepted in
    let other : n ≢ s = λ same. free_other old.driver old.memory dev request h.accepted s e here (sym same) in
    (same_written at count n _ request.prds.items old.memory.structure new.memory.structure host.memory.structure_len (omega (arith, below)) (is_taken old.driver old.memory dev request h.accepted).few
    (area.header n below other) (area.table n below other) h.taken.command).agree
agree_turn s at count area e old rest new h host here = same_memory at count old.memory new.memory (ap (λ (m : Memory). m.structure) h.memory)

-- ---- the areas of a slot

pub header_area : (s : ℕ) → s < 30 → IsArea s (header_place 0 s) 32
header_area s below = record {
  own = record { rows = inl (omega (arith, below)); headers = inl (omega (arith, below)); tables = inl (omega (arith, below)) };
  header = λ n in_range other. elim (cases_lt s n) [ inl less ↦ inl (omega (arith, less)) | inr more ↦ inr (omega (arith, more, other)) ];
  table = λ n in_range other. inl (omega (arith, below));
}

pub table_area : (s : ℕ) → s < 30 → IsArea s (table_of s) 4096
table_area s below = record {
  own = record { rows = inr (omega arith); headers = inr (omega arith); tables = inl (omega (arith, below)) };
  header = λ n in_range other. inr (omega (arith, in_range));
  table = λ n in_range other. elim (cases_lt s n) [ inl less ↦ inl (omega (arith, less)) | inr more ↦ inr (omega (arith, more, other)) ];
}

pub in_slots : (entries : List (Option Entry)) (s : ℕ) (e : Entry) → length entries ≡ 30 → entry_at entries s ≡ Some e → s < 30
in_slots entries s e long here = elim (cases_lt s (length entries)) [
  | inl below ↦ omega (arith, below, long)
  | inr past ↦ absurd (none_some (sym (get_or_past entries s None past) ∙ here))
]
  where
    none_some : no_entry ≡ Some e → ⊥
    none_some h = cc

-- ---- all turns

stands_over : (turns : List HostTurn) (old new : Host) (run : DoesAll old turns new) → AreHosts old new turns run → AreRequests old.driver.given old.driver.entries → (s : ℕ) (e : Entry)
    → entry_at old.driver.entries s ≡ Some e → list_any (gives s e) turns ≡ false → Stands s old.memory new.memory
stands_over [] old new run hosts r s e here none =
    subst (λ (h : Host). Stands s old.memory h.memory) (sym run) (record { header = λ i below. refl; table = λ i below. refl })
stands_over (t ∷ turns) old new run hosts r s e here none =
    let below : s < 30 = in_slots old.driver.entries s e r.slots here in
    let parts = or_parts (gives s e t) (list_any (gives s e) turns) none in
    elim (lives_turn old t run.0 run.1 s e here) [
      | inr given ↦ absurd (true≢false (sym given ∙ parts.0))
      | inl kept ↦
          let later : Stands s run.0.memory new.memory =
          stands_over turns run.0 new run.2 hosts.1 (requests_turn old t run.0 run.1 r) s kept.entry kept.is (none_gives s e kept.entry kept.on turns parts.1) in
          record {
            header = λ i h. agree_turn s (header_place 0 s) 32 (header_area s below) e old t run.0 run.1 hosts.0 here i h ∙ later.header i h;
            table = λ i h. agree_turn s (table_of s) 4096 (table_area s below) e old t run.0 run.1 hosts.0 here i h ∙ later.table i h;
          }
    ]

pub commands_stand : CommandsStand
commands_stand old turns new run hosts r s e here none = stands_over turns old new run hosts r s e here none
