-- For `writes_are_accepted`. Each request that is not polled yet is a proper command in its slot, over every turn.
use Rattle.std.proofs.Common.{◌≡◌, ℕ, ◌+◌, ◌*◌, ◌/◌, ◌<◌, ◌≤◌, Bool, true, false, ◌&&◌, nat_lt, nat_le, List, [], ◌∷◌, length, refl, sym, ◌∙◌, ap, subst, inl, inr, arith, Some, None}
use Rattle.std.specs.{Prelude.{◌||◌, ◌==◌, ◌%◌, if◌then◌else◌, not}, List.{list_all, list_any}}
use Rattle.std.proofs.lemmas.{Bool.{false≢true, le-ltb, or_parts, true≢false}, Bool.Decides.nat_tests}
use Rattle.host_memory.specs.{Memory.Memory, Place.total_of, Reading.{AgreeFrom, have_overlap, prds_at, read_fault}, declared.table.Prd.Prd}
use Rattle.host_memory.proofs.Door.{agree_within, says_the_same}
use Rattle.hba_commands.specs.{Commands.{is_proper, total_at, total_if_sound}, Requests.{request_of, sectors, work_of}}
use Rattle.hba_commands.specs.Writing.{header_for, is_usable}
use Rattle.hba_laws.proofs.Door.{client_lens}
use Rattle.hba_driver.specs.{declared.{mode.Mode.Mode, request.Request.Request, request.Work.Work, slot.Phase.Phase}, Drivers.{Entry, rephased}}
use Rattle.hba_driver.specs.{Effects.table_of, Events.{IsSoundHostIn, events_over, shared_by}}
use Rattle.hba_driver.specs.{HostTurns.{Does, DoesAll, Host, HostTurn, Took, Submitted}, Orders.{is_flush, is_queued, request_fields, work_fields}}
use Rattle.hba_driver.specs.{Requests.is_bad_prd, Served.AreBounded, Submits.{end_of, new_entry, next_slot}, Between.{AreFit, Fresh, IsFit, IsTaken}}
use Rattle.hba_driver.specs.declared.request.Work.TheVariants as work
use Rattle.hba_driver.proofs.{requests.{ComeLemmas.comes_from, HistoryLemmas.free_below}, issued.ServedLemmas.device_there}
use Rattle.hba_driver.proofs.{events.SoundLemmas.sound_host, requests.StandLemmas.{agree_turn, in_slots, table_area}, calls.SubmitLemmas.is_taken}
use Rattle.hba_driver.proofs.events.TurnLemmas.{turns_are_events}

-- ---- the request of a slot is a proper command

pub fit_rephased : (phase : Phase) (s : ℕ) (e : Entry) (m : Memory) → IsFit s e m → IsFit s (rephased phase e) m
unfolding request_fields
fit_rephased phase s e m h = record { total = h.total; proper = h.proper }

-- ---- it stays one

total_same : (s n : ℕ) (m k : Memory) → length k.structure ≡ length m.structure → length k.client ≡ length m.client → AgreeFrom (table_of s) 4096 m.structure k.structure → n ≤ 248
    → total_at k.structure (length k.client) (table_of s) n ≡ total_at m.structure (length m.client) (table_of s) n
total_same s n m k long client agree few =
    let here : AgreeFrom (table_of s + 128) (16 * n) m.structure k.structure = agree_within (table_of s) 4096 128 (16 * n) m.structure k.structure agree (omega (arith, few)) in
    let same = says_the_same (length m.client) (table_of s + 128) n m.structure k.structure here (λ h. omega (arith, long, h), λ h. omega (arith, long, h)) in
    ap (λ (len : ℕ). total_at k.structure len (table_of s) n) client
    ∙ sym (ap (λ (prds : List Prd). total_if_sound (read_fault m.structure (length m.client) (table_of s + 128) n) (total_of prds)) same.entries
    ∙ ap (λ f. total_if_sound f (total_of (prds_at k.structure (table_of s + 128) n))) same.refusal)

-- ---- a request that is taken is a proper command

equal_is : (x y : ℕ) → x ≡ y → (x == y) ≡ true
equal_is x y h = grind (arith, nat_tests)

most_is : (x y : ℕ) → x ≤ y → nat_le x y ≡ true
most_is x y h = grind (arith, nat_tests)

equal_of : (x y : ℕ) → (x == y) ≡ true → x ≡ y
equal_of x y h = grind (arith, nat_tests)

not_false : (b : Bool) → not b ≡ false → b ≡ true
not_false true h = refl
not_false false h = absurd (true≢false h)

-- what the tests of an entry say
record Tested (a b end : ℕ) : Type 0 where
  pub even : a % 2 ≡ 0
  pub even_bytes : b % 2 ≡ 0
  pub low : 1048576 ≤ a
  pub high : a + b ≤ end

tested : (a b end : ℕ) → ((a % 2 == 1) || (b % 2 == 1) || (b == 0) || nat_lt 4194304 b || nat_lt a 1049088 || nat_lt end (a + b)) ≡ false → Tested a b end
tested a b end h = record { even = grind (arith, nat_tests); even_bytes = grind (arith, nat_tests); low = grind (arith, nat_tests); high = grind (arith, nat_tests) }

three : (a b c d : Bool) → a ≡ true → b ≡ true → c ≡ false → d ≡ false → (a && b && not (c || d)) ≡ true
three true true false false h k l m = refl
three true true false true h k l m = absurd (true≢false m)
three true true true d h k l m = absurd (true≢false l)
three true false c d h k l m = absurd (false≢true k)
three false b c d h k l m = absurd (false≢true h)

usable_one : (len : ℕ) (prd : Prd) → is_bad_prd (1048576 + len) prd ≡ false → is_usable len prd ≡ true
usable_one len prd h =
    let t : Tested prd.address prd.bytes (1048576 + len) = tested prd.address prd.bytes (1048576 + len) h in
    three (prd.address % 2 == 0) (prd.bytes % 2 == 0) (nat_lt prd.address 1048576) (nat_lt (1048576 + len) (prd.address + prd.bytes)) (equal_is (prd.address % 2) 0 t.even)
    (equal_is (prd.bytes % 2) 0 t.even_bytes) (le-ltb prd.address 1048576 t.low) (le-ltb (1048576 + len) (prd.address + prd.bytes) t.high)

usable_all : (len : ℕ) (prds : List Prd) → list_any (is_bad_prd (1048576 + len)) prds ≡ false → list_all (is_usable len) prds ≡ true
usable_all len [] h = refl
usable_all len (prd ∷ prds) h =
    let p = or_parts (is_bad_prd (1048576 + len) prd) (list_any (is_bad_prd (1048576 + len)) prds) h in
    ap (λ (b : Bool). b && list_all (is_usable len) prds) (usable_one len prd p.0) ∙ usable_all len prds p.1

if_usable : (a b : Bool) (n : ℕ) → a ≡ true → b ≡ false → (if a && not b then Some n else None) ≡ Some n
if_usable true false n h k = refl
if_usable true true n h k = absurd (true≢false k)
if_usable false b n h k = absurd (false≢true h)

-- without bytes there is no PRD
some_bytes : (a b end : ℕ) → ((a % 2 == 1) || (b % 2 == 1) || (b == 0) || nat_lt 4194304 b || nat_lt a 1049088 || nat_lt end (a + b)) ≡ false → 1 ≤ b
some_bytes a b end h = grind (arith, nat_tests)

no_bytes : (end : ℕ) (prds : List Prd) → list_any (is_bad_prd end) prds ≡ false → total_of prds ≡ 0 → length prds ≡ 0
no_bytes end [] h none = refl
no_bytes end (prd ∷ prds) h none =
    let some : 1 ≤ prd.bytes = some_bytes prd.address prd.bytes end (or_parts (is_bad_prd end prd) (list_any (is_bad_prd end) prds) h).0 in
    absurd (omega (arith, some, none))

-- the tests of a queued command
queue_test : (port tag low fits sum : Bool) → port ≡ true → tag ≡ true → low ≡ false → fits ≡ true → sum ≡ true → ((5 == 5) && port && (true && (true && tag && not low && not false && fits)) && sum) ≡ true
queue_test true true false true true h k l m n = refl
queue_test true true false true false h k l m n = absurd (false≢true n)
queue_test true true false false sum h k l m n = absurd (false≢true m)
queue_test true true true fits sum h k l m n = absurd (true≢false l)
queue_test true false low fits sum h k l m n = absurd (false≢true k)
queue_test false tag low fits sum h k l m n = absurd (false≢true h)

length_is : (n : ℕ) → 1 ≤ n → 512 * sectors n ≡ 512 * n
length_is n some = ap (λ (b : Bool). 512 * (if b then 65536 else n)) (nonzero n some)
  where
    nonzero : (k : ℕ) → 1 ≤ k → (k == 0) ≡ false
    nonzero k h = grind (arith, nat_tests)

tag_is : (slot : ℕ) → slot < 32 → (8 * slot % 256 / 8 == slot) ≡ true
tag_is slot below = equal_is (8 * slot % 256 / 8) slot (omega (arith, below))

low_port : (dev : ℕ) → dev < 15 → (dev % 16 == 15) ≡ false
low_port dev below = other (dev % 16) (omega (arith, below))
  where
    other : (k : ℕ) → k < 15 → (k == 15) ≡ false
    other k h = grind (arith, nat_tests)

proper_read : (slot dev lba n count total : ℕ) → slot < 32 → dev < 15 → 1 ≤ n → n ≤ 256 → total ≡ n * 512
    → is_proper (header_for (request_of (work_fields slot work.Read dev lba n)) (table_of slot) count) (request_of (work_fields slot work.Read dev lba n)) total slot true ≡ true
unfolding is_proper work_of
proper_read slot dev lba n count total below low some most is =
    let long : 512 * sectors n ≡ 512 * n = length_is n some in
    queue_test (dev % 16 == dev % 16) (8 * slot % 256 / 8 == slot) (dev % 16 == 15) (nat_le (512 * sectors n) 131072) (total == 512 * sectors n) (equal_is (dev % 16) (dev % 16) refl) (tag_is slot below)
    (low_port dev low) (most_is (512 * sectors n) 131072 (omega (arith, long, most))) (equal_is total (512 * sectors n) (omega (arith, long, is)))

proper_write : (slot dev lba n count total : ℕ) → slot < 32 → dev < 15 → 1 ≤ n → n ≤ 256 → total ≡ n * 512
    → is_proper (header_for (request_of (work_fields slot work.Write dev lba n)) (table_of slot) count) (request_of (work_fields slot work.Write dev lba n)) total slot true ≡ true
unfolding is_proper work_of
proper_write slot dev lba n count total below low some most is =
    let long : 512 * sectors n ≡ 512 * n = length_is n some in
    queue_test (dev % 16 == dev % 16) (8 * slot % 256 / 8 == slot) (dev % 16 == 15) (nat_le (512 * sectors n) 131072) (total == 512 * sectors n) (equal_is (dev % 16) (dev % 16) refl) (tag_is slot below)
    (low_port dev low) (most_is (512 * sectors n) 131072 (omega (arith, long, most))) (equal_is total (512 * sectors n) (omega (arith, long, is)))

flush_test : (port none sum : Bool) → port ≡ true → none ≡ true → sum ≡ true → ((5 == 5) && port && (not false && not false && not false && none) && sum) ≡ true
flush_test true true true h k l = refl
flush_test true true false h k l = absurd (false≢true l)
flush_test true false sum h k l = absurd (false≢true k)
flush_test false none sum h k l = absurd (false≢true h)

proper_flush : (slot dev lba n count total : ℕ) → count ≡ 0 → total ≡ 0
    → is_proper (header_for (request_of (work_fields slot work.Flush dev lba n)) (table_of slot) count) (request_of (work_fields slot work.Flush dev lba n)) total slot false ≡ true
unfolding is_proper work_of
proper_flush slot dev lba n count total none is =
    flush_test (dev % 16 == dev % 16) (count == 0) (total == 0) (equal_is (dev % 16) (dev % 16) refl) (equal_is count 0 none) (equal_is total 0 is)

counted : (n lba : ℕ) → ((n == 0) || nat_lt 256 n || nat_le 281474976710656 lba) ≡ false → (1 ≤ n) × (n ≤ 256)
counted n lba h = (grind (arith, nat_tests), grind (arith, nat_tests))

matched : (k total wanted : ℕ) → (nat_lt 248 k || not (total == wanted)) ≡ false → total ≡ wanted
matched k total wanted h = grind (arith, nat_tests)

proper_work : (slot dev lba n k total end : ℕ) (w : Work) (prds : List Prd) → slot < 32 → dev < 15 → k ≡ length prds → total ≡ total_of prds → list_any (is_bad_prd end) prds ≡ false
    → (if is_flush w then not (n == 0) else (n == 0) || nat_lt 256 n || nat_le 281474976710656 lba) ≡ false → total ≡ n * 512
    → is_proper (header_for (request_of (work_fields slot w dev lba n)) (table_of slot) k) (request_of (work_fields slot w dev lba n)) total slot (is_queued w) ≡ true
proper_work slot dev lba n k total end work.Read prds below low few sum good count is = let c = counted n lba count in proper_read slot dev lba n k total below low c.0 c.1 is
proper_work slot dev lba n k total end work.Write prds below low few sum good count is = let c = counted n lba count in proper_write slot dev lba n k total below low c.0 c.1 is
proper_work slot dev lba n k total end work.Flush prds below low few sum good count is =
    let zero : n ≡ 0 = equal_of n 0 (not_false (n == 0) count) in
    let none : total ≡ 0 = omega (arith, is, zero) in
    proper_flush slot dev lba n k total (few ∙ no_bytes end prds good (sym sum ∙ none)) none

module _ (old : Host) (dev : ℕ) (request : Request) (ticket : ℕ) (new : Host) (h : Does old (Submitted dev request ticket) new) (long : length old.driver.plan.devices ≡ 15) where
  shape : IsTaken old.driver old.memory request
  shape = is_taken old.driver old.memory dev request h.accepted

  client : length new.memory.client ≡ length old.memory.client
  client = ap (λ (c : List ℕ). length c) h.taken.client

  fit_fresh : IsFit (next_slot old.driver) (new_entry (old.driver.given + 1) dev request) new.memory
  unfolding request_fields
  fit_fresh =
      let s : ℕ = next_slot old.driver in
      let prds : List Prd = request.prds.items in
      let below : s < 30 = free_below old.driver old.memory dev request h.accepted in
      let low : dev < 15 = device_there old.driver old.memory dev request long h.accepted in
      let apart : have_overlap prds ≡ false = (or_parts (have_overlap prds) _ shape.apart).0 in
      let usable : list_all (is_usable (length new.memory.client)) prds ≡ true =
      usable_all (length new.memory.client) prds (ap (λ (n : ℕ). list_any (is_bad_prd (1048576 + n)) prds) client ∙ shape.good) in
      record {
        total = h.taken.command.total (length new.memory.client) ∙ if_usable (list_all (is_usable (length new.memory.client)) prds) (have_overlap prds) (total_of prds) usable apart;
        proper =
            proper_work s dev request.lba request.sectors (length prds) (total_of prds) (end_of old.memory) request.work prds (omega (arith, below)) low refl refl shape.good shape.counted
            (matched (length prds) (total_of prds) (request.sectors * 512) shape.matched);
      }

-- ---- over a turn

client_turn : {mode : Mode} (old : Host) (t : HostTurn) (new : Host) → Does old t new → IsSoundHostIn mode old → length new.memory.client ≡ length old.memory.client
client_turn old t new h sound =
    let one : DoesAll old (t ∷ []) new = (new, h, refl) in
    client_lens (shared_by old) (shared_by new) (events_over old new (t ∷ []) one) (turns_are_events _ old new (t ∷ []) one sound).runs

fit_fresh_at : (old : Host) (t : HostTurn) (new : Host) → Does old t new → length old.driver.plan.devices ≡ 15 → (s : ℕ) (f : Entry) → Fresh old.driver t s f → IsFit s f new.memory
fit_fresh_at old (Submitted dev request ticket) new h long s f is =
    let it : IsFit (next_slot old.driver) (new_entry (old.driver.given + 1) dev request) new.memory = fit_fresh old dev request ticket new h long in
    subst (λ (k : ℕ). IsFit k f new.memory) (sym is.0) (subst (λ (x : Entry). IsFit (next_slot old.driver) x new.memory) is.1 it)
fit_fresh_at old other new h long s f is = absurd is

pub fit_turn : {mode : Mode} (old : Host) (t : HostTurn) (new : Host) → Does old t new → IsSoundHostIn mode old → IsSoundHostIn mode new → AreBounded old.driver → AreFit old.driver old.memory → AreFit new.driver new.memory
fit_turn old t new h sound next bounded fit s f here = elim (comes_from old t new h s f here) [
  | inl stood ↦
      let e : Entry = stood.entry in
      let was : IsFit s e old.memory = fit s e stood.here in
      let below : s < 30 = in_slots old.driver.entries s e bounded.slots stood.here in
      let agree : AgreeFrom (table_of s) 4096 old.memory.structure new.memory.structure = agree_turn s (table_of s) 4096 (table_area s below) e old t new h (sound_host old sound) stood.here in
      let same = total_same s (length e.prds) old.memory new.memory (next.memory.structure_len ∙ sym sound.memory.structure_len) (client_turn old t new h sound) agree (bounded.entries s e stood.here).few in
      let now : IsFit s e new.memory = record { total = same ∙ was.total; proper = was.proper } in
      subst (λ (x : Entry). IsFit s x new.memory) (sym stood.on.same) (fit_rephased f.head.phase s e new.memory now)
  | inr fresh ↦ fit_fresh_at old t new h bounded.devices s f fresh
]
