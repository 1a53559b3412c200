-- What a proper command may ask for.
use Rattle.std.proofs.Common.{◌≡◌, ℕ, ◌+◌, ◌*◌, ◌%◌, ◌≤◌, ◌<◌, Bool, true, false, List, slice_index, Option, Some, None, arith, inl, inr, refl, sym}
use Rattle.std.proofs.{Common.{◌∙◌}, lemmas.Bool.{and_parts, not-true, leb-true, eqb-true, eqb-false, cases_Bool, cases_lt}}
use Rattle.std.specs.Prelude.{not, ◌&&◌, ◌||◌, ◌==◌, nat_le, if◌then◌else◌}
use Rattle.slots.specs.{Work.{IsWork, is_queued, needs_all}, declared.work.Kind.{Kind, TheVariants.{QueuedRead, QueuedWrite, DmaIn, DmaOut, PioIn}}}
use Rattle.slots.specs.declared.work.Kind.TheVariants.{PioOut, NoData, Control}
use Rattle.hba_commands.specs.{declared.{header.Header.Header, request.Request.Request}, Requests.{counted, few_sectors, is_page, is_smart_page}}
use Rattle.hba_commands.specs.{Requests.{is_wide, kind_of, length_of, request_at, request_in, sectors, tag_of, work_of}, Commands.{has_table, is_few}}
use Rattle.hba_commands.specs.{Commands.{is_proper, may_move, may_queue, suits, total_if_sound}, Writing.is_write}
use Rattle.host_memory.specs.declared.table.PrdError.{PrdError}

some_sectors : (features : ℕ) → 0 < sectors features
some_sectors features =
    elim (cases_Bool (features == 0)) [
      | inl none ↦ rw none (omega arith)
      | inr some ↦ rw some (elim (cases_lt 0 features) [ inl above ↦ above | inr none ↦ absurd (eqb-false features 0 some (omega arith)) ])
    ]

some_few : (count : ℕ) → 0 < few_sectors count
some_few count =
    elim (cases_Bool (count % 256 == 0)) [
      | inl none ↦ rw none (omega arith)
      | inr some ↦ rw some (elim (cases_lt 0 (count % 256)) [ inl above ↦ above | inr none ↦ absurd (eqb-false (count % 256) 0 some (omega arith)) ])
    ]

some_counted : (command count : ℕ) → 0 < counted command count
some_counted command count =
    elim (cases_Bool (is_wide command)) [
      | inl wide ↦ rw wide (some_sectors count)
      | inr few ↦ rw few (some_few count)
    ]

-- whole sectors
abbrev AreSectors : ℕ → Type 0
AreSectors len = (len % 4 ≡ 0) × (len ≤ 33554432) × (0 < len)

are_sectors : (n : ℕ) → 0 < n → 512 * n ≤ 131072 → AreSectors (512 * n)
are_sectors n some most = (omega arith, omega (arith, most), omega arith)

are_page : (b : Bool) (n : ℕ) → 0 < n → (if b then 512 else 512 * n) ≤ 131072 → AreSectors (if b then 512 else 512 * n)
are_page true n some most = (omega arith, omega arith, omega arith)
are_page false n some most = are_sectors n some most

-- a command of this kind moves data
abbrev moves : Kind → Bool
moves k = is_queued k || needs_all k

work_of_kind : (k : Kind) (request : Request) → (moves k ≡ true → length_of k request ≤ 131072) → IsWork (record { kind = k; len = length_of k request })
work_of_kind QueuedRead request h = are_sectors (sectors request.features) (some_sectors request.features) (h refl)
work_of_kind QueuedWrite request h = are_sectors (sectors request.features) (some_sectors request.features) (h refl)
work_of_kind DmaIn request h = are_sectors (counted request.command request.count) (some_counted request.command request.count) (h refl)
work_of_kind DmaOut request h = are_sectors (counted request.command request.count) (some_counted request.command request.count) (h refl)
work_of_kind PioIn request h = are_page (is_page request.command request.count || is_smart_page request.command request.features) (counted request.command request.count) (some_counted request.command request.count) (h refl)
work_of_kind PioOut request h = are_sectors (counted request.command request.count) (some_counted request.command request.count) (h refl)
work_of_kind NoData request h = (omega arith, omega arith, refl)
work_of_kind Control request h = (omega arith, omega arith, refl)

queued_most : (header : Header) (request : Request) (slot : ℕ) (armed : Bool) → may_queue header request slot armed ≡ true → (work_of request).len ≤ 131072
queued_most header request slot armed h =
    leb-true (work_of request).len 131072 (and_parts (armed && (tag_of request == slot) && not (header.pmp == 15) && not header.clear) (nat_le (work_of request).len 131072) h).1

moved_parts : (header : Header) (request : Request) (armed : Bool) → may_move header request armed ≡ true → (not armed ≡ true) × (is_few request ≡ true)
moved_parts header request armed h =
    let outer = and_parts (not armed && not header.clear && not (header.pmp == 15)) (is_few request) h in
    let inner = and_parts (not armed && not header.clear) (not (header.pmp == 15)) outer.0 in
    ((and_parts (not armed) (not header.clear) inner.0).0, outer.1)

few_most : (request : Request) → is_few request ≡ true → (work_of request).len ≤ 131072
few_most request h = leb-true (work_of request).len 131072 h

-- the parts of what a PIO data-in needs
page_parts : (header : Header) (request : Request) (armed : Bool) → (not header.write && not armed && not header.clear && is_few request) ≡ true
    → (not header.write ≡ true) × (not armed ≡ true) × (is_few request ≡ true)
page_parts header request armed h =
    let outer = and_parts (not header.write && not armed && not header.clear) (is_few request) h in
    let inner = and_parts (not header.write) (not armed) (and_parts (not header.write && not armed) (not header.clear) outer.0).0 in
    (inner.0, inner.1, outer.1)

suited_most : (k : Kind) (header : Header) (request : Request) (slot : ℕ) (armed : Bool) → suits k header request slot armed ≡ true → moves k ≡ true → (work_of request).len ≤ 131072
suited_most QueuedRead header request slot armed h q = queued_most header request slot armed (and_parts (not header.write) (may_queue header request slot armed) h).1
suited_most QueuedWrite header request slot armed h q = queued_most header request slot armed (and_parts header.write (may_queue header request slot armed) h).1
suited_most DmaIn header request slot armed h q = few_most request (moved_parts header request armed (and_parts (not header.write) (may_move header request armed) h).1).1
suited_most DmaOut header request slot armed h q = few_most request (moved_parts header request armed (and_parts header.write (may_move header request armed) h).1).1
suited_most PioIn header request slot armed h q = few_most request (page_parts header request armed h).2
suited_most PioOut header request slot armed h q = few_most request (moved_parts header request armed (and_parts header.write (may_move header request armed) h).1).1
suited_most NoData header request slot armed h q = cc
suited_most Control header request slot armed h q = cc

proper_suits : (header : Header) (request : Request) (total slot : ℕ) (armed : Bool) → is_proper header request total slot armed ≡ true → suits (kind_of request) header request slot armed ≡ true
unfolding is_proper
proper_suits header request total slot armed h =
    let first = (and_parts ((header.cfl == 5) && (header.pmp == request.pm_port) && suits (kind_of request) header request slot armed) (total == (work_of request).len) h).0 in
    (and_parts ((header.cfl == 5) && (header.pmp == request.pm_port)) (suits (kind_of request) header request slot armed) first).1

-- a proper command asks for what a slot may be issued for
pub proper_work : (header : Header) (request : Request) (total slot : ℕ) (armed : Bool) → is_proper header request total slot armed ≡ true → IsWork (work_of request)
unfolding work_of
proper_work header request total slot armed h =
    work_of_kind (kind_of request) request (suited_most (kind_of request) header request slot armed (proper_suits header request total slot armed h))

suited_write : (k : Kind) (header : Header) (request : Request) (slot : ℕ) (armed : Bool) → suits k header request slot armed ≡ true → header.write ≡ is_write k
suited_write QueuedRead header request slot armed h = not-true header.write (and_parts (not header.write) (may_queue header request slot armed) h).0
suited_write QueuedWrite header request slot armed h = (and_parts header.write (may_queue header request slot armed) h).0
suited_write DmaIn header request slot armed h = not-true header.write (and_parts (not header.write) (may_move header request armed) h).0
suited_write DmaOut header request slot armed h = (and_parts header.write (may_move header request armed) h).0
suited_write PioIn header request slot armed h = not-true header.write (page_parts header request armed h).0
suited_write PioOut header request slot armed h = (and_parts header.write (may_move header request armed) h).0
suited_write NoData header request slot armed h =
    not-true header.write (and_parts (not header.write) (not armed) (and_parts (not header.write && not armed) (not header.clear) (and_parts (not header.write && not armed && not header.clear) (header.prdtl == 0) h).0).0).0
suited_write Control header request slot armed h = not-true header.write (and_parts (not header.write) (not armed) (and_parts (not header.write && not armed) (header.prdtl == 0) h).0).0

-- its header has W as its direction is
pub proper_write : (header : Header) (request : Request) (total slot : ℕ) (armed : Bool) → is_proper header request total slot armed ≡ true → header.write ≡ is_write (work_of request).kind
unfolding work_of
proper_write header request total slot armed h = suited_write (kind_of request) header request slot armed (proper_suits header request total slot armed h)

-- and its PRDs have its bytes
pub proper_total : (header : Header) (request : Request) (total slot : ℕ) (armed : Bool) → is_proper header request total slot armed ≡ true → total ≡ (work_of request).len
unfolding is_proper
proper_total header request total slot armed h =
    eqb-true total (work_of request).len (and_parts ((header.cfl == 5) && (header.pmp == request.pm_port) && suits (kind_of request) header request slot armed) (total == (work_of request).len) h).1

-- what a total is of
pub sound_total : (fault : Option PrdError) (total found : ℕ) → Some found ≡ total_if_sound fault total → total ≡ found
sound_total None total found h = cc
sound_total (Some x) total found h = cc

-- the PM Ports of a proper command are one
pub proper_port : (header : Header) (request : Request) (total slot : ℕ) (armed : Bool) → is_proper header request total slot armed ≡ true → request.pm_port ≡ header.pmp
unfolding is_proper
proper_port header request total slot armed h =
    let most = (and_parts ((header.cfl == 5) && (header.pmp == request.pm_port) && suits (kind_of request) header request slot armed) (total == (work_of request).len) h).0 in
    let first = (and_parts ((header.cfl == 5) && (header.pmp == request.pm_port)) (suits (kind_of request) header request slot armed) most).0 in
    sym (eqb-true header.pmp request.pm_port (and_parts (header.cfl == 5) (header.pmp == request.pm_port) first).1)

queued_armed : (header : Header) (request : Request) (slot : ℕ) (armed : Bool) → may_queue header request slot armed ≡ true → true ≡ armed
queued_armed header request slot true h = refl
queued_armed header request slot false h = cc

suited_armed : (k : Kind) (header : Header) (request : Request) (slot : ℕ) (armed : Bool) → suits k header request slot armed ≡ true → is_queued k ≡ armed
suited_armed QueuedRead header request slot armed h = queued_armed header request slot armed (and_parts (not header.write) (may_queue header request slot armed) h).1
suited_armed QueuedWrite header request slot armed h = queued_armed header request slot armed (and_parts header.write (may_queue header request slot armed) h).1
suited_armed DmaIn header request slot armed h = sym (not-true armed (moved_parts header request armed (and_parts (not header.write) (may_move header request armed) h).1).0)
suited_armed DmaOut header request slot armed h = sym (not-true armed (moved_parts header request armed (and_parts header.write (may_move header request armed) h).1).0)
suited_armed PioIn header request slot armed h = sym (not-true armed (page_parts header request armed h).1)
suited_armed PioOut header request slot armed h = sym (not-true armed (moved_parts header request armed (and_parts header.write (may_move header request armed) h).1).0)
suited_armed NoData header request slot armed h =
    sym (not-true armed (and_parts (not header.write) (not armed) (and_parts (not header.write && not armed) (not header.clear) (and_parts (not header.write && not armed && not header.clear) (header.prdtl == 0) h).0).0).1)
suited_armed Control header request slot armed h = sym (not-true armed (and_parts (not header.write) (not armed) (and_parts (not header.write && not armed) (header.prdtl == 0) h).0).1)

-- it is queued where the slot's bit in PxSACT is set, and nowhere else
pub proper_armed : (header : Header) (request : Request) (total slot : ℕ) (armed : Bool) → is_proper header request total slot armed ≡ true → is_queued (work_of request).kind ≡ armed
unfolding work_of
proper_armed header request total slot armed h = suited_armed (kind_of request) header request slot armed (proper_suits header request total slot armed h)

queued_tag : (header : Header) (request : Request) (slot : ℕ) (armed : Bool) → may_queue header request slot armed ≡ true → tag_of request ≡ slot
queued_tag header request slot armed h =
    let few = (and_parts (armed && (tag_of request == slot) && not (header.pmp == 15) && not header.clear) (nat_le (work_of request).len 131072) h).0 in
    let three = (and_parts (armed && (tag_of request == slot) && not (header.pmp == 15)) (not header.clear) few).0 in
    let two = (and_parts (armed && (tag_of request == slot)) (not (header.pmp == 15)) three).0 in
    eqb-true (tag_of request) slot (and_parts armed (tag_of request == slot) two).1

suited_tag : (k : Kind) (header : Header) (request : Request) (slot : ℕ) (armed : Bool) → suits k header request slot armed ≡ true → is_queued k ≡ true → tag_of request ≡ slot
suited_tag QueuedRead header request slot armed h q = queued_tag header request slot armed (and_parts (not header.write) (may_queue header request slot armed) h).1
suited_tag QueuedWrite header request slot armed h q = queued_tag header request slot armed (and_parts header.write (may_queue header request slot armed) h).1
suited_tag DmaIn header request slot armed h q = cc
suited_tag DmaOut header request slot armed h q = cc
suited_tag PioIn header request slot armed h q = cc
suited_tag PioOut header request slot armed h q = cc
suited_tag NoData header request slot armed h q = cc
suited_tag Control header request slot armed h q = cc

-- and there its tag is the slot
pub proper_tag : (header : Header) (request : Request) (total slot : ℕ) (armed : Bool) → is_proper header request total slot armed ≡ true → armed ≡ true → tag_of request ≡ slot
unfolding work_of
proper_tag header request total slot armed h on =
    suited_tag (kind_of request) header request slot armed (proper_suits header request total slot armed h) (proper_armed header request total slot armed h ∙ on)

-- a table that has a place lies in the structure area
pub table_inside : (header : Header) → has_table header ≡ true → header.ctba + 128 + 16 * header.prdtl ≤ 1048576
table_inside header h =
    leb-true (header.ctba + 128 + 16 * header.prdtl) 1048576 (and_parts ((header.ctbau == 0) && (header.ctba % 128 == 0)) (nat_le (header.ctba + 128 + 16 * header.prdtl) 1048576) h).1

-- the request of a command FIS
pub request_is : (cfis : List ℕ) (request : Request) → Some request ≡ request_at cfis → request_in cfis ≡ request
request_is cfis request h =
    elim (cases_Bool (slice_index cfis 0 == 0x27)) [
      | inl type ↦ let is : Some request ≡ Some (request_in cfis) = h ∙ rw type refl in cc
      | inr other ↦ let none : Some request ≡ None = h ∙ rw other refl in cc
    ]
