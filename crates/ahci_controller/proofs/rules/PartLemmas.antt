-- The rules of a controller's parts stay true as one of these changes.
use Rattle.std.proofs.Common.{◌≡◌, ◌≢◌, ℕ, ◌+◌, ◌-◌, ◌<◌, ◌≤◌, ◌^◌, min, Bool, true, false, List, get_or, set, length, map, replicate, refl, sym, ap}
use Rattle.std.proofs.Common.{subst, ◌∙◌, inl, inr, Option, Some, None, arith, bit_or, get_or-set_same, get_or-set_other, length-set}
use Rattle.std.proofs.lemmas.{Bool.{cases_Bool, cases_eq, cases_lt, false≢true, true≢false}, List.{get_or-map, get_or-replicate, get_or_past}}
use Rattle.std.proofs.lemmas.List.{length-replicate, length-map}
use Rattle.std.specs.{Prelude.{IfSome, MatchOption, is_some, if◌then◌else◌}, List.range_with_len, Option.option_or}
use Rattle.slots.specs.Slots.{KeepsFree, has_bit, issue_at}
use Rattle.guest_fetch.specs.{Commands.Fetched, Fetch.Fetching}
use Rattle.hba_commands.specs.declared.command.Command.{Command}
use Rattle.hba_fbs.specs.{Bits.without, Views.{Port, last_command}}
use Rattle.ahci_controller.specs.{Fetching.{asked, next_number}, Next.fed, Outbox.without_wants, Rules.{AreCounted, AreParts, IsCarried, IsOffered}}
use Rattle.ahci_controller.specs.{Rules.IsUnread, declared.wants.{Carried.Carried, Wants.Wants}}
use Rattle.ahci_controller.proofs.rules.BitLemmas as bits

abbrev no_fetch : Option Fetching
no_fetch = None

abbrev no_command : Option Fetched
no_command = None

module _ (core : Port) (wants : Wants) (fetches : List (Option Fetching)) (commands : List (Option Fetched)) (payload : Option Carried) (starts : Bool) (was : AreParts core wants fetches commands payload starts) where
  -- ---- the core

  pub restarts : (new : Port) (next : Bool) → new.commands ≡ core.commands → KeepsFree core.slots new.slots → (new.registers.started ≡ false → next ≡ false → wants.pending ≡ 0) → AreParts new wants fetches commands payload next
  restarts new next same frees stops = record {
    long = was.long;
    kept = λ slot. subst (λ (l : List (Option Command)). IsOffered (last_command l slot) (get_or commands slot None)) (sym same) (was.kept slot);
    unread = was.unread;
    free = λ slot below pending. frees slot (was.free slot below pending);
    stopped = stops;
    counted = was.counted;
    carried = was.carried;
  }

  pub core_moves : (new : Port) → new.commands ≡ core.commands → KeepsFree core.slots new.slots → (new.registers.started ≡ false → starts ≡ false → wants.pending ≡ 0) → AreParts new wants fetches commands payload starts
  core_moves new same frees stops = restarts new starts same frees stops

  -- ---- what is to be written

  pub payload_is : (next : Option Carried) → IfSome next (IsCarried wants commands) → AreParts core wants fetches commands next starts
  payload_is next carried = record {
    long = was.long;
    kept = was.kept;
    unread = was.unread;
    free = was.free;
    stopped = was.stopped;
    counted = was.counted;
    carried = carried;
  }

  -- ---- numbers

  renumbered : (next : Wants) → next.pending ≡ wants.pending → next.out ≡ wants.out → AreCounted next → AreParts core next fetches commands payload starts
  renumbered next pending out counted = record {
    long = was.long;
    kept = was.kept;
    unread = λ slot below none.
        let old : IsUnread wants fetches slot = was.unread slot below (ap (λ (n : ℕ). has_bit n slot) (sym pending) ∙ none) in
        record { fetch = old.fetch; out = ap (λ (n : ℕ). has_bit n slot) out ∙ old.out };
    free = λ slot below here. was.free slot below (ap (λ (n : ℕ). has_bit n slot) (sym pending) ∙ here);
    stopped = λ e f. pending ∙ was.stopped e f;
    counted = counted;
    carried = moved payload was.carried;
  }
    where
      moved : (p : Option Carried) → IfSome p (IsCarried wants commands) → IfSome p (IsCarried next commands)
      moved None h = tt
      moved (Some w) h = record { slot = h.slot; kept = h.kept; out = ap (λ (n : ℕ). has_bit n w.slot) out ∙ h.out }

  set_most : (xs : List ℕ) (i s n m : ℕ) → get_or xs s 0 ≤ m → n ≤ m → get_or (set xs i n) s 0 ≤ m
  set_most xs i s n m old new = elim (cases_eq s i) [
    | inr ne ↦ subst (λ (k : ℕ). k ≤ m) (sym (get_or-set_other xs i s n 0 ne)) old
    | inl same ↦ elim (cases_lt i (length xs)) [
      | inl lt ↦ subst (λ (k : ℕ). k ≤ m) (sym (ap (λ (k : ℕ). get_or (set xs i n) k 0) same ∙ get_or-set_same xs i n 0 lt)) new
      | inr ge ↦ subst (λ (k : ℕ). k ≤ m) (sym (ap (λ (k : ℕ). get_or (set xs i n) k 0) same ∙ get_or_past (set xs i n) i 0 (rw (length-set xs i n) ge))) (omega arith)
    ]
  ]

  more : wants.count ≤ next_number wants
  more = let most = was.counted.most in omega (arith, most)

  most_next : next_number wants ≤ 18446744073709551615
  most_next = omega arith

  pub feeds : (dev : ℕ) → AreParts core (fed wants dev) fetches commands payload starts
  feeds dev = renumbered (fed wants dev) refl refl (record {
    slots = λ slot. let old = was.counted.slots slot in let up = more in omega (arith, old, up);
    devices = λ d. let old = was.counted.devices d in let up = more in set_most wants.devices dev d (next_number wants) (next_number wants) (omega (arith, old, up)) (omega arith);
    most = most_next;
  })

  pub feeding_is : (mask : ℕ) → AreParts core (record wants { feeding = mask }) fetches commands payload starts
  feeding_is mask = renumbered (record wants { feeding = mask }) refl refl (record { slots = was.counted.slots; devices = was.counted.devices; most = was.counted.most })

  -- ---- reading

  not_slot : (slot s : ℕ) → has_bit wants.pending slot ≡ true → has_bit wants.pending s ≡ false → s ≢ slot
  not_slot slot s here none = λ same. true≢false (sym here ∙ ap (has_bit wants.pending) (sym same) ∙ none)

  pub asks : (slot : ℕ) → has_bit wants.pending slot ≡ true → AreParts core (asked wants slot) fetches commands None starts
  asks slot here = record {
    long = was.long;
    kept = was.kept;
    unread = λ s below none.
        let old : IsUnread wants fetches s = was.unread s below none in
        record { fetch = old.fetch; out = bits.or_none wants.out (2 ^ slot) s old.out (bits.pow_other slot s (not_slot slot s here none)) };
    free = was.free;
    stopped = was.stopped;
    counted = record {
      slots = λ s. let old = was.counted.slots s in let up = more in set_most wants.slots slot s (next_number wants) (next_number wants) (omega (arith, old, up)) (omega arith);
      devices = λ d. let old = was.counted.devices d in let up = more in omega (arith, old, up);
      most = most_next;
    };
    carried = tt;
  }

  pub fetch_gone : (slot : ℕ) → get_or (set fetches slot None) slot None ≡ None
  fetch_gone slot = elim (cases_lt slot (length fetches)) [
    | inl lt ↦ get_or-set_same fetches slot None None lt
    | inr ge ↦ get_or_past (set fetches slot None) slot None (rw (length-set fetches slot no_fetch) ge)
  ]

  none_set_none : (slot s : ℕ) → get_or fetches s None ≡ None → get_or (set fetches slot None) s None ≡ None
  none_set_none slot s old = elim (cases_eq s slot) [
    | inr ne ↦ get_or-set_other fetches slot s None None ne ∙ old
    | inl same ↦ ap (λ (k : ℕ). get_or (set fetches slot None) k None) same ∙ fetch_gone slot
  ]

  abbrev pub heard : ℕ → Wants
  heard slot = record wants { out = without wants.out (2 ^ slot) }

  quieter : (slot : ℕ) (p : Option Carried) → IfSome p (IsCarried wants commands) → IfSome p (IsCarried (heard slot) commands)
  quieter slot None h = tt
  quieter slot (Some w) h = record { slot = h.slot; kept = h.kept; out = bits.left_none wants.out (2 ^ slot) w.slot h.out }

  -- an answer came, and what had come of the command is taken out
  pub answers : (slot : ℕ) → AreParts core (heard slot) (set fetches slot None) commands payload starts
  answers slot = record {
    long = was.long;
    kept = was.kept;
    unread = λ s below none.
        let old : IsUnread wants fetches s = was.unread s below none in
        record { fetch = none_set_none slot s old.fetch; out = bits.left_none wants.out (2 ^ slot) s old.out };
    free = was.free;
    stopped = was.stopped;
    counted = record { slots = was.counted.slots; devices = was.counted.devices; most = was.counted.most };
    carried = quieter slot payload was.carried;
  }

  pub fetches_on : (slot : ℕ) (f : Fetching) → has_bit wants.pending slot ≡ true → AreParts core wants (set fetches slot (Some f)) commands payload starts
  fetches_on slot f here = record {
    long = was.long;
    kept = was.kept;
    unread = λ s below none.
        let old : IsUnread wants fetches s = was.unread s below none in
        record { fetch = get_or-set_other fetches slot s (Some f) None (not_slot slot s here none) ∙ old.fetch; out = old.out };
    free = was.free;
    stopped = was.stopped;
    counted = was.counted;
    carried = was.carried;
  }

  -- ---- a slot is pending no more

  abbrev pub settled : ℕ → Wants
  settled slot = record wants { pending = without wants.pending (2 ^ slot) }

  no_longer : (slot : ℕ) → slot < 32 → IsUnread wants fetches slot → (s : ℕ) → s < 32 → has_bit (settled slot).pending s ≡ false → IsUnread (settled slot) fetches s
  no_longer slot below unread s lt none = elim (cases_eq s slot) [
    | inl same ↦ subst (λ (k : ℕ). IsUnread (settled slot) fetches k) (sym same) (record { fetch = unread.fetch; out = unread.out })
    | inr ne ↦
        let old : IsUnread wants fetches s = was.unread s lt (bits.other_stays wants.pending slot s below lt ne none) in
        record { fetch = old.fetch; out = old.out }
  ]

  none_pending : (slot : ℕ) → wants.pending ≡ 0 → (settled slot).pending ≡ 0
  none_pending slot none = ap (λ (n : ℕ). without n (2 ^ slot)) none ∙ bits.none_left (2 ^ slot)

  same_out : (slot : ℕ) (p : Option Carried) → IfSome p (IsCarried wants commands) → IfSome p (IsCarried (settled slot) commands)
  same_out slot None h = tt
  same_out slot (Some w) h = record { slot = h.slot; kept = h.kept; out = h.out }

  pub refuses : (slot : ℕ) → slot < 32 → IsUnread wants fetches slot → AreParts core (settled slot) fetches commands payload starts
  refuses slot below unread = record {
    long = was.long;
    kept = was.kept;
    unread = no_longer slot below unread;
    free = λ s lt here. was.free s lt (bits.left_was wants.pending (2 ^ slot) s here);
    stopped = λ e f. none_pending slot (was.stopped e f);
    counted = record { slots = was.counted.slots; devices = was.counted.devices; most = was.counted.most };
    carried = same_out slot payload was.carried;
  }

  -- a command that is kept now
  still_kept : (slot s : ℕ) (f : Fetched) → slot < 32 → is_some (get_or commands s None) ≡ true → is_some (get_or (set commands slot (Some f)) s None) ≡ true
  still_kept slot s f below some = elim (cases_eq s slot) [
    | inl same ↦ ap (λ (k : ℕ). is_some (get_or (set commands slot (Some f)) k None)) same ∙ ap is_some (get_or-set_same commands slot (Some f) None (rw was.long below))
    | inr ne ↦ ap is_some (get_or-set_other commands slot s (Some f) None ne) ∙ some
  ]

  kept_out : (slot : ℕ) (f : Fetched) (p : Option Carried) → slot < 32 → IfSome p (IsCarried wants commands) → IfSome p (IsCarried (settled slot) (set commands slot (Some f)))
  kept_out slot f None below h = tt
  kept_out slot f (Some w) below h = record { slot = h.slot; kept = still_kept slot w.slot f below h.kept; out = h.out }

  pub places : (new : Port) (slot : ℕ) (f : Fetched) → slot < 32 → IsUnread wants fetches slot
      → ((s : ℕ) → IsOffered (last_command new.commands s) (get_or (set commands slot (Some f)) s None))
      → ((s : ℕ) → s ≢ slot → issue_at core.slots s ≡ None → issue_at new.slots s ≡ None)
      → (new.registers.started ≡ false → core.registers.started ≡ false)
      → AreParts new (settled slot) fetches (set commands slot (Some f)) payload starts
  places new slot f below unread offered frees stops = record {
    long = length-set commands slot (Some f) ∙ was.long;
    kept = offered;
    unread = no_longer slot below unread;
    free = λ s lt here.
        let ne : s ≢ slot = λ same. false≢true (sym (bits.slot_taken wants.pending slot below) ∙ ap (has_bit (settled slot).pending) (sym same) ∙ here) in
        frees s ne (was.free s lt (bits.left_was wants.pending (2 ^ slot) s here));
    stopped = λ e f. none_pending slot (was.stopped (stops e) f);
    counted = record { slots = was.counted.slots; devices = was.counted.devices; most = was.counted.most };
    carried = kept_out slot f payload below was.carried;
  }

  -- ---- all is dropped

  no_bit : (slot : ℕ) → has_bit 0 slot ≡ true → ⊥
  no_bit slot h = false≢true (sym (bits.none_set slot) ∙ h)

  nothing_fetched : (slot : ℕ) → get_or (replicate 32 no_fetch) slot None ≡ None
  nothing_fetched slot = elim (cases_lt slot 32) [
    | inl lt ↦ get_or-replicate 32 slot no_fetch None lt
    | inr ge ↦ get_or_past (replicate 32 no_fetch) slot None (let long = length-replicate 32 no_fetch in omega (arith, long, ge))
  ]

  pub drops : (new : Port) (next : Bool) → ((s : ℕ) → IsOffered (last_command new.commands s) (get_or commands s None)) → AreParts new (without_wants wants) (replicate 32 None) commands None next
  drops new next offered = record {
    long = was.long;
    kept = offered;
    unread = λ slot below none. record { fetch = nothing_fetched slot; out = bits.none_set slot };
    free = λ slot below here. absurd (no_bit slot here);
    stopped = λ e f. refl;
    counted = record { slots = was.counted.slots; devices = was.counted.devices; most = was.counted.most };
    carried = tt;
  }

  -- ---- more slots are pending

  pub pends : (fresh : ℕ) → starts ≡ true → ((s : ℕ) → s < 32 → has_bit fresh s ≡ true → issue_at core.slots s ≡ None) → AreParts core (record wants { pending = bit_or wants.pending fresh }) fetches commands payload starts
  pends fresh runs frees = record {
    long = was.long;
    kept = was.kept;
    unread = λ slot below none.
        let old : IsUnread wants fetches slot = was.unread slot below (bits.or_rest wants.pending fresh slot none) in
        record { fetch = old.fetch; out = old.out };
    free = λ slot below here. elim (cases_Bool (has_bit wants.pending slot)) [
      | inl pending ↦ was.free slot below pending
      | inr none ↦ frees slot below (bits.or_other wants.pending fresh slot here none)
    ];
    stopped = λ e f. absurd (false≢true (sym f ∙ runs));
    counted = record { slots = was.counted.slots; devices = was.counted.devices; most = was.counted.most };
    carried = same payload was.carried;
  }
    where
      same : (p : Option Carried) → IfSome p (IsCarried wants commands) → IfSome p (IsCarried (record wants { pending = bit_or wants.pending fresh }) commands)
      same None h = tt
      same (Some w) h = record { slot = h.slot; kept = h.kept; out = h.out }

  -- ---- bytes of a command were moved

  pub counts : (slot : ℕ) (f : Fetched) (next : Option Carried) → slot < 32 → ((k : Option Command) → IsOffered k (get_or commands slot None) → IsOffered k (Some f))
      → IfSome next (IsCarried wants (set commands slot (Some f)))
      → AreParts core wants fetches (set commands slot (Some f)) next starts
  counts slot f next below offers carried = record {
    long = length-set commands slot (Some f) ∙ was.long;
    kept = λ s. elim (cases_eq s slot) [
      | inl same ↦
          subst (λ (k : ℕ). IsOffered (last_command core.commands k) (get_or (set commands slot (Some f)) k None)) (sym same)
          (subst (λ (o : Option Fetched). IsOffered (last_command core.commands slot) o) (sym (get_or-set_same commands slot (Some f) None (rw was.long below))) (offers (last_command core.commands slot) (was.kept slot)))
      | inr ne ↦ subst (λ (o : Option Fetched). IsOffered (last_command core.commands s) o) (sym (get_or-set_other commands slot s (Some f) None ne)) (was.kept s)
    ];
    unread = was.unread;
    free = was.free;
    stopped = was.stopped;
    counted = was.counted;
    carried = carried;
  }

  pub carried_on : (slot : ℕ) (f : Fetched) (p : Option Carried) → slot < 32 → IfSome p (IsCarried wants commands) → IfSome p (IsCarried wants (set commands slot (Some f)))
  carried_on slot f None below h = tt
  carried_on slot f (Some w) below h = record { slot = h.slot; kept = still_kept slot w.slot f below h.kept; out = h.out }
