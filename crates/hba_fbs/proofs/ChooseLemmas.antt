-- Who may go next, by the masks of the devices that asked for data and of the slots whose commands were not sent.
use Rattle.std.proofs.Common.{◌≡◌, ℕ, zero, suc, ◌+◌, ◌<◌, ◌≤◌, Bool, true, false, not, ◌&&◌, nat_eq, refl, sym, ap, ◌∙◌, arith, inl, inr, Option}
use Rattle.std.proofs.{Common.{Some, None}, lemmas.{Bool.cases_Bool, Nat.Bits.{bit_at-zero}}}
use Rattle.std.specs.Prelude.{if◌then◌else◌, is_none, is_some}
use Rattle.port_errors.specs.Errors.{Errors, cause_of}
use Rattle.slots.specs.{Commands.{is_any, may_go, next_slot, slots_where}, Data.{payload, receivers}, Slots.{Issue, Slots, context_of, has_bit}}
use Rattle.slots.specs.Slots.{holds, is_unsent, issue_at, lowest_below, mask_below, mask_of}
use Rattle.slots.proofs.Door.{has_bit_below, has_bit_mask, lowest_none, mask_none, mask_same}
use Rattle.hba_fbs.specs.{Choosing.{asking_devices, due_devices, due_slots, is_free, may_feed, may_order, unsent_slots}, Issuing.is_busy}
use Rattle.hba_fbs.specs.{Sending.is_due, Taking.is_running, Views.Port}

-- ---- masks

no_bit : (k : ℕ) → has_bit 0 k ≡ false
no_bit k = ap (λ b. nat_eq b 1) (bit_at-zero k)

mask_zero : (test : ℕ → Bool) (n : ℕ) → ((k : ℕ) → k < n → test k ≡ false) → 0 ≡ mask_below test n
mask_zero test zero none = sym (mask_none test)
mask_zero test (suc n) none =
    let more : suc n ≡ n + 1 = omega arith in
    rw more (mask_same test n 0 (mask_zero test n (λ k below. none k (omega arith))) (none n (omega arith)))

-- what is not in a mask of none fails
unset : (test : ℕ → Bool) (n k : ℕ) → n ≤ 32 → k < n → mask_below test n ≡ 0 → test k ≡ false
unset test n k most below empty = sym (has_bit_below test n k most below) ∙ ap (λ m. has_bit m k) empty ∙ no_bit k

bit_while : (run : Bool) (mask k : ℕ) (there : Bool) → has_bit mask k ≡ there → has_bit (if run then mask else 0) k ≡ (run && there)
bit_while true mask k there h = h
bit_while false mask k there h = no_bit k

and_three : (a b c : Bool) → ((a && b) && c) ≡ (a && (b && c))
and_three true b c = refl
and_three false b c = refl

-- ---- data

pub feeds_by : (port : Port) (dev : ℕ) → dev < 16 → (has_bit (asking_devices port) dev && is_none (cause_of port.errors dev)) ≡ may_feed port dev
feeds_by port dev below =
    let there : Bool = is_some (payload (context_of port.slots dev)) in
    ap (λ b. b && is_none (cause_of port.errors dev))
    (bit_while (is_running port) (receivers port.slots) dev there (has_bit_below (λ d. is_some (payload (context_of port.slots d))) 16 dev (omega arith) below))
    ∙ and_three (is_running port) there (is_none (cause_of port.errors dev))

pub none_feeds : (port : Port) → asking_devices port ≡ 0 → (dev : ℕ) → dev < 16 → may_feed port dev ≡ false
none_feeds port empty dev below =
    sym (feeds_by port dev below) ∙ ap (λ b. b && is_none (cause_of port.errors dev)) (ap (λ m. has_bit m dev) empty ∙ no_bit dev)

pub none_feed : (port : Port) → asking_devices port ≡ 0 → 0 ≡ due_devices port
none_feed port empty = mask_zero (may_feed port) 16 (none_feeds port empty)

pub none_feed_at : (port : Port) → asking_devices port ≡ 0 → (dev : ℕ) → dev < 16 → has_bit 0 dev ≡ may_feed port dev
none_feed_at port empty dev below = no_bit dev ∙ sym (none_feeds port empty dev below)

pub due_by : (t : Slots) (errors : Errors) (dev : ℕ) → dev < 16 → (has_bit (receivers t) dev && is_none (cause_of errors dev)) ≡ is_due t errors dev
due_by t errors dev below =
    ap (λ b. b && is_none (cause_of errors dev)) (has_bit_below (λ d. is_some (payload (context_of t d))) 16 dev (omega arith) below)

pub none_due : (t : Slots) (errors : Errors) → receivers t ≡ 0 → lowest_below (is_due t errors) 16 ≡ None
none_due t errors empty =
    lowest_none (is_due t errors) 16 (λ k below. ap (λ b. b && is_none (cause_of errors k)) (unset (λ d. is_some (payload (context_of t d))) 16 k (omega arith) below empty))

-- ---- commands

free_unsent : (port : Port) (o : Option Issue) → (holds is_unsent o && holds (is_free port) o) ≡ holds (is_free port) o
free_unsent port None = refl
free_unsent port (Some issue) = elim (cases_Bool issue.sent) [ inl is ↦ rw is refl | inr is ↦ rw is refl ]

pub orders_by : (port : Port) (slot : ℕ) → slot < 32 → (has_bit (unsent_slots port) slot && holds (is_free port) (issue_at port.slots slot)) ≡ may_order port slot
orders_by port slot below =
    let issue : Option Issue = issue_at port.slots slot in
    ap (λ b. b && holds (is_free port) issue)
    (bit_while (is_running port) (slots_where is_unsent port.slots) slot (holds is_unsent issue) (has_bit_mask (λ k. holds is_unsent (issue_at port.slots k)) slot below))
    ∙ and_three (is_running port) (holds is_unsent issue) (holds (is_free port) issue)
    ∙ ap (λ b. is_running port && b) (free_unsent port issue)

pub no_order : (port : Port) (mask slot : ℕ) → slot < 32 → mask ≡ unsent_slots port → has_bit mask slot ≡ false → false ≡ may_order port slot
no_order port mask slot below is off =
    ap (λ b. b && holds (is_free port) (issue_at port.slots slot)) (sym (ap (λ m. has_bit m slot) (sym is) ∙ off)) ∙ orders_by port slot below

none_orders : (port : Port) → unsent_slots port ≡ 0 → (slot : ℕ) → slot < 32 → may_order port slot ≡ false
none_orders port empty slot below =
    sym (orders_by port slot below) ∙ ap (λ b. b && holds (is_free port) (issue_at port.slots slot)) (ap (λ m. has_bit m slot) empty ∙ no_bit slot)

pub none_order : (port : Port) → unsent_slots port ≡ 0 → 0 ≡ due_slots port
none_order port empty = mask_zero (may_order port) 32 (none_orders port empty)

pub none_order_at : (port : Port) → unsent_slots port ≡ 0 → (slot : ℕ) → slot < 32 → has_bit 0 slot ≡ may_order port slot
none_order_at port empty slot below = no_bit slot ∙ sym (none_orders port empty slot below)

goes_unsent : (ready faulty : ℕ) (t : Slots) (o : Option Issue) → (holds is_unsent o && holds (may_go ready faulty t) o) ≡ holds (may_go ready faulty t) o
goes_unsent ready faulty t None = refl
goes_unsent ready faulty t (Some issue) = elim (cases_Bool issue.sent) [ inl is ↦ rw is refl | inr is ↦ rw is refl ]

pub none_next : (ready faulty : ℕ) (t : Slots) → slots_where is_unsent t ≡ 0 → next_slot ready faulty t ≡ None
none_next ready faulty t empty =
    lowest_none (λ slot. holds (may_go ready faulty t) (issue_at t slot)) 32
    (λ k below. sym (goes_unsent ready faulty t (issue_at t k))
    ∙ ap (λ b. b && holds (may_go ready faulty t) (issue_at t k)) (unset (λ slot. holds is_unsent (issue_at t slot)) 32 k (omega arith) below empty))

-- ---- what is issued

any_busy : (o : Option Issue) → holds is_any o ≡ is_some o
any_busy None = refl
any_busy (Some issue) = refl

pub issued_busy : (t : Slots) → slots_where is_any t ≡ mask_of (is_busy t)
issued_busy t = ap mask_of (λ i slot. any_busy (issue_at t slot) i)
