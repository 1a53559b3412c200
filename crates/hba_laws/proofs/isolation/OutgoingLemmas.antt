-- For `isolated`. What goes out is the device's own next: its data, or the command of its lowest slot that may go.
use Rattle.std.proofs.Common.{◌≡◌, ◌≢◌, ℕ, zero, suc, ◌+◌, ◌*◌, ◌%◌, ◌^◌, ◌<◌, ◌≤◌, Bool, true, false, ◌&&◌, ◌||◌, not, nat_eq, bit_or, length, refl}
use Rattle.std.proofs.{Common.{sym, ◌∙◌, ap, subst, arith, inl, inr, Option, Some, None, w32, eq-eqb}, lemmas.Bool.{cases_Bool, cases_eq}}
use Rattle.std.proofs.lemmas.Bool.{false_from_ne_true, true≢false, false≢true}
use Rattle.std.specs.Prelude.{if◌then◌else◌, is_none, is_some}
use Rattle.hba_commands.specs.declared.command.Command.{Command}
use Rattle.host_memory.specs.Memory.{Memory}
use Rattle.port_errors.specs.{Errors.cause_of, declared.cause.DeviceCause.DeviceCause}
use Rattle.slots.specs.{Commands.{may_begin, may_go}, Data.payload, Slots.{Issue, context_of, has_bit, holds, is_control, issue_at, mask_below}}
use Rattle.slots.specs.{Slots.{match_some, own_issue, slots_of, waiting}, Between.Owns}
use Rattle.slots.proofs.Door.{has_bit_below, lowest_before, lowest_found, lowest_is, none_below, own_at, owned_same, owns_where}
use Rattle.hba_fbs.specs.Sending.{Data, Nothing, Order, data_due, data_with, faulty_devices, is_ready, next_receiver, next_to_send, order_due}
use Rattle.hba_fbs.specs.{Sending.{outgoing, ready_devices, is_due}, Tables.{is_readable, sound_command}, Taking.is_running, Views.Port}
use Rattle.hba_fbs.specs.Views.{last_command, state_at, view_of}
use Rattle.hba_laws.specs.{Isolation.{may_leave, next_own}, Between.{IsData, IsOrder}}

-- ---- sets of devices, as numbers

has_device : (test : ℕ → Bool) (dev : ℕ) → dev < 16 → has_bit (mask_below test 16) dev ≡ test dev
has_device test dev h = has_bit_below test 16 dev (omega arith) h

-- ---- data

record IsDueData (d dev offset len : ℕ) (p : Option (ℕ × ℕ × ℕ)) (g : ℕ × ℕ × ℕ → Option Command) (command : Command) : Type 0 where
  is_dev : d ≡ dev
  next : ℕ × ℕ × ℕ
  is : p ≡ Some next
  offset_is : next.1 ≡ offset
  len_is : next.2 ≡ len
  sound : g next ≡ Some command

data_with_is : (d dev offset len : ℕ) (next : ℕ × ℕ × ℕ) (g : ℕ × ℕ × ℕ → Option Command) (c : Option Command) (command : Command) → g next ≡ c → data_with d next.1 next.2 c ≡ Data dev offset len command
    → IsDueData d dev offset len (Some next) g command
data_with_is d dev offset len next g None command is h = cc
data_with_is d dev offset len next g (Some c) command is h =
    let same : c ≡ command = cc in
    record { is_dev = cc; next = next; is = refl; offset_is = cc; len_is = cc; sound = is ∙ ap (λ (x : Command). Some x) same }

due_data_is : (d dev offset len : ℕ) (p : Option (ℕ × ℕ × ℕ)) (g : ℕ × ℕ × ℕ → Option Command) (command : Command)
    → match_some p Nothing (λ next. data_with d next.1 next.2 (g next)) ≡ Data dev offset len command → IsDueData d dev offset len p g command
due_data_is d dev offset len None g command h = cc
due_data_is d dev offset len (Some next) g command h = data_with_is d dev offset len next g (g next) command refl h

read_stands : (b : Bool) (c command : Command) → (if b then Some c else None) ≡ Some command → Some c ≡ Some command
read_stands true c command h = h
read_stands false c command h = cc

sound_stands : (memory : Memory) (o : Option Issue) (q : Option Command) (command : Command)
    → match_some o None (λ issue. match_some q None (λ c. if is_readable memory issue.work.len c then Some c else None)) ≡ Some command → (is_some o ≡ true) × (q ≡ Some command)
sound_stands memory None q command h = cc
sound_stands memory (Some issue) None command h = cc
sound_stands memory (Some issue) (Some c) command h = (refl, read_stands (is_readable memory issue.work.len c) c command h)

data_found : (port : Port) (memory : Memory) (d dev offset len : ℕ) (command : Command)
    → IsDueData d dev offset len (payload (context_of port.slots d)) (λ next. sound_command memory port.commands (view_of d port).slots next.0) command → d ≡ dev → IsData port dev offset len command
data_found port memory d dev offset len command due is =
    let own = (view_of d port).slots in
    let both = sound_stands memory (own_issue own due.next.0) (last_command port.commands due.next.0) command due.sound in
    record {
      next = due.next;
      is = subst (λ (m : ℕ). payload (context_of port.slots m) ≡ Some due.next) is due.is;
      offset_is = due.offset_is;
      len_is = due.len_is;
      filled = subst (λ (m : ℕ). is_some (own_issue (slots_of m port.slots) due.next.0) ≡ true) is both.0;
      stands = both.1;
    }

order_no_data : (slot dev offset len : ℕ) (o : Option Issue) (q : Option Command) (command : Command)
    → match_some o Nothing (λ issue. match_some q Nothing (Order issue.dev slot)) ≡ Data dev offset len command → ⊥
order_no_data slot dev offset len None q command h = cc
order_no_data slot dev offset len (Some issue) None command h = cc
order_no_data slot dev offset len (Some issue) (Some c) command h = cc

data_is_by : (port : Port) (memory : Memory) (b : Bool) (r s : Option ℕ) (dev offset len : ℕ) (command : Command)
    → (if b then Nothing else match_some r (match_some s Nothing (order_due port)) (data_due port memory)) ≡ Data dev offset len command → IsData port dev offset len command
data_is_by port memory true r s dev offset len command h = cc
data_is_by port memory false None None dev offset len command h = cc
data_is_by port memory false None (Some slot) dev offset len command h =
    absurd (order_no_data slot dev offset len (issue_at port.slots slot) (last_command port.commands slot) command h)
data_is_by port memory false (Some d) s dev offset len command h =
    let due = due_data_is d dev offset len (payload (context_of port.slots d)) (λ next. sound_command memory port.commands (view_of d port).slots next.0) command h in
    data_found port memory d dev offset len command due due.is_dev

pub data_is : (port : Port) (memory : Memory) (dev offset len : ℕ) (command : Command) → outgoing port memory ≡ Data dev offset len command → IsData port dev offset len command
data_is port memory dev offset len command h = data_is_by port memory (not (is_running port)) (next_receiver port) (next_to_send port) dev offset len command h

-- data goes to a device that asked for it
pub data_is_own : (port : Port) (memory : Memory) (dev offset len : ℕ) (command : Command) → outgoing port memory ≡ Data dev offset len command
    → is_some (payload (context_of port.slots dev)) ≡ true
data_is_own port memory dev offset len command h = ap (λ (x : Option (ℕ × ℕ × ℕ)). is_some x) (data_is port memory dev offset len command h).is

-- ---- commands

record IsDue (k dev slot : ℕ) (o : Option Issue) (q : Option Command) (command : Command) : Type 0 where
  is_slot : k ≡ slot
  owns : Owns dev o
  stands : q ≡ Some command

due_order : (k dev slot : ℕ) (o : Option Issue) (q : Option Command) (command : Command)
    → match_some o Nothing (λ issue. match_some q Nothing (Order issue.dev k)) ≡ Order dev slot command → IsDue k dev slot o q command
due_order k dev slot None q command h = cc
due_order k dev slot (Some issue) None command h = cc
due_order k dev slot (Some issue) (Some c) command h = record { is_slot = cc; owns = cc; stands = cc }

data_no_order : (d o l dev slot : ℕ) (c : Option Command) (command : Command) → data_with d o l c ≡ Order dev slot command → ⊥
data_no_order d o l dev slot None command h = cc
data_no_order d o l dev slot (Some c) command h = cc

due_no_order : (d dev slot : ℕ) (p : Option (ℕ × ℕ × ℕ)) (g : ℕ × ℕ × ℕ → Option Command) (command : Command)
    → match_some p Nothing (λ next. data_with d next.1 next.2 (g next)) ≡ Order dev slot command → ⊥
due_no_order d dev slot None g command h = cc
due_no_order d dev slot (Some next) g command h = data_no_order d next.1 next.2 dev slot (g next) command h

order_by : (port : Port) (memory : Memory) (b : Bool) (r s : Option ℕ) (dev slot : ℕ) (command : Command)
    → (if b then Nothing else match_some r (match_some s Nothing (order_due port)) (data_due port memory)) ≡ Order dev slot command
    → IsOrder port dev slot command r s
order_by port memory true r s dev slot command h = cc
order_by port memory false None None dev slot command h = cc
order_by port memory false None (Some k) dev slot command h =
    let due = due_order k dev slot (issue_at port.slots k) (last_command port.commands k) command h in
    record {
      no_data = refl;
      next = ap (λ (j : ℕ). Some j) due.is_slot;
      owns = subst (λ (j : ℕ). Owns dev (issue_at port.slots j)) due.is_slot due.owns;
      stands = subst (λ (j : ℕ). last_command port.commands j ≡ Some command) due.is_slot due.stands;
    }
order_by port memory false (Some d) s dev slot command h =
    absurd (due_no_order d dev slot (payload (context_of port.slots d)) (λ next. sound_command memory port.commands (view_of d port).slots next.0) command h)

pub order_is : (port : Port) (memory : Memory) (dev slot : ℕ) (command : Command) → outgoing port memory ≡ Order dev slot command
    → IsOrder port dev slot command (next_receiver port) (next_to_send port)
order_is port memory dev slot command h = order_by port memory (not (is_running port)) (next_receiver port) (next_to_send port) dev slot command h

-- ---- the lowest slot of the port is the lowest of its device

-- whether a command of a device may go is said by its view
pub alike : (port : Port) (n : ℕ) (issue : Issue) → n < 16 → issue.dev ≡ n
    → may_go (ready_devices port) (faulty_devices port) port.slots issue ≡ may_leave (view_of n port) issue
alike port n issue lt is =
    let may : ℕ → Bool → Bool → Bool = λ d ready faulty. not issue.sent && not faulty && (is_control issue.work.kind || ready && is_none (waiting (slots_of d port.slots)) && may_begin (slots_of d port.slots) issue) in
    let ready : has_bit (ready_devices port) n ≡ is_ready (state_at port.states n) = has_device (λ dev. is_ready (state_at port.states dev)) n lt in
    let faulty : has_bit (faulty_devices port) n ≡ is_some (cause_of port.errors n) = has_device (λ dev. is_some (cause_of port.errors dev)) n lt in
    ap (λ (d : ℕ). may d (has_bit (ready_devices port) d) (has_bit (faulty_devices port) d)) is ∙ ap (λ (b : Bool). may n b (has_bit (faulty_devices port) n)) ready
    ∙ ap (λ (b : Bool). may n (is_ready (state_at port.states n)) b) faulty

holds_alike : (port : Port) (n : ℕ) (o : Option Issue) → n < 16 → Owns n o
    → holds (may_go (ready_devices port) (faulty_devices port) port.slots) o ≡ holds (may_leave (view_of n port)) o
holds_alike port n None lt owns = refl
holds_alike port n (Some issue) lt owns = alike port n issue lt owns

own_alike : (port : Port) (n s : ℕ) → n < 16 → s < length port.slots.issues → Owns n (issue_at port.slots s)
    → holds (may_go (ready_devices port) (faulty_devices port) port.slots) (issue_at port.slots s) ≡ holds (may_leave (view_of n port)) (own_issue (view_of n port).slots s)
own_alike port n s lt within owns =
    holds_alike port n (issue_at port.slots s) lt owns
    ∙ ap (holds (may_leave (view_of n port))) (sym (own_at n port.slots s within ∙ owned_same n (issue_at port.slots s) owns))

own_passes : (port : Port) (n s : ℕ) → n < 16 → s < length port.slots.issues → holds (may_leave (view_of n port)) (own_issue (view_of n port).slots s) ≡ true
    → holds (may_go (ready_devices port) (faulty_devices port) port.slots) (issue_at port.slots s) ≡ true
own_passes port n s lt within h =
    let owns : Owns n (issue_at port.slots s) = owns_where (may_leave (view_of n port)) n (issue_at port.slots s) (ap (holds (may_leave (view_of n port))) (sym (own_at n port.slots s within)) ∙ h) in
    own_alike port n s lt within owns ∙ h

pub order_is_own : (port : Port) (n slot : ℕ) → n < 16 → length port.slots.issues ≡ 32 → Owns n (issue_at port.slots slot) → next_to_send port ≡ Some slot
    → next_own (view_of n port) ≡ Some slot
unfolding next_to_send
order_is_own port n slot lt long owns h =
    let test : ℕ → Bool = λ s. holds (may_go (ready_devices port) (faulty_devices port) port.slots) (issue_at port.slots s) in
    let own : ℕ → Bool = λ s. holds (may_leave (view_of n port)) (own_issue (view_of n port).slots s) in
    let is = lowest_is test 32 slot h in
    let here : own slot ≡ true = sym (own_alike port n slot lt (omega (arith, is.below)) owns) ∙ is.passes in
    lowest_found own 32 slot is.below here (λ k below.
    let fails : test k ≡ false = lowest_before test 32 slot k h below in
    false_from_ne_true (own k) (λ t. false≢true (sym fails ∙ own_passes port n k lt (omega (arith, is.below)) t)))

-- ---- no data is due to it

none_if_healthy : (p : Bool) (f : Option DeviceCause) → (p && is_none f) ≡ false → is_some f ≡ false → p ≡ false
none_if_healthy false f h healthy = refl
none_if_healthy true None h healthy = h
none_if_healthy true (Some c) h healthy = absurd (true≢false healthy)

leaves_healthy : (sent : Bool) (f : Option DeviceCause) (b : Bool) → (not sent && not (is_some f) && b) ≡ true → is_some f ≡ false
leaves_healthy true f b h = absurd (false≢true h)
leaves_healthy false None b h = refl
leaves_healthy false (Some c) b h = absurd (false≢true h)

healthy : (port : Port) (n : ℕ) (o : Option Issue) → holds (may_leave (view_of n port)) o ≡ true → is_some (cause_of port.errors n) ≡ false
healthy port n None h = absurd (false≢true h)
healthy port n (Some issue) h =
    leaves_healthy issue.sent (cause_of port.errors n)
    (is_control issue.work.kind || is_ready (view_of n port).state && is_none (waiting (view_of n port).slots) && may_begin (view_of n port).slots issue) h

pub order_no_payload : (port : Port) (n slot : ℕ) → n < 16 → length port.slots.issues ≡ 32 → Owns n (issue_at port.slots slot) → next_to_send port ≡ Some slot → next_receiver port ≡ None
    → is_some (payload (context_of port.slots n)) ≡ false
unfolding next_to_send next_receiver
order_no_payload port n slot lt long owns h none =
    let test : ℕ → Bool = λ s. holds (may_go (ready_devices port) (faulty_devices port) port.slots) (issue_at port.slots s) in
    let is = lowest_is test 32 slot h in
    let here : holds (may_leave (view_of n port)) (issue_at port.slots slot) ≡ true = sym (holds_alike port n (issue_at port.slots slot) lt owns) ∙ is.passes in
    none_if_healthy (is_some (payload (context_of port.slots n))) (cause_of port.errors n) (none_below (is_due port.slots port.errors) 16 none n lt) (healthy port n (issue_at port.slots slot) here)

-- ---- something is issued in the slot

owns_some : (n : ℕ) (o : Option Issue) → Owns n o → is_some o ≡ true
owns_some n None owns = absurd owns
owns_some n (Some issue) owns = refl

pub order_filled : (port : Port) (n slot : ℕ) → length port.slots.issues ≡ 32 → Owns n (issue_at port.slots slot) → next_to_send port ≡ Some slot
    → is_some (own_issue (slots_of n port.slots) slot) ≡ true
unfolding next_to_send
order_filled port n slot long owns h =
    let test : ℕ → Bool = λ s. holds (may_go (ready_devices port) (faulty_devices port) port.slots) (issue_at port.slots s) in
    let is = lowest_is test 32 slot h in
    ap (λ (x : Option Issue). is_some x) (own_at n port.slots slot (omega (arith, is.below)) ∙ owned_same n (issue_at port.slots slot) owns) ∙ owns_some n (issue_at port.slots slot) owns

-- and it is what the device owns there
pub order_stands : (port : Port) (n slot : ℕ) → length port.slots.issues ≡ 32 → Owns n (issue_at port.slots slot) → next_to_send port ≡ Some slot
    → own_issue (slots_of n port.slots) slot ≡ issue_at port.slots slot
unfolding next_to_send
order_stands port n slot long owns h =
    let test : ℕ → Bool = λ s. holds (may_go (ready_devices port) (faulty_devices port) port.slots) (issue_at port.slots s) in
    let is = lowest_is test 32 slot h in
    own_at n port.slots slot (omega (arith, is.below)) ∙ owned_same n (issue_at port.slots slot) owns
