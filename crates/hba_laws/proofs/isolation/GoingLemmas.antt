-- For `isolated`. The bytes that go out to a device are told by what belongs to it.
use Rattle.std.proofs.{Common.{◌≡◌, ℕ, ◌<◌, true, false, List, refl, sym, ◌∙◌, ap, subst, Option, Some, None}, lemmas.Bool.{cond-true, true≢false}}
use Rattle.std.specs.Prelude.{is_some}
use Rattle.fis_view.specs.Frames.{Stamped}
use Rattle.hba_commands.specs.declared.command.Command.{Command}
use Rattle.slots.specs.{Data.payload, Slots.{context_of, match_some, own_issue, slots_of}}
use Rattle.hba_fbs.specs.{Sending.{Data, Gives, Order, Outgoing, data_fis, gathered, next_receiver, next_to_send, outgoing}, Tables.prds_of}
use Rattle.hba_fbs.specs.Views.{Port, last_command, view_of}
use Rattle.hba_laws.specs.{Hosts.Host, Isolation.{GoesByOwn, next_own, own_bytes, own_data, own_order}, Parts.{DevicePart, part_of}, Sound.IsHost}
use Rattle.hba_laws.specs.Between.{IsData, IsOrder}
use Rattle.hba_laws.proofs.isolation.OutgoingLemmas.{data_is, order_filled, order_is, order_is_own, order_no_payload}

-- the command of a slot in which something of the device is issued
command_of_slot : (n slot : ℕ) (host : Host) (command : Command) → is_some (own_issue (slots_of n host.port.slots) slot) ≡ true → last_command host.port.commands slot ≡ Some command
    → (part_of n host).commands slot ≡ Some command
command_of_slot n slot host command filled stands =
    cond-true (is_some (own_issue (slots_of n host.port.slots) slot)) (last_command host.port.commands slot) None filled ∙ stands

found : {A : Type 0} (o : Option A) (a : A) (b : Option (List ℕ)) (f : A → Option (List ℕ)) → o ≡ Some a → match_some o b f ≡ f a
found {A} o a b f is = ap (λ (x : Option A). match_some x b f) is

missing : {A : Type 0} (o : Option A) (b : Option (List ℕ)) (f : A → Option (List ℕ)) → is_some o ≡ false → match_some o b f ≡ b
missing None b f h = refl
missing (Some a) b f h = absurd (true≢false h)

data_bytes : (n offset len : ℕ) (host : Host) (command : Command) → IsData host.port n offset len command
    → own_bytes n (part_of n host) host.memory ≡ Some (data_fis n (gathered (prds_of host.memory command) offset len host.memory.client))
data_bytes n offset len host command sends =
    let p : DevicePart = part_of n host in
    let bytes : ℕ → ℕ → Option (List ℕ) = λ o l. Some (data_fis n (gathered (prds_of host.memory command) o l host.memory.client)) in
    found (payload (context_of host.port.slots n)) sends.next (own_order p) (own_data n p host.memory) sends.is
    ∙ found (p.commands sends.next.0) command None (λ c. Some (data_fis n (gathered (prds_of host.memory c) sends.next.1 sends.next.2 host.memory.client)))
    (command_of_slot n sends.next.0 host command sends.filled sends.stands)
    ∙ ap (λ (o : ℕ). bytes o sends.next.2) sends.offset_is ∙ ap (bytes offset) sends.len_is

order_bytes : (n slot : ℕ) (host : Host) (command : Command) → n < 16 → IsHost host → IsOrder host.port n slot command (next_receiver host.port) (next_to_send host.port)
    → own_bytes n (part_of n host) host.memory ≡ Some command.cfis
order_bytes n slot host command lt is order =
    let p : DevicePart = part_of n host in
    missing (payload (context_of host.port.slots n)) (own_order p) (own_data n p host.memory) (order_no_payload host.port n slot lt is.slots.slots order.owns order.next order.no_data)
    ∙ found (next_own (view_of n host.port)) slot None (λ s. match_some (p.commands s) None (λ c. Some c.cfis)) (order_is_own host.port n slot lt is.slots.slots order.owns order.next)
    ∙ found (p.commands slot) command None (λ c. Some c.cfis)
    (command_of_slot n slot host command (order_filled host.port n slot is.slots.slots order.owns order.next) order.stands)

goes : (n : ℕ) (host : Host) (new : Port) (frame : Stamped) (o : Outgoing) → n < 16 → IsHost host → outgoing host.port host.memory ≡ o → Gives o host.port host.memory (Some frame) new → frame.stamp.port ≡ n
    → own_bytes n (part_of n host) host.memory ≡ Some frame.bytes
goes n host new frame (Data dev offset len command) lt is next gives to =
    let e : dev ≡ n = sym (ap (λ (f : Stamped). f.stamp.port) gives.frame_is) ∙ to in
    let bytes : own_bytes dev (part_of dev host) host.memory ≡ Some frame.bytes =
    data_bytes dev offset len host command (data_is host.port host.memory dev offset len command next) ∙ ap (λ (f : Stamped). Some f.bytes) (sym gives.frame_is) in
    subst (λ (m : ℕ). own_bytes m (part_of m host) host.memory ≡ Some frame.bytes) e bytes
goes n host new frame (Order dev slot command) lt is next gives to =
    let e : dev ≡ n = sym (ap (λ (f : Stamped). f.stamp.port) gives.frame_is) ∙ to in
    let bytes : own_bytes dev (part_of dev host) host.memory ≡ Some frame.bytes =
    order_bytes dev slot host command (subst (λ (m : ℕ). m < 16) (sym e) lt) is (order_is host.port host.memory dev slot command next) ∙ ap (λ (f : Stamped). Some f.bytes) (sym gives.frame_is) in
    subst (λ (m : ℕ). own_bytes m (part_of m host) host.memory ≡ Some frame.bytes) e bytes
goes n host new frame other lt is next gives to = let e : Some frame ≡ None = gives.0 in cc

pub goes_by_own : GoesByOwn
goes_by_own n lt old new frame is does to = goes n old new.port frame (outgoing old.port old.memory) lt is refl does.0 to
