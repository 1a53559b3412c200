-- For `stays_sound`. What an event keeps: the place of the received area, the mode, and the sizes of memory.
use Rattle.std.proofs.Common.{◌≡◌, ℕ, ◌+◌, ◌-◌, ◌≤◌, Bool, true, false, List, [], ◌∷◌, length, refl, sym, ◌∙◌, ap, subst, arith, inl, inr, Option}
use Rattle.std.proofs.{Common.{Some, None}, lemmas.Bool.{and_parts, cases_Bool, eq-eqb, eqb-true, not-false}}
use Rattle.std.specs.Prelude.{◌==◌, drop, MatchOption, is_none, not}
use Rattle.fis_view.specs.{Frames.Stamped, Seen.seen, declared.view.Fis.Fis}
use Rattle.fis_view.specs.declared.view.Fis.TheVariants as view
use Rattle.hba_commands.specs.declared.command.Command.{Command}
use Rattle.host_memory.specs.{Memory.{Memory, client_start, overwritten}, Place.Scatters}
use Rattle.host_memory.proofs.Door.{length-overwritten}
use Rattle.hba_fbs.specs.declared.{hearing.Heard.Heard, register.Register.{Register, TheVariants.{Fb, Fbs}}, registers.Registers.Registers}
use Rattle.hba_fbs.specs.{declared.report.Wrote.Wrote as BytesTold, Posting.posted, Registers.written, Sending.{Data, Gives, Order, Outgoing}}
use Rattle.hba_fbs.specs.{Sending.outgoing, Tables.{Delivers, prds_of}, Taking.{admitted, heard_now, ignores, is_running, port_of, posted_of}}
use Rattle.hba_fbs.specs.{Taking.{settled, wrote_by}, Views.{Port, last_command, view_of}, Writing.refusal_of}
use Rattle.hba_laws.specs.{Hosts.{Does, Flushed, Gave, Host, HostEvent, Put, Rewrote, Runs, Stored, Took, Wrote}, Sound.{AreHosts, IsHost}}
use Rattle.hba_laws.specs.Tables.{moves_area}
use Rattle.hba_laws.proofs.soundness.WriteLemmas.{fb_refused, mode_stays}

-- ---- the place of the received area

posted_fb : (r : Registers) (dev : ℕ) (b : Bool) (fis : Fis) → (posted r dev b fis).fb ≡ r.fb
unfolding posted
posted_fb r dev b (view.RegH2D f) = refl
posted_fb r dev b other = refl

settled_fb : (r : Registers) (h : Heard) → (settled r h).fb ≡ r.fb
unfolding settled
settled_fb r h = refl

posted_of_fb : (r : Registers) (dev : ℕ) (b : Bool) (fis : Option Fis) → (posted_of r dev b fis).fb ≡ r.fb
posted_of_fb r dev b None = refl
posted_of_fb r dev b (Some fis) = posted_fb r dev b fis

pub taken_fb : (r next : Registers) (dev : ℕ) (b : Bool) (fis : Option Fis) (h : Heard) → next ≡ settled (posted_of r dev b fis) h → next.fb ≡ r.fb
taken_fb r next dev b fis h is = ap (λ (x : Registers). x.fb) is ∙ settled_fb (posted_of r dev b fis) h ∙ posted_of_fb r dev b fis

written_fb : (host : Host) (register : Register) (value : ℕ) → moves_area host (Wrote register value) ≡ false → (written register host.port.registers value).fb ≡ host.port.registers.fb
written_fb host register value h =
    let next : ℕ = (written register host.port.registers value).fb in
    eqb-true next host.port.registers.fb (not-false (next == host.port.registers.fb) h)

gives_fb : (o : Outgoing) (old : Port) (memory : Memory) (frame : Option Stamped) (new : Port) → Gives o old memory frame new → new.registers.fb ≡ old.registers.fb
gives_fb (Data dev offset len command) old memory None new gives = absurd gives
gives_fb (Data dev offset len command) old memory (Some f) new gives = ap (λ (r : Registers). r.fb) gives.registers
gives_fb (Order dev slot command) old memory None new gives = absurd gives
gives_fb (Order dev slot command) old memory (Some f) new gives = ap (λ (r : Registers). r.fb) gives.registers
gives_fb other old memory frame new gives = ap (λ (p : Port). p.registers.fb) gives.1

-- ---- nor does the mode change while the port runs

posted_mode : (r : Registers) (dev : ℕ) (b : Bool) (fis : Fis) → (posted r dev b fis).switching ≡ r.switching
unfolding posted
posted_mode r dev b (view.RegH2D f) = refl
posted_mode r dev b other = refl

settled_mode : (r : Registers) (h : Heard) → (settled r h).switching ≡ r.switching
unfolding settled
settled_mode r h = refl

posted_of_mode : (r : Registers) (dev : ℕ) (b : Bool) (fis : Option Fis) → (posted_of r dev b fis).switching ≡ r.switching
posted_of_mode r dev b None = refl
posted_of_mode r dev b (Some fis) = posted_mode r dev b fis

pub taken_mode : (r next : Registers) (dev : ℕ) (b : Bool) (fis : Option Fis) (h : Heard) → next ≡ settled (posted_of r dev b fis) h → next.switching ≡ r.switching
taken_mode r next dev b fis h is = ap (λ (x : Registers). x.switching) is ∙ settled_mode (posted_of r dev b fis) h ∙ posted_of_mode r dev b fis

written_mode : (host : Host) (register : Register) (value : ℕ) → host.port.registers.started ≡ true → refusal_of register host.port host.memory value ≡ None
    → (written register host.port.registers value).switching ≡ host.port.registers.switching
unfolding written
written_mode host Fbs value started accepted = mode_stays host.port host.memory value started accepted
written_mode host other value started accepted = refl

gives_mode : (o : Outgoing) (old : Port) (memory : Memory) (frame : Option Stamped) (new : Port) → Gives o old memory frame new → new.registers.switching ≡ old.registers.switching
gives_mode (Data dev offset len command) old memory None new gives = absurd gives
gives_mode (Data dev offset len command) old memory (Some f) new gives = ap (λ (r : Registers). r.switching) gives.registers
gives_mode (Order dev slot command) old memory None new gives = absurd gives
gives_mode (Order dev slot command) old memory (Some f) new gives = ap (λ (r : Registers). r.switching) gives.registers
gives_mode other old memory frame new gives = ap (λ (p : Port). p.registers.switching) gives.1

pub mode_kept : (old new : Host) (event : HostEvent) → is_running old.port ≡ true → Does old event new → new.port.registers.switching ≡ old.port.registers.switching
mode_kept old new (Took frame report) runs does =
    elim (cases_Bool (ignores (port_of frame) old.port frame)) [
      | inl t ↦ ap (λ (p : Port). p.registers.switching) (does.ignored t).port
      | inr f ↦
          taken_mode old.port.registers new.port.registers (port_of frame) (view_of (port_of frame) old.port).state.resetting (admitted (port_of frame) (seen frame))
          (heard_now old.port old.memory (port_of frame) (admitted (port_of frame) (seen frame))) (does.heard f).registers
    ]
mode_kept old new (Wrote register value) runs does =
    ap (λ (r : Registers). r.switching) does.1.registers
    ∙ written_mode old register value (and_parts old.port.registers.started (is_none old.port.errors.port) runs).0 does.0
mode_kept old new (Flushed dev) runs does = ap (λ (r : Registers). r.switching) does.0.registers
mode_kept old new (Gave frame) runs does = gives_mode (outgoing old.port old.memory) old.port old.memory frame new.port does.0
mode_kept old new other runs does = ap (λ (p : Port). p.registers.switching) does.1

-- an event that does not move it leaves its place
pub fb_kept : (old new : Host) (event : HostEvent) → Does old event new → moves_area old event ≡ false → new.port.registers.fb ≡ old.port.registers.fb
fb_kept old new (Took frame report) does h =
    elim (cases_Bool (ignores (port_of frame) old.port frame)) [
      | inl t ↦ ap (λ (p : Port). p.registers.fb) (does.ignored t).port
      | inr f ↦
          taken_fb old.port.registers new.port.registers (port_of frame) (view_of (port_of frame) old.port).state.resetting (admitted (port_of frame) (seen frame))
          (heard_now old.port old.memory (port_of frame) (admitted (port_of frame) (seen frame))) (does.heard f).registers
    ]
fb_kept old new (Wrote register value) does h = ap (λ (r : Registers). r.fb) does.1.registers ∙ written_fb old register value h
fb_kept old new (Flushed dev) does h = ap (λ (r : Registers). r.fb) does.0.registers
fb_kept old new (Gave frame) does h = gives_fb (outgoing old.port old.memory) old.port old.memory frame new.port does.0
fb_kept old new other does h = ap (λ (p : Port). p.registers.fb) does.1

-- nor is it moved while the port runs
pub receives : (host : Host) → IsHost host → is_running host.port ≡ true → host.port.registers.receives ≡ true
receives host is runs = (is.port.registers.started (and_parts host.port.registers.started (is_none host.port.errors.port) runs).0).0

still : (n : ℕ) → not (n == n) ≡ false
still n = ap not (eq-eqb n n refl)

pub stays_put : (old new : Host) (event : HostEvent) → IsHost old → is_running old.port ≡ true → Does old event new → moves_area old event ≡ false
unfolding written
stays_put old new (Took frame report) is runs does = refl
stays_put old new (Wrote Fb value) is runs does = absurd (fb_refused old.port old.memory value (receives old is runs) does.0)
stays_put old new (Flushed dev) is runs does = refl
stays_put old new (Gave frame) is runs does = refl
stays_put old new (Stored structure) is runs does = refl
stays_put old new (Rewrote dev row) is runs does = refl
stays_put old new (Put at bytes) is runs does = refl
stays_put old new other is runs does = still old.port.registers.fb

-- ---- the hosts of a run

pub first_host : (old new : Host) (events : List HostEvent) (run : Runs old events new) → AreHosts old new events run → IsHost old
first_host old new [] run hosts = hosts
first_host old new (event ∷ events) run hosts = hosts.0

pub last_host : (old new : Host) (events : List HostEvent) (run : Runs old events new) → AreHosts old new events run → IsHost new
last_host old new [] run hosts = subst IsHost (sym run) hosts
last_host old new (event ∷ events) run hosts = last_host run.0 new events run.2 hosts.1

-- ---- the sizes of memory

scattered_len : (memory : Memory) (o : Option Command) (offset : ℕ) (payload new : List ℕ)
    → MatchOption o ⊥ (λ command. Scatters (prds_of memory command) offset payload memory.client new) → length new ≡ length memory.client
scattered_len memory None offset payload new h = absurd h
scattered_len memory (Some command) offset payload new h = h.as_long

delivered_len : (memory : Memory) (commands : List (Option Command)) (payload : List ℕ) (w : Option BytesTold) (new : List ℕ) → Delivers memory commands payload w new → length new ≡ length memory.client
delivered_len memory commands payload None new h = ap (λ (x : List ℕ). length x) h
delivered_len memory commands payload (Some w) new h = scattered_len memory (last_command commands w.slot) w.offset payload new h

put_len : (client bytes : List ℕ) (at : ℕ) → client_start ≤ at → at + length bytes ≤ client_start + length client → length (overwritten client (at - client_start) bytes) ≡ length client
put_len client bytes at low high = length-overwritten client (at - client_start) bytes (omega arith)

client_len : (old new : Host) (event : HostEvent) → Does old event new → length new.memory.client ≡ length old.memory.client
client_len old new (Took frame report) does =
    elim (cases_Bool (ignores (port_of frame) old.port frame)) [
      | inl t ↦ ap (λ (m : Memory). length m.client) (does.ignored t).memory
      | inr f ↦
          delivered_len old.memory old.port.commands (drop 4 frame) (wrote_by (heard_now old.port old.memory (port_of frame) (admitted (port_of frame) (seen frame))).happening)
          new.memory.client (does.heard f).client
    ]
client_len old new (Wrote register value) does = ap (λ (m : Memory). length m.client) does.2
client_len old new (Stored structure) does = ap (λ (m : Memory). length m.client) does.0.after
client_len old new (Rewrote dev row) does = ap (λ (m : Memory). length m.client) does.0.after
client_len old new (Put at bytes) does = ap (λ (m : Memory). length m.client) does.0.after ∙ put_len old.memory.client bytes at does.0.inside.0 does.0.inside.1
client_len old new other does = ap (λ (m : Memory). length m.client) does.1

pub client_lens : (old new : Host) (events : List HostEvent) → Runs old events new → length new.memory.client ≡ length old.memory.client
client_lens old new [] run = ap (λ (h : Host). length h.memory.client) run
client_lens old new (event ∷ events) run = client_lens run.0 new events run.2 ∙ client_len old run.0 event run.1

pub structure_lens : (old new : Host) (events : List HostEvent) (run : Runs old events new) → AreHosts old new events run → length new.memory.structure ≡ length old.memory.structure
structure_lens old new events run hosts = (last_host old new events run hosts).memory.structure_len ∙ sym (first_host old new events run hosts).memory.structure_len
