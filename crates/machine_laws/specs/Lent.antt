-- The bytes that are lent to be written to the guest are those of the frame that the controller took last (AHCI 1.3.1, 5.3.13, a port takes
-- a FIS, and writes it, and its bytes, to the guest).
use Rattle.std.specs.Prelude.{◌≡◌, ◌||◌, ℕ, Bool, true, false, List, [], ◌∷◌, Option, Some, None, MatchOption, is_some}
use Rattle.ahci_registers.specs.Link.{action_of}
use Rattle.ahci_controller.specs.{States.ControllerState, Taking.is_up, declared.{next.Next.Next, wants.Writes.Writes}}
use Rattle.ahci_controller.specs.declared.next.Next.TheVariants as next
use Rattle.controller_laws.specs.{Carrying.{Carrying, carrying_after}, Events.Event}
use Rattle.controller_laws.specs.Events as call
use Rattle.ahci_machine.specs.{Registers.{lent_bytes, part_of}, States.{IsOpeningMachine, MachineState}}
use Rattle.ahci_machine.specs.declared.act.Act.TheVariants as act
use Rattle.machine_laws.specs.{ControllerLaws.{RunsRuled, calls_in}, Deeds.{Deed, Does, Moved}}

-- bytes of a frame, or the frame, are to be written
abbrev pub is_framed_by : Writes → Bool
is_framed_by w = is_some w.payload || is_some w.posted

abbrev pub is_framed : ControllerState → Bool
is_framed c = is_framed_by c.writes

-- while the link is down none are
abbrev pub IsSilent : ControllerState → Type 0
IsSilent c = is_up (action_of c.link.control) ≡ false → is_framed c ≡ false

-- the frame that was taken last
abbrev pub last_taken : Option (List ℕ) → List Event → Option (List ℕ)
last_taken was [] = was
last_taken was (call.Took frame took ∷ events) = last_taken (Some frame) events
last_taken was (event ∷ events) = last_taken was events

-- As long as something of a frame is to be written, the machine has it: it is the one that was taken last.
pub record HoldsFrame (m : MachineState) (last : Option (List ℕ)) : Type 0 where
  pub silent : IsSilent m.controller
  pub taken : is_framed m.controller ≡ true → m.taken ≡ true
  pub frame : is_framed m.controller ≡ true → MatchOption m.incoming ⊥ (λ f. last ≡ Some f.bytes)

abbrev pub OpensHolding : Type 0
OpensHolding = (ports : ℕ) (legacy : Bool) (m : MachineState) → IsOpeningMachine ports legacy m → HoldsFrame m None

abbrev pub FramesAreHeld : Type 0
FramesAreHeld = (old : MachineState) (deeds : List Deed) (new : MachineState) (run : RunsRuled old deeds new)
    → (last : Option (List ℕ)) → HoldsFrame old last → HoldsFrame new (last_taken last (calls_in old deeds new run))

-- so what is lent are its bytes
abbrev pub Lends : Next → Option (List ℕ) → List ℕ → Type 0
Lends (next.Payload m) last lent = MatchOption last ⊥ (λ frame. lent ≡ part_of frame m.from m.len)
Lends (next.Posted m) last lent = MatchOption last ⊥ (λ frame. lent ≡ part_of frame m.from m.len)
Lends write last lent = Unit {0}

abbrev pub FramesAreLent : Type 0
FramesAreLent = (old : MachineState) (write : Next) (new : MachineState) → Does old (Moved (act.Writes write)) new
    → (last : Option (List ℕ)) → HoldsFrame old last → Lends write last (lent_bytes new)

-- and they are those of the Data FIS whose bytes go to their places, each once, in order
abbrev pub IsOf : Option Carrying → Option (List ℕ) → Type 0
IsOf None last = Unit {0}
IsOf (Some d) last = last ≡ Some d.frame

abbrev pub CarriesTaken : Type 0
CarriesTaken = (old new : ControllerState) (events : List Event) (run : call.Runs old events new) (was : Option Carrying) (last : Option (List ℕ))
    → IsOf was last → IsOf (carrying_after was old events new run) (last_taken last events)
