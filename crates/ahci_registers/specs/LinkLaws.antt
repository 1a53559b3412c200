-- What holds for the link over any list of writes of PxSCTL: AHCI 1.3.1, section 10.4.2 (Port Reset).
use Rattle.std.specs.Prelude.{◌≡◌, ◌≢◌, ℕ, ◌+◌, true, List}
use Rattle.ahci_registers.specs.{Bits.{pcs, prcs}, Laws.Stand, Lines.{after, LineEvent.Caused}, Link.{ControlWrite, HasEffect, action_of, causes_of}}
use Rattle.ahci_registers.specs.{Link.{control_after, written}, declared.{lines.Lines.Lines, link.Effect.TheVariants.{LinkReset, LinkUp}}}
use Rattle.ahci_registers.specs.declared.link.LinkAction.{LinkAction, TheVariants.NoAction}

-- while ST is 1 a write leaves what is asked of the interface
abbrev pub StaysWhileStarted : Type 0
StaysWhileStarted = (control value : ℕ) → action_of (written control value true) ≡ action_of control

-- a link that was up and no longer is has been reset
abbrev pub FallsByAReset : Type 0
FallsByAReset =
    (control : ℕ) (writes : List ControlWrite) → action_of control ≡ NoAction
    → action_of (control_after control writes) ≢ NoAction → HasEffect LinkReset control writes

-- a link that was not up and now is has come up
abbrev pub RisesByLinkUp : Type 0
RisesByLinkUp =
    (control : ℕ) (writes : List ControlWrite) → action_of control ≢ NoAction
    → action_of (control_after control writes) ≡ NoAction → HasEffect LinkUp control writes

-- PxSERR shows it: X and N stand from then on, like PCS and PRCS of PxIS
abbrev pub UpSetsX : Type 0
UpSetsX =
    (l : Lines) (old : LinkAction) → old ≢ NoAction
    → Stand (pcs + prcs) (after l (Caused (causes_of old NoAction)))
