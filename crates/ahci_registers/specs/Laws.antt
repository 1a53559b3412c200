-- What holds for interrupts over any list of events, for software that serves them by the line or by
-- messages: AHCI 1.3.1, section 10.7 (Interrupts).
use Rattle.std.specs.Prelude.{◌≡◌, ℕ, ◌+◌, ◌==◌, ◌||◌, Bool, true, false, bit_and, List, [], ◌∷◌}
use Rattle.ahci_registers.specs.{Bits.{has_bit, ufs, pcs, prcs, clearable, known, shadows}, Lines.{LineEvent, after, is_due, line, LineEvent.Caused}}
use Rattle.ahci_registers.specs.{Lines.LineEvent.{WrotePortStatus, WroteStatus, WroteGlobal, WroteError}, declared.lines.Lines.Lines}

-- the interrupts after these events, in their order
unfoldable pub after_all : Lines → List LineEvent → Lines
after_all l [] = l
after_all l (event ∷ events) = after_all (after l event) events

-- a message was due at some of them
unfoldable pub is_told : Lines → List LineEvent → Bool
is_told l [] = false
is_told l (event ∷ events) = is_due l event || is_told (after l event) events

-- the event takes none of these bits of PxIS
unfoldable pub Keeps : ℕ → LineEvent → Type 0
Keeps bits (WrotePortStatus value) = bit_and bits (bit_and value clearable) ≡ 0
Keeps bits (WroteGlobal value) = has_bit value 0 ≡ false
Keeps bits (WroteError value) = bit_and bits (shadows value) ≡ 0
Keeps bits event = Unit {0}

unfoldable pub AllKeep : ℕ → List LineEvent → Type 0
AllKeep bits [] = Unit {0}
AllKeep bits (event ∷ events) = Keeps bits event × AllKeep bits events

-- these are bits of PxIS
abbrev pub AreCauses : ℕ → Type 0
AreCauses bits = bit_and bits known ≡ bits

-- all of these bits stand in PxIS
abbrev pub Stand : ℕ → Lines → Type 0
Stand bits l = bit_and l.status bits ≡ bits

-- A cause stands until a write takes it, whatever else comes and whatever is masked in between.
abbrev pub StandsUntilTaken : Type 0
StandsUntilTaken =
    (l : Lines) (bits : ℕ) (events : List LineEvent) → AreCauses bits → AllKeep bits events
    → Stand bits (after_all (after l (Caused bits)) events)

-- So the line is raised as long as one of these causes is enabled.
abbrev pub IsRaisedUntilTaken : Type 0
IsRaisedUntilTaken =
    (l : Lines) (bits : ℕ) (events : List LineEvent) → AreCauses bits → AllKeep bits events
    → (last : Lines) → last ≡ after_all (after l (Caused bits)) events → last.enabled ≡ true
    → (bit_and bits last.mask == 0) ≡ false → line last ≡ true

-- Nothing is lost between a clear and a new cause. PxIS is read, and what was read is written back. Bits that
-- came after the read, and were not among those read, still stand then, whatever came in between that takes
-- none of them.
abbrev pub NothingIsLostBetween : Type 0
NothingIsLostBetween =
    (l : Lines) (bits : ℕ) (events : List LineEvent) → AreCauses bits → AllKeep bits events
    → bit_and bits (bit_and l.status clearable) ≡ 0
    → Stand bits (after (after_all (after l (Caused bits)) events) (WrotePortStatus l.status))

-- A write takes only the ones that are written: every other bit that stands still stands.
abbrev pub TakesOnlyOnes : Type 0
TakesOnlyOnes =
    (l : Lines) (bits : ℕ) (event : LineEvent) → AreCauses bits → Stand bits l → Keeps bits event
    → Stand bits (after l event)

-- It does take those.
abbrev pub TakesOnes : Type 0
TakesOnes =
    (l : Lines) (value : ℕ)
    → (bit_and (after l (WrotePortStatus value)).status (bit_and value clearable) ≡ 0)
    × (bit_and (after l (WroteError value)).status (shadows value) ≡ 0)

-- The bits that show PxSERR stand, whatever is written to PxIS.
abbrev pub ErrorsStand : Type 0
ErrorsStand =
    (l : Lines) (bits value : ℕ) → bit_and bits (ufs + pcs + prcs) ≡ bits → Stand bits l
    → Stand bits (after l (WrotePortStatus value))

-- A message is due at each enabled cause.
abbrev pub IsDueAtACause : Type 0
IsDueAtACause =
    (l : Lines) (bits : ℕ) → AreCauses bits → l.enabled ≡ true → (bit_and bits l.mask == 0) ≡ false
    → is_due l (Caused bits) ≡ true

-- The line is raised after these events only if it was raised before them, or if a message was due since.
abbrev pub RisesByAMessage : Type 0
RisesByAMessage =
    (l : Lines) (events : List LineEvent) → line l ≡ false → line (after_all l events) ≡ true
    → is_told l events ≡ true

-- Software that serves messages, and ends with a write of a one to IS, never waits for a message that does
-- not come: if the line is raised at some time from that write on, a message was due at the write or since.
abbrev pub IsToldAgain : Type 0
IsToldAgain =
    (l : Lines) (value : ℕ) (events : List LineEvent) → has_bit value 0 ≡ true
    → line (after_all l events) ≡ true → is_told l (WroteStatus value ∷ events) ≡ true

-- these registers have only bits that PxIS has
pub record ShowKnown (l : Lines) : Type 0 where
  pub status : bit_and l.status known ≡ l.status
  pub mask : bit_and l.mask known ≡ l.mask

-- Reserved bits of PxIS and PxIE, and the bits of what is not there, read 0.
abbrev pub ReservedReadZero : Type 0
ReservedReadZero = (l : Lines) (events : List LineEvent) → ShowKnown l → ShowKnown (after_all l events)
