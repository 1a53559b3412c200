-- Runs of the commands of a disk, and when their Data and their ends are earned. A book has for each place the command that
-- was taken last and its ledger since then.
use Rattle.std.specs.Prelude.{ℕ, ◌≡◌, ◌<◌, true, List, [], ◌∷◌, Option, Some, None, nat_lt, if◌then◌else◌, replicate, slice_set, slice_index_or}
use Rattle.std.specs.Option.{option_map}
use Rattle.block_command.specs.{declared.command.Command.Command, Moments.{IsCommand, Moment, is_queued}, Laws.{Input, Happening, Ledger, blank}}
use Rattle.block_command.specs.Laws.{entered, HappensRightly, happening}
use Rattle.block_command.specs.Laws as command
use Rattle.block_disk.specs.Table.{Table, at, is_under_way, may_go, none_under_way, with_input, with_taken}

-- what can be done with the commands of a disk
pub data Event : Type 0 where
  Takes : Command → Event
  Does : ℕ → Input → Event
  -- a reset or a plug: what was under way is gone
  Resets : Event

-- a place is below 33; the queued commands have the tags' places
abbrev pub IsEvent : Event → Type 0
IsEvent (Takes c) = (c.place < 33) × IsCommand c × (is_queued c.protocol ≡ nat_lt c.place 32)
IsEvent (Does place i) = place < 33
IsEvent Resets = Unit {0}

abbrev pub AreEvents : List Event → Type 0
AreEvents [] = Unit {0}
AreEvents (e ∷ later) = IsEvent e × AreEvents later

abbrev pub after : Table → Event → Table
after d (Takes c) = with_taken d c
after d (Does place i) = with_input d place i
after d Resets = none_under_way

-- what a run shows: at a place with no command nothing but what was given
pub data Shown : Type 0 where
  Took : Command → Shown
  Refused : Command → Shown
  At : ℕ → Happening → Shown
  AtNone : ℕ → Shown
  Reset : Shown

abbrev pub shown_at : ℕ → Option Moment → Input → Shown
shown_at place None i = AtNone place
shown_at place (Some m) i = At place (happening m i)

abbrev pub shown : Table → Event → Shown
shown d (Takes c) = if is_under_way (at d c.place) then Refused c else Took c
shown d (Does place i) = shown_at place (at d place) i
shown d Resets = Reset

unfoldable pub account : Table → List Event → List Shown
account d [] = []
account d (e ∷ later) = shown d e ∷ account (after d e) later

-- ## The books

pub record Page : Type 0 where
  pub command : Command
  pub ledger : Ledger

abbrev pub at_page : List (Option Page) → ℕ → Option Page
at_page books place = slice_index_or books place None

abbrev pub page_entered : Page → Happening → Page
page_entered p h = record { command = p.command; ledger = entered p.command p.ledger h }

abbrev pub entered_in : List (Option Page) → Shown → List (Option Page)
entered_in books (Took c) = slice_set books c.place (Some (record { command = c; ledger = blank }))
entered_in books (At place h) = slice_set books place (option_map (λ p. page_entered p h) (at_page books place))
entered_in books Reset = replicate 33 None
entered_in books _ = books

-- the page of a place allows this
abbrev pub PageAllows : Option Page → Happening → Type 0
PageAllows None h = ⊥
PageAllows (Some p) h = HappensRightly p.command p.ledger h

abbrev pub IsAllowedBy : List (Option Page) → Shown → Type 0
IsAllowedBy books (At place h) = PageAllows (at_page books place) h
IsAllowedBy books _ = Unit {0}

abbrev pub Earned : List (Option Page) → List Shown → Type 0
Earned books [] = Unit {0}
Earned books (s ∷ later) = IsAllowedBy books s × Earned (entered_in books s) later

abbrev pub EndsAreEarned : Type 0
EndsAreEarned = (events : List Event) → AreEvents events → Earned (replicate 33 None) (account none_under_way events)

-- ## The wire

-- what may be done in a run: what is next is done only where it may, and queued Data come for the command that has the wire
abbrev pub IsAllowed : Table → Event → Type 0
IsAllowed d (Does place command.Goes) = (place < 33) × (may_go d place ≡ true)
IsAllowed d (Does place (command.Comes part)) = (place < 33) × (place < 32 → d.wire ≡ Some place)
IsAllowed d e = IsEvent e

abbrev pub AreAllowed : Table → List Event → Type 0
AreAllowed d [] = Unit {0}
AreAllowed d (e ∷ later) = IsAllowed d e × AreAllowed (after d e) later

-- the place that the last DMA Setup named
abbrev pub wire_after : Option ℕ → Shown → Option ℕ
wire_after w (At place command.SentSetUp) = Some place
wire_after w _ = w

-- Data of queued commands, both ways, and DMA Activates are of the command that the last DMA Setup named: a host that knows
-- the FISes alone knows whose they are
abbrev pub IsWired : Option ℕ → Shown → Type 0
IsWired w (At place (command.SentData part)) = place < 32 → w ≡ Some place
IsWired w (At place command.SentActivate) = place < 32 → w ≡ Some place
IsWired w (At place (command.CameData part)) = place < 32 → w ≡ Some place
IsWired w _ = Unit {0}

abbrev pub AreWired : Option ℕ → List Shown → Type 0
AreWired w [] = Unit {0}
AreWired w (s ∷ later) = IsWired w s × AreWired (wire_after w s) later

abbrev pub DataAreNamed : Type 0
DataAreNamed = (events : List Event) → AreAllowed none_under_way events → AreWired None (account none_under_way events)
