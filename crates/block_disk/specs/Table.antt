-- The commands of a block disk under way: one at each of 32 tags, and one that is not queued.
use Rattle.std.specs.Prelude.{ℕ, List, Option, Some, None, replicate, slice_index_or, slice_set, is_none, Bool, true, false, not, ◌||◌, ◌==◌}
use Rattle.std.specs.{Prelude.{if◌then◌else◌}, Option.option_map}
use Rattle.block_command.specs.{declared.command.{Command.Command, Turn.Turn}, Moments.{Moment, opening, holds, is_ended, keeps_data, starts_write}}
use Rattle.block_command.specs.{Moments.turn_of, declared.answer.AnswerError.{AnswerError, TheVariants.NotOut}, Laws.{Input, after, refusal}}
use Rattle.block_command.specs.declared.command.Turn.TheVariants as turn

-- the command at each place, and the queued one whose Data are on the link
pub record Table : Type 0 where
  pub places : List (Option Moment)
  pub wire : Option ℕ

abbrev pub none_under_way : Table
none_under_way = record { places = replicate 33 None; wire = None }

-- the command of a place
abbrev pub at : Table → ℕ → Option Moment
at d place = slice_index_or d.places place None

-- ## The wire: from a DMA Setup to the last Data of its command no other command sends

abbrev pub has_wire : Option Moment → Bool
has_wire None = false
has_wire (Some m) = holds m

-- a place that had the wire gives it back
abbrev pub freed : Option ℕ → ℕ → Option ℕ
freed None place = None
freed (Some holder) place = if holder == place then None else Some holder

abbrev pub wire_with : Option ℕ → ℕ → Option Moment → Option ℕ
wire_with wire place m = if has_wire m then Some place else freed wire place

abbrev pub with_command : Table → ℕ → Option Moment → Table
with_command d place m = record { places = slice_set d.places place m; wire = wire_with d.wire place m }

-- something is done with the command of a place, if there is one
abbrev pub with_input : Table → ℕ → Input → Table
with_input d place i = with_command d place (option_map (λ m. after m i) (at d place))

-- why an answer to the command of a place is refused
abbrev pub refusal_at : Option Moment → Input → Option AnswerError
refusal_at None i = Some NotOut
refusal_at (Some m) i = refusal m i

-- whether a place is under way: it has a command that has not ended
abbrev pub is_under_way : Option Moment → Bool
is_under_way None = false
is_under_way (Some m) = not (is_ended m.stage)

-- a command is taken, unless its place is under way
abbrev pub with_taken : Table → Command → Table
with_taken d c = if is_under_way (at d c.place) then d else with_command d c.place (Some (opening c))

-- a DMA Setup, an end and an error want the link for themselves
abbrev pub wants_wire : Turn → Bool
wants_wire turn.SetUp = true
wants_wire turn.End = true
wants_wire turn.Fail = true
wants_wire _ = false

abbrev pub may_go_at : Table → Option Moment → Bool
may_go_at d None = false
may_go_at d (Some m) = not (wants_wire (turn_of m.stage)) || is_none d.wire

abbrev pub may_go : Table → ℕ → Bool
may_go d place = may_go_at d (at d place)

-- ## When memory is taken

-- the start of the command of a place takes the memory of a write
abbrev pub starts_write_at : Option Moment → Bool
starts_write_at None = false
starts_write_at (Some m) = starts_write m m.stage

-- Data that come for it are kept
abbrev pub keeps_data_at : Option Moment → List ℕ → Bool
keeps_data_at None part = false
keeps_data_at (Some m) part = keeps_data m m.stage part
