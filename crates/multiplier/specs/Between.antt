-- The words in which lemmas are stated that proofs of other crates use (`proofs/Door.antt`), and the words that these need.
-- No clause says them.
use Rattle.std.specs.{Prelude.{List, None, Option, Some, false, slice_index_or, true, ℕ, ◌++◌, ◌<◌, ◌≡◌, ◌≢◌, ◌≤◌, []}, Option.option_to_list}
use Rattle.fis_view.specs.Frames.{Stamped}
use Rattle.pm_registers.specs.RegisterMap as map
use Rattle.pm_control.specs.Answers.{IsNotice}
use Rattle.pm_ports.specs.Port as port
use Rattle.multiplier.specs.declared.given.Source.TheVariants as source
use Rattle.multiplier.specs.{Arbiter.control_port, Passing.{AreNumbered, Call, NeverFall, NeverFallTo, Past, answer_by, answers, came_by, falls_to}}
use Rattle.multiplier.specs.Passing.{for_conn, gone_by, held_of, highest, lost_down, lost_down_by, lost_up_by, of_conn, passed_by, past_after}
use Rattle.multiplier.specs.{Passing.{present_after, to_port}, Rules.{held_source, may_go_back}, State.{IsSound, PmState, control_stamp, counted}}
use Rattle.multiplier.specs.State.{held, next_place, port_at, rising, with_port}

-- the ports of a multiplier, by their numbers
abbrev pub Ports : Type 0
Ports = List port.PortState

-- the state of a port
abbrev pub at : Ports → ℕ → port.PortState
at ports n = slice_index_or ports n port.empty_port

-- the multiplier after the FIS that waits upwards at a port is gone
abbrev pub lowered : PmState → ℕ → PmState
lowered pm n = with_port pm n (port.with_up (port_at pm n) None)

-- the three ways in which the multiplier gives a FIS to the host: one that came from a port, a notification, and the
-- answer of the control port
pub data Gives (old : PmState) (frame : Stamped) (new : PmState) : Type 0 where
  FromPort : (n : ℕ) (was : Stamped) → next_place old ≡ Some n → n ≢ control_port → held old n ≡ Some was → was.stamp.port ≡ n
      → frame ≡ rising n was → new ≡ record (lowered old n) { served = n; given = may_go_back old (held_source was) frame } → Gives old frame new
  Notice : next_place old ≡ Some control_port → old.registers.due ≡ true → IsNotice true (control_stamp old) (Some frame)
      → new ≡ record old { registers = map.after_notice old.registers; number = counted old.number; served = control_port; given = may_go_back old source.Notice frame } → Gives old frame new
  Answer : next_place old ≡ Some control_port → old.answer ≡ Some frame
      → new ≡ record old { answer = None; served = control_port; given = may_go_back old source.Answer frame } → Gives old frame new

-- of a connection that is gone nothing comes in, is passed down or is dropped
pub record IsOver (n c : ℕ) (present : Option ℕ) (call : Call) : Type 0 where
  pub came : came_by n c call ≡ []
  pub lost : lost_up_by n c call ≡ []
  pub passed : for_conn c (passed_by n present call) ≡ []
  pub lost_down : for_conn c (lost_down_by n call) ≡ []

-- One call: what it gave, then what waits, and then what it dropped, is what waited and then what it took in.
pub record IsStep (past : Past) (old : PmState) (call : Call) (new : PmState) : Type 0 where
  pub sound : IsSound new
  pub up : (n c : ℕ) → n < 15 → of_conn n c (past_after past call).up ++ held_of n c new ++ lost_up_by n c call ≡ of_conn n c past.up ++ held_of n c old ++ came_by n c call
  pub connections : (n : ℕ) → n < 15 → NeverFall n past.up (port_at old n).last → NeverFall n (past_after past call).up (port_at new n).last
  pub last : (n : ℕ) → (port_at old n).last ≤ (port_at new n).last
  pub present : (n : ℕ) → n < 15 → (port_at new n).present ≡ present_after n (port_at old n).present call
  pub down : (n : ℕ) → n < 15 → to_port n (past_after past call).down ++ falls_to n new ++ lost_down_by n call ≡ to_port n past.down ++ falls_to n old ++ passed_by n (port_at old n).present call
  pub connections_down : (n : ℕ) → n < 15 → NeverFallTo n past.down (port_at old n).last → NeverFallTo n (past_after past call).down (port_at new n).last
  pub gone : (n : ℕ) → n < 15 → (port_at new n).gone ≡ highest (port_at old n).gone (gone_by n call)
  pub kept : (n c : ℕ) → n < 15 → port.is_gone (port_at new n) c ≡ false → (lost_up_by n c call ≡ []) × (for_conn c (lost_down_by n call) ≡ [])
  pub over : (n c : ℕ) → n < 15 → port.is_gone (port_at old n) c ≡ true → IsOver n c (port_at old n).present call
  pub answered : answers (past_after past call).up ++ option_to_list new.answer ≡ answers past.up ++ option_to_list old.answer ++ answer_by call
  pub numbers : (first : ℕ) → AreNumbered first past.made old.number → AreNumbered first (past_after past call).made new.number
