-- The rules of a port and what is tested of it say the same.
use Rattle.std.proofs.Common.{◌≡◌, ℕ, Bool, true, false, not, ◌&&◌, ◌||◌, nat_lt, List, refl, ap, arith, inl, inr, Option, Some, None}
use Rattle.std.proofs.lemmas.{Bool.{and_from, and_parts, cases_lt, false≢true, lt-ltb, ltb-true, true≢false}, List.get_or_past}
use Rattle.std.specs.Option.{is_none, is_some}
use Rattle.slots.specs.{Slots.{Issue, Slots, issue_at, lowest}, Table.IsTable}
use Rattle.slots.proofs.Door.{lowest_none, none_below}
use Rattle.hba_commands.specs.declared.command.Command.{Command}
use Rattle.hba_fbs.specs.{Saved.{are_own, have_commands, is_core, lacks_command}, Views.{HaveCommands, IsCorePort, Port, last_command}}

then : (x y : Bool) → (not x || y) ≡ true → x ≡ true → y ≡ true
then true y h e = h
then false y h e = absurd (false≢true e)

from_then : (x y : Bool) → (x ≡ true → y ≡ true) → (not x || y) ≡ true
from_then true y h = h refl
from_then false y h = refl

none_is : (o : Option ℕ) → is_none o ≡ true → o ≡ None
none_is None h = refl
none_is (Some n) h = absurd (false≢true h)

-- a slot that does not lack a command, and has none, has no issue
no_issue_by : (c : Option Command) (o : Option Issue) → (is_none c && is_some o) ≡ false → c ≡ None → o ≡ None
no_issue_by None None h e = refl
no_issue_by None (Some issue) h e = absurd (true≢false h)
no_issue_by (Some command) o h e = absurd (cc)

lacks_none : (c : Option Command) (o : Option Issue) → (c ≡ None → o ≡ None) → (is_none c && is_some o) ≡ false
lacks_none None o h = ap is_some (h refl)
lacks_none (Some command) o h = refl

commands_then : (slots : Slots) (commands : List (Option Command)) → IsTable slots → have_commands slots commands ≡ true → HaveCommands slots commands
commands_then slots commands is h slot none = elim (cases_lt slot 32) [
  | inl lt ↦
      no_issue_by (last_command commands slot) (issue_at slots slot)
      (none_below (lacks_command slots commands) 32 (none_is (lowest (lacks_command slots commands)) h) slot lt) none
  | inr ge ↦ get_or_past slots.issues slot None (omega (arith, ge, is.slots))
]

pub core_is : (port : Port) → IsTable port.slots → is_core port.registers port.slots port.commands port.active ≡ true → IsCorePort port
core_is port is h =
    let outer = and_parts (are_own port.registers && nat_lt port.active 16) (have_commands port.slots port.commands) h in
    let inner = and_parts (are_own port.registers) (nat_lt port.active 16) outer.0 in
    let own = and_parts (nat_lt port.registers.chosen 16) (not port.registers.started || port.registers.receives) inner.0 in
    record {
      registers = record { chosen = ltb-true port.registers.chosen 16 own.0; receives = then port.registers.started port.registers.receives own.1 };
      commands = commands_then port.slots port.commands is outer.1;
      active = ltb-true port.active 16 inner.1;
    }

pub core_then : (port : Port) → IsCorePort port → is_core port.registers port.slots port.commands port.active ≡ true
core_then port is =
    and_from (are_own port.registers && nat_lt port.active 16) (have_commands port.slots port.commands)
    (and_from (are_own port.registers) (nat_lt port.active 16)
    (and_from (nat_lt port.registers.chosen 16) (not port.registers.started || port.registers.receives) (lt-ltb port.registers.chosen 16 is.registers.chosen)
    (from_then port.registers.started port.registers.receives is.registers.receives))
    (lt-ltb port.active 16 is.active))
    (ap (λ (o : Option ℕ). is_none o) (lowest_none (lacks_command port.slots port.commands) 32
    (λ k lt. lacks_none (last_command port.commands k) (issue_at port.slots k) (is.commands k))))
