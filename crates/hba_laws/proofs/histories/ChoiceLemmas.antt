-- For `core_isolated` and `core_delivers`. What is known of commands that the caller issues and of turns that it chooses.
use Rattle.std.proofs.{Common.{◌≡◌, ℕ, ◌<◌, Bool, true, false, cond, refl, sym, ap, ◌∙◌, Option, Some, None}, lemmas.Bool.{false≢true}}
use Rattle.std.specs.Prelude.{MatchOption, ◌&&◌, if◌then◌else◌, is_some, not}
use Rattle.hba_commands.specs.declared.command.Command.{Command}
use Rattle.slots.specs.Slots.{Issue, has_bit, issue_at, lowest, own_issue, slots_of, waiting}
use Rattle.slots.proofs.Door.{none_below}
use Rattle.hba_fbs.specs.{declared.{error.IssueError.IssueError, turn.Turn.{Turn, TheVariants.{Feeds, Orders, Rests}}}, Choosing.{GoesTo, MayChoose}}
use Rattle.hba_fbs.specs.{Issuing.{any_slot, is_busy}, Offering.{Offer, asked_by, is_bad_by}, Placing.issue_error, Turning.{Goes, IsOrdered}}
use Rattle.hba_fbs.specs.Views.{DeviceView, Port}
use Rattle.hba_fbs.specs.declared.error.IssueError.TheVariants as refusal
use Rattle.hba_fbs.proofs.Door.{own_here}

-- ---- commands are issued in free slots

second_fails : (a b c : Bool) → (if a then Some refusal.Stopped else if b then Some refusal.SlotBusy else if c then Some refusal.NoCommand else None) ≡ None → b ≡ false
second_fails true b c h = cc
second_fails false true c h = cc
second_fails false false c h = refl

pub none_busy : (port : Port) (offer : Offer) (value : ℕ) → issue_error port offer value ≡ None → any_slot value (is_busy port.slots) ≡ false
none_busy port offer value h = second_fails (not port.registers.started) (any_slot value (is_busy port.slots)) (any_slot value (is_bad_by offer)) h

not_some : (o : Option ℕ) → is_some o ≡ false → o ≡ None
not_some None h = refl
not_some (Some k) h = cc

not_issued : (o : Option Issue) → is_some o ≡ false → o ≡ None
not_issued None h = refl
not_issued (Some i) h = cc

flag_set : (b : Bool) (c : Option Command) → is_some (cond b c None) ≡ true → b ≡ true
flag_set true c e = refl
flag_set false c e = absurd (false≢true e)

pub placed_free : (port : Port) (offer : Offer) (value s : ℕ) → issue_error port offer value ≡ None → s < 32 → is_some (asked_by offer value s) ≡ true → issue_at port.slots s ≡ None
placed_free port offer value s accepted lt some =
    let bit : has_bit value s ≡ true = flag_set (has_bit value s) (offer.commands s) some in
    let calm : (has_bit value s && is_busy port.slots s) ≡ false =
    none_below (λ k. has_bit value k && is_busy port.slots k) 32
    (not_some (lowest (λ k. has_bit value k && is_busy port.slots k)) (none_busy port offer value accepted)) s lt in
    not_issued (issue_at port.slots s) (sym (ap (λ b. b && is_busy port.slots s) bit) ∙ calm)

-- ---- what goes as it was chosen

-- but for the active device, it goes as what a port that chooses by itself lets go
pub as_goes : (old new : Port) (dev : ℕ) (w : DeviceView) (active : ℕ) → GoesTo old dev w active new → Goes old dev w (record new { active = old.active })
as_goes old new dev w active goes = record {
  own = goes.own;
  others = goes.others;
  registers = goes.registers;
  errors = goes.errors;
  commands = goes.commands;
  number = goes.number;
  active = refl;
}

some_is : (o : Option Issue) (dev : ℕ) → MatchOption o ⊥ (λ issue. issue.dev ≡ dev) → is_some o ≡ true
some_is None dev h = absurd h
some_is (Some i) dev h = refl

-- a command that was chosen is its device's
pub chosen_own : (port : Port) (dev slot : ℕ) (command : Command) → IsOrdered port dev slot command → own_issue (slots_of dev port.slots) slot ≡ issue_at port.slots slot
chosen_own port dev slot command ordered = own_here dev slot port.slots ordered.owner

pub chosen_filled : (port : Port) (dev slot : ℕ) (command : Command) → IsOrdered port dev slot command → is_some (own_issue (slots_of dev port.slots) slot) ≡ true
chosen_filled port dev slot command ordered =
    ap is_some (chosen_own port dev slot command ordered) ∙ some_is (issue_at port.slots slot) dev ordered.owner
