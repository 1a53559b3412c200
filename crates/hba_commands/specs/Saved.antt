-- A command as words.
use Rattle.std.specs.{Prelude.{◌≡◌, ℕ, ◌^◌, ◌<◌, List, length}, List.AllByRecursion}
use Rattle.std.proofs.Common.{ap, sym, ◌∙◌}
use Rattle.saved_state.specs.State.{IsToldApart, all_apart, number_apart, pair_apart, parts_apart, put_all, put_number, put_pair}
use Rattle.slots.specs.{declared.work.Work.Work, Saved.{IsByte, IsDword, KeepsWork, put_work, work_apart}}
use Rattle.hba_commands.specs.declared.command.Command.{Command}

-- it fits a word of 16 bits
abbrev pub IsWord : ℕ → Type 0
IsWord n = n < 2 ^ 16

-- 20 bytes
abbrev pub AreBytes : List ℕ → Type 0
AreBytes all = (length all ≡ 20) × AllByRecursion IsByte all

abbrev pub CommandParts : Type 0
CommandParts = (Work × List ℕ) × (ℕ × ℕ)

-- what it asks for and its command FIS; where its table is and how many PRDs this has
abbrev pub command_parts : Command → CommandParts
command_parts command = ((command.work, command.cfis), (command.table, command.count))

abbrev pub put_command_parts : CommandParts → List ℕ → List ℕ
put_command_parts = put_pair (put_pair put_work (put_all put_number)) (put_pair put_number put_number)

abbrev pub KeepsCommandParts : CommandParts → Type 0
KeepsCommandParts parts = (KeepsWork parts.0.0 × AreBytes parts.0.1) × (IsDword parts.1.0 × IsWord parts.1.1)

abbrev pub put_command : Command → List ℕ → List ℕ
put_command command rest = put_command_parts (command_parts command) rest

abbrev pub KeepsCommand : Command → Type 0
KeepsCommand command = KeepsCommandParts (command_parts command)

bytes_apart : IsToldApart (put_all put_number) AreBytes
bytes_apart a b x y k l e = all_apart put_number IsByte (λ c d v w m n is. number_apart c d v w is) a b x y (k.0 ∙ sym l.0) k.1 l.1 e

pub command_apart : IsToldApart put_command KeepsCommand
command_apart = parts_apart put_command_parts KeepsCommandParts KeepsCommand command_parts
    (pair_apart (put_pair put_work (put_all put_number)) (λ p. KeepsWork p.0 × AreBytes p.1) (pair_apart put_work KeepsWork work_apart (put_all put_number) AreBytes bytes_apart)
    (put_pair put_number put_number) (λ p. IsDword p.0 × IsWord p.1)
    (pair_apart put_number IsDword (λ a b x y k l e. number_apart a b x y e) put_number IsWord (λ a b x y k l e. number_apart a b x y e)))
    (λ c k. k) (λ a b e. ap (λ p. record { work = p.0.0; cfis = p.0.1; table = p.1.0; count = p.1.1 }) e)
