-- Commands as words.
use Rattle.std.specs.{Prelude.{◌≡◌, ℕ, ◌+◌, ◌<◌, ◌^◌, Bool, ◌&&◌, nat_lt, nat_le, List, [], ◌∷◌, length, slice_index_or, refl}, List.AllByRecursion}
use Rattle.std.proofs.Common.{ap, sym, ◌∙◌}
use Rattle.saved_state.specs.State.{IsToldApart, put_bool, put_list, put_number, put_pair, put_three, bool_apart, list_apart, number_apart}
use Rattle.saved_state.specs.State.{pair_apart, parts_apart, three_apart}
use Rattle.block_command.specs.declared.command.{Command.Command, Protocol.{Protocol, TheVariants.{Queued, Dma, Pio, Verify}}, Stage.Stage}
use Rattle.block_command.specs.declared.command.Stage.TheVariants.{Waiting, Load, Loading, SetUpRead, Announce, Sending, SetUpWrite, Activate}
use Rattle.block_command.specs.{declared.command.Stage.TheVariants.{Receiving, Store, Storing, Flush, Flushing, End, Fail, Ended}, Moments.IsMoment}
use Rattle.block_command.specs.Moments.{Moment, part_len}

abbrev pub protocol_number : Protocol → ℕ
protocol_number Queued = 0
protocol_number Dma = 1
protocol_number Pio = 2
protocol_number Verify = 3

abbrev pub put_protocol : Protocol → List ℕ → List ℕ
put_protocol protocol rest = protocol_number protocol ∷ rest

abbrev pub stage_number : Stage → ℕ
stage_number Waiting = 0
stage_number Load = 1
stage_number Loading = 2
stage_number SetUpRead = 3
stage_number Announce = 4
stage_number Sending = 5
stage_number SetUpWrite = 6
stage_number Activate = 7
stage_number Receiving = 8
stage_number Store = 9
stage_number Storing = 10
stage_number Flush = 11
stage_number Flushing = 12
stage_number End = 13
stage_number Fail = 14
stage_number Ended = 15

abbrev pub stages : List Stage
stages = Waiting ∷ Load ∷ Loading ∷ SetUpRead ∷ Announce ∷ Sending ∷ SetUpWrite ∷ Activate ∷ Receiving ∷ Store ∷ Storing ∷ Flush ∷ Flushing
    ∷ End ∷ Fail ∷ Ended ∷ []

-- the stage of a number
abbrev pub stage_of : ℕ → Stage
stage_of n = slice_index_or stages n Waiting

abbrev pub put_stage : Stage → List ℕ → List ℕ
put_stage stage rest = stage_number stage ∷ rest

-- ## A command: its place and its sectors, what it does with them, and how its bytes move

abbrev pub CommandParts : Type 0
CommandParts = (ℕ × ℕ × ℕ) × (Bool × Bool × Protocol) × (ℕ × Bool)

abbrev pub command_parts : Command → CommandParts
command_parts c = ((c.place, c.lba, c.count), (c.write, c.lasting, c.protocol), (c.block, c.auto_activate))

abbrev pub put_command_parts : CommandParts → List ℕ → List ℕ
put_command_parts =
    put_three (put_three put_number put_number put_number) (put_three put_bool put_bool put_protocol) (put_pair put_number put_bool)

-- each number fits its place
abbrev pub KeepsCommandParts : CommandParts → Type 0
KeepsCommandParts parts = ((parts.0.0 < 2 ^ 8) × (parts.0.1 < 2 ^ 64) × (parts.0.2 < 2 ^ 32))
    × (Unit {0} × Unit {0} × Unit {0}) × ((parts.2.0 < 2 ^ 32) × Unit {0})

abbrev pub put_command : Command → List ℕ → List ℕ
put_command c rest = put_command_parts (command_parts c) rest

abbrev pub KeepsCommand : Command → Type 0
KeepsCommand c = KeepsCommandParts (command_parts c)

-- ## A command under way: the command, how far it has come, and the bytes of its part

abbrev pub Parts : Type 0
Parts = Command × (Stage × ℕ) × (List ℕ × ℕ)

abbrev pub parts_of : Moment → Parts
parts_of m = (m.command, (m.stage, m.done), (m.bytes, m.sent))

abbrev pub put_parts : Parts → List ℕ → List ℕ
put_parts = put_three put_command (put_pair put_stage put_number) (put_pair (put_list put_number) put_number)

abbrev pub KeepsParts : Parts → Type 0
KeepsParts parts = KeepsCommand parts.0 × (Unit {0} × (parts.1.1 < 2 ^ 32))
    × (AllByRecursion (λ n. n < 2 ^ 8) parts.2.0 × (parts.2.1 < 2 ^ 64))

abbrev pub put_moment : Moment → List ℕ → List ℕ
put_moment m rest = put_parts (parts_of m) rest

-- its parts fit their places, and it keeps what every command under way keeps
abbrev pub KeepsMoment : Moment → Type 0
KeepsMoment m = KeepsParts (parts_of m) × IsMoment m

-- whether a disk takes the command
abbrev pub is_command : Command → Bool
is_command c = nat_lt 0 c.count && nat_le c.count 65536 && nat_le c.lba (2 ^ 48) && nat_le (c.lba + c.count) (2 ^ 48)
    && nat_le 512 c.block && nat_le c.block 8192

-- whether a command can have come so far: so many sectors done, so many bytes of the part, so many of them sent
abbrev pub fits : Command → (done len sent : ℕ) → Bool
fits c done len sent = is_command c && nat_le done c.count && nat_le len (part_len c done) && nat_le sent len

abbrev pub fit : Parts → Bool
fit parts = fits parts.0 parts.1.1 (length parts.2.0) parts.2.1

-- ## Words are those of one value

protocol_same : (a b : Protocol) → protocol_number a ≡ protocol_number b → a ≡ b
protocol_same Queued Queued e = refl
protocol_same Dma Dma e = refl
protocol_same Pio Pio e = refl
protocol_same Verify Verify e = refl
protocol_same a b e = absurd (cc)

stage_found : (s : Stage) → stage_of (stage_number s) ≡ s
stage_found Waiting = refl
stage_found Load = refl
stage_found Loading = refl
stage_found SetUpRead = refl
stage_found Announce = refl
stage_found Sending = refl
stage_found SetUpWrite = refl
stage_found Activate = refl
stage_found Receiving = refl
stage_found Store = refl
stage_found Storing = refl
stage_found Flush = refl
stage_found Flushing = refl
stage_found End = refl
stage_found Fail = refl
stage_found Ended = refl

stage_same : (a b : Stage) → stage_number a ≡ stage_number b → a ≡ b
stage_same a b e = sym (stage_found a) ∙ ap stage_of e ∙ stage_found b

pub protocol_apart : IsToldApart put_protocol (λ _. Unit {0})
protocol_apart a b x y k l e = let same : protocol_number a ≡ protocol_number b = cc in (protocol_same a b same, cc)

pub stage_apart : IsToldApart put_stage (λ _. Unit {0})
stage_apart a b x y k l e = let same : stage_number a ≡ stage_number b = cc in (stage_same a b same, cc)

numbers_apart : (bound : ℕ) → IsToldApart put_number (λ n. n < bound)
numbers_apart bound a b x y k l e = number_apart a b x y e

bools_apart : IsToldApart put_bool (λ _. Unit {0})
bools_apart a b x y k l e = bool_apart a b x y e

pub command_parts_apart : IsToldApart put_command_parts KeepsCommandParts
command_parts_apart = three_apart
    (put_three put_number put_number put_number) (λ t. (t.0 < 2 ^ 8) × (t.1 < 2 ^ 64) × (t.2 < 2 ^ 32))
    (three_apart put_number (λ n. n < 2 ^ 8) (numbers_apart (2 ^ 8)) put_number (λ n. n < 2 ^ 64) (numbers_apart (2 ^ 64))
    put_number (λ n. n < 2 ^ 32) (numbers_apart (2 ^ 32)))
    (put_three put_bool put_bool put_protocol) (λ t. Unit {0} × Unit {0} × Unit {0})
    (three_apart put_bool (λ _. Unit {0}) bools_apart put_bool (λ _. Unit {0}) bools_apart put_protocol (λ _. Unit {0}) protocol_apart)
    (put_pair put_number put_bool) (λ t. (t.0 < 2 ^ 32) × Unit {0})
    (pair_apart put_number (λ n. n < 2 ^ 32) (numbers_apart (2 ^ 32)) put_bool (λ _. Unit {0}) bools_apart)

pub command_apart : IsToldApart put_command KeepsCommand
command_apart = parts_apart put_command_parts KeepsCommandParts KeepsCommand command_parts command_parts_apart (λ c k. k)
    (λ a b e. ap (λ p. record {
      place = p.0.0;
      lba = p.0.1;
      count = p.0.2;
      write = p.1.0;
      lasting = p.1.1;
      protocol = p.1.2;
      block = p.2.0;
      auto_activate = p.2.1;
    }) e)

pub parts_told_apart : IsToldApart put_parts KeepsParts
parts_told_apart = three_apart put_command KeepsCommand command_apart
    (put_pair put_stage put_number) (λ t. Unit {0} × (t.1 < 2 ^ 32))
    (pair_apart put_stage (λ _. Unit {0}) stage_apart put_number (λ n. n < 2 ^ 32) (numbers_apart (2 ^ 32)))
    (put_pair (put_list put_number) put_number) (λ t. AllByRecursion (λ n. n < 2 ^ 8) t.0 × (t.1 < 2 ^ 64))
    (pair_apart (put_list put_number) (AllByRecursion (λ n. n < 2 ^ 8)) (list_apart put_number (λ n. n < 2 ^ 8) (numbers_apart (2 ^ 8)))
    put_number (λ n. n < 2 ^ 64) (numbers_apart (2 ^ 64)))

pub moment_apart : IsToldApart put_moment KeepsMoment
moment_apart = parts_apart put_parts KeepsParts KeepsMoment parts_of parts_told_apart (λ m k. k.0)
    (λ a b e. ap (λ p. record { command = p.0; stage = p.1.0; done = p.1.1; bytes = p.2.0; sent = p.2.1 }) e)
