-- The rule of restored commands: what fits is what every command under way keeps.
use Rattle.std.proofs.{Common.{◌≡◌, ℕ, ◌+◌, ◌^◌, true, List, length, sym, subst, arith}, lemmas.Bool.{lt-ltb, ltb-true, le-leb, leb-true, and_parts}}
use Rattle.std.proofs.lemmas.Bool.{and_from}
use Rattle.std.specs.Prelude.{◌&&◌, nat_lt, nat_le}
use Rattle.block_command.specs.{declared.command.Command.Command, Moments.{IsCommand, IsMoment, Moment, part_len}, Saved.{KeepsMoment, KeepsParts}}
use Rattle.block_command.specs.Saved.{Parts, fit, fits, is_command, parts_of, put_moment, put_parts}

command_is : (c : Command) → is_command c ≡ true → IsCommand c
command_is c e =
    let e5 = and_parts _ (nat_le c.block 8192) e in
    let e4 = and_parts _ (nat_le 512 c.block) e5.0 in
    let e3 = and_parts _ (nat_le (c.lba + c.count) (2 ^ 48)) e4.0 in
    let e2 = and_parts _ (nat_le c.lba (2 ^ 48)) e3.0 in
    let e1 = and_parts (nat_lt 0 c.count) (nat_le c.count 65536) e2.0 in
    record {
      some = ltb-true 0 c.count e1.0;
      most = leb-true c.count 65536 e1.1;
      within = leb-true (c.lba + c.count) (2 ^ 48) e3.1;
      block = leb-true 512 c.block e4.1;
      block_most = leb-true c.block 8192 e5.1;
    }

is_then : (c : Command) → IsCommand c → is_command c ≡ true
is_then c is =
    let within = is.within in
    and_from _ (nat_le c.block 8192) (and_from _ (nat_le 512 c.block) (and_from _ (nat_le (c.lba + c.count) (2 ^ 48))
    (and_from _ (nat_le c.lba (2 ^ 48)) (and_from (nat_lt 0 c.count) (nat_le c.count 65536) (lt-ltb 0 c.count is.some)
    (le-leb c.count 65536 is.most)) (le-leb c.lba (2 ^ 48) (omega (arith, within)))) (le-leb (c.lba + c.count) (2 ^ 48) is.within))
    (le-leb 512 c.block is.block)) (le-leb c.block 8192 is.block_most)

pub fit_keeps : (m : Moment) → fit (parts_of m) ≡ true → IsMoment m
fit_keeps m e =
    let e3 = and_parts _ (nat_le m.sent (length m.bytes)) e in
    let e2 = and_parts _ (nat_le (length m.bytes) (part_len m.command m.done)) e3.0 in
    let e1 = and_parts (is_command m.command) (nat_le m.done m.command.count) e2.0 in
    record {
      command = command_is m.command e1.0;
      done = leb-true m.done m.command.count e1.1;
      bytes = leb-true (length m.bytes) (part_len m.command m.done) e2.1;
      sent = leb-true m.sent (length m.bytes) e3.1;
    }

pub keeps_fit : (m : Moment) → IsMoment m → fit (parts_of m) ≡ true
keeps_fit m is =
    and_from _ (nat_le m.sent (length m.bytes)) (and_from _ (nat_le (length m.bytes) (part_len m.command m.done))
    (and_from (is_command m.command) (nat_le m.done m.command.count) (is_then m.command is.command) (le-leb m.done m.command.count is.done))
    (le-leb (length m.bytes) (part_len m.command m.done) is.bytes)) (le-leb m.sent (length m.bytes) is.sent)

abbrev pub moment_of : Parts → List ℕ → Moment
moment_of parts bytes = record { command = parts.0; stage = parts.1.0; done = parts.1.1; bytes = bytes; sent = parts.2.1 }

-- a command of parts that fit
pub restored : (parts : Parts) (old new bytes : List ℕ) → bytes ≡ parts.2.0 → (old ≡ put_parts parts new) × KeepsParts parts
    → fits parts.0 parts.1.1 (length bytes) parts.2.1 ≡ true
    → (old ≡ put_moment (moment_of parts bytes) new) × KeepsMoment (moment_of parts bytes)
restored parts old new bytes is from fit =
    let P : List ℕ → Type 0 = λ xs. (old ≡ put_moment (moment_of parts xs) new) × KeepsParts (parts_of (moment_of parts xs)) in
    let both = subst P (sym is) from in
    (both.0, (both.1, fit_keeps (moment_of parts bytes) fit))
