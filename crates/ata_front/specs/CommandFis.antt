-- The FIS of a command that moves sectors, by what is next for it (ACS-3, 4, protocols; Serial ATA 3.x, 10.5 and 13.6).
use Rattle.std.specs.Prelude.{ℕ, ◌+◌, ◌-◌, ◌*◌, ◌==◌, ◌&&◌, nat_le, nat_lt, Bool, true, false, not, length, Option, Some, None, if◌then◌else◌}
use Rattle.block_command.specs.declared.command.Command as block
use Rattle.block_command.specs.{declared.command.{Protocol.Protocol, Turn.Turn}, Moments.{Moment, part_count, part_lba, part_of, turn_of}}
use Rattle.block_command.specs.declared.command.Protocol.TheVariants as protocol
use Rattle.block_command.specs.declared.command.Turn.TheVariants as turn
use Rattle.ata_reply.specs.declared.reply.Reply.{Reply}
use Rattle.ata_reply.specs.declared.reply.Reply.TheVariants as reply
use Rattle.ata_front.specs.declared.task.Trouble.{Trouble}

-- a block of a read by PIO is its next Data; the last one is all that was not sent
abbrev pub announced_read : Moment → (left : ℕ) → Reply
announced_read m left = reply.Announce (record {
  to_host = true;
  first = left == m.command.count;
  last = nat_le (left * 512) (length (part_of m));
  bytes = length (part_of m);
})

-- the bytes of the part of a write that have not come
abbrev pub wanting : Moment → ℕ
wanting m = part_count m.command m.done * 512 - length m.bytes

abbrev pub least : ℕ → ℕ → ℕ
least a b = if nat_lt a b then a else b

abbrev pub announced_write : Moment → Reply
announced_write m = reply.Announce (record {
  to_host = false;
  first = (length m.bytes == 0) && (part_lba m == m.command.lba);
  last = false;
  bytes = least (wanting m) m.command.block;
})

abbrev pub asks_by : Moment → Protocol → Reply
asks_by m protocol.Pio = announced_write m
asks_by m _ = reply.Activate

abbrev pub asks_data : Moment → Reply
asks_data m = asks_by m m.command.protocol

-- One DMA Setup FIS for all of a command. With auto-activate its bit A says that Data may come: no DMA Activate goes before them.
abbrev pub set_up : block.Command → Reply
set_up c = reply.SetUp (record {
  tag = c.place;
  to_host = not c.write;
  auto_activate = c.auto_activate;
  bytes = c.count * 512;
})

-- the error of a queued command is told by Set Device Bits, of any other by a Register FIS
abbrev pub failure_of : block.Command → Trouble → (wide : Bool) → Reply
failure_of c t wide =
    if nat_lt c.place 32 then reply.Aborts t.error
    else reply.Failed (record { error = t.error; lba = t.lba; wide = wide })

abbrev pub reply_by : Moment → Turn → (left : ℕ) → Trouble → (wide : Bool) → Option Reply
reply_by m turn.SetUp left t wide = Some (set_up m.command)
reply_by m turn.Announce left t wide = Some (announced_read m left)
reply_by m turn.Activate left t wide = Some (asks_data m)
reply_by m turn.End left t wide = Some reply.Done
reply_by m turn.Fail left t wide = Some (failure_of m.command t wide)
reply_by m _ left t wide = None

abbrev pub command_reply : Moment → (left : ℕ) → Trouble → (wide : Bool) → Option Reply
command_reply m left t wide = reply_by m (turn_of m.stage) left t wide
