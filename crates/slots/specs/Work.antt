-- The kinds of commands (ACS-3: NCQ, DMA, PIO data-in, PIO data-out and non-data commands; Serial ATA 3.x,
-- 10.5: a Register Host to Device FIS with C 0), and how many bytes each may move.
use Rattle.std.specs.Prelude.{◌≡◌, ℕ, ◌%◌, ◌≤◌, ◌<◌, Bool, true, false}
use Rattle.slots.specs.declared.work.{Work.Work, Kind.{Kind, TheVariants.{QueuedRead, QueuedWrite, DmaIn, DmaOut, PioIn, PioOut, NoData, Control}}}

-- a queued command (NCQ)
abbrev pub is_queued : Kind → Bool
is_queued QueuedRead = true
is_queued QueuedWrite = true
is_queued DmaIn = false
is_queued DmaOut = false
is_queued PioIn = false
is_queued PioOut = false
is_queued NoData = false
is_queued Control = false

-- its data goes to the host
abbrev pub is_read : Kind → Bool
is_read QueuedRead = true
is_read QueuedWrite = false
is_read DmaIn = true
is_read DmaOut = false
is_read PioIn = true
is_read PioOut = false
is_read NoData = false
is_read Control = false

-- it moves its data by DMA with no setup (ACS-3, READ DMA and WRITE DMA)
abbrev pub is_dma : Kind → Bool
is_dma QueuedRead = false
is_dma QueuedWrite = false
is_dma DmaIn = true
is_dma DmaOut = true
is_dma PioIn = false
is_dma PioOut = false
is_dma NoData = false
is_dma Control = false

-- it is a PIO data-out
abbrev pub is_out : Kind → Bool
is_out QueuedRead = false
is_out QueuedWrite = false
is_out DmaIn = false
is_out DmaOut = false
is_out PioIn = false
is_out PioOut = true
is_out NoData = false
is_out Control = false

-- it moves data, and its device's answer ends it, once all its bytes were transferred
abbrev pub needs_all : Kind → Bool
needs_all QueuedRead = false
needs_all QueuedWrite = false
needs_all DmaIn = true
needs_all DmaOut = true
needs_all PioIn = true
needs_all PioOut = true
needs_all NoData = false
needs_all Control = false

-- these kinds move data, and no others do
abbrev pub HasDataExactly : Kind → ℕ → Type 0
HasDataExactly QueuedRead len = 0 < len
HasDataExactly QueuedWrite len = 0 < len
HasDataExactly DmaIn len = 0 < len
HasDataExactly DmaOut len = 0 < len
HasDataExactly PioIn len = 0 < len
HasDataExactly PioOut len = 0 < len
HasDataExactly NoData len = len ≡ 0
HasDataExactly Control len = len ≡ 0

-- what a command can ask for: whole dwords, at most 32 MiB (65,536 sectors), and some bytes exactly if its kind moves data
abbrev pub IsWork : Work → Type 0
IsWork work = (work.len % 4 ≡ 0) × (work.len ≤ 0x2000000) × HasDataExactly work.kind work.len
