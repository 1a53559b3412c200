-- The way up: fields `nothing_lost`, `on_the_way`, `prefix`, `own_port`, `removals`.
pub mod FrameMoves
pub mod PortMarks
pub mod Law
pub mod Prefix
pub mod Recorded
