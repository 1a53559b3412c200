mod honest
mod unasked
mod together
mod apart
mod coming
mod aside
mod both_ends
mod each_end
mod flushes
pub mod Door
