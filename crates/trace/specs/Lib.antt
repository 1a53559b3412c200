pub use Rattle.trace_text.specs.Statuses
