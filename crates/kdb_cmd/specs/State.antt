-- The state of a line, by its parts, for who stands on the lines.
pub use Rattle.kdb_view.specs.State.{state_of}
