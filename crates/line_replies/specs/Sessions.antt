-- What crates above name of sessions, handed on by its name: so they stand on this crate alone.
pub use Rattle.edit_session.specs.Counts.{TakesNeeded, TakesVisits}
pub use Rattle.edit_session.specs.Session.{SessionValue, edited_session, page, root_box}
pub use Rattle.edit_session.specs.Undoable.{told}
pub use Rattle.edit_session.specs.declared.undoable.Undoable.{Undoable}
