use Rattle.std.proofs.Common.{ap}
use Rattle.edit_session.specs.Undoable.{told}
use Rattle.edit_session.proofs.undoable.UndoableGround.change.Goals as goal

pub returns-in-Ok : goal.returns-in-Ok
returns-in-Ok g c = record {
  stood = c.look.ensures;
  stands = c.look-2.ensures;
  accepted = c.in-Ok.ensures.accepted;
  edited = ap told c.in-Ok.ensures.edited;
  back = c.in-Ok.ensures.back;
  refused = tt;
  unchanged = tt;
  steps = c.edit_back-changed.ensures.steps;
  unmade = c.edit_back-changed.ensures.unlaid;
}
