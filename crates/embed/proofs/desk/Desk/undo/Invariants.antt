-- The ledger is the one that the blank opens.
use Rattle.embed.proofs.desk.Desk.undo.Given as goal

abbrev pub ghosts-undo_counted : goal.ghosts-undo_counted
ghosts-undo_counted a = record { name = a.blank.name; parts = a.blank.parts }
