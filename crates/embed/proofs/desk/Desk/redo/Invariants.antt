-- The ledger is the one that the blank opens.
use Rattle.embed.proofs.desk.Desk.redo.Given as goal

abbrev pub ghosts-redo_counted : goal.ghosts-redo_counted
ghosts-redo_counted a = record { name = a.blank.name; parts = a.blank.parts }
