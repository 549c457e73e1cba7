-- The ledger is the one that the blank opens.
use Rattle.embed.proofs.desk.Desk.line.Given as goal

abbrev pub ghosts-line_counted : goal.ghosts-line_counted
ghosts-line_counted a = record { name = a.blank.name; parts = a.blank.parts }
