-- The ledger is the one that the blank opens.
use Rattle.embed.proofs.desk.Desk.open.Given as goal

abbrev pub ghosts-open_counted : goal.ghosts-open_counted
ghosts-open_counted a = record { name = a.blank.name; parts = a.blank.parts }
