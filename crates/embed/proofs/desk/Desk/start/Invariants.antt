-- The ledger is the one that the blank opens.
use Rattle.embed.proofs.desk.Desk.start.Given as goal

abbrev pub ghosts-start_counted : goal.ghosts-start_counted
ghosts-start_counted a = record { name = a.blank.name; parts = a.blank.parts }
