use Rattle.run_cases.proofs.counted.run_once.Given as goal

-- the ledger is the one that the blank opens
abbrev pub ghosts-run_counted : goal.ghosts-run_counted
ghosts-run_counted a = record { name = a.blank.name; parts = a.blank.parts }
