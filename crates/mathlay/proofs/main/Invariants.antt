use Rattle.mathlay.proofs.main.Given as goal

-- the ledger is the one that the blank opens
abbrev pub ghosts-started : goal.ghosts-started
ghosts-started a = record { name = a.blank.name; parts = a.blank.parts }
