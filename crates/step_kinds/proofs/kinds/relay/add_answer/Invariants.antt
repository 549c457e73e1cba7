use Rattle.step_kinds.proofs.kinds.relay.add_answer.Given as goal

-- the ledger is the one that the blank opens
abbrev pub ghosts-add_counted : goal.ghosts-add_counted
ghosts-add_counted a = record { name = a.blank.name; parts = a.blank.parts }
