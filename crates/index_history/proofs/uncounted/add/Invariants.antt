use Rattle.index_history.proofs.uncounted.add.Given as goal

-- the ledger of the blank
abbrev pub ghosts-add_counted : goal.ghosts-add_counted
ghosts-add_counted g a = record { name = a.blank.name; parts = a.blank.parts }
