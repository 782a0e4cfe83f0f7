use Rattle.fault_rows.proofs.tell_indexed.Given as goal

-- the blank's own ledger
abbrev pub ghosts-tell_index : goal.ghosts-tell_index
ghosts-tell_index a = record { name = a.blank.name; parts = a.blank.parts }
