use Rattle.lab.proofs.indexing.index_line.Given as goal

-- the blank's own ledger
abbrev pub ghosts-counts : goal.ghosts-counts
ghosts-counts a = record { name = a.blank.name; parts = a.blank.parts }
