use Rattle.seat_tests.proofs.rows.uses_rows.Given as goal

-- the blank's own ledger
abbrev pub ghosts-finds_none : goal.ghosts-finds_none
ghosts-finds_none g a = record { name = a.blank.name; parts = a.blank.parts }
