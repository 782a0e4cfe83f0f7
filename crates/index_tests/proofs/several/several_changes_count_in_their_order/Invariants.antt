use Rattle.index_tests.proofs.several.several_changes_count_in_their_order.Given as goal

-- the blank's own ledger
abbrev pub ghosts-rows_are_told : goal.ghosts-rows_are_told
ghosts-rows_are_told g a = record { name = a.blank.name; parts = a.blank.parts }
