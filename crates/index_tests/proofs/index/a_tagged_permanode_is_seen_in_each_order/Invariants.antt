use Rattle.index_tests.proofs.index.a_tagged_permanode_is_seen_in_each_order.Given as goal

-- the blank's own ledger
abbrev pub ghosts-is_tagged : goal.ghosts-is_tagged
ghosts-is_tagged g a = record { name = a.blank.name; parts = a.blank.parts }
