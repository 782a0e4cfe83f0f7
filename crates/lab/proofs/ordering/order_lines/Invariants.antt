use Rattle.lab.proofs.ordering.order_lines.Given as goal

-- the blank's own ledger
abbrev pub ghosts-push_lines : goal.ghosts-push_lines
ghosts-push_lines a = record { name = a.blank.name; parts = a.blank.parts }
