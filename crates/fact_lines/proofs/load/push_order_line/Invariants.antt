use Rattle.fact_lines.proofs.load.push_order_line.Given as goal

-- the ledger of the blank
abbrev pub ghosts-count_live : goal.ghosts-count_live
ghosts-count_live g a = record { name = a.blank.name; parts = a.blank.parts }
