use Rattle.fact_lines.proofs.load.push_order.Given as goal

-- the ledger of the blank
abbrev pub ghosts-inserted : goal.ghosts-inserted
ghosts-inserted g a = record { name = a.blank.name; parts = a.blank.parts }
