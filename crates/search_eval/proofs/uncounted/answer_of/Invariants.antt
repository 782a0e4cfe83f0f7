use Rattle.search_eval.proofs.uncounted.answer_of.Given as goal

-- the ledger of the blank
abbrev pub ghosts-counted : goal.ghosts-counted
ghosts-counted g a = record { name = a.blank.name; parts = a.blank.parts }
