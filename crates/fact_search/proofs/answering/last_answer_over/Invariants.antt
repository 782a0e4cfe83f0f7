use Rattle.fact_search.proofs.answering.last_answer_over.Given as goal

-- the ledger of the blank
abbrev pub ghosts-index_of : goal.ghosts-index_of
ghosts-index_of g a = record { name = a.blank.name; parts = a.blank.parts }
