use Rattle.index_tests.proofs.index.an_index_answers_in_time.Given as goal

-- the blanks' own ledgers
abbrev pub ghosts-is_unknown : goal.ghosts-is_unknown
ghosts-is_unknown g a = record { name = a.blank.name; parts = a.blank.parts }

abbrev pub ghosts-answers_in_time : goal.ghosts-answers_in_time
ghosts-answers_in_time g a = record { name = a.blank.name; parts = a.blank.parts }
