use Rattle.share_server.proofs.serving.serve_opened.Given as goal

-- the ledger of the blank
abbrev pub ghosts-serve_shelf : goal.ghosts-serve_shelf
ghosts-serve_shelf g a = record { name = a.blank.name; parts = a.blank.parts }
